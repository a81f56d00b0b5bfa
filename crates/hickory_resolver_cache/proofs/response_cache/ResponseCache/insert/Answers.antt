use Rattle.std.proofs.Common.{◌∙◌}
use Rattle.std.proofs.lemmas.Result.{on_ok_weaker}
use Rattle.hickory_resolver_cache.proofs.Laws.{newest-last, store_until-last}
use Rattle.hickory_resolver_cache.proofs.response_cache.ResponseCache.insert.Goals as goal

pub returns-clause-ok : goal.returns-clause-ok
returns-clause-ok g c =
    on_ok_weaker c.insert_until.result
    (λ stored. stored ∙ store_until-last c.args.self.now c.args.query c.args.outcome c.args.now)
    c.insert_until.ensures.ok

pub returns-clause-newest : goal.returns-clause-newest
returns-clause-newest g c =
    let old = c.args.self.now in
    on_ok_weaker c.insert_until.result
    (λ newest pos. newest-last old.octets old.config c.args.query c.args.outcome c.args.now c.insert_until.new.self.entries (newest pos))
    c.insert_until.ensures.newest
