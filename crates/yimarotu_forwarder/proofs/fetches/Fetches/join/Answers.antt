-- A fetch that is written back as it was leaves the fetches as they were.
use Rattle.std.proofs.Common.{◌≡◌, sym}
use Rattle.yimarotu_forwarder.specs.FetchTables.{fetches_of}
use Rattle.yimarotu_forwarder.proofs.Refused.{if_refused, put_back}
use Rattle.yimarotu_forwarder.proofs.fetches.Fetches.join.Goals as goal

-- src/fetches.rt
pub returns-in-Some-clause-err : goal.returns-in-Some-clause-err
returns-in-Some-clause-err c =
    if_refused c.push.result (λ (same : c.push.new.self ≡ c.in-Some.fetch.now).
    put_back c.args.key.now (fetches_of c.args.self.now) _ c.in-Some.fetch.now c.push.new.self
    ((c.get_mut.follows.holds c.push.new.self).0) same (sym c.in-Some.ensures.value))
    c.push.ensures.err
