use Rattle.std.proofs.Common.{◌∙◌, sym}
use Rattle.hickory_resolver_cache.proofs.Laws.{light-told}
use Rattle.hickory_resolver_cache.proofs.response_cache.ResponseCache.insert_entry.Goals as goal

pub insert_light-requires-clause-light : goal.insert_light-requires-clause-light
insert_light-requires-clause-light g c =
    light-told c.args.self.now.octets c.args.weight c.args.entry c.requires.weight (sym c.is_heavy.ensures ∙ c.if-is_heavy.false)
