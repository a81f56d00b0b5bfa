use Rattle.std.proofs.Common.{◌∙◌, ap, sym}
use Rattle.std.specs.Option.{option_copied}
use Rattle.hickory_resolver_cache.proofs.Store.{turn-found}
use Rattle.hickory_resolver_cache.proofs.turns.turn_of.Goals as goal

pub returns-in-Some-clause-found : goal.returns-in-Some-clause-found
returns-in-Some-clause-found g c =
    turn-found c.args.query.now c.args.index.now.entries c.in-Some.kept.now c.requires.numbers (sym c.get.ensures.value ∙ ap option_copied c.in-Some.is)
