-- The first slot has an entry, or those behind it do.
use Rattle.std.proofs.Common.{sym}
use Rattle.second_chance_cache.proofs.Going.{live-there}
use Rattle.second_chance_cache.proofs.clock.Clock.first_entry.Goals as goal

pub returns-in-Some : goal.returns-in-Some
returns-in-Some g c = sym (live-there c.args.self.now.slots.items 0 c.in-Some.kept.now (sym c.in-Some.ensures))
