-- Where a group of servers is asked, nothing is told.
use Rattle.std.proofs.Common.{◌≡◌, ℕ, refl}
use Rattle.std.specs.Prelude.{Option, None, Some}
use Rattle.std.specs.Option.{option_map_or}
use Rattle.whole_replies.specs.Kept.{KeptValue}
use Rattle.local_answers.specs.declared.local_data.Decision.{Decision}
use Rattle.local_answers.specs.declared.local_data.Decision.TheVariants as decision

pub nothing_told : (told : Option KeptValue) (otherwise : Decision) (group : ℕ)
    → option_map_or decision.Answer told otherwise ≡ decision.Ask group → told ≡ None
nothing_told None otherwise group is = refl
nothing_told (Some kept) otherwise group is = absurd cc
