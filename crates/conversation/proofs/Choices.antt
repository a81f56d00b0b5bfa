-- What holds of either value of a choice, at the one that it has.
use Rattle.std.proofs.Common.{◌≡◌, Bool, true, false, MatchBool}

pub match_true : (b : Bool) (P Q : Type 0) → b ≡ true → P → MatchBool b P Q
match_true true P Q e p = p
match_true false P Q e p = absurd (let h = e in cc)

pub match_false : (b : Bool) (P Q : Type 0) → b ≡ false → Q → MatchBool b P Q
match_false true P Q e q = absurd (let h = e in cc)
match_false false P Q e q = q
