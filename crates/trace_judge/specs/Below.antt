-- Tests of the numbers below another.
use Rattle.std.specs.Prelude.{ℕ, zero, suc, Bool, false, ◌||◌}

-- a number below this one passes the test
abbrev pub some_below : ℕ → (ℕ → Bool) → Bool
some_below zero test = false
some_below (suc n) test = test n || some_below n test
