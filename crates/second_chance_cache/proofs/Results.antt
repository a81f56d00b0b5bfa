-- What is said where a call succeeds.
use Rattle.std.specs.Prelude.{Result, Ok, Err, OnOk, IsOk}

pub on_ok : {A E P : Type 0} → (result : Result A E) → IsOk result → OnOk result P → P
on_ok (Ok value) is h = h
on_ok (Err error) is h = absurd cc
