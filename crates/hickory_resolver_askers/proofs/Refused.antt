-- What follows where a call was refused.
use Rattle.std.specs.Prelude.{Result, Ok, Err, OnErr}

pub if_refused : {A E P Q : Type 0} → (result : Result A E) → (P → Q) → OnErr result P → OnErr result Q
if_refused (Ok value) f h = h
if_refused (Err error) f h = f h
