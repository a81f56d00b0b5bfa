-- Sections that follow one another are read one behind the other.
use Rattle.std.proofs.Common.{◌≡◌, ℕ, suc, ◌+◌, List, [], ◌∷◌, length, Result, Ok, refl, sym, ap, ◌∙◌, length-append, arith}
use Rattle.std.proofs.lemmas.List.{append-nil}
use Rattle.hickory_proto_wire.specs.declared.wire_error.WireFault.{WireFault}
use Rattle.hickory_proto_wire.specs.Records.{repeat_at}
use Rattle.hickory_proto_wire.specs.Writing.{Adds, Follows}
use Rattle.hickory_proto_wire.proofs.Stands.{begins_more, begins_stands}
use Rattle.hickory_proto_wire.proofs.Adds.{Reader}

-- what was added behind all that was known follows it
pub follows : {A : Type 0} (read : Reader A) (old new : List ℕ) (x : A) → Adds read old old new x → Follows read old new x
follows read old new x a =
    let len : length new ≡ length old + length a.0 = ap length a.1 ∙ length-append old a.0 in (
      a.0,
      a.1,
      λ bytes b.
          a.2 bytes (length old) (begins_more old new a.0 bytes a.1 b) (omega arith) (begins_stands old new a.0 bytes a.1 b)
          ∙ ap (λ (n : ℕ). Ok (x, n)) (sym len),
    )

-- a value, and the others with one more
pub one_before : {A : Type 0} (read : ℕ → Result (A × ℕ) WireFault) (count all at : ℕ) (first : A × ℕ) (rest : List A) (after : ℕ)
    → all ≡ suc count → read at ≡ Ok first → repeat_at read count first.1 ≡ Ok (rest, after)
    → repeat_at read all at ≡ Ok (first.0 ∷ rest, after)
unfolding repeat_at
one_before read count all at first rest after k one more = rw (k, one, more) refl

pub follows_none : {A : Type 0} (read : Reader A) (o : List ℕ) → Follows (λ bytes at. repeat_at (read bytes) 0 at) o o []
unfolding repeat_at
follows_none read o = ([], sym (append-nil o), λ bytes begins. refl)
