-- A forwarder, its parts and what C holds of it own what a box at the same types owns.
use Rattle.std.proofs.Common.{◌≡◌, [], refl, sym}
use Rattle.std.specs.Prelude.{Option, None, Some, IsSome}
use mathlib.Core.Bool.{Bool, true, false, true≢false, ◌&&◌}
use lib.Dec.{T}
use mir.Syntax.{impl, tnil, dnil}
use denote.Signature.{Slot, plain}
use Rattle.std.proofs.BoxSteps.Form.{Bx}
use Rattle.std.specs.contracts.alloc.Global as heap
use Rattle.std.specs.contracts.impls.GlobalAllocator.TheImpl.{ghosts, dict}
use Rattle.std.proofs.alloc.Global.TheLaws as heap_laws
use Rattle.yimarotu_driven_forwarder.specs.contracts.driven_forwarder.DrivenForwarder as driven
use Rattle.yimarotu_driven_forwarder.proofs.driven_forwarder.DrivenForwarder.TheLaws as driven_laws
use Rattle.yimarotu_forwarder_c.specs.contracts.parts.Parts as parts
use Rattle.yimarotu_forwarder_c.specs.contracts.inside.Inside as inside

abbrev pub E : Bx
E = record {
  row = driven.the_row;
  laws = driven_laws.the_row_laws;
  al = record { row = heap.the_row; laws = heap_laws.the_row_laws; g = ghosts; d = dict; drops = impl [] tnil dnil };
}

abbrev pub PartsHere : Slot 0
PartsHere = plain (λ _. parts.the_row driven.the_row heap.the_row ghosts)

abbrev pub InsideHere : Slot 0
InsideHere = plain (λ _. inside.the_row)

-- what there is where there is something
pub some_of : {A : Type 0} (o : Option A) → IsSome o → (x : A) × (o ≡ Some x)
some_of None e = absurd (true≢false (sym e))
some_of (Some x) e = (x, refl)

pub and_true : (b : Bool) → T b → T (b && true)
and_true true holds = tt
and_true false holds = absurd holds
