-- What C owns of a forwarder that is there or not.
use base.Fml.{Fml, ftrue}
use base.Stored.{Coded}
use denote.RawPtr.{Ptr}
use Rattle.std.specs.Prelude.{Option, None, Some}
use Rattle.std.specs.Coded.{coded_option}
use Rattle.std.specs.Box.Ownership.{box_owns}
use Rattle.std.specs.Global.{Global}
use Rattle.std.specs.contracts.impls.GlobalAllocator.TheImpl.{ghosts}
use Rattle.yimarotu_driven_forwarder.specs.contracts.driven_forwarder.DrivenForwarder.{the_row}

abbrev pub Kept : Type 0
Kept = the_row.Denot

abbrev pub kept_coded : Coded (Option Kept)
kept_coded = coded_option the_row.coded

abbrev pub inside_owns : Global → Ptr → Option Kept → Fml
inside_owns alloc p None = ftrue
inside_owns alloc p (Some x) = box_owns (ghosts.dealloc_token alloc) the_row p x
