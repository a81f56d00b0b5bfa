use Rattle.std.proofs.Common.{◌≡◌, ◌++◌, ◌+◌, ◌*◌, ◌≤◌, Some, length, sym, ◌∙◌, arith}
use Rattle.std.specs.Prelude.{slice_get}
use Rattle.hickory_resolver_tries.proofs.Cutting.{ends_before, ends_there}
use Rattle.hickory_resolver_tries.proofs.message_stream.wanted.Goals as goal

pub returns-else-piece-wanted : goal.returns-else-piece-wanted
returns-else-piece-wanted c =
    let held = c.args.held.now in
    let piece = c.args.piece.now in
    let high : slice_get (held ++ piece) 0 ≡ Some c.in_ok-high.high = sym c.octet_at.ensures ∙ c.in_ok-high.was in
    let low : slice_get (held ++ piece) 1 ≡ Some c.in_ok-low.low = sym c.octet_at-2.ensures ∙ c.in_ok-low.was in
    let before = ends_before held piece c.in_ok-high.high c.in_ok-low.low c.requires high low in
    let total : length held + c.saturating_sub-wanted.result ≡ c.in_ok-high.high * 256 + c.in_ok-low.low + 2 = omega arith in
    let room : c.saturating_sub-wanted.result ≤ length piece = omega arith in
    (room, omega arith, ends_there held piece c.in_ok-high.high c.in_ok-low.low c.saturating_sub-wanted.result high low total room)
