-- The suffix at a place tells, or those behind it.
use Rattle.std.proofs.Common.{◌∙◌, ℕ, sym, ap, drop}
use Rattle.std.specs.List.{list_any}
use Rattle.hickory_proto_core.specs.Name.{label_bytes}
use Rattle.domain_table.specs.Names.{suffixes}
use Rattle.yimarotu_forwarder.specs.Flushing.{is_name}
use Rattle.yimarotu_forwarder.proofs.Below.{below_here, below_next}
use Rattle.yimarotu_forwarder.proofs.flushing.is_at_or_below.Goals as goal

pub loop-place-preserved : goal.loop-place-preserved
loop-place-preserved c =
    let test = is_name (label_bytes c.args.labels.now) in
    let octets = c.args.octets.now in
    ap (λ (n : ℕ). list_any test (suffixes (drop n octets))) c.next_place-place.ensures
    ∙ below_next test octets c.loop-place.place c.loop-place-test.true
    (ap test (sym c.behind.ensures) ∙ sym c.is_name.ensures ∙ c.if-is_name.false)
    ∙ c.loop-place.invariant

pub returns-then-is_name : goal.returns-then-is_name
returns-then-is_name c =
    let test = is_name (label_bytes c.args.labels.now) in
    let octets = c.args.octets.now in
    sym (below_here test octets c.loop-place.place c.loop-place-test.true
    (ap test (sym c.behind.ensures) ∙ sym c.is_name.ensures ∙ c.if-is_name.true))
    ∙ c.loop-place.invariant
