use Rattle.std.proofs.Common.{List, ℕ, ◌++◌, ◌+◌, [], drop, sym, ap, ◌∙◌, append_assoc}
use Rattle.hickory_proto_core.specs.Name.{label_bytes}
use Rattle.hickory_proto_wire.specs.Writing.{counted}
use Rattle.hickory_proto_wire.specs.Written.{name_octets}
use Rattle.hickory_proto_wire.proofs.Runs.{short_at}
use Rattle.hickory_proto_wire.proofs.Same.{labels_first, labels_end}
use Rattle.hickory_resolver_tries.proofs.try_message.labels_octets.Goals as goal

pub put_label-requires : goal.put_label-requires
put_label-requires c =
    rw c.deref.ensures.value
    (short_at c.args.labels.now c.loop-i.i c.index-labels-i.result c.requires c.loop-i-test.true c.index-labels-i.is)

pub loop-i-preserved : goal.loop-i-preserved
loop-i-preserved c =
    let more = drop (c.loop-i.i + 1) (label_bytes c.args.labels.now) in
    let label = c.index-labels-i.result.items in
    let out = c.loop-i.out.items in
    let next = ap (name_octets []) (labels_first c.args.labels.now c.loop-i.i c.index-labels-i.result c.loop-i-test.true c.index-labels-i.is) in
    ap (λ (o : List ℕ). o ++ name_octets [] more)
    (c.in_ok-put_label.ensures ∙ ap (λ (x : List ℕ). out ++ counted x) c.deref.ensures.value)
    ∙ append_assoc out (counted label) (name_octets [] more)
    ∙ ap (λ (x : List ℕ). out ++ x) (sym next) ∙ c.loop-i.invariant

pub returns : goal.returns
returns c =
    let end = labels_end c.args.labels.now c.loop-i.i c.loop-i-test.false in
    c.in_ok-push.ensures.items ∙ ap (λ (ls : List (List ℕ)). c.loop-i.out.items ++ name_octets [] ls) (sym end)
    ∙ c.loop-i.invariant
