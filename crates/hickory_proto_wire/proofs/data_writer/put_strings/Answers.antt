use Rattle.std.proofs.Common.{ℕ, List, ◌++◌, take, sym, ap, ◌∙◌, append_assoc}
use Rattle.hickory_proto_names.specs.Name.{label_bytes}
use Rattle.hickory_proto_wire.specs.Writing.{counted, run_of}
use Rattle.hickory_proto_wire.proofs.Runs.{run_more}
use Rattle.hickory_proto_wire.proofs.Strings.{string_short}
use Rattle.hickory_proto_wire.proofs.data_writer.put_strings.Goals as goal

pub put_string-requires : goal.put_string-requires
put_string-requires c =
    rw c.deref.ensures.value
    (string_short c.args.strings.now c.loop-i.i c.index-strings-i.result c.requires c.loop-i-test.true c.index-strings-i.is)

pub loop-i-preserved : goal.loop-i-preserved
loop-i-preserved c =
    let before = run_of (take c.loop-i.i (label_bytes c.args.strings.now)) in
    let more =
    run_more c.args.strings.now c.loop-i.i c.index-strings-i.result c.loop-i-test.true c.index-strings-i.is in
    c.in_ok-put_string.ensures
    ∙ ap (λ (x : List ℕ). x ++ counted c.deref.result.now) c.loop-i.invariant
    ∙ append_assoc c.args.out.now.items before (counted c.deref.result.now)
    ∙ ap (λ (x : List ℕ). c.args.out.now.items ++ (before ++ counted x)) c.deref.ensures.value
    ∙ ap (λ (x : List ℕ). c.args.out.now.items ++ x) (sym more)
