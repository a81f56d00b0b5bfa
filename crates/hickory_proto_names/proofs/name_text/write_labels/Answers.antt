use Rattle.std.proofs.Common.{rules}
use Rattle.std.proofs.Output.{has_written_append, has_written_of_eq}
use Rattle.hickory_proto_names.proofs.NamePrinting.{labels_text-more}
use Rattle.hickory_proto_names.proofs.name_text.write_labels.Goals as goal

pub loop-label-preserved : goal.loop-label-preserved
loop-label-preserved g c = λ plain.
    let so_far = c.loop-label.invariant plain in
    let dot = c.in_ok-write_str.ensures.writes so_far.plain (search rules) in
    let label = c.in_ok-write_label-2.ensures dot.plain (search rules) in
    let bytes = c.deref-in-loop-label in
    let more = labels_text-more c.args.labels.now c.loop-label.label-index c.label-item.result bytes.result.now in
    let text = more c.loop-label-test.true c.label-item.is bytes.ensures.value in
    has_written_of_eq _ _ _ _ _ text (has_written_append _ _ _ _ _ _ so_far (has_written_append _ _ _ _ _ _ dot label))
