use Rattle.std.proofs.Common.{arith, sym, ◌∙◌}
use Rattle.std.proofs.lemmas.Str.{IsUtf8-from_ascii}
use Rattle.hickory_proto_names.proofs.NamePrinting.{label_ascii, printed_plain}
use Rattle.hickory_proto_names.proofs.name_text.plain_text.Goals as goal

pub from_utf8_unchecked-requires : goal.from_utf8_unchecked-requires
from_utf8_unchecked-requires c =
    let first = sym c.is_plain.ensures ∙ c.if-is_plain.true in
    let later = sym c.are_plain.ensures ∙ c.if-are_plain.true in
    IsUtf8-from_ascii _ (label_ascii c.args.label.now (omega arith) first later)

pub returns-in-len1-up : goal.returns-in-len1-up
returns-in-len1-up c =
    let first = sym c.is_plain.ensures ∙ c.if-is_plain.true in
    let later = sym c.are_plain.ensures ∙ c.if-are_plain.true in
    rw (← printed_plain c.args.label.now (omega arith) first later) c.from_utf8_unchecked.ensures
