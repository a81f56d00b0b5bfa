use Rattle.std.proofs.Common.{◌∙◌, sym}
use Rattle.hickory_proto_names.proofs.NameRuns.{plain_front}
use Rattle.hickory_proto_names.proofs.name_text.run_len.Goals as goal

pub returns-in-len1-up-clause-plain : goal.returns-in-len1-up-clause-plain
returns-in-len1-up-clause-plain c =
    plain_front c.args.first c.args.text.now c.plain_len.result c.in-len1-up.len_at_least (sym c.is_plain.ensures ∙ c.if-is_plain.true) c.plain_len.ensures.plain
