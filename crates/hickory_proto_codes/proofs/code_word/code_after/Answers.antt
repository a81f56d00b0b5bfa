use Rattle.std.proofs.Common.{◌∙◌}
use Rattle.hickory_proto_codes.specs.DecimalLaws.{code_after-stripped, code_after-other}
use Rattle.hickory_proto_codes.proofs.code_word.code_after.Goals as goal

pub returns-in_err-strip_prefix : goal.returns-in_err-strip_prefix
returns-in_err-strip_prefix c =
    c.from_residual.ensures ∙ code_after-other c.args.word.now c.args.text.now c.in_err-strip_prefix.ensures.cases

pub returns : goal.returns
returns c =
    c.decimal_code.ensures
    ∙ code_after-stripped c.args.word.now c.args.text.now c.in_ok-strip_prefix.field-0.now c.in_ok-strip_prefix.ensures.cases
