use Rattle.std.proofs.Common.{◌∙◌, sym, lit<}
use Rattle.std.proofs.lemmas.Str.Pattern.{starts_char}
use Rattle.std.proofs.lemmas.Str.Parse.{parse_plain}
use Rattle.hickory_proto_codes.specs.DecimalLaws.{decimals, decimal_below-read, decimal_below-plus}
use Rattle.hickory_proto_codes.proofs.decimal.read_decimal.Goals as goal

pub returns-then-starts_with : goal.returns-then-starts_with
returns-then-starts_with c =
    let signed = starts_char 43 c.args.digits.now _ c.starts_with.ensures.cases (lit< tt) (lit< tt) in
    sym (decimal_below-plus _ c.args.digits.now (signed.0 c.if-starts_with.true))

pub returns : goal.returns
returns c =
    let signed = starts_char 43 c.args.digits.now _ c.starts_with.ensures.cases (lit< tt) (lit< tt) in
    c.ok.ensures.value
    ∙ decimal_below-read _ c.args.digits.now _
    (parse_plain decimals 64 c.args.digits.now _ c.parse.ensures.value.0 (λ plus. let yes = signed.1 plus in let no = c.if-starts_with.false in cc))
