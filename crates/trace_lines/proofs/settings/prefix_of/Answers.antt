use Rattle.std.proofs.Common.{◌∙◌, ap, option_and_then, subst}
use Rattle.trace_lines.specs.Settings.{IsPrefixBy, octets_of_bits, prefix_with}
use Rattle.trace_lines.proofs.settings.prefix_of.Goals as goal

pub returns : goal.returns
returns c =
    subst (λ parts. IsPrefixBy parts c.prefix_with.result) c.in_ok-address.ensures (
      c.read_address.result,
      c.read_address.ensures,
      c.prefix_with.ensures ∙ ap (prefix_with c.read_address.result)
          (c.octets_of_bits.ensures ∙ ap (option_and_then octets_of_bits) c.read_decimal.ensures),
    )
