use Rattle.std.proofs.Common.{◌∙◌, ◌-◌, ap, drop, length, refl, sym, take, arith}
use Rattle.synthesis.specs.TypeBits.{has_type_in}
use Rattle.synthesis.proofs.Steps.{WindowAt, behind, few_bits, no_window_at, other_window, short_window, this_window}
use Rattle.synthesis.proofs.type_bits.+has_type_in.Goals as goal

pub returns-then-windows-eq0 : goal.returns-then-windows-eq0
returns-then-windows-eq0 t c = sym (no_window_at c.args.windows c.args.code c.args.bits.now c.if-windows-eq0.true)

pub returns-in_default : goal.returns-in_default
returns-in_default t c = sym (few_bits c.args.windows c.args.code c.args.bits.now (omega (arith, c.in_default.len_below)))

pub returns-then-rest-count : goal.returns-then-rest-count
returns-then-rest-count t c =
    let bits = c.args.bits.now in let rest = take (length bits - 2) (drop 2 bits) in
    let w : WindowAt c.args.windows bits _ c.from-count.result rest
    = record { some = omega arith; two = c.in-len2-up.len_at_least; window_is = refl; count_is = c.from-count.ensures; rest_is = behind 2 bits } in
    sym (short_window c.args.windows c.args.code bits _ c.from-count.result rest w c.if-rest-count.true)

pub returns-then-from-code : goal.returns-then-from-code
returns-then-from-code t c =
    let bits = c.args.bits.now in let rest = take (length bits - 2) (drop 2 bits) in
    let w : WindowAt c.args.windows bits c.from.result c.from-count.result rest
    = record { some = omega arith; two = c.in-len2-up.len_at_least; window_is = c.from.ensures; count_is = c.from-count.ensures; rest_is = behind 2 bits } in
    c.has_bit.ensures
    ∙ sym (this_window c.args.windows c.args.code bits c.from.result c.from-count.result rest w (omega arith) c.if-from-code.true)

pub returns : goal.returns
returns t c =
    let bits = c.args.bits.now in let rest = take (length bits - 2) (drop 2 bits) in
    let w : WindowAt c.args.windows bits c.from.result c.from-count.result rest
    = record { some = omega arith; two = c.in-len2-up.len_at_least; window_is = c.from.ensures; count_is = c.from-count.ensures; rest_is = behind 2 bits } in
    c.has_type_in.ensures ∙ ap (has_type_in (c.args.windows - 1) c.args.code) (behind c.from-count.result rest)
    ∙ sym (other_window c.args.windows c.args.code bits c.from.result c.from-count.result rest w (omega arith) c.if-from-code.false)
