use Rattle.std.proofs.Common.{◌≡◌, ◌∙◌, Bool, length, sym, arith}
use Rattle.std.specs.Prelude.{None}
use Rattle.std.specs.List.{list_all}
use Rattle.std.specs.Option.{option_map}
use Rattle.std.proofs.lemmas.Bool.{ne_eqb}
use Rattle.whole_lookups.specs.Denied.{is_kept_address}
use Rattle.whole_lookups.specs.Hints.{hints_from}
use Rattle.whole_lookups.proofs.Hinted.{no-hints, no-more-parameters, no-more-steps, no-value, one-parameter}
use Rattle.whole_lookups.proofs.hints.parameters_stay.Goals as goal

pub returns-then-at-octets : goal.returns-then-at-octets
returns-then-at-octets c =
    let p = is_kept_address c.args.allow.now c.args.deny.now in
    let octets = c.args.octets.now in
    sym
    (no-more-parameters p octets (length octets) (option_map (list_all p) (hints_from (length octets) octets c.args.at))
    c.loop.counter c.loop.at c.loop.stay (omega arith) c.if-at-octets.true c.loop.invariant)

pub returns-in_err-end : goal.returns-in_err-end
returns-in_err-end c =
    let p = is_kept_address c.args.allow.now c.args.deny.now in
    let octets = c.args.octets.now in
    c.from_residual.ensures
    ∙ sym
    (no-value p octets (length octets) (option_map (list_all p) (hints_from (length octets) octets c.args.at))
    c.loop.counter c.loop.at c.loop.stay (omega arith) (ne_eqb c.loop.at (length octets) c.if-at-octets.false)
    (sym c.in_err-end.ensures.end) c.loop.invariant)

pub returns-in_err-these : goal.returns-in_err-these
returns-in_err-these c =
    let p = is_kept_address c.args.allow.now c.args.deny.now in
    let octets = c.args.octets.now in
    c.from_residual-in_err-these.ensures
    ∙ sym
    (no-hints p octets (length octets) (option_map (list_all p) (hints_from (length octets) octets c.args.at))
    c.loop.counter c.loop.at c.in_ok-end.end c.loop.stay (omega arith)
    (ne_eqb c.loop.at (length octets) c.if-at-octets.false) (sym c.in_ok-end.ensures.end) c.in_err-these.ensures
    c.loop.invariant)

pub loop-preserved : goal.loop-preserved
loop-preserved c =
    let p = is_kept_address c.args.allow.now c.args.deny.now in
    let octets = c.args.octets.now in
    rw c.both-stay.ensures
    (one-parameter p octets (length octets) (option_map (list_all p) (hints_from (length octets) octets c.args.at))
    c.loop.counter c.loop.at c.in_ok-end.end c.loop.stay c.in_ok-these.these (omega arith)
    (ne_eqb c.loop.at (length octets) c.if-at-octets.false) (sym c.in_ok-end.ensures.end) c.in_ok-these.ensures
    c.loop.invariant)

pub returns : goal.returns
returns c =
    let p = is_kept_address c.args.allow.now c.args.deny.now in
    let octets = c.args.octets.now in
    sym
    (no-more-steps p octets (length octets) (option_map (list_all p) (hints_from (length octets) octets c.args.at))
    c.loop.counter c.loop.at c.loop.stay (omega arith) c.loop.invariant)
