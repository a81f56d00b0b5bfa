-- The text of a number below 256 has a digit first, which is 0 only where it is alone, and `parse` reads it back.
use Rattle.std.proofs.Common.{◌≡◌, ◌≤◌, ℕ, List, length, get_or, ◌∙◌, arith, subst}
use Rattle.std.specs.Str.Parse.{ParsesUnsigned}
use Rattle.hickory_proto_names.proofs.ArpaLabels.{not_empty, no_plus, no_zero, is_text, octet_found, octet_none}
use Rattle.hickory_proto_names.proofs.arpa.read_octet.Goals as goal

pub returns-in_default-clause-none : goal.returns-in_default-clause-none
returns-in_default-clause-none c = λ n small. not_empty c.args.label.now n small (omega (arith, c.in_default.ensures.item))

pub returns-then-first-eq43-clause-none : goal.returns-then-first-eq43-clause-none
returns-then-first-eq43-clause-none c = λ n small. no_plus c.args.label.now n small (omega (arith, c.in-Some.ensures.item.3.1 0))

pub returns-then-label-gt1-clause-none : goal.returns-then-label-gt1-clause-none
returns-then-label-gt1-clause-none c = λ n small. no_zero c.args.label.now n small (omega (arith, c.in-Some.ensures.item.3.1 0)) (omega arith)

pub returns-in_default-from_utf8-clause-none : goal.returns-in_default-from_utf8-clause-none
returns-in_default-from_utf8-clause-none c = λ n small. is_text c.args.label.now n small c.in_default-from_utf8.ensures.cases.0

pub returns-clause-found : goal.returns-clause-found
returns-clause-found c =
    let label = c.args.label.now in
    let first = c.in-Some.ensures.item.3.1 0 in
    let P : List ℕ → Type 0 = λ t. ParsesUnsigned 8 10 t c.parse.result in
    let parsed = subst P c.in-Ok.ensures.cases.0 c.parse.ensures.value.0 in
    let alone : get_or label 0 0 ≡ 48 → length label ≤ 1 = λ zero_first. omega (arith, c.else-first-eq48.either) in
    let found = octet_found label c.parse.result parsed c.in-Some.ensures.item.3.0 (λ plus. c.if-first-eq43.false (first ∙ plus)) alone in
    rw c.ok.ensures.value found

pub returns-clause-none : goal.returns-clause-none
returns-clause-none c =
    let P : List ℕ → Type 0 = λ t. ParsesUnsigned 8 10 t c.parse.result in
    let parsed = subst P c.in-Ok.ensures.cases.0 c.parse.ensures.value.0 in
    rw c.ok.ensures.value (octet_none c.args.label.now c.parse.result parsed)
