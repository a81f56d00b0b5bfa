use Rattle.std.proofs.Common.{ap, sym, subst, ◌∙◌}
use Rattle.std.specs.Str.{chars, IsUtf8}
use Rattle.std.specs.Str.Iter.{split_whitespace_rest}
use Rattle.hickory_resolver_hosts.specs.Text.{words}
use Rattle.hickory_resolver_hosts.proofs.FieldTexts.{split_end, split_turn}
use Rattle.hickory_resolver_hosts.proofs.LinesRead.{line_empty, line_of_names, line_without, none_left}
use Rattle.hickory_resolver_hosts.proofs.lines.insert_line.Goals as goal

pub returns-in_default-next : goal.returns-in_default-next
returns-in_default-next g c =
    let fields = c.split_whitespace-fields.result in
    let text = subst IsUtf8 (sym c.split_whitespace-fields.ensures.rest) c.in-Some.ensures.1 in
    let is = ap words (sym c.in-Some.ensures.2) ∙ ap (λ r. words (chars r)) (sym c.split_whitespace-fields.ensures.rest) in
    line_empty c.args.now c.args.line.now c.args.hosts.now c.in-Some.ensures.0 (is ∙ none_left _ (split_end (split_whitespace_rest fields) text c.in_default-next.ensures.steps.1))

pub insert_names-requires : goal.insert_names-requires
insert_names-requires g c =
    let fields = c.split_whitespace-fields.result in
    let text = subst IsUtf8 (sym c.split_whitespace-fields.ensures.rest) c.in-Some.ensures.1 in
    (split_turn (split_whitespace_rest fields) c.in-Some-next.first.now (split_whitespace_rest c.next.new.self) text c.in-Some-next.ensures.steps).0

pub returns-in-Some-address_of : goal.returns-in-Some-address_of
returns-in-Some-address_of g c =
    let fields = c.split_whitespace-fields.result in
    let text = subst IsUtf8 (sym c.split_whitespace-fields.ensures.rest) c.in-Some.ensures.1 in
    let is = ap words (sym c.in-Some.ensures.2) ∙ ap (λ r. words (chars r)) (sym c.split_whitespace-fields.ensures.rest) in
    let turn = split_turn (split_whitespace_rest fields) c.in-Some-next.first.now (split_whitespace_rest c.next.new.self) text c.in-Some-next.ensures.steps in
    line_of_names c.args.now c.args.line.now (chars c.in-Some-next.first.now) (words (chars (split_whitespace_rest c.next.new.self))) _ c.args.hosts.now c.insert_names.new.hosts c.insert_names.result
    c.in-Some.ensures.0 (is ∙ turn.1) c.in-Some-address_of.ensures c.insert_names.ensures

pub returns-in-None : goal.returns-in-None
returns-in-None g c =
    let fields = c.split_whitespace-fields.result in
    let text = subst IsUtf8 (sym c.split_whitespace-fields.ensures.rest) c.in-Some.ensures.1 in
    let is = ap words (sym c.in-Some.ensures.2) ∙ ap (λ r. words (chars r)) (sym c.split_whitespace-fields.ensures.rest) in
    let turn = split_turn (split_whitespace_rest fields) c.in-Some-next.first.now (split_whitespace_rest c.next.new.self) text c.in-Some-next.ensures.steps in
    line_without c.args.now c.args.line.now (chars c.in-Some-next.first.now) (words (chars (split_whitespace_rest c.next.new.self))) c.args.hosts.now c.in-Some.ensures.0 (is ∙ turn.1) c.in-None.ensures
