use Rattle.std.proofs.Common.{◌≡◌, [], true, arith, rules}
use Rattle.std.proofs.lemmas.Grind.{common_steps}
use Rattle.std.proofs.lemmas.Bool.Decides.{nat_tests}
use Rattle.replay_script.proofs.FieldLists.{IsCut, is_filled, fields-none, fields-some}
use Rattle.replay_script.proofs.fields.FieldsIterator.next.Goals as goal

pub returns-then-is_empty-clause-steps : goal.returns-then-is_empty-clause-steps
returns-then-is_empty-clause-steps c =
    let cut : IsCut c.args.self.now.rest.now c.without_blanks.result.now c.split_field.result.0.now c.split_field.result.1.now =
    record { text_is = c.without_blanks.ensures; field_is = c.split_field.ensures.field; rest_is = c.split_field.ensures.rest } in
    let none : c.split_field.result.0.now ≡ [] = grind (arith, nat_tests, common_steps) in
    fields-none _ _ _ _ cut none

pub returns-else-is_empty-clause-steps : goal.returns-else-is_empty-clause-steps
returns-else-is_empty-clause-steps c =
    let cut : IsCut c.args.self.now.rest.now c.without_blanks.result.now c.split_field.result.0.now c.split_field.result.1.now =
    record { text_is = c.without_blanks.ensures; field_is = c.split_field.ensures.field; rest_is = c.split_field.ensures.rest } in
    let some : is_filled c.split_field.result.0.now ≡ true = grind (arith, nat_tests, common_steps) in
    fields-some _ _ _ _ cut some

pub returns-else-is_empty-clause-goes : goal.returns-else-is_empty-clause-goes
returns-else-is_empty-clause-goes c =
    let cut : IsCut c.args.self.now.rest.now c.without_blanks.result.now c.split_field.result.0.now c.split_field.result.1.now =
    record { text_is = c.without_blanks.ensures; field_is = c.split_field.ensures.field; rest_is = c.split_field.ensures.rest } in
    let some : is_filled c.split_field.result.0.now ≡ true = grind (arith, nat_tests, common_steps) in
    let next = fields-some c.args.self.now.rest.now _ _ c.split_field.result.1.now cut some in
    search rules
