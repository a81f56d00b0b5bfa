use Rattle.std.proofs.Common.{◌≡◌, [], true, arith, rules}
use Rattle.std.proofs.lemmas.Grind.{common_steps}
use Rattle.std.proofs.lemmas.Bool.Decides.{nat_tests}
use Rattle.resolv_conf.proofs.WordLists.{IsCut, is_filled, words-none, words-some}
use Rattle.resolv_conf.proofs.text.WordsIterator.next.Goals as goal

pub returns-then-is_empty-clause-steps : goal.returns-then-is_empty-clause-steps
returns-then-is_empty-clause-steps c =
    let cut : IsCut c.args.self.now.rest.now c.without_blanks.result.now c.split_word.result.0.now c.split_word.result.1.now =
    record { text_is = c.without_blanks.ensures; word_is = c.split_word.ensures.word; rest_is = c.split_word.ensures.rest } in
    let none : c.split_word.result.0.now ≡ [] = grind (arith, nat_tests, common_steps) in
    words-none _ _ _ _ cut none

pub returns-else-is_empty-clause-steps : goal.returns-else-is_empty-clause-steps
returns-else-is_empty-clause-steps c =
    let cut : IsCut c.args.self.now.rest.now c.without_blanks.result.now c.split_word.result.0.now c.split_word.result.1.now =
    record { text_is = c.without_blanks.ensures; word_is = c.split_word.ensures.word; rest_is = c.split_word.ensures.rest } in
    let some : is_filled c.split_word.result.0.now ≡ true = grind (arith, nat_tests, common_steps) in
    words-some _ _ _ _ cut some

pub returns-else-is_empty-clause-goes : goal.returns-else-is_empty-clause-goes
returns-else-is_empty-clause-goes c =
    let cut : IsCut c.args.self.now.rest.now c.without_blanks.result.now c.split_word.result.0.now c.split_word.result.1.now =
    record { text_is = c.without_blanks.ensures; word_is = c.split_word.ensures.word; rest_is = c.split_word.ensures.rest } in
    let some : is_filled c.split_word.result.0.now ≡ true = grind (arith, nat_tests, common_steps) in
    let next = words-some c.args.self.now.rest.now _ _ c.split_word.result.1.now cut some in
    search rules
