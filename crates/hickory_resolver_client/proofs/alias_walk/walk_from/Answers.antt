use Rattle.std.proofs.Common.{◌++◌, ◌∷◌, [], ◌∙◌, sym, ap, take}
use Rattle.std.proofs.lemmas.List.{take_more}
use Rattle.hickory_resolver_client.proofs.Walking.{shows_push}
use Rattle.hickory_resolver_client.proofs.alias_walk.walk_from.Goals as goal

pub loop-answer-preserved : goal.loop-answer-preserved
loop-answer-preserved c =
    let answers = c.args.answers.now in
    let i = c.loop-answer.answer-index in
    shows_push c.args.asked.now (take i answers) _ c.answer-item.result c.loop-answer.walk c.take.new.self
    (take_more answers i c.answer-item.result c.loop-answer-test.true ∙ ap (λ r. take i answers ++ r ∷ []) (sym c.answer-item.is))
    c.loop-answer.invariant c.in_ok-take.ensures
