use Rattle.std.proofs.Common.{◌≡◌, ◌∙◌, ◌+◌, ◌-◌, ap, nat_lt, subst, sym}
use Rattle.std.proofs.lemmas.Result.{IfOk-weaker}
use Rattle.trace_judge.specs.Index.{Counts, count_at}
use Rattle.trace_judge.specs.Judging.{CountsOpen}
use Rattle.trace_judge.specs.Trace.{is_open_for, open_after}
use Rattle.trace_judge.proofs.Opens.{counts-answered, counts-asked, open_where_counted}
use Rattle.trace_judge.proofs.hearing.hear_open.Goals as goal

pub returns-in_ok-ask-in-Asked-clause-is_open : goal.returns-in_ok-ask-in-Asked-clause-is_open
returns-in_ok-ask-in-Asked-clause-is_open c = λ before held.
    let was = c.args.questions.now in let is = c.ask.new.self in
    subst (λ s. CountsOpen is (open_after s before)) (sym c.in-Asked.is)
    (counts-asked c.in-Asked.query was is before held
    (subst (λ q. Counts q (count_at was q + 1) was is) c.in_ok-clone-in-Asked.ensures.cases c.in_ok-ask-in-Asked.ensures))

pub returns-in_ok-clone-in-Received-clause-is_open : goal.returns-in_ok-clone-in-Received-clause-is_open
returns-in_ok-clone-in-Received-clause-is_open c = λ before held.
    let was = c.args.questions.now in let is = c.answer.new.self in let reply = c.in-Received.reply in
    let copy : c.in_ok-clone-in-Received.field-0 ≡ reply.query
    = c.in_ok-clone-in-Received.ensures.cases ∙ ap (λ r. r.query) c.reply.view_is in
    IfOk-weaker c.answer.result (λ _. Counts c.in_ok-clone-in-Received.field-0 (count_at was c.in_ok-clone-in-Received.field-0 - 1) was is)
    (λ _. CountsOpen is (open_after c.args.said.now before))
    (λ _ counted. subst (λ s. CountsOpen is (open_after s before)) (sym c.in-Received.is)
    (counts-answered reply.query was is before held (subst (λ q. Counts q (count_at was q - 1) was is) copy counted)))
    c.answer.ensures.counted

pub returns-in_ok-clone-in-Received-clause-counts : goal.returns-in_ok-clone-in-Received-clause-counts
returns-in_ok-clone-in-Received-clause-counts c = λ before held.
    let was = c.args.questions.now in let reply = c.in-Received.reply in
    let copy : c.in_ok-clone-in-Received.field-0 ≡ reply.query
    = c.in_ok-clone-in-Received.ensures.cases ∙ ap (λ r. r.query) c.reply.view_is in
    IfOk-weaker c.answer.result (λ b. b ≡ nat_lt 0 (count_at was c.in_ok-clone-in-Received.field-0))
    (λ b. b ≡ is_open_for c.args.said.now before)
    (λ b e. e ∙ ap (λ q. nat_lt 0 (count_at was q)) copy ∙ ap (nat_lt 0) (held reply.query)
    ∙ sym (open_where_counted reply.query before) ∙ ap (λ s. is_open_for s before) (sym c.in-Received.is))
    c.answer.ensures.is_open
