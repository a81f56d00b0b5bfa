use Rattle.std.proofs.Common.{◌≡◌, ◌∙◌, ◌||◌, ap, false, subst, sym}
use Rattle.std.proofs.lemmas.Result.{IfOk-weaker}
use Rattle.trace_judge.specs.Index.{Stands}
use Rattle.trace_judge.specs.MadeIndex.{is_data_made_in, late}
use Rattle.trace_judge.specs.Making.{is_data_made, is_made, is_own}
use Rattle.trace_judge.specs.Receptions.{reach}
use Rattle.trace_judge.specs.Trace.{milliseconds_of}
use Rattle.trace_judge.proofs.Made.{data-made}
use Rattle.trace_judge.proofs.making.is_made.Goals as goal

pub returns-then-is_own : goal.returns-then-is_own
returns-then-is_own c = λ e s.
    let told = c.args.told.now in
    let st = subst (Stands e) (sym c.evidence.view_is) s in
    sym (ap (λ b. b || is_data_made e (reach (milliseconds_of c.args.now) told.ttl) told told.rdata)
    (ap (λ o. is_own o told) (sym st.own_is) ∙ sym c.is_own.ensures ∙ c.if-is_own.true))

pub returns : goal.returns
returns c = λ e s.
    let told = c.args.told.now in let index = c.args.evidence.now in
    let until = reach (milliseconds_of c.args.now) told.ttl in
    let st = subst (Stands e) (sym c.evidence.view_is) s in
    let own : is_own e.own told ≡ false
    = ap (λ o. is_own o told) (sym st.own_is) ∙ sym c.is_own.ensures ∙ c.if-is_own.false in
    let from : c.late.result ≡ late index until
    = c.late.ensures ∙ ap (late index) (c.reach.ensures.value ∙ ap (λ r. reach (milliseconds_of c.args.now) r.ttl) c.told.view_is) in
    IfOk-weaker c.is_data_made.result (λ made. made ≡ is_data_made_in index c.late.result told told.rdata) (λ made. made ≡ is_made e c.args.now told)
    (λ made is. is ∙ ap (λ n. is_data_made_in index n told told.rdata) from ∙ data-made e index s until told told.rdata
    ∙ sym (ap (λ b. b || is_data_made e until told told.rdata) own))
    c.is_data_made.ensures
