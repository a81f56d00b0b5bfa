use Rattle.std.proofs.Common.{◌≡◌, ◌∙◌, ◌++◌, List, ap, append_assoc, map, subst}
use Rattle.std.proofs.lemmas.Result.{on_ok_weaker}
use Rattle.trace_judge.specs.Index.{GapsSee}
use Rattle.trace_judge.specs.Receptions.{reception_at, received_of}
use Rattle.trace_judge.specs.declared.receptions.Reception.{Reception}
use Rattle.trace_judge.proofs.hearing.keep_gaps.Goals as goal

regroup : (f a b c : List Reception) → ((f ++ a) ++ b) ++ c ≡ f ++ ((a ++ b) ++ c)
regroup f a b c = simp append_assoc

pub returns : goal.returns
returns c = λ from before held.
    let r = c.reply.inside in let at = map (reception_at c.args.now) in
    let a = at r.answers.items in let b = at r.authorities.items in let d = at r.additionals.items in
    let first : GapsSee from c.keep_gaps_in.new.gaps (before ++ a)
    = subst (λ rs. GapsSee from c.keep_gaps_in.new.gaps (before ++ at rs)) c.deref.ensures.value
    (c.in_ok-keep_gaps_in.ensures from before held) in
    let second : GapsSee from c.keep_gaps_in-2.new.gaps ((before ++ a) ++ b)
    = subst (λ rs. GapsSee from c.keep_gaps_in-2.new.gaps ((before ++ a) ++ at rs)) c.deref-2.ensures.value
    (c.in_ok-keep_gaps_in-2.ensures from (before ++ a) first) in
    on_ok_weaker c.keep_gaps_in-3.result
    (λ last. subst (GapsSee from c.keep_gaps_in-3.new.gaps)
    (ap (λ rs. ((before ++ a) ++ b) ++ at rs) c.deref-3.ensures.value ∙ regroup before a b d
    ∙ ap (λ v. before ++ received_of c.args.now v) c.reply.view_is) last)
    (c.keep_gaps_in-3.ensures from ((before ++ a) ++ b) second)
