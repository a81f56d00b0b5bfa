use Rattle.std.proofs.Common.{◌≡◌, ◌∙◌, ◌||◌, ap, ap₂, false, subst, sym, true}
use Rattle.std.proofs.lemmas.Result.{IfOk-weaker}
use Rattle.trace_judge.specs.Denials.{last_name}
use Rattle.trace_judge.specs.Findings.{denial_reach}
use Rattle.trace_judge.specs.Hashed.{is_denied_hashed}
use Rattle.trace_judge.specs.Index.{Stands}
use Rattle.trace_judge.specs.Making.{has_own_name, is_denial_made, lasts, makes_denial}
use Rattle.trace_judge.proofs.making.is_denial_made.Goals as goal

pub returns-then-has_own_name : goal.returns-then-has_own_name
returns-then-has_own_name c = λ e s.
    let r = c.reply.inside in let reply = c.args.reply.now in
    let st = subst (Stands e) (sym c.evidence.view_is) s in
    let until = denial_reach c.args.now reply in let n = last_name reply.query reply.answers in
    let q = reply.query.query_class in
    let name : c.last_name-name.result.now ≡ n
    = c.last_name-name.ensures ∙ ap (last_name r.query) c.deref.ensures.value ∙ ap (λ v. last_name v.query v.answers) c.reply.view_is in
    let class : r.query.query_class ≡ q = ap (λ v. v.query.query_class) c.reply.view_is in
    sym (ap (λ b. (b || lasts e until (makes_denial q n c.args.denied)) || is_denied_hashed (lasts e until) q n c.args.denied)
    (ap₂ (λ k m. has_own_name e.own k m) (sym class) (sym name) ∙ ap (λ o. has_own_name o r.query.query_class c.last_name-name.result.now) (sym st.own_is)
    ∙ sym c.has_own_name.ensures ∙ c.if-has_own_name.true))

pub returns-then-branch : goal.returns-then-branch
returns-then-branch c = λ e s.
    let r = c.reply.inside in let reply = c.args.reply.now in
    let st = subst (Stands e) (sym c.evidence.view_is) s in
    let until = denial_reach c.args.now reply in let n = last_name reply.query reply.answers in
    let q = reply.query.query_class in
    let name : c.last_name-name.result.now ≡ n
    = c.last_name-name.ensures ∙ ap (last_name r.query) c.deref.ensures.value ∙ ap (λ v. last_name v.query v.answers) c.reply.view_is in
    let class : r.query.query_class ≡ q = ap (λ v. v.query.query_class) c.reply.view_is in
    let reach = c.denial_reach-until.ensures in
    let own : has_own_name e.own q n ≡ false
    = ap₂ (λ k m. has_own_name e.own k m) (sym class) (sym name) ∙ ap (λ o. has_own_name o r.query.query_class c.last_name-name.result.now) (sym st.own_is)
    ∙ sym c.has_own_name.ensures ∙ c.if-has_own_name.false in
    let between : lasts e until (makes_denial q n c.args.denied) ≡ true
    = sym (λ i. lasts e (reach i) (makes_denial (class i) (name i) c.args.denied))
    ∙ sym (c.in_ok-is_denied_between.ensures e s) ∙ c.if-branch.true in
    sym (ap (λ b. (b || lasts e until (makes_denial q n c.args.denied)) || is_denied_hashed (lasts e until) q n c.args.denied) own
    ∙ ap (λ b. b || is_denied_hashed (lasts e until) q n c.args.denied) between)

pub returns : goal.returns
returns c = λ e s.
    let r = c.reply.inside in let reply = c.args.reply.now in
    let st = subst (Stands e) (sym c.evidence.view_is) s in
    let until = denial_reach c.args.now reply in let n = last_name reply.query reply.answers in
    let q = reply.query.query_class in
    let name : c.last_name-name.result.now ≡ n
    = c.last_name-name.ensures ∙ ap (last_name r.query) c.deref.ensures.value ∙ ap (λ v. last_name v.query v.answers) c.reply.view_is in
    let class : r.query.query_class ≡ q = ap (λ v. v.query.query_class) c.reply.view_is in
    let reach = c.denial_reach-until.ensures in
    let own : has_own_name e.own q n ≡ false
    = ap₂ (λ k m. has_own_name e.own k m) (sym class) (sym name) ∙ ap (λ o. has_own_name o r.query.query_class c.last_name-name.result.now) (sym st.own_is)
    ∙ sym c.has_own_name.ensures ∙ c.if-has_own_name.false in
    let between : lasts e until (makes_denial q n c.args.denied) ≡ false
    = sym (λ i. lasts e (reach i) (makes_denial (class i) (name i) c.args.denied))
    ∙ sym (c.in_ok-is_denied_between.ensures e s) ∙ c.if-branch.false in
    IfOk-weaker c.is_denied_hashed.result
    (λ made. made ≡ is_denied_hashed (lasts e c.denial_reach-until.result) r.query.query_class c.last_name-name.result.now c.args.denied)
    (λ made. made ≡ is_denial_made e c.args.now reply c.args.denied)
    (λ made is. is ∙ (λ i. is_denied_hashed (lasts e (reach i)) (class i) (name i) c.args.denied)
    ∙ sym (ap (λ b. (b || lasts e until (makes_denial q n c.args.denied)) || is_denied_hashed (lasts e until) q n c.args.denied) own
    ∙ ap (λ b. b || is_denied_hashed (lasts e until) q n c.args.denied) between))
    (c.is_denied_hashed.ensures e s)
