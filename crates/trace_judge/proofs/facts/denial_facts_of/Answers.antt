use Rattle.std.proofs.Common.{◌≡◌, ◌∙◌, ◌-◌, ap, max, subst, sym, arith}
use Rattle.trace_judge.specs.Denials.{last_name}
use Rattle.trace_judge.specs.Findings.{denial_reach}
use Rattle.trace_judge.specs.Index.{Stands, denied_at, is_since}
use Rattle.trace_judge.specs.Receptions.{grace}
use Rattle.trace_judge.proofs.Knowing.{denial_facts_known}
use Rattle.trace_judge.proofs.facts.denial_facts_of.Goals as goal

pub returns : goal.returns
returns c = λ e s.
    let i = c.evidence.inside in let r = c.reply.inside in let reply = c.args.reply.now in
    let name : c.last_name-name.result.now ≡ last_name r.query r.answers.items
    = c.last_name-name.ensures ∙ ap (last_name r.query) c.deref.ensures.value in
    let latest : c.in_ok-latest.latest ≡ denied_at i.denied.now reply.query.query_class (last_name reply.query reply.answers) c.args.denied
    = c.in_ok-latest.ensures ∙ ap (λ n. denied_at i.denied.now r.query.query_class n c.args.denied) name
    ∙ ap (λ v. denied_at i.denied.now v.query.query_class (last_name v.query v.answers) c.args.denied) c.reply.view_is in
    let until : c.max.result ≡ max (denial_reach c.args.now reply - grace i.slack) i.oldest = omega arith in
    denial_facts_known e _ (subst (Stands e) (sym c.evidence.view_is) s) c.args.now reply c.args.denied _ c.in_ok-latest.latest latest
    c.is_since.ensures (c.is_since-2.ensures ∙ ap (λ n. is_since n c.in_ok-latest.latest) until) c.moment_since.ensures
