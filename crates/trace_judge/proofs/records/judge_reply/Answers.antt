use Rattle.std.proofs.Common.{◌≡◌, ◌∙◌, ◌++◌, List, ap, append_assoc}
use Rattle.std.proofs.lemmas.Result.{on_ok_weaker}
use Rattle.trace_judge.specs.Denials.{denied_by}
use Rattle.trace_judge.specs.Findings.{denial_findings, section_findings}
use Rattle.trace_judge.specs.declared.classes.Finding.{Finding}
use Rattle.trace_judge.specs.declared.classes.Section.TheVariants as section
use Rattle.trace_judge.proofs.records.judge_reply.Goals as goal

regroup : (f a b c d : List Finding) → (((f ++ a) ++ b) ++ c) ++ d ≡ f ++ (((a ++ b) ++ c) ++ d)
regroup f a b c d = simp append_assoc

pub returns : goal.returns
returns c = λ e s.
    let r = c.reply.inside in let now = c.args.now in let reply = c.args.reply.now in let before = c.args.found.now.items in
    let answers = section_findings e now r.query section.Answer 0 r.answers.items in
    let authorities = section_findings e now r.query section.Authority 0 r.authorities.items in
    let additionals = section_findings e now r.query section.Additional 0 r.additionals.items in
    let denial = denial_findings e now reply (denied_by reply) in
    let first : c.judge_section.new.found.items ≡ before ++ answers
    = c.in_ok-judge_section.ensures e s
    ∙ ap (λ rs. before ++ section_findings e now r.query section.Answer 0 rs) c.deref.ensures.value in
    let second : c.judge_section-2.new.found.items ≡ c.judge_section.new.found.items ++ authorities
    = c.in_ok-judge_section-2.ensures e s
    ∙ ap (λ rs. c.judge_section.new.found.items ++ section_findings e now r.query section.Authority 0 rs) c.deref-2.ensures.value in
    let third : c.judge_section-3.new.found.items ≡ c.judge_section-2.new.found.items ++ additionals
    = c.in_ok-judge_section-3.ensures e s
    ∙ ap (λ rs. c.judge_section-2.new.found.items ++ section_findings e now r.query section.Additional 0 rs) c.deref-3.ensures.value in
    on_ok_weaker c.judge_denial.result
    (λ last. last
    ∙ ap (λ fs. fs ++ denial) (third ∙ ap (λ fs. fs ++ additionals) (second ∙ ap (λ fs. fs ++ authorities) first))
    ∙ regroup before answers authorities additionals denial
    ∙ ap (λ v. before ++ (((section_findings e now v.query section.Answer 0 v.answers
    ++ section_findings e now v.query section.Authority 0 v.authorities)
    ++ section_findings e now v.query section.Additional 0 v.additionals) ++ denial)) c.reply.view_is)
    (c.judge_denial.ensures e s)
