use Rattle.std.proofs.Common.{◌≡◌, ◌∙◌, ◌++◌, Some, ap, subst, sym}
use Rattle.std.proofs.lemmas.Result.{IfOk-weaker}
use Rattle.trace_judge.specs.Denials.{denial_at, denial_of, denied_by, last_name, negative_ttl}
use Rattle.trace_judge.specs.Index.{NotesDenial}
use Rattle.trace_judge.specs.Judging.{DeniesAs}
use Rattle.trace_judge.specs.declared.denials.Denial.{Denial}
use Rattle.trace_judge.proofs.Denying.{denies-push}
use Rattle.trace_judge.proofs.hearing.keep_denial.Goals as goal

pub returns : goal.returns
returns c = λ from before held.
    let r = c.reply.inside in let reply = c.args.reply.now in let denies = c.in-Some.denies in let moment = c.args.moment in
    let was = c.args.denied.now in let is = c.add.new.self in
    let name : c.in_ok-clone.field-0 ≡ last_name r.query r.answers.items
    = c.in_ok-clone.ensures.cases ∙ c.last_name.ensures ∙ ap (last_name r.query) c.deref.ensures.value in
    let ttl : c.negative_ttl.result ≡ negative_ttl r.authorities.items
    = c.negative_ttl.ensures ∙ ap negative_ttl c.deref-2.ensures.value in
    let new : Denial = record {
      moment = moment;
      name = c.in_ok-clone.field-0;
      dns_class = r.query.query_class;
      denied = denies;
      ttl = c.negative_ttl.result;
    } in
    let one : new ≡ denial_at moment reply denies
    = (λ k. record { moment = moment; name = name k; dns_class = r.query.query_class; denied = denies; ttl = ttl k })
    ∙ ap (λ v. denial_at moment v denies) c.reply.view_is in
    let denied : Some denies ≡ denied_by reply = sym c.in-Some.is ∙ c.denied_by.ensures in
    IfOk-weaker c.add.result (λ _. NotesDenial new was is)
    (λ _. DeniesAs from is (before ++ denial_of moment reply (denied_by reply)))
    (λ _ notes. subst (λ o. DeniesAs from is (before ++ denial_of moment reply o)) denied
    (denies-push from was is before (denial_at moment reply denies) (subst (λ d. NotesDenial d was is) one notes) held))
    c.add.ensures
