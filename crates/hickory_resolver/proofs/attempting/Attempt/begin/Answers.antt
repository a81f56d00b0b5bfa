use Rattle.std.proofs.Common.{◌≡◌, ◌∙◌, [], None, Some, Err, refl, sym, ap, subst}
use Rattle.hickory_proto_core.specs.codes.record_type.RecordType.{RecordType}
use Rattle.hickory_resolver_model.specs.Resuming.{IsDone}
use Rattle.hickory_resolver_model.specs.Calls.{CallContext, FamilyOrder, next_type}
use Rattle.hickory_resolver_model.specs.Resolver.{call_context_of}
use Rattle.hickory_resolver.specs.declared.attempting.Attempt.{Attempt}
use Rattle.hickory_resolver_attempts.specs.Sought.{kept_name_for, first_type, order_of}
use Rattle.hickory_resolver.specs.CallSteps.{first_value}
use Rattle.hickory_resolver.proofs.CallSteps.{first_next, goes_by_look_up, refused}
use Rattle.hickory_resolver.proofs.attempting.Attempt.begin.Goals as goal

pub returns-in-Ok-clause-goes : goal.returns-in-Ok-clause-goes
returns-in-Ok-clause-goes g c =
    let s : CallContext = call_context_of c.args.client.now c.args.hosts.now c.args.now in
    let a : Attempt = record c.args.self.now { kept_name = c.in-Ok.kept_name; first = None } in
    let plan : FamilyOrder = order_of c.args.self.now.sought in
    let A : FamilyOrder → Type 0 = λ p. c.in-Ok.kept_name ≡ kept_name_for p None c.args.name in
    let t_is : c.first.result ≡ first_type plan = c.first.ensures ∙ ap (λ p. first_type p) c.types-types.ensures in
    let next : next_type plan [] ≡ Some c.first.result = first_next plan ∙ ap (λ (t : RecordType). Some t) (sym t_is) in
    goes_by_look_up s (first_value c.args.self.now c.args.name c.args.now) a c.args.name refl
    (subst A c.types-types.ensures c.in-Ok.ensures.ok) c.args.client.now.cache c.first.result next _ _ c.look_up.ensures.looks_up

pub returns-in-Err-clause-goes : goal.returns-in-Err-clause-goes
returns-in-Err-clause-goes g c =
    let s : CallContext = call_context_of c.args.client.now c.args.hosts.now c.args.now in
    let plan : FamilyOrder = order_of c.args.self.now.sought in
    record {
      name = c.args.name;
      ready = tt;
      goes = λ end after comes. refused s (first_value c.args.self.now c.args.name c.args.now) (first_type plan)
          (first_next plan) c.args.client.now.cache end after
          (comes.0 ∙ ap (λ e. IsDone (Err e)) c.in-Err.ensures.err, comes.1);
    }
