use Rattle.std.proofs.Common.{◌≡◌, ◌∙◌, ◌∷◌, ◌++◌, rules, Bool, [], None, Option, reverse, sym, subst}
use Rattle.hickory_resolver_model.specs.Calls.{CallContext, IsAttemptResult, FamilyOrder, next_type}
use Rattle.hickory_resolver_model.specs.Lookup.{LookupResult}
use Rattle.hickory_resolver_model.specs.Resolver.{call_context_of}
use Rattle.hickory_resolver_theorems.specs.ResumingCalls.{AttemptValue, with_result}
use Rattle.hickory_resolver_attempts.specs.Sought.{results_so_far, order_of}
use Rattle.hickory_resolver.specs.CallSteps.{ContinuesFrom, attempt_value, step_of}
use Rattle.hickory_resolver.proofs.CallSteps.{goes_last, goes_next, goes_over}
use Rattle.hickory_resolver.proofs.attempting.Attempt.end.Goals as goal

pub returns-then-stops-clause-goes : goal.returns-then-stops-clause-goes
returns-then-stops-clause-goes g c = λ name over.
    let s : CallContext = call_context_of c.args.client.now c.args.hosts.now c.args.now in
    let P : FamilyOrder → Type 0 = λ p. next_type p (results_so_far c.take.result ++ c.args.latest ∷ []) ≡ None
    → IsAttemptResult p (results_so_far c.take.result ++ c.args.latest ∷ []) c.attempt_result-reply.result in
    let F : Option LookupResult → Type 0 = λ f. next_type (order_of c.args.self.now.sought)
    (results_so_far f ++ c.args.latest ∷ []) ≡ None → IsAttemptResult (order_of c.args.self.now.sought)
    (results_so_far f ++ c.args.latest ∷ []) c.attempt_result-reply.result in
    goes_over s c.args.self.now c.args.latest name c.args.client.now.cache c.attempt_result-reply.result
    (subst F c.take.ensures.value (subst P c.types.ensures c.attempt_result-reply.ensures) over) _
    (sym c.stops.ensures ∙ c.if-stops.true)

pub returns-in-Some-clause-goes : goal.returns-in-Some-clause-goes
returns-in-Some-clause-goes g c = λ name over.
    let s : CallContext = call_context_of c.args.client.now c.args.hosts.now c.args.now in
    let P : FamilyOrder → Type 0 = λ p. next_type p (results_so_far c.take.result ++ c.args.latest ∷ []) ≡ None
    → IsAttemptResult p (results_so_far c.take.result ++ c.args.latest ∷ []) c.attempt_result-reply.result in
    let F : Option LookupResult → Type 0 = λ f. next_type (order_of c.args.self.now.sought)
    (results_so_far f ++ c.args.latest ∷ []) ≡ None → IsAttemptResult (order_of c.args.self.now.sought)
    (results_so_far f ++ c.args.latest ∷ []) c.attempt_result-reply.result in
    let from : AttemptValue = with_result (attempt_value c.args.self.now name c.args.now) c.args.latest in
    let L : Bool → Type 0 = λ b. ContinuesFrom s (record from {
      with_hosts = b;
      name = c.in-Some.name;
      results = [];
      left = reverse c.pop.new.self.items;
    }) c.args.client.now.cache c.begin.new.self c.args.now (step_of c.begin.result) c.begin.new.client.cache in
    goes_next s c.args.self.now c.args.latest name c.args.client.now.cache c.attempt_result-reply.result
    (subst F c.take.ensures.value (subst P c.types.ensures c.attempt_result-reply.ensures) over) _
    (sym c.stops.ensures ∙ c.if-stops.false)
    c.pop.new.self.items c.in-Some.name c.in-Some.ensures.items _ _
    (subst L c.asks_hosts_for_all-self.ensures c.begin.ensures.goes)

pub returns-in-None-clause-goes : goal.returns-in-None-clause-goes
returns-in-None-clause-goes g c = λ name over.
    let s : CallContext = call_context_of c.args.client.now c.args.hosts.now c.args.now in
    let P : FamilyOrder → Type 0 = λ p. next_type p (results_so_far c.take.result ++ c.args.latest ∷ []) ≡ None
    → IsAttemptResult p (results_so_far c.take.result ++ c.args.latest ∷ []) c.attempt_result-reply.result in
    let F : Option LookupResult → Type 0 = λ f. next_type (order_of c.args.self.now.sought)
    (results_so_far f ++ c.args.latest ∷ []) ≡ None → IsAttemptResult (order_of c.args.self.now.sought)
    (results_so_far f ++ c.args.latest ∷ []) c.attempt_result-reply.result in
    let none : c.args.self.now.left.items ≡ [] = search rules in
    goes_last s c.args.self.now c.args.latest name c.args.client.now.cache c.attempt_result-reply.result
    (subst F c.take.ensures.value (subst P c.types.ensures c.attempt_result-reply.ensures) over) _
    (sym c.stops.ensures ∙ c.if-stops.false)
    none c.last_reply.result (rw c.take-in-None.ensures.value at c.last_reply.ensures)
