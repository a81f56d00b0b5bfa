use Rattle.std.proofs.Common.{◌≡◌, ◌≤◌, ◌∙◌, ◌+◌, ◌++◌, List, ℕ, length, map, sym, ap, subst, vec_len, vec_capacity, arith}
use Rattle.std.proofs.lemmas.List.{length-map}
use Rattle.hickory_resolver_model.specs.Run.{StepValue}
use Rattle.hickory_resolver_lookup.specs.Requests.{request_of}
use Rattle.hickory_resolver.specs.Serving.{MakesRun}
use Rattle.hickory_resolver.specs.declared.keeping.StepKeeper.{StepKeeper}
use Rattle.hickory_resolver.proofs.KeptSteps.{all_kept, never_full}
use Rattle.hickory_resolver.proofs.keeping.keep_steps.Goals as goal

pub returns-in_err-serve_each-clause-err : goal.returns-in_err-serve_each-clause-err
returns-in_err-serve_each-clause-err g c =
    let requests = map request_of c.args.requests.now in
    let items : StepKeeper → List StepValue = λ k. k.steps.items in
    let count : StepKeeper → ℕ = λ k. vec_len k.steps in
    let room : StepKeeper → ℕ = λ k. vec_capacity k.steps in
    let first : StepKeeper = record { steps = c.in_ok-steps.steps } in
    let enough : count first + length requests ≤ room first =
    omega (arith, c.in_ok-steps.ensures.len, c.in_ok-steps.ensures.exact, length-map c.args.requests.now request_of) in
    absurd (never_full _ _ items count room (λ before request sent step after kept. kept)
    (λ before request sent step after full. full) requests first c.serve_each.new.listener enough c.in_err-serve_each.ensures.err)

pub returns-clause-ok : goal.returns-clause-ok
returns-clause-ok g c =
    let requests = map request_of c.args.requests.now in
    let items : StepKeeper → List StepValue = λ k. k.steps.items in
    let count : StepKeeper → ℕ = λ k. vec_len k.steps in
    let room : StepKeeper → ℕ = λ k. vec_capacity k.steps in
    let first : StepKeeper = record { steps = c.in_ok-steps.steps } in
    let s = c.in_ok-serve_each.ensures.ok in
    let kept = all_kept _ _ items count room (λ before request sent step after kept. kept)
    (λ before request sent step after full. full) requests s.0 s.1 first c.serve_each.new.listener s.3 in
    let steps_are : c.serve_each.new.listener.steps.items ≡ s.0 = kept ∙ ap (λ none. none ++ s.0) c.in_ok-steps.ensures.items in (
      s.1,
      subst (λ steps. MakesRun g.H.DnsHandle.step c.args.resolver.now requests steps s.1 c.serve_each.new.resolver)
          (sym steps_are) s.2,
    )
