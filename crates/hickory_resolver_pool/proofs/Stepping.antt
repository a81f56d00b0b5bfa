-- What a step is, by what it does with the transaction that is worked on.
use Rattle.std.proofs.Common.{◌≡◌, Bool, true, false, sym, subst}
use Rattle.std.specs.Prelude.{Option, Some, Result, Ok, Err, IfOk, OnOk}
use Rattle.std.specs.Option.{is_some}
use Rattle.hickory_resolver_traffic.specs.Doing.{doing as doing_of}
use Rattle.hickory_resolver_traffic.specs.Table.{CurrentState}
use Rattle.hickory_resolver_traffic.specs.declared.doing.Doing.{Doing}
use Rattle.hickory_resolver_pool.specs.Pool.{PoolState, Carries, StepsBy, StepsWith, StepsIn, StepsAs, Steps, is_end, is_put, let_go, let_go_action, put_by}
use Rattle.hickory_resolver_pool.specs.declared.pool.Action.{Action}
use Rattle.hickory_resolver_pool.specs.declared.pool.Action.TheVariants.{Continue}

-- both clauses of a call that was not refused
pub both_ok : {A E Q : Type 0} {P R : A → Type 0} → (result : Result A E) → IfOk result P → OnOk result Q
    → ((a : A) → P a → Q → R a) → IfOk result R
both_ok (Ok a) p q f = f a p q
both_ok (Err e) p q f = tt

pub one_ok : {A E : Type 0} {P R : A → Type 0} → (result : Result A E) → IfOk result P → ((a : A) → P a → R a)
    → IfOk result R
one_ok (Ok a) p f = f a p
one_ok (Err e) p f = tt

module _ (what : Doing) (c : CurrentState) (s : PoolState) {t : PoolState} where
  pub steps-end : (r : Option Action) → is_end what ≡ true → r ≡ Some (let_go_action what c s) → t ≡ let_go c s
      → StepsWith what c s r t
  steps-end r ends told after =
      subst (λ (e : Bool). StepsBy e (is_put what) what c s r t) (sym ends) (record { action = told; pool = after })

  pub steps-put : (r : Option Action) → is_end what ≡ false → is_put what ≡ true → r ≡ Some Continue
      → t ≡ put_by what c s
      → StepsWith what c s r t
  steps-put r ends puts told after =
      subst (λ (e : Bool). StepsBy e (is_put what) what c s r t) (sym ends)
      (subst (λ (p : Bool). StepsBy false p what c s r t) (sym puts) (record { action = told; pool = after }))

  pub steps-on : (r : Option Action) → is_end what ≡ false → is_put what ≡ false → Carries what c s r t
      → StepsWith what c s r t
  steps-on r ends puts carries =
      subst (λ (e : Bool). StepsBy e (is_put what) what c s r t) (sym ends)
      (subst (λ (p : Bool). StepsBy false p what c s r t) (sym puts) carries)

module _ (s t : PoolState) where
  pub steps-go : (what : Doing) (c : CurrentState) (r : Option Action) → is_some s.traffic.outgoing ≡ false
      → s.current ≡ Some c → what ≡ doing_of c s.traffic → StepsWith what c s r t → Steps s r t
  steps-go what c r writes works is steps =
      subst (λ (w : Bool). StepsAs w s r t) (sym writes)
      (subst (λ (k : Option CurrentState). StepsIn k s r t) (sym works)
      (subst (λ (d : Doing). StepsWith d c s r t) is steps))
