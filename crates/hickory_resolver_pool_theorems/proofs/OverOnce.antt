-- A transaction is over once.
use Rattle.std.proofs.Common.{◌≡◌, ◌≤◌, ◌<◌, ◌+◌, ℕ, Bool, true, false, cond, ◌||◌, eqb, eqb-true, leb, List, [], ◌∷◌, ◌++◌, append-nil, refl, ap, sym, subst, ◌∙◌, arith}
use Rattle.std.specs.Prelude.{Option, None, Some}
use Rattle.std.proofs.lemmas.Bool.{leb-true, leb-false}
use Rattle.std.specs.List.{AllByRecursion}
use Rattle.std.specs.Option.{is_some, option_map, option_map_or, option_or}
use Rattle.hickory_resolver_askers.specs.Askers.{AskersState, WaitingValue, flying_at, waiting_at, has_place, first_waiting, begun_in, next_one, with_asker, is_flying, is_waiting, joined_flying, joined_waiting, joined, joiner, over, without, without_asker, left_of, forgot_as, forgot, admitted_one, admitted, askers_of}
use Rattle.hickory_resolver_askers.specs.declared.asker.Asker.{Asker}
use Rattle.hickory_resolver_askers.specs.declared.asker.Forgotten.{Forgotten}
use Rattle.hickory_resolver_askers.specs.declared.asker.Forgotten.TheVariants.{Nobody, OthersAsk, Last}
use Rattle.hickory_resolver_askers.specs.declared.asker.Place.TheVariants.{InFlight, Waits}
use Rattle.hickory_resolver_config.specs.ResolverConfig.{OptionsValue}
use Rattle.hickory_resolver_transactions.specs.Settings.{settings_of}
use Rattle.hickory_resolver_tries.specs.Question.{question_of}
use Rattle.hickory_resolver_pool.specs.Laws.{PoolEvent, time_passes, group_has, is_asked, octets_come, channel_fails, is_forgotten, after_event}
use Rattle.hickory_resolver_pool.specs.Over.{OverValue}
use Rattle.hickory_resolver_pool.specs.Pool.{PoolState, no_servers, settings_for, list_of, after_asking, asking_told, Steps}
use Rattle.hickory_resolver_pool.specs.declared.limits.PoolLimits.{PoolLimits}
use Rattle.hickory_resolver_pool.specs.declared.pool.Action.{Action}
use Rattle.hickory_resolver_pool.specs.declared.pool.Action.TheVariants as action
use Rattle.hickory_resolver_pool.specs.declared.pool.Asked.{Asked}
use Rattle.hickory_resolver_pool.specs.declared.pool.Asked.TheVariants as told
use Rattle.hickory_resolver_pool_theorems.specs.Runs.{Happening, came, did, Runs, at_first, by_event, by_step}
use Rattle.hickory_resolver_pool_theorems.specs.Tellings.{asking_in, IsNoneOf, IsToldElsewhere, WasToldElsewhere, IsNotOverBy, WasNotOver, OverOnce}
use Rattle.hickory_resolver_pool_theorems.proofs.Hearing.{Asking, AreHeard, Given, Forgot, given-all, forgot-all}
use Rattle.hickory_resolver_pool_theorems.proofs.Keys.{gone-removed}
use Rattle.hickory_resolver_pool_theorems.proofs.ByNumber.{At, all-as, none-inserted, none-removed, none-dropped, none-changed, first-apart}
use Rattle.hickory_resolver_pool_theorems.proofs.Overs.{gone-at_end, told-at_end}
use Rattle.hickory_resolver_pool_theorems.proofs.Tellings.{IsChanged, stays, is_over, is_admitted, changed-step, After, IsAsked, joins, begins, waits, none_served, none_placed, asked-asking, came-askers, failed-askers, heard-runs, heard-at}

-- its number was given, nobody asks for it, and who was told asks for no other
pub record IsGone (A : Asking) (a : AskersState) (o : OverValue) : Type 0 where
  pub old : o.transaction < a.next_transaction
  pub flying : At o.transaction a.in_flight ≡ None
  pub waiting : At o.transaction a.waiting ≡ None
  pub numbers : AllByRecursion (λ k. k < a.next_asker) o.askers
  pub elsewhere : (m : ℕ) → (m ≡ o.transaction → ⊥) → AllByRecursion (IsNoneOf (A m)) o.askers

-- ---- it stays so

module _ (A : Asking) (a : AskersState) (o : OverValue) (w : IsGone A a o) where
  abbrev n : ℕ
  n = o.transaction

  gone-over : (m : ℕ) → IsGone A (over m a) o
  gone-over m = record {
    old = w.old;
    flying = none-removed n m a.in_flight w.flying;
    waiting = none-removed n m a.waiting w.waiting;
    numbers = w.numbers;
    elsewhere = w.elsewhere;
  }

  gone-admitted : IsGone A (admitted a) o
  gone-admitted = by (has_place a) (first_waiting a) refl
    where
      by : (place : Bool) (f : Option (ℕ × WaitingValue)) → first_waiting a ≡ f
          → IsGone A (option_map_or (admitted_one a) (cond place f None) a) o
      by true None is = w
      by true (Some f) is = record {
        old = w.old;
        flying = none-inserted n f.0 f.1.askers a.in_flight (first-apart n f a.waiting w.waiting is) w.flying;
        waiting = none-dropped n a.waiting w.waiting;
        numbers = w.numbers;
        elsewhere = w.elsewhere;
      }
      by false f is = w

  pub gone-changed : (b : AskersState) → IsChanged a b → IsGone A b o
  gone-changed _ stays = w
  gone-changed _ (is_over m) = gone-over m
  gone-changed _ is_admitted = gone-admitted

  -- one asks
  module _ (k : Asker) (number : k.number ≡ a.next_asker) where
    gone-elsewhere : (m : ℕ) → (m ≡ n → ⊥) → AllByRecursion (IsNoneOf (Given A k m)) o.askers
    gone-elsewhere m other = by o.askers (w.elsewhere m other) w.numbers
      where
        by : (xs : List ℕ) → AllByRecursion (IsNoneOf (A m)) xs → AllByRecursion (λ j. j < a.next_asker) xs
            → AllByRecursion (IsNoneOf (Given A k m)) xs
        by [] none less = tt
        by (x ∷ xs) none less = (
          given-all (λ j. j ≡ x → ⊥) A k m none.0 (λ is same. omega (arith, less.0, same, number)),
          by xs none.1 less.1,
        )

    gone-with : (b : AskersState) → a.next_transaction ≤ b.next_transaction → b.next_asker ≡ a.next_asker + 1
        → At n b.in_flight ≡ None → At n b.waiting ≡ None → IsGone (Given A k) b o
    gone-with b more next flying waiting = record {
      old = omega (arith, w.old, more);
      flying = flying;
      waiting = waiting;
      numbers = all-as (λ j. j < a.next_asker) (λ j. j < b.next_asker) (λ j less. omega (arith, less, next)) o.askers w.numbers;
      elsewhere = gone-elsewhere;
    }

  gone-joined : (m : ℕ) (k : Asker) → joiner m a ≡ Some k → IsGone (Given A k) (joined m a) o
  gone-joined m k is = by (is_flying m a) (is_waiting m a) is
    where
      number-is : (j : Asker) → record { transaction = m; number = a.next_asker } ≡ j → j.number ≡ a.next_asker
      number-is j same = sym (ap (λ (x : Asker). x.number) same)

      by : (f v : Bool) → cond (f || v) (Some (record { transaction = m; number = a.next_asker })) None ≡ Some k
          → IsGone (Given A k) (cond {A = AskersState} f (joined_flying m a) (cond v (joined_waiting m a) a)) o
      by false false h = absurd cc
      by true v h =
          gone-with k (number-is k cc) (joined_flying m a) (omega arith) refl
          (none-changed n m (λ l. l ++ a.next_asker ∷ []) a.in_flight w.flying) w.waiting
      by false true h =
          gone-with k (number-is k cc) (joined_waiting m a) (omega arith) refl w.flying
          (none-changed n m (λ l. with_asker a.next_asker l) a.waiting w.waiting)

  not-next : eqb n a.next_transaction ≡ false
  not-next = by (eqb n a.next_transaction) refl
    where
      by : (b : Bool) → eqb n a.next_transaction ≡ b → b ≡ false
      by false is = refl
      by true is = let same : n ≡ a.next_transaction = eqb-true n a.next_transaction is in absurd (omega (arith, w.old, same))

  gone-none : IsGone (λ m. A m ++ []) a o
  gone-none = record {
    old = w.old;
    flying = w.flying;
    waiting = w.waiting;
    numbers = w.numbers;
    elsewhere = λ m other.
        subst (λ (l : List ℕ). AllByRecursion (IsNoneOf l) o.askers) (sym (append-nil (A m))) (w.elsewhere m other);
  }

  gone-asked : (said : Asked) (b : AskersState) → IsAsked a said b → IsGone (After A said) b o
  gone-asked _ _ (joins m k is) = gone-joined m k is
  gone-asked _ _ (begins until) =
      gone-with (next_one a) refl (begun_in InFlight until a) (omega arith) refl
      (none-inserted n a.next_transaction (a.next_asker ∷ []) a.in_flight not-next w.flying) w.waiting
  gone-asked _ _ (waits until) =
      gone-with (next_one a) refl (begun_in Waits until a) (omega arith) refl w.flying
      (none-inserted n a.next_transaction (record { until = until; askers = a.next_asker ∷ [] }) a.waiting not-next w.waiting)
  gone-asked _ _ none_served = gone-none
  gone-asked _ _ none_placed = gone-none

  -- one is forgotten
  module _ (k : Asker) where
    forgot-elsewhere : (m : ℕ) → (m ≡ n → ⊥) → AllByRecursion (IsNoneOf (Forgot A k m)) o.askers
    forgot-elsewhere m other = by o.askers (w.elsewhere m other)
      where
        by : (xs : List ℕ) → AllByRecursion (IsNoneOf (A m)) xs → AllByRecursion (IsNoneOf (Forgot A k m)) xs
        by [] none = tt
        by (x ∷ xs) none = (forgot-all (λ j. j ≡ x → ⊥) A k m none.0, by xs none.1)

    gone-forgot : IsGone (Forgot A k) (forgot k a) o
    gone-forgot = by (left_of k a)
      where
        by : (l : Forgotten) → IsGone (Forgot A k) (forgot_as l k a) o
        by Nobody = record {
          old = w.old;
          flying = w.flying;
          waiting = w.waiting;
          numbers = w.numbers;
          elsewhere = forgot-elsewhere;
        }
        by OthersAsk = record {
          old = w.old;
          flying = none-changed n k.transaction (without k.number) a.in_flight w.flying;
          waiting = none-changed n k.transaction (without_asker k.number) a.waiting w.waiting;
          numbers = w.numbers;
          elsewhere = forgot-elsewhere;
        }
        by Last = record {
          old = w.old;
          flying = none-removed n k.transaction a.in_flight w.flying;
          waiting = none-removed n k.transaction a.waiting w.waiting;
          numbers = w.numbers;
          elsewhere = forgot-elsewhere;
        }

-- ---- of all that was told

abbrev GoneBy : Asking → AskersState → Option Action → Type 0
GoneBy A a (Some (action.Over o)) = IsGone A a o
GoneBy A a other = Unit {0}

abbrev WasGone : Asking → AskersState → Happening → Type 0
WasGone A a (did s r) = GoneBy A a r
WasGone A a other = Unit {0}

module _ (A B : Asking) (a b : AskersState) (gives : (o : OverValue) → IsGone A a o → IsGone B b o) where
  gone-by : (r : Option Action) → GoneBy A a r → GoneBy B b r
  gone-by None w = tt
  gone-by (Some action.Continue) w = tt
  gone-by (Some (action.Open opening)) w = tt
  gone-by (Some (action.Send sent)) w = tt
  gone-by (Some (action.Close channel)) w = tt
  gone-by (Some (action.Over o)) w = gives o w

  gone-one : (h : Happening) → WasGone A a h → WasGone B b h
  gone-one (did s r) w = gone-by r w
  gone-one (came s e) w = tt

  gone-all : (past : List Happening) → AllByRecursion (WasGone A a) past → AllByRecursion (WasGone B b) past
  gone-all [] all = tt
  gone-all (h ∷ past) all = (gone-one h all.0, gone-all past all.1)

abbrev GoneIn : List Happening → AskersState → OverValue → Type 0
GoneIn past a o = IsGone (λ n. asking_in n past) a o

gone-event : (past : List Happening) (s : PoolState) (e : PoolEvent) (o : OverValue) → GoneIn past s.traffic.askers o
    → GoneIn (came s e ∷ past) (after_event s e).traffic.askers o
gone-event past s (time_passes at) o w = w
gone-event past s (group_has group servers) o w = w
gone-event past s (is_asked group query options dnssec at) o w =
    gone-asked (λ n. asking_in n past) s.traffic.askers o w
    (asking_told (list_of group s.traffic) (question_of query options dnssec) s)
    (after_event s (is_asked group query options dnssec at)).traffic.askers
    (asked-asking (settings_for s.options options) at s (list_of group s.traffic) (question_of query options dnssec))
gone-event past s (octets_come channel octets at) o w =
    subst (λ (a : AskersState). GoneIn past a o) (sym (came-askers s channel octets at)) w
gone-event past s (channel_fails f at) o w =
    subst (λ (a : AskersState). GoneIn past a o) (sym (failed-askers s f at)) w
gone-event past s (is_forgotten a) o w = gone-forgot (λ n. asking_in n past) s.traffic.askers o w a

-- one that is there has a number that was given
there-old : (A : Asking) (a : AskersState) (n : ℕ) (l : List ℕ) → AreHeard A a → askers_of n a ≡ Some l
    → n < a.next_transaction
there-old A a n l w is = by (leb a.next_transaction n) refl
  where
    none : (At n a.in_flight ≡ None) × (At n a.waiting ≡ None) × (A n ≡ []) → ⊥
    none new =
        let nobody : askers_of n a ≡ None =
        ap (λ (f : Option (List ℕ)). option_or f (option_map (λ x. x.askers) (waiting_at n a))) new.0
        ∙ ap (λ (v : Option WaitingValue). option_map (λ x. x.askers) v) new.1 in
        let no_such : None ≡ Some l = sym nobody ∙ is in cc

    by : (b : Bool) → leb a.next_transaction n ≡ b → n < a.next_transaction
    by true more = absurd (none (w.new n (leb-true a.next_transaction n more)))
    by false less = let more = leb-false a.next_transaction n less in omega (arith, more)

gone-new : (past : List Happening) (s after : PoolState) (o : OverValue) → AreHeard (λ n. asking_in n past) s.traffic.askers
    → Steps s (Some (action.Over o)) after → GoneIn past after.traffic.askers o
gone-new past s after o heard steps =
    let let_go = gone-at_end o s after steps in
    let end = let_go.end in
    let number : o.transaction ≡ end.current.number = ap (λ (x : OverValue). x.transaction) end.told in
    let there : askers_of o.transaction s.traffic.askers ≡ Some o.askers =
    ap (λ (n : ℕ). askers_of n s.traffic.askers) number ∙ end.asked_by
    ∙ ap (λ (l : List ℕ). Some l) (sym (ap (λ (x : OverValue). x.askers) end.told)) in
    let is = heard-at (λ n. asking_in n past) s.traffic.askers o.transaction o.askers heard there in
    let askers : after.traffic.askers ≡ over o.transaction s.traffic.askers =
    ap (λ (u : PoolState). u.traffic.askers) let_go.gone
    ∙ ap (λ (n : ℕ). over n s.traffic.askers) (sym number) in
    subst (λ (a : AskersState). GoneIn past a o) (sym askers) (record {
      old = there-old (λ n. asking_in n past) s.traffic.askers o.transaction o.askers heard there;
      flying = gone-removed o.transaction s.traffic.askers.in_flight heard.flying.apart;
      waiting = gone-removed o.transaction s.traffic.askers.waiting heard.waiting.apart;
      numbers = subst (AllByRecursion (λ k. k < s.traffic.askers.next_asker)) (sym is) (heard.numbers o.transaction);
      elsewhere = λ m other.
          subst (AllByRecursion (IsNoneOf (asking_in m past))) (sym is) (heard.apart o.transaction m other);
    })

gone-runs : (options : OptionsValue) (limits : PoolLimits) (seed : List ℕ) (past : List Happening) (s : PoolState)
    → Runs (no_servers options limits seed) past s
    → AllByRecursion (WasGone (λ n. asking_in n past) s.traffic.askers) past
gone-runs options limits seed _ _ at_first = tt
gone-runs options limits seed _ _ (by_event past s e more) = (
  tt,
  gone-all (λ n. asking_in n past) (λ n. asking_in n (came s e ∷ past)) s.traffic.askers (after_event s e).traffic.askers
      (gone-event past s e) past (gone-runs options limits seed past s more),
)
gone-runs options limits seed _ _ (by_step past s after r is more) = (
  new r is,
  gone-all (λ n. asking_in n past) (λ n. asking_in n past) s.traffic.askers after.traffic.askers
      (λ o w. gone-changed (λ n. asking_in n past) s.traffic.askers o w after.traffic.askers (changed-step s after r is)) past
      (gone-runs options limits seed past s more),
)
  where
    new : (q : Option Action) → Steps s q after → GoneBy (λ n. asking_in n past) after.traffic.askers q
    new None steps = tt
    new (Some action.Continue) steps = tt
    new (Some (action.Open opening)) steps = tt
    new (Some (action.Send sent)) steps = tt
    new (Some (action.Close channel)) steps = tt
    new (Some (action.Over o)) steps = gone-new past s after o (heard-runs options limits seed past s more) steps

-- ---- so it is told of another, and given to nobody

swapped : (xs ys : List ℕ) → AllByRecursion (IsNoneOf ys) xs → AllByRecursion (IsNoneOf xs) ys
swapped xs [] all = tt
swapped xs (y ∷ ys) all = (one xs all, swapped xs ys (rest xs all))
  where
    one : (zs : List ℕ) → AllByRecursion (IsNoneOf (y ∷ ys)) zs → IsNoneOf zs y
    one [] none = tt
    one (z ∷ zs) none = ((λ same. none.0.0 (sym same)), one zs none.1)

    rest : (zs : List ℕ) → AllByRecursion (IsNoneOf (y ∷ ys)) zs → AllByRecursion (IsNoneOf ys) zs
    rest [] none = tt
    rest (z ∷ zs) none = (none.0.1, rest zs none.1)

module _ (past : List Happening) (s : PoolState) where
  abbrev a : AskersState
  a = s.traffic.askers

  elsewhere-one : (o before : OverValue) → askers_of o.transaction a ≡ Some o.askers → o.askers ≡ asking_in o.transaction past
      → GoneIn past a before → IsToldElsewhere o (Some (action.Over before))
  elsewhere-one o before there is gone = (
    apart,
    swapped before.askers o.askers
        (subst (λ (l : List ℕ). AllByRecursion (IsNoneOf l) before.askers) (sym is)
        (gone.elsewhere o.transaction (λ same. apart (sym same)))),
  )
    where
      apart : before.transaction ≡ o.transaction → ⊥
      apart same =
          let nobody : askers_of o.transaction a ≡ None =
          ap (λ (n : ℕ). askers_of n a) (sym same)
          ∙ ap (λ (f : Option (List ℕ)). option_or f (option_map (λ x. x.askers) (waiting_at before.transaction a))) gone.flying
          ∙ ap (λ (v : Option WaitingValue). option_map (λ x. x.askers) v) gone.waiting in
          let no_such : None ≡ Some o.askers = sym nobody ∙ there in cc

  elsewhere-all : (o : OverValue) → askers_of o.transaction a ≡ Some o.askers → o.askers ≡ asking_in o.transaction past
      → (hs : List Happening) → AllByRecursion (WasGone (λ n. asking_in n past) a) hs → AllByRecursion (WasToldElsewhere o) hs
  elsewhere-all o there is [] all = tt
  elsewhere-all o there is (h ∷ hs) all = (one h all.0, elsewhere-all o there is hs all.1)
    where
      by : (r : Option Action) → GoneBy (λ n. asking_in n past) a r → IsToldElsewhere o r
      by None w = tt
      by (Some action.Continue) w = tt
      by (Some (action.Open opening)) w = tt
      by (Some (action.Send sent)) w = tt
      by (Some (action.Close channel)) w = tt
      by (Some (action.Over before)) w = elsewhere-one o before there is w

      one : (g : Happening) → WasGone (λ n. asking_in n past) a g → WasToldElsewhere o g
      one (did u r) w = by r w
      one (came u e) w = tt

  not-next-one : (j : Asker) → told.Asker (next_one a) ≡ told.Asker j → (p : OverValue) → GoneIn past a p
      → (p.transaction ≡ j.transaction → ⊥) × IsNoneOf p.askers j.number
  not-next-one j h p w =
      let same : next_one a ≡ j = cc in
      subst (λ (x : Asker). (p.transaction ≡ x.transaction → ⊥) × IsNoneOf p.askers x.number) same (
        (λ at. let is : p.transaction ≡ a.next_transaction = at in omega (arith, w.old, is)),
        all-as (λ i. i < a.next_asker) (λ i. i ≡ a.next_asker → ⊥) (λ i less at. omega (arith, less, at)) p.askers w.numbers,
      )

  -- who is given an asker is the next, and its transaction is there, or begins
  not-given : (k : Asker) (b : AskersState) (said : Asked) → IsAsked a said b → said ≡ told.Asker k
      → (o : OverValue) → GoneIn past a o → (o.transaction ≡ k.transaction → ⊥) × IsNoneOf o.askers k.number
  not-given k _ _ (joins n j is) e o gone =
      let same : j ≡ k = cc in
      subst (λ (x : Asker). (o.transaction ≡ x.transaction → ⊥) × IsNoneOf o.askers x.number) same
      (by (flying_at n a) (waiting_at n a) refl refl is)
    where
      by : (f : Option (List ℕ)) (v : Option WaitingValue) → flying_at n a ≡ f → waiting_at n a ≡ v
          → cond (is_some f || is_some v) (Some (record { transaction = n; number = a.next_asker })) None ≡ Some j
          → (o.transaction ≡ j.transaction → ⊥) × IsNoneOf o.askers j.number
      by None None fs vs h = absurd cc
      by (Some l) v fs vs h =
          let mine : Asker = record { transaction = n; number = a.next_asker } in
          let same : mine ≡ j = cc in
          subst (λ (x : Asker). (o.transaction ≡ x.transaction → ⊥) × IsNoneOf o.askers x.number) same (
            (λ at. let no_such : None ≡ Some l = sym gone.flying ∙ ap (λ (m : ℕ). flying_at m a) at ∙ fs in absurd cc),
            all-as (λ i. i < a.next_asker) (λ i. i ≡ a.next_asker → ⊥) (λ i less at. omega (arith, less, at)) o.askers gone.numbers,
          )
      by None (Some v) fs vs h =
          let mine : Asker = record { transaction = n; number = a.next_asker } in
          let same : mine ≡ j = cc in
          subst (λ (x : Asker). (o.transaction ≡ x.transaction → ⊥) × IsNoneOf o.askers x.number) same (
            (λ at. let no_such : None ≡ Some v = sym gone.waiting ∙ ap (λ (m : ℕ). waiting_at m a) at ∙ vs in absurd cc),
            all-as (λ i. i < a.next_asker) (λ i. i ≡ a.next_asker → ⊥) (λ i less at. omega (arith, less, at)) o.askers gone.numbers,
          )
  not-given k _ _ (begins until) e o gone = not-next-one k e o gone
  not-given k _ _ (waits until) e o gone = not-next-one k e o gone
  not-given k _ _ none_served e o gone = absurd cc
  not-given k _ _ none_placed e o gone = absurd cc

  given-all_past : (k : Asker) (b : AskersState) (said : Asked) → IsAsked a said b → said ≡ told.Asker k
      → (hs : List Happening) → AllByRecursion (WasGone (λ n. asking_in n past) a) hs → AllByRecursion (WasNotOver k) hs
  given-all_past k b said is e [] all = tt
  given-all_past k b said is e (h ∷ hs) all = (one h all.0, given-all_past k b said is e hs all.1)
    where
      by : (r : Option Action) → GoneBy (λ n. asking_in n past) a r → IsNotOverBy k r
      by None w = tt
      by (Some action.Continue) w = tt
      by (Some (action.Open opening)) w = tt
      by (Some (action.Send sent)) w = tt
      by (Some (action.Close channel)) w = tt
      by (Some (action.Over before)) w = not-given k b said is e before w

      one : (g : Happening) → WasGone (λ n. asking_in n past) a g → WasNotOver k g
      one (did u r) w = by r w
      one (came u f) w = tt

pub over_once : OverOnce
over_once options limits seed past s runs =
    let gone = gone-runs options limits seed past s runs in
    let heard = heard-runs options limits seed past s runs in
    record {
      told = λ after o steps.
          let end = told-at_end o s after steps in
          let number : o.transaction ≡ end.current.number = ap (λ (x : OverValue). x.transaction) end.told in
          let there : askers_of o.transaction s.traffic.askers ≡ Some o.askers =
          ap (λ (n : ℕ). askers_of n s.traffic.askers) number ∙ end.asked_by
          ∙ ap (λ (l : List ℕ). Some l) (sym (ap (λ (x : OverValue). x.askers) end.told)) in
          elsewhere-all past s o there (heard-at (λ n. asking_in n past) s.traffic.askers o.transaction o.askers heard there)
          past gone;
      given = λ list question k says.
          given-all_past past s k (after_asking list question (settings_of s.options) 0 s).traffic.askers
          (asking_told list question s) (asked-asking (settings_of s.options) 0 s list question) says past gone;
    }
