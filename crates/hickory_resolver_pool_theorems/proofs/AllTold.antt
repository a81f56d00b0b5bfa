-- Nobody who asks is lost, and each is told.
use Rattle.std.proofs.Common.{◌≡◌, ℕ, Bool, true, false, cond, not, ◌||◌, eqb, eqb-true, eq-eqb, List, [], ◌∷◌, length, append-nil, refl, ap, sym, subst, ◌∙◌, true≢false, inl, inr, ◌⊎◌, arith}
use Rattle.std.proofs.lemmas.List.Elements.{All-contains, All-contains_itself, All-from_recursion, recursion_from_All}
use Rattle.std.specs.Prelude.{Contains, Option, None, Some}
use Rattle.std.specs.Ordering.{nat_cmp}
use Rattle.std.specs.List.{AllByRecursion, list_any}
use Rattle.std.specs.Map.{lookup}
use Rattle.std.specs.BTreeMap.{is_at}
use Rattle.std.specs.Option.{is_some, option_map_or}
use Rattle.hickory_resolver_askers.specs.Askers.{AskersState, WaitingValue, to_admit, next_one, without, what_is_left, left_of, forgot_as, askers_of}
use Rattle.hickory_resolver_askers.specs.Askers as ask
use Rattle.hickory_resolver_askers.specs.declared.asker.Asker.{Asker}
use Rattle.hickory_resolver_askers.specs.declared.asker.Forgotten.{Forgotten}
use Rattle.hickory_resolver_askers.specs.declared.asker.Forgotten.TheVariants.{Nobody, OthersAsk, Last}
use Rattle.hickory_resolver_config.specs.ResolverConfig.{OptionsValue}
use Rattle.hickory_resolver_tries.specs.Question.{question_of}
use Rattle.hickory_resolver_traffic.specs.Doing.{Scene, doing, doubts_message}
use Rattle.hickory_resolver_traffic.specs.Inbox.{MessageValue, first_message}
use Rattle.hickory_resolver_traffic.specs.Table.{CurrentState, EntryState, entry_at, has_entry}
use Rattle.hickory_resolver_traffic.specs.Tasks.{task_of, after_task, closed, without_taken, current_of}
use Rattle.hickory_resolver_traffic.specs.Traffic.{TrafficState, OutgoingValue}
use Rattle.hickory_resolver_traffic.specs.declared.doing.Doing.{Doing}
use Rattle.hickory_resolver_traffic.specs.declared.tasks.Task.{Task}
use Rattle.hickory_resolver_traffic.specs.declared.tasks.Task.TheVariants as task
use Rattle.hickory_resolver_pool.specs.Laws.{PoolEvent, time_passes, group_has, is_asked, octets_come, channel_fails, is_forgotten, after_event}
use Rattle.hickory_resolver_pool.specs.Over.{OverValue}
use Rattle.hickory_resolver_pool.specs.Pool.{PoolState, no_servers, settings_for, list_of, asking_told, after_tick, over_of, over_or_continue, let_go_action, scene_of, is_end, is_put, StepsBy, StepsIn, StepsAs, Steps}
use Rattle.hickory_resolver_pool.specs.declared.limits.PoolLimits.{PoolLimits}
use Rattle.hickory_resolver_pool.specs.declared.pool.Action.{Action}
use Rattle.hickory_resolver_pool.specs.declared.pool.Action.TheVariants as action
use Rattle.hickory_resolver_pool.specs.declared.pool.Asked.{Asked}
use Rattle.hickory_resolver_pool_theorems.specs.Agreement.{Has, in_table, in_hand}
use Rattle.hickory_resolver_pool_theorems.specs.AllTold.{WasTold, NoAskerIsLost, AllWereTold, ComesToTellAll, all_told, steps_on, waits, EachAskerIsTold}
use Rattle.hickory_resolver_pool_theorems.specs.Rest.{ComesToEnd}
use Rattle.hickory_resolver_pool_theorems.specs.Rest as rest
use Rattle.hickory_resolver_pool_theorems.specs.Runs.{Happening, came, did, Runs, at_first, by_event, by_step}
use Rattle.hickory_resolver_pool_theorems.specs.Tellings.{asking_in}
use Rattle.hickory_resolver_pool_theorems.proofs.Asked.{next-one_freed, next-freed_first}
use Rattle.hickory_resolver_pool_theorems.proofs.Askings.{put-is}
use Rattle.hickory_resolver_pool_theorems.proofs.ByNumber.{all-as, without-cons}
use Rattle.hickory_resolver_pool_theorems.proofs.Guards.{Why, why-task}
use Rattle.hickory_resolver_pool_theorems.proofs.Hearing.{Asking, AreHeard, Forgot, given-all, forgot-all}
use Rattle.hickory_resolver_pool_theorems.proofs.Later.{over-grows}
use Rattle.hickory_resolver_pool_theorems.proofs.Owned.{IsThere, stands, is_worked}
use Rattle.hickory_resolver_pool_theorems.proofs.Resting.{each_comes_to_end}
use Rattle.hickory_resolver_pool_theorems.proofs.Scenes.{same-done}
use Rattle.hickory_resolver_pool_theorems.proofs.Shapes.{IsStep, goes_out, begins, does, puts, ends, step-is}
use Rattle.hickory_resolver_pool_theorems.proofs.Tellings.{After, IsAsked, joins, none_served, none_placed, asked-asking, came-askers, failed-askers, heard-runs, heard-at}
use Rattle.hickory_resolver_pool_theorems.proofs.Tellings as tellings
use Rattle.hickory_resolver_pool_theorems.proofs.Unasked.{IsUnasked, AreSafe, was-over, was-admitted, was-joined, was-with_others, begun-flying, begun-waiting, unasked-none, joins-asked, safe-runs}

-- ---- where nobody asks for a transaction after a step, nobody did before, or those who did are told

-- the step says that it is over, to all who ask for it
pub record IsToldNow (s : PoolState) (r : Option Action) (n : ℕ) : Type 0 where
  pub over : OverValue
  pub action_is : r ≡ Some (action.Over over)
  pub number : over.transaction ≡ n
  pub asked_by : askers_of n s.traffic.askers ≡ Some over.askers

was-task : (n : ℕ) (t : TrafficState) (what : Task) → Why t what
    → ((m : ℕ) → has_entry m t.table ≡ false → IsUnasked m t.askers) → IsUnasked n (after_task what t).askers
    → IsUnasked n t.askers
was-task n t task.Opens why safe w = w
was-task n t task.Writes why safe w = w
was-task n t task.Doubts why safe w = by (first_message t.inbox) w
  where
    by : (m : Option MessageValue) → IsUnasked n (option_map_or (doubts_message t) m t).askers → IsUnasked n t.askers
    by None h = h
    by (Some m) h = h
was-task n t task.PassesBy why safe w = w
was-task n t (task.Cuts channel) why safe w = w
was-task n t (task.ClosesFailed channel) why safe w = subst (IsUnasked n) (next-freed_first (closed channel t)) w
was-task n t task.DropsFailure why safe w = w
was-task n t (task.TakesReady m) why safe w = w
was-task n t (task.TakesUp m to_do) why safe w = w
was-task n t (task.Undates due m) why safe w = w
was-task n t (task.Strays m) why safe w = by (eqb n m) refl
  where
    by : (b : Bool) → eqb n m ≡ b → IsUnasked n t.askers
    by true same = subst (λ (k : ℕ). IsUnasked k t.askers) (sym (eqb-true n m same)) (safe m why)
    by false apart = was-over n t.askers m apart w
was-task n t (task.Unblocks m) why safe w = w
was-task n t (task.ClosesIdle channel) why safe w = subst (IsUnasked n) (next-one_freed (closed channel t)) w
was-task n t task.Admits why safe w = by (to_admit t.askers) w
  where
    by : (first : Option (ℕ × WaitingValue))
        → IsUnasked n (option_map_or (λ f. without_taken f.0 (record t { askers = ask.admitted t.askers })) first t).askers
        → IsUnasked n t.askers
    by None h = h
    by (Some f) h = was-admitted n t.askers h

module _ (s t : PoolState) (r : Option Action) (steps : Steps s r t) where
  ended-action : (c : CurrentState) → s.traffic.outgoing ≡ None → s.current ≡ Some c → is_end (doing c s.traffic) ≡ true
      → r ≡ Some (let_go_action (doing c s.traffic) c s)
  ended-action c calm works e =
      let what : Doing = doing c s.traffic in
      let one : StepsAs false s r t = subst (λ (o : Option OutgoingValue). StepsAs (is_some o) s r t) calm steps in
      let two : StepsIn (Some c) s r t = subst (λ (x : Option CurrentState). StepsIn x s r t) works one in
      let three : StepsBy true (is_put what) what c s r t =
      subst (λ (b : Bool). StepsBy b (is_put what) what c s r t) e two in
      three.action

  was-step : (n : ℕ) → AreSafe s → IsStep s t → IsUnasked n t.traffic.askers
      → IsUnasked n s.traffic.askers ⊎ IsToldNow s r n
  was-step n safe (goes_out o out current traffic is) w =
      inl (subst (IsUnasked n) (ap (λ (u : TrafficState). u.askers) traffic) w)
  was-step n safe (begins calm none is) w =
      inl (was-task n s.traffic (task_of s.traffic) (why-task s.traffic calm) (λ m lacks. unasked m lacks (safe m))
      (subst (IsUnasked n) (ap (λ (u : PoolState). u.traffic.askers) is) w))
    where
      unasked : (m : ℕ) → has_entry m s.traffic.table ≡ false
          → IsThere s.traffic.table.entries s.current m ⊎ IsUnasked m s.traffic.askers → IsUnasked m s.traffic.askers
      unasked m lacks (inl (stands there)) = absurd (true≢false (sym there ∙ lacks))
      unasked m lacks (inl (is_worked d works same)) = let no_such : None ≡ Some d = sym none ∙ works in absurd cc
      unasked m lacks (inr h) = h
  was-step n safe (does c after calm works at is) w =
      let y : Scene = record { traffic = t.traffic; current = after } in
      inl (subst (IsUnasked n) (same-done (doing c s.traffic) (scene_of s c) y is).askers w)
  was-step n safe (puts c calm works p is) w =
      inl (subst (IsUnasked n) (ap (λ (u : PoolState). u.traffic.askers) is ∙ (put-is (doing c s.traffic) c s).askers) w)
  was-step n safe (ends c calm works e is) w = by (eqb n c.number) refl
    where
      a : AskersState
      a = s.traffic.askers

      own : (o : Option (List ℕ)) → askers_of c.number a ≡ o → n ≡ c.number → IsUnasked n a ⊎ IsToldNow s r n
      own None none same = inl (unasked-none n a (ap (λ (k : ℕ). askers_of k a) same ∙ none))
      own (Some askers) there same = inr (record {
        over = over_of (doing c s.traffic) c askers;
        action_is = ended-action c calm works e
            ∙ ap (λ (o : Option (List ℕ)). Some (over_or_continue (doing c s.traffic) c o)) there;
        number = sym same;
        asked_by = ap (λ (k : ℕ). askers_of k a) same ∙ there;
      })

      by : (b : Bool) → eqb n c.number ≡ b → IsUnasked n a ⊎ IsToldNow s r n
      by true same = own (askers_of c.number a) refl (eqb-true n c.number same)
      by false apart =
          inl (was-over n a c.number apart (subst (IsUnasked n) (ap (λ (u : PoolState). u.traffic.askers) is) w))

-- ---- events: of those who asked for what nobody asks for any more, something holds

-- without the only one there is none
without-only : (k : ℕ) (l : List ℕ) → what_is_left k l ≡ Last → without k l ≡ []
without-only k [] h = refl
without-only k (x ∷ []) h = without-cons k x [] ∙ by (eqb x k) h
  where
    by : (b : Bool) → cond (not (b || false)) Nobody (cond (eqb (length (x ∷ [])) 1) Last OthersAsk) ≡ Last
        → cond b [] (x ∷ without k []) ≡ []
    by true g = refl
    by false g = absurd cc
without-only k (x ∷ y ∷ ys) h = absurd (by (list_any (λ n. eqb n k) (x ∷ y ∷ ys)) (eqb (length (x ∷ y ∷ ys)) 1) refl h)
  where
    by : (any one : Bool) → eqb (length (x ∷ y ∷ ys)) 1 ≡ one → cond (not any) Nobody (cond one Last OthersAsk) ≡ Last
        → ⊥
    by false one is g = cc
    by true false is g = cc
    by true true is g = let few : length (x ∷ y ∷ ys) ≡ 1 = eqb-true (length (x ∷ y ∷ ys)) 1 is in omega arith

module _ (P : ℕ → ℕ → Type 0) (A : Asking) (a : AskersState)
    (w : (n : ℕ) → IsUnasked n a → AllByRecursion (P n) (A n)) where
  abbrev HoldsOf : Asking → AskersState → Type 0
  HoldsOf B b = (n : ℕ) → IsUnasked n b → AllByRecursion (P n) (B n)

  all-asked : (b : AskersState) (said : Asked) → IsAsked a said b → HoldsOf (After A said) b
  all-asked _ _ (joins m k is) n none =
      let old : IsUnasked n a = was-joined n a m none in
      given-all (P n) A k n (w n old)
      (λ same. absurd (joins-asked m k a is (subst (λ (j : ℕ). IsUnasked j a) (sym (eqb-true k.transaction n same)) old)))
  all-asked _ _ (tellings.begins until) n none =
      let old = begun-flying n a until none in
      given-all (P n) A (next_one a) n (w n old.1)
      (λ same. absurd (true≢false (sym (eq-eqb n a.next_transaction (sym (eqb-true a.next_transaction n same))) ∙ old.0)))
  all-asked _ _ (tellings.waits until) n none =
      let old = begun-waiting n a until none in
      given-all (P n) A (next_one a) n (w n old.1)
      (λ same. absurd (true≢false (sym (eq-eqb n a.next_transaction (sym (eqb-true a.next_transaction n same))) ∙ old.0)))
  all-asked _ _ none_served n none = subst (AllByRecursion (P n)) (sym (append-nil (A n))) (w n none)
  all-asked _ _ none_placed n none = subst (AllByRecursion (P n)) (sym (append-nil (A n))) (w n none)

  module _ (heard : AreHeard A a) (k : Asker) where
    last-empty : left_of k a ≡ Last → without k.number (A k.transaction) ≡ []
    last-empty = by (askers_of k.transaction a) refl
      where
        by : (o : Option (List ℕ)) → askers_of k.transaction a ≡ o
            → option_map_or (what_is_left k.number) o Nobody ≡ Last → without k.number (A k.transaction) ≡ []
        by None at h = absurd cc
        by (Some l) at h =
            subst (λ (x : List ℕ). without k.number x ≡ []) (heard-at A a k.transaction l heard at)
            (without-only k.number l h)

    all-forgot : HoldsOf (Forgot A k) (ask.forgot k a)
    all-forgot n = by (left_of k a) refl
      where
        none-left : left_of k a ≡ Last → n ≡ k.transaction → Forgot A k n ≡ []
        none-left is same =
            ap (λ (b : Bool). cond b (without k.number (A n)) (A n)) (eq-eqb k.transaction n (sym same))
            ∙ ap (λ (m : ℕ). without k.number (A m)) same ∙ last-empty is

        by : (f : Forgotten) → left_of k a ≡ f → IsUnasked n (forgot_as f k a) → AllByRecursion (P n) (Forgot A k n)
        by Nobody is h = forgot-all (P n) A k n (w n h)
        by OthersAsk is h = forgot-all (P n) A k n (w n (was-with_others n a k h))
        by Last is h = on (eqb n k.transaction) refl
          where
            on : (b : Bool) → eqb n k.transaction ≡ b → AllByRecursion (P n) (Forgot A k n)
            on true same =
                subst (AllByRecursion (P n)) (sym (none-left is (eqb-true n k.transaction same))) tt
            on false apart = forgot-all (P n) A k n (w n (was-over n a k.transaction apart h))

-- ---- so they were told

module _ (first : PoolState) where
  -- all who asked for what nobody asks for any more
  abbrev AreTold : List Happening → AskersState → Type 0
  AreTold past a = (n : ℕ) → IsUnasked n a → AllByRecursion (WasTold first past n) (asking_in n past)

  module _ (past : List Happening) (s : PoolState) (w : AreTold past s.traffic.askers) where
    told-later : (h : Happening) (n : ℕ) → IsUnasked n s.traffic.askers
        → AllByRecursion (WasTold first (h ∷ past) n) (asking_in n past)
    told-later h n none =
        all-as (WasTold first past n) (WasTold first (h ∷ past) n)
        (λ k was. record {
          over = was.over;
          was_over = over-grows first (h ∷ []) past was.over was.was_over;
          number = was.number;
          told = was.told;
        }) (asking_in n past) (w n none)

    told-event : AreHeard (λ n. asking_in n past) s.traffic.askers → (e : PoolEvent)
        → AreTold (came s e ∷ past) (after_event s e).traffic.askers
    told-event heard (time_passes at) = told-later (came s (time_passes at))
    told-event heard (group_has group servers) = told-later (came s (group_has group servers))
    told-event heard (is_asked group query options dnssec at) =
        all-asked (λ n. WasTold first (came s (is_asked group query options dnssec at) ∷ past) n) (λ n. asking_in n past)
        s.traffic.askers (told-later (came s (is_asked group query options dnssec at)))
        (after_event s (is_asked group query options dnssec at)).traffic.askers
        (asking_told (list_of group s.traffic) (question_of query options dnssec) s)
        (asked-asking (settings_for s.options options) at s (list_of group s.traffic) (question_of query options dnssec))
    told-event heard (octets_come channel octets at) = λ n none.
        told-later (came s (octets_come channel octets at)) n (subst (IsUnasked n) (came-askers s channel octets at) none)
    told-event heard (channel_fails f at) = λ n none.
        told-later (came s (channel_fails f at)) n (subst (IsUnasked n) (failed-askers s f at) none)
    told-event heard (is_forgotten k) =
        all-forgot (λ n. WasTold first (came s (is_forgotten k) ∷ past) n) (λ n. asking_in n past) s.traffic.askers
        (told-later (came s (is_forgotten k))) heard k

    told-step : (t : PoolState) (r : Option Action) → Runs first past s → AreHeard (λ n. asking_in n past) s.traffic.askers
        → AreSafe s → Steps s r t → AreTold (did s r ∷ past) t.traffic.askers
    told-step t r runs heard safe steps n none = by (was-step s t r steps n safe (step-is s t r steps) none)
      where
        by : IsUnasked n s.traffic.askers ⊎ IsToldNow s r n
            → AllByRecursion (WasTold first (did s r ∷ past) n) (asking_in n past)
        by (inl old) = told-later (did s r) n old
        by (inr now) =
            let askers : List ℕ = now.over.askers in
            let is : askers ≡ asking_in n past =
            heard-at (λ m. asking_in m past) s.traffic.askers n askers heard now.asked_by in
            subst (AllByRecursion (WasTold first (did s r ∷ past) n)) is
            (all-as (Contains askers) (WasTold first (did s r ∷ past) n)
            (λ k among. record {
              over = now.over;
              was_over = record {
                later = [];
                earlier = past;
                before = s;
                after = t;
                happened = ap (λ (x : Option Action). did s x ∷ past) now.action_is;
                runs = runs;
                ends = subst (λ (x : Option Action). Steps s x t) now.action_is steps;
              };
              number = now.number;
              told = among;
            }) askers (recursion_from_All (Contains askers) askers (All-contains_itself askers)))

told-runs : (options : OptionsValue) (limits : PoolLimits) (seed : List ℕ) (past : List Happening) (s : PoolState)
    → Runs (no_servers options limits seed) past s → AreTold (no_servers options limits seed) past s.traffic.askers
told-runs options limits seed _ _ at_first = λ n none. tt
told-runs options limits seed _ _ (by_event past s e more) =
    told-event (no_servers options limits seed) past s (told-runs options limits seed past s more)
    (heard-runs options limits seed past s more) e
told-runs options limits seed _ _ (by_step past s after r is more) =
    told-step (no_servers options limits seed) past s (told-runs options limits seed past s more) after r more
    (heard-runs options limits seed past s more) (safe-runs options limits seed past s more) is

has-there : (s : PoolState) (n : ℕ) → IsThere s.traffic.table.entries s.current n → (e : EntryState) × Has s n e
has-there s n (stands there) = by (entry_at n s.traffic.table) refl there
  where
    by : (o : Option EntryState) → entry_at n s.traffic.table ≡ o → is_some o ≡ true → (e : EntryState) × Has s n e
    by None at h = absurd (true≢false (sym h))
    by (Some e) at h = (e, in_table at)
has-there s n (is_worked d works same) = (
  d.entry,
  in_hand d.to_do
      (works ∙ ap (λ (m : ℕ). Some (record d { number = m })) same),
)

pub no_asker_is_lost : NoAskerIsLost
no_asker_is_lost options limits seed past s n asker runs asks = by (safe-runs options limits seed past s runs n)
  where
    first : PoolState
    first = no_servers options limits seed

    by : IsThere s.traffic.table.entries s.current n ⊎ IsUnasked n s.traffic.askers
        → ((e : EntryState) × Has s n e) ⊎ WasTold first past n asker
    by (inl there) = inl (has-there s n there)
    by (inr none) =
        inr (All-contains (WasTold first past n) (asking_in n past) asker
        (All-from_recursion (WasTold first past n) (asking_in n past) (told-runs options limits seed past s runs n none)) asks)

-- ---- where no transaction is left all were told

module _ (options : OptionsValue) (limits : PoolLimits) (seed : List ℕ) where
  abbrev start : PoolState
  start = no_servers options limits seed

  told-at_end : (past : List Happening) (s : PoolState) → Runs start past s → s.traffic.table.entries ≡ []
      → s.current ≡ None → AllWereTold start past
  told-at_end past s runs entries none n asker asks =
      by (no_asker_is_lost options limits seed past s n asker runs asks)
    where
      none-there : (e : EntryState) → Has s n e → ⊥
      none-there e (in_table at) =
          let nothing : None ≡ Some e =
          sym (ap (λ (es : List (ℕ × EntryState)). lookup (is_at (nat_cmp n)) es) entries) ∙ at in
          cc
      none-there e (in_hand to_do works) =
          let nothing : None ≡ Some (current_of n to_do e) = sym none ∙ works in cc

      by : ((e : EntryState) × Has s n e) ⊎ WasTold start past n asker → WasTold start past n asker
      by (inl there) = absurd (none-there there.0 there.1)
      by (inr was) = was

  tells-all : (s : PoolState) → ComesToEnd s → (past : List Happening) → Runs start past s → ComesToTellAll start past s
  tells-all _ (rest.none_left s entries none) past runs = all_told past s (told-at_end past s runs entries none)
  tells-all _ (rest.steps_on s more) past runs =
      steps_on past s (λ r t is. tells-all t (more r t is) (did s r ∷ past) (by_step past s t r is runs))
  tells-all _ (rest.waits s due idle next more) past runs =
      waits past s due idle next
      (λ now late. tells-all (after_tick now s) (more now late) (came s (time_passes now) ∷ past)
      (by_event past s (time_passes now) runs))

pub each_asker_is_told : EachAskerIsTold
each_asker_is_told options limits seed past s runs short =
    tells-all options limits seed s (each_comes_to_end options limits seed past s runs short) past runs
