-- A transaction that nobody asks for; and each that somebody asks for is there, in the table or in hand.
use Rattle.std.proofs.Common.{◌≡◌, ℕ, Bool, true, false, cond, ◌||◌, eqb, eqb-true, List, [], ◌∷◌, ◌++◌, drop, refl, ap, sym, subst, ◌∙◌, inl, inr, ◌⊎◌}
use Rattle.std.specs.Prelude.{Option, None, Some, slice_get}
use Rattle.std.specs.Ordering.{nat_cmp}
use Rattle.std.specs.Map.{remove_entry, set_value}
use Rattle.std.specs.BTreeMap.{insert_entry, is_at}
use Rattle.std.specs.Option.{is_some, option_map, option_map_or, option_or}
use Rattle.hickory_resolver_askers.specs.Askers.{AskersState, WaitingValue, has_place, first_waiting, flying_at, waiting_at, askers_of, is_flying, is_waiting, joiner, joined_flying, joined_waiting, with_asker, without, without_asker, left_of, forgot_as, admitted_one, place_for}
use Rattle.hickory_resolver_askers.specs.Askers as ask
use Rattle.hickory_resolver_askers.specs.declared.asker.Asker.{Asker}
use Rattle.hickory_resolver_askers.specs.declared.asker.Forgotten.{Forgotten}
use Rattle.hickory_resolver_askers.specs.declared.asker.Forgotten.TheVariants.{Nobody, OthersAsk, Last}
use Rattle.hickory_resolver_askers.specs.declared.asker.Place.{Place}
use Rattle.hickory_resolver_askers.specs.declared.asker.Place.TheVariants.{InFlight, Waits, Overloaded}
use Rattle.hickory_resolver_channels.specs.Channels.{channel_at}
use Rattle.hickory_resolver_channels.specs.declared.channel.Channel.{Channel}
use Rattle.hickory_resolver_config.specs.ResolverConfig.{OptionsValue}
use Rattle.hickory_resolver_tries.specs.Question.{question_of}
use Rattle.hickory_resolver_tries.specs.declared.pool_question.PoolQuestion.{PoolQuestion}
use Rattle.hickory_resolver_transactions.specs.declared.settings.Settings.{Settings}
use Rattle.hickory_resolver_traffic.specs.Doing.{doing}
use Rattle.hickory_resolver_traffic.specs.Groups.{GroupListState, list_at}
use Rattle.hickory_resolver_traffic.specs.Table.{CurrentState, EntryState}
use Rattle.hickory_resolver_traffic.specs.Tasks.{task_of, after_task, did}
use Rattle.hickory_resolver_traffic.specs.Traffic.{TrafficState, ticked, joined, begun, begun_as, begun_with, entry_of, until_of, came, came_on, failed, failed_on}
use Rattle.hickory_resolver_traffic.specs.declared.inbox.ChannelFailure.{ChannelFailure}
use Rattle.hickory_resolver_traffic.specs.declared.tasks.Task.{Task}
use Rattle.hickory_resolver_pool.specs.Laws.{PoolEvent, time_passes, group_has, is_asked, octets_come, channel_fails, is_forgotten, after_event}
use Rattle.hickory_resolver_pool.specs.Pool.{PoolState, AskedOf, no_servers, settings_for, list_of, joiner_of, join_in, join_or_begin, ask_of, after_asking, current_after, scene_of}
use Rattle.hickory_resolver_pool.specs.Pool as pool
use Rattle.hickory_resolver_pool.specs.declared.limits.PoolLimits.{PoolLimits}
use Rattle.hickory_resolver_pool_theorems.specs.Runs.{Happening, Runs, at_first, by_event, by_step}
use Rattle.hickory_resolver_pool_theorems.specs.Tellings.{asking_in}
use Rattle.hickory_resolver_pool_theorems.proofs.Askings.{put-is}
use Rattle.hickory_resolver_pool_theorems.proofs.ByNumber.{At, none-inserted, none-removed, none-dropped, none-changed, first-apart}
use Rattle.hickory_resolver_pool_theorems.proofs.Hearing.{Asking, AreHeard}
use Rattle.hickory_resolver_pool_theorems.proofs.Keys.{nat-self, apart-is, found-inserted, others-inserted, found-set, others-set, others-removed, gone-removed}
use Rattle.hickory_resolver_pool_theorems.proofs.Numbers.{takes-task}
use Rattle.hickory_resolver_pool_theorems.proofs.Owned.{IsThere, stands, is_worked, there-inserted, own-inserted, there-taken}
use Rattle.hickory_resolver_pool_theorems.proofs.Scenes.{same-done}
use Rattle.hickory_resolver_pool_theorems.proofs.Shapes.{IsStep, goes_out, begins, does, puts, ends, step-is}
use Rattle.hickory_resolver_pool_theorems.proofs.Tellings.{IsChanged, stays, is_over, is_admitted, changed-step, heard-runs}
use Rattle.hickory_resolver_pool_theorems.proofs.Traces.{current-event}

-- it is not in flight, and does not wait for a place
pub record IsUnasked (n : ℕ) (a : AskersState) : Type 0 where
  pub flying : At n a.in_flight ≡ None
  pub waiting : At n a.waiting ≡ None

-- ---- where nothing is under a number after a change, nothing was before

module _ {X : Type 0} (q k : ℕ) where
  was-inserted : (v : X) (es : List (ℕ × X)) → At q (insert_entry nat_cmp es k v) ≡ None
      → (eqb q k ≡ false) × (At q es ≡ None)
  was-inserted v es none = by (eqb q k) refl
    where
      by : (b : Bool) → eqb q k ≡ b → (eqb q k ≡ false) × (At q es ≡ None)
      by true is =
          let no_such : None ≡ Some v =
          sym none ∙ ap (λ (m : ℕ). At m (insert_entry nat_cmp es k v)) (eqb-true q k is) ∙ found-inserted nat_cmp nat-self k v es in
          absurd cc
      by false is = (is, sym (others-inserted q k (apart-is q k is) v es) ∙ none)

  was-set : (v : X) (es : List (ℕ × X)) → At q (set_value (is_at (nat_cmp k)) es v) ≡ None → At q es ≡ None
  was-set v es none = by (eqb q k) (At k es) refl refl
    where
      by : (b : Bool) (o : Option X) → eqb q k ≡ b → At k es ≡ o → At q es ≡ None
      by false o is at = sym (others-set q k (apart-is q k is) v es) ∙ none
      by true None is at = ap (λ (m : ℕ). At m es) (eqb-true q k is) ∙ at
      by true (Some old) is at =
          let no_such : None ≡ Some v =
          sym none ∙ ap (λ (m : ℕ). At m (set_value (is_at (nat_cmp k)) es v)) (eqb-true q k is)
          ∙ found-set (is_at (nat_cmp k)) es old v at in
          absurd cc

  was-changed : (change : X → X) (es : List (ℕ × X))
      → At q (option_map_or (λ x. set_value (is_at (nat_cmp k)) es (change x)) (At k es) es) ≡ None → At q es ≡ None
  was-changed change es none = by (At k es) none
    where
      by : (o : Option X) → At q (option_map_or (λ x. set_value (is_at (nat_cmp k)) es (change x)) o es) ≡ None
          → At q es ≡ None
      by None h = h
      by (Some x) h = was-set (change x) es h

  was-removed : (es : List (ℕ × X)) → eqb q k ≡ false → At q (remove_entry (is_at (nat_cmp k)) es) ≡ None
      → At q es ≡ None
  was-removed es apart none = sym (others-removed q k (apart-is q k apart) es) ∙ none

was-dropped : {X : Type 0} (q : ℕ) (f : ℕ × X) (es : List (ℕ × X)) → slice_get es 0 ≡ Some f → eqb q f.0 ≡ false
    → At q (drop 1 es) ≡ None → At q es ≡ None
was-dropped q f [] is apart none = none
was-dropped {X} q f (e ∷ es) is apart none =
    let same : ◌≡◌ {A = ℕ × X} e f = cc in
    let other : is_at (nat_cmp q) e.0 ≡ false = apart-is q e.0 (ap (λ (g : ℕ × X). eqb q g.0) same ∙ apart) in
    ap (λ (b : Bool). cond b (Some e.1) (At q es)) other ∙ none

-- ---- what becomes of that

module _ (n : ℕ) (a : AskersState) where
  pub unasked-over : (m : ℕ) → IsUnasked n a → IsUnasked n (ask.over m a)
  unasked-over m w = record {
    flying = none-removed n m a.in_flight w.flying;
    waiting = none-removed n m a.waiting w.waiting;
  }

  pub was-over : (m : ℕ) → eqb n m ≡ false → IsUnasked n (ask.over m a) → IsUnasked n a
  was-over m apart w = record {
    flying = was-removed n m a.in_flight apart w.flying;
    waiting = was-removed n m a.waiting apart w.waiting;
  }

  unasked-admitted : IsUnasked n a → IsUnasked n (ask.admitted a)
  unasked-admitted w = by (has_place a) (first_waiting a) refl
    where
      by : (place : Bool) (f : Option (ℕ × WaitingValue)) → first_waiting a ≡ f
          → IsUnasked n (option_map_or (admitted_one a) (cond place f None) a)
      by true None is = w
      by true (Some f) is = record {
        flying = none-inserted n f.0 f.1.askers a.in_flight (first-apart n f a.waiting w.waiting is) w.flying;
        waiting = none-dropped n a.waiting w.waiting;
      }
      by false f is = w

  pub was-admitted : IsUnasked n (ask.admitted a) → IsUnasked n a
  was-admitted = by (has_place a) (first_waiting a) refl
    where
      by : (place : Bool) (f : Option (ℕ × WaitingValue)) → first_waiting a ≡ f
          → IsUnasked n (option_map_or (admitted_one a) (cond place f None) a) → IsUnasked n a
      by true None is w = w
      by true (Some f) is w =
          let old = was-inserted n f.0 f.1.askers a.in_flight w.flying in
          record { flying = old.1; waiting = was-dropped n f a.waiting is old.0 w.waiting }
      by false f is w = w

  pub unasked-changed : (b : AskersState) → IsChanged a b → IsUnasked n a → IsUnasked n b
  unasked-changed _ stays w = w
  unasked-changed _ (is_over m) w = unasked-over m w
  unasked-changed _ is_admitted w = unasked-admitted w

  unasked-joined : (m : ℕ) → IsUnasked n a → IsUnasked n (ask.joined m a)
  unasked-joined m w = by (is_flying m a) (is_waiting m a)
    where
      by : (f v : Bool) → IsUnasked n (cond {A = AskersState} f (joined_flying m a) (cond v (joined_waiting m a) a))
      by true v = record {
        flying = none-changed n m (λ l. l ++ a.next_asker ∷ []) a.in_flight w.flying;
        waiting = w.waiting;
      }
      by false true = record {
        flying = w.flying;
        waiting = none-changed n m (λ l. with_asker a.next_asker l) a.waiting w.waiting;
      }
      by false false = w

  pub was-joined : (m : ℕ) → IsUnasked n (ask.joined m a) → IsUnasked n a
  was-joined m = by (is_flying m a) (is_waiting m a)
    where
      by : (f v : Bool) → IsUnasked n (cond {A = AskersState} f (joined_flying m a) (cond v (joined_waiting m a) a))
          → IsUnasked n a
      by true v w = record {
        flying = was-changed n m (λ l. l ++ a.next_asker ∷ []) a.in_flight w.flying;
        waiting = w.waiting;
      }
      by false true w = record {
        flying = w.flying;
        waiting = was-changed n m (λ l. with_asker a.next_asker l) a.waiting w.waiting;
      }
      by false false w = w

  unasked-begun : (p : Place) (until : ℕ) → eqb n a.next_transaction ≡ false → IsUnasked n a
      → IsUnasked n (ask.begun_in p until a)
  unasked-begun InFlight until apart w = record {
    flying = none-inserted n a.next_transaction (a.next_asker ∷ []) a.in_flight apart w.flying;
    waiting = w.waiting;
  }
  unasked-begun Waits until apart w = record {
    flying = w.flying;
    waiting = none-inserted n a.next_transaction (record { until = until; askers = a.next_asker ∷ [] }) a.waiting apart w.waiting;
  }
  unasked-begun Overloaded until apart w = w

  unasked-forgot : (k : Asker) → IsUnasked n a → IsUnasked n (ask.forgot k a)
  unasked-forgot k w = by (left_of k a)
    where
      by : (f : Forgotten) → IsUnasked n (forgot_as f k a)
      by Nobody = w
      by OthersAsk = record {
        flying = none-changed n k.transaction (without k.number) a.in_flight w.flying;
        waiting = none-changed n k.transaction (without_asker k.number) a.waiting w.waiting;
      }
      by Last = unasked-over k.transaction w

  pub was-with_others : (k : Asker) → IsUnasked n (forgot_as OthersAsk k a) → IsUnasked n a
  was-with_others k w = record {
    flying = was-changed n k.transaction (without k.number) a.in_flight w.flying;
    waiting = was-changed n k.transaction (without_asker k.number) a.waiting w.waiting;
  }

  pub begun-flying : (until : ℕ) → IsUnasked n (ask.begun_in InFlight until a)
      → (eqb n a.next_transaction ≡ false) × IsUnasked n a
  begun-flying until w =
      let old = was-inserted n a.next_transaction (a.next_asker ∷ []) a.in_flight w.flying in
      (old.0, record { flying = old.1; waiting = w.waiting })

  pub begun-waiting : (until : ℕ) → IsUnasked n (ask.begun_in Waits until a)
      → (eqb n a.next_transaction ≡ false) × IsUnasked n a
  begun-waiting until w =
      let one : WaitingValue = record { until = until; askers = a.next_asker ∷ [] } in
      let old = was-inserted n a.next_transaction one a.waiting w.waiting in
      (old.0, record { flying = w.flying; waiting = old.1 })

  -- it has no askers
  pub unasked-none : askers_of n a ≡ None → IsUnasked n a
  unasked-none none = by (flying_at n a) (waiting_at n a) refl refl none
    where
      by : (f : Option (List ℕ)) (v : Option WaitingValue) → flying_at n a ≡ f → waiting_at n a ≡ v
          → option_or f (option_map (λ x. x.askers) v) ≡ None → IsUnasked n a
      by None None fs vs h = record { flying = fs; waiting = vs }
      by None (Some v) fs vs h = absurd cc
      by (Some l) v fs vs h = absurd cc

-- who joins one joins one that is asked for
pub joins-asked : (m : ℕ) (k : Asker) (a : AskersState) → joiner m a ≡ Some k → IsUnasked k.transaction a → ⊥
joins-asked m k a is w = by (flying_at m a) (waiting_at m a) refl refl is
  where
    mine : Asker
    mine = record { transaction = m; number = a.next_asker }

    by : (f : Option (List ℕ)) (v : Option WaitingValue) → flying_at m a ≡ f → waiting_at m a ≡ v
        → cond (is_some f || is_some v) (Some (record { transaction = m; number = a.next_asker })) None ≡ Some k → ⊥
    by None None fs vs h = absurd cc
    by (Some l) v fs vs h =
        let same : mine ≡ k = cc in
        let no_such : None ≡ Some l =
        sym w.flying ∙ ap (λ (x : Asker). flying_at x.transaction a) (sym same) ∙ fs in
        cc
    by None (Some v) fs vs h =
        let same : mine ≡ k = cc in
        let no_such : None ≡ Some v =
        sym w.waiting ∙ ap (λ (x : Asker). waiting_at x.transaction a) (sym same) ∙ vs in
        cc

-- ---- each that somebody asks for is there

abbrev IsSafe : ℕ → Option CurrentState → TrafficState → Type 0
IsSafe n c t = IsThere t.table.entries c n ⊎ IsUnasked n t.askers

abbrev pub AreSafe : PoolState → Type 0
AreSafe s = (n : ℕ) → IsSafe n s.current s.traffic

there-as : (n : ℕ) (es fs : List (ℕ × EntryState)) (c d : Option CurrentState) → fs ≡ es → d ≡ c → IsThere es c n
    → IsThere fs d n
there-as n es fs c d entries current w =
    subst (λ (x : List (ℕ × EntryState)). IsThere x d n) (sym entries)
    (subst (λ (x : Option CurrentState). IsThere es x n) (sym current) w)

-- ---- events

module _ (n : ℕ) (c : Option CurrentState) where
  there-entered : (m : ℕ) (e : EntryState) (es : List (ℕ × EntryState)) → IsThere es c n
      → IsThere (insert_entry nat_cmp es m e) c n
  there-entered m e es (stands h) = stands (there-inserted n m e es h)
  there-entered m e es (is_worked d works same) = is_worked d works same

  safe-joined : (m at : ℕ) (t : TrafficState) → IsSafe n c t → IsSafe n c (joined m at t)
  safe-joined m at t w = by (joiner m t.askers) w
    where
      by : (a : Option Asker) → IsSafe n c t
          → IsSafe n c (option_map_or (λ b. ticked at (record t { askers = ask.joined m t.askers })) a t)
      by None w = w
      by (Some a) (inl there) = inl there
      by (Some a) (inr none) = inr (unasked-joined n t.askers m none)

  safe-begun : (list : ℕ) (question : PoolQuestion) (settings : Settings) (at : ℕ) (t : TrafficState) → IsSafe n c t
      → IsSafe n c (begun list question settings at t)
  safe-begun list question settings at t w = by (list_at list t.groups)
    where
      next : ℕ
      next = t.askers.next_transaction

      entered : (e : EntryState) → AskersState → Type 0
      entered e a = IsThere (insert_entry nat_cmp t.table.entries next e) c n ⊎ IsUnasked n a

      old : (e : EntryState) (p : Place) → eqb n next ≡ false → IsSafe n c t
          → entered e (ask.begun_in p (until_of at t) t.askers)
      old e p apart (inl there) = inl (there-entered next e t.table.entries there)
      old e p apart (inr none) = inr (unasked-begun n t.askers p (until_of at t) apart none)

      one : (e : EntryState) (p : Place) → place_for t.askers ≡ p → (b : Bool) → eqb n next ≡ b
          → entered e (ask.begun (until_of at t) t.askers)
      one e p is true same = inl (stands (own-inserted n next e t.table.entries (sym (eqb-true n next same))))
      one e p is false apart =
          subst (λ (q : Place). entered e (ask.begun_in q (until_of at t) t.askers)) (sym is) (old e p apart w)

      place : (l : GroupListState) (p : Place) → place_for t.askers ≡ p
          → IsSafe n c (begun_as p (entry_of list question settings l) list at t)
      place l Overloaded is = w
      place l InFlight is = one (entry_of list question settings l) InFlight is (eqb n next) refl
      place l Waits is = one (entry_of list question settings l) Waits is (eqb n next) refl

      by : (l : Option GroupListState)
          → IsSafe n c (option_map_or (begun_with list question settings at t) l (ticked at t))
      by None = w
      by (Some l) = place l (place_for t.askers) refl

  safe-asked : (key : AskedOf) (settings : Settings) (at : ℕ) (s : PoolState) → IsSafe n c s.traffic
      → IsSafe n c (ask_of key settings at s).traffic
  safe-asked key settings at s w = by (joiner_of key s)
    where
      joins : (m : Option ℕ) → IsSafe n c (option_map_or (join_in at s) m s).traffic
      joins None = w
      joins (Some m) = safe-joined m at s.traffic w

      by : (a : Option Asker) → IsSafe n c (join_or_begin a key settings at s).traffic
      by None = safe-begun key.0 key.1 settings at s.traffic w
      by (Some a) = joins (pool.number_of key s.questions)

  safe-asks : (list : Option ℕ) (question : PoolQuestion) (settings : Settings) (at : ℕ) (s : PoolState)
      → IsSafe n c s.traffic → IsSafe n c (after_asking list question settings at s).traffic
  safe-asks None question settings at s w = w
  safe-asks (Some list) question settings at s w = safe-asked (list, question) settings at s w

  safe-came : (channel : ℕ) (octets : List ℕ) (at : ℕ) (t : TrafficState) → IsSafe n c t
      → IsSafe n c (came channel octets at t)
  safe-came channel octets at t w = by (channel_at channel t.shared.channels)
    where
      by : (o : Option Channel) → IsSafe n c (ticked at (option_map_or (came_on channel octets t) o t))
      by None = w
      by (Some o) = w

  safe-failed : (f : ChannelFailure) (at : ℕ) (t : TrafficState) → IsSafe n c t → IsSafe n c (failed f at t)
  safe-failed f at t w = by (channel_at f.channel t.shared.channels)
    where
      by : (o : Option Channel) → IsSafe n c (ticked at (option_map_or (failed_on f t) o t))
      by None = w
      by (Some o) = w

  safe-forgotten : (k : Asker) (s : PoolState) → IsSafe n c s.traffic
      → IsSafe n c (after_event s (is_forgotten k)).traffic
  safe-forgotten k s (inl there) = inl there
  safe-forgotten k s (inr none) = inr (unasked-forgot n s.traffic.askers k none)

  safe-traffic : (s : PoolState) (e : PoolEvent) → IsSafe n c s.traffic → IsSafe n c (after_event s e).traffic
  safe-traffic s (time_passes at) w = w
  safe-traffic s (group_has group servers) w = w
  safe-traffic s (is_asked group query options dnssec at) w =
      safe-asks (list_of group s.traffic) (question_of query options dnssec) (settings_for s.options options) at s w
  safe-traffic s (octets_come channel octets at) w = safe-came channel octets at s.traffic w
  safe-traffic s (channel_fails f at) w = safe-failed f at s.traffic w
  safe-traffic s (is_forgotten k) w = safe-forgotten k s w

safe-event : (s : PoolState) (e : PoolEvent) → AreSafe s → AreSafe (after_event s e)
safe-event s e w n =
    subst (λ (c : Option CurrentState). IsSafe n c (after_event s e).traffic) (sym (current-event s e))
    (safe-traffic n s.current s e (w n))

-- ---- steps

module _ (A : Asking) (s t : PoolState) (heard : AreHeard A s.traffic.askers) (n : ℕ) where
  abbrev es : List (ℕ × EntryState)
  es = s.traffic.table.entries

  there-step : IsStep s t → IsThere es s.current n → IsSafe n t.current t.traffic
  there-step (goes_out o out current traffic is) there =
      inl (there-as n es t.traffic.table.entries s.current t.current (ap (λ (u : TrafficState). u.table.entries) traffic)
      current there)
  there-step (begins calm none is) there =
      let what : Task = task_of s.traffic in
      let after : Option CurrentState = current_after (did what s.traffic) None in
      inl (there-as n (after_task what s.traffic).table.entries t.traffic.table.entries after t.current
      (ap (λ (u : PoolState). u.traffic.table.entries) is)
      (ap (λ (u : PoolState). u.current) is ∙ ap (λ (x : Option CurrentState). current_after (did what s.traffic) x) none)
      (there-taken n s.traffic.table (after_task what s.traffic).table after (takes-task s.traffic what)
      (subst (λ (x : Option CurrentState). IsThere es x n) none there)))
  there-step (does c after calm works at is) there =
      let same = same-done (doing c s.traffic) (scene_of s c) (record { traffic = t.traffic; current = after }) is in
      inl (there-as n es t.traffic.table.entries (Some after) t.current same.entries at (by same.number there))
    where
      by : after.number ≡ c.number → IsThere es s.current n → IsThere es (Some after) n
      by number (stands h) = stands h
      by number (is_worked d is_d mine) =
          let both : Some c ≡ Some d = sym works ∙ is_d in
          let own : c ≡ d = cc in
          is_worked after refl (number ∙ ap (λ (x : CurrentState). x.number) own ∙ mine)
  there-step (puts c calm works p is) there =
      let put = put-is (doing c s.traffic) c s in
      inl (there-as n (insert_entry nat_cmp es c.number c.entry) t.traffic.table.entries None t.current
      (ap (λ (u : PoolState). u.traffic.table.entries) is ∙ put.entries) (ap (λ (u : PoolState). u.current) is ∙ put.none)
      (by there))
    where
      by : IsThere es s.current n → IsThere (insert_entry nat_cmp es c.number c.entry) None n
      by (stands h) = stands (there-inserted n c.number c.entry es h)
      by (is_worked d is_d mine) =
          let both : Some c ≡ Some d = sym works ∙ is_d in
          let own : c ≡ d = cc in
          stands (own-inserted n c.number c.entry es (ap (λ (x : CurrentState). x.number) own ∙ mine))
  there-step (ends c calm works e is) (stands h) =
      inl (there-as n es t.traffic.table.entries None t.current (ap (λ (u : PoolState). u.traffic.table.entries) is)
      (ap (λ (u : PoolState). u.current) is) (stands h))
  there-step (ends c calm works e is) (is_worked d is_d mine) =
      let both : Some c ≡ Some d = sym works ∙ is_d in
      let own : c ≡ d = cc in
      let gone : IsUnasked c.number (ask.over c.number s.traffic.askers) = record {
        flying = gone-removed c.number s.traffic.askers.in_flight heard.flying.apart;
        waiting = gone-removed c.number s.traffic.askers.waiting heard.waiting.apart;
      } in
      inr (subst (IsUnasked n) (sym (ap (λ (u : PoolState). u.traffic.askers) is))
      (subst (λ (m : ℕ). IsUnasked m (ask.over c.number s.traffic.askers)) (ap (λ (x : CurrentState). x.number) own ∙ mine) gone))

  safe-step : IsStep s t → IsChanged s.traffic.askers t.traffic.askers → IsSafe n s.current s.traffic
      → IsSafe n t.current t.traffic
  safe-step step change (inl there) = there-step step there
  safe-step step change (inr none) = inr (unasked-changed n s.traffic.askers t.traffic.askers change none)

pub safe-runs : (options : OptionsValue) (limits : PoolLimits) (seed : List ℕ) (past : List Happening) (s : PoolState)
    → Runs (no_servers options limits seed) past s → AreSafe s
safe-runs options limits seed _ _ at_first = λ n. inr (record { flying = refl; waiting = refl })
safe-runs options limits seed _ _ (by_event past s e more) = safe-event s e (safe-runs options limits seed past s more)
safe-runs options limits seed _ _ (by_step past s after r is more) = λ n.
    safe-step (λ m. asking_in m past) s after (heard-runs options limits seed past s more) n (step-is s after r is)
    (changed-step s after r is) (safe-runs options limits seed past s more n)
