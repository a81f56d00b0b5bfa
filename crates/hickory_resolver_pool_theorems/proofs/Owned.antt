-- Each deadline is one of a transaction, in the table or in hand.
use Rattle.std.proofs.Common.{◌≡◌, ℕ, Bool, true, false, List, refl, ap, sym, subst, ◌∙◌, true≢false, inl, inr, ◌⊎◌}
use Rattle.std.specs.Prelude.{Option, None, Some}
use Rattle.std.specs.Ordering.{nat_cmp}
use Rattle.std.specs.Map.{lookup, remove_entry}
use Rattle.std.specs.BTreeMap.{insert_entry, is_at}
use Rattle.std.specs.Option.{is_some}
use Rattle.hickory_resolver_channels.specs.Channels.{pair_cmp}
use Rattle.hickory_resolver_config.specs.ResolverConfig.{OptionsValue}
use Rattle.hickory_resolver_traffic.specs.Doing.{Scene, IsDone, doing}
use Rattle.hickory_resolver_traffic.specs.Table.{CurrentState, EntryState, TableState, entry_at, dated, not_dated}
use Rattle.hickory_resolver_traffic.specs.Tasks.{task_of, after_task, did}
use Rattle.hickory_resolver_traffic.specs.Traffic.{TrafficState, entry_of}
use Rattle.hickory_resolver_traffic.specs.declared.doing.Doing.{Doing}
use Rattle.hickory_resolver_traffic.specs.declared.doing.Doing.TheVariants.{Hears, Doubts, Stalls, Fails, Quits, PutsBack, Expires, Frees, Refused, Leaves, Ends, Draws, BeginsRound, GivesUp, Blocks, Sends, Dates, Rests}
use Rattle.hickory_resolver_traffic.specs.declared.tasks.Task.{Task}
use Rattle.hickory_resolver_pool.specs.Laws.{after_event}
use Rattle.hickory_resolver_pool.specs.Pool.{PoolState, no_servers, current_after, scene_of, put_by}
use Rattle.hickory_resolver_pool.specs.declared.limits.PoolLimits.{PoolLimits}
use Rattle.hickory_resolver_pool_theorems.specs.Runs.{Happening, Runs, at_first, by_event, by_step}
use Rattle.hickory_resolver_pool_theorems.proofs.Askings.{put-is}
use Rattle.hickory_resolver_pool_theorems.proofs.Dates.{Stands, Agrees, AreDated, in-dated, undated-before, undated-gone, Dated, same_dates, one_undated, dates-task, dated-runs}
use Rattle.hickory_resolver_pool_theorems.proofs.Entries.{WorkedOf}
use Rattle.hickory_resolver_pool_theorems.proofs.Frames.{IsNoDate, dated-done}
use Rattle.hickory_resolver_pool_theorems.proofs.Guards.{why-task}
use Rattle.hickory_resolver_pool_theorems.proofs.Keys.{nat-self, at-is, found-inserted, others-inserted, others-removed}
use Rattle.hickory_resolver_pool_theorems.proofs.KeySets.{pair-is, in-before}
use Rattle.hickory_resolver_pool_theorems.proofs.Keys as keys
use Rattle.hickory_resolver_pool_theorems.proofs.Numbers.{Takes, none_taken, one_gone, one_taken, takes-task}
use Rattle.hickory_resolver_pool_theorems.proofs.Scenes.{same-done}
use Rattle.hickory_resolver_pool_theorems.proofs.Shapes.{IsStep, goes_out, begins, does, puts, ends, step-is, IsEvent, keeps, regroups, enters, event-is}
use Rattle.hickory_resolver_pool_theorems.proofs.Traces.{current-event}

-- a transaction that there is
pub data IsThere (es : List (ℕ × EntryState)) (c : Option CurrentState) (n : ℕ) : Type 0 where
  stands : is_some (lookup (is_at (nat_cmp n)) es) ≡ true → IsThere es c n
  is_worked : (d : CurrentState) → c ≡ Some d → d.number ≡ n → IsThere es c n

abbrev pub AreOwned : List (ℕ × ℕ) → List (ℕ × EntryState) → Option CurrentState → Type 0
AreOwned ds es c = (due n : ℕ) → Stands due n ds → IsThere es c n

abbrev pub OfPool : PoolState → Type 0
OfPool s = AreOwned s.traffic.table.deadlines s.traffic.table.entries s.current

owned-of : (s : PoolState) (ds : List (ℕ × ℕ)) (es : List (ℕ × EntryState)) (c : Option CurrentState)
    → s.traffic.table.deadlines ≡ ds → s.traffic.table.entries ≡ es → s.current ≡ c → AreOwned ds es c → OfPool s
owned-of s ds es c dates_are entries current w =
    subst (λ (x : List (ℕ × ℕ)). AreOwned x s.traffic.table.entries s.current) (sym dates_are)
    (subst (λ (x : List (ℕ × EntryState)). AreOwned ds x s.current) (sym entries)
    (subst (λ (x : Option CurrentState). AreOwned ds es x) (sym current) w))

-- it is there still, with another put in
pub there-inserted : (n m : ℕ) (e : EntryState) (es : List (ℕ × EntryState)) → is_some (lookup (is_at (nat_cmp n)) es) ≡ true
    → is_some (lookup (is_at (nat_cmp n)) (insert_entry nat_cmp es m e)) ≡ true
there-inserted n m e es h = by (is_at (nat_cmp n) m) refl
  where
    by : (b : Bool) → is_at (nat_cmp n) m ≡ b → is_some (lookup (is_at (nat_cmp n)) (insert_entry nat_cmp es m e)) ≡ true
    by true is =
        ap (λ (k : ℕ). is_some (lookup (is_at (nat_cmp k)) (insert_entry nat_cmp es m e))) (at-is n m is)
        ∙ ap (λ (o : Option EntryState). is_some o) (found-inserted nat_cmp nat-self m e es)
    by false is = ap (λ (o : Option EntryState). is_some o) (others-inserted n m is e es) ∙ h

pub own-inserted : (n m : ℕ) (e : EntryState) (es : List (ℕ × EntryState)) → m ≡ n
    → is_some (lookup (is_at (nat_cmp n)) (insert_entry nat_cmp es m e)) ≡ true
own-inserted n m e es same =
    ap (λ (k : ℕ). is_some (lookup (is_at (nat_cmp k)) (insert_entry nat_cmp es m e))) (sym same)
    ∙ ap (λ (o : Option EntryState). is_some o) (found-inserted nat_cmp nat-self m e es)

-- one is taken up
pub there-taken : (n : ℕ) (t u : TableState) (c : Option CurrentState) → Takes t u c → IsThere t.entries None n
    → IsThere u.entries c n
there-taken n t u c = by
  where
    gone : (m : ℕ) → is_some (lookup (is_at (nat_cmp n)) t.entries) ≡ true → u.entries ≡ remove_entry (is_at (nat_cmp m)) t.entries
        → is_at (nat_cmp n) m ≡ false → IsThere u.entries c n
    gone m there same apart =
        stands (ap (λ (es : List (ℕ × EntryState)). is_some (lookup (is_at (nat_cmp n)) es)) same
        ∙ ap (λ (o : Option EntryState). is_some o) (others-removed n m apart t.entries) ∙ there)

    number : (m : ℕ) (P : Type 0) → (n ≡ m → P) → (is_at (nat_cmp n) m ≡ false → P) → P
    number m P one two = on (is_at (nat_cmp n) m) refl
      where
        on : (b : Bool) → is_at (nat_cmp n) m ≡ b → P
        on true is = one (at-is n m is)
        on false is = two is

    by : Takes t u c → IsThere t.entries None n → IsThere u.entries c n
    by tk (is_worked d is same) = let no_such : None ≡ Some d = is in absurd cc
    by (none_taken table none) (stands there) =
        stands (ap (λ (es : List (ℕ × EntryState)). is_some (lookup (is_at (nat_cmp n)) es)) table ∙ there)
    by (one_gone m not table none) (stands there) =
        number m (IsThere u.entries c n)
        (λ same. absurd (true≢false (sym there ∙ ap (λ (k : ℕ). is_some (lookup (is_at (nat_cmp k)) t.entries)) same
        ∙ ap (λ (o : Option EntryState). is_some o) not)))
        (λ apart. gone m there table apart)
    by (one_taken m to_do e found table now) (stands there) =
        number m (IsThere u.entries c n)
        (λ same. is_worked (record { number = m; to_do = to_do; entry = e }) now (sym same))
        (λ apart. gone m there table apart)

owned-taken : (ds : List (ℕ × ℕ)) (t u : TableState) (c : Option CurrentState) → AreOwned ds t.entries None → Takes t u c
    → AreOwned ds u.entries c
owned-taken ds t u c w takes due n h = there-taken n t u c takes (w due n h)

put-deadlines : (what : Doing) (c : CurrentState) (s : PoolState)
    → (put_by what c s).traffic.table.deadlines ≡ s.traffic.table.deadlines
put-deadlines Hears c s = refl
put-deadlines Doubts c s = refl
put-deadlines Stalls c s = refl
put-deadlines Fails c s = refl
put-deadlines Quits c s = refl
put-deadlines PutsBack c s = refl
put-deadlines Expires c s = refl
put-deadlines Frees c s = refl
put-deadlines Refused c s = refl
put-deadlines (Leaves place) c s = refl
put-deadlines Ends c s = refl
put-deadlines Draws c s = refl
put-deadlines (BeginsRound place) c s = refl
put-deadlines GivesUp c s = refl
put-deadlines Blocks c s = refl
put-deadlines Sends c s = refl
put-deadlines (Dates due) c s = refl
put-deadlines Rests c s = refl

module _ (s t : PoolState) (w : OfPool s) (next : ℕ)
    (agree : AreDated next s.traffic.table.deadlines s.traffic.table.entries s.current) where
  with-own : (c : Option CurrentState) → s.current ≡ c → AreOwned s.traffic.table.deadlines s.traffic.table.entries c
  with-own c works = subst (λ (x : Option CurrentState). AreOwned s.traffic.table.deadlines s.traffic.table.entries x) works w

  -- of the one in hand another moment, or the same
  redated-owned : (c after : CurrentState) → s.current ≡ Some c → after.number ≡ c.number → (what : Doing)
      → IsDone what (scene_of s c) (record { traffic = t.traffic; current = after })
      → AreOwned t.traffic.table.deadlines s.traffic.table.entries (Some after)
  redated-owned c after works number what is = by what is
    where
      y : Scene
      y = record { traffic = t.traffic; current = after }

      mine : (due n : ℕ) → Stands due n s.traffic.table.deadlines → IsThere s.traffic.table.entries (Some after) n
      mine due n h = on (with-own (Some c) works due n h)
        where
          on : IsThere s.traffic.table.entries (Some c) n → IsThere s.traffic.table.entries (Some after) n
          on (stands there) = stands there
          on (is_worked d is same) =
              let own : c ≡ d = cc in
              is_worked after refl (number ∙ ap (λ (x : CurrentState). x.number) own ∙ same)

      same : (d : Doing) → IsDone d (scene_of s c) y → IsNoDate d → AreOwned t.traffic.table.deadlines s.traffic.table.entries (Some after)
      same d h o due n stood =
          mine due n (subst (λ (ds : List (ℕ × ℕ)). Stands due n ds) (dated-done d (scene_of s c) y h o).deadlines stood)

      another : (due : Option ℕ) → IsDone (Dates due) (scene_of s c) y
          → AreOwned t.traffic.table.deadlines s.traffic.table.entries (Some after)
      another due h at n stood =
          on (in-dated c.number c.entry.due due s.traffic.table.deadlines at n
          (undated-before c.number c.entry.due due s.traffic.table.deadlines
          (dated c.number due s.traffic.table.deadlines) at n
          (subst (λ (ds : List (ℕ × ℕ)). Stands at n ds) (ap (λ (v : Scene). v.traffic.table.deadlines) h) stood)))
        where
          on : ((n ≡ c.number) × (due ≡ Some at)) ⊎ Stands at n s.traffic.table.deadlines
              → IsThere s.traffic.table.entries (Some after) n
          on (inl k) = is_worked after refl (number ∙ sym k.0)
          on (inr k) = mine at n k

      by : (d : Doing) → IsDone d (scene_of s c) y → AreOwned t.traffic.table.deadlines s.traffic.table.entries (Some after)
      by (Dates due) h = another due h
      by Hears h = same Hears h tt
      by Doubts h = same Doubts h tt
      by Stalls h = same Stalls h tt
      by Fails h = same Fails h tt
      by Quits h = same Quits h tt
      by PutsBack h = same PutsBack h tt
      by Expires h = same Expires h tt
      by Frees h = same Frees h tt
      by Refused h = same Refused h tt
      by (Leaves place) h = same (Leaves place) h tt
      by Ends h = same Ends h tt
      by Draws h = same Draws h tt
      by (BeginsRound place) h = same (BeginsRound place) h tt
      by GivesUp h = same GivesUp h tt
      by Blocks h = same Blocks h tt
      by Sends h = same Sends h tt
      by Rests h = same Rests h tt

  owned-step : IsStep s t → OfPool t
  owned-step (goes_out o out current traffic is) =
      owned-of t s.traffic.table.deadlines s.traffic.table.entries s.current
      (ap (λ (u : TrafficState). u.table.deadlines) traffic) (ap (λ (u : TrafficState). u.table.entries) traffic) current w
  owned-step (begins calm none is) =
      let what : Task = task_of s.traffic in
      let after : Option CurrentState = current_after (did what s.traffic) None in
      owned-of t (after_task what s.traffic).table.deadlines (after_task what s.traffic).table.entries after
      (ap (λ (u : PoolState). u.traffic.table.deadlines) is) (ap (λ (u : PoolState). u.traffic.table.entries) is)
      (ap (λ (u : PoolState). u.current) is ∙ ap (λ (x : Option CurrentState). current_after (did what s.traffic) x) none)
      (fewer (dates-task s.traffic what (why-task s.traffic calm))
      (owned-taken s.traffic.table.deadlines s.traffic.table (after_task what s.traffic).table after (with-own None none)
      (takes-task s.traffic what)))
    where
      fewer : Dated s.traffic.table (after_task (task_of s.traffic) s.traffic).table
          → AreOwned s.traffic.table.deadlines (after_task (task_of s.traffic) s.traffic).table.entries
          (current_after (did (task_of s.traffic) s.traffic) None)
          → AreOwned (after_task (task_of s.traffic) s.traffic).table.deadlines
          (after_task (task_of s.traffic) s.traffic).table.entries (current_after (did (task_of s.traffic) s.traffic) None)
      fewer (same_dates same) v = λ due n h. v due n (subst (λ (ds : List (ℕ × ℕ)). Stands due n ds) same h)
      fewer (one_undated d m not entries dates_are) v = λ due n h.
          v due n (in-before pair_cmp keys.pair-self pair-is (due, n) (is_at (pair_cmp (d, m))) s.traffic.table.deadlines
          (subst (λ (ds : List (ℕ × ℕ)). Stands due n ds) dates_are h))
  owned-step (does c after calm works at is) =
      let y : Scene = record { traffic = t.traffic; current = after } in
      let one = same-done (doing c s.traffic) (scene_of s c) y is in
      owned-of t t.traffic.table.deadlines s.traffic.table.entries (Some after) refl one.entries at
      (redated-owned c after works one.number (doing c s.traffic) is)
  owned-step (puts c calm works p is) =
      let put = put-is (doing c s.traffic) c s in
      owned-of t s.traffic.table.deadlines (insert_entry nat_cmp s.traffic.table.entries c.number c.entry) None
      (ap (λ (u : PoolState). u.traffic.table.deadlines) is ∙ put-deadlines (doing c s.traffic) c s)
      (ap (λ (u : PoolState). u.traffic.table.entries) is ∙ put.entries) (ap (λ (u : PoolState). u.current) is ∙ put.none)
      (λ due n h. by n (with-own (Some c) works due n h))
    where
      by : (n : ℕ) → IsThere s.traffic.table.entries (Some c) n
          → IsThere (insert_entry nat_cmp s.traffic.table.entries c.number c.entry) None n
      by n (stands there) = stands (there-inserted n c.number c.entry s.traffic.table.entries there)
      by n (is_worked d is same) =
          let own : c ≡ d = cc in
          stands (own-inserted n c.number c.entry s.traffic.table.entries (ap (λ (x : CurrentState). x.number) own ∙ same))
  owned-step (ends c calm works e is) =
      owned-of t (not_dated c.number c.entry.due s.traffic.table.deadlines) s.traffic.table.entries None
      (ap (λ (u : PoolState). u.traffic.table.deadlines) is) (ap (λ (u : PoolState). u.traffic.table.entries) is)
      (ap (λ (u : PoolState). u.current) is)
      (λ due n h. by due n h (with-own (Some c) works due n
      (undated-before c.number c.entry.due None s.traffic.table.deadlines s.traffic.table.deadlines due n h)))
    where
      by : (due n : ℕ) → Stands due n (not_dated c.number c.entry.due s.traffic.table.deadlines)
          → IsThere s.traffic.table.entries (Some c) n → IsThere s.traffic.table.entries None n
      by due n h (stands there) = stands there
      by due n h (is_worked d is_d same) =
          let own : c ≡ d = cc in
          let number : c.number ≡ n = ap (λ (x : CurrentState). x.number) own ∙ same in
          let mine : Stands due c.number (not_dated c.number c.entry.due s.traffic.table.deadlines) =
          subst (λ (m : ℕ). Stands due m (not_dated c.number c.entry.due s.traffic.table.deadlines)) (sym number) h in
          let was = undated-before c.number c.entry.due None s.traffic.table.deadlines s.traffic.table.deadlines due c.number mine in
          let worked = subst (λ (x : Option CurrentState). WorkedOf (Agrees s.traffic.table.deadlines) x) works agree.worked in
          absurd (undated-gone c.number c.entry.due None s.traffic.table.deadlines s.traffic.table.deadlines due
          (worked.no_other due was) agree.once mine)

owned-event : (s t : PoolState) → OfPool s → t.current ≡ s.current → IsEvent s t → OfPool t
owned-event s t w current (keeps table groups) =
    owned-of t s.traffic.table.deadlines s.traffic.table.entries s.current (ap (λ (x : TableState). x.deadlines) table)
    (ap (λ (x : TableState). x.entries) table) current w
owned-event s t w current (regroups group servers sources table groups) =
    owned-of t s.traffic.table.deadlines s.traffic.table.entries s.current (ap (λ (x : TableState). x.deadlines) table)
    (ap (λ (x : TableState). x.entries) table) current w
owned-event s t w current (enters list question settings l is table groups) =
    owned-of t s.traffic.table.deadlines
    (insert_entry nat_cmp s.traffic.table.entries s.traffic.askers.next_transaction (entry_of list question settings l)) s.current
    (ap (λ (x : TableState). x.deadlines) table) (ap (λ (x : TableState). x.entries) table) current
    (λ due n h. by n (w due n h))
  where
    by : (n : ℕ) → IsThere s.traffic.table.entries s.current n
        → IsThere (insert_entry nat_cmp s.traffic.table.entries s.traffic.askers.next_transaction (entry_of list question settings l)) s.current n
    by n (stands there) =
        stands (there-inserted n s.traffic.askers.next_transaction (entry_of list question settings l) s.traffic.table.entries there)
    by n (is_worked d works same) = is_worked d works same

pub owned-runs : (options : OptionsValue) (limits : PoolLimits) (seed : List ℕ) (past : List Happening) (s : PoolState)
    → Runs (no_servers options limits seed) past s → OfPool s
owned-runs options limits seed _ _ at_first = λ due n h. absurd (true≢false (sym h))
owned-runs options limits seed _ _ (by_event past s e more) =
    owned-event s (after_event s e) (owned-runs options limits seed past s more) (current-event s e) (event-is s e)
owned-runs options limits seed _ _ (by_step past s after r is more) =
    owned-step s after (owned-runs options limits seed past s more) s.traffic.askers.next_transaction
    (dated-runs options limits seed past s more) (step-is s after r is)

-- where none is worked on each deadline is of one in the table
pub owned-there : (s : PoolState) → OfPool s → s.current ≡ None → (due n : ℕ) → Stands due n s.traffic.table.deadlines
    → is_some (entry_at n s.traffic.table) ≡ true
owned-there s w none due n h = by (w due n h)
  where
    by : IsThere s.traffic.table.entries s.current n → is_some (entry_at n s.traffic.table) ≡ true
    by (stands there) = there
    by (is_worked d works same) = let no_such : None ≡ Some d = sym none ∙ works in absurd cc
