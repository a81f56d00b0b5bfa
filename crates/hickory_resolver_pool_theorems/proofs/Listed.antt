-- The servers that a transaction asks are kept as long as it asks them.
use Rattle.std.proofs.Common.{◌≡◌, ◌≤◌, ◌<◌, ◌+◌, ◌-◌, ◌^◌, min, suc, not, ℕ, Bool, true, false, cond, List, [], ◌∷◌, length, refl, ap, sym, subst, ◌∙◌, true≢false, arith, eqb, eqb-true, eq-eqb, ne_eqb}
use Rattle.std.specs.Prelude.{Option, None, Some}
use Rattle.std.specs.declared.cmp.Ordering.{Ordering}
use Rattle.std.specs.declared.cmp.Ordering.TheVariants.{Less, Equal, Greater}
use Rattle.std.specs.Ordering.{nat_cmp, is_eq, match_ordering}
use Rattle.std.specs.List.{AllByRecursion}
use Rattle.std.specs.Map.{lookup, remove_entry}
use Rattle.std.specs.BTreeMap.{insert_entry, is_at}
use Rattle.std.specs.Option.{is_some, option_map_or}
use Rattle.hickory_resolver_traffic.specs.Doing.{Scene, doubts_message, is_empty, one_freed, doing}
use Rattle.hickory_resolver_traffic.specs.Inbox.{MessageValue, first_message, first_failure}
use Rattle.hickory_resolver_traffic.specs.Table.{CurrentState, EntryState, TableState}
use Rattle.hickory_resolver_traffic.specs.Groups.{GroupListState, GroupsState, list_in, list_at, put_list, drop_list, is_needed, kept_if_needed, swept, changed_list, one_more, one_less, new_list, retired, without_current, numbers_of, with_servers, current_of}
use Rattle.hickory_resolver_traffic.specs.declared.doing.Doing.{Doing}
use Rattle.hickory_resolver_traffic.specs.declared.doing.Doing.TheVariants.{Hears, Doubts, Stalls, Fails, Quits, PutsBack, Expires, Frees, Refused, Leaves, Ends, Draws, BeginsRound, GivesUp, Blocks, Sends, Dates, Rests}
use Rattle.hickory_resolver_traffic.specs.declared.inbox.ChannelFailure.{ChannelFailure}
use Rattle.hickory_resolver_askers.specs.Askers.{WaitingValue, to_admit}
use Rattle.hickory_resolver_askers.specs.Askers as ask
use Rattle.hickory_resolver_config.specs.ResolverConfig.{OptionsValue}
use Rattle.hickory_resolver_traffic.specs.Tasks.{task_of, after_task, did, closed, freed_by, freed_by_first, without_taken}
use Rattle.hickory_resolver_traffic.specs.Traffic.{TrafficState, entry_of}
use Rattle.hickory_resolver_traffic.specs.declared.inbox.Failure.{Failure}
use Rattle.hickory_resolver_traffic.specs.declared.inbox.Failure.TheVariants as failure
use Rattle.hickory_resolver_traffic.specs.declared.tasks.Task.{Task}
use Rattle.hickory_resolver_traffic.specs.declared.tasks.Task.TheVariants as task
use Rattle.hickory_resolver_pool.specs.Laws.{after_event}
use Rattle.hickory_resolver_pool.specs.Pool.{PoolState, AskedOf, no_servers, current_after, scene_of, put_by}
use Rattle.hickory_resolver_pool.specs.declared.limits.PoolLimits.{PoolLimits}
use Rattle.hickory_resolver_pool_theorems.specs.Agreement.{Has, in_table, in_hand, ServersAreKept}
use Rattle.hickory_resolver_pool_theorems.specs.Runs.{Happening, Runs, at_first, by_event, by_step}
use Rattle.hickory_resolver_pool_theorems.specs.Ticks.{one_if}
use Rattle.hickory_resolver_pool_theorems.proofs.Askings.{put-is}
use Rattle.hickory_resolver_pool_theorems.proofs.Keys.{at-is, nat-self, apart-is, found-set, others-inserted, others-set, others-removed}
use Rattle.hickory_resolver_pool_theorems.proofs.ListCounts.{Lists, count_of, counted, AreFew, AreOld, SameLists, lists-self, few-set, old-set, few-found, lists-put, listed-done}
use Rattle.hickory_resolver_pool_theorems.proofs.Numbers.{Takes, none_taken, one_gone, one_taken, takes-task}
use Rattle.hickory_resolver_pool_theorems.proofs.Scenes.{same-done}
use Rattle.hickory_resolver_pool_theorems.proofs.Shapes.{IsStep, goes_out, begins, does, puts, ends, step-is, IsEvent, keeps, regroups, enters, event-is}
use Rattle.hickory_resolver_pool_theorems.proofs.Traces.{current-event}

-- ---- how many transactions of a table ask the servers of a list

abbrev is_of : ℕ → EntryState → ℕ
is_of k e = one_if (eqb e.asked.0 k)

abbrev asking : ℕ → List (ℕ × EntryState) → ℕ
asking k [] = 0
asking k (x ∷ xs) = is_of k x.1 + asking k xs

abbrev in_hand_of : ℕ → Option CurrentState → ℕ
in_hand_of k c = option_map_or (λ x. is_of k x.entry) c 0

module _ (k : ℕ) where
  asking-inserted : (n : ℕ) (e : EntryState) (es : List (ℕ × EntryState))
      → asking k (insert_entry nat_cmp es n e) ≤ asking k es + is_of k e
  asking-inserted n e [] = omega arith
  asking-inserted n e (x ∷ xs) = by (nat_cmp n x.0) (asking-inserted n e xs)
    where
      by : (o : Ordering) → asking k (insert_entry nat_cmp xs n e) ≤ asking k xs + is_of k e
          → asking k (match_ordering o ((n, e) ∷ x ∷ xs) ((x.0, e) ∷ xs) (x ∷ insert_entry nat_cmp xs n e))
          ≤ is_of k x.1 + asking k xs + is_of k e
      by Less more = omega arith
      by Equal more = omega arith
      by Greater more = omega (arith, more)

  asking-removed : (test : ℕ → Bool) (es : List (ℕ × EntryState)) → asking k (remove_entry test es) ≤ asking k es
  asking-removed test [] = omega arith
  asking-removed test (x ∷ xs) = by (test x.0) (asking-removed test xs)
    where
      by : (b : Bool) → asking k (remove_entry test xs) ≤ asking k xs
          → asking k (cond b xs (x ∷ remove_entry test xs)) ≤ is_of k x.1 + asking k xs
      by true more = omega arith
      by false more = omega (arith, more)

  asking-taken : (test : ℕ → Bool) (e : EntryState) (es : List (ℕ × EntryState)) → lookup test es ≡ Some e
      → asking k (remove_entry test es) + is_of k e ≤ asking k es
  asking-taken test e [] h = absurd cc
  asking-taken test e (x ∷ xs) h = by (test x.0) (asking-taken test e xs) h
    where
      by : (b : Bool) → (lookup test xs ≡ Some e → asking k (remove_entry test xs) + is_of k e ≤ asking k xs)
          → cond b (Some x.1) (lookup test xs) ≡ Some e
          → asking k (cond b xs (x ∷ remove_entry test xs)) + is_of k e ≤ is_of k x.1 + asking k xs
      by true more g =
          let same : x.1 ≡ e = cc in
          let own : is_of k x.1 ≡ is_of k e = ap (λ (y : EntryState). is_of k y) same in
          omega (arith, own)
      by false more g = let rest = more g in omega (arith, rest)

  asking-found : (test : ℕ → Bool) (e : EntryState) (es : List (ℕ × EntryState)) → lookup test es ≡ Some e
      → is_of k e ≤ asking k es
  asking-found test e es h = let rest = asking-taken test e es h in omega (arith, rest)

one-or : (b : Bool) → one_if b ≤ 1
one-or true = omega arith
one-or false = omega arith

apart : (k number : ℕ) → is_at (nat_cmp k) number ≡ false → eqb number k ≡ false
apart k number is = by (eqb number k) refl
  where
    by : (b : Bool) → eqb number k ≡ b → b ≡ false
    by true e =
        absurd (true≢false (sym (ap (λ (n : ℕ). is_at (nat_cmp k) n) (eqb-true number k e) ∙ ap is_eq (nat-self k)) ∙ is))
    by false e = refl

few-later : (most : ℕ) (ls : Lists) → AreFew most ls → AreFew (most + 1) ls
few-later most [] all = tt
few-later most (x ∷ xs) all = (let is : x.1.transactions ≤ most = all.0 in omega (arith, is), few-later most xs all.1)

old-later : (next later : ℕ) → next < later → (ls : Lists) → AreOld next ls → AreOld later ls
old-later next later less [] all = tt
old-later next later less (x ∷ xs) all =
    (let is : x.0 < next = all.0 in omega (arith, is, less), old-later next later less xs all.1)

none-at : (next : ℕ) (ls : Lists) → AreOld next ls → list_in next ls ≡ None
none-at next [] all = refl
none-at next (x ∷ xs) all =
    ap (λ (b : Bool). cond b (Some x.1) (list_in next xs))
    (apart-is next x.0 (ne_eqb next x.0 (λ (h : next ≡ x.0). let less : x.0 < next = all.0 in omega (arith, h, less))))
    ∙ none-at next xs all.1

-- ---- lists that nobody needs are dropped

counted-swept : (k number : ℕ) (ls : Lists) → counted k ls ≤ counted k (swept number ls)
counted-swept k number ls = by (list_in number ls) refl
  where
    dropped : (l : GroupListState) → list_in number ls ≡ Some l → l.transactions ≡ 0 → (b : Bool)
        → is_at (nat_cmp k) number ≡ b → counted k ls ≤ counted k (drop_list number ls)
    dropped l at none true is =
        let own : counted k ls ≡ 0 =
        ap (λ (n : ℕ). counted n ls) (at-is k number is) ∙ ap count_of at ∙ none in
        omega (arith, own)
    dropped l at none false is =
        let same : counted k (drop_list number ls) ≡ counted k ls = ap count_of (others-removed k number is ls) in
        omega (arith, same)

    zero-of : (n : ℕ) → eqb n 0 ≡ true → n ≡ 0
    zero-of n e = eqb-true n 0 e

    needed : (l : GroupListState) → list_in number ls ≡ Some l → (current none : Bool) → eqb l.transactions 0 ≡ none
        → counted k ls ≤ counted k (cond (cond current true (not none)) ls (drop_list number ls))
    needed l at true none is = omega arith
    needed l at false false is = omega arith
    needed l at false true is =
        dropped l at (zero-of l.transactions is) (is_at (nat_cmp k) number) refl

    by : (l : Option GroupListState) → list_in number ls ≡ l
        → counted k ls ≤ counted k (option_map_or (kept_if_needed number ls) l ls)
    by None at = omega arith
    by (Some l) at = needed l at l.is_current (eqb l.transactions 0) refl

module _ (P : ℕ × GroupListState → Type 0) where
  all-dropped : (test : ℕ → Bool) (ls : Lists) → AllByRecursion P ls → AllByRecursion P (remove_entry test ls)
  all-dropped test [] all = tt
  all-dropped test (x ∷ xs) all = by (test x.0) (all-dropped test xs all.1)
    where
      by : (b : Bool) → AllByRecursion P (remove_entry test xs) → AllByRecursion P (cond b xs (x ∷ remove_entry test xs))
      by true more = all.1
      by false more = (all.0, more)

  all-swept : (number : ℕ) (ls : Lists) → AllByRecursion P ls → AllByRecursion P (swept number ls)
  all-swept number ls all = by (list_in number ls)
    where
      needed : (b : Bool) → AllByRecursion P (cond b ls (drop_list number ls))
      needed true = all
      needed false = all-dropped (is_at (nat_cmp number)) ls all

      by : (l : Option GroupListState) → AllByRecursion P (option_map_or (kept_if_needed number ls) l ls)
      by None = all
      by (Some l) = needed (is_needed l)

-- ---- what holds of the lists

pub record AreListed (most next : ℕ) (ls : Lists) (es : List (ℕ × EntryState)) (c : Option CurrentState) : Type 0 where
  pub held : (k : ℕ) → asking k es + in_hand_of k c ≤ counted k ls
  pub few : AreFew most ls
  pub old : AreOld next ls

-- one more asks the servers of a list
module _ (most number : ℕ) (l : GroupListState) (ls : Lists) (at : list_in number ls ≡ Some l) (few : AreFew most ls)
    (room : most < 2 ^ 64 - 1) where
  abbrev more_of : GroupListState
  more_of = record l { transactions = min (l.transactions + 1) (2 ^ 64 - 1) }

  one-more : more_of.transactions ≡ l.transactions + 1
  one-more = let at_most = few-found most number l ls few at in omega (arith, at_most, room)

  begun-held : (k : ℕ) → counted k ls + one_if (eqb number k) ≤ counted k (put_list number more_of ls)
  begun-held k = by (is_at (nat_cmp k) number) refl
    where
      by : (b : Bool) → is_at (nat_cmp k) number ≡ b
          → counted k ls + one_if (eqb number k) ≤ counted k (put_list number more_of ls)
      by true is =
          let own : k ≡ number = at-is k number is in
          let now : counted k (put_list number more_of ls) ≡ l.transactions + 1 =
          ap (λ (n : ℕ). counted n (put_list number more_of ls)) own
          ∙ ap count_of (found-set (is_at (nat_cmp number)) ls l more_of at) ∙ one-more in
          let before : counted k ls ≡ l.transactions = ap (λ (n : ℕ). counted n ls) own ∙ ap count_of at in
          let one = one-or (eqb number k) in
          omega (arith, now, before, one)
      by false is =
          let same : counted k (put_list number more_of ls) ≡ counted k ls = ap count_of (others-set k number is more_of ls) in
          let none : one_if (eqb number k) ≡ 0 = ap one_if (apart k number is) in
          omega (arith, same, none)

  begun-few : AreFew (most + 1) (put_list number more_of ls)
  begun-few =
      few-set (most + 1) number more_of ls
      (let at_most = few-found most number l ls few at in let one = one-more in omega (arith, at_most, one))
      (few-later most ls few)

-- one asks them no more
module _ (number n : ℕ) (ls : Lists) where
  ended-held : (k : ℕ) → counted k ls
      ≤ counted k (swept number (changed_list (one_less n) number ls)) + one_if (eqb number k)
  ended-held k =
      let swept_is = counted-swept k number (changed_list (one_less n) number ls) in
      let changed_is = changed (list_in number ls) refl in
      omega (arith, swept_is, changed_is)
    where
      put : (l : GroupListState) → list_in number ls ≡ Some l → (b : Bool) → is_at (nat_cmp k) number ≡ b
          → counted k ls ≤ counted k (put_list number (one_less n l) ls) + one_if (eqb number k)
      put l at true is =
          let own : k ≡ number = at-is k number is in
          let now : counted k (put_list number (one_less n l) ls) ≡ l.transactions - 1 =
          ap (λ (m : ℕ). counted m (put_list number (one_less n l) ls)) own
          ∙ ap count_of (found-set (is_at (nat_cmp number)) ls l (one_less n l) at) in
          let before : counted k ls ≡ l.transactions = ap (λ (m : ℕ). counted m ls) own ∙ ap count_of at in
          let one : one_if (eqb number k) ≡ 1 = ap one_if (eq-eqb number k (sym own)) in
          omega (arith, now, before, one)
      put l at false is =
          let same : counted k (put_list number (one_less n l) ls) ≡ counted k ls =
          ap count_of (others-set k number is (one_less n l) ls) in
          omega (arith, same)

      changed : (l : Option GroupListState) → list_in number ls ≡ l → counted k ls
          ≤ counted k (option_map_or (λ g. put_list number (one_less n g) ls) l ls) + one_if (eqb number k)
      changed None at = omega arith
      changed (Some l) at = put l at (is_at (nat_cmp k) number) refl

  ended-few : (most : ℕ) → AreFew most ls → AreFew most (swept number (changed_list (one_less n) number ls))
  ended-few most few =
      all-swept (λ p. p.1.transactions ≤ most) number (changed_list (one_less n) number ls) (changed (list_in number ls) refl)
    where
      changed : (l : Option GroupListState) → list_in number ls ≡ l
          → AreFew most (option_map_or (λ g. put_list number (one_less n g) ls) l ls)
      changed None at = few
      changed (Some l) at =
          few-set most number (one_less n l) ls
          (let at_most = few-found most number l ls few at in omega (arith, at_most)) few

  ended-old : (next : ℕ) → AreOld next ls → AreOld next (swept number (changed_list (one_less n) number ls))
  ended-old next old =
      all-swept (λ p. p.0 < next) number (changed_list (one_less n) number ls) (changed (list_in number ls))
    where
      changed : (l : Option GroupListState) → AreOld next (option_map_or (λ g. put_list number (one_less n g) ls) l ls)
      changed None = old
      changed (Some l) = old-set next number (one_less n l) ls old

-- a group has other servers
module _ (next : ℕ) (new : GroupListState) (none : new.transactions ≡ 0) (ls : Lists) (old : AreOld next ls) where
  new-held : (k : ℕ) → counted k ls ≤ counted k (insert_entry nat_cmp ls next new)
  new-held k = by (is_at (nat_cmp k) next) refl
    where
      by : (b : Bool) → is_at (nat_cmp k) next ≡ b → counted k ls ≤ counted k (insert_entry nat_cmp ls next new)
      by true is =
          let before : counted k ls ≡ 0 =
          ap (λ (n : ℕ). counted n ls) (at-is k next is) ∙ ap count_of (none-at next ls old) in
          omega (arith, before)
      by false is =
          let same : counted k (insert_entry nat_cmp ls next new) ≡ counted k ls =
          ap count_of (others-inserted k next is new ls) in
          omega (arith, same)

  new-few : (most : ℕ) (xs : Lists) → AreFew most xs → AreFew most (insert_entry nat_cmp xs next new)
  new-few most [] few = (let is = none in omega (arith, is), tt)
  new-few most (x ∷ xs) few = by (nat_cmp next x.0) (new-few most xs few.1)
    where
      by : (o : Ordering) → AreFew most (insert_entry nat_cmp xs next new)
          → AreFew most (match_ordering o ((next, new) ∷ x ∷ xs) ((x.0, new) ∷ xs) (x ∷ insert_entry nat_cmp xs next new))
      by Less more = (let is = none in omega (arith, is), few)
      by Equal more = (let is = none in omega (arith, is), few.1)
      by Greater more = (few.0, more)

  new-old : (later : ℕ) → next < later → (xs : Lists) → AreOld next xs → AreOld later (insert_entry nat_cmp xs next new)
  new-old later less [] all = (less, tt)
  new-old later less (x ∷ xs) all = by (nat_cmp next x.0) (new-old later less xs all.1)
    where
      here : x.0 < later
      here = let is : x.0 < next = all.0 in omega (arith, is, less)

      by : (o : Ordering) → AreOld later (insert_entry nat_cmp xs next new)
          → AreOld later (match_ordering o ((next, new) ∷ x ∷ xs) ((x.0, new) ∷ xs) (x ∷ insert_entry nat_cmp xs next new))
      by Less more = (less, (here, old-later next later less xs all.1))
      by Equal more = (here, old-later next later less xs all.1)
      by Greater more = (here, more)

-- the list before is retired
module _ (number : ℕ) (ls : Lists) where
  retired-same : (l : Option GroupListState) → list_in number ls ≡ l
      → SameLists ls (option_map_or (λ g. put_list number (retired g) ls) l ls)
  retired-same None at = lists-self ls
  retired-same (Some l) at = lists-put number l (retired l) ls at refl

  retired-held : (k : ℕ) → counted k ls ≤ counted k (without_current ls number)
  retired-held k =
      let swept_is = counted-swept k number (changed_list retired number ls) in
      let same = (retired-same (list_in number ls) refl).held k in
      omega (arith, swept_is, same)

-- ---- what a task leaves

groups-one_freed : (u : TrafficState) → (one_freed u).groups ≡ u.groups
groups-one_freed u = by (is_empty u.table.blocked)
  where
    by : (empty : Bool)
        → (cond {A = TrafficState} empty u (record u { freed = min (u.freed + 1) (2 ^ 64 - 1) })).groups ≡ u.groups
    by true = refl
    by false = refl

groups-freed_first : (u : TrafficState) → (freed_by_first u).groups ≡ u.groups
groups-freed_first u = by (first_failure u.inbox)
  where
    why : (f : Failure) → (freed_by f u).groups ≡ u.groups
    why failure.Local = refl
    why failure.Refused = groups-one_freed u
    why failure.Unreachable = groups-one_freed u
    why failure.Closed = groups-one_freed u

    by : (f : Option ChannelFailure) → (option_map_or (λ g. freed_by g.why u) f u).groups ≡ u.groups
    by None = refl
    by (Some f) = why f.why

groups-task : (t : TrafficState) (what : Task) → (after_task what t).groups ≡ t.groups
groups-task t task.Opens = refl
groups-task t task.Writes = refl
groups-task t task.Doubts = by (first_message t.inbox)
  where
    by : (m : Option MessageValue) → (option_map_or (doubts_message t) m t).groups ≡ t.groups
    by None = refl
    by (Some m) = refl
groups-task t task.PassesBy = refl
groups-task t (task.Cuts channel) = refl
groups-task t (task.ClosesFailed channel) = groups-freed_first (closed channel t)
groups-task t task.DropsFailure = refl
groups-task t (task.TakesReady n) = refl
groups-task t (task.TakesUp n to_do) = refl
groups-task t (task.Undates due n) = refl
groups-task t (task.Strays n) = refl
groups-task t (task.Unblocks n) = refl
groups-task t (task.ClosesIdle channel) = groups-one_freed (closed channel t)
groups-task t task.Admits = by (to_admit t.askers)
  where
    by : (first : Option (ℕ × WaitingValue)) →
        (option_map_or (λ f. without_taken f.0 (record t { askers = ask.admitted t.askers })) first t).groups ≡ t.groups
    by None = refl
    by (Some f) = refl

-- ---- steps and events

abbrev pub Kept : ℕ → PoolState → Type 0
Kept most s = AreListed most s.traffic.groups.next s.traffic.groups.lists s.traffic.table.entries s.current

listed-of : (s : PoolState) (most next : ℕ) (ls : Lists) (es : List (ℕ × EntryState)) (c : Option CurrentState)
    → s.traffic.groups.next ≡ next → s.traffic.groups.lists ≡ ls → s.traffic.table.entries ≡ es → s.current ≡ c
    → AreListed most next ls es c → Kept most s
listed-of s most next ls es c number lists table current w =
    subst (λ (x : ℕ). AreListed most x s.traffic.groups.lists s.traffic.table.entries s.current) (sym number)
    (subst (λ (x : Lists). AreListed most next x s.traffic.table.entries s.current) (sym lists)
    (subst (λ (x : List (ℕ × EntryState)). AreListed most next ls x s.current) (sym table)
    (subst (λ (x : Option CurrentState). AreListed most next ls es x) (sym current) w)))

few-more : (most more : ℕ) (ls : Lists) → most ≤ more → AreFew most ls → AreFew more ls
few-more most more [] le all = tt
few-more most more (x ∷ xs) le all =
    (let is : x.1.transactions ≤ most = all.0 in omega (arith, is, le), few-more most more xs le all.1)

listed-more : (most more next : ℕ) (ls : Lists) (es : List (ℕ × EntryState)) (c : Option CurrentState) → most ≤ more
    → AreListed most next ls es c → AreListed more next ls es c
listed-more most more next ls es c le w = record { held = w.held; few = few-more most more ls le w.few; old = w.old }

listed-taken : (most next : ℕ) (ls : Lists) (t u : TableState) (c : Option CurrentState) → AreListed most next ls t.entries None
    → Takes t u c → AreListed most next ls u.entries c
listed-taken most next ls t u c w takes = record { held = λ k. held k takes; few = w.few; old = w.old }
  where
    held : (k : ℕ) → Takes t u c → asking k u.entries + in_hand_of k c ≤ counted k ls
    held k (none_taken table none) =
        let one : asking k u.entries ≡ asking k t.entries = ap (λ (es : List (ℕ × EntryState)). asking k es) table in
        let two : in_hand_of k c ≡ 0 = ap (λ (x : Option CurrentState). in_hand_of k x) none in
        let before = w.held k in omega (arith, one, two, before)
    held k (one_gone n not table none) =
        let one : asking k u.entries ≡ asking k (remove_entry (is_at (nat_cmp n)) t.entries) =
        ap (λ (es : List (ℕ × EntryState)). asking k es) table in
        let two : in_hand_of k c ≡ 0 = ap (λ (x : Option CurrentState). in_hand_of k x) none in
        let less = asking-removed k (is_at (nat_cmp n)) t.entries in
        let before = w.held k in omega (arith, one, two, less, before)
    held k (one_taken n to_do e found table taken) =
        let one : asking k u.entries ≡ asking k (remove_entry (is_at (nat_cmp n)) t.entries) =
        ap (λ (es : List (ℕ × EntryState)). asking k es) table in
        let two : in_hand_of k c ≡ is_of k e = ap (λ (x : Option CurrentState). in_hand_of k x) taken in
        let less = asking-taken k (is_at (nat_cmp n)) e t.entries found in
        let before = w.held k in omega (arith, one, two, less, before)

module _ (most : ℕ) (s t : PoolState) (w : Kept most s) where
  with-own : (c : Option CurrentState) → s.current ≡ c
      → AreListed most s.traffic.groups.next s.traffic.groups.lists s.traffic.table.entries c
  with-own c works =
      subst (λ (x : Option CurrentState). AreListed most s.traffic.groups.next s.traffic.groups.lists s.traffic.table.entries x)
      works w

  put-groups : (what : Doing) (c : CurrentState) → (put_by what c s).traffic.groups ≡ s.traffic.groups
  put-groups Hears c = refl
  put-groups Doubts c = refl
  put-groups Stalls c = refl
  put-groups Fails c = refl
  put-groups Quits c = refl
  put-groups PutsBack c = refl
  put-groups Expires c = refl
  put-groups Frees c = refl
  put-groups Refused c = refl
  put-groups (Leaves place) c = refl
  put-groups Ends c = refl
  put-groups Draws c = refl
  put-groups (BeginsRound place) c = refl
  put-groups GivesUp c = refl
  put-groups Blocks c = refl
  put-groups Sends c = refl
  put-groups (Dates due) c = refl
  put-groups Rests c = refl

  pub listed-step : IsStep s t → Kept most t
  listed-step (goes_out o out current traffic is) =
      listed-of t most s.traffic.groups.next s.traffic.groups.lists s.traffic.table.entries s.current
      (ap (λ (u : TrafficState). u.groups.next) traffic) (ap (λ (u : TrafficState). u.groups.lists) traffic)
      (ap (λ (u : TrafficState). u.table.entries) traffic) current w
  listed-step (begins calm none is) =
      let what : Task = task_of s.traffic in
      let after : Option CurrentState = current_after (did what s.traffic) None in
      let groups : t.traffic.groups ≡ s.traffic.groups =
      ap (λ (u : PoolState). u.traffic.groups) is ∙ groups-task s.traffic what in
      listed-of t most s.traffic.groups.next s.traffic.groups.lists (after_task what s.traffic).table.entries after
      (ap (λ (g : GroupsState). g.next) groups) (ap (λ (g : GroupsState). g.lists) groups)
      (ap (λ (u : PoolState). u.traffic.table.entries) is)
      (ap (λ (u : PoolState). u.current) is ∙ ap (λ (x : Option CurrentState). current_after (did what s.traffic) x) none)
      (listed-taken most s.traffic.groups.next s.traffic.groups.lists s.traffic.table (after_task what s.traffic).table after
      (with-own None none) (takes-task s.traffic what))
  listed-step (does c after calm works at is) =
      let y : Scene = record { traffic = t.traffic; current = after } in
      let one = same-done (doing c s.traffic) (scene_of s c) y is in
      let two = listed-done (doing c s.traffic) (scene_of s c) y is in
      let before = with-own (Some c) works in
      listed-of t most s.traffic.groups.next t.traffic.groups.lists s.traffic.table.entries (Some after)
      two.next refl one.entries at
      (record {
        held = λ k.
            let same : is_of k after.entry ≡ is_of k c.entry = ap (λ (a : AskedOf). one_if (eqb a.0 k)) one.asked in
            let counts = two.lists.held k in
            let held = before.held k in
            omega (arith, same, counts, held);
        few = two.lists.few most before.few;
        old = two.lists.old s.traffic.groups.next before.old;
      })
  listed-step (puts c calm works p is) =
      let put = put-is (doing c s.traffic) c s in
      let before = with-own (Some c) works in
      let groups : t.traffic.groups ≡ s.traffic.groups =
      ap (λ (u : PoolState). u.traffic.groups) is ∙ put-groups (doing c s.traffic) c in
      listed-of t most s.traffic.groups.next s.traffic.groups.lists
      (insert_entry nat_cmp s.traffic.table.entries c.number c.entry) None
      (ap (λ (g : GroupsState). g.next) groups) (ap (λ (g : GroupsState). g.lists) groups)
      (ap (λ (u : PoolState). u.traffic.table.entries) is ∙ put.entries) (ap (λ (u : PoolState). u.current) is ∙ put.none)
      (record {
        held = λ k.
            let more = asking-inserted k c.number c.entry s.traffic.table.entries in
            let held = before.held k in omega (arith, more, held);
        few = before.few;
        old = before.old;
      })
  listed-step (ends c calm works e is) =
      let before = with-own (Some c) works in
      let ls : Lists = s.traffic.groups.lists in
      listed-of t most s.traffic.groups.next
      (swept c.entry.asked.0 (changed_list (one_less c.number) c.entry.asked.0 ls)) s.traffic.table.entries None
      (ap (λ (u : PoolState). u.traffic.groups.next) is) (ap (λ (u : PoolState). u.traffic.groups.lists) is)
      (ap (λ (u : PoolState). u.traffic.table.entries) is) (ap (λ (u : PoolState). u.current) is)
      (record {
        held = λ k.
            let less = ended-held c.entry.asked.0 c.number ls k in
            let held = before.held k in omega (arith, less, held);
        few = ended-few c.entry.asked.0 c.number ls most before.few;
        old = ended-old c.entry.asked.0 c.number ls s.traffic.groups.next before.old;
      })

module _ (most : ℕ) (s t : PoolState) (w : Kept most s) (current : t.current ≡ s.current) (room : most < 2 ^ 64 - 1) where
  listed-event : IsEvent s t → Kept (most + 1) t
  listed-event (keeps table groups) =
      listed-of t (most + 1) s.traffic.groups.next s.traffic.groups.lists s.traffic.table.entries s.current
      (ap (λ (g : GroupsState). g.next) groups) (ap (λ (g : GroupsState). g.lists) groups)
      (ap (λ (x : TableState). x.entries) table) current
      (listed-more most (most + 1) s.traffic.groups.next s.traffic.groups.lists s.traffic.table.entries s.current
      (omega arith) w)
  listed-event (regroups group servers sources table groups) =
      listed-of t (most + 1) now.next now.lists s.traffic.table.entries s.current
      (ap (λ (g : GroupsState). g.next) groups) (ap (λ (g : GroupsState). g.lists) groups)
      (ap (λ (x : TableState). x.entries) table) current (by (current_of group s.traffic.groups))
    where
      now : GroupsState
      now = with_servers group servers sources s.traffic.groups

      next : ℕ
      next = s.traffic.groups.next

      new : GroupListState
      new = new_list next servers sources

      ls : Lists
      ls = insert_entry nat_cmp s.traffic.groups.lists next new

      later : ℕ
      later = next + numbers_of servers

      less : next < later
      less = omega arith

      added : AreListed (most + 1) later ls s.traffic.table.entries s.current
      added = record {
        held = λ k.
            let more = new-held next new refl s.traffic.groups.lists w.old k in
            let held = w.held k in omega (arith, more, held);
        few = few-more most (most + 1) ls (omega arith) (new-few next new refl s.traffic.groups.lists w.old most s.traffic.groups.lists w.few);
        old = new-old next new refl s.traffic.groups.lists w.old later less s.traffic.groups.lists w.old;
      }

      by : (before : Option ℕ) → AreListed (most + 1) later (option_map_or (without_current ls) before ls)
          s.traffic.table.entries s.current
      by None = added
      by (Some number) = record {
        held = λ k. let more = retired-held number ls k in let held = added.held k in omega (arith, more, held);
        few = all-swept (λ p. p.1.transactions ≤ most + 1) number (changed_list retired number ls)
            ((retired-same number ls (list_in number ls) refl).few (most + 1) added.few);
        old = all-swept (λ p. p.0 < later) number (changed_list retired number ls)
            ((retired-same number ls (list_in number ls) refl).old later added.old);
      }
  listed-event (enters list question settings l is table groups) =
      let e : EntryState = entry_of list question settings l in
      let ls : Lists = s.traffic.groups.lists in
      let begun_is : changed_list one_more list ls ≡ put_list list (more_of most list l ls is w.few room) ls =
      ap (λ (o : Option GroupListState). option_map_or (λ g. put_list list (one_more g) ls) o ls) is in
      listed-of t (most + 1) s.traffic.groups.next (put_list list (more_of most list l ls is w.few room) ls)
      (insert_entry nat_cmp s.traffic.table.entries s.traffic.askers.next_transaction e) s.current
      (ap (λ (g : GroupsState). g.next) groups) (ap (λ (g : GroupsState). g.lists) groups ∙ begun_is)
      (ap (λ (x : TableState). x.entries) table) current
      (record {
        held = λ k.
            let more = asking-inserted k s.traffic.askers.next_transaction e s.traffic.table.entries in
            let grown = begun-held most list l ls is w.few room k in
            let held = w.held k in omega (arith, more, grown, held);
        few = begun-few most list l ls is w.few room;
        old = old-set s.traffic.groups.next list (more_of most list l ls is w.few room) ls w.old;
      })

pub listed-runs : (options : OptionsValue) (limits : PoolLimits) (seed : List ℕ) (past : List Happening) (s : PoolState)
    → Runs (no_servers options limits seed) past s → length past < 2 ^ 64 → Kept (length past) s
listed-runs options limits seed past s runs short = by past s runs short
  where
    by : (p : List Happening) (u : PoolState) → Runs (no_servers options limits seed) p u → length p < 2 ^ 64
        → Kept (length p) u
    by _ _ at_first less = record { held = λ k. omega arith; few = tt; old = tt }
    by _ _ (by_event p u e more) less =
        let before = by p u more (omega (arith, less)) in
        let now = listed-event (length p) u (after_event u e) before (current-event u e) (omega (arith, less)) (event-is u e) in
        listed-more (length p + 1) (suc (length p)) (after_event u e).traffic.groups.next
        (after_event u e).traffic.groups.lists (after_event u e).traffic.table.entries (after_event u e).current (omega arith) now
    by _ _ (by_step p u after r is more) less =
        let before = by p u more (omega (arith, less)) in
        listed-more (length p) (suc (length p)) after.traffic.groups.next after.traffic.groups.lists
        after.traffic.table.entries after.current (omega arith) (listed-step (length p) u after before (step-is u after r is))

pub listed-there : (most : ℕ) (s : PoolState) → Kept most s → (n : ℕ) (e : EntryState) → Has s n e
    → is_some (list_at e.asked.0 s.traffic.groups) ≡ true
listed-there most s all n e has = there (list_in e.asked.0 s.traffic.groups.lists) refl
  where
    own : Has s n e → 1 ≤ asking e.asked.0 s.traffic.table.entries + in_hand_of e.asked.0 s.current
    own (in_table found) =
        let one : is_of e.asked.0 e ≡ 1 = ap one_if (eq-eqb e.asked.0 e.asked.0 refl) in
        let more = asking-found e.asked.0 (is_at (nat_cmp n)) e s.traffic.table.entries found in
        omega (arith, one, more)
    own (in_hand to_do works) =
        let one : is_of e.asked.0 e ≡ 1 = ap one_if (eq-eqb e.asked.0 e.asked.0 refl) in
        let hand : in_hand_of e.asked.0 s.current ≡ is_of e.asked.0 e =
        ap (λ (x : Option CurrentState). in_hand_of e.asked.0 x) works in
        omega (arith, one, hand)

    there : (o : Option GroupListState) → list_in e.asked.0 s.traffic.groups.lists ≡ o → is_some o ≡ true
    there None at =
        let none : counted e.asked.0 s.traffic.groups.lists ≡ 0 = ap count_of at in
        let held = all.held e.asked.0 in
        let some = own has in
        absurd (omega (arith, none, held, some))
    there (Some l) at = refl

pub servers_are_kept : ServersAreKept
servers_are_kept options limits seed past s runs short n e has =
    listed-there (length past) s (listed-runs options limits seed past s runs short) n e has
