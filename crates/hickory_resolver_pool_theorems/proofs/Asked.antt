-- Who is told that a transaction is over asked what it asks.
use Rattle.std.proofs.Common.{◌≡◌, ◌≤◌, ◌<◌, ◌+◌, ◌-◌, ◌^◌, min, ℕ, Bool, true, false, cond, ◌&&◌, ◌||◌, List, [], ◌∷◌, refl, ap, sym, subst, ◌∙◌, true≢false, arith}
use Rattle.std.specs.Prelude.{Option, None, Some, IfSome, nat_eq}
use Rattle.std.specs.Cmp.{IsEquivalence, and_equiv, on_equiv, nat_eq_equiv}
use Rattle.std.specs.List.{AllByRecursion}
use Rattle.std.specs.Map.{lookup}
use Rattle.std.specs.Option.{is_some, option_map_or, option_and_then}
use Rattle.indexmap.specs.IndexMap.{swap_remove_entry}
use Rattle.indexmap.specs.IndexMap as index
use Rattle.hickory_proto_core.specs.declared.dns_request.DnsRequestOptions.{DnsRequestOptions}
use Rattle.hickory_proto_core.specs.declared.query.Query.{Query}
use Rattle.hickory_resolver_tries.specs.declared.pool_question.DnssecOptions.{DnssecOptions}
use Rattle.hickory_resolver_pool.specs.declared.limits.PoolLimits.{PoolLimits}
use Rattle.hickory_resolver_askers.specs.Askers.{AskersState, WaitingValue, joiner, to_admit, admitted_one, place_for, is_flying, is_waiting, given_in, asker_given, joined_flying, joined_waiting, forgot_as, left_of}
use Rattle.hickory_resolver_askers.specs.Askers as ask
use Rattle.hickory_resolver_askers.specs.declared.asker.Asker.{Asker}
use Rattle.hickory_resolver_askers.specs.declared.asker.Forgotten.{Forgotten}
use Rattle.hickory_resolver_askers.specs.declared.asker.Forgotten.TheVariants as left
use Rattle.hickory_resolver_askers.specs.declared.asker.Place.{Place}
use Rattle.hickory_resolver_askers.specs.declared.asker.Place.TheVariants.{InFlight, Waits, Overloaded}
use Rattle.hickory_resolver_channels.specs.Channels.{channel_at}
use Rattle.hickory_resolver_channels.specs.declared.channel.Channel.{Channel}
use Rattle.hickory_resolver_config.specs.ResolverConfig.{OptionsValue}
use Rattle.hickory_resolver_tries.specs.Question.{question_of, question_eq, question_equiv}
use Rattle.hickory_resolver_tries.specs.declared.pool_question.PoolQuestion.{PoolQuestion}
use Rattle.hickory_resolver_transactions.specs.declared.settings.Settings.{Settings}
use Rattle.hickory_resolver_traffic.specs.Doing.{doing, doubts_message, one_freed, is_empty}
use Rattle.hickory_resolver_traffic.specs.Groups.{GroupListState, list_at}
use Rattle.hickory_resolver_traffic.specs.Inbox.{MessageValue, first_message, first_failure}
use Rattle.hickory_resolver_traffic.specs.Table.{CurrentState, EntryState}
use Rattle.hickory_resolver_traffic.specs.Tasks.{task_of, after_task, closed, freed_by, freed_by_first, without_taken}
use Rattle.hickory_resolver_traffic.specs.Traffic.{TrafficState, ticked, until_of, begun_as, begun_with, entry_of, begun_asker, came_on, failed_on, joined, begun}
use Rattle.hickory_resolver_traffic.specs.declared.doing.Doing.{Doing}
use Rattle.hickory_resolver_traffic.specs.declared.inbox.ChannelFailure.{ChannelFailure}
use Rattle.hickory_resolver_traffic.specs.declared.inbox.Failure.{Failure}
use Rattle.hickory_resolver_traffic.specs.declared.inbox.Failure.TheVariants as failure
use Rattle.hickory_resolver_traffic.specs.declared.tasks.Task.{Task}
use Rattle.hickory_resolver_traffic.specs.declared.tasks.Task.TheVariants as task
use Rattle.hickory_resolver_pool.specs.Laws.{PoolEvent, time_passes, group_has, is_asked, octets_come, channel_fails, is_forgotten, after_event}
use Rattle.hickory_resolver_pool.specs.Pool.{PoolState, AskedOf, asked_eq, no_servers, settings_for, list_of, joiner_of, join_in, join_or_begin, ask_of, after_asking, asking_told, told_to_joiner, asked_by, with_question, started, Starts, IsDoneTo, scene_of, is_end, is_put, StepsBy, StepsIn, StepsAs, Steps, let_go, put_by, without_question, is_its_own}
use Rattle.hickory_resolver_pool.specs.Pool as pool
use Rattle.hickory_resolver_pool.specs.declared.pool.Action.{Action}
use Rattle.hickory_resolver_pool.specs.declared.pool.Asked.TheVariants as told
use Rattle.hickory_resolver_pool_theorems.specs.Runs.{Happening, Runs, at_first, by_event, by_step}
use Rattle.hickory_resolver_pool_theorems.proofs.Askings.{all-swap_removed, OfEach, AsksFor, next_of, put-is, each-step, each-event}
use Rattle.hickory_resolver_pool.specs.Over.{OverValue}
use Rattle.hickory_resolver_pool_theorems.proofs.Overs.{IsEnd}
use Rattle.hickory_resolver_pool_theorems.proofs.Scenes.{same-done}

-- ---- equal questions

asked_equiv : IsEquivalence asked_eq
asked_equiv =
    and_equiv (on_equiv (λ (p : AskedOf). p.0) nat_eq_equiv) (on_equiv (λ (p : AskedOf). p.1) question_equiv)

asked-same : (a b : AskedOf) → a ≡ b → asked_eq a b ≡ true
asked-same a b same = subst (λ (x : AskedOf). asked_eq a x ≡ true) same (asked_equiv.refl a)

-- one that is equal to what is equal
asked-then : (a b c : AskedOf) → asked_eq a b ≡ true → asked_eq b c ≡ true → asked_eq a c ≡ true
asked-then a b c ab bc = asked_equiv.congr a b c ab ∙ bc

asked-turned : (a b : AskedOf) → asked_eq a b ≡ true → asked_eq b a ≡ true
asked-turned a b ab = asked_equiv.symm b a ∙ ab

-- ---- the number of the next transaction

pub next-one_freed : (t : TrafficState) → (one_freed t).askers ≡ t.askers
next-one_freed t = by (is_empty t.table.blocked)
  where
    by : (empty : Bool)
        → (cond {A = TrafficState} empty t (record t { freed = min (t.freed + 1) (2 ^ 64 - 1) })).askers ≡ t.askers
    by true = refl
    by false = refl

pub next-freed_first : (t : TrafficState) → (freed_by_first t).askers ≡ t.askers
next-freed_first t = by (first_failure t.inbox)
  where
    why : (f : Failure) → (freed_by f t).askers ≡ t.askers
    why failure.Local = refl
    why failure.Refused = next-one_freed t
    why failure.Unreachable = next-one_freed t
    why failure.Closed = next-one_freed t

    by : (f : Option ChannelFailure) → (option_map_or (λ g. freed_by g.why t) f t).askers ≡ t.askers
    by None = refl
    by (Some f) = why f.why

next-admitted : (a : AskersState) → (ask.admitted a).next_transaction ≡ a.next_transaction
next-admitted a = by (to_admit a)
  where
    by : (first : Option (ℕ × WaitingValue))
        → (option_map_or (admitted_one a) first a).next_transaction ≡ a.next_transaction
    by None = refl
    by (Some f) = refl

next-task : (what : Task) (t : TrafficState) → (after_task what t).askers.next_transaction ≡ t.askers.next_transaction
next-task task.Opens t = refl
next-task task.Writes t = refl
next-task task.Doubts t = by (first_message t.inbox)
  where
    by : (m : Option MessageValue)
        → (option_map_or (doubts_message t) m t).askers.next_transaction ≡ t.askers.next_transaction
    by None = refl
    by (Some m) = refl
next-task task.PassesBy t = refl
next-task (task.Cuts channel) t = refl
next-task (task.ClosesFailed channel) t = ap (λ (a : AskersState). a.next_transaction) (next-freed_first (closed channel t))
next-task task.DropsFailure t = refl
next-task (task.TakesReady n) t = refl
next-task (task.TakesUp n to_do) t = refl
next-task (task.Undates due n) t = refl
next-task (task.Strays n) t = refl
next-task (task.Unblocks n) t = refl
next-task (task.ClosesIdle channel) t = ap (λ (a : AskersState). a.next_transaction) (next-one_freed (closed channel t))
next-task task.Admits t = by (to_admit t.askers)
  where
    by : (first : Option (ℕ × WaitingValue))
        → (option_map_or (λ f. without_taken f.0 (record t { askers = ask.admitted t.askers })) first t).askers.next_transaction
        ≡ t.askers.next_transaction
    by None = refl
    by (Some f) = next-admitted t.askers

module _ (s t : PoolState) (r : Option Action) where
  next-starts : Starts s r t → next_of t ≡ next_of s
  next-starts is = ap next_of is.1 ∙ next-task (task_of s.traffic) s.traffic

  next-done : (c : CurrentState) (what : Doing) (after : Option CurrentState)
      → IsDoneTo what (scene_of s c) t.traffic after → next_of t ≡ next_of s
  next-done c what None is = absurd is
  next-done c what (Some after) is =
      ap (λ (a : AskersState). a.next_transaction)
      (same-done what (scene_of s c) (record { traffic = t.traffic; current = after }) is).askers

  next-by : (c : CurrentState) (ends puts : Bool) (what : Doing) → StepsBy ends puts what c s r t → next_of t ≡ next_of s
  next-by c true puts what is = ap next_of is.pool
  next-by c false true what is =
      ap next_of is.pool ∙ ap (λ (a : AskersState). a.next_transaction) (put-is what c s).askers
  next-by c false false what is = next-done c what t.current is.done

  next-in : (c : Option CurrentState) → StepsIn c s r t → next_of t ≡ next_of s
  next-in None is = next-starts is
  next-in (Some c) is = next-by c (is_end (doing c s.traffic)) (is_put (doing c s.traffic)) (doing c s.traffic) is

  pub next-step : Steps s r t → next_of t ≡ next_of s
  next-step is = by (is_some s.traffic.outgoing) is
    where
      by : (writes : Bool) → StepsAs writes s r t → next_of t ≡ next_of s
      by true steps = next-starts steps
      by false steps = next-in s.current steps

-- ---- and after an event

abbrev Grows : ℕ → TrafficState → Type 0
Grows n u = n ≤ u.askers.next_transaction

grows-self : (n : ℕ) → n ≤ n
grows-self n = omega arith

grows-ask_joined : (n : ℕ) (a : AskersState) → a.next_transaction ≤ (ask.joined n a).next_transaction
grows-ask_joined n a = by (is_flying n a) (is_waiting n a)
  where
    by : (flying waiting : Bool) → a.next_transaction
        ≤ (cond {A = AskersState} flying (joined_flying n a) (cond waiting (joined_waiting n a) a)).next_transaction
    by true waiting = grows-self a.next_transaction
    by false true = grows-self a.next_transaction
    by false false = grows-self a.next_transaction

grows-joined : (n at : ℕ) (t : TrafficState) → Grows t.askers.next_transaction (joined n at t)
grows-joined n at t = by (joiner n t.askers)
  where
    by : (a : Option Asker) → Grows t.askers.next_transaction
        (option_map_or (λ b. ticked at (record t { askers = ask.joined n t.askers })) a t)
    by None = grows-self t.askers.next_transaction
    by (Some a) = grows-ask_joined n t.askers

grows-begun_in : (p : Place) (until : ℕ) (a : AskersState) → a.next_transaction ≤ (ask.begun_in p until a).next_transaction
grows-begun_in InFlight until a = omega arith
grows-begun_in Waits until a = omega arith
grows-begun_in Overloaded until a = omega arith

grows-begun : (list : ℕ) (question : PoolQuestion) (settings : Settings) (at : ℕ) (t : TrafficState)
    → Grows t.askers.next_transaction (begun list question settings at t)
grows-begun list question settings at t = by (list_at list t.groups)
  where
    place : (p : Place) (l : GroupListState)
        → Grows t.askers.next_transaction (begun_as p (entry_of list question settings l) list at t)
    place Overloaded l = grows-self t.askers.next_transaction
    place InFlight l = grows-begun_in (place_for t.askers) (until_of at t) t.askers
    place Waits l = grows-begun_in (place_for t.askers) (until_of at t) t.askers

    by : (l : Option GroupListState) → Grows t.askers.next_transaction
        (option_map_or (begun_with list question settings at t) l (ticked at t))
    by None = grows-self t.askers.next_transaction
    by (Some l) = place (place_for t.askers) l

grows-asked : (key : AskedOf) (settings : Settings) (at : ℕ) (s : PoolState) → Grows (next_of s) (ask_of key settings at s).traffic
grows-asked key settings at s = by (joiner_of key s)
  where
    joins : (n : Option ℕ) → Grows (next_of s) (option_map_or (join_in at s) n s).traffic
    joins None = grows-self (next_of s)
    joins (Some n) = grows-joined n at s.traffic

    by : (a : Option Asker) → Grows (next_of s) (join_or_begin a key settings at s).traffic
    by None = grows-begun key.0 key.1 settings at s.traffic
    by (Some a) = joins (pool.number_of key s.questions)

grows-asks : (list : Option ℕ) (question : PoolQuestion) (settings : Settings) (at : ℕ) (s : PoolState)
    → Grows (next_of s) (after_asking list question settings at s).traffic
grows-asks None question settings at s = grows-self (next_of s)
grows-asks (Some list) question settings at s = grows-asked (list, question) settings at s

grows-forgot : (a : Asker) (s : AskersState) → s.next_transaction ≤ (ask.forgot a s).next_transaction
grows-forgot a s = by (left_of a s)
  where
    by : (l : Forgotten) → s.next_transaction ≤ (forgot_as l a s).next_transaction
    by left.Nobody = grows-self s.next_transaction
    by left.OthersAsk = grows-self s.next_transaction
    by left.Last = grows-self s.next_transaction

pub grows-event : (s : PoolState) (e : PoolEvent) → next_of s ≤ next_of (after_event s e)
grows-event s (time_passes at) = grows-self (next_of s)
grows-event s (group_has group servers) = grows-self (next_of s)
grows-event s (is_asked group query options dnssec at) =
    grows-asks (list_of group s.traffic) (question_of query options dnssec) (settings_for s.options options) at s
grows-event s (octets_come channel octets at) = by (channel_at channel s.traffic.shared.channels)
  where
    by : (c : Option Channel) → Grows (next_of s) (ticked at (option_map_or (came_on channel octets s.traffic) c s.traffic))
    by None = grows-self (next_of s)
    by (Some c) = grows-self (next_of s)
grows-event s (channel_fails f at) = by (channel_at f.channel s.traffic.shared.channels)
  where
    by : (c : Option Channel) → Grows (next_of s) (ticked at (option_map_or (failed_on f s.traffic) c s.traffic))
    by None = grows-self (next_of s)
    by (Some c) = grows-self (next_of s)
grows-event s (is_forgotten a) = grows-forgot a s.traffic.askers

-- ---- a transaction whose number was given asks this, where it is there still

abbrev pub Asks : AskedOf → ℕ → ℕ → AskedOf → Type 0
Asks key n m asked = m ≡ n → asked_eq key asked ≡ true

pub record IsOwn (key : AskedOf) (n : ℕ) (s : PoolState) : Type 0 where
  pub old : n < next_of s
  pub each : OfEach (Asks key n) s

pub own-event : (key : AskedOf) (n : ℕ) (s : PoolState) (e : PoolEvent) → IsOwn key n s → IsOwn key n (after_event s e)
own-event key n s e own = record {
  old = omega (arith, own.old, grows-event s e);
  each = each-event (Asks key n) s e own.each (λ k is less same. absurd (apart same));
}
  where
    apart : next_of s ≡ n → ⊥
    apart same = omega (arith, own.old, same)

pub own-step : (key : AskedOf) (n : ℕ) (s t : PoolState) (r : Option Action) → Steps s r t → IsOwn key n s → IsOwn key n t
own-step key n s t r is own = record {
  old = subst (λ (m : ℕ). n < m) (sym (next-step s t r is)) own.old;
  each = each-step (Asks key n) s t r own.each is;
}

pub own-runs : (key : AskedOf) (n : ℕ) (start : PoolState) (past : List Happening) (s : PoolState) → Runs start past s
    → IsOwn key n start → IsOwn key n s
own-runs key n start _ _ at_first own = own
own-runs key n start _ _ (by_event past s e more) own = own-event key n s e (own-runs key n start past s more own)
own-runs key n start _ _ (by_step past s after r is more) own =
    own-step key n s after r is (own-runs key n start past s more own)

-- an equal question
each-as : (G H : ℕ → AskedOf → Type 0) → ((m : ℕ) (asked : AskedOf) → G m asked → H m asked) → (s : PoolState)
    → OfEach G s → OfEach H s
each-as G H gives s w = record { table = all s.traffic.table.entries w.table; worked = one s.current w.worked }
  where
    all : (es : List (ℕ × EntryState)) → AllByRecursion (λ p. G p.0 p.1.asked) es → AllByRecursion (λ p. H p.0 p.1.asked) es
    all [] k = tt
    all (e ∷ es) k = (gives e.0 e.1.asked k.0, all es k.1)

    one : (c : Option CurrentState) → IfSome c (λ x. G x.number x.entry.asked) → IfSome c (λ x. H x.number x.entry.asked)
    one None k = tt
    one (Some c) k = gives c.number c.entry.asked k

own-equal : (key other : AskedOf) (n : ℕ) (s : PoolState) → asked_eq key other ≡ true → IsOwn other n s → IsOwn key n s
own-equal key other n s equal own = record {
  old = own.old;
  each = each-as (Asks other n) (Asks key n) (λ m asked k same. asked-then key other asked equal (k same)) s own.each;
}

-- ---- the questions that can be joined

abbrev Old : ℕ → ℕ → AskedOf → Type 0
Old next m asked = m < next

pub record AreKnown (s : PoolState) : Type 0 where
  pub numbers : OfEach (Old (next_of s)) s
  pub own : AllByRecursion (λ q. IsOwn q.0 q.1 s) s.questions

own-all : (s t : PoolState) → ((key : AskedOf) (n : ℕ) → IsOwn key n s → IsOwn key n t) → (qs : List (AskedOf × ℕ))
    → AllByRecursion (λ q. IsOwn q.0 q.1 s) qs → AllByRecursion (λ q. IsOwn q.0 q.1 t) qs
own-all s t gives [] all = tt
own-all s t gives (q ∷ qs) all = (gives q.0 q.1 all.0, own-all s t gives qs all.1)

own-inserted : (key : AskedOf) (n : ℕ) (s : PoolState) (qs : List (AskedOf × ℕ)) → AllByRecursion (λ q. IsOwn q.0 q.1 s) qs
    → IsOwn key n s → AllByRecursion (λ q. IsOwn q.0 q.1 s) (index.insert_entry asked_eq qs key n)
own-inserted key n s [] all own = (own, tt)
own-inserted key n s (q ∷ qs) all own = by (asked_eq key q.0) refl (own-inserted key n s qs all.1 own)
  where
    by : (same : Bool) → asked_eq key q.0 ≡ same
        → AllByRecursion (λ p. IsOwn p.0 p.1 s) (index.insert_entry asked_eq qs key n)
        → AllByRecursion (λ p. IsOwn p.0 p.1 s) (cond same ((q.0, n) ∷ qs) (q ∷ index.insert_entry asked_eq qs key n))
    by true is more = (own-equal q.0 key n s (asked-turned key q.0 is) own, all.1)
    by false is more = (all.0, more)

own-found : (key : AskedOf) (n : ℕ) (s : PoolState) (qs : List (AskedOf × ℕ)) → AllByRecursion (λ q. IsOwn q.0 q.1 s) qs
    → lookup (asked_eq key) qs ≡ Some n → IsOwn key n s
own-found key n s [] all e = absurd cc
own-found key n s (q ∷ qs) all e = by (asked_eq key q.0) refl (own-found key n s qs all.1) e
  where
    by : (same : Bool) → asked_eq key q.0 ≡ same → (lookup (asked_eq key) qs ≡ Some n → IsOwn key n s)
        → cond same (Some q.1) (lookup (asked_eq key) qs) ≡ Some n → IsOwn key n s
    by true is more h =
        let same : q.1 ≡ n = cc in own-equal key q.0 n s is (subst (λ (m : ℕ). IsOwn q.0 m s) same all.0)
    by false is more h = more h

-- ---- what an event does to them

-- one that begins: it has the number that none had, and asks what is asked
own-new : (key : AskedOf) (s : PoolState) (e : PoolEvent) → AreKnown s → AsksFor s e key
    → next_of s < next_of (after_event s e) → IsOwn key (next_of s) (after_event s e)
own-new key s e known asks less = record {
  old = less;
  each = each-event (Asks key (next_of s)) s e
      (each-as (Old (next_of s)) (Asks key (next_of s)) (λ m asked k same. absurd (apart m k same)) s known.numbers)
      (λ k is grows same. asked-same key k (both s e asks is));
}
  where
    apart : (m : ℕ) → m < next_of s → m ≡ next_of s → ⊥
    apart m k same = omega (arith, k, same)

    pair : (a b : AskedOf) → a.0 ≡ b.0 → a.1 ≡ b.1 → a ≡ b
    pair a b one two = ap (λ (n : ℕ). (n, a.1)) one ∙ ap (λ (q : PoolQuestion). (b.0, q)) two

    both : (t : PoolState) (f : PoolEvent) {k : AskedOf} → AsksFor t f key → AsksFor t f k → key ≡ k
    both t (time_passes at) one two = absurd one
    both t (group_has group servers) one two = absurd one
    both t (is_asked group query options dnssec at) {k} one two =
        let lists : Some key.0 ≡ Some k.0 = sym one.0 ∙ two.0 in
        let list : key.0 ≡ k.0 = cc in
        pair key k list (one.1 ∙ sym two.1)
    both t (octets_come channel octets at) one two = absurd one
    both t (channel_fails f at) one two = absurd one
    both t (is_forgotten a) one two = absurd one

-- who begins one has its number
pub record HasBegun (key : AskedOf) (settings : Settings) (at : ℕ) (a : Asker) (s : PoolState) : Type 0 where
  pub number : a.transaction ≡ next_of s
  pub grows : next_of s < next_of (ask_of key settings at s)
  pub questions : (ask_of key settings at s).questions ≡ with_question key s.questions a

begun-by : (key : AskedOf) (settings : Settings) (at : ℕ) (a : Asker) (s : PoolState) → joiner_of key s ≡ None
    → begun_asker key.0 s.traffic ≡ Some a → HasBegun key settings at a s
begun-by key settings at a s none gives = record {
  number = number (list_at key.0 s.traffic.groups) gives;
  grows = subst (λ (j : Option Asker). next_of s < next_of (join_or_begin j key settings at s)) (sym none)
      (grows (list_at key.0 s.traffic.groups) refl gives);
  questions = ap (λ (j : Option Asker). (join_or_begin j key settings at s).questions) none
      ∙ ap (λ (b : Option Asker). option_map_or (with_question key s.questions) b s.questions) gives;
}
  where
    given : (p : Place) → given_in p s.traffic.askers ≡ Some a → a.transaction ≡ next_of s
    given InFlight e = let same : ask.next_one s.traffic.askers ≡ a = cc in sym (ap (λ (b : Asker). b.transaction) same)
    given Waits e = let same : ask.next_one s.traffic.askers ≡ a = cc in sym (ap (λ (b : Asker). b.transaction) same)
    given Overloaded e = absurd cc

    number : (l : Option GroupListState) → option_map_or (λ x. asker_given s.traffic.askers) l None ≡ Some a
        → a.transaction ≡ next_of s
    number None e = absurd cc
    number (Some l) e = given (place_for s.traffic.askers) e

    -- where one is given, one begins
    place : (l : GroupListState) (p : Place) → place_for s.traffic.askers ≡ p → given_in p s.traffic.askers ≡ Some a
        → next_of s < (begun_as p (entry_of key.0 key.1 settings l) key.0 at s.traffic).askers.next_transaction
    place l InFlight is e =
        subst (λ (q : Place). next_of s < (ask.begun_in q (until_of at s.traffic) s.traffic.askers).next_transaction) (sym is) (omega arith)
    place l Waits is e =
        subst (λ (q : Place). next_of s < (ask.begun_in q (until_of at s.traffic) s.traffic.askers).next_transaction) (sym is) (omega arith)
    place l Overloaded is e = absurd cc

    grows : (l : Option GroupListState) → list_at key.0 s.traffic.groups ≡ l
        → option_map_or (λ x. asker_given s.traffic.askers) l None ≡ Some a
        → next_of s < (begun key.0 key.1 settings at s.traffic).askers.next_transaction
    grows None is e = absurd cc
    grows (Some l) is e =
        subst (λ (o : Option GroupListState). next_of s < (option_map_or (begun_with key.0 key.1 settings at s.traffic) o (ticked at s.traffic)).askers.next_transaction) (sym is)
        (place l (place_for s.traffic.askers) refl e)

module _ (s : PoolState) (group : ℕ) (query : Query) (options : DnsRequestOptions) (dnssec : DnssecOptions) (at : ℕ)
    (known : AreKnown s) where
  abbrev e : PoolEvent
  e = is_asked group query options dnssec at

  abbrev t : PoolState
  t = after_event s e

  abbrev question : PoolQuestion
  question = question_of query options dnssec

  abbrev settings : Settings
  settings = settings_for s.options options

  abbrev AllOwn : List (AskedOf × ℕ) → Type 0
  AllOwn qs = AllByRecursion (λ q. IsOwn q.0 q.1 t) qs

  kept : AllOwn s.questions
  kept = own-all s t (λ key n own. own-event key n s e own) s.questions known.own

  own-begun : (list : ℕ) → list_of group s.traffic ≡ Some list → (a : Asker) → joiner_of (list, question) s ≡ None
      → begun_asker list s.traffic ≡ Some a → IsOwn (list, question) a.transaction t
  own-begun list is a none gives =
      let begun = begun-by (list, question) settings at a s none gives in
      let less : next_of s < next_of t =
      subst (λ (o : Option ℕ). next_of s < next_of (after_asking o question settings at s)) (sym is) begun.grows in
      subst (λ (n : ℕ). IsOwn (list, question) n t) (sym begun.number)
      (own-new (list, question) s e known (is, refl) less)

  own-asked : (list : ℕ) → list_of group s.traffic ≡ Some list → (j : Option Asker) → joiner_of (list, question) s ≡ j
      → AllOwn (join_or_begin j (list, question) settings at s).questions
  own-asked list is (Some a) at_j = by (pool.number_of (list, question) s.questions)
    where
      by : (n : Option ℕ) → AllOwn (option_map_or (join_in at s) n s).questions
      by None = kept
      by (Some n) = kept
  own-asked list is None at_j = by (begun_asker list s.traffic) refl
    where
      by : (b : Option Asker) → begun_asker list s.traffic ≡ b
          → AllOwn (option_map_or (with_question (list, question) s.questions) b s.questions)
      by None gives = kept
      by (Some a) gives =
          own-inserted (list, question) a.transaction t s.questions kept (own-begun list is a at_j gives)

  own-asks : (o : Option ℕ) → list_of group s.traffic ≡ o → AllOwn (after_asking o question settings at s).questions
  own-asks None is = kept
  own-asks (Some list) is = own-asked list is (joiner_of (list, question) s) refl

  -- who is told its number asks the question of its transaction
  pub record AsksIt (a : Asker) : Type 0 where
    pub list : ℕ
    pub of_group : list_of group s.traffic ≡ Some list
    pub own : IsOwn (list, question) a.transaction t

  own-joined : (list : ℕ) → (a : Asker) → joiner_of (list, question) s ≡ Some a → IsOwn (list, question) a.transaction t
  own-joined list a joins = by (pool.number_of (list, question) s.questions) refl joins
    where
      test : (n : ℕ) (b : Bool)
          → cond b (Some (record { transaction = n; number = s.traffic.askers.next_asker })) None ≡ Some a → a.transaction ≡ n
      test n true h =
          let own : Asker = record { transaction = n; number = s.traffic.askers.next_asker } in
          let same : own ≡ a = cc in sym (ap (λ (x : Asker). x.transaction) same)
      test n false h = absurd cc

      by : (n : Option ℕ) → pool.number_of (list, question) s.questions ≡ n
          → option_and_then (λ m. joiner m s.traffic.askers) n ≡ Some a → IsOwn (list, question) a.transaction t
      by None is h = absurd cc
      by (Some n) is h =
          subst (λ (m : ℕ). IsOwn (list, question) m t)
          (sym (test n (is_flying n s.traffic.askers || is_waiting n s.traffic.askers) h))
          (own-event (list, question) n s e (own-found (list, question) n s s.questions known.own is))

  pub asks-it : (a : Asker) → asking_told (list_of group s.traffic) question s ≡ told.Asker a → AsksIt a
  asks-it a says = by (list_of group s.traffic) refl says
    where
      begins : (list : ℕ) → list_of group s.traffic ≡ Some list → joiner_of (list, question) s ≡ None → (b : Option Asker)
          → begun_asker list s.traffic ≡ b → asked_by b ≡ told.Asker a → AsksIt a
      begins list is none None gives h = absurd cc
      begins list is none (Some b) gives h =
          let same : b ≡ a = cc in
          record {
            list = list;
            of_group = is;
            own = subst (λ (x : Asker). IsOwn (list, question) x.transaction t) same (own-begun list is b none gives);
          }

      joins : (list : ℕ) → list_of group s.traffic ≡ Some list → (j : Option Asker) → joiner_of (list, question) s ≡ j
          → told_to_joiner j (list, question) s ≡ told.Asker a → AsksIt a
      joins list is None none h = begins list is none (begun_asker list s.traffic) refl h
      joins list is (Some b) at_j h =
          let same : b ≡ a = cc in
          record {
            list = list;
            of_group = is;
            own = subst (λ (x : Asker). IsOwn (list, question) x.transaction t) same (own-joined list b at_j);
          }

      by : (o : Option ℕ) → list_of group s.traffic ≡ o → asking_told o question s ≡ told.Asker a → AsksIt a
      by None is h = absurd cc
      by (Some list) is h = joins list is (joiner_of (list, question) s) refl h

-- ---- whatever happens

numbers-event : (s : PoolState) (e : PoolEvent) → AreKnown s → OfEach (Old (next_of (after_event s e))) (after_event s e)
numbers-event s e known =
    each-event (Old (next_of (after_event s e))) s e
    (each-as (Old (next_of s)) (Old (next_of (after_event s e))) (λ m asked k. omega (arith, k, grows-event s e)) s known.numbers)
    (λ key is less. less)

questions-event : (s : PoolState) (e : PoolEvent) → AreKnown s
    → AllByRecursion (λ q. IsOwn q.0 q.1 (after_event s e)) (after_event s e).questions
questions-event s (time_passes at) known =
    own-all s (after_event s (time_passes at)) (λ key n own. own-event key n s (time_passes at) own) s.questions known.own
questions-event s (group_has group servers) known =
    own-all s (after_event s (group_has group servers)) (λ key n own. own-event key n s (group_has group servers) own)
    s.questions known.own
questions-event s (is_asked group query options dnssec at) known =
    own-asks s group query options dnssec at known (list_of group s.traffic) refl
questions-event s (octets_come channel octets at) known =
    own-all s (after_event s (octets_come channel octets at)) (λ key n own. own-event key n s (octets_come channel octets at) own)
    s.questions known.own
questions-event s (channel_fails f at) known =
    own-all s (after_event s (channel_fails f at)) (λ key n own. own-event key n s (channel_fails f at) own)
    s.questions known.own
questions-event s (is_forgotten a) known =
    own-all s (after_event s (is_forgotten a)) (λ key n own. own-event key n s (is_forgotten a) own) s.questions known.own

module _ (P : AskedOf × ℕ → Type 0) (s t : PoolState) (r : Option Action) (w : AllByRecursion P s.questions) where
  questions-same : t.questions ≡ s.questions → AllByRecursion P t.questions
  questions-same is = subst (λ (qs : List (AskedOf × ℕ)). AllByRecursion P qs) (sym is) w

  questions-by : (c : CurrentState) (ends puts : Bool) (what : Doing) → StepsBy ends puts what c s r t
      → AllByRecursion P t.questions
  questions-by c true puts what is =
      subst (λ (u : PoolState). AllByRecursion P u.questions) (sym is.pool)
      (by (is_its_own c.number (pool.number_of c.entry.asked s.questions)))
    where
      by : (own : Bool)
          → AllByRecursion P (cond own (swap_remove_entry (asked_eq c.entry.asked) s.questions) s.questions)
      by true = all-swap_removed P (asked_eq c.entry.asked) s.questions w
      by false = w
  questions-by c false true what is =
      questions-same (ap (λ (u : PoolState). u.questions) is.pool ∙ (put-is what c s).questions)
  questions-by c false false what is = questions-same (ap (λ (u : PoolState). u.questions) is.pool)

  questions-in : (c : Option CurrentState) → StepsIn c s r t → AllByRecursion P t.questions
  questions-in None is = questions-same (ap (λ (u : PoolState). u.questions) is.1)
  questions-in (Some c) is =
      questions-by c (is_end (doing c s.traffic)) (is_put (doing c s.traffic)) (doing c s.traffic) is

  questions-step : Steps s r t → AllByRecursion P t.questions
  questions-step is = by (is_some s.traffic.outgoing) is
    where
      by : (writes : Bool) → StepsAs writes s r t → AllByRecursion P t.questions
      by true steps = questions-same (ap (λ (u : PoolState). u.questions) steps.1)
      by false steps = questions-in s.current steps

known-step : (s t : PoolState) (r : Option Action) → Steps s r t → AreKnown s → AreKnown t
known-step s t r is known = record {
  numbers = subst (λ (n : ℕ). OfEach (Old n) t) (sym (next-step s t r is)) (each-step (Old (next_of s)) s t r known.numbers is);
  own = questions-step (λ q. IsOwn q.0 q.1 t) s t r
      (own-all s t (λ key n own. own-step key n s t r is own) s.questions known.own) is;
}

pub known-runs : (options : OptionsValue) (limits : PoolLimits) (seed : List ℕ) (past : List Happening) (s : PoolState)
    → Runs (no_servers options limits seed) past s → AreKnown s
known-runs options limits seed past s runs = by past s runs
  where
    by : (p : List Happening) (u : PoolState) → Runs (no_servers options limits seed) p u → AreKnown u
    by _ _ at_first = record { numbers = record { table = tt; worked = tt }; own = tt }
    by _ _ (by_event p u e more) = record {
      numbers = numbers-event u e (by p u more);
      own = questions-event u e (by p u more);
    }
    by _ _ (by_step p u after r is more) = known-step u after r is (by p u more)

-- ---- at its end

pub and-right : (a b : Bool) → (a && b) ≡ true → b ≡ true
and-right true b h = h
and-right false b h = absurd (true≢false (sym h))

-- what is told of it is of an equal question
pub end-asks : (list : ℕ) (question : PoolQuestion) (n : ℕ) (s : PoolState) (o : OverValue) → IsOwn (list, question) n s
    → o.transaction ≡ n → IsEnd s o → question_eq question o.question ≡ true
end-asks list question n s o own number end =
    let c : CurrentState = end.current in
    let worked : Asks (list, question) n c.number c.entry.asked =
    subst (λ (x : Option CurrentState). IfSome x (λ y. Asks (list, question) n y.number y.entry.asked)) end.works
    own.each.worked in
    let mine : c.number ≡ n = sym (ap (λ (x : OverValue). x.transaction) end.told) ∙ number in
    let asked : o.question ≡ c.entry.asked.1 = ap (λ (x : OverValue). x.question) end.told in
    subst (λ (q : PoolQuestion). question_eq question q ≡ true) (sym asked)
    (and-right (nat_eq list c.entry.asked.0) (question_eq question c.entry.asked.1) (worked mine))
