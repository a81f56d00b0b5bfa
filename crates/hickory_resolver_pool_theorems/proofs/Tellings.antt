-- Who asked is told.
use Rattle.std.proofs.Common.{◌≡◌, ℕ, Bool, true, false, ◌&&◌, eqb-true, List, [], ◌∷◌, ◌++◌, append-nil, refl, ap, sym, subst, ◌∙◌, inl}
use Rattle.std.specs.Prelude.{Option, None, Some, IfSome, nat_eq}
use Rattle.std.specs.List.{AllByRecursion}
use Rattle.std.specs.Option.{is_some, option_map, option_map_or, option_or, option_and_then}
use Rattle.hickory_resolver_askers.specs.Askers.{AskersState, WaitingValue, nobody, flying_at, waiting_at, place_for, joiner, to_admit, given_in, askers_of}
use Rattle.hickory_resolver_askers.specs.Askers as ask
use Rattle.hickory_resolver_askers.specs.declared.asker.Asker.{Asker}
use Rattle.hickory_resolver_askers.specs.declared.asker.Place.{Place}
use Rattle.hickory_resolver_askers.specs.declared.asker.Place.TheVariants.{InFlight, Waits, Overloaded}
use Rattle.hickory_resolver_channels.specs.Channels.{channel_at}
use Rattle.hickory_resolver_channels.specs.declared.channel.Channel.{Channel}
use Rattle.hickory_resolver_config.specs.ResolverConfig.{OptionsValue}
use Rattle.hickory_resolver_tries.specs.Question.{question_of, question_eq}
use Rattle.hickory_resolver_tries.specs.declared.pool_question.PoolQuestion.{PoolQuestion}
use Rattle.hickory_resolver_transactions.specs.declared.settings.Settings.{Settings}
use Rattle.hickory_resolver_traffic.specs.Doing.{doing, doubts_message}
use Rattle.hickory_resolver_traffic.specs.Groups.{GroupListState, list_at}
use Rattle.hickory_resolver_traffic.specs.Inbox.{MessageValue, first_message}
use Rattle.hickory_resolver_traffic.specs.Table.{CurrentState}
use Rattle.hickory_resolver_traffic.specs.Tasks.{task_of, after_task, closed, without_taken}
use Rattle.hickory_resolver_traffic.specs.Traffic.{TrafficState, ticked, until_of, begun_as, begun_with, entry_of, came_on, failed_on}
use Rattle.hickory_resolver_traffic.specs.declared.doing.Doing.{Doing}
use Rattle.hickory_resolver_traffic.specs.declared.tasks.Task.{Task}
use Rattle.hickory_resolver_traffic.specs.declared.tasks.Task.TheVariants as task
use Rattle.hickory_resolver_pool.specs.Laws.{PoolEvent, time_passes, group_has, is_asked, octets_come, channel_fails, is_forgotten, after_event}
use Rattle.hickory_resolver_pool.specs.Over.{OverValue}
use Rattle.hickory_resolver_pool.specs.Pool.{PoolState, AskedOf, asked_eq, no_servers, settings_for, list_of, joiner_of, join_in, join_or_begin, after_asking, asking_told, told_to_joiner, Starts, StepsBy, StepsIn, StepsAs, Steps, IsDoneTo, scene_of, is_end, is_put}
use Rattle.hickory_resolver_pool.specs.Pool as pool
use Rattle.hickory_resolver_pool.specs.declared.limits.PoolLimits.{PoolLimits}
use Rattle.hickory_resolver_pool.specs.declared.pool.Action.{Action}
use Rattle.hickory_resolver_pool.specs.declared.pool.Asked.{Asked}
use Rattle.hickory_resolver_pool.specs.declared.pool.Asked.TheVariants as told
use Rattle.hickory_resolver_pool_theorems.specs.Runs.{Happening, came, did, Runs, at_first, by_event, by_step}
use Rattle.hickory_resolver_pool_theorems.specs.Tellings.{number_of, asking_in, EachOnce, AsksEqual, WhoAsksIsTold}
use Rattle.hickory_resolver_pool_theorems.proofs.Asked.{next-one_freed, next-freed_first, IsOwn, Asks, own-event, own-step, known-runs, asks-it, and-right}
use Rattle.hickory_resolver_pool_theorems.proofs.Askings.{put-is}
use Rattle.hickory_resolver_pool_theorems.proofs.Hearing.{Asking, AreHeard, FliesAs, WaitsAs, heard-same, heard-over, heard-admitted, heard-joined, heard-begun_flying, heard-begun_waiting, heard-forgot}
use Rattle.hickory_resolver_pool_theorems.proofs.Overs.{IsEnd, told-at_end}
use Rattle.hickory_resolver_pool_theorems.proofs.Scenes.{same-done}

-- ---- what a step does to who asks

pub data IsChanged (a : AskersState) : AskersState → Type 0 where
  stays : IsChanged a a
  is_over : (n : ℕ) → IsChanged a (ask.over n a)
  is_admitted : IsChanged a (ask.admitted a)

changed-same : (a b : AskersState) → b ≡ a → IsChanged a b
changed-same a b is = subst (IsChanged a) (sym is) stays

changed-task : (what : Task) (t : TrafficState) → IsChanged t.askers (after_task what t).askers
changed-task task.Opens t = stays
changed-task task.Writes t = stays
changed-task task.Doubts t = by (first_message t.inbox)
  where
    by : (m : Option MessageValue) → IsChanged t.askers (option_map_or (doubts_message t) m t).askers
    by None = stays
    by (Some m) = stays
changed-task task.PassesBy t = stays
changed-task (task.Cuts channel) t = stays
changed-task (task.ClosesFailed channel) t =
    changed-same t.askers (after_task (task.ClosesFailed channel) t).askers (next-freed_first (closed channel t))
changed-task task.DropsFailure t = stays
changed-task (task.TakesReady n) t = stays
changed-task (task.TakesUp n to_do) t = stays
changed-task (task.Undates due n) t = stays
changed-task (task.Strays n) t = is_over n
changed-task (task.Unblocks n) t = stays
changed-task (task.ClosesIdle channel) t =
    changed-same t.askers (after_task (task.ClosesIdle channel) t).askers (next-one_freed (closed channel t))
changed-task task.Admits t = by (to_admit t.askers)
  where
    by : (first : Option (ℕ × WaitingValue)) → IsChanged t.askers
        (option_map_or (λ f. without_taken f.0 (record t { askers = ask.admitted t.askers })) first t).askers
    by None = stays
    by (Some f) = is_admitted

module _ (s t : PoolState) (r : Option Action) where
  abbrev Changes : Type 0
  Changes = IsChanged s.traffic.askers t.traffic.askers

  changed-by : (u : PoolState) → t ≡ u → IsChanged s.traffic.askers u.traffic.askers → Changes
  changed-by u is change = subst (λ (v : PoolState). IsChanged s.traffic.askers v.traffic.askers) (sym is) change

  changed-starts : Starts s r t → Changes
  changed-starts is = changed-by (pool.started s) is.1 (changed-task (task_of s.traffic) s.traffic)

  changed-done : (c : CurrentState) (what : Doing) (after : Option CurrentState)
      → IsDoneTo what (scene_of s c) t.traffic after → Changes
  changed-done c what None is = absurd is
  changed-done c what (Some after) is =
      changed-same s.traffic.askers t.traffic.askers
      (same-done what (scene_of s c) (record { traffic = t.traffic; current = after }) is).askers

  changed-stepped : (c : CurrentState) (ends puts : Bool) (what : Doing) → StepsBy ends puts what c s r t → Changes
  changed-stepped c true puts what is = changed-by (pool.let_go c s) is.pool (is_over c.number)
  changed-stepped c false true what is =
      changed-same s.traffic.askers t.traffic.askers
      (ap (λ (u : PoolState). u.traffic.askers) is.pool ∙ (put-is what c s).askers)
  changed-stepped c false false what is = changed-done c what t.current is.done

  changed-in : (c : Option CurrentState) → StepsIn c s r t → Changes
  changed-in None is = changed-starts is
  changed-in (Some c) is =
      changed-stepped c (is_end (doing c s.traffic)) (is_put (doing c s.traffic)) (doing c s.traffic) is

  pub changed-step : Steps s r t → Changes
  changed-step is = by (is_some s.traffic.outgoing) is
    where
      by : (writes : Bool) → StepsAs writes s r t → Changes
      by true steps = changed-starts steps
      by false steps = changed-in s.current steps

heard-changed : (A : Asking) (a b : AskersState) → IsChanged a b → AreHeard A a → AreHeard A b
heard-changed A a _ stays w = w
heard-changed A a _ (is_over n) w = heard-over A a w n
heard-changed A a _ is_admitted w = heard-admitted A a w

-- ---- and an event

abbrev pub After : Asking → Asked → Asking
After A said n = A n ++ number_of n said

-- who is given an asker joins one, or begins one
pub data IsAsked (a : AskersState) : Asked → AskersState → Type 0 where
  joins : (n : ℕ) (k : Asker) → joiner n a ≡ Some k → IsAsked a (told.Asker k) (ask.joined n a)
  begins : (until : ℕ) → IsAsked a (told.Asker (ask.next_one a)) (ask.begun_in InFlight until a)
  waits : (until : ℕ) → IsAsked a (told.Asker (ask.next_one a)) (ask.begun_in Waits until a)
  none_served : IsAsked a told.NoServers a
  none_placed : IsAsked a told.Overloaded a

module _ (settings : Settings) (at : ℕ) (s : PoolState) where
  abbrev mine : AskersState
  mine = s.traffic.askers

  asked-begins : (key : AskedOf)
      → IsAsked mine (pool.asked_by (option_map_or (λ l. ask.asker_given mine) (list_at key.0 s.traffic.groups) None))
      (option_map_or (begun_with key.0 key.1 settings at s.traffic) (list_at key.0 s.traffic.groups)
      (ticked at s.traffic)).askers
  asked-begins key = by (list_at key.0 s.traffic.groups)
    where
      place : (l : GroupListState) (p : Place) → place_for mine ≡ p
          → IsAsked mine (pool.asked_by (given_in p mine)) (begun_as p (entry_of key.0 key.1 settings l) key.0 at s.traffic).askers
      place l InFlight is =
          subst (λ (q : Place). IsAsked mine (told.Asker (ask.next_one mine)) (ask.begun_in q (until_of at s.traffic) mine))
          (sym is) (begins (until_of at s.traffic))
      place l Waits is =
          subst (λ (q : Place). IsAsked mine (told.Asker (ask.next_one mine)) (ask.begun_in q (until_of at s.traffic) mine))
          (sym is) (waits (until_of at s.traffic))
      place l Overloaded is = none_placed

      by : (l : Option GroupListState)
          → IsAsked mine (pool.asked_by (option_map_or (λ x. ask.asker_given mine) l None))
          (option_map_or (begun_with key.0 key.1 settings at s.traffic) l (ticked at s.traffic)).askers
      by None = none_placed
      by (Some l) = place l (place_for mine) refl

  asked-joins : (key : AskedOf) (a : Asker) → joiner_of key s ≡ Some a
      → IsAsked mine (told.Asker a) (pool.after_joining key at s).traffic.askers
  asked-joins key a joined = by (pool.number_of key s.questions) joined
    where
      one : (n : ℕ) (j : Option Asker) → joiner n mine ≡ j → j ≡ Some a
          → IsAsked mine (told.Asker a)
          (option_map_or (λ b. ticked at (record s.traffic { askers = ask.joined n mine })) j s.traffic).askers
      one n None is h = let no_such : None ≡ Some a = h in absurd cc
      one n (Some b) is h = joins n a (is ∙ h)

      by : (n : Option ℕ) → option_and_then (λ m. joiner m mine) n ≡ Some a
          → IsAsked mine (told.Asker a) (option_map_or (join_in at s) n s).traffic.askers
      by None h = absurd cc
      by (Some n) h = one n (joiner n mine) refl h

  pub asked-asking : (list : Option ℕ) (question : PoolQuestion)
      → IsAsked mine (asking_told list question s) (after_asking list question settings at s).traffic.askers
  asked-asking None question = none_served
  asked-asking (Some list) question = by (joiner_of (list, question) s) refl
    where
      by : (j : Option Asker) → joiner_of (list, question) s ≡ j
          → IsAsked mine (told_to_joiner j (list, question) s)
          (join_or_begin j (list, question) settings at s).traffic.askers
      by None is = asked-begins (list, question)
      by (Some a) is = asked-joins (list, question) a is

heard-none : (A : Asking) (a : AskersState) → AreHeard A a → AreHeard (λ n. A n ++ []) a
heard-none A a w = heard-same A (λ n. A n ++ []) a (λ n. append-nil (A n)) w

heard-asked : (A : Asking) (a b : AskersState) (said : Asked) → IsAsked a said b → AreHeard A a
    → AreHeard (After A said) b
heard-asked A a _ _ (joins n k is) w = heard-joined A a n k w is
heard-asked A a _ _ (begins until) w = heard-begun_flying A a w until
heard-asked A a _ _ (waits until) w = heard-begun_waiting A a w until
heard-asked A a _ _ none_served w = heard-none A a w
heard-asked A a _ _ none_placed w = heard-none A a w

abbrev pub HeardIn : List Happening → AskersState → Type 0
HeardIn past a = AreHeard (λ n. asking_in n past) a

pub came-askers : (s : PoolState) (channel : ℕ) (octets : List ℕ) (at : ℕ)
    → (after_event s (octets_come channel octets at)).traffic.askers ≡ s.traffic.askers
came-askers s channel octets at = by (channel_at channel s.traffic.shared.channels)
  where
    by : (c : Option Channel) → (ticked at (option_map_or (came_on channel octets s.traffic) c s.traffic)).askers
        ≡ s.traffic.askers
    by None = refl
    by (Some c) = refl

pub failed-askers : (s : PoolState) (f : _) (at : ℕ)
    → (after_event s (channel_fails f at)).traffic.askers ≡ s.traffic.askers
failed-askers s f at = by (channel_at f.channel s.traffic.shared.channels)
  where
    by : (c : Option Channel) → (ticked at (option_map_or (failed_on f s.traffic) c s.traffic)).askers
        ≡ s.traffic.askers
    by None = refl
    by (Some c) = refl

heard-event : (past : List Happening) (s : PoolState) (e : PoolEvent) → HeardIn past s.traffic.askers
    → HeardIn (came s e ∷ past) (after_event s e).traffic.askers
heard-event past s (time_passes at) w = w
heard-event past s (group_has group servers) w = w
heard-event past s (is_asked group query options dnssec at) w =
    heard-asked (λ n. asking_in n past) s.traffic.askers
    (after_event s (is_asked group query options dnssec at)).traffic.askers
    (asking_told (list_of group s.traffic) (question_of query options dnssec) s)
    (asked-asking (settings_for s.options options) at s (list_of group s.traffic) (question_of query options dnssec)) w
heard-event past s (octets_come channel octets at) w =
    subst (HeardIn past) (sym (came-askers s channel octets at)) w
heard-event past s (channel_fails f at) w = subst (HeardIn past) (sym (failed-askers s f at)) w
heard-event past s (is_forgotten a) w = heard-forgot (λ n. asking_in n past) s.traffic.askers w a

heard-first : (options : OptionsValue) (limits : PoolLimits) (seed : List ℕ)
    → HeardIn [] (no_servers options limits seed).traffic.askers
heard-first options limits seed = record {
  flying = record { apart = tt; each = λ n. tt };
  waiting = record { apart = tt; each = λ n. tt };
  either = λ n. inl refl;
  new = λ n more. (refl, refl, refl);
  numbers = λ n. tt;
  once = λ n. tt;
  apart = λ n m other. tt;
}

pub heard-runs : (options : OptionsValue) (limits : PoolLimits) (seed : List ℕ) (past : List Happening) (s : PoolState)
    → Runs (no_servers options limits seed) past s → HeardIn past s.traffic.askers
heard-runs options limits seed _ _ at_first = heard-first options limits seed
heard-runs options limits seed _ _ (by_event past s e more) =
    heard-event past s e (heard-runs options limits seed past s more)
heard-runs options limits seed _ _ (by_step past s after r is more) =
    heard-changed (λ n. asking_in n past) s.traffic.askers after.traffic.askers (changed-step s after r is)
    (heard-runs options limits seed past s more)

pub heard-at : (A : Asking) (a : AskersState) (n : ℕ) (l : List ℕ) → AreHeard A a → askers_of n a ≡ Some l → l ≡ A n
heard-at A a n l w is = by (flying_at n a) (waiting_at n a) (w.flying.each n) (w.waiting.each n) is
  where
    by : (f : Option (List ℕ)) (v : Option WaitingValue) → IfSome f (FliesAs A n) → IfSome v (WaitsAs A n)
        → option_or f (option_map (λ x. x.askers) v) ≡ Some l → l ≡ A n
    by None None one other h = absurd cc
    by None (Some v) one other h = let same : v.askers ≡ l = cc in sym same ∙ other
    by (Some x) v one other h = let same : x ≡ l = cc in sym same ∙ one

-- ---- who was given an asker asked what its transaction asks

abbrev IsOwned : PoolState → Happening → Type 0
IsOwned s (came u (is_asked group query options dnssec at)) =
    (a : Asker) → asking_told (list_of group u.traffic) (question_of query options dnssec) u ≡ told.Asker a
    → (list : ℕ) × (list_of group u.traffic ≡ Some list)
    × IsOwn (list, question_of query options dnssec) a.transaction s
IsOwned s other = Unit {0}

owned-one : (s t : PoolState) → ((key : AskedOf) (n : ℕ) → IsOwn key n s → IsOwn key n t) → (h : Happening)
    → IsOwned s h → IsOwned t h
owned-one s t gives (did u r) own = tt
owned-one s t gives (came u (time_passes at)) own = tt
owned-one s t gives (came u (group_has group servers)) own = tt
owned-one s t gives (came u (octets_come channel octets at)) own = tt
owned-one s t gives (came u (channel_fails f at)) own = tt
owned-one s t gives (came u (is_forgotten a)) own = tt
owned-one s t gives (came u (is_asked group query options dnssec at)) own =
    λ a says. let it = own a says in
    (it.0, it.1, gives (it.0, question_of query options dnssec) a.transaction it.2)

owned-all : (s t : PoolState) → ((key : AskedOf) (n : ℕ) → IsOwn key n s → IsOwn key n t) → (past : List Happening)
    → AllByRecursion (IsOwned s) past → AllByRecursion (IsOwned t) past
owned-all s t gives [] all = tt
owned-all s t gives (h ∷ past) all = (owned-one s t gives h all.0, owned-all s t gives past all.1)

owned-runs : (options : OptionsValue) (limits : PoolLimits) (seed : List ℕ) (past : List Happening) (s : PoolState)
    → Runs (no_servers options limits seed) past s → AllByRecursion (IsOwned s) past
owned-runs options limits seed _ _ at_first = tt
owned-runs options limits seed _ _ (by_event past s e more) = (
  new e,
  owned-all s (after_event s e) (λ key n own. own-event key n s e own) past
      (owned-runs options limits seed past s more),
)
  where
    new : (f : PoolEvent) → IsOwned (after_event s f) (came s f)
    new (time_passes at) = tt
    new (group_has group servers) = tt
    new (octets_come channel octets at) = tt
    new (channel_fails f at) = tt
    new (is_forgotten a) = tt
    new (is_asked group query request dnssec at) =
        λ a says.
        let it = asks-it s group query request dnssec at (known-runs options limits seed past s more) a says in
        (it.list, it.of_group, it.own)
owned-runs options limits seed _ _ (by_step past s after r is more) =
    (tt, owned-all s after (λ key n own. own-step key n s after r is own) past (owned-runs options limits seed past s more))

and-left : (a b : Bool) → (a && b) ≡ true → a ≡ true
and-left true b h = refl
and-left false b h = h

module _ (s : PoolState) (o : OverValue) (end : IsEnd s o) where
  abbrev c : CurrentState
  c = end.current

  -- it asks an equal question of the same list
  equal : (list : ℕ) (question : PoolQuestion) (n : ℕ) → IsOwn (list, question) n s → n ≡ o.transaction
      → asked_eq (list, question) c.entry.asked ≡ true
  equal list question n own number =
      let worked : Asks (list, question) n c.number c.entry.asked =
      subst (λ (x : Option CurrentState). IfSome x (λ y. Asks (list, question) n y.number y.entry.asked)) end.works
      own.each.worked in
      worked (sym (number ∙ ap (λ (x : OverValue). x.transaction) end.told))

  asked-one : (h : Happening) → IsOwned s h → AsksEqual o.transaction c.entry.asked.0 o.question h
  asked-one (did u r) own = tt
  asked-one (came u (time_passes at)) own = tt
  asked-one (came u (group_has group servers)) own = tt
  asked-one (came u (octets_come channel octets at)) own = tt
  asked-one (came u (channel_fails f at)) own = tt
  asked-one (came u (is_forgotten a)) own = tt
  asked-one (came u (is_asked group query options dnssec at)) own =
      λ a says number.
      let it = own a says in
      let question = question_of query options dnssec in
      let same = equal it.0 question a.transaction it.2 number in
      let list : it.0 ≡ c.entry.asked.0 =
      eqb-true it.0 c.entry.asked.0 (and-left (nat_eq it.0 c.entry.asked.0) (question_eq question c.entry.asked.1) same) in
      let told_is : o.question ≡ c.entry.asked.1 = ap (λ (x : OverValue). x.question) end.told in (
        it.1 ∙ ap (λ (l : ℕ). Some l) list,
        subst (λ (q : PoolQuestion). question_eq question q ≡ true) (sym told_is)
            (and-right (nat_eq it.0 c.entry.asked.0) (question_eq question c.entry.asked.1) same),
      )

  asked-all : (past : List Happening) → AllByRecursion (IsOwned s) past
      → AllByRecursion (AsksEqual o.transaction c.entry.asked.0 o.question) past
  asked-all [] all = tt
  asked-all (h ∷ past) all = (asked-one h all.0, asked-all past all.1)

pub who_asks_is_told : WhoAsksIsTold
who_asks_is_told options limits seed past s after o runs steps =
    let end = told-at_end o s after steps in
    let heard = heard-runs options limits seed past s runs in
    let number : o.transaction ≡ end.current.number = ap (λ (x : OverValue). x.transaction) end.told in
    let askers : o.askers ≡ end.askers = ap (λ (x : OverValue). x.askers) end.told in
    let is : o.askers ≡ asking_in o.transaction past =
    askers ∙ heard-at (λ n. asking_in n past) s.traffic.askers end.current.number end.askers heard end.asked_by
    ∙ ap (λ (n : ℕ). asking_in n past) (sym number) in
    record {
      told = is;
      once = subst EachOnce (sym is) (heard.once o.transaction);
      list = end.current.entry.asked.0;
      asked = asked-all s o end past (owned-runs options limits seed past s runs);
    }
