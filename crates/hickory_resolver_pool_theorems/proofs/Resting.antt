-- A pool comes to rest.
use Rattle.std.proofs.Common.{◌≡◌, ◌≤◌, ◌<◌, ◌+◌, ◌-◌, ◌^◌, min, ℕ, Bool, true, false, cond, not, List, [], ◌∷◌, length, drop, refl, ap, sym, subst, ◌∙◌, true≢false, arith, inl, inr, ◌⊎◌, eqb, eq-eqb, lt-ltb, suc, ◌*◌, leb, le-leb, max}
use Rattle.std.specs.Prelude.{Option, None, Some, slice_get, position}
use Rattle.std.specs.Option.{is_some, option_map, option_map_or, option_and_then}
use Rattle.std.specs.Ordering.{nat_cmp, is_eq}
use Rattle.std.specs.Map.{remove_entry, lookup}
use Rattle.std.specs.BTreeMap.{is_at}
use Rattle.std.specs.List.{list_any, position_or_len}
use Rattle.hickory_resolver_askers.specs.Askers.{WaitingValue, first_waiting, to_admit}
use Rattle.hickory_resolver_askers.specs.Askers as ask
use Rattle.hickory_resolver_channels.specs.Channels.{ChannelsState, channel_at, transaction_at, pair_cmp, closed_one, if_empty, first_idle}
use Rattle.hickory_resolver_channels.specs.Channels as channels
use Rattle.hickory_resolver_channels.specs.declared.channel.Channel.{Channel}
use Rattle.hickory_resolver_config.specs.ResolverConfig.{OptionsValue}
use Rattle.hickory_resolver_steps.specs.Steps.{SharedState}
use Rattle.hickory_resolver_steps.specs.declared.flying.SentTry.{SentTry}
use Rattle.hickory_resolver_traffic.specs.Doing.{IsDone, doing, is_empty, is_on, one_freed, is_due}
use Rattle.hickory_resolver_traffic.specs.Inbox.{InboxState, first_message, first_failure, without_failure}
use Rattle.hickory_resolver_traffic.specs.Table.{EntryState, CurrentState, entry_at, has_entry, first_due}
use Rattle.hickory_resolver_traffic.specs.Tasks.{task_of, after_task, did, closed, freed_by, freed_by_first, took_up, taken_up, without_taken, next_deadline, earlier}
use Rattle.hickory_resolver_traffic.specs.Traffic.{TrafficState, OutgoingValue}
use Rattle.hickory_resolver_traffic.specs.declared.entry.ToDo.{ToDo}
use Rattle.hickory_resolver_traffic.specs.declared.entry.ToDo.TheVariants as todo
use Rattle.hickory_resolver_traffic.specs.declared.inbox.ChannelFailure.{ChannelFailure}
use Rattle.hickory_resolver_traffic.specs.declared.inbox.Failure.{Failure}
use Rattle.hickory_resolver_traffic.specs.declared.inbox.Failure.TheVariants as failure
use Rattle.hickory_resolver_traffic.specs.declared.starting.Did.{Did}
use Rattle.hickory_resolver_traffic.specs.declared.starting.Did.TheVariants as done
use Rattle.hickory_resolver_traffic.specs.declared.tasks.Task.{Task}
use Rattle.hickory_resolver_traffic.specs.declared.tasks.Task.TheVariants as task
use Rattle.hickory_resolver_pool.specs.Pool.{PoolState, no_servers, action_of, current_after, started, started_action, scene_of, is_end, is_put, IsDoneTo, StepsBy, StepsIn, StepsAs, Steps, let_go, put_by, after_tick}
use Rattle.hickory_resolver_pool.specs.declared.limits.PoolLimits.{PoolLimits}
use Rattle.hickory_resolver_pool.specs.declared.pool.Action.{Action}
use Rattle.hickory_resolver_pool_theorems.specs.Agreement.{in_table, is_sent_as, keeps_try}
use Rattle.hickory_resolver_pool_theorems.specs.Rest.{IsPutAway, none_in_hand, goes_on as goes_on_with, ComesToRest, nothing_left, goes_on, EachComesToRest, ComesToEnd, none_left, steps_on, waits, EachComesToEnd}
use Rattle.hickory_resolver_pool.specs.Laws.{time_passes}
use Rattle.hickory_resolver_pool_theorems.specs.Runs.{Happening, came, did as did_step, Runs, by_event, by_step}
use Rattle.hickory_resolver_pool_theorems.proofs.Alive.{IsAlive, is_next, is_in_line, is_settled, OfTraffic, alive-runs}
use Rattle.hickory_resolver_pool_theorems.proofs.Askings.{put-is}
use Rattle.hickory_resolver_pool_theorems.proofs.Dates.{Stands}
use Rattle.hickory_resolver_pool_theorems.proofs.Ends.{rests_until_due}
use Rattle.hickory_resolver_pool_theorems.proofs.Owned.{owned-runs, owned-there}
use Rattle.hickory_resolver_pool_theorems.proofs.ByNumber.{first-at}
use Rattle.hickory_resolver_pool_theorems.proofs.Counts.{AreCounted, IsIdle, first-tried}
use Rattle.hickory_resolver_pool_theorems.proofs.Counted.{counted-runs}
use Rattle.hickory_resolver_pool_theorems.proofs.Dates.{deadlines_agree}
use Rattle.hickory_resolver_pool_theorems.proofs.Early.{doubts-less}
use Rattle.hickory_resolver_pool_theorems.proofs.Kept.{AreKept, channels-one_freed, kept-runs, tries_agree}
use Rattle.hickory_resolver_pool_theorems.proofs.Keys.{pair-self, nat-self}
use Rattle.hickory_resolver_pool_theorems.proofs.KeyEntries.{ApartBy}
use Rattle.hickory_resolver_pool_theorems.proofs.KeySets.{pair-is, or-left, or-split}
use Rattle.hickory_resolver_pool_theorems.proofs.Left.{sent-is}
use Rattle.hickory_resolver_pool_theorems.proofs.Lex.{Numbers, Less, Ends, ends as ended, all-end}
use Rattle.hickory_resolver_pool_theorems.proofs.Listed.{Kept, listed-runs, listed-step}
use Rattle.hickory_resolver_pool_theorems.proofs.Moves.{cost_of}
use Rattle.hickory_resolver_pool_theorems.proofs.Opens.{out-runs}
use Rattle.hickory_resolver_pool_theorems.proofs.PutAway.{fit-of, rank-away, rank, going_out}
use Rattle.hickory_resolver_pool_theorems.proofs.Shapes.{IsStep, goes_out, begins, does, puts, ends, step-is}
use Rattle.hickory_resolver_pool_theorems.proofs.Tasking.{TaskIs, IsSound, IsPast, IsFree, IsFailing, task-is}
use Rattle.hickory_resolver_pool_theorems.proofs.Tracks.{tries_in, view_of, Start, of_due, Track, is_hearing, is_failing, is_expiring, is_freeing, is_refused, goes, track-done}
use Rattle.hickory_resolver_pool_theorems.proofs.Weights.{one-less, first-some, length-removed, length-first, weigh, weigh-removed, weigh-taken, came_of, octets-removed, came-cut}
use Rattle.hickory_resolver_pool_theorems.proofs.Falls.{start_of, numbers_of, Fell, fell_read, fell_settled, fell_channels, fell_due, fell_waits, fell-less, end-fell, put-fell}

-- ---- one is taken up

-- what a step comes to where none is worked on
abbrev Begun : Start → TrafficState → Option CurrentState → Type 0
Begun b t None = Fell b (start_of t)
Begun b t (Some c) = Track b (view_of (record { traffic = t; current = c }))

module _ (t : TrafficState) (out : t.outgoing ≡ None) where
  abbrev here : Start
  here = start_of t

  none-failed : IsSound t → length t.inbox.failures ≡ 0
  none-failed sound = by t.inbox.failures sound
    where
      by : (fs : List ChannelFailure) → slice_get fs 0 ≡ None → length fs ≡ 0
      by [] h = refl
      by (f ∷ fs) h = absurd cc

  -- it is taken up where it is there
  module _ (n : ℕ) (to_do : ToDo) (u : TrafficState) (entries : u.table.entries ≡ remove_entry (is_at (nat_cmp n)) t.table.entries) where
    gone-weight : (f : EntryState → ℕ) → weigh f u.table.entries ≤ weigh f t.table.entries
    gone-weight f =
        let same : weigh f u.table.entries ≡ weigh f (remove_entry (is_at (nat_cmp n)) t.table.entries) =
        ap (λ (es : List (ℕ × EntryState)). weigh f es) entries in
        let less = weigh-removed f (is_at (nat_cmp n)) t.table.entries in
        omega (arith, same, less)

    taken-weight : (e : EntryState) → entry_at n t.table ≡ Some e → (f : EntryState → ℕ)
        → weigh f u.table.entries + f e ≤ weigh f t.table.entries
    taken-weight e found f =
        let same : weigh f u.table.entries ≡ weigh f (remove_entry (is_at (nat_cmp n)) t.table.entries) =
        ap (λ (es : List (ℕ × EntryState)). weigh f es) entries in
        let less = weigh-taken f (is_at (nat_cmp n)) e t.table.entries found in
        omega (arith, same, less)

    taken : (P : Option CurrentState → Type 0) → (entry_at n t.table ≡ None → P None)
        → ((e : EntryState) → entry_at n t.table ≡ Some e → P (Some (record { number = n; to_do = to_do; entry = e })))
        → P (current_after (took_up (taken_up n to_do t.table)) None)
    taken P none some = by (entry_at n t.table) refl
      where
        by : (e : Option EntryState) → entry_at n t.table ≡ e
            → P (current_after (took_up (option_map (λ x. record { number = n; to_do = to_do; entry = x }) e)) None)
        by None at = none at
        by (Some e) at = some e at

  -- fewer are ready, or wait for a place
  ready-up : (n : ℕ) (u : TrafficState) → u.inbox ≡ t.inbox → u.shared ≡ t.shared
      → u.table.entries ≡ remove_entry (is_at (nat_cmp n)) t.table.entries
      → IsSound t → length u.ready + length u.askers.waiting < length t.ready + length t.askers.waiting
      → Begun here u (current_after (took_up (taken_up n todo.GoOn t.table)) None)
  ready-up n u inbox shared entries sound less =
      taken n todo.GoOn u entries (Begun here u) none some
    where
      came : came_of u.inbox ≡ came_of t.inbox
      came = ap came_of inbox

      failed : length u.inbox.failures ≤ 0
      failed =
          let same : length u.inbox.failures ≡ length t.inbox.failures = ap (λ (i : InboxState). length i.failures) inbox in
          let zero_is = none-failed sound in omega (arith, same, zero_is)

      channels : length u.shared.channels.channels ≡ length t.shared.channels.channels
      channels = ap (λ (x : SharedState). length x.channels.channels) shared

      none : entry_at n t.table ≡ None → Fell here (start_of u)
      none at =
          let cost = gone-weight n todo.GoOn u entries cost_of in
          let one = came in let ch = channels in
          fell_due (omega (arith, one)) failed (none-failed sound) cost (omega (arith, ch)) less

      some : (e : EntryState) → entry_at n t.table ≡ Some e
          → Track here (view_of (record { traffic = u; current = record { number = n; to_do = todo.GoOn; entry = e } }))
      some e at =
          let cost = taken-weight n todo.GoOn u entries e at cost_of in
          let one = came in let ch = channels in
          goes (omega (arith, one)) failed (none-failed sound) (of_due cost (omega (arith, ch)) less) refl

  no-entry : (n : ℕ) → has_entry n t.table ≡ true → entry_at n t.table ≡ None → ⊥
  no-entry n there at = true≢false (sym there ∙ ap (λ (o : Option EntryState). is_some o) at)

  inbox-one_freed : (u : TrafficState) → (one_freed u).inbox ≡ u.inbox
  inbox-one_freed u = by (is_empty u.table.blocked)
    where
      by : (empty : Bool) → (cond {A = TrafficState} empty u (record u { freed = min (u.freed + 1) (2 ^ 64 - 1) })).inbox ≡ u.inbox
      by true = refl
      by false = refl

  inbox-freed_first : (u : TrafficState) → (freed_by_first u).inbox ≡ u.inbox
  inbox-freed_first u = by (first_failure u.inbox)
    where
      why : (f : Failure) → (freed_by f u).inbox ≡ u.inbox
      why failure.Local = refl
      why failure.Refused = inbox-one_freed u
      why failure.Unreachable = inbox-one_freed u
      why failure.Closed = inbox-one_freed u

      by : (f : Option ChannelFailure) → (option_map_or (λ g. freed_by g.why u) f u).inbox ≡ u.inbox
      by None = refl
      by (Some f) = why f.why

  closed-came : (channel : ℕ) → came_of (closed channel t).inbox ≤ came_of t.inbox
  closed-came channel = let less = octets-removed (is_at (nat_cmp channel)) t.inbox.streams in omega (arith, less)

  -- the stream that is idle is closed
  module _ (channel until : ℕ) (counted : AreCounted t.shared.channels)
      (first : slice_get t.shared.channels.idle 0 ≡ Some (until, channel)) where
    in-idle : (ds : List (ℕ × ℕ)) → slice_get ds 0 ≡ Some (until, channel) → list_any (is_at (pair_cmp (until, channel))) ds ≡ true
    in-idle [] h = absurd cc
    in-idle (d ∷ ds) h =
        let same : ◌≡◌ {A = ℕ × ℕ} d (until, channel) = cc in
        or-left (is_at (pair_cmp (until, channel)) d) (list_any (is_at (pair_cmp (until, channel))) ds)
        (ap (λ (p : ℕ × ℕ). is_at (pair_cmp (until, channel)) p) same ∙ ap is_eq (pair-self (until, channel)))

    closes-one : length (channels.closed channel t.shared.channels).channels < length t.shared.channels.channels
    closes-one = by (channel_at channel t.shared.channels) refl (counted.idle until channel (in-idle t.shared.channels.idle first))
      where
        empty : (c : Channel) → channel_at channel t.shared.channels ≡ Some c → c.tries ≡ 0 → (b : Bool) → eqb c.tries 0 ≡ b
            → length (option_map_or (closed_one channel t.shared.channels) (cond b (Some c) None) t.shared.channels).channels
            < length t.shared.channels.channels
        empty c at none true is =
            let less = length-removed (is_at (nat_cmp channel)) t.shared.channels.channels c at in omega (arith, less)
        empty c at none false is = absurd (true≢false (sym (eq-eqb c.tries 0 none) ∙ is))

        by : (o : Option Channel) → channel_at channel t.shared.channels ≡ o → IsIdle until o
            → length (option_map_or (closed_one channel t.shared.channels) (option_and_then if_empty o) t.shared.channels).channels
            < length t.shared.channels.channels
        by None at is = absurd is
        by (Some c) at is = empty c at is.0 (eqb c.tries 0) refl

  channels-one_freed-length : (u : TrafficState)
      → length (one_freed u).shared.channels.channels ≡ length u.shared.channels.channels
  channels-one_freed-length u = ap (λ (s : ChannelsState). length s.channels) (channels-one_freed u)

  entries-one_freed : (u : TrafficState) → (one_freed u).table.entries ≡ u.table.entries
  entries-one_freed u = by (is_empty u.table.blocked)
    where
      by : (empty : Bool)
          → (cond {A = TrafficState} empty u (record u { freed = min (u.freed + 1) (2 ^ 64 - 1) })).table.entries ≡ u.table.entries
      by true = refl
      by false = refl

  -- of a transaction that is to hear that a channel failed
  module _ (n : ℕ) (f : IsFailing t n) (e : EntryState) (at : entry_at n t.table ≡ Some e)
      (once : ApartBy pair_cmp pair-self pair-is t.shared.channels.tries)
      (kept : (channel id : ℕ) → is_some (channel_at channel t.shared.channels) ≡ true
      → transaction_at channel id t.shared.channels ≡ Some n → keeps_try channel id e ≡ true) where
    found-on : (ts : List SentTry) → list_any (is_sent_as f.failure.channel f.id) ts ≡ true
        → is_some (position (is_on f.failure.channel) ts) ≡ true
    found-on ts h = low ts (below ts h)
      where
        below : (xs : List SentTry) → list_any (is_sent_as f.failure.channel f.id) xs ≡ true
            → position_or_len (is_on f.failure.channel) xs < length xs
        below [] g = absurd (true≢false (sym g))
        below (x ∷ xs) g =
            by (is_on f.failure.channel x) refl (or-split (is_sent_as f.failure.channel f.id x) (list_any (is_sent_as f.failure.channel f.id) xs) g)
            (below xs)
          where
            by : (b : Bool) → is_on f.failure.channel x ≡ b
                → (is_sent_as f.failure.channel f.id x ≡ true) ⊎ (list_any (is_sent_as f.failure.channel f.id) xs ≡ true)
                → (list_any (is_sent_as f.failure.channel f.id) xs ≡ true → position_or_len (is_on f.failure.channel) xs < length xs)
                → cond (not b) (1 + position_or_len (is_on f.failure.channel) xs) 0 < length (x ∷ xs)
            by true is s more = omega arith
            by false is (inl own) more =
                absurd (true≢false (sym (eq-eqb x.channel f.failure.channel (sent-is f.failure.channel f.id x own).0) ∙ is))
            by false is (inr rest) more = let less = more rest in omega (arith, less)

        low : (xs : List SentTry) → position_or_len (is_on f.failure.channel) xs < length xs
            → is_some (position (is_on f.failure.channel) xs) ≡ true
        low xs less =
            ap (λ (b : Bool). is_some {T = ℕ} (cond b (Some (position_or_len (is_on f.failure.channel) xs)) None))
            (lt-ltb (position_or_len (is_on f.failure.channel) xs) (length xs) less)

    placed-on : is_some (option_and_then (λ g. position (is_on g.channel) e.flying.tries) (first_failure t.inbox)) ≡ true
    placed-on =
        ap (λ (o : Option ChannelFailure). is_some (option_and_then (λ g. position (is_on g.channel) e.flying.tries) o)) f.first
        ∙ found-on e.flying.tries
        (kept f.failure.channel f.id f.is_open (first-tried f.failure.channel f.id n t.shared.channels once f.tried))

  -- ---- each task

  module _ (counted : AreCounted t.shared.channels) (once : ApartBy pair_cmp pair-self pair-is t.shared.channels.tries)
      (kept : (n : ℕ) (e : EntryState) → entry_at n t.table ≡ Some e → (channel id : ℕ)
      → is_some (channel_at channel t.shared.channels) ≡ true
      → transaction_at channel id t.shared.channels ≡ Some n → keeps_try channel id e ≡ true)
      (alive : OfTraffic t) (owned : (due n : ℕ) → Stands due n t.table.deadlines → is_some (entry_at n t.table) ≡ true)
      (agree : (n : ℕ) (e : EntryState) → entry_at n t.table ≡ Some e → (due : ℕ) → Stands due n t.table.deadlines
      → e.due ≡ Some due) where
    abbrev ByTask : Task → Type 0
    ByTask what = Begun here (after_task what t) (current_after (did what t) None)

    begun-hear : (n : ℕ) → is_some (first_message t.inbox) ≡ true → has_entry n t.table ≡ true → ByTask (task.TakesUp n todo.Hear)
    begun-hear n some there =
        taken n todo.Hear (after_task (task.TakesUp n todo.Hear) t) refl (Begun here (after_task (task.TakesUp n todo.Hear) t))
        (λ at. absurd (no-entry n there at))
        (λ e at. is_hearing (omega arith) some tt)

    begun-fail : (n : ℕ) → IsFailing t n → ByTask (task.TakesUp n todo.Fail)
    begun-fail n f =
        taken n todo.Fail (after_task (task.TakesUp n todo.Fail) t) refl (Begun here (after_task (task.TakesUp n todo.Fail) t))
        (λ at. absurd (no-entry n f.there at))
        (λ e at.
        let fewer = one-less t.inbox.failures (first-some (first_failure t.inbox) f.failure f.first) in
        is_failing (omega arith) (omega arith) (omega (arith, fewer))
        (taken-weight n todo.Fail (after_task (task.TakesUp n todo.Fail) t) refl e at tries_in) refl
        (placed-on n f e at once (kept n e at)))

    stands-first : (due n : ℕ) → first_due t.table ≡ Some (due, n) → Stands due n t.table.deadlines
    stands-first due n first = by t.table.deadlines first
      where
        by : (ds : List (ℕ × ℕ)) → slice_get ds 0 ≡ Some (due, n) → Stands due n ds
        by [] h = absurd cc
        by (d ∷ ds) h =
            let same : ◌≡◌ {A = ℕ × ℕ} d (due, n) = cc in
            or-left (is_at (pair_cmp (due, n)) d) (list_any (is_at (pair_cmp (due, n))) ds)
            (ap (λ (p : ℕ × ℕ). is_at (pair_cmp (due, n)) p) same ∙ ap is_eq (pair-self (due, n)))

    -- what is to run out has run out
    past-due : (n due : ℕ) → IsPast t due n → (e : EntryState) → entry_at n t.table ≡ Some e → is_due e t ≡ true
    past-due n due past e at = by (alive n e at)
      where
        own : e.due ≡ Some due
        own = agree n e at due (stands-first due n past.first)

        none_ready : (xs : List ℕ) → slice_get xs 0 ≡ None → list_any (eqb n) xs ≡ true → ⊥
        none_ready [] h g = true≢false (sym g)
        none_ready (x ∷ xs) h g = absurd cc

        by : IsAlive t.ready t.askers.waiting n e → is_due e t ≡ true
        by (is_next h) = absurd (none_ready t.ready past.none_ready h)
        by (is_in_line h none) = let no_such : None ≡ Some due = sym none ∙ own in absurd cc
        by (is_settled d nd is) =
            let both : Some d ≡ Some due = sym is ∙ own in
            let same : d ≡ due = cc in
            let come = past.come in
            ap (λ (o : Option ℕ). option_map_or (λ k. leb k t.clock) o false) nd
            ∙ le-leb d t.clock (omega (arith, same, come))

    begun-expire : (n due : ℕ) → IsPast t due n → has_entry n t.table ≡ true → ByTask (task.TakesUp n todo.Expire)
    begun-expire n due past there =
        taken n todo.Expire (after_task (task.TakesUp n todo.Expire) t) refl (Begun here (after_task (task.TakesUp n todo.Expire) t))
        (λ at. absurd (no-entry n there at))
        (λ e at.
        let none = none-failed past.sound in
        is_expiring (omega arith) (omega (arith, none)) none
        (taken-weight n todo.Expire (after_task (task.TakesUp n todo.Expire) t) refl e at cost_of)
        (past-due n due past e at) refl)

    begun-free : (n : ℕ) → IsFree t n → has_entry n t.table ≡ true → ByTask (task.TakesUp n todo.Free)
    begun-free n free there =
        taken n todo.Free (after_task (task.TakesUp n todo.Free) t) refl (Begun here (after_task (task.TakesUp n todo.Free) t))
        (λ at. absurd (no-entry n there at))
        (λ e at.
        let none = none-failed free.sound in
        is_freeing (omega arith) (omega (arith, none)) none
        (taken-weight n todo.Free (after_task (task.TakesUp n todo.Free) t) refl e at cost_of) (omega arith)
        (omega arith) (omega arith) free.first free.place refl)

    begun-refuse : (n : ℕ) → IsSound t → has_entry n t.table ≡ true → ByTask (task.TakesUp n todo.Refuse)
    begun-refuse n sound there =
        taken n todo.Refuse (after_task (task.TakesUp n todo.Refuse) t) refl (Begun here (after_task (task.TakesUp n todo.Refuse) t))
        (λ at. absurd (no-entry n there at))
        (λ e at.
        let none = none-failed sound in
        is_refused (omega arith) (omega (arith, none)) none
        (taken-weight n todo.Refuse (after_task (task.TakesUp n todo.Refuse) t) refl e at cost_of) refl)

    -- nothing at all is left to be done
    abbrev IsIdleTask : Task → Type 0
    IsIdleTask what = (what ≡ task.Admits) × (to_admit t.askers ≡ None)

    begun-task : (what : Task) → TaskIs t what → ByTask what ⊎ IsIdleTask what
    begun-task task.Opens is = absurd is
    begun-task task.Writes is = absurd is
    begun-task task.Doubts is = inl (fell_read (doubts-less t is))
    begun-task task.PassesBy is =
        let less = one-less t.inbox.messages is in inl (fell_read (omega (arith, less)))
    begun-task (task.Cuts channel) is = inl (fell_read (came-cut channel t.inbox is))
    begun-task (task.ClosesFailed channel) is =
        let inbox : (after_task (task.ClosesFailed channel) t).inbox ≡ without_failure (closed channel t).inbox =
        ap without_failure (inbox-freed_first (closed channel t)) in
        let one : came_of (after_task (task.ClosesFailed channel) t).inbox ≡ came_of (without_failure (closed channel t).inbox) =
        ap came_of inbox in
        let two : length (after_task (task.ClosesFailed channel) t).inbox.failures ≡ length (drop 1 t.inbox.failures) =
        ap (λ (i : InboxState). length i.failures) inbox in
        let le = closed-came channel in let less = one-less t.inbox.failures is.0 in
        inl (fell_settled (omega (arith, one, le)) (omega (arith, two, less)))
    begun-task task.DropsFailure is =
        let less = one-less t.inbox.failures is in inl (fell_settled (omega arith) (omega (arith, less)))
    begun-task (task.TakesReady n) is =
        let less = one-less t.ready (first-some (slice_get t.ready 0) n is.1) in
        inl (ready-up n (after_task (task.TakesReady n) t) refl refl refl is.0 (omega (arith, less)))
    begun-task (task.TakesUp n to_do) is = inl (by to_do is)
      where
        by : (d : ToDo) → TaskIs t (task.TakesUp n d) → ByTask (task.TakesUp n d)
        by todo.Hear h = begun-hear n h.0 h.1
        by todo.Fail h = begun-fail n h
        by todo.Expire h = begun-expire n h.0.0 h.0.1 h.1
        by todo.Free h = begun-free n h.0 h.1
        by todo.Refuse h = begun-refuse n h.0 h.1
        by todo.GoOn h = absurd h
        by todo.Doubt h = absurd h
        by todo.Quit h = absurd h
        by todo.PutBack h = absurd h
    begun-task (task.Undates due n) is =
        absurd (true≢false (sym (owned due n (stands-first due n is.0.first)) ∙ is.1))
    begun-task (task.Strays n) is =
        let none = none-failed is.0 in
        let found = first-at (n, is.1.0) t.askers.waiting is.1.1 in
        let less = length-removed (is_at (nat_cmp n)) t.askers.waiting is.1.0 found in
        inl (fell_due (omega arith) (omega (arith, none)) none (omega arith) (omega arith) (omega (arith, less)))
    begun-task (task.Unblocks n) is =
        let none = none-failed is.0 in
        let less = length-first n t.table.blocked is.1 in
        inl (fell_waits (omega arith) (omega (arith, none)) none (omega arith) (omega arith) (omega arith) (omega (arith, less)))
    begun-task (task.ClosesIdle channel) is =
        let none = none-failed is.0 in
        let u : TrafficState = closed channel t in
        let inbox = inbox-one_freed u in
        let one : came_of (one_freed u).inbox ≡ came_of u.inbox = ap came_of inbox in
        let two : length (one_freed u).inbox.failures ≡ length t.inbox.failures = ap (λ (i : InboxState). length i.failures) inbox in
        let le = closed-came channel in
        let es : weigh cost_of (one_freed u).table.entries ≡ weigh cost_of t.table.entries =
        ap (λ (xs : List (ℕ × EntryState)). weigh cost_of xs) (entries-one_freed u) in
        let ch = channels-one_freed-length u in
        let less = closes-one channel is.1.0 counted is.1.1 in
        inl (fell_channels (omega (arith, one, le)) (omega (arith, two, none)) none (omega (arith, es)) (omega (arith, ch, less)))
    begun-task task.Admits is = by (to_admit t.askers) refl
      where
        by : (f : Option (ℕ × WaitingValue)) → to_admit t.askers ≡ f
            → Begun here (option_map_or (λ p. without_taken p.0 (record t { askers = ask.admitted t.askers })) f t)
            (current_after (option_map_or (λ p. took_up (taken_up p.0 todo.GoOn t.table)) f done.Idle) None)
            ⊎ IsIdleTask task.Admits
        by None at = inr (refl, at)
        by (Some f) at =
            inl (ready-up f.0 (without_taken f.0 (record t { askers = ask.admitted t.askers })) refl refl refl is.0
            (let less = fewer in omega (arith, less)))
          where
            waits : (b : Bool) → cond b (first_waiting t.askers) None ≡ Some f → first_waiting t.askers ≡ Some f
            waits true h = h
            waits false h = absurd cc

            fewer : length (ask.admitted t.askers).waiting + 1 ≡ length t.askers.waiting
            fewer =
                let same : length (ask.admitted t.askers).waiting ≡ length (drop 1 t.askers.waiting) =
                ap (λ (o : Option (ℕ × WaitingValue)). length (option_map_or (ask.admitted_one t.askers) o t.askers).waiting) at in
                let less = one-less t.askers.waiting
                (first-some (first_waiting t.askers) f (waits (ask.has_place t.askers) at)) in
                omega (arith, same, less)

-- ---- all steps

-- what a step is, where a transaction is worked on
pub data IsWorked (s t : PoolState) (c : CurrentState) : Type 0 where
  is_out : t.current ≡ Some c → t.traffic ≡ record s.traffic { outgoing = t.traffic.outgoing } → IsWorked s t c
  is_ended : is_end (doing c s.traffic) ≡ true → t ≡ let_go c s → IsWorked s t c
  is_put_by : is_put (doing c s.traffic) ≡ true → t ≡ put_by (doing c s.traffic) c s → IsWorked s t c
  is_done : (d : CurrentState) → t.current ≡ Some d → is_end (doing c s.traffic) ≡ false
      → is_put (doing c s.traffic) ≡ false
      → IsDone (doing c s.traffic) (scene_of s c) (record { traffic = t.traffic; current = d }) → IsWorked s t c

worked-is : (s t : PoolState) (r : Option Action) (c : CurrentState) → s.current ≡ Some c → Steps s r t → IsWorked s t c
worked-is s t r c works is = by s.traffic.outgoing refl is
  where
    after : (d : Option CurrentState) → t.current ≡ d → is_end (doing c s.traffic) ≡ false
        → is_put (doing c s.traffic) ≡ false → IsDoneTo (doing c s.traffic) (scene_of s c) t.traffic d → IsWorked s t c
    after None at e p h = absurd h
    after (Some d) at e p h = is_done d at e p h

    kind : (e p : Bool) → is_end (doing c s.traffic) ≡ e → is_put (doing c s.traffic) ≡ p
        → StepsBy e p (doing c s.traffic) c s r t → IsWorked s t c
    kind true p e_is p_is h = is_ended e_is h.pool
    kind false true e_is p_is h = is_put_by p_is h.pool
    kind false false e_is p_is h = after t.current refl e_is p_is h.done

    out : (o : OutgoingValue) → s.traffic.outgoing ≡ Some o → IsStep s t → IsWorked s t c
    out o at (goes_out p out_is current traffic task_is) = is_out (current ∙ works) traffic
    out o at (begins calm none same) = let no_such : None ≡ Some o = sym calm ∙ at in absurd cc
    out o at (does d next calm worked now done) = let no_such : None ≡ Some o = sym calm ∙ at in absurd cc
    out o at (puts d calm worked p same) = let no_such : None ≡ Some o = sym calm ∙ at in absurd cc
    out o at (ends d calm worked e same) = let no_such : None ≡ Some o = sym calm ∙ at in absurd cc

    by : (o : Option OutgoingValue) → s.traffic.outgoing ≡ o → StepsAs (is_some o) s r t → IsWorked s t c
    by None at h =
        kind (is_end (doing c s.traffic)) (is_put (doing c s.traffic)) refl refl
        (subst (λ (x : Option CurrentState). StepsIn x s r t) works h)
    by (Some o) at h = out o at (step-is s t r is)

-- something is begun with less left, or nothing is left to be done
abbrev BegunHere : PoolState → Type 0
BegunHere s =
    Begun (start_of s.traffic) (after_task (task_of s.traffic) s.traffic) (current_after (did (task_of s.traffic) s.traffic) None)

abbrev IsIdleHere : PoolState → Type 0
IsIdleHere s = (task_of s.traffic ≡ task.Admits) × (to_admit s.traffic.askers ≡ None)

-- the step is to begin what is to be done first
starting : (s : PoolState) (r : Option Action) (t : PoolState) → s.traffic.outgoing ≡ None → s.current ≡ None → Steps s r t
    → t ≡ started s
starting s r t out none is =
    (subst (λ (x : Option CurrentState). StepsIn x s r t) none
    (subst (λ (o : Option OutgoingValue). StepsAs (is_some o) s r t) out is)).1

idle-steps : (s : PoolState) → s.current ≡ None → s.traffic.outgoing ≡ None → IsIdleHere s → Steps s None s
idle-steps s none out idle =
    subst (λ (o : Option OutgoingValue). StepsAs (is_some o) s None s) (sym out)
    (subst (λ (x : Option CurrentState). StepsIn x s None s) (sym none) (action, pool))
  where
    did_is : did (task_of s.traffic) s.traffic ≡ done.Idle
    did_is =
        ap (λ (what : Task). did what s.traffic) idle.0
        ∙ ap (λ (f : Option (ℕ × WaitingValue)). option_map_or (λ p. took_up (taken_up p.0 todo.GoOn s.traffic.table)) f done.Idle) idle.1

    action : None ≡ started_action s
    action = sym (ap action_of did_is)

    traffic : after_task (task_of s.traffic) s.traffic ≡ s.traffic
    traffic =
        ap (λ (what : Task). after_task what s.traffic) idle.0
        ∙ ap (λ (f : Option (ℕ × WaitingValue)). option_map_or (λ p. without_taken p.0 (record s.traffic { askers = ask.admitted s.traffic.askers })) f s.traffic) idle.1

    pool : s ≡ started s
    pool =
        sym (ap (λ (u : TrafficState). record s { traffic = u; current = current_after (did (task_of s.traffic) s.traffic) s.current }) traffic
        ∙ ap (λ (d : Did). record s { current = current_after d s.current }) did_is)

module _ (options : OptionsValue) (limits : PoolLimits) (seed : List ℕ) (most : ℕ) where
  -- reached so, with few transactions
  pub record IsRun (s : PoolState) : Type 0 where
    pub past : List Happening
    pub runs : Runs (no_servers options limits seed) past s
    pub kept : Kept most s

  run-step : (s t : PoolState) (r : Option Action) → Steps s r t → IsRun s → IsRun t
  run-step s t r is run = record {
    past = did_step s r ∷ run.past;
    runs = by_step run.past s t r is run.runs;
    kept = listed-step most s t run.kept (step-is s t r is);
  }

  -- where none is worked on nothing goes out
  calm-out : (s : PoolState) → IsRun s → s.current ≡ None → s.traffic.outgoing ≡ None
  calm-out s run none = by s.traffic.outgoing refl
    where
      by : (o : Option OutgoingValue) → s.traffic.outgoing ≡ o → o ≡ None
      by None at = refl
      by (Some o) at =
          let going = (out-runs options limits seed run.past s run.runs).goes o at in
          let no_such : None ≡ Some going.current = sym none ∙ going.works in absurd cc

  put-away : (s : PoolState) → IsRun s → IsPutAway s
  put-away s run = by s.current refl
    where
      by : (c : Option CurrentState) → s.current ≡ c → IsPutAway s
      by None works = none_in_hand s works
      by (Some c) works =
          rank-away options limits seed most (suc (3 * rank c.to_do + going_out s.traffic.outgoing)) run.past s run.runs
          run.kept c works (omega arith)

  -- ---- with what comes of all steps

  module _ (G : PoolState → Type 0) (on : (s : PoolState) → ((r : Option Action) (after : PoolState) → Steps s r after → G after) → G s) where
    abbrev Rested : Start → Type 0
    Rested b = (s : PoolState) → IsRun s → s.current ≡ None → Fell b (start_of s.traffic) → G s

    -- a transaction is worked on: it comes to be put away, with less left
    work : (b : Start) → Rested b → (s : PoolState) → IsPutAway s → IsRun s → (c : CurrentState) → s.current ≡ Some c
        → Track b (view_of (scene_of s c)) → G s
    work b rested _ (none_in_hand s none) run c works track = let no_such : None ≡ Some c = sym none ∙ works in absurd cc
    work b rested _ (goes_on_with s more) run c works track =
        on s (λ r t is. by r t is (λ d at w. work b rested t (more r t is) (run-step s t r is run) d at w) (worked-is s t r c works is))
      where
        by : (r : Option Action) (t : PoolState) → Steps s r t
            → ((d : CurrentState) → t.current ≡ Some d → Track b (view_of (scene_of t d)) → G t)
            → IsWorked s t c → G t
        by r t is again (is_out current traffic) =
            again c current (subst (λ (u : TrafficState). Track b (view_of (record { traffic = u; current = c }))) (sym traffic) track)
        by r t is again (is_ended e same) =
            rested t (run-step s t r is run) (ap (λ (u : PoolState). u.current) same)
            (subst (λ (u : PoolState). Fell b (start_of u.traffic)) (sym same) (end-fell b s c e track))
        by r t is again (is_put_by p same) =
            rested t (run-step s t r is run)
            (ap (λ (u : PoolState). u.current) same ∙ (put-is (doing c s.traffic) c s).none)
            (subst (λ (u : PoolState). Fell b (start_of u.traffic)) (sym same) (put-fell b s c p track))
        by r t is again (is_done d at e p done) =
            again d at (track-done b (scene_of s c) (record { traffic = t.traffic; current = d })
            (fit-of options limits seed most run.past s run.runs run.kept c works) e p done track)

    -- something is begun
    stepped : (s : PoolState) → IsRun s → s.current ≡ None → s.traffic.outgoing ≡ None → BegunHere s
        → Rested (start_of s.traffic) → G s
    stepped s run none out begun again = on s (λ r t is. next r t is (starting s r t out none is))
      where
        at : (r : Option Action) (t : PoolState) → Steps s r t → (c : Option CurrentState) → t.current ≡ c
            → Begun (start_of s.traffic) t.traffic c → G t
        at r t is None works fell = again t (run-step s t r is run) works fell
        at r t is (Some c) works track =
            work (start_of s.traffic) again t (put-away t (run-step s t r is run)) (run-step s t r is run) c works track

        next : (r : Option Action) (t : PoolState) → Steps s r t → t ≡ started s → G t
        next r t is begins_so =
            at r t is t.current refl
            (subst (λ (u : TrafficState). Begun (start_of s.traffic) u t.current)
            (sym (ap (λ (u : PoolState). u.traffic) begins_so))
            (subst (λ (c : Option CurrentState). Begun (start_of s.traffic) (after_task (task_of s.traffic) s.traffic) c)
            (sym (ap (λ (u : PoolState). u.current) begins_so
            ∙ ap (λ (c : Option CurrentState). current_after (did (task_of s.traffic) s.traffic) c) none)) begun))

  -- what is begun, or that nothing is left to be done
  begun-or : (s : PoolState) → IsRun s → s.current ≡ None → BegunHere s ⊎ IsIdleHere s
  begun-or s run none =
      begun-task s.traffic out (counted-runs options limits seed run.past s run.runs) kept.apart tries
      (alive-runs options limits seed run.past s run.runs)
      (owned-there s (owned-runs options limits seed run.past s run.runs) none)
      (λ n e at. (deadlines_agree options limits seed run.past s run.runs n e (in_table at)).no_other)
      (task_of s.traffic) (task-is s.traffic out)
    where
      out : s.traffic.outgoing ≡ None
      out = calm-out s run none

      kept : AreKept s.traffic.askers.next_transaction s.traffic.shared.channels s.traffic.table.entries s.current
      kept = kept-runs options limits seed run.past s run.runs

      tries : (n : ℕ) (e : EntryState) → entry_at n s.traffic.table ≡ Some e → (channel id : ℕ)
          → is_some (channel_at channel s.traffic.shared.channels) ≡ true
          → transaction_at channel id s.traffic.shared.channels ≡ Some n → keeps_try channel id e ≡ true
      tries n e at = (tries_agree options limits seed run.past s run.runs n e (in_table at)).kept

  -- ---- it comes to rest

  calm-rests : (w : Numbers 6) → Ends 6 w → (s : PoolState) → IsRun s → s.current ≡ None → numbers_of (start_of s.traffic) ≡ w
      → ComesToRest s
  calm-rests _ (ended w more) s run none same =
      by (begun-or s run none)
      (λ t after works fell. calm-rests (numbers_of (start_of t.traffic))
      (more (numbers_of (start_of t.traffic)) (subst (Less 6 (numbers_of (start_of t.traffic))) same
      (fell-less (start_of s.traffic) (start_of t.traffic) fell))) t after works refl)
    where
      by : BegunHere s ⊎ IsIdleHere s → Rested ComesToRest goes_on (start_of s.traffic) → ComesToRest s
      by (inl begun) again = stepped ComesToRest goes_on s run none (calm-out s run none) begun again
      by (inr idle) again = nothing_left s (idle-steps s none (calm-out s run none) idle)

  -- ---- and to its end

  -- where nothing is left to be done a transaction that is left waits up to a moment
  waits-up : (s : PoolState) → IsRun s → s.current ≡ None → (p : ℕ × EntryState) (es : List (ℕ × EntryState))
      → s.traffic.table.entries ≡ p ∷ es → slice_get s.traffic.ready 0 ≡ None
      → (due : ℕ) × (next_deadline s.traffic ≡ Some due)
  waits-up s run none p es entries calm = found (next_deadline s.traffic) refl (by (alive-runs options limits seed run.past s run.runs p.0 p.1 there))
    where
      t : TrafficState
      t = s.traffic

      there : entry_at p.0 t.table ≡ Some p.1
      there =
          ap (λ (xs : List (ℕ × EntryState)). lookup (is_at (nat_cmp p.0)) xs) entries
          ∙ ap (λ (b : Bool). cond b (Some p.1) (lookup (is_at (nat_cmp p.0)) es)) (ap is_eq (nat-self p.0))

      none_ready : (xs : List ℕ) → slice_get xs 0 ≡ None → list_any (eqb p.0) xs ≡ true → ⊥
      none_ready [] h g = true≢false (sym g)
      none_ready (x ∷ xs) h g = absurd cc

      some-line : (xs : List (ℕ × WaitingValue)) → is_some (lookup (is_at (nat_cmp p.0)) xs) ≡ true → is_some (slice_get xs 0) ≡ true
      some-line [] h = h
      some-line (x ∷ xs) h = refl

      some-dates : (d : ℕ) (ds : List (ℕ × ℕ)) → Stands d p.0 ds → is_some (slice_get ds 0) ≡ true
      some-dates d [] h = h
      some-dates d (x ∷ xs) h = refl

      some-map : {A : Type 0} (f : A → ℕ) (o : Option A) → is_some o ≡ true → is_some (option_map f o) ≡ true
      some-map f None h = h
      some-map f (Some a) h = refl

      some-left : (a b : Option ℕ) → is_some a ≡ true → is_some (earlier a b) ≡ true
      some-left None b h = absurd (true≢false (sym h))
      some-left (Some n) None h = refl
      some-left (Some n) (Some m) h = refl

      some-right : (a b : Option ℕ) → is_some b ≡ true → is_some (earlier a b) ≡ true
      some-right None b h = h
      some-right (Some n) None h = refl
      some-right (Some n) (Some m) h = refl

      dates_of : Option ℕ
      dates_of = option_map (λ q. q.0) (first_due t.table)

      streams_of : Option ℕ
      streams_of = option_map (λ q. q.0) (first_idle t.shared.channels)

      by : IsAlive t.ready t.askers.waiting p.0 p.1 → is_some (next_deadline t) ≡ true
      by (is_next h) = absurd (none_ready t.ready calm h)
      by (is_in_line h due) =
          some-right dates_of (earlier (ask.next_deadline t.askers) streams_of)
          (some-left (ask.next_deadline t.askers) streams_of
          (some-map (λ f. f.1.until) (first_waiting t.askers) (some-line t.askers.waiting h)))
      by (is_settled d nd own) =
          let noted = (deadlines_agree options limits seed run.past s run.runs p.0 p.1 (in_table there)).own d own in
          some-left dates_of (earlier (ask.next_deadline t.askers) streams_of)
          (some-map (λ q. q.0) (first_due t.table) (some-dates d t.table.deadlines noted))

      found : (o : Option ℕ) → next_deadline t ≡ o → is_some (next_deadline t) ≡ true → (due : ℕ) × (next_deadline t ≡ Some due)
      found None is h = absurd (true≢false (sym h ∙ ap (λ (o : Option ℕ). is_some o) is))
      found (Some due) is h = (due, is)

  -- after a tick
  run-tick : (s : PoolState) (now : ℕ) → IsRun s → IsRun (after_tick now s)
  run-tick s now run = record {
    past = came s (time_passes now) ∷ run.past;
    runs = by_event run.past s (time_passes now) run.runs;
    kept = record { held = run.kept.held; few = run.kept.few; old = run.kept.old };
  }

  calm-ends : (w : Numbers 6) → Ends 6 w → (s : PoolState) → IsRun s → s.current ≡ None → numbers_of (start_of s.traffic) ≡ w
      → ComesToEnd s
  calm-ends _ (ended w more) s run none same =
      by (begun-or s run none)
      (λ t after works fell. calm-ends (numbers_of (start_of t.traffic))
      (more (numbers_of (start_of t.traffic)) (subst (Less 6 (numbers_of (start_of t.traffic))) same
      (fell-less (start_of s.traffic) (start_of t.traffic) fell))) t after works refl)
    where
      ticking : Rested ComesToEnd steps_on (start_of s.traffic) → (due : ℕ) → next_deadline s.traffic ≡ Some due → (now : ℕ)
          → due ≤ now → ComesToEnd (after_tick now s)
      ticking again due nd now le = by (begun-or (after_tick now s) (run-tick s now run) none)
        where
          by : BegunHere (after_tick now s) ⊎ IsIdleHere (after_tick now s) → ComesToEnd (after_tick now s)
          by (inl begun) =
              stepped ComesToEnd steps_on (after_tick now s) (run-tick s now run) none (calm-out s run none) begun again
          by (inr idle) =
              let step = idle-steps (after_tick now s) none (calm-out s run none) idle in
              let ahead : max s.traffic.clock now < due =
              (rests_until_due (after_tick now s) (after_tick now s) step).ahead due nd in
              absurd (omega (arith, ahead, le))

      left : IsIdleHere s → Rested ComesToEnd steps_on (start_of s.traffic) → (es : List (ℕ × EntryState))
          → s.traffic.table.entries ≡ es → ComesToEnd s
      left idle again [] entries = none_left s entries none
      left idle again (p ∷ es) entries =
          let calm = subst (TaskIs s.traffic) idle.0 (task-is s.traffic (calm-out s run none)) in
          let moment = waits-up s run none p es entries calm.1 in
          waits s moment.0 (idle-steps s none (calm-out s run none) idle) moment.1 (ticking again moment.0 moment.1)

      by : BegunHere s ⊎ IsIdleHere s → Rested ComesToEnd steps_on (start_of s.traffic) → ComesToEnd s
      by (inl begun) again = stepped ComesToEnd steps_on s run none (calm-out s run none) begun again
      by (inr idle) again = left idle again s.traffic.table.entries refl

pub each_comes_to_rest : EachComesToRest
each_comes_to_rest options limits seed past s runs short =
    by s (put-away options limits seed (length past) s run) run
  where
    run : IsRun options limits seed (length past) s
    run = record { past = past; runs = runs; kept = listed-runs options limits seed past s runs short }

    by : (u : PoolState) → IsPutAway u → IsRun options limits seed (length past) u → ComesToRest u
    by _ (none_in_hand u none) r =
        calm-rests options limits seed (length past) (numbers_of (start_of u.traffic)) (all-end 6 (numbers_of (start_of u.traffic))) u r none refl
    by _ (goes_on_with u more) r = goes_on u (λ a t is. by t (more a t is) (run-step options limits seed (length past) u t a is r))

pub each_comes_to_end : EachComesToEnd
each_comes_to_end options limits seed past s runs short =
    by s (put-away options limits seed (length past) s run) run
  where
    run : IsRun options limits seed (length past) s
    run = record { past = past; runs = runs; kept = listed-runs options limits seed past s runs short }

    by : (u : PoolState) → IsPutAway u → IsRun options limits seed (length past) u → ComesToEnd u
    by _ (none_in_hand u none) r =
        calm-ends options limits seed (length past) (numbers_of (start_of u.traffic)) (all-end 6 (numbers_of (start_of u.traffic))) u r none refl
    by _ (goes_on_with u more) r = steps_on u (λ a t is. by t (more a t is) (run-step options limits seed (length past) u t a is r))
