-- What holds of a transaction that is worked on since it was taken up: what is left of the pool falls, or will have
-- fallen once it is put away.
use Rattle.std.proofs.Common.{◌≡◌, ◌≤◌, ◌<◌, ◌+◌, ℕ, Bool, true, false, List, length, refl, ap, sym, subst, ◌∙◌, true≢false, arith, inl, inr, ◌⊎◌}
use Rattle.std.specs.Prelude.{Option, None, Some, slice_get}
use Rattle.std.specs.Option.{is_some, option_map_or}
use Rattle.hickory_resolver_askers.specs.Askers.{AskersState}
use Rattle.hickory_resolver_traffic.specs.Doing.{Scene, IsDone, doing, doing_for, by_failure, place_on, is_due, hears, doubts, stalls, fails, quits, expires, frees}
use Rattle.hickory_resolver_traffic.specs.Inbox.{InboxState, first_message, first_failure, without_message, without_failure}
use Rattle.hickory_resolver_traffic.specs.Table.{EntryState}
use Rattle.hickory_resolver_traffic.specs.declared.doing.Doing.TheVariants as doings
use Rattle.hickory_resolver_traffic.specs.declared.entry.ToDo.{ToDo}
use Rattle.hickory_resolver_traffic.specs.declared.entry.ToDo.TheVariants as todo
use Rattle.hickory_resolver_traffic.specs.declared.inbox.ChannelFailure.{ChannelFailure}
use Rattle.hickory_resolver_traffic.specs.declared.inbox.Failure.{Failure}
use Rattle.hickory_resolver_traffic.specs.declared.inbox.Failure.TheVariants as failure
use Rattle.hickory_resolver_pool.specs.Pool.{is_end, is_put}
use Rattle.hickory_resolver_pool_theorems.proofs.Early.{IsHeard, is_doubted, is_dropped, hears-is, doubts-less, came-done, IsFailed, is_left, is_over, stalls-is, fails-is, HasQuit, goes_back, is_closed, Quitting, quits-is, placed-failure, expires-is, frees-is}
use Rattle.hickory_resolver_pool_theorems.proofs.Frames.{kept-done}
use Rattle.hickory_resolver_pool_theorems.proofs.Moves.{cost_of, wants_in, place_in, Change, falls, stays, notes, Moves, moves-done}
use Rattle.hickory_resolver_pool_theorems.proofs.PutAway.{why-going, IsFit}
use Rattle.hickory_resolver_pool_theorems.proofs.Scenes.{same-done}
use Rattle.hickory_resolver_pool_theorems.proofs.Weights.{weigh, came_of, one-less}

-- ---- what is looked at

abbrev pub tries_in : EntryState → ℕ
tries_in e = length e.flying.tries

-- what came; channels that failed; tries; what is left of all transactions; channels; those that are ready or wait for a
-- place; and those that wait for a channel, with the channels that came free
pub record View : Type 0 where
  pub came : ℕ
  pub failed : ℕ
  pub tries : ℕ
  pub cost : ℕ
  pub channels : ℕ
  pub due : ℕ
  pub waits : ℕ
  pub to_do : ToDo
  pub message : Bool
  pub placed : Bool
  pub place : Bool
  pub wants : Bool
  pub past : Bool
  pub first : Option ℕ
  pub number : ℕ

abbrev pub view_of : Scene → View
view_of x = record {
  came = came_of x.traffic.inbox;
  failed = length x.traffic.inbox.failures;
  tries = weigh tries_in x.traffic.table.entries + tries_in x.current.entry;
  cost = weigh cost_of x.traffic.table.entries + cost_of x.current.entry;
  channels = length x.traffic.shared.channels.channels;
  due = length x.traffic.ready + length x.traffic.askers.waiting;
  waits = x.traffic.freed + length x.traffic.table.blocked;
  to_do = x.current.to_do;
  message = is_some (first_message x.traffic.inbox);
  placed = is_some (place_on x);
  place = place_in x;
  wants = wants_in x;
  past = is_due x.current.entry x.traffic;
  first = slice_get x.traffic.table.blocked 0;
  number = x.current.number;
}

-- as it was when the transaction was taken up
pub record Start : Type 0 where
  pub came : ℕ
  pub failed : ℕ
  pub tries : ℕ
  pub cost : ℕ
  pub channels : ℕ
  pub due : ℕ
  pub waits : ℕ

abbrev pub IsLate : ToDo → Type 0
IsLate todo.GoOn = Unit {0}
IsLate todo.PutBack = Unit {0}
IsLate other = ⊥

abbrev pub IsHearing : ToDo → Type 0
IsHearing todo.Hear = Unit {0}
IsHearing todo.Doubt = Unit {0}
IsHearing other = ⊥

module _ (b : Start) where
  pub data Lower (v : View) : Type 0 where
    of_cost : v.cost < b.cost → Lower v
    of_channels : v.cost ≤ b.cost → v.channels < b.channels → Lower v
    of_due : v.cost ≤ b.cost → v.channels ≤ b.channels → v.due < b.due → Lower v
    of_waits : v.cost ≤ b.cost → v.channels ≤ b.channels → v.due ≤ b.due → v.waits < b.waits → v.wants ≡ false → Lower v
    of_place : v.cost ≤ b.cost → v.place ≡ true → v.wants ≡ true → Lower v

  pub data Track (v : View) : Type 0 where
    has_read : v.came < b.came → Track v
    has_settled : v.came ≤ b.came → v.failed < b.failed → IsLate v.to_do → Track v
    is_hearing : v.came ≤ b.came → v.message ≡ true → IsHearing v.to_do → Track v
    is_failing : v.came ≤ b.came → v.failed ≤ b.failed → 0 < b.failed → v.tries ≤ b.tries → v.to_do ≡ todo.Fail
        → v.placed ≡ true → Track v
    is_quitting : v.came ≤ b.came → v.failed ≤ b.failed → 0 < b.failed → v.tries ≤ b.tries → v.to_do ≡ todo.Quit
        → v.placed ≡ true → Track v
    has_quit : v.came ≤ b.came → v.failed ≤ b.failed → 0 < b.failed → v.tries < b.tries → v.to_do ≡ todo.PutBack
        → Track v
    is_expiring : v.came ≤ b.came → v.failed ≤ 0 → b.failed ≡ 0 → v.cost ≤ b.cost → v.past ≡ true
        → v.to_do ≡ todo.Expire → Track v
    is_freeing : v.came ≤ b.came → v.failed ≤ 0 → b.failed ≡ 0 → v.cost ≤ b.cost → v.channels ≤ b.channels
        → v.due ≤ b.due → v.waits ≤ b.waits → v.first ≡ Some v.number → v.place ≡ true → v.to_do ≡ todo.Free → Track v
    is_refused : v.came ≤ b.came → v.failed ≤ 0 → b.failed ≡ 0 → v.cost ≤ b.cost → v.to_do ≡ todo.Refuse → Track v
    goes : v.came ≤ b.came → v.failed ≤ 0 → b.failed ≡ 0 → Lower v → v.to_do ≡ todo.GoOn → Track v

  -- ---- one thing more is done

  late-go : (d : ToDo) → d ≡ todo.GoOn → IsLate d
  late-go d is = subst IsLate (sym is) tt

  late-back : (d : ToDo) → d ≡ todo.PutBack → IsLate d
  late-back d is = subst IsLate (sym is) tt

  one-failure : (i : InboxState) → is_some (first_failure i) ≡ true → length (without_failure i).failures + 1 ≡ length i.failures
  one-failure i some = one-less i.failures some

  module _ (x y : Scene) (fit : IsFit x) (end : is_end (doing x.current x.traffic) ≡ false)
      (put : is_put (doing x.current x.traffic) ≡ false) (is : IsDone (doing x.current x.traffic) x y) where
    abbrev Next : Type 0
    Next = Track (view_of y)

    less-came : came_of y.traffic.inbox ≤ came_of x.traffic.inbox
    less-came = came-done x y (doing x.current x.traffic) is

    same-entries : (f : EntryState → ℕ) → weigh f y.traffic.table.entries ≡ weigh f x.traffic.table.entries
    same-entries f = ap (λ (es : List (ℕ × EntryState)). weigh f es) (same-done (doing x.current x.traffic) x y is).entries

    same-waiting : length y.traffic.askers.waiting ≡ length x.traffic.askers.waiting
    same-waiting = ap (λ (a : AskersState). length a.waiting) (same-done (doing x.current x.traffic) x y is).askers

    -- what is done, by what is to be done with it
    at-to_do : (d : ToDo) → x.current.to_do ≡ d
        → (is_end (doing_for d x.current.number x.current.entry x.traffic) ≡ false)
        × (is_put (doing_for d x.current.number x.current.entry x.traffic) ≡ false)
        × IsDone (doing_for d x.current.number x.current.entry x.traffic) x y
    at-to_do d same = (
      subst (λ (e : ToDo). is_end (doing_for e x.current.number x.current.entry x.traffic) ≡ false) same end,
      subst (λ (e : ToDo). is_put (doing_for e x.current.number x.current.entry x.traffic) ≡ false) same put,
      subst (λ (e : ToDo). IsDone (doing_for e x.current.number x.current.entry x.traffic) x y) same is,
    )

    next-by : (z : Scene) → y ≡ z → Track (view_of z) → Next
    next-by z same w = subst (λ (v : Scene). Track (view_of v)) (sym same) w

    came-same : (z : Scene) → z.traffic.inbox ≡ x.traffic.inbox → came_of z.traffic.inbox ≡ came_of x.traffic.inbox
    came-same z same = ap came_of same

    -- it goes on
    moved : x.current.to_do ≡ todo.GoOn → Moves x y
    moved same =
        let done = at-to_do todo.GoOn same in
        moves-done x fit same (doing_for todo.GoOn x.current.number x.current.entry x.traffic) y
        (why-going x.current.entry x.current.number x.traffic) done.0 done.1 done.2

    next-settled : came_of x.traffic.inbox ≤ b.came → length x.traffic.inbox.failures < b.failed → (d : ToDo)
        → x.current.to_do ≡ d → IsLate d → Next
    next-settled came fewer todo.GoOn same late =
        let m = moved same in
        let less = less-came in
        let failed : length y.traffic.inbox.failures ≡ length x.traffic.inbox.failures =
        ap (λ (i : InboxState). length i.failures) m.inbox in
        has_settled (omega (arith, less, came)) (omega (arith, failed, fewer)) (late-go y.current.to_do m.go)
    next-settled came fewer todo.PutBack same late = absurd (true≢false (at-to_do todo.PutBack same).1)
    next-settled came fewer todo.Hear same late = absurd late
    next-settled came fewer todo.Doubt same late = absurd late
    next-settled came fewer todo.Fail same late = absurd late
    next-settled came fewer todo.Quit same late = absurd late
    next-settled came fewer todo.Expire same late = absurd late
    next-settled came fewer todo.Free same late = absurd late
    next-settled came fewer todo.Refuse same late = absurd late

    next-hearing : came_of x.traffic.inbox ≤ b.came → is_some (first_message x.traffic.inbox) ≡ true → (d : ToDo)
        → x.current.to_do ≡ d → IsHearing d → Next
    next-hearing came some todo.Hear same hearing =
        next-by (hears x) (at-to_do todo.Hear same).2 (by (hears-is x some))
      where
        by : IsHeard x (hears x) → Track (view_of (hears x))
        by (is_doubted inbox to_do) =
            let stays = came-same (hears x) inbox in
            is_hearing (omega (arith, stays, came))
            (ap (λ (i : InboxState). is_some (first_message i)) inbox ∙ some) (subst IsHearing (sym to_do) tt)
        by (is_dropped inbox to_do) =
            let stays : came_of (hears x).traffic.inbox ≡ came_of (without_message x.traffic.inbox) = ap came_of inbox in
            let fewer = one-less x.traffic.inbox.messages some in
            has_read (omega (arith, stays, fewer, came))
    next-hearing came some todo.Doubt same hearing =
        next-by (doubts x) (at-to_do todo.Doubt same).2
        (let less = doubts-less x.traffic some in has_read (omega (arith, less, came)))
    next-hearing came some todo.GoOn same hearing = absurd hearing
    next-hearing came some todo.PutBack same hearing = absurd hearing
    next-hearing came some todo.Fail same hearing = absurd hearing
    next-hearing came some todo.Quit same hearing = absurd hearing
    next-hearing came some todo.Expire same hearing = absurd hearing
    next-hearing came some todo.Free same hearing = absurd hearing
    next-hearing came some todo.Refuse same hearing = absurd hearing

    next-failing : came_of x.traffic.inbox ≤ b.came → length x.traffic.inbox.failures ≤ b.failed → 0 < b.failed
        → weigh tries_in x.traffic.table.entries + tries_in x.current.entry ≤ b.tries → x.current.to_do ≡ todo.Fail
        → is_some (place_on x) ≡ true → Next
    next-failing came failed some few same placed =
        by (first_failure x.traffic.inbox) refl (at-to_do todo.Fail same).1 (at-to_do todo.Fail same).2
      where
        after : (z : Scene) → z.traffic.table.entries ≡ x.traffic.table.entries
            → z.current.entry.flying.tries ≡ x.current.entry.flying.tries → IsFailed x z
            → is_some (first_failure x.traffic.inbox) ≡ true → Track (view_of z)
        after z entries tries (is_left inbox to_do place) first =
            let one = came-same z inbox in
            let two : length z.traffic.inbox.failures ≡ length x.traffic.inbox.failures =
            ap (λ (i : InboxState). length i.failures) inbox in
            let three : weigh tries_in z.traffic.table.entries ≡ weigh tries_in x.traffic.table.entries =
            ap (λ (es : List (ℕ × EntryState)). weigh tries_in es) entries in
            let four : tries_in z.current.entry ≡ tries_in x.current.entry = ap length tries in
            is_quitting (omega (arith, one, came)) (omega (arith, two, failed)) some (omega (arith, three, four, few)) to_do
            (ap (λ (o : Option ℕ). is_some o) place ∙ placed)
        after z entries tries (is_over inbox to_do) first =
            let one : came_of z.traffic.inbox ≡ came_of (without_failure x.traffic.inbox) = ap came_of inbox in
            let two : length z.traffic.inbox.failures ≡ length (without_failure x.traffic.inbox).failures =
            ap (λ (i : InboxState). length i.failures) inbox in
            let fewer = one-failure x.traffic.inbox first in
            has_settled (omega (arith, one, came)) (omega (arith, two, fewer, failed)) (late-go z.current.to_do to_do)

        failing : is_some (first_failure x.traffic.inbox) ≡ true → y ≡ fails x → Next
        failing first h =
            next-by (fails x) h (after (fails x) (same-done doings.Fails x (fails x) refl).entries
            (kept-done doings.Fails x (fails x) refl tt).tries (fails-is x placed) first)

        stalling : is_some (first_failure x.traffic.inbox) ≡ true → y ≡ stalls x → Next
        stalling first h =
            next-by (stalls x) h (after (stalls x) (same-done doings.Stalls x (stalls x) refl).entries
            (kept-done doings.Stalls x (stalls x) refl tt).tries (stalls-is x placed) first)

        why : is_some (first_failure x.traffic.inbox) ≡ true → (f : Failure) → IsDone (by_failure f) x y → Next
        why first failure.Local h = stalling first h
        why first failure.Refused h = failing first h
        why first failure.Unreachable h = failing first h
        why first failure.Closed h = failing first h

        by : (f : Option ChannelFailure) → first_failure x.traffic.inbox ≡ f
            → is_put (option_map_or (λ g. by_failure g.why) f doings.PutsBack) ≡ false
            → IsDone (option_map_or (λ g. by_failure g.why) f doings.PutsBack) x y → Next
        by None at p h = absurd (true≢false p)
        by (Some f) at p h = why (ap (λ (o : Option ChannelFailure). is_some o) at) f.why h

    next-quitting : came_of x.traffic.inbox ≤ b.came → length x.traffic.inbox.failures ≤ b.failed → 0 < b.failed
        → weigh tries_in x.traffic.table.entries + tries_in x.current.entry ≤ b.tries → x.current.to_do ≡ todo.Quit
        → is_some (place_on x) ≡ true → Next
    next-quitting came failed some few same placed = next-by (quits x) (at-to_do todo.Quit same).2 (by q.left)
      where
        q : Quitting x (quits x)
        q = quits-is x placed

        fewer : weigh tries_in (quits x).traffic.table.entries + tries_in (quits x).current.entry < b.tries
        fewer =
            let less = q.tries in
            let entries : weigh tries_in (quits x).traffic.table.entries ≡ weigh tries_in x.traffic.table.entries =
            ap (λ (es : List (ℕ × EntryState)). weigh tries_in es) (same-done doings.Quits x (quits x) refl).entries in
            omega (arith, less, entries, few)

        by : HasQuit x (quits x) → Track (view_of (quits x))
        by (goes_back inbox) =
            let one = came-same (quits x) inbox in
            let two : length (quits x).traffic.inbox.failures ≡ length x.traffic.inbox.failures =
            ap (λ (i : InboxState). length i.failures) inbox in
            has_quit (omega (arith, one, came)) (omega (arith, two, failed)) some fewer q.to_do
        by (is_closed inbox) =
            let one : came_of (quits x).traffic.inbox ≡ came_of (without_failure x.traffic.inbox) = ap came_of inbox in
            let two : length (quits x).traffic.inbox.failures ≡ length (without_failure x.traffic.inbox).failures =
            ap (λ (i : InboxState). length i.failures) inbox in
            let less = one-failure x.traffic.inbox (placed-failure x placed) in
            has_settled (omega (arith, one, came)) (omega (arith, two, less, failed)) (late-back (quits x).current.to_do q.to_do)

    next-lower : Moves x y → Lower (view_of x) → Lower (view_of y)
    next-lower m low = by m.change low
      where
        entries : weigh cost_of y.traffic.table.entries ≡ weigh cost_of x.traffic.table.entries
        entries = same-entries cost_of

        ready : length y.traffic.ready ≡ length x.traffic.ready
        ready = ap length m.ready

        below : Lower (view_of x) → weigh cost_of x.traffic.table.entries + cost_of x.current.entry ≤ b.cost
        below (of_cost less) = omega (arith, less)
        below (of_channels le less) = le
        below (of_due le one less) = le
        below (of_waits le one two less why) = le
        below (of_place le there wants) = le

        by : Change x y → Lower (view_of x) → Lower (view_of y)
        by (falls less) l =
            let before = below l in let es = entries in of_cost (omega (arith, less, before, es))
        by (stays k) (of_cost less) = let es = entries in let le = k.cost in of_cost (omega (arith, le, less, es))
        by (stays k) (of_channels one less) =
            let es = entries in let le = k.cost in let ch = k.channels in
            of_channels (omega (arith, le, one, es)) (omega (arith, ch, less))
        by (stays k) (of_due one two less) =
            let es = entries in let le = k.cost in let ch = k.channels in let rd = ready in
            let wt = same-waiting in
            of_due (omega (arith, le, one, es)) (omega (arith, ch, two)) (omega (arith, rd, wt, less))
        by (stays k) (of_waits one two three less why) =
            let es = entries in let le = k.cost in let ch = k.channels in let rd = ready in
            let wt = same-waiting in let fr = k.freed in
            let bl : length y.traffic.table.blocked ≡ length x.traffic.table.blocked = ap length k.blocked in
            of_waits (omega (arith, le, one, es)) (omega (arith, ch, two)) (omega (arith, rd, wt, three))
            (omega (arith, fr, bl, less)) (still k.wants)
          where
            still : ((wants_in x ≡ true) × (place_in x ≡ false)) ⊎ (wants_in y ≡ wants_in x) → wants_in y ≡ false
            still (inl w) = absurd (true≢false (sym w.0 ∙ why))
            still (inr w) = w ∙ why
        by (stays k) (of_place one there wants) =
            let es = entries in let le = k.cost in
            of_place (omega (arith, le, one, es)) (k.place ∙ there) (still k.wants)
          where
            still : ((wants_in x ≡ true) × (place_in x ≡ false)) ⊎ (wants_in y ≡ wants_in x) → wants_in y ≡ true
            still (inl w) = absurd (true≢false (sym there ∙ w.1))
            still (inr w) = w ∙ wants
        by (notes k) (of_cost less) = let es = entries in let le = k.cost in of_cost (omega (arith, le, less, es))
        by (notes k) (of_channels one less) =
            let es = entries in let le = k.cost in let ch = k.channels in
            of_channels (omega (arith, le, one, es)) (omega (arith, ch, less))
        by (notes k) (of_due one two less) =
            let es = entries in let le = k.cost in let ch = k.channels in let rd = ready in
            let wt = same-waiting in
            of_due (omega (arith, le, one, es)) (omega (arith, ch, two)) (omega (arith, rd, wt, less))
        by (notes k) (of_waits one two three less h) = absurd (true≢false (sym k.wants ∙ h))
        by (notes k) (of_place one there wants) = absurd (true≢false (sym there ∙ k.full))

    pub track-done : Track (view_of x) → Next
    track-done (has_read less) = let le = less-came in has_read (omega (arith, le, less))
    track-done (has_settled came fewer late) = next-settled came fewer x.current.to_do refl late
    track-done (is_hearing came some hearing) = next-hearing came some x.current.to_do refl hearing
    track-done (is_failing came failed some few to_do placed) = next-failing came failed some few to_do placed
    track-done (is_quitting came failed some few to_do placed) = next-quitting came failed some few to_do placed
    track-done (has_quit came failed some few to_do) = absurd (true≢false (at-to_do todo.PutBack to_do).1)
    track-done (is_expiring came failed none cost past to_do) =
        next-by (expires x) (at-to_do todo.Expire to_do).2
        (let k = expires-is x fit past in
        let one = came-same (expires x) k.inbox in
        let two : length (expires x).traffic.inbox.failures ≡ length x.traffic.inbox.failures =
        ap (λ (i : InboxState). length i.failures) k.inbox in
        let es : weigh cost_of (expires x).traffic.table.entries ≡ weigh cost_of x.traffic.table.entries =
        ap (λ (xs : List (ℕ × EntryState)). weigh cost_of xs) (same-done doings.Expires x (expires x) refl).entries in
        let less = k.cost in
        goes (omega (arith, one, came)) (omega (arith, two, failed)) none (of_cost (omega (arith, es, less, cost))) k.to_do)
    track-done (is_freeing came failed none cost channels due waits first there to_do) =
        next-by (frees x) (at-to_do todo.Free to_do).2
        (let k = frees-is x fit first in
        let one = came-same (frees x) k.inbox in
        let two : length (frees x).traffic.inbox.failures ≡ length x.traffic.inbox.failures =
        ap (λ (i : InboxState). length i.failures) k.inbox in
        let es : weigh cost_of (frees x).traffic.table.entries ≡ weigh cost_of x.traffic.table.entries =
        ap (λ (xs : List (ℕ × EntryState)). weigh cost_of xs) (same-done doings.Frees x (frees x) refl).entries in
        let wt : length (frees x).traffic.askers.waiting ≡ length x.traffic.askers.waiting =
        ap (λ (a : AskersState). length a.waiting) (same-done doings.Frees x (frees x) refl).askers in
        let le = k.cost in let ch = k.channels in let rd : length (frees x).traffic.ready ≡ length x.traffic.ready = ap length k.ready in
        goes (omega (arith, one, came)) (omega (arith, two, failed)) none
        (lower (omega (arith, es, le, cost)) (k.place ∙ there) (omega (arith, ch, channels)) (omega (arith, wt, rd, due)) k.why)
        k.to_do)
      where
        -- it is sent, as there is a place, or waits for none
        lower : (view_of (frees x)).cost ≤ b.cost → place_in (frees x) ≡ true → (view_of (frees x)).channels ≤ b.channels
            → (view_of (frees x)).due ≤ b.due → (wants_in (frees x) ≡ true)
            ⊎ ((wants_in (frees x) ≡ false) × ((view_of (frees x)).waits < x.traffic.freed + length x.traffic.table.blocked))
            → Lower (view_of (frees x))
        lower le place ch rd (inl wants) = of_place le place wants
        lower le place ch rd (inr less) =
            let fewer = less.1 in of_waits le ch rd (omega (arith, fewer, waits)) less.0
    track-done (is_refused came failed none cost to_do) = absurd (true≢false (at-to_do todo.Refuse to_do).0)
    track-done (goes came failed none low to_do) =
        let m = moved to_do in
        let one = came-same y m.inbox in
        let two : length y.traffic.inbox.failures ≡ length x.traffic.inbox.failures =
        ap (λ (i : InboxState). length i.failures) m.inbox in
        goes (omega (arith, one, came)) (omega (arith, two, failed)) none (next-lower m low) m.go
