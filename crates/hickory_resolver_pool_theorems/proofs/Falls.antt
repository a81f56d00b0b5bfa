-- How much is left of a pool that works on no transaction: it falls where one is put away, or over.
use Rattle.std.proofs.Common.{◌≡◌, ◌≤◌, ◌<◌, ◌+◌, ℕ, true, false, length, refl, ap, sym, subst, ◌∙◌, true≢false, arith, inl, inr, ◌⊎◌, suc, zero}
use Rattle.std.specs.Prelude.{Option, None, Some, position}
use Rattle.std.specs.Option.{is_some, option_map_or, option_and_then}
use Rattle.std.specs.Ordering.{nat_cmp}
use Rattle.std.specs.BTreeMap.{insert_entry}
use Rattle.hickory_resolver_traffic.specs.Doing.{Scene, doing, doing_for, by_failure, is_on}
use Rattle.hickory_resolver_traffic.specs.Inbox.{first_failure}
use Rattle.hickory_resolver_traffic.specs.Table.{CurrentState}
use Rattle.hickory_resolver_traffic.specs.Traffic.{TrafficState}
use Rattle.hickory_resolver_traffic.specs.declared.doing.Doing.{Doing}
use Rattle.hickory_resolver_traffic.specs.declared.doing.Doing.TheVariants as doings
use Rattle.hickory_resolver_traffic.specs.declared.entry.ToDo.{ToDo}
use Rattle.hickory_resolver_traffic.specs.declared.entry.ToDo.TheVariants as todo
use Rattle.hickory_resolver_traffic.specs.declared.inbox.ChannelFailure.{ChannelFailure}
use Rattle.hickory_resolver_traffic.specs.declared.inbox.Failure.{Failure}
use Rattle.hickory_resolver_traffic.specs.declared.inbox.Failure.TheVariants as failure
use Rattle.hickory_resolver_pool.specs.Pool.{PoolState, scene_of, is_end, is_put, let_go, put_by}
use Rattle.hickory_resolver_pool_theorems.proofs.Lex.{Numbers, Less}
use Rattle.hickory_resolver_pool_theorems.proofs.Moves.{cost_of}
use Rattle.hickory_resolver_pool_theorems.proofs.PutAway.{WhyGo, why-going}
use Rattle.hickory_resolver_pool_theorems.proofs.Tracks.{tries_in, view_of, Start, IsHearing, Lower, of_cost, of_channels, of_due, of_waits, of_place, Track, has_read, has_settled, is_hearing, is_failing, is_quitting, has_quit, is_expiring, is_freeing, is_refused, goes}
use Rattle.hickory_resolver_pool_theorems.proofs.Weights.{weigh, weigh-inserted, came_of}

-- ---- how much is left of a pool that works on none

abbrev pub start_of : TrafficState → Start
start_of t = record {
  came = came_of t.inbox;
  failed = length t.inbox.failures;
  tries = weigh tries_in t.table.entries;
  cost = weigh cost_of t.table.entries;
  channels = length t.shared.channels.channels;
  due = length t.ready + length t.askers.waiting;
  waits = t.freed + length t.table.blocked;
}

-- where a channel failed, tries alone count
abbrev pub rest_of : ℕ → Start → Numbers 4
rest_of zero b = (b.cost, (b.channels, (b.due, (b.waits, tt))))
rest_of (suc n) b = (b.tries, (0, (0, (0, tt))))

abbrev pub numbers_of : Start → Numbers 6
numbers_of b = (b.came, (b.failed, rest_of b.failed b))

-- less is left
pub data Fell (b a : Start) : Type 0 where
  fell_read : a.came < b.came → Fell b a
  fell_settled : a.came ≤ b.came → a.failed < b.failed → Fell b a
  fell_tries : a.came ≤ b.came → a.failed ≤ b.failed → 0 < b.failed → a.tries < b.tries → Fell b a
  fell_cost : a.came ≤ b.came → a.failed ≤ 0 → b.failed ≡ 0 → a.cost < b.cost → Fell b a
  fell_channels : a.came ≤ b.came → a.failed ≤ 0 → b.failed ≡ 0 → a.cost ≤ b.cost → a.channels < b.channels → Fell b a
  fell_due : a.came ≤ b.came → a.failed ≤ 0 → b.failed ≡ 0 → a.cost ≤ b.cost → a.channels ≤ b.channels
      → a.due < b.due → Fell b a
  fell_waits : a.came ≤ b.came → a.failed ≤ 0 → b.failed ≡ 0 → a.cost ≤ b.cost → a.channels ≤ b.channels
      → a.due ≤ b.due → a.waits < b.waits → Fell b a

module _ (b a : Start) where
  both-zero : (n m : ℕ) → n ≤ 0 → m ≡ 0 → Less 4 (rest_of 0 a) (rest_of 0 b) → Less 4 (rest_of n a) (rest_of m b)
  both-zero zero zero one two less = less
  both-zero zero (suc m) one two less = absurd (omega (arith, two))
  both-zero (suc n) m one two less = absurd (omega (arith, one))

  -- as many channels failed, or fewer
  tries-less : (n m : ℕ) → n ≤ m → 0 < m → a.tries < b.tries → (n < m) ⊎ ((n ≤ m) × Less 4 (rest_of n a) (rest_of m b))
  tries-less zero zero le some less = absurd (omega (arith, some))
  tries-less zero (suc m) le some less = inl (omega arith)
  tries-less (suc n) zero le some less = absurd (omega (arith, some))
  tries-less (suc n) (suc m) le some less = inr (le, inl less)

  pub fell-less : Fell b a → Less 6 (numbers_of a) (numbers_of b)
  fell-less (fell_read less) = inl less
  fell-less (fell_settled came less) = inr (came, inl less)
  fell-less (fell_tries came failed some less) = inr (came, tries-less a.failed b.failed failed some less)
  fell-less (fell_cost came failed none less) =
      inr (came, inr (omega (arith, failed), both-zero a.failed b.failed failed none (inl less)))
  fell-less (fell_channels came failed none cost less) =
      inr (came, inr (omega (arith, failed), both-zero a.failed b.failed failed none (inr (cost, inl less))))
  fell-less (fell_due came failed none cost channels less) =
      inr (came, inr (omega (arith, failed), both-zero a.failed b.failed failed none (inr (cost, inr (channels, inl less)))))
  fell-less (fell_waits came failed none cost channels due less) =
      inr (
        came,
        inr (
          omega (arith, failed),
          both-zero a.failed b.failed failed none
              (inr (cost, inr (channels, inr (due, inl less)))),
        ),
      )

-- ---- it is put away, or over

module _ (b : Start) (s : PoolState) (c : CurrentState) where
  abbrev pub x : Scene
  x = scene_of s c

  -- it is over
  pub end-fell : is_end (doing c s.traffic) ≡ true → Track b (view_of x) → Fell b (start_of (let_go c s).traffic)
  end-fell end (has_read less) = fell_read less
  end-fell end (has_settled came fewer late) = fell_settled came fewer
  end-fell end (is_hearing came some hearing) = absurd (by c.to_do refl hearing)
    where
      by : (d : ToDo) → c.to_do ≡ d → IsHearing d → ⊥
      by todo.Hear same h = true≢false (sym end ∙ ap (λ (e : ToDo). is_end (doing_for e c.number c.entry s.traffic)) same)
      by todo.Doubt same h = true≢false (sym end ∙ ap (λ (e : ToDo). is_end (doing_for e c.number c.entry s.traffic)) same)
      by todo.GoOn same h = h
      by todo.PutBack same h = h
      by todo.Fail same h = h
      by todo.Quit same h = h
      by todo.Expire same h = h
      by todo.Free same h = h
      by todo.Refuse same h = h
  end-fell end (is_failing came failed some few to_do placed) = absurd (by (first_failure s.traffic.inbox) refl)
    where
      no_end : (f : Failure) → is_end (by_failure f) ≡ false
      no_end failure.Local = refl
      no_end failure.Refused = refl
      no_end failure.Unreachable = refl
      no_end failure.Closed = refl

      here : is_end (option_map_or (λ f. by_failure f.why) (first_failure s.traffic.inbox) doings.PutsBack) ≡ true
      here = sym (ap (λ (e : ToDo). is_end (doing_for e c.number c.entry s.traffic)) to_do) ∙ end

      by : (f : Option ChannelFailure) → first_failure s.traffic.inbox ≡ f → ⊥
      by None at =
          true≢false (sym here ∙ ap (λ (o : Option ChannelFailure). is_end (option_map_or (λ f. by_failure f.why) o doings.PutsBack)) at)
      by (Some f) at =
          true≢false (sym here ∙ ap (λ (o : Option ChannelFailure). is_end (option_map_or (λ f. by_failure f.why) o doings.PutsBack)) at
          ∙ no_end f.why)
  end-fell end (is_quitting came failed some few to_do placed) =
      absurd (true≢false (sym end ∙ ap (λ (e : ToDo). is_end (doing_for e c.number c.entry s.traffic)) to_do))
  end-fell end (has_quit came failed some few to_do) = fell_tries came failed some (omega (arith, few))
  end-fell end (is_expiring came failed none cost past to_do) =
      absurd (true≢false (sym end ∙ ap (λ (e : ToDo). is_end (doing_for e c.number c.entry s.traffic)) to_do))
  end-fell end (is_freeing came failed none cost channels due waits first some to_do) =
      absurd (true≢false (sym end ∙ ap (λ (e : ToDo). is_end (doing_for e c.number c.entry s.traffic)) to_do))
  end-fell end (is_refused came failed none cost to_do) = fell_cost came failed none (omega (arith, cost))
  end-fell end (goes came failed none low to_do) = fell_cost came failed none (by low)
    where
      by : Lower b (view_of x) → weigh cost_of s.traffic.table.entries < b.cost
      by (of_cost less) = omega (arith, less)
      by (of_channels le less) = omega (arith, le)
      by (of_due le one less) = omega (arith, le)
      by (of_waits le one two less why) = omega (arith, le)
      by (of_place le there wants) = omega (arith, le)

  -- it waits, or goes on later
  abbrev pub Put : Doing → Type 0
  Put what = Fell b (start_of (put_by what c s).traffic)

  put-read : came_of s.traffic.inbox < b.came → (what : Doing) → is_put what ≡ true → Put what
  put-read less doings.PutsBack h = fell_read less
  put-read less doings.Rests h = fell_read less
  put-read less doings.Hears h = absurd (true≢false (sym h))
  put-read less doings.Doubts h = absurd (true≢false (sym h))
  put-read less doings.Stalls h = absurd (true≢false (sym h))
  put-read less doings.Fails h = absurd (true≢false (sym h))
  put-read less doings.Quits h = absurd (true≢false (sym h))
  put-read less doings.Expires h = absurd (true≢false (sym h))
  put-read less doings.Frees h = absurd (true≢false (sym h))
  put-read less doings.Refused h = absurd (true≢false (sym h))
  put-read less (doings.Leaves place) h = absurd (true≢false (sym h))
  put-read less doings.Ends h = absurd (true≢false (sym h))
  put-read less doings.Draws h = absurd (true≢false (sym h))
  put-read less (doings.BeginsRound place) h = absurd (true≢false (sym h))
  put-read less doings.GivesUp h = absurd (true≢false (sym h))
  put-read less doings.Blocks h = absurd (true≢false (sym h))
  put-read less doings.Sends h = absurd (true≢false (sym h))
  put-read less (doings.Dates due) h = absurd (true≢false (sym h))

  put-settled : came_of s.traffic.inbox ≤ b.came → length s.traffic.inbox.failures < b.failed → (what : Doing)
      → is_put what ≡ true → Put what
  put-settled came less doings.PutsBack h = fell_settled came less
  put-settled came less doings.Rests h = fell_settled came less
  put-settled came less doings.Hears h = absurd (true≢false (sym h))
  put-settled came less doings.Doubts h = absurd (true≢false (sym h))
  put-settled came less doings.Stalls h = absurd (true≢false (sym h))
  put-settled came less doings.Fails h = absurd (true≢false (sym h))
  put-settled came less doings.Quits h = absurd (true≢false (sym h))
  put-settled came less doings.Expires h = absurd (true≢false (sym h))
  put-settled came less doings.Frees h = absurd (true≢false (sym h))
  put-settled came less doings.Refused h = absurd (true≢false (sym h))
  put-settled came less (doings.Leaves place) h = absurd (true≢false (sym h))
  put-settled came less doings.Ends h = absurd (true≢false (sym h))
  put-settled came less doings.Draws h = absurd (true≢false (sym h))
  put-settled came less (doings.BeginsRound place) h = absurd (true≢false (sym h))
  put-settled came less doings.GivesUp h = absurd (true≢false (sym h))
  put-settled came less doings.Blocks h = absurd (true≢false (sym h))
  put-settled came less doings.Sends h = absurd (true≢false (sym h))
  put-settled came less (doings.Dates due) h = absurd (true≢false (sym h))

  put-rests : came_of s.traffic.inbox ≤ b.came → length s.traffic.inbox.failures ≤ 0 → b.failed ≡ 0
      → Lower b (view_of x) → (what : Doing) → is_put what ≡ true → WhyGo c.entry c.number s.traffic what → Put what
  put-rests came failed none low doings.Rests h why = by low
    where
      cost : weigh cost_of (insert_entry nat_cmp s.traffic.table.entries c.number c.entry)
          ≤ weigh cost_of s.traffic.table.entries + cost_of c.entry
      cost = weigh-inserted cost_of c.number c.entry s.traffic.table.entries

      by : Lower b (view_of x) → Put doings.Rests
      by (of_cost less) = let le = cost in fell_cost came failed none (omega (arith, le, less))
      by (of_channels le less) = let more = cost in fell_channels came failed none (omega (arith, le, more)) less
      by (of_due le one less) =
          let more = cost in fell_due came failed none (omega (arith, le, more)) one less
      by (of_waits le one two less w) =
          let more = cost in fell_waits came failed none (omega (arith, le, more)) one two less
      by (of_place le there wants) = absurd (true≢false (sym wants ∙ why.3))
  put-rests came failed none low doings.PutsBack h why = absurd why
  put-rests came failed none low doings.Hears h why = absurd why
  put-rests came failed none low doings.Doubts h why = absurd why
  put-rests came failed none low doings.Stalls h why = absurd why
  put-rests came failed none low doings.Fails h why = absurd why
  put-rests came failed none low doings.Quits h why = absurd why
  put-rests came failed none low doings.Expires h why = absurd (true≢false (sym h))
  put-rests came failed none low doings.Frees h why = absurd why
  put-rests came failed none low doings.Refused h why = absurd why
  put-rests came failed none low (doings.Leaves place) h why = absurd (true≢false (sym h))
  put-rests came failed none low doings.Ends h why = absurd (true≢false (sym h))
  put-rests came failed none low doings.Draws h why = absurd (true≢false (sym h))
  put-rests came failed none low (doings.BeginsRound place) h why = absurd (true≢false (sym h))
  put-rests came failed none low doings.GivesUp h why = absurd (true≢false (sym h))
  put-rests came failed none low doings.Blocks h why = absurd (true≢false (sym h))
  put-rests came failed none low doings.Sends h why = absurd (true≢false (sym h))
  put-rests came failed none low (doings.Dates due) h why = absurd (true≢false (sym h))

  no_put : (d : ToDo) → c.to_do ≡ d → is_put (doing_for d c.number c.entry s.traffic) ≡ false
      → is_put (doing c s.traffic) ≡ true → ⊥
  no_put d same none put =
      true≢false (sym put ∙ ap (λ (e : ToDo). is_put (doing_for e c.number c.entry s.traffic)) same ∙ none)

  pub put-fell : is_put (doing c s.traffic) ≡ true → Track b (view_of x) → Put (doing c s.traffic)
  put-fell put (has_read less) = put-read less (doing c s.traffic) put
  put-fell put (has_settled came fewer late) = put-settled came fewer (doing c s.traffic) put
  put-fell put (is_hearing came some hearing) = absurd (by c.to_do refl hearing)
    where
      by : (d : ToDo) → c.to_do ≡ d → IsHearing d → ⊥
      by todo.Hear same h = no_put todo.Hear same refl put
      by todo.Doubt same h = no_put todo.Doubt same refl put
      by todo.GoOn same h = h
      by todo.PutBack same h = h
      by todo.Fail same h = h
      by todo.Quit same h = h
      by todo.Expire same h = h
      by todo.Free same h = h
      by todo.Refuse same h = h
  put-fell put (is_failing came failed some few to_do placed) = absurd (by (first_failure s.traffic.inbox) refl placed)
    where
      no_end : (f : Failure) → is_put (by_failure f) ≡ false
      no_end failure.Local = refl
      no_end failure.Refused = refl
      no_end failure.Unreachable = refl
      no_end failure.Closed = refl

      by : (f : Option ChannelFailure) → first_failure s.traffic.inbox ≡ f
          → is_some (option_and_then (λ g. position (is_on g.channel) c.entry.flying.tries) f) ≡ true → ⊥
      by None at h = true≢false (sym h)
      by (Some f) at h =
          no_put todo.Fail to_do
          (ap (λ (o : Option ChannelFailure). is_put (option_map_or (λ g. by_failure g.why) o doings.PutsBack)) at ∙ no_end f.why)
          put
  put-fell put (is_quitting came failed some few to_do placed) = absurd (no_put todo.Quit to_do refl put)
  put-fell put (has_quit came failed some few to_do) =
      subst Put (sym (ap (λ (e : ToDo). doing_for e c.number c.entry s.traffic) to_do))
      (let more = weigh-inserted tries_in c.number c.entry s.traffic.table.entries in
      fell_tries came failed some (omega (arith, more, few)))
  put-fell put (is_expiring came failed none cost past to_do) = absurd (no_put todo.Expire to_do refl put)
  put-fell put (is_freeing came failed none cost channels due waits first some to_do) = absurd (no_put todo.Free to_do refl put)
  put-fell put (is_refused came failed none cost to_do) = absurd (no_put todo.Refuse to_do refl put)
  put-fell put (goes came failed none low to_do) =
      put-rests came failed none low (doing c s.traffic) put
      (subst (WhyGo c.entry c.number s.traffic)
      (sym (ap (λ (d : ToDo). doing_for d c.number c.entry s.traffic) to_do)) (why-going c.entry c.number s.traffic))
