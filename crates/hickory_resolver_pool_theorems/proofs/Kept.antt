-- What a transaction keeps in mind of its tries agrees with the tries on channels.
use Rattle.std.proofs.Common.{◌≡◌, ◌≤◌, ◌<◌, ◌-◌, ◌+◌, ◌^◌, min, ℕ, Bool, true, false, cond, List, [], ◌∷◌, ◌++◌, refl, ap, sym, subst, ◌∙◌, true≢false, inl, inr, ◌⊎◌, arith}
use Rattle.std.specs.Prelude.{Option, None, Some, IfSome, remove, slice_get}
use Rattle.std.specs.Ordering.{nat_cmp}
use Rattle.std.specs.List.{AllByRecursion}
use Rattle.std.specs.Map.{lookup}
use Rattle.std.specs.BTreeMap.{insert_entry, is_at}
use Rattle.std.specs.Option.{is_some, option_map_or}
use Rattle.hickory_resolver_askers.specs.Askers.{WaitingValue, to_admit}
use Rattle.hickory_resolver_askers.specs.Askers as ask
use Rattle.hickory_resolver_channels.specs.Channels.{ChannelsState, transaction_at, channel_at, pair_cmp, tries_without, left, number_given}
use Rattle.hickory_resolver_channels.specs.Channels as channels
use Rattle.hickory_resolver_channels.specs.Draws.{try_drawn}
use Rattle.hickory_resolver_channels.specs.declared.channel.ChannelKind.{ChannelKind}
use Rattle.hickory_resolver_config.specs.ResolverConfig.{OptionsValue}
use Rattle.hickory_resolver_steps.specs.Ending.{try_at_place}
use Rattle.hickory_resolver_steps.specs.Lists.{number_of}
use Rattle.hickory_resolver_steps.specs.Steps.{Parts, kind_of, stream_in, sent_on_open, sent_on_new, sent_on, sent_to, sent_as, sent}
use Rattle.hickory_resolver_steps.specs.declared.flying.SentTry.{SentTry}
use Rattle.hickory_resolver_steps.specs.declared.flying.Step.{Step}
use Rattle.hickory_resolver_transactions.specs.Transaction.{wanted}
use Rattle.hickory_resolver_transactions.specs.declared.transaction.Wanted.{Wanted}
use Rattle.hickory_resolver_traffic.specs.Acting.{acted_with, parts_of, step_of}
use Rattle.hickory_resolver_traffic.specs.Doing.{Scene, IsDone, doing, doubts_message, one_freed, is_empty, leave_at, leaving_at, leaves, freed_if, closed_at, quits, quits_at, after_quit, place_on, with_to_do, idle_until, sends, before_act, with_acted, moment_of, dates}
use Rattle.hickory_resolver_traffic.specs.Groups.{GroupListState, list_in}
use Rattle.hickory_resolver_traffic.specs.Inbox.{MessageValue, first_message, first_failure}
use Rattle.hickory_resolver_traffic.specs.Table.{CurrentState, EntryState, TableState, entry_at}
use Rattle.hickory_resolver_traffic.specs.Tasks.{task_of, after_task, did, freed_by, freed_by_first, without_taken}
use Rattle.hickory_resolver_traffic.specs.Tasks as tasks
use Rattle.hickory_resolver_traffic.specs.Traffic.{TrafficState, entry_of}
use Rattle.hickory_resolver_traffic.specs.declared.acting.ServerAct.TheVariants.{Send}
use Rattle.hickory_resolver_traffic.specs.declared.doing.Doing.{Doing}
use Rattle.hickory_resolver_traffic.specs.declared.doing.Doing.TheVariants.{Hears, Doubts, Stalls, Fails, Quits, PutsBack, Expires, Frees, Refused, Leaves, Ends, Draws, BeginsRound, GivesUp, Blocks, Sends, Dates, Rests}
use Rattle.hickory_resolver_traffic.specs.declared.entry.ToDo.TheVariants as todo
use Rattle.hickory_resolver_traffic.specs.declared.inbox.ChannelFailure.{ChannelFailure}
use Rattle.hickory_resolver_traffic.specs.declared.inbox.Failure.{Failure}
use Rattle.hickory_resolver_traffic.specs.declared.inbox.Failure.TheVariants as failure
use Rattle.hickory_resolver_traffic.specs.declared.tasks.Task.{Task}
use Rattle.hickory_resolver_traffic.specs.declared.tasks.Task.TheVariants as task
use Rattle.hickory_resolver_pool.specs.Laws.{after_event}
use Rattle.hickory_resolver_pool.specs.Pool.{PoolState, no_servers, current_after, scene_of, put_by}
use Rattle.hickory_resolver_pool.specs.declared.limits.PoolLimits.{PoolLimits}
use Rattle.hickory_resolver_pool.proofs.Bounded.{stays_bounded}
use Rattle.hickory_resolver_pool_theorems.specs.Agreement.{Has, in_table, in_hand, is_sent_as, KeepsItsTries, TriesAgree}
use Rattle.hickory_resolver_pool_theorems.specs.Runs.{Happening, Runs, at_first, by_event, by_step}
use Rattle.hickory_resolver_pool_theorems.proofs.Asked.{known-runs, next-step, grows-event}
use Rattle.hickory_resolver_pool_theorems.proofs.Askings.{next_of, put-is}
use Rattle.hickory_resolver_pool_theorems.proofs.Entries.{IsOf, AllOf, WorkedOf, all-inserted, all-removed, all-found, all-as, worked-as, all-others}
use Rattle.hickory_resolver_pool_theorems.proofs.Frames.{IsOrdinary, kept-done}
use Rattle.hickory_resolver_pool_theorems.proofs.Keys.{pair-self, found-inserted}
use Rattle.hickory_resolver_pool_theorems.proofs.KeyEntries.{others-inserted, others-removed, ApartBy, apart-inserted, apart-removed, gone-removed}
use Rattle.hickory_resolver_pool_theorems.proofs.KeySets.{pair-is}
use Rattle.hickory_resolver_pool_theorems.proofs.Left.{Mind, EachOnce, try_of, sent-is, sent-self, mind-pushed, mind-kept, mind-own, once-pushed, mind-before, mind-removed, mind-gone, mind-there, once-forgotten, IsOpen, HasLeft, is_gone, was_closed, was_gone, Leaving, leaving, Closing, closing, Making, AreOldTries, making-open, making-new}
use Rattle.hickory_resolver_pool_theorems.proofs.Numbers.{AreApart, apart-runs, Takes, none_taken, one_gone, one_taken, takes-task}
use Rattle.hickory_resolver_pool_theorems.proofs.Reaching.{reached}
use Rattle.hickory_resolver_pool_theorems.proofs.Scenes.{same-done}
use Rattle.hickory_resolver_pool_theorems.proofs.Sendings.{open-is}
use Rattle.hickory_resolver_pool_theorems.proofs.Shapes.{IsStep, goes_out, begins, does, puts, ends, step-is, IsEvent, keeps, regroups, enters, event-is}
use Rattle.hickory_resolver_pool_theorems.proofs.Traces.{current-event, shared-event}

-- ---- what a transaction keeps in mind

pub record InMind (s : ChannelsState) (n : ℕ) (ts : List SentTry) : Type 0 where
  pub on_channel : (channel id : ℕ) → Mind channel id ts → transaction_at channel id s ≡ Some n
  pub kept : (channel id : ℕ) → IsOpen channel s → transaction_at channel id s ≡ Some n → Mind channel id ts
  pub once : EachOnce ts

abbrev pub Keeps : ChannelsState → IsOf
Keeps s n e = InMind s n e.flying.tries

pub record AreKept (next : ℕ) (s : ChannelsState) (es : List (ℕ × EntryState)) (c : Option CurrentState) : Type 0 where
  pub table : AllOf (Keeps s) es
  pub worked : WorkedOf (Keeps s) c
  pub apart : ApartBy pair_cmp pair-self pair-is s.tries
  pub old : AreOldTries s
  pub given : (channel id n : ℕ) → transaction_at channel id s ≡ Some n → n < next

-- a try is this one, or another
abbrev SameTry : ℕ → ℕ → ℕ → ℕ → Type 0
SameTry channel id k i = (k ≡ channel) × (i ≡ id)

which : (channel id k i : ℕ) → SameTry channel id k i ⊎ (is_at (pair_cmp (k, i)) (channel, id) ≡ false)
which channel id k i = by (is_at (pair_cmp (k, i)) (channel, id)) refl
  where
    by : (b : Bool) → is_at (pair_cmp (k, i)) (channel, id) ≡ b
        → SameTry channel id k i ⊎ (is_at (pair_cmp (k, i)) (channel, id) ≡ false)
    by true is =
        let same = pair-is (k, i) (channel, id) is in
        inl (ap (λ (p : ℕ × ℕ). p.0) same, ap (λ (p : ℕ × ℕ). p.1) same)
    by false is = inr is

same-number : (a b : ℕ) → ◌≡◌ {A = Option ℕ} (Some a) (Some b) → a ≡ b
same-number a b e = cc

-- ---- one is made

module _ (next : ℕ) (s t : ChannelsState) (es : List (ℕ × EntryState)) (c : CurrentState)
    (w : AreKept next s es (Some c)) (not : lookup (is_at (nat_cmp c.number)) es ≡ None) (less : c.number < next)
    (channel id : ℕ) (m : Making channel id c.number s t) where
  at-own : transaction_at channel id t ≡ Some c.number
  at-own =
      ap (λ (xs : List ((ℕ × ℕ) × ℕ)). lookup (is_at (pair_cmp (channel, id))) xs) m.tries
      ∙ found-inserted pair_cmp pair-self (channel, id) c.number s.tries

  at-other : (k i : ℕ) → is_at (pair_cmp (k, i)) (channel, id) ≡ false → transaction_at k i t ≡ transaction_at k i s
  at-other k i other =
      ap (λ (xs : List ((ℕ × ℕ) × ℕ)). lookup (is_at (pair_cmp (k, i))) xs) m.tries
      ∙ others-inserted pair_cmp pair-self pair-is (k, i) (channel, id) other c.number s.tries

  at-same : (k i n : ℕ) → SameTry channel id k i → transaction_at k i t ≡ Some n → n ≡ c.number
  at-same k i n same e =
      same-number n c.number (sym e ∙ ap (λ (x : ℕ). transaction_at x i t) same.0
      ∙ ap (λ (x : ℕ). transaction_at channel x t) same.1 ∙ at-own)

  -- what was there before is no other one's
  before : (k i n : ℕ) → transaction_at k i s ≡ Some n → transaction_at k i t ≡ Some n
  before k i n e = by (which channel id k i)
    where
      by : SameTry channel id k i ⊎ (is_at (pair_cmp (k, i)) (channel, id) ≡ false) → transaction_at k i t ≡ Some n
      by (inl same) =
          let none : None ≡ Some n =
          sym (ap (λ (x : ℕ). transaction_at x i s) same.0 ∙ ap (λ (x : ℕ). transaction_at channel x s) same.1 ∙ m.new) ∙ e in
          absurd cc
      by (inr other) = at-other k i other ∙ e

  open-before : (k i n : ℕ) → transaction_at k i s ≡ Some n → IsOpen k t → IsOpen k s
  open-before k i n e o = by (m.opens k o)
    where
      new-one : k ≡ channel → IsOpen channel s ⊎ (channel ≡ s.next) → IsOpen k s
      new-one same (inl is) = subst (λ (x : ℕ). IsOpen x s) (sym same) is
      new-one same (inr is) = let number : k < s.next = w.old k i n e in absurd (omega (arith, number, same, is))

      by : (k ≡ channel) ⊎ IsOpen k s → IsOpen k s
      by (inl same) = new-one same m.at
      by (inr is) = is

  made-others : (n : ℕ) (e : EntryState) → (n ≡ c.number → ⊥) → Keeps s n e → Keeps t n e
  made-others n e apart k = record {
    on_channel = λ a b h. before a b n (k.on_channel a b h);
    kept = λ a b o h. by a b o h (which channel id a b);
    once = k.once;
  }
    where
      by : (a b : ℕ) → IsOpen a t → transaction_at a b t ≡ Some n
          → SameTry channel id a b ⊎ (is_at (pair_cmp (a, b)) (channel, id) ≡ false) → Mind a b e.flying.tries
      by a b o h (inl same) = absurd (apart (at-same a b n same h))
      by a b o h (inr other) =
          let was = sym (at-other a b other) ∙ h in k.kept a b (open-before a b n was o) was

  made-own : InMind t c.number (c.entry.flying.tries ++ try_of channel id ∷ [])
  made-own = record {
    on_channel = λ a b h. here a b (mind-pushed a b ts (try_of channel id) h);
    kept = λ a b o h. by a b o h (which channel id a b);
    once = once-pushed ts (try_of channel id) w.worked.once (λ h. twice h);
  }
    where
      ts : List SentTry
      ts = c.entry.flying.tries

      twice : Mind channel id ts → ⊥
      twice h = let none : None ≡ Some c.number = sym m.new ∙ w.worked.on_channel channel id h in absurd cc

      here : (a b : ℕ) → Mind a b ts ⊎ (is_sent_as a b (try_of channel id) ≡ true) → transaction_at a b t ≡ Some c.number
      here a b (inl h) = before a b c.number (w.worked.on_channel a b h)
      here a b (inr h) =
          let same = sent-is a b (try_of channel id) h in
          ap (λ (x : ℕ). transaction_at x b t) (sym same.0) ∙ ap (λ (x : ℕ). transaction_at channel x t) (sym same.1) ∙ at-own

      by : (a b : ℕ) → IsOpen a t → transaction_at a b t ≡ Some c.number
          → SameTry channel id a b ⊎ (is_at (pair_cmp (a, b)) (channel, id) ≡ false)
          → Mind a b (ts ++ try_of channel id ∷ [])
      by a b o h (inl same) =
          mind-own a b ts (try_of channel id)
          (subst (λ (x : ℕ). is_sent_as x b (try_of channel id) ≡ true) (sym same.0)
          (subst (λ (x : ℕ). is_sent_as channel x (try_of channel id) ≡ true) (sym same.1) (sent-self (try_of channel id))))
      by a b o h (inr other) =
          let was = sym (at-other a b other) ∙ h in
          mind-kept a b ts (try_of channel id) (w.worked.kept a b (open-before a b c.number was o) was)

  kept-made : (d : CurrentState) → d.number ≡ c.number
      → d.entry.flying.tries ≡ c.entry.flying.tries ++ try_of channel id ∷ [] → AreKept next t es (Some d)
  kept-made d number tries = record {
    table = all-others (Keeps s) (Keeps t) c.number es not made-others w.table;
    worked = subst (λ (n : ℕ). InMind t n d.entry.flying.tries) (sym number)
        (subst (λ (ts : List SentTry). InMind t c.number ts) (sym tries) made-own);
    apart = subst (ApartBy pair_cmp pair-self pair-is) (sym m.tries)
        (apart-inserted pair_cmp pair-self pair-is (channel, id) c.number s.tries m.new w.apart);
    old = λ a b n h. number-of a b n h (which channel id a b);
    given = λ a b n h. given-to a b n h (which channel id a b);
  }
    where
      number-of : (a b n : ℕ) → transaction_at a b t ≡ Some n
          → SameTry channel id a b ⊎ (is_at (pair_cmp (a, b)) (channel, id) ≡ false) → a < t.next
      number-of a b n h (inl same) = let at_most = m.given in let is = same.0 in omega (arith, at_most, is)
      number-of a b n h (inr other) =
          let was = w.old a b n (sym (at-other a b other) ∙ h) in let grows = m.grows in omega (arith, was, grows)

      given-to : (a b n : ℕ) → transaction_at a b t ≡ Some n
          → SameTry channel id a b ⊎ (is_at (pair_cmp (a, b)) (channel, id) ≡ false) → n < next
      given-to a b n h (inl same) = let is = at-same a b n same h in omega (arith, is, less)
      given-to a b n h (inr other) = w.given a b n (sym (at-other a b other) ∙ h)

-- ---- none is made, and channels may close

kept-as : (next : ℕ) (s t : ChannelsState) (es : List (ℕ × EntryState)) (c : Option CurrentState) → Closing s t
    → AreKept next s es c → AreKept next t es c
kept-as next s t es c k w = record {
  table = all-as (Keeps s) (Keeps t) es each w.table;
  worked = worked-as (Keeps s) (Keeps t) c each w.worked;
  apart = subst (ApartBy pair_cmp pair-self pair-is) (sym k.tries) w.apart;
  old = λ a b n h. let was = w.old a b n (sym (same a b) ∙ h) in let next_is = k.next in omega (arith, was, next_is);
  given = λ a b n h. w.given a b n (sym (same a b) ∙ h);
}
  where
    same : (a b : ℕ) → transaction_at a b t ≡ transaction_at a b s
    same a b = ap (λ (xs : List ((ℕ × ℕ) × ℕ)). lookup (is_at (pair_cmp (a, b))) xs) k.tries

    each : (n : ℕ) (e : EntryState) → Keeps s n e → Keeps t n e
    each n e m = record {
      on_channel = λ a b h. same a b ∙ m.on_channel a b h;
      kept = λ a b o h. m.kept a b (k.still a o) (sym (same a b) ∙ h);
      once = m.once;
    }

-- ---- one leaves

module _ (next : ℕ) (s t : ChannelsState) (es : List (ℕ × EntryState)) (c : CurrentState)
    (w : AreKept next s es (Some c)) (not : lookup (is_at (nat_cmp c.number)) es ≡ None)
    (place : ℕ) (one : SentTry) (at : slice_get c.entry.flying.tries place ≡ Some one)
    (l : Leaving one.channel one.id s t) where
  abbrev ts : List SentTry
  ts = c.entry.flying.tries

  was-own : transaction_at one.channel one.id s ≡ Some c.number
  was-own = w.worked.on_channel one.channel one.id (mind-there ts place one at)

  -- the channel was not open
  left-closed : t.tries ≡ s.tries → is_some (channel_at one.channel s) ≡ false
      → (d : CurrentState) → d.number ≡ c.number → d.entry.flying.tries ≡ remove ts place → AreKept next t es (Some d)
  left-closed tries shut d number rest =
      let k : AreKept next t es (Some c) = kept-as next s t es (Some c) (record { tries = tries; next = l.next; still = l.still }) w in
      record {
        table = k.table;
        worked = subst (λ (n : ℕ). InMind t n d.entry.flying.tries) (sym number)
            (subst (λ (xs : List SentTry). InMind t c.number xs) (sym rest) (record {
              on_channel = λ a b h. k.worked.on_channel a b (mind-before a b ts place h);
              kept = λ a b o h. mind-removed a b ts place one at (apart a b o) (k.worked.kept a b o h);
              once = once-forgotten ts place w.worked.once;
            }));
        apart = k.apart;
        old = k.old;
        given = k.given;
      }
    where
      apart : (a b : ℕ) → IsOpen a t → is_sent_as a b one ≡ false
      apart a b o = by (is_sent_as a b one) refl
        where
          by : (x : Bool) → is_sent_as a b one ≡ x → x ≡ false
          by true is =
              let same = sent-is a b one is in
              absurd (true≢false (sym (subst (λ (x : ℕ). IsOpen x s) (sym same.0) (l.still a o)) ∙ shut))
          by false is = refl

  module _ (gone : t.tries ≡ tries_without one.channel one.id s) where
    at-rest : (k i : ℕ) → is_at (pair_cmp (k, i)) (one.channel, one.id) ≡ false → transaction_at k i t ≡ transaction_at k i s
    at-rest k i other =
        ap (λ (xs : List ((ℕ × ℕ) × ℕ)). lookup (is_at (pair_cmp (k, i))) xs) gone
        ∙ others-removed pair_cmp pair-self pair-is (k, i) (one.channel, one.id) other s.tries

    at-gone : transaction_at one.channel one.id t ≡ None
    at-gone =
        ap (λ (xs : List ((ℕ × ℕ) × ℕ)). lookup (is_at (pair_cmp (one.channel, one.id))) xs) gone
        ∙ gone-removed pair_cmp pair-self pair-is (one.channel, one.id) s.tries w.apart

    -- what is there now was there before, and is another one
    was : (k i n : ℕ) → transaction_at k i t ≡ Some n
        → (transaction_at k i s ≡ Some n) × (is_sent_as k i one ≡ false)
    was k i n h = by (which one.channel one.id k i)
      where
        none-there : SameTry one.channel one.id k i → ⊥
        none-there same =
            let none : None ≡ Some n =
            sym (ap (λ (x : ℕ). transaction_at x i t) same.0 ∙ ap (λ (x : ℕ). transaction_at one.channel x t) same.1 ∙ at-gone)
            ∙ h in absurd cc

        other : (x : Bool) → is_sent_as k i one ≡ x → x ≡ false
        other true is =
            let same = sent-is k i one is in absurd (none-there (sym same.0, sym same.1))
        other false is = refl

        by : SameTry one.channel one.id k i ⊎ (is_at (pair_cmp (k, i)) (one.channel, one.id) ≡ false)
            → (transaction_at k i s ≡ Some n) × (is_sent_as k i one ≡ false)
        by (inl same) = absurd (none-there same)
        by (inr apart) = (sym (at-rest k i apart) ∙ h, other (is_sent_as k i one) refl)

    -- what is another one is there still
    still : (k i n : ℕ) → (SameTry one.channel one.id k i → ⊥) → transaction_at k i s ≡ Some n → transaction_at k i t ≡ Some n
    still k i n apart h = by (which one.channel one.id k i)
      where
        by : SameTry one.channel one.id k i ⊎ (is_at (pair_cmp (k, i)) (one.channel, one.id) ≡ false)
            → transaction_at k i t ≡ Some n
        by (inl same) = absurd (apart same)
        by (inr other) = at-rest k i other ∙ h

    left-gone : (d : CurrentState) → d.number ≡ c.number → d.entry.flying.tries ≡ remove ts place
        → AreKept next t es (Some d)
    left-gone d number rest = record {
      table = all-others (Keeps s) (Keeps t) c.number es not others w.table;
      worked = subst (λ (n : ℕ). InMind t n d.entry.flying.tries) (sym number)
          (subst (λ (xs : List SentTry). InMind t c.number xs) (sym rest) own);
      apart = subst (ApartBy pair_cmp pair-self pair-is) (sym gone)
          (apart-removed pair_cmp pair-self pair-is (one.channel, one.id) s.tries w.apart);
      old = λ a b n h. let less = w.old a b n (was a b n h).0 in let next_is = l.next in omega (arith, less, next_is);
      given = λ a b n h. w.given a b n (was a b n h).0;
    }
      where
        others : (n : ℕ) (e : EntryState) → (n ≡ c.number → ⊥) → Keeps s n e → Keeps t n e
        others n e apart k = record {
          on_channel = λ a b h. still a b n (λ same. mine a b same (k.on_channel a b h)) (k.on_channel a b h);
          kept = λ a b o h. k.kept a b (l.still a o) (was a b n h).0;
          once = k.once;
        }
          where
            mine : (a b : ℕ) → SameTry one.channel one.id a b → transaction_at a b s ≡ Some n → ⊥
            mine a b same h =
                apart (same-number n c.number (sym h ∙ ap (λ (x : ℕ). transaction_at x b s) same.0
                ∙ ap (λ (x : ℕ). transaction_at one.channel x s) same.1 ∙ was-own))

        own : InMind t c.number (remove ts place)
        own = record {
          on_channel = λ a b h. still a b c.number (λ same. mine a b same h)
              (w.worked.on_channel a b (mind-before a b ts place h));
          kept = λ a b o h.
              mind-removed a b ts place one at (was a b c.number h).1 (w.worked.kept a b (l.still a o) (was a b c.number h).0);
          once = once-forgotten ts place w.worked.once;
        }
          where
            mine : (a b : ℕ) → SameTry one.channel one.id a b → Mind a b (remove ts place) → ⊥
            mine a b same h =
                mind-gone ts place one w.worked.once at
                (subst (λ (x : ℕ). Mind x one.id (remove ts place)) same.0
                (subst (λ (x : ℕ). Mind a x (remove ts place)) same.1 h))

  kept-left : (d : CurrentState) → d.number ≡ c.number → d.entry.flying.tries ≡ remove ts place → AreKept next t es (Some d)
  kept-left d number rest = by l.left
    where
      by : HasLeft one.channel one.id s t → AreKept next t es (Some d)
      by (is_gone gone) = left-gone gone d number rest
      by (was_closed tries shut) = left-closed tries shut d number rest
      by (was_gone tries free) =
          absurd (true≢false (sym (ap (λ (o : Option ℕ). is_some o) was-own) ∙ free))

-- ---- what is done with the transaction that is worked on

kept-self : (next : ℕ) (s t : ChannelsState) (es : List (ℕ × EntryState)) (c d : CurrentState) → t ≡ s → d.number ≡ c.number
    → d.entry.flying.tries ≡ c.entry.flying.tries → AreKept next s es (Some c) → AreKept next t es (Some d)
kept-self next s t es c d same number tries w =
    subst (λ (u : ChannelsState). AreKept next u es (Some d)) (sym same) (record {
      table = w.table;
      worked = subst (λ (n : ℕ). InMind s n d.entry.flying.tries) (sym number)
          (subst (λ (ts : List SentTry). InMind s c.number ts) (sym tries) w.worked);
      apart = w.apart;
      old = w.old;
      given = w.given;
    })

module _ (x : Scene) (next : ℕ) (es : List (ℕ × EntryState))
    (w : AreKept next x.traffic.shared.channels es (Some x.current))
    (not : lookup (is_at (nat_cmp x.current.number)) es ≡ None) (less : x.current.number < next)
    (numbers : AllByRecursion (λ p. p.0 < x.traffic.shared.channels.next) x.traffic.shared.channels.channels) where
  abbrev Fits : Scene → Type 0
  Fits y =
      (d : CurrentState) → d.number ≡ x.current.number → d.entry.flying.tries ≡ y.current.entry.flying.tries
      → AreKept next y.traffic.shared.channels es (Some d)

  fits-self : Fits x
  fits-self d number tries =
      kept-self next x.traffic.shared.channels x.traffic.shared.channels es x.current d refl number tries w

  fits-leave_at : (place : ℕ) → Fits (leave_at place x)
  fits-leave_at place = by (try_at_place x.current.entry.flying place) refl
    where
      by : (one : Option SentTry) → try_at_place x.current.entry.flying place ≡ one
          → Fits (option_map_or (leaving_at place x) one x)
      by None is = fits-self
      by (Some one) is = λ d number tries.
          kept-left next x.traffic.shared.channels (left one.channel one.id (idle_until x.traffic) x.traffic.shared.channels)
          es x.current w not place one is
          (leaving one.channel one.id (idle_until x.traffic) x.traffic.shared.channels) d number tries

  fits-leaves : (place : ℕ) → Fits (leaves place x)
  fits-leaves place = after (leave_at place x) (fits-leave_at place) (closed_at place x)
    where
      after : (y : Scene) → Fits y → (shut : Option ℕ) → Fits (freed_if shut y)
      after y k None = k
      after y k (Some channel) = by (is_empty y.traffic.table.blocked)
        where
          by : (empty : Bool) → Fits (record {
            traffic = cond empty y.traffic (record y.traffic { freed = min (y.traffic.freed + 1) (2 ^ 64 - 1) });
            current = y.current;
          })
          by true = k
          by false = k

  fits-quits : Fits (quits x)
  fits-quits = by (place_on x)
    where
      after : (y : Scene) → Fits y → (shut : Option ℕ) → Fits (after_quit shut y)
      after y k None = k
      after y k (Some channel) = k

      by : (place : Option ℕ) → Fits (option_map_or (quits_at x) place (with_to_do todo.PutBack x))
      by None = fits-self
      by (Some place) = after (leave_at place x) (fits-leave_at place) (closed_at place x)

  -- ---- what is sent

  abbrev FitsParts : Parts → Type 0
  FitsParts q =
      (d : CurrentState) → d.number ≡ x.current.number → d.entry.flying.tries ≡ q.flying.tries
      → AreKept next q.shared.channels es (Some d)

  module _ (l : GroupListState) where
    abbrev p : Parts
    p = parts_of x.traffic.shared x.current.entry.flying l

    abbrev step : Step
    step = step_of x.current.number (moment_of x.traffic)

    abbrev drawn_id : ℕ
    drawn_id = (try_drawn x.traffic.shared.draws).id

    fits-open : (kind : ChannelKind) (place channel : ℕ) → stream_in kind place p ≡ Some channel
        → FitsParts (sent_on_open step channel p)
    fits-open kind place channel e d number tries =
        kept-made next x.traffic.shared.channels (channels.joined channel drawn_id x.current.number x.traffic.shared.channels)
        es x.current w not less channel drawn_id
        (making-open channel drawn_id x.current.number x.traffic.shared.channels
        (open-is kind place drawn_id p.servers x.traffic.shared.channels channel e) numbers) d number tries

    fits-new : (kind : ChannelKind) (place channel : ℕ) → number_given x.traffic.shared.channels ≡ Some channel
        → FitsParts (sent_on_new step kind place channel p)
    fits-new kind place channel e d number tries =
        kept-made next x.traffic.shared.channels
        (channels.opened_for (number_of place p.servers) kind drawn_id x.current.number x.traffic.shared.channels)
        es x.current w not less channel drawn_id
        (making-new (number_of place p.servers) kind channel drawn_id x.current.number x.traffic.shared.channels e w.old)
        d number tries

    fits-number : (kind : ChannelKind) (place : ℕ) (found : Option ℕ) → number_given x.traffic.shared.channels ≡ found
        → FitsParts (sent_on step kind place p found)
    fits-number kind place None e = fits-self
    fits-number kind place (Some channel) e = fits-new kind place channel e

    fits-stream : (kind : ChannelKind) (place : ℕ) (found : Option ℕ) → stream_in kind place p ≡ found
        → FitsParts (sent_to step kind place p found)
    fits-stream kind place None e = fits-number kind place (number_given x.traffic.shared.channels) refl
    fits-stream kind place (Some channel) e = fits-open kind place channel e

    fits-sent : FitsParts (sent step p)
    fits-sent = by (wanted x.current.entry.flying.flight.transaction)
      where
        by : (o : Option Wanted) → FitsParts (option_map_or (sent_as step p) o p)
        by None = fits-self
        by (Some o) = fits-stream (kind_of o.way.transport) o.place (stream_in (kind_of o.way.transport) o.place p) refl

  fits-sends : Fits (sends x)
  fits-sends = by (list_in x.current.entry.asked.0 x.traffic.groups.lists)
    where
      by : (l : Option GroupListState) → Fits (with_acted x (option_map_or
          (acted_with Send x.current.number (moment_of x.traffic) [] x.current.entry.asked.0 (before_act x)) l (before_act x)))
      by None = fits-self
      by (Some l) = fits-sent l

  module _ (y : Scene) (number : y.current.number ≡ x.current.number) where
    abbrev Done : Type 0
    Done = AreKept next y.traffic.shared.channels es (Some y.current)

    done-by : (z : Scene) → y ≡ z → Fits z → Done
    done-by z same k =
        subst (λ (u : ChannelsState). AreKept next u es (Some y.current))
        (sym (ap (λ (v : Scene). v.traffic.shared.channels) same))
        (k y.current number (ap (λ (v : Scene). v.current.entry.flying.tries) same))

    done-ordinary : (what : Doing) → IsOrdinary what → IsDone what x y → Done
    done-ordinary what o is =
        let k = kept-done what x y is o in
        kept-self next x.traffic.shared.channels y.traffic.shared.channels es x.current y.current k.channels number k.tries w

    kept-doing : (what : Doing) → IsDone what x y → Done
    kept-doing Quits is = done-by (quits x) is fits-quits
    kept-doing (Leaves place) is = done-by (leaves place x) is (fits-leaves place)
    kept-doing Sends is = done-by (sends x) is fits-sends
    kept-doing (Dates due) is = done-by (dates due x) is fits-self
    kept-doing Hears is = done-ordinary Hears tt is
    kept-doing Doubts is = done-ordinary Doubts tt is
    kept-doing Stalls is = done-ordinary Stalls tt is
    kept-doing Fails is = done-ordinary Fails tt is
    kept-doing PutsBack is = done-ordinary PutsBack tt is
    kept-doing Expires is = done-ordinary Expires tt is
    kept-doing Frees is = done-ordinary Frees tt is
    kept-doing Refused is = done-ordinary Refused tt is
    kept-doing Ends is = done-ordinary Ends tt is
    kept-doing Draws is = done-ordinary Draws tt is
    kept-doing (BeginsRound place) is = done-ordinary (BeginsRound place) tt is
    kept-doing GivesUp is = done-ordinary GivesUp tt is
    kept-doing Blocks is = done-ordinary Blocks tt is
    kept-doing Rests is = done-ordinary Rests tt is

-- ---- what a task does

closing-self : (s : ChannelsState) → Closing s s
closing-self s = record { tries = refl; next = refl; still = λ k h. h }

closing-by : (s t u : ChannelsState) → t ≡ u → Closing s u → Closing s t
closing-by s t u same k = subst (λ (x : ChannelsState). Closing s x) (sym same) k

pub channels-one_freed : (u : TrafficState) → (one_freed u).shared.channels ≡ u.shared.channels
channels-one_freed u = by (is_empty u.table.blocked)
  where
    by : (empty : Bool)
        → (cond {A = TrafficState} empty u (record u { freed = min (u.freed + 1) (2 ^ 64 - 1) })).shared.channels
        ≡ u.shared.channels
    by true = refl
    by false = refl

pub channels-freed_first : (u : TrafficState) → (freed_by_first u).shared.channels ≡ u.shared.channels
channels-freed_first u = by (first_failure u.inbox)
  where
    why : (f : Failure) → (freed_by f u).shared.channels ≡ u.shared.channels
    why failure.Local = refl
    why failure.Refused = channels-one_freed u
    why failure.Unreachable = channels-one_freed u
    why failure.Closed = channels-one_freed u

    by : (f : Option ChannelFailure) → (option_map_or (λ g. freed_by g.why u) f u).shared.channels ≡ u.shared.channels
    by None = refl
    by (Some f) = why f.why

closing-task : (t : TrafficState) (what : Task) → Closing t.shared.channels (after_task what t).shared.channels
closing-task t task.Opens = closing-self t.shared.channels
closing-task t task.Writes = closing-self t.shared.channels
closing-task t task.Doubts = by (first_message t.inbox)
  where
    by : (m : Option MessageValue) → Closing t.shared.channels (option_map_or (doubts_message t) m t).shared.channels
    by None = closing-self t.shared.channels
    by (Some m) = closing-self t.shared.channels
closing-task t task.PassesBy = closing-self t.shared.channels
closing-task t (task.Cuts channel) = closing-self t.shared.channels
closing-task t (task.ClosesFailed channel) =
    closing-by t.shared.channels (after_task (task.ClosesFailed channel) t).shared.channels
    (channels.closed channel t.shared.channels) (channels-freed_first (tasks.closed channel t))
    (closing channel t.shared.channels)
closing-task t task.DropsFailure = closing-self t.shared.channels
closing-task t (task.TakesReady n) = closing-self t.shared.channels
closing-task t (task.TakesUp n to_do) = closing-self t.shared.channels
closing-task t (task.Undates due n) = closing-self t.shared.channels
closing-task t (task.Strays n) = closing-self t.shared.channels
closing-task t (task.Unblocks n) = closing-self t.shared.channels
closing-task t (task.ClosesIdle channel) =
    closing-by t.shared.channels (after_task (task.ClosesIdle channel) t).shared.channels
    (channels.closed channel t.shared.channels) (channels-one_freed (tasks.closed channel t))
    (closing channel t.shared.channels)
closing-task t task.Admits = by (to_admit t.askers)
  where
    by : (first : Option (ℕ × WaitingValue)) → Closing t.shared.channels
        (option_map_or (λ f. without_taken f.0 (record t { askers = ask.admitted t.askers })) first t).shared.channels
    by None = closing-self t.shared.channels
    by (Some f) = closing-self t.shared.channels

kept-taken : (next : ℕ) (s : ChannelsState) (t u : TableState) (c : Option CurrentState) → AreKept next s t.entries None
    → Takes t u c → AreKept next s u.entries c
kept-taken next s t u c w takes = record {
  table = entries takes;
  worked = taken takes;
  apart = w.apart;
  old = w.old;
  given = w.given;
}
  where
    entries : Takes t u c → AllOf (Keeps s) u.entries
    entries (none_taken table none) = subst (AllOf (Keeps s)) (sym table) w.table
    entries (one_gone n not table none) =
        subst (AllOf (Keeps s)) (sym table) (all-removed (Keeps s) (is_at (nat_cmp n)) t.entries w.table)
    entries (one_taken n to_do e found table now) =
        subst (AllOf (Keeps s)) (sym table) (all-removed (Keeps s) (is_at (nat_cmp n)) t.entries w.table)

    taken : Takes t u c → WorkedOf (Keeps s) c
    taken (none_taken table none) = subst (WorkedOf (Keeps s)) (sym none) tt
    taken (one_gone n not table none) = subst (WorkedOf (Keeps s)) (sym none) tt
    taken (one_taken n to_do e found table now) =
        subst (WorkedOf (Keeps s)) (sym now) (all-found (Keeps s) n e t.entries w.table found)

-- ---- steps and events

abbrev OfPool : PoolState → Type 0
OfPool s = AreKept (next_of s) s.traffic.shared.channels s.traffic.table.entries s.current

kept-of : (s : PoolState) (next : ℕ) (ch : ChannelsState) (es : List (ℕ × EntryState)) (c : Option CurrentState)
    → next ≤ next_of s → s.traffic.shared.channels ≡ ch → s.traffic.table.entries ≡ es → s.current ≡ c
    → AreKept next ch es c → OfPool s
kept-of s next ch es c more same table current w =
    subst (λ (x : ChannelsState). AreKept (next_of s) x s.traffic.table.entries s.current) (sym same)
    (subst (λ (x : List (ℕ × EntryState)). AreKept (next_of s) ch x s.current) (sym table)
    (subst (λ (x : Option CurrentState). AreKept (next_of s) ch es x) (sym current) (record {
      table = w.table;
      worked = w.worked;
      apart = w.apart;
      old = w.old;
      given = λ a b n h. let less = w.given a b n h in omega (arith, less, more);
    })))

module _ (s t : PoolState) (apart : AreApart s) (w : OfPool s) (same : next_of t ≡ next_of s)
    (old : (c : CurrentState) → s.current ≡ Some c → c.number < next_of s)
    (numbers : AllByRecursion (λ p. p.0 < s.traffic.shared.channels.next) s.traffic.shared.channels.channels) where
  stays : next_of s ≤ next_of t
  stays = omega (arith, same)

  with-own : (c : Option CurrentState) → s.current ≡ c
      → AreKept (next_of s) s.traffic.shared.channels s.traffic.table.entries c
  with-own c works =
      subst (λ (x : Option CurrentState). AreKept (next_of s) s.traffic.shared.channels s.traffic.table.entries x) works w

  not-in : (c : CurrentState) → s.current ≡ Some c → entry_at c.number s.traffic.table ≡ None
  not-in c works =
      subst (λ (x : Option CurrentState). IfSome x (λ y. entry_at y.number s.traffic.table ≡ None)) works apart.worked

  put-channels : (what : Doing) (c : CurrentState) → (put_by what c s).traffic.shared.channels ≡ s.traffic.shared.channels
  put-channels Hears c = refl
  put-channels Doubts c = refl
  put-channels Stalls c = refl
  put-channels Fails c = refl
  put-channels PutsBack c = refl
  put-channels Expires c = refl
  put-channels Frees c = refl
  put-channels Refused c = refl
  put-channels Ends c = refl
  put-channels Draws c = refl
  put-channels (BeginsRound place) c = refl
  put-channels GivesUp c = refl
  put-channels Blocks c = refl
  put-channels Rests c = refl
  put-channels Quits c = refl
  put-channels (Leaves place) c = refl
  put-channels Sends c = refl
  put-channels (Dates due) c = refl

  kept-step : IsStep s t → OfPool t
  kept-step (goes_out o out current traffic is) =
      kept-of t (next_of s) s.traffic.shared.channels s.traffic.table.entries s.current stays
      (ap (λ (u : TrafficState). u.shared.channels) traffic) (ap (λ (u : TrafficState). u.table.entries) traffic) current w
  kept-step (begins calm none is) =
      let what : Task = task_of s.traffic in
      let after : Option CurrentState = current_after (did what s.traffic) None in
      let taken = kept-taken (next_of s) s.traffic.shared.channels s.traffic.table (after_task what s.traffic).table after
      (with-own None none) (takes-task s.traffic what) in
      kept-of t (next_of s) (after_task what s.traffic).shared.channels (after_task what s.traffic).table.entries after stays
      (ap (λ (u : PoolState). u.traffic.shared.channels) is) (ap (λ (u : PoolState). u.traffic.table.entries) is)
      (ap (λ (u : PoolState). u.current) is ∙ ap (λ (x : Option CurrentState). current_after (did what s.traffic) x) none)
      (kept-as (next_of s) s.traffic.shared.channels (after_task what s.traffic).shared.channels
      (after_task what s.traffic).table.entries after (closing-task s.traffic what) taken)
  kept-step (does c after calm works at is) =
      let y : Scene = record { traffic = t.traffic; current = after } in
      let one = same-done (doing c s.traffic) (scene_of s c) y is in
      kept-of t (next_of s) t.traffic.shared.channels s.traffic.table.entries (Some after) stays refl one.entries at
      (kept-doing (scene_of s c) (next_of s) s.traffic.table.entries (with-own (Some c) works) (not-in c works)
      (old c works) numbers y one.number (doing c s.traffic) is)
  kept-step (puts c calm works p is) =
      let put = put-is (doing c s.traffic) c s in
      let before = with-own (Some c) works in
      kept-of t (next_of s) s.traffic.shared.channels (insert_entry nat_cmp s.traffic.table.entries c.number c.entry) None
      stays (ap (λ (u : PoolState). u.traffic.shared.channels) is ∙ put-channels (doing c s.traffic) c)
      (ap (λ (u : PoolState). u.traffic.table.entries) is ∙ put.entries) (ap (λ (u : PoolState). u.current) is ∙ put.none)
      (record {
        table = all-inserted (Keeps s.traffic.shared.channels) c.number c.entry s.traffic.table.entries before.table before.worked;
        worked = tt;
        apart = before.apart;
        old = before.old;
        given = before.given;
      })
  kept-step (ends c calm works e is) =
      kept-of t (next_of s) s.traffic.shared.channels s.traffic.table.entries None stays
      (ap (λ (u : PoolState). u.traffic.shared.channels) is) (ap (λ (u : PoolState). u.traffic.table.entries) is)
      (ap (λ (u : PoolState). u.current) is)
      (record { table = w.table; worked = tt; apart = w.apart; old = w.old; given = w.given })

module _ (s t : PoolState) (w : OfPool s) (current : t.current ≡ s.current) (grows : next_of s ≤ next_of t)
    (same : t.traffic.shared.channels ≡ s.traffic.shared.channels) where
  keeps-all : t.traffic.table ≡ s.traffic.table → OfPool t
  keeps-all table =
      kept-of t (next_of s) s.traffic.shared.channels s.traffic.table.entries s.current grows same
      (ap (λ (x : TableState). x.entries) table) current w

  kept-event : IsEvent s t → OfPool t
  kept-event (keeps table groups) = keeps-all table
  kept-event (regroups group servers sources table groups) = keeps-all table
  kept-event (enters list question settings l is table groups) =
      kept-of t (next_of s) s.traffic.shared.channels
      (insert_entry nat_cmp s.traffic.table.entries (next_of s) (entry_of list question settings l)) s.current grows same
      (ap (λ (x : TableState). x.entries) table) current
      (record {
        table = all-inserted (Keeps s.traffic.shared.channels) (next_of s) (entry_of list question settings l)
            s.traffic.table.entries w.table fresh;
        worked = w.worked;
        apart = w.apart;
        old = w.old;
        given = w.given;
      })
    where
      fresh : InMind s.traffic.shared.channels (next_of s) []
      fresh = record {
        on_channel = λ a b h. absurd (true≢false (sym h));
        kept = λ a b o h. let less = w.given a b (next_of s) h in absurd (omega (arith, less));
        once = tt;
      }

pub kept-runs : (options : OptionsValue) (limits : PoolLimits) (seed : List ℕ) (past : List Happening) (s : PoolState)
    → Runs (no_servers options limits seed) past s → OfPool s
kept-runs options limits seed past s runs = by past s runs
  where
    old-one : (p : List Happening) (u : PoolState) → Runs (no_servers options limits seed) p u → (c : CurrentState)
        → u.current ≡ Some c → c.number < next_of u
    old-one p u more c works =
        subst (λ (x : Option CurrentState). IfSome x (λ y. y.number < next_of u)) works
        (known-runs options limits seed p u more).numbers.worked

    by : (p : List Happening) (u : PoolState) → Runs (no_servers options limits seed) p u → OfPool u
    by _ _ at_first = record {
      table = tt;
      worked = tt;
      apart = tt;
      old = λ a b n h. absurd cc;
      given = λ a b n h. absurd cc;
    }
    by _ _ (by_event p u e more) =
        kept-event u (after_event u e) (by p u more) (current-event u e) (grows-event u e) (shared-event u e).channels
        (event-is u e)
    by _ _ (by_step p u after r is more) =
        kept-step u after (apart-runs options limits seed p u more) (by p u more) (next-step u after r is)
        (old-one p u more)
        (stays_bounded options limits seed u (reached (no_servers options limits seed) p u more)).channels.numbers
        (step-is u after r is)

pub tries_agree : TriesAgree
tries_agree options limits seed past s runs n e has = by has
  where
    all : OfPool s
    all = kept-runs options limits seed past s runs

    told : InMind s.traffic.shared.channels n e.flying.tries → KeepsItsTries s n e
    told m = record { on_channel = m.on_channel; kept = m.kept }

    by : Has s n e → KeepsItsTries s n e
    by (in_table found) = told (all-found (Keeps s.traffic.shared.channels) n e s.traffic.table.entries all.table found)
    by (in_hand to_do works) =
        told (subst (λ (x : Option CurrentState). WorkedOf (Keeps s.traffic.shared.channels) x) works all.worked)
