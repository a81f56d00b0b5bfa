-- Of each channel the tries on it are counted, and a stream that is idle is open, without a try, under its own moment.
use Rattle.std.proofs.Common.{◌≡◌, ◌≤◌, ◌<◌, ◌+◌, ◌-◌, ◌^◌, min, suc, zero, ℕ, Bool, true, false, cond, not, ◌&&◌, eqb, eqb-true, eq-eqb, ne_eqb, ltb, ltb-true, ltb-false, lt-ltb, le-ltb, List, [], ◌∷◌, refl, ap, sym, subst, ◌∙◌, true≢false, inl, inr, ◌⊎◌, arith}
use Rattle.std.specs.Prelude.{Option, None, Some, slice_get}
use Rattle.std.specs.declared.cmp.Ordering.{Ordering}
use Rattle.std.specs.declared.cmp.Ordering.TheVariants.{Less, Equal, Greater}
use Rattle.std.specs.Ordering.{nat_cmp, is_eq, is_le, is_lt, match_ordering, ordering_then}
use Rattle.std.specs.List.{AllByRecursion}
use Rattle.std.specs.Map.{lookup, remove_entry, set_value}
use Rattle.std.specs.BTreeMap.{insert_entry, is_at}
use Rattle.std.specs.BTreeMap.Range.{range_contains}
use Rattle.std.specs.declared.ops.Bound.TheVariants.{Included}
use Rattle.std.specs.Option.{is_some, option_map, option_map_or, option_and_then}
use Rattle.hickory_resolver_channels.specs.Channels.{ChannelsState, channel_at, channel_in, transaction_at, has_try, pair_cmp, replaced, left, left_in, left_last, left_to_others, tries_without, has_others, closed, closed_one, if_empty, joined, joined_to, opened_for, has_place, new_channel, with_one_more, with_one_less, if_it_takes_try, takes_try, not_idle, tries_on, first_on, first_try}
use Rattle.hickory_resolver_channels.specs.declared.channel.Channel.{Channel}
use Rattle.hickory_resolver_channels.specs.declared.channel.ChannelKind.{ChannelKind}
use Rattle.hickory_resolver_channels.specs.declared.channel.ChannelKind.TheVariants.{Datagram, Stream}
use Rattle.hickory_resolver_pool_theorems.specs.Ticks.{one_if}
use Rattle.hickory_resolver_pool_theorems.proofs.Keys.{nat-self, pair-self, at-is, found-inserted, found-set, others-inserted, others-set, others-removed, gone-removed, Apart, apart-set, apart-inserted, apart-removed}
use Rattle.hickory_resolver_pool_theorems.proofs.KeySets.{pair-is, In, Once, in-old, in-before, not-in-removed, once-inserted, once-removed}
use Rattle.hickory_resolver_pool_theorems.proofs.KeyEntries.{ApartBy}

abbrev Tries : Type 0
Tries = List ((ℕ × ℕ) × ℕ)

-- ---- how many tries are on a channel

abbrev pub on_of : ℕ → Tries → ℕ
on_of k [] = 0
on_of k (e ∷ es) = one_if (eqb e.0.0 k) + on_of k es

abbrev ids_of : Tries → Type 0
ids_of es = AllByRecursion (λ e. e.0.1 < 65536) es

abbrev once_of : Tries → Type 0
once_of es = ApartBy pair_cmp pair-self pair-is es

one-le : (b : Bool) → one_if b ≤ 1
one-le true = omega arith
one-le false = omega arith

-- of those on it, how many have this number, and how many a lower one
abbrev same_of : ℕ → ℕ → Tries → ℕ
same_of k i [] = 0
same_of k i (e ∷ es) = one_if (eqb e.0.0 k && eqb e.0.1 i) + same_of k i es

abbrev below_of : ℕ → ℕ → Tries → ℕ
below_of k i [] = 0
below_of k i (e ∷ es) = one_if (eqb e.0.0 k && ltb e.0.1 i) + below_of k i es

at-pair : (k i a b : ℕ) → eqb a k ≡ true → eqb b i ≡ true → is_at (pair_cmp (k, i)) (a, b) ≡ true
at-pair k i a b one two =
    ap (λ (n : ℕ). is_at (pair_cmp (k, i)) (n, b)) (eqb-true a k one)
    ∙ ap (λ (n : ℕ). is_at (pair_cmp (k, i)) (k, n)) (eqb-true b i two) ∙ ap is_eq (pair-self (k, i))

same-none : (k i : ℕ) (es : Tries) → lookup (is_at (pair_cmp (k, i))) es ≡ None → same_of k i es ≡ 0
same-none k i [] h = refl
same-none k i (e ∷ es) h = by (is_at (pair_cmp (k, i)) e.0) refl h (same-none k i es)
  where
    apart : (a b : Bool) → eqb e.0.0 k ≡ a → eqb e.0.1 i ≡ b → is_at (pair_cmp (k, i)) e.0 ≡ false → one_if (a && b) ≡ 0
    apart true true one two not_at = absurd (true≢false (sym (at-pair k i e.0.0 e.0.1 one two) ∙ not_at))
    apart true false one two not_at = refl
    apart false b one two not_at = refl

    by : (b : Bool) → is_at (pair_cmp (k, i)) e.0 ≡ b
        → cond b (Some e.1) (lookup (is_at (pair_cmp (k, i))) es) ≡ None
        → (lookup (is_at (pair_cmp (k, i))) es ≡ None → same_of k i es ≡ 0)
        → one_if (eqb e.0.0 k && eqb e.0.1 i) + same_of k i es ≡ 0
    by true is g more = absurd cc
    by false is g more =
        let here = apart (eqb e.0.0 k) (eqb e.0.1 i) refl refl is in let rest = more g in omega (arith, here, rest)

same-one : (k i : ℕ) (es : Tries) → once_of es → same_of k i es ≤ 1
same-one k i [] once = omega arith
same-one k i (e ∷ es) once = by (eqb e.0.0 k) (eqb e.0.1 i) refl refl (same-one k i es once.1)
  where
    by : (a b : Bool) → eqb e.0.0 k ≡ a → eqb e.0.1 i ≡ b → same_of k i es ≤ 1 → one_if (a && b) + same_of k i es ≤ 1
    by true true one two more =
        let none : same_of k i es ≡ 0 =
        same-none k i es (ap (λ (n : ℕ). lookup (is_at (pair_cmp (n, i))) es) (sym (eqb-true e.0.0 k one))
        ∙ ap (λ (n : ℕ). lookup (is_at (pair_cmp (e.0.0, n))) es) (sym (eqb-true e.0.1 i two)) ∙ once.0) in
        omega (arith, none)
    by true false one two more = omega (arith, more)
    by false b one two more = omega (arith, more)

below-more : (k i : ℕ) (es : Tries) → below_of k (suc i) es ≤ below_of k i es + same_of k i es
below-more k i [] = omega arith
below-more k i (e ∷ es) = by (eqb e.0.0 k) (below-more k i es)
  where
    step : (a b c : Bool) → ltb e.0.1 (suc i) ≡ a → ltb e.0.1 i ≡ b → eqb e.0.1 i ≡ c → one_if a ≤ one_if b + one_if c
    step true true c one two three = omega arith
    step true false true one two three = omega arith
    step true false false one two three =
        absurd (by (ltb-true e.0.1 (suc i) one))
      where
        by : e.0.1 < suc i → ⊥
        by less = either (eq_or e.0.1 i less)
          where
            eq_or : (a n : ℕ) → a < suc n → (a ≡ n) ⊎ (a < n)
            eq_or zero zero h = inl refl
            eq_or zero (suc n) h = inr (omega arith)
            eq_or (suc a) zero h = absurd (omega (arith, h))
            eq_or (suc a) (suc n) h = again (eq_or a n (omega (arith, h)))
              where
                again : (a ≡ n) ⊎ (a < n) → (suc a ≡ suc n) ⊎ (suc a < suc n)
                again (inl x) = inl (omega (arith, x))
                again (inr x) = inr (omega (arith, x))

            either : (e.0.1 ≡ i) ⊎ (e.0.1 < i) → ⊥
            either (inl same) = true≢false (sym (eq-eqb e.0.1 i same) ∙ three)
            either (inr lower) = true≢false (sym (lt-ltb e.0.1 i lower) ∙ two)
    step false b c one two three = omega arith

    by : (a : Bool) → below_of k (suc i) es ≤ below_of k i es + same_of k i es
        → one_if (a && ltb e.0.1 (suc i)) + below_of k (suc i) es
        ≤ one_if (a && ltb e.0.1 i) + below_of k i es + (one_if (a && eqb e.0.1 i) + same_of k i es)
    by true more =
        let here = step (ltb e.0.1 (suc i)) (ltb e.0.1 i) (eqb e.0.1 i) refl refl refl in omega (arith, here, more)
    by false more = omega (arith, more)

below-le : (k n : ℕ) (es : Tries) → once_of es → below_of k n es ≤ n
below-le k zero es once = none es
  where
    none : (xs : Tries) → below_of k 0 xs ≤ 0
    none [] = omega arith
    none (x ∷ xs) = by (eqb x.0.0 k) (none xs)
      where
        by : (a : Bool) → below_of k 0 xs ≤ 0 → one_if (a && ltb x.0.1 0) + below_of k 0 xs ≤ 0
        by true more =
            let zero_is : one_if (ltb x.0.1 0) ≡ 0 = ap one_if (le-ltb x.0.1 0 (omega arith)) in omega (arith, more, zero_is)
        by false more = omega (arith, more)
below-le k (suc n) es once =
    let before = below-le k n es once in let more = below-more k n es in let one = same-one k n es once in
    omega (arith, before, more, one)

below-all : (k : ℕ) (es : Tries) → ids_of es → below_of k 65536 es ≡ on_of k es
below-all k [] all = refl
below-all k (e ∷ es) all = by (eqb e.0.0 k) (below-all k es all.1)
  where
    low : ltb e.0.1 65536 ≡ true
    low = lt-ltb e.0.1 65536 all.0

    by : (a : Bool) → below_of k 65536 es ≡ on_of k es
        → one_if (a && ltb e.0.1 65536) + below_of k 65536 es ≡ one_if a + on_of k es
    by true more = let here : one_if (ltb e.0.1 65536) ≡ 1 = ap one_if low in omega (arith, here, more)
    by false more = omega (arith, more)

-- no number stands there twice, so that there are no more than numbers
on-le : (k : ℕ) (es : Tries) → once_of es → ids_of es → on_of k es ≤ 65536
on-le k es once ids =
    let most = below-le k 65536 es once in let all = below-all k es ids in omega (arith, most, all)

-- ---- one is made, and one leaves

on-inserted : (k a i n : ℕ) (es : Tries) → lookup (is_at (pair_cmp (a, i))) es ≡ None
    → on_of k (insert_entry pair_cmp es (a, i) n) ≡ on_of k es + one_if (eqb a k)
on-inserted k a i n [] none = omega arith
on-inserted k a i n (e ∷ es) none = by (pair_cmp (a, i) e.0) refl none (on-inserted k a i n es)
  where
    by : (o : Ordering) → pair_cmp (a, i) e.0 ≡ o
        → cond (is_eq (pair_cmp (a, i) e.0)) (Some e.1) (lookup (is_at (pair_cmp (a, i))) es) ≡ None
        → (lookup (is_at (pair_cmp (a, i))) es ≡ None
        → on_of k (insert_entry pair_cmp es (a, i) n) ≡ on_of k es + one_if (eqb a k))
        → on_of k (match_ordering o (((a, i), n) ∷ e ∷ es) ((e.0, n) ∷ es) (e ∷ insert_entry pair_cmp es (a, i) n))
        ≡ one_if (eqb e.0.0 k) + on_of k es + one_if (eqb a k)
    by Less is h more = omega arith
    by Equal is h more =
        let no_such : None ≡ Some e.1 =
        sym h ∙ ap (λ (o : Ordering). cond (is_eq o) (Some e.1) (lookup (is_at (pair_cmp (a, i))) es)) is in absurd cc
    by Greater is h more =
        let rest = more (sym (ap (λ (o : Ordering). cond (is_eq o) (Some e.1) (lookup (is_at (pair_cmp (a, i))) es)) is) ∙ h) in
        omega (arith, rest)

on-removed : (k a i : ℕ) (es : Tries) → is_some (lookup (is_at (pair_cmp (a, i))) es) ≡ true
    → on_of k (remove_entry (is_at (pair_cmp (a, i))) es) + one_if (eqb a k) ≡ on_of k es
on-removed k a i [] some = absurd (true≢false (sym some))
on-removed k a i (e ∷ es) some = by (is_at (pair_cmp (a, i)) e.0) refl some (on-removed k a i es)
  where
    by : (b : Bool) → is_at (pair_cmp (a, i)) e.0 ≡ b
        → is_some (cond b (Some e.1) (lookup (is_at (pair_cmp (a, i))) es)) ≡ true
        → (is_some (lookup (is_at (pair_cmp (a, i))) es) ≡ true
        → on_of k (remove_entry (is_at (pair_cmp (a, i))) es) + one_if (eqb a k) ≡ on_of k es)
        → on_of k (cond b es (e ∷ remove_entry (is_at (pair_cmp (a, i))) es)) + one_if (eqb a k)
        ≡ one_if (eqb e.0.0 k) + on_of k es
    by true is h more =
        let same : one_if (eqb a k) ≡ one_if (eqb e.0.0 k) =
        ap (λ (p : ℕ × ℕ). one_if (eqb p.0 k)) (pair-is (a, i) e.0 is) in
        omega (arith, same)
    by false is h more = let rest = more h in omega (arith, rest)

on-found : (k i : ℕ) (es : Tries) → is_some (lookup (is_at (pair_cmp (k, i))) es) ≡ true → 1 ≤ on_of k es
on-found k i es some =
    let less = on-removed k k i es some in
    let one : one_if (eqb k k) ≡ 1 = ap one_if (eq-eqb k k refl) in
    omega (arith, less, one)

ids-inserted : (a i n : ℕ) (es : Tries) → i < 65536 → ids_of es → ids_of (insert_entry pair_cmp es (a, i) n)
ids-inserted a i n [] low all = (low, tt)
ids-inserted a i n (e ∷ es) low all = by (pair_cmp (a, i) e.0) (ids-inserted a i n es low all.1)
  where
    by : (o : Ordering) → ids_of (insert_entry pair_cmp es (a, i) n)
        → ids_of (match_ordering o (((a, i), n) ∷ e ∷ es) ((e.0, n) ∷ es) (e ∷ insert_entry pair_cmp es (a, i) n))
    by Less more = (low, all)
    by Equal more = (all.0, all.1)
    by Greater more = (all.0, more)

ids-removed : (test : ℕ × ℕ → Bool) (es : Tries) → ids_of es → ids_of (remove_entry test es)
ids-removed test [] all = tt
ids-removed test (e ∷ es) all = by (test e.0) (ids-removed test es all.1)
  where
    by : (b : Bool) → ids_of (remove_entry test es) → ids_of (cond b es (e ∷ remove_entry test es))
    by true more = all.1
    by false more = (all.0, more)

-- ---- what holds of the channels

abbrev pub tries_of : Option Channel → ℕ
tries_of None = 0
tries_of (Some c) = c.tries

abbrev pub IsIdle : ℕ → Option Channel → Type 0
IsIdle until None = ⊥
IsIdle until (Some c) = (c.tries ≡ 0) × (c.idle_until ≡ Some until)

abbrev pub InIdle : ℕ → ℕ → ChannelsState → Type 0
InIdle until k s = In pair_cmp pair-self pair-is (until, k) s.idle

pub record AreCounted (s : ChannelsState) : Type 0 where
  pub counts : (k : ℕ) → on_of k s.tries ≡ tries_of (channel_at k s)
  pub apart : Apart s.channels
  pub ids : ids_of s.tries
  pub idle : (until k : ℕ) → InIdle until k s → IsIdle until (channel_at k s)
  pub once : Once pair_cmp pair-self pair-is s.idle

idle-none : (until : ℕ) (c : Option Channel) → c ≡ None → IsIdle until c → ⊥
idle-none until c none h = subst (λ (o : Option Channel). IsIdle until o) none h

idle-is : (until : ℕ) (o : Option Channel) (c : Channel) → o ≡ Some c → IsIdle until o
    → (c.tries ≡ 0) × (c.idle_until ≡ Some until)
idle-is until o c is h = subst (λ (x : Option Channel). IsIdle until x) is h

-- a number is this one, or another
number-or : (P : Type 0) (q k : ℕ) → (q ≡ k → P) → (is_at (nat_cmp q) k ≡ false → P) → P
number-or P q k one two = by (is_at (nat_cmp q) k) refl
  where
    by : (b : Bool) → is_at (nat_cmp q) k ≡ b → P
    by true is = one (at-is q k is)
    by false is = two is

apart-eqb : (q k : ℕ) → is_at (nat_cmp q) k ≡ false → eqb k q ≡ false
apart-eqb q k other =
    ne_eqb k q (λ (same : k ≡ q). true≢false (sym (ap (λ (n : ℕ). is_at (nat_cmp q) n) same ∙ ap is_eq (nat-self q)) ∙ other))

module _ (s : ChannelsState) (w : AreCounted s) (free : once_of s.tries) where
  few : (k : ℕ) → tries_of (channel_at k s) ≤ 65536
  few k = let most = on-le k s.tries free w.ids in let same = w.counts k in omega (arith, most, same)

  -- a channel is opened for a try
  pub counted-opened : (server : ℕ) (kind : ChannelKind) (id n : ℕ) → channel_at s.next s ≡ None
      → transaction_at s.next id s ≡ None → id < 65536 → AreCounted (opened_for server kind id n s)
  counted-opened server kind id n none new low = by (has_place s)
    where
      c : Channel
      c = with_one_more (new_channel server kind)

      t : ChannelsState
      t = record s {
        next = s.next + 1;
        channels = insert_entry nat_cmp s.channels s.next c;
        tries = insert_entry pair_cmp s.tries (s.next, id) n;
      }

      counts : (k : ℕ) → on_of k t.tries ≡ tries_of (channel_at k t)
      counts k = number-or (on_of k t.tries ≡ tries_of (channel_at k t)) k s.next own other
        where
          more : on_of k t.tries ≡ on_of k s.tries + one_if (eqb s.next k)
          more = on-inserted k s.next id n s.tries new

          own : k ≡ s.next → on_of k t.tries ≡ tries_of (channel_at k t)
          own same =
              let one : one_if (eqb s.next k) ≡ 1 = ap one_if (eq-eqb s.next k (sym same)) in
              let before : on_of k s.tries ≡ 0 =
              w.counts k ∙ ap (λ (m : ℕ). tries_of (channel_at m s)) same ∙ ap tries_of none in
              let now : tries_of (channel_at k t) ≡ 1 =
              ap (λ (m : ℕ). tries_of (channel_at m t)) same ∙ ap tries_of (found-inserted nat_cmp nat-self s.next c s.channels) in
              omega (arith, more, one, before, now)

          other : is_at (nat_cmp k) s.next ≡ false → on_of k t.tries ≡ tries_of (channel_at k t)
          other apart =
              let zero_is : one_if (eqb s.next k) ≡ 0 = ap one_if (apart-eqb k s.next apart) in
              let before = w.counts k in
              let now : tries_of (channel_at k t) ≡ tries_of (channel_at k s) =
              ap tries_of (others-inserted k s.next apart c s.channels) in
              omega (arith, more, zero_is, before, now)

      idle : (until k : ℕ) → InIdle until k t → IsIdle until (channel_at k t)
      idle until k h = number-or (IsIdle until (channel_at k t)) k s.next own other
        where
          was : IsIdle until (channel_at k s)
          was = w.idle until k h

          own : k ≡ s.next → IsIdle until (channel_at k t)
          own same =
              absurd (idle-none until (channel_at k s) (ap (λ (m : ℕ). channel_at m s) same ∙ none) was)

          other : is_at (nat_cmp k) s.next ≡ false → IsIdle until (channel_at k t)
          other apart = subst (λ (o : Option Channel). IsIdle until o) (sym (others-inserted k s.next apart c s.channels)) was

      by : (b : Bool) → AreCounted (cond b t s)
      by true = record {
        counts = counts;
        apart = apart-inserted s.next c s.channels none w.apart;
        ids = ids-inserted s.next id n s.tries low w.ids;
        idle = idle;
        once = w.once;
      }
      by false = w

  -- where another stands in the place of a channel
  module _ (number : ℕ) (c new : Channel) (at : channel_at number s ≡ Some c) where
    replaced-is : replaced number new s.channels ≡ set_value (is_at (nat_cmp number)) s.channels new
    replaced-is = ap (λ (o : Option Channel). option_map_or (λ old. set_value (is_at (nat_cmp number)) s.channels new) o s.channels) at

    own-replaced : channel_in number (replaced number new s.channels) ≡ Some new
    own-replaced =
        ap (channel_in number) replaced-is ∙ found-set (is_at (nat_cmp number)) s.channels c new at

    other-replaced : (k : ℕ) → is_at (nat_cmp k) number ≡ false
        → channel_in k (replaced number new s.channels) ≡ channel_at k s
    other-replaced k apart = ap (channel_in k) replaced-is ∙ others-set k number apart new s.channels

    apart-replaced : Apart (replaced number new s.channels)
    apart-replaced =
        subst (λ (cs : List (ℕ × Channel)). Apart cs) (sym replaced-is) (apart-set number new s.channels w.apart)

  -- of the one that is idle no more
  module _ (number : ℕ) (c : Channel) (at : channel_at number s ≡ Some c) where
    gone-idle : (until : ℕ) → In pair_cmp pair-self pair-is (until, number) (not_idle number c.idle_until s.idle) → ⊥
    gone-idle until h = by c.idle_until refl h
      where
        by : (o : Option ℕ) → c.idle_until ≡ o
            → In pair_cmp pair-self pair-is (until, number) (not_idle number o s.idle) → ⊥
        by None is g =
            let no_such : None ≡ Some until = sym is ∙ (idle-is until (channel_at number s) c at (w.idle until number g)).1 in absurd cc
        by (Some u) is g =
            let found = in-before pair_cmp pair-self pair-is (until, number) (is_at (pair_cmp (u, number))) s.idle g in
            let both : Some u ≡ Some until = sym is ∙ (idle-is until (channel_at number s) c at (w.idle until number found)).1 in
            let same : until ≡ u = cc in
            not-in-removed pair_cmp pair-self pair-is (u, number) s.idle w.once
            (subst (λ (m : ℕ). In pair_cmp pair-self pair-is (m, number) (not_idle number (Some u) s.idle)) same g)

    still-idle : (until k : ℕ) → In pair_cmp pair-self pair-is (until, k) (not_idle number c.idle_until s.idle) → InIdle until k s
    still-idle until k h = by c.idle_until h
      where
        by : (o : Option ℕ) → In pair_cmp pair-self pair-is (until, k) (not_idle number o s.idle) → InIdle until k s
        by None g = g
        by (Some u) g = in-before pair_cmp pair-self pair-is (until, k) (is_at (pair_cmp (u, number))) s.idle g

    once-idle : Once pair_cmp pair-self pair-is (not_idle number c.idle_until s.idle)
    once-idle = by c.idle_until
      where
        by : (o : Option ℕ) → Once pair_cmp pair-self pair-is (not_idle number o s.idle)
        by None = w.once
        by (Some u) = once-removed pair_cmp pair-self pair-is (is_at (pair_cmp (u, number))) s.idle w.once

    -- a try more is on it
    module _ (id n : ℕ) (new : transaction_at number id s ≡ None) (low : id < 65536) where
      abbrev more-of : Channel
      more-of = with_one_more c

      counted-more : AreCounted (joined_to number id n s c)
      counted-more = record {
        counts = λ k. number-or (on_of k (insert_entry pair_cmp s.tries (number, id) n)
            ≡ tries_of (channel_in k (replaced number more-of s.channels))) k number (own k) (other k);
        apart = apart-replaced number c more-of at;
        ids = ids-inserted number id n s.tries low w.ids;
        idle = λ until k h. number-or (IsIdle until (channel_in k (replaced number more-of s.channels))) k number
            (λ same. absurd (gone-idle until (subst (λ (m : ℕ). In pair_cmp pair-self pair-is (until, m) (not_idle number c.idle_until s.idle)) same h)))
            (λ apart. subst (λ (o : Option Channel). IsIdle until o) (sym (other-replaced number c more-of at k apart))
            (w.idle until k (still-idle until k h)));
        once = once-idle;
      }
        where
          own : (k : ℕ) → k ≡ number → on_of k (insert_entry pair_cmp s.tries (number, id) n)
              ≡ tries_of (channel_in k (replaced number more-of s.channels))
          own k same =
              let more = on-inserted k number id n s.tries new in
              let one : one_if (eqb number k) ≡ 1 = ap one_if (eq-eqb number k (sym same)) in
              let before : on_of k s.tries ≡ c.tries =
              w.counts k ∙ ap (λ (m : ℕ). tries_of (channel_at m s)) same ∙ ap tries_of at in
              let most : c.tries ≤ 65536 = let le = few number in let is = ap tries_of at in omega (arith, le, is) in
              let now : tries_of (channel_in k (replaced number more-of s.channels)) ≡ min (c.tries + 1) (2 ^ 64 - 1) =
              ap (λ (m : ℕ). tries_of (channel_in m (replaced number more-of s.channels))) same
              ∙ ap tries_of (own-replaced number c more-of at) in
              omega (arith, more, one, before, most, now)

          other : (k : ℕ) → is_at (nat_cmp k) number ≡ false → on_of k (insert_entry pair_cmp s.tries (number, id) n)
              ≡ tries_of (channel_in k (replaced number more-of s.channels))
          other k apart =
              let more = on-inserted k number id n s.tries new in
              let zero_is : one_if (eqb number k) ≡ 0 = ap one_if (apart-eqb k number apart) in
              let before = w.counts k in
              let now : tries_of (channel_in k (replaced number more-of s.channels)) ≡ tries_of (channel_at k s) =
              ap tries_of (other-replaced number c more-of at k apart) in
              omega (arith, more, zero_is, before, now)

    -- one leaves
    module _ (id : ℕ) (some : has_try number id s ≡ true) where
      counted-one : 1 ≤ c.tries
      counted-one =
          let one = on-found number id s.tries some in
          let same : on_of number s.tries ≡ c.tries = w.counts number ∙ ap tries_of at in
          omega (arith, one, same)

      busy : (until k : ℕ) → InIdle until k s → k ≡ number → ⊥
      busy until k h same =
          let is = idle-is until (channel_at k s) c (ap (λ (m : ℕ). channel_at m s) same ∙ at) (w.idle until k h) in
          let none = is.0 in let one = counted-one in omega (arith, none, one)

      less-own : (k : ℕ) → k ≡ number → on_of k (tries_without number id s) + 1 ≡ c.tries
      less-own k same =
          let less = on-removed k number id s.tries some in
          let one : one_if (eqb number k) ≡ 1 = ap one_if (eq-eqb number k (sym same)) in
          let before : on_of k s.tries ≡ c.tries =
          w.counts k ∙ ap (λ (m : ℕ). tries_of (channel_at m s)) same ∙ ap tries_of at in
          omega (arith, less, one, before)

      less-other : (k : ℕ) → is_at (nat_cmp k) number ≡ false → on_of k (tries_without number id s) ≡ tries_of (channel_at k s)
      less-other k apart =
          let less = on-removed k number id s.tries some in
          let zero_is : one_if (eqb number k) ≡ 0 = ap one_if (apart-eqb k number apart) in
          let before = w.counts k in
          omega (arith, less, zero_is, before)

      counted-others : AreCounted (left_to_others number id c s)
      counted-others = record {
        counts = λ k. number-or (on_of k (tries_without number id s) ≡ tries_of (channel_in k (replaced number less-of s.channels))) k number
            (own k) (other k);
        apart = apart-replaced number c less-of at;
        ids = ids-removed (is_at (pair_cmp (number, id))) s.tries w.ids;
        idle = λ until k h. number-or (IsIdle until (channel_in k (replaced number less-of s.channels))) k number
            (λ same. absurd (busy until k h same))
            (λ apart. subst (λ (o : Option Channel). IsIdle until o) (sym (other-replaced number c less-of at k apart)) (w.idle until k h));
        once = w.once;
      }
        where
          less-of : Channel
          less-of = with_one_less None c

          own : (k : ℕ) → k ≡ number
              → on_of k (tries_without number id s) ≡ tries_of (channel_in k (replaced number less-of s.channels))
          own k same =
              let less = less-own k same in
              let now : tries_of (channel_in k (replaced number less-of s.channels)) ≡ c.tries - 1 =
              ap (λ (m : ℕ). tries_of (channel_in m (replaced number less-of s.channels))) same
              ∙ ap tries_of (own-replaced number c less-of at) in
              omega (arith, less, now)

          other : (k : ℕ) → is_at (nat_cmp k) number ≡ false
              → on_of k (tries_without number id s) ≡ tries_of (channel_in k (replaced number less-of s.channels))
          other k apart = less-other k apart ∙ sym (ap tries_of (other-replaced number c less-of at k apart))

      module _ (last : has_others c ≡ false) where
        one-left : c.tries ≡ 1
        one-left = let some_is = counted-one in let most = ltb-le last in omega (arith, some_is, most)
          where
            ltb-le : ltb 1 c.tries ≡ false → c.tries ≤ 1
            ltb-le h = ltb-false 1 c.tries h

        counted-shut : AreCounted (left_last number id 0 c Datagram s)
        counted-shut = record {
          counts = λ k. number-or (on_of k (tries_without number id s) ≡ tries_of (channel_in k (remove_entry (is_at (nat_cmp number)) s.channels))) k number
              (own k) (other k);
          apart = apart-removed number s.channels w.apart;
          ids = ids-removed (is_at (pair_cmp (number, id))) s.tries w.ids;
          idle = λ until k h. number-or (IsIdle until (channel_in k (remove_entry (is_at (nat_cmp number)) s.channels))) k number
              (λ same. absurd (busy until k h same))
              (λ apart. subst (λ (o : Option Channel). IsIdle until o) (sym (others-removed k number apart s.channels)) (w.idle until k h));
          once = w.once;
        }
          where
            own : (k : ℕ) → k ≡ number
                → on_of k (tries_without number id s) ≡ tries_of (channel_in k (remove_entry (is_at (nat_cmp number)) s.channels))
            own k same =
                let less = less-own k same in let one = one-left in
                let now : tries_of (channel_in k (remove_entry (is_at (nat_cmp number)) s.channels)) ≡ 0 =
                ap (λ (m : ℕ). tries_of (channel_in m (remove_entry (is_at (nat_cmp number)) s.channels))) same
                ∙ ap tries_of (gone-removed number s.channels w.apart) in
                omega (arith, less, one, now)

            other : (k : ℕ) → is_at (nat_cmp k) number ≡ false
                → on_of k (tries_without number id s) ≡ tries_of (channel_in k (remove_entry (is_at (nat_cmp number)) s.channels))
            other k apart = less-other k apart ∙ sym (ap tries_of (others-removed k number apart s.channels))

        counted-kept : (until : ℕ) → AreCounted (left_last number id until c Stream s)
        counted-kept until = record {
          counts = λ k. number-or (on_of k (tries_without number id s) ≡ tries_of (channel_in k (replaced number less-of s.channels))) k number
              (own k) (other k);
          apart = apart-replaced number c less-of at;
          ids = ids-removed (is_at (pair_cmp (number, id))) s.tries w.ids;
          idle = λ u k h. here u k (in-old pair_cmp pair-self pair-is (u, k) (until, number) s.idle h);
          once = once-inserted pair_cmp pair-self pair-is (until, number) s.idle w.once (λ h. busy until number h refl);
        }
          where
            less-of : Channel
            less-of = with_one_less (Some until) c

            own : (k : ℕ) → k ≡ number
                → on_of k (tries_without number id s) ≡ tries_of (channel_in k (replaced number less-of s.channels))
            own k same =
                let less = less-own k same in
                let now : tries_of (channel_in k (replaced number less-of s.channels)) ≡ c.tries - 1 =
                ap (λ (m : ℕ). tries_of (channel_in m (replaced number less-of s.channels))) same
                ∙ ap tries_of (own-replaced number c less-of at) in
                omega (arith, less, now)

            other : (k : ℕ) → is_at (nat_cmp k) number ≡ false
                → on_of k (tries_without number id s) ≡ tries_of (channel_in k (replaced number less-of s.channels))
            other k apart = less-other k apart ∙ sym (ap tries_of (other-replaced number c less-of at k apart))

            idle-own : (u k : ℕ) → u ≡ until → k ≡ number → IsIdle u (channel_in k (replaced number less-of s.channels))
            idle-own u k moment same =
                subst (λ (o : Option Channel). IsIdle u o)
                (sym (ap (λ (m : ℕ). channel_in m (replaced number less-of s.channels)) same ∙ own-replaced number c less-of at))
                (let one = one-left in omega (arith, one), ap (λ (m : ℕ). Some m) (sym moment))

            here : (u k : ℕ) → ◌≡◌ {A = ℕ × ℕ} (u, k) (until, number) ⊎ InIdle u k s
                → IsIdle u (channel_in k (replaced number less-of s.channels))
            here u k (inl same) = idle-own u k (ap (λ (p : ℕ × ℕ). p.0) same) (ap (λ (p : ℕ × ℕ). p.1) same)
            here u k (inr was) =
                number-or (IsIdle u (channel_in k (replaced number less-of s.channels))) k number
                (λ same. absurd (busy u k was same))
                (λ apart. subst (λ (o : Option Channel). IsIdle u o) (sym (other-replaced number c less-of at k apart)) (w.idle u k was))

    -- it is closed
    module _ (none : c.tries ≡ 0) where
      counted-gone : AreCounted (closed_one number s c)
      counted-gone = record {
        counts = λ k. number-or (on_of k s.tries ≡ tries_of (channel_in k (remove_entry (is_at (nat_cmp number)) s.channels))) k number
            (λ same. w.counts k ∙ ap (λ (m : ℕ). tries_of (channel_at m s)) same ∙ ap tries_of at ∙ none
            ∙ sym (ap (λ (m : ℕ). tries_of (channel_in m (remove_entry (is_at (nat_cmp number)) s.channels))) same
            ∙ ap tries_of (gone-removed number s.channels w.apart)))
            (λ apart. w.counts k ∙ sym (ap tries_of (others-removed k number apart s.channels)));
        apart = apart-removed number s.channels w.apart;
        ids = w.ids;
        idle = λ until k h. number-or (IsIdle until (channel_in k (remove_entry (is_at (nat_cmp number)) s.channels))) k number
            (λ same. absurd (gone-idle until (subst (λ (m : ℕ). In pair_cmp pair-self pair-is (until, m) (not_idle number c.idle_until s.idle)) same h)))
            (λ apart. subst (λ (o : Option Channel). IsIdle until o) (sym (others-removed k number apart s.channels))
            (w.idle until k (still-idle until k h)));
        once = once-idle;
      }

  -- ---- all of these

  pub counted-joined : (number id n : ℕ) → id < 65536 → AreCounted (joined number id n s)
  counted-joined number id n low = by (has_try number id s) refl
    where
      none : (o : Option ℕ) → is_some o ≡ false → o ≡ None
      none None e = refl
      none (Some x) e = absurd (true≢false e)

      takes : transaction_at number id s ≡ None → (c : Channel) → channel_at number s ≡ Some c → (b : Bool)
          → AreCounted (option_map_or (joined_to number id n s) (cond b (Some c) None) s)
      takes new c at true = counted-more number c at id n new low
      takes new c at false = w

      on : transaction_at number id s ≡ None → (o : Option Channel) → channel_at number s ≡ o
          → AreCounted (option_map_or (joined_to number id n s) (option_and_then (if_it_takes_try s.limits) o) s)
      on new None at = w
      on new (Some c) at = takes new c at (takes_try s.limits c)

      by : (b : Bool) → has_try number id s ≡ b → AreCounted (option_map_or (joined_to number id n s)
          (cond b None (option_and_then (if_it_takes_try s.limits) (channel_at number s))) s)
      by true is = w
      by false is = on (none (transaction_at number id s) is) (channel_at number s) refl

  pub counted-left : (number id until : ℕ) → AreCounted (left number id until s)
  counted-left number id until = by (has_try number id s) refl
    where
      last : has_try number id s ≡ true → (c : Channel) → channel_at number s ≡ Some c → has_others c ≡ false
          → (kind : ChannelKind) → AreCounted (left_last number id until c kind s)
      last some c at few_are Datagram =
          let k = counted-shut number c at id some few_are in
          record { counts = k.counts; apart = k.apart; ids = k.ids; idle = k.idle; once = k.once }
      last some c at few_are Stream = counted-kept number c at id some few_are until

      others : has_try number id s ≡ true → (c : Channel) → channel_at number s ≡ Some c → (b : Bool) → has_others c ≡ b
          → AreCounted (cond b (left_to_others number id c s) (left_last number id until c c.kind s))
      others some c at true is = counted-others number c at id some
      others some c at false is = last some c at is c.kind

      on : has_try number id s ≡ true → (o : Option Channel) → channel_at number s ≡ o
          → AreCounted (option_map_or (left_in number id until s) o s)
      on some None at = w
      on some (Some c) at = others some c at (has_others c) refl

      by : (b : Bool) → has_try number id s ≡ b
          → AreCounted (option_map_or (left_in number id until s) (cond b (channel_at number s) None) s)
      by true is = on is (channel_at number s) refl
      by false is = w

  pub counted-closed : (number : ℕ) → AreCounted (closed number s)
  counted-closed number = by (channel_at number s) refl
    where
      empty : (c : Channel) → channel_at number s ≡ Some c → (b : Bool) → eqb c.tries 0 ≡ b
          → AreCounted (option_map_or (closed_one number s) (cond b (Some c) None) s)
      empty c at true is = counted-gone number c at (eqb-true c.tries 0 is)
      empty c at false is = w

      by : (o : Option Channel) → channel_at number s ≡ o
          → AreCounted (option_map_or (closed_one number s) (option_and_then if_empty o) s)
      by None at = w
      by (Some c) at = empty c at (eqb c.tries 0) refl

-- ---- the first try on a channel

abbrev id_and : (ℕ × ℕ) × ℕ → ℕ × ℕ
id_and e = (e.0.1, e.1)

abbrev in_range : ℕ → ℕ × ℕ → Bool
in_range number q = range_contains pair_cmp (Included (number, 0)) (Included (number, 65535)) q

range-own : (number : ℕ) (q : ℕ × ℕ) → in_range number q ≡ true → number ≡ q.0
range-own number q h = by (nat_cmp number q.0) refl h
  where
    by : (o : Ordering) → nat_cmp number q.0 ≡ o
        → (is_le (ordering_then o (nat_cmp 0 q.1)) && not (is_lt (ordering_then o (nat_cmp 65535 q.1)))) ≡ true → number ≡ q.0
    by Less is g = absurd (true≢false (sym g))
    by Equal is g = at-is number q.0 (ap is_eq is)
    by Greater is g = absurd (true≢false (sym g))

range-has : (number i : ℕ) → i < 65536 → in_range number (number, i) ≡ true
range-has number i low =
    ap (λ (o : Ordering). is_le (ordering_then o (nat_cmp 0 i)) && not (is_lt (ordering_then o (nat_cmp 65535 i)))) (nat-self number)
    ∙ by (ltb 0 i) (eqb 0 i) (ltb 65535 i) refl refl refl
  where
    by : (a b c : Bool) → ltb 0 i ≡ a → eqb 0 i ≡ b → ltb 65535 i ≡ c
        → (is_le (cond a Less (cond b Equal Greater)) && not (is_lt (cond c Less (cond (eqb 65535 i) Equal Greater)))) ≡ true
    by a b true one two three = let less = ltb-true 65535 i three in absurd (omega (arith, less, low))
    by true b false one two three = high (eqb 65535 i)
      where
        high : (d : Bool) → (true && not (is_lt (cond false Less (cond d Equal Greater)))) ≡ true
        high true = refl
        high false = refl
    by false true false one two three = high (eqb 65535 i)
      where
        high : (d : Bool) → (true && not (is_lt (cond false Less (cond d Equal Greater)))) ≡ true
        high true = refl
        high false = refl
    by false false false one two three =
        let most = ltb-false 0 i one in
        absurd (true≢false (sym (eq-eqb 0 i (omega (arith, most))) ∙ two))

none-on : (number : ℕ) (es : Tries) → ids_of es → first_on number es ≡ None → on_of number es ≡ 0
none-on number [] ids h = refl
none-on number (e ∷ es) ids h = by (in_range number e.0) refl h (none-on number es ids.1)
  where
    other : (b : Bool) → eqb e.0.0 number ≡ b → in_range number e.0 ≡ false → one_if b ≡ 0
    other true is out =
        let here : in_range number e.0 ≡ true =
        ap (λ (n : ℕ). in_range number (n, e.0.1)) (eqb-true e.0.0 number is) ∙ range-has number e.0.1 ids.0 in
        absurd (true≢false (sym here ∙ out))
    other false is out = refl

    by : (b : Bool) → in_range number e.0 ≡ b
        → option_map id_and (slice_get (cond b (e ∷ tries_on number es) (tries_on number es)) 0) ≡ None
        → (first_on number es ≡ None → on_of number es ≡ 0) → one_if (eqb e.0.0 number) + on_of number es ≡ 0
    by true is g more = absurd cc
    by false is g more =
        let here = other (eqb e.0.0 number) refl is in let rest = more g in omega (arith, here, rest)

first-there : (number id n : ℕ) (es : Tries) → once_of es → first_on number es ≡ Some (id, n)
    → lookup (is_at (pair_cmp (number, id))) es ≡ Some n
first-there number id n [] once h = absurd cc
first-there number id n (e ∷ es) once h = by (in_range number e.0) refl h (first-there number id n es once.1)
  where
    rest : (b : Bool) → is_at (pair_cmp (number, id)) e.0 ≡ b → lookup (is_at (pair_cmp (number, id))) es ≡ Some n
        → cond b (Some e.1) (lookup (is_at (pair_cmp (number, id))) es) ≡ Some n
    rest true is found =
        let none : lookup (is_at (pair_cmp (number, id))) es ≡ None =
        ap (λ (q : ℕ × ℕ). lookup (is_at (pair_cmp q)) es) (pair-is (number, id) e.0 is) ∙ once.0 in
        let no_such : None ≡ Some n = sym none ∙ found in absurd cc
    rest false is found = found

    by : (b : Bool) → in_range number e.0 ≡ b
        → option_map id_and (slice_get (cond b (e ∷ tries_on number es) (tries_on number es)) 0) ≡ Some (id, n)
        → (first_on number es ≡ Some (id, n) → lookup (is_at (pair_cmp (number, id))) es ≡ Some n)
        → cond (is_at (pair_cmp (number, id)) e.0) (Some e.1) (lookup (is_at (pair_cmp (number, id))) es) ≡ Some n
    by true is g more =
        let pair : ◌≡◌ {A = ℕ × ℕ} (e.0.1, e.1) (id, n) = cc in
        let own = range-own number e.0 is in
        let at : is_at (pair_cmp (number, id)) e.0 ≡ true =
        at-pair number id e.0.0 e.0.1 (eq-eqb e.0.0 number (sym own)) (eq-eqb e.0.1 id (ap (λ (p : ℕ × ℕ). p.0) pair)) in
        ap (λ (b : Bool). cond b (Some e.1) (lookup (is_at (pair_cmp (number, id))) es)) at
        ∙ ap (λ (p : ℕ × ℕ). Some p.1) pair
    by false is g more = rest (is_at (pair_cmp (number, id)) e.0) refl (more g)

-- where none is on it no try is counted there
pub none-tried : (number : ℕ) (s : ChannelsState) → AreCounted s → first_try number s ≡ None
    → tries_of (channel_at number s) ≡ 0
none-tried number s w none = sym (w.counts number) ∙ none-on number s.tries w.ids none

pub first-tried : (number id n : ℕ) (s : ChannelsState) → once_of s.tries → first_try number s ≡ Some (id, n)
    → transaction_at number id s ≡ Some n
first-tried number id n s once is = first-there number id n s.tries once is
