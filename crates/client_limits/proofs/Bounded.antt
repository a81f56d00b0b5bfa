-- No more clients wait than the limits say.
use Rattle.std.proofs.Common.{◌≡◌, ℕ, ◌+◌, ◌-◌, ◌<◌, ◌≤◌, Bool, true, false, cond, ◌&&◌, eqb, List, [], ◌∷◌, refl, ◌∙◌, ap, arith}
use Rattle.std.specs.Prelude.{Option, None, Some, IfSome, All, nat_lt, nat_le, sum_by, unwrap_or}
use Rattle.std.specs.declared.cmp.Ordering.{Ordering}
use Rattle.std.specs.declared.cmp.Ordering.TheVariants.{Less, Equal, Greater}
use Rattle.std.specs.declared.net.IpAddr.{IpAddr}
use Rattle.std.specs.Ordering.{nat_cmp, match_ordering, ordering_reverse}
use Rattle.std.specs.List.{AllByRecursion}
use Rattle.std.specs.List.Sorted.{IsStrictlySortedBy}
use Rattle.std.specs.Map.{keys_of, lookup, remove_entry, set_value, values_of}
use Rattle.std.specs.BTreeMap.{insert_entry, is_at}
use Rattle.std.specs.Option.{option_map, option_map_or}
use Rattle.std.proofs.lemmas.Bool.{and_parts, eqb-false, leb-false, leb-true, ltb-true}
use Rattle.std.proofs.lemmas.Cmp.{nat_cmp_total}
use Rattle.std.proofs.lemmas.Map.Entries.{sum_by-insert_entry, sum_by-remove_entry, sum_by-set_value}
use Rattle.std.proofs.lemmas.Map.Views.{IfSome-lookup_from_All, All-map-remove_entry, All-values-insert_entry, All-values-set_value}
use Rattle.client_limits.specs.Counts.{CountsValue, added, admits, count_at, count_of, lowered, nobody, one_less, removed}
use Rattle.client_limits.specs.Laws.{ClientEvent, comes, goes, after_event, after_events, IsWithinLimits, StaysWithinLimits}
use Rattle.client_limits.specs.Networks.{counted_as}
use Rattle.client_limits.specs.declared.limits.ClientLimits.{ClientLimits}

abbrev Counts : Type 0
Counts = List (ℕ × ℕ)

-- ---- the networks are in order

abbrev IsBelow : ℕ → Counts → Type 0
IsBelow x es = AllByRecursion (λ e. nat_cmp x e.0 ≡ Less) es

abbrev Ascends : Counts → Type 0
Ascends [] = Unit {0}
Ascends (e ∷ es) = IsBelow e.0 es × Ascends es

below-keys : (x : ℕ) (es : Counts) → IsBelow x es → AllByRecursion (λ y. nat_cmp x y ≡ Less) (keys_of es)
below-keys x [] all = tt
below-keys x (e ∷ es) all = (all.0, below-keys x es all.1)

sorted : (es : Counts) → Ascends es → IsStrictlySortedBy nat_cmp (keys_of es)
unfolding IsStrictlySortedBy
sorted [] up = tt
sorted (e ∷ es) up = (below-keys e.0 es up.0, sorted es up.1)

below-all : (x y : ℕ) (es : Counts) → nat_cmp x y ≡ Less → IsBelow y es → IsBelow x es
below-all x y [] h all = tt
below-all x y (e ∷ es) h all = (nat_cmp_total.trans x y e.0 h all.0, below-all x y es h all.1)

below-inserted : (x n v : ℕ) (es : Counts) → nat_cmp x n ≡ Less → IsBelow x es → IsBelow x (insert_entry nat_cmp es n v)
below-inserted x n v [] h all = (h, tt)
below-inserted x n v (e ∷ es) h all = by (nat_cmp n e.0) (below-inserted x n v es h all.1)
  where
    by : (o : Ordering) → IsBelow x (insert_entry nat_cmp es n v)
        → IsBelow x (match_ordering o ((n, v) ∷ e ∷ es) ((e.0, v) ∷ es) (e ∷ insert_entry nat_cmp es n v))
    by Less more = (h, all)
    by Equal more = (all.0, all.1)
    by Greater more = (all.0, more)

below-set : (test : ℕ → Bool) (x v : ℕ) (es : Counts) → IsBelow x es → IsBelow x (set_value test es v)
below-set test x v [] all = tt
below-set test x v (e ∷ es) all = by (test e.0) (below-set test x v es all.1)
  where
    by : (b : Bool) → IsBelow x (set_value test es v) → IsBelow x (cond b ((e.0, v) ∷ es) (e ∷ set_value test es v))
    by true more = all
    by false more = (all.0, more)

below-removed : (test : ℕ → Bool) (x : ℕ) (es : Counts) → IsBelow x es → IsBelow x (remove_entry test es)
below-removed test x [] all = tt
below-removed test x (e ∷ es) all = by (test e.0) (below-removed test x es all.1)
  where
    by : (b : Bool) → IsBelow x (remove_entry test es) → IsBelow x (cond b es (e ∷ remove_entry test es))
    by true more = all.1
    by false more = (all.0, more)

ascends-inserted : (n v : ℕ) (es : Counts) → Ascends es → Ascends (insert_entry nat_cmp es n v)
ascends-inserted n v [] up = (tt, tt)
ascends-inserted n v (e ∷ es) up = by (nat_cmp n e.0) refl (ascends-inserted n v es up.1)
  where
    by : (o : Ordering) → nat_cmp n e.0 ≡ o → Ascends (insert_entry nat_cmp es n v)
        → Ascends (match_ordering o ((n, v) ∷ e ∷ es) ((e.0, v) ∷ es) (e ∷ insert_entry nat_cmp es n v))
    by Less h more = ((h, below-all n e.0 es h up.0), up)
    by Equal h more = up
    by Greater h more =
        (below-inserted e.0 n v es (nat_cmp_total.antisymm e.0 n ∙ ap ordering_reverse h) up.0, more)

ascends-set : (test : ℕ → Bool) (v : ℕ) (es : Counts) → Ascends es → Ascends (set_value test es v)
ascends-set test v [] up = tt
ascends-set test v (e ∷ es) up = by (test e.0) (ascends-set test v es up.1)
  where
    by : (b : Bool) → Ascends (set_value test es v) → Ascends (cond b ((e.0, v) ∷ es) (e ∷ set_value test es v))
    by true more = up
    by false more = (below-set test e.0 v es up.0, more)

ascends-removed : (test : ℕ → Bool) (es : Counts) → Ascends es → Ascends (remove_entry test es)
ascends-removed test [] up = tt
ascends-removed test (e ∷ es) up = by (test e.0) (ascends-removed test es up.1)
  where
    by : (b : Bool) → Ascends (remove_entry test es) → Ascends (cond b es (e ∷ remove_entry test es))
    by true more = up.1
    by false more = (below-removed test e.0 es up.0, more)

-- ---- sums

abbrev sum_of : Counts → ℕ
sum_of es = sum_by (λ n. n) (values_of es)

same-count : (found : Option ℕ) → unwrap_or (option_map (λ n. n) found) 0 ≡ unwrap_or found 0
same-count None = refl
same-count (Some n) = refl

sum-inserted : (n : ℕ) (es : Counts) → Ascends es
    → sum_of (insert_entry nat_cmp es n (count_at n es + 1)) ≡ sum_of es + 1
sum-inserted n es up =
    let is = sum_by-insert_entry (λ (m : ℕ). m) nat_cmp_total es n (count_at n es + 1) (sorted es up) in
    omega (arith, is, same-count (lookup (is_at (nat_cmp n)) es))

sum-removed : (n : ℕ) (es : Counts) → sum_of (remove_entry (is_at (nat_cmp n)) es) + count_at n es ≡ sum_of es
sum-removed n es =
    let is = sum_by-remove_entry (λ (m : ℕ). m) (is_at (nat_cmp n)) es in
    omega (arith, is, same-count (lookup (is_at (nat_cmp n)) es))

sum-lowered : (n : ℕ) (es : Counts) → 0 < count_at n es → sum_of (lowered n es) + 1 ≡ sum_of es
sum-lowered n es some = by (lookup (is_at (nat_cmp n)) es) refl some
  where
    by : (found : Option ℕ) → lookup (is_at (nat_cmp n)) es ≡ found → 0 < unwrap_or found 0
        → sum_of (option_map_or (λ count. set_value (is_at (nat_cmp n)) es (count - 1)) found es) + 1 ≡ sum_of es
    by None h some = absurd (omega (arith, some))
    by (Some v) h some = omega (arith, some, sum_by-set_value (λ (m : ℕ). m) (is_at (nat_cmp n)) es v (v - 1) h)

-- ---- events

module _ (limits : ClientLimits) where
  abbrev IsFew : ℕ → Type 0
  IsFew n = (0 < n) × (n ≤ limits.of_address)

  record IsGood (c : CountsValue) : Type 0 where
    within : IsWithinLimits limits c
    order : Ascends c.of_networks

  few-lowered : (n : ℕ) (es : Counts) → 1 < count_at n es → count_at n es ≤ limits.of_address
      → All IsFew (values_of es) → All IsFew (values_of (lowered n es))
  few-lowered n es some few all = by (lookup (is_at (nat_cmp n)) es) some few
    where
      by : (found : Option ℕ) → 1 < unwrap_or found 0 → unwrap_or found 0 ≤ limits.of_address
          → All IsFew (values_of (option_map_or (λ count. set_value (is_at (nat_cmp n)) es (count - 1)) found es))
      by None some few = all
      by (Some v) some few =
          All-values-set_value (is_at (nat_cmp n)) IsFew es (v - 1) all (omega (arith, some), omega (arith, few))

  ascends-lowered : (n : ℕ) (es : Counts) → Ascends es → Ascends (lowered n es)
  ascends-lowered n es up = by (lookup (is_at (nat_cmp n)) es)
    where
      by : (found : Option ℕ)
          → Ascends (option_map_or (λ count. set_value (is_at (nat_cmp n)) es (count - 1)) found es)
      by None = up
      by (Some v) = ascends-set (is_at (nat_cmp n)) (v - 1) es up

  few-found : (n : ℕ) (es : Counts) → All IsFew (values_of es) → count_at n es ≤ limits.of_address
  few-found n es all =
      by (lookup (is_at (nat_cmp n)) es) (IfSome-lookup_from_All IsFew (is_at (nat_cmp n)) es all)
    where
      by : (found : Option ℕ) → IfSome found IsFew → unwrap_or found 0 ≤ limits.of_address
      by None h = omega arith
      by (Some v) h = h.1

  good-added : (address : IpAddr) (c : CountsValue) → IsGood c → c.all < limits.all
      → count_of address c < limits.of_address → IsGood (added address c)
  good-added address c good room few =
      let n = counted_as address in
      record {
        within = record {
          all = omega (arith, room);
          each = All-values-insert_entry nat_cmp n (count_at n c.of_networks + 1) IsFew c.of_networks good.within.each
              (omega arith, omega (arith, few));
          sum = omega (arith, sum-inserted n c.of_networks good.order, good.within.sum);
        };
        order = ascends-inserted n (count_at n c.of_networks + 1) c.of_networks good.order;
      }

  good-less : (n : ℕ) (c : CountsValue) → IsGood c → 0 < count_at n c.of_networks
      → IsGood (record { all = c.all - 1; of_networks = one_less n (count_at n c.of_networks) c.of_networks })
  good-less n c good some = by (nat_le (count_at n c.of_networks) 1) refl
    where
      by : (b : Bool) → nat_le (count_at n c.of_networks) 1 ≡ b
          → IsGood (record {
            all = c.all - 1;
            of_networks = cond b (remove_entry (is_at (nat_cmp n)) c.of_networks) (lowered n c.of_networks);
          })
      by true last =
          let one : count_at n c.of_networks ≤ 1 = leb-true (count_at n c.of_networks) 1 last in
          record {
            within = record {
              all = omega (arith, good.within.all);
              each = All-map-remove_entry (is_at (nat_cmp n)) (λ (e : ℕ × ℕ). e.1) IsFew c.of_networks good.within.each;
              sum = omega (arith, sum-removed n c.of_networks, good.within.sum, one, some);
            };
            order = ascends-removed (is_at (nat_cmp n)) c.of_networks good.order;
          }
      by false others =
          let more : 1 < count_at n c.of_networks = leb-false (count_at n c.of_networks) 1 others in
          record {
            within = record {
              all = omega (arith, good.within.all);
              each = few-lowered n c.of_networks more (few-found n c.of_networks good.within.each) good.within.each;
              sum = omega (arith, sum-lowered n c.of_networks some, good.within.sum);
            };
            order = ascends-lowered n c.of_networks good.order;
          }

  good-removed : (address : IpAddr) (c : CountsValue) → IsGood c → IsGood (removed address c)
  good-removed address c good = by (eqb (count_of address c) 0) refl
    where
      by : (b : Bool) → eqb (count_of address c) 0 ≡ b
          → IsGood (cond b c (record {
            all = c.all - 1;
            of_networks = one_less (counted_as address) (count_of address c) c.of_networks;
          }))
      by true none = good
      by false h =
          let ne = eqb-false (count_of address c) 0 h in
          good-less (counted_as address) c good (omega (arith, ne))

  good-event : (c : CountsValue) (event : ClientEvent) → IsGood c → IsGood (after_event limits c event)
  good-event c (comes address of_question) good = by (admits limits address of_question c) refl
    where
      by : (b : Bool) → admits limits address of_question c ≡ b → IsGood (cond b (added address c) c)
      by true h =
          let all = and_parts
          (nat_lt c.all limits.all && nat_lt of_question limits.of_question)
          (nat_lt (count_of address c) limits.of_address) h in
          let two = and_parts (nat_lt c.all limits.all) (nat_lt of_question limits.of_question) all.0 in
          good-added address c good (ltb-true c.all limits.all two.0)
          (ltb-true (count_of address c) limits.of_address all.1)
      by false h = good
  good-event c (goes address) good = good-removed address c good

  good-events : (c : CountsValue) (events : List ClientEvent) → IsGood c → IsGood (after_events limits c events)
  good-events c [] good = good
  good-events c (event ∷ events) good = good-events (after_event limits c event) events (good-event c event good)

pub stays_within_limits : StaysWithinLimits
stays_within_limits limits events =
    let start : IsWithinLimits limits nobody =
    record { all = omega arith; each = λ k d h. absurd (omega (arith, h)); sum = refl } in
    (good-events limits nobody events (record { within = start; order = tt })).within
