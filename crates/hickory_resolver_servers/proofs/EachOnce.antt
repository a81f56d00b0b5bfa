-- The order of a round has each server as often as it is left.
use Rattle.std.proofs.Common.{◌≡◌, ℕ, suc, ◌+◌, ◌%◌, ◌<◌, Bool, true, false, cond, not, List, [], ◌∷◌, ◌++◌, length, get_or, take, drop, filter, refl, ap, sym, ◌∙◌, arith}
use Rattle.std.specs.Prelude.{Option, None, Some, count_by, position, remove, slice_index}
use Rattle.std.specs.List.{sum_by}
use Rattle.std.proofs.lemmas.List.Quantifiers.{position-Some}
use Rattle.std.proofs.lemmas.List.Sorted.{sum_by-IsPermutation, IsPermutation-filter_both}
use Rattle.std.proofs.lemmas.List.Sums.{sum_by-append, sum_by-cons, sum_by-remove, sum_by-take-drop}
use Rattle.hickory_resolver_config.specs.declared.strategies.ServerOrderingStrategy.{ServerOrderingStrategy}
use Rattle.hickory_resolver_config.specs.declared.strategies.ServerOrderingStrategy.TheVariants.{QueryStatistics, UserProvidedOrder, RoundRobin}
use Rattle.hickory_resolver_servers.specs.declared.order.RoundStart.{RoundStart}
use Rattle.hickory_resolver_servers.specs.Order.{turned, is_known, is_free, known_in, unknown_in, beside, IsByRoundTrip, IsOrder, HasEachOnce}
use Rattle.hickory_resolver_servers.specs.Server.{ServerState}

module _ (test : ℕ → Bool) where
  abbrev one : ℕ → ℕ
  one x = cond (test x) 1 0

  -- the count of those that a test passes
  abbrev count : List ℕ → ℕ
  count xs = sum_by one xs

  count-turned : (place : ℕ) (left : List ℕ) → count (turned place left) ≡ count left
  count-turned place left =
      let k = place % length left in
      omega (arith, sum_by-append one (drop k left) (take k left), sum_by-take-drop one left k)

  -- with one of the unknown ones beside the first, and with none there
  count-plain : (known unknown : List ℕ) → count (known ++ unknown) ≡ count known + count unknown
  count-plain known unknown = sum_by-append one known unknown

  count-beside : (free : Option ℕ) (known unknown : List ℕ) (passes : ℕ → Bool) → free ≡ position passes unknown
      → count (beside free known unknown) ≡ count known + count unknown
  count-beside None known unknown passes e = count-plain known unknown
  count-beside (Some place) [] unknown passes e = count-plain [] unknown
  count-beside (Some place) (best ∷ others) unknown passes e =
      let there = position-Some passes unknown place 0 (sym e) in
      let behind = remove unknown place in
      let free = get_or unknown place 0 in
      omega (
        arith,
        sum_by-cons one best (free ∷ others ++ behind),
        sum_by-cons one free (others ++ behind),
        sum_by-append one others behind,
        sum_by-remove one unknown place 0 there.0,
        sum_by-cons one best others,
      )

  count-both : (now : ℕ) (servers : List ServerState) (left : List ℕ)
      → count (known_in now servers left) + count (unknown_in now servers left) ≡ count left
  count-both now servers left =
      let known = known_in now servers left in
      let unknown = unknown_in now servers left in
      let both = IsPermutation-filter_both (is_known now servers) (λ place. not (is_known now servers place)) (λ x. refl) left in
      sym (sum_by-append one known unknown) ∙ sum_by-IsPermutation one left (known ++ unknown) both

  count-by_round_trip : (round : RoundStart) (servers : List ServerState) (left order : List ℕ)
      → IsByRoundTrip round servers left order → count order ≡ count left
  count-by_round_trip round servers left order by =
      let known = known_in round.moment servers left in
      let unknown = unknown_in round.moment servers left in
      let ranks = sum_by-IsPermutation one known by.ranked by.fastest_first.same in
      let parts = count-beside (position (is_free round.transaction servers) unknown) by.ranked unknown (is_free round.transaction servers) refl in
      ap count by.order_is ∙ parts ∙ ap (λ (n : ℕ). n + count unknown) ranks ∙ count-both round.moment servers left

pub each_once : (strategy : ServerOrderingStrategy) (round : RoundStart) (servers : List ServerState) (left order : List ℕ)
    → IsOrder strategy round servers left order → HasEachOnce left order
each_once UserProvidedOrder round servers left order e = λ test. ap (count test) e
each_once RoundRobin round servers left order e = λ test. ap (count test) e ∙ count-turned test round.place left
each_once QueryStatistics round servers left order e = λ test. count-by_round_trip test round servers left order e
