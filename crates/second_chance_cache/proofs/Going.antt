-- Entries behind a slot.
use Rattle.std.proofs.Common.{◌≡◌, ℕ, zero, suc, Bool, true, false, cond, List, [], ◌∷◌, drop, refl}
use Rattle.std.specs.Prelude.{slice_get, Option, None, Some}
use Rattle.std.specs.Option.{option_flatten, option_map}
use Rattle.second_chance_cache.specs.SecondChance.{Entry, behind, is_for}
use Rattle.second_chance_cache.specs.Clock.{live, place_of}
use Rattle.second_chance_cache.proofs.Slots.{suc_none, suc_parts}

module _ {V : Type 0} where
  -- a slot without an entry is passed over
  pub live-past : (s : List (Option (Entry V))) (at : ℕ) → option_flatten (slice_get s at) ≡ None
      → live (drop (suc at) s) ≡ live (drop at s)
  live-past [] zero h = refl
  live-past [] (suc at) h = refl
  live-past (None ∷ s) zero h = refl
  live-past (Some e ∷ s) zero h = absurd cc
  live-past (x ∷ s) (suc at) h = live-past s at h

  pub live-there : (s : List (Option (Entry V))) (at : ℕ) (e : Entry V) → option_flatten (slice_get s at) ≡ Some e
      → slice_get (live (drop at s)) 0 ≡ Some e
  live-there [] at e h = absurd cc
  live-there (None ∷ s) zero e h = absurd cc
  live-there (Some f ∷ s) zero e h = h
  live-there (x ∷ s) (suc at) e h = live-there s at e h

  -- those behind the slot of a key are those behind its entry
  pub live-behind : (key : List ℕ) (s : List (Option (Entry V))) (at : ℕ) → place_of key s ≡ Some at
      → live (drop (suc at) s) ≡ behind key (live s)
  live-behind key [] at h = absurd cc
  live-behind key (None ∷ s) at h =
      let n = suc_parts (place_of key s) at h in
      rw (n.1) (live-behind key s n.0 n.2)
  live-behind key (Some e ∷ s) at h = by (is_for key e) h (live-behind key s)
    where
      by : (is : Bool) → cond is (Some 0) (option_map suc (place_of key s)) ≡ Some at
          → ((n : ℕ) → place_of key s ≡ Some n → live (drop (suc n) s) ≡ behind key (live s))
          → live (drop (suc at) (Some e ∷ s)) ≡ cond is (live s) (behind key (live s))
      by true h rest =
          let zeroth : at ≡ 0 = cc in
          rw zeroth refl
      by false h rest =
          let n = suc_parts (place_of key s) at h in
          rw (n.1) (rest n.0 n.2)

  pub none-behind : (key : List ℕ) (s : List (Option (Entry V))) → place_of key s ≡ None → behind key (live s) ≡ []
  none-behind key [] h = refl
  none-behind key (None ∷ s) h = none-behind key s (suc_none (place_of key s) h)
  none-behind key (Some e ∷ s) h = by (is_for key e) h (none-behind key s)
    where
      by : (is : Bool) → cond is (Some 0) (option_map suc (place_of key s)) ≡ None
          → (place_of key s ≡ None → behind key (live s) ≡ []) → cond is (live s) (behind key (live s)) ≡ []
      by true h rest = absurd cc
      by false h rest = rest (suc_none (place_of key s) h)
