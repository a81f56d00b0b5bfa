-- The clock behind a cache: slots from the hand on, each with an entry or none, and the number of each entry's slot by
-- its key. The first slot has some number, and each slot one more than the one before, counted modulo 2^64.
use Rattle.std.specs.Prelude.{◌≡◌, ℕ, zero, suc, ◌+◌, ◌%◌, ◌^◌, ◌<◌, ◌≤◌, Bool, true, false, ◌⊎◌, cond, List, [], ◌∷◌, ◌++◌, length, Option, None, Some, if◌then◌else◌}
use Rattle.std.specs.Option.{option_map, option_map_or}
use Rattle.std.specs.Str.{bytes_eq}
use Rattle.std.specs.VecDeque.{deque_capacity, deque_len}
use Rattle.indexmap.specs.IndexMap.{IndexMap, get_by, spare}
use Rattle.second_chance_cache.specs.declared.bounds.CacheBounds.{CacheBounds}
use Rattle.second_chance_cache.specs.declared.clock.Clock.{Clock}
use Rattle.second_chance_cache.specs.SecondChance.{AreApart, Entry, IsCache, all_weight, is_for, is_passed_by, marked_at, unmarked}

-- the number of the slot at a place, where the first slot has this number
abbrev pub number_at : ℕ → ℕ → ℕ
number_at first place = (first + place) % 2 ^ 64

-- the number of a key
abbrev pub number_in : {S : Type 0} → List ℕ → IndexMap (List ℕ) ℕ S → Option ℕ
number_in key index = get_by (bytes_eq key) index

module _ {V : Type 0} where
  -- the entries in the slots
  abbrev pub live : List (Option (Entry V)) → List (Entry V)
  live [] = []
  live (None ∷ slots) = live slots
  live (Some e ∷ slots) = e ∷ live slots

  -- where the entry of a key stands
  abbrev pub place_of : List ℕ → List (Option (Entry V)) → Option ℕ
  place_of key [] = None
  place_of key (None ∷ slots) = option_map suc (place_of key slots)
  place_of key (Some e ∷ slots) = cond (is_for key e) (Some 0) (option_map suc (place_of key slots))

  -- ---- what the hand does with the first slot

  -- it goes to the back, where it has an entry
  abbrev pub turned : List (Option (Entry V)) → List (Option (Entry V))
  turned [] = []
  turned (None ∷ slots) = slots
  turned (Some e ∷ slots) = slots ++ Some e ∷ []

  abbrev pub dropped : List (Option (Entry V)) → List (Option (Entry V))
  dropped [] = []
  dropped (slot ∷ slots) = slots

  -- its entry loses its mark
  abbrev pub with_front_unmarked : List (Option (Entry V)) → List (Option (Entry V))
  with_front_unmarked [] = []
  with_front_unmarked (slot ∷ slots) = option_map unmarked slot ∷ slots

  abbrev pub front_is_passed_by : ℕ → List (Option (Entry V)) → Bool
  front_is_passed_by now [] = false
  front_is_passed_by now (slot ∷ slots) = option_map_or (is_passed_by now) slot false

  abbrev pub looked_at : ℕ → List (Option (Entry V)) → List (Option (Entry V))
  looked_at now slots = if front_is_passed_by now slots then turned (with_front_unmarked slots) else dropped slots

  -- ---- a test of keys, of which `answers key b` says that it may answer b

  -- what it answers of a slot
  abbrev pub SlotAnswers : (List ℕ → Bool → Type 0) → Option (Entry V) → Bool → Type 0
  SlotAnswers answers None b = b ≡ false
  SlotAnswers answers (Some e) b = answers e.key b

  -- what it answers of the first slot
  abbrev pub FrontAnswers : (List ℕ → Bool → Type 0) → List (Option (Entry V)) → Bool → Type 0
  FrontAnswers answers [] b = b ≡ false
  FrontAnswers answers (slot ∷ slots) b = SlotAnswers answers slot b

  -- the first slot goes where its key passes, or is empty, and else to the back
  abbrev pub IsSieved : (List ℕ → Bool → Type 0) → List (Option (Entry V)) → List (Option (Entry V)) → Type 0
  IsSieved answers [] new = new ≡ []
  IsSieved answers (None ∷ slots) new = new ≡ slots
  IsSieved answers (Some e ∷ slots) new =
      (answers e.key true × (new ≡ slots)) ⊎ (answers e.key false × (new ≡ slots ++ Some e ∷ []))

  -- ---- one slot

  abbrev pub emptied : ℕ → List (Option (Entry V)) → List (Option (Entry V))
  emptied place [] = []
  emptied zero (slot ∷ slots) = None ∷ slots
  emptied (suc place) (slot ∷ slots) = slot ∷ emptied place slots

  -- what the entry at a place weighs, where there is one
  abbrev pub weight_at : ℕ → List (Option (Entry V)) → ℕ
  weight_at place [] = 0
  weight_at zero (slot ∷ slots) = option_map_or (λ e. e.weight) slot 0
  weight_at (suc place) (slot ∷ slots) = weight_at place slots

  -- the entry at a place is asked for
  abbrev pub marked_in : ℕ → ℕ → List (Option (Entry V)) → List (Option (Entry V))
  marked_in place now [] = []
  marked_in zero now (slot ∷ slots) = option_map (marked_at now) slot ∷ slots
  marked_in (suc place) now (slot ∷ slots) = slot ∷ marked_in place now slots

-- the key has this number, where it has one, and the others keep theirs
abbrev pub IsRenumbered : {S : Type 0} → List ℕ → ℕ → IndexMap (List ℕ) ℕ S → IndexMap (List ℕ) ℕ S → Type 0
IsRenumbered key number old new =
    (other : List ℕ)
    → number_in other new
    ≡ (if bytes_eq key other then option_map (λ _. number) (number_in key old) else number_in other old)

-- the key has no number, and the others keep theirs
abbrev pub IsForgotten : {S : Type 0} → List ℕ → IndexMap (List ℕ) ℕ S → IndexMap (List ℕ) ℕ S → Type 0
IsForgotten key old new =
    (other : List ℕ) → number_in other new ≡ (if bytes_eq key other then None else number_in other old)

-- the key has this number, and the others keep theirs
abbrev pub IsNumbered : {S : Type 0} → List ℕ → ℕ → IndexMap (List ℕ) ℕ S → IndexMap (List ℕ) ℕ S → Type 0
IsNumbered key number old new =
    (other : List ℕ) → number_in other new ≡ (if bytes_eq key other then Some number else number_in other old)

-- Each entry is found by its key, and nothing else is; how many there are, and what they weigh, is counted.
pub record AreSound {V : Type 0}
    (numbers : List ℕ → Option ℕ) (slots : List (Option (Entry V))) (first many weight : ℕ) : Type 0 where
  pub placed : (key : List ℕ) → numbers key ≡ option_map (number_at first) (place_of key slots)
  pub small : first < 2 ^ 64
  pub apart : AreApart (live slots)
  pub count : many ≡ length (live slots)
  pub octets : weight ≡ all_weight (live slots)

-- ---- the clock

module _ {V S H : Type 0} where
  -- it has what it says
  abbrev pub IsSound : Clock V S H → Type 0
  IsSound c = AreSound (λ key. number_in key c.index) c.slots.items c.first c.count c.octets

  -- there are no more slots, and there is as much room
  pub record KeepsRoom (old new : Clock V S H) : Type 0 where
    pub len : deque_len new.slots ≤ deque_len old.slots
    pub slots : deque_capacity new.slots ≡ deque_capacity old.slots
    pub index : spare old.index ≤ spare new.index

  -- there is room for one more entry
  pub record HasRoom (c : Clock V S H) : Type 0 where
    pub slots : deque_len c.slots < deque_capacity c.slots
    pub index : 0 < spare c.index

  abbrev pub entries_of : Clock V S H → List (Entry V)
  entries_of c = live c.slots.items

  -- it keeps to the bounds
  pub record IsKept (bounds : CacheBounds) (c : Clock V S H) : Type 0 where
    pub sound : IsSound c
    pub within : IsCache (record { bounds = bounds; entries = entries_of c })
