-- A cache that is bounded in entries and in octets, and gives a second chance to what was asked for again.
--
-- Its entries stand in a circle, and a hand goes round. The list of them begins where the hand is: its first entry is
-- the one at which the hand looks next, and a new one comes in at its end. Where a new one has no room, the hand looks
-- at one entry after another. What was asked for since the hand was there last, and is current, it passes by and takes
-- its mark off; all else it drops, until there is room.
use Rattle.std.specs.Prelude.{◌≡◌, ℕ, ◌+◌, ◌*◌, ◌≤◌, Bool, true, false, not, ◌&&◌, ◌⊎◌, nat_lt, nat_le, List, [], ◌∷◌, ◌++◌, length, map, filter, find, Option, None, Some, if◌then◌else◌}
use Rattle.std.specs.List.{list_any}
use Rattle.std.specs.Option.{option_map, option_and_then}
use Rattle.std.specs.Str.{bytes_eq}
use Rattle.second_chance_cache.specs.declared.bounds.CacheBounds.{CacheBounds}

-- A value under its key, with its weight (octets), its deadline (the last second at which it is current), and its mark:
-- whether it was asked for again since it was stored or was last passed by.
pub record Entry (V : Type 0) : Type 0 where
  pub key : List ℕ
  pub value : V
  pub weight : ℕ
  pub deadline : ℕ
  pub asked_again : Bool

-- The entries are in the order in which the hand comes to them.
pub record CacheValue (V : Type 0) : Type 0 where
  pub bounds : CacheBounds
  pub entries : List (Entry V)

abbrev pub no_entries : {V : Type 0} → CacheBounds → CacheValue V
no_entries bounds = record { bounds = bounds; entries = [] }

-- an entry of this weight is kept where any is: it is no heavier than a 256th of the octets
abbrev pub is_kept : CacheBounds → ℕ → Bool
is_kept bounds weight = nat_lt 0 bounds.entries && nat_le (256 * weight) bounds.octets

module _ {V : Type 0} where
  abbrev pub is_for : List ℕ → Entry V → Bool
  is_for key e = bytes_eq key e.key

  -- there is an entry of this key
  abbrev pub has : List ℕ → List (Entry V) → Bool
  has key es = list_any (is_for key) es

  -- the deadline itself counts
  abbrev pub is_current : ℕ → Entry V → Bool
  is_current now e = nat_le now e.deadline

  -- ---- looking up

  -- the entry, where it is current
  abbrev pub if_current : ℕ → Entry V → Option (Entry V)
  if_current now e = if is_current now e then Some e else None

  -- the value that is told for a key
  abbrev pub told : List ℕ → ℕ → List (Entry V) → Option V
  told key now es = option_map (λ e. e.value) (option_and_then (if_current now) (find (is_for key) es))

  abbrev pub marked_at : ℕ → Entry V → Entry V
  marked_at now e = if is_current now e then record e { asked_again = true } else e

  -- once a key is asked for: where its entry is current, it is marked
  abbrev pub asked : List ℕ → ℕ → List (Entry V) → List (Entry V)
  asked key now es = map (λ e. if is_for key e then marked_at now e else e) es

  -- ---- going through

  -- the entries behind that of a key, none where there is none of it
  abbrev pub behind : List ℕ → List (Entry V) → List (Entry V)
  behind key [] = []
  behind key (e ∷ es) = if is_for key e then es else behind key es

  -- ---- storing

  abbrev pub without : List ℕ → List (Entry V) → List (Entry V)
  without key es = filter (λ e. not (is_for key e)) es

  abbrev pub all_weight : List (Entry V) → ℕ
  all_weight [] = 0
  all_weight (e ∷ es) = e.weight + all_weight es

  -- what the hand passes by
  abbrev pub is_passed_by : ℕ → Entry V → Bool
  is_passed_by now e = e.asked_again && is_current now e

  abbrev pub unmarked : Entry V → Entry V
  unmarked e = record e { asked_again = false }

  -- one more entry of this weight comes in
  module _ (bounds : CacheBounds) (weight : ℕ) where
    abbrev pub has_room : List (Entry V) → Bool
    has_room es = nat_lt (length es) bounds.entries && nat_le (all_weight es + weight) bounds.octets

    -- The hand has come round: what it passed by has no mark any more, and is dropped in that order, until there is
    -- room.
    abbrev pub second_round : List (Entry V) → List (Entry V)
    second_round [] = []
    second_round (e ∷ es) = if has_room (e ∷ es) then e ∷ es else second_round es

    -- The hand goes on, at this second, over what it has not looked at yet. What it passed by stands behind that.
    abbrev pub first_round : ℕ → List (Entry V) → List (Entry V) → List (Entry V)
    first_round now passed [] = second_round passed
    first_round now passed (e ∷ es) =
        if has_room (e ∷ es ++ passed) then e ∷ es ++ passed
        else (if is_passed_by now e then first_round now (passed ++ unmarked e ∷ []) es else first_round now passed es)

    abbrev pub make_room : ℕ → List (Entry V) → List (Entry V)
    make_room now es = first_round now [] es

  -- An entry of the same key leaves, also where the new one is not kept: something newer was told.
  abbrev pub stored : List ℕ → V → ℕ → ℕ → ℕ → CacheValue V → CacheValue V
  stored key value weight deadline now c =
      let rest = without key c.entries in
      let new : Entry V =
      record { key = key; value = value; weight = weight; deadline = deadline; asked_again = false } in
      record c {
        entries = if is_kept c.bounds weight then make_room c.bounds weight now rest ++ new ∷ [] else rest;
      }

  -- ---- removing

  -- What is left of the entries once those are removed whose keys pass a test. `answers key b` says that the test may
  -- answer b of the key.
  abbrev pub IsLeft : (List ℕ → Bool → Type 0) → List (Entry V) → List (Entry V) → Type 0
  IsLeft answers [] left = left ≡ []
  IsLeft answers (e ∷ es) left =
      (rest : List (Entry V)) × IsLeft answers es rest
      × ((answers e.key true × (left ≡ rest)) ⊎ (answers e.key false × (left ≡ e ∷ rest)))

  -- ---- what holds of every cache

  -- no two entries have one key
  abbrev pub AreApart : List (Entry V) → Type 0
  AreApart [] = Unit {0}
  AreApart (e ∷ es) = (has e.key es ≡ false) × AreApart es

  -- it keeps to its bounds
  pub record IsCache (c : CacheValue V) : Type 0 where
    pub count : length c.entries ≤ c.bounds.entries
    pub octets : all_weight c.entries ≤ c.bounds.octets
    pub apart : AreApart c.entries
