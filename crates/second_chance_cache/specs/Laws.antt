-- What holds of a cache after every list of events.
use Rattle.std.specs.Prelude.{◌≡◌, ℕ, ◌≤◌, true, false, List, Some, find}
use Rattle.std.specs.List.{AllByRecursion, fold}
use Rattle.std.specs.Str.{bytes_eq}
use Rattle.second_chance_cache.specs.SecondChance.{CacheValue, Entry, IsCache, asked, has, is_for, no_entries, stored, without}
use Rattle.second_chance_cache.specs.declared.bounds.CacheBounds.{CacheBounds}

-- A value is stored under a key, with its weight, its deadline and the second; a key is asked for at a second; a key's
-- entry is removed; all entries go.
pub data CacheEvent (V : Type 0) : Type 0 where
  stores : List ℕ → V → ℕ → ℕ → ℕ → CacheEvent V
  asks : List ℕ → ℕ → CacheEvent V
  removes : List ℕ → CacheEvent V
  clears : CacheEvent V

module _ {V : Type 0} where
  abbrev pub after_event : CacheValue V → CacheEvent V → CacheValue V
  after_event c (stores key value weight deadline now) = stored key value weight deadline now c
  after_event c (asks key now) = record c { entries = asked key now c.entries }
  after_event c (removes key) = record c { entries = without key c.entries }
  after_event c clears = no_entries c.bounds

  abbrev pub after_events : CacheValue V → List (CacheEvent V) → CacheValue V
  after_events c events = fold after_event c events

  -- no entry of the key was asked for again since it was stored or was last passed by
  abbrev pub IsUnasked : List ℕ → List (Entry V) → Type 0
  IsUnasked key es = AllByRecursion (λ e. is_for key e ≡ true → e.asked_again ≡ false) es

  -- The key `other` is neither stored nor asked for. The key `kept` is neither stored nor removed, and what is stored
  -- is stored while it is current. It may be asked for.
  abbrev pub IsBetween : List ℕ → List ℕ → ℕ → CacheEvent V → Type 0
  IsBetween kept other deadline (stores key value weight until now) =
      (bytes_eq kept key ≡ false) × (bytes_eq other key ≡ false) × (now ≤ deadline)
  IsBetween kept other deadline (asks key now) = bytes_eq other key ≡ false
  IsBetween kept other deadline (removes key) = bytes_eq kept key ≡ false
  IsBetween kept other deadline clears = Unit {0}

-- A cache keeps to its bounds, and has one entry of a key at the most, whatever comes.
abbrev pub KeepsToItsBounds : Type 0 → Type 0
KeepsToItsBounds V =
    (bounds : CacheBounds) (events : List (CacheEvent V)) → IsCache (after_events (no_entries {V = V} bounds) events)

-- What was asked for again outlasts all that was there then and is not asked for: while the cache still has an entry
-- that was there, unmarked, when a marked one was, and is not asked for since, it has the marked one too. So a flood of
-- names that are asked for once drops none that was asked for again before every other entry is gone.
abbrev pub OutlastsWhatIsNotAskedFor : Type 0 → Type 0
OutlastsWhatIsNotAskedFor V =
    (c : CacheValue V) (kept other : List ℕ) (e : Entry V) (events : List (CacheEvent V))
    → find (is_for kept) c.entries ≡ Some e → e.asked_again ≡ true
    → IsUnasked other c.entries
    → AllByRecursion (IsBetween kept other e.deadline) events
    → has other (after_events c events).entries ≡ true
    → has kept (after_events c events).entries ≡ true
