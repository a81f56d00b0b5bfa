-- What holds of failures after every list of events.
use Rattle.std.specs.Prelude.{◌≡◌, ℕ, ◌+◌, ◌≤◌, Bool, not, List, [], ◌∷◌, filter, Some, MatchBool}
use Rattle.std.specs.Str.{bytes_eq}
use Rattle.second_chance_cache.specs.SecondChance.{no_entries, without}
use Rattle.second_chance_cache.specs.declared.bounds.CacheBounds.{CacheBounds}
use Rattle.kept_failures.specs.Failures.{FailuresValue, failure_at, noted}
use Rattle.kept_failures.specs.declared.choices.TheConstants.{MOST_SECONDS}

-- A failure is noted under a key, with its reason and the second; the failure under a key is forgotten, or those whose
-- keys pass a test; all are.
pub data FailureEvent (R : Type 0) : Type 0 where
  notes : List ℕ → R → ℕ → FailureEvent R
  forgets : List ℕ → FailureEvent R
  forgets_where : (List ℕ → Bool) → FailureEvent R
  clears : FailureEvent R

module _ {R : Type 0} where
  abbrev pub after_event : FailuresValue R → FailureEvent R → FailuresValue R
  after_event c (notes key reason now) = noted key reason now c
  after_event c (forgets key) = record c { entries = without key c.entries }
  after_event c (forgets_where test) = record c { entries = filter (λ e. not (test e.key)) c.entries }
  after_event c clears = no_entries c.bounds

  -- after these events, the last one first
  abbrev pub after_events : CacheBounds → List (FailureEvent R) → FailuresValue R
  after_events bounds [] = no_entries bounds
  after_events bounds (event ∷ past) = after_event (after_events bounds past) event

  -- Of these events, the last one first, the last that concerns the key notes this failure, at most so long before.
  abbrev pub WasNoted : List ℕ → R → ℕ → List (FailureEvent R) → Type 0
  WasNoted key reason now [] = ⊥
  WasNoted key reason now (notes other why at ∷ past) =
      MatchBool (bytes_eq key other) ((reason ≡ why) × (now ≤ at + MOST_SECONDS)) (WasNoted key reason now past)
  WasNoted key reason now (forgets other ∷ past) = MatchBool (bytes_eq key other) ⊥ (WasNoted key reason now past)
  WasNoted key reason now (forgets_where test ∷ past) = MatchBool (test key) ⊥ (WasNoted key reason now past)
  WasNoted key reason now (clears ∷ past) = ⊥

-- What is told was noted, and nothing is told for longer than `MOST_SECONDS` after it was.
abbrev pub TellsWhatWasNoted : Type 0 → Type 0
TellsWhatWasNoted R =
    (bounds : CacheBounds) (past : List (FailureEvent R)) (key : List ℕ) (now : ℕ) (reason : R)
    → failure_at key now (after_events bounds past) ≡ Some reason → WasNoted key reason now past
