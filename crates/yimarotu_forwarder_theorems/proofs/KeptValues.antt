-- What holds of each value that is stored, and of its deadline, holds of each that is kept; and what is told of a key
-- does not change where one is asked for.
use Rattle.std.proofs.Common.{◌≡◌, ℕ, Bool, true, false, not, List, [], ◌∷◌, ◌++◌, refl, subst, sym}
use Rattle.std.specs.Prelude.{filter, find, None, Some, if◌then◌else◌}
use Rattle.std.specs.Option.{option_and_then, option_map}
use Rattle.std.specs.List.{AllByRecursion}
use Rattle.second_chance_cache.specs.Laws.{CacheEvent, after_event, asks, clears, removes, stores}
use Rattle.second_chance_cache.specs.SecondChance.{CacheValue, Entry, asked, first_round, has_room, if_current, is_current, is_for, is_kept, is_passed_by, make_room, marked_at, second_round, stored, told, unmarked, without}
use Rattle.second_chance_cache.specs.declared.bounds.CacheBounds.{CacheBounds}
use Rattle.second_chance_cache.proofs.Keys.{same_key}

module _ {V : Type 0} (P : List ℕ → V → ℕ → Type 0) where
  abbrev pub AllKept : List (Entry V) → Type 0
  AllKept es = AllByRecursion (λ (e : Entry V). P e.key e.value e.deadline) es

  -- what an event stores, if anything
  abbrev pub StoresSuch : CacheEvent V → Type 0
  StoresSuch (stores key value weight deadline now) = P key value deadline
  StoresSuch other = Unit {0}

  -- and so of the value that is told
  pub told-kept : (key : List ℕ) (now : ℕ) (es : List (Entry V)) (v : V) → AllKept es → told key now es ≡ Some v
      → (deadline : ℕ) × P key v deadline
  told-kept key now [] v all is = absurd cc
  told-kept key now (e ∷ es) v all is = by (is_for key e) refl is (told-kept key now es v all.1)
    where
      by : (own : Bool) → is_for key e ≡ own
          → option_map (λ x. x.value) (option_and_then (if_current now)
          (if own then Some e else find (is_for key) es)) ≡ Some v
          → (told key now es ≡ Some v → (deadline : ℕ) × P key v deadline) → (deadline : ℕ) × P key v deadline
      by false for is' more = more is'
      by true for is' more = current-kept (is_current now e) is'
        where
          same : Some e.value ≡ Some v → e.value ≡ v
          same h = cc

          current-kept : (b : Bool)
              → option_map (λ x. x.value) (if b then Some e else None) ≡ Some v → (deadline : ℕ) × P key v deadline
          current-kept true h = (
            e.deadline,
            subst (λ (k : List ℕ). P k v e.deadline) (sym (same_key key e.key for))
                (subst (λ (x : V). P e.key x e.deadline) (same h) all.0),
          )
          current-kept false h = absurd cc

  all-append : (es fs : List (Entry V)) → AllKept es → AllKept fs → AllKept (es ++ fs)
  all-append [] fs all more = more
  all-append (e ∷ es) fs all more = (all.0, all-append es fs all.1 more)

  pub all-filtered : (test : Entry V → Bool) (es : List (Entry V)) → AllKept es → AllKept (filter test es)
  all-filtered test [] all = tt
  all-filtered test (e ∷ es) all = by (test e) (all-filtered test es all.1)
    where
      by : (b : Bool) → AllKept (filter test es) → AllKept (if b then e ∷ filter test es else filter test es)
      by true rest = (all.0, rest)
      by false rest = rest

  abbrev Holds : Entry V → Type 0
  Holds e = P e.key e.value e.deadline

  marked : (key : List ℕ) (now : ℕ) (e : Entry V) → Holds e → Holds (if is_for key e then marked_at now e else e)
  marked key now e p = by (is_for key e) (is_current now e)
    where
      by : (own current : Bool) → Holds (if own then (if current then record e { asked_again = true } else e) else e)
      by true true = p
      by true false = p
      by false current = p

  all-asked : (key : List ℕ) (now : ℕ) (es : List (Entry V)) → AllKept es → AllKept (asked key now es)
  all-asked key now [] all = tt
  all-asked key now (e ∷ es) all = (marked key now e all.0, all-asked key now es all.1)

  all-second : (bounds : CacheBounds) (weight : ℕ) (es : List (Entry V)) → AllKept es
      → AllKept (second_round bounds weight es)
  all-second bounds weight [] all = tt
  all-second bounds weight (e ∷ es) all = by (has_room bounds weight (e ∷ es)) (all-second bounds weight es all.1)
    where
      by : (b : Bool) → AllKept (second_round bounds weight es)
          → AllKept (if b then e ∷ es else second_round bounds weight es)
      by true rest = all
      by false rest = rest

  all-first : (bounds : CacheBounds) (weight now : ℕ) (passed es : List (Entry V)) → AllKept passed → AllKept es
      → AllKept (first_round bounds weight now passed es)
  all-first bounds weight now passed [] behind all = all-second bounds weight passed behind
  all-first bounds weight now passed (e ∷ es) behind all =
      by (has_room bounds weight (e ∷ es ++ passed)) (is_passed_by now e)
      (all-first bounds weight now (passed ++ unmarked e ∷ []) es
      (all-append passed (unmarked e ∷ []) behind (all.0, tt)) all.1)
      (all-first bounds weight now passed es behind all.1)
    where
      by : (room passes : Bool) → AllKept (first_round bounds weight now (passed ++ unmarked e ∷ []) es)
          → AllKept (first_round bounds weight now passed es)
          → AllKept (if room then e ∷ es ++ passed
          else (if passes then first_round bounds weight now (passed ++ unmarked e ∷ []) es
          else first_round bounds weight now passed es))
      by true passes by-passing dropping = all-append (e ∷ es) passed all behind
      by false true by-passing dropping = by-passing
      by false false by-passing dropping = dropping

  all-stored : (key : List ℕ) (value : V) (weight deadline now : ℕ) (c : CacheValue V) → P key value deadline
      → AllKept c.entries → AllKept (stored key value weight deadline now c).entries
  all-stored key value weight deadline now c p all = by (is_kept c.bounds weight)
    where
      by : (b : Bool)
          → AllKept (if b then make_room c.bounds weight now (without key c.entries)
          ++ record {
            key = key;
            value = value;
            weight = weight;
            deadline = deadline;
            asked_again = false;
          } ∷ [] else without key c.entries)
      by true =
          all-append (make_room c.bounds weight now (without key c.entries)) _
          (all-first c.bounds weight now [] (without key c.entries) tt
          (all-filtered (λ e. not (is_for key e)) c.entries all)) (p, tt)
      by false = all-filtered (λ e. not (is_for key e)) c.entries all

  pub all-after : (c : CacheValue V) (event : CacheEvent V) → StoresSuch event → AllKept c.entries
      → AllKept (after_event c event).entries
  all-after c (stores key value weight deadline now) p all = all-stored key value weight deadline now c p all
  all-after c (asks key now) p all = all-asked key now c.entries all
  all-after c (removes key) p all = all-filtered (λ e. not (is_for key e)) c.entries all
  all-after c clears p all = tt

-- ---- what is told

module _ {V : Type 0} (key : List ℕ) (now : ℕ) where
  told-first : (other : List ℕ) (e : Entry V) (es fs : List (Entry V)) → told key now es ≡ told key now fs
      → told key now ((if is_for other e then marked_at now e else e) ∷ es) ≡ told key now (e ∷ fs)
  told-first other e es fs rest = by (is_for other e) (is_current now e) refl (is_for key e) refl
    where
      by : (marks current : Bool) → is_current now e ≡ current → (own : Bool) → is_for key e ≡ own
          → told key now ((if marks then (if current then record e { asked_again = true } else e) else e) ∷ es)
          ≡ told key now (e ∷ fs)
      by true true c true o = rw (o, c)
      by true true c false o = rw o rest
      by true false c true o = rw (o, c)
      by true false c false o = rw o rest
      by false current c true o = rw o
      by false current c false o = rw o rest

  pub told-asked-any : (other : List ℕ) (es : List (Entry V)) → told key now (asked other now es) ≡ told key now es
  told-asked-any other [] = refl
  told-asked-any other (e ∷ es) = told-first other e (asked other now es) es (told-asked-any other es)
