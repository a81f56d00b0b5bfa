-- What is told was noted.
use Rattle.std.proofs.Common.{◌≡◌, ℕ, ◌+◌, ◌≤◌, Bool, true, false, cond, filter, not, List, [], ◌∷◌, ◌++◌, refl, sym, subst, arith}
use Rattle.std.specs.Prelude.{Option, None, Some, find, nat_le, MatchBool}
use Rattle.std.specs.Option.{option_map, option_and_then}
use Rattle.std.specs.List.{AllByRecursion}
use Rattle.std.specs.Str.{bytes_eq}
use Rattle.std.specs.Cmp.Lexicographic.{bytes_decides}
use Rattle.std.proofs.lemmas.Bool.{leb-true}
use Rattle.second_chance_cache.specs.SecondChance.{Entry, first_round, has_room, if_current, is_current, is_for, is_kept, is_passed_by, make_room, second_round, told, unmarked, without}
use Rattle.second_chance_cache.specs.declared.bounds.CacheBounds.{CacheBounds}
use Rattle.kept_failures.specs.Failures.{FailuresValue, failure_behind, noted, reason_at, remembered_until, saturated, seconds_after, weight_of}
use Rattle.kept_failures.specs.Laws.{FailureEvent, notes, forgets, forgets_where, clears, after_events, WasNoted, TellsWhatWasNoted}
use Rattle.kept_failures.specs.declared.choices.TheConstants.{MOST_SECONDS}
use Rattle.kept_failures.specs.declared.failure.KeptFailure.{KeptFailure}

-- nothing of the key came
traced-on : (key other : List ℕ) (here later : Type 0) → bytes_eq other key ≡ false → later
    → MatchBool (bytes_eq other key) here later
traced-on key other here later h more = subst (λ (b : Bool). MatchBool b here later) (sym h) more

traced-own : (key : List ℕ) (here later : Type 0) → here → MatchBool (bytes_eq key key) here later
traced-own key here later more =
    subst (λ (b : Bool). MatchBool b here later) (sym ((bytes_decides key key).1 refl)) more

none-or : (b : Bool) (P Q : Type 0) → (P → Q) → MatchBool b ⊥ P → MatchBool b ⊥ Q
none-or true P Q step h = h
none-or false P Q step h = step h

abbrev Entries : Type 0 → Type 0
Entries R = List (Entry (KeptFailure R))

same_key : (a b : List ℕ) → bytes_eq a b ≡ true → a ≡ b
same_key a b e = (bytes_decides a b).0 e

module _ {R : Type 0} where
  -- ---- what no mark changes holds of what is left

  module _ (P : List ℕ → KeptFailure R → Type 0) where
    abbrev Holds : Entry (KeptFailure R) → Type 0
    Holds e = P e.key e.value

    abbrev AllHold : Entries R → Type 0
    AllHold es = AllByRecursion Holds es

    all-append : (es fs : Entries R) → AllHold es → AllHold fs → AllHold (es ++ fs)
    all-append [] fs all more = more
    all-append (e ∷ es) fs all more = (all.0, all-append es fs all.1 more)

    all-second : (bounds : CacheBounds) (weight : ℕ) (es : Entries R) → AllHold es
        → AllHold (second_round bounds weight es)
    all-second bounds weight [] all = tt
    all-second bounds weight (e ∷ es) all = by (has_room bounds weight (e ∷ es)) (all-second bounds weight es all.1)
      where
        by : (b : Bool) → AllHold (second_round bounds weight es)
            → AllHold (cond b (e ∷ es) (second_round bounds weight es))
        by true more = all
        by false more = more

    all-first : (bounds : CacheBounds) (weight now : ℕ) (passed es : Entries R) → AllHold passed → AllHold es
        → AllHold (first_round bounds weight now passed es)
    all-first bounds weight now passed [] past all = all-second bounds weight passed past
    all-first bounds weight now passed (e ∷ es) past all =
        by (has_room bounds weight (e ∷ es ++ passed)) (is_passed_by now e)
        (all-append (e ∷ es) passed all past)
        (all-first bounds weight now (passed ++ unmarked e ∷ []) es
        (all-append passed (unmarked e ∷ []) past (all.0, tt)) all.1)
        (all-first bounds weight now passed es past all.1)
      where
        by : (room passes : Bool) → AllHold (e ∷ es ++ passed)
            → AllHold (first_round bounds weight now (passed ++ unmarked e ∷ []) es)
            → AllHold (first_round bounds weight now passed es)
            → AllHold (cond room (e ∷ es ++ passed)
            (cond passes (first_round bounds weight now (passed ++ unmarked e ∷ []) es)
            (first_round bounds weight now passed es)))
        by true passes a b c = a
        by false true a b c = b
        by false false a b c = c

    -- of the entry that is found
    found-holds : (key : List ℕ) (es : Entries R) (e : Entry (KeptFailure R)) → AllHold es
        → find (is_for key) es ≡ Some e
        → P key e.value
    found-holds key [] e all h = absurd cc
    found-holds key (f ∷ es) e all h = by (bytes_eq key f.key) refl (found-holds key es e all.1) h
      where
        by : (b : Bool) → bytes_eq key f.key ≡ b → (find (is_for key) es ≡ Some e → P key e.value)
            → cond b (Some f) (find (is_for key) es) ≡ Some e → P key e.value
        by true same more is =
            let own : f ≡ e = cc in
            let there : f.key ≡ key = sym (same_key key f.key same) in
            subst (λ (g : Entry (KeptFailure R)). P key g.value) own (subst (λ (k : List ℕ). P k f.value) there all.0)
        by false other more is = more is

  -- without a key, the rest has other keys
  all-without : (P Q : List ℕ → KeptFailure R → Type 0) (key : List ℕ)
      → ((other : List ℕ) (f : KeptFailure R) → bytes_eq other key ≡ false → P other f → Q other f)
      → (es : Entries R) → AllHold P es → AllHold Q (without key es)
  all-without P Q key step [] all = tt
  all-without P Q key step (e ∷ es) all = by (bytes_eq key e.key) refl (all-without P Q key step es all.1)
    where
      other : bytes_eq key e.key ≡ false → (b : Bool) → bytes_eq e.key key ≡ b → b ≡ false
      other h false g = refl
      other h true g =
          let is : e.key ≡ key = same_key e.key key g in
          let yes : bytes_eq e.key e.key ≡ true = subst (λ (k : List ℕ). bytes_eq e.key k ≡ true) (sym is) g in
          let no : bytes_eq e.key e.key ≡ false = subst (λ (k : List ℕ). bytes_eq k e.key ≡ false) (sym is) h in
          cc

      by : (b : Bool) → bytes_eq key e.key ≡ b → AllHold Q (without key es)
          → AllHold Q (cond (not b) (e ∷ without key es) (without key es))
      by true h more = more
      by false h more = (step e.key e.value (other h (bytes_eq e.key key) refl) all.0, more)

  -- without the keys that pass a test, the rest has others
  all-left : (P Q : List ℕ → KeptFailure R → Type 0) (test : List ℕ → Bool)
      → ((key : List ℕ) (f : KeptFailure R) → test key ≡ false → P key f → Q key f)
      → (es : Entries R) → AllHold P es → AllHold Q (filter (λ e. not (test e.key)) es)
  all-left P Q test step [] all = tt
  all-left P Q test step (e ∷ es) all = by (test e.key) refl (all-left P Q test step es all.1)
    where
      by : (b : Bool) → test e.key ≡ b → AllHold Q (filter (λ e. not (test e.key)) es)
          → AllHold Q (cond (not b) (e ∷ filter (λ e. not (test e.key)) es) (filter (λ e. not (test e.key)) es))
      by true h more = more
      by false h more = (step e.key e.value h all.0, more)

  -- ---- what was noted

  -- the reason and the last second of each were noted
  abbrev IsTraced : List (FailureEvent R) → List ℕ → KeptFailure R → Type 0
  IsTraced past key f = WasNoted key f.reason f.until past

  seconds-few : (last : Option (KeptFailure R)) → seconds_after last ≤ MOST_SECONDS
  seconds-few None = omega arith
  seconds-few (Some last) = omega arith

  traced-noted : (past : List (FailureEvent R)) (key : List ℕ) (reason : R) (now : ℕ) (c : FailuresValue R)
      → AllHold (IsTraced past) c.entries
      → AllHold (IsTraced (notes key reason now ∷ past)) (noted key reason now c).entries
  traced-noted past key reason now c all =
      by (is_kept c.bounds (weight_of key))
      (all-without (IsTraced past) (IsTraced (notes key reason now ∷ past)) key
      (λ other f h more. traced-on key other ((f.reason ≡ reason) × (f.until ≤ now + MOST_SECONDS))
      (WasNoted other f.reason f.until past) h more)
      c.entries all)
    where
      f : KeptFailure R
      f = failure_behind (told key now c.entries) reason now

      here : (g : KeptFailure R) → g ≡ failure_behind (told key now c.entries) reason now
          → IsTraced (notes key reason now ∷ past) key g
      here g is =
          subst (λ (h : KeptFailure R). IsTraced (notes key reason now ∷ past) key h) (sym is)
          (traced-own key
          ((reason ≡ reason) × (saturated (now + seconds_after (told key now c.entries)) ≤ now + MOST_SECONDS))
          (WasNoted key reason (saturated (now + seconds_after (told key now c.entries))) past)
          (refl, omega (arith, seconds-few (told key now c.entries))))

      by : (b : Bool) → AllHold (IsTraced (notes key reason now ∷ past)) (without key c.entries)
          → AllHold (IsTraced (notes key reason now ∷ past))
          (cond b (make_room c.bounds (weight_of key) now (without key c.entries)
          ++ record {
            key = key;
            value = failure_behind (told key now c.entries) reason now;
            weight = weight_of key;
            deadline = remembered_until (failure_behind (told key now c.entries) reason now);
            asked_again = false;
          } ∷ []) (without key c.entries))
      by true more =
          all-append (IsTraced (notes key reason now ∷ past))
          (make_room c.bounds (weight_of key) now (without key c.entries)) _
          (all-first (IsTraced (notes key reason now ∷ past)) c.bounds (weight_of key) now []
          (without key c.entries) tt more)
          (here (failure_behind (told key now c.entries) reason now) refl, tt)
      by false more = more

  traced : (bounds : CacheBounds) (past : List (FailureEvent R))
      → AllHold (IsTraced past) (after_events bounds past).entries
  traced bounds [] = tt
  traced bounds (notes key reason now ∷ past) =
      traced-noted past key reason now (after_events bounds past) (traced bounds past)
  traced bounds (forgets key ∷ past) =
      all-without (IsTraced past) (IsTraced (forgets key ∷ past)) key
      (λ other f h more. traced-on key other ⊥ (WasNoted other f.reason f.until past) h more)
      (after_events bounds past).entries (traced bounds past)
  traced bounds (forgets_where test ∷ past) =
      all-left (IsTraced past) (IsTraced (forgets_where test ∷ past)) test
      (λ key f h more. subst (λ (b : Bool). MatchBool b ⊥ (WasNoted key f.reason f.until past)) (sym h) more)
      (after_events bounds past).entries (traced bounds past)
  traced bounds (clears ∷ past) = tt

  -- ---- what is told

  sooner : (past : List (FailureEvent R)) (key : List ℕ) (reason : R) (now until : ℕ) → now ≤ until
      → WasNoted key reason until past → WasNoted key reason now past
  sooner [] key reason now until le h = h
  sooner (notes other why at ∷ past) key reason now until le h =
      by (bytes_eq key other) (sooner past key reason now until le) h
    where
      by : (b : Bool) → (WasNoted key reason until past → WasNoted key reason now past)
          → MatchBool b ((reason ≡ why) × (until ≤ at + MOST_SECONDS)) (WasNoted key reason until past)
          → MatchBool b ((reason ≡ why) × (now ≤ at + MOST_SECONDS)) (WasNoted key reason now past)
      by true more g = (g.0, omega (arith, g.1))
      by false more g = more g
  sooner (forgets other ∷ past) key reason now until le h =
      none-or (bytes_eq key other) (WasNoted key reason until past) (WasNoted key reason now past)
      (sooner past key reason now until le) h
  sooner (forgets_where test ∷ past) key reason now until le h =
      none-or (test key) (WasNoted key reason until past) (WasNoted key reason now past)
      (sooner past key reason now until le) h
  sooner (clears ∷ past) key reason now until le h = h

  told-noted : (past : List (FailureEvent R)) (es : Entries R) (key : List ℕ) (now : ℕ) (reason : R)
      → AllHold (IsTraced past) es → option_and_then (reason_at now) (told key now es) ≡ Some reason
      → WasNoted key reason now past
  told-noted past es key now reason all h = by (find (is_for key) es) refl h
    where
      told-at : (f : KeptFailure R) → IsTraced past key f → (b : Bool) → nat_le now f.until ≡ b
          → cond b (Some f.reason) None ≡ Some reason → WasNoted key reason now past
      told-at f is true late g =
          let same : f.reason ≡ reason = cc in
          subst (λ (r : R). WasNoted key r now past) same
          (sooner past key f.reason now f.until (leb-true now f.until late) is)
      told-at f is false late g = absurd cc

      current : (e : Entry (KeptFailure R)) → IsTraced past key e.value → (b : Bool)
          → option_and_then (reason_at now) (option_map (λ e. e.value) (cond b (Some e) None)) ≡ Some reason
          → WasNoted key reason now past
      current e is true g = told-at e.value is (nat_le now e.value.until) refl g
      current e is false g = absurd cc

      by : (found : Option (Entry (KeptFailure R))) → find (is_for key) es ≡ found
          → option_and_then (reason_at now) (option_map (λ e. e.value) (option_and_then (if_current now) found))
          ≡ Some reason
          → WasNoted key reason now past
      by None is g = absurd cc
      by (Some e) is g = current e (found-holds (IsTraced past) key es e all is) (is_current now e) g

pub tells_what_was_noted : (R : Type 0) → TellsWhatWasNoted R
tells_what_was_noted R bounds past key now reason h =
    told-noted past (after_events bounds past).entries key now reason (traced bounds past) h
