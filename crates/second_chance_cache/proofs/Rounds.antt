-- The hand goes round.
use Rattle.std.proofs.Common.{◌≡◌, ℕ, ◌+◌, ◌*◌, ◌<◌, ◌≤◌, Bool, true, false, cond, ◌&&◌, ◌||◌, List, [], ◌∷◌, ◌++◌, length, refl, sym, ◌∙◌, ap, subst, arith, append_assoc, append-nil}
use Rattle.std.specs.Prelude.{nat_lt, nat_le, Option, None, Some}
use Rattle.std.proofs.lemmas.Bool.{and_parts, le-leb, leb-true}
use Rattle.second_chance_cache.specs.declared.bounds.CacheBounds.{CacheBounds}
use Rattle.second_chance_cache.specs.SecondChance.{AreApart, Entry, first_round, has, has_room, is_current, is_for, is_kept, is_passed_by, make_room, second_round, unmarked}
use Rattle.second_chance_cache.specs.Clock.{live, looked_at}
use Rattle.second_chance_cache.proofs.Keys.{apart-append, has-append, or_none}
use Rattle.second_chance_cache.proofs.Slots.{live-append}

-- how much the hand has to do before nothing is left: a look for each slot, and one more for each mark
abbrev pub work_of : {V : Type 0} → Option (Entry V) → ℕ
work_of None = 1
work_of (Some e) = cond e.asked_again 2 1

abbrev pub work : {V : Type 0} → List (Option (Entry V)) → ℕ
work [] = 0
work (slot ∷ slots) = work_of slot + work slots

-- what the hand leaves of an entry and those behind it
abbrev pub looked : {V : Type 0} → ℕ → Entry V → List (Entry V) → List (Entry V)
looked now e es = cond (is_passed_by now e) (es ++ unmarked e ∷ []) es

-- nothing is passed by any more
abbrev pub AreUnmarked : {V : Type 0} → List (Entry V) → Type 0
AreUnmarked [] = Unit {0}
AreUnmarked (e ∷ es) = (e.asked_again ≡ false) × AreUnmarked es

-- there is room where nothing is
pub has_room-nothing : (V : Type 0) (bounds : CacheBounds) (weight : ℕ) → is_kept bounds weight ≡ true
    → has_room {V = V} bounds weight [] ≡ true
has_room-nothing V bounds weight kept =
    let parts = and_parts (nat_lt 0 bounds.entries) (nat_le (256 * weight) bounds.octets) kept in
    let many : 256 * weight ≤ bounds.octets = leb-true (256 * weight) bounds.octets parts.1 in
    let light : 0 + weight ≤ bounds.octets = omega arith in
    ap (λ (b : Bool). b && nat_le (0 + weight) bounds.octets) (parts.0) ∙ le-leb (0 + weight) bounds.octets light

module _ {V : Type 0} where
  pub work-append : (s t : List (Option (Entry V))) → work (s ++ t) ≡ work s + work t
  work-append [] t = omega arith
  work-append (slot ∷ s) t = omega (arith, work-append s t)

  work-some : (e : Entry V) → 0 < work_of (Some e)
  work-some e = by e.asked_again
    where
      by : (b : Bool) → 0 < cond b 2 1
      by true = omega arith
      by false = omega arith

  work-passed : (now : ℕ) (e : Entry V) → is_passed_by now e ≡ true → work_of (Some e) ≡ 2
  work-passed now e h = by e.asked_again h
    where
      by : (b : Bool) → (b && is_current now e) ≡ true → ◌≡◌ {A = ℕ} (cond b 2 1) 2
      by true h = refl
      by false h = absurd (let wrong : false ≡ true = h in cc)

  work-front : (now : ℕ) (slot : Option (Entry V)) (s : List (Option (Entry V)))
      → work (looked_at now (slot ∷ s)) < work (slot ∷ s)
  work-front now None s = omega arith
  work-front now (Some e) s = by (is_passed_by now e) refl
    where
      by : (b : Bool) → is_passed_by now e ≡ b → work (cond b (s ++ Some (unmarked e) ∷ []) s) < work (Some e ∷ s)
      by true h = omega (arith, work-append s (Some (unmarked e) ∷ []), work-passed now e h)
      by false h = omega (arith, work-some e)

  pub work-looked : (now : ℕ) (s : List (Option (Entry V))) → 0 < length s → work (looked_at now s) < work s
  work-looked now [] some = absurd (omega arith)
  work-looked now (slot ∷ s) some = work-front now slot s

  unmarked-append : (es : List (Entry V)) (e : Entry V) → AreUnmarked es → e.asked_again ≡ false
      → AreUnmarked (es ++ e ∷ [])
  unmarked-append [] e all h = (h, tt)
  unmarked-append (f ∷ es) e all h = (all.0, unmarked-append es e all.1 h)

  stays-unmarked : (now : ℕ) (e : Entry V) → e.asked_again ≡ false → is_passed_by now e ≡ false
  stays-unmarked now e h = ap (λ (b : Bool). b && is_current now e) h

  -- ---- room

  module _ (bounds : CacheBounds) (weight : ℕ) where
    abbrev room : List (Entry V) → Bool
    room es = has_room bounds weight es

    module _ (now : ℕ) where
      abbrev second : List (Entry V) → List (Entry V)
      second es = second_round bounds weight es

      abbrev first : List (Entry V) → List (Entry V) → List (Entry V)
      first passed es = first_round bounds weight now passed es

      -- who is not passed by at the end of the list is dropped before those that were passed by
      first-push : (e : Entry V) → is_passed_by now e ≡ false → (passed es : List (Entry V))
          → first passed (es ++ e ∷ []) ≡ first (e ∷ passed) es
      first-push e unasked passed [] = by (is_passed_by now e) unasked
        where
          by : (b : Bool) → b ≡ false
              → cond (room (e ∷ passed)) (e ∷ passed) (cond b (first (passed ++ unmarked e ∷ []) []) (first passed []))
              ≡ cond (room (e ∷ passed)) (e ∷ passed) (second passed)
          by true h = absurd (let wrong : true ≡ false = h in cc)
          by false h = refl
      first-push e unasked passed (f ∷ es) =
          let same : (es ++ e ∷ []) ++ passed ≡ es ++ e ∷ passed = append_assoc es (e ∷ []) passed in
          ap (λ (l : List (Entry V)). cond (room (f ∷ l)) (f ∷ l)
          (cond (is_passed_by now f) (first (passed ++ unmarked f ∷ []) (es ++ e ∷ [])) (first passed
          (es ++ e ∷ [])))) same
          ∙ ap (λ (l : List (Entry V)). cond (room (f ∷ es ++ e ∷ passed)) (f ∷ es ++ e ∷ passed)
          (cond (is_passed_by now f) l (first passed (es ++ e ∷ [])))) (first-push e unasked
          (passed ++ unmarked f ∷ []) es)
          ∙ ap (λ (l : List (Entry V)). cond (room (f ∷ es ++ e ∷ passed)) (f ∷ es ++ e ∷ passed)
          (cond (is_passed_by now f) (first (e ∷ passed ++ unmarked f ∷ []) es) l)) (first-push e unasked passed es)

      -- where there is room, none is made
      pub make_room-room : (es : List (Entry V)) → room es ≡ true → make_room bounds weight now es ≡ es
      make_room-room [] h = refl
      make_room-room (e ∷ es) h =
          let same : e ∷ es ++ [] ≡ e ∷ es = append-nil (e ∷ es) in
          ap (λ (l : List (Entry V)). cond (room l) l
          (cond (is_passed_by now e) (first (unmarked e ∷ []) es) (first [] es))) same
          ∙ ap (λ (b : Bool). cond b (e ∷ es) (cond (is_passed_by now e) (first (unmarked e ∷ []) es) (first [] es))) h

      -- where there is none, the hand looks at the first
      make_room-entry : (e : Entry V) (es : List (Entry V)) → room (e ∷ es) ≡ false
          → make_room bounds weight now (e ∷ es) ≡ make_room bounds weight now (looked now e es)
      make_room-entry e es h =
          let same : e ∷ es ++ [] ≡ e ∷ es = append-nil (e ∷ es) in
          ap (λ (l : List (Entry V)). cond (room l) l
          (cond (is_passed_by now e) (first (unmarked e ∷ []) es) (first [] es))) same
          ∙ ap (λ (b : Bool). cond b (e ∷ es) (cond (is_passed_by now e) (first (unmarked e ∷ []) es) (first [] es))) h
          ∙ by (is_passed_by now e)
        where
          by : (b : Bool)
              → cond b (first (unmarked e ∷ []) es) (first [] es) ≡ first [] (cond b (es ++ unmarked e ∷ []) es)
          by true = sym (first-push (unmarked e) refl [] es)
          by false = refl

      live-looked : (e : Entry V) (s : List (Option (Entry V)))
          → live (looked_at now (Some e ∷ s)) ≡ looked now e (live s)
      live-looked e s = by (is_passed_by now e)
        where
          by : (b : Bool)
              → live (cond b (s ++ Some (unmarked e) ∷ []) s) ≡ cond b (live s ++ unmarked e ∷ []) (live s)
          by true = live-append s (Some (unmarked e) ∷ [])
          by false = refl

      pub make_room-looked : (s : List (Option (Entry V))) → room (live s) ≡ false
          → make_room bounds weight now (live (looked_at now s)) ≡ make_room bounds weight now (live s)
      make_room-looked [] h = refl
      make_room-looked (None ∷ s) h = refl
      make_room-looked (Some e ∷ s) h =
          ap (λ (l : List (Entry V)). make_room bounds weight now l) (live-looked e s) ∙ sym (make_room-entry e
          (live s) h)

      -- where there is no room, there is a slot
      pub some-slots : is_kept bounds weight ≡ true → (s : List (Option (Entry V))) → room (live s) ≡ false
          → 0 < length s
      some-slots kept [] h = absurd (let wrong : true ≡ false = sym (has_room-nothing V bounds weight kept) ∙ h in cc)
      some-slots kept (slot ∷ s) h = omega arith

      -- ---- there is room then

      room-second : is_kept bounds weight ≡ true → (es : List (Entry V)) → room (second es) ≡ true
      room-second kept [] = has_room-nothing V bounds weight kept
      room-second kept (e ∷ es) = by (room (e ∷ es)) refl (room-second kept es)
        where
          by : (b : Bool) → room (e ∷ es) ≡ b → room (second es) ≡ true → room (cond b (e ∷ es) (second es)) ≡ true
          by true h rest = h
          by false h rest = rest

      room-first : is_kept bounds weight ≡ true → (passed es : List (Entry V)) → room (first passed es) ≡ true
      room-first kept passed [] = room-second kept passed
      room-first kept passed (e ∷ es) =
          by (room (e ∷ es ++ passed)) refl (is_passed_by now e) (room-first kept (passed ++ unmarked e ∷ []) es)
          (room-first kept passed es)
        where
          by : (b : Bool) → room (e ∷ es ++ passed) ≡ b → (is : Bool)
              → room (first (passed ++ unmarked e ∷ []) es) ≡ true → room (first passed es) ≡ true
              → room (cond b (e ∷ es ++ passed)
              (cond is (first (passed ++ unmarked e ∷ []) es) (first passed es))) ≡ true
          by true h is marked dropped = h
          by false h true marked dropped = marked
          by false h false marked dropped = dropped

      pub room-made : is_kept bounds weight ≡ true → (es : List (Entry V))
          → room (make_room bounds weight now es) ≡ true
      room-made kept es = room-first kept [] es

      -- ---- what each look keeps, the making of room keeps

      module _ (P : List (Entry V) → Type 0)
          (look : (e : Entry V) (es : List (Entry V)) → P (e ∷ es) → P (looked now e es)) where
        drops : (e : Entry V) (es : List (Entry V)) → e.asked_again ≡ false → P (e ∷ es) → P es
        drops e es h kept =
            subst (λ (b : Bool). P (cond b (es ++ unmarked e ∷ []) es)) (stays-unmarked now e h) (look e es kept)

        keeps-second : (es : List (Entry V)) → AreUnmarked es → P es → P (second es)
        keeps-second [] all h = h
        keeps-second (e ∷ es) all h = by (room (e ∷ es)) (keeps-second es all.1 (drops e es all.0 h))
          where
            by : (b : Bool) → P (second es) → P (cond b (e ∷ es) (second es))
            by true rest = h
            by false rest = rest

        keeps-first : (passed es : List (Entry V)) → AreUnmarked passed → P (es ++ passed) → P (first passed es)
        keeps-first passed [] all h = keeps-second passed all h
        keeps-first passed (e ∷ es) all h =
            by (room (e ∷ es ++ passed)) (is_passed_by now e) (look e (es ++ passed) h)
            (λ (g : P ((es ++ passed) ++ unmarked e ∷ [])).
            keeps-first (passed ++ unmarked e ∷ []) es (unmarked-append passed (unmarked e) all refl)
            (subst P (append_assoc es passed (unmarked e ∷ [])) g))
            (keeps-first passed es all)
          where
            by : (b is : Bool) → P (cond is ((es ++ passed) ++ unmarked e ∷ []) (es ++ passed))
                → (P ((es ++ passed) ++ unmarked e ∷ []) → P (first (passed ++ unmarked e ∷ []) es))
                → (P (es ++ passed) → P (first passed es))
                → P (cond b (e ∷ es ++ passed) (cond is (first (passed ++ unmarked e ∷ []) es) (first passed es)))
            by true is seen marked dropped = h
            by false true seen marked dropped = marked seen
            by false false seen marked dropped = dropped seen

        pub keeps-room : (es : List (Entry V)) → P es → P (make_room bounds weight now es)
        keeps-room es h = keeps-first [] es tt (subst P (sym (append-nil es)) h)

      -- ---- keys

      apart-looked : (e : Entry V) (es : List (Entry V)) → AreApart (e ∷ es) → AreApart (looked now e es)
      apart-looked e es apart = by (is_passed_by now e)
        where
          by : (b : Bool) → AreApart (cond b (es ++ unmarked e ∷ []) es)
          by true = apart-append es (unmarked e) apart.1 apart.0
          by false = apart.1

      pub apart-made : (es : List (Entry V)) → AreApart es → AreApart (make_room bounds weight now es)
      apart-made es apart = keeps-room (λ (l : List (Entry V)). AreApart l) apart-looked es apart

      has-looked : (key : List ℕ) (e : Entry V) (es : List (Entry V)) → has key (e ∷ es) ≡ false
          → has key (looked now e es) ≡ false
      has-looked key e es h = by (is_passed_by now e) (or_none (is_for key e) (has key es) h)
        where
          by : (b : Bool) → (is_for key e ≡ false) × (has key es ≡ false)
              → has key (cond b (es ++ unmarked e ∷ []) es) ≡ false
          by true parts =
              has-append key es (unmarked e ∷ []) parts.1 (ap (λ (is : Bool). is || false) parts.0)
          by false parts = parts.1

      pub has-made : (key : List ℕ) (es : List (Entry V)) → has key es ≡ false
          → has key (make_room bounds weight now es) ≡ false
      has-made key es h = keeps-room (λ (l : List (Entry V)). has key l ≡ false) (has-looked key) es h
