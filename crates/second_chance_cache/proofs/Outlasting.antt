-- What was asked for again outlasts what is not asked for.
use Rattle.std.proofs.Common.{◌≡◌, ℕ, ◌≤◌, Bool, true, false, cond, not, ◌&&◌, ◌||◌, ◌⊎◌, inl, inr, List, [], ◌∷◌, ◌++◌, refl, sym, ◌∙◌, ap, subst, arith, append_assoc}
use Rattle.std.specs.Prelude.{find, Some}
use Rattle.std.specs.List.{AllByRecursion}
use Rattle.std.specs.Str.{bytes_eq}
use Rattle.std.proofs.lemmas.Bool.{le-leb}
use Rattle.second_chance_cache.specs.SecondChance.{CacheValue, Entry, asked, has, is_current, is_for, is_kept, is_passed_by, make_room, marked_at, stored, unmarked, without}
use Rattle.second_chance_cache.specs.Laws.{CacheEvent, stores, asks, removes, clears, IsBetween, IsUnasked, OutlastsWhatIsNotAskedFor, after_event, after_events}
use Rattle.second_chance_cache.proofs.Keys.{has-append, has-asked, has-without, key_flip, or_none, same_key}
use Rattle.second_chance_cache.proofs.Rounds.{keeps-room, looked}

module _ {V : Type 0} (kept other : List ℕ) (deadline : ℕ) where
  -- It is in the list, current up to the deadline, and marked, or nothing of the other key stands behind it.
  record Stands (es : List (Entry V)) : Type 0 where
    before : List (Entry V)
    entry : Entry V
    behind : List (Entry V)
    are : es ≡ before ++ entry ∷ behind
    for : is_for kept entry ≡ true
    lasts : deadline ≤ entry.deadline
    chance : (entry.asked_again ≡ true) ⊎ (has other behind ≡ false)

  -- or nothing of the other key is there
  abbrev Outlasts : List (Entry V) → Type 0
  Outlasts es = IsUnasked other es × ((has other es ≡ false) ⊎ Stands es)

  -- ---- lists

  unasked-append : (es : List (Entry V)) (e : Entry V) → IsUnasked other es
      → (is_for other e ≡ true → e.asked_again ≡ false)
      → IsUnasked other (es ++ e ∷ [])
  unasked-append [] e all h = (h, tt)
  unasked-append (f ∷ es) e all h = (all.0, unasked-append es e all.1 h)

  has-push : (es : List (Entry V)) (e : Entry V) → has other es ≡ false → is_for other e ≡ false
      → has other (es ++ e ∷ []) ≡ false
  has-push es e h g = has-append other es (e ∷ []) h (ap (λ (b : Bool). b || false) g)

  has-kept : (before behind : List (Entry V)) (e : Entry V) → is_for kept e ≡ true
      → has kept (before ++ e ∷ behind) ≡ true
  has-kept [] behind e h = ap (λ (b : Bool). b || has kept behind) h
  has-kept (f ∷ before) behind e h =
      ap (λ (b : Bool). is_for kept f || b) (has-kept before behind e h) ∙ or_true (is_for kept f)
    where
      or_true : (b : Bool) → (b || true) ≡ true
      or_true true = refl
      or_true false = refl

  -- ---- the hand looks at an entry

  module _ (now : ℕ) (early : now ≤ deadline) where
    -- what is passed by is not of the other key
    passed-differs : (e : Entry V) → (is_for other e ≡ true → e.asked_again ≡ false) → is_passed_by now e ≡ true
        → is_for other e ≡ false
    passed-differs e unasked passed = by (is_for other e) refl
      where
        by : (b : Bool) → is_for other e ≡ b → b ≡ false
        by true h =
            let dropped : is_passed_by now e ≡ false = ap (λ (m : Bool). m && is_current now e) (unasked h) in
            absurd (let wrong : true ≡ false = sym passed ∙ dropped in cc)
        by false h = refl

    unasked-looked : (e : Entry V) (es : List (Entry V)) → IsUnasked other (e ∷ es) → IsUnasked other (looked now e es)
    unasked-looked e es all = by (is_passed_by now e)
      where
        by : (b : Bool) → IsUnasked other (cond b (es ++ unmarked e ∷ []) es)
        by true = unasked-append es (unmarked e) all.1 (λ _. refl)
        by false = all.1

    has-looked : (e : Entry V) (es : List (Entry V)) → has other (e ∷ es) ≡ false → has other (looked now e es) ≡ false
    has-looked e es h = by (is_passed_by now e) (or_none (is_for other e) (has other es) h)
      where
        by : (b : Bool) → (is_for other e ≡ false) × (has other es ≡ false)
            → has other (cond b (es ++ unmarked e ∷ []) es) ≡ false
        by true parts = has-push es (unmarked e) parts.1 parts.0
        by false parts = parts.1

    -- it is the first itself
    first-looked : (e : Entry V) (es : List (Entry V)) → is_for kept e ≡ true → deadline ≤ e.deadline
        → (e.asked_again ≡ true) ⊎ (has other es ≡ false)
        → (has other (looked now e es) ≡ false) ⊎ Stands (looked now e es)
    first-looked e es for lasts chance = by (is_passed_by now e) refl chance
      where
        by : (b : Bool) → is_passed_by now e ≡ b → (e.asked_again ≡ true) ⊎ (has other es ≡ false)
            → (has other (cond b (es ++ unmarked e ∷ []) es) ≡ false) ⊎ Stands (cond b (es ++ unmarked e ∷ []) es)
        by true h any =
            inr (record {
              before = es;
              entry = unmarked e;
              behind = [];
              are = refl;
              for = for;
              lasts = lasts;
              chance = inr refl;
            })
        by false h (inl marked) =
            let current : is_current now e ≡ true = le-leb now e.deadline (omega arith) in
            let passed : is_passed_by now e ≡ true =
            ap (λ (m : Bool). m && is_current now e) marked ∙ current in
            absurd (let wrong : true ≡ false = sym passed ∙ h in cc)
        by false h (inr gone) = inl gone

    -- it stands behind the first
    later-looked : (f : Entry V) (before behind : List (Entry V)) (e : Entry V)
        → (is_for other f ≡ true → f.asked_again ≡ false) → is_for kept e ≡ true → deadline ≤ e.deadline
        → (e.asked_again ≡ true) ⊎ (has other behind ≡ false)
        → Stands (looked now f (before ++ e ∷ behind))
    later-looked f before behind e unasked for lasts chance = by (is_passed_by now f) refl chance
      where
        by : (b : Bool) → is_passed_by now f ≡ b → (e.asked_again ≡ true) ⊎ (has other behind ≡ false)
            → Stands (cond b ((before ++ e ∷ behind) ++ unmarked f ∷ []) (before ++ e ∷ behind))
        by true h (inl marked) = record {
          before = before;
          entry = e;
          behind = behind ++ unmarked f ∷ [];
          are = append_assoc before (e ∷ behind) (unmarked f ∷ []);
          for = for;
          lasts = lasts;
          chance = inl marked;
        }
        by true h (inr gone) = record {
          before = before;
          entry = e;
          behind = behind ++ unmarked f ∷ [];
          are = append_assoc before (e ∷ behind) (unmarked f ∷ []);
          for = for;
          lasts = lasts;
          chance = inr (has-push behind (unmarked f) gone (passed-differs f unasked h));
        }
        by false h any = record {
          before = before;
          entry = e;
          behind = behind;
          are = refl;
          for = for;
          lasts = lasts;
          chance = any;
        }

    stands-looked : (f : Entry V) (es before behind : List (Entry V)) (e : Entry V)
        → (is_for other f ≡ true → f.asked_again ≡ false) → f ∷ es ≡ before ++ e ∷ behind
        → is_for kept e ≡ true → deadline ≤ e.deadline → (e.asked_again ≡ true) ⊎ (has other behind ≡ false)
        → (has other (looked now f es) ≡ false) ⊎ Stands (looked now f es)
    stands-looked f es [] behind e unasked are for lasts chance =
        let first : f ≡ e = cc in
        let rest : es ≡ behind = cc in
        subst (λ (l : List (Entry V)). (has other (looked now f l) ≡ false) ⊎ Stands (looked now f l)) (sym rest)
        (subst (λ (x : Entry V). (has other (looked now x behind) ≡ false) ⊎ Stands (looked now x behind)) (sym first)
        (first-looked e behind for lasts chance))
    stands-looked f es (x ∷ before) behind e unasked are for lasts chance =
        let rest : es ≡ before ++ e ∷ behind = cc in
        subst (λ (l : List (Entry V)). (has other (looked now f l) ≡ false) ⊎ Stands (looked now f l)) (sym rest)
        (inr (later-looked f before behind e unasked for lasts chance))

    outlasts-looked : (f : Entry V) (es : List (Entry V)) → Outlasts (f ∷ es) → Outlasts (looked now f es)
    outlasts-looked f es h = (unasked-looked f es h.0, by h.1)
      where
        by : (has other (f ∷ es) ≡ false) ⊎ Stands (f ∷ es)
            → (has other (looked now f es) ≡ false) ⊎ Stands (looked now f es)
        by (inl gone) = inl (has-looked f es gone)
        by (inr s) = stands-looked f es s.before s.behind s.entry h.0.0 s.are s.for s.lasts s.chance

  -- ---- a key goes

  module _ (key : List ℕ) where
    unasked-without : (es : List (Entry V)) → IsUnasked other es → IsUnasked other (without key es)
    unasked-without [] all = tt
    unasked-without (e ∷ es) all = by (is_for key e) (unasked-without es all.1)
      where
        by : (b : Bool) → IsUnasked other (without key es)
            → IsUnasked other (cond (not b) (e ∷ without key es) (without key es))
        by true rest = rest
        by false rest = (all.0, rest)

    without-around : (before behind : List (Entry V)) (e : Entry V) → is_for key e ≡ false
        → without key (before ++ e ∷ behind) ≡ without key before ++ e ∷ without key behind
    without-around [] behind e h =
        ap (λ (b : Bool). cond (not b) (e ∷ without key behind) (without key behind)) h
    without-around (f ∷ before) behind e h = by (is_for key f) (without-around before behind e h)
      where
        by : (b : Bool) → without key (before ++ e ∷ behind) ≡ without key before ++ e ∷ without key behind
            → cond (not b) (f ∷ without key (before ++ e ∷ behind)) (without key (before ++ e ∷ behind))
            ≡ cond (not b) (f ∷ without key before) (without key before) ++ e ∷ without key behind
        by true rest = rest
        by false rest = ap (λ (l : List (Entry V)). f ∷ l) rest

    -- an entry of the kept key is not of another
    not-for : (e : Entry V) → bytes_eq kept key ≡ false → is_for kept e ≡ true → is_for key e ≡ false
    not-for e differs for =
        subst (λ (k : List ℕ). bytes_eq key k ≡ false) (same_key kept e.key for) (key_flip kept key differs)

    outlasts-without : (es : List (Entry V)) → bytes_eq kept key ≡ false → Outlasts es → Outlasts (without key es)
    outlasts-without es differs h = (unasked-without es h.0, by h.1)
      where
        by : (has other es ≡ false) ⊎ Stands es → (has other (without key es) ≡ false) ⊎ Stands (without key es)
        by (inl gone) = inl (has-without other key es gone)
        by (inr s) =
            inr (record {
              before = without key s.before;
              entry = s.entry;
              behind = without key s.behind;
              are = ap (λ (l : List (Entry V)). without key l) s.are
                  ∙ without-around s.before s.behind s.entry (not-for s.entry differs s.for);
              for = s.for;
              lasts = s.lasts;
              chance = still s.chance;
            })
          where
            still : (s.entry.asked_again ≡ true) ⊎ (has other s.behind ≡ false)
                → (s.entry.asked_again ≡ true) ⊎ (has other (without key s.behind) ≡ false)
            still (inl marked) = inl marked
            still (inr gone) = inr (has-without other key s.behind gone)

    -- ---- a key is asked for

    module _ (now : ℕ) (differs : bytes_eq other key ≡ false) where
      abbrev one : Entry V → Entry V
      one e = cond (is_for key e) (marked_at now e) e

      one-same : (e : Entry V) → is_for other e ≡ true → one e ≡ e
      one-same e for =
          let is : is_for key e ≡ false =
          subst (λ (k : List ℕ). bytes_eq key k ≡ false) (same_key other e.key for) (key_flip other key differs) in
          ap (λ (b : Bool). cond b (marked_at now e) e) is

      -- what an entry is, whether it was asked for or not
      one-is : (P : Entry V → Type 0) (e : Entry V) → P e → P (record e { asked_again = true }) → P (one e)
      one-is P e same marked = by (is_for key e) (is_current now e)
        where
          by : (b d : Bool) → P (cond b (cond d (record e { asked_again = true }) e) e)
          by true true = marked
          by true false = same
          by false d = same

      one-other : (e : Entry V) → is_for other (one e) ≡ is_for other e
      one-other e = one-is (λ (x : Entry V). is_for other x ≡ is_for other e) e refl refl

      unasked-asked : (es : List (Entry V)) → IsUnasked other es → IsUnasked other (asked key now es)
      unasked-asked [] all = tt
      unasked-asked (e ∷ es) all = (
        λ for.
            let own : is_for other e ≡ true = sym (one-other e) ∙ for in
            ap (λ (x : Entry V). x.asked_again) (one-same e own) ∙ all.0 own,
        unasked-asked es all.1,
      )

      asked-around : (before behind : List (Entry V)) (e : Entry V)
          → asked key now (before ++ e ∷ behind) ≡ asked key now before ++ one e ∷ asked key now behind
      asked-around [] behind e = refl
      asked-around (f ∷ before) behind e = ap (λ (l : List (Entry V)). one f ∷ l) (asked-around before behind e)

      outlasts-asked : (es : List (Entry V)) → Outlasts es → Outlasts (asked key now es)
      outlasts-asked es h = (unasked-asked es h.0, by h.1)
        where
          by : (has other es ≡ false) ⊎ Stands es → (has other (asked key now es) ≡ false) ⊎ Stands (asked key now es)
          by (inl gone) = inl (has-asked key now other es ∙ gone)
          by (inr s) =
              inr (record {
                before = asked key now s.before;
                entry = one s.entry;
                behind = asked key now s.behind;
                are = ap (λ (l : List (Entry V)). asked key now l) s.are ∙ asked-around s.before s.behind s.entry;
                for = one-is (λ (x : Entry V). is_for kept x ≡ true) s.entry s.for s.for;
                lasts = one-is (λ (x : Entry V). deadline ≤ x.deadline) s.entry s.lasts s.lasts;
                chance = still s.chance;
              })
            where
              still : (s.entry.asked_again ≡ true) ⊎ (has other s.behind ≡ false)
                  → ((one s.entry).asked_again ≡ true) ⊎ (has other (asked key now s.behind) ≡ false)
              still (inl marked) = inl (one-is (λ (x : Entry V). x.asked_again ≡ true) s.entry marked refl)
              still (inr gone) = inr (has-asked key now other s.behind ∙ gone)

  -- ---- one more comes in

  outlasts-push : (es : List (Entry V)) (e : Entry V) → is_for other e ≡ false → e.asked_again ≡ false → Outlasts es
      → Outlasts (es ++ e ∷ [])
  outlasts-push es e differs fresh h = (unasked-append es e h.0 (λ _. fresh), by h.1)
    where
      by : (has other es ≡ false) ⊎ Stands es → (has other (es ++ e ∷ []) ≡ false) ⊎ Stands (es ++ e ∷ [])
      by (inl gone) = inl (has-push es e gone differs)
      by (inr s) =
          inr (record {
            before = s.before;
            entry = s.entry;
            behind = s.behind ++ e ∷ [];
            are = ap (λ (l : List (Entry V)). l ++ e ∷ []) s.are ∙ append_assoc s.before (s.entry ∷ s.behind) (e ∷ []);
            for = s.for;
            lasts = s.lasts;
            chance = still s.chance;
          })
        where
          still : (s.entry.asked_again ≡ true) ⊎ (has other s.behind ≡ false)
              → (s.entry.asked_again ≡ true) ⊎ (has other (s.behind ++ e ∷ []) ≡ false)
          still (inl marked) = inl marked
          still (inr gone) = inr (has-push s.behind e gone differs)

  outlasts-stored : (key : List ℕ) (value : V) (weight until now : ℕ) (c : CacheValue V)
      → bytes_eq kept key ≡ false → bytes_eq other key ≡ false → now ≤ deadline → Outlasts c.entries
      → Outlasts (stored key value weight until now c).entries
  outlasts-stored key value weight until now c differs unlike early h =
      by (is_kept c.bounds weight) (outlasts-without key c.entries differs h)
    where
      by : (b : Bool) → Outlasts (without key c.entries)
          → Outlasts (cond b (make_room c.bounds weight now (without key c.entries)
          ++ record { key = key; value = value; weight = weight; deadline = until; asked_again = false } ∷ [])
          (without key c.entries))
      by true rest =
          outlasts-push (make_room c.bounds weight now (without key c.entries))
          (record { key = key; value = value; weight = weight; deadline = until; asked_again = false }) unlike refl
          (keeps-room c.bounds weight now (λ (l : List (Entry V)). Outlasts l) (outlasts-looked now early)
          (without key c.entries) rest)
      by false rest = rest

  -- ---- events

  outlasts-event : (c : CacheValue V) (event : CacheEvent V) → IsBetween kept other deadline event → Outlasts c.entries
      → Outlasts (after_event c event).entries
  outlasts-event c (stores key value weight until now) is h =
      outlasts-stored key value weight until now c is.0 is.1 is.2 h
  outlasts-event c (asks key now) is h = outlasts-asked key now is c.entries h
  outlasts-event c (removes key) is h = outlasts-without key c.entries is h
  outlasts-event c clears is h = (tt, inl refl)

  outlasts-events : (c : CacheValue V) (events : List (CacheEvent V))
      → AllByRecursion (IsBetween kept other deadline) events
      → Outlasts c.entries → Outlasts (after_events c events).entries
  outlasts-events c [] all h = h
  outlasts-events c (event ∷ events) all h =
      outlasts-events (after_event c event) events all.1 (outlasts-event c event all.0 h)

  -- ---- the beginning and the end

  found-stands : (es : List (Entry V)) (e : Entry V) → find (is_for kept) es ≡ Some e → e.asked_again ≡ true
      → deadline ≤ e.deadline → Stands es
  found-stands [] e found marked lasts = absurd cc
  found-stands (f ∷ es) e found marked lasts =
      by (is_for kept f) refl found (λ (h : find (is_for kept) es ≡ Some e). found-stands es e h marked lasts)
    where
      by : (b : Bool) → is_for kept f ≡ b → cond b (Some f) (find (is_for kept) es) ≡ Some e
          → (find (is_for kept) es ≡ Some e → Stands es) → Stands (f ∷ es)
      by true for h rest =
          let is : f ≡ e = cc in record {
            before = [];
            entry = e;
            behind = es;
            are = ap (λ (x : Entry V). x ∷ es) is;
            for = subst (λ (x : Entry V). is_for kept x ≡ true) is for;
            lasts = lasts;
            chance = inl marked;
          }
      by false for h rest =
          let s = rest h in record {
            before = f ∷ s.before;
            entry = s.entry;
            behind = s.behind;
            are = ap (λ (l : List (Entry V)). f ∷ l) s.are;
            for = s.for;
            lasts = s.lasts;
            chance = s.chance;
          }

  still-there : (es : List (Entry V)) → Outlasts es → has other es ≡ true → has kept es ≡ true
  still-there es h there = by h.1
    where
      by : (has other es ≡ false) ⊎ Stands es → has kept es ≡ true
      by (inl gone) = absurd (let wrong : true ≡ false = sym there ∙ gone in cc)
      by (inr s) = ap (λ (l : List (Entry V)). has kept l) s.are ∙ has-kept s.before s.behind s.entry s.for

pub outlasts_what_is_not_asked_for : (V : Type 0) → OutlastsWhatIsNotAskedFor V
outlasts_what_is_not_asked_for V c kept other e events found marked unasked between there =
    still-there kept other e.deadline (after_events c events).entries
    (outlasts-events kept other e.deadline c events between
    (unasked, inr (found-stands kept other e.deadline c.entries e found marked (omega arith)))) there
