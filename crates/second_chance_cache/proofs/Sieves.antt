-- The entries whose keys pass a test are removed.
use Rattle.std.proofs.Common.{◌≡◌, ℕ, suc, ◌+◌, ◌-◌, ◌<◌, ◌≤◌, Bool, true, false, ◌⊎◌, inl, inr, List, [], ◌∷◌, ◌++◌, length, map, refl, sym, ◌∙◌, ap, subst, arith, append_assoc, append-nil}
use Rattle.std.specs.Prelude.{slice_index_or, Option, None, Some}
use Rattle.second_chance_cache.specs.SecondChance.{Entry, IsLeft, all_weight}
use Rattle.second_chance_cache.specs.Clock.{FrontAnswers, IsSieved, SlotAnswers, dropped, live, turned}
use Rattle.second_chance_cache.proofs.Slots.{live-append}

module _ {V : Type 0} (answers : List ℕ → Bool → Type 0) where
  -- ---- what is left

  pub left-length : (es left : List (Entry V)) → IsLeft answers es left → length left ≤ length es
  left-length [] left h = omega (arith, ap length h)
  left-length (e ∷ es) left h = by h.2 (left-length es h.0 h.1)
    where
      by : (answers e.key true × (left ≡ h.0)) ⊎ (answers e.key false × (left ≡ e ∷ h.0)) → length h.0 ≤ length es
          → length left ≤ suc (length es)
      by (inl gone) less = omega (arith, ap length gone.1)
      by (inr stays) less = omega (arith, ap length stays.1)

  pub left-weight : (es left : List (Entry V)) → IsLeft answers es left → all_weight left ≤ all_weight es
  left-weight [] left h = omega (arith, ap all_weight h)
  left-weight (e ∷ es) left h = by h.2 (left-weight es h.0 h.1)
    where
      by : (answers e.key true × (left ≡ h.0)) ⊎ (answers e.key false × (left ≡ e ∷ h.0))
          → all_weight h.0 ≤ all_weight es
          → all_weight left ≤ e.weight + all_weight es
      by (inl gone) less = omega (arith, ap all_weight gone.1)
      by (inr stays) less = omega (arith, ap all_weight stays.1)

  left-gone : (es left : List (Entry V)) (e : Entry V) → IsLeft answers es left → answers e.key true
      → IsLeft answers (es ++ e ∷ []) left
  left-gone [] left e h passes = ([], refl, inl (passes, h))
  left-gone (f ∷ es) left e h passes = (h.0, left-gone es h.0 e h.1 passes, h.2)

  left-stays : (es left : List (Entry V)) (e : Entry V) → IsLeft answers es left → answers e.key false
      → IsLeft answers (es ++ e ∷ []) (left ++ e ∷ [])
  left-stays [] left e h other = ([], refl, inr (other, ap (λ (l : List (Entry V)). l ++ e ∷ []) h))
  left-stays (f ∷ es) left e h other = (h.0 ++ e ∷ [], left-stays es h.0 e h.1 other, by h.2)
    where
      by : (answers f.key true × (left ≡ h.0)) ⊎ (answers f.key false × (left ≡ f ∷ h.0))
          → (answers f.key true × (left ++ e ∷ [] ≡ h.0 ++ e ∷ [])) ⊎ (answers f.key false ×
          (left ++ e ∷ [] ≡ f ∷ h.0 ++ e ∷ []))
      by (inl gone) = inl (gone.0, ap (λ (l : List (Entry V)). l ++ e ∷ []) gone.1)
      by (inr stays) = inr (stays.0, ap (λ (l : List (Entry V)). l ++ e ∷ []) stays.1)

  -- ---- the first slot

  pub front-some : (s : List (Option (Entry V))) (x : Option (Entry V)) (b : Bool) → 0 < length s
      → x ≡ slice_index_or s 0 x
      → SlotAnswers answers x b → FrontAnswers answers s b
  front-some [] x b some is h = absurd (omega arith)
  front-some (slot ∷ s) x b some is h = subst (λ (o : Option (Entry V)). SlotAnswers answers o b) is h

  pub front-none : (s : List (Option (Entry V))) → length s ≤ 0 → FrontAnswers answers s false
  front-none [] none = refl
  front-none (slot ∷ s) none = absurd (omega arith)

  pub sieved-dropped : (s : List (Option (Entry V))) → FrontAnswers answers s true → IsSieved answers s (dropped s)
  sieved-dropped [] h = refl
  sieved-dropped (None ∷ s) h = refl
  sieved-dropped (Some e ∷ s) h = inl (h, refl)

  pub sieved-turned : (s : List (Option (Entry V))) → FrontAnswers answers s false → IsSieved answers s (turned s)
  sieved-turned [] h = refl
  sieved-turned (None ∷ s) h = refl
  sieved-turned (Some e ∷ s) h = inr (h, refl)

  -- ---- one slot after another

  -- Some slots were seen, and so many are left to see. What is left of those that were seen stands behind the others.
  pub record Sieving (began now : List (Option (Entry V))) (left : ℕ) : Type 0 where
    pub seen : List (Option (Entry V))
    pub rest : List (Option (Entry V))
    pub kept : List (Entry V)
    pub were : began ≡ seen ++ rest
    pub long : length rest ≡ left
    pub are : now ≡ rest ++ map Some kept
    pub sieved : IsLeft answers (live seen) kept

  pub sieving-none : (s : List (Option (Entry V))) (left : ℕ) → left ≡ length s → Sieving s s left
  sieving-none s left long = record {
    seen = [];
    rest = s;
    kept = [];
    were = refl;
    long = sym long;
    are = sym (append-nil s);
    sieved = refl;
  }

  some-append : (es : List (Entry V)) (e : Entry V) → map Some es ++ Some e ∷ [] ≡ map Some (es ++ e ∷ [])
  some-append [] e = refl
  some-append (f ∷ es) e = ap (λ (l : List (Option (Entry V))). Some f ∷ l) (some-append es e)

  module _ (began now after : List (Option (Entry V))) (left : ℕ) (some : 0 < left) where
    sieving-slot : (seen : List (Option (Entry V))) (slot : Option (Entry V)) (rest : List (Option (Entry V)))
        (kept : List (Entry V))
        → began ≡ seen ++ slot ∷ rest → suc (length rest) ≡ left → IsLeft answers (live seen) kept
        → IsSieved answers (slot ∷ rest ++ map Some kept) after → Sieving began after (left - 1)
    sieving-slot seen None rest kept were long sieved step = record {
      seen = seen ++ None ∷ [];
      rest = rest;
      kept = kept;
      were = were ∙ sym (append_assoc seen (None ∷ []) rest);
      long = omega arith;
      are = step;
      sieved = subst (λ (l : List (Entry V)). IsLeft answers l kept)
          (sym (live-append seen (None ∷ []) ∙ append-nil (live seen))) sieved;
    }
    sieving-slot seen (Some e) rest kept were long sieved (inl gone) = record {
      seen = seen ++ Some e ∷ [];
      rest = rest;
      kept = kept;
      were = were ∙ sym (append_assoc seen (Some e ∷ []) rest);
      long = omega arith;
      are = gone.1;
      sieved = subst (λ (l : List (Entry V)). IsLeft answers l kept) (sym (live-append seen (Some e ∷ [])))
          (left-gone (live seen) kept e sieved gone.0);
    }
    sieving-slot seen (Some e) rest kept were long sieved (inr stays) = record {
      seen = seen ++ Some e ∷ [];
      rest = rest;
      kept = kept ++ e ∷ [];
      were = were ∙ sym (append_assoc seen (Some e ∷ []) rest);
      long = omega arith;
      are = stays.1 ∙ append_assoc rest (map Some kept) (Some e ∷ [])
          ∙ ap (λ (l : List (Option (Entry V))). rest ++ l) (some-append kept e);
      sieved = subst (λ (l : List (Entry V)). IsLeft answers l (kept ++ e ∷ [])) (sym (live-append seen (Some e ∷ [])))
          (left-stays (live seen) kept e sieved stays.0);
    }

    sieving-rest : (seen rest : List (Option (Entry V))) (kept : List (Entry V)) → began ≡ seen ++ rest
        → length rest ≡ left
        → IsLeft answers (live seen) kept → IsSieved answers (rest ++ map Some kept) after
        → Sieving began after (left - 1)
    sieving-rest seen [] kept were long sieved step = absurd (omega arith)
    sieving-rest seen (slot ∷ rest) kept were long sieved step = sieving-slot seen slot rest kept were long sieved step

    pub sieving-step : Sieving began now left → IsSieved answers now after → Sieving began after (left - 1)
    sieving-step h step =
        sieving-rest h.seen h.rest h.kept h.were h.long h.sieved
        (subst (λ (l : List (Option (Entry V))). IsSieved answers l after) h.are step)

  live-some : (es : List (Entry V)) → live (map Some es) ≡ es
  live-some [] = refl
  live-some (e ∷ es) = ap (λ (l : List (Entry V)). e ∷ l) (live-some es)

  ended : (began now seen rest : List (Option (Entry V))) (kept : List (Entry V)) → began ≡ seen ++ rest
      → length rest ≡ 0
      → now ≡ rest ++ map Some kept → IsLeft answers (live seen) kept → IsLeft answers (live began) (live now)
  ended began now seen [] kept were long are sieved =
      let first : live seen ≡ live began = ap live (sym (were ∙ append-nil seen)) in
      let last : kept ≡ live now = sym (ap live are ∙ live-some kept) in
      subst (λ (l : List (Entry V)). IsLeft answers l (live now)) first
      (subst (λ (l : List (Entry V)). IsLeft answers (live seen) l) last sieved)
  ended began now seen (slot ∷ rest) kept were long are sieved = absurd (omega arith)

  pub sieving-ended : (began now : List (Option (Entry V))) (left : ℕ) → Sieving began now left → left ≡ 0
      → IsLeft answers (live began) (live now)
  sieving-ended began now left h none =
      ended began now h.seen h.rest h.kept h.were (h.long ∙ none) h.are h.sieved
