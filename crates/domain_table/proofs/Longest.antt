-- What is found is of the longest suffix that has a value.
use Rattle.std.proofs.Common.{◌≡◌, ℕ, zero, suc, ◌+◌, ◌-◌, ◌≤◌, Bool, true, false, cond, List, [], ◌∷◌, ◌++◌, length, drop, refl, sym, ◌∙◌, ap, subst, arith}
use Rattle.std.specs.Prelude.{Option, None, Some}
use Rattle.std.specs.Option.{option_map, option_map_or}
use Rattle.std.specs.List.{AllByRecursion}
use Rattle.std.proofs.lemmas.List.{drop-drop}
use Rattle.domain_table.specs.Names.{ends_name, is_short, suffixes, suffixes_behind}
use Rattle.domain_table.specs.Domains.{entry_of, first_of, found, placed}
use Rattle.domain_table.specs.Laws.{FindsTheLongest, HaveNone, IsTheLongest}

-- ---- each suffix is what is left of the name at its place

abbrev IsTail : List ℕ → List ℕ → Type 0
IsTail name suffix = drop (length name - length suffix) name ≡ suffix

tail-next : (name : List ℕ) (x : ℕ) (xs : List ℕ) → length (x ∷ xs) ≤ length name → IsTail name (x ∷ xs)
    → IsTail name xs
tail-next name x xs fits is =
    let one : length name - length xs ≡ length name - length (x ∷ xs) + 1 = omega arith in
    ap (λ (n : ℕ). drop n name) one
    ∙ sym (drop-drop 1 (length name - length (x ∷ xs)) name)
    ∙ ap (drop 1) is

tails : (name : List ℕ) (passed : ℕ) (xs : List ℕ) → length xs ≤ length name → IsTail name xs
    → AllByRecursion (IsTail name) (suffixes_behind passed xs)
tails name passed [] fits is = tt
tails name zero (x ∷ xs) fits is =
    (is, by (ends_name x) (tails name x xs (omega arith) (tail-next name x xs fits is)))
  where
    by : (b : Bool) → AllByRecursion (IsTail name) (suffixes_behind x xs)
        → AllByRecursion (IsTail name) (cond b [] (suffixes_behind x xs))
    by true rest = tt
    by false rest = rest
tails name (suc passed) (x ∷ xs) fits is = tails name passed xs (omega arith) (tail-next name x xs fits is)

suffixes-tails : (name : List ℕ) → AllByRecursion (IsTail name) (suffixes name)
suffixes-tails name =
    let all : length name - length name ≡ 0 = omega arith in
    tails name 0 name (omega arith) (ap (λ (n : ℕ). drop n name) all)

-- ---- the first that has a value

module _ {V : Type 0} where
  none-first : (es : List (List ℕ × V)) (ds : List (List ℕ)) → first_of es ds ≡ None → HaveNone es ds
  none-first es [] h = tt
  none-first es (d ∷ ds) h = by (entry_of es d) refl h (none-first es ds)
    where
      by : (o : Option V) → entry_of es d ≡ o
          → option_map_or (λ v. Some (d, v)) o (first_of es ds) ≡ None
          → (first_of es ds ≡ None → HaveNone es ds)
          → HaveNone es (d ∷ ds)
      by None is h rest = (is, rest h)
      by (Some v) is h rest = absurd cc

  -- these are split at the first that has a value, and what holds of each holds of it
  record Split (P : List ℕ → Type 0) (es : List (List ℕ × V)) (ds : List (List ℕ)) (f : List ℕ × V) : Type 0 where
    longer : List (List ℕ)
    shorter : List (List ℕ)
    parts : ds ≡ longer ++ f.0 ∷ shorter
    value_is : entry_of es f.0 ≡ Some f.1
    none : HaveNone es longer
    holds : P f.0

  first-split : (P : List ℕ → Type 0) (es : List (List ℕ × V)) (ds : List (List ℕ)) (f : List ℕ × V)
      → AllByRecursion P ds → first_of es ds ≡ Some f → Split P es ds f
  first-split P es [] f all h = absurd cc
  first-split P es (d ∷ ds) f all h = by (entry_of es d) refl h (first-split P es ds f all.1)
    where
      by : (o : Option V) → entry_of es d ≡ o
          → option_map_or (λ v. Some (d, v)) o (first_of es ds) ≡ Some f
          → (first_of es ds ≡ Some f → Split P es ds f)
          → Split P es (d ∷ ds) f
      by None is h rest =
          let s = rest h in
          record {
            longer = d ∷ s.longer;
            shorter = s.shorter;
            parts = ap (λ (l : List (List ℕ)). d ∷ l) s.parts;
            value_is = s.value_is;
            none = (is, s.none);
            holds = s.holds;
          }
      by (Some v) is h rest =
          let same : (d, v) ≡ f = cc in
          let here : Split P es (d ∷ ds) (d, v) = record {
            longer = [];
            shorter = ds;
            parts = refl;
            value_is = is;
            none = tt;
            holds = all.0;
          } in
          subst (Split P es (d ∷ ds)) same here

  longest-found : (es : List (List ℕ × V)) (name : List ℕ) → IsTheLongest es name (found name es)
  longest-found es name = by (is_short name) refl (first_of es (suffixes name)) refl
    where
      by : (b : Bool) → is_short name ≡ b → (o : Option (List ℕ × V)) → first_of es (suffixes name) ≡ o
          → IsTheLongest es name (cond b (option_map (placed name) o) None)
      by false long o is = λ short. absurd (let wrong : true ≡ false = sym short ∙ long in cc)
      by true short None is = λ _. none-first es (suffixes name) is
      by true short (Some f) is =
          let s = first-split (IsTail name) es (suffixes name) f (suffixes-tails name) is in
          record {
            longer = s.longer;
            shorter = s.shorter;
            suffix = s.parts ∙ ap (λ (d : List ℕ). s.longer ++ d ∷ s.shorter) (sym s.holds);
            value_is = ap (entry_of es) s.holds ∙ s.value_is;
            no_longer = s.none;
          }

pub finds_the_longest : (V : Type 0) → FindsTheLongest V
finds_the_longest V es name = longest-found es name
