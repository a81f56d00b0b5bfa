-- A text that is written by one write after another.
use Rattle.std.proofs.Common.{◌≡◌, ◌∙◌, ◌-◌, ◌||◌, ◌==◌, ℕ, Bool, true, false, zero, suc, nat_lt}
use Rattle.std.proofs.Common.{◌&&◌, List, [], ◌∷◌, ◌++◌, length, take, drop, Option, None}
use Rattle.std.proofs.Common.{Some, refl, sym, ap, subst, append_assoc, arith}
use Rattle.std.proofs.lemmas.Bool.Decides.{nat_tests}
use Rattle.std.proofs.lemmas.List.{append-nil, length-drop, take_all}
use Rattle.std.specs.Io.KnownBytes.{Appends, Keeps}

-- of a text, what was written so far and what is left
pub record UnderWay (text : List ℕ) (before now : Option (List ℕ)) (rest : List ℕ) : Type 0 where
  pub written : List ℕ
  pub parts : text ≡ written ++ rest
  pub appended : Appends before now written

appends_none : (held : Option (List ℕ)) → Appends held held []
appends_none None = tt
appends_none (Some bytes) = sym (append-nil bytes)

appends_more : (a b c : Option (List ℕ)) (xs ys : List ℕ) → Appends a b xs → Appends b c ys → Appends a c (xs ++ ys)
appends_more None b c xs ys first second = tt
appends_more (Some xa) None c xs ys first second = absurd first
appends_more (Some xa) (Some xb) None xs ys first second = absurd second
appends_more (Some xa) (Some xb) (Some xc) xs ys first second = second ∙ ap (λ held. held ++ ys) first ∙ append_assoc xa xs ys

appends_kept : (a b c : Option (List ℕ)) (xs : List ℕ) → Appends a b xs → Keeps b c → Appends a c xs
appends_kept None b c xs first kept = tt
appends_kept (Some xa) None c xs first kept = absurd first
appends_kept (Some xa) (Some xb) None xs first kept = absurd kept
appends_kept (Some xa) (Some xb) (Some xc) xs first kept = kept ∙ first

pub begun : (text : List ℕ) (held : Option (List ℕ)) → UnderWay text held held text
begun text held = record { written = []; parts = refl; appended = appends_none held }

cut : (count : ℕ) (rest : List ℕ) → rest ≡ take count rest ++ drop count rest
cut zero rest = refl
cut (suc count) [] = refl
cut (suc count) (x ∷ rest) = ap (λ more. x ∷ more) (cut count rest)

pub went_on : (text : List ℕ) (before held now : Option (List ℕ)) (rest more : List ℕ) (count : ℕ)
    → UnderWay text before held rest
    → Appends held now (take count rest) → more ≡ drop count rest → UnderWay text before now more
went_on text before held now rest more count way took more_is = record {
  written = way.written ++ take count rest;
  parts = way.parts ∙ ap (λ left. way.written ++ left) (cut count rest)
      ∙ sym (append_assoc way.written (take count rest) (drop count rest))
      ∙ ap (λ left. (way.written ++ take count rest) ++ left) (sym more_is);
  appended = appends_more before held now way.written (take count rest) way.appended took;
}

pub ended : (text : List ℕ) (before now : Option (List ℕ)) (rest : List ℕ) → UnderWay text before now rest → rest ≡ []
    → Appends before now text
ended text before now rest way none =
    subst (Appends before now) (sym (way.parts ∙ ap (λ left. way.written ++ left) none ∙ append-nil way.written)) way.appended

front : (written rest : List ℕ) → take (length written) (written ++ rest) ≡ written
front [] rest = refl
front (x ∷ written) rest = ap (λ more. x ∷ more) (front written rest)

-- what was written is a beginning of the text
pub stopped : (text : List ℕ) (before held now : Option (List ℕ)) (rest : List ℕ) → UnderWay text before held rest
    → Keeps held now → (count : ℕ) × Appends before now (take count text)
stopped text before held now rest way kept = (
  length way.written,
  subst (Appends before now) (sym (ap (take (length way.written)) way.parts ∙ front way.written rest))
      (appends_kept before held now way.written way.appended kept),
)

pub took_none : (text : List ℕ) (before held now : Option (List ℕ)) (rest : List ℕ) (taken : ℕ)
    → UnderWay text before held rest → Appends held now (take taken rest) → taken ≡ 0 → (count : ℕ)
    × Appends before now (take count text)
took_none text before held now rest taken way took none =
    let P : ℕ → Type 0 = λ n. Appends held now (take n rest) in
    let all = appends_more before held now way.written [] way.appended (subst P none took) in (
      length way.written,
      subst (Appends before now) (append-nil way.written
          ∙ sym (ap (take (length way.written)) way.parts ∙ front way.written rest)) all,
    )

-- what stands behind the bytes that were taken
pub behind : (taken : ℕ) (rest : List ℕ) → take (length rest - taken) (drop taken rest) ≡ drop taken rest
behind taken rest = take_all (length rest - taken) (drop taken rest) (omega (arith, length-drop taken rest))

-- whether a write failed
failed_by : (old new answered : Bool) → old ≡ false → new ≡ old || answered → new ≡ answered
failed_by false new answered h is = is
failed_by true new answered h is = absurd (let e = h in cc)

pub still_well : (old new : Bool) (taken size : ℕ) → old ≡ false → new ≡ old || (taken == 0) && nat_lt 0 size
    → (taken ≡ 0 → ⊥) → new ≡ false
still_well old new taken size well is some =
    let none : (taken == 0) ≡ false = grind (arith, nat_tests) in
    failed_by old new _ well is ∙ rw none

pub fails : (old new : Bool) (taken size : ℕ) → old ≡ false → new ≡ old || (taken == 0) && nat_lt 0 size → taken ≡ 0
    → false ≡ (size == 0) → new ≡ true
fails old new taken size well is none some =
    failed_by old new _ well is ∙ grind (arith, nat_tests)

pub fails_for_good : (old new : Bool) → new ≡ old || true → new ≡ true
fails_for_good true new is = is
fails_for_good false new is = is
