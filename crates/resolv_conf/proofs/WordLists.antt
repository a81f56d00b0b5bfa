-- The words of a line, one after the other.
use Rattle.std.proofs.Common.{subst, ◌≡◌, ◌∙◌, ℕ, Bool, true, false, cond, List, [], ◌∷◌, length, drop, filter, refl, sym, ap, nat_lt}
use Rattle.std.proofs.lemmas.List.Sums.{take_while-cons}
use Rattle.std.proofs.lemmas.List.Splits.{slice_split-cons_yes, slice_split-cons_no}
use Rattle.std.specs.List.{take_while, slice_split, onto_first}
use Rattle.resolv_conf.specs.Text.{is_blank, is_plain, unindented, words}

abbrev pub is_filled : List ℕ → Bool
is_filled word = nat_lt 0 (length word)

-- the blanks that a line begins with make no word
skipped_by : (t : Bool) (b : ℕ) (bs : List ℕ) → is_blank b ≡ t → words (drop (length (take_while is_blank bs)) bs) ≡ words bs → words (drop (length (cond t (b ∷ take_while is_blank bs) [])) (b ∷ bs)) ≡ words (b ∷ bs)
skipped_by true b bs h rest = rest ∙ ap (filter is_filled) (sym (slice_split-cons_yes is_blank b bs h))
skipped_by false b bs h rest = refl

pub words-skipped : (bs : List ℕ) → words (drop (length (take_while is_blank bs)) bs) ≡ words bs
words-skipped [] = refl
words-skipped (b ∷ bs) = rw (take_while-cons is_blank b bs) (skipped_by (is_blank b) b bs refl (words-skipped bs))

-- what stands before the first blank, and the words behind it
pub record IsFirstPart (bs : List ℕ) : Type 0 where
  pub others : List (List ℕ)
  pub parts_are : slice_split is_blank bs ≡ take_while is_plain bs ∷ others
  pub words_are : filter is_filled others ≡ words (drop (length (take_while is_plain bs)) bs)

first_by : (t : Bool) (b : ℕ) (bs : List ℕ) → is_blank b ≡ t → IsFirstPart bs → IsFirstPart (b ∷ bs)
first_by true b bs h rest =
    let here : take_while is_plain (b ∷ bs) ≡ [] = rw (take_while-cons is_plain b bs, h) in
    let parts = slice_split-cons_yes is_blank b bs h in
    record {
      others = slice_split is_blank bs;
      parts_are = parts ∙ ap (λ f. f ∷ slice_split is_blank bs) (sym here);
      words_are = rw (here, parts);
    }
first_by false b bs h rest =
    let here : take_while is_plain (b ∷ bs) ≡ b ∷ take_while is_plain bs = rw (take_while-cons is_plain b bs, h) in
    let parts : slice_split is_blank (b ∷ bs) ≡ (b ∷ take_while is_plain bs) ∷ rest.others = slice_split-cons_no is_blank b bs h ∙ ap (onto_first b) rest.parts_are in
    record {
      others = rest.others;
      parts_are = parts ∙ ap (λ f. f ∷ rest.others) (sym here);
      words_are = rest.words_are ∙ ap (λ f. words (drop (length f) (b ∷ bs))) (sym here);
    }

pub first_part : (bs : List ℕ) → IsFirstPart bs
first_part [] = record { others = []; parts_are = refl; words_are = refl }
first_part (b ∷ bs) = first_by (is_blank b) b bs refl (first_part bs)

-- where no word begins the line is blank
none_by : (t : Bool) (b : ℕ) (bs : List ℕ) → is_blank b ≡ t → (take_while is_plain (unindented bs) ≡ [] → unindented bs ≡ []) → take_while is_plain (drop (length (cond t (b ∷ take_while is_blank bs) [])) (b ∷ bs)) ≡ [] → drop (length (cond t (b ∷ take_while is_blank bs) [])) (b ∷ bs) ≡ []
none_by true b bs h rest none = rest none
none_by false b bs h rest none =
    let here : take_while is_plain (b ∷ bs) ≡ b ∷ take_while is_plain bs = rw (take_while-cons is_plain b bs, h) in
    let both : b ∷ take_while is_plain bs ≡ [] = sym here ∙ none in
    absurd (let e = both in cc)

pub none_begins : (bs : List ℕ) → take_while is_plain (unindented bs) ≡ [] → unindented bs ≡ []
none_begins [] none = refl
none_begins (b ∷ bs) none =
    let P : List ℕ → Type 0 = λ w. take_while is_plain (drop (length w) (b ∷ bs)) ≡ [] → drop (length w) (b ∷ bs) ≡ [] in
    subst P (sym (take_while-cons is_blank b bs)) (none_by (is_blank b) b bs refl (none_begins bs)) none

-- how the iterator cuts a line: behind its blanks, and before the next blank
pub record IsCut (bs text word rest : List ℕ) : Type 0 where
  pub text_is : text ≡ unindented bs
  pub word_is : word ≡ take_while is_plain text
  pub rest_is : rest ≡ drop (length (take_while is_plain text)) text

-- no word is left
pub words-none : (bs text word rest : List ℕ) → IsCut bs text word rest → word ≡ [] → (words bs ≡ []) × (words rest ≡ [])
words-none bs text word rest cut none =
    let here : take_while is_plain (unindented bs) ≡ [] = ap (take_while is_plain) (sym cut.text_is) ∙ sym cut.word_is ∙ none in
    let blank : text ≡ [] = cut.text_is ∙ none_begins bs here in
    (sym (words-skipped bs) ∙ ap words (sym cut.text_is ∙ blank), ap words cut.rest_is ∙ ap (λ t. words (drop (length (take_while is_plain t)) t)) blank)

-- a word is left, and others
pub words-some : (bs text word rest : List ℕ) → IsCut bs text word rest → is_filled word ≡ true → words bs ≡ word ∷ words rest
words-some bs text word rest cut some =
    let first = first_part text in
    let parts : slice_split is_blank text ≡ word ∷ first.others = first.parts_are ∙ ap (λ f. f ∷ first.others) (sym cut.word_is) in
    let behind : filter is_filled first.others ≡ words rest = first.words_are ∙ ap words (sym cut.rest_is) in
    let kept : filter is_filled (word ∷ first.others) ≡ word ∷ words rest = rw (some, behind) in
    sym (words-skipped bs) ∙ ap words (sym cut.text_is) ∙ ap (filter is_filled) parts ∙ kept
