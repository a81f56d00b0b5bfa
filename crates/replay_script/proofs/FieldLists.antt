-- The fields of a line, one after the other.
use Rattle.std.proofs.Common.{zero, subst, ◌≡◌, ◌∙◌, ◌<◌, ◌≤◌, ◌+◌, ◌-◌, ℕ, suc, Bool, true, false, cond, List, [], ◌∷◌, length, drop, filter, get_or, refl, sym, ap, arith, nat_lt}
use Rattle.std.proofs.lemmas.Bool.Decides.{nat_tests}
use Rattle.std.proofs.lemmas.Grind.{common_steps}
use Rattle.std.proofs.lemmas.List.Sums.{take_while-cons, prefix_len_passes, prefix_len_stops, prefix_len-le-length}
use Rattle.std.proofs.lemmas.List.Folds.{length-prefix_len}
use Rattle.std.proofs.lemmas.List.Splits.{slice_split-cons_yes, slice_split-cons_no}
use Rattle.std.proofs.lemmas.Str.{IsCharBoundary-after_ascii, IsCharBoundary-start}
use Rattle.std.specs.List.{take_while, slice_split, onto_first, prefix_len}
use Rattle.std.specs.Str.{IsUtf8, IsCharBoundary}
use Rattle.replay_script.specs.Fields.{is_blank, is_plain, fields}

abbrev pub is_filled : List ℕ → Bool
is_filled field = nat_lt 0 (length field)

blank_ascii : (b : ℕ) → is_blank b ≡ true → b < 128
blank_ascii b h = grind (arith, nat_tests, common_steps)

-- the blanks that a line begins with make no field
skipped_by : (t : Bool) (b : ℕ) (bs : List ℕ) → is_blank b ≡ t → fields (drop (length (take_while is_blank bs)) bs) ≡ fields bs → fields (drop (length (cond t (b ∷ take_while is_blank bs) [])) (b ∷ bs)) ≡ fields (b ∷ bs)
skipped_by true b bs h rest = rest ∙ ap (filter is_filled) (sym (slice_split-cons_yes is_blank b bs h))
skipped_by false b bs h rest = refl

pub fields-skipped : (bs : List ℕ) → fields (drop (length (take_while is_blank bs)) bs) ≡ fields bs
fields-skipped [] = refl
fields-skipped (b ∷ bs) = rw (take_while-cons is_blank b bs) (skipped_by (is_blank b) b bs refl (fields-skipped bs))

cut_after : (bs : List ℕ) (n : ℕ) → IsUtf8 bs → n ≤ length bs → (0 < n → get_or bs (n - 1) 0 < 128) → IsCharBoundary bs n
cut_after bs zero u le low = IsCharBoundary-start bs u
cut_after bs (suc k) u le low =
    let back : suc k - 1 ≡ k = omega arith in
    let forth : k + 1 ≡ suc k = omega arith in
    let below : get_or bs (suc k - 1) 0 < 128 = low (omega arith) in
    let P : ℕ → Type 0 = λ n. IsCharBoundary bs n in
    let Q : ℕ → Type 0 = λ n. get_or bs n 0 < 128 in
    subst P forth (IsCharBoundary-after_ascii bs k u (omega arith) (subst Q back below))

-- a text may be cut behind the blanks that it begins with
pub boundary_after_blanks : (bs : List ℕ) → IsUtf8 bs → IsCharBoundary bs (length (take_while is_blank bs))
boundary_after_blanks bs u =
    let P : ℕ → Type 0 = λ n. IsCharBoundary bs n in
    subst P (sym (length-prefix_len is_blank bs))
    (cut_after bs (prefix_len is_blank bs) u (prefix_len-le-length is_blank bs)
    (λ some. blank_ascii _ (prefix_len_passes is_blank bs (prefix_len is_blank bs - 1) 0 (omega arith))))

plain_end : (b : ℕ) → is_plain b ≡ false → b < 128
plain_end b h = grind (arith, nat_tests, common_steps)

-- and before a blank
pub boundary_before_blank : (bs : List ℕ) → IsCharBoundary bs (length (take_while is_plain bs))
boundary_before_blank bs =
    let P : ℕ → Type 0 = λ n. IsCharBoundary bs n in
    subst P (sym (length-prefix_len is_plain bs))
    (prefix_len-le-length is_plain bs, λ less high. absurd (let low : get_or bs (prefix_len is_plain bs) 0 < 128 = plain_end _ (prefix_len_stops is_plain bs 0 less) in omega arith))

-- what stands before the first blank, and the fields behind it
pub record IsFirstPart (bs : List ℕ) : Type 0 where
  pub others : List (List ℕ)
  pub parts_are : slice_split is_blank bs ≡ take_while is_plain bs ∷ others
  pub fields_are : filter is_filled others ≡ fields (drop (length (take_while is_plain bs)) bs)

first_by : (t : Bool) (b : ℕ) (bs : List ℕ) → is_blank b ≡ t → IsFirstPart bs → IsFirstPart (b ∷ bs)
first_by true b bs h rest =
    let here : take_while is_plain (b ∷ bs) ≡ [] = rw (take_while-cons is_plain b bs, h) in
    let parts = slice_split-cons_yes is_blank b bs h in
    record {
      others = slice_split is_blank bs;
      parts_are = parts ∙ ap (λ f. f ∷ slice_split is_blank bs) (sym here);
      fields_are = rw (here, parts);
    }
first_by false b bs h rest =
    let here : take_while is_plain (b ∷ bs) ≡ b ∷ take_while is_plain bs = rw (take_while-cons is_plain b bs, h) in
    let parts : slice_split is_blank (b ∷ bs) ≡ (b ∷ take_while is_plain bs) ∷ rest.others = slice_split-cons_no is_blank b bs h ∙ ap (onto_first b) rest.parts_are in
    record {
      others = rest.others;
      parts_are = parts ∙ ap (λ f. f ∷ rest.others) (sym here);
      fields_are = rest.fields_are ∙ ap (λ f. fields (drop (length f) (b ∷ bs))) (sym here);
    }

pub first_part : (bs : List ℕ) → IsFirstPart bs
first_part [] = record { others = []; parts_are = refl; fields_are = refl }
first_part (b ∷ bs) = first_by (is_blank b) b bs refl (first_part bs)

-- a line without blanks before it
abbrev pub unindented : List ℕ → List ℕ
unindented bs = drop (length (take_while is_blank bs)) bs

-- where no field begins the line is blank
none_by : (t : Bool) (b : ℕ) (bs : List ℕ) → is_blank b ≡ t → (take_while is_plain (unindented bs) ≡ [] → unindented bs ≡ []) → take_while is_plain (drop (length (cond t (b ∷ take_while is_blank bs) [])) (b ∷ bs)) ≡ [] → drop (length (cond t (b ∷ take_while is_blank bs) [])) (b ∷ bs) ≡ []
none_by true b bs h rest none = rest none
none_by false b bs h rest none =
    let here : take_while is_plain (b ∷ bs) ≡ b ∷ take_while is_plain bs = rw (take_while-cons is_plain b bs, h) in
    let both : b ∷ take_while is_plain bs ≡ [] = sym here ∙ none in
    absurd (let e = both in cc)

pub none_begins : (bs : List ℕ) → take_while is_plain (unindented bs) ≡ [] → unindented bs ≡ []
none_begins [] none = refl
none_begins (b ∷ bs) none =
    let P : List ℕ → Type 0 = λ w. take_while is_plain (drop (length w) (b ∷ bs)) ≡ [] → drop (length w) (b ∷ bs) ≡ [] in
    subst P (sym (take_while-cons is_blank b bs)) (none_by (is_blank b) b bs refl (none_begins bs)) none

-- how the iterator cuts a line: behind its blanks, and before the next blank
pub record IsCut (bs text field rest : List ℕ) : Type 0 where
  pub text_is : text ≡ unindented bs
  pub field_is : field ≡ take_while is_plain text
  pub rest_is : rest ≡ drop (length (take_while is_plain text)) text

-- no field is left
pub fields-none : (bs text field rest : List ℕ) → IsCut bs text field rest → field ≡ [] → (fields bs ≡ []) × (fields rest ≡ [])
fields-none bs text field rest cut none =
    let here : take_while is_plain (unindented bs) ≡ [] = ap (take_while is_plain) (sym cut.text_is) ∙ sym cut.field_is ∙ none in
    let blank : text ≡ [] = cut.text_is ∙ none_begins bs here in
    (sym (fields-skipped bs) ∙ ap fields (sym cut.text_is ∙ blank), ap fields cut.rest_is ∙ ap (λ t. fields (drop (length (take_while is_plain t)) t)) blank)

-- a field is left, and others
pub fields-some : (bs text field rest : List ℕ) → IsCut bs text field rest → is_filled field ≡ true → fields bs ≡ field ∷ fields rest
fields-some bs text field rest cut some =
    let first = first_part text in
    let parts : slice_split is_blank text ≡ field ∷ first.others = first.parts_are ∙ ap (λ f. f ∷ first.others) (sym cut.field_is) in
    let behind : filter is_filled first.others ≡ fields rest = first.fields_are ∙ ap fields (sym cut.rest_is) in
    let kept : filter is_filled (field ∷ first.others) ≡ field ∷ fields rest = rw (some, behind) in
    sym (fields-skipped bs) ∙ ap fields (sym cut.text_is) ∙ ap (filter is_filled) parts ∙ kept
