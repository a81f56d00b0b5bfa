-- The lines of a script, one after the other.
use Rattle.std.proofs.Common.{◌≡◌, ◌∙◌, ◌<◌, ◌+◌, ℕ, Bool, true, false, not, cond, List, [], ◌∷◌, length, take, drop, None, Some, refl, ap, arith, nat_lt, ◌==◌}
use Rattle.std.proofs.lemmas.Bool.Decides.{nat_tests}
use Rattle.std.proofs.lemmas.List.Quantifiers.{position-Some}
use Rattle.std.proofs.lemmas.List.Sums.{position_or_len_is, prefix_len-le-length}
use Rattle.std.proofs.lemmas.List.Splits.{slice_split_first, slice_split-cons_no, length-slice_split}
use Rattle.std.specs.List.{slice_split, onto_first, position, position_or_len, before_first, after_first}
use Rattle.std.specs.Str.Lines.{lines, lines_of_parts, strip_carriage_return}

abbrev pub is_newline : ℕ → Bool
is_newline byte = byte == 10

-- a part that another follows is a line
line_before : (part : List ℕ) (parts : List (List ℕ)) → 0 < length parts → lines_of_parts (part ∷ parts) ≡ strip_carriage_return part ∷ lines_of_parts parts
line_before part [] some = absurd (omega arith)
line_before part (x ∷ parts) some = refl

nonempty : (bs : List ℕ) → 0 < length bs → (length bs == 0) ≡ false
nonempty bs some = grind (arith, nat_tests)

parts_some : (bs : List ℕ) → 0 < length (slice_split is_newline bs)
parts_some bs = omega (arith, length-slice_split is_newline bs)

-- a line, and what stands behind its end
pub lines-ended : (bs : List ℕ) (n : ℕ) → position is_newline bs ≡ Some n → lines bs ≡ strip_carriage_return (take n bs) ∷ lines (drop (n + 1) bs)
lines-ended bs n at =
    let found = position-Some is_newline bs n 0 at in
    let first : position_or_len is_newline bs ≡ n = position_or_len_is is_newline bs n 0 (omega arith) found.2 (λ _. found.1) in
    let parts = slice_split_first is_newline bs 0 (omega arith) in
    ap lines_of_parts parts
    ∙ line_before (before_first is_newline bs) (slice_split is_newline (after_first is_newline bs)) (parts_some (after_first is_newline bs))
    ∙ ap (λ k. strip_carriage_return (take k bs) ∷ lines (drop (k + 1) bs)) first

whole_by : (t : Bool) (b : ℕ) (bs : List ℕ) → is_newline b ≡ t → (position_or_len is_newline bs ≡ length bs → slice_split is_newline bs ≡ bs ∷ []) → cond (not t) (1 + position_or_len is_newline bs) 0 ≡ length (b ∷ bs) → slice_split is_newline (b ∷ bs) ≡ (b ∷ bs) ∷ []
whole_by true b bs h rest e = absurd (omega arith)
whole_by false b bs h rest e = slice_split-cons_no is_newline b bs h ∙ ap (onto_first b) (rest (omega arith))

whole : (bs : List ℕ) → position_or_len is_newline bs ≡ length bs → slice_split is_newline bs ≡ bs ∷ []
whole [] e = refl
whole (b ∷ bs) e = whole_by (is_newline b) b bs refl (whole bs) e

none_test : (t : Bool) (n : ℕ) → cond t (Some n) None ≡ None → t ≡ false
none_test true n e = absurd (let h = e in cc)
none_test false n e = refl

-- the last line, which has no end
pub lines-last : (bs : List ℕ) → position is_newline bs ≡ None → 0 < length bs → lines bs ≡ bs ∷ []
lines-last bs none some =
    let past = none_test (nat_lt (position_or_len is_newline bs) (length bs)) (position_or_len is_newline bs) none in
    let most = prefix_len-le-length (λ b. not (is_newline b)) bs in
    let all : position_or_len is_newline bs ≡ length bs = grind (arith, nat_tests) in
    ap lines_of_parts (whole bs all) ∙ rw (nonempty bs some)
