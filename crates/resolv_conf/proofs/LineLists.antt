-- The lines of a file, one after the other.
use Rattle.std.proofs.Common.{◌≡◌, ◌∙◌, ◌+◌, ℕ, Bool, true, false, not, cond, List, [], ◌∷◌, length, take, drop, map, Option, None, Some, refl, ap, arith, nat_lt, ◌==◌}
use Rattle.std.proofs.lemmas.Bool.Decides.{nat_tests}
use Rattle.std.proofs.lemmas.List.Quantifiers.{position-Some}
use Rattle.std.proofs.lemmas.List.Sums.{position_or_len_is, prefix_len-le-length}
use Rattle.std.proofs.lemmas.List.Splits.{slice_split_first, slice_split-cons_no}
use Rattle.std.specs.List.{slice_split, onto_first, position, position_or_len}
use Rattle.std.specs.Option.{option_map, option_map_or}
use Rattle.resolv_conf.specs.Text.{cut, lines_of, text_of}

abbrev pub is_feed : ℕ → Bool
is_feed octet = octet == 10

-- a line, and what stands behind its end
split_at : (bs : List ℕ) (n : ℕ) → position is_feed bs ≡ Some n → slice_split is_feed bs ≡ take n bs ∷ slice_split is_feed (drop (n + 1) bs)
split_at bs n at =
    let found = position-Some is_feed bs n 0 at in
    let first : position_or_len is_feed bs ≡ n = position_or_len_is is_feed bs n 0 (omega arith) found.2 (λ _. found.1) in
    slice_split_first is_feed bs 0 (omega arith)
    ∙ ap (λ k. take k bs ∷ slice_split is_feed (drop (k + 1) bs)) first

whole_by : (t : Bool) (b : ℕ) (bs : List ℕ) → is_feed b ≡ t → (position_or_len is_feed bs ≡ length bs → slice_split is_feed bs ≡ bs ∷ []) → cond (not t) (1 + position_or_len is_feed bs) 0 ≡ length (b ∷ bs) → slice_split is_feed (b ∷ bs) ≡ (b ∷ bs) ∷ []
whole_by true b bs h rest e = absurd (omega arith)
whole_by false b bs h rest e = slice_split-cons_no is_feed b bs h ∙ ap (onto_first b) (rest (omega arith))

whole : (bs : List ℕ) → position_or_len is_feed bs ≡ length bs → slice_split is_feed bs ≡ bs ∷ []
whole [] e = refl
whole (b ∷ bs) e = whole_by (is_feed b) b bs refl (whole bs) e

none_test : (t : Bool) (n : ℕ) → cond t (Some n) None ≡ None → t ≡ false
none_test true n e = absurd (let h = e in cc)
none_test false n e = refl

-- the last line, which has no end
split_last : (bs : List ℕ) → position is_feed bs ≡ None → slice_split is_feed bs ≡ bs ∷ []
split_last bs none =
    let past = none_test (nat_lt (position_or_len is_feed bs) (length bs)) (position_or_len is_feed bs) none in
    let most = prefix_len-le-length (λ b. not (is_feed b)) bs in
    whole bs (grind (arith, nat_tests))

-- what a cut says of the place
cut-some : (o : Option ℕ) (f : ℕ → List ℕ × List ℕ) (parts : List ℕ × List ℕ) → option_map f o ≡ Some parts → (n : ℕ) × (o ≡ Some n) × (f n ≡ parts)
cut-some None f parts e = absurd (let h = e in cc)
cut-some (Some n) f parts e = (n, refl, let h = e in cc)

cut-none : (o : Option ℕ) (f : ℕ → List ℕ × List ℕ) → option_map f o ≡ None → o ≡ None
cut-none None f e = refl
cut-none (Some n) f e = absurd (let h = e in cc)

pub lines_of-cut : (bs line rest : List ℕ) → cut 10 bs ≡ Some (line, rest) → lines_of bs ≡ text_of line ∷ lines_of rest
unfolding cut lines_of
lines_of-cut bs line rest e =
    let at = cut-some (position is_feed bs) (λ n. (take n bs, drop (n + 1) bs)) (line, rest) e in
    let front : take at.0 bs ≡ line = ap (λ p. p.0) at.2 in
    let back : drop (at.0 + 1) bs ≡ rest = ap (λ p. p.1) at.2 in
    ap (map text_of) (split_at bs at.0 at.1)
    ∙ ap (λ l. text_of l ∷ map text_of (slice_split is_feed (drop (at.0 + 1) bs))) front
    ∙ ap (λ r. text_of line ∷ map text_of (slice_split is_feed r)) back

pub lines_of-last : (bs : List ℕ) → cut 10 bs ≡ None → lines_of bs ≡ text_of bs ∷ []
unfolding cut lines_of
lines_of-last bs e = ap (map text_of) (split_last bs (cut-none (position is_feed bs) (λ n. (take n bs, drop (n + 1) bs)) e))

pub cut-at : (b n : ℕ) (bs : List ℕ) → position (λ x. x == b) bs ≡ Some n → cut b bs ≡ Some (take n bs, drop (n + 1) bs)
unfolding cut
cut-at b n bs e = ap (option_map (λ k. (take k bs, drop (k + 1) bs))) e

pub cut-nowhere : (b : ℕ) (bs : List ℕ) → position (λ x. x == b) bs ≡ None → cut b bs ≡ None
unfolding cut
cut-nowhere b bs e = ap (option_map (λ k. (take k bs, drop (k + 1) bs))) e

pub text_of-cut : (line text rest : List ℕ) → cut 0 line ≡ Some (text, rest) → text_of line ≡ text
unfolding text_of
text_of-cut line text rest e = ap (λ o. option_map_or (λ parts. parts.0) o line) e

pub text_of-whole : (line : List ℕ) → cut 0 line ≡ None → text_of line ≡ line
unfolding text_of
text_of-whole line e = ap (λ o. option_map_or (λ parts. parts.0) o line) e
