-- Runs of bytes that stand for themselves in the text of a name.
use Rattle.std.proofs.Common.{◌≡◌, ℕ, suc, ◌+◌, ◌-◌, ◌≤◌, Bool, true, false, List, [], ◌∷◌, ◌++◌, map, length, get_or, take, drop, sym, refl, ap, ◌∙◌, append_assoc, append-nil, arith, subst}
use Rattle.std.proofs.Math.Seq.{take-length}
use Rattle.std.proofs.lemmas.Bool.{and_from, and_parts}
use Rattle.std.proofs.lemmas.List.{length-append, length-map, map-append}
use Rattle.std.specs.List.{list_all}
use Rattle.hickory_proto_names.specs.NameText.{Written, itself, is_plain, piece_bytes, written_byte, IsCutInto, is_empty}
use Rattle.hickory_proto_names.specs.NameTextParts.{are_plain}
use Rattle.hickory_proto_names.specs.NameSteps.{cut-char}

-- a plain byte, and the plain ones behind it
pub plain_front : (first : Bool) (t : List ℕ) (n : ℕ) → 1 ≤ length t → is_plain first (get_or t 0 0) ≡ true
    → list_all (is_plain false) (take n (take (length t - 1) (drop 1 t))) ≡ true → are_plain first (take (1 + n) t) ≡ true
plain_front first [] n some front later = absurd (omega arith)
plain_front first (b ∷ t) n some front later = ap (λ k. are_plain first (take k (b ∷ t))) more ∙ and_from _ _ front (ap (λ l. list_all (is_plain false) (take n l)) (sym rest) ∙ later)
  where
    more : 1 + n ≡ suc n
    more = omega arith

    rest : take (length (b ∷ t) - 1) t ≡ t
    rest = let same : length (b ∷ t) - 1 ≡ length t = omega arith in rw same (take-length t)

later_plain : (run : List ℕ) → list_all (is_plain false) run ≡ true → are_plain false run ≡ true
later_plain [] h = refl
later_plain (b ∷ run) h = h

not_empty : (last : List Written) (w : Written) → is_empty (last ++ w ∷ []) ≡ false
not_empty [] w = refl
not_empty (v ∷ vs) w = refl

-- the last piece grows by a run
pub cut-run : {text rest after : List ℕ} (before : List (List Written)) (last : List Written) (run : List ℕ)
    → IsCutInto text (before ++ last ∷ []) rest → rest ≡ run ++ after → are_plain (is_empty last) run ≡ true
    → IsCutInto text (before ++ (last ++ map itself run) ∷ []) after
cut-run {text = text} {after = after} before last [] cut begins plain =
    let P : List Written → Type 0 = λ l. IsCutInto text (before ++ l ∷ []) after in
    subst P (sym (append-nil last)) (subst (IsCutInto text (before ++ last ∷ [])) begins cut)
cut-run {text = text} {after = after} before last (b ∷ run) cut begins plain =
    let parts = and_parts (is_plain (is_empty last) b) (list_all (is_plain false) run) plain in
    let one = cut-char before last (itself b) cut begins parts.0 in
    let later : are_plain (is_empty (last ++ itself b ∷ [])) run ≡ true = ap (λ e. are_plain e run) (not_empty last (itself b)) ∙ later_plain run parts.1 in
    let P : List Written → Type 0 = λ l. IsCutInto text (before ++ l ∷ []) after in
    subst P (append_assoc last (itself b ∷ []) (map itself run)) (cut-run before (last ++ itself b ∷ []) run one refl later)

bytes_again : (run : List ℕ) → map written_byte (map itself run) ≡ run
bytes_again [] = refl
bytes_again (b ∷ run) = ap (λ l. b ∷ l) (bytes_again run)

-- the bytes of the last piece with a run
pub piece_bytes-run : (last : List Written) (run : List ℕ) → piece_bytes (last ++ map itself run) ≡ piece_bytes last ++ run
piece_bytes-run last run = map-append written_byte last (map itself run) ∙ ap (λ l. piece_bytes last ++ l) (bytes_again run)

-- its length
pub length-run : (last : List Written) (run : List ℕ) → length (last ++ map itself run) ≡ length last + length run
length-run last run = length-append last (map itself run) ∙ ap (λ n. length last + n) (length-map run itself)
