-- Reading the text of a name, character by character.
use Rattle.std.proofs.Common.{◌≡◌, ◌==◌, ℕ, suc, ◌-◌, ◌≤◌, Bool, List, [], ◌∷◌, ◌++◌, map, length, get_or, take, drop, Option, Some, Result, Ok, Err, sym, refl, ap, ap₂, ◌∙◌, arith}
use Rattle.std.proofs.Math.Seq.{take-length}
use Rattle.std.proofs.lemmas.List.{map-append}
use Rattle.std.specs.Result.{result_ok}
use Rattle.std.specs.Global.{Vec}
use Rattle.std.specs.Vec.{vec_len}
use Rattle.std.proofs.lemmas.Bool.{ne_eqb}
use Rattle.hickory_proto_names.specs.Name.{label_bytes}
use Rattle.hickory_proto_names.specs.NameText.{Written, IsCutInto, itself, piece_bytes, is_empty, ends_empty}
use Rattle.hickory_proto_names.specs.NameTextParts.{BeginsPlain, are_plain}
use Rattle.hickory_proto_names.proofs.NameRuns.{cut-run, piece_bytes-run}

-- a text is its first bytes, and the rest
pub front_one : (t : List ℕ) → 1 ≤ length t → t ≡ get_or t 0 0 ∷ take (length t - 1) (drop 1 t)
front_one [] h = absurd (omega arith)
front_one (a ∷ t) h = ap (λ l. a ∷ l) (sym (rw same (take-length t)))
  where
    same : length (a ∷ t) - 1 ≡ length t
    same = omega arith

pub front_three : (t : List ℕ) → 3 ≤ length t → t ≡ get_or t 0 0 ∷ get_or t 1 0 ∷ get_or t 2 0 ∷ take (length t - 3) (drop 3 t)
front_three [] h = absurd (omega arith)
front_three (a ∷ []) h = absurd (omega arith)
front_three (a ∷ b ∷ []) h = absurd (omega arith)
front_three (a ∷ b ∷ c ∷ t) h = ap (λ l. a ∷ b ∷ c ∷ l) (sym (rw same (take-length t)))
  where
    same : length (a ∷ b ∷ c ∷ t) - 3 ≡ length t
    same = omega arith

-- what an `Ok` that became a `Some` was
pub ok_was : {T E : Type 0} (r : Result T E) (o : Option T) (x : T) → o ≡ result_ok r → o ≡ Some x → r ≡ Ok x
ok_was (Ok y) o x same was = cc
ok_was (Err e) o x same was = cc

-- whether a vector is empty, by what it was written as
pub same_empty : (v : Vec ℕ) (ws : List Written) → v.items ≡ piece_bytes ws → (vec_len v == 0) ≡ is_empty ws
same_empty v [] e = ap (λ n. n == 0) (v.ok.0 ∙ ap length e)
same_empty v (w ∷ ws) e = ap (λ n. n == 0) (v.ok.0 ∙ ap length e) ∙ ne_eqb (length (piece_bytes (w ∷ ws))) 0 (λ h. absurd (omega arith))

-- the text is read up to a rest
abbrev pub IsTaken : List ℕ → List ℕ → List (List ℕ) → List ℕ → Type 0
IsTaken text rest pieces piece =
    (before : List (List Written)) × (last : List Written)
    × IsCutInto text (before ++ last ∷ []) rest
    × (pieces ≡ map piece_bytes before)
    × (piece ≡ piece_bytes last)

-- a run behind what is read
pub taken-run : {text rest after : List ℕ} (pieces : List (List ℕ)) (v : Vec ℕ) (first : Bool) (run items : List ℕ) → IsTaken text rest pieces v.items → first ≡ (vec_len v == 0) → BeginsPlain first rest run after → items ≡ v.items ++ run → IsTaken text after pieces items
taken-run pieces v first run items (before, last, cut, is, bytes) empty begins more =
    (before, last ++ map itself run, cut-run before last run cut begins.0 (ap (λ e. are_plain e run) (sym (empty ∙ same_empty v last bytes)) ∙ begins.1), is, more ∙ ap (λ l. l ++ run) bytes ∙ sym (piece_bytes-run last run))

-- one more label
pub label_bytes-push : (vs : List (Vec ℕ)) (v : Vec ℕ) (before : List (List Written)) (last : List Written) → label_bytes vs ≡ map piece_bytes before → v.items ≡ piece_bytes last → label_bytes (vs ++ v ∷ []) ≡ map piece_bytes (before ++ last ∷ [])
label_bytes-push vs v before last h k =
    map-append (λ u. u.items) vs (v ∷ []) ∙ ap₂ (λ xs x. xs ++ x ∷ []) h k ∙ sym (map-append piece_bytes before (last ∷ []))

-- whether the last vector of a list is empty
pub ends_empty-at : (vs : List (Vec ℕ)) (v : Vec ℕ) → 1 ≤ length vs → v ≡ get_or vs (length vs - 1) v → (vec_len v == 0) ≡ ends_empty (label_bytes vs)
ends_empty-at [] v h e = absurd (omega arith)
ends_empty-at (u ∷ []) v h e = counted v ∙ ap (λ w. is_empty w.items) e
  where
    counted : (w : Vec ℕ) → (vec_len w == 0) ≡ is_empty w.items
    counted w = ap (λ n. n == 0) w.ok.0 ∙ by_items w.items
      where
        by_items : (xs : List ℕ) → (length xs == 0) ≡ is_empty xs
        by_items [] = refl
        by_items (x ∷ xs) = ne_eqb (length (x ∷ xs)) 0 (λ k. absurd (omega arith))
ends_empty-at (u ∷ w ∷ us) v h e = ends_empty-at (w ∷ us) v (omega arith) (e ∙ ap (λ n. get_or (u ∷ w ∷ us) n v) deeper)
  where
    deeper : length (u ∷ w ∷ us) - 1 ≡ suc (length (w ∷ us) - 1)
    deeper = omega arith
