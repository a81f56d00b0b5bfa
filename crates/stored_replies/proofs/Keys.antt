-- Questions that are one to a cache have one key.
use Rattle.std.proofs.Common.{◌≡◌, ℕ, ◌+◌, ◌-◌, ◌<◌, Bool, true, false, ◌&&◌, List, [], ◌∷◌, ◌++◌, length, take, get_or, nat_eq, refl, sym, ap, ap₂, ◌∙◌, length-append, arith}
use Rattle.std.specs.List.{fold}
use Rattle.std.specs.Cmp.Lexicographic.{pointwise}
use Rattle.std.specs.Char.{to_ascii_lowercase}
use Rattle.std.proofs.lemmas.Bool.{eqb-true}
use Rattle.std.proofs.lemmas.List.{length-map, take-append-drop, map-append, map_more}
use Rattle.hickory_proto_core.specs.Name.{lower_label}
use Rattle.stored_replies.specs.Key.{name_part, codes_part, is_same_question, question_key, octet_by_octet, hash_input}

both : (x y : Bool) → (x && y) ≡ true → (x ≡ true) × (y ≡ true)
both true y e = (refl, e)
both false y e = absurd cc

same_octets : (xs ys : List ℕ) → pointwise nat_eq xs ys ≡ true → xs ≡ ys
same_octets [] [] e = refl
same_octets [] (y ∷ ys) e = absurd cc
same_octets (x ∷ xs) [] e = absurd cc
same_octets (x ∷ xs) (y ∷ ys) e =
    let parts = both (nat_eq x y) (pointwise nat_eq xs ys) e in
    ap₂ (λ (z : ℕ) (zs : List ℕ). z ∷ zs) (eqb-true x y parts.0) (same_octets xs ys parts.1)

pub same_key : (one other : List ℕ) → is_same_question one other ≡ true → question_key one ≡ question_key other
same_key one other e =
    let parts =
    both (pointwise nat_eq (lower_label (name_part one)) (lower_label (name_part other)))
    (pointwise nat_eq (codes_part one) (codes_part other)) e in
    ap₂ (λ (x : List ℕ) (y : List ℕ). x ++ y) (same_octets (lower_label (name_part one)) (lower_label (name_part other)) parts.0)
    (same_octets (codes_part one) (codes_part other) parts.1)

key_length : (question : List ℕ) → length (question_key question) ≡ length question
key_length question =
    omega (
      arith,
      length-append (lower_label (name_part question)) (codes_part question),
      length-map (name_part question) to_ascii_lowercase,
      length-append (name_part question) (codes_part question),
      ap length (take-append-drop (length question - 4) question),
    )

pub same_length : (one other : List ℕ) → is_same_question one other ≡ true → length one ≡ length other
same_length one other e = omega (arith, ap length (same_key one other e), key_length one, key_length other)

-- ---- what a hasher is fed

fold_push : {S A : Type 0} (f : S → A → S) (s : S) (xs : List A) (x : A) → fold f s (xs ++ x ∷ []) ≡ f (fold f s xs) x
fold_push f s [] x = refl
fold_push f s (y ∷ ys) x = fold_push f (f s y) ys x

fold_on : {S A : Type 0} (f : S → A → S) (s : S) (xs ys : List A) → fold f s (xs ++ ys) ≡ fold f (fold f s xs) ys
fold_on f s [] ys = refl
fold_on f s (x ∷ xs) ys = fold_on f (f s x) xs ys

pub fed_octet : {S : Type 0} (write : S → List ℕ → S) (s : S) (octets : List ℕ) (i x : ℕ) → i < length octets
    → x ≡ get_or octets i x
    → fold write s (octet_by_octet (take (i + 1) octets)) ≡ write (fold write s (octet_by_octet (take i octets))) (x ∷ [])
fed_octet write s octets i x lt is =
    ap (fold write s) (map_more (λ (o : ℕ). o ∷ []) octets i x lt)
    ∙ fold_push write s (octet_by_octet (take i octets)) (get_or octets i x ∷ [])
    ∙ ap (λ (o : ℕ). write (fold write s (octet_by_octet (take i octets))) (o ∷ [])) (sym is)

pub fed_lower : {S : Type 0} (write : S → List ℕ → S) (s : S) (octets : List ℕ) (i x : ℕ) → i < length octets
    → x ≡ get_or octets i x
    → fold write s (octet_by_octet (lower_label (take (i + 1) octets)))
    ≡ write (fold write s (octet_by_octet (lower_label (take i octets)))) (to_ascii_lowercase x ∷ [])
fed_lower write s octets i x lt is =
    ap (λ (o : List ℕ). fold write s (octet_by_octet o)) (map_more to_ascii_lowercase octets i x lt)
    ∙ ap (fold write s) (map-append (λ (o : ℕ). o ∷ []) (lower_label (take i octets)) (to_ascii_lowercase (get_or octets i x) ∷ []))
    ∙ fold_push write s (octet_by_octet (lower_label (take i octets))) (to_ascii_lowercase (get_or octets i x) ∷ [])
    ∙ ap (λ (o : ℕ). write (fold write s (octet_by_octet (lower_label (take i octets)))) (to_ascii_lowercase o ∷ [])) (sym is)

pub fed_both : {S : Type 0} (write : S → List ℕ → S) (s : S) (question : List ℕ)
    → fold write (fold write s (octet_by_octet (lower_label (name_part question)))) (octet_by_octet (codes_part question))
    ≡ fold write s (hash_input question)
fed_both write s question =
    sym (ap (fold write s) (map-append (λ (o : ℕ). o ∷ []) (lower_label (name_part question)) (codes_part question))
    ∙ fold_on write s (octet_by_octet (lower_label (name_part question))) (octet_by_octet (codes_part question)))
