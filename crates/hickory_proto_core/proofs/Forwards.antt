-- The name servers among records, one record at a time.
use Rattle.std.proofs.Common.{◌≡◌, ◌∙◌, ℕ, ◌+◌, ◌<◌, List, [], ◌∷◌, ◌++◌, length, take, get_or, Option, None, Some, refl, sym, ap}
use Rattle.std.specs.List.{filter_map, cons_option}
use Rattle.std.specs.Option.{option_to_list}
use Rattle.std.proofs.lemmas.List.{take_more}

filter_map-append : {X Y : Type 0} (h : X → Option Y) (xs ys : List X) → filter_map h (xs ++ ys) ≡ filter_map h xs ++ filter_map h ys
filter_map-append h [] ys = refl
filter_map-append h (x ∷ xs) ys = ap (cons_option (h x)) (filter_map-append h xs ys) ∙ moved (h x) (filter_map h xs) (filter_map h ys)
  where
    moved : {Y : Type 0} (o : Option Y) (ys zs : List Y) → cons_option o (ys ++ zs) ≡ cons_option o ys ++ zs
    moved None ys zs = refl
    moved (Some y) ys zs = refl

-- one more item, and what it gives
pub filter_map_more : {X Y : Type 0} (h : X → Option Y) (xs : List X) (i : ℕ) (x : X) (o : Option Y) → i < length xs → x ≡ get_or xs i x → o ≡ h x → filter_map h (take i xs) ++ option_to_list o ≡ filter_map h (take (i + 1) xs)
filter_map_more h xs i x o in_range at given =
    ap (λ p. filter_map h (take i xs) ++ option_to_list p) (given ∙ ap h at)
    ∙ ap (λ l. filter_map h (take i xs) ++ l) (single (h (get_or xs i x)))
    ∙ sym (ap (filter_map h) (take_more xs i x in_range) ∙ filter_map-append h (take i xs) (get_or xs i x ∷ []))
  where
    single : {Y : Type 0} (p : Option Y) → option_to_list p ≡ cons_option p []
    single None = refl
    single (Some y) = refl
