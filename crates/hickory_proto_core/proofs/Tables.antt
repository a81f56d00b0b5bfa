-- A table made of pairs in turn has the outcome that was given last.
use Rattle.std.proofs.Common.{◌≡◌, ◌∙◌, Bool, true, false, cond, List, [], ◌∷◌, ◌++◌, map, reverse, Option, None, Some, refl, sym, ap}
use Rattle.std.specs.Option.{option_or}
use Rattle.std.specs.Map.{lookup, update, update_all}
use Rattle.std.proofs.lemmas.List.{map-id, reverse-append}
use Rattle.std.specs.HashMap.{HashMap, InsertsAll}

lookup-append : {K X : Type 0} (p : K → Bool) (xs ys : List (K × X)) → lookup p (xs ++ ys) ≡ option_or (lookup p xs) (lookup p ys)
lookup-append p [] ys = refl
lookup-append {K} {X} p (x ∷ xs) ys = ap (cond (p x.0) (Some x.1)) (lookup-append p xs ys) ∙ moved (p x.0) x.1 (lookup p xs) (lookup p ys)
  where
    moved : (b : Bool) (v : X) (o r : Option X) → cond b (Some v) (option_or o r) ≡ option_or (cond b (Some v) o) r
    moved true v o r = refl
    moved false v o r = refl

-- what pairs put in in turn come to, over what was there before
update_all-lookup : {K X : Type 0} (eq : K → K → Bool) (symm : (x y : K) → eq x y ≡ eq y x) (f : K → Option X) (xs : List (K × X)) (q : K) → update_all eq f xs q ≡ option_or (lookup (eq q) (reverse xs)) (f q)
update_all-lookup eq symm f [] q = refl
update_all-lookup {K} {X} eq symm f (x ∷ xs) q =
    update_all-lookup eq symm (update eq f x.0 (Some x.1)) xs q
    ∙ ap (option_or (lookup (eq q) (reverse xs))) (ap (λ b. cond b (Some x.1) (f q)) (symm x.0 q) ∙ single (eq q x.0))
    ∙ sym (ap (λ o. option_or o (f q)) (ap (lookup (eq q)) (reverse-append (x ∷ []) xs) ∙ lookup-append (eq q) (reverse xs) (x ∷ [])) ∙ joined (lookup (eq q) (reverse xs)) (cond (eq q x.0) (Some x.1) None) (f q))
  where
    single : (b : Bool) → cond b (Some x.1) (f q) ≡ option_or (cond b (Some x.1) None) (f q)
    single true = refl
    single false = refl

    joined : (a b c : Option X) → option_or (option_or a b) c ≡ option_or a (option_or b c)
    joined None b c = refl
    joined (Some v) b c = refl

pub update_all-empty : {K X : Type 0} (eq : K → K → Bool) (symm : (x y : K) → eq x y ≡ eq y x) (xs : List (K × X)) (q : K) → update_all eq (λ _. None) xs q ≡ lookup (eq q) (reverse xs)
update_all-empty {K} {X} eq symm xs q = update_all-lookup eq symm (λ _. None) xs q ∙ alone (lookup (eq q) (reverse xs))
  where
    alone : (o : Option X) → option_or o None ≡ o
    alone None = refl
    alone (Some v) = refl

-- an empty table that is extended
pub extended-empty : {K X S : Type 0} (eq : K → K → Bool) (symm : (x y : K) → eq x y ≡ eq y x) (m n : HashMap K X S) (xs ys : List (K × X)) → m.entries ≡ [] → map (λ x. x) xs ≡ ys → InsertsAll eq m xs n
    → (q : K) → lookup (eq q) n.entries ≡ lookup (eq q) (reverse ys)
extended-empty eq symm m n xs ys none same made q =
    made.0 q ∙ (λ i. update_all eq (λ p. lookup (eq p) (none i)) xs q) ∙ update_all-empty eq symm xs q
    ∙ ap (λ l. lookup (eq q) (reverse l)) (sym (map-id xs) ∙ same)
