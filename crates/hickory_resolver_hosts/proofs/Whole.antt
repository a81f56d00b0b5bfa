-- The bytes that a reader has given.
use Rattle.std.proofs.Common.{◌≡◌, ℕ, List, [], ◌∷◌, ◌++◌, Option, None, Some, refl, sym, ap, ◌∙◌, append_assoc}
use Rattle.std.specs.Io.KnownBytes.{Consumes, IsAtEnd}
use Rattle.hickory_resolver_hosts.specs.Reading.{IsAll}

pub consumes_nothing : (a : Option (List ℕ)) → Consumes a a []
consumes_nothing None = tt
consumes_nothing (Some xs) = refl

pub consumes_more : (a b c : Option (List ℕ)) (xs ys : List ℕ) → Consumes a b xs → Consumes b c ys → Consumes a c (xs ++ ys)
consumes_more None b c xs ys h k = tt
consumes_more (Some a) None c xs ys h k = absurd h
consumes_more (Some a) (Some b) None xs ys h k = absurd k
consumes_more (Some a) (Some b) (Some c) xs ys h k = h ∙ ap (λ z. xs ++ z) k ∙ sym (append_assoc xs ys c)

append_none : (xs : List ℕ) → xs ++ [] ≡ xs
append_none [] = refl
append_none (x ∷ xs) = ap (λ ys. x ∷ ys) (append_none xs)

pub consumed_all : (a b c : Option (List ℕ)) (bytes : List ℕ) → Consumes a b bytes → Consumes b c [] → IsAtEnd c → IsAll a bytes
consumed_all None b c bytes h k e = tt
consumed_all (Some a) None c bytes h k e = absurd h
consumed_all (Some a) (Some b) None bytes h k e = absurd k
consumed_all (Some a) (Some b) (Some c) bytes h k e = sym (h ∙ ap (λ z. bytes ++ z) (k ∙ e) ∙ append_none bytes)
