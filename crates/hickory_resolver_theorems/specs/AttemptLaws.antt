-- What holds of the names that are attempted.
use Rattle.std.specs.Prelude.{◌≡◌, Bool, true, false, ◌||◌, List, [], ◌∷◌, ◌++◌, reverse}
use Rattle.std.specs.List.{list_any}
use Rattle.std.proofs.Common.{refl, sym, ap, ◌∙◌, cond}
use Rattle.hickory_proto_core.specs.Name.{NameValue, name_eq}
use Rattle.hickory_resolver_model.specs.Hosts.{as_fqdn}
use Rattle.hickory_resolver_model.specs.Attempts.{Search, attempts, keep_last, joined_names, raw_first, is_onion_address}

or_false : (a b : Bool) → (a || b) ≡ false → (a ≡ false) × (b ≡ false)
or_false true b h = cc
or_false false b h = (refl, h)

-- no two names of a list are equal
abbrev pub AreApart : List NameValue → Type 0
AreApart [] = Unit {0}
AreApart (n ∷ ns) = (list_any (name_eq n) ns ≡ false) × AreApart ns

-- no two attempts are equal, but for a raw name that stands first
abbrev pub AreApartButFirst : List NameValue → Type 0
AreApartButFirst [] = Unit {0}
AreApartButFirst (n ∷ ns) = AreApart ns

pub keep_last-none : (n : NameValue) (ns : List NameValue) → list_any (name_eq n) ns ≡ false
    → list_any (name_eq n) (keep_last ns) ≡ false
keep_last-none n [] h = refl
keep_last-none n (m ∷ ms) h = at (list_any (name_eq m) ms) (keep_last-none n ms rest)
  where
    differ : name_eq n m ≡ false
    differ = (or_false (name_eq n m) (list_any (name_eq n) ms) h).0

    rest : list_any (name_eq n) ms ≡ false
    rest = (or_false (name_eq n m) (list_any (name_eq n) ms) h).1

    at : (b : Bool) → list_any (name_eq n) (keep_last ms) ≡ false
        → list_any (name_eq n) (cond b (keep_last ms) (m ∷ keep_last ms)) ≡ false
    at true k = k
    at false k = ap (λ b. b || list_any (name_eq n) (keep_last ms)) differ ∙ k

-- names kept at their latest places are apart
pub keep_last-apart : (ns : List NameValue) → AreApart (keep_last ns)
keep_last-apart [] = tt
keep_last-apart (n ∷ ns) = at (list_any (name_eq n) ns) refl (keep_last-apart ns)
  where
    at : (b : Bool) → list_any (name_eq n) ns ≡ b → AreApart (keep_last ns)
        → AreApart (cond b (keep_last ns) (n ∷ keep_last ns))
    at true e apart = apart
    at false e apart = (keep_last-none n ns e, apart)

but_first : (ns : List NameValue) → AreApart ns → AreApartButFirst ns
but_first [] apart = tt
but_first (n ∷ ns) apart = apart.1

-- what holds of the attempts at a name
pub record AreAttemptsApart (s : Search) (n : NameValue) : Type 0 where
  pub apart : AreApartButFirst (attempts s n)
  pub alone : n.fqdn ≡ true → attempts s n ≡ n ∷ []

pub attempts_apart : (s : Search) (n : NameValue) → AreAttemptsApart s n
attempts_apart s n =
    record {
      apart = whole (n.fqdn || is_onion_address (reverse n.labels));
      alone = λ e. ap (λ b. cond (b || is_onion_address (reverse n.labels)) (n ∷ []) searched) e;
    }
  where
    searched : List NameValue
    searched =
        cond (raw_first s n) (as_fqdn n ∷ keep_last (joined_names s n))
        (keep_last (joined_names s n ++ as_fqdn n ∷ []))

    below : (b : Bool) → AreApartButFirst
        (cond b (as_fqdn n ∷ keep_last (joined_names s n)) (keep_last (joined_names s n ++ as_fqdn n ∷ [])))
    below true = keep_last-apart (joined_names s n)
    below false =
        but_first (keep_last (joined_names s n ++ as_fqdn n ∷ []))
        (keep_last-apart (joined_names s n ++ as_fqdn n ∷ []))

    whole : (b : Bool) → AreApartButFirst
        (cond b (n ∷ []) (cond (raw_first s n) (as_fqdn n ∷ keep_last (joined_names s n))
        (keep_last (joined_names s n ++ as_fqdn n ∷ []))))
    whole true = tt
    whole false = below (raw_first s n)

keep_last-some : (ns : List NameValue) → keep_last ns ≡ [] → ns ≡ []
keep_last-some [] h = refl
keep_last-some (n ∷ ns) h = at (list_any (name_eq n) ns) refl (keep_last-some ns) h
  where
    at : (b : Bool) → list_any (name_eq n) ns ≡ b → (keep_last ns ≡ [] → ns ≡ [])
        → cond b (keep_last ns) (n ∷ keep_last ns) ≡ [] → n ∷ ns ≡ []
    at true e rest none = let clash : false ≡ true = sym (ap (list_any (name_eq n)) (rest none)) ∙ e in cc
    at false e rest none = let clash : n ∷ keep_last ns ≡ [] = none in cc

behind-some : (ns : List NameValue) (n : NameValue) → ns ++ n ∷ [] ≡ [] → ⊥
behind-some [] n h = cc
behind-some (m ∷ ms) n h = cc

-- there is an attempt at every name
pub some_attempt : (s : Search) (n : NameValue) → attempts s n ≡ [] → ⊥
some_attempt s n = whole (n.fqdn || is_onion_address (reverse n.labels))
  where
    below : (b : Bool) → cond b (as_fqdn n ∷ keep_last (joined_names s n))
        (keep_last (joined_names s n ++ as_fqdn n ∷ [])) ≡ [] → ⊥
    below true h = let clash : as_fqdn n ∷ keep_last (joined_names s n) ≡ [] = h in cc
    below false h =
        behind-some (joined_names s n) (as_fqdn n) (keep_last-some (joined_names s n ++ as_fqdn n ∷ []) h)

    whole : (b : Bool) → cond b (n ∷ []) (cond (raw_first s n) (as_fqdn n ∷ keep_last (joined_names s n))
        (keep_last (joined_names s n ++ as_fqdn n ∷ []))) ≡ [] → ⊥
    whole true h = let clash : n ∷ [] ≡ [] = h in cc
    whole false h = below (raw_first s n) h
