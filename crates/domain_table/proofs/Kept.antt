-- Domains as a map holds them.
use Rattle.std.proofs.Common.{◌≡◌, ℕ, Bool, true, false, cond, List, [], ◌∷◌, drop, refl, sym, ◌∙◌, ap}
use Rattle.std.specs.Prelude.{Option, None, Some}
use Rattle.std.specs.Char.{to_ascii_lowercase}
use Rattle.std.specs.Map.{lookup}
use Rattle.std.specs.Str.{bytes_eq}
use Rattle.std.specs.declared.vec.Vec.{Vec}
use Rattle.std.proofs.lemmas.List.{drop-map}
use Rattle.indexmap.specs.IndexMap.{insert_entry}
use Rattle.domain_table.specs.Names.{is_short, lower_name}
use Rattle.domain_table.specs.Domains.{domains_of, entry_of, inserted, value_of}

abbrev pub keys_eq : {A : Type 0} → Vec ℕ A → Vec ℕ A → Bool
keys_eq x y = bytes_eq x.items y.items

-- ---- looking up

module _ {V : Type 0} where
  -- a domain is looked up in lower case
  pub lookup-short : (key domain : List ℕ) (es : List (List ℕ × V)) → is_short domain ≡ true → key ≡ lower_name domain
      → lookup (bytes_eq key) es ≡ value_of domain es
  lookup-short key domain es short lower =
      ap (λ (k : List ℕ). lookup (bytes_eq k) es) lower
      ∙ sym (ap (λ (b : Bool). cond b (entry_of es domain) None) short)

  -- and a suffix of a name
  pub lookup-suffix : (lower name : List ℕ) (place : ℕ) (es : List (List ℕ × V)) → lower ≡ lower_name name
      → lookup (bytes_eq (drop place lower)) es ≡ entry_of es (drop place name)
  lookup-suffix lower name place es is =
      ap (λ (k : List ℕ). lookup (bytes_eq (drop place k)) es) is
      ∙ ap (λ (k : List ℕ). lookup (bytes_eq k) es) (drop-map to_ascii_lowercase place name)

-- ---- the entries of a map

module _ {A V : Type 0} where
  pub lookup-domains : (key : List ℕ) (es : List (Vec ℕ A × V))
      → lookup (λ k. bytes_eq key k.items) es ≡ lookup (bytes_eq key) (domains_of es)
  lookup-domains key [] = refl
  lookup-domains key (e ∷ es) =
      ap (λ (found : Option V). cond (bytes_eq key e.0.items) (Some e.1) found) (lookup-domains key es)

  domains-insert_entry : (k : Vec ℕ A) (v : V) (es : List (Vec ℕ A × V))
      → domains_of (insert_entry keys_eq es k v) ≡ insert_entry bytes_eq (domains_of es) k.items v
  domains-insert_entry k v [] = refl
  domains-insert_entry k v (e ∷ es) = by (bytes_eq k.items e.0.items) (domains-insert_entry k v es)
    where
      by : (b : Bool)
          → domains_of (insert_entry keys_eq es k v) ≡ insert_entry bytes_eq (domains_of es) k.items v
          → domains_of (cond b ((e.0, v) ∷ es) (e ∷ insert_entry keys_eq es k v))
          ≡ cond b ((e.0.items, v) ∷ domains_of es) ((e.0.items, e.1) ∷ insert_entry bytes_eq (domains_of es) k.items v)
      by true rest = refl
      by false rest = ap (λ (fs : List (List ℕ × V)). (e.0.items, e.1) ∷ fs) rest

  -- a domain is given a value in lower case
  pub domains-inserted : (k : Vec ℕ A) (domain : List ℕ) (v : V) (es : List (Vec ℕ A × V)) → is_short domain ≡ true
      → k.items ≡ lower_name domain
      → domains_of (insert_entry keys_eq es k v) ≡ inserted domain v (domains_of es)
  domains-inserted k domain v es short lower =
      domains-insert_entry k v es
      ∙ ap (λ (key : List ℕ). insert_entry bytes_eq (domains_of es) key v) lower
      ∙ sym (ap (λ (b : Bool). cond b (insert_entry bytes_eq (domains_of es) (lower_name domain) v) (domains_of es))
      short)
