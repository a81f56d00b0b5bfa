-- A domain that is given a value.
use Rattle.std.proofs.Common.{◌≡◌, ℕ, Bool, true, false, cond, List, [], ◌∷◌, length, refl, sym, ◌∙◌, ap}
use Rattle.std.specs.Prelude.{Option, None, Some, nat_le}
use Rattle.std.specs.Char.{to_ascii_lowercase}
use Rattle.std.specs.Map.{lookup}
use Rattle.std.specs.Str.{bytes_eq}
use Rattle.std.specs.Cmp.Lexicographic.{bytes_decides}
use Rattle.std.proofs.lemmas.List.{length-map}
use Rattle.indexmap.specs.IndexMap.{insert_entry}
use Rattle.domain_table.specs.Names.{is_short, lower_name}
use Rattle.domain_table.specs.Domains.{entry_of, inserted, value_of}
use Rattle.domain_table.specs.Laws.{KeepsOneValue}

same_key : (a b : List ℕ) → bytes_eq a b ≡ true → a ≡ b
same_key a b e = (bytes_decides a b).0 e

module _ {A : Type 0} where
  cond-twice : (b : Bool) (x y z : A) → cond b x z ≡ cond b x (cond b y z)
  cond-twice true x y z = refl
  cond-twice false x y z = refl

  -- two tests that do not both hold may be asked in either order
  cond-swap : (b c : Bool) (x y z : A) → (c ≡ true → b ≡ false) → cond b x (cond c y z) ≡ cond c y (cond b x z)
  cond-swap true true x y z h = absurd (let wrong : true ≡ false = h refl in cc)
  cond-swap true false x y z h = refl
  cond-swap false true x y z h = refl
  cond-swap false false x y z h = refl

-- octets that are equal without case are as many
short-same : (one other : List ℕ) → bytes_eq (lower_name one) (lower_name other) ≡ true → is_short other ≡ true
    → is_short one ≡ true
short-same one other same short =
    let long : length one ≡ length other = sym (length-map one to_ascii_lowercase)
    ∙ ap length (same_key (lower_name one) (lower_name other) same) ∙ length-map other to_ascii_lowercase in
    ap (λ (n : ℕ). nat_le n 255) long ∙ short

module _ {V : Type 0} where
  -- a key that is looked up, once one was put in
  lookup-insert_entry : (key k : List ℕ) (v : V) (es : List (List ℕ × V))
      → lookup (bytes_eq key) (insert_entry bytes_eq es k v)
      ≡ cond (bytes_eq key k) (Some v) (lookup (bytes_eq key) es)
  lookup-insert_entry key k v [] = refl
  lookup-insert_entry key k v (e ∷ es) = by (bytes_eq k e.0) refl (lookup-insert_entry key k v es)
    where
      by : (b : Bool) → bytes_eq k e.0 ≡ b
          → lookup (bytes_eq key) (insert_entry bytes_eq es k v)
          ≡ cond (bytes_eq key k) (Some v) (lookup (bytes_eq key) es)
          → lookup (bytes_eq key) (cond b ((e.0, v) ∷ es) (e ∷ insert_entry bytes_eq es k v))
          ≡ cond (bytes_eq key k) (Some v) (cond (bytes_eq key e.0) (Some e.1) (lookup (bytes_eq key) es))
      by true is rest =
          let here : bytes_eq key e.0 ≡ bytes_eq key k = ap (bytes_eq key) (sym (same_key k e.0 is)) in
          ap (λ (b : Bool). cond b (Some v) (lookup (bytes_eq key) es)) here
          ∙ cond-twice (bytes_eq key k) (Some v) (Some e.1) (lookup (bytes_eq key) es)
          ∙ ap (λ (b : Bool). cond (bytes_eq key k) (Some v) (cond b (Some e.1) (lookup (bytes_eq key) es))) (sym here)
      by false is rest =
          ap (λ (o : Option V). cond (bytes_eq key e.0) (Some e.1) o) rest
          ∙ cond-swap (bytes_eq key e.0) (bytes_eq key k) (Some e.1) (Some v) (lookup (bytes_eq key) es)
          (λ same. ap (λ (l : List ℕ). bytes_eq l e.0) (same_key key k same) ∙ is)

  keeps : (domain other : List ℕ) (value : V) (es : List (List ℕ × V)) → is_short domain ≡ true
      → value_of other (inserted domain value es)
      ≡ cond (bytes_eq (lower_name other) (lower_name domain)) (Some value) (value_of other es)
  keeps domain other value es short =
      ap (λ (b : Bool). value_of other (cond b (insert_entry bytes_eq es (lower_name domain) value) es)) short
      ∙ ap (λ (o : Option V). cond (is_short other) o None)
      (lookup-insert_entry (lower_name other) (lower_name domain) value es)
      ∙ by (bytes_eq (lower_name other) (lower_name domain)) refl
    where
      by : (b : Bool) → bytes_eq (lower_name other) (lower_name domain) ≡ b
          → cond (is_short other) (cond b (Some value) (entry_of es other)) None
          ≡ cond b (Some value) (value_of other es)
      by true same =
          ap (λ (s : Bool). cond s (Some value) None) (short-same other domain same short)
      by false differs = refl

pub keeps_one_value : (V : Type 0) → KeepsOneValue V
keeps_one_value V domain other value es short = keeps domain other value es short
