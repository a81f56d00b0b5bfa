-- Names under the arpa zones: what it is to be the name of a network, by the labels and the mark.
use Rattle.std.proofs.Common.{◌≡◌, ◌≢◌, ℕ, ◌+◌, ◌-◌, ◌≤◌, Bool, true, false, List, [], ◌∷◌, ◌++◌, length, take, Option, Some, None, Result, Ok, sym, refl, ap, ap₂, ◌∙◌, subst, arith, nat_eq, get_or, length-append}
use Rattle.std.specs.Prelude.{IfOk, codes}
use Rattle.std.specs.Option.{ok_or}
use Rattle.std.specs.Global.{Vec}
use Rattle.hickory_proto_names.specs.declared.name_error.NameError.{NameError}
use Rattle.hickory_proto_names.specs.declared.name_error.NameError.TheVariants.{NotArpa}
use Rattle.std.proofs.lemmas.Bool.{and_parts, and_from}
use Rattle.std.proofs.lemmas.Bool.Decides.{Decides-eqb}
use Rattle.std.proofs.lemmas.List.{map-append, take_more, append_assoc}
use Rattle.std.proofs.Math.Seq.{take-length}
use Rattle.std.proofs.lemmas.Slice.Eq.{slice_eq-Decides}
use Rattle.std.specs.Bool.{beq, Decides}
use Rattle.std.specs.Cmp.{booleans_Decides}
use Rattle.std.specs.Cmp.Lexicographic.{pointwise}
use Rattle.std.specs.declared.net.IpAddr.{IpAddr}
use Rattle.std.specs.declared.net.IpAddr.TheVariants.{V4, V6}
use Rattle.std.specs.Net.Addr.{is_ipv6}
use Rattle.hickory_proto_names.specs.declared.ip.IpNet.{IpNet}
use Rattle.hickory_proto_names.specs.Name.{NameValue, name_eq, label_bytes, lower_label, lower_labels}
use Rattle.hickory_proto_names.specs.Arpa.{arpa_zone, net_labels, arpa_name, IsArpaNet, IsArpaNameOf, IsNetOfLabels}
use Rattle.hickory_proto_names.proofs.ArpaNets.{lower_net_labels, net_unique}

labels_Decides : (xs ys : List (List ℕ)) → Decides (pointwise (pointwise nat_eq) xs ys) (xs ≡ ys)
labels_Decides xs ys = slice_eq-Decides (λ a b. slice_eq-Decides Decides-eqb a b _ refl) xs ys _ refl

-- names are equal where their marks are and their labels are without case
names_same : (n m : NameValue) → name_eq n m ≡ true → (n.fqdn ≡ m.fqdn) × (lower_labels n.labels ≡ lower_labels m.labels)
names_same n m e =
    let parts = and_parts (beq n.fqdn m.fqdn) (pointwise (pointwise nat_eq) (lower_labels n.labels) (lower_labels m.labels)) e in
    ((booleans_Decides n.fqdn m.fqdn).0 parts.0, (labels_Decides (lower_labels n.labels) (lower_labels m.labels)).0 parts.1)

pub names_from : (n m : NameValue) → n.fqdn ≡ m.fqdn → lower_labels n.labels ≡ lower_labels m.labels → name_eq n m ≡ true
names_from n m e f =
    and_from _ _ ((booleans_Decides n.fqdn m.fqdn).1 e) ((labels_Decides (lower_labels n.labels) (lower_labels m.labels)).1 f)

-- lists that end in two items each
two_last : {A : Type 0} (xs ys : List A) (a b c d : A) → xs ++ a ∷ b ∷ [] ≡ ys ++ c ∷ d ∷ [] → (xs ≡ ys) × (a ≡ c) × (b ≡ d)
two_last [] [] a b c d e = (refl, cc, cc)
two_last [] (y ∷ ys) a b c d e = absurd (omega (arith, ap length e, length-append ys (c ∷ d ∷ [])))
two_last (x ∷ xs) [] a b c d e = absurd (omega (arith, ap length e, length-append xs (a ∷ b ∷ [])))
two_last (x ∷ xs) (y ∷ ys) a b c d e =
    let first : x ≡ y = cc in
    let rest : xs ++ a ∷ b ∷ [] ≡ ys ++ c ∷ d ∷ [] = cc in
    let later = two_last xs ys a b c d rest in
    (ap₂ (λ u us. u ∷ us) first later.0, later.1, later.2)

lower_zone : (a : IpAddr) → lower_labels (arpa_zone a) ≡ arpa_zone a
lower_zone (V4 a) = refl
lower_zone (V6 a) = refl

lower_name : (net : IpNet) → IsArpaNet net → lower_labels (arpa_name net).labels ≡ net_labels net ++ arpa_zone net.addr
lower_name net h = map-append lower_label (net_labels net) (arpa_zone net.addr) ∙ ap₂ (λ (xs ys : List (List ℕ)). xs ++ ys) (lower_net_labels net h) (lower_zone net.addr)

-- the name of a network, from its labels and its mark
pub is_name : (name : NameValue) (net : IpNet) (front zone : List (List ℕ)) → IsArpaNet net → name.fqdn ≡ true → name.labels ≡ front ++ zone → lower_labels front ≡ net_labels net → lower_labels zone ≡ arpa_zone net.addr → IsArpaNameOf name net
is_name name net front zone h full split named in_zone =
    (h, names_from name (arpa_name net) full (ap lower_labels split ∙ map-append lower_label front zone ∙ ap₂ (λ (xs ys : List (List ℕ)). xs ++ ys) named in_zone ∙ sym (lower_name net h)))

-- and back
pub name_parts : (name : NameValue) (net : IpNet) → IsArpaNameOf name net → (name.fqdn ≡ true) × (lower_labels name.labels ≡ net_labels net ++ arpa_zone net.addr)
name_parts name net h =
    let same = names_same name (arpa_name net) h.1 in
    (same.0, same.1 ∙ lower_name net h.0)

-- ---- reading a name from its last two labels

-- the label before `arpa`
abbrev pub zone_label : Bool → List ℕ
zone_label false = codes "in-addr"
zone_label true = codes "ip6"

zone_of_family : (a : IpAddr) → arpa_zone a ≡ zone_label (is_ipv6 a) ∷ codes "arpa" ∷ []
zone_of_family (V4 a) = refl
zone_of_family (V6 a) = refl

-- the labels of a network's name
pub name_ends : (name : NameValue) (net : IpNet) (front : List (List ℕ)) (x y : List ℕ) → name.labels ≡ front ++ x ∷ y ∷ [] → IsArpaNameOf name net → (lower_labels front ≡ net_labels net) × (lower_label x ≡ zone_label (is_ipv6 net.addr)) × (lower_label y ≡ codes "arpa")
name_ends name net front x y split h =
    two_last (lower_labels front) (net_labels net) (lower_label x) (lower_label y) (zone_label (is_ipv6 net.addr)) (codes "arpa") (
    sym (map-append lower_label front (x ∷ y ∷ []))
    ∙ sym (ap lower_labels split)
    ∙ (name_parts name net h).1
    ∙ ap (λ zone. net_labels net ++ zone) (zone_of_family net.addr)
    )

label_of_family : (f g : Bool) → zone_label f ≡ zone_label g → f ≡ g
label_of_family false false e = refl
label_of_family true true e = refl
label_of_family false true e = absurd (cc)
label_of_family true false e = absurd (cc)

-- what the labels before a known zone say
pub in_zone : (name : NameValue) (front : List (List ℕ)) (x y : List ℕ) (ipv6 : Bool) (o : Option IpNet) (r : Result IpNet NameError) → name.fqdn ≡ true → name.labels ≡ front ++ x ∷ y ∷ [] → lower_label x ≡ zone_label ipv6 → lower_label y ≡ codes "arpa" → IsNetOfLabels ipv6 front o → r ≡ ok_or o NotArpa → IfOk r (IsArpaNameOf name) × ((net : IpNet) → IsArpaNameOf name net → r ≡ Ok net)
in_zone name front x y ipv6 None r full split in_x in_y h e = (
  let P : Result IpNet NameError → Type 0 = λ s. IfOk s (IsArpaNameOf name) in subst P (sym e) tt,
  λ net named.
      let ends = name_ends name net front x y split named in
      let family = label_of_family (is_ipv6 net.addr) ipv6 (sym ends.1 ∙ in_x) in
      absurd (h net named.0 family ends.0),
)
in_zone name front x y ipv6 (Some found) r full split in_x in_y h e = (
  let P : Result IpNet NameError → Type 0 = λ s. IfOk s (IsArpaNameOf name) in
      let zone : lower_labels (x ∷ y ∷ []) ≡ arpa_zone found.addr = ap₂ (λ (u v : List ℕ). u ∷ v ∷ []) (in_x ∙ ap zone_label (sym h.1)) in_y ∙ sym (zone_of_family found.addr) in
      subst P (sym e) (is_name name found front (x ∷ y ∷ []) h.0 full split h.2 zone),
  λ net named.
      let ends = name_ends name net front x y split named in
      let family = label_of_family ipv6 (is_ipv6 net.addr) (sym in_x ∙ ends.1) in
      e ∙ ap Ok (net_unique found net h.0 named.0 (h.1 ∙ family) (sym h.2 ∙ ends.0)),
)

-- the last two of a list of vectors that are a name's labels
pub record HasLastTwo (name : NameValue) (vs : List (Vec ℕ)) (x y : Vec ℕ) : Type 0 where
  pub labels : label_bytes vs ≡ name.labels
  pub some : 2 ≤ length vs
  pub x_at : x ≡ get_or vs (length vs - 2) x
  pub y_at : y ≡ get_or vs (length vs - 1) y

split_two : (name : NameValue) (vs : List (Vec ℕ)) (x y : Vec ℕ) → HasLastTwo name vs x y → name.labels ≡ label_bytes (take (length vs - 2) vs) ++ x.items ∷ y.items ∷ []
split_two name vs x y h =
    let n = length vs - 2 in
    let m : n + 1 ≡ length vs - 1 = omega (arith, h.some) in
    let all : n + 1 + 1 ≡ length vs = omega (arith, h.some) in
    let second : get_or vs (n + 1) y ≡ y = ap (λ k. get_or vs k y) m ∙ sym h.y_at in
    let whole : vs ≡ take n vs ++ x ∷ [] ++ y ∷ [] =
    sym (take-length vs) ∙ ap (λ k. take k vs) (sym all)
    ∙ take_more vs (n + 1) y (omega (arith, h.some))
    ∙ ap₂ (λ (us : List (Vec ℕ)) (v : Vec ℕ). us ++ v ∷ []) (take_more vs n x (omega (arith, h.some)) ∙ ap (λ v. take n vs ++ v ∷ []) (sym h.x_at)) second in
    sym h.labels
    ∙ ap label_bytes (whole ∙ append_assoc (take n vs) (x ∷ []) (y ∷ []))
    ∙ map-append (λ (v : Vec ℕ). v.items) (take n vs) (x ∷ y ∷ [])

-- the family and the zone of a name that is a network's
pub ends_read : (name : NameValue) (vs : List (Vec ℕ)) (x y : Vec ℕ) → HasLastTwo name vs x y → (net : IpNet) → IsArpaNameOf name net → (lower_label x.items ≡ zone_label (is_ipv6 net.addr)) × (lower_label y.items ≡ codes "arpa")
ends_read name vs x y h net named =
    let ends = name_ends name net (label_bytes (take (length vs - 2) vs)) x.items y.items (split_two name vs x y h) named in
    (ends.1, ends.2)

-- the answer, once family and zone are known
pub zone_read : (name : NameValue) (vs : List (Vec ℕ)) (x y : Vec ℕ) → HasLastTwo name vs x y → (ipv6 : Bool) (o : Option IpNet) (r : Result IpNet NameError) → name.fqdn ≡ true → lower_label x.items ≡ zone_label ipv6 → lower_label y.items ≡ codes "arpa" → IsNetOfLabels ipv6 (label_bytes (take (length vs - 2) vs)) o → r ≡ ok_or o NotArpa → IfOk r (IsArpaNameOf name) × ((net : IpNet) → IsArpaNameOf name net → r ≡ Ok net)
zone_read name vs x y h ipv6 o r full in_x in_y said e =
    in_zone name (label_bytes (take (length vs - 2) vs)) x.items y.items ipv6 o r full (split_two name vs x y h) in_x in_y said e

-- the family of a name is one of the two
pub no_family : (name : NameValue) (vs : List (Vec ℕ)) (x y : Vec ℕ) → HasLastTwo name vs x y → lower_label x.items ≢ codes "in-addr" → lower_label x.items ≢ codes "ip6" → (net : IpNet) → ¬ (IsArpaNameOf name net)
no_family name vs x y h other4 other6 net named = by_family (is_ipv6 net.addr) (ends_read name vs x y h net named).0
  where
    by_family : (f : Bool) → lower_label x.items ≡ zone_label f → ⊥
    by_family false e = other4 e
    by_family true e = other6 e
