-- Networks whose names stand under `in-addr.arpa.` and `ip6.arpa.`: their parts, and that the labels say which network it is.
use Rattle.std.proofs.Common.{◌≡◌, ◌≢◌, ℕ, suc, zero, ◌+◌, ◌-◌, ◌*◌, ◌/◌, ◌%◌, ◌^◌, ◌<◌, ◌≤◌, true, false, List, [], ◌∷◌, ◌++◌, map, reverse, length, get_or, set, take, drop, replicate, decimal, sym, refl, ap, ap₂, ◌∙◌, subst, arith, lit<}
use Rattle.std.proofs.lemmas.List.{reverse-append, reverse-reverse, map-append, length-take-le, take_more, take_more_set, append_assoc, take-append-drop}
use Rattle.std.proofs.lemmas.Fmt.{decimal_injective}
use Rattle.std.specs.declared.net.Ipv6Addr.{Ipv6Addr}
use Rattle.std.specs.declared.net.IpAddr.{IpAddr}
use Rattle.std.specs.declared.net.IpAddr.TheVariants.{V4, V6}
use Rattle.std.specs.Net.Addr.{ipv6_segments, ipv6_octets, octets_of, segments_of, MatchIp, IsIpv4Addr, IsIpv6Addr, is_ipv6}
use Rattle.hickory_proto_names.specs.declared.ip.IpNet.{IpNet}
use Rattle.hickory_proto_names.specs.Name.{lower_label, lower_labels}
use Rattle.hickory_proto_names.specs.Arpa.{nibbles_of, parts, part_bits, part_label, part_count, hex_label, net_labels, IsArpaNet, IsWritten, IsNeverWritten}
use Rattle.hickory_proto_names.proofs.ArpaLabels.{lower_decimal, lower_hex, hex_injective}

-- each number is below a bound
abbrev AllBelow : ℕ → List ℕ → Type 0
AllBelow below ns = (k : ℕ) → get_or ns k 0 < below

-- ---- octets, hex digits and segments

nibbles_of-append : (xs ys : List ℕ) → nibbles_of (xs ++ ys) ≡ nibbles_of xs ++ nibbles_of ys
nibbles_of-append [] ys = refl
nibbles_of-append (x ∷ xs) ys = ap (λ t. (x / 16) ∷ (x % 16) ∷ t) (nibbles_of-append xs ys)

-- one more octet is made of two hex digits
pub nibbles_next : (os ds : List ℕ) (i : ℕ) → AllBelow 16 ds → nibbles_of (take i os) ≡ take (2 * i) ds → i < length os → 2 * i + 1 < length ds → nibbles_of (take (i + 1) (set os i (16 * get_or ds (2 * i) 0 + get_or ds (2 * i + 1) 0))) ≡ take (2 * (i + 1)) ds
nibbles_next os ds i small made in_os in_ds =
    let a = get_or ds (2 * i) 0 in
    let b = get_or ds (2 * i + 1) 0 in
    let low = small (2 * i) in
    let high = small (2 * i + 1) in
    let quotient : (16 * a + b) / 16 ≡ a = omega arith in
    let remainder : (16 * a + b) % 16 ≡ b = omega arith in
    let both : take (2 * i + 1 + 1) ds ≡ take (2 * i) ds ++ a ∷ [] ++ b ∷ [] =
    take_more ds (2 * i + 1) 0 in_ds ∙ ap (λ t. t ++ b ∷ []) (take_more ds (2 * i) 0 (omega arith)) in
    let turns : 2 * i + 1 + 1 ≡ 2 * (i + 1) = omega arith in
    ap nibbles_of (take_more_set os i (16 * a + b) in_os)
    ∙ nibbles_of-append (take i os) ((16 * a + b) ∷ [])
    ∙ ap₂ (λ (xs ys : List ℕ). xs ++ ys) made (ap₂ (λ (x y : ℕ). x ∷ y ∷ []) quotient remainder)
    ∙ sym (both ∙ append_assoc (take (2 * i) ds) (a ∷ []) (b ∷ []))
    ∙ ap (λ n. take n ds) turns

pub length-nibbles_of : (os : List ℕ) → length (nibbles_of os) ≡ 2 * length os
length-nibbles_of [] = refl
length-nibbles_of (o ∷ os) = let later = length-nibbles_of os in omega arith

pub length-octets_of : (ss : List ℕ) → length (octets_of ss) ≡ 2 * length ss
length-octets_of [] = refl
length-octets_of (s ∷ ss) = let later = length-octets_of ss in omega arith

nibbles_below : (os : List ℕ) → AllBelow 256 os → AllBelow 16 (nibbles_of os)
nibbles_below [] h k = omega arith
nibbles_below (o ∷ os) h zero = let first = h 0 in omega arith
nibbles_below (o ∷ os) h (suc zero) = omega arith
nibbles_below (o ∷ os) h (suc (suc k)) = nibbles_below os (λ j. h (suc j)) k

octets_below : (ss : List ℕ) → AllBelow 65536 ss → AllBelow 256 (octets_of ss)
octets_below [] h k = omega arith
octets_below (s ∷ ss) h zero = let first = h 0 in omega arith
octets_below (s ∷ ss) h (suc zero) = omega arith
octets_below (s ∷ ss) h (suc (suc k)) = octets_below ss (λ j. h (suc j)) k

pub octets_back : (n : ℕ) (os : List ℕ) → length os ≡ 2 * n → AllBelow 256 os → octets_of (segments_of os) ≡ os
octets_back n [] even h = refl
octets_back zero (a ∷ os) even h = absurd (omega arith)
octets_back (suc n) (a ∷ []) even h = absurd (omega arith)
octets_back (suc n) (a ∷ b ∷ os) even h =
    let high = h 0 in
    let low = h 1 in
    let quotient : (a * 256 + b) / 256 ≡ a = omega arith in
    let remainder : (a * 256 + b) % 256 ≡ b = omega arith in
    let later = octets_back n os (omega arith) (λ j. h (suc (suc j))) in
    ap₂ (λ (x : ℕ) t. x ∷ t) quotient (ap₂ (λ (x : ℕ) t. x ∷ t) remainder later)

segments_below : (os : List ℕ) → AllBelow 256 os → AllBelow 65536 (segments_of os)
segments_below [] h k = omega arith
segments_below (a ∷ []) h k = omega arith
segments_below (a ∷ b ∷ os) h zero = let high = h 0 in let low = h 1 in omega arith
segments_below (a ∷ b ∷ os) h (suc k) = segments_below os (λ j. h (suc (suc j))) k

length-segments_of : (n : ℕ) (os : List ℕ) → length os ≡ 2 * n → length (segments_of os) ≡ n
length-segments_of zero [] even = refl
length-segments_of (suc n) [] even = absurd (omega arith)
length-segments_of zero (a ∷ os) even = absurd (omega arith)
length-segments_of (suc n) (a ∷ []) even = absurd (omega arith)
length-segments_of (suc n) (a ∷ b ∷ os) even = let later = length-segments_of n os (omega arith) in omega arith

octets_from_nibbles : (os : List ℕ) → AllBelow 16 (nibbles_of os) → AllBelow 256 os
octets_from_nibbles [] h k = omega arith
octets_from_nibbles (o ∷ os) h zero = let high = h 0 in omega arith
octets_from_nibbles (o ∷ os) h (suc k) = octets_from_nibbles os (λ j. h (suc (suc j))) k

-- the address of these octets has their hex digits
pub address_of_digits : (a : Ipv6Addr) (os ds : List ℕ) → ipv6_segments a ≡ segments_of os → nibbles_of os ≡ ds → length os ≡ 16 → AllBelow 16 ds → IsIpv6Addr a × (parts (V6 a) ≡ ds)
address_of_digits a os ds made digits sixteen each =
    let S : List ℕ → Type 0 = λ ns. AllBelow 16 ns in
    let small = octets_from_nibbles os (subst S (sym digits) each) in
    let P : List ℕ → Type 0 = λ ss. (length ss ≡ 8) × ((k : ℕ) → get_or ss k 0 < 2 ^ 16) in (
      subst P (sym made) (length-segments_of 8 os sixteen, segments_below os small),
      ap (λ ss. nibbles_of (octets_of ss)) made ∙ ap nibbles_of (octets_back 8 os sixteen small) ∙ digits,
    )

-- the octets determine the segments, and the hex digits the octets
octets_injective : (ss ts : List ℕ) → octets_of ss ≡ octets_of ts → ss ≡ ts
octets_injective [] [] e = refl
octets_injective [] (t ∷ ts) e = absurd (cc)
octets_injective (s ∷ ss) [] e = absurd (cc)
octets_injective (s ∷ ss) (t ∷ ts) e =
    let high : s / 256 ≡ t / 256 = cc in
    let low : s % 256 ≡ t % 256 = cc in
    let rest : octets_of ss ≡ octets_of ts = cc in
    let same : s ≡ t = omega arith in
    ap₂ (λ x xs. x ∷ xs) same (octets_injective ss ts rest)

nibbles_injective : (ss ts : List ℕ) → nibbles_of ss ≡ nibbles_of ts → ss ≡ ts
nibbles_injective [] [] e = refl
nibbles_injective [] (t ∷ ts) e = absurd (cc)
nibbles_injective (s ∷ ss) [] e = absurd (cc)
nibbles_injective (s ∷ ss) (t ∷ ts) e =
    let high : s / 16 ≡ t / 16 = cc in
    let low : s % 16 ≡ t % 16 = cc in
    let rest : nibbles_of ss ≡ nibbles_of ts = cc in
    let same : s ≡ t = omega arith in
    ap₂ (λ x xs. x ∷ xs) same (nibbles_injective ss ts rest)

-- ---- the parts of an address

-- each part of an address fits its bits
abbrev part_limit : IpAddr → ℕ
part_limit (V4 a) = 256
part_limit (V6 a) = 16

abbrev part_most : IpAddr → ℕ
part_most (V4 a) = 4
part_most (V6 a) = 32

parts_below : (a : IpAddr) → MatchIp a IsIpv4Addr IsIpv6Addr → AllBelow (part_limit a) (parts a)
parts_below (V4 a) h = h.1
parts_below (V6 a) h = nibbles_below (ipv6_octets a) (octets_below (ipv6_segments a) h.1)

length-parts : (a : IpAddr) → MatchIp a IsIpv4Addr IsIpv6Addr → length (parts a) ≡ part_most a
length-parts (V4 a) h = h.0
length-parts (V6 a) h = length-nibbles_of (ipv6_octets a) ∙ ap (λ n. 2 * n) (length-octets_of (ipv6_segments a) ∙ ap (λ n. 2 * n) h.0)

-- labels are in lower case, and two numbers have different ones
lower_part : (a : IpAddr) (n : ℕ) → n < part_limit a → lower_label (part_label a n) ≡ part_label a n
lower_part (V4 a) n h = lower_decimal n h
lower_part (V6 a) n h = lower_hex n h

part_injective : (a : IpAddr) (m n : ℕ) → m < part_limit a → n < part_limit a → part_label a m ≡ part_label a n → m ≡ n
part_injective (V4 a) m n h k e = decimal_injective m n (omega arith) (omega arith) e
part_injective (V6 a) m n h k e = hex_injective m n h k e

take_below : (below n : ℕ) (ns : List ℕ) → 0 < below → AllBelow below ns → AllBelow below (take n ns)
take_below below zero ns some h k = omega arith
take_below below (suc n) [] some h k = omega arith
take_below below (suc n) (x ∷ ns) some h zero = h 0
take_below below (suc n) (x ∷ ns) some h (suc k) = take_below below n ns some (λ j. h (suc j)) k

-- ---- what labels say of a network

-- the network whose parts are written by the labels
pub net_written : (net : IpNet) (below : ℕ) (labels : List (List ℕ)) → MatchIp net.addr IsIpv4Addr IsIpv6Addr → part_count net ≡ length labels → net.prefix_len ≡ part_bits net.addr * length labels → IsWritten (part_label net.addr) below labels (parts net.addr) → IsArpaNet net × (lower_labels labels ≡ net_labels net)
net_written net below labels address counted prefix h =
    let P : ℕ → Type 0 = λ n. n ≤ length (parts net.addr) in
    let Q : ℕ → Type 0 = λ n. drop n (parts net.addr) ≡ replicate (length (parts net.addr) - n) 0 in (
      record {
        address = address;
        within = subst P (sym counted) h.within;
        whole = prefix ∙ ap (λ n. part_bits net.addr * n) (sym counted);
        zeros = subst Q (sym counted) h.zeros;
      },
      h.written ∙ ap (λ n. reverse (map (part_label net.addr) (take n (parts net.addr)))) (sym counted),
    )

positive_limit : (a : IpAddr) → 0 < part_limit a
positive_limit (V4 a) = lit< tt
positive_limit (V6 a) = lit< tt

-- no network has labels that write no numbers
pub net_unwritten : (labels : List (List ℕ)) (net : IpNet) → IsArpaNet net → IsNeverWritten (part_label net.addr) (part_limit net.addr) (part_most net.addr) labels → lower_labels labels ≢ net_labels net
net_unwritten labels net h never =
    let count = length-parts net.addr h.address in
    let few : length (take (part_count net) (parts net.addr)) ≤ part_most net.addr = omega (arith, length-take-le (part_count net) (parts net.addr) h.within, h.within) in
    never (take (part_count net) (parts net.addr)) few (take_below (part_limit net.addr) (part_count net) (parts net.addr) (positive_limit net.addr) (parts_below net.addr h.address))

pub ipv4_unwritten : (labels : List (List ℕ)) → IsNeverWritten decimal 256 4 labels → (net : IpNet) → IsArpaNet net → is_ipv6 net.addr ≡ false → lower_labels labels ≢ net_labels net
ipv4_unwritten labels never net h family = by_family net.addr refl
  where
    by_family : (a : IpAddr) → net.addr ≡ a → lower_labels labels ≢ net_labels net
    by_family (V4 a) e = net_unwritten labels net h (let P : IpAddr → Type 0 = λ b. IsNeverWritten (part_label b) (part_limit b) (part_most b) labels in subst P (sym e) never)
    by_family (V6 a) e = absurd (let other : is_ipv6 net.addr ≡ true = ap is_ipv6 e in cc)

pub ipv6_unwritten : (labels : List (List ℕ)) → IsNeverWritten hex_label 16 32 labels → (net : IpNet) → IsArpaNet net → is_ipv6 net.addr ≡ true → lower_labels labels ≢ net_labels net
ipv6_unwritten labels never net h family = by_family net.addr refl
  where
    by_family : (a : IpAddr) → net.addr ≡ a → lower_labels labels ≢ net_labels net
    by_family (V6 a) e = net_unwritten labels net h (let P : IpAddr → Type 0 = λ b. IsNeverWritten (part_label b) (part_limit b) (part_most b) labels in subst P (sym e) never)
    by_family (V4 a) e = absurd (let other : is_ipv6 net.addr ≡ false = ap is_ipv6 e in cc)

-- a network's labels are in lower case
reverse-map : {A B : Type 0} (f : A → B) (xs : List A) → reverse (map f xs) ≡ map f (reverse xs)
reverse-map f [] = refl
reverse-map f (x ∷ xs) =
    reverse-append (f x ∷ []) (map f xs) ∙ ap (λ l. l ++ f x ∷ []) (reverse-map f xs)
    ∙ sym (map-append f (reverse xs) (x ∷ [])) ∙ ap (map f) (sym (reverse-append (x ∷ []) xs))

lower_parts : (a : IpAddr) (ns : List ℕ) → AllBelow (part_limit a) ns → lower_labels (map (part_label a) ns) ≡ map (part_label a) ns
lower_parts a [] h = refl
lower_parts a (n ∷ ns) h = ap₂ (λ x xs. x ∷ xs) (lower_part a n (h 0)) (lower_parts a ns (λ k. h (suc k)))

pub lower_net_labels : (net : IpNet) → IsArpaNet net → lower_labels (net_labels net) ≡ net_labels net
lower_net_labels net h =
    let given = take (part_count net) (parts net.addr) in
    let small = take_below (part_limit net.addr) (part_count net) (parts net.addr) (positive_limit net.addr) (parts_below net.addr h.address) in
    sym (reverse-map lower_label (map (part_label net.addr) given)) ∙ ap reverse (lower_parts net.addr given small)

-- two networks of one family with the same labels are one
same_numbers : (a : IpAddr) (ms ns : List ℕ) → AllBelow (part_limit a) ms → AllBelow (part_limit a) ns → map (part_label a) ms ≡ map (part_label a) ns → ms ≡ ns
same_numbers a [] [] h k e = refl
same_numbers a [] (n ∷ ns) h k e = absurd (cc)
same_numbers a (m ∷ ms) [] h k e = absurd (cc)
same_numbers a (m ∷ ms) (n ∷ ns) h k e =
    let first : part_label a m ≡ part_label a n = cc in
    let rest : map (part_label a) ms ≡ map (part_label a) ns = cc in
    ap₂ (λ x xs. x ∷ xs) (part_injective a m n (h 0) (k 0) first) (same_numbers a ms ns (λ j. h (suc j)) (λ j. k (suc j)) rest)

-- numbers that agree where they are given, and are zero behind, agree
same_rest : (xs ys : List ℕ) (j k : ℕ) → length xs ≡ length ys → j ≤ length xs → k ≤ length ys → take j xs ≡ take k ys → drop j xs ≡ replicate (length xs - j) 0 → drop k ys ≡ replicate (length ys - k) 0 → (j ≡ k) × (xs ≡ ys)
same_rest xs ys j k same_length in_xs in_ys given x_zeros y_zeros =
    let same : j ≡ k = sym (length-take-le j xs in_xs) ∙ ap length given ∙ length-take-le k ys in_ys in
    let counts : length xs - j ≡ length ys - k = omega arith in
    let zeros : drop j xs ≡ drop k ys = x_zeros ∙ ap (λ (n : ℕ). replicate n zero) counts ∙ sym y_zeros in
    (same, sym (take-append-drop j xs) ∙ ap₂ (λ (us vs : List ℕ). us ++ vs) given zeros ∙ take-append-drop k ys)

same_address : (a b : IpAddr) → is_ipv6 a ≡ is_ipv6 b → parts a ≡ parts b → a ≡ b
same_address (V4 a) (V4 b) f e = ap V4 (λ i. record { octets = e i })
same_address (V6 a) (V6 b) f e = ap V6 (λ i. record { segments = octets_injective _ _ (nibbles_injective _ _ e) i })
same_address (V4 a) (V6 b) f e = absurd (cc)
same_address (V6 a) (V4 b) f e = absurd (cc)

same_net : (m n : IpNet) → IsArpaNet m → IsArpaNet n → is_ipv6 m.addr ≡ is_ipv6 n.addr → part_label n.addr ≡ part_label m.addr → part_limit n.addr ≡ part_limit m.addr → part_bits n.addr ≡ part_bits m.addr → part_most n.addr ≡ part_most m.addr → net_labels m ≡ net_labels n → m ≡ n
same_net m n h k family label limit bits most e =
    let xs = parts m.addr in
    let ys = parts n.addr in
    let i = part_count m in
    let j = part_count n in
    let forward : map (part_label m.addr) (take i xs) ≡ map (part_label m.addr) (take j ys) =
    sym (reverse-reverse _) ∙ ap reverse e ∙ reverse-reverse _ ∙ ap (λ f. map f (take j ys)) label in
    let in_n : AllBelow (part_limit m.addr) ys = let P : ℕ → Type 0 = λ b. AllBelow b ys in subst P limit (parts_below n.addr k.address) in
    let given = same_numbers m.addr (take i xs) (take j ys)
    (take_below (part_limit m.addr) i xs (positive_limit m.addr) (parts_below m.addr h.address))
    (take_below (part_limit m.addr) j ys (positive_limit m.addr) in_n)
    forward in
    let lengths : length xs ≡ length ys = length-parts m.addr h.address ∙ sym most ∙ sym (length-parts n.addr k.address) in
    let same = same_rest xs ys i j lengths h.within k.within given h.zeros k.zeros in
    let prefix : m.prefix_len ≡ n.prefix_len = h.whole ∙ ap₂ (λ (b c : ℕ). b * c) (sym bits) same.0 ∙ sym k.whole in
    let join : IpAddr → ℕ → IpNet = λ a p. record { addr = a; prefix_len = p } in
    ap₂ join (same_address m.addr n.addr family same.1) prefix

pub net_unique : (m n : IpNet) → IsArpaNet m → IsArpaNet n → is_ipv6 m.addr ≡ is_ipv6 n.addr → net_labels m ≡ net_labels n → m ≡ n
net_unique m n h k family e = by_family m.addr n.addr refl refl
  where
    by_family : (a b : IpAddr) → m.addr ≡ a → n.addr ≡ b → m ≡ n
    by_family (V4 a) (V4 b) p q = same_net m n h k family (ap part_label q ∙ sym (ap part_label p)) (ap part_limit q ∙ sym (ap part_limit p)) (ap part_bits q ∙ sym (ap part_bits p)) (ap part_most q ∙ sym (ap part_most p)) e
    by_family (V6 a) (V6 b) p q = same_net m n h k family (ap part_label q ∙ sym (ap part_label p)) (ap part_limit q ∙ sym (ap part_limit p)) (ap part_bits q ∙ sym (ap part_bits p)) (ap part_most q ∙ sym (ap part_most p)) e
    by_family (V4 a) (V6 b) p q = absurd (let x = ap is_ipv6 p in let y = ap is_ipv6 q in cc)
    by_family (V6 a) (V4 b) p q = absurd (let x = ap is_ipv6 p in let y = ap is_ipv6 q in cc)
