-- The labels that are made for an address are those of its name, and they are a name's.
use Rattle.std.proofs.Common.{◌≡◌, ℕ, ◌-◌, ◌*◌, ◌<◌, ◌≤◌, true, false, ◌||◌, List, [], ◌∷◌, ◌++◌, map, reverse, length, get_or, take, drop, decimal, Option, None, Some, Result, Ok, Err, sym, refl, ap, ap₂, ◌∙◌, subst, arith, le-ltb, ne_eqb, lit<, lit≤, zero, suc, replicate}
use Rattle.std.proofs.lemmas.List.{drop_all}
use Rattle.std.proofs.Math.Seq.{take-length}
use Rattle.std.proofs.lemmas.Fmt.{decimal_nonempty, length-decimal-le}
use Rattle.std.proofs.NetLemmas.Arrays.{four_items, sixteen_items}
use Rattle.std.specs.List.{list_any}
use Rattle.std.specs.Prelude.{codes, IfOk, IfErr, IsOkUnless}
use Rattle.std.specs.declared.net.Ipv4Addr.{Ipv4Addr}
use Rattle.std.specs.declared.net.Ipv6Addr.{Ipv6Addr}
use Rattle.std.specs.declared.net.IpAddr.TheVariants.{V4, V6}
use Rattle.std.specs.Net.Addr.{ipv4_octets, ipv6_octets, ipv6_segments, octets_of}
use Rattle.hickory_proto_names.specs.declared.name_error.NameError.{NameError}
use Rattle.hickory_proto_names.specs.declared.name_error.NameError.TheVariants.{OutOfMemory}
use Rattle.hickory_proto_names.specs.Name.{NameValue, label_fault, wire_len, is_empty_label, is_long_label, lower_labels}
use Rattle.hickory_proto_names.specs.Arpa.{arpa_name, whole_net, hex_label, nibbles_of, IsArpaNet, IsArpaNameOf}
use Rattle.hickory_proto_names.proofs.ArpaNets.{length-nibbles_of, length-octets_of}
use Rattle.hickory_proto_names.proofs.ArpaNames.{names_from}
use Rattle.hickory_proto_names.specs.declared.ip.IpNet.{IpNet}

-- the labels of an IPv4 address, once all four octets have theirs
pub ipv4_labels : (a : Ipv4Addr) (ls : List (List ℕ)) (i : ℕ) → length (ipv4_octets a) ≡ 4 → 4 ≤ i → ls ≡ reverse (map decimal (drop (4 - i) (ipv4_octets a))) → ls ++ codes "in-addr" ∷ codes "arpa" ∷ [] ≡ (arpa_name (whole_net (V4 a))).labels
ipv4_labels a ls i four done e =
    let o = ipv4_octets a in
    let none : 4 - i ≡ 0 = omega arith in
    let all : take 4 o ≡ o = ap (λ n. take n o) (sym four) ∙ take-length o in
    ap (λ us. us ++ codes "in-addr" ∷ codes "arpa" ∷ []) (e ∙ ap (λ n. reverse (map decimal (drop n o))) none ∙ ap (λ t. reverse (map decimal t)) (sym all))

pub ipv6_labels : (a : Ipv6Addr) (ls : List (List ℕ)) (i : ℕ) → length (ipv6_octets a) ≡ 16 → 16 ≤ i → ls ≡ reverse (map hex_label (nibbles_of (drop (16 - i) (ipv6_octets a)))) → ls ++ codes "ip6" ∷ codes "arpa" ∷ [] ≡ (arpa_name (whole_net (V6 a))).labels
ipv6_labels a ls i sixteen done e =
    let o = nibbles_of (ipv6_octets a) in
    let none : 16 - i ≡ 0 = omega arith in
    let long : length o ≡ 32 = length-nibbles_of (ipv6_octets a) ∙ ap (λ n. 2 * n) sixteen in
    let all : take 32 o ≡ o = ap (λ n. take n o) (sym long) ∙ take-length o in
    ap (λ us. us ++ codes "ip6" ∷ codes "arpa" ∷ []) (e ∙ ap (λ n. reverse (map hex_label (nibbles_of (drop n (ipv6_octets a))))) none ∙ ap (λ t. reverse (map hex_label t)) (sym all))

-- ---- these labels have no fault

AllShort : List (List ℕ) → Type 0
AllShort [] = Unit {0}
AllShort (l ∷ ls) = (0 < length l) × (length l ≤ 63) × AllShort ls

no_empty : (ls : List (List ℕ)) → AllShort ls → list_any is_empty_label ls ≡ false
unfolding AllShort
no_empty [] h = refl
no_empty (l ∷ ls) h = ap₂ (λ a b. a || b) (ne_eqb (length l) 0 (omega (arith, h.0))) (no_empty ls h.2)

no_long : (ls : List (List ℕ)) → AllShort ls → list_any is_long_label ls ≡ false
unfolding AllShort
no_long [] h = refl
no_long (l ∷ ls) h = ap₂ (λ a b. a || b) (le-ltb 63 (length l) h.1) (no_long ls h.2)

fault_free : (ls : List (List ℕ)) → AllShort ls → wire_len ls ≤ 255 → label_fault ls ≡ None
fault_free ls h few = rw (no_empty ls h, no_long ls h, le-ltb 255 (wire_len ls) few) refl

short_decimal : (n : ℕ) → n < 256 → (0 < length (decimal n)) × (length (decimal n) ≤ 3)
short_decimal n h = (decimal_nonempty n (omega arith), length-decimal-le 3 n (omega arith) (omega arith) (omega arith))

pub ipv4_valid : (a : Ipv4Addr) → length (ipv4_octets a) ≡ 4 → ((k : ℕ) → get_or (ipv4_octets a) k 0 < 256) → label_fault (arpa_name (whole_net (V4 a))).labels ≡ None
unfolding AllShort
ipv4_valid a four small =
    let o = ipv4_octets a in
    let P : List ℕ → Type 0 = λ os. label_fault (reverse (map decimal (take 4 os)) ++ codes "in-addr" ∷ codes "arpa" ∷ []) ≡ None in
    let s0 = short_decimal (get_or o 0 0) (small 0) in
    let s1 = short_decimal (get_or o 1 0) (small 1) in
    let s2 = short_decimal (get_or o 2 0) (small 2) in
    let s3 = short_decimal (get_or o 3 0) (small 3) in
    let labels = decimal (get_or o 3 0) ∷ decimal (get_or o 2 0) ∷ decimal (get_or o 1 0) ∷ decimal (get_or o 0 0) ∷ codes "in-addr" ∷ codes "arpa" ∷ [] in
    let short : AllShort labels =
    (s3.0, omega arith, (s2.0, omega arith, (s1.0, omega arith, (s0.0, omega arith, (lit< tt, lit≤ tt, (lit< tt, lit≤ tt, tt)))))) in
    subst P (sym (four_items o four)) (fault_free labels short (omega arith))

pub ipv6_valid : (a : Ipv6Addr) → length (ipv6_octets a) ≡ 16 → label_fault (arpa_name (whole_net (V6 a))).labels ≡ None
ipv6_valid a sixteen =
    let P : List ℕ → Type 0 = λ os. label_fault (reverse (map hex_label (take 32 (nibbles_of os))) ++ codes "ip6" ∷ codes "arpa" ∷ []) ≡ None in
    subst P (sym (sixteen_items (ipv6_octets a) sixteen)) refl

-- labels without a fault are taken
pub taken : {A : Type 0} (r : Result A NameError) (fault : Option NameError) → fault ≡ None → IfErr r (λ e. fault ≡ Some e) → IsOkUnless r OutOfMemory
taken (Ok x) fault none h = tt
taken (Err e) fault none h = absurd (cc)

-- the name is that of its labels
pub made_of : (r : Result NameValue NameError) (ls ms : List (List ℕ)) → ls ≡ ms → IfOk r (λ n. n ≡ record { labels = ls; fqdn = true }) → IfOk r (λ n. n ≡ record { labels = ms; fqdn = true })
made_of (Ok n) ls ms same h = h ∙ ap (λ us. record { labels = us; fqdn = true }) same
made_of (Err e) ls ms same h = tt

-- ---- an address with all its bits is a network that names stand for

pub ipv4_whole : (a : Ipv4Addr) → length (ipv4_octets a) ≡ 4 → ((k : ℕ) → get_or (ipv4_octets a) k 0 < 256) → IsArpaNet (whole_net (V4 a))
ipv4_whole a four small =
    let P : ℕ → Type 0 = λ n. drop 4 (ipv4_octets a) ≡ replicate (n - 4) zero in
    record {
      address = (four, small);
      within = omega arith;
      whole = refl;
      zeros = subst P (sym four) (drop_all 4 (ipv4_octets a) (omega arith));
    }

segments_from_octets : (ss : List ℕ) → ((k : ℕ) → get_or (octets_of ss) k 0 < 256) → (k : ℕ) → get_or ss k 0 < 65536
segments_from_octets [] h k = omega arith
segments_from_octets (s ∷ ss) h zero = let high = h 0 in omega arith
segments_from_octets (s ∷ ss) h (suc k) = segments_from_octets ss (λ j. h (suc (suc j))) k

pub ipv6_whole : (a : Ipv6Addr) → length (ipv6_octets a) ≡ 16 → ((k : ℕ) → get_or (ipv6_octets a) k 0 < 256) → IsArpaNet (whole_net (V6 a))
ipv6_whole a sixteen small =
    let digits = nibbles_of (ipv6_octets a) in
    let long : length digits ≡ 32 = length-nibbles_of (ipv6_octets a) ∙ ap (λ n. 2 * n) sixteen in
    let P : ℕ → Type 0 = λ n. drop 32 digits ≡ replicate (n - 32) zero in
    let eight : length (ipv6_segments a) ≡ 8 = omega (arith, length-octets_of (ipv6_segments a)) in
    record {
      address = (eight, segments_from_octets (ipv6_segments a) small);
      within = omega (arith, long);
      whole = refl;
      zeros = subst P (sym long) (drop_all 32 digits (omega (arith, long)));
    }

-- so its name is read back
pub read_back : (r : Result NameValue NameError) (net : IpNet) → IsArpaNet net → IfOk r (λ n. n ≡ arpa_name net) → IfOk r (λ n. IsArpaNameOf n net)
read_back (Ok n) net h e = (h, names_from n (arpa_name net) (ap (λ m. m.fqdn) e) (ap (λ m. lower_labels m.labels) e))
read_back (Err f) net h e = tt
