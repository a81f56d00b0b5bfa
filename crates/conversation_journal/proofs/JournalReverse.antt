-- The text of the arpa name of an address is a field of a line.
use Rattle.std.proofs.Common.{◌≡◌, ◌∙◌, ◌<◌, ◌≤◌, ◌*◌, ◌/◌, ◌%◌, ◌^◌, ℕ, zero, suc, Bool, true, false, cond, List, [], ◌∷◌, ◌++◌, Some, length, map, reverse, take, replicate, codes, refl, sym, ap, ap₂, subst, arith, inl, inr, length-append}
use Rattle.std.proofs.lemmas.Bool.{and_parts, and_from}
use Rattle.std.proofs.lemmas.Bool.Decides.{nat_tests}
use Rattle.std.proofs.lemmas.Grind.{common_steps}
use Rattle.std.proofs.lemmas.Fmt.{digits_decimal}
use Rattle.std.proofs.lemmas.Int.Digits.{digits_value-lt}
use Rattle.std.proofs.lemmas.List.{reverse-append, length-reverse}
use Rattle.std.proofs.lemmas.Fmt.{length-decimal-le}
use Rattle.std.specs.Char.{digit_char, is_ascii_alphanumeric, is_ascii_digit}
use Rattle.std.specs.Fmt.{decimal}
use Rattle.std.specs.List.{AllByRecursion, list_all}
use Rattle.std.specs.Net.Addr.{ipv4_octets, ipv6_octets, ipv6_segments, octets_of, segments_of}
use Rattle.std.specs.Net.Grammar.{IsColonHex, IsDotted, IsGroupsAfter}
use Rattle.std.specs.Str.{all_ascii_digits}
use Rattle.std.specs.declared.net.IpAddr.{IpAddr}
use Rattle.std.specs.declared.net.IpAddr.TheVariants.{V4, V6}
use Rattle.hickory_proto_core.specs.Arpa.{arpa_name, hex_label, nibbles_of, whole_net}
use Rattle.hickory_proto_core.specs.DecimalLaws.{decimals}
use Rattle.hickory_proto_core.specs.NameGiven.{IsReadAddress}
use Rattle.hickory_proto_core.specs.NameText.{labels_text, name_text, piece_text, printed, printed_label, written_text}
use Rattle.hickory_proto_core.specs.NameText as name
use Rattle.replay_script.specs.Fields.{is_allowed, is_plain}
use Rattle.conversation_journal.proofs.JournalTexts.{IsField, all_allowed-append}

-- letters and digits
abbrev IsWord : List ℕ → Type 0
IsWord l = list_all is_ascii_alphanumeric l ≡ true

later_word : (l : List ℕ) → IsWord l → piece_text (map (printed false) l) ≡ l
later_word [] h = refl
later_word (b ∷ l) h =
    let parts = and_parts (is_ascii_alphanumeric b) (list_all is_ascii_alphanumeric l) h in
    let own : name.is_plain false b ≡ true = rw parts.0 refl in
    ap₂ (λ p xs. written_text (cond p (name.itself b) (name.numbered (b / 100) (b / 10 % 10) (b % 10))) ++ xs) own (later_word l parts.1)

word_text : (l : List ℕ) → IsWord l → piece_text (printed_label l) ≡ l
word_text [] h = refl
word_text (b ∷ l) h =
    let parts = and_parts (is_ascii_alphanumeric b) (list_all is_ascii_alphanumeric l) h in
    let own : name.is_plain true b ≡ true = rw parts.0 refl in
    ap₂ (λ p xs. written_text (cond p (name.itself b) (name.numbered (b / 100) (b / 10 % 10) (b % 10))) ++ xs) own (later_word l parts.1)

word-plain : (b : ℕ) → is_ascii_alphanumeric b ≡ true → is_plain b ≡ true
word-plain b h = grind (arith, nat_tests, common_steps)

word-allowed : (b : ℕ) → is_ascii_alphanumeric b ≡ true → is_allowed b ≡ true
word-allowed b h = grind (arith, nat_tests, common_steps)

-- what stands in a field, and is short
record IsShown (t : List ℕ) : Type 0 where
  plain : list_all is_plain t ≡ true
  allowed : list_all is_allowed t ≡ true
  short : length t ≤ 64

words-plain : (l : List ℕ) → IsWord l → list_all is_plain l ≡ true
words-plain [] h = refl
words-plain (b ∷ l) h = let parts = and_parts (is_ascii_alphanumeric b) (list_all is_ascii_alphanumeric l) h in and_from _ _ (word-plain b parts.0) (words-plain l parts.1)

words-allowed : (l : List ℕ) → IsWord l → list_all is_allowed l ≡ true
words-allowed [] h = refl
words-allowed (b ∷ l) h = let parts = and_parts (is_ascii_alphanumeric b) (list_all is_ascii_alphanumeric l) h in and_from _ _ (word-allowed b parts.0) (words-allowed l parts.1)

abbrev label_text : List ℕ → List ℕ
label_text l = piece_text (printed_label l)

shown-word : (l : List ℕ) → IsWord l → length l ≤ 64 → IsShown (label_text l)
shown-word l h short = subst IsShown (sym (word_text l h)) (record { plain = words-plain l h; allowed = words-allowed l h; short = short })

abbrev AreShown : List (List ℕ) → Type 0
AreShown ls = AllByRecursion (λ l. IsShown (label_text l)) ls

all_plain-append : (xs ys : List ℕ) → list_all is_plain xs ≡ true → list_all is_plain ys ≡ true → list_all is_plain (xs ++ ys) ≡ true
all_plain-append [] ys h k = k
all_plain-append (x ∷ xs) ys h k = let parts = and_parts (is_plain x) (list_all is_plain xs) h in and_from _ _ parts.0 (all_plain-append xs ys parts.1 k)

record IsJoined (t : List ℕ) (count : ℕ) : Type 0 where
  plain : list_all is_plain t ≡ true
  allowed : list_all is_allowed t ≡ true
  short : length t ≤ 65 * count

joined : (ls : List (List ℕ)) → AreShown ls → IsJoined (labels_text ls) (length ls)
joined [] h = record { plain = refl; allowed = refl; short = omega arith }
joined (l ∷ []) (own, h) = record { plain = own.plain; allowed = own.allowed; short = omega (arith, own.short) }
joined (l ∷ m ∷ ls) (own, h) =
    let rest = joined (m ∷ ls) h in
    record {
      plain = all_plain-append (label_text l) (46 ∷ labels_text (m ∷ ls)) own.plain (and_from _ _ refl rest.plain);
      allowed = all_allowed-append (label_text l) (46 ∷ labels_text (m ∷ ls)) own.allowed (and_from _ _ refl rest.allowed);
      short = omega (arith, own.short, rest.short, length-append (label_text l) (46 ∷ labels_text (m ∷ ls)));
    }

shown-append : (xs ys : List (List ℕ)) → AreShown xs → AreShown ys → AreShown (xs ++ ys)
shown-append [] ys h k = k
shown-append (x ∷ xs) ys (own, h) k = (own, shown-append xs ys h k)

shown-reverse : (xs : List (List ℕ)) → AreShown xs → AreShown (reverse xs)
shown-reverse [] h = tt
shown-reverse (x ∷ xs) (own, h) = subst AreShown (sym (reverse-append (x ∷ []) xs)) (shown-append (reverse xs) (x ∷ []) (shown-reverse xs h) (own, tt))

-- ---- numbers as labels

digit-word : (d : ℕ) → is_ascii_digit d ≡ true → is_ascii_alphanumeric d ≡ true
digit-word d h = grind (arith, nat_tests, common_steps)

digits-word : (ds : List ℕ) → all_ascii_digits ds ≡ true → IsWord ds
digits-word [] h = refl
digits-word (d ∷ ds) h = let parts = and_parts (is_ascii_digit d) (all_ascii_digits ds) h in and_from _ _ (digit-word d parts.0) (digits-word ds parts.1)

short-decimal : (n : ℕ) → n < 256 → length (decimal n) ≤ 64
short-decimal n h = let few = length-decimal-le 3 n (omega (arith, h)) (omega arith) (omega arith) in omega (arith, few)

shown-decimal : (n : ℕ) → n < 256 → IsShown (label_text (decimal n))
shown-decimal n h = shown-word (decimal n) (digits-word (decimal n) (digits_decimal decimals n (omega (arith, h)))) (short-decimal n h)

hex-word : (n : ℕ) → n < 16 → is_ascii_alphanumeric (digit_char n) ≡ true
hex-word n h = grind (arith, nat_tests, common_steps)

shown-hex : (n : ℕ) → n < 16 → IsShown (label_text (hex_label n))
shown-hex n h = shown-word (hex_label n) (and_from _ _ (hex-word n h) refl) (omega arith)

AreBelow : ℕ → List ℕ → Type 0
AreBelow limit ns = AllByRecursion (λ n. n < limit) ns

shown-taken : (label : ℕ → List ℕ) (limit : ℕ) → ((n : ℕ) → n < limit → IsShown (label_text (label n))) → (k : ℕ) (ns : List ℕ) → AllByRecursion (λ n. n < limit) ns → AreShown (map label (take k ns))
shown-taken label limit one zero ns h = tt
shown-taken label limit one (suc k) [] h = tt
shown-taken label limit one (suc k) (n ∷ ns) (own, h) = (one n own, shown-taken label limit one k ns h)

nibbles-below : (os : List ℕ) → AllByRecursion (λ n. n < 256) os → AllByRecursion (λ n. n < 16) (nibbles_of os)
nibbles-below [] h = tt
nibbles-below (o ∷ os) (own, h) = (omega (arith, own), (omega arith, nibbles-below os h))

octets-below : (ss : List ℕ) → AllByRecursion (λ n. n < 65536) ss → AllByRecursion (λ n. n < 256) (octets_of ss)
octets-below [] h = tt
octets-below (s ∷ ss) (own, h) = (omega (arith, own), (omega arith, octets-below ss h))

-- ---- addresses

zone-v4 : AreShown (codes "in-addr" ∷ codes "arpa" ∷ [])
zone-v4 = (record { plain = refl; allowed = refl; short = omega arith }, (record { plain = refl; allowed = refl; short = omega arith }, tt))

zone-v6 : AreShown (codes "ip6" ∷ codes "arpa" ∷ [])
zone-v6 = (record { plain = refl; allowed = refl; short = omega arith }, (record { plain = refl; allowed = refl; short = omega arith }, tt))

below-append : (limit : ℕ) (xs ys : List ℕ) → AllByRecursion (λ n. n < limit) xs → AllByRecursion (λ n. n < limit) ys → AllByRecursion (λ n. n < limit) (xs ++ ys)
below-append limit [] ys h k = k
below-append limit (x ∷ xs) ys (own, h) k = (own, below-append limit xs ys h k)

below-zeros : (k : ℕ) → AllByRecursion (λ n. n < 65536) (replicate k 0)
below-zeros zero = tt
below-zeros (suc k) = (omega arith, below-zeros k)

power : (n : ℕ) → n ≤ 4 → 16 ^ n ≤ 65536
power zero h = omega arith
power (suc zero) h = omega arith
power (suc (suc zero)) h = omega arith
power (suc (suc (suc zero))) h = omega arith
power (suc (suc (suc (suc zero)))) h = omega arith
power (suc (suc (suc (suc (suc n))))) h = absurd (omega (arith, h))

dotted-below : (text os ss : List ℕ) → IsDotted text os → ss ≡ segments_of os → AllByRecursion (λ n. n < 65536) ss
dotted-below text os ss d e =
    let P : List ℕ → Type 0 = λ xs. AllByRecursion (λ n. n < 65536) xs in
    subst P (sym (e ∙ ap segments_of d.value)) (omega (arith, d.fit.0, d.fit.1), (omega (arith, d.fit.2, d.fit.3), tt))

groups-below : (ipv4 : Bool) (lead text ss : List ℕ) → IsGroupsAfter ipv4 lead text ss → AllByRecursion (λ n. n < 65536) ss
groups-below ipv4 lead text [] is = tt
groups-below ipv4 lead text (s ∷ ss) (inl (group, rest, same, ((numeral, value), short), more)) =
    let less : s < 16 ^ length group = subst (λ n. n < 16 ^ length group) value (digits_value-lt 16 group numeral.1) in
    (omega (arith, less, power (length group) short), groups-below ipv4 (codes ":") rest ss more)
groups-below ipv4 lead text (s ∷ ss) (inr (last, os, on, same, d, e)) = dotted-below last os (s ∷ ss) d e

colons-below : (text ss : List ℕ) → IsColonHex text ss → AllByRecursion (λ n. n < 65536) ss
colons-below text ss (inl (groups, eight)) = groups-below true [] text ss groups
colons-below text ss (inr el) =
    let P : List ℕ → Type 0 = λ xs. AllByRecursion (λ n. n < 65536) xs in
    subst P (sym el.value) (below-append 65536 (el.head ++ replicate _ 0) el.tail (below-append 65536 el.head (replicate _ 0) (groups-below false [] el.head_text el.head el.head_groups) (below-zeros _)) (groups-below true [] el.tail_text el.tail el.tail_groups))

-- a field, and no long one
pub record IsNameField (t : List ℕ) : Type 0 where
  pub field : IsField t
  pub short : length t < 2 ^ 63

named-field : (ls : List (List ℕ)) → AreShown ls → length ls ≤ 34 → IsNameField (name_text (record { labels = ls; fqdn = true }))
named-field ls h few =
    let j = joined ls h in
    let size = length-append (labels_text ls) (46 ∷ []) in
    record {
      field = record {
        filled = grind (arith, nat_tests);
        plain = all_plain-append (labels_text ls) (46 ∷ []) j.plain refl;
        allowed = all_allowed-append (labels_text ls) (46 ∷ []) j.allowed refl;
      };
      short = omega (arith, j.short, size, few);
    }

few-taken : {A : Type 0} (k : ℕ) (xs : List A) → length (take k xs) ≤ k
few-taken zero xs = omega arith
few-taken (suc k) [] = omega arith
few-taken (suc k) (x ∷ xs) = omega (arith, few-taken k xs)

size-map : (f : ℕ → List ℕ) (xs : List ℕ) → length (map f xs) ≡ length xs
size-map f [] = refl
size-map f (x ∷ xs) = ap suc (size-map f xs)

count-labels : (label : ℕ → List ℕ) (k : ℕ) (ns : List ℕ) (zone : List (List ℕ)) → k ≤ 32 → length zone ≡ 2 → length (reverse (map label (take k ns)) ++ zone) ≤ 34
count-labels label k ns zone few two =
    omega (arith, length-append (reverse (map label (take k ns))) zone, length-reverse (map label (take k ns)), size-map label (take k ns), few-taken k ns, few, two)

pub reverse-field : (text : List ℕ) (address : IpAddr) → IsReadAddress text (Some address) → IsNameField (name_text (arpa_name (whole_net address)))
reverse-field text (V4 a) d =
    let below : AllByRecursion (λ n. n < 256) (ipv4_octets a) = subst (λ os. AllByRecursion (λ n. n < 256) os) (sym d.value) (d.fit.0, (d.fit.1, (d.fit.2, (d.fit.3, tt)))) in
    let front = shown-reverse (map decimal (take 4 (ipv4_octets a))) (shown-taken decimal 256 shown-decimal 4 (ipv4_octets a) below) in
    named-field (reverse (map decimal (take 4 (ipv4_octets a))) ++ codes "in-addr" ∷ codes "arpa" ∷ []) (shown-append (reverse (map decimal (take 4 (ipv4_octets a)))) (codes "in-addr" ∷ codes "arpa" ∷ []) front zone-v4)
    (count-labels decimal 4 (ipv4_octets a) (codes "in-addr" ∷ codes "arpa" ∷ []) (omega arith) refl)
reverse-field text (V6 a) d =
    let ns = nibbles_of (ipv6_octets a) in
    let below : AllByRecursion (λ n. n < 16) ns = nibbles-below (ipv6_octets a) (octets-below (ipv6_segments a) (colons-below text (ipv6_segments a) d)) in
    let front = shown-reverse (map hex_label (take 32 ns)) (shown-taken hex_label 16 shown-hex 32 ns below) in
    named-field (reverse (map hex_label (take 32 ns)) ++ codes "ip6" ∷ codes "arpa" ∷ []) (shown-append (reverse (map hex_label (take 32 ns))) (codes "ip6" ∷ codes "arpa" ∷ []) front zone-v6)
    (count-labels hex_label 32 ns (codes "ip6" ∷ codes "arpa" ∷ []) (omega arith) refl)
