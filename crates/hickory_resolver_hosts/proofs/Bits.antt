-- Addresses whose bits are equal are equal.
use Rattle.std.proofs.Common.{◌≡◌, ℕ, ◌<◌, ◌≤◌, ◌+◌, ◌*◌, ◌/◌, ◌%◌, zero, suc, Bool, true, false, ◌==◌, List, [], ◌∷◌, length, slice_index, refl, sym, ap, ap₂, ◌∙◌, arith}
use Rattle.std.specs.Int.{w32, w128, from_be_bytes}
use Rattle.std.specs.Str.{bytes_eq}
use Rattle.std.specs.Cmp.{both_ways}
use Rattle.std.specs.declared.net.IpAddr.{IpAddr}
use Rattle.std.specs.declared.net.IpAddr.TheVariants.{V4, V6}
use Rattle.std.specs.Net.Addr.{ipv4_bits, ipv4_octets, ipv6_bits, ipv6_octets, ipv6_segments, octets_of}
use Rattle.std.proofs.lemmas.Bool.{eqb-true, eq-eqb}
use Rattle.std.proofs.lemmas.Bool.Decides.{nat_tests}
use Rattle.std.proofs.lemmas.Slice.Eq.{bytes_eq-Decides}
use Rattle.hickory_proto_core.specs.Records.{data_eq, data_of_address}
use Rattle.hickory_resolver_hosts.specs.Index.{same_address, AreOctets, HasOctets}
use Rattle.hickory_resolver_hosts.proofs.IndexChanges.{and_with_true}

-- the number of digits to the base 256, the highest first
abbrev number : (ℕ → ℕ) → ℕ → ℕ
number x zero = x 0
number x (suc n) = number x n * 256 + x (suc n)

last_digit : (p q x y : ℕ) → x < 256 → y < 256 → p * 256 + x ≡ q * 256 + y → (p ≡ q) × (x ≡ y)
last_digit p q x y fits fits_too is = (omega arith, omega arith)

same_digits : (x y : ℕ → ℕ) (n : ℕ) → ((k : ℕ) → x k < 256) → ((k : ℕ) → y k < 256) → number x n ≡ number y n
    → (i : ℕ) → i ≤ n → x i ≡ y i
same_digits x y zero fits fits_too is zero low = is
same_digits x y zero fits fits_too is (suc i) low = absurd (omega arith)
same_digits x y (suc n) fits fits_too is i low = by (same_digits x y n fits fits_too parts.0 i) (i == suc n) refl
  where
    parts : (number x n ≡ number y n) × (x (suc n) ≡ y (suc n))
    parts = last_digit (number x n) (number y n) (x (suc n)) (y (suc n)) (fits (suc n)) (fits_too (suc n)) is

    by : (i ≤ n → x i ≡ y i) → (b : Bool) → (i == suc n) ≡ b → x i ≡ y i
    by rest true e = let last = eqb-true i (suc n) e in ap x last ∙ parts.1 ∙ ap y (sym last)
    by rest false e = rest (grind (arith, nat_tests))

same_items : (xs ys : List ℕ) → length xs ≡ length ys → ((i : ℕ) → i < length xs → slice_index xs i ≡ slice_index ys i) → xs ≡ ys
same_items [] [] long items = refl
same_items [] (y ∷ ys) long items = absurd (omega arith)
same_items (x ∷ xs) [] long items = absurd (omega arith)
same_items (x ∷ xs) (y ∷ ys) long items =
    ap₂ (λ z zs. z ∷ zs) (items 0 (omega arith)) (same_items xs ys (omega arith) (λ i low. items (suc i) (omega arith)))

-- octets that make the same number
same_octets : (n : ℕ) (xs ys : List ℕ) → AreOctets (suc n) xs → AreOctets (suc n) ys
    → number (slice_index xs) n ≡ number (slice_index ys) n → xs ≡ ys
same_octets n xs ys left right is =
    same_items xs ys (left.0 ∙ sym right.0)
    (λ i low. same_digits (slice_index xs) (slice_index ys) n left.1 right.1 is i (omega (arith, left.0)))

number_4 : (xs : List ℕ) → from_be_bytes w32 xs ≡ number (slice_index xs) 3
number_4 xs = omega arith

number_16 : (xs : List ℕ) → from_be_bytes w128 xs ≡ number (slice_index xs) 15
number_16 xs = omega arith

same_halves : (s t : ℕ) → s / 256 ≡ t / 256 → s % 256 ≡ t % 256 → s ≡ t
same_halves s t high low = omega arith

abbrev head_or : ℕ → List ℕ → ℕ
head_or d [] = d
head_or d (x ∷ xs) = x

abbrev tail_of : List ℕ → List ℕ
tail_of [] = []
tail_of (x ∷ xs) = xs

same_segments : (ss ts : List ℕ) → octets_of ss ≡ octets_of ts → ss ≡ ts
same_segments [] [] is = refl
same_segments [] (t ∷ ts) is = absurd cc
same_segments (s ∷ ss) [] is = absurd cc
same_segments (s ∷ ss) (t ∷ ts) is =
    ap₂ (λ z zs. z ∷ zs) (same_halves s t (ap (head_or 0) is) (ap (λ xs. head_or 0 (tail_of xs)) is))
    (same_segments ss ts (ap (λ xs. tail_of (tail_of xs)) is))

same_test : (f : List ℕ → ℕ) (xs ys : List ℕ) → (f xs ≡ f ys → xs ≡ ys) → (f xs == f ys) ≡ bytes_eq ys xs
same_test f xs ys apart = both_ways (f xs == f ys) (bytes_eq ys xs)
    (λ e. (bytes_eq-Decides ys xs).1 (sym (apart (eqb-true (f xs) (f ys) e))))
    (λ e. eq-eqb (f xs) (f ys) (ap f (sym ((bytes_eq-Decides ys xs).0 e))))

-- addresses are equal where their data are
pub same_address_data : (k a : IpAddr) → HasOctets k → HasOctets a
    → same_address k a ≡ data_eq (data_of_address a) (data_of_address k)
unfolding ipv4_bits ipv6_bits
same_address_data (V4 k) (V4 a) left right =
    same_test (from_be_bytes w32) (ipv4_octets k) (ipv4_octets a)
    (λ e. same_octets 3 _ _ left right (sym (number_4 (ipv4_octets k)) ∙ e ∙ number_4 (ipv4_octets a)))
    ∙ and_with_true _
same_address_data (V4 k) (V6 a) left right = refl
same_address_data (V6 k) (V4 a) left right = refl
same_address_data (V6 k) (V6 a) left right =
    same_test (λ ss. from_be_bytes w128 (octets_of ss)) (ipv6_segments k) (ipv6_segments a)
    (λ e. same_segments _ _
    (same_octets 15 (ipv6_octets k) (ipv6_octets a) left right (sym (number_16 (ipv6_octets k)) ∙ e ∙ number_16 (ipv6_octets a))))
    ∙ and_with_true _
