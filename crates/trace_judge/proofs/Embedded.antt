-- The IPv4 address that stands in an IPv6 address is found in it again.
use Rattle.std.proofs.Common.{◌≡◌, ◌+◌, ◌-◌, ◌≤◌, ℕ, zero, suc, true, ◌&&◌, ◌||◌, ◌==◌, drop, length, nat_eq, nat_le, replicate, take, List, [], ◌∷◌, ◌++◌, refl, ap, append_assoc, subst, sym, ◌∙◌, inl, inr, arith}
use Rattle.std.specs.Cmp.Lexicographic.{bytes_decides, pointwise}
use Rattle.std.specs.Net.Addr.{ipv6_octets, octets_of}
use Rattle.std.proofs.Math.Seq.{drop-append_seam, take-append-add}
use Rattle.std.proofs.lemmas.Bool.{and_parts, cases_Bool, cond-false, cond-true, eqb-true, leb-true}
use Rattle.std.proofs.lemmas.Bool.Decides.{nat_tests}
use Rattle.synthesis.specs.Dns64.{embedded, is_embedded, is_length}
use Rattle.synthesis.specs.declared.dns64.Prefix.{Prefix}
use Rattle.trace_judge.specs.MadeIndex.{behind, inside}
use Rattle.trace_judge.specs.RecordKeys.{first_four}

-- what stands behind a prefix of fewer than 96 bits
abbrev around : ℕ → List ℕ → List ℕ
around count address = take (8 - count) address ++ 0 ∷ drop (8 - count) address ++ replicate 7 0

abbrev eight_more : ℕ → ℕ
eight_more k = suc (suc (suc (suc (suc (suc (suc (suc k)))))))

abbrev found : ℕ → ℕ → List ℕ → List ℕ
found count k address = first_four (inside count (take (eight_more k) (around count address)))

found_4 : (k : ℕ) (address : List ℕ) → found 4 k address ≡ first_four address
found_4 k [] = refl
found_4 k (a ∷ []) = refl
found_4 k (a ∷ b ∷ []) = refl
found_4 k (a ∷ b ∷ c ∷ []) = refl
found_4 k (a ∷ b ∷ c ∷ d ∷ more) = refl

found_5 : (k : ℕ) (address : List ℕ) → found 5 k address ≡ first_four address
found_5 k [] = refl
found_5 k (a ∷ []) = refl
found_5 k (a ∷ b ∷ []) = refl
found_5 k (a ∷ b ∷ c ∷ []) = refl
found_5 k (a ∷ b ∷ c ∷ d ∷ more) = refl

found_6 : (k : ℕ) (address : List ℕ) → found 6 k address ≡ first_four address
found_6 k [] = refl
found_6 k (a ∷ []) = refl
found_6 k (a ∷ b ∷ []) = refl
found_6 k (a ∷ b ∷ c ∷ []) = refl
found_6 k (a ∷ b ∷ c ∷ d ∷ more) = refl

found_7 : (k : ℕ) (address : List ℕ) → found 7 k address ≡ first_four address
found_7 k [] = refl
found_7 k (a ∷ []) = refl
found_7 k (a ∷ b ∷ []) = refl
found_7 k (a ∷ b ∷ c ∷ []) = refl
found_7 k (a ∷ b ∷ c ∷ d ∷ more) = refl

found_8 : (k : ℕ) (address : List ℕ) → found 8 k address ≡ first_four address
found_8 k [] = refl
found_8 k (a ∷ []) = refl
found_8 k (a ∷ b ∷ []) = refl
found_8 k (a ∷ b ∷ c ∷ []) = refl
found_8 k (a ∷ b ∷ c ∷ d ∷ more) = refl

between : (count : ℕ) → 4 ≤ count → count ≤ 8 → (P : ℕ → Type 0) → P 4 → P 5 → P 6 → P 7 → P 8 → P count
between count least most P a b c d e = elim (cases_Bool (count == 4)) [
  | inl x ↦ subst P (sym (eqb-true count 4 x)) a
  | inr not_4 ↦ elim (cases_Bool (count == 5)) [
    | inl x ↦ subst P (sym (eqb-true count 5 x)) b
    | inr not_5 ↦ elim (cases_Bool (count == 6)) [
      | inl x ↦ subst P (sym (eqb-true count 6 x)) c
      | inr not_6 ↦ elim (cases_Bool (count == 7)) [
        | inl x ↦ subst P (sym (eqb-true count 7 x)) d
        | inr not_7 ↦ (let is_8 : count ≡ 8 = grind (arith, nat_tests) in subst P (sym is_8) e)
      ]
    ]
  ]
]

taken_behind : (front rest : List ℕ) (n : ℕ) → drop (length front) (take (length front + n) (front ++ rest)) ≡ take n rest
taken_behind front rest n =
    ap (drop (length front)) (take-append-add front rest n) ∙ drop-append_seam front (take n rest)

few_taken : (n : ℕ) (xs : List ℕ) → length (take n xs) ≤ n
few_taken zero xs = omega arith
few_taken (suc n) [] = omega arith
few_taken (suc n) (x ∷ xs) = omega (arith, few_taken n xs)

apart : (a b c d : List ℕ) → a ++ b ++ c ++ d ≡ a ++ (b ++ c ++ d)
apart a b c d = ap (λ l. l ++ d) (append_assoc a b c) ∙ append_assoc a (b ++ c) d

-- the octets in an address that was made with a prefix are those of the IPv4 address, up to four
pub address_inside : (prefix : Prefix) (address segments : List ℕ) → is_embedded prefix address segments ≡ true
    → first_four (inside prefix.octets (behind prefix (octets_of segments))) ≡ first_four address
address_inside prefix address segments h =
    let count = prefix.octets in let octets = ipv6_octets prefix.address in
    let parts = and_parts (is_length count) (pointwise nat_eq (embedded count octets address) (octets_of segments)) h in
    let is = (bytes_decides (embedded count octets address) (octets_of segments)).0 parts.1 in
    ap (λ o. first_four (inside count (behind prefix o))) (sym is) ∙ elim (cases_Bool (count == 12)) [
      | inl e ↦ ap (λ o. first_four (inside count (behind prefix o)))
          (cond-true (count == 12) (take count octets ++ address)
          (take 16 (take count octets ++ take (8 - count) address ++ 0 ∷ drop (8 - count) address ++ replicate 7 0)) e)
          ∙ ap (λ o. first_four (inside count o)) (drop-append_seam (take count octets) address)
          ∙ ap first_four (cond-true (count == 12) address (take (8 - count) address ++ drop (9 - count) address) e)
      | inr e ↦ (let near : (nat_le 4 count && nat_le count 8) ≡ true = ap (λ b. b || (nat_le 4 count && nat_le count 8)) (sym e) ∙ parts.0 in
          let front = take count octets in let k = 8 - length front in
          let bounds = and_parts (nat_le 4 count) (nat_le count 8) near in
          let least = leb-true 4 count bounds.0 in let most = leb-true count 8 bounds.1 in
          let few : length front ≤ 8 = omega (arith, few_taken count octets, most) in
          let whole : 16 ≡ length front + eight_more k = omega (arith, few) in
          ap (λ o. first_four (inside count (behind prefix o)))
          (cond-false (count == 12) (front ++ address)
          (take 16 (front ++ take (8 - count) address ++ 0 ∷ drop (8 - count) address ++ replicate 7 0)) e)
          ∙ ap (λ o. first_four (inside count (drop (length front) (take 16 o))))
          (apart front (take (8 - count) address) (0 ∷ drop (8 - count) address) (replicate 7 0))
          ∙ ap (λ n. first_four (inside count (drop (length front) (take n (front ++ around count address))))) whole
          ∙ ap (λ o. first_four (inside count o)) (taken_behind front (around count address) (eight_more k))
          ∙ between count least most (λ n. found n k address ≡ first_four address)
          (found_4 k address) (found_5 k address) (found_6 k address) (found_7 k address) (found_8 k address))
    ]
