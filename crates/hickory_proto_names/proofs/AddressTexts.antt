-- The texts of addresses: a text spells one address at most, and the computed text is the one that the rule gives.
use Rattle.std.proofs.Common.{◌≡◌, ℕ, List, [], ◌∷◌, take, Option, Some, Result, Ok, Err, refl, ap, ◌∙◌, subst, arith, inl, inr, lt-ltb, le-ltb}
use Rattle.std.proofs.lemmas.Bool.{cases_lt, cases_Bool}
use Rattle.std.proofs.lemmas.Bool.Decides.{not_from_Decides}
use Rattle.std.proofs.lemmas.Slice.Eq.{bytes_eq-Decides}
use Rattle.std.specs.Prelude.{bytes_eq}
use Rattle.std.specs.Result.{result_ok}
use Rattle.std.specs.declared.net.IpAddr.{IpAddr}
use Rattle.std.specs.declared.net.IpAddr.TheVariants.{V4, V6}
use Rattle.std.specs.Net.Addr.{ipv6_segments}
use Rattle.std.specs.Net.Grammar.{IsIpText, Parses}
use Rattle.std.specs.Net.Text.{ipv6_text, hex_groups_text, longest_zero_run}
use Rattle.std.proofs.NetLemmas.Theorems.{IsIpText_unique}
use Rattle.std.proofs.NetLemmas.Texts.{IsZeroRun-longest_zero_run, longest_zero_run_first}
use Rattle.hickory_proto_names.specs.Addresses.{IsAddressText, address_text, IsPrintedGroups, IsPrintedAddress}

-- the address that was read is the one that the text spells
pub read_exactly : {E : Type 0} (text : List ℕ) (r : Result IpAddr E) (o : Option IpAddr) → o ≡ result_ok r → Parses IsIpText text r → (a : IpAddr) → (o ≡ Some a → IsAddressText text a) × (IsAddressText text a → o ≡ Some a)
read_exactly text (Ok b) o e h a = (
  λ found. let same : b ≡ a = cc in let P : IpAddr → Type 0 = λ x. IsAddressText text x in subst P same h,
  λ spelled. e ∙ ap Some (IsIpText_unique text b a h spelled),
)
read_exactly text (Err f) o e h a = (λ found. absurd (cc), λ spelled. absurd (h a spelled))

-- the computed groups are those of the rule
groups_printed : (groups : List ℕ) → IsPrintedGroups (hex_groups_text groups) groups
unfolding hex_groups_text
groups_printed groups =
    let run = longest_zero_run groups in
    let zeros = IsZeroRun-longest_zero_run groups in
    let most = longest_zero_run_first groups in
    elim (cases_lt 1 run.1) [
      | inl long ↦ inl (
        run.0,
        run.1,
        record {
          zeros = zeros;
          two = omega arith;
          longest = λ s n h. (most s n h).0;
          first = λ s h. (most s run.1 h).1 refl;
        },
        rw (lt-ltb 1 run.1 long) refl,
      )
      | inr short ↦ inr (λ s n h. omega (arith, (most s n h).0), rw (le-ltb 1 run.1 short) refl)
    ]

-- the computed text is the one that the rule gives
pub printed : (a : IpAddr) → IsPrintedAddress (address_text a) a
unfolding ipv6_text
printed (V4 a) = refl
printed (V6 a) =
    let mapped : List ℕ = 0 ∷ 0 ∷ 0 ∷ 0 ∷ 0 ∷ 0xffff ∷ [] in
    let test = bytes_eq (take 6 (ipv6_segments a)) mapped in
    let decides = bytes_eq-Decides (take 6 (ipv6_segments a)) mapped in
    elim (cases_Bool test) [
      | inl is_mapped ↦ inl (decides.0 is_mapped, rw is_mapped refl)
      | inr other ↦ inr (
        not_from_Decides test decides other,
        let P : List ℕ → Type 0 = λ t. IsPrintedGroups t (ipv6_segments a) in
            subst P (rw other refl) (groups_printed (ipv6_segments a)),
      )
    ]
