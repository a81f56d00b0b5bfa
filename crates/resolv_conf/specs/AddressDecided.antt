-- Each text spells one address or none; so there is a function from texts to addresses.
use Rattle.std.specs.Prelude.{◌≡◌, ◌↔◌, ℕ, List, [], ◌∷◌, length, Option, None, Some}
use Rattle.std.proofs.Common.{refl, sym, ap, ◌∙◌, subst, append-nil, ne_eqb, lit≤, arith}
use Rattle.std.proofs.NetLemmas.Ipv4.{read_ipv4_complete, read_ipv4_sound}
use Rattle.std.proofs.NetLemmas.Ipv6.{EndsGroups-nil, IsDotted-not_colon_hex, read_ipv6_complete, read_ipv6_sound}
use Rattle.std.specs.Net.Addr.{ipv4_octets, ipv6_segments}
use Rattle.std.specs.Net.Grammar.{IsColonHex, IsDotted, IsIpText}
use Rattle.std.specs.Net.Reader.{Read, read_ipv4, read_ipv6, whole_value}
use Rattle.std.specs.declared.net.IpAddr.{IpAddr}
use Rattle.std.specs.declared.net.IpAddr.TheVariants.{V4, V6}
use Rattle.hickory_proto_core.specs.Addresses.{IsAddressText}

-- the address of these octets, or else of these segments
abbrev address_from : Option (List ℕ) → Option (List ℕ) → Option IpAddr
address_from (Some octets) segments = Some (V4 (record { octets = octets }))
address_from None (Some segments) = Some (V6 (record { segments = segments }))
address_from None None = None

-- the address that a text spells, or none
pub address_of : List ℕ → Option IpAddr
address_of text = address_from (whole_value (read_ipv4 text)) (whole_value (read_ipv6 text))

whole : (r : Read (List ℕ)) (x : List ℕ) → whole_value r ≡ Some x → r ≡ Some (x, [])
whole None x e = absurd (let h = e in cc)
whole (Some (y, [])) x e = ap (λ z. Some (z, [])) (let h = e in cc)
whole (Some (y, c ∷ cs)) x e = absurd (let h = rw (ne_eqb (length (c ∷ cs)) 0 (omega arith)) at e in cc)

dotted : (text octets : List ℕ) → whole_value (read_ipv4 text) ≡ Some octets → IsDotted text octets
dotted text octets e =
    let (front, split, spells) = read_ipv4_sound text octets [] (whole (read_ipv4 text) octets e) in
    subst (λ t. IsDotted t octets) (sym (split ∙ append-nil front)) spells

dotted_read : (text octets : List ℕ) → IsDotted text octets → whole_value (read_ipv4 text) ≡ Some octets
dotted_read text octets h =
    ap whole_value (ap read_ipv4 (sym (append-nil text)) ∙ read_ipv4_complete text octets [] h (lit≤ tt))

colon_hex : (text segments : List ℕ) → whole_value (read_ipv6 text) ≡ Some segments → IsColonHex text segments
colon_hex text segments e =
    let (front, split, spells) = read_ipv6_sound text segments [] (whole (read_ipv6 text) segments e) in
    subst (λ t. IsColonHex t segments) (sym (split ∙ append-nil front)) spells

colon_hex_read : (text segments : List ℕ) → IsColonHex text segments → whole_value (read_ipv6 text) ≡ Some segments
colon_hex_read text segments h =
    ap whole_value (ap read_ipv6 (sym (append-nil text)) ∙ read_ipv6_complete text segments [] h EndsGroups-nil)

spelled : (text : List ℕ) (four six : Option (List ℕ)) → whole_value (read_ipv4 text) ≡ four
    → whole_value (read_ipv6 text) ≡ six → (a : IpAddr) → address_from four six ≡ Some a → IsIpText text a
spelled text (Some octets) six e f a is =
    let same : V4 (record { octets = octets }) ≡ a = (let h = is in cc) in
    let P : IpAddr → Type 0 = λ x. IsIpText text x in
    subst P same (dotted text octets e)
spelled text None (Some segments) e f a is =
    let same : V6 (record { segments = segments }) ≡ a = (let h = is in cc) in
    let P : IpAddr → Type 0 = λ x. IsIpText text x in
    subst P same (colon_hex text segments f)
spelled text None None e f a is = absurd (let h = is in cc)

not_dotted : (text segments : List ℕ) (four : Option (List ℕ)) → whole_value (read_ipv4 text) ≡ four
    → IsColonHex text segments → four ≡ None
not_dotted text segments None e h = refl
not_dotted text segments (Some octets) e h = absurd (IsDotted-not_colon_hex text octets segments (dotted text octets e) h)

read : (text : List ℕ) (a : IpAddr) → IsIpText text a
    → address_from (whole_value (read_ipv4 text)) (whole_value (read_ipv6 text)) ≡ Some a
read text (V4 x) h =
    ap (λ four. address_from four (whole_value (read_ipv6 text))) (dotted_read text (ipv4_octets x) h)
read text (V6 x) h =
    ap (λ four. address_from four (whole_value (read_ipv6 text)))
    (not_dotted text (ipv6_segments x) (whole_value (read_ipv4 text)) refl h)
    ∙ ap (address_from None) (colon_hex_read text (ipv6_segments x) h)

-- it is the address that the text spells
pub address_of_is : (text : List ℕ) (a : IpAddr) → (address_of text ≡ Some a) ↔ IsAddressText text a
unfolding address_of
address_of_is text a =
    (spelled text (whole_value (read_ipv4 text)) (whole_value (read_ipv6 text)) refl refl a, read text a)
