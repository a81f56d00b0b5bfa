-- Zones that are served here unless a program says otherwise, each as the octets of its name.
use Rattle.std.specs.Prelude.{◌≡◌, ℕ, List, [], ◌∷◌, ◌++◌, codes, fold, map, replicate, take}
use Rattle.std.specs.Fmt.{decimal}
use Rattle.std.specs.List.{range_with_len}
use Rattle.hickory_proto_core.specs.Name.{wire_form}
use Rattle.domain_table.specs.Domains.{inserted}
use Rattle.local_answers.specs.declared.rules.DomainRule.{DomainRule}
use Rattle.local_answers.specs.declared.rules.DomainRule.TheVariants as rule

-- the name of a network of IPv4, by the texts of its octets from the last to the first (RFC 1035, section 3.5)
abbrev pub reverse_v4 : List (List ℕ) → List ℕ
reverse_v4 octets = wire_form (octets ++ codes "in-addr" ∷ codes "arpa" ∷ [])

-- the name of a network of IPv6, by its nibbles from the last to the first, each as a digit (RFC 3596, section 2.5)
abbrev pub reverse_v6 : List ℕ → List ℕ
reverse_v6 nibbles = wire_form (map (λ nibble. nibble ∷ []) nibbles ++ codes "ip6" ∷ codes "arpa" ∷ [])

-- RFC 6303, section 4.1: 10.0.0.0/8, 172.16.0.0/12 and 192.168.0.0/16
abbrev pub private_networks : List (List ℕ)
private_networks =
    reverse_v4 (codes "10" ∷ [])
    ∷ (map (λ n. reverse_v4 (decimal n ∷ codes "172" ∷ [])) (range_with_len 16 16)
    ++ reverse_v4 (codes "168" ∷ codes "192" ∷ []) ∷ [])

-- RFC 6303, section 4.2
abbrev pub special_networks : List (List ℕ)
special_networks =
    reverse_v4 (codes "0" ∷ []) ∷ reverse_v4 (codes "127" ∷ []) ∷ reverse_v4 (codes "254" ∷ codes "169" ∷ [])
    ∷ reverse_v4 (codes "2" ∷ codes "0" ∷ codes "192" ∷ [])
    ∷ reverse_v4 (codes "100" ∷ codes "51" ∷ codes "198" ∷ [])
    ∷ reverse_v4 (codes "113" ∷ codes "0" ∷ codes "203" ∷ [])
    ∷ reverse_v4 (codes "255" ∷ codes "255" ∷ codes "255" ∷ codes "255" ∷ []) ∷ []

-- RFC 7793, section 2.1: 100.64.0.0/10
abbrev pub shared_networks : List (List ℕ)
shared_networks = map (λ n. reverse_v4 (decimal n ∷ codes "100" ∷ [])) (range_with_len 64 64)

-- RFC 6303, sections 4.3 to 4.6: :: and ::1, fd00::/8, fe80::/10 and 2001:db8::/32
abbrev pub special_networks_v6 : List (List ℕ)
special_networks_v6 =
    reverse_v6 (replicate 32 48) ∷ reverse_v6 (codes "1" ++ replicate 31 48) ∷ reverse_v6 (codes "df")
    ∷ reverse_v6 (codes "8ef") ∷ reverse_v6 (codes "9ef") ∷ reverse_v6 (codes "aef") ∷ reverse_v6 (codes "bef")
    ∷ reverse_v6 (codes "8bd01002") ∷ []

-- RFC 6762, section 22.1; RFC 8375, section 4; RFC 9462, section 8.1; RFC 9476, section 2
abbrev pub special_domains : List (List ℕ)
special_domains =
    wire_form (codes "local" ∷ []) ∷ wire_form (codes "home" ∷ codes "arpa" ∷ [])
    ∷ wire_form (codes "resolver" ∷ codes "arpa" ∷ []) ∷ wire_form (codes "alt" ∷ []) ∷ []

abbrev pub locally_served_zones : List (List ℕ)
locally_served_zones =
    private_networks ++ special_networks ++ shared_networks ++ special_networks_v6 ++ special_domains

-- the rules, with these zones served
abbrev pub with_served : List (List ℕ) → List (List ℕ × DomainRule) → List (List ℕ × DomainRule)
with_served zones rules = fold (λ served zone. inserted zone rule.Serve served) rules zones

-- some of the first of them are served
abbrev pub FirstServed : List (List ℕ) → List (List ℕ × DomainRule) → List (List ℕ × DomainRule) → Type 0
FirstServed zones old new = (n : ℕ) × (new ≡ with_served (take n zones) old)
