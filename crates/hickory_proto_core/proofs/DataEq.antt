-- The derived equality of record data is that of the definition.
use Rattle.std.proofs.Common.{◌≡◌, Bool, true, false, ◌&&◌, nat_eq, refl, sym, ◌∙◌}
use Rattle.std.proofs.Math.Bool.{and-true, and-false, and_assoc}
use Rattle.hickory_proto_names.proofs.Labels.{pointwise-map}
use Rattle.std.specs.Cmp.Lexicographic.{pointwise}
use Rattle.hickory_proto_names.specs.Name.{name_eq}
use Rattle.hickory_proto_core.specs.Records.{data_of, data_eq}
use Rattle.hickory_proto_core.specs.declared.record_data.RData.{RData}
use Rattle.hickory_proto_core.specs.declared.record_data.RData.TheVariants.{A, AAAA, CNAME, NS, PTR, SOA, SRV, MX, TXT, Unknown}
use Rattle.hickory_proto_core.specs.contracts.record_data.RDataPartialEq.TheImpl as derived

last_of_four : (a b c n : Bool) → (a && (b && (c && n))) ≡ (n && (a && (b && c)))
last_of_four a b c true = simp and-true
last_of_four a b c false = simp and-false

-- a test that is made last may be made first
last_first : (a n : Bool) → (a && n) ≡ (n && a)
last_first true true = refl
last_first true false = refl
last_first false true = refl
last_first false false = refl

pub derived_data_eq : (d e : RData) → (derived.ghosts).eq d e ≡ data_eq (data_of d) (data_of e)
derived_data_eq (A a) (A b) = simp (and_assoc, and-true)
derived_data_eq (AAAA a) (AAAA b) = simp (and_assoc, and-true)
derived_data_eq (CNAME a) (CNAME b) = simp (and_assoc, and-true)
derived_data_eq (NS a) (NS b) = simp (and_assoc, and-true)
derived_data_eq (PTR a) (PTR b) = simp (and_assoc, and-true)
derived_data_eq (SOA a b c d e f g) (SOA a' b' c' d' e' f' g') = simp (and_assoc, and-true)
derived_data_eq (SRV a b c d) (SRV a' b' c' d') = last_of_four (nat_eq a a') (nat_eq b b') (nat_eq c c') (name_eq d d') ∙ sym (simp (and_assoc, and-true))
derived_data_eq (MX a b) (MX a' b') = last_first (nat_eq a a') (name_eq b b') ∙ sym (simp (and_assoc, and-true))
derived_data_eq (TXT a) (TXT b) = sym (pointwise-map (pointwise nat_eq) (λ v. v.items) (λ v. v.items) a.items b.items)
derived_data_eq (Unknown a b) (Unknown a' b') = simp (and_assoc, and-true)
derived_data_eq _ _ = refl
