-- Bounds by the code of a type, as a map of them finds them.
use Rattle.std.proofs.Common.{◌≡◌, ℕ, Bool, nat_eq, ◌&&◌, subst, None, true, false, ◌==◌, ◌||◌, if◌then◌else◌, List, [], ◌∷◌, ◌++◌, filter, min, Option, Some, cond, refl, sym, ap₂, ◌∙◌, ap}
use Rattle.std.proofs.lemmas.Bool.{ne_eqb}
use Rattle.std.proofs.lemmas.Bool.Decides.{eqb_tells}
use Rattle.std.proofs.Math.Dec.{eqb}
use mathlib.Core.Logic.{inl, inr}
use Rattle.std.specs.Prelude.{◌≢◌, ◌⊎◌}
use Rattle.std.specs.BTreeMap.{is_at}
use Rattle.std.specs.List.{reduce}
use Rattle.hickory_proto_core.specs.Codes.{type_code}
use Rattle.hickory_proto_core.specs.ResponseKind.{record_type_code}
use Rattle.hickory_proto_core.specs.Messages.{MessageValue}
use Rattle.hickory_proto_core.specs.declared.query.Query.{Query}
use Rattle.std.specs.Map.{lookup}
use Rattle.std.specs.Ordering.{nat_cmp}
use Rattle.std.specs.Cmp.{IsEquivalence, unsigned_ties, unsigned_Decides, and_equiv, on_equiv, nat_eq_equiv, nat_cmp_total, both_ways, first_so, second_so}
use Rattle.std.specs.Cmp.Lexicographic.{pointwise, lists_equiv, options_equiv}
use Rattle.std.specs.Option.{option_eq}
use Rattle.std.specs.BTreeMap.{BTreeMap, IsOrdered}
use Rattle.std.specs.FinMap.{nat_cmp-IsAntisymmetric}
use Rattle.std.proofs.lemmas.Map.Lookups.{btree_map_from_get}
use mathlib.Core.Bool.{true≢false}
use Rattle.hickory_resolver_model.specs.Bounds.{BoundsValue, ConfigValue, SetsBounds, config_eq, agree_at, agree_from_every, all_agree, all_agree_equiv, every_agree, bounds_eq, bounds_equiv, bounds_by_code, least, living_records}

abbrev found : ℕ → List (ℕ × BoundsValue) → Option BoundsValue
found code bs = lookup (is_at (nat_cmp code)) bs

pub bounds_by_code-lookup : (code : ℕ) (bs : List (ℕ × BoundsValue)) → bounds_by_code code bs ≡ found code bs
bounds_by_code-lookup code [] = refl
bounds_by_code-lookup code (b ∷ bs) = ap₂ (λ here rest. cond here (Some b.1) rest) (unsigned_ties code b.0) (bounds_by_code-lookup code bs)

-- a map in which one key has a new value sets the bounds of that code
pub sets_bounds : (default : BoundsValue) (bs cs : List (ℕ × BoundsValue)) (code : ℕ) (bounds : BoundsValue) → found code cs ≡ Some bounds → ((q : ℕ) → is_at (nat_cmp code) q ≡ false → found q cs ≡ found q bs) → SetsBounds (record { default = default; by_type = bs }) (record { default = default; by_type = cs }) code bounds
sets_bounds default bs cs code bounds here others = record {
  default = refl;
  here = bounds_by_code-lookup code cs ∙ here;
  others = λ q apart.
      bounds_by_code-lookup q cs
      ∙ others q (sym (unsigned_ties code q) ∙ ne_eqb code q (λ e. apart (sym e)))
      ∙ sym (bounds_by_code-lookup q bs);
}

-- the least of some numbers, as an iterator picks it
pub least-reduce : (ns : List ℕ) → least ns ≡ reduce min ns
least-reduce [] = refl
least-reduce (n ∷ ns) = refl

-- the records that an answer lives by, for NS questions and for others
pub living_NS : (q : Query) (m : MessageValue) → (type_code q.query_type == 2) ≡ true → living_records q m ≡ filter (λ r. record_type_code r == 2) (m.answers ++ m.authorities)
living_NS q m h =
    ap (λ b. if b then filter (λ r. record_type_code r == 2) (m.answers ++ m.authorities) else filter (λ r. (record_type_code r == type_code q.query_type) || (record_type_code r == 5)) m.answers) h

pub living_others : (q : Query) (m : MessageValue) → (type_code q.query_type == 2) ≡ false → living_records q m ≡ filter (λ r. (record_type_code r == type_code q.query_type) || (record_type_code r == 5)) m.answers
living_others q m h =
    ap (λ b. if b then filter (λ r. record_type_code r == 2) (m.answers ++ m.authorities) else filter (λ r. (record_type_code r == type_code q.query_type) || (record_type_code r == 5)) m.answers) h

option_same : (m n : Option ℕ) → option_eq nat_eq m n ≡ true → m ≡ n
option_same None None h = refl
option_same None (Some n) h = absurd (true≢false (sym h))
option_same (Some m) None h = absurd (true≢false (sym h))
option_same (Some m) (Some n) h = ap Some ((unsigned_Decides m n).0 h)

pub bounds_same : (a b : BoundsValue) → bounds_eq a b ≡ true → a ≡ b
bounds_same a b h =
    let three = first_so _ (option_eq nat_eq a.negative_max b.negative_max) h in
    let two = first_so _ (option_eq nat_eq a.positive_max b.positive_max) three in
    λ i. record {
      positive_min = option_same a.positive_min b.positive_min (first_so _ (option_eq nat_eq a.negative_min b.negative_min) two) i;
      negative_min = option_same a.negative_min b.negative_min (second_so (option_eq nat_eq a.positive_min b.positive_min) _ two) i;
      positive_max = option_same a.positive_max b.positive_max (second_so _ (option_eq nat_eq a.positive_max b.positive_max) three) i;
      negative_max = option_same a.negative_max b.negative_max (second_so _ (option_eq nat_eq a.negative_max b.negative_max) h) i;
    }

bounds_option_same : (a b : Option BoundsValue) → option_eq bounds_eq a b ≡ true → a ≡ b
bounds_option_same None None h = refl
bounds_option_same None (Some b) h = absurd (true≢false (sym h))
bounds_option_same (Some a) None h = absurd (true≢false (sym h))
bounds_option_same (Some a) (Some b) h = ap Some (bounds_same a b h)

-- codes and their bounds, compared
abbrev pub same_entry : ℕ × BoundsValue → ℕ × BoundsValue → Bool
same_entry p q = nat_eq p.0 q.0 && bounds_eq p.1 q.1

entry_same : (p q : ℕ × BoundsValue) → same_entry p q ≡ true → p ≡ q
entry_same p q h = λ i. ((unsigned_Decides p.0 q.0).0 (first_so (nat_eq p.0 q.0) (bounds_eq p.1 q.1) h) i, bounds_same p.1 q.1 (second_so (nat_eq p.0 q.0) (bounds_eq p.1 q.1) h) i)

entries_same : (bs cs : List (ℕ × BoundsValue)) → pointwise same_entry bs cs ≡ true → bs ≡ cs
entries_same [] [] h = refl
entries_same [] (c ∷ cs) h = absurd (true≢false (sym h))
entries_same (b ∷ bs) [] h = absurd (true≢false (sym h))
entries_same (b ∷ bs) (c ∷ cs) h = λ i. entry_same b c (first_so (same_entry b c) (pointwise same_entry bs cs) h) i ∷ entries_same bs cs (second_so (same_entry b c) (pointwise same_entry bs cs) h) i

entry_equiv : IsEquivalence same_entry
entry_equiv = and_equiv (on_equiv (λ p. p.0) nat_eq_equiv) (on_equiv (λ p. p.1) bounds_equiv)

-- maps in the order of their keys are equal entry by entry where they agree at each code
pub same_maps : (m n : BTreeMap ℕ BoundsValue) → IsOrdered nat_cmp m → IsOrdered nat_cmp n → pointwise same_entry m.entries n.entries ≡ all_agree m.entries n.entries
same_maps m n o p =
    both_ways (pointwise same_entry m.entries n.entries) (all_agree m.entries n.entries)
    (λ h. subst (λ es. all_agree m.entries es ≡ true) (entries_same m.entries n.entries h) (all_agree_equiv.refl m.entries))
    (λ h. subst (λ es. pointwise same_entry m.entries es ≡ true) (btree_map_from_get nat_cmp_total m n o p (λ code. sym (bounds_by_code-lookup code m.entries) ∙ bounds_option_same (bounds_by_code code m.entries) (bounds_by_code code n.entries) (every_agree m.entries n.entries h code) ∙ bounds_by_code-lookup code n.entries) nat_cmp-IsAntisymmetric) ((lists_equiv entry_equiv).refl m.entries))

-- two types that are set in either order: the configurations are equal
pub sets_in_any_order : (old m n m' n' : ConfigValue) (a b : ℕ) (x y : BoundsValue) → a ≢ b
    → SetsBounds old m a x → SetsBounds m n b y → SetsBounds old m' b y → SetsBounds m' n' a x → config_eq n n' ≡ true
sets_in_any_order old m n m' n' a b x y apart one two three four =
    λ i. default i && agree_from_every n.by_type n'.by_type agree i
  where
    default : bounds_eq n.default n'.default ≡ true
    default = subst (λ d. bounds_eq n.default d ≡ true) (two.default ∙ one.default ∙ sym three.default ∙ sym four.default) (bounds_equiv.refl n.default)

    at : (code : ℕ) → ((eqb code a ≡ true) × (code ≡ a)) ⊎ ((eqb code a ≡ false) × (code ≢ a)) → ((eqb code b ≡ true) × (code ≡ b)) ⊎ ((eqb code b ≡ false) × (code ≢ b))
        → bounds_by_code code n.by_type ≡ bounds_by_code code n'.by_type
    at code (inl is) is_b = subst (λ c. bounds_by_code c n.by_type ≡ bounds_by_code c n'.by_type) (sym is.1) (two.others a apart ∙ one.here ∙ sym four.here)
    at code (inr is) (inl is_b) = subst (λ c. bounds_by_code c n.by_type ≡ bounds_by_code c n'.by_type) (sym is_b.1) (two.here ∙ sym three.here ∙ sym (four.others b (λ e. apart (sym e))))
    at code (inr is) (inr is_b) = two.others code is_b.1 ∙ one.others code is.1 ∙ sym (three.others code is_b.1) ∙ sym (four.others code is.1)

    agree : (code : ℕ) → agree_at n.by_type n'.by_type code ≡ true
    agree code = subst (λ o. option_eq bounds_eq (bounds_by_code code n.by_type) o ≡ true) (at code (eqb_tells code a) (eqb_tells code b)) ((options_equiv bounds_equiv).refl (bounds_by_code code n.by_type))
