-- Bounds on times to live, in seconds, and how they are used: to clamp the TTL of each record, and to say for
-- how long an outcome may be kept (RFC 2181, section 8; RFC 2308, section 5; the bounds are the caller's).
use Rattle.std.specs.Prelude.{◌≡◌, ◌≢◌, ℕ, Bool, true, false, ◌⊎◌, ◌||◌, ◌&&◌, ◌==◌, List, [], ◌∷◌, ◌++◌, map, filter, fold, min, max, nat_lt, nat_eq, Option, None, Some, unwrap_or, Result, Ok, Err, if◌then◌else◌}
use Rattle.std.specs.Option.{option_map_or, option_eq}
use Rattle.std.specs.List.{list_all}
use Rattle.std.specs.Cmp.{IsEquivalence, equiv, partial_equiv_from_equiv, and_equiv, on_equiv, nat_eq_equiv, unsigned_Decides, both_ways, first_so, second_so}
use Rattle.std.specs.Cmp.Lexicographic.{options_equiv}
use mathlib.Core.Path.{refl, ap, ◌∙◌}
use mathlib.Core.Logic.{inl, inr}
use Rattle.hickory_proto_core.specs.Codes.{type_code}
use Rattle.hickory_proto_core.specs.Records.{RecordValue}
use Rattle.hickory_proto_core.specs.Messages.{MessageValue}
use Rattle.hickory_proto_core.specs.Errors.{NoRecordsValue}
use Rattle.hickory_proto_core.specs.ResponseKind.{record_type_code, is_of_type, asks_for}
use Rattle.hickory_proto_core.specs.codes.record_type.RecordType.TheVariants as type
use Rattle.hickory_proto_core.specs.declared.query.Query.{Query}
use Rattle.hickory_proto_core.specs.declared.bounds_error.BoundsError.{BoundsError}
use Rattle.hickory_proto_core.specs.declared.bounds_error.BoundsError.TheVariants.{PositiveReversed, NegativeReversed}

-- bounds as they are given: each may be left out
pub record BoundsValue : Type 0 where
  pub positive_min : Option ℕ
  pub negative_min : Option ℕ
  pub positive_max : Option ℕ
  pub negative_max : Option ℕ

-- bounds are equal where all four are
abbrev pub bounds_eq : BoundsValue → BoundsValue → Bool
bounds_eq a b =
    option_eq nat_eq a.positive_min b.positive_min && option_eq nat_eq a.negative_min b.negative_min
    && option_eq nat_eq a.positive_max b.positive_max
    && option_eq nat_eq a.negative_max b.negative_max

pub bounds_equiv : IsEquivalence bounds_eq
bounds_equiv =
    and_equiv (and_equiv (and_equiv (on_equiv (λ b. b.positive_min) (options_equiv nat_eq_equiv))
    (on_equiv (λ b. b.negative_min) (options_equiv nat_eq_equiv)))
    (on_equiv (λ b. b.positive_max) (options_equiv nat_eq_equiv)))
    (on_equiv (λ b. b.negative_max) (options_equiv nat_eq_equiv))

-- a day
abbrev pub day : ℕ
day = 86400

-- the least is 0 where it is left out, and the greatest a day
abbrev pub positive_bounds : BoundsValue → ℕ × ℕ
positive_bounds b = (unwrap_or b.positive_min 0, unwrap_or b.positive_max day)

abbrev pub negative_bounds : BoundsValue → ℕ × ℕ
negative_bounds b = (unwrap_or b.negative_min 0, unwrap_or b.negative_max day)

-- a TTL has 32 bits, so a bound past them counts as a day where TTLs are clamped
abbrev pub reduced_bound : ℕ → ℕ
reduced_bound n = if nat_lt 4294967295 n then day else n

abbrev pub reduced_bounds : ℕ × ℕ → ℕ × ℕ
reduced_bounds b = (reduced_bound b.0, reduced_bound b.1)

abbrev pub is_reversed : ℕ × ℕ → Bool
is_reversed b = nat_lt b.1 b.0

-- the fault of bounds whose least is above their greatest
abbrev pub bounds_fault : BoundsValue → Option BoundsError
bounds_fault b =
    if is_reversed (positive_bounds b) || is_reversed (reduced_bounds (positive_bounds b))
    then Some PositiveReversed
    else (if is_reversed (negative_bounds b) then Some NegativeReversed else None)

-- the bounds, or their fault
abbrev pub bounds_or_fault : BoundsValue → Result BoundsValue BoundsError
bounds_or_fault b = option_map_or Err (bounds_fault b) (Ok b)

-- the bounds of most types, and those of some types by their codes, which stand in place of them whole
pub record ConfigValue : Type 0 where
  pub default : BoundsValue
  pub by_type : List (ℕ × BoundsValue)

-- the bounds of one code in a list
abbrev pub bounds_by_code : ℕ → List (ℕ × BoundsValue) → Option BoundsValue
bounds_by_code code [] = None
bounds_by_code code (b ∷ bs) = if code == b.0 then Some b.1 else bounds_by_code code bs

-- whether two lists have the same bounds for a code
abbrev pub agree_at : List (ℕ × BoundsValue) → List (ℕ × BoundsValue) → ℕ → Bool
agree_at bs cs code = option_eq bounds_eq (bounds_by_code code bs) (bounds_by_code code cs)

-- whether they have the same for each code that either lists, in whatever order
abbrev pub all_agree : List (ℕ × BoundsValue) → List (ℕ × BoundsValue) → Bool
all_agree bs cs = list_all (λ b. agree_at bs cs b.0) bs && list_all (λ c. agree_at bs cs c.0) cs

-- configurations are equal where the bounds of most types are, and each type has the same bounds of its own
abbrev pub config_eq : ConfigValue → ConfigValue → Bool
config_eq c d = bounds_eq c.default d.default && all_agree c.by_type d.by_type

-- a code is not listed, or what holds of each listed code holds of it
listed : (P : ℕ → Bool) (bs : List (ℕ × BoundsValue)) → list_all (λ b. P b.0) bs ≡ true → (code : ℕ)
    → (bounds_by_code code bs ≡ None) ⊎ (P code ≡ true)
listed P [] h code = inl refl
listed P (b ∷ bs) h code =
    at (code == b.0) refl (listed P bs (second_so (P b.0) (list_all (λ c. P c.0) bs) h) code)
  where
    at : (here : Bool) → (code == b.0) ≡ here → (bounds_by_code code bs ≡ None) ⊎ (P code ≡ true)
        → ((if here then Some b.1 else bounds_by_code code bs) ≡ None) ⊎ (P code ≡ true)
    at true e rest =
        inr (ap P ((unsigned_Decides code b.0).0 e) ∙ first_so (P b.0) (list_all (λ c. P c.0) bs) h)
    at false e rest = rest

-- lists that agree do so at every code
pub every_agree : (bs cs : List (ℕ × BoundsValue)) → all_agree bs cs ≡ true → (code : ℕ)
    → agree_at bs cs code ≡ true
every_agree bs cs h code =
    either (listed at bs (first_so (list_all (λ b. at b.0) bs) (list_all (λ c. at c.0) cs) h) code)
    (listed at cs (second_so (list_all (λ b. at b.0) bs) (list_all (λ c. at c.0) cs) h) code)
  where
    at : ℕ → Bool
    at = agree_at bs cs

    either : (bounds_by_code code bs ≡ None) ⊎ (at code ≡ true)
        → (bounds_by_code code cs ≡ None) ⊎ (at code ≡ true) → at code ≡ true
    either (inr e) f = e
    either (inl e) (inr f) = f
    either (inl e) (inl f) = λ i. option_eq bounds_eq (e i) (f i)

each_listed : (P : ℕ → Bool) → ((code : ℕ) → P code ≡ true) → (bs : List (ℕ × BoundsValue))
    → list_all (λ b. P b.0) bs ≡ true
each_listed P h [] = refl
each_listed P h (b ∷ bs) = λ i. h b.0 i && each_listed P h bs i

-- lists that agree at every code do so
pub agree_from_every : (bs cs : List (ℕ × BoundsValue)) → ((code : ℕ) → agree_at bs cs code ≡ true)
    → all_agree bs cs ≡ true
agree_from_every bs cs h = λ i. each_listed (agree_at bs cs) h bs i && each_listed (agree_at bs cs) h cs i

pub all_agree_equiv : IsEquivalence all_agree
all_agree_equiv =
    equiv (record {
      symm = symm;
      trans = trans;
    }) (λ bs. agree_from_every bs bs (λ code. same.refl (own code bs)))
  where
    own : ℕ → List (ℕ × BoundsValue) → Option BoundsValue
    own = bounds_by_code

    same : IsEquivalence (option_eq bounds_eq)
    same = options_equiv bounds_equiv

    turned : (bs cs : List (ℕ × BoundsValue)) → all_agree bs cs ≡ true → all_agree cs bs ≡ true
    turned bs cs h =
        agree_from_every cs bs (λ code. same.symm (own code cs) (own code bs) ∙ every_agree bs cs h code)

    symm : (bs cs : List (ℕ × BoundsValue)) → all_agree bs cs ≡ all_agree cs bs
    symm bs cs = both_ways (all_agree bs cs) (all_agree cs bs) (turned bs cs) (turned cs bs)

    trans : (bs cs ds : List (ℕ × BoundsValue)) → all_agree bs cs ≡ true → all_agree cs ds ≡ true
        → all_agree bs ds ≡ true
    trans bs cs ds p q = agree_from_every bs ds (λ code. (partial_equiv_from_equiv same).trans (own code bs)
        (own code cs) (own code ds) (every_agree bs cs p code) (every_agree cs ds q code))

pub config_equiv : IsEquivalence config_eq
config_equiv = and_equiv (on_equiv (λ c. c.default) bounds_equiv) (on_equiv (λ c. c.by_type) all_agree_equiv)

abbrev pub bounds_for : ConfigValue → ℕ → BoundsValue
bounds_for config code = unwrap_or (bounds_by_code code config.by_type) config.default

-- bounds all of which are left out
abbrev pub no_bounds : BoundsValue
no_bounds = record { positive_min = None; negative_min = None; positive_max = None; negative_max = None }

-- one type gets bounds of its own, and all else stays as it was
pub record SetsBounds (old new : ConfigValue) (code : ℕ) (bounds : BoundsValue) : Type 0 where
  pub default : new.default ≡ old.default
  pub here : bounds_by_code code new.by_type ≡ Some bounds
  pub others : (other : ℕ) → other ≢ code
      → bounds_by_code other new.by_type ≡ bounds_by_code other old.by_type

-- the greatest TTL that records of a type are kept with
abbrev pub greatest_ttl : ConfigValue → ℕ → ℕ
greatest_ttl config code = reduced_bound (positive_bounds (bounds_for config code)).1

-- a number brought between two
abbrev pub clamp : ℕ × ℕ → ℕ → ℕ
clamp bounds n = max bounds.0 (min n bounds.1)

-- a record with its TTL clamped by the bounds of its own type
abbrev pub clamped_record : ConfigValue → RecordValue → RecordValue
clamped_record config r =
    record r { ttl = clamp (reduced_bounds (positive_bounds (bounds_for config (record_type_code r)))) r.ttl }

abbrev pub clamped_records : ConfigValue → List RecordValue → List RecordValue
clamped_records config rs = map (clamped_record config) rs

abbrev pub clamped_message : ConfigValue → MessageValue → MessageValue
clamped_message config m = record m {
  answers = clamped_records config m.answers;
  authorities = clamped_records config m.authorities;
  additionals = clamped_records config m.additionals;
}

-- the least of some numbers, where there are some
abbrev pub least : List ℕ → Option ℕ
least [] = None
least (n ∷ ns) = Some (fold min n ns)

-- the records that a positive answer lives by: answers of the asked type and CNAMEs; for NS questions the NS
-- records among answers and authorities
abbrev pub living_records : Query → MessageValue → List RecordValue
living_records q m =
    if asks_for type.NS q then filter (is_of_type type.NS) (m.answers ++ m.authorities)
    else filter (λ r. is_of_type q.query_type r || is_of_type type.CNAME r) m.answers

abbrev pub least_ttl : List RecordValue → Option ℕ
least_ttl rs = least (map (λ r. r.ttl) rs)

-- for how many seconds an answer whose TTLs are clamped may be kept
abbrev pub positive_lifetime : ConfigValue → Query → MessageValue → ℕ
positive_lifetime config q m =
    let bounds = positive_bounds (bounds_for config (type_code q.query_type)) in
    clamp bounds (unwrap_or (least_ttl (living_records q m)) bounds.0)

-- for how many seconds a negative answer may be kept
abbrev pub negative_lifetime : ConfigValue → Query → NoRecordsValue → ℕ
negative_lifetime config q n =
    let bounds = negative_bounds (bounds_for config (type_code q.query_type)) in
    clamp bounds (unwrap_or n.negative_ttl bounds.0)
