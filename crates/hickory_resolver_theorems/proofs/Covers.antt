-- Records that are covered, at lower TTLs and by more exchanges.
use Rattle.std.proofs.Common.{◌≡◌, ◌≤◌, ℕ, ◌+◌, ◌⊎◌, ◌==◌, Bool, true, false, ◌||◌, List, [], ◌∷◌, ◌++◌, map, filter, nat_lt, unwrap_or, refl, sym, ap, ◌∙◌, subst, arith, inl, inr, if◌then◌else◌}
use Rattle.std.proofs.lemmas.Bool.{ltb-false, eq-eqb, or_left}
use Rattle.std.specs.List.{AllByRecursion}
use Rattle.hickory_proto_core.specs.Codes.{type_code}
use Rattle.hickory_proto_core.specs.Records.{RecordValue}
use Rattle.hickory_proto_core.specs.Messages.{MessageValue}
use Rattle.hickory_proto_core.specs.ResponseKind.{record_type_code}
use Rattle.hickory_proto_core.specs.declared.query.Query.{Query}
use Rattle.hickory_resolver_model.specs.Bounds.{ConfigValue, bounds_for, positive_bounds, reduced_bound, clamped_message, clamped_record, clamped_records, least, living_records, positive_lifetime, greatest_ttl}
use Rattle.hickory_resolver_model.specs.Cache.{saturating_sum}
use Rattle.hickory_resolver_theorems.specs.Covered.{Dated, IsCoveredBy, IsCovered, IsLoopback}
use Rattle.hickory_resolver_theorems.specs.Statements.{LeastTtlIsZero, IsFreshRecord, AreFreshRecords}
use Rattle.hickory_resolver_theorems.proofs.Lists.{all-weaker, all-map, all-has, has-all, has-left, has-map, has-filter, fold-min, fold-min-has, ContainsByRecursion}

-- ---- more exchanges

pub covered-left : (config : ConfigValue) (xs ys : List Dated) (now : ℕ) (r : RecordValue) → IsCovered config xs now r → IsCovered config (xs ++ ys) now r
covered-left config [] ys now r h = absurd h
covered-left config (x ∷ xs) ys now r (inl h) = inl h
covered-left config (x ∷ xs) ys now r (inr h) = inr (covered-left config xs ys now r h)

pub covered-has : (config : ConfigValue) (xs : List Dated) (now : ℕ) (r : RecordValue) (d : Dated) → ContainsByRecursion xs d → IsCoveredBy config now r d → IsCovered config xs now r
covered-has config [] now r d h by = absurd h
covered-has config (x ∷ xs) now r d (inl e) by = inl (subst (IsCoveredBy config now r) e by)
covered-has config (x ∷ xs) now r d (inr h) by = inr (covered-has config xs now r d h by)

-- ---- lower TTLs

-- another moment and TTL that do not reach further
abbrev pub at_ttl : ℕ → RecordValue → RecordValue
at_ttl ttl r = record r { ttl = ttl }

pub covered-lower : (config : ConfigValue) (xs : List Dated) (moment now ttl : ℕ) (r : RecordValue) → now + ttl ≤ moment + r.ttl → IsCovered config xs moment r → IsCovered config xs now (at_ttl ttl r)
covered-lower config [] moment now ttl r le h = absurd h
covered-lower config (x ∷ xs) moment now ttl r le (inl h) = inl (record { response = h.response; came = h.came; received = h.received; brought = h.brought; equal = h.equal; reaches = omega (arith, le, h.reaches) })
covered-lower config (x ∷ xs) moment now ttl r le (inr h) = inr (covered-lower config xs moment now ttl r le h)

-- ---- clamped TTLs

-- where the least is zero, a clamped TTL is no longer than it was, and at most the greatest
pub clamped_message-le : (config : ConfigValue) (r : RecordValue) → LeastTtlIsZero config (record_type_code r) → (clamped_record config r).ttl ≤ r.ttl
clamped_message-le config r e =
    let zero_least : reduced_bound (positive_bounds (bounds_for config (record_type_code r))).0 ≡ 0 = ap reduced_bound e in
    omega (arith, zero_least)

pub clamped_message-greatest : (config : ConfigValue) (r : RecordValue) → LeastTtlIsZero config (record_type_code r) → (clamped_record config r).ttl ≤ greatest_ttl config (record_type_code r)
clamped_message-greatest config r e =
    let zero_least : reduced_bound (positive_bounds (bounds_for config (record_type_code r))).0 ≡ 0 = ap reduced_bound e in
    omega (arith, zero_least)

-- a greatest TTL has 32 bits
pub greatest-short : (config : ConfigValue) (code : ℕ) → greatest_ttl config code ≤ 4294967295
greatest-short config code = by (positive_bounds (bounds_for config code)).1
  where
    on : (n : ℕ) (b : Bool) → nat_lt 4294967295 n ≡ b → (if b then 86400 else n) ≤ 4294967295
    on n true e = omega arith
    on n false e = ltb-false _ _ e

    by : (n : ℕ) → reduced_bound n ≤ 4294967295
    by n = on n (nat_lt 4294967295 n) refl

-- ---- lifetimes

pub saturating-le : (a b : ℕ) → saturating_sum a b ≤ a + b
saturating-le a b = omega arith

-- the least of some numbers is at most each of them
pub least-has : (ns : List ℕ) (n d : ℕ) → ContainsByRecursion ns n → unwrap_or (least ns) d ≤ n
least-has [] n d h = absurd h
least-has (m ∷ ms) n d (inl e) = omega (arith, e, fold-min ms m)
least-has (m ∷ ms) n d (inr h) = fold-min-has ms m n h

-- an answer of the asked type is among those that an answer lives by
pub lives-by : (q : Query) (m : MessageValue) (r : RecordValue) → ContainsByRecursion m.answers r → record_type_code r ≡ type_code q.query_type → ContainsByRecursion (living_records q m) r
lives-by q m r h e = by (type_code q.query_type == 2) refl
  where
    by : (b : Bool) → (type_code q.query_type == 2) ≡ b
        → ContainsByRecursion (if b then filter (λ x. record_type_code x == 2) (m.answers ++ m.authorities) else filter (λ x. (record_type_code x == type_code q.query_type) || (record_type_code x == 5)) m.answers) r
    by true k = has-filter (λ x. record_type_code x == 2) (m.answers ++ m.authorities) r (has-left m.answers m.authorities r h) (ap (λ n. n == 2) e ∙ k)
    by false k = has-filter (λ x. (record_type_code x == type_code q.query_type) || (record_type_code x == 5)) m.answers r h (or_left _ _ (eq-eqb _ _ e))

pub lifetime-le : (config : ConfigValue) (q : Query) (m : MessageValue) (r : RecordValue) → LeastTtlIsZero config (type_code q.query_type) → ContainsByRecursion m.answers r → record_type_code r ≡ type_code q.query_type → positive_lifetime config q m ≤ r.ttl
lifetime-le config q m r zero h e =
    let lo = (positive_bounds (bounds_for config (type_code q.query_type))).0 in
    let one = least-has (map (λ x. x.ttl) (living_records q m)) r.ttl lo (has-map (λ x. x.ttl) (living_records q m) r (lives-by q m r h e)) in
    omega (arith, zero, one)

-- ---- what a store or a reply makes of records

-- a record of the asked type is a loopback record, or is covered once its TTL is clamped
abbrev pub Arrives : ConfigValue → List Dated → ℕ → ℕ → RecordValue → Type 0
Arrives config sources code now r = record_type_code r ≡ code → IsLoopback r ⊎ IsCovered config sources now (clamped_record config r)

-- such records are fresh once they are clamped, for as long as they live
pub arrived-fresh : (config : ConfigValue) (sources : List Dated) (q : Query) (now : ℕ) (m : MessageValue) → LeastTtlIsZero config (type_code q.query_type)
    → AllByRecursion (Arrives config sources (type_code q.query_type) now) m.answers
    → AreFreshRecords config sources (type_code q.query_type) now (saturating_sum now (positive_lifetime config q (clamped_message config m))) (clamped_records config m.answers)
arrived-fresh config sources q now m zero all =
    all-map (IsFreshRecord config sources code now deadline) (clamped_record config) m.answers
    (has-all (λ r. IsFreshRecord config sources code now deadline (clamped_record config r)) m.answers (λ r h e. of r h e (all-has (Arrives config sources code now) m.answers r all h e)))
  where
    code : ℕ
    code = type_code q.query_type

    deadline : ℕ
    deadline = saturating_sum now (positive_lifetime config q (clamped_message config m))

    of : (r : RecordValue) → ContainsByRecursion m.answers r → record_type_code r ≡ code → IsLoopback r ⊎ IsCovered config sources now (clamped_record config r)
        → IsLoopback (clamped_record config r) ⊎ (IsCovered config sources now (clamped_record config r) × ((clamped_record config r).ttl ≤ greatest_ttl config code) × (deadline ≤ now + (clamped_record config r).ttl))
    of r h e (inl loop) = inl loop
    of r h e (inr covered) =
        let none : LeastTtlIsZero config (record_type_code r) = subst (LeastTtlIsZero config) (sym e) zero in
        let life = lifetime-le config q (clamped_message config m) (clamped_record config r) zero (has-map (clamped_record config) m.answers r h) e in
        inr (covered, subst (λ n. (clamped_record config r).ttl ≤ greatest_ttl config n) e (clamped_message-greatest config r none), omega (arith, life, saturating-le now (positive_lifetime config q (clamped_message config m))))

-- fresh records are fresh up to a sooner deadline
pub fresh-sooner : (config : ConfigValue) (sources : List Dated) (code now later sooner : ℕ) (rs : List RecordValue) → sooner ≤ later → AreFreshRecords config sources code now later rs → AreFreshRecords config sources code now sooner rs
fresh-sooner config sources code now later sooner rs le fresh = all-weaker (IsFreshRecord config sources code now later) (IsFreshRecord config sources code now sooner) (λ r h same. by r (h same)) rs fresh
  where
    by : (r : RecordValue) → IsLoopback r ⊎ (IsCovered config sources now r × (r.ttl ≤ greatest_ttl config code) × (later ≤ now + r.ttl)) → IsLoopback r ⊎ (IsCovered config sources now r × (r.ttl ≤ greatest_ttl config code) × (sooner ≤ now + r.ttl))
    by r (inl loop) = inl loop
    by r (inr (covered, short, live)) = inr (covered, short, omega (arith, le, live))

-- fresh records arrive once more, when they are stored under another question
pub fresh-arrives : (config : ConfigValue) (sources : List Dated) (code now deadline : ℕ) (rs : List RecordValue) → LeastTtlIsZero config code → AreFreshRecords config sources code now deadline rs → AllByRecursion (Arrives config sources code now) rs
fresh-arrives config sources code now deadline rs zero all = all-weaker (IsFreshRecord config sources code now deadline) (Arrives config sources code now) (λ r fresh e. of r e (fresh e)) rs all
  where
    of : (r : RecordValue) → record_type_code r ≡ code → IsLoopback r ⊎ (IsCovered config sources now r × (r.ttl ≤ greatest_ttl config code) × (deadline ≤ now + r.ttl)) → IsLoopback r ⊎ IsCovered config sources now (clamped_record config r)
    of r e (inl loop) = inl loop
    of r e (inr (covered, short, live)) =
        inr (covered-lower config sources now now (clamped_record config r).ttl r (omega (arith, clamped_message-le config r (subst (LeastTtlIsZero config) (sym e) zero))) covered)
