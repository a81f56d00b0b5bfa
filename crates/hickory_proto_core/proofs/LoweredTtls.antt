-- Records whose TTLs are lower.
use Rattle.std.proofs.Common.{arith, ◌≡◌, ℕ, ◌-◌, ◌≤◌, List, [], ◌∷◌, map, All, refl}
use Rattle.std.proofs.lemmas.List.Elements.{All-head, All-tail, All-map, All-weaker}
use Rattle.hickory_proto_core.specs.Records.{RecordValue, lower_ttl}

pub lower_ttl-none : (rs : List RecordValue) → map (lower_ttl 0) rs ≡ rs
lower_ttl-none [] = refl
lower_ttl-none (r ∷ rs) =
    let same : r.ttl - 0 ≡ r.ttl = omega arith in
    let rest = lower_ttl-none rs in
    λ i. record r { ttl = same i } ∷ rest i

-- lower by a and then by s, where no TTL is greater than a bound
pub lower_ttl-twice : (a s t longest : ℕ) → ((x : ℕ) → x ≤ longest → x - t ≡ (x - a) - s) → (rs : List RecordValue) → All (λ r. r.ttl ≤ longest) rs → map (lower_ttl t) rs ≡ map (lower_ttl s) (map (lower_ttl a) rs)
lower_ttl-twice a s t longest same [] bounded = refl
lower_ttl-twice a s t longest same (r ∷ rs) bounded =
    let P : RecordValue → Type 0 = λ x. x.ttl ≤ longest in
    let here = same r.ttl (All-head P r rs bounded) in
    let rest = lower_ttl-twice a s t longest same rs (All-tail P r rs bounded) in
    λ i. record r { ttl = here i } ∷ rest i

-- a bound stays a bound
pub lower_ttl-bounded : (seconds longest : ℕ) (rs : List RecordValue) → All (λ r. r.ttl ≤ longest) rs → All (λ r. r.ttl ≤ longest) (map (lower_ttl seconds) rs)
lower_ttl-bounded seconds longest rs bounded =
    let P : RecordValue → Type 0 = λ r. r.ttl ≤ longest in
    let Q : RecordValue → Type 0 = λ r. r.ttl - seconds ≤ longest in
    All-map P (lower_ttl seconds) rs (All-weaker P Q (λ r h. omega arith) rs bounded)
