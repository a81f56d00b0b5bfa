-- What records add to the octets of a message: it depends on how many octets stand before them and on the names there,
-- and of a TTL only its four octets do.
use Rattle.std.proofs.Common.{◌≡◌, ℕ, ◌+◌, List, [], ◌∷◌, ◌++◌, length, map, refl, sym, ap, ap₂, ◌∙◌, append_assoc, length-append, arith}
use Rattle.std.proofs.lemmas.List.{append-nil}
use Rattle.hickory_proto_codes.specs.Codes.{class_code}
use Rattle.hickory_proto_core.specs.Records.{RecordValue}
use Rattle.hickory_proto_wire.specs.Place.{PlaceValue}
use Rattle.hickory_proto_wire.specs.Writing.{u16_octets, data_code}
use Rattle.hickory_proto_wire.specs.Written.{Body, name_octets, whole_count, noted, u32_octets, measured, data_octets, record_octets, record_added, records_added}
use Rattle.stored_replies.specs.Walk.{ttl_places}

abbrev pub added : Body → List RecordValue → List ℕ
added b [] = []
added b (r ∷ rs) = record_octets b.places r ++ added (record_added b r) rs

pub records_octets : (b : Body) (rs : List RecordValue) → (records_added b rs).octets ≡ b.octets ++ added b rs
records_octets b [] = sym (append-nil b.octets)
records_octets b (r ∷ rs) =
    records_octets (record_added b r) rs ∙ append_assoc b.octets (record_octets b.places r) (added (record_added b r) rs)

-- ---- bodies of one shape

pub record Alike (b c : Body) : Type 0 where
  pub octets : length b.octets ≡ length c.octets
  pub places : b.places ≡ c.places

pub alike_next : (b c : Body) (r s : RecordValue) → Alike b c → r.name ≡ s.name
    → length (record_octets b.places r) ≡ length (record_octets c.places s) → Alike (record_added b r) (record_added c s)
alike_next b c r s a names long =
    record {
      octets = omega (arith, a.octets, long, length-append b.octets (record_octets b.places r), length-append c.octets (record_octets c.places s));
      places =
          ap₂ (λ (ps : List PlaceValue) (n : ℕ). noted ps (whole_count ps r.name.labels) (12 + n) r.name.labels) a.places a.octets
          ∙ ap (λ x. noted c.places (whole_count c.places x.labels) (12 + length c.octets) x.labels) names;
    }

pub alike_same : (b c : Body) (r : RecordValue) → Alike b c → Alike (record_added b r) (record_added c r)
alike_same b c r a =
    alike_next b c r r a refl (ap (λ (ps : List PlaceValue). length (record_octets ps r)) a.places)

pub added_alike : (rs : List RecordValue) (b c : Body) → Alike b c → added b rs ≡ added c rs
added_alike [] b c a = refl
added_alike (r ∷ rs) b c a =
    ap₂ (λ (x : List ℕ) (y : List ℕ). x ++ y) (ap (λ (ps : List PlaceValue). record_octets ps r) a.places)
    (added_alike rs (record_added b r) (record_added c r) (alike_same b c r a))

pub places_alike : (rs : List RecordValue) (b c : Body) → Alike b c → ttl_places b rs ≡ ttl_places c rs
places_alike [] b c a = refl
places_alike (r ∷ rs) b c a =
    ap₂ (λ (x : ℕ) (y : List ℕ). x ∷ y)
    (ap₂ (λ (n : ℕ) (ps : List PlaceValue). 12 + n + length (name_octets ps r.name.labels) + 4) a.octets a.places)
    (places_alike rs (record_added b r) (record_added c r) (alike_same b c r a))

-- ---- a record around its TTL

abbrev pub before_ttl : List PlaceValue → RecordValue → List ℕ
before_ttl ps r = name_octets ps r.name.labels ++ (u16_octets (data_code r.rdata) ++ u16_octets (class_code r.dns_class))

abbrev pub behind_ttl : List PlaceValue → RecordValue → List ℕ
behind_ttl ps r = measured (data_octets ps r.rdata)

pub around_ttl : (ps : List PlaceValue) (r : RecordValue)
    → record_octets ps r ≡ before_ttl ps r ++ (u32_octets r.ttl ++ behind_ttl ps r)
around_ttl ps r =
    sym (append_assoc (name_octets ps r.name.labels) (u16_octets (data_code r.rdata) ++ u16_octets (class_code r.dns_class))
    (u32_octets r.ttl ++ behind_ttl ps r))

-- the record with its TTL changed
abbrev pub by_ttl : (ℕ → ℕ) → RecordValue → RecordValue
by_ttl change r = record r { ttl = change r.ttl }

pub same_length : (ps : List PlaceValue) (r : RecordValue) (change : ℕ → ℕ)
    → length (record_octets ps (by_ttl change r)) ≡ length (record_octets ps r)
same_length ps r change =
    let low = by_ttl change r in
    omega (
      arith,
      ap length (around_ttl ps r),
      ap length (around_ttl ps low),
      length-append (before_ttl ps r) (u32_octets r.ttl ++ behind_ttl ps r),
      length-append (before_ttl ps r) (u32_octets low.ttl ++ behind_ttl ps r),
    )

pub alike_low : (b : Body) (r : RecordValue) (change : ℕ → ℕ) → Alike (record_added b (by_ttl change r)) (record_added b r)
alike_low b r change =
    alike_next b b (by_ttl change r) r (record { octets = refl; places = refl }) refl (same_length b.places r change)

pub places_low : (rs : List RecordValue) (b : Body) (change : ℕ → ℕ)
    → ttl_places b (map (by_ttl change) rs) ≡ ttl_places b rs
places_low [] b change = refl
places_low (r ∷ rs) b change =
    let low = by_ttl change r in
    ap (λ (ps : List ℕ). (12 + length b.octets + length (name_octets b.places r.name.labels) + 4) ∷ ps)
    (places_alike (map (by_ttl change) rs) (record_added b low) (record_added b r) (alike_low b r change)
    ∙ places_low rs (record_added b r) change)

-- so many octets more
pub added_length : (rs : List RecordValue) (b : Body) (change : ℕ → ℕ)
    → length (added b (map (by_ttl change) rs)) ≡ length (added b rs)
added_length [] b change = refl
added_length (r ∷ rs) b change =
    let low = by_ttl change r in
    omega (
      arith,
      same_length b.places r change,
      ap length (added_alike (map (by_ttl change) rs) (record_added b low) (record_added b r) (alike_low b r change)),
      added_length rs (record_added b r) change,
      length-append (record_octets b.places low) (added (record_added b low) (map (by_ttl change) rs)),
      length-append (record_octets b.places r) (added (record_added b r) rs),
    )
