-- A code by its name is written as before, so that what is read of octets is written as they are.
use Rattle.std.proofs.Common.{◌≡◌, ℕ, Bool, true, false, List, [], ◌∷◌, ◌++◌, map, refl, sym, ap, ap₂, ◌∙◌}
use Rattle.std.specs.Prelude.{◌==◌, if◌then◌else◌}
use Rattle.std.proofs.lemmas.Bool.{eqb-true}
use Rattle.hickory_proto_codes.specs.Codes.{type_code, type_of, class_code, class_of, response_code, response_of}
use Rattle.hickory_proto_codes.specs.declared.record_type.RecordType.TheVariants as type
use Rattle.hickory_proto_codes.specs.declared.dns_class.DNSClass.TheVariants as class
use Rattle.hickory_proto_codes.specs.declared.response_code.ResponseCode.TheVariants as code
use Rattle.hickory_proto_core.specs.Records.{RecordValue}
use Rattle.hickory_proto_core.specs.declared.query.Query.{Query}
use Rattle.hickory_proto_wire.specs.Place.{PlaceValue}
use Rattle.hickory_proto_wire.specs.Writing.{u16_octets, data_code, named_query, named_record}
use Rattle.hickory_proto_wire.specs.Written.{Body, name_octets, u32_octets, measured, data_octets, query_octets, record_octets, query_added, record_added, body_with}
use Rattle.stored_replies.specs.Walk.{ttl_places}
use Rattle.stored_replies.proofs.Added.{added}

pick : {A : Type 0} (code : A → ℕ) (n k : ℕ) (v rest : A) → code v ≡ k → code rest ≡ n → code (if n == k then v else rest) ≡ n
pick code n k v rest e r = by (n == k) refl
  where
    by : (b : Bool) → (n == k) ≡ b → code (if b then v else rest) ≡ n
    by true h = e ∙ sym (eqb-true n k h)
    by false h = r

-- the code of what a code names is that code
pub type-code : (n : ℕ) → type_code (type_of n) ≡ n
type-code n =
    pick type_code n 1 type.A _ refl (pick type_code n 2 type.NS _ refl (pick type_code n 5 type.CNAME _ refl (pick type_code n 6 type.SOA _ refl
    (pick type_code n 12 type.PTR _ refl (pick type_code n 15 type.MX _ refl (pick type_code n 16 type.TXT _ refl (pick type_code n 28 type.AAAA _ refl
    (pick type_code n 33 type.SRV _ refl (pick type_code n 37 type.CERT _ refl (pick type_code n 52 type.TLSA _ refl (pick type_code n 53 type.SMIMEA _ refl
    (pick type_code n 255 type.ANY (type.Unknown n) refl refl))))))))))))

pub class-code : (n : ℕ) → class_code (class_of n) ≡ n
class-code n =
    pick class_code n 1 class.IN _ refl (pick class_code n 3 class.CH _ refl (pick class_code n 4 class.HS _ refl (pick class_code n 254 class.NONE _ refl
    (pick class_code n 255 class.ANY (class.Unknown n) refl refl))))

pub response-code : (n : ℕ) → response_code (response_of n) ≡ n
response-code n =
    pick response_code n 0 code.NoError _ refl (pick response_code n 1 code.FormErr _ refl (pick response_code n 2 code.ServFail _ refl
    (pick response_code n 3 code.NXDomain _ refl (pick response_code n 4 code.NotImp _ refl (pick response_code n 5 code.Refused (code.Unknown n) refl refl)))))

pub query_named : (ps : List PlaceValue) (q : Query) → query_octets ps (named_query q) ≡ query_octets ps q
query_named ps q =
    ap₂ (λ (t : ℕ) (c : ℕ). name_octets ps q.name.labels ++ (u16_octets t ++ u16_octets c)) (type-code (type_code q.query_type))
    (class-code (class_code q.query_class))

pub question_named : (b : Body) (q : Query) → query_added b (named_query q) ≡ query_added b q
question_named b q = ap (body_with b q.name) (query_named b.places q)

record_named : (ps : List PlaceValue) (r : RecordValue) → record_octets ps (named_record r) ≡ record_octets ps r
record_named ps r =
    ap (λ (c : ℕ). name_octets ps r.name.labels ++ (u16_octets (data_code r.rdata) ++ (u16_octets c
    ++ (u32_octets r.ttl ++ measured (data_octets ps r.rdata))))) (class-code (class_code r.dns_class))

next_named : (b : Body) (r : RecordValue) → record_added b (named_record r) ≡ record_added b r
next_named b r = ap (body_with b r.name) (record_named b.places r)

pub added_named : (rs : List RecordValue) (b : Body) → added b (map named_record rs) ≡ added b rs
added_named [] b = refl
added_named (r ∷ rs) b =
    ap₂ (λ (x : List ℕ) (y : List ℕ). x ++ y) (record_named b.places r)
    (ap (λ (c : Body). added c (map named_record rs)) (next_named b r) ∙ added_named rs (record_added b r))

pub places_named : (rs : List RecordValue) (b : Body) → ttl_places b (map named_record rs) ≡ ttl_places b rs
places_named [] b = refl
places_named (r ∷ rs) b =
    ap₂ (λ (x : ℕ) (y : List ℕ). x ∷ y) refl
    (ap (λ (c : Body). ttl_places c (map named_record rs)) (next_named b r) ∙ places_named rs (record_added b r))
