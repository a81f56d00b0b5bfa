-- Names in lower case, records without TTLs, and what does not change by them.
use Rattle.std.proofs.Common.{◌≡◌, ℕ, Bool, true, false, ◌&&◌, ◌||◌, ◌==◌, List, [], ◌∷◌, map, filter, find, Some, None, refl, sym, ap, ap₂, ◌∙◌, cond, if◌then◌else◌}
use Rattle.std.proofs.lemmas.Bool.{eqb-true, and_parts}
use Rattle.std.proofs.lemmas.Str.Ascii.{lowercase-lowercase}
use Rattle.std.specs.Bool.{beq}
use Rattle.std.specs.List.{list_any, ends_with}
use Rattle.std.specs.Option.{option_map}
use Rattle.std.specs.Cmp.Lexicographic.{pointwise}
use Rattle.std.specs.Prelude.{nat_eq}
use Rattle.hickory_proto_core.specs.Name.{NameValue, name_eq, is_zone_of, lower_label, lower_labels}
use Rattle.hickory_proto_core.specs.NameLaws.{same_from_name_eq}
use Rattle.hickory_proto_core.specs.Codes.{type_code, type_of, class_code, class_of, response_code, response_of}
use Rattle.hickory_proto_core.specs.Records.{RecordValue, DataValue, a_data, aaaa_data, cname_data, ns_data, ptr_data, soa_data, srv_data, mx_data, txt_data, unknown_data, data_type, soa_minimum, ns_target}
use Rattle.hickory_proto_core.specs.Query.{query_eq}
use Rattle.hickory_proto_core.specs.ResponseKind.{record_type_code}
use Rattle.hickory_proto_core.specs.declared.query.Query.{Query}
use Rattle.hickory_proto_core.specs.codes.record_type.RecordType.TheVariants as type
use Rattle.hickory_proto_core.specs.codes.dns_class.DNSClass.TheVariants as class
use Rattle.hickory_proto_core.specs.codes.response_code.ResponseCode.TheVariants as code
use Rattle.hickory_resolver_model.specs.AliasWalk.{Counted, AliasTo, Server, counted_data, counted}
use Rattle.hickory_resolver_theorems.specs.Cores.{folded_name, folded_query, folded_data, record_core}

-- ---- codes

pick : {A : Type 0} (code : A → ℕ) (n k : ℕ) (v rest : A) → code v ≡ k → code rest ≡ n → code (if n == k then v else rest) ≡ n
pick code n k v rest e r = by (n == k) refl
  where
    by : (b : Bool) → (n == k) ≡ b → code (if b then v else rest) ≡ n
    by true h = e ∙ sym (eqb-true n k h)
    by false h = r

-- the code of the type of a code is that code
pub type-code : (n : ℕ) → type_code (type_of n) ≡ n
type-code n =
    pick type_code n 1 type.A _ refl (pick type_code n 2 type.NS _ refl (pick type_code n 5 type.CNAME _ refl (pick type_code n 6 type.SOA _ refl
    (pick type_code n 12 type.PTR _ refl (pick type_code n 15 type.MX _ refl (pick type_code n 16 type.TXT _ refl (pick type_code n 28 type.AAAA _ refl
    (pick type_code n 33 type.SRV _ refl (pick type_code n 37 type.CERT _ refl (pick type_code n 52 type.TLSA _ refl (pick type_code n 53 type.SMIMEA _ refl
    (pick type_code n 255 type.ANY (type.Unknown n) refl refl))))))))))))

pub class-code : (n : ℕ) → class_code (class_of n) ≡ n
class-code n =
    pick class_code n 1 class.IN _ refl (pick class_code n 3 class.CH _ refl (pick class_code n 4 class.HS _ refl (pick class_code n 254 class.NONE _ refl
    (pick class_code n 255 class.ANY (class.Unknown n) refl refl))))

pub response-code : (n : ℕ) → response_code (response_of n) ≡ n
response-code n =
    pick response_code n 0 code.NoError _ refl (pick response_code n 1 code.FormErr _ refl (pick response_code n 2 code.ServFail _ refl
    (pick response_code n 3 code.NXDomain _ refl (pick response_code n 4 code.NotImp _ refl (pick response_code n 5 code.Refused (code.Unknown n) refl refl)))))

-- ---- names

lower-twice : (l : List ℕ) → lower_label (lower_label l) ≡ lower_label l
lower-twice [] = refl
lower-twice (b ∷ bs) = ap₂ (λ x xs. x ∷ xs) (lowercase-lowercase b) (lower-twice bs)

pub lowers-twice : (ls : List (List ℕ)) → lower_labels (lower_labels ls) ≡ lower_labels ls
lowers-twice [] = refl
lowers-twice (l ∷ ls) = ap₂ (λ x xs. x ∷ xs) (lower-twice l) (lowers-twice ls)

pub name_eq-folded_name : (a b : NameValue) → name_eq (folded_name a) (folded_name b) ≡ name_eq a b
name_eq-folded_name a b = ap₂ (λ xs ys. beq a.fqdn b.fqdn && pointwise (pointwise nat_eq) xs ys) (lowers-twice a.labels) (lowers-twice b.labels)

pub zone_of-folded_name : (zone name : NameValue) → is_zone_of (folded_name zone) (folded_name name) ≡ is_zone_of zone name
zone_of-folded_name zone name = ap₂ (λ xs ys. ends_with (pointwise nat_eq) xs ys) (lowers-twice name.labels) (lowers-twice zone.labels)

-- equal names are the same in lower case
pub folded_name-same : (a b : NameValue) → name_eq a b ≡ true → folded_name a ≡ folded_name b
folded_name-same a b h = let same = same_from_name_eq a b h in λ i. record { labels = same.1 i; fqdn = same.0 i }

-- ---- data and records

pub type-folded_name : (d : DataValue) → data_type (folded_data d) ≡ data_type d
type-folded_name (a_data octets) = refl
type-folded_name (aaaa_data segments) = refl
type-folded_name (cname_data target) = refl
type-folded_name (ns_data target) = refl
type-folded_name (ptr_data target) = refl
type-folded_name (soa_data mname rname serial refresh retry expire minimum) = refl
type-folded_name (srv_data priority weight port target) = refl
type-folded_name (mx_data preference exchange) = refl
type-folded_name (txt_data strings) = refl
type-folded_name (unknown_data code bytes) = refl

pub minimum-folded_name : (d : DataValue) → soa_minimum (folded_data d) ≡ soa_minimum d
minimum-folded_name (a_data octets) = refl
minimum-folded_name (aaaa_data segments) = refl
minimum-folded_name (cname_data target) = refl
minimum-folded_name (ns_data target) = refl
minimum-folded_name (ptr_data target) = refl
minimum-folded_name (soa_data mname rname serial refresh retry expire minimum) = refl
minimum-folded_name (srv_data priority weight port target) = refl
minimum-folded_name (mx_data preference exchange) = refl
minimum-folded_name (txt_data strings) = refl
minimum-folded_name (unknown_data code bytes) = refl

pub target-folded_name : (d : DataValue) → ns_target (folded_data d) ≡ option_map folded_name (ns_target d)
target-folded_name (a_data octets) = refl
target-folded_name (aaaa_data segments) = refl
target-folded_name (cname_data target) = refl
target-folded_name (ns_data target) = refl
target-folded_name (ptr_data target) = refl
target-folded_name (soa_data mname rname serial refresh retry expire minimum) = refl
target-folded_name (srv_data priority weight port target) = refl
target-folded_name (mx_data preference exchange) = refl
target-folded_name (txt_data strings) = refl
target-folded_name (unknown_data code bytes) = refl

-- what a record counts as, in lower case
abbrev pub folded_counted : Counted → Counted
folded_counted (AliasTo target) = AliasTo (folded_name target)
folded_counted (Server target) = Server (folded_name target)

some-folded_counted : (b : Bool) (c : Counted) → (if b then Some (folded_counted c) else None) ≡ option_map folded_counted (if b then Some c else None)
some-folded_counted true c = refl
some-folded_counted false c = refl

data-folded_counted : (reached asked : Bool) (d : DataValue) → counted_data reached asked (folded_data d) ≡ option_map folded_counted (counted_data reached asked d)
data-folded_counted reached asked (a_data octets) = refl
data-folded_counted reached asked (aaaa_data segments) = refl
data-folded_counted reached asked (cname_data target) = some-folded_counted reached (AliasTo target)
data-folded_counted reached asked (ns_data target) = refl
data-folded_counted reached asked (ptr_data target) = refl
data-folded_counted reached asked (soa_data mname rname serial refresh retry expire minimum) = refl
data-folded_counted reached asked (srv_data priority weight port target) = some-folded_counted (reached || asked) (Server target)
data-folded_counted reached asked (mx_data preference exchange) = refl
data-folded_counted reached asked (txt_data strings) = refl
data-folded_counted reached asked (unknown_data code bytes) = refl

pub counted-folded_name : (asked reached : NameValue) (r : RecordValue) → counted (folded_name asked) (folded_name reached) (record_core r) ≡ option_map folded_counted (counted asked reached r)
counted-folded_name asked reached r =
    ap₂ (λ a b. counted_data a b (folded_data r.rdata)) (name_eq-folded_name reached r.name) (name_eq-folded_name asked r.name)
    ∙ data-folded_counted (name_eq reached r.name) (name_eq asked r.name) r.rdata

pub record_type-folded_name : (r : RecordValue) → record_type_code (record_core r) ≡ record_type_code r
record_type-folded_name r = ap type_code (type-folded_name r.rdata)

pub query_type-folded_name : (q : Query) → type_code (folded_query q).query_type ≡ type_code q.query_type
query_type-folded_name q = type-code (type_code q.query_type)

pub query_class-folded_name : (q : Query) → class_code (folded_query q).query_class ≡ class_code q.query_class
query_class-folded_name q = class-code (class_code q.query_class)

pub record_class-folded_name : (r : RecordValue) → class_code (record_core r).dns_class ≡ class_code r.dns_class
record_class-folded_name r = class-code (class_code r.dns_class)

-- ---- lists

pub any-map : {A B : Type 0} (p : B → Bool) (q : A → Bool) (f : A → B) → ((x : A) → p (f x) ≡ q x) → (xs : List A) → list_any p (map f xs) ≡ list_any q xs
any-map p q f same [] = refl
any-map p q f same (x ∷ xs) = ap₂ (λ a b. a || b) (same x) (any-map p q f same xs)

pub filter-map : {A B : Type 0} (p : B → Bool) (q : A → Bool) (f : A → B) → ((x : A) → p (f x) ≡ q x) → (xs : List A) → filter p (map f xs) ≡ map f (filter q xs)
filter-map p q f same [] = refl
filter-map {A} {B} p q f same (x ∷ xs) = ap (λ b. cond b (f x ∷ filter p (map f xs)) (filter p (map f xs))) (same x) ∙ by (q x) (filter-map p q f same xs)
  where
    by : (b : Bool) → filter p (map f xs) ≡ map f (filter q xs) → cond b (f x ∷ filter p (map f xs)) (filter p (map f xs)) ≡ map f (cond b (x ∷ filter q xs) (filter q xs))
    by true e = ap (λ ys. f x ∷ ys) e
    by false e = e

pub find-map : {A B : Type 0} (p : B → Bool) (q : A → Bool) (f : A → B) → ((x : A) → p (f x) ≡ q x) → (xs : List A) → find p (map f xs) ≡ option_map f (find q xs)
find-map p q f same [] = refl
find-map {A} {B} p q f same (x ∷ xs) = ap (λ b. cond b (Some (f x)) (find p (map f xs))) (same x) ∙ by (q x) (find-map p q f same xs)
  where
    by : (b : Bool) → find p (map f xs) ≡ option_map f (find q xs) → cond b (Some (f x)) (find p (map f xs)) ≡ option_map f (cond b (Some x) (find q xs))
    by true e = refl
    by false e = e

pub map-map : {A B C : Type 0} (g : B → C) (f : A → B) (h : A → C) → ((x : A) → g (f x) ≡ h x) → (xs : List A) → map g (map f xs) ≡ map h xs
map-map g f h same [] = refl
map-map g f h same (x ∷ xs) = ap₂ (λ y ys. y ∷ ys) (same x) (map-map g f h same xs)

-- equal questions are the same in lower case
pub query-same : (p q : Query) → query_eq p q ≡ true → folded_query p ≡ folded_query q
query-same p q h =
    let parts = and_parts (name_eq p.name q.name && (type_code p.query_type == type_code q.query_type)) (class_code p.query_class == class_code q.query_class) h in
    let front = and_parts (name_eq p.name q.name) (type_code p.query_type == type_code q.query_type) parts.0 in
    let names = folded_name-same p.name q.name front.0 in
    let types = eqb-true _ _ front.1 in
    let classes = eqb-true _ _ parts.1 in
    λ i. record { name = names i; query_type = type_of (types i); query_class = class_of (classes i) }
