-- Keys that are equal, and the key of a record.
use Rattle.std.proofs.Common.{◌≡◌, ℕ, Bool, true, false, ◌&&◌, ◌==◌, cond, nat_eq, List, [], ◌∷◌, Some, unwrap_or, refl, ap, ◌∙◌}
use Rattle.std.specs.Cmp.{IsEquivalence, and_equiv, on_equiv, nat_eq_equiv}
use Rattle.std.specs.Cmp.Lexicographic.{bytes_decides, pointwise}
use Rattle.std.specs.Int.{to_be_bytes, w16, w32}
use Rattle.std.specs.List.{flat_map}
use Rattle.std.specs.Map.{lookup}
use Rattle.std.specs.Net.Addr.{octets_of}
use Rattle.std.proofs.lemmas.Bool.{and_from, and_parts, eqb-true, eq-eqb}
use Rattle.hickory_proto_core.specs.Codes.{class_code, type_code, type_of}
use Rattle.hickory_proto_core.specs.NameLaws.{label_lists_Decides, name_equiv}
use Rattle.hickory_proto_core.specs.Name.{name_eq}
use Rattle.hickory_proto_core.specs.Query.{query_eq, query_equiv}
use Rattle.hickory_proto_core.specs.Records.{DataValue, RecordValue, a_data, aaaa_data, cname_data, ns_data, ptr_data, soa_data, srv_data, mx_data, txt_data, unknown_data, data_eq, data_equiv, data_type}
use Rattle.hickory_proto_core.specs.declared.query.Query.{Query}
use Rattle.trace_judge.specs.Index.{latest_at, seen_at}
use Rattle.trace_judge.specs.Receptions.{is_same_record, question_of}
use Rattle.trace_judge.specs.RecordKeys.{KeyValue, first_four, is_sought, key_eq, key_equiv, key_octets, key_target, record_key}
use Rattle.trace_judge.specs.declared.receptions.Reception.{Reception}

pub same_equiv : IsEquivalence is_same_record
same_equiv =
    and_equiv (and_equiv (on_equiv (λ r. r.name) name_equiv) (on_equiv (λ r. class_code r.dns_class) nat_eq_equiv))
    (on_equiv (λ r. r.rdata) data_equiv)

-- equal data have one type
pub same_type : (d e : DataValue) → data_eq d e ≡ true → type_code (data_type d) ≡ type_code (data_type e)
same_type (a_data a) (a_data b) h = refl
same_type (aaaa_data a) (aaaa_data b) h = refl
same_type (cname_data a) (cname_data b) h = refl
same_type (ns_data a) (ns_data b) h = refl
same_type (ptr_data a) (ptr_data b) h = refl
same_type (soa_data a b c d e f g) (soa_data a' b' c' d' e' f' g') h = refl
same_type (srv_data a b c d) (srv_data a' b' c' d') h = refl
same_type (mx_data a b) (mx_data a' b') h = refl
same_type (txt_data a) (txt_data b) h = refl
same_type (unknown_data c a) (unknown_data d b) h =
    let parts = and_parts (nat_eq c d && true) (pointwise (pointwise nat_eq) (a ∷ []) (b ∷ [])) h in
    let code = and_parts (nat_eq c d) true parts.0 in
    ap (λ n. type_code (type_of n)) (eqb-true c d code.0)
same_type _ _ h = absurd (let no : false ≡ true = h in cc)

-- ---- equal data have one key

first_name : (a b : Bool) → (a && b) ≡ true → a ≡ true
first_name a b h = (and_parts a b h).0

same_target : (d e : DataValue) → data_eq d e ≡ true → name_eq (key_target d) (key_target e) ≡ true
same_target (a_data a) (a_data b) h = refl
same_target (aaaa_data a) (aaaa_data b) h = refl
same_target (cname_data a) (cname_data b) h = refl
same_target (ns_data a) (ns_data b) h =
    first_name (name_eq a b) true (and_parts (name_eq a b && true) true (and_parts ((name_eq a b && true) && true) true h).0).0
same_target (ptr_data a) (ptr_data b) h =
    first_name (name_eq a b) true (and_parts (name_eq a b && true) true (and_parts ((name_eq a b && true) && true) true h).0).0
same_target (soa_data a b c d e f g) (soa_data a' b' c' d' e' f' g') h =
    let names = name_eq a a' && (name_eq b b' && true) in
    let numbers = pointwise nat_eq (c ∷ d ∷ e ∷ f ∷ g ∷ []) (c' ∷ d' ∷ e' ∷ f' ∷ g' ∷ []) in
    first_name (name_eq a a') (name_eq b b' && true) (and_parts names numbers (and_parts (names && numbers) true h).0).0
same_target (srv_data a b c d) (srv_data a' b' c' d') h =
    let names = name_eq d d' && true in
    let numbers = pointwise nat_eq (a ∷ b ∷ c ∷ []) (a' ∷ b' ∷ c' ∷ []) in
    first_name (name_eq d d') true (and_parts names numbers (and_parts (names && numbers) true h).0).0
same_target (mx_data a b) (mx_data a' b') h =
    let names = name_eq b b' && true in
    let numbers = pointwise nat_eq (a ∷ []) (a' ∷ []) in
    first_name (name_eq b b') true (and_parts names numbers (and_parts (names && numbers) true h).0).0
same_target (txt_data a) (txt_data b) h = refl
same_target (unknown_data c a) (unknown_data d b) h = refl
same_target _ _ h = absurd (let no : false ≡ true = h in cc)

same_octets : (d e : DataValue) → data_eq d e ≡ true → key_octets d ≡ key_octets e
same_octets (a_data a) (a_data b) h =
    ap first_four ((bytes_decides a b).0 (and_parts (pointwise nat_eq a b) true h).0)
same_octets (aaaa_data a) (aaaa_data b) h =
    ap octets_of ((bytes_decides a b).0 (and_parts (pointwise nat_eq a b) true h).0)
same_octets (cname_data a) (cname_data b) h = refl
same_octets (ns_data a) (ns_data b) h = refl
same_octets (ptr_data a) (ptr_data b) h = refl
same_octets (soa_data a b c d e f g) (soa_data a' b' c' d' e' f' g') h =
    let names = name_eq a a' && (name_eq b b' && true) in
    let more = pointwise nat_eq (d ∷ e ∷ f ∷ g ∷ []) (d' ∷ e' ∷ f' ∷ g' ∷ []) in
    let numbers = and_parts names (nat_eq c c' && more) (and_parts (names && (nat_eq c c' && more)) true h).0 in
    ap (to_be_bytes w32) (eqb-true c c' (and_parts (nat_eq c c') more numbers.1).0)
same_octets (srv_data a b c d) (srv_data a' b' c' d') h =
    let names = name_eq d d' && true in
    let last = nat_eq c c' && true in
    let numbers = and_parts names (nat_eq a a' && (nat_eq b b' && last)) (and_parts (names && (nat_eq a a' && (nat_eq b b' && last))) true h).0 in
    let behind = and_parts (nat_eq b b') last (and_parts (nat_eq a a') (nat_eq b b' && last) numbers.1).1 in
    ap (to_be_bytes w16) (eqb-true c c' (and_parts (nat_eq c c') true behind.1).0)
same_octets (mx_data a b) (mx_data a' b') h = refl
same_octets (txt_data a) (txt_data b) h = ap (flat_map (λ s. s)) ((label_lists_Decides a b).0 h)
same_octets (unknown_data c a) (unknown_data d b) h =
    let parts = and_parts (nat_eq c d && true) (pointwise (pointwise nat_eq) (a ∷ []) (b ∷ [])) h in
    let code = eqb-true c d (and_parts (nat_eq c d) true parts.0).0 in
    let bytes = (bytes_decides a b).0 (and_parts (pointwise nat_eq a b) true parts.1).0 in
    λ i. cond (is_sought (code i)) [] (bytes i)
same_octets _ _ h = absurd (let no : false ≡ true = h in cc)

-- what the key of a record is equal to
pub key_from : (k l : KeyValue) → query_eq k.query l.query ≡ true → name_eq k.target l.target ≡ true → k.octets ≡ l.octets
    → key_eq k l ≡ true
key_from k l queries targets octets =
    and_from (query_eq k.query l.query && name_eq k.target l.target) (pointwise nat_eq k.octets l.octets)
    (and_from (query_eq k.query l.query) (name_eq k.target l.target) queries targets)
    ((bytes_decides k.octets l.octets).1 octets)

-- the same record answers the same question
same_question : (r s : RecordValue) → is_same_record r s ≡ true → query_eq (question_of r) (question_of s) ≡ true
same_question r s h =
    let outer = and_parts (name_eq r.name s.name && (class_code r.dns_class == class_code s.dns_class)) (data_eq r.rdata s.rdata) h in
    let inner = and_parts (name_eq r.name s.name) (class_code r.dns_class == class_code s.dns_class) outer.0 in
    let t = eq-eqb (type_code (data_type r.rdata)) (type_code (data_type s.rdata)) (same_type r.rdata s.rdata outer.1) in
    and_from (name_eq r.name s.name && (type_code (data_type r.rdata) == type_code (data_type s.rdata)))
    (class_code r.dns_class == class_code s.dns_class)
    (and_from (name_eq r.name s.name) (type_code (data_type r.rdata) == type_code (data_type s.rdata)) inner.0 t) inner.1

-- and it has the same key
pub same_key : (r s : RecordValue) → is_same_record r s ≡ true → key_eq (record_key r) (record_key s) ≡ true
same_key r s h =
    let alike = (and_parts (name_eq r.name s.name && (class_code r.dns_class == class_code s.dns_class)) (data_eq r.rdata s.rdata) h).1 in
    key_from (record_key r) (record_key s) (same_question r s h) (same_target r.rdata s.rdata alike) (same_octets r.rdata s.rdata alike)

lookup_key : {X : Type 0} (p q : KeyValue) → key_eq p q ≡ true → (es : List (KeyValue × X))
    → lookup (key_eq p) es ≡ lookup (key_eq q) es
lookup_key p q h [] = refl
lookup_key p q h (e ∷ es) =
    ap (λ b. cond b (Some e.1) (lookup (key_eq p) es)) (key_equiv.congr p q e.0 h)
    ∙ ap (λ o. cond (key_eq q e.0) (Some e.1) o) (lookup_key p q h es)

pub seen_same : (p q : KeyValue) → key_eq p q ≡ true → (seen : List (KeyValue × List Reception)) → seen_at seen p ≡ seen_at seen q
seen_same p q h seen = ap (λ o. unwrap_or o []) (lookup_key p q h seen)

lookup_same : {X : Type 0} (p q : Query) → query_eq p q ≡ true → (es : List (Query × X))
    → lookup (query_eq p) es ≡ lookup (query_eq q) es
lookup_same p q h [] = refl
lookup_same p q h (e ∷ es) =
    ap (λ b. cond b (Some e.1) (lookup (query_eq p) es)) (query_equiv.congr p q e.0 h)
    ∙ ap (λ o. cond (query_eq q e.0) (Some e.1) o) (lookup_same p q h es)

pub latest_same : (p q : Query) → query_eq p q ≡ true → (moments : List (Query × ℕ)) → latest_at moments p ≡ latest_at moments q
latest_same p q h moments = lookup_same p q h moments
