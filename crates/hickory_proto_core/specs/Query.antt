-- Questions, and when two are the same (RFC 1035, sections 4.1.2 and 2.3.3).
use Rattle.std.specs.Prelude.{◌≡◌, ℕ, Bool, true, ◌&&◌, List, [], ◌++◌, ◌==◌}
use Rattle.std.specs.Cmp.{IsEquivalence, and_equiv, on_equiv, nat_eq_equiv}
use Rattle.std.specs.Hash as fed
use Rattle.std.proofs.lemmas.Bool.{and_parts, eqb-true}
use Rattle.hickory_proto_names.specs.Name.{name_eq, name_hash_input}
use Rattle.hickory_proto_names.specs.NameLaws.{name_equiv, name_respects_eq}
use Rattle.hickory_proto_codes.specs.Codes.{type_code, class_code}
use Rattle.hickory_proto_codes.specs.declared.record_type.RecordType.TheVariants as type
use Rattle.hickory_proto_codes.specs.declared.dns_class.DNSClass.TheVariants as class
use Rattle.hickory_proto_core.specs.declared.query.Query.{Query}

-- the addresses of the root, in the class of the Internet
abbrev pub root_query : Query
root_query =
    record { name = record { labels = []; fqdn = true }; query_type = type.A; query_class = class.IN }

-- the names are equal without case, and the codes of type and class are equal
abbrev pub query_eq : Query → Query → Bool
query_eq p q =
    name_eq p.name q.name && (type_code p.query_type == type_code q.query_type)
    && (class_code p.query_class == class_code q.query_class)

pub query_equiv : IsEquivalence query_eq
query_equiv =
    and_equiv (and_equiv (on_equiv (λ q. q.name) name_equiv)
    (on_equiv (λ q. type_code q.query_type) nat_eq_equiv))
    (on_equiv (λ q. class_code q.query_class) nat_eq_equiv)

-- what a question feeds a hasher
abbrev pub query_hash_input : Query → List (List ℕ)
query_hash_input q =
    name_hash_input q.name ++ fed.u16 (type_code q.query_type) ++ fed.u16 (class_code q.query_class)

pub query_respects_eq : (p q : Query) → query_eq p q ≡ true → query_hash_input p ≡ query_hash_input q
query_respects_eq p q h =
    let parts =
    and_parts (name_eq p.name q.name && (type_code p.query_type == type_code q.query_type))
    (class_code p.query_class == class_code q.query_class) h in
    let front =
    and_parts (name_eq p.name q.name) (type_code p.query_type == type_code q.query_type) parts.0 in
    let names = name_respects_eq p.name q.name front.0 in
    let types = eqb-true (type_code p.query_type) (type_code q.query_type) front.1 in
    let classes = eqb-true (class_code p.query_class) (class_code q.query_class) parts.1 in
    λ i. names i ++ fed.u16 (types i) ++ fed.u16 (classes i)
