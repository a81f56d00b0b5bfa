-- What a record is found by among all that were received.
use Rattle.std.specs.Prelude.{◌≡◌, ℕ, Bool, true, ◌&&◌, ◌||◌, ◌==◌, nat_eq, take, List, [], ◌∷◌, ◌++◌, if◌then◌else◌}
use Rattle.std.specs.Cmp.{IsEquivalence, and_equiv, nat_eq_equiv, on_equiv}
use Rattle.std.specs.Cmp.Lexicographic.{bytes_decides, lists_equiv, pointwise}
use Rattle.std.specs.Int.{to_be_bytes, w16, w32}
use Rattle.std.specs.List.{flat_map}
use Rattle.std.specs.Net.Addr.{octets_of}
use Rattle.std.proofs.lemmas.Bool.{and_parts}
use Rattle.hickory_proto_core.specs.Name.{NameValue, name_eq, name_hash_input}
use Rattle.hickory_proto_core.specs.NameLaws.{name_equiv, name_respects_eq}
use Rattle.hickory_proto_core.specs.Query.{query_eq, query_equiv, query_hash_input, query_respects_eq}
use Rattle.hickory_proto_core.specs.Records.{DataValue, RecordValue, a_data, aaaa_data, mx_data, ns_data, ptr_data, soa_data, srv_data, txt_data, unknown_data}
use Rattle.hickory_proto_core.specs.declared.query.Query.{Query}
use Rattle.trace_judge.specs.Receptions.{question_of}

-- the question that a record answers, the name that its data lead to, and octets of its data
pub record KeyValue : Type 0 where
  pub query : Query
  pub target : NameValue
  pub octets : List ℕ

-- data that lead to no name are as those that lead to the root
abbrev pub no_target : NameValue
no_target = record { labels = []; fqdn = true }

abbrev pub key_target : DataValue → NameValue
key_target (ns_data target) = target
key_target (ptr_data target) = target
key_target (soa_data mname rname serial refresh retry expire minimum) = mname
key_target (srv_data priority weight port target) = target
key_target (mx_data preference exchange) = exchange
key_target other = no_target

-- an IPv4 address has four octets
abbrev pub first_four : List ℕ → List ℕ
first_four octets = take 4 (octets ++ 0 ∷ 0 ∷ 0 ∷ 0 ∷ [])

-- DNAME, NSEC3 and NSEC3PARAM data (of types 39, 50 and 51) are looked for by their questions alone
abbrev pub is_sought : ℕ → Bool
is_sought code = ((code == 39) || (code == 50)) || (code == 51)

-- so are those of a CNAME
abbrev pub key_octets : DataValue → List ℕ
key_octets (a_data octets) = first_four octets
key_octets (aaaa_data segments) = octets_of segments
key_octets (soa_data mname rname serial refresh retry expire minimum) = to_be_bytes w32 serial
key_octets (srv_data priority weight port target) = to_be_bytes w16 port
key_octets (txt_data strings) = flat_map (λ s. s) strings
key_octets (unknown_data code bytes) = if is_sought code then [] else bytes
key_octets other = []

-- Records that are the same have one key, and others mostly have another.
abbrev pub record_key : RecordValue → KeyValue
record_key r = record { query = question_of r; target = key_target r.rdata; octets = key_octets r.rdata }

-- the key of what is looked for by a question alone
abbrev pub sought_key : Query → KeyValue
sought_key q = record { query = q; target = no_target; octets = [] }

-- ---- keys that are equal

abbrev pub key_eq : KeyValue → KeyValue → Bool
key_eq k l = query_eq k.query l.query && name_eq k.target l.target && pointwise nat_eq k.octets l.octets

pub key_equiv : IsEquivalence key_eq
key_equiv =
    and_equiv (and_equiv (on_equiv (λ k. k.query) query_equiv) (on_equiv (λ k. k.target) name_equiv))
    (on_equiv (λ k. k.octets) (lists_equiv nat_eq_equiv))

-- what a key feeds a hasher
abbrev pub key_hash_input : KeyValue → List (List ℕ)
key_hash_input k = query_hash_input k.query ++ name_hash_input k.target ++ k.octets ∷ []

pub key_respects_eq : (k l : KeyValue) → key_eq k l ≡ true → key_hash_input k ≡ key_hash_input l
key_respects_eq k l h =
    let parts =
    and_parts (query_eq k.query l.query && name_eq k.target l.target) (pointwise nat_eq k.octets l.octets) h in
    let front = and_parts (query_eq k.query l.query) (name_eq k.target l.target) parts.0 in
    let queries = query_respects_eq k.query l.query front.0 in
    let targets = name_respects_eq k.target l.target front.1 in
    let octets = (bytes_decides k.octets l.octets).0 parts.1 in
    λ i. queries i ++ targets i ++ octets i ∷ []
