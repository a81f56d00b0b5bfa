-- Where TTLs stand in the octets of a message, and octets in which they are lowered.
use Rattle.std.specs.Prelude.{ℕ, ◌+◌, ◌-◌, ◌*◌, ◌≡◌, ◌≤◌, Bool, List, [], ◌∷◌, ◌++◌, length, take, drop, get_or, nat_le, nat_lt, None, if◌then◌else◌}
use Rattle.std.specs.List.{fold}
use Rattle.hickory_proto_codes.specs.Codes.{response_code}
use Rattle.hickory_proto_core.specs.Name.{label_fault}
use Rattle.hickory_proto_core.specs.Records.{RecordValue}
use Rattle.hickory_proto_core.specs.declared.query.Query.{Query}
use Rattle.hickory_proto_wire.specs.Written.{Body, name_octets, record_added, queries_body, records_of, u32_octets}
use Rattle.hickory_resolver_tries.specs.Heads.{number_at}
use Rattle.stored_replies.specs.Stored.{StoredValue, response_to, stored_octets}
use Rattle.stored_replies.specs.Told.{own_question}
use Rattle.stored_replies.specs.declared.choices.TheConstants.{LONGEST}

-- ---- in a message that is written

-- behind the owner, the type and the class
abbrev pub ttl_place : Body → RecordValue → ℕ
ttl_place b r = 12 + length b.octets + length (name_octets b.places r.name.labels) + 4

abbrev pub ttl_places : Body → List RecordValue → List ℕ
ttl_places b [] = []
ttl_places b (r ∷ rs) = ttl_place b r ∷ ttl_places (record_added b r) rs

unfoldable pub places_of : StoredValue → List ℕ
places_of s =
    ttl_places (queries_body (response_to s.query s.kept)) (records_of (response_to s.query s.kept))

-- What is kept is the octets of its message, and the places of the TTLs in them.
pub record IsStored (octets places : List ℕ) (question_end code : ℕ) (authentic : Bool) (s : StoredValue) : Type 0 where
  pub written : octets ≡ stored_octets s
  pub noted : places ≡ places_of s
  pub question : question_end ≡ 12 + length (own_question s)
  pub short : length octets ≤ LONGEST
  pub coded : code ≡ response_code s.kept.code
  pub small : code ≤ 15
  pub held : authentic ≡ s.kept.authentic_data

-- ---- found again in octets, by the names of the records

-- behind a name with these labels: all of them and the root, or as far as a pointer
abbrev pub behind_labels : List (List ℕ) → List ℕ → List ℕ
behind_labels [] octets = drop 1 octets
behind_labels (l ∷ ls) octets =
    if nat_le 192 (get_or octets 0 0) then drop 2 octets else behind_labels ls (drop (length l + 1) octets)

-- behind the header and the question
abbrev pub behind_question : Query → List ℕ → List ℕ
behind_question q octets = drop 4 (behind_labels q.name.labels (drop 12 octets))

-- from the type of a record on: behind its data
abbrev pub behind_data : List ℕ → List ℕ
behind_data fields = drop (10 + number_at fields 8) fields

abbrev pub behind_record : RecordValue → List ℕ → List ℕ
behind_record r octets = behind_data (behind_labels r.name.labels octets)

abbrev pub behind_records : List RecordValue → List ℕ → List ℕ
behind_records [] octets = octets
behind_records (r ∷ rs) octets = behind_records rs (behind_record r octets)

-- the places in a message of so many octets, of which these are the last
abbrev pub places_in : ℕ → List RecordValue → List ℕ → List ℕ
places_in total [] octets = []
places_in total (r ∷ rs) octets =
    (total - length (behind_labels r.name.labels octets) + 4) ∷ places_in total rs (behind_record r octets)

-- the labels of each are those of a name (RFC 1035, section 3.1)
abbrev pub HaveNames : List RecordValue → Type 0
HaveNames [] = Unit {0}
HaveNames (r ∷ rs) = (label_fault r.name.labels ≡ None) × HaveNames rs

-- Behind the name of each, where its labels are those of a name, stand ten octets or more: its type, its class, its TTL
-- and how many octets its data have (RFC 1035, section 3.2.1).
abbrev pub HaveFields : List RecordValue → List ℕ → Type 0
HaveFields [] octets = Unit {0}
HaveFields (r ∷ rs) octets =
    label_fault r.name.labels ≡ None
    → (10 ≤ length (behind_labels r.name.labels octets)) × HaveFields rs (behind_record r octets)

-- ---- TTLs changed

-- a part of a room written over
abbrev pub over : List ℕ → ℕ → List ℕ → List ℕ
over room at octets = take at room ++ (octets ++ drop (at + length octets) room)

abbrev pub u32_at : List ℕ → ℕ → ℕ
u32_at room at = number_at room at * 65536 + number_at room (at + 2)

abbrev pub changed_at : (ℕ → ℕ) → List ℕ → ℕ → List ℕ
changed_at change room at =
    if nat_lt (length room) (at + 4) then room else over room at (u32_octets (change (u32_at room at)))

abbrev pub changed : (ℕ → ℕ) → List ℕ → List ℕ → List ℕ
changed change room places = fold (changed_at change) room places

-- so many seconds lower
abbrev pub lowered_at : ℕ → List ℕ → ℕ → List ℕ
lowered_at seconds = changed_at (λ ttl. ttl - seconds)

abbrev pub lowered : ℕ → List ℕ → List ℕ → List ℕ
lowered seconds = changed (λ ttl. ttl - seconds)

-- this one
abbrev pub set_at : ℕ → List ℕ → ℕ → List ℕ
set_at ttl = changed_at (λ old. ttl)

abbrev pub all_set : ℕ → List ℕ → List ℕ → List ℕ
all_set ttl = changed (λ old. ttl)
