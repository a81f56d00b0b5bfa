-- Under what a reply is kept, and a question is looked up.
use Rattle.std.specs.Prelude.{◌≡◌, ℕ, ◌+◌, Bool, true, List, [], ◌∷◌, length, nat_le, Option, None, Some, if◌then◌else◌}
use Rattle.std.specs.Cmp.{IsEquivalence}
use Rattle.std.specs.Cmp.Lexicographic.{bytes_decides, nat_list_eq_equiv}
use Rattle.std.specs.Hash.{Alike, same_Alike}
use Rattle.std.specs.Str.{bytes_eq}
use Rattle.hickory_proto_wire.specs.Messages.{bit}
use Rattle.hickory_proto_wire.specs.Writing.{weighed}
use Rattle.client_queries.specs.declared.query.ClientQuery.{ClientQuery}
use Rattle.stored_replies.specs.Key.{question_key}
use Rattle.stored_replies.specs.Told.{asks_dnssec}
use Rattle.client_requests.specs.Requests.{RequestValue, question_of}
use Rattle.client_requests.specs.declared.choices.TheConstants.{LONGEST_QUESTION}

-- what is asked of DNSSEC: its records (DO), and that nothing is checked (CD)
abbrev pub dnssec_octet : ClientQuery → ℕ
dnssec_octet q = weighed (asks_dnssec q.edns) 1 + weighed (bit 16 q.flags) 2

-- That, and the question with its name in lower case. So what is asked with DO or CD is another thing than without.
abbrev pub key_of : RequestValue → List ℕ
key_of r = dnssec_octet r.query ∷ question_key (question_of r)

-- The same of the octets of a question, with DO and CD; none where they are more than a question has.
abbrev pub key_with : List ℕ → Bool → Bool → List ℕ
key_with question dnssec unchecked = (weighed dnssec 1 + weighed unchecked 2) ∷ question_key question

abbrev pub key_for : List ℕ → Bool → Bool → Option (List ℕ)
key_for question dnssec unchecked =
    if nat_le (length question) LONGEST_QUESTION then Some (key_with question dnssec unchecked) else None

-- ---- keys of a map

abbrev pub key_eq : List ℕ → List ℕ → Bool
key_eq = bytes_eq

pub key_equiv : IsEquivalence key_eq
key_equiv = nat_list_eq_equiv

-- all octets at once
abbrev pub key_hash_input : List ℕ → List (List ℕ)
key_hash_input key = key ∷ []

-- keys that are equal feed a hasher the same
keys_alike : Alike key_eq key_hash_input
keys_alike = same_Alike key_hash_input bytes_decides

pub key_respects_eq : (one other : List ℕ) → key_eq one other ≡ true → key_hash_input one ≡ key_hash_input other
key_respects_eq = keys_alike.fed
