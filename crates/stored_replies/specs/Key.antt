-- When two questions are one to a cache: names are equal without case, type and class octet for octet (RFC 1034,
-- section 3.1; RFC 4343).
use Rattle.std.specs.Prelude.{ℕ, ◌-◌, Bool, ◌&&◌, List, [], ◌∷◌, ◌++◌, length, take, drop, map, nat_eq}
use Rattle.std.specs.Cmp.Lexicographic.{pointwise}
use Rattle.hickory_proto_core.specs.Name.{lower_label}

-- A question as octets: its name spelled out, and the four octets of its type and its class. The octets of lengths are
-- below 64, and no letters.
abbrev pub name_part : List ℕ → List ℕ
name_part question = take (length question - 4) question

abbrev pub codes_part : List ℕ → List ℕ
codes_part question = drop (length question - 4) question

-- A type is no letter: that of HTTPS is 65, the octet of `A`, and 97, that of `a`, is another type.
abbrev pub is_same_question : List ℕ → List ℕ → Bool
is_same_question one other =
    pointwise nat_eq (lower_label (name_part one)) (lower_label (name_part other))
    && pointwise nat_eq (codes_part one) (codes_part other)

-- the key of a question: its name in lower case, and what it feeds a hasher, octet by octet
abbrev pub question_key : List ℕ → List ℕ
question_key question = lower_label (name_part question) ++ codes_part question

abbrev pub octet_by_octet : List ℕ → List (List ℕ)
octet_by_octet octets = map (λ octet. octet ∷ []) octets

abbrev pub hash_input : List ℕ → List (List ℕ)
hash_input question = octet_by_octet (question_key question)
