-- What holds of every list of replies to a look-up.
use Rattle.std.specs.Prelude.{◌≡◌, ◌≤◌, Bool, List, [], ◌∷◌, ◌++◌, length, Option, None, Some, unwrap_or}
use Rattle.std.specs.List.{AllByRecursion, flat_map, fold, last_or}
use Rattle.std.specs.Option.{option_map, option_to_list}
use Rattle.hickory_proto_core.specs.declared.query.Query.{Query}
use Rattle.hickory_proto_wire.specs.declared.wire_message.WireMessage.{WireMessage}
use Rattle.whole_replies.specs.Kept.{KeptValue, kept_of, next_question}
use Rattle.whole_lookups.specs.Lookups.{LookupValue, after, begun, heard}
use Rattle.whole_lookups.specs.declared.choices.TheConstants.{MOST_QUESTIONS}
use Rattle.whole_lookups.specs.declared.heard.Heard.{Heard}
use Rattle.whole_lookups.specs.declared.heard.Heard.TheVariants.{Asks, Whole, Fails}

-- ---- what replies make of a look-up

-- the whole reply, where the last of the replies ends it
abbrev pub told_by : Heard → List WireMessage → Option KeptValue → Option KeptValue
told_by Asks ms later = later
told_by (Whole k) [] later = Some k
told_by (Whole k) (m ∷ ms) later = None
told_by Fails ms later = None

abbrev pub whole_of : LookupValue → List WireMessage → Option KeptValue
whole_of l [] = None
whole_of l (m ∷ ms) = told_by (heard m l) ms (whole_of (after m l) ms)

abbrev pub after_all : LookupValue → List WireMessage → LookupValue
after_all l replies = fold (λ k m. after m k) l replies

-- ---- what each has

-- What is kept of each. The first is the reply to this question, and each other one to that to which the one before
-- leads.
abbrev pub parts_of : Query → Bool → List WireMessage → List KeptValue
parts_of q dnssec [] = []
parts_of q dnssec (m ∷ ms) =
    option_to_list (kept_of q dnssec m) ++ parts_of (unwrap_or (next_question q m.message) q) dnssec ms

-- A reply that is put together of these: their answers in order; code and authority of the last one (RFC 6604); and it
-- may be told no longer than each.
pub record IsAllInOrder (k : KeptValue) (parts : List KeptValue) : Type 0 where
  pub answers : k.answers ≡ flat_map (λ p. p.answers) parts
  pub code : option_map (λ p. p.code) (last_or None parts) ≡ Some k.code
  pub authorities : option_map (λ p. p.authorities) (last_or None parts) ≡ Some k.authorities
  pub seconds : AllByRecursion (λ p. k.seconds ≤ p.seconds) parts

-- ---- the laws

pub record IsWhole (k : KeptValue) (q : Query) (dnssec : Bool) (replies : List WireMessage) : Type 0 where
  pub in_order : IsAllInOrder k (parts_of q dnssec replies)
  pub few : length replies ≤ MOST_QUESTIONS

abbrev pub WholeRepliesAreAllInOrder : Type 0
WholeRepliesAreAllInOrder =
    (q : Query) (dnssec : Bool) (replies : List WireMessage) (k : KeptValue)
    → whole_of (begun q dnssec) replies ≡ Some k → IsWhole k q dnssec replies

-- also where it fails
abbrev pub AsksFewQuestions : Type 0
AsksFewQuestions =
    (q : Query) (dnssec : Bool) (replies : List WireMessage)
    → (after_all (begun q dnssec) replies).count ≤ MOST_QUESTIONS
