-- What a look-up gives: a message with a question, and until when it may be used.
use Rattle.std.specs.Prelude.{ℕ, Bool, ◌&&◌, ◌==◌, List, [], ◌∷◌, ◌++◌, map, Result, unwrap_or}
use Rattle.std.specs.Cmp.{IsEquivalence, and_equiv, on_equiv, nat_eq_equiv}
use Rattle.hickory_proto_core.specs.Name.{NameValue}
use Rattle.hickory_proto_core.specs.Messages.{MessageValue, response_metadata, message_eq, message_equiv}
use Rattle.hickory_proto_core.specs.Records.{RecordValue}
use Rattle.hickory_proto_core.specs.codes.op_code.OpCode.TheVariants as op
use Rattle.hickory_proto_core.specs.codes.record_type.RecordType.{RecordType}
use Rattle.hickory_proto_core.specs.codes.dns_class.DNSClass.TheVariants as class
use Rattle.hickory_proto_core.specs.declared.query.Query.{Query}
use Rattle.hickory_proto_core.specs.declared.net_error.NetError.{NetError}
use Rattle.hickory_resolver_model.specs.Bounds.{ConfigValue, day, least, clamped_message, positive_lifetime}
use Rattle.hickory_resolver_model.specs.Cache.{saturating_sum}

pub record LookupValue : Type 0 where
  pub message : MessageValue
  pub valid_until : ℕ

-- the question for a name and a type, in the class of the Internet
abbrev pub question_of : NameValue → RecordType → Query
question_of n t = record { name = n; query_type = t; query_class = class.IN }

-- a fresh response to a question, with these answers
abbrev pub response_to : Query → List RecordValue → MessageValue
response_to q records =
    record {
      metadata = response_metadata 0 op.Query;
      queries = q ∷ [];
      answers = records;
      authorities = [];
      additionals = [];
    }

-- a look-up of these answers to a question that may be used until a moment (seconds), and one that may be
-- used for a day
abbrev pub answers_until : Query → List RecordValue → ℕ → LookupValue
answers_until q records deadline = record { message = response_to q records; valid_until = deadline }

abbrev pub answers_for_day : Query → List RecordValue → ℕ → LookupValue
answers_for_day q records now = answers_until q records (saturating_sum now day)

-- a look-up with more records at the end of its authority section, and of its additional section
abbrev pub more_authorities : LookupValue → List RecordValue → LookupValue
more_authorities l records =
    record l { message = record l.message { authorities = l.message.authorities ++ records } }

abbrev pub more_additionals : LookupValue → List RecordValue → LookupValue
more_additionals l records =
    record l { message = record l.message { additionals = l.message.additionals ++ records } }

-- what a look-up comes to
abbrev pub LookupResult : Type 0
LookupResult = Result LookupValue NetError

-- a message's own questions, or this one where it has none
abbrev pub queries_or : Query → List Query → List Query
queries_or q [] = q ∷ []
queries_or q (x ∷ xs) = x ∷ xs

abbrev pub with_question : Query → MessageValue → MessageValue
with_question q m = record m { queries = queries_or q m.queries }

-- the seconds for which a hit may be used: its least answer TTL, or a day without answers
abbrev pub hit_seconds : MessageValue → ℕ
hit_seconds m = unwrap_or (least (map (λ r. r.ttl) m.answers)) day

-- a message out of the cache
abbrev pub hit_lookup : Query → MessageValue → ℕ → LookupValue
hit_lookup q m now = record { message = with_question q m; valid_until = saturating_sum now (hit_seconds m) }

-- an accepted response: its TTLs are clamped, and it may be used for its lifetime
abbrev pub found_lookup : ConfigValue → Query → MessageValue → ℕ → LookupValue
found_lookup config q m now =
    let kept = clamped_message config m in
    record {
      message = with_question q kept;
      valid_until = saturating_sum now (positive_lifetime config q kept);
    }

abbrev pub lookup_eq : LookupValue → LookupValue → Bool
lookup_eq a b = message_eq a.message b.message && (a.valid_until == b.valid_until)

pub lookup_equiv : IsEquivalence lookup_eq
lookup_equiv =
    and_equiv (on_equiv (λ l. l.message) message_equiv) (on_equiv (λ l. l.valid_until) nat_eq_equiv)
