-- What octets from a client are to a server, before any name is looked up.
use Rattle.std.specs.Prelude.{ℕ, zero, suc, ◌+◌, ◌-◌, ◌/◌, ◌%◌, Bool, false, not, ◌&&◌, ◌||◌, ◌==◌, List, [], ◌∷◌, length, take, drop, get_or, nat_eq, nat_lt, nat_le, codes, ◌++◌, Option, None, Some, if◌then◌else◌}
use Rattle.std.specs.Cmp.Lexicographic.{pointwise}
use Rattle.std.specs.Option.{is_some, option_map_or, option_and_then}
use Rattle.hickory_proto_core.specs.Name.{lower_label}
use Rattle.hickory_proto_wire.specs.Messages.{bit}
use Rattle.hickory_resolver_tries.specs.Heads.{number_at, head_of}
use Rattle.hickory_resolver_tries.specs.declared.head.Head.{Head}
use Rattle.client_queries.specs.Places.{question_end, record_place}
use Rattle.client_queries.specs.declared.places.RecordPlace.{RecordPlace}
use Rattle.client_queries.specs.declared.query.ClientEdns.{ClientEdns}
use Rattle.client_queries.specs.declared.query.ClientQuery.{ClientQuery}
use Rattle.client_queries.specs.declared.query.Extras.{Extras}
use Rattle.client_queries.specs.declared.query.Refusal.TheVariants as refusal
use Rattle.client_queries.specs.declared.query.Verdict.{Verdict}
use Rattle.client_queries.specs.declared.query.Verdict.TheVariants.{Refused, Any, Statistics, Asked}

-- ---- the question, by the position behind it

abbrev pub type_before : ℕ → List ℕ → ℕ
type_before end octets = number_at octets (end - 4)

abbrev pub class_before : ℕ → List ℕ → ℕ
class_before end octets = number_at octets (end - 2)

-- where there is one question, and it can be read
abbrev pub question_in : List ℕ → Head → Option ℕ
question_in octets h = if h.queries == 1 then question_end octets else None

-- a transfer of a zone: IXFR (RFC 1995), AXFR (RFC 5936)
abbrev pub is_transfer : ℕ → Bool
is_transfer code = (code == 251) || (code == 252)

-- Types that no record has: 0 (RFC 6895, section 3.1), OPT (RFC 6891), TKEY, TSIG, and transfers and mail of old (RFC
-- 1035, section 3.2.3).
abbrev pub is_no_type : ℕ → Bool
is_no_type code = (code == 0) || (code == 41) || (nat_le 249 code && nat_le code 254)

-- NXNAME stands in NSEC records alone, and is never asked for (RFC 9824, section 3.5).
abbrev pub is_nxname : ℕ → Bool
is_nxname code = code == 128

-- ---- the records behind it: OPT at most, and what signs a message

-- the first bit of the flags of OPT: DNSSEC OK (RFC 3225, section 3)
abbrev pub edns_at : ℕ → List ℕ → ClientEdns
edns_at at octets = record {
  size = number_at octets (at + 2);
  version = get_or octets (at + 5) 0;
  dnssec_ok = bit 32768 (number_at octets (at + 6));
}

abbrev pub with_opt : List ℕ → RecordPlace → Extras → Option Extras
with_opt octets r x =
    if is_some x.edns || not r.of_root then None
    else Some (record { edns = Some (edns_at r.fields octets); is_signed = false })

-- a SIG that covers no type signs the message (RFC 2931, section 3)
abbrev pub covers_no_type : List ℕ → RecordPlace → Bool
covers_no_type octets r = nat_le (r.fields + 12) r.end && (number_at octets (r.fields + 10) == 0)

abbrev pub signs : List ℕ → RecordPlace → Bool
signs octets r =
    (number_at octets r.fields == 250) || ((number_at octets r.fields == 24) && covers_no_type octets r)

-- one record more; what signs the message is the last (RFC 8945, section 5.2)
abbrev pub with_record : List ℕ → RecordPlace → Extras → Option Extras
with_record octets r x =
    if x.is_signed then None else (
    if number_at octets r.fields == 41 then with_opt octets r x
    else Some (record { edns = x.edns; is_signed = signs octets r }))

abbrev pub no_extras : Extras
no_extras = record { edns = None; is_signed = false }

-- so many records, which end the message
unfoldable pub extras_at : ℕ → List ℕ → ℕ → Extras → Option Extras
extras_at zero octets at x = if at == length octets then Some x else None
extras_at (suc count) octets at x =
    option_and_then (λ r. option_and_then (extras_at count octets r.end) (with_record octets r x)) (record_place octets at)

-- a query has no answer and no authority, and at most two more records: OPT, and one that signs it
abbrev pub has_few_records : Head → Bool
has_few_records h = (h.answers == 0) && (h.authorities == 0) && nat_le h.additionals 2

abbrev pub extras_behind : List ℕ → Head → ℕ → Option Extras
extras_behind octets h end = if has_few_records h then extras_at h.additionals octets end no_extras else None

-- ---- the verdict, row by row

-- `statistics.yimarotu. CH TXT`
abbrev pub statistics_name : List ℕ
statistics_name = 10 ∷ codes "statistics" ++ 8 ∷ codes "yimarotu" ++ 0 ∷ []

abbrev pub is_statistics_name : List ℕ → Bool
is_statistics_name name = pointwise nat_eq (lower_label name) (lower_label statistics_name)

abbrev pub asks_statistics : ℕ → List ℕ → Bool
asks_statistics end octets =
    (class_before end octets == 3) && (type_before end octets == 16)
    && is_statistics_name (take (end - 16) (drop 12 octets))

-- EDNS of a later version than 0 (RFC 6891, section 6.1.3)
abbrev pub is_later : Option ClientEdns → Bool
is_later edns = option_map_or (λ e. nat_lt 0 e.version) edns false

-- other classes than IN are not served; ANY is answered shortly (RFC 8482)
abbrev pub verdict_of_codes : ℕ → List ℕ → Verdict
verdict_of_codes end octets =
    if asks_statistics end octets then Statistics else (
    if is_nxname (type_before end octets) then Refused refusal.FormErr else (
    if not (class_before end octets == 1) || is_no_type (type_before end octets) then Refused refusal.Refused else (
    if type_before end octets == 255 then Any else Asked)))

abbrev pub verdict_of_extras : ℕ → List ℕ → Extras → Verdict
verdict_of_extras end octets x =
    if x.is_signed then Refused refusal.NotAuth else (
    if is_later x.edns then Refused refusal.BadVers else verdict_of_codes end octets)

abbrev pub verdict_of_question : List ℕ → Option Extras → ℕ → Verdict
verdict_of_question octets extras end =
    if is_transfer (type_before end octets) then Refused refusal.NotImp
    else option_map_or (verdict_of_extras end octets) extras (Refused refusal.FormErr)

-- other kinds of messages than queries are not known here
abbrev pub is_other_kind : Head → Bool
is_other_kind h = not (h.flags / 2048 % 16 == 0)

abbrev pub verdict_of : List ℕ → Head → Option ℕ → Option Extras → Verdict
verdict_of octets h question extras =
    if is_other_kind h then Refused refusal.NotImp
    else option_map_or (verdict_of_question octets extras) question (Refused refusal.FormErr)

-- ---- the whole

abbrev pub edns_of : Option Extras → Option ClientEdns
edns_of extras = option_and_then (λ x. x.edns) extras

abbrev pub query_from : List ℕ → Head → Option ℕ → Option Extras → ClientQuery
query_from octets h question extras = record {
  id = h.id;
  flags = h.flags;
  question_end = question;
  edns = edns_of extras;
  verdict = verdict_of octets h question extras;
}

abbrev pub query_with : List ℕ → Head → ClientQuery
query_with octets h =
    query_from octets h (question_in octets h) (option_and_then (extras_behind octets h) (question_in octets h))

abbrev pub query_if : List ℕ → Head → Option ClientQuery
query_if octets h = if bit 32768 h.flags then None else Some (query_with octets h)

-- octets shorter than a header are no query, and neither is a response: nothing is replied to them
abbrev pub query_of : List ℕ → Option ClientQuery
query_of octets = option_and_then (query_if octets) (head_of octets)
