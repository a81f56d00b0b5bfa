-- What is kept of a believed reply, so that a client can be told the whole of it again; how replies are put together
-- where aliases lead on (RFC 6604); and how what is kept ages (RFC 2181, section 8).
use Rattle.std.specs.Prelude.{ℕ, Bool, not, ◌&&◌, ◌||◌, ◌-◌, List, ◌++◌, length, map, filter, min, nat_lt, Option, None, Some, unwrap_or, if◌then◌else◌}
use Rattle.std.specs.Option.{is_some, option_map_or}
use Rattle.hickory_proto_core.specs.Messages.{MessageValue}
use Rattle.hickory_proto_core.specs.Records.{RecordValue, soa_minimum, lower_ttl}
use Rattle.hickory_proto_core.specs.codes.response_code.ResponseCode.{ResponseCode}
use Rattle.hickory_proto_core.specs.declared.query.Query.{Query}
use Rattle.hickory_proto_wire.specs.declared.wire_message.WireMessage.{WireMessage}
use Rattle.hickory_resolver_model.specs.AliasWalk.{walk_of, is_moved}
use Rattle.hickory_resolver_model.specs.Bounds.{least_ttl}
use Rattle.hickory_resolver_tries.specs.Outcome.{at_name, has_soa, is_answered, leads_on}
use Rattle.whole_replies.specs.Received.{received, received_ttl}
use Rattle.whole_replies.specs.Ways.{is_kept_of, names_of}
use Rattle.whole_replies.specs.declared.choices.TheConstants.{MOST_NAMES}

-- the code, whether the server held all for authentic, the records that are told, and for how many seconds
pub record KeptValue : Type 0 where
  pub code : ResponseCode
  pub authentic_data : Bool
  pub answers : List RecordValue
  pub authorities : List RecordValue
  pub seconds : ℕ

-- ---- of one reply, by what counts of it

-- nothing answers, and nothing leads on (RFC 2308, section 2)
abbrev pub is_negative : Query → MessageValue → Bool
is_negative q m = not (is_answered q m) && not (leads_on q m)

abbrev pub kept_answers : Query → Bool → MessageValue → List RecordValue
kept_answers q dnssec m = filter (is_kept_of q m.answers dnssec) m.answers

abbrev pub is_start_of_zone : RecordValue → Bool
is_start_of_zone r = is_some (soa_minimum r.rdata)

abbrev pub is_kept_authority : Bool → RecordValue → Bool
is_kept_authority negative r = negative && is_start_of_zone r

-- All of the authority section where DNSSEC records were asked, and of a negative answer without aliases; the SOA
-- records of one behind aliases; and none of an answer.
abbrev pub authorities_kept : Bool → Bool → Bool → List RecordValue → List RecordValue
authorities_kept dnssec negative moved authorities =
    if dnssec || (negative && not moved) then authorities
    else filter (is_kept_authority negative) authorities

-- The minimum of a SOA record is no less a limit than its TTL (RFC 2308, section 5): so a client that looks at the TTL
-- alone keeps a negative answer no longer.
abbrev pub within_minimum : RecordValue → RecordValue
within_minimum r =
    record r { ttl = option_map_or (λ minimum. min r.ttl (received_ttl minimum)) (soa_minimum r.rdata) r.ttl }

abbrev pub kept_authorities : Query → Bool → MessageValue → List RecordValue
kept_authorities q dnssec m =
    map within_minimum (authorities_kept dnssec (is_negative q m) (is_moved (walk_of q m.answers)) m.authorities)

-- A negative answer may be kept as the SOA records say that are kept with it, and not at all without one (RFC 2308,
-- section 5).
abbrev pub negative_limit : Query → MessageValue → Option ℕ
negative_limit q m = if is_negative q m && not (has_soa m) then Some 0 else None

-- the lesser of two, where there are two
abbrev pub lesser : Option ℕ → Option ℕ → Option ℕ
lesser None b = b
lesser (Some a) None = Some a
lesser (Some a) (Some b) = Some (min a b)

-- the least TTL of all records that are kept, and of a negative answer its own limit too
abbrev pub seconds_of : Option ℕ → List RecordValue → List RecordValue → ℕ
seconds_of limit answers authorities =
    unwrap_or (lesser limit (lesser (least_ttl answers) (least_ttl authorities))) 0

abbrev pub kept_with : Query → Bool → MessageValue → List RecordValue → List RecordValue → KeptValue
kept_with q authentic m answers authorities = record {
  code = m.metadata.response_code;
  authentic_data = authentic;
  answers = answers;
  authorities = authorities;
  seconds = seconds_of (negative_limit q m) answers authorities;
}

-- A reply on whose way there are too many names is not kept.
abbrev pub is_too_long : Query → MessageValue → Bool
is_too_long q m = nat_lt MOST_NAMES (length (names_of q m.answers))

abbrev pub kept_of_received : Query → Bool → Bool → MessageValue → Option KeptValue
kept_of_received q dnssec authentic m =
    if is_too_long q m then None
    else Some (kept_with q authentic m (kept_answers q dnssec m) (kept_authorities q dnssec m))

abbrev pub kept_of : Query → Bool → WireMessage → Option KeptValue
kept_of q dnssec m = kept_of_received q dnssec m.authentic_data (received q m.message)

-- ---- of several

-- aliases lead on, and nothing answers where they end
abbrev pub is_unfinished : Query → MessageValue → Bool
is_unfinished q m = not (is_answered q m) && leads_on q m

-- what is asked next, by what counts of a reply
abbrev pub next_of_received : Query → MessageValue → Option Query
next_of_received q m = if is_unfinished q m then Some (at_name q (walk_of q m.answers).last) else None

abbrev pub next_question : Query → MessageValue → Option Query
next_question q m = next_of_received q (received q m)

-- A reply, and one to the question that it leads to: the answers of both; code and authority are the last one's (RFC
-- 6604). It is held for authentic, and may be kept, as both are.
abbrev pub joined : KeptValue → KeptValue → KeptValue
joined first last = record {
  code = last.code;
  authentic_data = first.authentic_data && last.authentic_data;
  answers = first.answers ++ last.answers;
  authorities = last.authorities;
  seconds = min first.seconds last.seconds;
}

-- ---- later

-- so many seconds later
abbrev pub aged : ℕ → KeptValue → KeptValue
aged elapsed k = record {
  code = k.code;
  authentic_data = k.authentic_data;
  answers = map (lower_ttl elapsed) k.answers;
  authorities = map (lower_ttl elapsed) k.authorities;
  seconds = k.seconds - elapsed;
}
