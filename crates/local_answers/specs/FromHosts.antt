-- What the table of hosts has for a question (RFC 1123, section 6.1.3.8).
use Rattle.std.specs.Prelude.{◌≡◌, ℕ, Bool, true, false, ◌||◌, List, [], ◌∷◌, Option, None, Some, if◌then◌else◌}
use Rattle.std.specs.Option.{is_some}
use Rattle.hickory_proto_core.specs.ResponseKind.{asks_for}
use Rattle.hickory_proto_core.specs.codes.record_type.RecordType.{RecordType}
use Rattle.hickory_proto_core.specs.codes.record_type.RecordType.TheVariants as type
use Rattle.hickory_proto_core.specs.codes.response_code.ResponseCode.TheVariants as response
use Rattle.hickory_proto_core.specs.declared.query.Query.{Query}
use Rattle.hickory_resolver_model.specs.Hosts.{Host, HostsHave}
use Rattle.hickory_resolver_model.specs.Lookup.{LookupValue}
use Rattle.whole_replies.specs.Kept.{KeptValue}
use Rattle.local_answers.specs.Replies.{answer, no_records}

-- the question, asked for another type
abbrev pub as_type : RecordType → Query → Query
as_type t q = record { name = q.name; query_type = t; query_class = q.query_class }

-- of the look-ups of A, AAAA and PTR that of the asked type
abbrev pub chosen : Query → Option LookupValue → Option LookupValue → Option LookupValue → Option LookupValue
chosen q v4 v6 names =
    if asks_for type.A q then v4
    else (if asks_for type.AAAA q then v6 else (if asks_for type.PTR q then names else None))

-- The records of the asked type, where the hosts have some; no records, where they have the name; else nothing.
abbrev pub told : Option LookupValue → Bool → Option KeptValue
told (Some found) known = Some (answer found.message.answers)
told None true = Some (no_records response.NoError)
told None false = None

-- A name is theirs where they have addresses for it, or where it is the name of an address that they have. A table of
-- no hosts has no name.
abbrev pub IsFromHosts : Query → ℕ → List Host → Option KeptValue → Type 0
IsFromHosts q now [] result = result ≡ None
IsFromHosts q now (h ∷ hosts) result =
    (v4 : Option LookupValue) × (v6 : Option LookupValue) × (names : Option LookupValue)
    × HostsHave (as_type type.A q) now (h ∷ hosts) v4
    × HostsHave (as_type type.AAAA q) now (h ∷ hosts) v6
    × HostsHave (as_type type.PTR q) now (h ∷ hosts) names
    × (result ≡ told (chosen q v4 v6 names) (is_some v4 || is_some v6 || is_some names))
