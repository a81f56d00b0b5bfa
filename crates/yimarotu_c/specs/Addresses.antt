-- Answers as addresses.
use Rattle.std.specs.Prelude.{◌≡◌, ◌⊎◌, ◌-◌, ◌/◌, ℕ, List, [], ◌∷◌, ◌++◌, length, replicate, Ok, Err, MatchResult}
use Rattle.std.specs.List.{flat_map}
use Rattle.std.specs.Option.{option_map_or}
use Rattle.std.specs.declared.net.IpAddr.{IpAddr}
use Rattle.std.specs.declared.net.IpAddr.TheVariants.{V4, V6}
use Rattle.hickory_proto_core.specs.Codes.{response_code}
use Rattle.hickory_proto_core.specs.Records.{RecordValue}
use Rattle.hickory_resolver_lookup.specs.LookupAddresses.{address_in}
use Rattle.hickory_resolver_model.specs.Lookup.{LookupResult, LookupValue}
use Rattle.yimarotu_c.specs.Answering.{told_of}
use Rattle.yimarotu_c.specs.Doing.{address_octets, family_of}
use Rattle.yimarotu_c.specs.LookingUp.{status_of}
use Rattle.yimarotu_c.specs.Rooms.{IsPut}
use Rattle.yimarotu_c.specs.Statuses.{number_of}
use Rattle.yimarotu_c.specs.declared.addresses.YimarotuFound.{YimarotuFound}
use Rattle.yimarotu_c.specs.declared.answering.Told.{Told}
use Rattle.yimarotu_c.specs.declared.status.Status.{Status}
use Rattle.yimarotu_c.specs.declared.status.Status.TheVariants.{NoMemory}
use Rattle.yimarotu_c.specs.declared.status.Status.TheVariants as status
use Rattle.yimarotu_embedded.specs.Held.{found_in}
use Rattle.yimarotu_embedded.specs.declared.held.Held.{Held}
use Rattle.yimarotu_session.specs.NetworkSessions.{seconds_of}

-- an address of either family in 17 octets
abbrev pub padding_of : IpAddr → List ℕ
padding_of (V4 address) = replicate 12 0
padding_of (V6 address) = []

abbrev pub address_entry : IpAddr → List ℕ
address_entry address = family_of address ∷ address_octets address ++ padding_of address

-- that of an A or AAAA record
abbrev pub record_entry : RecordValue → List ℕ
record_entry r = option_map_or address_entry (address_in r.rdata) []

abbrev pub addresses_end : Status → YimarotuFound
addresses_end s = record { status = number_of s; error = 0; code = 0; ttl = 0; count = 0 }

-- a look-up without records has no addresses
abbrev pub error_end : Told → YimarotuFound
error_end told =
    record { status = number_of status.Ok; error = told.error; code = told.code; ttl = 0; count = 0 }

abbrev pub put_end : Status → ℕ → LookupValue → ℕ → YimarotuFound
put_end s octets l moment = record {
  status = number_of s;
  error = 0;
  code = response_code l.message.metadata.response_code;
  ttl = l.valid_until - seconds_of moment;
  count = octets / 17;
}

abbrev pub AreEntriesPut : List ℕ → LookupValue → ℕ → List ℕ → List ℕ → YimarotuFound → Type 0
AreEntriesPut entries l moment before after ended =
    (s : Status) × IsPut entries before after s × (ended ≡ put_end s (length entries) l moment)

-- the addresses of the answers, in their order, are put in the room, unless memory runs out for them
abbrev pub ArePut : LookupValue → ℕ → List ℕ → List ℕ → YimarotuFound → Type 0
ArePut l moment before after ended =
    AreEntriesPut (flat_map record_entry l.message.answers) l moment before after ended
    ⊎ ((ended ≡ addresses_end NoMemory) × (after ≡ before))

abbrev pub AreFoundPut : LookupResult → ℕ → List ℕ → List ℕ → YimarotuFound → Type 0
AreFoundPut (Ok l) moment before after ended = ArePut l moment before after ended
AreFoundPut (Err error) moment before after ended = (ended ≡ error_end (told_of (Err error))) × (after ≡ before)

abbrev pub AreAddressesPut : ℕ → ℕ → Held → List ℕ → List ℕ → YimarotuFound → Type 0
AreAddressesPut number moment held before after ended =
    MatchResult (found_in number held) (λ found. AreFoundPut found moment before after ended)
    (λ error. (ended ≡ addresses_end (status_of error)) × (after ≡ before))
