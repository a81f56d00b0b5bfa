-- A zone: its records, and how often it was asked.
use Rattle.std.specs.Prelude.{◌≡◌, ℕ, List}
use Rattle.hickory_proto_core.specs.Handles.{OutcomeValue}
use Rattle.hickory_proto_core.specs.Records.{RecordValue}
use Rattle.hickory_proto_core.specs.declared.dns_request.DnsRequest.{DnsRequest}

pub record ZoneValue : Type 0 where
  pub records : List RecordValue
  pub soa : RecordValue
  pub asked : ℕ

-- the same zone, whatever its counter says
pub record IsSameZone (before after : ZoneValue) : Type 0 where
  pub records_are : after.records ≡ before.records
  pub soa_is : after.soa ≡ before.soa

-- a question, whatever it is and whatever is answered, leaves the zone as it was
abbrev pub ZoneStep : ZoneValue → DnsRequest → OutcomeValue → ZoneValue → Type 0
ZoneStep before request outcome after = IsSameZone before after
