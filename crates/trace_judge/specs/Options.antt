-- What the judge allows, as plain data.
use Rattle.std.specs.Prelude.{ℕ, List}
use Rattle.hickory_proto_core.specs.Name.{NameValue}
use Rattle.hickory_proto_core.specs.Records.{RecordValue}
use Rattle.synthesis.specs.declared.dns64.Prefix.{Prefix}

-- so many seconds for rounding, the zones that the resolver answers for by itself, the records that it has of its own,
-- and the prefixes in which it makes IPv6 addresses of IPv4 addresses
pub record OptionsValue : Type 0 where
  pub slack : ℕ
  pub local : List NameValue
  pub own : List RecordValue
  pub dns64 : List Prefix
