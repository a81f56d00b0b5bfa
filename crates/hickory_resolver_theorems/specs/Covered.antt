-- Where a record that is given comes from: an exchange that brought it, whose TTL it does not outlive (RFC
-- 2181, section 8).
use Rattle.std.specs.Prelude.{◌≡◌, ◌⊎◌, ◌≤◌, ℕ, ◌+◌, true, List, [], ◌∷◌, map, min, Contains, Some, Ok}
use Rattle.hickory_proto_core.specs.Codes.{class_code}
use Rattle.hickory_proto_core.specs.codes.dns_class.DNSClass.TheVariants as class
use Rattle.hickory_proto_core.specs.Records.{RecordValue}
use Rattle.hickory_proto_core.specs.Messages.{MessageValue}
use Rattle.hickory_proto_core.specs.ResponseKind.{record_type_code}
use Rattle.hickory_proto_core.specs.declared.recorded.Exchange.{Exchange}
use Rattle.hickory_resolver_model.specs.Bounds.{ConfigValue, greatest_ttl}
use Rattle.hickory_resolver_model.specs.SpecialUse.{is_loopback_name, loopback_data}
use Rattle.hickory_resolver_model.specs.Verdict.{all_records}
use Rattle.hickory_resolver_theorems.specs.Cores.{record_core}

-- an exchange, and the moment of its request
pub record Dated : Type 0 where
  pub moment : ℕ
  pub exchange : Exchange

abbrev pub dated_exchanges : ℕ → List Exchange → List Dated
dated_exchanges now xs = map (λ x. record { moment = now; exchange = x }) xs

-- The record, given at a moment, is covered: some exchange brought an equal one (TTLs aside) in some section,
-- and the moment and the record's TTL together are not past the exchange's moment and the TTL that it
-- brought, cut at the greatest.
pub record IsCoveredBy (config : ConfigValue) (now : ℕ) (r : RecordValue) (source : Dated) : Type 0 where
  pub response : MessageValue
  pub came : source.exchange.outcome ≡ Ok response
  pub received : RecordValue
  pub brought : Contains (all_records response) received
  pub equal : record_core received ≡ record_core r
  pub reaches : now + r.ttl ≤ source.moment + min received.ttl (greatest_ttl config (record_type_code r))

abbrev pub IsCovered : ConfigValue → List Dated → ℕ → RecordValue → Type 0
IsCovered config [] now r = ⊥
IsCovered config (d ∷ ds) now r = IsCoveredBy config now r d ⊎ IsCovered config ds now r

-- a record of a loopback name with what that name always has
abbrev pub IsLoopback : RecordValue → Type 0
IsLoopback r =
    (class_code r.dns_class ≡ class_code class.IN) × (is_loopback_name r.name ≡ true)
    × (loopback_data (record_type_code r) ≡ Some r.rdata)
