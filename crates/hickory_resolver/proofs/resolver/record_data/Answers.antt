use Rattle.std.proofs.Common.{◌∙◌, Option, Some, sym, ap}
use Rattle.std.specs.Option.{option_map}
use Rattle.std.specs.declared.net.IpAddr.{IpAddr}
use Rattle.hickory_proto_core.specs.Records.{data_of_address}
use Rattle.hickory_resolver_model.specs.Calls.{last_resort}
use Rattle.hickory_resolver_model.specs.Lookup.{LookupValue}
use Rattle.hickory_resolver.proofs.resolver.record_data.Goals as goal

pub returns-in-Some : goal.returns-in-Some
returns-in-Some c = λ now.
    let on : Option IpAddr → Option LookupValue = λ o. option_map (λ literal. last_resort (data_of_address literal) now) o in
    ap (λ d. Some (last_resort d now)) c.from.ensures ∙ sym (ap on c.in-Some.is)
