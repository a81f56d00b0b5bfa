use Rattle.std.proofs.Common.{Option, subst}
use Rattle.std.specs.Option.{option_map}
use Rattle.hickory_proto_core.specs.Records.{data_of}
use Rattle.hickory_resolver_config.specs.declared.strategies.LookupIpStrategy.{LookupIpStrategy}
use Rattle.hickory_resolver_model.specs.Calls.{last_resort}
use Rattle.hickory_resolver_model.specs.Lookup.{LookupValue}
use Rattle.hickory_resolver_model.specs.Resolver.{settings}
use Rattle.hickory_resolver_model.specs.Run.{Attempt, address_plan}
use Rattle.hickory_resolver_client.specs.Contexts.{progress_of}
use Rattle.hickory_resolver.specs.Starting.{StartsAt}
use Rattle.hickory_resolver.proofs.resolver.Resolver.start_addresses.Goals as goal

pub returns : goal.returns
returns g c =
    let S : LookupIpStrategy → Type 0 = λ strategy. StartsAt c.args.now
    (Attempt c.args.name (address_plan strategy (option_map (λ rdata. last_resort (data_of rdata) c.args.now)
    c.record_data.result))) c.args.self.now (progress_of c.start_call.result) c.start_call.new.self in
    let L : Option LookupValue → Type 0 = λ literal. StartsAt c.args.now
    (Attempt c.args.name (address_plan (settings c.args.self.now).strategy literal)) c.args.self.now
    (progress_of c.start_call.result) c.start_call.new.self in
    subst L (c.record_data.ensures c.args.now) (subst S c.ip_strategy.ensures c.start_call.ensures)
