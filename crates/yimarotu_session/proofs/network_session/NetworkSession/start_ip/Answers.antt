-- The look-up of a host begins under a number that is free.
use Rattle.std.proofs.Common.{◌≡◌, Ok, Some, refl, rules, subst}
use Rattle.hickory_proto_core.specs.NameGiven.{IsReadAddress, IsReadName}
use Rattle.hickory_resolver.specs.Starting.{StartsHost}
use Rattle.yimarotu_session.proofs.NetworkBeginnings.{begun}
use Rattle.yimarotu_session.proofs.network_session.NetworkSession.start_ip.Goals as goal
use Rattle.yimarotu_session.specs.Calls.{Does}
use Rattle.yimarotu_session.specs.LookupTables.{BeginsAt, table_of}
use Rattle.yimarotu_session.specs.NetworkSessions.{BeginsHost, NetworkValue, seconds_of}
use Rattle.yimarotu_session.specs.declared.ahead.Ahead.TheVariants.{Nothing}
use Rattle.yimarotu_session.specs.declared.network_lookup.NetworkLookup.{NetworkLookup}

-- src/network_session.rt
pub returns : goal.returns
returns c =
    let inside = c.self.inside in
    let Comes : Does = StartsHost (IsReadAddress c.args.host.now) (IsReadName c.args.host.now) (seconds_of c.args.now) in
    let before : NetworkValue = record { resolver = inside.resolver; pool = inside.pool; table = table_of inside.table; telling = inside.telling } in
    let after : NetworkValue = record { resolver = c.start_lookup_ip-progress.new.self; pool = c.tick.new.self; table = table_of c.begin.new.self; telling = inside.telling } in
    let same : before ≡ c.args.self.now = search rules in
    let room = table_of c.reserve_lookup.new.self in
    let places = subst (λ (held : NetworkLookup). BeginsAt c.args.number held (Some Nothing) room after.table) c.lookup_of.ensures c.begin.ensures in
    subst (λ (s : NetworkValue). BeginsHost c.args.number c.args.host.now c.args.now s (Ok tt) after) same
    (begun Comes (Some Nothing) c.args.number c.args.now before after c.start_lookup_ip-progress.result room c.in_ok-reserve_lookup.ensures.made c.start_lookup_ip-progress.ensures.starts places c.tick.ensures refl)
