-- The look-up begins under a number that is free.
use Rattle.std.proofs.Common.{◌≡◌, None, Ok, refl, rules, subst}
use Rattle.hickory_proto_core.specs.NameGiven.{IsReadName}
use Rattle.hickory_resolver.specs.Starting.{StartsName}
use Rattle.yimarotu_session.proofs.NetworkBeginnings.{begun}
use Rattle.yimarotu_session.proofs.network_session.NetworkSession.start.Goals as goal
use Rattle.yimarotu_session.specs.Calls.{Does}
use Rattle.yimarotu_session.specs.LookupTables.{BeginsAt, table_of}
use Rattle.yimarotu_session.specs.NetworkSessions.{BeginsName, NetworkValue, seconds_of}
use Rattle.yimarotu_session.specs.declared.network_lookup.NetworkLookup.{NetworkLookup}

-- src/network_session.rt
pub returns : goal.returns
returns c =
    let inside = c.self.inside in
    let Comes : Does = StartsName (IsReadName c.args.name.now) c.args.record_type (seconds_of c.args.now) in
    let before : NetworkValue = record { resolver = inside.resolver; pool = inside.pool; table = table_of inside.table; telling = inside.telling } in
    let after : NetworkValue = record { resolver = c.start_lookup-progress.new.self; pool = c.tick.new.self; table = table_of c.begin.new.self; telling = inside.telling } in
    let same : before ≡ c.args.self.now = search rules in
    let room = table_of c.reserve_lookup.new.self in
    let places = subst (λ (held : NetworkLookup). BeginsAt c.args.number held None room after.table) c.lookup_of.ensures c.begin.ensures in
    subst (λ (s : NetworkValue). BeginsName c.args.number c.args.name.now c.args.record_type c.args.now s (Ok tt) after) same
    (begun Comes None c.args.number c.args.now before after c.start_lookup-progress.result room c.in_ok-reserve_lookup.ensures.made c.start_lookup-progress.ensures.starts places c.tick.ensures refl)
