-- What is let go was told of the names that are cleared.
use Rattle.std.proofs.Common.{◌≡◌, ◌∙◌, ◌≢◌, Err, List, Result, ap, rules, subst}
use Rattle.hickory_proto_core.specs.Name.{NameValue}
use Rattle.hickory_proto_core.specs.NameGiven.{IsReadName}
use Rattle.hickory_proto_core.specs.names.name_error.NameError.{NameError}
use Rattle.hickory_proto_core.specs.names.name_error.NameError.TheVariants as name_fault
use Rattle.hickory_resolver.specs.declared.explaining.Attempted.{Attempted}
use Rattle.yimarotu_session.proofs.Attempted.{clears-name, is_among}
use Rattle.yimarotu_session.proofs.network_session.NetworkSession.clear_name.Goals as goal
use Rattle.yimarotu_session.specs.LookupTables.{TableValue, table_of, without_told}
use Rattle.yimarotu_session.specs.NetworkSessions.{NetworkValue, name_cleared}

-- src/network_session.rt
pub returns-in-Ok-clear_lookup_cache : goal.returns-in-Ok-clear_lookup_cache
returns-in-Ok-clear_lookup_cache c =
    let inside = c.self.inside in
    let before : NetworkValue = record { resolver = inside.resolver; pool = inside.pool; table = table_of inside.table; telling = inside.telling } in
    let table : TableValue = table_of c.let_go_of.new.self in
    let after : NetworkValue = record before { resolver = c.clear_lookup_cache.new.self; table = table } in
    let same : before ≡ c.args.self.now = search rules in
    let done = c.in-Ok-clear_lookup_cache.ensures.ok in
    let told : table ≡ without_told (is_among c.in-Ok.attempted.items) before.table = c.let_go_of.ensures ∙ ap (λ (l : List Attempted). without_told (is_among l) before.table) c.deref.ensures.value in (
      subst (λ (s : NetworkValue). (given : Result NameValue NameError) × IsReadName c.args.name.now given × (given ≢ Err name_fault.OutOfMemory) × (after ≡ name_cleared c.args.record_type given s)) same (
        done.0,
        done.1,
        done.2,
        clears-name c.args.name.now c.args.record_type c.in-Ok.attempted.items done.0 before after.resolver table c.in-Ok.ensures done.1 done.2 done.3 told,
      ),
      tt,
      tt,
    )
