-- The question that is asked ahead is this one.
use Rattle.std.proofs.Common.{◌≡◌, refl, rules, subst}
use Rattle.yimarotu_session.proofs.Asking.{asks-ahead}
use Rattle.yimarotu_session.proofs.network_session.NetworkSession.ask_ahead.Goals as goal
use Rattle.yimarotu_session.specs.LookupTables.{table_of}
use Rattle.yimarotu_session.specs.NetworkSessions.{NetworkValue}
use Rattle.yimarotu_session.specs.NetworkSteps.{AsksAhead}

-- src/network_steps.rt
pub returns-clause-ok : goal.returns-clause-ok
returns-clause-ok c =
    let inside = c.self.inside in
    let before : NetworkValue = record { resolver = inside.resolver; pool = inside.pool; table = table_of inside.table; telling = inside.telling } in
    let after : NetworkValue = record { resolver = inside.resolver; pool = c.ask_pool.new.pool; table = table_of c.answer_ahead.new.table; telling = inside.telling } in
    let same : before ≡ c.args.self.now = search rules in
    let options = c.request_options-options in
    subst (λ (s : NetworkValue). AsksAhead c.args.number c.args.second s after) same
    (asks-ahead c.args.number before after (table_of c.reserve_asker.new.self) c.args.second c.in_ok-copy.copy options.result c.in_ok-asked.asked c.in_ok-copy.ensures.cases options.ensures c.reserve_asker.ensures.same c.in_ok-asked.ensures.told c.in_ok-asked.ensures.ok c.answer_ahead.ensures refl)
