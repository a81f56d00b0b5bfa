-- The question that is asked is that of the look-up.
use Rattle.std.proofs.Common.{◌≡◌, Some, refl, rules, subst}
use Rattle.hickory_resolver_theorems.specs.ResumingCalls.{WaitingCallValue}
use Rattle.yimarotu_session.proofs.Asking.{asks-pool}
use Rattle.yimarotu_session.proofs.network_session.NetworkSession.ask.Goals as goal
use Rattle.yimarotu_session.specs.LookupTables.{held_at, table_of}
use Rattle.yimarotu_session.specs.Messages.{whole_query}
use Rattle.yimarotu_session.specs.NetworkSessions.{NetworkValue}
use Rattle.yimarotu_session.specs.NetworkSteps.{AsksPool}
use Rattle.yimarotu_session.specs.declared.network_lookup.NetworkLookup.TheVariants.{Asks}

-- src/network_steps.rt
pub returns-clause-ok : goal.returns-clause-ok
returns-clause-ok c =
    let inside = c.self.inside in
    let before : NetworkValue = record { resolver = inside.resolver; pool = inside.pool; table = table_of inside.table; telling = inside.telling } in
    let after : NetworkValue = record { resolver = c.answer.new.resolver; pool = c.ask_pool.new.pool; table = table_of c.answer.new.table; telling = inside.telling } in
    let same : before ≡ c.args.self.now = search rules in
    let options = c.request_options-options in
    subst (λ (s : NetworkValue). (w : WaitingCallValue) → held_at c.args.number s.table ≡ Some (Asks w) → c.args.query ≡ whole_query w.lookup.hop.query → AsksPool w c.args.number s after) same
    (λ w there asks. asks-pool w c.args.number before after (table_of c.reserve_asker.new.self) c.args.query options.result c.in_ok-asked.asked there asks options.ensures c.reserve_asker.ensures.same c.in_ok-asked.ensures.told c.in_ok-asked.ensures.ok c.answer.ensures refl)
