use Rattle.std.proofs.Common.{ap, sym, ◌∙◌}
use Rattle.std.specs.Option.{is_some}
use Rattle.hickory_resolver_traffic.specs.Doing.{doing as doing_of}
use Rattle.hickory_resolver_pool.specs.Pool.{PoolState}
use Rattle.hickory_resolver_pool.proofs.Stepping.{one_ok, steps-go}
use Rattle.hickory_resolver_pool.proofs.pool.NameServerPool.next_action.Goals as goal

pub returns-clause-ok : goal.returns-clause-ok
returns-clause-ok g c =
    let k = c.in-Some.current in
    let works = sym (ap (λ (s : PoolState). s.current) c.self.view_is) ∙ c.in-Some.is in
    let writes = sym (ap (λ (s : PoolState). is_some s.traffic.outgoing) c.self.view_is)
    ∙ sym c.is_writing.ensures ∙ c.if-is_writing.false in
    let is = c.doing-doing.ensures ∙ ap (λ (s : PoolState). doing_of k s.traffic) c.self.view_is in
    one_ok c.go_on.result (c.go_on.ensures.ok k works)
    (λ r steps. steps-go c.args.self.now c.go_on.new.self c.doing-doing.result k r writes works is steps)
