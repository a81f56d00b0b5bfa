use Rattle.std.proofs.Common.{sym, ◌∙◌}
use Rattle.hickory_resolver_pool.proofs.Stepping.{both_ok, one_ok, steps-end, steps-put, steps-on}
use Rattle.hickory_resolver_pool.proofs.pool.NameServerPool.go_on.Goals as goal

pub returns-then-is_end-clause-ok : goal.returns-then-is_end-clause-ok
returns-then-is_end-clause-ok g c = λ k is.
    both_ok c.end.result (c.end.ensures.action k is) (c.end.ensures.ok k is)
    (λ r told after. steps-end c.args.doing k c.args.self.now r (sym c.is_end.ensures ∙ c.if-is_end.true) told after)

pub returns-then-is_put-clause-ok : goal.returns-then-is_put-clause-ok
returns-then-is_put-clause-ok g c = λ k is.
    both_ok c.put_back.result c.put_back.ensures.action (c.put_back.ensures.ok k is)
    (λ r told after. steps-put c.args.doing k c.args.self.now r
    (sym c.is_end.ensures ∙ c.if-is_end.false) (sym c.is_put.ensures ∙ c.if-is_put.true)
    told after)

pub returns-else-is_put-clause-ok : goal.returns-else-is_put-clause-ok
returns-else-is_put-clause-ok g c = λ k is.
    one_ok c.carry_out.result (c.carry_out.ensures.ok k is)
    (λ r carries. steps-on c.args.doing k c.args.self.now r
    (sym c.is_end.ensures ∙ c.if-is_end.false) (sym c.is_put.ensures ∙ c.if-is_put.false)
    carries)
