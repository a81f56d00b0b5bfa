use Rattle.std.proofs.Common.{◌||◌, ◌&&◌, ◌==◌, sym, ap, ◌∙◌}
use Rattle.hickory_resolver_hosts.specs.Index.{is_owner}
use Rattle.hickory_resolver_hosts.specs.HostsTable.{gives}
use Rattle.hickory_resolver_hosts.proofs.GivenAddresses.{err_from, given_front, given_more, ok_from, told_more, undone}
use Rattle.hickory_resolver_hosts.proofs.owners.add_first_owners.Goals as goal

pub loop-entry-preserved : goal.loop-entry-preserved
loop-entry-preserved c = λ a is i.
    ok_from _ (sym c.is_err.ensures.value ∙ c.if-is_err.false) c.add_given.ensures.ok a is i
    ∙ ap (λ o. o || (gives c.args.record_type a c.entry-item.result && (c.args.place == i))) (c.loop-entry.invariant a is i)
    ∙ told_more (is_owner c.args.owners.now a i) _ (gives c.args.record_type a c.entry-item.result) (c.args.place == i)
    ∙ ap (λ g. is_owner c.args.owners.now a i || (g && (c.args.place == i)))
    (sym (given_more c.args.record_type c.args.records.now c.loop-entry.entry-index _ c.entry-item.result a c.loop-entry-test.true c.entry-item.is))

pub returns-then-is_err-clause-err : goal.returns-then-is_err-clause-err
returns-then-is_err-clause-err c = λ a is i.
    undone c.args.owners.now c.add_given.new.owners c.remove_given.new.owners _ _ c.args.place a i (c.requires a is)
    (given_front c.args.record_type c.args.records.now c.loop-entry.entry-index a)
    (err_from _ (sym c.is_err.ensures.value ∙ c.if-is_err.true) c.add_given.ensures.err a is i ∙ c.loop-entry.invariant a is i)
    (c.remove_given.ensures a is i)
