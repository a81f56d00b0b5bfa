use Rattle.std.proofs.Common.{◌||◌, ◌&&◌, ◌==◌, sym, ap, ◌∙◌}
use Rattle.hickory_resolver_hosts.specs.Index.{is_owner, same_address}
use Rattle.hickory_resolver_hosts.proofs.IndexChanges.{added_v4, added_v6}
use Rattle.hickory_resolver_hosts.proofs.owners.Owners.add.Goals as goal

pub returns-in_ok-insert-in-V4-clause-ok : goal.returns-in_ok-insert-in-V4-clause-ok
returns-in_ok-insert-in-V4-clause-ok c = λ a i.
    added_v4 c.args.self.now c.insert.new.self c.in-V4.address c.bits_v4.result c.args.place c.bits_v4.ensures.bits
    c.in_ok-insert-in-V4.ensures.updates a i
    ∙ ap (λ x. is_owner c.args.self.now a i || (same_address x a && (c.args.place == i))) (sym c.in-V4.is)

pub returns-in_ok-insert-in-V6-clause-ok : goal.returns-in_ok-insert-in-V6-clause-ok
returns-in_ok-insert-in-V6-clause-ok c = λ a i.
    added_v6 c.args.self.now c.insert-in-V6.new.self c.in-V6.address c.bits_v6.result c.args.place c.bits_v6.ensures.bits
    c.in_ok-insert-in-V6.ensures.updates a i
    ∙ ap (λ x. is_owner c.args.self.now a i || (same_address x a && (c.args.place == i))) (sym c.in-V6.is)
