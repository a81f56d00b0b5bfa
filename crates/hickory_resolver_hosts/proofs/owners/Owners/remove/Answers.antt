use Rattle.std.proofs.Common.{not, ◌&&◌, ◌==◌, sym, ap, ◌∙◌}
use Rattle.hickory_resolver_hosts.specs.Index.{is_owner, same_address}
use Rattle.hickory_resolver_hosts.proofs.IndexChanges.{removed_v4, removed_v6}
use Rattle.hickory_resolver_hosts.proofs.owners.Owners.remove.Goals as goal

pub returns-in-V4-clause-removed : goal.returns-in-V4-clause-removed
returns-in-V4-clause-removed c = λ a i.
    removed_v4 c.args.self.now c.remove.new.self c.in-V4.address c.bits_v4.result c.args.place c.bits_v4.ensures.bits
    c.remove.ensures.updates a i
    ∙ ap (λ x. is_owner c.args.self.now a i && not (same_address x a && (c.args.place == i))) (sym c.in-V4.is)

pub returns-in-V6-clause-removed : goal.returns-in-V6-clause-removed
returns-in-V6-clause-removed c = λ a i.
    removed_v6 c.args.self.now c.remove-in-V6.new.self c.in-V6.address c.bits_v6.result c.args.place c.bits_v6.ensures.bits
    c.remove-in-V6.ensures.updates a i
    ∙ ap (λ x. is_owner c.args.self.now a i && not (same_address x a && (c.args.place == i))) (sym c.in-V6.is)
