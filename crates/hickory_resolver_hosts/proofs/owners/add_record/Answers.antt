use Rattle.std.proofs.Common.{◌||◌, ◌&&◌, ◌==◌, sym, ap, ◌∙◌}
use Rattle.hickory_resolver_hosts.specs.Index.{is_among, is_owner, same_address}
use Rattle.hickory_resolver_hosts.proofs.GivenAddresses.{apart_alike, noted, not_noted, pushed, restored}
use Rattle.hickory_resolver_hosts.proofs.Bits.{same_address_data}
use Rattle.hickory_resolver_hosts.proofs.owners.add_record.Goals.{else-branch-via-then-branch+else-is_err}
use Rattle.hickory_resolver_hosts.proofs.owners.add_record.Goals.{else-branch-via-else-branch}
use Rattle.hickory_resolver_hosts.proofs.owners.add_record.Goals as goal

pub returns-then-is_err-clause-err : goal.returns-then-is_err-clause-err
returns-then-is_err-clause-err c = λ a is i.
    restored c.args.owners.now c.add.new.self c.remove.new.self (same_address c.in-Some.address a) c.args.place a
    i
    (apart_alike c.args.owners.now c.in-Some.address a c.args.place (sym c.if-branch.true ∙ c.in_ok-add.ensures.added))
    (c.in_ok-add.ensures.ok a i) (c.remove.ensures.removed a i)

pub returns-clause-added : goal.returns-clause-added
returns-clause-added c = λ a is. elim c.else-branch.branch [
  | else-branch-via-then-branch+else-is_err w ↦
      ap (λ v. is_among a v.items) w.added-is
      ∙ ap (is_among a)
      (pushed w.push.result _ _ c.in-Some.address (sym w.is_err.ensures.value ∙ w.if-is_err.false) w.push.ensures.items)
      ∙ noted c.args.owners.now c.in-Some.address a c.args.place _ c.args.added.now.items
      (same_address_data c.in-Some.address a c.add.ensures.address is ∙ c.in-Some.ensures a)
      (sym w.if-branch.true ∙ c.in_ok-add.ensures.added)
  | else-branch-via-else-branch w ↦
      ap (λ v. is_among a v.items) w.added-is
      ∙ not_noted c.args.owners.now c.in-Some.address a c.args.place _ c.args.added.now.items
      (same_address_data c.in-Some.address a c.add.ensures.address is ∙ c.in-Some.ensures a)
      (sym w.if-branch.false ∙ c.in_ok-add.ensures.added)
]

pub returns-clause-ok : goal.returns-clause-ok
returns-clause-ok c = λ a is i.
    c.in_ok-add.ensures.ok a i
    ∙ ap (λ g. is_owner c.args.owners.now a i || (g && (c.args.place == i)))
    (same_address_data c.in-Some.address a c.add.ensures.address is ∙ c.in-Some.ensures a)
