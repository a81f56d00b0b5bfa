use Rattle.std.proofs.Common.{◌&&◌, ◌==◌, not, ap, sym, ◌∙◌}
use Rattle.hickory_proto_core.specs.Records.{data_of_address}
use Rattle.hickory_resolver_hosts.specs.Index.{is_among, is_owner}
use Rattle.hickory_resolver_hosts.specs.HostsTable.{has_address_at, is_given}
use Rattle.hickory_resolver_hosts.proofs.GivenAddresses.{err_from, ok_from, restored}
use Rattle.hickory_resolver_hosts.proofs.Places.{indexed_after, new_is_apart}
use Rattle.hickory_resolver_hosts.proofs.table.join.Goals.{then-is_err, else-is_err}
use Rattle.hickory_resolver_hosts.proofs.table.join.Goals as goal

pub returns-clause-indexed : goal.returns-clause-indexed
returns-clause-indexed g c = λ a is i. elim c.if-is_err.branch [
  | then-is_err w ↦
      let same = err_from _ (sym c.is_err.ensures.value ∙ w.if-is_err.true) c.add-joined.ensures.unchanged in
      ap (λ m. is_owner m a i) w.owners-is
      ∙ restored c.args.owners.now c.add_owners.new.owners w.remove_owners.new.owners (is_among a c.in_ok-added.added.items)
      c.args.place a i
      (new_is_apart c.args.owners.now c.args.place c.in_ok-added.added.items a _ (c.in_ok-added.ensures.added a is))
      (c.in_ok-added.ensures.ok a is i)
      (w.remove_owners.ensures a i
      ∙ ap (λ xs. is_owner c.add_owners.new.owners a i && not (is_among a xs && (c.args.place == i)))
      w.deref.ensures.value)
      ∙ c.requires.indexed a is i ∙ ap (λ hosts. has_address_at hosts (data_of_address a) i) (sym same)
  | else-is_err w ↦
      let after = ok_from _ (sym c.is_err.ensures.value ∙ w.if-is_err.false) c.add-joined.ensures.ok in
      ap (λ m. is_owner m a i) w.owners-is
      ∙ indexed_after _ _ c.args.owners.now c.add_owners.new.owners c.args.name c.args.record_type c.args.lookup c.args.now
      c.args.place c.in_ok-added.added.items c.requires.indexed
      c.requires.place after c.in_ok-added.ensures.ok (λ b there. c.in_ok-added.ensures.added b there
      ∙ ap (λ rs. is_given c.args.record_type rs b && not (is_owner c.args.owners.now b c.args.place))
      c.answers.ensures) a is i
]
