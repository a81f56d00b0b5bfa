use Rattle.std.proofs.Common.{sym, ◌∙◌}
use Rattle.hickory_resolver_hosts.proofs.GivenAddresses.{added_more, ok_from, owners_more}
use Rattle.hickory_resolver_hosts.proofs.owners.add_owners.Goals as goal

pub loop-entry-preserved : goal.loop-entry-preserved
loop-entry-preserved c =
    let noted = ok_from _ (sym c.is_err.ensures.value ∙ c.if-is_err.false) c.add_record.ensures.added in
    let told = ok_from _ (sym c.is_err.ensures.value ∙ c.if-is_err.false) c.add_record.ensures.ok in
    record {
      added = λ a is.
          added_more c.args.owners.now c.loop-entry.owners c.args.place c.args.record_type c.args.records.now
          c.loop-entry.entry-index _ c.entry-item.result c.loop-entry.added.items
          c.add_record.new.added.items a c.loop-entry-test.true c.entry-item.is (c.loop-entry.invariant.added a is)
          (c.loop-entry.invariant.owners a is c.args.place) (noted a is);
      owners = λ a is i.
          owners_more c.args.owners.now c.loop-entry.owners c.add_record.new.owners c.args.place _ c.loop-entry.added.items
          c.add_record.new.added.items a i
          (c.loop-entry.invariant.owners a is i) (noted a is) (told a is i);
    }
