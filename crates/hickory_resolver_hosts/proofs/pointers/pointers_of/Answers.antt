use Rattle.std.proofs.Common.{◌++◌, ap, ◌∙◌}
use Rattle.std.specs.List.{filter_map}
use Rattle.hickory_resolver_hosts.specs.Index.{owners_below}
use Rattle.hickory_resolver_hosts.specs.HostsTable.{hosts_of, pointer_at}
use Rattle.hickory_resolver_hosts.proofs.IndexChanges.{from_least}
use Rattle.hickory_resolver_hosts.proofs.InOrder.{turn_some, turn_none, pointed, not_pointed}
use Rattle.hickory_resolver_hosts.proofs.pointers.pointers_of.Goals as goal

pub range-pair-items-requires : goal.range-pair-items-requires
range-pair-items-requires g c = from_least g.met.B.Ord.total c.args.bits c.len.result

pub loop-pair-init : goal.loop-pair-init
loop-pair-init g c =
    let es = c.args.names.now.entries in
    ap (λ rs. rs ++ filter_map (λ q. pointer_at c.args.owner.now (hosts_of es) q.1) c.into_iter-pair-iterator.result)
    c.new-records.ensures.items
    ∙ ap (filter_map (λ q. pointer_at c.args.owner.now (hosts_of es) q.1))
    (c.into_iter-pair-iterator.ensures.into_iter_gives ∙ c.range-pair-items.ensures.between tt
    ∙ ap (owners_below g.B.Ord.cmp c.args.owners.now c.args.bits) c.len.ensures.len)

pub loop-pair-preserved-in_ok-push : goal.loop-pair-preserved-in_ok-push
loop-pair-preserved-in_ok-push g c =
    let es = c.args.names.now.entries in
    let place = c.in-Some.pair.now.1 in
    turn_some (λ q. pointer_at c.args.owner.now (hosts_of es) q.1) c.loop-pair.records.items c.push.new.self.items _
    c.loop-pair.pair-iterator c.next.new.self c.in-Some.pair.now c.in_ok-pointer_record.field-0 c.in-Some.ensures.steps
    (pointed c.args.owner.now c.in-Some-get_index.name.now c.in-Some-get_index.field-0-1.now es place
    c.in_ok-pointer_record.field-0 c.in-Some-get_index.ensures.entry c.in_ok-pointer_record.ensures.ok)
    c.in_ok-push.ensures.items c.loop-pair.invariant

pub loop-pair-preserved : goal.loop-pair-preserved
loop-pair-preserved g c =
    let es = c.args.names.now.entries in
    turn_none (λ q. pointer_at c.args.owner.now (hosts_of es) q.1) c.loop-pair.records.items _ c.loop-pair.pair-iterator
    c.next.new.self c.in-Some.pair.now c.in-Some.ensures.steps
    (not_pointed c.args.owner.now es c.in-Some.pair.now.1 c.in_default.ensures.entry) c.loop-pair.invariant
