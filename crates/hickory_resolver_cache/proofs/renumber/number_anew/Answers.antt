use Rattle.std.proofs.Common.{refl, arith}
use Rattle.hickory_resolver_cache.proofs.Renumbered.{anew-all, anew-length, anew-step}
use Rattle.hickory_resolver_cache.proofs.renumber.number_anew.Goals as goal

pub loop-i-init : goal.loop-i-init
loop-i-init g c = refl

pub index_mut-requires : goal.index_mut-requires
index_mut-requires g c =
    let ps = c.args.index.now.entries in
    let long = anew-length c.loop-i.i ps c.loop-i.index.entries (omega (arith, c.len-i-end.ensures.len)) c.loop-i.invariant in
    omega (arith, long, c.len-i-end.ensures.len)

pub loop-i-preserved : goal.loop-i-preserved
loop-i-preserved g c = anew-step c.loop-i.i c.args.index.now.entries c.loop-i.index.entries c.index_mut.result.now c.loop-i.invariant (omega (arith, c.len-i-end.ensures.len)) c.index_mut.ensures.value

pub returns : goal.returns
returns g c = anew-all c.loop-i.i c.len-i-end.result c.args.index.now.entries c.loop-i.index.entries c.loop-i.invariant c.len-i-end.ensures.len c.loop-i-test.false
