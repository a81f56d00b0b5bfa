use Rattle.std.proofs.Common.{refl, subst, sym}
use Rattle.hickory_resolver_model.specs.Cache.{Entry}
use Rattle.hickory_resolver_cache.specs.Octets.{IsPutIn}
use Rattle.hickory_resolver_cache.specs.Turns.{Pair, Turn, entries_of, pair_of}
use Rattle.hickory_resolver_cache.proofs.WeighedStores.{entries-shed, weighed-shed}
use Rattle.hickory_resolver_cache.proofs.weighed.store_weighed.Goals as goal

pub returns-clause-entries : goal.returns-clause-entries
returns-clause-entries g c =
    let own : Turn = (c.entry.inside.valid_until, c.args.number) in
    let p : Pair = pair_of c.args.entry c.args.number c.args.weight in
    let put = c.shed-left.ensures.put p (subst (λ (e : Entry). IsPutIn (e.valid_until, c.args.number) p c.put_in.new.index.entries c.put_in.new.order) (sym c.entry.view_is) c.in_ok-others.ensures.put) in
    entries-shed own p c.put_in.new.index.entries c.shed-left.new.index.entries c.shed-left.new.order c.args.entry c.args.capacity c.args.octets.most c.args.weight put c.shed-left.ensures.shed c.requires.weight c.requires.light refl
    (entries_of c.args.index.now.entries c.args.number) c.requires.some c.in_ok-others.ensures.others

pub returns-clause-weighed : goal.returns-clause-weighed
returns-clause-weighed g c =
    let own : Turn = (c.entry.inside.valid_until, c.args.number) in
    let p : Pair = pair_of c.args.entry c.args.number c.args.weight in
    let put = c.shed-left.ensures.put p (subst (λ (e : Entry). IsPutIn (e.valid_until, c.args.number) p c.put_in.new.index.entries c.put_in.new.order) (sym c.entry.view_is) c.in_ok-others.ensures.put) in
    weighed-shed own p c.put_in.new.index.entries c.shed-left.new.index.entries c.shed-left.new.order c.args.entry c.args.capacity c.args.octets.most c.args.weight put c.shed-left.ensures.shed c.requires.weight c.requires.light refl
    c.shed-left.result c.shed-left.ensures.held
