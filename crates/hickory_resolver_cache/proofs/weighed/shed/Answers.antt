use Rattle.std.proofs.Common.{◌∙◌, sym, subst, arith}
use Rattle.hickory_resolver_cache.specs.Turns.{IsFirstOther, entries_of}
use Rattle.hickory_resolver_cache.proofs.Shedding.{fits-room, length-put, lighter, other-some, put-left, same-room, shed-done, shorter, taken-other}
use Rattle.hickory_resolver_cache.proofs.weighed.shed.Goals as goal

pub unwrap-turn-requires : goal.unwrap-turn-requires
unwrap-turn-requires g c =
    let own = c.args.own in
    let ps = c.loop-own.index.entries in
    let h = c.loop-own.invariant.put c.requires.put.0 c.requires.put.1 in
    let none = sym (fits-room c.args.capacity c.args.room c.loop-own.left ps (entries_of ps own.1) (length-put own c.requires.put.0 ps c.loop-own.order h) c.loop-own.invariant.held) ∙ sym c.fits.ensures ∙ c.loop-own-test.true in
    other-some own c.requires.put.0 ps c.loop-own.order h c.args.capacity c.args.room c.requires.some none c.first_other.result c.first_other.ensures

pub take_out-left-requires-clause-taken : goal.take_out-left-requires-clause-taken
take_out-left-requires-clause-taken g c =
    let own = c.args.own in
    let ps = c.loop-own.index.entries in
    let h = c.loop-own.invariant.put c.requires.put.0 c.requires.put.1 in
    let first = subst (IsFirstOther own c.loop-own.order) c.unwrap-turn.ensures c.first_other.ensures in
    taken-other own c.requires.put.0 ps c.loop-own.order h c.unwrap-turn.result first

pub overflow_sub-left : goal.overflow_sub-left
overflow_sub-left g c =
    let own = c.args.own in
    let ps = c.loop-own.index.entries in
    let h = c.loop-own.invariant.put c.requires.put.0 c.requires.put.1 in
    let first = subst (IsFirstOther own c.loop-own.order) c.unwrap-turn.ensures c.first_other.ensures in
    let less = lighter own c.requires.put.0 ps c.take_out-left.new.index.entries c.loop-own.order c.take_out-left.new.order c.unwrap-turn.result h first c.take_out-left.ensures.gone c.take_out-left.ensures.turn_gone in
    let held = c.loop-own.invariant.held in
    let gone = c.take_out-left.ensures.weight in
    omega (arith, less, held, gone)

pub loop-own-smaller : goal.loop-own-smaller
loop-own-smaller g c =
    let own = c.args.own in
    let ps = c.loop-own.index.entries in
    let h = c.loop-own.invariant.put c.requires.put.0 c.requires.put.1 in
    let first = subst (IsFirstOther own c.loop-own.order) c.unwrap-turn.ensures c.first_other.ensures in
    let less = shorter own c.requires.put.0 ps c.loop-own.order h c.unwrap-turn.result first c.take_out-left.new.index.entries c.take_out-left.new.order c.take_out-left.ensures.gone c.take_out-left.ensures.turn_gone in
    omega (arith, less)

pub loop-own-preserved : goal.loop-own-preserved
loop-own-preserved g c =
    let own = c.args.own in
    let ps = c.loop-own.index.entries in
    let rs = c.take_out-left.new.index.entries in
    let old = c.loop-own.order in
    let new = c.take_out-left.new.order in
    let t = c.unwrap-turn.result in
    let first = subst (IsFirstOther own old) c.unwrap-turn.ensures c.first_other.ensures in
    let h = c.loop-own.invariant.put c.requires.put.0 c.requires.put.1 in
    let none = sym (fits-room c.args.capacity c.args.room c.loop-own.left ps (entries_of ps own.1) (length-put own c.requires.put.0 ps old h) c.loop-own.invariant.held) ∙ sym c.fits.ensures ∙ c.loop-own-test.true in
    record {
      put = λ p start. put-left own p ps old (c.loop-own.invariant.put p start) t first rs new c.take_out-left.ensures.gone c.take_out-left.ensures.turn_gone;
      held =
          let less = lighter own c.requires.put.0 ps rs old new t h first c.take_out-left.ensures.gone c.take_out-left.ensures.turn_gone in
          let held = c.loop-own.invariant.held in
          let gone = c.take_out-left.ensures.weight in
          omega (arith, less, held, gone);
      same = same-room own c.requires.put.0 ps rs old new t h first c.take_out-left.ensures.gone c.take_out-left.ensures.turn_gone c.args.capacity c.args.room none ∙ c.loop-own.invariant.same;
    }

pub returns-clause-shed : goal.returns-clause-shed
returns-clause-shed g c =
    let h = c.loop-own.invariant.put c.requires.put.0 c.requires.put.1 in
    shed-done c.args.own c.requires.put.0 c.args.index.now.entries c.loop-own.index.entries c.loop-own.order h c.args.capacity c.args.room c.loop-own.left c.loop-own.invariant.held (sym c.fits.ensures ∙ c.loop-own-test.false) c.loop-own.invariant.same
