use Rattle.std.proofs.Common.{None, Some, ap, refl, arith}
use Rattle.hickory_resolver_cache.specs.Turns.{pair_of}
use Rattle.hickory_resolver_cache.proofs.PuttingIn.{others-weigh, others-without, put-stored}
use Rattle.hickory_resolver_cache.proofs.Stored.{frees-own, turn-given}
use Rattle.hickory_resolver_cache.proofs.weighed.put_in.Goals as goal

pub add-requires-clause-new : goal.add-requires-clause-new
add-requires-clause-new g c =
    turn-given c.entry.inside.query c.args.entry.query c.args.index.now.entries c.turn_of.result None (ap (λ x. x.query) c.entry.view_is) c.in_default.is c.turn_of.ensures.found

pub returns-in_default-clause-put : goal.returns-in_default-clause-put
returns-in_default-clause-put g c =
    put-stored c.args.number c.args.index.now.entries c.add.new.index.entries (pair_of c.args.entry c.args.number c.args.weight) c.args.order.now c.add.new.order None c.requires.numbers c.requires.placed refl c.in_ok-add.ensures.ok
    c.requires.each (record { weighs = c.requires.weight })

pub returns-in_default-clause-others : goal.returns-in_default-clause-others
returns-in_default-clause-others g c =
    let ps = c.args.index.now.entries in
    let none = turn-given c.entry.inside.query c.args.entry.query ps c.turn_of.result None (ap (λ x. x.query) c.entry.view_is) c.in_default.is c.turn_of.ensures.found in
    others-without c.args.number ps c.add.new.index.entries (pair_of c.args.entry c.args.number c.args.weight) c.args.order.now c.add.new.order None c.requires.numbers c.requires.placed refl c.in_ok-add.ensures.ok
    c.turn_of.ensures.unique c.args.entry.query none

pub returns-in_default-clause-held : goal.returns-in_default-clause-held
returns-in_default-clause-held g c =
    let weigh = others-weigh c.args.number c.args.index.now.entries c.add.new.index.entries (pair_of c.args.entry c.args.number c.args.weight) c.args.order.now c.add.new.order None c.requires.numbers c.requires.placed refl c.in_ok-add.ensures.ok c.requires.each in
    let held = c.requires.held in
    omega (arith, weigh, held)

pub exchange-requires-clause-turn : goal.exchange-requires-clause-turn
exchange-requires-clause-turn g c =
    let own = turn-given c.entry.inside.query c.args.entry.query c.args.index.now.entries c.turn_of.result (Some c.in-Some.turn) (ap (λ x. x.query) c.entry.view_is) c.in-Some.is c.turn_of.ensures.found in
    (own.0, own.1)

pub exchange-requires-clause-frees : goal.exchange-requires-clause-frees
exchange-requires-clause-frees g c =
    let ps = c.args.index.now.entries in
    let own = turn-given c.entry.inside.query c.args.entry.query ps c.turn_of.result (Some c.in-Some.turn) (ap (λ x. x.query) c.entry.view_is) c.in-Some.is c.turn_of.ensures.found in
    frees-own c.args.number c.args.entry.query ps c.in-Some.turn c.requires.numbers c.turn_of.ensures.unique own

pub overflow_sub-result : goal.overflow_sub-result
overflow_sub-result g c =
    let weigh = others-weigh c.args.number c.args.index.now.entries c.exchange.new.index.entries (pair_of c.args.entry c.args.number c.args.weight) c.args.order.now c.exchange.new.order (Some c.in-Some.turn) c.requires.numbers c.requires.placed refl c.in_ok-gone.ensures.ok c.requires.each in
    let held = c.requires.held in
    let gone = c.in_ok-gone.ensures.weight in
    omega (arith, weigh, held, gone)

pub returns-clause-put : goal.returns-clause-put
returns-clause-put g c =
    put-stored c.args.number c.args.index.now.entries c.exchange.new.index.entries (pair_of c.args.entry c.args.number c.args.weight) c.args.order.now c.exchange.new.order (Some c.in-Some.turn) c.requires.numbers c.requires.placed refl c.in_ok-gone.ensures.ok
    c.requires.each (record { weighs = c.requires.weight })

pub returns-clause-others : goal.returns-clause-others
returns-clause-others g c =
    let ps = c.args.index.now.entries in
    let own = turn-given c.entry.inside.query c.args.entry.query ps c.turn_of.result (Some c.in-Some.turn) (ap (λ x. x.query) c.entry.view_is) c.in-Some.is c.turn_of.ensures.found in
    others-without c.args.number ps c.exchange.new.index.entries (pair_of c.args.entry c.args.number c.args.weight) c.args.order.now c.exchange.new.order (Some c.in-Some.turn) c.requires.numbers c.requires.placed refl c.in_ok-gone.ensures.ok
    c.turn_of.ensures.unique c.args.entry.query own

pub returns-clause-held : goal.returns-clause-held
returns-clause-held g c =
    let weigh = others-weigh c.args.number c.args.index.now.entries c.exchange.new.index.entries (pair_of c.args.entry c.args.number c.args.weight) c.args.order.now c.exchange.new.order (Some c.in-Some.turn) c.requires.numbers c.requires.placed refl c.in_ok-gone.ensures.ok c.requires.each in
    let held = c.requires.held in
    let gone = c.in_ok-gone.ensures.weight in
    omega (arith, weigh, held, gone)
