use Rattle.std.proofs.Common.{None, Some, ap, refl}
use Rattle.std.proofs.lemmas.Result.{on_ok_weaker}
use Rattle.hickory_resolver_cache.specs.Turns.{pair_of}
use Rattle.hickory_resolver_cache.proofs.Store.{makes_room-own}
use Rattle.hickory_resolver_cache.proofs.Stored.{entries-stored, frees-own, kept-stored, makes_room-leaving, turn-given}
use Rattle.hickory_resolver_cache.proofs.turns.store.Goals as goal

pub add-requires-clause-new : goal.add-requires-clause-new
add-requires-clause-new g c =
    turn-given c.entry.inside.query c.args.entry.query c.args.index.now.entries c.turn_of.result None (ap (λ x. x.query) c.entry.view_is) c.in_default.is c.turn_of.ensures.found

pub returns-in_default-clause-kept : goal.returns-in_default-clause-kept
returns-in_default-clause-kept g c =
    let ps = c.args.index.now.entries in
    let none = turn-given c.entry.inside.query c.args.entry.query ps c.turn_of.result None (ap (λ x. x.query) c.entry.view_is) c.in_default.is c.turn_of.ensures.found in
    let room = makes_room-leaving c.args.capacity c.args.number c.args.entry.query ps c.args.order.now c.leaving-turn.result c.requires.kept.numbers c.requires.kept.placed c.turn_of.ensures.unique c.requires.some none c.leaving-turn.ensures in
    on_ok_weaker c.add.result
    (λ s. kept-stored c.args.capacity c.args.number ps c.add.new.index.entries (pair_of c.args.entry c.args.number 0) c.args.order.now c.add.new.order c.leaving-turn.result c.requires.kept refl room s)
    c.add.ensures.ok

pub returns-in_default-clause-entries : goal.returns-in_default-clause-entries
returns-in_default-clause-entries g c =
    let ps = c.args.index.now.entries in
    let none = turn-given c.entry.inside.query c.args.entry.query ps c.turn_of.result None (ap (λ x. x.query) c.entry.view_is) c.in_default.is c.turn_of.ensures.found in
    let room = makes_room-leaving c.args.capacity c.args.number c.args.entry.query ps c.args.order.now c.leaving-turn.result c.requires.kept.numbers c.requires.kept.placed c.turn_of.ensures.unique c.requires.some none c.leaving-turn.ensures in
    on_ok_weaker c.add.result
    (λ s. entries-stored c.args.capacity c.args.number ps c.add.new.index.entries (pair_of c.args.entry c.args.number 0) c.args.order.now c.add.new.order c.leaving-turn.result c.requires.kept refl room s c.requires.some)
    c.add.ensures.ok

pub exchange-requires-clause-turn : goal.exchange-requires-clause-turn
exchange-requires-clause-turn g c =
    let own = turn-given c.entry.inside.query c.args.entry.query c.args.index.now.entries c.turn_of.result (Some c.in-Some.turn) (ap (λ x. x.query) c.entry.view_is) c.in-Some.is c.turn_of.ensures.found in
    (own.0, own.1)

pub exchange-requires-clause-frees : goal.exchange-requires-clause-frees
exchange-requires-clause-frees g c =
    let ps = c.args.index.now.entries in
    let own = turn-given c.entry.inside.query c.args.entry.query ps c.turn_of.result (Some c.in-Some.turn) (ap (λ x. x.query) c.entry.view_is) c.in-Some.is c.turn_of.ensures.found in
    frees-own c.args.number c.args.entry.query ps c.in-Some.turn c.requires.kept.numbers c.turn_of.ensures.unique own

pub returns-clause-kept : goal.returns-clause-kept
returns-clause-kept g c =
    let ps = c.args.index.now.entries in
    let own = turn-given c.entry.inside.query c.args.entry.query ps c.turn_of.result (Some c.in-Some.turn) (ap (λ x. x.query) c.entry.view_is) c.in-Some.is c.turn_of.ensures.found in
    let room = makes_room-own c.args.number ps c.requires.kept.numbers c.turn_of.ensures.unique c.args.capacity c.args.entry.query c.in-Some.turn own in
    kept-stored c.args.capacity c.args.number ps c.exchange.new.index.entries (pair_of c.args.entry c.args.number 0) c.args.order.now c.exchange.new.order (Some c.in-Some.turn) c.requires.kept refl room c.in_ok-exchange.ensures.ok

pub returns-clause-entries : goal.returns-clause-entries
returns-clause-entries g c =
    let ps = c.args.index.now.entries in
    let own = turn-given c.entry.inside.query c.args.entry.query ps c.turn_of.result (Some c.in-Some.turn) (ap (λ x. x.query) c.entry.view_is) c.in-Some.is c.turn_of.ensures.found in
    let room = makes_room-own c.args.number ps c.requires.kept.numbers c.turn_of.ensures.unique c.args.capacity c.args.entry.query c.in-Some.turn own in
    entries-stored c.args.capacity c.args.number ps c.exchange.new.index.entries (pair_of c.args.entry c.args.number 0) c.args.order.now c.exchange.new.order (Some c.in-Some.turn) c.requires.kept refl room c.in_ok-exchange.ensures.ok c.requires.some
