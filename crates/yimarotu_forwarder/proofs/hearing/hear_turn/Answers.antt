-- What was told takes its turn.
use Rattle.std.proofs.Common.{subst, Option, Some}
use Rattle.yimarotu_forwarder.specs.FetchTables.{fetches_of}
use Rattle.yimarotu_forwarder.specs.Fetches.{FetchesValue}
use Rattle.yimarotu_forwarder.specs.Hearing.{HearsAt}
use Rattle.yimarotu_forwarder.specs.declared.telling.Told.{Told}
use Rattle.yimarotu_forwarder.proofs.Turns.{with_turn}
use Rattle.yimarotu_forwarder.proofs.hearing.hear_turn.Goals as goal

-- src/hearing.rt
pub returns-in-Some-clause-ok : goal.returns-in-Some-clause-ok
returns-in-Some-clause-ok c =
    let mid : FetchesValue = fetches_of c.hear.new.fetches in
    let hears : HearsAt c.args.telling.now.over c.args.second c.args.key.now (Some c.in-Some.told)
    (fetches_of c.reserve_turn.new.self) mid =
    subst (λ (w : Option Told). HearsAt c.args.telling.now.over c.args.second c.args.key.now w
    (fetches_of c.reserve_turn.new.self) mid) c.in-Some.is c.in_ok-told.ensures.ok in
    with_turn c.args.telling.now.over c.args.second c.args.key.now c.in-Some.told (fetches_of c.args.fetches.now) mid
    (fetches_of c.take_turn.new.fetches)
    (subst (λ (x : FetchesValue). HearsAt c.args.telling.now.over c.args.second c.args.key.now (Some c.in-Some.told)
    x mid) c.reserve_turn.ensures.same hears)
    c.take_turn.ensures
