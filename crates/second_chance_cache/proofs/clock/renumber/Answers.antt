use Rattle.std.proofs.Common.{◌≡◌, ℕ, List, sym, ap, subst}
use Rattle.std.specs.Prelude.{Option, None, Some}
use Rattle.std.specs.Option.{is_some}
use Rattle.second_chance_cache.specs.Clock.{IsRenumbered, number_in}
use Rattle.second_chance_cache.proofs.Updated.{not_renumbered, renumbered}
use Rattle.second_chance_cache.proofs.clock.renumber.Goals as goal

pub returns-in-Some-clause-numbers : goal.returns-in-Some-clause-numbers
returns-in-Some-clause-numbers g c =
    let old = c.args.index.now in
    let key = c.of.result in
    let new = c.get_mut.follows.lender c.args.number in
    let there : number_in key old ≡ Some c.in-Some.held.now = sym c.in-Some.ensures.value in
    subst (λ (k : List ℕ). IsRenumbered k c.args.number old new) c.of.ensures
    (renumbered key c.args.number c.in-Some.held.now old new
    ((c.get_mut.follows.holds c.args.number).3 (ap (λ (o : Option ℕ). is_some o) there)) there)

pub returns-in-None-clause-numbers : goal.returns-in-None-clause-numbers
returns-in-None-clause-numbers g c =
    let old = c.args.index.now in
    let gone : number_in c.args.key.now old ≡ None =
    subst (λ (k : List ℕ). number_in k old ≡ None) c.of.ensures (sym c.in-None.ensures.value) in
    rw c.get_mut.follows.holds-at-none (not_renumbered c.args.key.now c.args.number old gone)
