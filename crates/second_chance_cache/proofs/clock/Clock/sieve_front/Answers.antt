use Rattle.std.proofs.Common.{ℕ, Bool, List, subst}
use Rattle.std.specs.Fn.{FnReturnsAt}
use Rattle.second_chance_cache.specs.Clock.{FrontAnswers}
use Rattle.second_chance_cache.proofs.Sieves.{sieved-dropped, sieved-turned}
use Rattle.second_chance_cache.proofs.clock.Clock.sieve_front.Goals as goal

pub returns-then-front_is_gone-clause-slots : goal.returns-then-front_is_gone-clause-slots
returns-then-front_is_gone-clause-slots g c =
    let answers : List ℕ → Bool → Type 0 = λ key b. FnReturnsAt {F = g.row.F.Denot} {T = List ℕ} {R = Bool} g.F.Fn c.args.is_gone.now key b in
    let slots = c.args.self.now.slots.items in
    rw c.drop_front.ensures.slots
    (sieved-dropped answers slots
    (subst (λ (b : Bool). FrontAnswers answers slots b) c.if-front_is_gone.true c.front_is_gone.ensures))

pub returns-else-front_is_gone-clause-slots : goal.returns-else-front_is_gone-clause-slots
returns-else-front_is_gone-clause-slots g c =
    let answers : List ℕ → Bool → Type 0 = λ key b. FnReturnsAt {F = g.row.F.Denot} {T = List ℕ} {R = Bool} g.F.Fn c.args.is_gone.now key b in
    let slots = c.args.self.now.slots.items in
    rw c.turn.ensures.slots
    (sieved-turned answers slots
    (subst (λ (b : Bool). FrontAnswers answers slots b) c.if-front_is_gone.false c.front_is_gone.ensures))
