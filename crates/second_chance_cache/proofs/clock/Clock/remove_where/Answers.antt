use Rattle.std.proofs.Common.{◌≡◌, ◌<◌, ℕ, Bool, List, ◌∙◌, arith}
use Rattle.std.specs.Fn.{FnReturnsAt}
use Rattle.second_chance_cache.proofs.Sieves.{sieving-ended, sieving-none, sieving-step}
use Rattle.second_chance_cache.proofs.clock.Clock.remove_where.Goals as goal

pub loop-unseen-init : goal.loop-unseen-init
loop-unseen-init g c =
    let s = c.args.self.now.slots in
    record {
      sound = c.requires.sound;
      sieving = sieving-none (FnReturnsAt {F = g.row.F.Denot} {T = List ℕ} {R = Bool} g.F.Fn c.args.is_gone.now) s.items
          c.len-unseen.result (c.len-unseen.ensures ∙ s.ok.0);
    }

pub loop-unseen-preserved : goal.loop-unseen-preserved
loop-unseen-preserved g c =
    let left = c.loop-unseen.unseen in
    let some : 0 < left = omega (arith, c.loop-unseen-test.true) in
    record {
      sound = c.sieve_front.ensures.sound;
      sieving = sieving-step (FnReturnsAt {F = g.row.F.Denot} {T = List ℕ} {R = Bool} g.F.Fn c.args.is_gone.now)
          c.args.self.now.slots.items c.loop-unseen.self.slots.items c.sieve_front.new.self.slots.items left some
          c.loop-unseen.invariant.sieving c.sieve_front.ensures.slots;
    }

pub returns-clause-left : goal.returns-clause-left
returns-clause-left g c =
    let left = c.loop-unseen.unseen in
    let none : left ≡ 0 = omega (arith, c.loop-unseen-test.false) in
    sieving-ended (FnReturnsAt {F = g.row.F.Denot} {T = List ℕ} {R = Bool} g.F.Fn c.args.is_gone.now)
    c.args.self.now.slots.items c.loop-unseen.self.slots.items left c.loop-unseen.invariant.sieving none
