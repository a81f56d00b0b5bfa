use Rattle.std.proofs.Common.{◌≡◌, ◌<◌, ◌-◌, ℕ, List, length, ◌∙◌, ap, arith}
use Rattle.std.specs.Prelude.{Option}
use Rattle.second_chance_cache.specs.SecondChance.{Entry}
use Rattle.second_chance_cache.specs.Clock.{live}
use Rattle.second_chance_cache.proofs.Sound.{keeps-both, keeps-same}
use Rattle.second_chance_cache.proofs.Sweeps.{live-turns, turns, turns-step}
use Rattle.second_chance_cache.proofs.clock.Clock.turn_all.Goals as goal

pub loop-left-init : goal.loop-left-init
loop-left-init g c =
    let s = c.args.self.now in
    let counted : c.len-left.result ≡ length s.slots.items = c.len-left.ensures ∙ s.slots.ok.0 in
    record {
      sound = c.requires;
      room = keeps-same s;
      entries = ap (λ (n : ℕ). live (turns n s.slots.items)) counted ∙ live-turns s.slots.items;
    }

pub loop-left-preserved : goal.loop-left-preserved
loop-left-preserved g c =
    let left = c.loop-left.left in
    let s = c.loop-left.self.slots.items in
    let some : 0 < left = omega (arith, c.loop-left-test.true) in
    record {
      sound = c.turn.ensures.sound;
      room = keeps-both c.args.self.now c.loop-left.self c.turn.new.self c.loop-left.invariant.room c.turn.ensures.room;
      entries = ap (λ (l : List (Option (Entry g.row.V.Denot))). live (turns (left - 1) l)) c.turn.ensures.slots
          ∙ turns-step left s some
          ∙ c.loop-left.invariant.entries;
    }
