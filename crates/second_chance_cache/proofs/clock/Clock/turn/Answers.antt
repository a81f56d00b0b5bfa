use Rattle.std.proofs.Common.{◌≡◌, List, ◌∷◌, sym, ◌∙◌, ap, subst, arith}
use Rattle.std.specs.Prelude.{Option, None, Some}
use Rattle.second_chance_cache.specs.SecondChance.{Entry}
use Rattle.second_chance_cache.specs.Clock.{AreSound, turned, number_in}
use Rattle.second_chance_cache.proofs.Sound.{sound-hole}
use Rattle.second_chance_cache.proofs.clock.Clock.turn.Goals as goal

pub returns-in-Some-Some : goal.returns-in-Some-Some
returns-in-Some-Some g c =
    let old = c.args.self.now.slots in
    let rest = c.pop_front.new.self in
    let were : old.items ≡ Some c.in-Some-Some.kept ∷ rest.items =
    c.in-Some-Some.ensures.items
    ∙ ap (λ (slot : Option (Entry g.row.V.Denot)). slot ∷ rest.items) c.in-Some-Some.field-0-is in
    record {
      sound = c.put_back.ensures.sound;
      room = record {
        len = omega (arith, c.put_back.ensures.len, c.in-Some-Some.ensures.len);
        slots = c.put_back.ensures.capacity ∙ c.in-Some-Some.ensures.capacity;
        index = omega (arith, c.put_back.ensures.index);
      };
      slots = c.put_back.ensures.slots ∙ sym (ap turned were);
    }

pub returns-in-Some-None : goal.returns-in-Some-None
returns-in-Some-None g c =
    let s = c.args.self.now in
    let rest = c.pop_front.new.self in
    let were : s.slots.items ≡ None ∷ rest.items =
    c.in-Some-None.ensures.items
    ∙ ap (λ (slot : Option (Entry g.row.V.Denot)). slot ∷ rest.items) c.in-Some-None.field-0-is in
    record {
      sound = sound-hole (λ k. number_in k s.index) s.first s.count s.octets rest.items
          (subst (λ (l : List (Option (Entry g.row.V.Denot))).
          AreSound (λ k. number_in k s.index) l s.first s.count s.octets) were c.requires);
      room = record {
        len = omega (arith, c.in-Some-None.ensures.len);
        slots = c.in-Some-None.ensures.capacity;
        index = omega arith;
      };
      slots = sym (ap turned were);
    }
