use Rattle.std.proofs.Common.{◌≡◌, ℕ, List, [], ◌∷◌, ◌++◌, sym, ◌∙◌, ap, subst, arith}
use Rattle.second_chance_cache.specs.SecondChance.{Entry, IsCache, make_room, without}
use Rattle.second_chance_cache.specs.Clock.{live}
use Rattle.second_chance_cache.proofs.Bounded.{HasPlace, place-made, within-pushed}
use Rattle.second_chance_cache.proofs.Sound.{keeps-both, room-kept}
use Rattle.second_chance_cache.proofs.clock.Clock.put.Goals as goal

pub push-requires : goal.push-requires
push-requires g c =
    let old = c.args.self.now in
    let b = c.args.bounds.now in
    let e = c.args.kept in
    let taken = c.take_out.new.self in
    let made = c.make_room.new.self in
    let out : live taken.slots.items ≡ without e.key (live old.slots.items) =
    c.take_out.ensures.entries ∙ ap (λ (k : List ℕ). without k (live old.slots.items)) c.key.ensures in
    let are : live made.slots.items ≡ make_room b e.weight c.args.now (without e.key (live old.slots.items)) =
    c.make_room.ensures.entries
    ∙ ap (λ (w : ℕ). make_room b w c.args.now (live taken.slots.items)) c.weight.ensures
    ∙ ap (λ (l : List (Entry g.row.V.Denot)). make_room b e.weight c.args.now l) out in
    let place : HasPlace b e.weight e.key (live made.slots.items) =
    subst (λ (l : List (Entry g.row.V.Denot)). HasPlace b e.weight e.key l) (sym are)
    (place-made b e.key e.weight c.args.now (live old.slots.items) c.requires.kept.within c.requires.light) in
    record {
      sound = c.make_room.ensures.sound;
      room = room-kept old made c.requires.room
          (keeps-both old taken made c.take_out.ensures.room c.make_room.ensures.room);
      key = c.requires.key;
      new = place.absent;
      count = omega (arith, place.count, c.make_room.ensures.fits.0);
      octets = omega (arith, place.octets, c.make_room.ensures.fits.1);
    }

pub returns : goal.returns
returns g c =
    let old = c.args.self.now in
    let b = c.args.bounds.now in
    let e = c.args.kept in
    let taken = c.take_out.new.self in
    let made = c.make_room.new.self in
    let out : live taken.slots.items ≡ without e.key (live old.slots.items) =
    c.take_out.ensures.entries ∙ ap (λ (k : List ℕ). without k (live old.slots.items)) c.key.ensures in
    let are : live made.slots.items ≡ make_room b e.weight c.args.now (without e.key (live old.slots.items)) =
    c.make_room.ensures.entries
    ∙ ap (λ (w : ℕ). make_room b w c.args.now (live taken.slots.items)) c.weight.ensures
    ∙ ap (λ (l : List (Entry g.row.V.Denot)). make_room b e.weight c.args.now l) out in
    let place : HasPlace b e.weight e.key (live made.slots.items) =
    subst (λ (l : List (Entry g.row.V.Denot)). HasPlace b e.weight e.key l) (sym are)
    (place-made b e.key e.weight c.args.now (live old.slots.items) c.requires.kept.within c.requires.light) in
    record {
      kept = record {
        sound = c.push.ensures.sound;
        within = subst (λ (l : List (Entry g.row.V.Denot)). IsCache (record { bounds = b; entries = l }))
            (sym c.push.ensures.entries)
            (within-pushed b e (live made.slots.items) place);
      };
      entries = c.push.ensures.entries ∙ ap (λ (l : List (Entry g.row.V.Denot)). l ++ e ∷ []) are;
    }
