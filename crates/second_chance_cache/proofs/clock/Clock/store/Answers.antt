use Rattle.std.proofs.Common.{List, [], ◌∷◌, ◌++◌, sym, ◌∙◌, ap, subst}
use Rattle.std.specs.Prelude.{Option}
use Rattle.second_chance_cache.specs.SecondChance.{Entry, IsCache, make_room, without}
use Rattle.second_chance_cache.specs.Clock.{live}
use Rattle.second_chance_cache.proofs.clock.Clock.store.Goals as goal

pub put-requires : goal.put-requires
put-requires g c =
    let b = c.args.bounds.now in
    record {
      kept = record {
        sound = c.reserve_for.ensures.sound;
        within = subst
            (λ (slots : List (Option (Entry g.row.V.Denot))). IsCache (record { bounds = b; entries = live slots }))
            (sym c.reserve_for.ensures.slots) c.requires.kept.within;
      };
      light = c.requires.light;
      room = c.in-Ok.ensures.room;
      key = c.in-Ok.ensures.key ∙ c.key.ensures;
    }

pub returns-in-Ok : goal.returns-in-Ok
returns-in-Ok g c =
    let b = c.args.bounds.now in
    let e = c.args.kept in
    record {
      kept = c.put.ensures.kept;
      ok = c.put.ensures.entries
          ∙ ap (λ (slots : List (Option (Entry g.row.V.Denot))).
          make_room b e.weight c.args.now (without e.key (live slots)) ++ e ∷ []) c.reserve_for.ensures.slots;
      err = tt;
    }

pub returns-in-Err : goal.returns-in-Err
returns-in-Err g c =
    let b = c.args.bounds.now in
    record {
      kept = record {
        sound = c.reserve_for.ensures.sound;
        within = subst
            (λ (slots : List (Option (Entry g.row.V.Denot))). IsCache (record { bounds = b; entries = live slots }))
            (sym c.reserve_for.ensures.slots) c.requires.kept.within;
      };
      ok = tt;
      err = ap (λ (slots : List (Option (Entry g.row.V.Denot))). live slots) c.reserve_for.ensures.slots;
    }
