use Rattle.std.specs.Prelude.{Some}
use Rattle.second_chance_cache.proofs.Results.{on_ok}
use Rattle.second_chance_cache.proofs.Updated.{updated}
use Rattle.second_chance_cache.proofs.clock.number_key.Goals as goal

pub returns : goal.returns
returns g c =
    updated c.args.key c.args.index.now c.insert.new.self (Some c.args.number)
    (on_ok c.insert.result (c.insert.ensures.succeeds c.requires) c.insert.ensures.updates)
