use Rattle.std.proofs.Common.{rules, ◌≡◌, false}
use Rattle.hickory_resolver_model.specs.Hops.{is_kept}
use Rattle.hickory_resolver_client.proofs.PassedStores.{finished_failure}
use Rattle.hickory_resolver_client.proofs.client_state.ClientState.finish.Goals as goal

pub returns-then-not-is_kept-clause-finished : goal.returns-then-not-is_kept-clause-finished
returns-then-not-is_kept-clause-finished g c =
    let none : is_kept c.args.reply ≡ false = search rules in
    finished_failure c.args.passed.items c.args.reply c.args.limit c.args.last_asked c.args.now c.args.self.now.cache none
