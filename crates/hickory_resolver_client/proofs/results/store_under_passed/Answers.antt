use Rattle.std.proofs.Common.{◌∙◌, min, ap, refl}
use Rattle.hickory_resolver_model.specs.Cache.{store_until}
use Rattle.hickory_resolver_model.specs.Hops.{PassedValue, as_outcome}
use Rattle.hickory_resolver_client.proofs.PassedStores.{stored_lower, cut_before_last, on_any_err}
use Rattle.hickory_resolver_client.proofs.results.store_under_passed.Goals as goal

pub loop-last-preserved : goal.loop-last-preserved
loop-last-preserved g c =
    stored_lower c.args.now c.args.reply.now c.loop-last.limit _ _ _ _ _ c.in-Some.last c.in_ok-outcome.outcome _ _ _ (c.min-limit.ensures ∙ ap (λ (p : PassedValue). min p.limit c.loop-last.limit) c.last.view_is) c.in-Some.ensures.items
    (c.in_ok-outcome.ensures.ok ∙ ap (λ (p : PassedValue). as_outcome p.query c.args.reply.now) c.last.view_is) c.loop-last.invariant
    (c.in_ok-insert_until.ensures.ok ∙ ap (λ (p : PassedValue). store_until c.loop-last.cache p.query c.in_ok-outcome.outcome c.args.now c.min-limit.result) c.last.view_is)

pub returns-in_err-outcome-clause-err : goal.returns-in_err-outcome-clause-err
returns-in_err-outcome-clause-err c d =
    on_any_err d.from_residual.result
    (cut_before_last d.args.now d.args.reply.now d.loop-last.limit d.args.limit _ _ d.args.passed.items d.in-Some.last d.args.cache.now d.loop-last.cache d.loop-last.cache d.in-Some.ensures.items d.loop-last.invariant refl)

pub returns-in_err-insert_until-clause-err : goal.returns-in_err-insert_until-clause-err
returns-in_err-insert_until-clause-err c d =
    on_any_err d.from_residual-in_err-insert_until.result
    (cut_before_last d.args.now d.args.reply.now d.loop-last.limit d.args.limit _ _ d.args.passed.items d.in-Some.last d.args.cache.now d.loop-last.cache d.insert_until.new.self d.in-Some.ensures.items d.loop-last.invariant d.in_err-insert_until.ensures.unchanged)
