use Rattle.std.proofs.Common.{◌∙◌, IfOk, ap, subst}
use Rattle.hickory_resolver.specs.client.waiting.Progress.TheVariants.{Done, Waiting}
use Rattle.hickory_resolver_model.specs.Client.{ClientValue}
use Rattle.hickory_resolver_model.specs.Resolver.{settings}
use Rattle.conversation.specs.State.{begun_of, requests_of}
use Rattle.conversation.specs.Telling.{IsBlock}
use Rattle.conversation.proofs.Told.{told_as, told_done, told_waits}
use Rattle.conversation.proofs.requests.settle.Goals as goal

pub returns-in-Waiting : goal.returns-in-Waiting
returns-in-Waiting c =
    let begun = begun_of c.args.begun in
    let s = settings c.args.resolver.now in
    let cache = c.args.resolver.now.client.cache in
    let before = requests_of c.args.requests.now.entries in
    let after = requests_of c.wait.new.requests.entries in
    told_as c.args.mark.now s begun c.args.progress (Waiting c.in-Waiting.waiting) cache c.wait.result before after c.in-Waiting.is
    (told_waits c.args.mark.now s begun c.in-Waiting.waiting cache c.wait.result c.args.requests.now.entries c.wait.new.requests.entries c.request_options-options.result c.request_options-options.ensures c.wait.ensures.told c.wait.ensures.kept c.wait.ensures.unchanged)

pub returns-in-Done : goal.returns-in-Done
returns-in-Done c =
    let begun = begun_of c.args.begun in
    let cache = c.args.resolver.now.client.cache in
    let there = c.cache-cache.ensures ∙ ap (λ (x : ClientValue _). x.cache) c.client.ensures in
    let told = subst (λ k. IfOk c.finish.result (IsBlock c.args.mark.now begun k c.in-Done.found)) there c.finish.ensures.told in
    told_as c.args.mark.now (settings c.args.resolver.now) begun c.args.progress (Done c.in-Done.found) cache c.finish.result (requests_of c.args.requests.now.entries) (requests_of c.finish.new.requests.entries) c.in-Done.is
    (told_done c.args.mark.now (settings c.args.resolver.now) begun c.in-Done.found cache c.finish.result (requests_of c.args.requests.now.entries) (requests_of c.finish.new.requests.entries) told c.finish.ensures.forgotten)
