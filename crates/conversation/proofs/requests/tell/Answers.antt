use Rattle.std.proofs.Common.{[], subst, sym}
use Rattle.hickory_resolver_model.specs.Resolver.{settings}
use Rattle.conversation.specs.Answers.{Tells}
use Rattle.conversation.specs.State.{begun_of, requests_of}
use Rattle.conversation.specs.Telling.{IsAnswerTold, came_of}
use Rattle.conversation.specs.declared.requests.Came.{Came}
use Rattle.conversation.proofs.Told.{told_cleared}
use Rattle.conversation.proofs.requests.tell.Goals as goal

pub returns-in-Clears : goal.returns-in-Clears
returns-in-Clears c =
    subst (λ (x : Came). IsAnswerTold c.args.mark.now (Tells c.args.mark.now [] (settings c.args.resolver.now) (begun_of c.args.begun) (came_of x) c.args.resolver.now.client.cache) c.finish_clear.result (requests_of c.args.requests.now.entries) (requests_of c.finish_clear.new.requests.entries)) (sym c.in-Clears.is)
    (told_cleared c.args.mark.now (settings c.args.resolver.now) (begun_of c.args.begun) c.args.resolver.now.client.cache c.finish_clear.result (requests_of c.args.requests.now.entries) (requests_of c.finish_clear.new.requests.entries) c.finish_clear.ensures.told c.finish_clear.ensures.forgotten)
