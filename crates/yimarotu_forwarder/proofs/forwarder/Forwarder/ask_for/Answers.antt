-- A fetch that is found asks its question.
use Rattle.std.proofs.Common.{◌≡◌, subst, Option, Some}
use Rattle.yimarotu_forwarder.specs.Fetches.{FetchValue, fetch_at}
use Rattle.yimarotu_forwarder.specs.Steps.{AsksOr, IsDecidedNext, has_turn}
use Rattle.local_answers.specs.declared.local_data.Decision.{Decision}
use Rattle.yimarotu_forwarder.proofs.Asking.{asks_for}
use Rattle.yimarotu_forwarder.proofs.Refused.{if_done_for}
use Rattle.yimarotu_forwarder.proofs.forwarder.Forwarder.ask_for.Goals as goal

-- src/steps.rt
pub returns-in-Some-clause-ok : goal.returns-in-Some-clause-ok
returns-in-Some-clause-ok c =
    if_done_for {F = FetchValue} {H = λ (f : FetchValue). fetch_at c.args.key c.args.self.now.fetches ≡ Some f}
    {P = λ (f : FetchValue). AsksOr c.in-Some.decision c.args.key f (has_turn c.args.self.now) c.ask_as.new.self}
    c.ask_as.result
    (asks_for c.args.key c.in-Some.decision c.args.self.now c.ask_as.new.self
    (subst (λ (o : Option Decision). IsDecidedNext c.args.self.now c.args.key o) c.in-Some.is c.in_ok-decision.ensures))
    c.ask_as.ensures.ok
