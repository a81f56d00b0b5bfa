use Rattle.std.proofs.Common.{◌∙◌, sym}
use Rattle.hickory_resolver_model.specs.Calls.{CallContext}
use Rattle.hickory_resolver_model.specs.Resolver.{call_context_of}
use Rattle.hickory_resolver.specs.CallSteps.{step_of}
use Rattle.hickory_resolver.proofs.CallSteps.{fewer_second, goes_on_end, goes_second}
use Rattle.hickory_resolver.proofs.attempting.Attempt.take_result.Goals as goal

pub returns-in-Some-clause-goes : goal.returns-in-Some-clause-goes
returns-in-Some-clause-goes g c = λ name ready.
    let s : CallContext = call_context_of c.args.client.now c.args.hosts.now c.args.now in
    goes_second s c.args.self.now c.args.latest name c.args.client.now.cache c.in-Some.name c.in-Some.second
    (sym c.in-Some.is ∙ c.second.ensures.second name ready) c.second.new.self c.second.ensures.stays _ _
    c.look_up.ensures.looks_up

pub returns-in-Some-clause-fewer : goal.returns-in-Some-clause-fewer
returns-in-Some-clause-fewer g c = fewer_second c.args.self.now c.second.new.self c.args.latest _
    c.second.ensures.stays c.in-Some.ensures.kept_name (step_of c.look_up.result)

pub returns-in-None-clause-goes : goal.returns-in-None-clause-goes
returns-in-None-clause-goes g c = λ name ready.
    let s : CallContext = call_context_of c.args.client.now c.args.hosts.now c.args.now in
    goes_on_end s c.args.self.now c.args.latest name c.args.client.now.cache
    (sym c.in-None.is ∙ c.second.ensures.second name ready) c.second.new.self c.second.ensures.stays _ _ _
    (c.end.ensures.goes name)
