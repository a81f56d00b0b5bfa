use Rattle.std.proofs.Common.{◌∙◌, ◌++◌, [], Ok, ap, refl, string_bytes, subst}
use Rattle.hickory_resolver.specs.Requests.{request_of}
use Rattle.hickory_resolver_model.specs.Resolver.{settings}
use Rattle.conversation.specs.Answers.{Tells}
use Rattle.conversation.specs.State.{BegunValue, begun_of, requests_of}
use Rattle.conversation.specs.Telling.{IsAnswerTold, came_of}
use Rattle.conversation.specs.declared.heard.Heard.{Heard}
use Rattle.conversation.proofs.Told.{begun_none, begun_out, begun_told, some_told}
use Rattle.conversation.proofs.requests.begin.Goals as goal

pub returns-in_err-start : goal.returns-in_err-start
returns-in_err-start c = begun_none c.args.mark.now c.args.explains (request_of c.args.request) c.args.resolver.now c.args.resolver.now c.from_residual.result (requests_of c.args.requests.now.entries) c.from_residual.ensures.0 refl

pub returns-in_err-came : goal.returns-in_err-came
returns-in_err-came c = begun_none c.args.mark.now c.args.explains (request_of c.args.request) c.args.resolver.now c.ask.new.resolver c.from_residual-in_err-came.result (requests_of c.args.requests.now.entries) c.from_residual-in_err-came.ensures.0 c.in_err-came.ensures.unchanged

pub returns-in_err-push_str : goal.returns-in_err-push_str
returns-in_err-push_str c =
    let left = c.ask.new.resolver in
    let before = requests_of c.args.requests.now.entries in
    let after = requests_of c.tell.new.requests.entries in
    begun_out c.args.mark.now c.args.explains (request_of c.args.request) (came_of c.in_ok-came.came) c.args.resolver.now left c.from_residual-in_err-push_str.result before after c.in_ok-came.ensures.comes c.in_ok-came.ensures.others_stay c.from_residual-in_err-push_str.ensures.0
    (some_told c.args.mark.now (Tells c.args.mark.now [] (settings left) (begun_of c.new-begun.result) (came_of c.in_ok-came.came) left.client.cache) (Ok c.in_ok-heard.heard) before after c.in_ok-heard.ensures)

pub returns : goal.returns
returns c =
    let left = c.ask.new.resolver in
    let came = came_of c.in_ok-came.came in
    let before = requests_of c.args.requests.now.entries in
    let after = requests_of c.tell.new.requests.entries in
    let heard : Heard = record c.in_ok-heard.heard { explained = c.push_str.new.self } in
    let told = subst (λ (b : BegunValue). IsAnswerTold c.args.mark.now (Tells c.args.mark.now [] (settings left) b came left.client.cache) (Ok c.in_ok-heard.heard) before after) c.new-begun.ensures c.in_ok-heard.ensures in
    begun_told c.args.mark.now (string_bytes c.in_ok-start.start) c.args.explains (request_of c.args.request) came c.args.resolver.now left c.in_ok-heard.heard heard before after c.in_ok-came.ensures.comes c.in_ok-came.ensures.others_stay c.in_ok-start.ensures refl
    (c.in_ok-push_str.ensures.bytes ∙ ap (λ x. string_bytes c.in_ok-start.start ++ x) c.as_str.ensures.value) told
