use Rattle.std.proofs.Common.{◌∙◌, refl, ap}
use Rattle.std.specs.Option.{is_some}
use Rattle.replay_script.specs.declared.line.Line.TheVariants.{Blank}
use Rattle.replay_script.proofs.Said.{keeps-blank}
use Rattle.replay_script.proofs.Taken.{read_as, taken-configuration, taken-failure, taken-record, taken-reply, taken-request}
use Rattle.replay_script.proofs.script.Reader.read.Goals as goal

pub returns-in-Blank : goal.returns-in-Blank
returns-in-Blank c = λ said k. (Blank, read_as c.is_some.result c.args.self.now said c.args.line.now _ _ (c.is_some.ensures ∙ ap (λ v. is_some v.open_reply) c.self.view_is) k c.in-Blank.is c.in_ok-line.ensures.read, refl, keeps-blank _ said k)

pub returns-in-Reply : goal.returns-in-Reply
returns-in-Reply c = λ said k.
    taken-reply c.args.self.now _ said c.args.line.now _ _ k (read_as c.is_some.result c.args.self.now said c.args.line.now _ _ (c.is_some.ensures ∙ ap (λ v. is_some v.open_reply) c.self.view_is) k c.in-Reply.is c.in_ok-line.ensures.read) c.add_reply.ensures.ok c.add_reply.ensures.err

pub returns-in-Fail : goal.returns-in-Fail
returns-in-Fail c = λ said k.
    taken-failure c.args.self.now _ said c.args.line.now _ _ k (read_as c.is_some.result c.args.self.now said c.args.line.now _ _ (c.is_some.ensures ∙ ap (λ v. is_some v.open_reply) c.self.view_is) k c.in-Fail.is c.in_ok-line.ensures.read) c.add_failure.ensures.ok c.add_failure.ensures.err

pub returns-in-Record : goal.returns-in-Record
returns-in-Record c = λ said k.
    taken-record c.args.self.now _ said c.args.line.now _ _ _ c.is_some.result _ (c.is_some.ensures ∙ ap (λ v. is_some v.open_reply) c.self.view_is) c.in_ok-line.ensures.placed c.in-Record.is k (read_as c.is_some.result c.args.self.now said c.args.line.now _ _ (c.is_some.ensures ∙ ap (λ v. is_some v.open_reply) c.self.view_is) k c.in-Record.is c.in_ok-line.ensures.read) c.add_record.ensures

pub returns-in-Request : goal.returns-in-Request
returns-in-Request c = λ said k.
    taken-request c.args.self.now _ said c.args.line.now _ _ k (read_as c.is_some.result c.args.self.now said c.args.line.now _ _ (c.is_some.ensures ∙ ap (λ v. is_some v.open_reply) c.self.view_is) k c.in-Request.is c.in_ok-line.ensures.read) c.add_request.ensures.ok c.add_request.ensures.in_order c.add_request.ensures.err

pub returns-in-Configuration : goal.returns-in-Configuration
returns-in-Configuration c = λ said k.
    taken-configuration c.args.self.now _ said c.args.line.now _ _ k (read_as c.is_some.result c.args.self.now said c.args.line.now _ _ (c.is_some.ensures ∙ ap (λ v. is_some v.open_reply) c.self.view_is) k c.in-Configuration.is c.in_ok-line.ensures.read) c.add_setting.ensures.ok c.add_setting.ensures.err
