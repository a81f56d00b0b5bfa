use Rattle.hickory_resolver_hosts.proofs.FieldTexts.{before_comment, no_comment}
use Rattle.hickory_resolver_hosts.proofs.lines.without_comment.Goals as goal

pub returns-in-Some : goal.returns-in-Some
returns-in-Some c =
    let h = c.in-Some.ensures.cases in
    before_comment c.args.text.now c.in-Some.text.now _ h.0 c.utf8.text h.2.0 h.2.1.split h.3

pub returns-in-None : goal.returns-in-None
returns-in-None c = no_comment c.args.text.now c.utf8.text c.in-None.ensures.cases
