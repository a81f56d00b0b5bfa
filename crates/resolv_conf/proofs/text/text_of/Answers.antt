use Rattle.std.proofs.Common.{sym}
use Rattle.resolv_conf.proofs.LineLists.{text_of-cut, text_of-whole}
use Rattle.resolv_conf.proofs.text.text_of.Goals as goal

pub returns-in-Some : goal.returns-in-Some
returns-in-Some c = sym (text_of-cut c.args.line.now c.in-Some.text.now _ c.in-Some.ensures)

pub returns-in-None : goal.returns-in-None
returns-in-None c = sym (text_of-whole c.args.line.now c.in-None.ensures)
