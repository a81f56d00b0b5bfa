use Rattle.std.proofs.Common.{sym}
use Rattle.resolv_conf.proofs.NameWords.{name_of-named, name_of-none, name_of-past}
use Rattle.resolv_conf.proofs.reading.read_name.Goals as goal

pub returns-in_default : goal.returns-in_default
returns-in_default c = sym (name_of-past c.args.word.now c.in_default.ensures)

pub returns-in-Ok : goal.returns-in-Ok
returns-in-Ok c = name_of-named c.args.word.now c.in-Some.text.now c.in-Ok.name c.in-Some.ensures.0 c.in-Some.ensures.1 c.in-Ok.ensures.computed

pub returns-in_ok-check_memory-in-Err : goal.returns-in_ok-check_memory-in-Err
returns-in_ok-check_memory-in-Err c = name_of-none c.args.word.now c.in-Some.text.now c.in-Err.error c.in-Some.ensures.0 c.in-Some.ensures.1 c.in-Err.ensures.computed c.in_ok-check_memory-in-Err.ensures
