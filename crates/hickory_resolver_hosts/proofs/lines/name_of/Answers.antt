use Rattle.hickory_resolver_hosts.proofs.FieldTexts.{no_name}
use Rattle.hickory_resolver_hosts.proofs.lines.name_of.Goals as goal

pub returns-in_ok-check_memory-in-Err : goal.returns-in_ok-check_memory-in-Err
returns-in_ok-check_memory-in-Err c = no_name c.args.text.now c.in-Err.error c.in-Err.ensures.unambiguous c.in-Err.ensures.err c.in_ok-check_memory-in-Err.ensures
