use Rattle.hickory_resolver_hosts.proofs.FirstLine.{line_end_is, line_end_within}
use Rattle.hickory_resolver_hosts.proofs.lines.line_len.Goals as goal

pub returns-clause-short : goal.returns-clause-short
returns-clause-short c = line_end_within c.args.bytes.now c.memchr.result c.memchr.ensures

pub returns-clause-lines : goal.returns-clause-lines
returns-clause-lines c = line_end_is c.args.bytes.now c.memchr.result c.memchr.ensures
