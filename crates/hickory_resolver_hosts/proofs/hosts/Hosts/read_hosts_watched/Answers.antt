use Rattle.std.proofs.Common.{subst}
use Rattle.hickory_resolver_hosts.specs.Reading.{IsSourceRead}
use Rattle.hickory_resolver_hosts.proofs.FileRead.{err_is, source_failed}
use Rattle.hickory_resolver_hosts.proofs.hosts.Hosts.read_hosts_watched.Goals as goal

pub returns-in_err-bytes : goal.returns-in_err-bytes
returns-in_err-bytes g c =
    let error = c.in_err-bytes.field-0.0 in
    let failed = c.read_whole.new.source.failed in
    subst (λ r. IsSourceRead c.args.now (g.R.Read.remaining c.args.source.now.inner) c.args.self.now r c.args.self.now failed) (err_is error c.from_residual.result c.from_residual.ensures.1)
    (source_failed c.args.now (g.R.Read.remaining c.args.source.now.inner) c.args.self.now failed error c.in_err-bytes.ensures)
