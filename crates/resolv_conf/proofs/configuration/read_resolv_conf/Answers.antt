use Rattle.std.proofs.Common.{◌≡◌, IfOk, subst}
use Rattle.resolv_conf.specs.ResolvConf.{configuration_of}
use Rattle.resolv_conf.specs.Said.{ReadingValue}
use Rattle.resolv_conf.proofs.SaidLemmas.{file_said-steps}
use Rattle.resolv_conf.proofs.configuration.read_resolv_conf.Goals as goal

pub returns : goal.returns
returns c =
    let P : ReadingValue → Type 0 = λ reading. IfOk c.configuration_of.result (λ conf. conf ≡ configuration_of reading) in
    subst P (file_said-steps c.args.octets.now c.args.hostname.now c.last_domains_line-last.result _ _ _ _
    c.last_domains_line-last.ensures c.new-reading.ensures c.in_ok-read.ensures c.in_ok-add_default_server.ensures c.in_ok-add_default_domain.ensures)
    c.configuration_of.ensures
