use Rattle.std.proofs.Common.{◌∙◌}
use Rattle.resolv_conf.proofs.NameWords.{address_of-parsed}
use Rattle.resolv_conf.proofs.server.read_address.Goals as goal

pub returns : goal.returns
returns c = c.ok.ensures.value ∙ address_of-parsed c.args.text.now c.parse_ascii.result c.parse_ascii.ensures
