use Rattle.std.proofs.Common.{◌∙◌, ap}
use Rattle.resolv_conf.specs.AddressDecided.{address_of}
use Rattle.resolv_conf.proofs.NameWords.{address_of-parsed}
use Rattle.forwarder_settings.proofs.prefixes.address_of.Goals as goal

pub returns : goal.returns
returns c =
    c.ok.ensures.value ∙ address_of-parsed c.as_bytes.result.now c.parse_ascii.result c.parse_ascii.ensures
    ∙ ap address_of c.as_bytes.ensures.value
