use Rattle.std.proofs.Common.{◌==◌, ◌∙◌, ap}
use Rattle.std.specs.List.{position}
use Rattle.replay_script.proofs.FirstBytes.{first_byte_position}
use Rattle.forwarder_settings.proofs.prefixes.slash_place.Goals as goal

pub returns : goal.returns
returns c =
    first_byte_position (λ byte. byte == 47) c.as_bytes.result.now c.memchr.result c.memchr.ensures
    ∙ ap (λ text. position (λ byte. byte == 47) text) c.as_bytes.ensures.value
