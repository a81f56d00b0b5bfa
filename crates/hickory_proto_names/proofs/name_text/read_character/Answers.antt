use Rattle.std.proofs.Common.{arith, sym, refl}
use Rattle.hickory_proto_names.specs.NameText.{itself}
use Rattle.hickory_proto_names.proofs.NameReading.{front_one}
use Rattle.hickory_proto_names.proofs.name_text.read_character.Goals as goal

pub returns-in-len1-up-clause-ok : goal.returns-in-len1-up-clause-ok
returns-in-len1-up-clause-ok c = (itself _, front_one c.args.text.now (omega arith), sym c.if-is_plain.ensures, refl)
