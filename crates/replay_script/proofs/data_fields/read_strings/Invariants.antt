use Rattle.std.proofs.Common.{◌≡◌, drop}
use Rattle.hickory_proto_core.specs.Name.{label_bytes}
use Rattle.replay_script.specs.DataFields.{strings_of}
use Rattle.replay_script.specs.Words.{texts}
use Rattle.replay_script.proofs.Strings.{joined}
use Rattle.replay_script.proofs.data_fields.read_strings.Given as goal

abbrev pub invariant-loop-field : goal.invariant-loop-field
invariant-loop-field l =
    strings_of (texts l.fields) ≡ joined (label_bytes l.strings.items) (strings_of (texts (drop l.field-index l.fields)))
