use Rattle.hickory_proto_names.specs.NameDecided.{named_or_out}
use Rattle.hickory_proto_names.proofs.NameOnce.{text_is_unambiguous}
use Rattle.hickory_proto_names.proofs.name.Name.from_ascii.Goals as goal

pub returns-clause-unambiguous : goal.returns-clause-unambiguous
returns-clause-unambiguous c = text_is_unambiguous c.args.text.now

pub returns-clause-computed : goal.returns-clause-computed
returns-clause-computed c = named_or_out c.args.text.now c.read_name.result (text_is_unambiguous c.args.text.now) c.read_name.ensures.ok c.read_name.ensures.err
