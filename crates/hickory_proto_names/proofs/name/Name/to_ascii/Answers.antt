use Rattle.hickory_proto_names.proofs.NamePrinting.{printed_spells}
use Rattle.hickory_proto_names.proofs.name.Name.to_ascii.Goals as goal

pub returns-in_err-format-clause-reads_back : goal.returns-in_err-format-clause-reads_back
returns-in_err-format-clause-reads_back c = printed_spells c.args.self.now c.labels-labels.ensures.valid c.labels-labels.ensures.bytes

pub returns-clause-reads_back : goal.returns-clause-reads_back
returns-clause-reads_back c = printed_spells c.args.self.now c.labels-labels.ensures.valid c.labels-labels.ensures.bytes
