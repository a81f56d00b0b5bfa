-- What is left of the failures.
use Rattle.std.proofs.Common.{rules}
use Rattle.hickory_proto_core.specs.Name.{label_bytes}
use Rattle.yimarotu_forwarder.specs.Flushing.{is_flushed}
use Rattle.yimarotu_forwarder.proofs.flushing.flush_failures.Goals as goal

pub returns : goal.returns
returns c =
    c.remove_where.ensures (is_flushed (label_bytes c.args.labels.now) c.args.below) (λ key b q. search rules)
