-- The labels behind, and what stands behind those before.
use Rattle.std.proofs.Common.{◌≡◌, drop}
use Rattle.hickory_proto_core.specs.Name.{label_bytes}
use Rattle.yimarotu_forwarder.specs.Flushing.{is_name}
use Rattle.yimarotu_forwarder.proofs.flushing.is_name.Given as goal

abbrev pub invariant-loop-label : goal.invariant-loop-label
invariant-loop-label l =
    is_name (label_bytes (drop l.label-index l.labels)) l.rest ≡ is_name (label_bytes l.labels) l.octets
