-- What the suffixes behind say of all.
use Rattle.std.proofs.Common.{◌≡◌, ◌-◌, drop, length}
use Rattle.std.specs.List.{list_any}
use Rattle.domain_table.specs.Names.{suffixes}
use Rattle.hickory_proto_core.specs.Name.{label_bytes}
use Rattle.yimarotu_forwarder.specs.Flushing.{is_name}
use Rattle.yimarotu_forwarder.proofs.flushing.is_at_or_below.Given as goal

abbrev pub invariant-loop-place : goal.invariant-loop-place
invariant-loop-place l =
    list_any (is_name (label_bytes l.labels)) (suffixes (drop l.place l.octets))
    ≡ list_any (is_name (label_bytes l.labels)) (suffixes l.octets)

abbrev pub decreases-loop-place : goal.decreases-loop-place
decreases-loop-place l = length l.octets - l.place
