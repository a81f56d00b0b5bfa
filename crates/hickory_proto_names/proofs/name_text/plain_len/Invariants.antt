use Rattle.std.proofs.Common.{◌≤◌, ◌-◌, false, IsTrue, length, take}
use Rattle.std.specs.List.{list_all}
use Rattle.hickory_proto_names.specs.NameText.{is_plain}
use Rattle.hickory_proto_names.proofs.name_text.plain_len.Given as goal

abbrev pub invariant-loop-count : goal.invariant-loop-count
invariant-loop-count l = (l.count ≤ length l.bytes) × IsTrue (list_all (is_plain false) (take l.count l.bytes))

abbrev pub decreases-loop-count : goal.decreases-loop-count
decreases-loop-count l = length l.bytes - l.count
