use Rattle.std.proofs.Common.{◌≡◌, ◌++◌, flat_map, take}
use Rattle.yimarotu_c.specs.Addresses.{record_entry}
use Rattle.yimarotu_c.proofs.addresses.push_records.Given as goal

abbrev pub invariant-loop-entry : goal.invariant-loop-entry
invariant-loop-entry l = l.entries.items ≡ l.initial.entries.items ++ flat_map record_entry (take l.entry-index l.records)
