use Rattle.std.proofs.Common.{◌≡◌, List, length, take}
use Rattle.std.specs.Str.{chars}
use Rattle.std.specs.Str.Iter.{split_whitespace_rest}
use Rattle.hickory_proto_core.specs.Name.{NameValue}
use Rattle.hickory_proto_core.specs.Records.{data_of_address}
use Rattle.hickory_resolver_model.specs.Hosts.{AreNames, insert_pairs}
use Rattle.hickory_resolver_hosts.specs.Reading.{pairs_of}
use Rattle.hickory_resolver_hosts.specs.Text.{words}
use Rattle.hickory_resolver_hosts.proofs.lines.insert_names.Given as goal

abbrev pub invariant-loop-field : goal.invariant-loop-field
invariant-loop-field g l =
    (found : List NameValue) × AreNames (take (length l.yielded) (words (chars (split_whitespace_rest l.fn.names)))) found
    × (l.hosts ≡ insert_pairs l.now (pairs_of (data_of_address l.address) found) l.initial.hosts)
