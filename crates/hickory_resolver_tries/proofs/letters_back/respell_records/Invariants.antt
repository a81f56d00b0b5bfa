use Rattle.std.proofs.Common.{◌≡◌, ◌++◌, map, take, drop}
use Rattle.hickory_resolver_tries.specs.GivenBack.{respelled_record}
use Rattle.hickory_resolver_tries.proofs.letters_back.respell_records.Given as goal

abbrev pub invariant-loop-found : goal.invariant-loop-found
invariant-loop-found l =
    take l.found-index l.records ++ map (respelled_record l.asked) (drop l.found-index l.records) ≡ map (respelled_record l.asked) l.fn.records
