use Rattle.std.proofs.Common.{◌≡◌, ◌-◌, length}
use Rattle.std.specs.List.{list_all}
use Rattle.std.specs.Option.{option_map}
use Rattle.whole_lookups.specs.Denied.{is_kept_address}
use Rattle.whole_lookups.specs.Hints.{hints_from}
use Rattle.whole_lookups.proofs.Hinted.{rest_stays}
use Rattle.whole_lookups.proofs.hints.parameters_stay.Given as goal

abbrev pub invariant-loop : goal.invariant-loop
invariant-loop l =
    rest_stays (is_kept_address l.allow l.deny) l.stay (hints_from (length l.octets - l.counter) l.octets l.at)
    ≡ option_map (list_all (is_kept_address l.allow l.deny)) (hints_from (length l.octets) l.octets l.fn.at)
