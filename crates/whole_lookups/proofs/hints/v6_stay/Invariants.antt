use Rattle.std.proofs.Common.{◌≡◌, ◌≤◌, ◌+◌, ◌-◌, ◌*◌, ◌&&◌, length}
use Rattle.std.specs.List.{list_all}
use Rattle.whole_lookups.specs.Denied.{is_kept_address}
use Rattle.whole_lookups.specs.Hints.{addresses_at, v6_data}
use Rattle.whole_lookups.proofs.hints.v6_stay.Given as goal

abbrev pub invariant-loop : goal.invariant-loop
invariant-loop l = record {
  within : l.at + 16 * (l.count - l.counter) ≤ length l.octets;
  so_far : (l.stay && list_all (is_kept_address l.allow l.deny) (addresses_at v6_data 16 (l.count - l.counter) l.octets l.at))
      ≡ list_all (is_kept_address l.allow l.deny) (addresses_at v6_data 16 l.count l.octets l.fn.at);
}
