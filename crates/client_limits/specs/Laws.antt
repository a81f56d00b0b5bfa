-- What holds of the clients that wait after every list of events.
use Rattle.std.specs.Prelude.{◌≡◌, ℕ, ◌≤◌, ◌<◌, List, All, sum_by, if◌then◌else◌}
use Rattle.std.specs.List.{fold}
use Rattle.std.specs.Map.{values_of}
use Rattle.std.specs.declared.net.IpAddr.{IpAddr}
use Rattle.client_limits.specs.Counts.{CountsValue, added, admits, nobody, removed}
use Rattle.client_limits.specs.declared.limits.ClientLimits.{ClientLimits}

-- A client comes, of an address, where so many wait for its question; or one of an address waits no more.
pub data ClientEvent : Type 0 where
  comes : IpAddr → ℕ → ClientEvent
  goes : IpAddr → ClientEvent

-- one that comes waits where it is admitted
abbrev pub after_event : ClientLimits → CountsValue → ClientEvent → CountsValue
after_event limits c (comes address of_question) = if admits limits address of_question c then added address c else c
after_event limits c (goes address) = removed address c

abbrev pub after_events : ClientLimits → CountsValue → List ClientEvent → CountsValue
after_events limits c events = fold (after_event limits) c events

-- a network that is counted has some that wait, and not too many
pub record IsWithinLimits (limits : ClientLimits) (c : CountsValue) : Type 0 where
  pub all : c.all ≤ limits.all
  pub each : All (λ n. (0 < n) × (n ≤ limits.of_address)) (values_of c.of_networks)
  pub sum : sum_by (λ n. n) (values_of c.of_networks) ≡ c.all

-- No more wait in all, and of each network, than the limits say; and those of all networks are all.
abbrev pub StaysWithinLimits : Type 0
StaysWithinLimits =
    (limits : ClientLimits) (events : List ClientEvent) → IsWithinLimits limits (after_events limits nobody events)
