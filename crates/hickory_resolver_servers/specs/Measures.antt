-- What a try tells of a server.
use Rattle.std.specs.Prelude.{ℕ, ◌+◌, ◌-◌, ◌*◌, ◌/◌, Bool, true, ◌==◌, List, map, set, slice_get, min, max, nat_le, nat_lt, Option, None, Some, if◌then◌else◌}
use Rattle.std.specs.Option.{option_map_or}
use Rattle.hickory_resolver_servers.specs.declared.choices.TheConstants.{GREATEST_ROUND_TRIP, OLD_WEIGHT, WHOLE_WEIGHT}
use Rattle.hickory_resolver_servers.specs.declared.server.Estimate.{Estimate}
use Rattle.hickory_resolver_servers.specs.Server.{ServerState, known_at}

-- the first measure as it is, each later one with an eighth of the weight
abbrev pub smoothed : Option ℕ → ℕ → ℕ
smoothed None new = new
smoothed (Some old) new = (OLD_WEIGHT * old + new) / WHOLE_WEIGHT

-- twice what was known, and at least the timeout
abbrev pub doubled : Option ℕ → ℕ → ℕ
doubled None timeout = timeout
doubled (Some old) timeout = max (2 * old) timeout

-- a measure at a moment; whoever tried the server as an unknown one does so no more
abbrev pub measured : ℕ → ServerState → ℕ → ServerState
measured now s round_trip =
    record s { estimate = Some (record { round_trip = round_trip; measured_at = now }); probe = None }

-- NOERROR or NXDOMAIN came now, to what was sent at a moment
abbrev pub after_answer : ℕ → ℕ → ServerState → ServerState
after_answer sent_at now s = measured now s (smoothed (known_at now s) (min (now - sent_at) GREATEST_ROUND_TRIP))

-- nothing was measured after it was sent
abbrev pub is_sent_after : ℕ → Option Estimate → Bool
is_sent_after sent_at None = true
is_sent_after sent_at (Some e) = nat_le e.measured_at sent_at

-- What was sent at a moment failed now: another code, a failed channel. Of what was on its way together one counts.
abbrev pub after_failure : ℕ → ℕ → ℕ → ServerState → ServerState
after_failure timeout sent_at now s =
    if is_sent_after sent_at s.estimate
    then measured now s (min (doubled (known_at now s) timeout) GREATEST_ROUND_TRIP) else s

-- Nothing came in time. Where this is told later than a timeout after it was due, the machine slept, and it says
-- nothing of the server.
abbrev pub after_timeout : ℕ → ℕ → ℕ → ℕ → ServerState → ServerState
after_timeout timeout sent_at due now s =
    if nat_lt (due + timeout) now then s else after_failure timeout sent_at now s

-- ---- of a server among others, by its place; where there is none, nothing changes

abbrev pub changed_at : (ServerState → ServerState) → ℕ → List ServerState → List ServerState
changed_at change place servers = option_map_or (λ s. set servers place (change s)) (slice_get servers place) servers

-- a transaction tries no server as an unknown one
abbrev pub released_by : ℕ → Option ℕ → Option ℕ
released_by transaction None = None
released_by transaction (Some other) = if other == transaction then None else Some other

abbrev pub released : ℕ → List ServerState → List ServerState
released transaction servers =
    map {A = ServerState} (λ s. record s { probe = released_by transaction s.probe }) servers
