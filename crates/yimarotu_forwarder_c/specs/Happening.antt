-- What happens around a forwarder.
use Rattle.std.specs.Prelude.{◌≡◌, ◌⊎◌, ◌<◌, ℕ, List, Option, None, Some, Result, Ok, Err, MatchOption}
use Rattle.std.specs.declared.alloc.AllocError.{AllocError}
use Rattle.hickory_resolver_pool.specs.Pool.{after_octets}
use Rattle.hickory_resolver_traffic.specs.declared.inbox.Failure.{Failure}
use Rattle.hickory_resolver_traffic.specs.declared.inbox.Failure.TheVariants.{Refused, Unreachable, Closed, Local}
use Rattle.yimarotu_forwarder.specs.Forwarders.{ForwarderValue, at_moment, channel_failed, moment_passes, with_pool}
use Rattle.yimarotu_driven_forwarder.specs.Driven.{DrivenValue, gone, over_forwarder}
use Rattle.yimarotu_forwarder_c.specs.Statuses.{number_of}
use Rattle.yimarotu_forwarder_c.specs.declared.status.Status.{Status}
use Rattle.yimarotu_forwarder_c.specs.declared.status.Status.TheVariants as status

abbrev pub taken_in : Result (Unit {0}) AllocError → Status
taken_in (Ok done) = status.Ok
taken_in (Err error) = status.NoMemory

-- it always ends well
abbrev pub EndsWell : (DrivenValue → DrivenValue) → DrivenValue → ℕ → DrivenValue → Type 0
EndsWell change before ended after = (ended ≡ number_of status.Ok) × (after ≡ change before)

-- a client is gone
abbrev pub Leaves : ℕ → DrivenValue → ℕ → DrivenValue → Type 0
Leaves client = EndsWell (gone client)

-- an event is taken in; or no memory is left, and nothing changes
abbrev pub TakesIn : (ForwarderValue → ForwarderValue) → DrivenValue → ℕ → DrivenValue → Type 0
TakesIn change before ended after =
    ((ended ≡ number_of status.Ok) × (after ≡ over_forwarder change before))
    ⊎ ((ended ≡ number_of status.NoMemory) × (after ≡ before))

abbrev pub Comes : ℕ → List ℕ → ℕ → DrivenValue → ℕ → DrivenValue → Type 0
Comes channel octets now = TakesIn (λ f. moment_passes now (with_pool (after_octets channel octets now f.pool) f))

-- the failure of a number, or none
abbrev pub IsChannelFailure : ℕ → Option Failure → Type 0
IsChannelFailure number (Some Refused) = number ≡ 1
IsChannelFailure number (Some Unreachable) = number ≡ 2
IsChannelFailure number (Some Closed) = number ≡ 3
IsChannelFailure number (Some Local) = number ≡ 4
IsChannelFailure number None = (number ≡ 0) ⊎ (4 < number)

abbrev pub FailsAs : ℕ → Failure → ℕ → DrivenValue → ℕ → DrivenValue → Type 0
FailsAs channel why now = TakesIn (channel_failed (record { channel = channel; why = why }) now)

abbrev pub FailsAt : ℕ → ℕ → ℕ → DrivenValue → ℕ → DrivenValue → Type 0
FailsAt channel number now before ended after =
    (why : Option Failure) × IsChannelFailure number why
    × MatchOption why ((ended ≡ number_of status.Kind) × (after ≡ before))
    (λ why. FailsAs channel why now before ended after)

abbrev pub Passes : ℕ → DrivenValue → ℕ → DrivenValue → Type 0
Passes now = EndsWell (over_forwarder (at_moment now))
