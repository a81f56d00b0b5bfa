-- What happens around a session that asks by itself.
use Rattle.std.specs.Prelude.{◌≡◌, ◌⊎◌, ◌<◌, ℕ, Bool, List, [], Option, None, Some, Result, Ok, Err, MatchOption, if◌then◌else◌}
use Rattle.std.specs.declared.alloc.AllocError.{AllocError}
use Rattle.hickory_resolver_pool.specs.Pool.{after_failure, after_octets, after_servers, after_tick}
use Rattle.hickory_resolver_pool.specs.Servers.{PoolServerValue, first_fixed}
use Rattle.hickory_resolver_pool.specs.declared.servers.ServersError.{ServersError}
use Rattle.hickory_resolver_pool.specs.declared.servers.ServersError.TheVariants.{FixedPort, OutOfMemory}
use Rattle.hickory_resolver_traffic.specs.declared.inbox.Failure.{Failure}
use Rattle.hickory_resolver_traffic.specs.declared.inbox.Failure.TheVariants.{Refused, Unreachable, Closed, Local}
use Rattle.resolv_conf.specs.ResolvConf.{resolv_conf}
use Rattle.session_settings.specs.ServerLine.{file_servers}
use Rattle.yimarotu_c.specs.Statuses.{number_of}
use Rattle.yimarotu_c.specs.declared.status.Status.{Status}
use Rattle.yimarotu_c.specs.declared.status.Status.TheVariants as status
use Rattle.yimarotu_embedded.specs.Driven.{DrivenValue, over_network}
use Rattle.yimarotu_session.specs.NetworkSessions.{NetworkValue, cleared, with_pool}

abbrev pub taken_in : Result (Unit {0}) AllocError → Status
taken_in (Ok done) = status.Ok
taken_in (Err error) = status.NoMemory

-- an event is taken in; or no memory is left, and nothing changes
abbrev pub TakesIn : (NetworkValue → NetworkValue) → DrivenValue → ℕ → DrivenValue → Type 0
TakesIn change before ended after =
    ((ended ≡ number_of status.Ok) × (after ≡ over_network change before))
    ⊎ ((ended ≡ number_of status.NoMemory) × (after ≡ before))

abbrev pub Comes : ℕ → List ℕ → ℕ → DrivenValue → ℕ → DrivenValue → Type 0
Comes channel octets now = TakesIn (λ s. with_pool (after_octets channel octets now s.pool) s)

-- the failure of a number, or none
abbrev pub IsChannelFailure : ℕ → Option Failure → Type 0
IsChannelFailure number (Some Refused) = number ≡ 1
IsChannelFailure number (Some Unreachable) = number ≡ 2
IsChannelFailure number (Some Closed) = number ≡ 3
IsChannelFailure number (Some Local) = number ≡ 4
IsChannelFailure number None = (number ≡ 0) ⊎ (4 < number)

abbrev pub FailsAs : ℕ → Failure → ℕ → DrivenValue → ℕ → DrivenValue → Type 0
FailsAs channel why now =
    TakesIn (λ s. with_pool (after_failure (record { channel = channel; why = why }) now s.pool) s)

abbrev pub FailsAt : ℕ → ℕ → ℕ → DrivenValue → ℕ → DrivenValue → Type 0
FailsAt channel number now before ended after =
    (why : Option Failure) × IsChannelFailure number why
    × MatchOption why ((ended ≡ number_of status.Kind) × (after ≡ before))
    (λ why. FailsAs channel why now before ended after)

abbrev pub Passes : ℕ → DrivenValue → ℕ → DrivenValue → Type 0
Passes now before ended after =
    (ended ≡ number_of status.Ok) × (after ≡ over_network (λ s. with_pool (after_tick now s.pool) s) before)

abbrev pub cleared_if : Bool → DrivenValue → DrivenValue
cleared_if clears d = if clears then over_network cleared d else d

abbrev pub servers_status : ServersError → Status
servers_status (FixedPort place) = status.Script
servers_status OutOfMemory = status.NoMemory

-- these servers are asked from now on; or no memory is left, and nothing changes
abbrev pub TakesThem : List PoolServerValue → Bool → DrivenValue → ℕ → DrivenValue → Type 0
TakesThem servers clears before ended after =
    ((ended ≡ number_of status.Ok)
    × (after ≡ cleared_if clears (over_network (λ s. with_pool (after_servers 0 servers s.pool) s) before)))
    ⊎ ((ended ≡ number_of status.NoMemory) × (after ≡ before))

-- the servers of a file: none of them is to be asked from a given port
abbrev pub TakesServers : List ℕ → Bool → DrivenValue → ℕ → DrivenValue → Type 0
TakesServers conf clears = TakesThem (file_servers (resolv_conf conf [])) clears
