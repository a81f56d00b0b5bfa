-- The servers of a forwarder's groups: the general ones are group 0, and those of domains are the groups 1, 2, ..
use Rattle.std.specs.Prelude.{◌≡◌, ◌+◌, ℕ, List, [], ◌∷◌, None, Some, Result, Ok, Err, MatchResult}
use Rattle.hickory_resolver_pool.specs.Pool.{after_servers}
use Rattle.hickory_resolver_pool.specs.Servers.{PoolServerValue, first_fixed}
use Rattle.forwarder_settings.specs.Reading.{DomainGroupValue}
use Rattle.yimarotu_forwarder.specs.Forwarders.{ForwarderValue, with_pool}
use Rattle.yimarotu_driven_forwarder.specs.declared.open_error.ForwarderOpenError.{ForwarderOpenError}
use Rattle.yimarotu_driven_forwarder.specs.declared.open_error.ForwarderOpenError.TheVariants.{FixedPort, OutOfMemory}

-- from one state of the forwarder to another, with an end
abbrev pub Changing : Type 1
Changing = ForwarderValue → Result (Unit {0}) ForwarderOpenError → ForwarderValue → Type 0

-- A group is asked by these servers from now on; or one is to be asked from a given port, or no memory is left, and
-- nothing changes.
abbrev pub AsksGroup : ℕ → List PoolServerValue → Changing
AsksGroup number servers before (Ok done) after =
    (first_fixed servers ≡ None) × (after ≡ with_pool (after_servers number servers before.pool) before)
AsksGroup number servers before (Err (FixedPort place)) after =
    (first_fixed servers ≡ Some place) × (after ≡ before)
AsksGroup number servers before (Err OutOfMemory) after = after ≡ before
AsksGroup number servers before (Err other) after = ⊥

-- and then this, unless that was refused
abbrev pub Then : Changing → Changing → Changing
Then First Next before result after =
    (ended : Result (Unit {0}) ForwarderOpenError) × (asking : ForwarderValue) × First before ended asking
    × MatchResult ended (λ done. Next asking result after) (λ error. (result ≡ Err error) × (after ≡ asking))

-- the groups from a number on
abbrev pub AsksGroups : ℕ → List DomainGroupValue → Changing
AsksGroups number [] before result after = (result ≡ Ok tt) × (after ≡ before)
AsksGroups number (group ∷ groups) before result after =
    Then (AsksGroup number group.servers) (AsksGroups (number + 1) groups) before result after

abbrev pub AsksServers : List PoolServerValue → List DomainGroupValue → Changing
AsksServers servers groups = Then (AsksGroup 0 servers) (AsksGroups 1 groups)
