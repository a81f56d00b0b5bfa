-- What is done with which domain: zones that are served here, names that a file blocks, and what lines say.
use Rattle.std.specs.Prelude.{ℕ, List, [], fold, if◌then◌else◌}
use Rattle.domain_table.specs.Domains.{inserted}
use Rattle.local_answers.specs.Zones.{locally_served_zones, with_served}
use Rattle.local_answers.specs.declared.rules.DomainRule.{DomainRule}
use Rattle.forwarder_settings.specs.Blocked.{blocked_domains, with_blocked}
use Rattle.forwarder_settings.specs.Reading.{SettingsValue}

-- of several rules for one domain the last counts
abbrev pub with_rules : List (List ℕ × DomainRule) → List (List ℕ × DomainRule) → List (List ℕ × DomainRule)
with_rules said rules = fold (λ so_far r. inserted r.0 r.1 so_far) rules said

abbrev pub served_rules : SettingsValue → List (List ℕ × DomainRule)
served_rules settings = if settings.serves_locally then with_served locally_served_zones [] else []

-- a line counts before the file of blocked names, and that before the zones that are served
abbrev pub local_rules : SettingsValue → List ℕ → List (List ℕ × DomainRule)
local_rules settings blocked =
    with_rules settings.rules (with_blocked (blocked_domains blocked) (served_rules settings))
