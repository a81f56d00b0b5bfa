-- What is done with a question: it is answered here, or a group of servers is asked.
use Rattle.std.specs.Prelude.{◌≡◌, ◌==◌, ◌&&◌, ℕ, Bool, List, Option, if◌then◌else◌}
use Rattle.std.specs.Option.{option_map_or}
use Rattle.hickory_proto_core.specs.Codes.{type_code}
use Rattle.hickory_proto_core.specs.declared.query.Query.{Query}
use Rattle.hickory_resolver_model.specs.Hosts.{Host}
use Rattle.domain_table.specs.Domains.{found}
use Rattle.whole_replies.specs.Kept.{KeptValue}
use Rattle.local_answers.specs.FromHosts.{IsFromHosts}
use Rattle.local_answers.specs.Rules.{blocked_reply, served_reply}
use Rattle.local_answers.specs.Special.{special_reply}
use Rattle.local_answers.specs.declared.choices.TheConstants.{DS}
use Rattle.local_answers.specs.declared.local_data.Decision.{Decision}
use Rattle.local_answers.specs.declared.local_data.Decision.TheVariants as decision
use Rattle.local_answers.specs.declared.rules.DomainRule.{DomainRule}
use Rattle.local_answers.specs.declared.rules.DomainRule.TheVariants as rule

-- The DS records of a zone stand in the zone above it (RFC 4035, section 3.1.4.1): a client that checks signatures learns
-- of them that a zone which is served here has none (RFC 8375, section 4).
abbrev pub is_of_zone_above : Query → ℕ → Bool
is_of_zone_above q place = (place == 0) && (type_code q.query_type == DS)

-- what a rule does, where its domain begins at a place of the name
abbrev pub decided_by : Query → ℕ → DomainRule → Decision
decided_by q place rule.Serve =
    if is_of_zone_above q place then decision.Ask 0 else decision.Answer (served_reply q place)
decided_by q place (rule.Block blocked) = decision.Answer (blocked_reply q place blocked)
decided_by q place (rule.Ask group) = decision.Ask group

-- The special names come first, then the rule of the longest domain. Without a rule, group 0 is asked.
abbrev pub decided_here : List (List ℕ × DomainRule) → Query → List ℕ → Decision
decided_here rules q name =
    option_map_or decision.Answer (special_reply q)
    (option_map_or (λ f. decided_by q f.0 f.1) (found name rules) (decision.Ask 0))

-- What the hosts have comes before all.
abbrev pub IsDecided : List Host → List (List ℕ × DomainRule) → Query → List ℕ → ℕ → Decision → Type 0
IsDecided hosts rules q name now result =
    (told : Option KeptValue) × IsFromHosts q now hosts told
    × (result ≡ option_map_or decision.Answer told (decided_here rules q name))
