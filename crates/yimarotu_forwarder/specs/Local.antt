-- What is known here, without asking.
use Rattle.std.specs.Prelude.{ℕ, List}
use Rattle.hickory_proto_core.specs.Name.{wire_form}
use Rattle.hickory_proto_core.specs.declared.query.Query.{Query}
use Rattle.hickory_resolver_model.specs.Hosts.{Host}
use Rattle.local_answers.specs.Decisions as local
use Rattle.local_answers.specs.declared.local_data.Decision.{Decision}
use Rattle.local_answers.specs.declared.rules.DomainRule.{DomainRule}

-- the hosts, and the rules by domain
pub record LocalValue : Type 0 where
  pub hosts : List Host
  pub rules : List (List ℕ × DomainRule)

-- what is decided of a question at a second
abbrev pub IsDecided : LocalValue → Query → ℕ → Decision → Type 0
IsDecided known q second decision =
    local.IsDecided known.hosts known.rules q (wire_form q.name.labels) second decision
