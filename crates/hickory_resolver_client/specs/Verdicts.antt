-- The verdict of the code, which holds the response where it is not accepted.
use Rattle.std.specs.Prelude.{◌≡◌, Bool, ◌&&◌, ◌||◌, List}
use Rattle.hickory_proto_core.specs.Records.{RecordValue}
use Rattle.hickory_proto_core.specs.Messages.{MessageValue}
use Rattle.hickory_proto_core.specs.declared.query.Query.{Query}
use Rattle.hickory_resolver_model.specs.AliasWalk.{Walk}
use Rattle.hickory_resolver_model.specs.Verdict.{Hop, Verdict, Accepted, LeadsTo, NoMatch, is_match, is_intermediate}
use Rattle.hickory_resolver_client.specs.declared.verdict.Verdict as code
use Rattle.hickory_resolver_client.specs.declared.verdict.Verdict.TheVariants as variant
use Rattle.hickory_resolver_client.specs.declared.verdict.Decision.{Decision}
use Rattle.hickory_resolver_client.specs.declared.verdict.Decision.TheVariants as decision

abbrev pub hop_of : Query → List RecordValue → Hop
hop_of query preserved = record { query = query; preserved = preserved }

abbrev pub IsVerdict : Verdict → MessageValue → code.Verdict → Type 0
IsVerdict (Accepted m) response (variant.Accepted accepted) = accepted ≡ m
IsVerdict (LeadsTo hop) response (variant.LeadsTo next held) = (next ≡ hop) × (held ≡ response)
IsVerdict NoMatch response (variant.NoMatch held) = held ≡ response
IsVerdict _ response _ = ⊥

-- the decision of the code, before the response is moved
abbrev pub IsDecision : Verdict → MessageValue → Decision → Type 0
IsDecision (Accepted m) response decision.Whole = m ≡ response
IsDecision (Accepted m) response (decision.Filtered answers) = m ≡ record response { answers = answers.items }
IsDecision (LeadsTo hop) response (decision.Next next) = next ≡ hop
IsDecision NoMatch response decision.Nothing = Unit {0}
IsDecision _ response _ = ⊥

-- a record that is passed on
abbrev pub is_wanted : Query → Walk → Bool → Bool → RecordValue → Bool
is_wanted q walk matches intermediates r =
    (matches && is_match q walk r) || (intermediates && is_intermediate q r)
