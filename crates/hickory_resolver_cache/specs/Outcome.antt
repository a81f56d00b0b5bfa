-- Outcomes as a cache keeps them.
use Rattle.std.specs.Prelude.{◌≡◌, ℕ, ◌==◌, [], ◌∷◌, map, length, Option, None, Ok, Err, if◌then◌else◌}
use Rattle.std.specs.declared.net.IpAddr.{IpAddr}
use Rattle.hickory_proto_core.specs.Handles.{OutcomeValue}
use Rattle.hickory_proto_core.specs.Messages.{MessageValue}
use Rattle.hickory_proto_core.specs.Records.{data_of_address}
use Rattle.hickory_proto_core.specs.declared.query.Query.{Query}
use Rattle.hickory_resolver_model.specs.Cache.{CacheValue, Entry, entry_of}
use Rattle.hickory_resolver_cache.specs.declared.outcome.Form.{Form}
use Rattle.hickory_resolver_cache.specs.declared.outcome.Form.TheVariants.{Address, Answer, Failure}

-- a message of one question, one answer with this address and no other record
abbrev pub IsAddressAnswer : IpAddr → MessageValue → Type 0
IsAddressAnswer address m =
    (length m.queries ≡ 1) × (map (λ r. r.rdata) m.answers ≡ data_of_address address ∷ [])
    × (m.authorities ≡ []) × (m.additionals ≡ [])

-- the outcome, by the form that it is kept in
abbrev pub outcome_of : Form → OutcomeValue
outcome_of (Address message) = Ok message
outcome_of (Answer message) = Ok message
outcome_of (Failure error) = Err error.value

-- the entry that an outcome becomes in a cache, and none in a cache without room
abbrev pub kept_entry : CacheValue → Query → OutcomeValue → ℕ → Option Entry
kept_entry c q outcome now = if c.capacity == 0 then None else entry_of c.config q outcome now
