-- What a question means without a cache: by a table of outcomes alone, with no time, no store and no limit on
-- hops.
use Rattle.std.specs.Prelude.{◌≡◌, ◌≤◌, ℕ, suc, false, List, Some, None, Err}
use Rattle.std.specs.List.{IsDistinct, AllByRecursion}
use Rattle.std.specs.Map.{keys_of}
use Rattle.hickory_proto_core.specs.Query.{query_eq}
use Rattle.hickory_proto_core.specs.ResponseKind.{kind_of}
use Rattle.hickory_proto_core.specs.Handles.{OutcomeValue}
use Rattle.hickory_proto_core.specs.Table.{TableValue, outcome_in}
use Rattle.hickory_proto_core.specs.declared.query.Query.{Query}
use Rattle.hickory_proto_core.specs.declared.recorded.Exchange.{Exchange}
use Rattle.hickory_proto_core.specs.declared.net_error.NetError.TheVariants.{OutOfMemory}
use Rattle.hickory_resolver_model.specs.SpecialUse.{special_use_result}
use Rattle.hickory_resolver_model.specs.Verdict.{Hop, LeadsTo, first_hop}
use Rattle.hickory_resolver_model.specs.Hops.{LookupContext, result_when_asked, verdict_on}
use Rattle.hickory_resolver_model.specs.Client.{empty_cache}
use Rattle.hickory_resolver_theorems.specs.Cores.{ReplyCore, reply_core, AgreeInCore}
use Rattle.hickory_resolver_model.specs.Lookup.{LookupResult}

-- a table of outcomes, no two for equal questions
abbrev pub IsTable : TableValue → Type 0
IsTable table = IsDistinct query_eq (keys_of table)

-- where a look-up without a cache starts: nothing is stored, intermediate records are not wanted. The bounds
-- and the moment do not show in what a reply comes to
abbrev pub cacheless_context : LookupContext
cacheless_context = record { cache = empty_cache 0; now = 0; preserve_intermediates = false }

-- The meaning of a question under a table, with the number of questions on its way: a special name's reply;
-- the reply for an outcome that leads to no other name; or the meaning of the name that it leads to.
pub data ResolvesTo (table : TableValue) : Query → ReplyCore → ℕ → Type 0 where
  at_special : {q : Query} {reply : LookupResult} → special_use_result q 0 ≡ Some reply
      → ResolvesTo table q (reply_core reply) 1
  at_last : {q : Query} {outcome : OutcomeValue} → special_use_result q 0 ≡ None
      → outcome_in q table ≡ Some outcome
      → ((next : Hop) → verdict_on cacheless_context (first_hop q) (kind_of outcome)
      ≡ Some (LeadsTo next) → ⊥)
      → ResolvesTo table q (reply_core (result_when_asked cacheless_context (first_hop q) (kind_of outcome))) 1
  at_alias : {q : Query} {next : Hop} {outcome : OutcomeValue} {reply : ReplyCore} {n : ℕ}
      → special_use_result q 0 ≡ None → outcome_in q table ≡ Some outcome
      → verdict_on cacheless_context (first_hop q) (kind_of outcome) ≡ Some (LeadsTo next)
      → ResolvesTo table next.query reply n → ResolvesTo table q reply (suc n)

-- a question means something, by eight questions at most, special names among them
abbrev pub MeansWithinEight : TableValue → Query → Type 0
MeansWithinEight table q = (reply : ReplyCore) × (n : ℕ) × ResolvesTo table q reply n × (n ≤ 8)

-- the table has each question that was asked, with an outcome that agrees, out of memory aside
abbrev pub IsConsistentWith : TableValue → Exchange → Type 0
IsConsistentWith table x =
    (x.outcome ≡ Err OutOfMemory → ⊥)
    → (outcome : OutcomeValue) × (outcome_in x.query table ≡ Some outcome)
    × AgreeInCore outcome x.outcome

abbrev pub AreConsistentWith : TableValue → List Exchange → Type 0
AreConsistentWith table xs = AllByRecursion (IsConsistentWith table) xs
