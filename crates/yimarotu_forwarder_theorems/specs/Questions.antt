-- Each reply that a look-up is told was told of a transaction for the question that the look-up had to ask.
use Rattle.std.specs.Prelude.{◌≡◌, ℕ, Bool, true, List}
use Rattle.hickory_proto_core.specs.Query.{query_eq}
use Rattle.hickory_proto_core.specs.declared.query.Query.{Query}
use Rattle.hickory_resolver_config.specs.ResolverConfig.{OptionsValue as PoolOptions}
use Rattle.hickory_resolver_pool.specs.Pool.{no_servers}
use Rattle.hickory_resolver_pool.specs.declared.limits.PoolLimits.{PoolLimits}
use Rattle.hickory_resolver_tries.specs.Question.{is_dnssec_ok}
use Rattle.hickory_resolver_tries.specs.declared.pool_question.PoolQuestion.{PoolQuestion}
use Rattle.second_chance_cache.specs.declared.bounds.CacheBounds.{CacheBounds}
use Rattle.yimarotu_forwarder.specs.Forwarders.{ForwarderValue, new_forwarder}
use Rattle.yimarotu_forwarder.specs.Local.{LocalValue}
use Rattle.yimarotu_forwarder.specs.Options.{OptionsValue}
use Rattle.yimarotu_forwarder_theorems.specs.Lookups.{ToldReply, WasHeard}
use Rattle.yimarotu_forwarder_theorems.specs.Runs.{Happening, Runs}

-- It asks for the same name, case aside, and for the same type and class; and DO is sent with it, or is not.
pub record IsFor (question : PoolQuestion) (q : Query) (dnssec : Bool) : Type 0 where
  pub same : query_eq q question.query ≡ true
  pub with_do : is_dnssec_ok question.opt ≡ dnssec

-- So the first reply that a look-up hears is for the question of its client, and each later one for that to which the
-- one before led.
abbrev pub EachReplyIsToItsQuestion : Type 0
EachReplyIsToItsQuestion =
    (options : OptionsValue) (local : LocalValue) (cache failures : CacheBounds)
    → (pool_options : PoolOptions) (limits : PoolLimits) (seed : List ℕ) (past : List Happening) (s : ForwarderValue)
    → Runs (new_forwarder options local cache failures (no_servers pool_options limits seed)) past s
    → (r : ToldReply) (q : Query) (dnssec : Bool) → WasHeard past r q dnssec → IsFor r.question q dnssec
