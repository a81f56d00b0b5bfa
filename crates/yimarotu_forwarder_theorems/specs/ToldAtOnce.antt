-- What a request is told at once, without waiting for servers.
use Rattle.std.specs.Prelude.{◌≡◌, ℕ, true, List, Some}
use Rattle.hickory_proto_core.specs.declared.query.Query.{Query}
use Rattle.hickory_proto_wire.specs.Messages.{bit}
use Rattle.hickory_resolver_pool.specs.Pool.{PoolState}
use Rattle.client_queries.specs.declared.query.Refusal.{Refusal}
use Rattle.client_queries.specs.declared.query.Verdict.TheVariants.{Any, Statistics}
use Rattle.client_requests.specs.Keys.{key_of}
use Rattle.client_requests.specs.Replies.{failure_reply, refusal_reply, reply_to, stale_reply, stored_reply}
use Rattle.client_requests.specs.Requests.{RequestValue, request_of}
use Rattle.client_requests.specs.declared.client.Client.{Client}
use Rattle.failure_replies.specs.declared.failure.FailureReason.{FailureReason}
use Rattle.local_answers.specs.Told.{any_reply}
use Rattle.local_answers.specs.declared.local_data.Decision.TheVariants.{Answer}
use Rattle.second_chance_cache.specs.declared.bounds.CacheBounds.{CacheBounds}
use Rattle.stored_replies.specs.Stored.{StoredValue}
use Rattle.stored_replies.specs.Told.{asks_dnssec}
use Rattle.whole_replies.specs.Kept.{KeptValue}
use Rattle.yimarotu_forwarder.specs.Forwarders.{ForwarderValue, at_moment, new_forwarder, second_of}
use Rattle.yimarotu_forwarder.specs.Local.{IsDecided, LocalValue}
use Rattle.yimarotu_forwarder.specs.Options.{OptionsValue, may_ask}
use Rattle.yimarotu_forwarder.specs.Queries.{AnswersQuery, query_in}
use Rattle.yimarotu_forwarder.specs.Replying.{end_of}
use Rattle.yimarotu_forwarder.specs.Statistics.{counts_reply, is_loopback}
use Rattle.yimarotu_forwarder.specs.declared.answered.Answered.TheVariants.{Replied}
use Rattle.yimarotu_forwarder_theorems.specs.Lookups.{IsAnswer, IsStaleAnswer, LastsTo}
use Rattle.yimarotu_forwarder_theorems.specs.Runs.{Happening, Runs}

-- ---- what is kept

-- It sets RD, and its client may ask.
pub record MayBeTold (r : RequestValue) (s : ForwarderValue) : Type 0 where
  pub recursion : bit 256 r.query.flags ≡ true
  pub client : may_ask r.client.address s.options ≡ true

-- These octets tell a request an answer that lasts up to this second or longer, as it has aged: with DO as it asks.
pub record TellsAnswer (past : List Happening) (r : RequestValue) (s : ForwarderValue) (reply : List ℕ) : Type 0 where
  pub stored : StoredValue
  pub answer : IsAnswer past (asks_dnssec r.query.edns) stored
  pub lasts : LastsTo stored (second_of s)
  pub told : stored_reply r stored s.options.trusts_authentic_data (second_of s) ≡ Some reply

-- They tell it one that is past its end.
pub record TellsStale (past : List Happening) (r : RequestValue) (s : ForwarderValue) (reply : List ℕ) : Type 0 where
  pub stored : StoredValue
  pub stale : IsStaleAnswer past (asks_dnssec r.query.edns) (key_of r) stored s
  pub told : stale_reply r stored ≡ Some reply

-- ---- what is known here

-- It asks this question, and they tell it what is known of that here, as of this second.
pub record TellsKnown (r : RequestValue) (s : ForwarderValue) (reply : List ℕ) (q : Query) (here : KeptValue)
    : Type 0 where
  pub asks : query_in r ≡ Some q
  pub told : reply ≡ reply_to r (end_of q here (second_of s)) s.options.trusts_authentic_data (second_of s)

-- ---- all that there is

-- An answer that is kept, up to its end or past it; what local data say; to one that asks for all types of a name, the
-- record that says that they are not told; to one of a client on this machine, the counts; that it is refused; or that
-- its question failed, or cannot be looked up.
pub data IsToldAtOnce (past : List Happening) (r : RequestValue) (s : ForwarderValue) (reply : List ℕ) : Type 0 where
  up_to_its_end : MayBeTold r s → TellsAnswer past r s reply → IsToldAtOnce past r s reply
  past_its_end : MayBeTold r s → TellsStale past r s reply → IsToldAtOnce past r s reply
  from_local_data : (q : Query) (here : KeptValue) → IsDecided s.local q (second_of s) (Answer here)
      → TellsKnown r s reply q here → IsToldAtOnce past r s reply
  for_all_types : (q : Query) → r.query.verdict ≡ Any → TellsKnown r s reply q (any_reply q)
      → IsToldAtOnce past r s reply
  from_counts : (q : Query) → r.query.verdict ≡ Statistics → is_loopback r.client.address ≡ true
      → TellsKnown r s reply q (counts_reply q s.counted) → IsToldAtOnce past r s reply
  refused : (why : Refusal) → reply ≡ refusal_reply r why → IsToldAtOnce past r s reply
  failed : (why : FailureReason) → reply ≡ failure_reply r why → IsToldAtOnce past r s reply

-- What octets of a client are told at once, at the moment at which they come, is one of these.
abbrev pub AnswersAtOnceAreOfReplies : Type 0
AnswersAtOnceAreOfReplies =
    (options : OptionsValue) (local : LocalValue) (cache failures : CacheBounds) (pool : PoolState)
    → (past : List Happening) (before after : ForwarderValue)
    → Runs (new_forwarder options local cache failures pool) past before
    → (c : Client) (octets : List ℕ) (now : ℕ) → AnswersQuery c octets now before Replied after
    → (r : RequestValue) → request_of c octets ≡ Some r
    → IsToldAtOnce past r (at_moment now before) after.reply
