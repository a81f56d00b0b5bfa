-- Requests that wait for what servers say.
use Rattle.std.specs.Prelude.{◌≡◌, ℕ, Bool, true, false, List, [], ◌∷◌, length, Option, None, MatchOption, ◌&&◌, nat_lt}
use Rattle.std.specs.declared.net.IpAddr.{IpAddr}
use Rattle.hickory_proto_core.specs.declared.query.Query.{Query}
use Rattle.hickory_proto_wire.specs.Messages.{bit}
use Rattle.hickory_resolver_model.specs.Options.{request_options_of}
use Rattle.hickory_resolver_pool.specs.Pool.{after_asking, asking_told, list_of, settings_for}
use Rattle.hickory_resolver_pool.specs.declared.pool.Asked as pool_asked
use Rattle.hickory_resolver_pool.specs.declared.pool.Asked.TheVariants as asked
use Rattle.hickory_resolver_tries.specs.Question as tries
use Rattle.hickory_resolver_tries.specs.declared.pool_question.DnssecOptions.{DnssecOptions}
use Rattle.hickory_resolver_tries.specs.declared.pool_question.PoolQuestion.{PoolQuestion}
use Rattle.client_limits.specs.Counts.{CountsValue, added, admits}
use Rattle.client_queries.specs.declared.query.Refusal.TheVariants as refusal
use Rattle.client_requests.specs.Keys.{key_of}
use Rattle.client_requests.specs.Requests.{RequestValue, waiting_of}
use Rattle.failure_replies.specs.declared.failure.FailureReason.TheVariants as reason
use Rattle.stored_replies.specs.Told.{asks_dnssec}
use Rattle.whole_lookups.specs.Lookups.{begun}
use Rattle.yimarotu_forwarder.specs.Fetches.{Begins, ChangesFetch, FetchValue, fetch_at, has_request, with_waiting}
use Rattle.yimarotu_forwarder.specs.Forwarders.{ForwarderValue, with_pool}
use Rattle.yimarotu_forwarder.specs.Late.{late_after, late_hit}
use Rattle.yimarotu_forwarder.specs.Replying.{Drops, Fails, Refuses, Replies}
use Rattle.yimarotu_forwarder.specs.declared.answered.Outcome.{Outcome}
use Rattle.yimarotu_forwarder.specs.declared.answered.Outcome.TheVariants as outcome

-- ---- where there is no place

-- A client that asks by a stream is told so; one that asks by a datagram is dropped, and asks again by itself.
abbrev pub IsPastBoundBy : Bool → RequestValue → ForwarderValue → Outcome → ForwarderValue → Type 0
IsPastBoundBy true r before = Fails before r reason.NotReady
IsPastBoundBy false r before = Drops before

abbrev pub IsPastBound : RequestValue → ForwarderValue → Outcome → ForwarderValue → Type 0
IsPastBound r = IsPastBoundBy r.client.is_stream r

-- ---- what is asked of the servers

-- DO and CD as the client said, and AD where it is passed on (RFC 6840, section 5.7)
abbrev pub dnssec_of : Bool → Bool → ForwarderValue → DnssecOptions
dnssec_of dnssec checking_disabled s = record {
  dnssec_ok = dnssec;
  checking_disabled = checking_disabled;
  authentic_data = s.options.trusts_authentic_data;
}

-- the question that a fetch has to ask, and what is asked of DNSSEC
abbrev pub next_question : ForwarderValue → FetchValue → Query × DnssecOptions
next_question s f = (f.lookup.next, dnssec_of f.lookup.dnssec f.checking_disabled s)

abbrev pub pool_question : Query → Bool → Bool → ForwarderValue → PoolQuestion
pool_question q dnssec checking_disabled s =
    tries.question_of q (request_options_of s.pool.options) (dnssec_of dnssec checking_disabled s)

-- what the pool says to that, and the pool after it
abbrev pub pool_says : ℕ → PoolQuestion → ForwarderValue → pool_asked.Asked
pool_says group question s = asking_told (list_of group s.pool.traffic) question s.pool

abbrev pub after_ask : ℕ → PoolQuestion → ForwarderValue → ForwarderValue
after_ask group question s =
    with_pool (after_asking (list_of group s.pool.traffic) question
    (settings_for s.pool.options (request_options_of s.pool.options)) s.clock s.pool) s

-- one more waits where the question is on its way
abbrev pub counts_after : pool_asked.Asked → IpAddr → CountsValue → CountsValue
counts_after (asked.Asker a) address counts = added address counts
counts_after other address counts = counts

-- ---- a fetch begins

abbrev pub new_fetch : Query → RequestValue → RequestValue → ℕ → ℕ → FetchValue
new_fetch q r waiting generation began = record {
  lookup = begun q (asks_dnssec r.query.edns);
  checking_disabled = bit 16 r.query.flags;
  heard = None;
  generation = generation;
  began = began;
  waiting = waiting ∷ [];
}

pub record BeginsFetch (q : Query) (r waiting : RequestValue) (asker : ℕ) (before : ForwarderValue)
    (answered : Outcome) (after : ForwarderValue) : Type 0 where
  pub waits : answered ≡ outcome.Waits
  pub begins :
      Begins (key_of r) (new_fetch q r waiting before.generation before.clock) asker before.fetches after.fetches
  pub others_are : after ≡ record before {
    counts = added r.client.address before.counts;
    fetches = after.fetches;
    late = late_after (key_of r) before;
  }

-- as the pool said
abbrev pub BeginsBy : pool_asked.Asked → Query → RequestValue → RequestValue → ForwarderValue → Outcome
    → ForwarderValue → Type 0
BeginsBy (asked.Asker a) q r waiting before = BeginsFetch q r waiting a.number before
BeginsBy asked.Overloaded q r waiting before = IsPastBound r before
BeginsBy asked.NoServers q r waiting before = Fails before r reason.NoReachableAuthority

abbrev pub BeginsWith : Query → RequestValue → PoolQuestion → ℕ → ForwarderValue → Outcome → ForwarderValue
    → RequestValue → Type 0
BeginsWith q r question group before answered after waiting =
    BeginsBy (pool_says group question before) q r waiting (after_ask group question before) answered after

abbrev pub BeginsOr : Bool → Query → RequestValue → ℕ → ForwarderValue → Outcome → ForwarderValue → Type 0
BeginsOr false q r group before answered after = IsPastBound r before answered after
BeginsOr true q r group before answered after =
    MatchOption (waiting_of r) (Refuses before r refusal.FormErr answered after)
    (BeginsWith q r (pool_question q (asks_dnssec r.query.edns) (bit 16 r.query.flags) before) group before answered
    after)

-- One more may wait. No more questions are looked up than clients may wait, also where those for whom they are wait no
-- more.
abbrev pub may_begin : RequestValue → ForwarderValue → Bool
may_begin r s =
    admits s.options.limits r.client.address 0 s.counts && nat_lt (length s.fetches.fetches) s.options.limits.all

abbrev pub BeginsLookup : Query → RequestValue → ℕ → ForwarderValue → Outcome → ForwarderValue → Type 0
BeginsLookup q r group before = BeginsOr (may_begin r before) q r group before

-- ---- one more waits for a fetch

pub record JoinsFetch (r : RequestValue) (before : ForwarderValue) (answered : Outcome) (after : ForwarderValue)
    (waiting : RequestValue) : Type 0 where
  pub waits : answered ≡ outcome.Waits
  pub joins : ChangesFetch (key_of r) (with_waiting waiting) before.fetches after.fetches
  pub others_are : after ≡ record before {
    counts = added r.client.address before.counts;
    fetches = after.fetches;
  }

abbrev pub JoinsOr : Bool → RequestValue → ForwarderValue → Outcome → ForwarderValue → Type 0
JoinsOr false r before answered after = IsPastBound r before answered after
JoinsOr true r before answered after =
    MatchOption (waiting_of r) (Refuses before r refusal.FormErr answered after) (JoinsFetch r before answered after)

-- Where the look-up is late, it is told what is kept past its end.
abbrev pub JoinsOrTold : Option (List ℕ) → ℕ → RequestValue → ForwarderValue → Outcome → ForwarderValue → Type 0
JoinsOrTold told waiting r before answered after =
    MatchOption told
    (JoinsOr (admits before.options.limits r.client.address waiting before.counts) r before answered after)
    (λ octets. Replies before octets outcome.FromCache answered after)

-- One that was asked before and is in flight is dropped, and counts nothing.
abbrev pub JoinsBy : Bool → FetchValue → RequestValue → ForwarderValue → Outcome → ForwarderValue → Type 0
JoinsBy true f r before = Drops before
JoinsBy false f r before = JoinsOrTold (late_hit f r before) (length f.waiting) r before

abbrev pub JoinsLookup : RequestValue → ForwarderValue → Outcome → ForwarderValue → FetchValue → Type 0
JoinsLookup r before answered after f = JoinsBy (has_request r f) f r before answered after

-- ---- a question is looked up once for all who ask it

abbrev pub LooksUp : RequestValue → Query → ℕ → ForwarderValue → Outcome → ForwarderValue → Type 0
LooksUp r q group before answered after =
    MatchOption (fetch_at (key_of r) before.fetches) (BeginsLookup q r group before answered after)
    (JoinsLookup r before answered after)
