-- Look-ups and calls that do no I/O, over a cache that nobody else changes: how far they came, by the exchanges that
-- were made. It is what a program keeps that sends each question itself and waits for what comes back.
use Rattle.std.specs.Prelude.{◌≡◌, ◌⊎◌, ◌≤◌, true, false, List, [], ◌++◌, length, Some}
use Rattle.hickory_proto_core.specs.declared.query.Query.{Query}
use Rattle.hickory_proto_core.specs.declared.recorded.Exchange.{Exchange}
use Rattle.hickory_proto_core.specs.codes.record_type.RecordType.{RecordType}
use Rattle.hickory_resolver_model.specs.Cache.{CacheValue}
use Rattle.hickory_resolver_model.specs.Lookup.{LookupResult, question_of}
use Rattle.hickory_resolver_model.specs.Verdict.{first_hop}
use Rattle.hickory_resolver_model.specs.Hops.{LookupContext, GoesUpstream, FollowsAliases, IsReply, one_cache, passed_of}
use Rattle.hickory_resolver_model.specs.Hosts.{NotInHosts}
use Rattle.hickory_resolver_model.specs.Calls.{CallContext, context_over, SubLookup, SubLookupRelation, IsAnsweredAlone, next_type, IsAttemptResult, AreSubLookups, results_of, stops, AreAttempts, asks_of_sub_lookups}
use Rattle.hickory_resolver_model.specs.Resuming.{WaitingValue, ProgressValue, Waits, IsDone}
use Rattle.hickory_resolver_theorems.specs.ResumingCalls.{AttemptValue, WaitingCallValue, CallProgressValue}

-- ---- a look-up of the client

-- these exchanges lead to the hop of a look-up that waits, over the cache of the context, which stands as it was
pub record IsSentAlone
    (s : LookupContext) (question : Query) (asks : List Exchange) (w : WaitingValue) (after : CacheValue)
    : Type 0 where
  pub follows : FollowsAliases s (one_cache s asks) (first_hop question) asks w.hop
  pub passed_are : w.passed ≡ passed_of s asks
  pub now_is : w.now ≡ s.now
  pub few : length asks ≤ 7
  pub upstream : GoesUpstream s w.hop.query
  pub unchanged : after ≡ s.cache

-- it waits, or it is the look-up of the definition
abbrev pub LookupSoFar : LookupContext → Query → List Exchange → ProgressValue → CacheValue → Type 0
LookupSoFar s question asks (Waits w) after = IsSentAlone s question asks w after
LookupSoFar s question asks (IsDone result) after = IsReply s question asks result after

-- ---- a call of the resolver

-- What is left of a call, from an attempt and the results that it has, whose questions are answered in this way: these
-- parts, which come to this result.
abbrev pub IsRestOfCall : SubLookupRelation → AttemptValue → CacheValue → List SubLookup → LookupResult → CacheValue
    → Type 0
IsRestOfCall Answers a before parts result after =
    (front : List SubLookup) × (back : List SubLookup) × (r : LookupResult) × (mid : CacheValue)
    × (parts ≡ front ++ back)
    × AreSubLookups Answers a.with_hosts a.name a.plan.types before a.results front mid
    × IsAttemptResult a.plan.types (a.results ++ results_of front) r
    × (((stops r ≡ true) × (back ≡ []) × (result ≡ r) × (after ≡ mid))
    ⊎ ((stops r ≡ false)
    × AreAttempts Answers a.plan a.plan.hosts_for_all mid a.left (λ x. x ≡ r) back result after))

-- what a call comes to by all its parts: a relation of the parts, the result and the cache after it
abbrev pub CallRelation : Type 1
CallRelation = List SubLookup → LookupResult → CacheValue → Type 0

-- whatever the rest of a call comes to, with the parts that are done it is the whole call
abbrev pub LeadsToWhole : SubLookupRelation → CallRelation → List SubLookup → AttemptValue → CacheValue → Type 0
LeadsToWhole Answers IsWhole done a cache =
    (parts : List SubLookup) (result : LookupResult) (after : CacheValue)
    → IsRestOfCall Answers a cache parts result after → IsWhole (done ++ parts) result after

-- A call that waits: the parts that are done, and the exchanges of the look-up that waits, over the cache that stands.
pub record IsCallSentAlone
    (s : CallContext) (IsWhole : CallRelation) (asks : List Exchange) (w : WaitingCallValue) (cache : CacheValue)
    : Type 0 where
  pub done : List SubLookup
  pub sent : List Exchange
  pub asked_type : RecordType
  pub next : next_type w.attempt.plan.types w.attempt.results ≡ Some asked_type
  pub not_in_hosts : NotInHosts w.attempt.with_hosts (question_of w.attempt.name asked_type) s.now s.hosts
  pub lookup : LookupSoFar (context_over s cache) (question_of w.attempt.name asked_type) sent (Waits w.lookup) cache
  pub asks_are : asks ≡ asks_of_sub_lookups done ++ sent
  pub rest : LeadsToWhole (IsAnsweredAlone s) IsWhole done w.attempt cache

-- these parts made the exchanges, and the call came to this by them
pub record IsCallDoneAlone
    (IsWhole : CallRelation) (asks : List Exchange) (result : LookupResult) (after : CacheValue)
    : Type 0 where
  pub parts : List SubLookup
  pub asks_are : asks ≡ asks_of_sub_lookups parts
  pub whole : IsWhole parts result after

-- it waits, or it is the whole call
abbrev pub CallSoFar : CallContext → CallRelation → List Exchange → CallProgressValue → CacheValue → Type 0
CallSoFar s IsWhole asks (Waits w) cache = IsCallSentAlone s IsWhole asks w cache
CallSoFar s IsWhole asks (IsDone result) cache = IsCallDoneAlone IsWhole asks result cache
