-- The parts of a call, one after another, each over the cache that the one before it left.
use Rattle.std.proofs.Common.{◌≡◌, ◌⊎◌, ℕ, Bool, true, List, [], ◌∷◌, ◌++◌, Result, sym, subst, inl, inr}
use Rattle.std.specs.List.{AllByRecursion}
use Rattle.hickory_proto_core.specs.Name.{NameValue}
use Rattle.hickory_proto_core.specs.NameDecided.{IsReading}
use Rattle.hickory_proto_core.specs.names.name_error.NameError.{NameError}
use Rattle.hickory_proto_core.specs.declared.query.Query.{Query}
use Rattle.hickory_proto_core.specs.codes.record_type.RecordType.{RecordType}
use Rattle.hickory_resolver_model.specs.Cache.{CacheValue}
use Rattle.hickory_resolver_model.specs.Lookup.{LookupResult, question_of}
use Rattle.hickory_resolver_model.specs.Calls.{SubLookup, SubLookupRelation, FamilyOrder, AreSubLookups, CallPlan, AreAttempts}
use Rattle.hickory_resolver_model.specs.Run.{Settings, GivenName, IsGivenBy, Call, AtOnce, Attempt, name_call, address_call, IsCall, RanOutBeforeAsking}

-- parts that answer some questions, from one cache to another
abbrev pub Chain : SubLookupRelation → CacheValue → List SubLookup → CacheValue → Type 0
Chain Answers before [] after = after ≡ before
Chain Answers before (p ∷ ps) after = (with_hosts : Bool) × (q : Query) × (mid : CacheValue) × Answers with_hosts before q p mid × Chain Answers mid ps after

-- what each way to answer gives holds of all parts
pub chain-all : (Answers : SubLookupRelation) (P : SubLookup → Type 0) → ((with_hosts : Bool) (before : CacheValue) (q : Query) (p : SubLookup) (after : CacheValue) → Answers with_hosts before q p after → P p) → (before : CacheValue) (ps : List SubLookup) (after : CacheValue) → Chain Answers before ps after → AllByRecursion P ps
chain-all Answers P holds before [] after e = tt
chain-all Answers P holds before (p ∷ ps) after (with_hosts, q, mid, is, rest) = (holds with_hosts before q p mid is, chain-all Answers P holds mid ps after rest)

pub chain-append : (Answers : SubLookupRelation) (before mid after : CacheValue) (ps qs : List SubLookup) → Chain Answers before ps mid → Chain Answers mid qs after → Chain Answers before (ps ++ qs) after
chain-append Answers before mid after [] qs e k = subst (λ c. Chain Answers c qs after) e k
chain-append Answers before mid after (p ∷ ps) qs (with_hosts, q, next, is, rest) k = (with_hosts, q, next, is, chain-append Answers next mid after ps qs rest k)

pub chain-subs : (Answers : SubLookupRelation) (with_hosts : Bool) (n : NameValue) (plan : FamilyOrder) (before : CacheValue) (results : List LookupResult) (parts : List SubLookup) (after : CacheValue)
    → AreSubLookups Answers with_hosts n plan before results parts after → Chain Answers before parts after
chain-subs Answers with_hosts n plan before results [] after same = same
chain-subs Answers with_hosts n plan before results (p ∷ ps) after (t, mid, next, is, rest) =
    (with_hosts, question_of n t, mid, is, chain-subs Answers with_hosts n plan mid (results ++ p.result ∷ []) ps after rest)

pub chain-none : (Answers : SubLookupRelation) (before : CacheValue) (parts : List SubLookup) (after : CacheValue) → parts ≡ [] → after ≡ before → Chain Answers before parts after
chain-none Answers before parts after e same = subst (λ ps. Chain Answers before ps after) (sym e) same

pub chain-attempts : (Answers : SubLookupRelation) (plan : CallPlan) (with_hosts : Bool) (before : CacheValue) (names : List NameValue) (last : LookupResult → Type 0) (parts : List SubLookup) (result : LookupResult) (after : CacheValue)
    → AreAttempts Answers plan with_hosts before names last parts result after → Chain Answers before parts after
chain-attempts Answers plan with_hosts before [] last parts result after (none, is, same) = chain-none Answers before parts after none same
chain-attempts Answers plan with_hosts before (n ∷ ns) last parts result after (front, back, r, mid, are, attempt, inl (stopped, none, e, same)) =
    subst (λ ps. Chain Answers before ps after) (sym are)
    (chain-append Answers before mid after front back (chain-subs Answers with_hosts n plan.types before [] front mid attempt.are) (chain-none Answers mid back after none same))
chain-attempts Answers plan with_hosts before (n ∷ ns) last parts result after (front, back, r, mid, are, attempt, inr (on, rest)) =
    subst (λ ps. Chain Answers before ps after) (sym are)
    (chain-append Answers before mid after front back (chain-subs Answers with_hosts n plan.types before [] front mid attempt.are) (chain-attempts Answers plan plan.hosts_for_all mid ns (λ x. x ≡ r) back result after rest))

pub chain-call : (Answers : SubLookupRelation) (s : Settings) (before : CacheValue) (call : Call) (parts : List SubLookup) (reply : LookupResult) (after : CacheValue)
    → IsCall Answers s before call parts reply after → Chain Answers before parts after
chain-call Answers s before (AtOnce answer) parts reply after (none, e, same) = chain-none Answers before parts after none same
chain-call Answers s before (Attempt n plan) parts reply after attempts = chain-attempts Answers plan true before _ _ parts reply after attempts

-- the sub-look-ups of a look-up by a name, and of one for addresses
pub chain-name : (Answers : SubLookupRelation) (s : Settings) (before : CacheValue) (text : List ℕ) (t : RecordType) (parts : List SubLookup) (reply : LookupResult) (after : CacheValue)
    → ((name : Result NameValue NameError) × IsReading text name × IsCall Answers s before (name_call t name) parts reply after) ⊎ RanOutBeforeAsking before parts reply after
    → Chain Answers before parts after
chain-name Answers s before text t parts reply after (inl (name, said, is)) = chain-call Answers s before (name_call t name) parts reply after is
chain-name Answers s before text t parts reply after (inr (none, e, same)) = chain-none Answers before parts after none same

pub chain-addresses : (Answers : SubLookupRelation) (s : Settings) (before : CacheValue) (text : List ℕ) (now : ℕ) (parts : List SubLookup) (reply : LookupResult) (after : CacheValue)
    → ((given : GivenName) × IsGivenBy text given × IsCall Answers s before (address_call s given.address given.name now) parts reply after) ⊎ RanOutBeforeAsking before parts reply after
    → Chain Answers before parts after
chain-addresses Answers s before text now parts reply after (inl (given, said, is)) =
    chain-call Answers s before (address_call s given.address given.name now) parts reply after is
chain-addresses Answers s before text now parts reply after (inr (none, e, same)) = chain-none Answers before parts after none same
