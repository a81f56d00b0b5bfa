-- What a call of the resolver comes to: look-ups of its questions, one after another, and a reply made of
-- their results.
use Rattle.std.specs.Prelude.{◌≡◌, ◌⊎◌, ℕ, Bool, true, false, not, ◌||◌, List, [], ◌∷◌, ◌++◌, map, flat_map, Option, Some, None, Ok, Err, if◌then◌else◌}
use Rattle.std.specs.Option.{is_some}
use Rattle.hickory_proto_core.specs.Name.{NameValue}
use Rattle.hickory_proto_core.specs.Query.{root_query}
use Rattle.hickory_proto_core.specs.ResponseKind.{is_empty}
use Rattle.hickory_proto_core.specs.Records.{DataValue, data_type, data_of_address}
use Rattle.std.specs.declared.net.IpAddr.{IpAddr}
use Rattle.hickory_proto_core.specs.declared.query.Query.{Query}
use Rattle.hickory_proto_core.specs.codes.record_type.RecordType.{RecordType}
use Rattle.hickory_proto_core.specs.codes.dns_class.DNSClass.TheVariants as class
use Rattle.hickory_proto_core.specs.declared.recorded.Exchange.{Exchange}
use Rattle.hickory_proto_core.specs.declared.net_error.NetError.TheVariants.{Message, OutOfMemory}
use Rattle.hickory_resolver_model.specs.Bounds.{day}
use Rattle.hickory_resolver_model.specs.Cache.{CacheValue}
use Rattle.hickory_resolver_model.specs.Lookup.{LookupValue, LookupResult, question_of, answers_for_day}
use Rattle.hickory_resolver_model.specs.Hops.{LookupContext, RunsOutForAReply, IsReply}
use Rattle.hickory_resolver_model.specs.Hosts.{Host, append, HostsHave, NotInHosts}

-- where a call starts, the cache aside: the moment, whether intermediate records are preserved, and the table
-- of hosts
pub record CallContext : Type 0 where
  pub now : ℕ
  pub preserve_intermediates : Bool
  pub hosts : List Host

abbrev pub context_over : CallContext → CacheValue → LookupContext
context_over s cache = record { cache = cache; now = s.now; preserve_intermediates = s.preserve_intermediates }

-- a question of a call is answered by the table of hosts, or by the client
pub data Source : Type 0 where
  Hosts : Source
  Client : Source

pub record SubLookup : Type 0 where
  pub question : Query
  pub source : Source
  pub asks : List Exchange
  pub result : LookupResult

-- the table of hosts is looked at for this question, and has it; a copy may find no memory
pub record IsAnsweredByHosts
    (s : CallContext) (with_hosts : Bool) (before : CacheValue) (p : SubLookup) (after : CacheValue)
    : Type 0 where
  pub asks_hosts : with_hosts ≡ true
  pub found : LookupValue
  pub has : HostsHave p.question s.now s.hosts (Some found)
  pub result_is : (p.result ≡ Ok found) ⊎ (p.result ≡ Err OutOfMemory)
  pub nothing_asked : p.asks ≡ []
  pub unchanged : after ≡ before

-- the table is not looked at, or has nothing, and the client's look-up is the hops'
pub record IsAnsweredByClient
    (s : CallContext) (with_hosts : Bool) (before : CacheValue) (p : SubLookup) (after : CacheValue)
    : Type 0 where
  pub not_in_hosts : NotInHosts with_hosts p.question s.now s.hosts
  pub reply : IsReply (context_over s before) p.question p.asks p.result after

abbrev pub IsAnsweredFrom : Source → CallContext → Bool → CacheValue → SubLookup → CacheValue → Type 0
IsAnsweredFrom Hosts s with_hosts before p after = IsAnsweredByHosts s with_hosts before p after
IsAnsweredFrom Client s with_hosts before p after = IsAnsweredByClient s with_hosts before p after

-- how a question of a call is answered, over the cache that the part before left; the flag says whether the
-- hosts are looked at
abbrev pub SubLookupRelation : Type 1
SubLookupRelation = Bool → CacheValue → Query → SubLookup → CacheValue → Type 0

-- by the table of hosts or by the client
abbrev pub IsAnsweredFor : CallContext → SubLookupRelation
IsAnsweredFor s with_hosts before q p after = (p.question ≡ q) × IsAnsweredFrom p.source s with_hosts before p after

-- The same of a call by itself, over exchanges that were answered. Over those that a recording handle keeps, as in a
-- run, there may be none where memory ran out: the handle may have had none to keep the question, which it did not send
abbrev pub IsAnsweredAlone : CallContext → SubLookupRelation
IsAnsweredAlone s with_hosts before q p after =
    IsAnsweredFor s with_hosts before q p after
    × (p.source ≡ Client → RunsOutForAReply (context_over s before) p.question p.asks p.result)

-- which types are looked up for a name: one; both; or the second where the first has no answers
pub data FamilyOrder : Type 0 where
  One : RecordType → FamilyOrder
  Both : RecordType → RecordType → FamilyOrder
  Fallback : RecordType → RecordType → FamilyOrder

abbrev pub has_answers : LookupResult → Bool
has_answers (Ok l) = not (is_empty l.message.answers)
has_answers (Err e) = false

abbrev pub is_out_of_memory : LookupResult → Bool
is_out_of_memory (Ok l) = false
is_out_of_memory (Err OutOfMemory) = true
is_out_of_memory (Err e) = false

-- two results of one name as one: both joined, the one that there is, or the first error
abbrev pub both_results : LookupResult → LookupResult → LookupResult
both_results (Ok l) (Ok k) = Ok (append l k)
both_results (Ok l) (Err e) = Ok l
both_results (Err e) (Ok k) = Ok k
both_results (Err e) (Err f) = Err e

-- The next type that is looked up for a name after these results; none where the attempt is over. Out of
-- memory ends it.
abbrev pub next_type : FamilyOrder → List LookupResult → Option RecordType
next_type (One t) [] = Some t
next_type (One t) (r ∷ rs) = None
next_type (Both t u) [] = Some t
next_type (Both t u) (r ∷ []) = if is_out_of_memory r then None else Some u
next_type (Both t u) (r ∷ k ∷ rs) = None
next_type (Fallback t u) [] = Some t
next_type (Fallback t u) (r ∷ []) = if has_answers r || is_out_of_memory r then None else Some u
next_type (Fallback t u) (r ∷ k ∷ rs) = None

-- The result of an attempt that is over, by the results of its sub-look-ups: the last one's; where both types
-- are wanted, both as one.
abbrev pub attempt_result : FamilyOrder → List LookupResult → LookupResult
attempt_result plan [] = Err OutOfMemory
attempt_result plan (r ∷ []) = r
attempt_result (One t) (r ∷ k ∷ rs) = k
attempt_result (Both t u) (r ∷ k ∷ rs) = if is_out_of_memory k then k else both_results r k
attempt_result (Fallback t u) (r ∷ k ∷ rs) = k

-- both results are answers
abbrev pub are_answers : LookupResult → LookupResult → Bool
are_answers (Ok l) (Ok k) = true
are_answers (Ok l) (Err e) = false
are_answers (Err e) k = false

-- whether two results are made one, which may find no memory: only where both are answers
abbrev pub joins_results : FamilyOrder → List LookupResult → Bool
joins_results (Both t u) (r ∷ k ∷ rs) = are_answers r k
joins_results plan results = false

-- memory is taken for the question of each sub-look-up, and to make two answers one
abbrev pub takes_memory : FamilyOrder → List LookupResult → Bool
takes_memory plan results = is_some (next_type plan results) || joins_results plan results

-- what an attempt comes to: the results of its sub-look-ups as one; or memory runs out, where it is taken
abbrev pub IsAttemptResult : FamilyOrder → List LookupResult → LookupResult → Type 0
IsAttemptResult plan results result =
    ((next_type plan results ≡ None) × (result ≡ attempt_result plan results))
    ⊎ ((takes_memory plan results ≡ true) × (result ≡ Err OutOfMemory))

-- The sub-look-ups of an attempt at a name, each over the cache that the one before it left, after those with
-- these results.
abbrev pub AreSubLookups : SubLookupRelation → Bool → NameValue → FamilyOrder → CacheValue → List LookupResult
    → List SubLookup → CacheValue → Type 0
AreSubLookups Answers with_hosts n plan before results [] after = after ≡ before
AreSubLookups Answers with_hosts n plan before results (p ∷ ps) after =
    (t : RecordType) × (mid : CacheValue) × (next_type plan results ≡ Some t)
    × Answers with_hosts before (question_of n t) p mid
    × AreSubLookups Answers with_hosts n plan mid (results ++ p.result ∷ []) ps after

abbrev pub results_of : List SubLookup → List LookupResult
results_of parts = map (λ p. p.result) parts

-- An attempt at a name: its sub-look-ups, what it comes to by theirs, and the cache after it. Where memory ran
-- out before a sub-look-up, nothing was asked for that one, and it is none of them.
pub record IsAttempt
    (Answers : SubLookupRelation) (with_hosts : Bool) (before : CacheValue) (n : NameValue) (plan : FamilyOrder)
    (parts : List SubLookup) (result : LookupResult) (after : CacheValue)
    : Type 0 where
  pub are : AreSubLookups Answers with_hosts n plan before [] parts after
  pub result_is : IsAttemptResult plan (results_of parts) result

-- an attempt after which no other is made
abbrev pub stops : LookupResult → Bool
stops r = has_answers r || is_out_of_memory r

-- the reply where no attempt has answers: the literal address, if there is one, else what came last
abbrev pub IsLastReply : Option LookupValue → (LookupResult → Type 0) → LookupResult → Type 0
IsLastReply None IsLast result = IsLast result
IsLastReply (Some literal) IsLast result = (result ≡ Ok literal) ⊎ (result ≡ Err OutOfMemory)

-- What a call does with each name: the types that are looked up, whether the hosts are looked at for every
-- name or for the first alone, the literal address that stands in where no attempt has answers, and what is
-- said where there is no name.
pub record CallPlan : Type 0 where
  pub types : FamilyOrder
  pub hosts_for_all : Bool
  pub literal : Option LookupValue
  pub no_names : List ℕ

-- a message error of this text
abbrev pub Says : List ℕ → LookupResult → Type 0
Says text (Err (Message said)) = said.now ≡ text
Says text _ = ⊥

-- Attempts at these names in order, none after the first that has answers, and the reply of the call. The
-- flag says whether the hosts are looked at for the first of the names; without a name left the reply is the
-- last resort or what came last: the result of the attempt before, or what is said where there is no name.
abbrev pub AreAttempts : SubLookupRelation → CallPlan → Bool → CacheValue → List NameValue
    → (LookupResult → Type 0) → List SubLookup → LookupResult → CacheValue → Type 0
AreAttempts Answers plan with_hosts before [] IsLast parts result after =
    (parts ≡ []) × IsLastReply plan.literal IsLast result × (after ≡ before)
AreAttempts Answers plan with_hosts before (n ∷ ns) IsLast parts result after =
    (front : List SubLookup) × (back : List SubLookup) × (r : LookupResult) × (mid : CacheValue)
    × (parts ≡ front ++ back) × IsAttempt Answers with_hosts before n plan.types front r mid
    × (((stops r ≡ true) × (back ≡ []) × (result ≡ r) × (after ≡ mid))
    ⊎ ((stops r ≡ false) × AreAttempts Answers plan plan.hosts_for_all mid ns (λ x. x ≡ r) back result after))

-- record data as the reply that they are by themselves, for a day: owned by this name, under this question
abbrev pub literal_lookup : Query → NameValue → DataValue → ℕ → LookupValue
literal_lookup q owner rdata now =
    answers_for_day q (record {
      name = owner;
      dns_class = class.IN;
      ttl = day;
      rdata = rdata;
    } ∷ []) now

-- the relative name without labels
abbrev pub no_name : NameValue
no_name = record { labels = []; fqdn = false }

-- the address as the reply at once: owned by the name that was read, or by the name without labels, under a
-- question for it
abbrev pub literal_at_once : NameValue → IpAddr → ℕ → LookupValue
literal_at_once owner address now =
    literal_lookup (question_of owner (data_type (data_of_address address))) owner (data_of_address address) now

-- record data as the last resort: under the question for the root, owned by the name without labels
abbrev pub last_resort : DataValue → ℕ → LookupValue
last_resort rdata now = literal_lookup root_query no_name rdata now

-- the exchanges of parts, in order
abbrev pub asks_of_sub_lookups : List SubLookup → List Exchange
asks_of_sub_lookups parts = flat_map (λ p. p.asks) parts
