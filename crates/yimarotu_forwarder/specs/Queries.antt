-- What becomes of a query: the rows of a table, from the first to the last.
use Rattle.std.specs.Prelude.{◌≡◌, ℕ, Bool, true, false, ◌&&◌, nat_lt, List, Option, None, Some, Result, Ok, Err, MatchOption, slice_get, if◌then◌else◌}
use Rattle.std.specs.Option.{is_none, option_and_then, option_map_or}
use Rattle.hickory_proto_core.specs.declared.query.Query.{Query}
use Rattle.hickory_proto_wire.specs.Messages.{bit, message_of}
use Rattle.hickory_proto_wire.specs.declared.wire_error.WireFault.{WireFault}
use Rattle.hickory_proto_wire.specs.declared.wire_message.WireMessage.{WireMessage}
use Rattle.client_queries.specs.declared.query.Refusal.TheVariants as refusal
use Rattle.client_queries.specs.declared.query.Verdict.{Verdict}
use Rattle.client_queries.specs.declared.query.Verdict.TheVariants as verdict
use Rattle.client_requests.specs.Keys.{key_of}
use Rattle.client_requests.specs.Replies.{stored_reply}
use Rattle.client_requests.specs.Requests.{RequestValue, request_of}
use Rattle.client_requests.specs.declared.client.Client.{Client}
use Rattle.failure_replies.specs.declared.failure.FailureReason.TheVariants as reason
use Rattle.kept_failures.specs.Failures.{failure_at}
use Rattle.local_answers.specs.Told.{any_reply}
use Rattle.yimarotu_forwarder.specs.Local.{IsDecided}
use Rattle.local_answers.specs.declared.local_data.Decision.{Decision}
use Rattle.local_answers.specs.declared.local_data.Decision.TheVariants as decision
use Rattle.second_chance_cache.specs.SecondChance.{CacheValue, told, asked}
use Rattle.yimarotu_forwarder.specs.Cached.{CachedValue, if_told}
use Rattle.yimarotu_forwarder.specs.Counting.{answered_as, counted}
use Rattle.yimarotu_forwarder.specs.Forwarders.{ForwarderValue, at_moment, second_of}
use Rattle.yimarotu_forwarder.specs.LookingUp.{LooksUp}
use Rattle.yimarotu_forwarder.specs.Options.{may_ask}
use Rattle.yimarotu_forwarder.specs.Replying.{Drops, Fails, Refuses, Replies, TellsLocal}
use Rattle.yimarotu_forwarder.specs.Stale.{stale_hit}
use Rattle.yimarotu_forwarder.specs.Statistics.{counts_reply, is_loopback}
use Rattle.yimarotu_forwarder.specs.declared.answered.Answered.{Answered}
use Rattle.yimarotu_forwarder.specs.declared.answered.Answered.TheVariants.{Dropped}
use Rattle.yimarotu_forwarder.specs.declared.answered.Outcome.{Outcome}
use Rattle.yimarotu_forwarder.specs.declared.answered.Outcome.TheVariants as outcome

-- a request is answered so, from one state of the forwarder to another
abbrev pub Answering : Type 1
Answering = ForwarderValue → Outcome → ForwarderValue → Type 0

-- ---- the question, read

abbrev pub first_query : Result WireMessage WireFault → Option Query
first_query (Ok m) = slice_get m.message.queries 0
first_query (Err fault) = None

-- none where the octets are no message
abbrev pub query_in : RequestValue → Option Query
query_in r = first_query (message_of r.octets)

-- with its question: octets that are no message are refused
abbrev pub WithQuery : (Query → Answering) → RequestValue → Answering
WithQuery Then r before answered after =
    MatchOption (query_in r) (Refuses before r refusal.FormErr answered after) (λ q. Then q before answered after)

-- ---- what is decided here

-- what is known here is told, and else this happens, with the group of servers that is asked
abbrev pub TellsOr : (ℕ → Answering) → RequestValue → Query → Decision → Answering
TellsOr Else r q (decision.Answer kept) before = TellsLocal before r q kept
TellsOr Else r q (decision.Ask group) before = Else group before

pub record Decides (Else : ℕ → Answering) (r : RequestValue) (q : Query) (before : ForwarderValue)
    (answered : Outcome) (after : ForwarderValue) : Type 0 where
  pub found : Decision
  pub decided : IsDecided before.local q (second_of before) found
  pub goes_on : TellsOr Else r q found before answered after

-- nobody is asked: what is not known here is refused
abbrev pub TellsLocalAlone : RequestValue → Answering
TellsLocalAlone r = WithQuery (Decides (λ group before. Refuses before r refusal.Refused) r) r

abbrev pub TellsOrLooksUp : RequestValue → Answering
TellsOrLooksUp r = WithQuery (λ q. Decides (LooksUp r q) r q) r

-- ---- a request for one type of a name

-- What is told counts as asked for again.
abbrev pub with_asked : List ℕ → ForwarderValue → ForwarderValue
with_asked key s = record s { cache = record s.cache { entries = asked key (second_of s) s.cache.entries } }

-- what is kept under a key, up to its end
abbrev pub told_in : CacheValue CachedValue → List ℕ → ℕ → Option CachedValue
told_in cache key now = option_and_then (if_told now) (told key now cache.entries)

-- as it has aged
abbrev pub hit_in : CacheValue CachedValue → RequestValue → List ℕ → Bool → ℕ → Option (List ℕ)
hit_in cache r key trust now =
    option_and_then (λ cached. stored_reply r cached.reply trust now) (told_in cache key now)

abbrev pub hit : RequestValue → ForwarderValue → Option (List ℕ)
hit r s = hit_in s.cache r (key_of r) s.options.trusts_authentic_data (second_of s)

-- what is kept under a key is in the last tenth of the time for which it is
abbrev pub is_ageing : List ℕ → ForwarderValue → Bool
is_ageing key s =
    option_map_or (λ cached. nat_lt cached.fresh_until (second_of s)) (told key (second_of s) s.cache.entries) false

-- Then its question is to be looked up anew, where that is wanted, and no other is.
abbrev pub prefetch_after : List ℕ → ForwarderValue → Option (List ℕ)
prefetch_after key s =
    if s.options.prefetches && is_none s.prefetch && is_ageing key s then Some key else s.prefetch

abbrev pub with_hit : List ℕ → ForwarderValue → ForwarderValue
with_hit key s = record (with_asked key s) { prefetch = prefetch_after key s }

-- a failure that is kept is told again, or in its place what is kept past its end
abbrev pub FailsAgain : RequestValue → Answering
FailsAgain r before answered after =
    MatchOption (stale_hit r (key_of r) before) (Fails before r reason.CachedError answered after)
    (λ octets. Replies before octets outcome.FromCache answered after)

abbrev pub Misses : RequestValue → Answering
Misses r before answered after =
    MatchOption (failure_at (key_of r) (second_of before) before.failures) (TellsOrLooksUp r before answered after)
    (λ why. FailsAgain r before answered after)

abbrev pub AnswersAsked : RequestValue → Answering
AnswersAsked r before answered after =
    MatchOption (hit r before) (Misses r before answered after)
    (λ octets. Replies (with_hit (key_of r) before) octets outcome.FromCache answered after)

-- all types of a name: one record that says that they are not told (RFC 8482, section 4.2)
abbrev pub AnswersAny : RequestValue → Answering
AnswersAny r = WithQuery (λ q before. TellsLocal before r q (any_reply q)) r

abbrev pub AnswersAs : Bool → RequestValue → Answering
AnswersAs true r = AnswersAny r
AnswersAs false r = AnswersAsked r

-- ---- the rows

-- one that may not ask
abbrev pub TurnsAway : Bool → RequestValue → Answering
TurnsAway true r before = Drops before
TurnsAway false r before = Refuses before r refusal.Refused

-- Without RD nobody is asked; then who may not ask is turned away.
abbrev pub ServesBy : Bool → Bool → Answering → RequestValue → Answering
ServesBy false may Then r before = TellsLocalAlone r before
ServesBy true false Then r before = TurnsAway before.options.drops_strangers r before
ServesBy true true Then r before = Then before

abbrev pub Serves : Answering → RequestValue → Answering
Serves Then r before =
    ServesBy (bit 256 r.query.flags) (may_ask r.client.address before.options) Then r before

-- how many queries came before, and what became of them
abbrev pub TellsThem : RequestValue → Query → Answering
TellsThem r q before = TellsLocal before r q (counts_reply q before.counted)

-- A client on this machine is told.
abbrev pub TellsCounts : Bool → RequestValue → Answering
TellsCounts false r before = Refuses before r refusal.Refused
TellsCounts true r before = WithQuery (TellsThem r) r before

abbrev pub AnswersBy : Verdict → RequestValue → Answering
AnswersBy (verdict.Refused why) r before = Refuses before r why
AnswersBy verdict.Statistics r before = TellsCounts (is_loopback r.client.address) r before
AnswersBy verdict.Any r before = Serves (AnswersAs true r) r before
AnswersBy verdict.Asked r before = Serves (AnswersAs false r) r before

-- ---- what became of it is counted

abbrev pub with_counted : Outcome → ForwarderValue → ForwarderValue
with_counted became s = record s { counted = counted became s.counted }

pub record AnswersRequest (before : ForwarderValue) (answered : Answered) (after : ForwarderValue) (r : RequestValue)
    : Type 0 where
  pub became : Outcome
  pub uncounted : ForwarderValue
  pub answers : AnswersBy r.query.verdict r before became uncounted
  pub answered_is : answered ≡ answered_as became
  pub counts : after ≡ with_counted became uncounted

-- Octets of a client come at a moment. What is no query has no reply, and counts nothing.
abbrev pub AnswersQuery : Client → List ℕ → ℕ → ForwarderValue → Answered → ForwarderValue → Type 0
AnswersQuery c octets now before answered after =
    MatchOption (request_of c octets) ((answered ≡ Dropped) × (after ≡ at_moment now before))
    (AnswersRequest (at_moment now before) answered after)
