-- Each request that was told to wait is replied to once at the most, in its turn.
use Rattle.std.specs.Prelude.{◌≡◌, ℕ, Bool, List, [], ◌∷◌, ◌++◌, length, take, drop, filter, Option, None, Some, if◌then◌else◌}
use Rattle.std.specs.List.{AllByRecursion}
use Rattle.std.specs.Option.{option_and_then, option_map_or, option_to_list}
use Rattle.hickory_resolver_pool.specs.Pool.{PoolState}
use Rattle.second_chance_cache.specs.declared.bounds.CacheBounds.{CacheBounds}
use Rattle.client_requests.specs.Keys.{key_eq, key_of}
use Rattle.client_requests.specs.Requests.{RequestValue, request_of, waiting_of}
use Rattle.client_requests.specs.declared.client.Client.{Client}
use Rattle.yimarotu_forwarder.specs.Fetches.{FetchesValue, fetch_at, is_of_client, without_client}
use Rattle.yimarotu_forwarder.specs.Forwarders.{ForwarderValue, ReplyingValue, new_forwarder}
use Rattle.yimarotu_forwarder.specs.Local.{LocalValue}
use Rattle.yimarotu_forwarder.specs.Options.{OptionsValue}
use Rattle.yimarotu_forwarder.specs.Stale.{told_end}
use Rattle.yimarotu_forwarder.specs.Steps.{ForwarderSteps}
use Rattle.yimarotu_forwarder.specs.declared.answered.Answered.TheVariants.{Waits}
use Rattle.yimarotu_forwarder.specs.declared.steps.ForwarderAction.{ForwarderAction}
use Rattle.yimarotu_forwarder.specs.declared.steps.ForwarderAction.TheVariants as act
use Rattle.yimarotu_forwarder_theorems.specs.ReplyOctets.{IsOwnReply}
use Rattle.yimarotu_forwarder_theorems.specs.Runs.{ForwarderEvent, Happening, Runs, client_is_gone, happened, is_stepped, query_comes}

-- ---- requests of one question

-- It is looked up under this key: its name in lower case, its type and class, and what it asks of DNSSEC.
abbrev pub is_under : List ℕ → RequestValue → Bool
is_under key w = key_eq key (key_of w)

abbrev pub under : List ℕ → List RequestValue → List RequestValue
under key requests = filter (is_under key) requests

-- ---- what happened says: who was told to wait, and who was replied to then

-- the request that octets of a client are, as it waits
abbrev pub request_in : Client → List ℕ → Option RequestValue
request_in c octets = option_and_then waiting_of (request_of c octets)

abbrev pub told_to_wait : ForwarderEvent → List RequestValue
told_to_wait (query_comes c octets now Waits) = option_to_list (request_in c octets)
told_to_wait other = []

-- who is still to be told what a look-up came to
abbrev pub untold : Option ReplyingValue → List RequestValue
untold replying = option_map_or (λ r. r.waiting) replying []

-- a reply is for the first of those
abbrev pub replied_by : Option ForwarderAction → ForwarderValue → List RequestValue
replied_by (Some (act.Reply client)) before = take 1 (untold before.replying)
replied_by other before = []

abbrev pub replied_to : ForwarderEvent → ForwarderValue → List RequestValue
replied_to (is_stepped action) before = replied_by action before
replied_to other before = []

-- all that were told to wait, in this order
abbrev pub waited_in : List Happening → List RequestValue
waited_in [] = []
waited_in (happened event before after ∷ past) = waited_in past ++ told_to_wait event

-- all that waited and were replied to, in this order
abbrev pub replied_in : List Happening → List RequestValue
replied_in [] = []
replied_in (happened event before after ∷ past) = replied_in past ++ replied_to event before

-- those of a client that is gone wait no more
abbrev pub without_gone : ForwarderEvent → List RequestValue → List RequestValue
without_gone (client_is_gone client) requests = without_client client requests
without_gone other requests = requests

-- ---- who waits for a question: a queue

-- Who is replied to was the first and leaves; who is gone leaves; who is told to wait comes in at the end.
abbrev pub queue_after : List ℕ → ForwarderEvent → ForwarderValue → List RequestValue → List RequestValue
queue_after key event before queue =
    drop (length (under key (replied_to event before))) (without_gone event queue) ++ under key (told_to_wait event)

abbrev pub queue_in : List ℕ → List Happening → List RequestValue
queue_in key [] = []
queue_in key (happened event before after ∷ past) = queue_after key event before (queue_in key past)

abbrev pub untold_under : List ℕ → Option ReplyingValue → List RequestValue
untold_under key None = []
untold_under key (Some r) = if key_eq key r.key then r.waiting else []

abbrev pub fetched_under : List ℕ → FetchesValue → List RequestValue
fetched_under key f = option_map_or (λ x. x.waiting) (fetch_at key f) []

-- those who are still to be told what a look-up of the key came to, and then those who wait for one that goes on
abbrev pub waiting_under : List ℕ → ForwarderValue → List RequestValue
waiting_under key s = untold_under key s.replying ++ fetched_under key s.fetches

-- Who waits for a question is the queue that what happened makes: so none is lost, and none comes before another that
-- was told to wait earlier.
abbrev pub QuestionsHaveQueues : Type 0
QuestionsHaveQueues =
    (options : OptionsValue) (local : LocalValue) (cache failures : CacheBounds) (pool : PoolState)
    → (past : List Happening) (s : ForwarderValue) → Runs (new_forwarder options local cache failures pool) past s
    → (key : List ℕ) → waiting_under key s ≡ queue_in key past

-- ---- each is replied to once

abbrev pub of_client : ℕ → List RequestValue → List RequestValue
of_client client requests = filter (is_of_client client) requests

-- the client was never gone
abbrev pub IsNotGoneBy : ℕ → Happening → Type 0
IsNotGoneBy client (happened (client_is_gone other) before after) = other ≡ client → ⊥
IsNotGoneBy client other = Unit {0}

-- Of the requests of a client that was never gone, those for each question that were told to wait are those that were
-- replied to since, in their order, and then those that wait now. So none is replied to twice.
abbrev pub EachIsRepliedToOnce : Type 0
EachIsRepliedToOnce =
    (options : OptionsValue) (local : LocalValue) (cache failures : CacheBounds) (pool : PoolState)
    → (past : List Happening) (s : ForwarderValue) → Runs (new_forwarder options local cache failures pool) past s
    → (client : ℕ) → AllByRecursion (IsNotGoneBy client) past → (key : List ℕ)
    → of_client client (under key (waited_in past))
    ≡ of_client client (under key (replied_in past)) ++ of_client client (waiting_under key s)

-- ---- each reply is to its request

-- A step replies to the first request that waits for its question: the number is that of its client, and the octets are
-- those that tell this request what the look-up of its question came to, with its number and its question; or, where it
-- failed, what is kept past its end.
pub record RepliesToFirst (before : ForwarderValue) (client : ℕ) (after : ForwarderValue) : Type 0 where
  pub request : RequestValue
  pub others : List RequestValue
  pub came : ReplyingValue
  pub is_first : waiting_under (key_of request) before ≡ request ∷ others
  pub client_is : client ≡ request.client.number
  pub looked_up : before.replying ≡ Some came
  pub same_key : came.key ≡ key_of request
  pub reply_is : after.reply ≡ told_end request came.key came.end before
  pub own : IsOwnReply request after.reply
  pub others_wait : waiting_under (key_of request) after ≡ others

abbrev pub EachReplyIsToItsRequest : Type 0
EachReplyIsToItsRequest =
    (options : OptionsValue) (local : LocalValue) (cache failures : CacheBounds) (pool : PoolState)
    → (past : List Happening) (s after : ForwarderValue) (client : ℕ)
    → Runs (new_forwarder options local cache failures pool) past s
    → ForwarderSteps s (Some (act.Reply client)) after → RepliesToFirst s client after
