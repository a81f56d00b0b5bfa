-- A conversation: what is set before the first request; from then on a resolver; and the requests in flight.
use Rattle.std.specs.Prelude.{◌≡◌, ◌+◌, ◌-◌, ◌^◌, ℕ, Bool, List, map, min, String, string_bytes, Option, None, Some, if◌then◌else◌}
use Rattle.std.specs.Global.{Global}
use Rattle.std.specs.Map.{lookup}
use Rattle.std.specs.Str.{bytes_eq}
use Rattle.hickory_proto_core.specs.Handles.{OutcomeValue}
use Rattle.hickory_proto_core.specs.declared.query.Query.{Query}
use Rattle.hickory_resolver_model.specs.Cache.{CacheValue}
use Rattle.hickory_resolver_model.specs.Resolver.{ResolverValue, settings}
use Rattle.hickory_resolver_model.specs.Run.{RequestValue, Settings}
use Rattle.hickory_resolver.specs.Requests.{request_of}
use Rattle.hickory_resolver_theorems.specs.ResumingCalls.{WaitingCallValue}
use Rattle.replay_script.specs.Configuration.{ConfigurationValue}
use Rattle.replay_script.specs.declared.script.OpenReply.{OpenReply}
use Rattle.conversation.specs.Files.{FilesValue}
use Rattle.conversation.specs.declared.in_flight.Begun.{Begun}
use Rattle.conversation.specs.declared.in_flight.InFlight.{InFlight}
use Rattle.conversation.specs.declared.state.State.{State}

-- a request, whether it asks how it comes about, the questions that were sent for it, and the lines of what came back,
-- as a script has them
pub record BegunValue : Type 0 where
  pub request : RequestValue
  pub explains : Bool
  pub sent : List Query
  pub told : List ℕ

-- a request that waits for what comes back to the last of its questions, and the reply so far, where one is open
pub record InFlightValue : Type 0 where
  pub begun : BegunValue
  pub waiting : WaitingCallValue
  pub reply : Option OpenReply

-- each under its mark
abbrev pub Requests : Type 0
Requests = List (List ℕ × InFlightValue)

-- what is set so far, with the files that were said; or, from the first request on, the settings of the resolver, with
-- its table of hosts, and its cache
pub data Phase : Type 0 where
  Setting : ConfigurationValue → FilesValue → Phase
  Serving : Settings → CacheValue → Phase

-- how many lines were heard, what is set, and the requests in flight
pub record ConversationValue : Type 0 where
  pub lines : ℕ
  pub phase : Phase
  pub requests : Requests

-- ---- requests in flight

-- the request of a mark
abbrev pub request_at : List ℕ → Requests → Option InFlightValue
request_at mark requests = lookup (λ m. bytes_eq mark m) requests

-- under this mark is now this request, or none; those under other marks stay
abbrev pub Puts : List ℕ → Option InFlightValue → Requests → Requests → Type 0
Puts mark held before after =
    (other : List ℕ) → request_at other after ≡ (if bytes_eq mark other then held else request_at other before)

-- ---- lines

-- one more line; the numbers end with those of 64 bits
abbrev pub next_line : ℕ → ℕ
next_line count = min (count + 1) (2 ^ 64 - 1)

abbrev pub counted : ConversationValue → ConversationValue
counted c = record c { lines = next_line c.lines }

-- ---- the code's conversation

abbrev pub begun_of : Begun → BegunValue
begun_of b = record {
  request = request_of b.request;
  explains = b.explains;
  sent = b.sent.items;
  told = string_bytes b.told;
}

abbrev pub in_flight_of : InFlight → InFlightValue
in_flight_of r = record { begun = begun_of r.begun; waiting = r.waiting; reply = r.reply }

abbrev pub requests_of : List (String Global × InFlight) → Requests
requests_of entries = map (λ e. (string_bytes e.0, in_flight_of e.1)) entries

abbrev pub phase_of : ConfigurationValue → FilesValue → Option (ResolverValue (List OutcomeValue)) → Phase
phase_of configuration files None = Setting configuration files
phase_of configuration files (Some resolver) = Serving (settings resolver) resolver.client.cache

abbrev pub conversation_of : State → ConversationValue
conversation_of s = record {
  lines = s.lines;
  phase = phase_of s.configuration s.files s.resolver;
  requests = requests_of s.requests.entries;
}
