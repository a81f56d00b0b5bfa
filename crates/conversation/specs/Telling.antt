-- What the parts of the code say of each other: what is told of a request, and what stands.
use Rattle.std.specs.Prelude.{◌≡◌, ◌⊎◌, Bool, false, List, [], ℕ, ◌++◌, String, string_bytes, Option, Some, Result, Ok, Err}
use Rattle.std.specs.Option.{is_some, option_map}
use Rattle.std.specs.Global.{Global}
use Rattle.std.specs.declared.alloc.AllocError.{AllocError}
use Rattle.hickory_proto_core.specs.Handles.{OutcomeValue}
use Rattle.hickory_proto_core.specs.declared.dns_request.DnsRequestOptions.{DnsRequestOptions}
use Rattle.hickory_resolver.specs.Contexts.{progress_of}
use Rattle.hickory_resolver_model.specs.Calls.{is_out_of_memory}
use Rattle.hickory_resolver_model.specs.Lookup.{LookupResult}
use Rattle.hickory_resolver_model.specs.Resolver.{ResolverValue, new_resolver, settings}
use Rattle.hickory_resolver_model.specs.Hosts.{Host}
use Rattle.hickory_resolver_model.specs.Run.{RequestValue, Settings}
use Rattle.hickory_resolver_model.specs.Cache.{CacheValue}
use Rattle.hickory_resolver_theorems.specs.ResumingCalls.{WaitingCallValue}
use Rattle.hickory_resolver.specs.Requests.{request_of}
use Rattle.hickory_resolver_lookup.specs.declared.request.Request.{Request}
use Rattle.replay_script.specs.FailLine.{error_of}
use Rattle.replay_script.specs.Output.{request_text}
use Rattle.replay_script.specs.declared.fail_line.Failure.{Failure}
use Rattle.replay_script.specs.declared.line.Line.{Line}
use Rattle.replay_script.specs.declared.line.Line.TheVariants as line
use Rattle.replay_script.specs.declared.script.OpenReply.{OpenReply}
use Rattle.replay_script.specs.Configuration.{ConfigurationValue, with_setting}
use Rattle.replay_script.specs.declared.setting.Setting.{Setting as OneSetting}
use Rattle.conversation.specs.Answers as answers
use Rattle.conversation.specs.Answers.{Answer, AnswersSaid, Feeds, IsOpened, Serves, config_of, lines_told, refused, telling, with_line}
use Rattle.conversation.specs.Explaining.{alias_text, stored_text}
use Rattle.conversation.specs.Faults.{RefusalValue, is_memory, of_line, out_of_memory}
use Rattle.conversation.specs.FileSettings.{AreSet, IsSettingRead}
use Rattle.conversation.specs.Files.{FilesValue}
use Rattle.conversation.specs.Hearing.{IsBegunOver, IsFedOut, IsFedWith, IsServedOut, Says, Stands}
use Rattle.conversation.specs.Said.{SaidValue}
use Rattle.conversation.specs.State.{BegunValue, ConversationValue, InFlightValue, Puts, Requests, Serving, Setting, Phase, request_at}
use Rattle.conversation.specs.Texts.{clear_text, fields_text, looked_up_text, send_text}
use Rattle.conversation.specs.declared.heard.Heard.{Heard}
use Rattle.conversation.specs.declared.fault.ConversationFault.{ConversationFault}
use Rattle.conversation.specs.declared.opening.Opened.{Opened}
use Rattle.conversation.specs.declared.requests.Came.{Came}
use Rattle.conversation.specs.declared.requests.Came.TheVariants as came

abbrev pub came_of : Came → answers.Came
came_of (came.Looks progress) = answers.Looks (progress_of progress)
came_of came.Clears = answers.Clears

-- whatever stands under this mark, the requests under others stay
abbrev pub PutsSome : List ℕ → Requests → Requests → Type 0
PutsSome mark before after = (held : Option InFlightValue) × Puts mark held before after

-- the lines that go out, and those for the journal
pub record IsBlock
    (mark : List ℕ) (begun : BegunValue) (cache : CacheValue) (found : LookupResult) (heard : Heard)
    : Type 0 where
  pub explained_is : string_bytes heard.explained ≡ stored_text mark begun cache
  pub remembered : is_out_of_memory found ≡ false
  pub text_is : string_bytes heard.text ≡ looked_up_text mark begun found
  pub journal_is : string_bytes heard.journal ≡ begun.told ++ request_text begun.request
  pub last_is : heard.is_last ≡ false

pub record IsClearBlock (mark : List ℕ) (begun : BegunValue) (heard : Heard) : Type 0 where
  pub explained_is : string_bytes heard.explained ≡ []
  pub text_is : string_bytes heard.text ≡ clear_text mark begun.request
  pub journal_is : string_bytes heard.journal ≡ begun.told ++ request_text begun.request
  pub last_is : heard.is_last ≡ false

-- the line of a question that is to be sent
pub record IsQuestion
    (mark : List ℕ) (begun : BegunValue) (w : WaitingCallValue) (options : DnsRequestOptions) (heard : Heard)
    : Type 0 where
  pub explained_is : string_bytes heard.explained ≡ alias_text mark begun.explains w
  pub text_is : string_bytes heard.text ≡ send_text mark w.lookup.hop.query options
  pub journal_is : string_bytes heard.journal ≡ []
  pub last_is : heard.is_last ≡ false

-- an answer of this kind is told of the request of a mark; or memory ran out
abbrev pub IsAnswerTold : List ℕ → (Answer → Type 0) → Result Heard AllocError → Requests → Requests → Type 0
IsAnswerTold mark Kind (Ok heard) before after =
    (answer : Answer) × Kind answer × Says answer heard × Puts mark answer.held before after
IsAnswerTold mark Kind (Err error) before after = PutsSome mark before after

-- memory ran out under way: the resolver is as it was, or this is left of it
pub record RanOut (mark : List ℕ) (Left : Phase → Type 0) (before after : ConversationValue) : Type 0 where
  pub lines_are : after.lines ≡ before.lines
  pub phase_is : (after.phase ≡ before.phase) ⊎ Left after.phase
  pub requests_are : PutsSome mark before.requests after.requests

-- an answer of this kind is given; or memory ran out
abbrev pub IsAnswered : ConversationValue → List ℕ → (Answer → Type 0) → (Phase → Type 0) → Result Heard AllocError
    → ConversationValue → Type 0
IsAnswered before mark Kind Left (Ok heard) after =
    (answer : Answer) × Kind answer × Says answer heard × Stands mark answer before after
IsAnswered before mark Kind Left (Err error) after = RanOut mark Left before after

-- what a line says is answered; or memory ran out
abbrev pub IsActedUpon : ConversationValue → List ℕ → SaidValue → Result Heard AllocError → ConversationValue → Type 0
IsActedUpon before mark said result after =
    IsAnswered before mark (AnswersSaid before mark said) (IsServedOut before mark said) result after

-- nothing is left
abbrev pub nothing_left : Phase → Type 0
nothing_left phase = ⊥

-- a fault that is not one of memory is told
abbrev pub IsRefused : ConversationValue → List ℕ → RefusalValue → Result Heard AllocError → Type 0
IsRefused c mark refusal (Ok heard) = (is_memory refusal.fault ≡ false) × Says (refused c mark refusal) heard
IsRefused c mark refusal (Err error) = Unit {0}

-- a request that is what was asked, or its fault; or memory ran out
abbrev pub IsAskedOr : (Result RequestValue RefusalValue → Type 0) → Result Request RefusalValue → Type 0
IsAskedOr Asks (Ok request) = Asks (Ok (request_of request))
IsAskedOr Asks (Err refusal) = Asks (Err refusal) ⊎ (refusal ≡ of_line out_of_memory)

-- before the first request this is set, with these files
abbrev pub set_so : ConversationValue → ConfigurationValue → FilesValue → ConversationValue
set_so c configuration files = record c { phase = Setting configuration files }

-- a setting is told to the journal
pub record IsSettingTold (given : List (List ℕ)) (heard : Heard) : Type 0 where
  pub explained_is : string_bytes heard.explained ≡ []
  pub text_is : string_bytes heard.text ≡ []
  pub journal_is : string_bytes heard.journal ≡ fields_text given
  pub last_is : heard.is_last ≡ false

-- ---- requests in flight

-- whether a reply is open for the request of a mark
abbrev pub HasReply : Requests → List ℕ → Bool → Type 0
HasReply requests mark has_reply = option_map (λ r. is_some r.reply) (request_at mark requests) ≡ Some has_reply

-- an answer of a kind that depends on the request of a mark
abbrev pub OfRequest : ConversationValue → List ℕ → (InFlightValue → Answer → Type 0) → Answer → Type 0
OfRequest c mark Kind answer = (r : InFlightValue) → request_at mark c.requests ≡ Some r → Kind r answer

-- that answer is given; or memory ran out, behind an outcome of this kind or before it
abbrev pub IsForRequest : ConversationValue → List ℕ → (InFlightValue → Answer → Type 0)
    → (InFlightValue → OutcomeValue → Type 0) → Result Heard AllocError → ConversationValue → Type 0
IsForRequest before mark Kind Comes result after =
    IsAnswered before mark (OfRequest before mark Kind) (IsFedWith before mark Comes) result after

-- the failure that a line of an outcome says
abbrev pub IsFailureOf : Line → InFlightValue → OutcomeValue → Type 0
IsFailureOf said r outcome =
    (failure : Failure) × (said ≡ line.Fail failure) × (outcome ≡ Err (error_of failure.kind))

-- no outcome
abbrev pub no_outcome : InFlightValue → OutcomeValue → Type 0
no_outcome r outcome = ⊥

-- a request that was taken out goes on; where memory runs out, what is left is of it
abbrev pub IsFed : ConversationValue → List ℕ → BegunValue → WaitingCallValue → OutcomeValue
    → Result Heard AllocError → ConversationValue → Type 0
IsFed before mark begun w outcome (Ok heard) after =
    (answer : Answer) × Feeds mark before.phase begun w outcome answer × Says answer heard
    × Stands mark answer before after
IsFed before mark begun w outcome (Err error) after =
    (after.lines ≡ before.lines) × ((after.phase ≡ before.phase) ⊎ IsFedOut before.phase w outcome after.phase)
    × PutsSome mark before.requests after.requests

-- the request with one more line of what came back, and with this reply
abbrev pub with_reply : List (List ℕ) → Option OpenReply → InFlightValue → InFlightValue
with_reply given reply r = record { begun = with_line r.begun given; waiting = r.waiting; reply = reply }

-- the request of a mark is changed so; or memory ran out
abbrev pub IsChanged : List ℕ → (InFlightValue → InFlightValue) → Result (Unit {0}) AllocError → Requests → Requests
    → Type 0
IsChanged mark change (Ok done) before after =
    (r : InFlightValue) × (request_at mark before ≡ Some r) × Puts mark (Some (change r)) before after
IsChanged mark change (Err error) before after = PutsSome mark before after

-- ---- a resolver

abbrev pub phase_by : {H : Type 0} → ResolverValue H → Phase
phase_by resolver = Serving (settings resolver) resolver.client.cache

-- a new one, of what is configured, over this table of hosts
abbrev pub resolver_over : ConfigurationValue → List Host → ResolverValue (List OutcomeValue)
resolver_over configuration hosts =
    record (new_resolver (config_of configuration) configuration.options []) { hosts = hosts }

-- a resolver is made so; or a fault is told, or memory ran out
abbrev pub IsMadeSo : (Result (Settings × CacheValue) ConversationFault → Type 0)
    → Result (ResolverValue (List OutcomeValue)) ConversationFault → Type 0
IsMadeSo Comes (Ok r) = Comes (Ok (settings r, r.client.cache))
IsMadeSo Comes (Err f) = Comes (Err f) ⊎ (f ≡ out_of_memory)

-- the same, and these lines are told
abbrev pub IsOpenedSo : (Result (Settings × CacheValue) ConversationFault → Type 0) → List ℕ
    → Result Opened ConversationFault → Type 0
IsOpenedSo Comes told (Ok o) =
    Comes (Ok (settings o.resolver, o.resolver.client.cache)) × (string_bytes o.told ≡ told)
IsOpenedSo Comes told (Err f) = Comes (Err f) ⊎ (f ≡ out_of_memory)

-- an answer of this kind is told of the request of a mark, and stands; or memory ran out, and this is left
abbrev pub IsGiven : List ℕ → (Answer → Type 0) → (Phase → Type 0) → Result Heard AllocError → Phase → Requests
    → Requests → Type 0
IsGiven mark Kind Left (Ok heard) phase before after =
    (answer : Answer) × Kind answer × Says answer heard × (phase ≡ answer.phase)
    × Puts mark answer.held before after
IsGiven mark Kind Left (Err error) phase before after = Left phase × PutsSome mark before after

-- ---- the first request

-- a line sets what it sets; or its fault is told, or memory ran out
abbrev pub IsLineSet : List ℕ → ConfigurationValue → Result (Unit {0}) ConversationFault → ConfigurationValue → Type 0
IsLineSet text before (Ok done) after =
    (one : OneSetting) × IsSettingRead text (Ok one) × (after ≡ with_setting one before)
IsLineSet text before (Err f) after = IsSettingRead text (Err f) ⊎ (f ≡ out_of_memory)

abbrev pub AreSetOr : List (List ℕ) → ConfigurationValue → Result (Unit {0}) ConversationFault → ConfigurationValue
    → Type 0
AreSetOr texts before (Ok done) after = AreSet texts before (Ok after)
AreSetOr texts before (Err f) after = AreSet texts before (Err f) ⊎ (f ≡ out_of_memory)

-- the resolver is there: it was, or is made, and what the journal gets of a file is told; or a fault, and nothing changed
abbrev pub IsOpening : ConversationValue → ℕ → Result (String Global) ConversationFault → ConversationValue → Type 0
IsOpening before now (Ok told) after =
    (s : Settings) × (cache : CacheValue) × IsOpened before.phase now (Ok (s, cache))
    × (string_bytes told ≡ lines_told before.phase) × (after ≡ record before { phase = Serving s cache })
IsOpening before now (Err fault) after =
    (IsOpened before.phase now (Err fault) ⊎ (fault ≡ out_of_memory)) × (after ≡ before)

-- a request is begun over the resolver that is there, and the journal gets this first
abbrev pub IsServing : ConversationValue → List ℕ → Bool → RequestValue → List ℕ → Result Heard AllocError
    → ConversationValue → Type 0
IsServing before mark explains request told (Ok heard) after =
    (s : Settings) × (cache : CacheValue) × (before.phase ≡ Serving s cache) × (served : Answer)
    × Serves mark explains request s cache served × Says (telling told served) heard
    × Stands mark (telling told served) before after
IsServing before mark explains request told (Err error) after =
    (after.lines ≡ before.lines) × PutsSome mark before.requests after.requests
    × ((after.phase ≡ before.phase)
    ⊎ ((s : Settings) × (cache : CacheValue) × (before.phase ≡ Serving s cache)
    × IsBegunOver s cache request after.phase))
