-- A request begins; at the first one the resolver is made.
use Rattle.std.proofs.Common.{◌≡◌, ◌∙◌, ◌⊎◌, ◌++◌, ℕ, Bool, true, false, List, [], Option, None, Some, Result, Ok, Err, IfOk, MatchOption, MatchResult, String, string_bytes, refl, sym, ap, subst, inl, inr}
use Rattle.std.specs.Option.{is_some}
use Rattle.std.specs.Global.{Global}
use Rattle.std.specs.Prelude.{IsSome}
use Rattle.std.specs.declared.alloc.AllocError.{AllocError}
use Rattle.hickory_proto_core.specs.Handles.{OutcomeValue}
use Rattle.hickory_resolver.specs.Reading.{IsBytesRead}
use Rattle.hickory_resolver.specs.hosts.hosts_error.HostsError.{HostsError}
use Rattle.hickory_resolver_model.specs.Bounds.{bounds_fault}
use Rattle.hickory_resolver_model.specs.Cache.{CacheValue}
use Rattle.hickory_resolver_model.specs.Hosts.{Host}
use Rattle.hickory_resolver_model.specs.Options.{bounds_of}
use Rattle.hickory_resolver_model.specs.Resolver.{ResolverValue, settings}
use Rattle.hickory_resolver_model.specs.Run.{RequestValue, Settings, moment_of}
use Rattle.replay_script.specs.Configuration.{ConfigurationValue}
use Rattle.replay_script.specs.declared.fault.ScriptFault.{ScriptFault}
use Rattle.replay_script.specs.declared.fault.ScriptFault.TheVariants as script
use Rattle.conversation.specs.Answers.{Answer, AnswersRequest, BeginsRequest, IsMade, IsMadeWith, IsOpened, Serves, just_begun, lines_told, refused, telling}
use Rattle.conversation.specs.FileSettings.{FileSettingsValue, IsConfigured, file_settings, lines_text}
use Rattle.conversation.specs.Files.{FilesValue}
use Rattle.conversation.specs.Faults.{RefusalValue, hosts_fault, is_memory, of_line, out_of_memory}
use Rattle.conversation.specs.Hearing.{IsBegunOut, IsBegunOver, IsServedOut, Says, Stands}
use Rattle.conversation.specs.Lines.{IsAsked}
use Rattle.conversation.specs.Said as said
use Rattle.conversation.specs.State.{ConversationValue, InFlightValue, Puts, Setting, Serving, Phase, request_at}
use Rattle.conversation.specs.Telling.{IsAnswered, IsGiven, IsMadeSo, IsOpenedSo, IsOpening, IsRefused, IsServing, PutsSome, RanOut, phase_by, resolver_over}
use Rattle.conversation.specs.declared.fault.ConversationFault.{ConversationFault}
use Rattle.conversation.specs.declared.fault.ConversationFault.TheVariants as fault
use Rattle.conversation.specs.declared.heard.Heard.{Heard}
use Rattle.conversation.proofs.Answered.{ran_out_here, stays}
use Rattle.conversation.specs.declared.opening.Opened.{Opened}
use Rattle.conversation.proofs.Held.{puts_same}
use Rattle.conversation.proofs.Told.{tells_phase}

-- ---- the mark

some_case : {A : Type 0} (o : Option A) (P Q : Type 0) → is_some o ≡ true → Q → MatchOption o P (λ r. Q)
some_case None P Q e q = absurd (let h = e in cc)
some_case (Some r) P Q e q = q

none_case : {A : Type 0} (o : Option A) (P Q : Type 0) → is_some o ≡ false → P → MatchOption o P (λ r. Q)
none_case None P Q e p = p
none_case (Some r) P Q e p = absurd (let h = e in cc)

pub mark_used : (c : ConversationValue) (mark : List ℕ) (explains : Bool) (given : List (List ℕ)) → is_some (request_at mark c.requests) ≡ true → AnswersRequest c mark explains given (refused c mark (of_line fault.MarkInUse))
mark_used c mark explains given used =
    some_case (request_at mark c.requests)
    ((asked : Result RequestValue RefusalValue) × IsAsked given asked × MatchResult asked (λ request. BeginsRequest c mark explains request (refused c mark (of_line fault.MarkInUse))) (λ refusal. refused c mark (of_line fault.MarkInUse) ≡ refused c mark refusal))
    (refused c mark (of_line fault.MarkInUse) ≡ refused c mark (of_line fault.MarkInUse))
    used refl

-- what is asked
pub asks : (c : ConversationValue) (mark : List ℕ) (explains : Bool) (given : List (List ℕ)) (answer : Answer) (asked : Result RequestValue RefusalValue) → is_some (request_at mark c.requests) ≡ false → IsAsked given asked
    → MatchResult asked (λ request. BeginsRequest c mark explains request answer) (λ refusal. answer ≡ refused c mark refusal) → AnswersRequest c mark explains given answer
asks c mark explains given answer asked free is kind =
    none_case (request_at mark c.requests)
    ((asked : Result RequestValue RefusalValue) × IsAsked given asked × MatchResult asked (λ request. BeginsRequest c mark explains request answer) (λ refusal. answer ≡ refused c mark refusal))
    (answer ≡ refused c mark (of_line fault.MarkInUse))
    free (asked, is, kind)

-- a fault of the fields, where it is not one of memory
pub asks_fault : (c : ConversationValue) (mark : List ℕ) (explains : Bool) (given : List (List ℕ)) (refusal : RefusalValue) → is_some (request_at mark c.requests) ≡ false
    → IsAsked given (Err refusal) ⊎ (refusal ≡ of_line out_of_memory) → is_memory refusal.fault ≡ false → AnswersRequest c mark explains given (refused c mark refusal)
asks_fault c mark explains given refusal free (inl is) told = asks c mark explains given (refused c mark refusal) (Err refusal) free is refl
asks_fault c mark explains given refusal free (inr out) told = absurd (let h : true ≡ false = sym (ap (λ r. is_memory r.fault) out) ∙ told in cc)

no_request : (o : Option InFlightValue) → is_some o ≡ false → o ≡ None
no_request None e = refl
no_request (Some r) e = absurd (let h = e in cc)

-- the request that is asked was begun, and memory ran out
pub request_left : (c : ConversationValue) (mark : List ℕ) (explains : Bool) (given : List (List ℕ)) (request : RequestValue) (phase : Phase) → is_some (request_at mark c.requests) ≡ false → IsAsked given (Ok request)
    → IsBegunOut c.phase request phase → IsServedOut c mark (said.Request explains given) phase
request_left c mark explains given request phase free asked left = inl (request, asked, no_request (request_at mark c.requests) free, left)

-- ---- the resolver

abbrev Opens : Type 0
Opens = Result (Settings × CacheValue) ConversationFault

abbrev unopened : ConversationFault → Opens
unopened f = Err f

-- it is there
pub opened_already : (c : ConversationValue) (now : ℕ) (s : Settings) (cache : CacheValue) (told : String Global) → c.phase ≡ Serving s cache → string_bytes told ≡ [] → IsOpening c now (Ok told) c
opened_already c now s cache told e none =
    (s, cache, subst (λ x. IsOpened x now (Ok (s, cache))) (sym e) refl, none ∙ sym (ap lines_told e), ap (λ x. record c { phase = x }) e)

some_of : {B : Type 0} (o : Option B) (P Q : Type 0) → IsSome o → Q → MatchOption o P (λ b. Q)
some_of None P Q some q = absurd (let h = some in cc)
some_of (Some b) P Q some q = q

first_of : {B : Type 0} (o : Option B) (P : Type 0) (Q : B → Type 0) → o ≡ None → P → MatchOption o P Q
first_of None P Q e p = p
first_of (Some b) P Q e p = absurd (let h = e in cc)

-- bounds that are reversed
pub bounds_told : (configuration : ConfigurationValue) (hosts : List ℕ) (now : ℕ) (f : ScriptFault) → f ≡ script.ReversedBounds
    → IsSome (bounds_fault (bounds_of configuration.options)) → IsMade configuration hosts now (Err (fault.Script f))
bounds_told configuration hosts now f is reversed =
    some_of (bounds_fault (bounds_of configuration.options)) _ (unopened (fault.Script f) ≡ unopened (fault.Script script.ReversedBounds)) reversed (ap (λ x. unopened (fault.Script x)) is)

-- hosts that cannot be read
pub hosts_told : (configuration : ConfigurationValue) (hosts : List ℕ) (now : ℕ) (error : HostsError) (table : List Host) (f : ConversationFault) → bounds_fault (bounds_of configuration.options) ≡ None
    → IsBytesRead now hosts [] (Err error) table → f ≡ hosts_fault error → IsMade configuration hosts now (Err f)
hosts_told configuration hosts now error table f ordered read is =
    first_of (bounds_fault (bounds_of configuration.options)) _ _ ordered (Err error, table, read, ap unopened is)

-- the resolver is made
pub made : (configuration : ConfigurationValue) (hosts : List ℕ) (now : ℕ) (table : List Host) (result : Result (ResolverValue (List OutcomeValue)) ConversationFault) → bounds_fault (bounds_of configuration.options) ≡ None
    → IsBytesRead now hosts [] (Ok tt) table → result ≡ Ok (resolver_over configuration table) → IsMadeSo (IsMade configuration hosts now) result
made configuration hosts now table result ordered read is =
    let P : Result (ResolverValue (List OutcomeValue)) ConversationFault → Type 0 = λ x. IsMadeSo (IsMade configuration hosts now) x in
    subst P (sym is) (first_of (bounds_fault (bounds_of configuration.options)) _ _ ordered (Ok tt, table, read, refl))

-- of what was set, and behind it of the file
pub made_with : (said : FileSettingsValue) (configuration whole : ConfigurationValue) (hosts : List ℕ) (now : ℕ) (result : Result (ResolverValue (List OutcomeValue)) ConversationFault)
    → IsConfigured said configuration (Ok whole) ⊎ (Ok whole ≡ Err out_of_memory) → IsMadeSo (IsMade whole hosts now) result → IsMadeSo (IsMadeWith said configuration hosts now) result
made_with said configuration whole hosts now (Ok r) (inl is) made = (Ok whole, is, made)
made_with said configuration whole hosts now (Err f) (inl is) (inl told) = inl (Ok whole, is, told)
made_with said configuration whole hosts now (Err f) (inl is) (inr out) = inr out
made_with said configuration whole hosts now result (inr out) made = absurd (let h = out in cc)

abbrev no_whole : ConversationFault → Result ConfigurationValue ConversationFault
no_whole f = Err f

pub not_made : (said : FileSettingsValue) (configuration : ConfigurationValue) (hosts : List ℕ) (now : ℕ) (f : ConversationFault)
    → IsConfigured said configuration (Err f) ⊎ (no_whole f ≡ no_whole out_of_memory) → IsMadeWith said configuration hosts now (Err f) ⊎ (f ≡ out_of_memory)
not_made said configuration hosts now f (inl is) = inl (Err f, is, refl)
not_made said configuration hosts now f (inr out) = inr (let h = out in cc)

-- the resolver is there from now on
pub opened_first : (before after : ConversationValue) (now : ℕ) (configuration : ConfigurationValue) (files : FilesValue) (o : Opened) (told : String Global) → before.phase ≡ Setting configuration files
    → IsOpenedSo (IsMadeWith (file_settings files.resolv) configuration files.hosts now) (lines_text (file_settings files.resolv).lines) (Ok o)
    → told ≡ o.told → after ≡ record before { phase = phase_by o.resolver } → IsOpening before now (Ok told) after
opened_first before after now configuration files o told was (made, lines) told_is is =
    (settings o.resolver, o.resolver.client.cache, subst (λ x. IsOpened x now (Ok (settings o.resolver, o.resolver.client.cache))) (sym was) made, ap string_bytes told_is ∙ lines ∙ sym (ap lines_told was), is)

pub not_opened : (c : ConversationValue) (now : ℕ) (configuration : ConfigurationValue) (files : FilesValue) (f : ConversationFault) → c.phase ≡ Setting configuration files
    → IsMadeWith (file_settings files.resolv) configuration files.hosts now (Err f) ⊎ (f ≡ out_of_memory) → IsOpening c now (Err f) c
not_opened c now configuration files f was (inl is) = (inl (subst (λ x. IsOpened x now (Err f)) (sym was) is), refl)
not_opened c now configuration files f was (inr out) = (inr out, refl)

-- ---- over the resolver

-- the same resolver
same_opened : (phase : Phase) (now moment : ℕ) (s t : Settings) (cache kept : CacheValue) → now ≡ moment → Serving s cache ≡ Serving t kept → IsOpened phase now (Ok (s, cache)) → IsOpened phase moment (Ok (t, kept))
same_opened phase now moment s t cache kept at same opened =
    let one : s ≡ t = let h = same in cc in
    let two : cache ≡ kept = let h = same in cc in
    subst (λ m. IsOpened phase m (Ok (t, kept))) at
    (subst (λ x. IsOpened phase now (Ok (t, x))) two (subst (λ x. IsOpened phase now (Ok (x, cache))) one opened))

pub began : (before mid after : ConversationValue) (mark : List ℕ) (explains : Bool) (request : RequestValue) (now : ℕ) (told : String Global) (result : Result Heard AllocError) → now ≡ moment_of request → IsOpening before now (Ok told) mid
    → IsServing mid mark explains request (string_bytes told) result after → IsAnswered before mark (BeginsRequest before mark explains request) (IsBegunOut before.phase request) result after
began before mid after mark explains request now told (Ok heard) at (s, cache, opened, lines, is) (t, kept, serving, served, serves, says, stands) =
    let P : List ℕ → Type 0 = λ x. Says (telling x served) heard in (
      telling (lines_told before.phase) served,
      (Ok (t, kept), same_opened before.phase now (moment_of request) s t cache kept at (sym (ap (λ c. c.phase) is) ∙ serving) opened, (served, serves, refl)),
      subst P lines says,
      record {
        lines_are = stands.lines_are ∙ ap (λ c. c.lines) is;
        phase_is = stands.phase_is;
        requests_are = subst (λ x. Puts mark served.held x after.requests) (ap (λ c. c.requests) is) stands.requests_are;
      },
    )
began before mid after mark explains request now told (Err e) at (s, cache, opened, lines_are, is) (lines, some, left) = record {
  lines_are = lines ∙ ap (λ c. c.lines) is;
  phase_is = inr (by left);
  requests_are = subst (λ x. PutsSome mark x after.requests) (ap (λ c. c.requests) is) some;
}
  where
    by : (after.phase ≡ mid.phase) ⊎ ((t : Settings) × (kept : CacheValue) × (mid.phase ≡ Serving t kept) × IsBegunOver t kept request after.phase) → (t : Settings) × (kept : CacheValue) × IsOpened before.phase (moment_of request) (Ok (t, kept)) × IsBegunOver t kept request after.phase
    by (inl same) = (s, cache, subst (λ m. IsOpened before.phase m (Ok (s, cache))) at opened, inl (same ∙ ap (λ c. c.phase) is))
    by (inr (t, kept, serving, over)) = (t, kept, same_opened before.phase now (moment_of request) s t cache kept at (sym (ap (λ c. c.phase) is) ∙ serving) opened, over)

-- there is no resolver
pub not_begun : (before mid : ConversationValue) (mark : List ℕ) (explains : Bool) (request : RequestValue) (now : ℕ) (f : ConversationFault) (result : Result Heard AllocError) → now ≡ moment_of request
    → IsOpening before now (Err f) mid → IsRefused mid mark (of_line f) result → IsAnswered before mark (BeginsRequest before mark explains request) (IsBegunOut before.phase request) result mid
not_begun before mid mark explains request now f (Err e) at (why, same) is = subst (λ x. RanOut mark (IsBegunOut before.phase request) before x) (sym same) (ran_out_here before mark (IsBegunOut before.phase request))
not_begun before mid mark explains request now f (Ok heard) at (inl opened, same) is = (
  refused before mark (of_line f),
  (Err f, subst (λ m. IsOpened before.phase m (Err f)) at opened, refl),
  subst (λ x. Says (refused x mark (of_line f)) heard) same is.1,
  subst (λ x. Stands mark (refused before mark (of_line f)) before x) (sym same) (stays before mark (refused before mark (of_line f)) refl refl),
)
not_begun before mid mark explains request now f (Ok heard) at (inr out, same) is = absurd (let h : true ≡ false = sym (ap is_memory out) ∙ is.0 in cc)

-- what is told over a resolver is told of the conversation
pub served : (before after : ConversationValue) (mark : List ℕ) (explains : Bool) (request : RequestValue) (s : Settings) (cache : CacheValue) (result : Result Heard AllocError) (phase : Phase) → before.phase ≡ Serving s cache → after.lines ≡ before.lines → after.phase ≡ phase
    → IsGiven mark (Serves mark explains request s cache) (IsBegunOver s cache request) result phase before.requests after.requests → IsServing before mark explains request [] result after
served before after mark explains request s cache (Ok heard) phase serving lines is (answer, serves, says, stands, puts) =
    (s, cache, serving, answer, serves, says, record { lines_are = lines; phase_is = is ∙ stands; requests_are = puts })
served before after mark explains request s cache (Err e) phase serving lines is (left, some) =
    (lines, some, inr (s, cache, serving, subst (λ x. IsBegunOver s cache request x) (sym is) left))

pub not_served : (c : ConversationValue) (mark : List ℕ) (explains : Bool) (request : RequestValue) (e : AllocError) → IsServing c mark explains request [] (Err e) c
not_served c mark explains request e = (refl, (request_at mark c.requests, puts_same mark c.requests), inl refl)

-- the journal gets this first
pub served_telling : (before after : ConversationValue) (mark : List ℕ) (explains : Bool) (request : RequestValue) (told : List ℕ) (heard : Heard) (result : Result Heard AllocError) → IsServing before mark explains request [] (Ok heard) after
    → IfOk result (λ h. h ≡ record heard { journal = h.journal }) → IfOk result (λ h. string_bytes h.journal ≡ told ++ string_bytes heard.journal) → IsServing before mark explains request told result after
served_telling before after mark explains request told heard (Ok now) (s, cache, serving, answer, serves, says, stands) others journal = (
  s,
  cache,
  serving,
  answer,
  serves,
  record {
    explained_is = ap (λ h. string_bytes h.explained) others ∙ says.explained_is;
    text_is = ap (λ h. string_bytes h.text) others ∙ says.text_is;
    journal_is = journal ∙ ap (λ x. told ++ x) says.journal_is;
    last_is = ap (λ h. h.is_last) others ∙ says.last_is;
  },
  record { lines_are = stands.lines_are; phase_is = stands.phase_is; requests_are = stands.requests_are },
)
served_telling before after mark explains request told heard (Err e) (s, cache, serving, served, (came, left, comes, start, starts, tells), says, stands) others journal =
    (stands.lines_are, (served.held, stands.requests_are), inr (s, cache, serving, inr (came, left, comes, stands.phase_is ∙ tells_phase mark start s (just_begun request explains) came left served tells)))
