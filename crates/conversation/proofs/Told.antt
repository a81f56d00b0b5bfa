-- What is told of a request over a resolver.
use Rattle.std.proofs.Common.{◌≡◌, ◌∙◌, ◌⊎◌, ℕ, Bool, false, List, [], ◌∷◌, ◌++◌, None, Some, Result, Ok, Err, IfOk, IsErr, OnErr, OnOk, String, string_bytes, refl, sym, ap, subst, append-nil, inl, inr}
use Rattle.std.specs.Global.{Global}
use Rattle.std.specs.declared.alloc.AllocError.{AllocError}
use Rattle.hickory_proto_core.specs.Handles.{OutcomeValue}
use Rattle.hickory_proto_core.specs.NameGiven.{IsReadName, IsReadAddress}
use Rattle.hickory_proto_core.specs.codes.record_type.RecordType.{RecordType}
use Rattle.hickory_proto_core.specs.declared.dns_request.DnsRequestOptions.{DnsRequestOptions}
use Rattle.hickory_resolver.specs.Contexts.{progress_of}
use Rattle.hickory_resolver.specs.Driving.{CallProgress}
use Rattle.hickory_resolver.specs.Starting.{KeepsAllButCache, ResumesAt, StartsHost, StartsName}
use Rattle.hickory_resolver_model.specs.Resuming.{Waits, IsDone}
use Rattle.hickory_resolver_model.specs.Cache.{CacheValue}
use Rattle.hickory_resolver_model.specs.Lookup.{LookupResult}
use Rattle.hickory_resolver_model.specs.Resolver.{ResolverValue, settings}
use Rattle.hickory_resolver_model.specs.Run.{RequestValue, Lookup, LookupIp, Settings, address_call, call_context_at}
use Rattle.hickory_resolver_theorems.specs.ResumingCalls.{WaitingCallValue, CallProgressValue, RunsOutAtStart, StartsCall}
use Rattle.conversation.specs.Answers.{Answer, Came, Clears, ComesTo, Feeds, Looks, Serves, Tells, asking, just_begun}
use Rattle.conversation.specs.Explaining.{IsStartExplained, alias_text}
use Rattle.conversation.specs.Hearing.{IsBegunOver, IsFedOut}
use Rattle.conversation.specs.State.{BegunValue, Puts, Requests, Serving, requests_of}
use Rattle.conversation.specs.Telling.{IsBlock, IsClearBlock, IsGiven, IsQuestion, IsAnswerTold, PutsSome, phase_by}
use Rattle.replay_script.specs.Output.{request_text}
use Rattle.conversation.specs.Texts.{clear_text, send_text}
use Rattle.conversation.specs.declared.heard.Heard.{Heard}
use Rattle.conversation.specs.declared.in_flight.InFlight.{InFlight}
use Rattle.conversation.proofs.Held.{some_stays}

-- ---- how far a request came

pub told_waits : (mark : List ℕ) (s : Settings) (begun : BegunValue) (w : WaitingCallValue) (cache : CacheValue) (result : Result Heard AllocError) (es fs : List (String Global × InFlight)) (options : DnsRequestOptions)
    → options ≡ s.request_options → IfOk result (IsQuestion mark begun w options) → OnOk result (Puts mark (Some (asking begun w)) (requests_of es) (requests_of fs)) → OnErr result (fs ≡ es)
    → IsAnswerTold mark (Tells mark [] s begun (Looks (Waits w)) cache) result (requests_of es) (requests_of fs)
told_waits mark s begun w cache (Ok heard) es fs options by told puts same = (
  record {
    explained = alias_text mark begun.explains w;
    text = send_text mark w.lookup.hop.query s.request_options;
    journal = [];
    is_last = false;
    phase = Serving s cache;
    held = Some (asking begun w);
  },
  refl,
  record { explained_is = told.explained_is; text_is = told.text_is ∙ ap (send_text mark w.lookup.hop.query) by; journal_is = told.journal_is; last_is = told.last_is },
  puts,
)
told_waits mark s begun w cache (Err e) es fs options by told puts same = subst (λ x. PutsSome mark (requests_of es) (requests_of x)) (sym same) (some_stays mark (requests_of es))

-- the request is kept, with its question
pub kept_asking : (mark key : List ℕ) (begun now : BegunValue) (w : WaitingCallValue) (before after : Requests)
    → key ≡ mark → now ≡ record begun { sent = begun.sent ++ w.lookup.hop.query ∷ [] }
    → Puts key (Some (record { begun = now; waiting = w; reply = None })) before after → Puts mark (Some (asking begun w)) before after
kept_asking mark key begun now w before after key_is now_is puts =
    subst (λ k. Puts k (Some (asking begun w)) before after) key_is
    (subst (λ b. Puts key (Some (record { begun = b; waiting = w; reply = None })) before after) now_is puts)

pub told_done : (mark : List ℕ) (s : Settings) (begun : BegunValue) (found : LookupResult) (cache : CacheValue) (result : Result Heard AllocError) (before after : Requests)
    → IfOk result (IsBlock mark begun cache found) → Puts mark None before after → IsAnswerTold mark (Tells mark [] s begun (Looks (IsDone found)) cache) result before after
told_done mark s begun found cache (Ok heard) before after block puts =
    (record { explained = _; text = _; journal = _; is_last = false; phase = Serving s cache; held = None }, (block.remembered, refl), record { explained_is = block.explained_is; text_is = block.text_is; journal_is = block.journal_is; last_is = block.last_is }, puts)
told_done mark s begun found cache (Err e) before after block puts = (None, puts)

pub told_cleared : (mark : List ℕ) (s : Settings) (begun : BegunValue) (cache : CacheValue) (result : Result Heard AllocError) (before after : Requests)
    → IfOk result (IsClearBlock mark begun) → Puts mark None before after → IsAnswerTold mark (Tells mark [] s begun Clears cache) result before after
told_cleared mark s begun cache (Ok heard) before after block puts =
    (record { explained = _; text = _; journal = _; is_last = false; phase = Serving s cache; held = None }, refl, record { explained_is = block.explained_is; text_is = block.text_is; journal_is = block.journal_is; last_is = block.last_is }, puts)
told_cleared mark s begun cache (Err e) before after block puts = (None, puts)

pub tells_phase : (mark : List ℕ) (start : List ℕ) (s : Settings) (begun : BegunValue) (came : Came) (cache : CacheValue) (answer : Answer) → Tells mark start s begun came cache answer → answer.phase ≡ Serving s cache
tells_phase mark start s begun (Looks (Waits w)) cache answer is = ap (λ a. a.phase) is
tells_phase mark start s begun (Looks (IsDone found)) cache answer is = ap (λ a. a.phase) is.1
tells_phase mark start s begun Clears cache answer is = ap (λ a. a.phase) is

-- ---- over a resolver

same_settings : {H : Type 0} (before after : ResolverValue H) → KeepsAllButCache before after → settings after ≡ settings before
same_settings before after same = ap settings same

-- what is told goes on behind a start
behind : (mark start : List ℕ) (s : Settings) (begun : BegunValue) (came : Came) (cache : CacheValue) (answer : Answer)
    → Tells mark [] s begun came cache answer
    → Tells mark start s begun came cache (record answer { explained = start ++ answer.explained })
behind mark start s begun (Looks (Waits w)) cache answer is = ap (λ (a : Answer). record a { explained = start ++ a.explained }) is
behind mark start s begun (Looks (IsDone found)) cache answer is =
    (is.0, ap (λ (a : Answer). record a { explained = start ++ a.explained }) is.1)
behind mark start s begun Clears cache answer is =
    ap (λ (a : Answer). record a { explained = start ++ a.explained }) is ∙ ap (λ (x : List ℕ). record {
      explained = x;
      text = clear_text mark begun.request;
      journal = begun.told ++ request_text begun.request;
      is_last = false;
      phase = Serving s cache;
      held = None;
    }) (append-nil start)

pub begun_told : {H : Type 0} (mark start : List ℕ) (explains : Bool) (request : RequestValue) (came : Came) (r left : ResolverValue H) (told heard : Heard) (before after : Requests)
    → ComesTo (settings r) request r.client.cache came left.client.cache → KeepsAllButCache r left
    → IsStartExplained mark explains (settings r) r.client.cache request start
    → heard ≡ record told { explained = heard.explained } → string_bytes heard.explained ≡ start ++ string_bytes told.explained
    → IsAnswerTold mark (Tells mark [] (settings left) (just_begun request explains) came left.client.cache) (Ok told) before after
    → IsGiven mark (Serves mark explains request (settings r) r.client.cache) (IsBegunOver (settings r) r.client.cache request) (Ok heard) (phase_by left) before after
begun_told mark start explains request came r left told heard before after comes same starts others explained_is (answer, tells, says, puts) =
    let kept = same_settings r left same in
    let begun = just_begun request explains in
    let tells_here : Tells mark [] (settings r) begun came left.client.cache answer = subst (λ s. Tells mark [] s begun came left.client.cache answer) kept tells in
    let whole = record answer { explained = start ++ answer.explained } in (
      whole,
      (came, left.client.cache, comes, start, starts, behind mark start (settings r) begun came left.client.cache answer tells_here),
      record {
        explained_is = explained_is ∙ ap (λ x. start ++ x) says.explained_is;
        text_is = ap (λ h. string_bytes h.text) others ∙ says.text_is;
        journal_is = ap (λ h. string_bytes h.journal) others ∙ says.journal_is;
        last_is = ap (λ h. h.is_last) others ∙ says.last_is;
      },
      sym (tells_phase mark [] (settings left) begun came left.client.cache answer tells),
      puts,
    )

-- the request was begun, and memory ran out
pub begun_out : {H : Type 0} (mark : List ℕ) (explains : Bool) (request : RequestValue) (came : Came) (r left : ResolverValue H) (result : Result Heard AllocError) (before after : Requests)
    → ComesTo (settings r) request r.client.cache came left.client.cache → KeepsAllButCache r left → IsErr result
    → PutsSome mark before after
    → IsGiven mark (Serves mark explains request (settings r) r.client.cache) (IsBegunOver (settings r) r.client.cache request) result (phase_by left) before after
begun_out mark explains request came r left (Ok heard) before after comes same out some = absurd (let h = out in cc)
begun_out mark explains request came r left (Err e) before after comes same out some =
    (inr (came, left.client.cache, comes, ap (λ s. Serving s left.client.cache) (same_settings r left same)), some)

-- of what is told, the requests are left so
pub some_told : (mark : List ℕ) (Kind : Answer → Type 0) (result : Result Heard AllocError) (before after : Requests) → IsAnswerTold mark Kind result before after → PutsSome mark before after
some_told mark Kind (Ok heard) before after (answer, kind, says, puts) = (answer.held, puts)
some_told mark Kind (Err e) before after some = some

pub begun_none : {H : Type 0} (mark : List ℕ) (explains : Bool) (request : RequestValue) (r left : ResolverValue H) (result : Result Heard AllocError) (requests : Requests) → IsErr result → left ≡ r
    → IsGiven mark (Serves mark explains request (settings r) r.client.cache) (IsBegunOver (settings r) r.client.cache request) result (phase_by left) requests requests
begun_none mark explains request r left (Ok heard) requests out same = absurd (let h = out in cc)
begun_none mark explains request r left (Err e) requests out same = (inl (ap phase_by same), some_stays mark requests)

pub fed_told : {H : Type 0} (mark : List ℕ) (begun : BegunValue) (w : WaitingCallValue) (outcome : OutcomeValue) (progress : CallProgressValue) (r left : ResolverValue H) (result : Result Heard AllocError) (before after : Requests)
    → ResumesAt w outcome r progress left → IsAnswerTold mark (Tells mark [] (settings left) begun (Looks progress) left.client.cache) result before after
    → IsGiven mark (Feeds mark (phase_by r) begun w outcome) (IsFedOut (phase_by r) w outcome) result (phase_by left) before after
fed_told mark begun w outcome progress r left (Ok heard) before after resumed (answer, tells, says, puts) =
    let kept = same_settings r left resumed.others_stay in
    let told : Tells mark [] (settings r) begun (Looks progress) left.client.cache answer = subst (λ s. Tells mark [] s begun (Looks progress) left.client.cache answer) kept tells in
    (answer, (progress, left.client.cache, resumed.resumes, told), says, sym (tells_phase mark [] (settings left) begun (Looks progress) left.client.cache answer tells), puts)
fed_told mark begun w outcome progress r left (Err e) before after resumed some =
    ((progress, left.client.cache, resumed.resumes, ap (λ s. Serving s left.client.cache) (same_settings r left resumed.others_stay)), some)

-- ---- what a resolver was asked

pub looks_up : {H : Type 0} (text : List ℕ) (t : RecordType) (now : ℕ) (progress : CallProgressValue) (r left : ResolverValue H)
    → StartsName (λ name. IsReadName text name) t now r progress left
    → ComesTo (settings r) (Lookup text t now) r.client.cache (Looks progress) left.client.cache × KeepsAllButCache r left
looks_up text t now progress r left (name, read, starts) = ((name, read, starts.starts), starts.others_stay)

pub looks_up_host : {H : Type 0} (text : List ℕ) (now : ℕ) (progress : CallProgressValue) (r left : ResolverValue H)
    → StartsHost (λ address. IsReadAddress text address) (λ name. IsReadName text name) now r progress left
    → ComesTo (settings r) (LookupIp text now) r.client.cache (Looks progress) left.client.cache × KeepsAllButCache r left
looks_up_host text now progress r left (address, spells, name, read, inl (memory, starts)) = by starts.starts
  where
    by : StartsCall (call_context_at (settings r) now) (settings r) (address_call (settings r) address name now) r.client.cache progress left.client.cache ⊎ RunsOutAtStart r.client.cache progress left.client.cache → ComesTo (settings r) (LookupIp text now) r.client.cache (Looks progress) left.client.cache × KeepsAllButCache r left
    by (inl begins) = ((address, spells, name, read, inl (memory, begins)), starts.others_stay)
    by (inr out) = ((address, spells, name, read, inr out), starts.others_stay)
looks_up_host text now progress r left (address, spells, name, read, inr (memory, done, same)) =
    ((address, spells, name, read, inr (done, ap (λ x. x.client.cache) same)), same ∙ ap (λ x. record r { client = record r.client { cache = x } }) (sym (ap (λ x. x.client.cache) same)))

-- how far the code's call came
pub told_as : (mark : List ℕ) (s : Settings) (begun : BegunValue) (progress now : CallProgress) (cache : CacheValue) (result : Result Heard AllocError) (before after : Requests) → progress ≡ now
    → IsAnswerTold mark (Tells mark [] s begun (Looks (progress_of now)) cache) result before after → IsAnswerTold mark (Tells mark [] s begun (Looks (progress_of progress)) cache) result before after
told_as mark s begun progress now cache result before after same told = subst (λ p. IsAnswerTold mark (Tells mark [] s begun (Looks (progress_of p)) cache) result before after) (sym same) told
