-- The calls of look-ups: each waits as its look-up does, and since the moment of its start.
use Rattle.std.proofs.Common.{◌≡◌, ◌∙◌, ℕ, Bool, true, false, cond, List, [], ◌∷◌, ◌++◌, nat_eq, refl, sym, ap, subst, ◌⊎◌, inl, inr, arith}
use Rattle.std.specs.Prelude.{Err, Option, None, Some}
use Rattle.std.specs.List.{Contains}
use Rattle.std.specs.Option.{is_some}
use Rattle.std.proofs.lemmas.Bool.Decides.{nat_tests}
use Rattle.hickory_proto_core.specs.Handles.{OutcomeValue}
use Rattle.hickory_proto_core.specs.Name.{NameValue}
use Rattle.hickory_proto_core.specs.declared.net_error.NetError.TheVariants.{OutOfMemory}
use Rattle.hickory_proto_core.specs.declared.recorded.Exchange.{Exchange}
use Rattle.hickory_resolver.specs.Contexts.{progress_of}
use Rattle.hickory_resolver.specs.Driving.{CallProgress}
use Rattle.hickory_resolver.specs.Starting.{ResumesAt, StartsAt}
use Rattle.hickory_resolver.specs.client.waiting.Progress.TheVariants as progress
use Rattle.hickory_resolver_events.specs.Events.{pending_after}
use Rattle.hickory_resolver_model.specs.Cache.{CacheValue}
use Rattle.hickory_resolver_model.specs.Attempts.{attempts}
use Rattle.hickory_resolver_model.specs.Calls.{CallContext, CallPlan, context_over}
use Rattle.hickory_resolver_model.specs.Resolver.{ResolverValue, settings}
use Rattle.hickory_resolver_model.specs.Resuming.{IsDone, ProgressValue, Resumes, WaitingValue, Waits}
use Rattle.hickory_resolver_model.specs.Run.{AtOnce, Attempt, Call, Settings, call_context_at}
use Rattle.hickory_resolver_theorems.proofs.CallInterleavings.{now-stays}
use Rattle.hickory_resolver_theorems.proofs.Lists.{contains-from_recursion, contains-to_recursion}
use Rattle.hickory_resolver_theorems.specs.InterleavedCalls.{CallEventValue, CallFed, CallStarted, IsStartedIn, PendingCallValue, exchange_with}
use Rattle.hickory_resolver_theorems.specs.ResumingCalls.{AttemptValue, CallProgressValue, Continues, ContinuesAfter, RunsOutAtStart, StartsCall, StartsNames, WaitingCallValue, at_next, at_once, by_hosts, next_name, no_name, stopped, waits, with_result}
use Rattle.yimarotu_session.specs.LookupTables.{lookup_of}
use Rattle.yimarotu_session.specs.Sessions.{PutsUnder, value_at}
use Rattle.yimarotu_session.specs.declared.network_lookup.NetworkLookup.{NetworkLookup}
use Rattle.yimarotu_session.specs.declared.network_lookup.NetworkLookup.TheVariants.{Asked, Asks, Done}
use Rattle.yimarotu_session_theorems.specs.NetworkCalls.{Calls, IsOfSecond, has_call, under, waits_now}
use Rattle.yimarotu_session_theorems.specs.NetworkLaws.{IsAsCall}
use Rattle.yimarotu_session_theorems.proofs.Moves.{Puts}

-- ---- calls that wait

abbrev pub waits_by : Calls → ℕ → Option PendingCallValue
waits_by calls n = waits_now (calls n)

pub waits-under : (n : ℕ) (events : List CallEventValue) (x : Option PendingCallValue) (calls : Calls)
    → waits_now events ≡ x → Puts n x (waits_by calls) (waits_by (under n events calls))
waits-under n events x calls is m = by (nat_eq n m)
  where
    by : (b : Bool) → waits_now (cond b events (calls m)) ≡ cond b x (waits_now (calls m))
    by true = is
    by false = refl

-- where the same call waits under a number as before, all wait as before
pub alike : (n : ℕ) (x : Option PendingCallValue) (waiting later : ℕ → Option PendingCallValue) → waiting n ≡ x
    → Puts n x waiting later → (m : ℕ) → later m ≡ waiting m
alike n x waiting later there puts m = puts m ∙ by (nat_eq n m) refl
  where
    by : (b : Bool) → nat_eq n m ≡ b → cond b x (waiting m) ≡ waiting m
    by true e = let same : n ≡ m = grind (arith, nat_tests) in sym there ∙ ap waiting same
    by false e = refl

-- ---- look-ups are as their calls

abbrev pub Lookups : Type 0
Lookups = List (ℕ × NetworkLookup)

abbrev pub AreAs : Calls → Lookups → Type 0
AreAs calls lookups = (n : ℕ) → IsAsCall (calls n) (value_at n lookups)

pub as-same : (calls : Calls) (before after : Lookups) → after ≡ before → AreAs calls before → AreAs calls after
as-same calls before after same are m =
    subst (λ (l : Lookups). IsAsCall (calls m) (value_at m l)) (sym same) (are m)

-- a look-up takes a place, with another call
pub as-under : (n : ℕ) (held : Option NetworkLookup) (events : List CallEventValue) (calls : Calls)
    (before after : Lookups) → PutsUnder n held before after → IsAsCall events held → AreAs calls before
    → AreAs (under n events calls) after
as-under n held events calls before after puts own are m =
    subst (λ (h : Option NetworkLookup). IsAsCall (under n events calls m) h) (sym (puts m)) (by (nat_eq n m))
  where
    by : (b : Bool) → IsAsCall (cond b events (calls m)) (cond b held (value_at m before))
    by true = own
    by false = are m

-- or with the same
pub as-put : (n : ℕ) (held : Option NetworkLookup) (calls : Calls) (before after : Lookups) → PutsUnder n held before after
    → IsAsCall (calls n) held → AreAs calls before → AreAs calls after
as-put n held calls before after puts own are m =
    subst (λ (h : Option NetworkLookup). IsAsCall (calls m) h) (sym (puts m)) (by (nat_eq n m) refl)
  where
    by : (b : Bool) → nat_eq n m ≡ b → IsAsCall (calls m) (cond b held (value_at m before))
    by true e =
        let same : n ≡ m = grind (arith, nat_tests) in subst (λ (i : ℕ). IsAsCall (calls i) held) same own
    by false e = are m

pub as-begun : (call : Call) (now : ℕ) (p : CallProgress)
    → IsAsCall (CallStarted call now (progress_of p) ∷ []) (Some (lookup_of p))
as-begun call now (progress.Waiting w) = (record { call = call; asks = []; waiting = w }, refl, refl)
as-begun call now (progress.Done found) = refl

pub as-fed : (c : PendingCallValue) (outcome : OutcomeValue) (earlier : List CallEventValue) (p : CallProgress)
    → IsAsCall (CallFed c outcome (progress_of p) ∷ earlier) (Some (lookup_of p))
as-fed c outcome earlier (progress.Waiting w) = (
  record { call = c.call; asks = c.asks ++ exchange_with c outcome ∷ []; waiting = w },
  refl,
  refl,
)
as-fed c outcome earlier (progress.Done found) = refl

-- there is a look-up where there is a call
pub is-there : (events : List CallEventValue) (held : Option NetworkLookup) → IsAsCall events held
    → is_some held ≡ has_call events
is-there events None are = ap has_call (sym are)
is-there [] (Some (Asks w)) (c, there, same) = let clash : None ≡ Some c = there in absurd cc
is-there [] (Some (Asked w a)) (c, there, same) = let clash : None ≡ Some c = there in absurd cc
is-there [] (Some (Done found announced)) never = absurd never
is-there (event ∷ earlier) (Some held) are = refl

-- ---- more events of a call

-- these events, and what came later in front of them
abbrev pub IsLater : List CallEventValue → List CallEventValue → Type 0
IsLater events before = (later : List CallEventValue) × (events ≡ later ++ before)

contains-later : (later events : List CallEventValue) (event : CallEventValue) → Contains events event
    → Contains (later ++ events) event
contains-later [] events event has = has
contains-later (x ∷ later) events event has =
    contains-from_recursion (x ∷ later ++ events) event
    (inr (contains-to_recursion (later ++ events) event (contains-later later events event has)))

pub started-later : (later events : List CallEventValue) (call : Call) (now : ℕ) → IsStartedIn events call now
    → IsStartedIn (later ++ events) call now
started-later later events call now (progress, has) =
    (progress, contains-later later events (CallStarted call now progress) has)

pub second-later : (s : Settings) (before events : List CallEventValue) (call : Call) (now : ℕ) → IsLater events before
    → IsOfSecond s before call now → IsOfSecond s events call now
second-later s before events call now (later, is) h =
    subst (λ (l : List CallEventValue). IsOfSecond s l call now) (sym is)
    (record {
      event = h.event;
      among = contains-later later before h.event h.among;
      waited = h.waited;
      waits = h.waits;
      started = started-later later before h.waited.call now h.started;
      no_alias = h.no_alias;
      first = h.first;
      second = h.second;
      both = h.both;
      of_first = h.of_first;
      call_is = h.call_is;
    })

-- ---- a call that waits has the moment of its start

abbrev waits_so : AttemptValue → WaitingValue → WaitingCallValue
waits_so a lookup = record { attempt = a; lookup = lookup }

continues-now : (s : CallContext) (a : AttemptValue) (before : CacheValue) (progress : CallProgressValue)
    (after : CacheValue) → Continues s a before progress after → (w : WaitingCallValue) → progress ≡ Waits w
    → w.lookup.now ≡ s.now
continues-now s a before progress after (by_hosts {result = result} found more) w e =
    continues-now s (with_result a result) before progress after more w e
continues-now s a before progress after (waits {w = v} started) w e =
    let own : waits_so a v ≡ w = cc in
    ap (λ (x : WaitingCallValue). x.lookup.now) (sym own) ∙ ap (λ (x : WaitingValue). x.now) started.starts.1
continues-now s a before progress after (at_once {result = result} {mid = mid} started more) w e =
    continues-now s (with_result a result) mid progress after more w e
continues-now s a before progress after (stopped {result = result} is stop) w e =
    let clash : IsDone result ≡ Waits w = e in absurd cc
continues-now s a before progress after (next_name {name = name} {names = names} is on left more) w e =
    continues-now s (at_next a name names) before progress after more w e
continues-now s a before progress after (no_name {result = result} is on left reply) w e =
    let clash : IsDone result ≡ Waits w = e in absurd cc

names-now : (s : CallContext) (plan : CallPlan) (names : List NameValue) (before after : CacheValue)
    (w : WaitingCallValue) → StartsNames s plan true names before (Waits w) after → w.lookup.now ≡ s.now
names-now s plan [] before after w (result, reply, done, same) =
    let clash : Waits w ≡ IsDone result = done in absurd cc
names-now s plan (name ∷ names) before after w more =
    continues-now s (record { plan = plan; with_hosts = true; name = name; results = []; left = names }) before (Waits w) after more w refl

module _ {H : Type 0} (before after : ResolverValue H) where
  abbrev context : ℕ → CallContext
  context now = call_context_at (settings before) now

  starts-now : (now : ℕ) (call : Call) (w : WaitingCallValue) → StartsAt now call before (Waits w) after
      → w.lookup.now ≡ now
  starts-now now call w starts = by call starts.starts
    where
      by : (k : Call)
          → StartsCall (context now) (settings before) k before.client.cache (Waits w) after.client.cache
          ⊎ RunsOutAtStart before.client.cache (Waits w) after.client.cache → w.lookup.now ≡ now
      by k (inr (out, same)) = let clash : Waits w ≡ IsDone (Err OutOfMemory) = out in absurd cc
      by (AtOnce answer) (inl (done, same)) = let clash : Waits w ≡ IsDone answer = done in absurd cc
      by (Attempt name plan) (inl started) =
          names-now (context now) plan (attempts (settings before).search name) before.client.cache after.client.cache w started

  resumes-now : (w v : WaitingCallValue) (outcome : OutcomeValue) → ResumesAt w outcome before (Waits v) after
      → v.lookup.now ≡ w.lookup.now
  resumes-now w v outcome resumes =
      by resumes.resumes.0 resumes.resumes.1 resumes.resumes.2 resumes.resumes.3
    where
      by : (lookup : ProgressValue) (mid : CacheValue)
          → Resumes (context_over (context w.lookup.now) before.client.cache) w.lookup outcome lookup mid
          → ContinuesAfter (context w.lookup.now) w.attempt lookup mid (Waits v) after.client.cache → v.lookup.now ≡ w.lookup.now
      by (Waits l) mid goes (is, same) =
          let own : v ≡ waits_so w.attempt l = cc in
          ap (λ (x : WaitingCallValue). x.lookup.now) own
          ∙ now-stays (context_over (context w.lookup.now) before.client.cache) w.lookup outcome l mid goes
      by (IsDone result) mid goes more =
          continues-now (context w.lookup.now) (with_result w.attempt result) mid (Waits v) after.client.cache more v refl

-- ---- a call that waits was started

-- at the moment of what it waits with
abbrev pub IsSinceStart : List CallEventValue → Type 0
IsSinceStart events =
    (c : PendingCallValue) → waits_now events ≡ Some c → IsStartedIn events c.call c.waiting.lookup.now

abbrev pub AreSinceStart : Calls → Type 0
AreSinceStart calls = (n : ℕ) → IsSinceStart (calls n)

pub since-under : (n : ℕ) (events : List CallEventValue) (calls : Calls) → IsSinceStart events → AreSinceStart calls
    → AreSinceStart (under n events calls)
since-under n events calls own all m = by (nat_eq n m)
  where
    by : (b : Bool) → IsSinceStart (cond b events (calls m))
    by true = own
    by false = all m

-- the call that waits now has these
since-pending : (events : List CallEventValue) (call : Call) (asks : List Exchange) (progress : CallProgressValue)
    → ((w : WaitingCallValue) → progress ≡ Waits w → IsStartedIn events call w.lookup.now) → (c : PendingCallValue)
    → pending_after call asks progress ≡ Some c → IsStartedIn events c.call c.waiting.lookup.now
since-pending events call asks (IsDone result) own c e = let clash : None ≡ Some c = e in absurd cc
since-pending events call asks (Waits w) own c e =
    let d : PendingCallValue = record { call = call; asks = asks; waiting = w } in
    let same : d ≡ c = cc in
    subst (λ (x : PendingCallValue). IsStartedIn events x.call x.waiting.lookup.now) same (own w refl)

module _ {H : Type 0} (before after : ResolverValue H) where
  pub since-begun : (now : ℕ) (call : Call) (progress : CallProgressValue) → StartsAt now call before progress after
      → IsSinceStart (CallStarted call now progress ∷ [])
  since-begun now call progress starts =
      since-pending (CallStarted call now progress ∷ []) call [] progress
      (λ w is.
      subst (λ (t : ℕ). IsStartedIn (CallStarted call now progress ∷ []) call t)
      (sym (starts-now before after now call w (subst (λ (p : CallProgressValue). StartsAt now call before p after) is starts)))
      (progress, contains-from_recursion (CallStarted call now progress ∷ []) (CallStarted call now progress) (inl refl)))

  pub since-fed : (c : PendingCallValue) (outcome : OutcomeValue) (progress : CallProgressValue)
      (events : List CallEventValue) → waits_now events ≡ Some c → IsSinceStart events
      → ResumesAt c.waiting outcome before progress after → IsSinceStart (CallFed c outcome progress ∷ events)
  since-fed c outcome progress events there since resumes =
      since-pending (CallFed c outcome progress ∷ events) c.call (c.asks ++ exchange_with c outcome ∷ []) progress
      (λ w is.
      subst (λ (t : ℕ). IsStartedIn (CallFed c outcome progress ∷ events) c.call t)
      (sym (resumes-now before after c.waiting w outcome (subst (λ (p : CallProgressValue). ResumesAt c.waiting outcome before p after) is resumes)))
      (started-later (CallFed c outcome progress ∷ []) events c.call c.waiting.lookup.now (since c there)))
