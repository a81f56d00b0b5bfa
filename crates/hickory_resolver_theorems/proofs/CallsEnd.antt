-- A call that does no I/O ends: each outcome that it goes on with leaves fewer questions that it may send.
use Rattle.std.proofs.Common.{◌≡◌, ◌<◌, ◌≤◌, ◌+◌, ◌-◌, ◌∙◌, ◌*◌, ℕ, suc, List, [], ◌∷◌, ◌++◌, length, sym, ap, subst, inl, inr, arith, length-append}
use Rattle.hickory_proto_core.specs.Handles.{OutcomeValue}
use Rattle.hickory_proto_core.specs.Name.{NameValue}
use Rattle.hickory_resolver_model.specs.Cache.{CacheValue}
use Rattle.hickory_resolver_model.specs.Lookup.{LookupResult}
use Rattle.hickory_resolver_model.specs.Verdict.{Hop}
use Rattle.hickory_resolver_model.specs.Hops.{LookupContext, PassedValue, passed_by}
use Rattle.hickory_resolver_model.specs.Calls.{CallContext, context_over}
use Rattle.hickory_resolver_model.specs.Resuming.{WaitingValue, ProgressValue, Waits, IsDone, ComesTo, Resumes}
use Rattle.hickory_resolver_theorems.specs.ResumingCalls.{AttemptValue, WaitingCallValue, CallProgressValue, with_result, at_next, Continues, by_hosts, waits, at_once, stopped, next_name, no_name, ContinuesAfter, ResumesCall}

-- ---- a look-up of the client

-- how many questions a look-up may send yet, with the one that it waits for
abbrev pub lookup_left : ProgressValue → ℕ
lookup_left (Waits w) = 8 - length w.passed
lookup_left (IsDone result) = 0

fewer_at : (s : LookupContext) (passed : List PassedValue) (p : PassedValue) (next : Hop) (progress : ProgressValue) (after : CacheValue) → length passed < 7 → ComesTo s (passed ++ p ∷ []) next progress after → lookup_left progress < 8 - length passed
fewer_at s passed p next (Waits w) after early comes =
    let more : length w.passed ≡ length passed + 1 = ap (λ (v : WaitingValue). length v.passed) comes.1 ∙ length-append passed (p ∷ []) in
    omega (arith, more, early)
fewer_at s passed p next (IsDone result) after early comes = omega (arith, early)

pub fewer_lookup : (s : LookupContext) (w : WaitingValue) (outcome : OutcomeValue) (progress : ProgressValue) (after : CacheValue) → length w.passed ≤ 7 → Resumes s w outcome progress after → lookup_left progress < lookup_left (Waits w)
fewer_lookup s w outcome progress after few (inl f) = elim f.goes_on [
  | inl comes ↦ fewer_at s w.passed (passed_by s w.hop.query outcome) f.next progress after f.early comes
  | inr out ↦ subst (λ p. lookup_left p < 8 - length w.passed) (sym out.0) (omega (arith, few))
]
fewer_lookup s w outcome progress after few (inr e) = subst (λ p. lookup_left p < 8 - length w.passed) (sym e.progress_is) (omega (arith, few))

-- ---- a call of the resolver

-- how many sub-look-ups a call may make yet, at most: two at each name
abbrev pub turns : AttemptValue → ℕ
turns a = length a.left + length a.left + (2 - length a.results)

-- how many questions it may send yet, at most
abbrev pub call_left : CallProgressValue → ℕ
call_left (Waits w) = 8 * turns w.attempt - length w.lookup.passed
call_left (IsDone result) = 0

fewer_turns : (a : AttemptValue) (r : LookupResult) → turns (with_result a r) ≤ turns a
fewer_turns a r = omega (arith, length-append a.results (r ∷ []))

next_turns : (a : AttemptValue) (name : NameValue) (names : List NameValue) → a.left ≡ name ∷ names → turns (at_next a name names) ≤ turns a
next_turns a name names left = let more : length a.left ≡ suc (length names) = ap length left in omega (arith, more)

pub few_left : (s : CallContext) (a : AttemptValue) (before : CacheValue) (progress : CallProgressValue) (after : CacheValue) → Continues s a before progress after → call_left progress ≤ 8 * turns a
few_left s a before progress after (by_hosts {result = result} found more) = omega (arith, fewer_turns a result, few_left s (with_result a result) before progress after more)
few_left s a before progress after (waits {w = w} started) = omega arith
few_left s a before progress after (at_once {result = result} {mid = mid} started more) = omega (arith, fewer_turns a result, few_left s (with_result a result) mid progress after more)
few_left s a before progress after (stopped is stop) = omega arith
few_left s a before progress after (next_name {name = name} {names = names} is on left more) = omega (arith, next_turns a name names left, few_left s (at_next a name names) before progress after more)
few_left s a before progress after (no_name is on left reply) = omega arith

module _ (s : CallContext) (w : WaitingCallValue) (few : length w.lookup.passed ≤ 7) (open_turn : length w.attempt.results ≤ 1) where
  fewer_by : (lookup : ProgressValue) (mid : CacheValue) (progress : CallProgressValue) (after : CacheValue) → lookup_left lookup < lookup_left (Waits w.lookup) → ContinuesAfter s w.attempt lookup mid progress after → call_left progress < call_left (Waits w)
  fewer_by (Waits lookup) mid progress after less (is, e) = subst (λ p. call_left p < call_left (Waits w)) (sym is) (omega (arith, few, open_turn, less))
  fewer_by (IsDone result) mid progress after less more =
      omega (arith, few, open_turn, length-append w.attempt.results (result ∷ []), few_left s (with_result w.attempt result) mid progress after more)

-- each outcome leaves fewer
pub fewer_resumed : (s : CallContext) (w : WaitingCallValue) → length w.lookup.passed ≤ 7 → length w.attempt.results ≤ 1 → (cache : CacheValue) (outcome : OutcomeValue) (progress : CallProgressValue) (after : CacheValue) → ResumesCall s w outcome cache progress after → call_left progress < call_left (Waits w)
fewer_resumed s w few open_turn cache outcome progress after (lookup, mid, resumes, more) =
    fewer_by s w few open_turn lookup mid progress after (fewer_lookup (context_over s cache) w.lookup outcome lookup mid few resumes) more
