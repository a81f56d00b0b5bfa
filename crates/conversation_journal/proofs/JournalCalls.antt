-- A request that is begun, and fed until it is over, is one that is served.
use Rattle.std.proofs.Common.{◌≡◌, ◌≢◌, ◌⊎◌, ℕ, true, false, List, [], Result, Ok, Err, refl, ap, subst, inl, inr}
use Rattle.hickory_proto_core.specs.Name.{NameValue}
use Rattle.hickory_proto_core.specs.NameDecided.{IsReading}
use Rattle.hickory_proto_core.specs.NameText.{HasFault}
use Rattle.hickory_proto_core.specs.NameGiven.{IsReadName}
use Rattle.hickory_proto_core.specs.declared.recorded.Exchange.{Exchange}
use Rattle.hickory_proto_core.specs.names.name_error.NameError.{NameError}
use Rattle.hickory_proto_core.specs.names.name_error.NameError.TheVariants as name_error
use Rattle.hickory_proto_core.specs.declared.net_error.NetError.TheVariants.{OutOfMemory}
use Rattle.hickory_resolver_model.specs.Resuming.{Waits, IsDone}
use Rattle.hickory_resolver_model.specs.Cache.{CacheValue}
use Rattle.hickory_resolver_model.specs.Calls.{IsAnsweredAlone, SubLookup, is_out_of_memory}
use Rattle.hickory_resolver_model.specs.Lookup.{LookupResult}
use Rattle.hickory_resolver_model.specs.Run.{RequestValue, Lookup, LookupIp, ClearLookup, Clear, Settings, GivenName, IsGivenBy, Call, IsCall, IsServed, StepReply, LookedUp, LookedUpIp, Cleared, address_call, answers_at, call_context_at, ends_run, moment_of, name_call}
use Rattle.hickory_resolver_theorems.proofs.SentAlone.{CallSoFar, CallRelation}
use Rattle.hickory_resolver_theorems.specs.ResumingCalls.{CallProgressValue, StartsCall}
use Rattle.hickory_resolver_theorems.proofs.CallsAlone.{call-alone, started_call}
use Rattle.replay_script.specs.Output.{reply_text, result_text}
use Rattle.conversation.specs.Answers.{Looks, Clears, ComesTo}

-- the call of a request
abbrev pub HasCall : Settings → RequestValue → Call → Type 0
HasCall s (Lookup text t now) call = (name : Result NameValue NameError) × IsReading text name × (call ≡ name_call t name)
HasCall s (LookupIp text now) call = (given : GivenName) × IsGivenBy text given × (call ≡ address_call s given.address given.name now)
HasCall s (ClearLookup text t now) call = ⊥
HasCall s (Clear now) call = ⊥

-- what a call comes to by its parts, from a cache
abbrev pub WholeCall : Settings → RequestValue → CacheValue → Call → CallRelation
WholeCall s q start call parts result after = IsCall (IsAnsweredAlone (call_context_at s (moment_of q))) s start call parts result after

-- how far the call of a request came
abbrev pub RequestSoFar : Settings → RequestValue → CacheValue → Call → List Exchange → CallProgressValue → CacheValue → Type 0
RequestSoFar s q start call asks progress cache = CallSoFar (call_context_at s (moment_of q)) (WholeCall s q start call) asks progress cache

-- what is read of a name, where memory does not run out
read_name : (text : List ℕ) (name : Result NameValue NameError) → IsReadName text name → (name ≢ Err name_error.OutOfMemory) → IsReading text name
read_name text (Ok n) is not = is.ok
read_name text (Err e) is not = by is.err
  where
    by : (e ≡ name_error.OutOfMemory) ⊎ HasFault text e → IsReading text (Err e)
    by (inl out) = absurd (not (ap (λ x. Err x) out))
    by (inr found) = found

-- a look-up is served
pub record IsLookedUp (s : Settings) (q : RequestValue) (start : CacheValue) (parts : List SubLookup) (result : LookupResult) (after : CacheValue) : Type 0 where
  pub reply : StepReply
  pub served : IsServed (answers_at s) s start q parts reply after
  pub text_is : reply_text q reply ≡ result_text q result
  pub ends : ends_run reply ≡ is_out_of_memory result

pub looked_up : (s : Settings) (q : RequestValue) (start : CacheValue) (call : Call) (parts : List SubLookup) (result : LookupResult) (after : CacheValue) → HasCall s q call → WholeCall s q start call parts result after → IsLookedUp s q start parts result after
looked_up s (Lookup text t now) start call parts result after (name, reads, same) whole = record {
  reply = LookedUp result;
  served = inl (name, reads, call-alone (call_context_at s now) s start (name_call t name) parts result after (subst (λ c. WholeCall s (Lookup text t now) start c parts result after) same whole));
  text_is = refl;
  ends = refl;
}
looked_up s (LookupIp text now) start call parts result after (given, gives, same) whole = record {
  reply = LookedUpIp result;
  served = inl (given, gives, call-alone (call_context_at s now) s start (address_call s given.address given.name now) parts result after (subst (λ c. WholeCall s (LookupIp text now) start c parts result after) same whole));
  text_is = refl;
  ends = refl;
}
looked_up s (ClearLookup text t now) start call parts result after none whole = absurd none
looked_up s (Clear now) start call parts result after none whole = absurd none

-- a request that is begun, and for which memory does not run out, is a call
pub record IsBegunCall (s : Settings) (q : RequestValue) (start : CacheValue) (progress : CallProgressValue) (cache : CacheValue) : Type 0 where
  pub call : Call
  pub call_is : HasCall s q call
  pub far : RequestSoFar s q start call [] progress cache

abbrev pub NotOut : CallProgressValue → Type 0
NotOut (Waits w) = Unit {0}
NotOut (IsDone result) = is_out_of_memory result ≡ false

not_out : (progress : CallProgressValue) → NotOut progress → progress ≡ IsDone (Err OutOfMemory) → ⊥
not_out progress live e = let h : true ≡ false = subst NotOut e live in cc

pub begun_call : (s : Settings) (q : RequestValue) (start : CacheValue) (progress : CallProgressValue) (cache : CacheValue) → NotOut progress → ComesTo s q start (Looks progress) cache → IsBegunCall s q start progress cache
begun_call s (Lookup text t now) start progress cache live (name, reads, inl starts) = by name reads starts
  where
    by : (n : Result NameValue NameError) → IsReadName text n → StartsCall (call_context_at s now) s (name_call t n) start progress cache → IsBegunCall s (Lookup text t now) start progress cache
    by (Ok n) r is = record { call = name_call t (Ok n); call_is = (Ok n, r.ok, refl); far = started_call (call_context_at s now) s (name_call t (Ok n)) start progress cache is }
    by (Err e) r is = fault r.err
      where
        fault : (e ≡ name_error.OutOfMemory) ⊎ HasFault text e → IsBegunCall s (Lookup text t now) start progress cache
        fault (inl out) = absurd (not_out progress live ((subst (λ x. StartsCall (call_context_at s now) s (name_call t (Err x)) start progress cache) out is).0))
        fault (inr found) = record { call = name_call t (Err e); call_is = (Err e, found, refl); far = started_call (call_context_at s now) s (name_call t (Err e)) start progress cache is }
begun_call s (Lookup text t now) start progress cache live (name, reads, inr out) = absurd (not_out progress live out.0)
begun_call s (LookupIp text now) start progress cache live (address, at, name, reads, inl (not, is)) = record {
  call = address_call s address name now;
  call_is = (record { address = address; name = name }, (at, read_name text name reads not), refl);
  far = started_call (call_context_at s now) s (address_call s address name now) start progress cache is;
}
begun_call s (LookupIp text now) start progress cache live (address, at, name, reads, inr out) = absurd (not_out progress live out.0)
begun_call s (ClearLookup text t now) start progress cache live none = absurd none
begun_call s (Clear now) start progress cache live none = absurd none

-- a clear is served
pub record IsClearedSo (s : Settings) (q : RequestValue) (start : CacheValue) (after : CacheValue) : Type 0 where
  pub served : IsServed (answers_at s) s start q [] (Cleared (Ok tt)) after

pub cleared : (s : Settings) (q : RequestValue) (start : CacheValue) (after : CacheValue) → ComesTo s q start Clears after → IsClearedSo s q start after
cleared s (Lookup text t now) start after none = absurd none
cleared s (LookupIp text now) start after none = absurd none
cleared s (ClearLookup text t now) start after (name, reads, not, is) = record { served = (refl, (name, read_name text name reads not, is)) }
cleared s (Clear now) start after is = record { served = (refl, is) }
