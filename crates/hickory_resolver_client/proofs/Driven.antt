-- A look-up whose questions a handle answers, step by step: it comes to the look-up of the definition.
use Rattle.std.proofs.Common.{◌≡◌, ◌<◌, ◌≤◌, ◌∙◌, ℕ, List, [], ◌∷◌, ◌++◌, length, sym, ap, subst, refl}
use Rattle.hickory_proto_core.specs.Handles.{OutcomeValue, HandleStep, Leads, Leads-append}
use Rattle.hickory_proto_core.specs.declared.query.Query.{Query}
use Rattle.hickory_proto_core.specs.declared.dns_request.DnsRequestOptions.{DnsRequestOptions}
use Rattle.hickory_proto_core.specs.declared.recorded.Exchange.{Exchange}
use Rattle.hickory_resolver_client.specs.Contexts.{Advances}
use Rattle.hickory_resolver_model.specs.Client.{ClientValue, context_of, IsLookup, KeepsHandle}
use Rattle.hickory_resolver_model.specs.Hops.{LookupContext, RunsOutForAReply}
use Rattle.hickory_resolver_model.specs.Lookup.{LookupResult}
use Rattle.hickory_resolver_model.specs.Resuming.{WaitingValue, ProgressValue, Waits, IsDone, Starts, Resumes}
use Rattle.hickory_resolver_theorems.proofs.CallsEnd.{lookup_left, fewer_lookup}
use Rattle.hickory_resolver_theorems.proofs.LookupsAlone.{done_unasked, some_asked, lookup_started, lookup_resumed}
use Rattle.hickory_resolver_theorems.proofs.SentAlone.{IsSentAlone, LookupSoFar}

-- where it is done, and nothing was asked, memory ran out for a copy of a reply
abbrev pub RunsOutSo : LookupContext → Query → List Exchange → ProgressValue → Type 0
RunsOutSo s question asks (Waits w) = Unit {0}
RunsOutSo s question asks (IsDone result) = RunsOutForAReply s question asks result

-- a look-up came so far over a client: these exchanges led its handle
pub record IsDriven
    {H : Type 0} (step : HandleStep H) (options : DnsRequestOptions) (now : ℕ) (before : ClientValue H)
    (question : Query) (progress : ProgressValue) (client : ClientValue H)
    : Type 0 where
  pub asks : List Exchange
  pub led : Leads step options before.handle asks client.handle
  pub far : LookupSoFar (context_of before now) question asks progress client.cache
  pub runs_out : RunsOutSo (context_of before now) question asks progress
  pub option_is : client.preserve_intermediates ≡ before.preserve_intermediates

module _ {H : Type 0} (step : HandleStep H) (options : DnsRequestOptions) (now : ℕ) (before : ClientValue H) (question : Query) where
  abbrev s : LookupContext
  s = context_of before now

  pub starts_on : (progress : ProgressValue) (after : ClientValue H) → after.handle ≡ before.handle → after.preserve_intermediates ≡ before.preserve_intermediates → Starts s question progress after.cache → IsDriven step options now before question progress after
  starts_on progress after same stays starts =
      record { asks = []; led = same; far = lookup_started s question progress after.cache starts; runs_out = by progress starts; option_is = stays }
    where
      by : (p : ProgressValue) → Starts s question p after.cache → RunsOutSo s question [] p
      by (Waits w) is = tt
      by (IsDone result) is = λ none out. done_unasked s question result after.cache is

  -- it is done
  pub driven_done : (result : LookupResult) (client : ClientValue H) → IsDriven step options now before question (IsDone result) client → IsLookup step options now before question result client
  driven_done result client is = record { asks = is.asks; led = is.led; reply = is.far; runs_out = is.runs_out; option_stays = is.option_is }

  -- the client sent its question, and it went on with what came back
  module _
      (w : WaitingValue) (client : ClientValue H) (so_far : IsDriven step options now before question (Waits w) client)
      (progress : ProgressValue) (after : ClientValue H) (a : Advances step options w client progress after) where
    abbrev sent : IsSentAlone s question so_far.asks w client.cache
    sent = so_far.far

    abbrev x : Exchange
    x = record { query = w.hop.query; outcome = a.outcome }

    same_start : context_of client w.now ≡ s
    same_start = λ i. record { cache = sent.unchanged i; now = sent.now_is i; preserve_intermediates = so_far.option_is i }

    resumes_same : Resumes s w a.outcome progress after.cache
    resumes_same = subst (λ t. Resumes t w a.outcome progress after.cache) same_start a.resumes

    pub advanced : IsDriven step options now before question progress after
    advanced = record {
      asks = so_far.asks ++ x ∷ [];
      led = Leads-append step options before.handle client.handle after.handle so_far.asks (x ∷ []) so_far.led (after.handle, a.sent, refl);
      far = lookup_resumed s question so_far.asks w client.cache sent a.outcome after.cache progress resumes_same;
      runs_out = by progress;
      option_is = a.option_stays ∙ so_far.option_is;
    }
      where
        by : (p : ProgressValue) → RunsOutSo s question (so_far.asks ++ x ∷ []) p
        by (Waits v) = tt
        by (IsDone result) = λ none out. absurd (some_asked so_far.asks x none)

-- an answer leaves fewer questions to be sent
pub advanced_fewer : {H : Type 0} (step : HandleStep H) (options : DnsRequestOptions) (w : WaitingValue) (before : ClientValue H) (progress : ProgressValue) (after : ClientValue H) → length w.passed ≤ 7 → Advances step options w before progress after → lookup_left progress < lookup_left (Waits w)
advanced_fewer step options w before progress after few a = fewer_lookup (context_of before w.now) w a.outcome progress after.cache few a.resumes

-- the question was sent, and the look-up that was given back went on
pub advances : {H : Type 0} (step : HandleStep H) (options : DnsRequestOptions) (w : WaitingValue) (before : ClientValue H) (given_back : WaitingValue) (outcome : OutcomeValue) (asked : ClientValue H) (progress : ProgressValue) (after : ClientValue H) → given_back ≡ w → step before.handle (record { query = w.hop.query; options = options }) outcome asked.handle → asked ≡ record before { handle = asked.handle } → Resumes (context_of asked given_back.now) given_back outcome progress after.cache → KeepsHandle asked after → Advances step options w before progress after
advances step options w before given_back outcome asked progress after same sent stays resumes keeps =
    let W : WaitingValue → Type 0 = λ v. Resumes (context_of asked v.now) v outcome progress after.cache in
    let S : LookupContext → Type 0 = λ s. Resumes s w outcome progress after.cache in
    record {
      outcome = outcome;
      sent = subst (λ h. step before.handle (record { query = w.hop.query; options = options }) outcome h) (sym keeps.handle_is) sent;
      resumes = subst S (ap (λ c. context_of c w.now) stays) (subst W same resumes);
      option_stays = keeps.option_is ∙ ap (λ (c : ClientValue _). c.preserve_intermediates) stays;
    }
