-- A call that a resolver drives to its end: what it answers.
use Rattle.std.proofs.Common.{◌≡◌, ◌∙◌, ℕ, true, List, [], Option, Result, Err, refl, sym, ap, subst, inl, inr}
use Rattle.std.specs.declared.net.IpAddr.{IpAddr}
use Rattle.hickory_proto_core.specs.Handles.{HandleStep}
use Rattle.hickory_proto_core.specs.Name.{NameValue}
use Rattle.hickory_proto_core.specs.names.name_error.NameError.{NameError}
use Rattle.hickory_proto_core.specs.codes.record_type.RecordType.{RecordType}
use Rattle.hickory_proto_core.specs.declared.dns_request.DnsRequestOptions.{DnsRequestOptions}
use Rattle.hickory_proto_core.specs.declared.net_error.NetError.TheVariants.{OutOfMemory}
use Rattle.hickory_resolver_model.specs.Attempts.{attempts}
use Rattle.hickory_resolver_model.specs.Cache.{CacheValue, IsCache}
use Rattle.hickory_resolver_model.specs.Client.{ClientValue}
use Rattle.hickory_resolver_model.specs.Hosts.{Host}
use Rattle.hickory_resolver_model.specs.Lookup.{LookupResult}
use Rattle.hickory_resolver_model.specs.Options.{request_options_of}
use Rattle.hickory_resolver_model.specs.Resolver.{ResolverValue, AnswersCall, AnswersHost, settings}
use Rattle.hickory_resolver_model.specs.Resuming.{IsDone}
use Rattle.hickory_resolver_model.specs.Run.{drop_each, Call, AtOnce, Attempt, address_call, call_context_at}
use Rattle.hickory_resolver_theorems.specs.CallFacts.{KeepsWhatIsKnown}
use Rattle.hickory_resolver_theorems.specs.ResumingCalls.{CallProgressValue, StartsCall, RunsOutAtStart}
use Rattle.hickory_resolver_theorems.proofs.Runs.{drop_each-fresh}
use Rattle.hickory_resolver_theorems.proofs.Headlines.{drop_each-meant}
use Rattle.hickory_resolver.specs.Driving.{EndsCall, EndsNames, IsGiven}
use Rattle.hickory_resolver.specs.Starting.{StartsAt, StartsHost}

-- the cache of a resolver's client is one
pub client_cache : {H : Type 0} (inside before : ResolverValue H) (cache : CacheValue) → inside ≡ before → cache
    ≡ inside.client.cache → IsCache cache.config cache.capacity cache.entries
    → IsCache before.client.cache.config before.client.cache.capacity before.client.cache.entries
client_cache inside before cache view_is cache_is is =
    subst (λ r. IsCache r.client.cache.config r.client.cache.capacity r.client.cache.entries) view_is
    (subst (λ x. IsCache x.config x.capacity x.entries) cache_is is)

-- a clear of some names keeps what is known
pub names_keep : (t : RecordType) (names : List NameValue) (cache : CacheValue) → KeepsWhatIsKnown cache (drop_each t names cache)
names_keep t names cache = record {
  covered = λ sources entries. drop_each-fresh sources t names cache entries;
  meant = λ table entries. drop_each-meant table t names cache entries;
}

module _ {H : Type 0} (step : HandleStep H) (now : ℕ) (before : ResolverValue H) where
  -- memory ran out before anything was asked
  call_unserved : (call : Call) (result : LookupResult) → result ≡ Err OutOfMemory
      → AnswersCall step now call before result before
  call_unserved call result out = record {
    parts = [];
    led = refl;
    is = inr (refl, out, refl);
    option_stays = refl;
    others_stay = refl;
  }

  -- the answer is given at once
  call_at_once : (answer result : LookupResult) → result ≡ answer
      → AnswersCall step now (AtOnce answer) before result before
  call_at_once answer result is =
      record { parts = []; led = refl; is = inl (refl, is, refl); option_stays = refl; others_stay = refl }

  -- A call that was started, over the cache that it left, is driven by this client to its end.
  module _ (cache : CacheValue) (progress : CallProgressValue) (result : LookupResult) (after_client : ClientValue H)
      (names : EndsNames step (settings before).request_options before.hosts progress
      (record before.client { cache = cache }) result after_client)
      (given : IsGiven progress (record before.client { cache = cache }) result after_client) where
    -- what was done is as it was
    ended_given : (answer : LookupResult) → progress ≡ IsDone answer → cache ≡ before.client.cache
        → (result ≡ answer) × (record before { client = after_client } ≡ before)
    ended_given answer done same =
        let is = given answer done in (
          is.0,
          ap (λ c. record before { client = c }) is.1 ∙ ap (λ k. record before { client = record before.client { cache = k } }) same,
        )

    ended_started : (call : Call) → StartsCall (call_context_at (settings before) now) (settings before) call
        before.client.cache progress cache → AnswersCall step now call before result (record before { client = after_client })
    ended_started (AtOnce answer) (done, same) =
        let is = ended_given answer done same in
        subst (λ r. AnswersCall step now (AtOnce answer) before result r) (sym is.1) (call_at_once answer result is.0)
    ended_started (Attempt n plan) starts =
        let looked_up = names before.client now plan true (attempts (settings before).search n) starts
        (record { handle_is = refl; option_is = refl }) in
        record {
          parts = looked_up.parts;
          led = looked_up.led;
          is = inl looked_up.are;
          option_stays = looked_up.option_stays;
          others_stay = refl;
        }

    ended_out : (call : Call) → RunsOutAtStart before.client.cache progress cache
        → AnswersCall step now call before result (record before { client = after_client })
    ended_out call (done, same) =
        let is = ended_given (Err OutOfMemory) done same in
        subst (λ r. AnswersCall step now call before result r) (sym is.1) (call_unserved call result is.0)

  -- the same of a resolver that started a call
  pub call_ended : (call : Call) (progress : CallProgressValue) (begun : ResolverValue H)
      → StartsAt now call before progress begun → (result : LookupResult) (after_client : ClientValue H)
      → EndsNames step (request_options_of begun.options) begun.hosts progress begun.client result after_client
      → IsGiven progress begun.client result after_client
      → AnswersCall step now call before result (record begun { client = after_client })
  call_ended call progress begun starts result after_client names given =
      let N : ResolverValue H → Type 0 = λ b. EndsNames step (request_options_of b.options) b.hosts progress b.client
      result after_client in
      let G : ResolverValue H → Type 0 = λ b. IsGiven progress b.client result after_client in
      let A : ResolverValue H → Type 0 = λ b. AnswersCall step now call before result (record b { client = after_client }) in
      let there = subst N starts.others_stay names in
      let as_it_was = subst G starts.others_stay given in
      subst A (sym starts.others_stay) (elim starts.starts [
        | inl started ↦ ended_started begun.client.cache progress result after_client there as_it_was call started
        | inr out ↦ ended_out begun.client.cache progress result after_client there as_it_was call out
      ])

-- a resolver that is seen so drives a call by its client
pub driven_call : {H : Type 0} (step : HandleStep H) (begun : ResolverValue H) (options : DnsRequestOptions)
    (hosts : List Host) (client after_client : ClientValue H) (progress : CallProgressValue) (result : LookupResult)
    (after : ResolverValue H) → options ≡ request_options_of begun.options → hosts ≡ begun.hosts
    → client ≡ begun.client → EndsNames step options hosts progress client result after_client
    → IsGiven progress client result after_client → after ≡ record begun { client = after_client }
    → EndsCall step progress begun result after × IsGiven progress begun result after
driven_call {H} step begun options hosts client after_client progress result after options_are hosts_are client_is
    names given after_is =
    let O : DnsRequestOptions → Type 0 = λ o. EndsNames step o hosts progress client result after_client in
    let P : List Host → Type 0 = λ hs. EndsNames step (request_options_of begun.options) hs progress client result after_client in
    let C : ClientValue H → Type 0 = λ c. EndsNames step (request_options_of begun.options) begun.hosts progress c result after_client in
    let G : ClientValue H → Type 0 = λ c. IsGiven progress c result after_client in
    let ended = subst C client_is (subst P hosts_are (subst O options_are names)) in
    let as_it_was = subst G client_is given in (
      (λ before now call starts. subst (λ r. AnswersCall step now call before result r) (sym after_is)
          (call_ended step now before call progress begun starts result after_client ended as_it_was)),
      (λ answer done. let is = as_it_was answer done in (is.0, after_is ∙ ap (λ c. record begun { client = c }) is.1)),
    )

-- a look-up of a host that was started is answered by what it ends as
pub host_ended : {H : Type 0} (step : HandleStep H) (Spells : Option IpAddr → Type 0)
    (Gives : Result NameValue NameError → Type 0) (now : ℕ) (before : ResolverValue H) (progress : CallProgressValue)
    (begun : ResolverValue H) (result : LookupResult) (after : ResolverValue H)
    → StartsHost Spells Gives now before progress begun → EndsCall step progress begun result after
    → IsGiven progress begun result after → AnswersHost step Spells Gives now before result after
host_ended step Spells Gives now before progress begun result after (address, spells, name, gives, inl (read, starts)) ends given =
    (address, spells, name, gives, inl (read, ends before now (address_call (settings before) address name now) starts))
host_ended step Spells Gives now before progress begun result after (address, spells, name, gives, inr (out, done, same)) ends given =
    let is = given (Err OutOfMemory) done in (address, spells, name, gives, inr (out, is.0, is.1 ∙ same))
