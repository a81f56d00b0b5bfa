-- Calls of a resolver that do no I/O.
use Rattle.std.proofs.Common.{◌≡◌, ◌⊎◌, ◌∙◌, ℕ, true, nat_le, if◌then◌else◌, List, Option}
use Rattle.std.proofs.Common.{Some, Result, Ok, Err, refl, sym, ap, subst, inl, inr}
use Rattle.std.specs.declared.net.IpAddr.{IpAddr}
use Rattle.hickory_proto_core.specs.Handles.{OutcomeValue}
use Rattle.hickory_proto_core.specs.Name.{NameValue}
use Rattle.hickory_proto_core.specs.names.name_error.NameError.{NameError}
use Rattle.hickory_proto_core.specs.declared.net_error.NetError.TheVariants.{OutOfMemory}
use Rattle.hickory_proto_core.specs.Records.{data_of_address}
use Rattle.hickory_resolver_model.specs.Resuming.{IsDone}
use Rattle.hickory_resolver_model.specs.Attempts.{attempts}
use Rattle.hickory_resolver_model.specs.Calls.{CallPlan, literal_at_once, last_resort}
use Rattle.hickory_resolver_model.specs.Client.{ClientValue, KeepsHandle}
use Rattle.hickory_resolver_model.specs.Hosts.{Host}
use Rattle.hickory_resolver_model.specs.Lookup.{LookupResult}
use Rattle.hickory_resolver_model.specs.Resolver.{ResolverValue, call_context_of, settings}
use Rattle.hickory_resolver_model.specs.Run.{Call, AtOnce, Attempt, address_call, address_plan}
use Rattle.hickory_resolver_theorems.specs.ResumingCalls.{WaitingCallValue, CallProgressValue}
use Rattle.hickory_resolver_theorems.specs.ResumingCalls.{StartsNames, ResumesCall}
use Rattle.hickory_resolver.specs.Starting.{KeepsAllButCache, StartsAt, StartsHost, ResumesAt}

module _ {H : Type 0} (before : ResolverValue H) where
  -- a client whose cache alone changed
  cache_alone : (client after_client : ClientValue H) (after : ResolverValue H) → client ≡ before.client
      → KeepsHandle client after_client → after ≡ record before { client = after_client } → KeepsAllButCache before after
  cache_alone client after_client after client_is keeps after_is =
      let R : ResolverValue H → Type 0 = λ r. r ≡ record before { client = record before.client { cache = r.client.cache } } in
      let handle : after_client.handle ≡ before.client.handle =
      keeps.handle_is ∙ ap (λ (c : ClientValue H). c.handle) client_is in
      let option : after_client.preserve_intermediates ≡ before.client.preserve_intermediates =
      keeps.option_is ∙ ap (λ (c : ClientValue H). c.preserve_intermediates) client_is in
      subst R (sym after_is) (λ i. record before {
        client = record { cache = after_client.cache; handle = handle i; preserve_intermediates = option i };
      })

  -- memory ran out before anything was looked up
  pub started_out : (now : ℕ) (call : Call) (result : LookupResult) → result ≡ Err OutOfMemory
      → StartsAt now call before (IsDone result) before
  started_out now call result out = record { starts = inr (ap IsDone out, refl); others_stay = refl }

  -- the answer is given at once, or memory ran out for it
  pub started_at_once : (now : ℕ) (call : Call) (answer result : LookupResult) → call ≡ AtOnce answer
      → (result ≡ answer) ⊎ (result ≡ Err OutOfMemory) → StartsAt now call before (IsDone result) before
  started_at_once now call answer result call_is (inl is) =
      subst (λ x. StartsAt now x before (IsDone result) before) (sym call_is)
      (record { starts = inl (ap IsDone is, refl); others_stay = refl })
  started_at_once now call answer result call_is (inr out) = started_out now call result out

  -- an address that is the reply at once
  pub literal_started : (now : ℕ) (address : IpAddr) (n : NameValue) (result : LookupResult)
      → nat_le (settings before).search.ndots 4 ≡ true
      → (result ≡ Ok (literal_at_once n address now)) ⊎ (result ≡ Err OutOfMemory)
      → StartsAt now (address_call (settings before) (Some address) (Ok n) now) before (IsDone result) before
  literal_started now address n result few is =
      started_at_once now (address_call (settings before) (Some address) (Ok n) now) (Ok (literal_at_once n address now)) result
      (ap (λ b. if b then AtOnce (Ok (literal_at_once n address now)) else Attempt n
      (address_plan (settings before).strategy (Some (last_resort (data_of_address address) now)))) few) is

  -- the attempts at a name are started
  pub started_names : (now : ℕ) (plan : CallPlan) (n : NameValue) (hosts : List Host) (names : List NameValue)
      (client after_client : ClientValue H) (progress : CallProgressValue) (after : ResolverValue H)
      → hosts ≡ before.hosts → client ≡ before.client → names ≡ attempts (settings before).search n
      → StartsNames (call_context_of client hosts now) plan true names client.cache progress after_client.cache
      → KeepsHandle client after_client → after ≡ record before { client = after_client }
      → StartsAt now (Attempt n plan) before progress after
  started_names now plan n hosts names client after_client progress after hosts_are client_is names_are starts keeps after_is =
      let P : List Host → Type 0 = λ hs. StartsNames (call_context_of client hs now) plan true names client.cache
      progress after_client.cache in
      let C : ClientValue H → Type 0 = λ c. StartsNames (call_context_of c before.hosts now) plan true names c.cache
      progress after_client.cache in
      let N : List NameValue → Type 0 = λ ns. StartsNames (call_context_of before.client before.hosts now) plan true
      ns before.client.cache progress after_client.cache in
      let A : ResolverValue H → Type 0 = λ r. StartsNames (call_context_of before.client before.hosts now) plan true
      (attempts (settings before).search n) before.client.cache progress r.client.cache in
      record {
        starts = inl (subst A (sym after_is) (subst N names_are (subst C client_is (subst P hosts_are starts))));
        others_stay = cache_alone client after_client after client_is keeps after_is;
      }

  -- a call goes on
  pub resumed_at : (w : WaitingCallValue) (outcome : OutcomeValue) (hosts : List Host)
      (client after_client : ClientValue H) (progress : CallProgressValue) (after : ResolverValue H)
      → hosts ≡ before.hosts → client ≡ before.client → ResumesCall (call_context_of client hosts w.lookup.now) w outcome
      client.cache progress after_client.cache → KeepsHandle client after_client
      → after ≡ record before { client = after_client } → ResumesAt w outcome before progress after
  resumed_at w outcome hosts client after_client progress after hosts_are client_is resumes keeps after_is =
      let P : List Host → Type 0 = λ hs. ResumesCall (call_context_of client hs w.lookup.now) w outcome client.cache
      progress after_client.cache in
      let C : ClientValue H → Type 0 = λ c. ResumesCall (call_context_of c before.hosts w.lookup.now) w outcome c.cache
      progress after_client.cache in
      let A : ResolverValue H → Type 0 = λ r. ResumesCall (call_context_of before.client before.hosts w.lookup.now) w
      outcome before.client.cache progress r.client.cache in
      record {
        resumes = subst A (sym after_is) (subst C client_is (subst P hosts_are resumes));
        others_stay = cache_alone client after_client after client_is keeps after_is;
      }

  -- what is known of a text holds of what was given
  pub host_said : (Spells : Option IpAddr → Type 0) (Gives : Result NameValue NameError → Type 0) (now : ℕ)
      (address : Option IpAddr) (fault : NameError) (progress : CallProgressValue) → Spells address
      → Gives (Err fault) → StartsHost (λ a. a ≡ address) (λ n. n ≡ Err fault) now before progress before
      → StartsHost Spells Gives now before progress before
  host_said Spells Gives now address fault progress spells gives (a, a_is, n, n_is, starts) =
      (a, subst Spells (sym a_is) spells, n, subst Gives (sym n_is) gives, starts)
