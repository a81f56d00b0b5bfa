-- A call that is started changes nothing, whatever answers it.
use Rattle.std.proofs.Common.{◌≡◌, ◌∙◌, ◌⊎◌, ℕ, Bool, false, true≢false, List, [], ◌∷◌, ◌++◌, Ok, refl, ap, subst, inl, inr}
use Rattle.hickory_proto_core.specs.Name.{NameValue}
use Rattle.hickory_proto_core.specs.declared.query.Query.{Query}
use Rattle.hickory_resolver.specs.Starting.{StartsAt, StartsName}
use Rattle.hickory_resolver_model.specs.Cache.{CacheValue}
use Rattle.hickory_resolver_model.specs.Calls.{CallContext, CallPlan, context_over}
use Rattle.hickory_resolver_model.specs.Hops.{Asked, ChainEnd, Hit, IsBeginning, LookupContext, Special, Store, after_stores, is_asked}
use Rattle.hickory_resolver_model.specs.Lookup.{LookupResult, question_of}
use Rattle.hickory_resolver_model.specs.Resolver.{settings}
use Rattle.hickory_resolver_model.specs.Resuming.{EndsAs, IsDone, ProgressValue, Starts, Waits}
use Rattle.hickory_resolver_model.specs.Run.{AtOnce, Attempt, Call, call_context_at}
use Rattle.hickory_resolver_model.specs.Verdict.{Hop, first_hop}
use Rattle.hickory_resolver_theorems.specs.ResumingCalls.{AttemptValue, CallProgressValue, Continues, RunsOutAtStart, StartsCall, StartsNames, at_next, at_once, by_hosts, next_name, no_name, stopped, waits, with_result}
use Rattle.yimarotu_session.specs.Ahead.{Resolver, StartsAlone}
use Rattle.yimarotu_session.specs.declared.ahead.SecondQuestion.{SecondQuestion}

-- ---- a look-up of one question

-- no store was begun
begun-none : (before after : CacheValue) → IsBeginning [] before after → after ≡ before
begun-none before after begun = by begun.front begun.parts begun.after_is
  where
    by : (front : List Store) → front ++ begun.back ≡ [] → after ≡ after_stores front before → after ≡ before
    by [] e same = same
    by (s ∷ ss) e same = let clash : s ∷ (ss ++ begun.back) ≡ [] = e in absurd cc

unasked : (s : LookupContext) (hop : Hop) (last : ChainEnd) (result : LookupResult) (after : CacheValue)
    → is_asked last ≡ false → EndsAs s [] hop last result after → after ≡ s.cache
unasked s hop (Special reply) result after none (inl (is, same)) = same
unasked s hop (Special reply) result after none (inr (is, takes, begun)) = begun-none s.cache after begun
unasked s hop (Hit entry) result after none (inl (is, same)) = same
unasked s hop (Hit entry) result after none (inr (is, takes, begun)) = begun-none s.cache after begun
unasked s hop (Asked outcome) result after none ends = absurd (true≢false none)

lookup-keeps : (s : LookupContext) (q : Query) (progress : ProgressValue) (after : CacheValue)
    → Starts s q progress after → after ≡ s.cache
lookup-keeps s q (Waits w) after (goes, is, same) = same
lookup-keeps s q (IsDone result) after (last, none, is, ends) = unasked s (first_hop q) last result after none ends

-- ---- a call

continues-keep : (s : CallContext) (a : AttemptValue) (before : CacheValue) (progress : CallProgressValue)
    (after : CacheValue) → Continues s a before progress after → after ≡ before
continues-keep s a before progress after (by_hosts {result = result} found more) =
    continues-keep s (with_result a result) before progress after more
continues-keep s a before progress after (waits {t = t} {w = w} started) =
    lookup-keeps (context_over s before) (question_of a.name t) (Waits w) after started.starts
continues-keep s a before progress after (at_once {t = t} {result = result} {mid = mid} started more) =
    continues-keep s (with_result a result) mid progress after more
    ∙ lookup-keeps (context_over s before) (question_of a.name t) (IsDone result) mid started.starts
continues-keep s a before progress after (stopped is stop) = refl
continues-keep s a before progress after (next_name {name = name} {names = names} is on left more) =
    continues-keep s (at_next a name names) before progress after more
continues-keep s a before progress after (no_name is on left reply) = refl

names-keep : (s : CallContext) (plan : CallPlan) (with_hosts : Bool) (names : List NameValue) (before : CacheValue)
    (progress : CallProgressValue) (after : CacheValue) → StartsNames s plan with_hosts names before progress after
    → after ≡ before
names-keep s plan with_hosts [] before progress after (result, reply, is, same) = same
names-keep s plan with_hosts (name ∷ names) before progress after more =
    continues-keep s (record { plan = plan; with_hosts = with_hosts; name = name; results = []; left = names }) before progress after more

pub start-keeps : (now : ℕ) (call : Call) (before : Resolver) (progress : CallProgressValue) (after : Resolver)
    → StartsAt now call before progress after → after ≡ before
start-keeps now call before progress after h =
    h.others_stay ∙ ap (λ (x : CacheValue). record before { client = record before.client { cache = x } }) (by call h.starts)
  where
    cache : CacheValue
    cache = before.client.cache

    by : (call : Call)
        → StartsCall (call_context_at (settings before) now) (settings before) call cache progress after.client.cache
        ⊎ RunsOutAtStart cache progress after.client.cache → after.client.cache ≡ cache
    by (AtOnce answer) (inl (is, same)) = same
    by (Attempt name plan) (inl starts) = names-keep _ plan _ _ cache progress after.client.cache starts
    by call (inr (is, same)) = same

-- ---- the question of a second family

module _ (q : SecondQuestion) (name : NameValue) (is : name ≡ q.query.name) (before : Resolver)
    (progress : CallProgressValue) (after : Resolver)
    (starts : StartsName (λ given. given ≡ Ok name) q.query.query_type q.started before progress after) where
  pub alone-keeps : after ≡ before
  alone-keeps = by starts
    where
      by : StartsName (λ given. given ≡ Ok name) q.query.query_type q.started before progress after → after ≡ before
      by (given, gives, at) = start-keeps q.started _ before progress after at

  pub alone : StartsAlone q before progress
  alone =
      subst (λ (n : NameValue). StartsName (λ given. given ≡ Ok n) q.query.query_type q.started before progress before) is
      (subst (λ (r : Resolver). StartsName (λ given. given ≡ Ok name) q.query.query_type q.started before progress r) alone-keeps starts)
