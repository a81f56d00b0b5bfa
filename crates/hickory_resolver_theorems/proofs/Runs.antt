-- Over a run: each attempt at one name and type asks eight questions at most, and nothing outlives what was received.
use Rattle.std.proofs.Common.{◌≡◌, ◌⊎◌, ◌≤◌, ℕ, ◌+◌, Bool, not, List, [], ◌∷◌, ◌++◌, length, Result, Ok, Err, append_assoc, append-nil, refl, sym, ap, ap₂, ◌∙◌, subst, arith, inl, inr}
use Rattle.std.proofs.lemmas.List.{map-append}
use Rattle.std.specs.List.{AllByRecursion}
use Rattle.hickory_proto_core.specs.Name.{NameValue}
use Rattle.hickory_proto_core.specs.Codes.{type_code}
use Rattle.hickory_proto_core.specs.Records.{RecordValue}
use Rattle.hickory_proto_core.specs.declared.query.Query.{Query}
use Rattle.hickory_proto_core.specs.codes.record_type.RecordType.{RecordType}
use Rattle.hickory_proto_core.specs.names.name_error.NameError.{NameError}
use Rattle.hickory_proto_core.specs.declared.recorded.Exchange.{Exchange}
use Rattle.hickory_resolver_model.specs.Bounds.{ConfigValue, greatest_ttl}
use Rattle.hickory_resolver_model.specs.Cache.{CacheValue, is_for, without_query}
use Rattle.hickory_resolver_model.specs.Lookup.{LookupResult, question_of}
use Rattle.hickory_resolver_model.specs.Hops.{LookupContext, IsReplyOver, one_cache, passed_of, stores_of}
use Rattle.hickory_resolver_model.specs.Calls.{CallContext, Source, Hosts, Client, SubLookup, IsAnsweredFrom, IsAnsweredFor, context_over, asks_of_sub_lookups}
use Rattle.hickory_resolver_model.specs.Run.{Settings, call_context_at, RequestValue, Lookup, LookupIp, ClearLookup, Clear, moment_of, StepReply, LookedUp, LookedUpIp, Cleared, drop_each, after_clear, IsServed, StepValue, Stage, IsStage, AreStages, Run}
use Rattle.hickory_resolver_model.specs.Attempts.{attempts}
use Rattle.hickory_resolver_theorems.specs.Covered.{Dated, dated_exchanges, IsCovered, IsLoopback}
use Rattle.hickory_resolver_theorems.specs.Statements.{IsFreshRecord, IsFreshReply, IsFreshEntry, AreFreshEntries, IsFreshSubLookup, AsksAtMostEight, AreFreshAnswers, NothingOutlives}
use Rattle.hickory_resolver_theorems.proofs.Lists.{all-weaker, all-filter}
use Rattle.hickory_resolver_theorems.proofs.Covers.{covered-left}
use Rattle.hickory_resolver_theorems.proofs.Stores.{stores-config, entries-more}
use Rattle.hickory_resolver_theorems.proofs.Few.{few}
use Rattle.hickory_resolver_theorems.proofs.Fresh.{fresh}
use Rattle.hickory_resolver_theorems.proofs.Answered.{fresh-answers}
use Rattle.hickory_resolver_theorems.proofs.Chains.{Chain, chain-name, chain-addresses}

-- ---- the bounds stay

pub reply-config : (s : LookupContext) (caches : List CacheValue) (question : Query) (asks : List Exchange) (result : LookupResult) (after : CacheValue) → IsReplyOver s caches question asks result after → after.config ≡ s.cache.config
reply-config s caches question asks result after (inl whole) = ap (λ c. c.config) whole.after_is ∙ stores-config (stores_of s (passed_of s whole.hops.passed) whole.hops.last_hop whole.hops.last) s.cache
reply-config s caches question asks result after (inr (e, inl cut)) = ap (λ c. c.config) cut.begun.after_is ∙ stores-config cut.begun.front s.cache
reply-config s caches question asks result after (inr (e, inr cut)) = ap (λ c. c.config) cut.after_is

-- ---- a part

pub reply-more : (config : ConfigValue) (xs ys : List Dated) (code now : ℕ) (reply : LookupResult) → IsFreshReply config xs code now reply → IsFreshReply config (xs ++ ys) code now reply
reply-more config xs ys code now (Ok l) fresh = all-weaker (IsFreshRecord config xs code now l.valid_until) (IsFreshRecord config (xs ++ ys) code now l.valid_until) (λ r h same. more r (h same)) l.message.answers fresh
  where
    more : (r : RecordValue) → IsLoopback r ⊎ (IsCovered config xs now r × (r.ttl ≤ greatest_ttl config code) × (l.valid_until ≤ now + r.ttl)) → IsLoopback r ⊎ (IsCovered config (xs ++ ys) now r × (r.ttl ≤ greatest_ttl config code) × (l.valid_until ≤ now + r.ttl))
    more r (inl loop) = inl loop
    more r (inr (covered, short, live)) = inr (covered-left config xs ys now r covered, short, live)
reply-more config xs ys code now (Err e) fresh = tt

-- what is known of a part, and of the cache after it
pub record IsGoodPart (now : ℕ) (before : CacheValue) (sources : List Dated) (p : SubLookup) (after : CacheValue) : Type 0 where
  pub few : length p.asks ≤ 8
  pub fresh : IsFreshSubLookup before.config (λ code. sources ++ dated_exchanges now p.asks) now p
  pub entries : AreFreshEntries after (sources ++ dated_exchanges now p.asks)
  pub config : after.config ≡ before.config

good-part : (t : CallContext) (with_hosts : Bool) (q : Query) (before : CacheValue) (sources : List Dated) (p : SubLookup) (after : CacheValue) → AreFreshEntries before sources → IsAnsweredFor t with_hosts before q p after → IsGoodPart t.now before sources p after
good-part t with_hosts q before sources p after entries (for, is) = by p.source refl is
  where
    by : (source : Source) → p.source ≡ source → IsAnsweredFrom source t with_hosts before p after → IsGoodPart t.now before sources p after
    by Hosts e part = record {
      few = omega (arith, ap length part.nothing_asked);
      fresh = λ client. absurd (let clash : Hosts ≡ Client = sym e ∙ client in cc);
      entries = subst (λ c. AreFreshEntries c (sources ++ dated_exchanges t.now p.asks)) (sym part.unchanged) (entries-more before sources (dated_exchanges t.now p.asks) entries);
      config = ap (λ c. c.config) part.unchanged;
    }
    by Client e part =
        let known = fresh (context_over t before) (one_cache (context_over t before) p.asks) p.question p.asks p.result after part.reply sources entries in
        record {
          few = few (context_over t before) (one_cache (context_over t before) p.asks) p.question p.asks p.result after part.reply;
          fresh = λ client zero. known.0 zero;
          entries = known.1;
          config = reply-config (context_over t before) (one_cache (context_over t before) p.asks) p.question p.asks p.result after part.reply;
        }

-- ---- the parts of a call

part-more : (config : ConfigValue) (xs ys : List Dated) (now : ℕ) (p : SubLookup) → IsFreshSubLookup config (λ code. xs) now p → IsFreshSubLookup config (λ code. xs ++ ys) now p
part-more config xs ys now p fresh = λ client zero. reply-more config xs ys (type_code p.question.query_type) now p.result (fresh client zero)

pub record AreGoodParts (now : ℕ) (before : CacheValue) (sources : List Dated) (ps : List SubLookup) (after : CacheValue) : Type 0 where
  pub few : AllByRecursion (λ p. length p.asks ≤ 8) ps
  pub fresh : AllByRecursion (IsFreshSubLookup before.config (λ code. sources ++ dated_exchanges now (asks_of_sub_lookups ps)) now) ps
  pub entries : AreFreshEntries after (sources ++ dated_exchanges now (asks_of_sub_lookups ps))
  pub config : after.config ≡ before.config

pub good-chain : (t : CallContext) (before : CacheValue) (sources : List Dated) (ps : List SubLookup) (after : CacheValue) → AreFreshEntries before sources → Chain (IsAnsweredFor t) before ps after → AreGoodParts t.now before sources ps after
good-chain t before sources [] after entries e = record {
  few = tt;
  fresh = tt;
  entries = subst (AreFreshEntries after) (sym (append-nil sources)) (subst (λ c. AreFreshEntries c sources) (sym e) entries);
  config = ap (λ c. c.config) e;
}
good-chain t before sources (p ∷ ps) after entries (with_hosts, q, mid, is, rest) =
    let one = good-part t with_hosts q before sources p mid entries is in
    let more = good-chain t mid (sources ++ dated_exchanges t.now p.asks) ps after one.entries rest in
    let back = dated_exchanges t.now (asks_of_sub_lookups ps) in
    let same : (sources ++ dated_exchanges t.now p.asks) ++ back ≡ sources ++ dated_exchanges t.now (asks_of_sub_lookups (p ∷ ps)) =
    append_assoc sources (dated_exchanges t.now p.asks) back ∙ ap (λ xs. sources ++ xs) (sym (map-append (λ x. record { moment = t.now; exchange = x }) p.asks (asks_of_sub_lookups ps))) in
    record {
      few = (one.few, more.few);
      fresh = subst (λ xs. AllByRecursion (IsFreshSubLookup before.config (λ code. xs) t.now) (p ∷ ps)) same
          (part-more before.config (sources ++ dated_exchanges t.now p.asks) back t.now p one.fresh, subst (λ c. AllByRecursion (IsFreshSubLookup c (λ code. (sources ++ dated_exchanges t.now p.asks) ++ back) t.now) ps) one.config more.fresh);
      entries = subst (AreFreshEntries after) same more.entries;
      config = more.config ∙ one.config;
    }

-- ---- a request

pub drop_each-fresh : (sources : List Dated) (t : RecordType) (names : List NameValue) (cache : CacheValue) → AreFreshEntries cache sources → AreFreshEntries (drop_each t names cache) sources
drop_each-fresh sources t [] cache entries = entries
drop_each-fresh sources t (n ∷ ns) cache entries =
    drop_each-fresh sources t ns (without_query cache (question_of n t)) (all-filter (IsFreshEntry cache.config sources) (λ e. not (is_for (question_of n t) e)) cache.entries entries)

pub drop_each-config : (t : RecordType) (names : List NameValue) (cache : CacheValue) → (drop_each t names cache).config ≡ cache.config
drop_each-config t [] cache = refl
drop_each-config t (n ∷ ns) cache = drop_each-config t ns (without_query cache (question_of n t))

-- a call that makes no exchange
good-none : (now : ℕ) (before : CacheValue) (sources : List Dated) (ps : List SubLookup) (after : CacheValue) → ps ≡ [] → AreFreshEntries after sources → after.config ≡ before.config → AreGoodParts now before sources ps after
good-none now before sources ps after none entries config =
    subst (λ l. AreGoodParts now before sources l after) (sym none)
    (record { few = tt; fresh = tt; entries = subst (AreFreshEntries after) (sym (append-nil sources)) entries; config = config })

good-clear : (s : Settings) (before : CacheValue) (sources : List Dated) (t : RecordType) (name : Result NameValue NameError) (now : ℕ) (ps : List SubLookup) (after : CacheValue) → AreFreshEntries before sources → ps ≡ [] → after ≡ after_clear s t name before → AreGoodParts now before sources ps after
good-clear s before sources t (Ok n) now ps after entries none e =
    good-none now before sources ps after none (subst (λ c. AreFreshEntries c sources) (sym e) (drop_each-fresh sources t (attempts s.search n) before entries))
    (ap (λ c. c.config) e ∙ drop_each-config t (attempts s.search n) before)
good-clear s before sources t (Err fault) now ps after entries none e =
    good-none now before sources ps after none (subst (λ c. AreFreshEntries c sources) (sym e) entries) (ap (λ c. c.config) e)

good-served : (s : Settings) (before : CacheValue) (sources : List Dated) (request : RequestValue) (ps : List SubLookup) (reply : StepReply) (after : CacheValue) → AreFreshEntries before sources
    → IsServed (λ now. IsAnsweredFor (call_context_at s now)) s before request ps reply after → AreGoodParts (moment_of request) before sources ps after
good-served s before sources (Lookup text t now) ps (LookedUp reply) after entries is =
    good-chain (call_context_at s now) before sources ps after entries (chain-name (IsAnsweredFor (call_context_at s now)) s before text t ps reply after is)
good-served s before sources (LookupIp text now) ps (LookedUpIp reply) after entries is =
    good-chain (call_context_at s now) before sources ps after entries (chain-addresses (IsAnsweredFor (call_context_at s now)) s before text now ps reply after is)
good-served s before sources (ClearLookup text t now) ps (Cleared (Ok u)) after entries (none, (name, said, is)) = good-clear s before sources t name now ps after entries none is
good-served s before sources (ClearLookup text t now) ps (Cleared (Err e)) after entries (none, out, same) =
    good-none now before sources ps after none (subst (λ c. AreFreshEntries c sources) (sym same) entries) (ap (λ c. c.config) same)
good-served s before sources (Clear now) ps (Cleared (Ok u)) after entries (none, e) =
    good-none now before sources ps after none (subst (λ c. AreFreshEntries c sources) (sym e) tt) (ap (λ c. c.config) e)
good-served s before sources (Lookup text t now) ps (LookedUpIp reply) after entries is = absurd is
good-served s before sources (Lookup text t now) ps (Cleared (Ok u)) after entries is = absurd is
good-served s before sources (Lookup text t now) ps (Cleared (Err e)) after entries is = absurd is
good-served s before sources (LookupIp text now) ps (LookedUp reply) after entries is = absurd is
good-served s before sources (LookupIp text now) ps (Cleared (Ok u)) after entries is = absurd is
good-served s before sources (LookupIp text now) ps (Cleared (Err e)) after entries is = absurd is
good-served s before sources (ClearLookup text t now) ps (LookedUp reply) after entries is = absurd is
good-served s before sources (ClearLookup text t now) ps (LookedUpIp reply) after entries is = absurd is
good-served s before sources (Clear now) ps (LookedUp reply) after entries is = absurd is
good-served s before sources (Clear now) ps (LookedUpIp reply) after entries is = absurd is
good-served s before sources (Clear now) ps (Cleared (Err e)) after entries is = absurd is

-- ---- a run

-- a stage is good with its own moment and piece
good-stage : (s : Settings) (sources : List Dated) (stage : Stage) (after : CacheValue) → AreFreshEntries stage.before sources → IsStage s stage after
    → AsksAtMostEight stage × AllByRecursion (IsFreshSubLookup stage.before.config (λ code. sources ++ dated_exchanges stage.step.now stage.piece) stage.step.now) stage.parts × AreFreshEntries after (sources ++ dated_exchanges stage.step.now stage.piece)
good-stage s sources stage after entries is =
    let good = good-served s stage.before sources stage.request stage.parts stage.step.reply after entries is.served in
    let same : sources ++ dated_exchanges (moment_of stage.request) (asks_of_sub_lookups stage.parts) ≡ sources ++ dated_exchanges stage.step.now stage.piece = ap₂ (λ now xs. sources ++ dated_exchanges now xs) (sym is.now_is) (sym is.piece_is) in (
      good.few,
      subst (λ now. AllByRecursion (IsFreshSubLookup stage.before.config (λ code. sources ++ dated_exchanges stage.step.now stage.piece) now) stage.parts) (sym is.now_is)
          (subst (λ xs. AllByRecursion (IsFreshSubLookup stage.before.config (λ code. xs) (moment_of stage.request)) stage.parts) same good.fresh),
      subst (AreFreshEntries after) same good.entries,
    )

-- and so are its answers
answers : (s : Settings) (sources : List Dated) (stage : Stage) (after : CacheValue) → AllByRecursion (IsFreshSubLookup stage.before.config (λ code. sources ++ dated_exchanges stage.step.now stage.piece) stage.step.now) stage.parts → IsStage s stage after
    → AreFreshAnswers stage.before.config (sources ++ dated_exchanges stage.step.now stage.piece) stage stage.step.reply
answers s sources stage after fresh is = fresh-answers (λ now. IsAnsweredFor (call_context_at s now)) s stage.before.config (sources ++ dated_exchanges stage.step.now stage.piece) stage stage.step.reply after fresh is.served

pub good-stages : (s : Settings) (before : CacheValue) (sources : List Dated) (requests : List RequestValue) (stages : List Stage) (after : CacheValue) → AreFreshEntries before sources → AreStages s before requests stages after
    → AllByRecursion AsksAtMostEight stages × NothingOutlives sources stages
good-stages s before sources [] [] after entries e = (tt, tt)
good-stages s before sources [] (stage ∷ stages) after entries e = absurd e
good-stages s before sources (request ∷ requests) [] after entries e = absurd e
good-stages s before sources (request ∷ requests) (stage ∷ stages) after entries (mid, for, starts, is, inl (ended, none, same)) =
    let good = good-stage s sources stage mid (subst (λ c. AreFreshEntries c sources) (sym starts) entries) is in
    ((good.0, subst (AllByRecursion AsksAtMostEight) (sym none) tt), (good.1, answers s sources stage mid good.1 is, subst (NothingOutlives (sources ++ dated_exchanges stage.step.now stage.piece)) (sym none) tt))
good-stages s before sources (request ∷ requests) (stage ∷ stages) after entries (mid, for, starts, is, inr (on, rest)) =
    let good = good-stage s sources stage mid (subst (λ c. AreFreshEntries c sources) (sym starts) entries) is in
    let more = good-stages s mid (sources ++ dated_exchanges stage.step.now stage.piece) requests stages after good.2 rest in
    ((good.0, more.0), (good.1, answers s sources stage mid good.1 is, more.1))

-- from a cache without entries
pub first_clauses : (s : Settings) (empty : CacheValue) (requests : List RequestValue) (steps : List StepValue) (exchanges : List Exchange) (after : CacheValue) → empty.entries ≡ [] → (run : Run s empty requests steps exchanges after)
    → AllByRecursion AsksAtMostEight run.stages × NothingOutlives [] run.stages
first_clauses s empty requests steps exchanges after none run = good-stages s empty [] requests run.stages after (subst (AllByRecursion (IsFreshEntry empty.config [])) (sym none) tt) run.are
