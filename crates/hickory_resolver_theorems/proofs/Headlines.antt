-- Every reply of a run is the cacheless resolver's; and so the headline holds of every run.
use Rattle.std.proofs.Common.{◌≡◌, ◌⊎◌, ℕ, Bool, true, false, not, List, [], ◌∷◌, ◌++◌, Result, Ok, Err, refl, sym, ap, subst, inl, inr}
use Rattle.std.specs.List.{AllByRecursion}
use Rattle.hickory_proto_core.specs.Name.{NameValue}
use Rattle.hickory_proto_core.specs.Table.{TableValue}
use Rattle.hickory_proto_core.specs.declared.query.Query.{Query}
use Rattle.hickory_proto_core.specs.codes.record_type.RecordType.{RecordType}
use Rattle.hickory_proto_core.specs.names.name_error.NameError.{NameError}
use Rattle.hickory_proto_core.specs.declared.recorded.Exchange.{Exchange}
use Rattle.hickory_proto_core.specs.declared.net_error.NetError.TheVariants.{OutOfMemory}
use Rattle.hickory_resolver_model.specs.Cache.{CacheValue, is_for, without_query}
use Rattle.hickory_resolver_model.specs.Lookup.{LookupResult, question_of}
use Rattle.hickory_resolver_model.specs.Hosts.{NotInHosts}
use Rattle.hickory_resolver_model.specs.Hops.{one_cache}
use Rattle.hickory_resolver_model.specs.Calls.{CallContext, Source, Hosts, Client, SubLookup, IsAnsweredFrom, IsAnsweredFor, context_over, is_out_of_memory, asks_of_sub_lookups}
use Rattle.hickory_resolver_model.specs.Attempts.{attempts}
use Rattle.hickory_resolver_model.specs.Run.{Settings, call_context_at, RequestValue, Lookup, LookupIp, ClearLookup, Clear, StepReply, LookedUp, LookedUpIp, Cleared, ends_run, drop_each, after_clear, Call, name_call, address_call, IsCall, IsServed, StepValue, Stage, IsStage, AreStages, exchanges_of, Run}
use Rattle.hickory_resolver_theorems.specs.Cacheless.{IsTable, ResolvesTo, IsConsistentWith, AreConsistentWith}
use Rattle.hickory_resolver_theorems.specs.Cores.{reply_core}
use Rattle.hickory_resolver_theorems.specs.Statements.{IsWhatItResolvesTo, AreWhatTheyResolveTo, AskedWithinEight, CachelessSubLookup, IsCacheless, IsAsWithoutCache, AreAsWithoutCache, Headline}
use Rattle.hickory_resolver_theorems.proofs.Lists.{all-front, all-back, all-both, all-filter}
use Rattle.hickory_resolver_theorems.proofs.Transparent.{transparent}
use Rattle.hickory_resolver_theorems.proofs.Runs.{first_clauses}
use Rattle.hickory_resolver_theorems.proofs.UnlessOut.{call-unless}

-- what a run is seen under: a table without equal questions, and the option off
pub record Seen (table : TableValue) (t : CallContext) : Type 0 where
  pub apart : IsTable table
  pub off : t.preserve_intermediates ≡ false

-- ---- a part

-- a part is out of memory, or the cacheless resolver's, at whatever cache; and the entries after it are meant
abbrev PartAlike : TableValue → CallContext → Bool → CacheValue → Query → SubLookup → CacheValue → Type 0
PartAlike table t with_hosts c q p after = ((is_out_of_memory p.result ≡ true) ⊎ CachelessSubLookup table t with_hosts c q p c) × AreWhatTheyResolveTo table after

part-alike : (table : TableValue) (t : CallContext) (with_hosts : Bool) (c before : CacheValue) (q : Query) (p : SubLookup) (after : CacheValue) → Seen table t → AreWhatTheyResolveTo table before → AskedWithinEight table p → AreConsistentWith table p.asks → IsAnsweredFor t with_hosts before q p after → PartAlike table t with_hosts c q p after
part-alike table t with_hosts c before q p after seen meant has tells (for, is) = by p.source refl is
  where
    by : (source : Source) → p.source ≡ source → IsAnsweredFrom source t with_hosts before p after → PartAlike table t with_hosts c q p after
    by Hosts e part = (
      inr (for, inl (record { asks_hosts = part.asks_hosts; found = part.found; has = part.has; result_is = part.result_is; nothing_asked = part.nothing_asked; unchanged = refl })),
      subst (AreWhatTheyResolveTo table) (sym part.unchanged) meant,
    )
    by Client e part =
        let meaning = has e in
        let there = transparent (context_over t before) (one_cache (context_over t before) p.asks) p.question p.asks p.result after part.reply table seen.off seen.apart tells meant meaning.0 meaning.1 meaning.2 meaning.3 in
        (on there.0, there.1)
      where
        on : ((p.result ≡ Err OutOfMemory) ⊎ (reply_core p.result ≡ (has e).0)) → (is_out_of_memory p.result ≡ true) ⊎ CachelessSubLookup table t with_hosts c q p c
        on (inl out) = inl (ap is_out_of_memory out)
        on (inr same) =
            inr (
              for,
              inr (
                record {
                  reply = (has e).0;
                  length_is = (has e).1;
                  not_in_hosts = subst (λ x. NotInHosts with_hosts x t.now t.hosts) for part.not_in_hosts;
                  means = subst (λ x. ResolvesTo table x (has e).0 (has e).1) for (has e).2;
                  result_is = same;
                },
                refl,
              ),
            )

-- what holds of the exchanges of a call holds of those of each part
pub asks-all : (P : Exchange → Type 0) (ps : List SubLookup) → AllByRecursion P (asks_of_sub_lookups ps) → AllByRecursion (λ p. AllByRecursion P p.asks) ps
asks-all P [] h = tt
asks-all P (p ∷ ps) h = (all-front P p.asks (asks_of_sub_lookups ps) h, asks-all P ps (all-back P p.asks (asks_of_sub_lookups ps) h))

-- ---- a request

-- a request that is answered: out of memory, or the cacheless resolver's reply; and the entries after it are meant
abbrev ServedAlike : TableValue → Settings → CacheValue → RequestValue → StepReply → CacheValue → Type 0
ServedAlike table s c request reply after = ((ends_run reply ≡ true) ⊎ IsCacheless table s c request reply) × AreWhatTheyResolveTo table after

pub call-alike : (table : TableValue) (s : Settings) (c before : CacheValue) (now : ℕ) (call : Call) (parts : List SubLookup) (reply : LookupResult) (after : CacheValue) → Seen table (call_context_at s now) → AreWhatTheyResolveTo table before → AllByRecursion (AskedWithinEight table) parts → AreConsistentWith table (asks_of_sub_lookups parts)
    → IsCall (IsAnsweredFor (call_context_at s now)) s before call parts reply after
    → ((is_out_of_memory reply ≡ true) ⊎ IsCall (CachelessSubLookup table (call_context_at s now)) s c call parts reply c) × AreWhatTheyResolveTo table after
call-alike table s c before now call parts reply after seen meant has tells is =
    let t = call_context_at s now in
    call-unless (IsAnsweredFor t) (CachelessSubLookup table t) (AreWhatTheyResolveTo table) (λ p. AskedWithinEight table p × AreConsistentWith table p.asks) (λ x. c)
    (λ with_hosts mid q p next holds own answered. part-alike table t with_hosts c mid q p next seen holds own.0 own.1 answered) s before call parts reply after meant
    (all-both (AskedWithinEight table) (λ p. AreConsistentWith table p.asks) parts has (asks-all (IsConsistentWith table) parts tells)) is

name-alike : (table : TableValue) (s : Settings) (c before : CacheValue) (text : List ℕ) (u : RecordType) (now : ℕ) (parts : List SubLookup) (reply : LookupResult) (after : CacheValue) → Seen table (call_context_at s now) → AreWhatTheyResolveTo table before → AllByRecursion (AskedWithinEight table) parts → AreConsistentWith table (asks_of_sub_lookups parts)
    → IsServed (λ at. IsAnsweredFor (call_context_at s at)) s before (Lookup text u now) parts (LookedUp reply) after → ServedAlike table s c (Lookup text u now) (LookedUp reply) after
name-alike table s c before text u now parts reply after seen meant has tells (inl (name, said, is)) = (by there.0, there.1)
  where
    there : ((is_out_of_memory reply ≡ true) ⊎ IsCall (CachelessSubLookup table (call_context_at s now)) s c (name_call u name) parts reply c) × AreWhatTheyResolveTo table after
    there = call-alike table s c before now (name_call u name) parts reply after seen meant has tells is

    by : (is_out_of_memory reply ≡ true) ⊎ IsCall (CachelessSubLookup table (call_context_at s now)) s c (name_call u name) parts reply c → (is_out_of_memory reply ≡ true) ⊎ IsCacheless table s c (Lookup text u now) (LookedUp reply)
    by (inl out) = inl out
    by (inr alike) = inr (parts, reply, inl (name, said, alike), refl)
name-alike table s c before text u now parts reply after seen meant has tells (inr (none, e, same)) = (inl (ap is_out_of_memory e), subst (AreWhatTheyResolveTo table) (sym same) meant)

addresses-alike : (table : TableValue) (s : Settings) (c before : CacheValue) (text : List ℕ) (now : ℕ) (parts : List SubLookup) (reply : LookupResult) (after : CacheValue) → Seen table (call_context_at s now) → AreWhatTheyResolveTo table before → AllByRecursion (AskedWithinEight table) parts → AreConsistentWith table (asks_of_sub_lookups parts)
    → IsServed (λ at. IsAnsweredFor (call_context_at s at)) s before (LookupIp text now) parts (LookedUpIp reply) after → ServedAlike table s c (LookupIp text now) (LookedUpIp reply) after
addresses-alike table s c before text now parts reply after seen meant has tells (inl (given, said, is)) = (by there.0, there.1)
  where
    call : Call
    call = address_call s given.address given.name now

    there : ((is_out_of_memory reply ≡ true) ⊎ IsCall (CachelessSubLookup table (call_context_at s now)) s c call parts reply c) × AreWhatTheyResolveTo table after
    there = call-alike table s c before now call parts reply after seen meant has tells is

    by : (is_out_of_memory reply ≡ true) ⊎ IsCall (CachelessSubLookup table (call_context_at s now)) s c call parts reply c → (is_out_of_memory reply ≡ true) ⊎ IsCacheless table s c (LookupIp text now) (LookedUpIp reply)
    by (inl out) = inl out
    by (inr alike) = inr (parts, reply, inl (given, said, alike), refl)
addresses-alike table s c before text now parts reply after seen meant has tells (inr (none, e, same)) = (inl (ap is_out_of_memory e), subst (AreWhatTheyResolveTo table) (sym same) meant)

pub drop_each-meant : (table : TableValue) (u : RecordType) (names : List NameValue) (cache : CacheValue) → AreWhatTheyResolveTo table cache → AreWhatTheyResolveTo table (drop_each u names cache)
drop_each-meant table u [] cache meant = meant
drop_each-meant table u (n ∷ ns) cache meant = drop_each-meant table u ns (without_query cache (question_of n u)) (all-filter (IsWhatItResolvesTo table) (λ e. not (is_for (question_of n u) e)) cache.entries meant)

pub clear-meant : (table : TableValue) (s : Settings) (before : CacheValue) (u : RecordType) (name : Result NameValue NameError) (after : CacheValue) → AreWhatTheyResolveTo table before → after ≡ after_clear s u name before → AreWhatTheyResolveTo table after
clear-meant table s before u (Ok n) after meant e = subst (AreWhatTheyResolveTo table) (sym e) (drop_each-meant table u (attempts s.search n) before meant)
clear-meant table s before u (Err fault) after meant e = subst (AreWhatTheyResolveTo table) (sym e) meant

served-alike : (table : TableValue) (s : Settings) (c before : CacheValue) (request : RequestValue) (parts : List SubLookup) (reply : StepReply) (after : CacheValue) → IsTable table → s.preserve_intermediates ≡ false → AreWhatTheyResolveTo table before → AllByRecursion (AskedWithinEight table) parts → AreConsistentWith table (asks_of_sub_lookups parts)
    → IsServed (λ now. IsAnsweredFor (call_context_at s now)) s before request parts reply after → ServedAlike table s c request reply after
served-alike table s c before (Lookup text u now) parts (LookedUp reply) after apart off meant has tells is = name-alike table s c before text u now parts reply after (record { apart = apart; off = off }) meant has tells is
served-alike table s c before (LookupIp text now) parts (LookedUpIp reply) after apart off meant has tells is = addresses-alike table s c before text now parts reply after (record { apart = apart; off = off }) meant has tells is
served-alike table s c before (ClearLookup text u now) parts (Cleared (Ok x)) after apart off meant has tells (none, (name, said, is)) = (inr tt, clear-meant table s before u name after meant is)
served-alike table s c before (ClearLookup text u now) parts (Cleared (Err e)) after apart off meant has tells (none, out, same) = (inl refl, subst (AreWhatTheyResolveTo table) (sym same) meant)
served-alike table s c before (Clear now) parts (Cleared (Ok x)) after apart off meant has tells (none, e) = (inr tt, subst (AreWhatTheyResolveTo table) (sym e) tt)
served-alike table s c before (Lookup text u now) parts (LookedUpIp reply) after apart off meant has tells is = absurd is
served-alike table s c before (Lookup text u now) parts (Cleared (Ok x)) after apart off meant has tells is = absurd is
served-alike table s c before (Lookup text u now) parts (Cleared (Err e)) after apart off meant has tells is = absurd is
served-alike table s c before (LookupIp text now) parts (LookedUp reply) after apart off meant has tells is = absurd is
served-alike table s c before (LookupIp text now) parts (Cleared (Ok x)) after apart off meant has tells is = absurd is
served-alike table s c before (LookupIp text now) parts (Cleared (Err e)) after apart off meant has tells is = absurd is
served-alike table s c before (ClearLookup text u now) parts (LookedUp reply) after apart off meant has tells is = absurd is
served-alike table s c before (ClearLookup text u now) parts (LookedUpIp reply) after apart off meant has tells is = absurd is
served-alike table s c before (Clear now) parts (LookedUp reply) after apart off meant has tells is = absurd is
served-alike table s c before (Clear now) parts (LookedUpIp reply) after apart off meant has tells is = absurd is
served-alike table s c before (Clear now) parts (Cleared (Err e)) after apart off meant has tells is = absurd is

-- ---- a run

stage-alike : (table : TableValue) (s : Settings) (stage : Stage) (after : CacheValue) → IsTable table → s.preserve_intermediates ≡ false → AreWhatTheyResolveTo table stage.before → AllByRecursion (AskedWithinEight table) stage.parts → AreConsistentWith table stage.piece → IsStage s stage after → IsAsWithoutCache table s stage × AreWhatTheyResolveTo table after
stage-alike table s stage after apart off meant has tells is =
    served-alike table s stage.before stage.before stage.request stage.parts stage.step.reply after apart off meant has (subst (AreConsistentWith table) is.piece_is tells) is.served

-- a step after these, whatever comes after it
stage-alike-after : (table : TableValue) (s : Settings) (before : CacheValue) (requests : List RequestValue) (earlier : List Stage) (stage : Stage) (later : List Stage) (after : CacheValue) → IsTable table → s.preserve_intermediates ≡ false → AreWhatTheyResolveTo table before
    → AreConsistentWith table (exchanges_of (earlier ++ stage ∷ [])) → AllByRecursion (λ x. AllByRecursion (AskedWithinEight table) x.parts) (earlier ++ stage ∷ [])
    → AreStages s before requests (earlier ++ stage ∷ later) after → IsAsWithoutCache table s stage
stage-alike-after table s before [] [] stage later after apart off meant tells has are = absurd are
stage-alike-after table s before [] (e ∷ es) stage later after apart off meant tells has are = absurd are
stage-alike-after table s before (request ∷ requests) [] stage later after apart off meant tells (own, has) (mid, for, starts, is, goes) =
    (stage-alike table s stage mid apart off (subst (AreWhatTheyResolveTo table) (sym starts) meant) own (all-front (IsConsistentWith table) stage.piece [] tells) is).0
stage-alike-after table s before (request ∷ requests) (e ∷ es) stage later after apart off meant tells (own, has) (mid, for, starts, is, inl (ended, none, same)) =
    absurd (nothing es none)
  where
    nothing : (xs : List Stage) → xs ++ stage ∷ later ≡ [] → ⊥
    nothing [] h = let clash : stage ∷ later ≡ [] = h in cc
    nothing (x ∷ xs) h = let clash : x ∷ (xs ++ stage ∷ later) ≡ [] = h in cc
stage-alike-after table s before (request ∷ requests) (e ∷ es) stage later after apart off meant tells (own, has) (mid, for, starts, is, inr (on, rest)) =
    let here = stage-alike table s e mid apart off (subst (AreWhatTheyResolveTo table) (sym starts) meant) own (all-front (IsConsistentWith table) e.piece (exchanges_of (es ++ stage ∷ [])) tells) is in
    stage-alike-after table s mid requests es stage later after apart off here.1 (all-back (IsConsistentWith table) e.piece (exchanges_of (es ++ stage ∷ [])) tells) has rest

pub headline : (s : Settings) (empty : CacheValue) (requests : List RequestValue) (steps : List StepValue) (exchanges : List Exchange) (after : CacheValue) (run : Run s empty requests steps exchanges after) → empty.entries ≡ [] → Headline s empty requests steps exchanges after run
headline s empty requests steps exchanges after run none =
    let first = first_clauses s empty requests steps exchanges after none run in
    (first.0, first.1, last)
  where
    last : AreAsWithoutCache s run.stages
    last earlier stage later split table off apart tells has =
        stage-alike-after table s empty requests earlier stage later after apart off (subst (AllByRecursion (IsWhatItResolvesTo table)) (sym none) tt) tells has (subst (λ xs. AreStages s empty requests xs after) split run.are)
