-- A run is a list of events over one cache in which no look-up waits.
use Rattle.std.proofs.Common.{◌≡◌, Bool, true, false, cond, List, [], ◌∷◌, ◌++◌, map, flat_map, Result, Ok, Err, append_assoc, refl, sym, ap, ap₂, ◌∙◌, subst, inl, inr}
use Rattle.std.proofs.lemmas.List.{map-append, append-nil}
use Rattle.std.specs.List.{AllByRecursion}
use Rattle.hickory_proto_core.specs.Name.{NameValue}
use Rattle.hickory_proto_core.specs.declared.query.Query.{Query}
use Rattle.hickory_proto_core.specs.codes.record_type.RecordType.{RecordType}
use Rattle.hickory_proto_core.specs.names.name_error.NameError.{NameError}
use Rattle.hickory_proto_core.specs.declared.recorded.Exchange.{Exchange}
use Rattle.hickory_resolver_model.specs.Cache.{CacheValue, without_query}
use Rattle.hickory_resolver_model.specs.Lookup.{question_of}
use Rattle.hickory_resolver_model.specs.Attempts.{attempts}
use Rattle.hickory_resolver_model.specs.Calls.{CallContext, Source, Hosts, Client, SubLookup, IsAnsweredFrom, IsAnsweredFor, asks_of_sub_lookups}
use Rattle.hickory_resolver_model.specs.Run.{Settings, call_context_at, moment_of, RequestValue, Lookup, LookupIp, ClearLookup, Clear, StepValue, StepReply, LookedUp, LookedUpIp, Cleared, drop_each, after_clear, IsServed, Stage, IsStage, AreStages, Run}
use Rattle.hickory_resolver_theorems.specs.Covered.{Dated, dated_exchanges}
use Rattle.hickory_resolver_theorems.specs.Interleaved.{DoneValue, WorldValue, world_of, EventValue, ClearedOfAll, ClearedOf, Blocked, Happens, Happen, ended_by, ended_in, received_by, received_in}
use Rattle.hickory_resolver_theorems.specs.OneAtATime.{IsAtOnce, is_client, client_parts, part_of, IsOneAtATime}
use Rattle.hickory_resolver_theorems.proofs.Lists.{all-append}
use Rattle.hickory_resolver_theorems.proofs.Chains.{Chain, chain-name, chain-addresses}

-- ---- lists of events

pub happen-append : (preserve : Bool) (before mid after : WorldValue) (es fs : List EventValue) → Happen preserve before es mid → Happen preserve mid fs after → Happen preserve before (es ++ fs) after
happen-append preserve before mid after [] fs e more = subst (λ w. Happen preserve w fs after) e more
happen-append preserve before mid after (event ∷ es) fs (next, is, rest) more = (next, is, happen-append preserve next mid after es fs rest more)

pub received-append : (es fs : List EventValue) → received_in (es ++ fs) ≡ received_in es ++ received_in fs
received-append [] fs = refl
received-append (event ∷ es) fs = ap (λ xs. received_by event ++ xs) (received-append es fs) ∙ sym (append_assoc (received_by event) (received_in es) (received_in fs))

pub ended-append : (es fs : List EventValue) → ended_in (es ++ fs) ≡ ended_in es ++ ended_in fs
ended-append [] fs = refl
ended-append (event ∷ es) fs = ap (λ ds. ended_by event ++ ds) (ended-append es fs) ∙ sym (append_assoc (ended_by event) (ended_in es) (ended_in fs))

-- events in which no look-up waits, with what was received and the parts that the client answered
record AreAtOnce (preserve : Bool) (before after : CacheValue) (received : List Dated) (parts : List SubLookup) : Type 0 where
  events : List EventValue
  at_once : AllByRecursion IsAtOnce events
  happen : Happen preserve (world_of before) events (world_of after)
  received_are : received_in events ≡ received
  ended_are : map part_of (ended_in events) ≡ parts

no-events : (preserve : Bool) (before after : CacheValue) → after ≡ before → AreAtOnce preserve before after [] []
no-events preserve before after same = record { events = []; at_once = tt; happen = ap world_of same; received_are = refl; ended_are = refl }

one-event : (preserve : Bool) (before after : CacheValue) (event : EventValue) → IsAtOnce event → Happens preserve (world_of before) event (world_of after) → AreAtOnce preserve before after (received_by event) (map part_of (ended_by event))
one-event preserve before after event at_once is = record {
  events = event ∷ [];
  at_once = (at_once, tt);
  happen = (world_of after, is, refl);
  received_are = append-nil (received_by event);
  ended_are = ap (map part_of) (append-nil (ended_by event));
}

events-append : (preserve : Bool) (before mid after : CacheValue) (xs ys : List Dated) (ps qs : List SubLookup) → AreAtOnce preserve before mid xs ps → AreAtOnce preserve mid after ys qs → AreAtOnce preserve before after (xs ++ ys) (ps ++ qs)
events-append preserve before mid after xs ys ps qs one more = record {
  events = one.events ++ more.events;
  at_once = all-append IsAtOnce one.events more.events one.at_once more.at_once;
  happen = happen-append preserve (world_of before) (world_of mid) (world_of after) one.events more.events one.happen more.happen;
  received_are = received-append one.events more.events ∙ ap₂ (λ a b. a ++ b) one.received_are more.received_are;
  ended_are = ap (map part_of) (ended-append one.events more.events) ∙ map-append part_of (ended_in one.events) (ended_in more.events) ∙ ap₂ (λ a b. a ++ b) one.ended_are more.ended_are;
}

-- ---- the parts of a call

-- what a part is among those of the client
own-parts : (p : SubLookup) (source : Source) → p.source ≡ source → client_parts (p ∷ []) ≡ cond (is_client source) (p ∷ []) []
own-parts p source e = ap (λ from. cond (is_client from) (p ∷ []) []) e

parts-split : (p : SubLookup) (ps : List SubLookup) → client_parts (p ∷ []) ++ client_parts ps ≡ client_parts (p ∷ ps)
parts-split p ps = by (is_client p.source)
  where
    by : (b : Bool) → cond b (p ∷ []) [] ++ client_parts ps ≡ cond b (p ∷ client_parts ps) (client_parts ps)
    by true = refl
    by false = refl

part-events : (t : CallContext) (with_hosts : Bool) (before : CacheValue) (q : Query) (p : SubLookup) (after : CacheValue) → IsAnsweredFor t with_hosts before q p after → AreAtOnce t.preserve_intermediates before after (dated_exchanges t.now p.asks) (client_parts (p ∷ []))
part-events t with_hosts before q p after (for, is) = by p.source refl is
  where
    by : (source : Source) → p.source ≡ source → IsAnsweredFrom source t with_hosts before p after → AreAtOnce t.preserve_intermediates before after (dated_exchanges t.now p.asks) (client_parts (p ∷ []))
    by Hosts e part =
        subst (λ ps. AreAtOnce t.preserve_intermediates before after (dated_exchanges t.now p.asks) ps) (sym (own-parts p Hosts e))
        (subst (λ xs. AreAtOnce t.preserve_intermediates before after (dated_exchanges t.now xs) []) (sym part.nothing_asked) (no-events t.preserve_intermediates before after part.unchanged))
    by Client e part =
        let d : DoneValue = record { question = p.question; now = t.now; asks = p.asks; caches = map (λ x. before) p.asks; result = p.result } in
        let same : part_of d ≡ p = λ i. record p { source = sym e i } in
        subst (λ ps. AreAtOnce t.preserve_intermediates before after (dated_exchanges t.now p.asks) ps) (ap (λ x. x ∷ []) same ∙ sym (own-parts p Client e))
        (one-event t.preserve_intermediates before after (Blocked d) tt (part.reply, refl, refl))

chain-events : (t : CallContext) (before : CacheValue) (ps : List SubLookup) (after : CacheValue) → Chain (IsAnsweredFor t) before ps after → AreAtOnce t.preserve_intermediates before after (dated_exchanges t.now (asks_of_sub_lookups ps)) (client_parts ps)
chain-events t before [] after same = no-events t.preserve_intermediates before after same
chain-events t before (p ∷ ps) after (with_hosts, q, mid, is, rest) =
    subst (λ xs. AreAtOnce t.preserve_intermediates before after xs (client_parts (p ∷ ps))) (sym (map-append (λ x. record { moment = t.now; exchange = x }) p.asks (asks_of_sub_lookups ps)))
    (subst (λ qs. AreAtOnce t.preserve_intermediates before after (dated_exchanges t.now p.asks ++ dated_exchanges t.now (asks_of_sub_lookups ps)) qs) (parts-split p ps)
    (events-append t.preserve_intermediates before mid after (dated_exchanges t.now p.asks) (dated_exchanges t.now (asks_of_sub_lookups ps)) (client_parts (p ∷ [])) (client_parts ps)
    (part-events t with_hosts before q p mid is) (chain-events t mid ps after rest)))

-- ---- a clear

drop-events : (preserve : Bool) (t : RecordType) (names : List NameValue) (before : CacheValue) → AreAtOnce preserve before (drop_each t names before) [] []
drop-events preserve t [] before = no-events preserve before before refl
drop-events preserve t (n ∷ ns) before =
    let q = question_of n t in
    events-append preserve before (without_query before q) (drop_each t ns (without_query before q)) [] [] [] [] (one-event preserve before (without_query before q) (ClearedOf q) tt refl) (drop-events preserve t ns (without_query before q))

clear-events : (preserve : Bool) (s : Settings) (t : RecordType) (name : Result NameValue NameError) (before : CacheValue) → AreAtOnce preserve before (after_clear s t name before) [] []
clear-events preserve s t (Ok n) before = drop-events preserve t (attempts s.search n) before
clear-events preserve s t (Err fault) before = no-events preserve before before refl

-- ---- a request

abbrev Served : Settings → RequestValue → CacheValue → List SubLookup → CacheValue → Type 0
Served s request before ps after = AreAtOnce s.preserve_intermediates before after (dated_exchanges (moment_of request) (asks_of_sub_lookups ps)) (client_parts ps)

-- one that makes no exchange
none-served : (s : Settings) (request : RequestValue) (before other : CacheValue) (ps : List SubLookup) (after : CacheValue) → ps ≡ [] → after ≡ other → AreAtOnce s.preserve_intermediates before other [] [] → Served s request before ps after
none-served s request before other ps after none same are =
    subst (λ c. Served s request before ps c) (sym same) (subst (λ qs. Served s request before qs other) (sym none) are)

served-events : (s : Settings) (before : CacheValue) (request : RequestValue) (ps : List SubLookup) (reply : StepReply) (after : CacheValue) → IsServed (λ now. IsAnsweredFor (call_context_at s now)) s before request ps reply after → Served s request before ps after
served-events s before (Lookup text t now) ps (LookedUp reply) after is =
    chain-events (call_context_at s now) before ps after (chain-name (IsAnsweredFor (call_context_at s now)) s before text t ps reply after is)
served-events s before (LookupIp text now) ps (LookedUpIp reply) after is =
    chain-events (call_context_at s now) before ps after (chain-addresses (IsAnsweredFor (call_context_at s now)) s before text now ps reply after is)
served-events s before (ClearLookup text t now) ps (Cleared (Ok u)) after (none, (name, said, is)) =
    none-served s (ClearLookup text t now) before (after_clear s t name before) ps after none is (clear-events s.preserve_intermediates s t name before)
served-events s before (ClearLookup text t now) ps (Cleared (Err e)) after (none, out, same) =
    none-served s (ClearLookup text t now) before before ps after none same (no-events s.preserve_intermediates before before refl)
served-events s before (Clear now) ps (Cleared (Ok u)) after (none, same) =
    none-served s (Clear now) before (record before { entries = [] }) ps after none same (one-event s.preserve_intermediates before (record before { entries = [] }) ClearedOfAll tt refl)
served-events s before (Lookup text t now) ps (LookedUpIp reply) after is = absurd is
served-events s before (Lookup text t now) ps (Cleared (Ok u)) after is = absurd is
served-events s before (Lookup text t now) ps (Cleared (Err e)) after is = absurd is
served-events s before (LookupIp text now) ps (LookedUp reply) after is = absurd is
served-events s before (LookupIp text now) ps (Cleared (Ok u)) after is = absurd is
served-events s before (LookupIp text now) ps (Cleared (Err e)) after is = absurd is
served-events s before (ClearLookup text t now) ps (LookedUp reply) after is = absurd is
served-events s before (ClearLookup text t now) ps (LookedUpIp reply) after is = absurd is
served-events s before (Clear now) ps (LookedUp reply) after is = absurd is
served-events s before (Clear now) ps (LookedUpIp reply) after is = absurd is
served-events s before (Clear now) ps (Cleared (Err e)) after is = absurd is

-- ---- a run

stage-events : (s : Settings) (stage : Stage) (after : CacheValue) → IsStage s stage after → AreAtOnce s.preserve_intermediates stage.before after (dated_exchanges stage.step.now stage.piece) (client_parts stage.parts)
stage-events s stage after is =
    let same : dated_exchanges (moment_of stage.request) (asks_of_sub_lookups stage.parts) ≡ dated_exchanges stage.step.now stage.piece = ap₂ dated_exchanges (sym is.now_is) (sym is.piece_is) in
    subst (λ xs. AreAtOnce s.preserve_intermediates stage.before after xs (client_parts stage.parts)) same (served-events s stage.before stage.request stage.parts stage.step.reply after is.served)

abbrev received_by_stages : List Stage → List Dated
received_by_stages stages = flat_map (λ stage. dated_exchanges stage.step.now stage.piece) stages

abbrev parts_of_stages : List Stage → List SubLookup
parts_of_stages stages = flat_map (λ stage. client_parts stage.parts) stages

-- a stage, and the stages after it
then-events : (s : Settings) (before mid after : CacheValue) (stage : Stage) (stages : List Stage) → stage.before ≡ before → IsStage s stage mid → AreAtOnce s.preserve_intermediates mid after (received_by_stages stages) (parts_of_stages stages)
    → AreAtOnce s.preserve_intermediates before after (received_by_stages (stage ∷ stages)) (parts_of_stages (stage ∷ stages))
then-events s before mid after stage stages starts is rest =
    events-append s.preserve_intermediates before mid after (dated_exchanges stage.step.now stage.piece) (received_by_stages stages) (client_parts stage.parts) (parts_of_stages stages)
    (subst (λ c. AreAtOnce s.preserve_intermediates c mid (dated_exchanges stage.step.now stage.piece) (client_parts stage.parts)) starts (stage-events s stage mid is)) rest

stages-events : (s : Settings) (before : CacheValue) (requests : List RequestValue) (stages : List Stage) (after : CacheValue) → AreStages s before requests stages after → AreAtOnce s.preserve_intermediates before after (received_by_stages stages) (parts_of_stages stages)
stages-events s before [] [] after same = no-events s.preserve_intermediates before after same
stages-events s before [] (stage ∷ stages) after never = absurd never
stages-events s before (request ∷ requests) [] after never = absurd never
stages-events s before (request ∷ requests) (stage ∷ stages) after (mid, for, starts, is, inl (ended, none, same)) =
    then-events s before mid after stage stages starts is
    (subst (λ ss. AreAtOnce s.preserve_intermediates mid after (received_by_stages ss) (parts_of_stages ss)) (sym none) (no-events s.preserve_intermediates mid after same))
stages-events s before (request ∷ requests) (stage ∷ stages) after (mid, for, starts, is, inr (on, rest)) =
    then-events s before mid after stage stages starts is (stages-events s mid requests stages after rest)

pub one_at_a_time : (s : Settings) (before : CacheValue) (requests : List RequestValue) (steps : List StepValue) (exchanges : List Exchange) (after : CacheValue) → (run : Run s before requests steps exchanges after) → IsOneAtATime s before requests steps exchanges after run
one_at_a_time s before requests steps exchanges after run =
    let are = stages-events s before requests run.stages after run.are in
    record { events = are.events; at_once = are.at_once; happen = are.happen; received = are.received_are; ended = are.ended_are }
