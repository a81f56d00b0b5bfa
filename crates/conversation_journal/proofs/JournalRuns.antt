-- A run that grows by one request at its end, and its text.
use Rattle.std.proofs.Common.{◌≡◌, ◌∙◌, ℕ, true, false, not, List, [], ◌∷◌, ◌++◌, length, map, flat_map, take, drop, Option, None, Some, Result, Ok, Err, refl, sym, ap, ap₂, subst, inl, inr}
use Rattle.std.proofs.lemmas.Bool.{and_from}
use Rattle.std.proofs.lemmas.Grind.{flat_map-append}
use Rattle.std.proofs.lemmas.List.{append-nil}
use Rattle.std.specs.List.{AllByRecursion}
use Rattle.hickory_proto_core.specs.Handles.{OutcomeValue, ScriptStep, Leads}
use Rattle.hickory_proto_core.specs.declared.dns_request.DnsRequestOptions.{DnsRequestOptions}
use Rattle.hickory_proto_core.specs.declared.recorded.Exchange.{Exchange}
use Rattle.hickory_resolver_model.specs.Cache.{CacheValue}
use Rattle.std.specs.declared.net.IpAddr.{IpAddr}
use Rattle.hickory_proto_core.specs.Name.{NameValue}
use Rattle.hickory_proto_core.specs.codes.record_type.RecordType.{RecordType}
use Rattle.hickory_proto_core.specs.names.name_error.NameError.{NameError}
use Rattle.hickory_resolver_model.specs.Calls.{SubLookup}
use Rattle.hickory_resolver_model.specs.Lookup.{LookupResult}
use Rattle.hickory_resolver_model.specs.Run.{RequestValue, Lookup, LookupIp, ClearLookup, Clear, Settings, Call, AtOnce, Attempt, IsCall, IsServed, Stage, StepReply, LookedUp, LookedUpIp, Cleared, StepValue, IsStage, AreStages, address_call, after_clear, answers_at, exchanges_of, ends_run, first_cache, name_call}
use Rattle.hickory_resolver_theorems.proofs.PromisesHold.{promised_run}
use Rattle.replay_script.specs.Output.{run_text, step_text}
use Rattle.replay.specs.ScriptRun.{IsTextOfRun, is_remembered}

-- the block of a stage
abbrev pub stage_text : Stage → List ℕ
stage_text stage = step_text stage.request (map (λ x. x.query) stage.piece) stage.step.reply

abbrev pub AreLive : List Stage → Type 0
AreLive stages = AllByRecursion (λ stage. ends_run stage.step.reply ≡ false) stages

-- the requests so far were run, with these exchanges, and this is their text
pub record HasRun (s : Settings) (requests : List RequestValue) (exchanges : List Exchange) (cache : CacheValue) (text : List ℕ) : Type 0 where
  pub stages : List Stage
  pub are : AreStages s (first_cache s) requests stages cache
  pub live : AreLive stages
  pub joined : exchanges ≡ exchanges_of stages
  pub text_is : text ≡ flat_map stage_text stages

pub none_run : (s : Settings) → HasRun s [] [] (first_cache s) []
none_run s = record { stages = []; are = refl; live = tt; joined = refl; text_is = refl }

stages-more : (s : Settings) (before mid : CacheValue) (requests : List RequestValue) (stages : List Stage) (stage : Stage) (after : CacheValue) → AreLive stages → AreStages s before requests stages mid → stage.before ≡ mid → ends_run stage.step.reply ≡ false → IsStage s stage after
    → AreStages s before (requests ++ stage.request ∷ []) (stages ++ stage ∷ []) after
stages-more s before mid [] [] stage after live same begins on is = (after, refl, begins ∙ same, is, inr (on, refl))
stages-more s before mid [] (x ∷ stages) stage after live never begins on is = absurd never
stages-more s before mid (q ∷ requests) [] stage after live never begins on is = absurd never
stages-more s before mid (q ∷ requests) (x ∷ stages) stage after (own, live) (m, for, starts, one, inl (ended, none, same)) begins on is = absurd (let clash : true ≡ false = sym ended ∙ own in cc)
stages-more s before mid (q ∷ requests) (x ∷ stages) stage after (own, live) (m, for, starts, one, inr (goes, rest)) begins on is =
    (m, for, starts, one, inr (goes, stages-more s m mid requests stages stage after live rest begins on is))

live-more : (stages : List Stage) (stage : Stage) → AreLive stages → ends_run stage.step.reply ≡ false → AreLive (stages ++ stage ∷ [])
live-more [] stage live on = (on, tt)
live-more (x ∷ stages) stage (own, live) on = (own, live-more stages stage live on)

pub run-more : (s : Settings) (requests : List RequestValue) (exchanges : List Exchange) (cache : CacheValue) (text : List ℕ) (stage : Stage) (after : CacheValue) → HasRun s requests exchanges cache text → stage.before ≡ cache → ends_run stage.step.reply ≡ false → IsStage s stage after
    → HasRun s (requests ++ stage.request ∷ []) (exchanges ++ stage.piece) after (text ++ stage_text stage)
run-more s requests exchanges cache text stage after run begins on is = record {
  stages = run.stages ++ stage ∷ [];
  are = stages-more s (first_cache s) cache requests run.stages stage after run.live run.are begins on is;
  live = live-more run.stages stage run.live on;
  joined = ap (λ xs. xs ++ stage.piece) run.joined ∙ ap (λ xs. exchanges_of run.stages ++ xs) (sym (append-nil stage.piece)) ∙ sym (flat_map-append (λ x. x.piece) run.stages (stage ∷ []));
  text_is = ap (λ t. t ++ stage_text stage) run.text_is ∙ ap (λ xs. flat_map stage_text run.stages ++ xs) (sym (append-nil (stage_text stage))) ∙ sym (flat_map-append stage_text run.stages (stage ∷ []));
}

-- ---- its text is that of a replay

take-front : {X : Type 0} (xs ys : List X) → take (length xs) (xs ++ ys) ≡ xs
take-front [] ys = refl
take-front (x ∷ xs) ys = ap (λ more. x ∷ more) (take-front xs ys)

drop-front : {X : Type 0} (xs ys : List X) → drop (length xs) (xs ++ ys) ≡ ys
drop-front [] ys = refl
drop-front (x ∷ xs) ys = drop-front xs ys

steps_of : List Stage → List StepValue
steps_of stages = map (λ stage. stage.step) stages

text-of-stages : (s : Settings) (before : CacheValue) (requests : List RequestValue) (stages : List Stage) (after : CacheValue) → AreLive stages → AreStages s before requests stages after
    → run_text requests (map (λ stage. stage.step) stages) (exchanges_of stages) ≡ flat_map stage_text stages
text-of-stages s before [] [] after live same = refl
text-of-stages s before [] (x ∷ stages) after live never = absurd never
text-of-stages s before (q ∷ requests) [] after live never = absurd never
text-of-stages s before (q ∷ requests) (x ∷ stages) after (own, live) (m, for, starts, one, inl (ended, none, same)) = absurd (let clash : true ≡ false = sym ended ∙ own in cc)
text-of-stages s before (q ∷ requests) (x ∷ stages) after (own, live) (m, for, starts, one, inr (goes, rest)) =
    let taken : take x.step.exchanges (x.piece ++ exchanges_of stages) ≡ x.piece = ap (λ n. take n (x.piece ++ exchanges_of stages)) one.count_is ∙ take-front x.piece (exchanges_of stages) in
    let left : drop x.step.exchanges (x.piece ++ exchanges_of stages) ≡ exchanges_of stages = ap (λ n. drop n (x.piece ++ exchanges_of stages)) one.count_is ∙ drop-front x.piece (exchanges_of stages) in
    ap₂ (λ xs t. step_text q (map (λ e. e.query) xs) x.step.reply ++ t) taken (ap (λ xs. run_text requests (map (λ stage. stage.step) stages) xs) left ∙ text-of-stages s m requests stages after live rest)
    ∙ ap (λ r. step_text r (map (λ e. e.query) x.piece) x.step.reply ++ flat_map stage_text stages) (sym for)

remembered : (stages : List Stage) → AreLive stages → is_remembered (map (λ stage. stage.step) stages) ≡ true
remembered [] live = refl
remembered (x ∷ stages) (own, live) = and_from _ _ (ap not own) (remembered stages live)

-- outcomes in order lead to their end
leads : (options : DnsRequestOptions) (xs : List Exchange) → Leads ScriptStep options (map (λ x. x.outcome) xs) xs []
leads options [] = refl
leads options (x ∷ xs) = (map (λ y. y.outcome) xs, (refl, refl), leads options xs)

pub run-told : (s : Settings) (requests : List RequestValue) (exchanges : List Exchange) (cache : CacheValue) (text : List ℕ) (outcomes : List OutcomeValue) → HasRun s requests exchanges cache text → outcomes ≡ map (λ x. x.outcome) exchanges
    → IsTextOfRun ScriptStep s outcomes requests text
run-told s requests exchanges cache text outcomes run are =
    let P : List OutcomeValue → Type 0 = λ os. IsTextOfRun ScriptStep s os requests text in
    subst P (sym are) (record {
      steps = map (λ stage. stage.step) run.stages;
      exchanges = exchanges;
      upstream_after = [];
      cache_after = cache;
      run = promised_run ScriptStep s (map (λ x. x.outcome) exchanges) requests (map (λ stage. stage.step) run.stages) exchanges [] cache (record {
        led = leads s.request_options exchanges;
        run = record { stages = run.stages; joined = sym run.joined; steps_are = refl; are = run.are };
      });
      told = (remembered run.stages run.live, run.text_is ∙ sym (ap (λ xs. run_text requests (map (λ stage. stage.step) run.stages) xs) run.joined ∙ text-of-stages s (first_cache s) requests run.stages cache run.live run.are));
    })

-- ---- how questions are sent changes nothing of a run

abbrev pub sent_so : Settings → DnsRequestOptions → Settings
sent_so s options = record s { request_options = options }

module _ (s : Settings) (options : DnsRequestOptions) where
  abbrev so : Settings
  so = sent_so s options

  call-as : (now : ℕ) (before : CacheValue) (call : Call) (parts : List SubLookup) (reply : LookupResult) (after : CacheValue) → IsCall (answers_at so now) so before call parts reply after → IsCall (answers_at s now) s before call parts reply after
  call-as now before (AtOnce answer) parts reply after is = is
  call-as now before (Attempt n plan) parts reply after is = is

  address-as : (address : Option IpAddr) (name : Result NameValue NameError) (now : ℕ) → address_call so address name now ≡ address_call s address name now
  address-as None (Ok n) now = refl
  address-as None (Err f) now = refl
  address-as (Some a) (Ok n) now = refl
  address-as (Some a) (Err f) now = refl

  clear-as : (t : RecordType) (name : Result NameValue NameError) (before : CacheValue) → after_clear so t name before ≡ after_clear s t name before
  clear-as t (Ok n) before = refl
  clear-as t (Err f) before = refl

  served-as : (before : CacheValue) (q : RequestValue) (parts : List SubLookup) (reply : StepReply) (after : CacheValue) → IsServed (answers_at so) so before q parts reply after → IsServed (answers_at s) s before q parts reply after
  served-as before (Lookup text t now) parts (LookedUp reply) after (inl (name, read, is)) = inl (name, read, call-as now before (name_call t name) parts reply after is)
  served-as before (Lookup text t now) parts (LookedUp reply) after (inr out) = inr out
  served-as before (Lookup text t now) parts (LookedUpIp reply) after never = absurd never
  served-as before (Lookup text t now) parts (Cleared r) after never = absurd never
  served-as before (LookupIp text now) parts (LookedUpIp reply) after (inl (given, by, is)) =
      let P : Call → Type 0 = λ call. IsCall (answers_at so now) so before call parts reply after in
      inl (given, by, call-as now before (address_call s given.address given.name now) parts reply after (subst P (address-as given.address given.name now) is))
  served-as before (LookupIp text now) parts (LookedUpIp reply) after (inr out) = inr out
  served-as before (LookupIp text now) parts (LookedUp reply) after never = absurd never
  served-as before (LookupIp text now) parts (Cleared r) after never = absurd never
  served-as before (ClearLookup text t now) parts (Cleared (Ok u)) after (none, (name, read, is)) = (none, (name, read, is ∙ clear-as t name before))
  served-as before (ClearLookup text t now) parts (Cleared (Err e)) after is = is
  served-as before (ClearLookup text t now) parts (LookedUp reply) after never = absurd never
  served-as before (ClearLookup text t now) parts (LookedUpIp reply) after never = absurd never
  served-as before (Clear now) parts (Cleared (Ok u)) after is = is
  served-as before (Clear now) parts (Cleared (Err e)) after never = absurd never
  served-as before (Clear now) parts (LookedUp reply) after never = absurd never
  served-as before (Clear now) parts (LookedUpIp reply) after never = absurd never

  stage-as : (stage : Stage) (after : CacheValue) → IsStage so stage after → IsStage s stage after
  stage-as stage after is = record {
    served = served-as stage.before stage.request stage.parts stage.step.reply after is.served;
    piece_is = is.piece_is;
    now_is = is.now_is;
    count_is = is.count_is;
  }

  stages-as : (before : CacheValue) (requests : List RequestValue) (stages : List Stage) (after : CacheValue) → AreStages so before requests stages after → AreStages s before requests stages after
  stages-as before [] [] after is = is
  stages-as before [] (x ∷ stages) after never = absurd never
  stages-as before (q ∷ requests) [] after never = absurd never
  stages-as before (q ∷ requests) (x ∷ stages) after (mid, for, starts, one, inl ended) = (mid, for, starts, stage-as x mid one, inl ended)
  stages-as before (q ∷ requests) (x ∷ stages) after (mid, for, starts, one, inr (goes, rest)) = (mid, for, starts, stage-as x mid one, inr (goes, stages-as mid requests stages after rest))

  pub run-as : (requests : List RequestValue) (exchanges : List Exchange) (cache : CacheValue) (text : List ℕ) → HasRun so requests exchanges cache text → HasRun s requests exchanges cache text
  run-as requests exchanges cache text run = record {
    stages = run.stages;
    are = stages-as (first_cache s) requests run.stages cache run.are;
    live = run.live;
    joined = run.joined;
    text_is = run.text_is;
  }
