-- Requests that are served over a handle that keeps what it sends, each as a stage of a run.
use Rattle.std.proofs.Common.{◌≡◌, ◌⊎◌, ◌≢◌, ◌≤◌, ◌-◌, ℕ, Bool, true, false, List, [], ◌∷◌, ◌++◌, length}
use Rattle.std.proofs.Common.{map, take, drop, None, Result, Ok, Err, OnOk, OnErr, IsOkUnless, refl, sym}
use Rattle.std.proofs.Common.{ap, ◌∙◌, subst, inl, inr, arith, append_assoc, length-append}
use Rattle.std.proofs.lemmas.List.{append-nil, length-drop, take_all}
use Rattle.std.proofs.lemmas.Grind.{flat_map-append}
use Rattle.hickory_proto_core.specs.Name.{NameValue}
use Rattle.hickory_proto_core.specs.NameDecided.{IsReading}
use Rattle.hickory_proto_core.specs.NameGiven.{IsReadAddress, IsReadName}
use Rattle.hickory_proto_core.specs.Handles.{HandleStep, Leads, Leads-append, RecordedValue}
use Rattle.hickory_proto_core.specs.Recorded.{RecordedStep}
use Rattle.hickory_proto_core.proofs.Recordings.{IsRecorded, recorded_leads}
use Rattle.hickory_proto_core.specs.codes.record_type.RecordType.{RecordType}
use Rattle.hickory_proto_core.specs.names.name_error.NameError.{NameError}
use Rattle.hickory_proto_core.specs.names.name_error.NameError.TheVariants as name_error
use Rattle.hickory_proto_core.specs.declared.net_error.NetError.{NetError}
use Rattle.hickory_proto_core.specs.declared.net_error.NetError.TheVariants.{OutOfMemory}
use Rattle.hickory_proto_core.specs.declared.recorded.Exchange.{Exchange}
use Rattle.hickory_resolver_config.specs.ResolverConfig.{ResolverConfigValue, OptionsValue}
use Rattle.hickory_resolver_model.specs.Bounds.{bounds_fault}
use Rattle.hickory_resolver_model.specs.Cache.{CacheValue}
use Rattle.hickory_resolver_model.specs.Hosts.{Host}
use Rattle.hickory_resolver_model.specs.Lookup.{LookupResult}
use Rattle.hickory_resolver_model.specs.Options.{bounds_of}
use Rattle.hickory_resolver_model.specs.Calls.{SubLookup, IsAnsweredFor, asks_of_sub_lookups}
use Rattle.hickory_resolver_model.specs.Resolver.{ResolverValue, after_clear_lookup, new_resolver, settings}
use Rattle.hickory_resolver_model.specs.Run.{Settings, call_context_at, RequestValue, Lookup, LookupIp}
use Rattle.hickory_resolver_model.specs.Run.{ClearLookup, Clear, StepReply, LookedUp, LookedUpIp, Cleared}
use Rattle.hickory_resolver_model.specs.Run.{StepValue, ends_run, after_clear, name_call, address_call}
use Rattle.hickory_resolver_model.specs.Run.{IsCall, RanOutBeforeAsking, IsServed, Stage, IsStage, AreStages}
use Rattle.hickory_resolver_model.specs.Run.{exchanges_of, moment_of, settings_of}
use Rattle.hickory_resolver_theorems.specs.CallFacts.{PromisesName, PromisesHost}
use Rattle.hickory_resolver_theorems.specs.Promises.{PromisedRun}
use Rattle.hickory_resolver_theorems.specs.Keeping.{IsServedOver}
use Rattle.hickory_resolver_theorems.proofs.CallsAlone.{call_by-alone}
use Rattle.hickory_resolver_theorems.proofs.KeptCalls.{kept_request}
use Rattle.hickory_resolver_theorems.proofs.PromisesHold.{promised_run}
use Rattle.hickory_resolver.specs.Listening.{Hears, HearsAll}
use Rattle.hickory_resolver.specs.Serving.{Answered, MakesRun, FailsToHear}
use Rattle.hickory_resolver.specs.Transcripts.{NewRun}

-- ---- a request makes a stage

-- A request makes a stage of a run: these exchanges, which led the handle below and were kept, and this step.
pub record MakesStage
    {H : Type 0} (step : HandleStep H) (request : RequestValue) (before : ResolverValue (RecordedValue H))
    (sent : List Exchange) (made : StepValue) (after : ResolverValue (RecordedValue H))
    : Type 0 where
  pub parts : List SubLookup
  pub is : IsStage (settings before) (record {
    request = request;
    before = before.client.cache;
    piece = sent;
    parts = parts;
    step = made;
  }) after.client.cache
  pub led : Leads step (settings before).request_options before.client.handle.handle sent after.client.handle.handle
  pub exchanges_are : after.client.handle.exchanges ≡ before.client.handle.exchanges ++ sent
  pub option_stays : after.client.preserve_intermediates ≡ before.client.preserve_intermediates
  pub others_stay : after ≡ record before { client = after.client }

-- ---- a request is answered

module _ {R : Type 0} (step : HandleStep R) (before : ResolverValue R) where
  -- a look-up of a name that is read
  name_served : (text : List ℕ) (t : RecordType) (now : ℕ) (name : Result NameValue NameError)
      (parts : List SubLookup) (reply : LookupResult) (after : CacheValue) → IsReadName text name
      → IsCall (IsAnsweredFor (call_context_at (settings before) now)) (settings before) before.client.cache
      (name_call t name) parts reply after ⊎ RanOutBeforeAsking before.client.cache parts reply after
      → IsServed (λ at. IsAnsweredFor (call_context_at (settings before) at)) (settings before) before.client.cache
      (Lookup text t now) parts (LookedUp reply) after
  name_served text t now (Ok n) parts reply after given (inl is) = inl (Ok n, given.ok, is)
  name_served text t now (Err e) parts reply after given (inl is) = by given.err
    where
      by : (e ≡ name_error.OutOfMemory) ⊎ IsReading text (Err e)
          → IsServed (λ at. IsAnsweredFor (call_context_at (settings before) at)) (settings before)
          before.client.cache (Lookup text t now) parts (LookedUp reply) after
      by (inl out) =
          let P : NameError → Type 0 = λ x. IsCall (IsAnsweredFor (call_context_at (settings before) now))
          (settings before) before.client.cache (name_call t (Err x)) parts reply after in
          inr (subst P out is)
      by (inr fault) = inl (Err e, fault, is)
  name_served text t now (Ok n) parts reply after given (inr is) = inr is
  name_served text t now (Err e) parts reply after given (inr is) = inr is

  pub answered_lookup : (text : List ℕ) (t : RecordType) (now : ℕ) (reply : LookupResult) (after : ResolverValue R)
      → PromisesName step (IsReadName text) t now before reply after
      → Answered step (Lookup text t now) before (LookedUp reply) after
  answered_lookup text t now reply after (name, given, promised) =
      let a = promised.is in
      record {
        parts = a.parts;
        led = a.led;
        served = name_served text t now name a.parts reply after.client.cache given
            (call_by-alone (call_context_at (settings before) now) (settings before) before.client.cache (name_call t name) a.parts reply after.client.cache a.is);
        option_stays = a.option_stays;
        others_stay = a.others_stay;
      }

  -- a request that asks nothing
  answered_unasked : (request : RequestValue) (reply : StepReply) (cache : CacheValue) (after : ResolverValue R)
      → after ≡ record before { client = record before.client { cache = cache } }
      → IsServed (λ now. IsAnsweredFor (call_context_at (settings before) now)) (settings before) before.client.cache
      request [] reply cache → Answered step request before reply after
  answered_unasked request reply cache after e served = subst (λ r. Answered step request before reply r) (sym e) (record {
    parts = [];
    led = refl;
    served = served;
    option_stays = refl;
    others_stay = refl;
  })

  pub answered_clear : (now : ℕ) (after : ResolverValue R) → after
      ≡ record before { client = record before.client { cache = record before.client.cache { entries = [] } } }
      → Answered step (Clear now) before (Cleared (Ok tt)) after
  answered_clear now after e = answered_unasked (Clear now) (Cleared (Ok tt))
      (record before.client.cache { entries = [] }) after e (refl, refl)

  -- a name was read: it is none, or it is one
  read_name : (text : List ℕ) (name : Result NameValue NameError) → IsReadName text name
      → name ≢ Err name_error.OutOfMemory → IsReading text name
  read_name text (Ok n) given live = given.ok
  read_name text (Err e) given live = by given.err
    where
      by : (e ≡ name_error.OutOfMemory) ⊎ IsReading text (Err e) → IsReading text (Err e)
      by (inl out) = absurd (live (ap (λ x. Err x) out))
      by (inr fault) = fault

  pub answered_clear_lookup : (text : List ℕ) (t : RecordType) (now : ℕ) (done : Result (Unit {0}) NetError)
      (after : ResolverValue R)
      → OnOk done ((given : Result NameValue NameError) × IsReadName text given × (given ≢ Err name_error.OutOfMemory)
      × (after ≡ after_clear_lookup t given before))
      → OnErr done (after ≡ before) → IsOkUnless done OutOfMemory → Answered step (ClearLookup text t now) before
      (Cleared done) after
  answered_clear_lookup text t now (Ok u) after (given, read, live, is) unchanged out =
      answered_unasked (ClearLookup text t now) (Cleared (Ok u))
      (after_clear (settings before) t given before.client.cache) after is (refl, (given, read_name text given read live, refl))
  answered_clear_lookup text t now (Err e) after cleared unchanged out =
      answered_unasked (ClearLookup text t now) (Cleared (Err e)) before.client.cache after unchanged (refl, out, refl)

  pub answered_host : (text : List ℕ) (now : ℕ) (reply : LookupResult) (after : ResolverValue R)
      → PromisesHost step (IsReadAddress text) (IsReadName text) now before reply after
      → Answered step (LookupIp text now) before (LookedUpIp reply) after
  answered_host text now reply after (address, spells, name, given, inl (live, promised)) = let a = promised.is in
      record { parts = a.parts; led = a.led; served = by (call_by-alone (call_context_at (settings before) now) (settings before) before.client.cache (address_call (settings before) address name now) a.parts reply after.client.cache a.is); option_stays = a.option_stays; others_stay = a.others_stay }
    where
      by : IsCall (IsAnsweredFor (call_context_at (settings before) now)) (settings before) before.client.cache
          (address_call (settings before) address name now) promised.is.parts reply after.client.cache
          ⊎ RanOutBeforeAsking before.client.cache promised.is.parts reply after.client.cache
          → IsServed (λ at. IsAnsweredFor (call_context_at (settings before) at)) (settings before)
          before.client.cache (LookupIp text now) promised.is.parts (LookedUpIp reply) after.client.cache
      by (inl is) = inl (record { address = address; name = name }, (spells, read_name text name given live), is)
      by (inr is) = inr is
  answered_host text now reply after (address, spells, name, given, inr (out, e, same)) =
      answered_unasked (LookupIp text now) (LookedUpIp reply) before.client.cache after same (inr (refl, e, refl))

-- ---- a request makes a stage

drop_front : {A : Type 0} (xs ys : List A) → drop (length xs) (xs ++ ys) ≡ ys
drop_front [] ys = refl
drop_front (x ∷ xs) ys = drop_front xs ys

take_front : {A : Type 0} (xs ys : List A) → take (length xs) (xs ++ ys) ≡ xs
take_front [] ys = refl
take_front (x ∷ xs) ys = ap (λ zs. x ∷ zs) (take_front xs ys)

module _ {H : Type 0} (step : HandleStep H) (request : RequestValue) (before : ResolverValue (RecordedValue H))
    (reply : StepReply) (after : ResolverValue (RecordedValue H))
    (a : Answered (RecordedStep step) request before reply after) where
  kept : IsRecorded step (settings before).request_options before.client.handle (asks_of_sub_lookups a.parts) after.client.handle
  kept = recorded_leads step (settings before).request_options before.client.handle after.client.handle
      (asks_of_sub_lookups a.parts) a.led

  -- what was answered is turned into what was kept
  over : IsServedOver (settings before) before.client.cache request kept.kept reply after.client.cache
  over = kept_request (settings before) before.client.cache request a.parts reply after.client.cache kept.kept
      a.served kept.recorded

  -- what was kept before stays
  pub kept_before : length before.client.handle.exchanges ≤ length after.client.handle.exchanges
  kept_before = omega (arith, ap length kept.exchanges_are, length-append before.client.handle.exchanges kept.kept)

  pub stage_made : (sent : List Exchange) (made : StepValue) → sent
      ≡ drop (length before.client.handle.exchanges) after.client.handle.exchanges → made.now ≡ moment_of request
      → made.exchanges ≡ length sent → made.reply ≡ reply → MakesStage step request before sent made after
  stage_made sent made sent_is now_is count_is reply_is =
      let sent_kept : kept.kept ≡ sent = sym (sent_is
      ∙ ap (drop (length before.client.handle.exchanges)) kept.exchanges_are
      ∙ drop_front before.client.handle.exchanges kept.kept) in
      record {
        parts = over.parts;
        is = record {
          served = subst (λ r. IsServed (λ now. IsAnsweredFor (call_context_at (settings before) now))
              (settings before) before.client.cache request over.parts r after.client.cache) (sym reply_is) over.served;
          piece_is = sym (over.asks_are ∙ sent_kept);
          now_is = now_is;
          count_is = count_is;
        };
        led = subst (λ xs. Leads step (settings before).request_options before.client.handle.handle xs
            after.client.handle.handle) sent_kept kept.led;
        exchanges_are = kept.exchanges_are ∙ ap (λ xs. before.client.handle.exchanges ++ xs) sent_kept;
        option_stays = a.option_stays;
        others_stay = a.others_stay;
      }

-- a part from a place on is what stands behind it
pub part_from : {A : Type 0} (count : ℕ) (xs : List A) → take (length xs - count) (drop count xs) ≡ drop count xs
part_from count xs = take_all (length xs - count) (drop count xs) (omega (arith, length-drop count xs))

-- ---- what is heard of stages

abbrev pub HearsStages : {L : Type 0} → Hears L → L → List Stage → L → Type 0
HearsStages hears before [] after = after ≡ before
HearsStages {L} hears before (stage ∷ stages) after =
    (mid : L) × hears before stage.request stage.piece stage.step mid × HearsStages hears mid stages after

hears_push : {L : Type 0} (hears : Hears L) (before mid after : L) (stages : List Stage) (stage : Stage)
    → HearsStages hears before stages mid → hears mid stage.request stage.piece stage.step after
    → HearsStages hears before (stages ++ stage ∷ []) after
hears_push hears before mid after [] stage same heard =
    (after, subst (λ l. hears l stage.request stage.piece stage.step after) same heard, refl)
hears_push hears before mid after (first ∷ stages) stage (next, h, rest) heard =
    (next, h, hears_push hears next mid after stages stage rest heard)

heard_none : {L : Type 0} (hears : Hears L) (before : L) (requests : List RequestValue) (exchanges : List Exchange)
    (after : L) → after ≡ before → HearsAll hears before requests [] exchanges after
heard_none hears before [] exchanges after same = same
heard_none hears before (request ∷ requests) exchanges after same = same

-- what was heard of a stage and what is heard of the steps behind it
heard_first : {L : Type 0} (hears : Hears L) (request : RequestValue) (requests : List RequestValue) (stage : Stage)
    (stages : List Stage) (before next after : L) → stage.request ≡ request → stage.step.exchanges ≡ length stage.piece
    → hears before stage.request stage.piece stage.step next → HearsAll hears next requests (map (λ x. x.step) stages)
    (exchanges_of stages) after → HearsAll hears before (request ∷ requests) (map (λ x. x.step) (stage ∷ stages))
    (exchanges_of (stage ∷ stages)) after
heard_first hears request requests stage stages before next after request_is count_is heard rest =
    let all = stage.piece ++ exchanges_of stages in
    let front : stage.piece ≡ take stage.step.exchanges all =
    sym (ap (λ n. take n all) count_is ∙ take_front stage.piece (exchanges_of stages)) in
    let behind : exchanges_of stages ≡ drop stage.step.exchanges all =
    sym (ap (λ n. drop n all) count_is ∙ drop_front stage.piece (exchanges_of stages)) in (
      next,
      subst (λ xs. hears before request xs stage.step next) front
          (subst (λ r. hears before r stage.piece stage.step next) request_is heard),
      subst (λ xs. HearsAll hears next requests (map (λ x. x.step) stages) xs after) behind rest,
    )

-- the steps are heard of, each with the exchanges that it made
heard_all : {L : Type 0} (hears : Hears L) (s : Settings) (cache : CacheValue) (requests : List RequestValue)
    (stages : List Stage) (end : CacheValue) (before after : L) → AreStages s cache requests stages end
    → HearsStages hears before stages after
    → HearsAll hears before requests (map (λ x. x.step) stages) (exchanges_of stages) after
heard_all hears s cache [] [] end before after are heard = heard
heard_all hears s cache [] (stage ∷ stages) end before after are heard = absurd are
heard_all hears s cache (request ∷ requests) [] end before after are heard = absurd are
heard_all hears s cache (request ∷ requests) (stage ∷ stages) end before after
    (mid, request_is, before_is, is, inl (ends, none, same)) (next, heard, rest) =
    let P : List Stage → Type 0 = λ ss. HearsStages hears next ss after in
    let Q : List Stage → Type 0 = λ ss. HearsAll hears next requests (map (λ x. x.step) ss) (exchanges_of ss) after in
    heard_first hears request requests stage stages before next after request_is is.count_is heard
    (subst Q (sym none) (heard_none hears next requests [] after (subst P none rest)))
heard_all hears s cache (request ∷ requests) (stage ∷ stages) end before after
    (mid, request_is, before_is, is, inr (goes_on, are)) (next, heard, rest) =
    heard_first hears request requests stage stages before next after request_is is.count_is heard
    (heard_all hears s mid requests stages end next after are rest)

-- ---- a loop

settings-stay : {H : Type 0} (before after : ResolverValue H) → after.client.preserve_intermediates
    ≡ before.client.preserve_intermediates → after ≡ record before { client = after.client } → settings after ≡ settings before
settings-stay before after option others =
    let with_option : Bool → Settings = λ b. record (settings before) { preserve_intermediates = b } in
    ap (λ r. settings r) others ∙ ap with_option option

exchanges-push : (stages : List Stage) (stage : Stage) → exchanges_of (stages ++ stage ∷ []) ≡ exchanges_of stages ++ stage.piece
exchanges-push stages stage = flat_map-append (λ s. s.piece) stages (stage ∷ [])
    ∙ ap (λ xs. exchanges_of stages ++ xs) (append-nil stage.piece)

-- these stages were made and heard of, and these requests are left: what is made and heard of those goes on from here
pub record SoFar
    {H L : Type 0} (step : HandleStep H) (hears fails : Hears L) (first : ResolverValue (RecordedValue H))
    (listener : L) (requests left : List RequestValue) (resolver : ResolverValue (RecordedValue H)) (heard : L) : Type 0 where
  pub stages : List Stage
  pub led : Leads step (settings first).request_options first.client.handle.handle (exchanges_of stages)
      resolver.client.handle.handle
  pub exchanges_are : resolver.client.handle.exchanges ≡ first.client.handle.exchanges ++ exchanges_of stages
  pub on : (more : List Stage) (after : CacheValue) → AreStages (settings first) resolver.client.cache left more after
      → AreStages (settings first) first.client.cache requests (stages ++ more) after
  pub told : HearsStages hears listener stages heard
  pub fails_on : (after : L) → FailsToHear hears fails heard left after → FailsToHear hears fails listener requests after
  pub option_stays : resolver.client.preserve_intermediates ≡ first.client.preserve_intermediates
  pub others_stay : resolver ≡ record first { client = resolver.client }

-- requests were served and heard of
abbrev pub IsHeardRun : {H L : Type 0} → HandleStep H → Hears L → ResolverValue (RecordedValue H) → L
    → List RequestValue → ResolverValue (RecordedValue H) → L → Type 0
IsHeardRun step hears before listener requests after heard =
    (steps : List StepValue) × (exchanges : List Exchange) × MakesRun step before requests steps exchanges after
    × HearsAll hears listener requests steps exchanges heard

module _ {H L : Type 0} (step : HandleStep H) (hears fails : Hears L) (first : ResolverValue (RecordedValue H))
    (listener : L) (requests : List RequestValue) where
  -- no request was served
  pub none_served : SoFar step hears fails first listener requests requests first listener
  none_served = record {
    stages = [];
    led = refl;
    exchanges_are = sym (append-nil first.client.handle.exchanges);
    on = λ more after are. are;
    told = refl;
    fails_on = λ after failed. failed;
    option_stays = refl;
    others_stay = refl;
  }

  module _ (left : List RequestValue) (resolver : ResolverValue (RecordedValue H)) (heard : L)
      (so : SoFar step hears fails first listener requests left resolver heard) where
    -- no request is left
    pub all_served : left ≡ [] → IsHeardRun step hears first listener requests resolver heard
    all_served none =
        let P : List RequestValue → Type 0 = λ rs. AreStages (settings first) resolver.client.cache rs [] resolver.client.cache in
        let are = subst (λ ss. AreStages (settings first) first.client.cache requests ss resolver.client.cache)
        (append-nil so.stages) (so.on [] resolver.client.cache (subst P (sym none) refl)) in (
          map (λ stage. stage.step) so.stages,
          exchanges_of so.stages,
          record {
            run = record { stages = so.stages; joined = refl; steps_are = refl; are = are };
            led = so.led;
            exchanges_are = so.exchanges_are;
            option_stays = so.option_stays;
            others_stay = so.others_stay;
          },
          heard_all hears (settings first) first.client.cache requests so.stages resolver.client.cache listener heard are so.told,
        )

    module _ (request : RequestValue) (rest : List RequestValue) (splits : left ≡ request ∷ rest)
        (sent : List Exchange) (made : StepValue) where
      -- the next step was not heard of
      pub next_unheard : (failed : L) → fails heard request sent made failed → FailsToHear hears fails listener requests failed
      next_unheard failed fail =
          so.fails_on failed (subst (λ rs. FailsToHear hears fails heard rs failed) (sym splits) (sent, made, inl fail))

      module _ (after : ResolverValue (RecordedValue H)) (m : MakesStage step request resolver sent made after)
          (listened : L) (h : hears heard request sent made listened) where
        same_settings : settings resolver ≡ settings first
        same_settings = settings-stay first resolver so.option_stays so.others_stay

        abbrev stage : Stage
        stage = record { request = request; before = resolver.client.cache; piece = sent; parts = m.parts; step = made }

        is_stage : IsStage (settings first) stage after.client.cache
        is_stage = subst (λ s. IsStage s stage after.client.cache) same_settings m.is

        led_on : Leads step (settings first).request_options first.client.handle.handle
            (exchanges_of (so.stages ++ stage ∷ [])) after.client.handle.handle
        led_on = subst (λ xs. Leads step (settings first).request_options first.client.handle.handle xs
            after.client.handle.handle) (sym (exchanges-push so.stages stage))
            (Leads-append step (settings first).request_options first.client.handle.handle
            resolver.client.handle.handle after.client.handle.handle (exchanges_of so.stages) sent so.led
            (subst (λ s. Leads step s.request_options resolver.client.handle.handle sent after.client.handle.handle)
            same_settings m.led))

        exchanges_on : after.client.handle.exchanges ≡ first.client.handle.exchanges ++ exchanges_of (so.stages ++ stage ∷ [])
        exchanges_on =
            m.exchanges_are ∙ ap (λ xs. xs ++ sent) so.exchanges_are ∙ append_assoc first.client.handle.exchanges
            (exchanges_of so.stages) sent
            ∙ ap (λ xs. first.client.handle.exchanges ++ xs) (sym (exchanges-push so.stages stage))

        told_on : HearsStages hears listener (so.stages ++ stage ∷ []) listened
        told_on = hears_push hears listener heard listened so.stages stage so.told h

        option_on : after.client.preserve_intermediates ≡ first.client.preserve_intermediates
        option_on = m.option_stays ∙ so.option_stays

        abbrev as_after : ResolverValue (RecordedValue H) → ResolverValue (RecordedValue H)
        as_after r = record r { client = after.client }

        others_on : after ≡ record first { client = after.client }
        others_on = m.others_stay ∙ ap as_after so.others_stay

        -- memory ran out: this step is the last
        pub last_served : ends_run made.reply ≡ true → IsHeardRun step hears first listener requests after listened
        last_served ends =
            let are = so.on (stage ∷ []) after.client.cache
            (subst (λ rs. AreStages (settings first) resolver.client.cache rs (stage ∷ []) after.client.cache)
            (sym splits) (after.client.cache, refl, refl, is_stage, inl (ends, refl, refl))) in (
              map (λ x. x.step) (so.stages ++ stage ∷ []),
              exchanges_of (so.stages ++ stage ∷ []),
              record {
                run = record { stages = so.stages ++ stage ∷ []; joined = refl; steps_are = refl; are = are };
                led = led_on;
                exchanges_are = exchanges_on;
                option_stays = option_on;
                others_stay = others_on;
              },
              heard_all hears (settings first) first.client.cache requests (so.stages ++ stage ∷ [])
                  after.client.cache listener listened are told_on,
            )

        pub more_served : ends_run made.reply ≡ false → SoFar step hears fails first listener requests rest after listened
        more_served goes_on = record {
          stages = so.stages ++ stage ∷ [];
          led = led_on;
          exchanges_are = exchanges_on;
          on = λ more end are.
              subst (λ ss. AreStages (settings first) first.client.cache requests ss end)
              (sym (append_assoc so.stages (stage ∷ []) more))
              (so.on (stage ∷ more) end (subst (λ rs. AreStages (settings first) resolver.client.cache rs
              (stage ∷ more) end) (sym splits) (after.client.cache, refl, refl, is_stage, inr (goes_on, are))));
          told = told_on;
          fails_on = λ failed fail. so.fails_on failed (subst (λ rs. FailsToHear hears fails heard rs failed)
              (sym splits) (sent, made, inr (listened, h, fail)));
          option_stays = option_on;
          others_stay = others_on;
        }

-- ---- a run

module _ {H : Type 0} (step : HandleStep H) (config : ResolverConfigValue) (options : OptionsValue)
    (hosts : List Host) (handle : H) (first : ResolverValue (RecordedValue H))
    (first_is : first ≡ record (new_resolver config options (record { handle = handle; exchanges = [] })) {
      hosts = hosts;
    }) (in_order : bounds_fault (bounds_of options) ≡ None)
    (requests : List RequestValue) (steps : List StepValue) (exchanges : List Exchange)
    (after : ResolverValue (RecordedValue H)) (made : MakesRun step first requests steps exchanges after) where
  abbrev new : ResolverValue (RecordedValue H)
  new = record (new_resolver config options (record { handle = handle; exchanges = [] })) { hosts = hosts }

  made_new : MakesRun step new requests steps exchanges after
  made_new = subst (λ r. MakesRun step r requests steps exchanges after) first_is made

  pub all_exchanges : exchanges ≡ after.client.handle.exchanges
  all_exchanges = sym made_new.exchanges_are

  pub is_run_from : NewRun step config options hosts handle requests steps after
  is_run_from =
      let m = made_new in
      let s = settings_of config options hosts in
      let as_built : Bool → ResolverValue (RecordedValue H) =
      λ b. record new { client = record after.client { preserve_intermediates = b } } in
      record {
        in_order = in_order;
        promised = subst (λ xs. PromisedRun step s handle requests steps xs after.client.handle.handle
            after.client.cache) all_exchanges
            (promised_run step s handle requests steps exchanges after.client.handle.handle after.client.cache
            (record { led = m.led; run = m.run }));
        resolver_is = m.others_stay ∙ ap as_built m.option_stays;
      }
