-- How a look-up ends at a hop, where it comes to next, and what comes of what came back.
use Rattle.std.proofs.Common.{◌≡◌, ◌<◌, ◌≤◌, ◌∙◌, ℕ, Bool, true, false, not, ◌||◌, List, [], ◌∷◌, ◌++◌, length, Option, None, Some, unwrap_or, Ok, Err, if◌then◌else◌, refl, sym, ap, ap₂, subst, inl, inr, arith, ⊎_elim, append_assoc}
use Rattle.std.proofs.lemmas.Bool.{cases_order}
use Rattle.hickory_proto_core.specs.Handles.{OutcomeValue}
use Rattle.hickory_proto_core.specs.ResponseKind.{ResponseKind, Failed, kind_of, is_empty}
use Rattle.hickory_proto_core.specs.declared.query.Query.{Query}
use Rattle.hickory_proto_core.specs.declared.net_error.NetError.{NetError}
use Rattle.hickory_proto_core.specs.declared.net_error.NetError.TheVariants.{Message, Timeout, Proto, Dns, NoOutcome, Bounds, OutOfMemory}
use Rattle.hickory_proto_core.specs.declared.net_error.DnsError.TheVariants.{ResponseCode, NoRecordsFound}
use Rattle.hickory_resolver_model.specs.Cache.{CacheValue, Entry, last_moment, current, aged_result, IsGotUntil}
use Rattle.hickory_resolver_model.specs.Lookup.{LookupResult}
use Rattle.hickory_resolver_model.specs.SpecialUse.{special_use_result}
use Rattle.hickory_resolver_model.specs.Verdict.{Hop, Verdict, Accepted, LeadsTo, NoMatch}
use Rattle.hickory_resolver_model.specs.Hops.{LookupContext, ChainEnd, Special, Hit, Asked, verdict_on, result_when_asked, result_of, alias_limit, end_limit, result_until, is_kept, last_stores, after_stores, hit_result, PassedValue, limit_of, earlier_stores, is_asked, stores_of}
use Rattle.hickory_resolver_model.specs.Resuming.{WaitingValue, ProgressValue, IsDone, TakesMemory, EndsAs, ComesTo, Resumes}
use Rattle.hickory_resolver_client.specs.Special.{IsUnlessOut, IsSpecialReply}
use Rattle.hickory_resolver_client.specs.Steps.{NeverFailsNegative, IsWorkedOn, IsSettled, IsFinished}
use Rattle.hickory_resolver_client.specs.declared.client_state.HopStep.TheVariants.{Next, Done}
use Rattle.hickory_resolver_client.proofs.PassedStores.{after_stores-append, none_kept, error_until}
use Rattle.hickory_resolver_client.proofs.Settling.{never_fails}

-- what is kept took memory, unless nothing was asked
kept_failure : (kind : ResponseKind) (error : NetError) (s : LookupContext) (hop : Hop) → NeverFailsNegative kind → kind ≡ Failed error → is_kept (result_when_asked s hop kind) ≡ true → ⊥
kept_failure kind error s hop never e kept = on error e (ap (λ k. is_kept (result_when_asked s hop k)) (sym e) ∙ kept)
  where
    on : (error : NetError) → kind ≡ Failed error → is_kept (Err error) ≡ true → ⊥
    on (Message text) e h = cc
    on Timeout e h = cc
    on (Proto p) e h = cc
    on (Dns (ResponseCode code)) e h = cc
    on (Dns (NoRecordsFound n)) e h = never n e
    on NoOutcome e h = cc
    on (Bounds b) e h = cc
    on OutOfMemory e h = cc

kept_takes : (s : LookupContext) (hop : Hop) (last : ChainEnd) → is_kept (result_of s hop last) ≡ true → TakesMemory last
kept_takes s hop (Special reply) kept = tt
kept_takes s hop (Hit entry) kept = tt
kept_takes s hop (Asked outcome) kept = λ error e. kept_failure (kind_of outcome) error s hop (never_fails outcome) e kept

-- ---- the end

module _ (s : LookupContext) (passed : List PassedValue) (hop : Hop) (last : ChainEnd) (limit : ℕ) (asked : Bool) (answer : LookupResult) (after : CacheValue) where
  pub ended : (result : LookupResult) (mid : CacheValue) → result ≡ result_of s hop last → limit ≡ end_limit s hop last → asked ≡ is_asked last → mid ≡ after_stores (last_stores s hop last) s.cache → IsFinished passed result limit asked s.now mid answer after → EndsAs s passed hop last answer after
  ended result mid result_is limit_is asked_is mid_is (inl (is, e)) =
      let by : Bool → ℕ → LookupResult → LookupResult = λ a l r. if a || not (is_empty passed) then result_until (limit_of passed l) r else r in
      inl (
        is ∙ ap (λ a. by a limit result) asked_is ∙ ap₂ (by (is_asked last)) limit_is result_is,
        e ∙ ap (after_stores (earlier_stores result s.now limit passed)) mid_is
            ∙ sym (after_stores-append (last_stores s hop last) (earlier_stores result s.now limit passed) s.cache)
            ∙ ap₂ (λ r l. after_stores (last_stores s hop last ++ earlier_stores r s.now l passed) s.cache) result_is limit_is,
      )
  ended result mid result_is limit_is asked_is mid_is (inr (oom, kept, out)) =
      inr (
        oom,
        kept_takes s hop last (ap is_kept (sym result_is) ∙ kept),
        record {
          front = last_stores s hop last ++ out.1.front;
          back = out.1.back;
          parts = append_assoc (last_stores s hop last) out.1.front out.1.back
              ∙ ap (λ ss. last_stores s hop last ++ ss) out.1.parts
              ∙ ap₂ (λ r l. last_stores s hop last ++ earlier_stores r s.now l passed) result_is limit_is;
          not_all = λ none. absurd (out.0 (out.1.not_all none));
          after_is = out.1.after_is ∙ ap (after_stores out.1.front) mid_is
              ∙ sym (after_stores-append (last_stores s hop last) out.1.front s.cache);
        },
      )

  out_ended : IsFinished passed (Err OutOfMemory) limit asked s.now s.cache answer after → (answer ≡ Err OutOfMemory) × (after ≡ s.cache)
  out_ended (inl (is, e)) =
      (is ∙ error_until (asked || not (is_empty passed)) (limit_of passed limit) OutOfMemory, e ∙ none_kept OutOfMemory s.now limit passed s.cache refl)
  out_ended (inr (oom, kept, b)) = let clash : false ≡ true = kept in cc

  -- memory ran out for the result, and nothing was stored
  pub ended_out : (result : LookupResult) → result ≡ Err OutOfMemory → TakesMemory last → IsFinished passed result limit asked s.now s.cache answer after → EndsAs s passed hop last answer after
  ended_out result e takes finished =
      let P : LookupResult → Type 0 = λ r. IsFinished passed r limit asked s.now s.cache answer after in
      let out = out_ended (subst P e finished) in
      inr (out.0, takes, record { front = []; back = stores_of s passed hop last; parts = refl; not_all = λ none. none; after_is = out.1 })

-- ---- the next hop

pub not_special : (found got : Option LookupResult) → ((r : LookupResult) → got ≡ Some r → ⊥) → IsSpecialReply found got → found ≡ None
not_special None got none is = refl
not_special (Some r) got none (inl e) = absurd (none _ e)
not_special (Some r) got none (inr e) = absurd (none _ e)

pub missed : (found : Option Entry) (now : ℕ) (got : Option (OutcomeValue × ℕ)) → ((hit : OutcomeValue × ℕ) → got ≡ Some hit → ⊥) → IsGotUntil found now got → found ≡ None
missed None now got none is_got = refl
missed (Some entry) now got none (inl e) = absurd (none _ e)
missed (Some entry) now got none (inr e) = absurd (none _ e)

module _ (s : LookupContext) (passed : List PassedValue) (hop : Hop) (answer : LookupResult) (after : CacheValue) where
  at_special : (found : Option LookupResult) → special_use_result hop.query s.now ≡ found → (result : LookupResult) → IsSpecialReply found (Some result) → IsFinished passed result last_moment false s.now s.cache answer after → ComesTo s passed hop (IsDone answer) after
  at_special None is result e finished = absurd (let h = e in cc)
  at_special (Some reply) is result (inl e) finished =
      let same : result ≡ reply = cc in
      (Special reply, refl, is, ended s passed hop (Special reply) last_moment false answer after result s.cache same refl refl refl finished)
  at_special (Some reply) is result (inr e) finished =
      let out : result ≡ Err OutOfMemory = cc in
      (Special reply, refl, is, ended_out s passed hop (Special reply) last_moment false answer after result out tt finished)

  pub comes_to_special : (got : Option LookupResult) (result : LookupResult) → got ≡ Some result → IsSpecialReply (special_use_result hop.query s.now) got → IsFinished passed result last_moment false s.now s.cache answer after → ComesTo s passed hop (IsDone answer) after
  comes_to_special got result e is finished =
      let P : Option LookupResult → Type 0 = λ g. IsSpecialReply (special_use_result hop.query s.now) g in
      at_special (special_use_result hop.query s.now) refl result (subst P e is) finished

  at_hit : special_use_result hop.query s.now ≡ None → (found : Option Entry) → current hop.query s.now s.cache.entries ≡ found → (hit : OutcomeValue) (deadline : ℕ) → IsGotUntil found s.now (Some (hit, deadline)) → (result : LookupResult) → IsUnlessOut (hit_result hop.query s.now hit) result → IsFinished passed result deadline false s.now s.cache answer after
      → ComesTo s passed hop (IsDone answer) after
  at_hit plain None is hit deadline got result made finished = absurd (let e = got in cc)
  at_hit plain (Some entry) is hit deadline got result (inr out) finished =
      (Hit entry, refl, (plain, is), ended_out s passed hop (Hit entry) deadline false answer after result out tt finished)
  at_hit plain (Some entry) is hit deadline (inl got) result (inl made) finished =
      let both : (hit, deadline) ≡ (aged_result s.now entry, entry.valid_until) = ap (λ o. unwrap_or o (hit, deadline)) got in
      let same : hit ≡ aged_result s.now entry = ap (λ (p : OutcomeValue × ℕ). p.0) both in
      let until : deadline ≡ entry.valid_until = ap (λ (p : OutcomeValue × ℕ). p.1) both in
      (Hit entry, refl, (plain, is), ended s passed hop (Hit entry) deadline false answer after result s.cache (made ∙ ap (hit_result hop.query s.now) same) until refl refl finished)
  at_hit plain (Some entry) is hit deadline (inr got) result (inl made) finished =
      let both : (hit, deadline) ≡ (Err OutOfMemory, entry.valid_until) = ap (λ o. unwrap_or o (hit, deadline)) got in
      let same : hit ≡ Err OutOfMemory = ap (λ (p : OutcomeValue × ℕ). p.0) both in
      (Hit entry, refl, (plain, is), ended_out s passed hop (Hit entry) deadline false answer after result (made ∙ ap (hit_result hop.query s.now) same) tt finished)

  pub comes_to_hit : special_use_result hop.query s.now ≡ None → (got : Option (OutcomeValue × ℕ)) (hit : OutcomeValue) (deadline : ℕ) → got ≡ Some (hit, deadline) → IsGotUntil (current hop.query s.now s.cache.entries) s.now got → (result : LookupResult) → IsUnlessOut (hit_result hop.query s.now hit) result → IsFinished passed result deadline false s.now s.cache answer after
      → ComesTo s passed hop (IsDone answer) after
  comes_to_hit plain got hit deadline e is result made finished =
      let P : Option (OutcomeValue × ℕ) → Type 0 = IsGotUntil (current hop.query s.now s.cache.entries) s.now in
      at_hit plain (current hop.query s.now s.cache.entries) refl hit deadline (subst P e is) result made finished

-- ---- what came back

module _ (s : LookupContext) (w : WaitingValue) (outcome : OutcomeValue) where
  cut_at : (v : Option Verdict) → verdict_on s w.hop (kind_of outcome) ≡ v → IsWorkedOn (kind_of outcome) → length w.passed ≤ 7 → Resumes s w outcome (IsDone (Err OutOfMemory)) s.cache
  cut_at v is worked few = on v is
    where
      begun : ((next : Hop) → verdict_on s w.hop (kind_of outcome) ≡ Some (LeadsTo next) → length w.passed ≡ 7) → Resumes s w outcome (IsDone (Err OutOfMemory)) s.cache
      begun no_alias = inr (record {
        result = Err OutOfMemory;
        progress_is = refl;
        no_alias = no_alias;
        ends = inr (refl, worked, record { front = []; back = stores_of s w.passed w.hop (Asked outcome); parts = refl; not_all = λ none. none; after_is = refl });
      })

      on : (v : Option Verdict) → verdict_on s w.hop (kind_of outcome) ≡ v → Resumes s w outcome (IsDone (Err OutOfMemory)) s.cache
      on None e = begun (λ next h. let clash : None ≡ Some (LeadsTo next) = sym e ∙ h in cc)
      on (Some (Accepted m)) e = begun (λ next h. let clash : Some (Accepted m) ≡ Some (LeadsTo next) = sym e ∙ h in cc)
      on (Some NoMatch) e = begun (λ next h. let clash : Some NoMatch ≡ Some (LeadsTo next) = sym e ∙ h in cc)
      on (Some (LeadsTo next)) e =
          let follows : length w.passed < 7 → Resumes s w outcome (IsDone (Err OutOfMemory)) s.cache =
          λ early. inl (record { next = next; alias = e; early = early; goes_on = inr (refl, refl) }) in
          ⊎_elim (λ same. begun (λ other h. same)) (⊎_elim follows (λ more. absurd (omega (arith, more, few)))) (cases_order (length w.passed) 7)

  -- memory ran out
  pub resumed_out : IsWorkedOn (kind_of outcome) → length w.passed ≤ 7 → (error : NetError) → error ≡ OutOfMemory → (after : CacheValue) → after ≡ s.cache → Resumes s w outcome (IsDone (Err error)) after
  resumed_out worked few error out after e =
      let P : NetError → CacheValue → Type 0 = λ x c. Resumes s w outcome (IsDone (Err x)) c in
      subst (λ x. P x after) (sym out) (subst (P OutOfMemory) (sym e) (cut_at (verdict_on s w.hop (kind_of outcome)) refl worked few))

  -- the look-up ends with what came back
  pub resumed_done : (result answer : LookupResult) (limit : ℕ) (mid after : CacheValue) → length w.passed ≤ 7 → IsSettled s w.hop (length w.passed) (kind_of outcome) (Ok (Done result limit)) mid → IsFinished w.passed result limit true s.now mid answer after → Resumes s w outcome (IsDone answer) after
  resumed_done result answer limit mid after few (inl d) finished =
      inr (record {
        result = answer;
        progress_is = refl;
        no_alias = d.0;
        ends = ended s w.passed w.hop (Asked outcome) limit true answer after result mid d.1 d.2 refl d.3 finished;
      })
  resumed_done result answer limit mid after few (inr d) finished =
      let P : LookupResult → CacheValue → Type 0 = λ r c. IsFinished w.passed r limit true s.now c answer after in
      let out = out_ended s w.passed w.hop (Asked outcome) limit true answer after (subst (λ c. P (Err OutOfMemory) c) d.2 (subst (λ r. P r mid) d.0 finished)) in
      let Q : LookupResult → CacheValue → Type 0 = λ r c. Resumes s w outcome (IsDone r) c in
      subst (λ r. Q r after) (sym out.0) (subst (Q (Err OutOfMemory)) (sym out.1) (cut_at (verdict_on s w.hop (kind_of outcome)) refl d.1 few))

  module _ (asked : Query) (limit : ℕ) (next : Hop) (mid : CacheValue) (settled : IsSettled s w.hop (length w.passed) (kind_of outcome) (Ok (Next asked limit next)) mid) where
    -- an alias leads to the next hop
    pub resumed_next : (all : List PassedValue) (progress : ProgressValue) (after : CacheValue) → all ≡ w.passed ++ record { query = asked; limit = limit } ∷ [] → ComesTo (record s { cache = mid }) all next progress after → Resumes s w outcome progress after
    resumed_next all progress after pushed comes =
        let pair : Query → ℕ → List PassedValue = λ q l. w.passed ++ record { query = q; limit = l } ∷ [] in
        let P : List PassedValue → CacheValue → Type 0 = λ ps c. ComesTo (record s { cache = c }) ps next progress after in
        inl (record {
          next = next;
          alias = settled.2;
          early = settled.3;
          goes_on = inl (subst (λ c. P (pair w.hop.query (alias_limit s w.hop.query (kind_of outcome))) c) settled.4 (subst (λ ps. P ps mid) (pushed ∙ ap₂ pair settled.0 settled.1) comes));
        })

    -- memory ran out before it
    pub resumed_cut : Resumes s w outcome (IsDone (Err OutOfMemory)) mid
    resumed_cut = inl (record { next = next; alias = settled.2; early = settled.3; goes_on = inr (refl, settled.4) })
