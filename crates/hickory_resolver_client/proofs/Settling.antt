-- What a hop comes to that was asked.
use Rattle.std.proofs.Common.{◌≡◌, ◌<◌, ◌≤◌, ◌∙◌, ℕ, Bool, true, false, cond, [], ◌∷◌, Option, Some, Ok, Err, refl, sym, ap, ap₂, subst, inl, inr, arith}
use Rattle.std.specs.Option.{option_map_or}
use Rattle.hickory_proto_core.specs.Messages.{MessageValue}
use Rattle.hickory_proto_core.specs.Errors.{NoRecordsValue}
use Rattle.hickory_proto_core.specs.Handles.{OutcomeValue}
use Rattle.hickory_proto_core.specs.ResponseKind.{Answer, Negative, Failed, kind_of, negative_of}
use Rattle.hickory_proto_core.specs.codes.response_code.ResponseCode.{ResponseCode as Code}
use Rattle.hickory_proto_core.specs.declared.net_error.NetError.TheVariants.{Message, Timeout, Proto, Dns, NoOutcome, Bounds, OutOfMemory}
use Rattle.hickory_proto_core.specs.declared.net_error.DnsError.TheVariants.{ResponseCode, NoRecordsFound}
use Rattle.hickory_resolver_model.specs.Cache.{CacheValue, last_moment}
use Rattle.hickory_resolver_model.specs.Lookup.{LookupResult, found_lookup}
use Rattle.hickory_resolver_model.specs.Bounds.{least}
use Rattle.hickory_resolver_model.specs.AliasWalk.{walk_of}
use Rattle.hickory_resolver_model.specs.Verdict.{Hop, Verdict, Accepted, LeadsTo, NoMatch, verdict}
use Rattle.hickory_resolver_model.specs.Hops.{LookupContext, alias_deadline, alias_limit, result_of_verdict, stores_of_verdict, store_of, after_stores, no_match}
use Rattle.hickory_resolver_client.proofs.Limits.{earliest_deadline}
use Rattle.hickory_resolver_client.specs.Special.{IsUnlessOut}
use Rattle.hickory_resolver_client.specs.Verdicts.{IsVerdict}
use Rattle.hickory_resolver_client.specs.Steps.{NeverFailsNegative, SettledAs, IsWorkedOn, IsSettled}
use Rattle.hickory_resolver_client.specs.declared.verdict.Verdict as response
use Rattle.hickory_resolver_client.specs.declared.verdict.Verdict.TheVariants as variant
use Rattle.hickory_resolver_client.specs.declared.client_state.HopStep.TheVariants.{Next, Done}

-- what came back never fails for want of records: that is a negative answer
response_fails : (a b : Bool) (m : MessageValue) (n k : NoRecordsValue) (code : Code) → (cond a (cond b (Answer m) (Negative n)) (Failed (Dns (ResponseCode code)))) ≡ Failed (Dns (NoRecordsFound k)) → ⊥
response_fails true true m n k code h = cc
response_fails true false m n k code h = cc
response_fails false true m n k code h = cc
response_fails false false m n k code h = cc

pub never_fails : (outcome : OutcomeValue) → NeverFailsNegative (kind_of outcome)
never_fails (Ok m) k h = response_fails _ _ m (negative_of m) k m.metadata.response_code h
never_fails (Err (Message text)) k h = cc
never_fails (Err Timeout) k h = cc
never_fails (Err (Proto e)) k h = cc
never_fails (Err (Dns (ResponseCode code))) k h = cc
never_fails (Err (Dns (NoRecordsFound n))) k h = cc
never_fails (Err NoOutcome) k h = cc
never_fails (Err (Bounds e)) k h = cc
never_fails (Err OutOfMemory) k h = cc

-- something is made of an answer
pub worked_answer : (m : MessageValue) → IsWorkedOn (Answer m)
worked_answer m error e = let clash : Answer m ≡ Failed error = e in cc

-- ---- an answer, by its verdict

is_exists : (v : Verdict) (m found : MessageValue) → IsVerdict v m (variant.Accepted found) → v ≡ Accepted found
is_exists (Accepted n) m found e = ap Accepted (sym e)
is_exists (LeadsTo hop) m found e = absurd e
is_exists NoMatch m found e = absurd e

is_chain : (v : Verdict) (m : MessageValue) (next : Hop) (held : MessageValue) → IsVerdict v m (variant.LeadsTo next held) → (v ≡ LeadsTo next) × (held ≡ m)
is_chain (Accepted n) m next held e = absurd e
is_chain (LeadsTo hop) m next held e = (ap LeadsTo (sym e.0), e.1)
is_chain NoMatch m next held e = absurd e

is_none : (v : Verdict) (m held : MessageValue) → IsVerdict v m (variant.NoMatch held) → (v ≡ NoMatch) × (held ≡ m)
is_none (Accepted n) m held e = absurd e
is_none (LeadsTo hop) m held e = absurd e
is_none NoMatch m held e = (refl, e)

-- the least TTL of the CNAMEs that counted gives their limit
limit_same : (s : LookupContext) (hop given : Hop) (m : MessageValue) (ttl : Option ℕ) (limit : ℕ) → given ≡ hop → ttl ≡ least (walk_of given.query m.answers).alias_ttls → limit ≡ option_map_or (alias_deadline s.cache.config s.now) ttl last_moment → limit ≡ alias_limit s hop.query (Answer m)
limit_same s hop given m ttl limit same of e =
    e ∙ ap (λ t. option_map_or (alias_deadline s.cache.config s.now) t last_moment) of
    ∙ sym (earliest_deadline s.cache.config s.now (walk_of given.query m.answers).alias_ttls)
    ∙ ap (λ (h : Hop). alias_limit s h.query (Answer m)) same

module _ (s : LookupContext) (hop : Hop) (depth : ℕ) (m : MessageValue) (keep : Bool) (given : Hop) (held : response.Verdict) (ttl : Option ℕ) (limit : ℕ) (same_option : keep ≡ s.preserve_intermediates) (same_hop : given ≡ hop) (is : IsVerdict (verdict keep given m) m held) (ttl_is : ttl ≡ least (walk_of given.query m.answers).alias_ttls) (limit_is : limit ≡ option_map_or (alias_deadline s.cache.config s.now) ttl last_moment) where
  judged : (r : response.Verdict) → held ≡ r → IsVerdict (verdict s.preserve_intermediates hop m) m r
  judged r e =
      let P : response.Verdict → Type 0 = λ v. IsVerdict (verdict keep given m) m v in
      let Q : Verdict → Type 0 = λ v. IsVerdict v m r in
      subst Q (ap₂ (λ k h. verdict k h m) same_option same_hop) (subst P e is)

  limited : limit ≡ alias_limit s hop.query (Answer m)
  limited = limit_same s hop given m ttl limit same_hop ttl_is limit_is

  pub settle_exists : (found : MessageValue) → held ≡ variant.Accepted found → (result : LookupResult) (after : CacheValue) → SettledAs s (Ok (found_lookup s.cache.config given.query found s.now)) (store_of given.query (Ok found) s.now limit ∷ []) result after → IsSettled s hop depth (Answer m) (Ok (Done result limit)) after
  settle_exists found e result after (inr out) = inr (out.0, worked_answer m, out.1)
  settle_exists found e result after (inl done) =
      let v = is_exists _ m found (judged (variant.Accepted found) e) in
      inl (
        (λ next h. let w : Some (Accepted found) ≡ Some (LeadsTo next) = sym (ap (λ u. Some u) v) ∙ h in cc),
        (done.0 ∙ ap (λ h. Ok (found_lookup s.cache.config h.query found s.now)) same_hop ∙ ap (result_of_verdict s.cache.config hop.query s.now m) (sym v)),
        limited,
        (done.1 ∙ ap₂ (λ h l. after_stores (store_of h.query (Ok found) s.now l ∷ []) s.cache) same_hop limited ∙ ap (λ u. after_stores (stores_of_verdict hop.query s.now (alias_limit s hop.query (Answer m)) u) s.cache) (sym v)),
      )

  pub settle_none : (back : MessageValue) → held ≡ variant.NoMatch back → (result : LookupResult) → IsUnlessOut (Err (no_match given.query back)) result → IsSettled s hop depth (Answer m) (Ok (Done result limit)) s.cache
  settle_none back e result (inr out) = inr (out, worked_answer m, refl)
  settle_none back e result (inl done) =
      let v = is_none _ m back (judged (variant.NoMatch back) e) in
      inl (
        (λ next h. let w : Some NoMatch ≡ Some (LeadsTo next) = sym (ap (λ u. Some u) v.0) ∙ h in cc),
        (done ∙ ap₂ (λ h r. Err (no_match h.query r)) same_hop v.1 ∙ ap (result_of_verdict s.cache.config hop.query s.now m) (sym v.0)),
        limited,
        (ap (λ u. after_stores (stores_of_verdict hop.query s.now (alias_limit s hop.query (Answer m)) u) s.cache) (sym v.0)),
      )

  pub settle_last : (next : Hop) (back : MessageValue) → held ≡ variant.LeadsTo next back → 7 ≤ depth → depth ≤ 7 → (result : LookupResult) → IsUnlessOut (Err (no_match given.query back)) result → IsSettled s hop depth (Answer m) (Ok (Done result limit)) s.cache
  settle_last next back e low high result (inr out) = inr (out, worked_answer m, refl)
  settle_last next back e low high result (inl done) =
      let v = is_chain _ m next back (judged (variant.LeadsTo next back) e) in
      inl (
        (λ other h. omega arith),
        (done ∙ ap₂ (λ h r. Err (no_match h.query r)) same_hop v.1 ∙ ap (result_of_verdict s.cache.config hop.query s.now m) (sym v.0)),
        limited,
        (ap (λ u. after_stores (stores_of_verdict hop.query s.now (alias_limit s hop.query (Answer m)) u) s.cache) (sym v.0)),
      )

  pub settle_next : (next : Hop) (back : MessageValue) → held ≡ variant.LeadsTo next back → depth < 7 → IsSettled s hop depth (Answer m) (Ok (Next given.query limit next)) s.cache
  settle_next next back e early =
      let v = is_chain _ m next back (judged (variant.LeadsTo next back) e) in
      (ap (λ h. h.query) same_hop, limited, ap (λ u. Some u) v.0, early, refl)
