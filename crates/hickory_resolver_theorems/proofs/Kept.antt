-- A reply over the exchanges that were answered is one over those that a recording handle kept.
use Rattle.std.proofs.Common.{◌≡◌, ◌⊎◌, ◌≤◌, ℕ, Bool, true, false, not, ◌||◌, if◌then◌else◌, List, [], ◌∷◌, ◌++◌, length, Some, None, Err, refl, sym, ap, ◌∙◌, subst, inl, inr}
use Rattle.std.proofs.lemmas.List.{append-nil, map-append}
use Rattle.std.specs.List.{AllByRecursion}
use Rattle.hickory_proto_core.specs.Handles.{OutcomeValue, holds_memory}
use Rattle.hickory_proto_core.specs.Messages.{MessageValue}
use Rattle.hickory_proto_core.specs.Recorded.{RecordedAs}
use Rattle.hickory_proto_core.specs.ResponseKind.{ResponseKind, Answer, Negative, Failed, kind_of, is_empty}
use Rattle.hickory_proto_core.specs.declared.query.Query.{Query}
use Rattle.hickory_proto_core.specs.declared.recorded.Exchange.{Exchange}
use Rattle.hickory_proto_core.specs.declared.net_error.NetError.TheVariants.{OutOfMemory}
use Rattle.hickory_resolver_model.specs.Cache.{CacheValue}
use Rattle.hickory_resolver_model.specs.Lookup.{LookupResult}
use Rattle.hickory_resolver_model.specs.Verdict.{Hop, first_hop, Verdict, Accepted, LeadsTo, NoMatch, verdict}
use Rattle.hickory_resolver_model.specs.Hops.{LookupContext, GoesUpstream, FollowsAliases, ChainEnd, Special, Hit, Asked, IsChainEnd, verdict_on, result_when_asked, stores_when_asked, result_of_verdict, stores_of_verdict, result_of, asks_of, as_outcome, alias_limit, end_limit, limit_of, is_asked, result_until, reply_of, last_stores, earlier_store, earlier_stores, stores_of, Store, PassedValue, passed_of, one_cache, after_store, after_stores, HopList, IsCutInAsks, IsReply}
use Rattle.hickory_resolver_theorems.proofs.Lists.{all-append, has-all}
use Rattle.hickory_resolver_theorems.proofs.OneCache.{one-before, last-read}
use Rattle.hickory_resolver_theorems.proofs.Stores.{earlier-all}

-- ---- where memory ran out, no store changes the cache

abbrev AllOut : List Store → Type 0
AllOut ss = AllByRecursion (λ s. s.outcome ≡ Err OutOfMemory) ss

none_stored : (front back : List Store) (cache : CacheValue) → AllOut (front ++ back) → after_stores front cache ≡ cache
none_stored [] back cache a = refl
none_stored (s ∷ ss) back cache a = ap (λ (o : OutcomeValue). after_stores ss (after_store (record s { outcome = o }) cache)) a.0 ∙ none_stored ss back cache a.1

verdict_out : (s : LookupContext) (hop : Hop) (m : MessageValue) (limit : ℕ) (v : Verdict) → result_of_verdict s.cache.config hop.query s.now m v ≡ Err OutOfMemory → AllOut (stores_of_verdict hop.query s.now limit v)
verdict_out s hop m limit (Accepted n) e = cc
verdict_out s hop m limit (LeadsTo next) e = tt
verdict_out s hop m limit NoMatch e = tt

kind_out : (s : LookupContext) (hop : Hop) (kind : ResponseKind) → result_when_asked s hop kind ≡ Err OutOfMemory → AllOut (stores_when_asked s hop kind)
kind_out s hop (Answer m) e = verdict_out s hop m (alias_limit s hop.query (Answer m)) (verdict s.preserve_intermediates hop m) e
kind_out s hop (Negative none) e = cc
kind_out s hop (Failed error) e = tt

last_out : (s : LookupContext) (hop : Hop) (last : ChainEnd) → result_of s hop last ≡ Err OutOfMemory → AllOut (last_stores s hop last)
last_out s hop (Special reply) e = tt
last_out s hop (Hit entry) e = tt
last_out s hop (Asked outcome) e = kind_out s hop (kind_of outcome) e

all_out : (s : LookupContext) (passed : List Exchange) (hop : Hop) (last : ChainEnd) → result_of s hop last ≡ Err OutOfMemory → AllOut (stores_of s (passed_of s passed) hop last)
all_out s passed hop last e =
    let P : Store → Type 0 = λ t. t.outcome ≡ Err OutOfMemory in
    all-append P (last_stores s hop last) (earlier_stores (result_of s hop last) s.now (end_limit s hop last) (passed_of s passed)) (last_out s hop last e)
    (earlier-all P s (result_of s hop last) (end_limit s hop last) passed (has-all (λ x. (limit : ℕ) → P (earlier_store (result_of s hop last) s.now x.query limit)) passed (λ x there limit. ap (as_outcome x.query) e)))

-- what memory ran out for is answered so, whatever the limit
reply_out : (s : LookupContext) (passed : List PassedValue) (hop : Hop) (last : ChainEnd) → result_of s hop last ≡ Err OutOfMemory → reply_of s passed hop last ≡ Err OutOfMemory
reply_out s passed hop last e = by (is_asked last || not (is_empty passed))
  where
    by : (b : Bool) → (if b then result_until (limit_of passed (end_limit s hop last)) (result_of s hop last) else result_of s hop last) ≡ Err OutOfMemory
    by true = ap (result_until (limit_of passed (end_limit s hop last))) e
    by false = e

-- ---- what was kept

same_exchange : (x y : Exchange) → y.query ≡ x.query → x.outcome ≡ y.outcome → y ≡ x
same_exchange x y q o =
    let by_query : Query → Exchange = λ p. record { query = p; outcome = y.outcome } in
    let by_outcome : OutcomeValue → Exchange = λ r. record { query = x.query; outcome = r } in
    ap by_query q ∙ ap by_outcome (sym o)

-- an alias was answered, so it was kept
record FrontKept (front tail kept : List Exchange) : Type 0 where
  rest : List Exchange
  parts : kept ≡ front ++ rest
  recorded : RecordedAs tail rest

no_alias : (s : LookupContext) (hop next : Hop) (outcome : OutcomeValue) → outcome ≡ Err OutOfMemory → verdict_on s hop (kind_of outcome) ≡ Some (LeadsTo next) → ⊥
no_alias s hop next outcome out alias = let clash : None ≡ Some (LeadsTo next) = sym (ap (λ (o : OutcomeValue). verdict_on s hop (kind_of o)) out) ∙ alias in cc

front_kept : (s : LookupContext) (caches : List CacheValue) (hop last : Hop) (front tail kept : List Exchange) → FollowsAliases s caches hop front last → RecordedAs (front ++ tail) kept → FrontKept front tail kept
front_kept s [] hop last [] tail kept leads r = record { rest = kept; parts = refl; recorded = r }
front_kept s (cache ∷ caches) hop last (x ∷ xs) tail kept (next, p, leads) (inl (out, r)) = absurd (no_alias (record s { cache = cache }) hop next x.outcome out p.alias)
front_kept s (cache ∷ caches) hop last (x ∷ xs) tail kept (next, p, leads) (inr (y, ys, e, q, inr (out, holds), r)) = absurd (no_alias (record s { cache = cache }) hop next x.outcome out p.alias)
front_kept s (cache ∷ caches) hop last (x ∷ xs) tail kept (next, p, leads) (inr (y, ys, e, q, inl same, r)) =
    let f = front_kept s caches next last xs tail ys leads r in
    let here = same_exchange x y q same in
    record { rest = f.rest; parts = e ∙ ap (λ z. z ∷ ys) here ∙ ap (λ zs. x ∷ zs) f.parts; recorded = f.recorded }
front_kept s [] hop last (x ∷ xs) tail kept never r = absurd never
front_kept s (cache ∷ caches) hop last [] tail kept never r = absurd never

-- memory ran out at an exchange: nothing was kept, or what was kept holds memory
abbrev CutKept : Exchange → List Exchange → Type 0
CutKept x rest = (rest ≡ []) ⊎ ((y : Exchange) × (y.query ≡ x.query) × (holds_memory y.outcome ≡ true) × (rest ≡ y ∷ []))

-- one exchange at the end: kept as it is, or memory had run out
abbrev EndKept : Exchange → List Exchange → Type 0
EndKept x rest = (rest ≡ x ∷ []) ⊎ ((x.outcome ≡ Err OutOfMemory) × CutKept x rest)

end_kept : (x : Exchange) (rest : List Exchange) → RecordedAs (x ∷ []) rest → EndKept x rest
end_kept x rest (inl (out, r)) = inr (out, inl r)
end_kept x rest (inr (y, ys, e, q, inl same, r)) =
    let here = same_exchange x y q same in
    inl (e ∙ ap (λ zs. y ∷ zs) r ∙ ap (λ z. z ∷ []) here)
end_kept x rest (inr (y, ys, e, q, inr (out, holds), r)) = inr (out, inr (y, q, holds, e ∙ ap (λ zs. y ∷ zs) r))

module _ (s : LookupContext) (question : Query) where
  -- of hops that all read one cache these were kept, and memory ran out
  abbrev IsCut : List Exchange → CacheValue → Type 0
  IsCut kept after = IsCutInAsks s (one_cache s kept) question kept after

  cut_by : (passed : List Exchange) (hop : Hop) → FollowsAliases s (one_cache s passed) (first_hop question) passed hop → length passed ≤ 7 → GoesUpstream s hop.query → (x : Exchange) → x.query ≡ hop.query → (rest kept : List Exchange) → kept ≡ passed ++ rest
      → CutKept x rest → IsCut kept s.cache
  cut_by passed hop leads short upstream x asked rest kept parts (inl none) =
      let are : kept ≡ passed = parts ∙ ap (λ zs. passed ++ zs) none ∙ append-nil passed in
      record { before = one_cache s passed; passed = passed; last_hop = hop; leads = leads; short = short; asks_are = inl (are, ap (one_cache s) are); after_is = refl }
  cut_by passed hop leads short upstream x asked rest kept parts (inr (y, q, holds, one)) =
      let are : kept ≡ passed ++ y ∷ [] = parts ∙ ap (λ zs. passed ++ zs) one in
      record {
        before = one_cache s passed;
        passed = passed;
        last_hop = hop;
        leads = leads;
        short = short;
        asks_are = inr (y, s.cache, upstream, q ∙ asked, holds, are, ap (one_cache s) are ∙ map-append (λ z. s.cache) passed (y ∷ []));
        after_is = refl;
      }

  module _ (asks kept passed : List Exchange) (hop : Hop) (leads : FollowsAliases s (one_cache s passed) (first_hop question) passed hop) (short : length passed ≤ 7) where
    kept_by_last : (last : ChainEnd) → IsChainEnd s (length passed) hop last → asks ≡ passed ++ asks_of hop last → (rest : List Exchange) → kept ≡ passed ++ rest → RecordedAs (asks_of hop last) rest → (kept ≡ asks) ⊎ ((result_of s hop last ≡ Err OutOfMemory) × IsCut kept s.cache)
    kept_by_last (Special reply) ends asks_are rest parts recorded = inl (parts ∙ ap (λ zs. passed ++ zs) recorded ∙ sym asks_are)
    kept_by_last (Hit entry) ends asks_are rest parts recorded = inl (parts ∙ ap (λ zs. passed ++ zs) recorded ∙ sym asks_are)
    kept_by_last (Asked outcome) ends asks_are rest parts recorded =
        let x : Exchange = record { query = hop.query; outcome = outcome } in
        elim (end_kept x rest recorded) [
          | inl e ↦ inl (parts ∙ ap (λ zs. passed ++ zs) e ∙ sym asks_are)
          | inr d ↦ inr (ap (λ (o : OutcomeValue). result_when_asked s hop (kind_of o)) d.0, cut_by passed hop leads short ends.0 x refl rest kept parts d.1)
        ]

  -- the exchanges of the hops are those that were kept, or the last answered that memory had run out
  kept_hops : (asks kept : List Exchange) (h : HopList s (one_cache s asks) question asks) → RecordedAs asks kept → (kept ≡ asks) ⊎ ((result_of s h.last_hop h.last ≡ Err OutOfMemory) × IsCut kept s.cache)
  kept_hops asks kept h r =
      let P : List Exchange → Type 0 = λ xs. RecordedAs xs kept in
      let read = one-before s h.before (first_hop question) h.passed h.last_hop (asks_of h.last_hop h.last) (if is_asked h.last then h.last_cache ∷ [] else []) h.leads (sym (ap (one_cache s) h.asks_are) ∙ h.caches_are) in
      let leads = subst (λ cs. FollowsAliases s cs (first_hop question) h.passed h.last_hop) read.0 h.leads in
      let ends = subst (λ c. IsChainEnd (record s { cache = c }) (length h.passed) h.last_hop h.last) (last-read s h.last_hop h.last h.last_cache h.at_once read.1) h.ends in
      let f = front_kept s h.before (first_hop question) h.last_hop h.passed (asks_of h.last_hop h.last) kept h.leads (subst P h.asks_are r) in
      kept_by_last asks kept h.passed h.last_hop leads h.short h.last ends h.asks_are f.rest f.parts f.recorded

  -- a reply over the exchanges that were answered is one over those that were kept
  pub kept_reply : (asks kept : List Exchange) (result : LookupResult) (after : CacheValue) → IsReply s question asks result after → RecordedAs asks kept → IsReply s question kept result after
  kept_reply asks kept result after (inl w) r =
      let P : List Exchange → Type 0 = λ xs. IsReply s question xs result after in
      elim (kept_hops asks kept w.hops r) [
        | inl e ↦ subst P (sym e) (inl w)
        | inr d ↦ inr (w.result_is ∙ reply_out s (passed_of s w.hops.passed) w.hops.last_hop w.hops.last d.0, inr (subst (IsCut kept) (sym (w.after_is ∙ whole_out w.hops d.0)) d.1))
      ]
    where
      whole_out : (h : HopList s (one_cache s asks) question asks) → result_of s h.last_hop h.last ≡ Err OutOfMemory → after_stores (stores_of s (passed_of s h.passed) h.last_hop h.last) s.cache ≡ s.cache
      whole_out h e = none_stored (stores_of s (passed_of s h.passed) h.last_hop h.last) [] s.cache (subst AllOut (sym (append-nil _)) (all_out s h.passed h.last_hop h.last e))
  kept_reply asks kept result after (inr (o, inl c)) r =
      let P : List Exchange → Type 0 = λ xs. IsReply s question xs result after in
      elim (kept_hops asks kept c.hops r) [
        | inl e ↦ subst P (sym e) (inr (o, inl c))
        | inr d ↦ inr (o, inr (subst (IsCut kept) (sym (c.begun.after_is ∙ none_stored c.begun.front c.begun.back s.cache (subst AllOut (sym c.begun.parts) (all_out s c.hops.passed c.hops.last_hop c.hops.last d.0)))) d.1))
      ]
  kept_reply asks kept result after (inr (o, inr c)) r =
      inr (
        o,
        inr (subst (IsCut kept) (sym c.after_is) (elim c.asks_are [
          | inl e ↦ whole e.0 e.1
          | inr d ↦ more d.0 d.1 d.2 d.3 d.4 d.5 d.6
        ])),
      )
    where
      P : List Exchange → Type 0
      P xs = RecordedAs xs kept

      Led : List CacheValue → Type 0
      Led cs = FollowsAliases s cs (first_hop question) c.passed c.last_hop

      whole : asks ≡ c.passed → one_cache s asks ≡ c.before → IsCut kept s.cache
      whole e same =
          let f = front_kept s c.before (first_hop question) c.last_hop c.passed [] kept c.leads (subst P (e ∙ sym (append-nil c.passed)) r) in
          let are : kept ≡ c.passed = f.parts ∙ ap (λ zs. c.passed ++ zs) f.recorded ∙ append-nil c.passed in
          record {
            before = one_cache s c.passed;
            passed = c.passed;
            last_hop = c.last_hop;
            leads = subst Led (sym same ∙ ap (one_cache s) e) c.leads;
            short = c.short;
            asks_are = inl (are, ap (one_cache s) are);
            after_is = refl;
          }

      more : (x : Exchange) (cache : CacheValue) → GoesUpstream (record s { cache = cache }) c.last_hop.query → x.query ≡ c.last_hop.query → holds_memory x.outcome ≡ true → asks ≡ c.passed ++ x ∷ [] → one_cache s asks ≡ c.before ++ cache ∷ [] → IsCut kept s.cache
      more x cache upstream asked holds e same =
          let read = one-before s c.before (first_hop question) c.passed c.last_hop (x ∷ []) (cache ∷ []) c.leads (sym (ap (one_cache s) e) ∙ same) in
          let own : cache ≡ s.cache = let here = read.1 in cc in
          let leads = subst Led read.0 c.leads in
          let up = subst (λ a. GoesUpstream (record s { cache = a }) c.last_hop.query) own upstream in
          let f = front_kept s c.before (first_hop question) c.last_hop c.passed (x ∷ []) kept c.leads (subst P e r) in
          elim (end_kept x f.rest f.recorded) [
            | inl one ↦ cut_by c.passed c.last_hop leads c.short up x asked f.rest kept f.parts (inr (x, refl, holds, one))
            | inr d ↦ cut_by c.passed c.last_hop leads c.short up x asked f.rest kept f.parts d.1
          ]
