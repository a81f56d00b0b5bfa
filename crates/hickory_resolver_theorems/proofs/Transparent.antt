-- A cache does not change an answer: a look-up comes to what its question means, and so does every entry that it stores.
use Rattle.std.proofs.Common.{◌≡◌, ◌⊎◌, ◌≤◌, ℕ, suc, ◌+◌, Bool, true, false, not, ◌&&◌, ◌||◌, if◌then◌else◌, List, [], ◌∷◌, ◌++◌, length, map, Option, Some, None, Ok, Err, refl, sym, ap, ◌∙◌, subst, arith, inl, inr}
use Rattle.std.proofs.lemmas.Bool.{and_parts}
use Rattle.std.specs.List.{AllByRecursion}
use Rattle.std.specs.Option.{option_map}
use Rattle.hickory_proto_core.specs.Records.{RecordValue}
use Rattle.hickory_proto_core.specs.Messages.{MessageValue}
use Rattle.hickory_proto_core.specs.Errors.{NoRecordsValue, ForwardValue}
use Rattle.hickory_proto_core.specs.Table.{TableValue, outcome_in}
use Rattle.hickory_proto_core.specs.Handles.{OutcomeValue}
use Rattle.hickory_proto_core.specs.ResponseKind.{ResponseKind, Answer, Negative, Failed, kind_of, is_empty}
use Rattle.hickory_proto_core.specs.declared.query.Query.{Query}
use Rattle.hickory_proto_core.specs.declared.recorded.Exchange.{Exchange}
use Rattle.hickory_proto_core.specs.declared.net_error.NetError.{NetError}
use Rattle.hickory_proto_core.specs.declared.net_error.NetError.TheVariants.{Message, Timeout, Proto, Dns, NoOutcome, Bounds, OutOfMemory}
use Rattle.hickory_proto_core.specs.declared.net_error.DnsError.TheVariants.{ResponseCode, NoRecordsFound}
use Rattle.hickory_resolver_model.specs.Bounds.{ConfigValue}
use Rattle.hickory_resolver_model.specs.Cache.{CacheValue, current, is_for, is_current, age, aged_record, aged_message, aged_forward, aged_negative, aged_error, aged_outcome, positive_entry, negative_entry, not_after}
use Rattle.hickory_resolver_model.specs.Lookup.{LookupResult}
use Rattle.hickory_resolver_model.specs.SpecialUse.{special_use_result}
use Rattle.hickory_resolver_model.specs.Verdict.{Hop, Verdict, Accepted, LeadsTo, NoMatch, verdict}
use Rattle.hickory_resolver_model.specs.Hops.{LookupContext, IsAliasHop, ChainEnd, Special, Hit, Asked, IsChainEnd, FollowsAliases, HopList, Store, IsReplyOver, PassedValue, passed_of, asks_of, result_when_asked, result_of_verdict, hit_result, result_of, alias_limit, end_limit, limit_of, is_asked, result_until, reply_of, stores_of_verdict, stores_when_asked, last_stores, earlier_store, stores_of, after_stores}
use Rattle.hickory_resolver_theorems.specs.Cacheless.{ResolvesTo, IsConsistentWith, AreConsistentWith}
use Rattle.hickory_resolver_theorems.specs.Cores.{folded_query, record_core, sections, forward_core, negative_core, error_core, ReplyCore, reply_core, entry_core}
use Rattle.hickory_resolver_theorems.specs.Statements.{IsWhatItResolvesTo, AreWhatTheyResolveTo, IsTransparent}
use Rattle.hickory_resolver_theorems.proofs.Lists.{all-weaker, all-append, all-front, all-back, all-has, find-has}
use Rattle.hickory_resolver_theorems.proofs.OneCache.{verdict-elsewhere}
use Rattle.hickory_resolver_theorems.proofs.Stores.{Makes, after_stores-all, earlier-all}
use Rattle.hickory_resolver_theorems.proofs.Folding.{map-map, query-same}
use Rattle.hickory_resolver_theorems.proofs.VerdictFacts.{passed}
use Rattle.hickory_resolver_theorems.proofs.Fresh.{class-answer}
use Rattle.hickory_resolver_theorems.proofs.Responses.{Ends, LeadsOn, next_outcome, next-same}
use Rattle.hickory_resolver_theorems.proofs.Meanings.{IsSomeCore, special_use_result-none, special_use_result-some, sections-clamped_message, GoesOnTo, EndsWith, hop-next, BySpecial, ByOutcome, ByAlias, means-cases, means-some, means-same, means-one}

-- ---- aging changes TTLs alone

message-aged_result : (seconds : ℕ) (m : MessageValue) → sections (aged_message seconds m) ≡ sections m
message-aged_result seconds m =
    let a = map-map record_core (aged_record seconds) record_core (λ r. refl) m.answers in
    let b = map-map record_core (aged_record seconds) record_core (λ r. refl) m.authorities in
    let c = map-map record_core (aged_record seconds) record_core (λ r. refl) m.additionals in
    λ i. record { answers = a i; authorities = b i; additionals = c i }

forward-aged_result : (seconds : ℕ) (f : ForwardValue) → forward_core (aged_forward seconds f) ≡ forward_core f
forward-aged_result seconds f = ap (λ glue. record { ns = record_core f.ns; glue = glue }) (map-map record_core (aged_record seconds) record_core (λ r. refl) f.glue)

record-aged_result : (seconds : ℕ) (o : Option RecordValue) → option_map record_core (option_map (aged_record seconds) o) ≡ option_map record_core o
record-aged_result seconds None = refl
record-aged_result seconds (Some r) = refl

records-aged_result : (seconds : ℕ) (o : Option (List RecordValue)) → option_map (map record_core) (option_map (map (aged_record seconds)) o) ≡ option_map (map record_core) o
records-aged_result seconds None = refl
records-aged_result seconds (Some rs) = ap Some (map-map record_core (aged_record seconds) record_core (λ r. refl) rs)

forwards-aged_result : (seconds : ℕ) (o : Option (List ForwardValue)) → option_map (map forward_core) (option_map (map (aged_forward seconds)) o) ≡ option_map (map forward_core) o
forwards-aged_result seconds None = refl
forwards-aged_result seconds (Some fs) = ap Some (map-map forward_core (aged_forward seconds) forward_core (λ f. forward-aged_result seconds f) fs)

negative-aged_result : (seconds : ℕ) (n : NoRecordsValue) → negative_core (aged_negative seconds n) ≡ negative_core n
negative-aged_result seconds n =
    let soa = record-aged_result seconds n.soa in
    let ns = forwards-aged_result seconds n.ns in
    let authorities = records-aged_result seconds n.authorities in
    λ i. record (negative_core n) { soa = soa i; ns = ns i; authorities = authorities i }

error-aged_result : (seconds : ℕ) (e : NetError) → error_core (aged_error seconds e) ≡ error_core e
error-aged_result seconds (Dns (NoRecordsFound n)) = ap (λ c. Dns (NoRecordsFound c)) (negative-aged_result seconds n)
error-aged_result seconds (Dns (ResponseCode code)) = refl
error-aged_result seconds (Message text) = refl
error-aged_result seconds Timeout = refl
error-aged_result seconds (Proto error) = refl
error-aged_result seconds NoOutcome = refl
error-aged_result seconds (Bounds error) = refl
error-aged_result seconds OutOfMemory = refl

hit-core : (q : Query) (now seconds : ℕ) (o : OutcomeValue) → reply_core (hit_result q now (aged_outcome seconds o)) ≡ entry_core o
hit-core q now seconds (Ok m) = ap Ok (message-aged_result seconds m)
hit-core q now seconds (Err e) = ap Err (error-aged_result seconds e)

-- ---- the hops before the last

-- a question that was asked has what the table says of it
pub record Told (table : TableValue) (q : Query) (outcome : OutcomeValue) : Type 0 where
  pub known : OutcomeValue
  pub found : outcome_in q table ≡ Some known
  pub same : next_outcome q known ≡ next_outcome q outcome

told : (table : TableValue) (q : Query) (x : Exchange) → x.query ≡ q → (x.outcome ≡ Err OutOfMemory → ⊥) → IsConsistentWith table x → Told table q x.outcome
told table q x e live tells =
    let there = tells live in
    record { known = there.0; found = sym (ap (λ p. outcome_in p table) e) ∙ there.1; same = next-same q q there.0 x.outcome refl there.2 }

-- where a question that is not special goes on, so does its meaning
on-means : (table : TableValue) (q next : Query) (outcome : OutcomeValue) (r : ReplyCore) (n : ℕ) → special_use_result q 0 ≡ None → Told table q outcome → next_outcome q outcome ≡ LeadsOn (folded_query next) → ResolvesTo table q r n → (m : ℕ) × ResolvesTo table next r m × (n ≡ suc m)
on-means table q next outcome r n plain t on means = by (means-cases table q r n means)
  where
    by : BySpecial q r ⊎ (ByOutcome table q r ⊎ ByAlias table q r n) → (m : ℕ) × ResolvesTo table next r m × (n ≡ suc m)
    by (inl s) = let clash : None ≡ Some s.reply = sym plain ∙ s.is in cc
    by (inr (inl o)) =
        let twice : Some o.outcome ≡ Some t.known = sym o.found ∙ t.found in
        let one : o.outcome ≡ t.known = cc in
        let clash : Ends r ≡ LeadsOn (folded_query next) = sym o.ends ∙ ap (next_outcome q) one ∙ t.same ∙ on in
        cc
    by (inr (inr a)) =
        let twice : Some a.outcome ≡ Some t.known = sym a.found ∙ t.found in
        let one : a.outcome ≡ t.known = cc in
        let both : LeadsOn (folded_query a.next) ≡ LeadsOn (folded_query next) = sym a.on ∙ ap (next_outcome q) one ∙ t.same ∙ on in
        let questions : folded_query a.next ≡ folded_query next = cc in
        (a.rest, means-same table a.next next r a.rest questions a.means, a.length_is)

-- where it ends, its meaning is that
ends-means : (table : TableValue) (q : Query) (outcome : OutcomeValue) (r c : ReplyCore) (n : ℕ) → special_use_result q 0 ≡ None → Told table q outcome → next_outcome q outcome ≡ Ends c → ResolvesTo table q r n → c ≡ r
ends-means table q outcome r c n plain t ends means = by (means-cases table q r n means)
  where
    by : BySpecial q r ⊎ (ByOutcome table q r ⊎ ByAlias table q r n) → c ≡ r
    by (inl s) = let clash : None ≡ Some s.reply = sym plain ∙ s.is in cc
    by (inr (inl o)) =
        let twice : Some o.outcome ≡ Some t.known = sym o.found ∙ t.found in
        let one : o.outcome ≡ t.known = cc in
        let both : Ends c ≡ Ends r = sym ends ∙ sym t.same ∙ ap (next_outcome q) (sym one) ∙ o.ends in
        cc
    by (inr (inr a)) =
        let twice : Some a.outcome ≡ Some t.known = sym a.found ∙ t.found in
        let one : a.outcome ≡ t.known = cc in
        let clash : LeadsOn (folded_query a.next) ≡ Ends c = sym a.on ∙ ap (next_outcome q) one ∙ t.same ∙ ends in
        cc

-- a question has some meaning with this reply
abbrev Meant : TableValue → ReplyCore → Query → Type 0
Meant table r q = (k : ℕ) × ResolvesTo table q r k

pub record LedMeaning (table : TableValue) (xs : List Exchange) (last : Hop) (r : ReplyCore) (n : ℕ) : Type 0 where
  pub rest : ℕ
  pub means : ResolvesTo table last.query r rest
  pub length_is : n ≡ length xs + rest
  pub plain : last.preserved ≡ []
  pub each : AllByRecursion (λ x. (k : ℕ) × ResolvesTo table x.query r k) xs

-- a hop that passes on: it is plain, its outcome was not out of memory, and the next hop is plain
pub record PassedOn (s : LookupContext) (hop : Hop) (x : Exchange) (next : Hop) : Type 0 where
  pub live : x.outcome ≡ Err OutOfMemory → ⊥
  pub on : next_outcome hop.query x.outcome ≡ LeadsOn (folded_query next.query)
  pub plain : next.preserved ≡ []

passed-on : (s : LookupContext) (hop : Hop) (x : Exchange) (next : Hop) → s.preserve_intermediates ≡ false → hop.preserved ≡ [] → IsAliasHop s hop x next → PassedOn s hop x next
passed-on s hop x next off none p = by (hop-next s hop (kind_of x.outcome) off none)
  where
    live : x.outcome ≡ Err OutOfMemory → ⊥
    live e =
        let there = passed s hop x next p in
        let clash : Ok there.response ≡ Err OutOfMemory = sym (class-answer x.outcome there.response there.class) ∙ e in
        cc

    by : GoesOnTo s hop (kind_of x.outcome) ⊎ EndsWith s hop (kind_of x.outcome) → PassedOn s hop x next
    by (inl there) =
        let twice : Some (LeadsTo there.next) ≡ Some (LeadsTo next) = sym there.alias ∙ p.alias in
        let same : there.next ≡ next = cc in
        record { live = live; on = there.on ∙ ap (λ h. LeadsOn (folded_query h.query)) same; plain = sym (ap (λ h. h.preserved) same) ∙ there.plain }
    by (inr last) = absurd (last.no_alias next p.alias)

led-meaning : (s : LookupContext) (table : TableValue) (caches : List CacheValue) (hop : Hop) (xs : List Exchange) (last : Hop) (r : ReplyCore) (n : ℕ) → s.preserve_intermediates ≡ false → hop.preserved ≡ [] → AreConsistentWith table xs → FollowsAliases s caches hop xs last → ResolvesTo table hop.query r n → LedMeaning table xs last r n
led-meaning s table [] hop [] last r n off none tells e means = record {
  rest = n;
  means = subst (λ h. ResolvesTo table h.query r n) (sym e) means;
  length_is = omega arith;
  plain = ap (λ h. h.preserved) e ∙ none;
  each = tt;
}
led-meaning s table (cache ∷ caches) hop (x ∷ xs) last r n off none (tells, all) (next, p, rest) means =
    let on = passed-on (record s { cache = cache }) hop x next off none p in
    let plain = special_use_result-none hop.query hop.query s.now 0 refl p.upstream.0 in
    let t = told table hop.query x p.asked on.live tells in
    let there = on-means table hop.query next.query x.outcome r n plain t on.on means in
    let more = led-meaning s table caches next xs last r there.0 off on.plain all rest there.1 in
    record {
      rest = more.rest;
      means = more.means;
      length_is = omega (arith, there.2, more.length_is);
      plain = more.plain;
      each = ((n, subst (λ q. ResolvesTo table q r n) (sym p.asked) means), more.each);
    }
led-meaning s table [] hop (x ∷ xs) last r n off none tells never means = absurd never
led-meaning s table (cache ∷ caches) hop [] last r n off none tells never means = absurd never

-- ---- the last hop

abbrev IsOutOr : LookupResult → ReplyCore → Type 0
IsOutOr reply r = (reply ≡ Err OutOfMemory) ⊎ (reply_core reply ≡ r)

asked-meaning : (s : LookupContext) (table : TableValue) (cache : CacheValue) (hop : Hop) (count : ℕ) (outcome : OutcomeValue) (r : ReplyCore) (n : ℕ) → s.preserve_intermediates ≡ false → hop.preserved ≡ [] → (outcome ≡ Err OutOfMemory → ⊥) → IsConsistentWith table (record { query = hop.query; outcome = outcome })
    → IsChainEnd (record s { cache = cache }) count hop (Asked outcome) → ResolvesTo table hop.query r n → count + n ≤ 8 → reply_core (result_of s hop (Asked outcome)) ≡ r
asked-meaning s table cache hop count outcome r n off none live tells ends means few = by (hop-next s hop (kind_of outcome) off none)
  where
    t : Told table hop.query outcome
    t = told table hop.query (record { query = hop.query; outcome = outcome }) refl live tells

    plain : special_use_result hop.query 0 ≡ None
    plain = special_use_result-none hop.query hop.query s.now 0 refl ends.0.0

    by : GoesOnTo s hop (kind_of outcome) ⊎ EndsWith s hop (kind_of outcome) → reply_core (result_when_asked s hop (kind_of outcome)) ≡ r
    by (inl there) =
        let on = on-means table hop.query there.next.query outcome r n plain t there.on means in
        absurd (omega (arith, ends.1 there.next (verdict-elsewhere s cache hop (kind_of outcome) ∙ there.alias), on.2, means-some table there.next.query r on.0 on.1, few))
    by (inr last) = ends-means table hop.query outcome r (reply_core (result_when_asked s hop (kind_of outcome))) n plain t last.ends means

last-meaning : (s : LookupContext) (table : TableValue) (cache : CacheValue) (hop : Hop) (count : ℕ) (last : ChainEnd) (r : ReplyCore) (n : ℕ) → s.preserve_intermediates ≡ false → hop.preserved ≡ [] → AreWhatTheyResolveTo table s.cache → AreConsistentWith table (asks_of hop last) → IsChainEnd (record s { cache = cache }) count hop last → (is_asked last ≡ false → cache ≡ s.cache) → ResolvesTo table hop.query r n → count + n ≤ 8
    → IsOutOr (result_of s hop last) r
last-meaning s table cache hop count (Special reply) r n off none meant tells ends own means few = inr (by (means-cases table hop.query r n means))
  where
    there : IsSomeCore (special_use_result hop.query 0) (reply_core reply)
    there = special_use_result-some hop.query hop.query s.now 0 reply refl ends

    by : BySpecial hop.query r ⊎ (ByOutcome table hop.query r ⊎ ByAlias table hop.query r n) → reply_core reply ≡ r
    by (inl x) =
        let twice : Some there.reply ≡ Some x.reply = sym there.is ∙ x.is in
        let same : there.reply ≡ x.reply = cc in
        sym there.core_is ∙ ap reply_core same ∙ x.core_is
    by (inr (inl o)) = let clash : Some there.reply ≡ None = sym there.is ∙ o.plain in cc
    by (inr (inr a)) = let clash : Some there.reply ≡ None = sym there.is ∙ a.plain in cc
last-meaning s table cache hop count (Hit entry) r n off none meant tells ends own means few =
    let is : current hop.query s.now s.cache.entries ≡ Some entry = subst (λ c. current hop.query s.now c.entries ≡ Some entry) (own refl) ends.1 in
    let found = find-has (λ e. is_for hop.query e && is_current s.now e) s.cache.entries entry is in
    let mine = (and_parts (is_for hop.query entry) (is_current s.now entry) found.1).0 in
    let kept = all-has (IsWhatItResolvesTo table) s.cache.entries entry meant found.0 in
    let here = means-same table entry.query hop.query (entry_core entry.result) kept.0 (sym (query-same hop.query entry.query mine)) kept.1 in
    inr (hit-core hop.query s.now (age entry.original_time s.now) entry.result ∙ means-one table hop.query (entry_core entry.result) r kept.0 n here means)
last-meaning s table cache hop count (Asked (Err OutOfMemory)) r n off none meant tells ends own means few = inl refl
last-meaning s table cache hop count (Asked (Ok m)) r n off none meant tells ends own means few = inr (asked-meaning s table cache hop count (Ok m) r n off none (λ e. cc) tells.0 ends means few)
last-meaning s table cache hop count (Asked (Err (Message text))) r n off none meant tells ends own means few = inr (asked-meaning s table cache hop count (Err (Message text)) r n off none (λ e. cc) tells.0 ends means few)
last-meaning s table cache hop count (Asked (Err Timeout)) r n off none meant tells ends own means few = inr (asked-meaning s table cache hop count (Err Timeout) r n off none (λ e. cc) tells.0 ends means few)
last-meaning s table cache hop count (Asked (Err (Proto error))) r n off none meant tells ends own means few = inr (asked-meaning s table cache hop count (Err (Proto error)) r n off none (λ e. cc) tells.0 ends means few)
last-meaning s table cache hop count (Asked (Err (Dns error))) r n off none meant tells ends own means few = inr (asked-meaning s table cache hop count (Err (Dns error)) r n off none (λ e. cc) tells.0 ends means few)
last-meaning s table cache hop count (Asked (Err NoOutcome)) r n off none meant tells ends own means few = inr (asked-meaning s table cache hop count (Err NoOutcome) r n off none (λ e. cc) tells.0 ends means few)
last-meaning s table cache hop count (Asked (Err (Bounds error))) r n off none meant tells ends own means few = inr (asked-meaning s table cache hop count (Err (Bounds error)) r n off none (λ e. cc) tells.0 ends means few)

-- ---- stores

-- what is stored is what its question means, or out of memory, which is not stored
abbrev pub StoresMeant : TableValue → Store → Type 0
StoresMeant table s = (s.outcome ≡ Err OutOfMemory) ⊎ ((k : ℕ) × ResolvesTo table s.query (entry_core s.outcome) k)

makes-meant : (table : TableValue) (config : ConfigValue) (s : Store) → StoresMeant table s → Makes (IsWhatItResolvesTo table) config s
makes-meant table config s is = (positive is, negative is)
  where
    positive : StoresMeant table s → (m : MessageValue) → s.outcome ≡ Ok m → IsWhatItResolvesTo table (not_after s.limit (positive_entry config s.query m s.now))
    positive (inl out) m e = let clash : Ok m ≡ Err OutOfMemory = sym e ∙ out in cc
    positive (inr (k, means)) m e = (
      k,
      subst (λ c. ResolvesTo table s.query (Ok c) k) (sym (sections-clamped_message config m)) (subst (λ o. ResolvesTo table s.query (entry_core o) k) e means),
    )

    negative : StoresMeant table s → (n : NoRecordsValue) → s.outcome ≡ Err (Dns (NoRecordsFound n)) → IsWhatItResolvesTo table (not_after s.limit (negative_entry config s.query n s.now))
    negative (inl out) n e = let clash : Err (Dns (NoRecordsFound n)) ≡ Err OutOfMemory = sym e ∙ out in cc
    negative (inr (k, means)) n e = (k, subst (λ o. ResolvesTo table s.query (entry_core o) k) e means)

stores-meant : (table : TableValue) (stores : List Store) (cache : CacheValue) → AreWhatTheyResolveTo table cache → AllByRecursion (StoresMeant table) stores → AreWhatTheyResolveTo table (after_stores stores cache)
stores-meant table stores cache meant all =
    after_stores-all (IsWhatItResolvesTo table) stores cache meant (all-weaker (StoresMeant table) (Makes (IsWhatItResolvesTo table) cache.config) (makes-meant table cache.config) stores all)

-- the last hop's own store
last-stored : (s : LookupContext) (table : TableValue) (hop : Hop) (last : ChainEnd) (r : ReplyCore) (n : ℕ) → ResolvesTo table hop.query r n → IsOutOr (result_of s hop last) r → AllByRecursion (StoresMeant table) (last_stores s hop last)
last-stored s table hop (Special reply) r n means is = tt
last-stored s table hop (Hit entry) r n means is = tt
last-stored s table hop (Asked outcome) r n means is = by (kind_of outcome) is
  where
    on : (m : MessageValue) (limit : ℕ) (v : Verdict) → IsOutOr (result_of_verdict s.cache.config hop.query s.now m v) r → AllByRecursion (StoresMeant table) (stores_of_verdict hop.query s.now limit v)
    on m limit (Accepted f) (inl e) = cc
    on m limit (Accepted f) (inr e) = (inr (n, subst (λ c. ResolvesTo table hop.query c n) (sym e ∙ ap Ok (sections-clamped_message s.cache.config f)) means), tt)
    on m limit (LeadsTo next) k = tt
    on m limit NoMatch k = tt

    by : (c : ResponseKind) → IsOutOr (result_when_asked s hop c) r → AllByRecursion (StoresMeant table) (stores_when_asked s hop c)
    by (Answer m) k = on m (alias_limit s hop.query (Answer m)) (verdict s.preserve_intermediates hop m) k
    by (Negative none) (inl e) = cc
    by (Negative none) (inr e) = (inr (n, subst (λ c. ResolvesTo table hop.query c n) (sym e) means), tt)
    by (Failed error) k = tt

-- the result under an earlier question
again-stored : (table : TableValue) (now : ℕ) (q : Query) (reply : LookupResult) (limit : ℕ) (r : ReplyCore) → (k : ℕ) × ResolvesTo table q r k → IsOutOr reply r → StoresMeant table (earlier_store reply now q limit)
again-stored table now q (Ok l) limit r (k, means) (inl e) = let clash : Ok l ≡ Err OutOfMemory = e in cc
again-stored table now q (Ok l) limit r (k, means) (inr e) = inr (k, subst (λ c. ResolvesTo table q c k) (sym e) means)
again-stored table now q (Err error) limit r (k, means) (inl e) = let same : error ≡ OutOfMemory = cc in inl (ap Err same)
again-stored table now q (Err error) limit r (k, means) (inr e) = inr (k, subst (λ c. ResolvesTo table q c k) (sym e) means)

-- a limit does not change what a result comes to
until-meant : (limit : ℕ) (result : LookupResult) (r : ReplyCore) → IsOutOr result r → IsOutOr (result_until limit result) r
until-meant limit (Ok l) r (inl e) = let clash : Ok l ≡ Err OutOfMemory = e in cc
until-meant limit (Ok l) r (inr e) = inr e
until-meant limit (Err error) r is = is

reply-meant : (s : LookupContext) (passed : List PassedValue) (hop : Hop) (last : ChainEnd) (r : ReplyCore) → IsOutOr (result_of s hop last) r → IsOutOr (reply_of s passed hop last) r
reply-meant s passed hop last r is = by (is_asked last || not (is_empty passed))
  where
    by : (b : Bool) → IsOutOr (if b then result_until (limit_of passed (end_limit s hop last)) (result_of s hop last) else result_of s hop last) r
    by true = until-meant (limit_of passed (end_limit s hop last)) (result_of s hop last) r is
    by false = is

-- ---- a look-up

pub record AreMeantHops (s : LookupContext) (caches : List CacheValue) (table : TableValue) (question : Query) (asks : List Exchange) (r : ReplyCore) (h : HopList s caches question asks) : Type 0 where
  pub reply : IsOutOr (reply_of s (passed_of s h.passed) h.last_hop h.last) r
  pub stores : AllByRecursion (StoresMeant table) (stores_of s (passed_of s h.passed) h.last_hop h.last)

hops-meant : (s : LookupContext) (caches : List CacheValue) (table : TableValue) (question : Query) (asks : List Exchange) (r : ReplyCore) (n : ℕ) (h : HopList s caches question asks) → s.preserve_intermediates ≡ false → AreConsistentWith table asks → AreWhatTheyResolveTo table s.cache → ResolvesTo table question r n → n ≤ 8 → AreMeantHops s caches table question asks r h
hops-meant s caches table question asks r n h off tells meant means few = record {
  reply = reply-meant s (passed_of s h.passed) h.last_hop h.last r reply;
  stores = all-append (StoresMeant table) (last_stores s h.last_hop h.last) _ (last-stored s table h.last_hop h.last r led.rest led.means reply)
      (earlier-all (StoresMeant table) s (result_of s h.last_hop h.last) (end_limit s h.last_hop h.last) h.passed
      (all-weaker (λ x. (k : ℕ) × ResolvesTo table x.query r k) (λ x. (limit : ℕ) → StoresMeant table (earlier_store (result_of s h.last_hop h.last) s.now x.query limit)) (λ x k limit. again-stored table s.now x.query (result_of s h.last_hop h.last) limit r k reply) h.passed led.each));
}
  where
    both : AllByRecursion (IsConsistentWith table) (h.passed ++ asks_of h.last_hop h.last)
    both = subst (AllByRecursion (IsConsistentWith table)) h.asks_are tells

    led : LedMeaning table h.passed h.last_hop r n
    led = led-meaning s table h.before (record { query = question; preserved = [] }) h.passed h.last_hop r n off refl (all-front (IsConsistentWith table) h.passed (asks_of h.last_hop h.last) both) h.leads means

    reply : IsOutOr (result_of s h.last_hop h.last) r
    reply =
        last-meaning s table h.last_cache h.last_hop (length h.passed) h.last r led.rest off led.plain meant (all-back (IsConsistentWith table) h.passed (asks_of h.last_hop h.last) both) h.ends h.at_once led.means (omega (arith, led.length_is, few))

pub transparent : (s : LookupContext) (caches : List CacheValue) (question : Query) (asks : List Exchange) (result : LookupResult) (after : CacheValue) → IsReplyOver s caches question asks result after → IsTransparent s question asks result after
transparent s caches question asks result after is table off apart tells meant r n means few = by is
  where
    stored : (stores : List Store) → AllByRecursion (StoresMeant table) stores → after ≡ after_stores stores s.cache → AreWhatTheyResolveTo table after
    stored stores all e = subst (AreWhatTheyResolveTo table) (sym e) (stores-meant table stores s.cache meant all)

    by : IsReplyOver s caches question asks result after → ((result ≡ Err OutOfMemory) ⊎ (reply_core result ≡ r)) × AreWhatTheyResolveTo table after
    by (inl whole) =
        let hops = hops-meant s caches table question asks r n whole.hops off tells meant means few in
        (subst (λ x. IsOutOr x r) (sym whole.result_is) hops.reply, stored _ hops.stores whole.after_is)
    by (inr (e, inl cut)) =
        let hops = hops-meant s caches table question asks r n cut.hops off tells meant means few in
        (inl e, stored cut.begun.front (all-front (StoresMeant table) cut.begun.front cut.begun.back (subst (AllByRecursion (StoresMeant table)) (sym cut.begun.parts) hops.stores)) cut.begun.after_is)
    by (inr (e, inr cut)) = (inl e, subst (AreWhatTheyResolveTo table) (sym cut.after_is) meant)
