-- What a question means under a table: one reply at most, whatever the case of its name.
use Rattle.std.proofs.Common.{◌≡◌, ◌⊎◌, ◌≤◌, ℕ, suc, Bool, true, false, ◌&&◌, ◌||◌, ◌==◌, List, [], ◌∷◌, codes, Option, Some, None, Ok, Err, refl, sym, ap, ap₂, ◌∙◌, subst, arith, inl, inr, if◌then◌else◌}
use Rattle.std.specs.Bool.{beq}
use Rattle.std.specs.List.{list_any, ends_with}
use Rattle.std.specs.Option.{option_map, option_map_or}
use Rattle.std.specs.Map.{lookup}
use Rattle.std.specs.Prelude.{nat_eq}
use Rattle.std.specs.Cmp.Lexicographic.{pointwise}
use Rattle.hickory_proto_core.specs.Name.{NameValue, is_zone_of, lower_labels}
use Rattle.hickory_proto_core.specs.Codes.{type_code, class_code}
use Rattle.hickory_proto_core.specs.Records.{DataValue}
use Rattle.hickory_proto_core.specs.Messages.{MessageValue}
use Rattle.hickory_proto_core.specs.Query.{query_eq}
use Rattle.hickory_proto_core.specs.Table.{TableValue, outcome_in}
use Rattle.hickory_proto_core.specs.Handles.{OutcomeValue}
use Rattle.hickory_proto_core.specs.ResponseKind.{ResponseKind, Answer, Negative, Failed, kind_of}
use Rattle.hickory_proto_core.specs.declared.query.Query.{Query}
use Rattle.hickory_proto_core.specs.codes.dns_class.DNSClass.TheVariants as class
use Rattle.hickory_proto_core.specs.codes.response_code.ResponseCode.{ResponseCode as Code}
use Rattle.hickory_proto_core.specs.codes.response_code.ResponseCode.TheVariants.{NoError, NXDomain}
use Rattle.hickory_proto_core.specs.declared.net_error.NetError.TheVariants.{Dns}
use Rattle.hickory_proto_core.specs.declared.net_error.DnsError.TheVariants.{NoRecordsFound}
use Rattle.hickory_resolver_model.specs.Bounds.{ConfigValue, clamped_message, clamped_record}
use Rattle.hickory_resolver_model.specs.Lookup.{LookupResult}
use Rattle.hickory_resolver_model.specs.SpecialUse.{special_use_result, loopback_zones, is_loopback_name, is_nonexistent_name, loopback_data, one_record, no_records, full_name}
use Rattle.hickory_resolver_model.specs.AliasWalk.{walk_of}
use Rattle.hickory_resolver_model.specs.Verdict.{Hop, Verdict, Accepted, LeadsTo, NoMatch, next_hop, verdict, first_hop}
use Rattle.hickory_resolver_model.specs.Hops.{LookupContext, verdict_on, result_when_asked, result_of_verdict}
use Rattle.hickory_resolver_theorems.specs.Cacheless.{cacheless_context, ResolvesTo, at_special, at_last, at_alias}
use Rattle.hickory_resolver_theorems.specs.Cores.{folded_name, folded_query, folded_data, record_core, sections, ReplyCore, reply_core}
use Rattle.hickory_resolver_theorems.proofs.Folding.{lowers-twice, query_type-folded_name, query_class-folded_name, map-map}
use Rattle.hickory_resolver_theorems.proofs.VerdictFacts.{alias-leads}
use Rattle.hickory_resolver_theorems.proofs.Responses.{Ends, LeadsOn, next_verdict, next_class, next_outcome, next-same}

-- ---- special names

abbrev negative_for : Query → Code → ReplyCore
negative_for q code = Err (Dns (NoRecordsFound (record { query = q; soa = None; ns = None; negative_ttl = None; response_code = code; authorities = None })))

abbrev loopback_core : Query → Option DataValue → ReplyCore
loopback_core q o = option_map_or (λ rdata. Ok (record { answers = record { name = q.name; dns_class = class.IN; ttl = 0; rdata = folded_data rdata } ∷ []; authorities = []; additionals = [] })) o (negative_for q NoError)

abbrev invalid : NameValue
invalid = full_name (codes "invalid" ∷ [])

abbrev onion : NameValue
onion = full_name (codes "onion" ∷ [])

-- what a special name comes to, from the question in lower case
abbrev special_by : Query → Bool → Bool → Option DataValue → Bool → Option ReplyCore
special_by q internet loopback rdata nonexistent =
    if internet then (if loopback then Some (loopback_core q rdata) else (if nonexistent then Some (negative_for q NXDomain) else None)) else None

abbrev special_core : Query → Option ReplyCore
special_core q = special_by q (class_code q.query_class == 1) (is_loopback_name q.name) (loopback_data (type_code q.query_type)) (is_nonexistent_name q.name)

in_zone-folded_name : (zone n : NameValue) → is_zone_of zone (folded_name n) ≡ is_zone_of zone n
in_zone-folded_name zone n = ap (λ xs. ends_with (pointwise nat_eq) xs (lower_labels zone.labels)) (lowers-twice n.labels)

any-same : {A : Type 0} (p q : A → Bool) → ((x : A) → p x ≡ q x) → (xs : List A) → list_any p xs ≡ list_any q xs
any-same p q same [] = refl
any-same p q same (x ∷ xs) = ap₂ (λ a b. a || b) (same x) (any-same p q same xs)

special_use_result-folded_name : (q : Query) (now : ℕ) → option_map reply_core (special_use_result q now) ≡ special_core (folded_query q)
special_use_result-folded_name q now = by (class_code q.query_class == 1) (is_loopback_name q.name) (loopback_data (type_code q.query_type)) (is_nonexistent_name q.name) ∙ sym same
  where
    same : special_core (folded_query q) ≡ special_by (folded_query q) (class_code q.query_class == 1) (is_loopback_name q.name) (loopback_data (type_code q.query_type)) (is_nonexistent_name q.name)
    same =
        let cq = query_class-folded_name q in
        let tq = query_type-folded_name q in
        let zones = any-same (λ zone. is_zone_of zone (folded_name q.name)) (λ zone. is_zone_of zone q.name) (λ zone. in_zone-folded_name zone q.name) loopback_zones in
        let nonexistent = ap₂ (λ a b. a || b) (in_zone-folded_name invalid q.name) (in_zone-folded_name onion q.name) in
        λ i. special_by (folded_query q) (cq i == 1) (zones i) (loopback_data (tq i)) (nonexistent i)

    by : (internet loopback : Bool) (rdata : Option DataValue) (nonexistent : Bool)
        → option_map reply_core (if internet then (if loopback then Some (option_map_or (λ r. Ok (one_record q r now)) rdata (Err (no_records q NoError))) else (if nonexistent then Some (Err (no_records q NXDomain)) else None)) else None)
        ≡ special_by (folded_query q) internet loopback rdata nonexistent
    by false loopback rdata nonexistent = refl
    by true true None nonexistent = refl
    by true true (Some r) nonexistent = refl
    by true false rdata true = refl
    by true false rdata false = refl

-- equal questions are special alike, at whatever moments
pub special_use_result-same : (p q : Query) (now later : ℕ) → folded_query p ≡ folded_query q → option_map reply_core (special_use_result p now) ≡ option_map reply_core (special_use_result q later)
special_use_result-same p q now later e = special_use_result-folded_name p now ∙ ap special_core e ∙ sym (special_use_result-folded_name q later)

none-from : (o : Option LookupResult) → option_map reply_core o ≡ None → o ≡ None
none-from None h = refl
none-from (Some r) h = cc

pub record IsSomeCore (o : Option LookupResult) (c : ReplyCore) : Type 0 where
  pub reply : LookupResult
  pub is : o ≡ Some reply
  pub core_is : reply_core reply ≡ c

some-from : (o : Option LookupResult) (c : ReplyCore) → option_map reply_core o ≡ Some c → IsSomeCore o c
some-from None c h = cc
some-from (Some r) c h = record { reply = r; is = refl; core_is = (let same : reply_core r ≡ c = cc in same) }

pub special_use_result-none : (p q : Query) (now later : ℕ) → folded_query p ≡ folded_query q → special_use_result p now ≡ None → special_use_result q later ≡ None
special_use_result-none p q now later e h = none-from (special_use_result q later) (sym (special_use_result-same p q now later e) ∙ ap (option_map reply_core) h)

pub special_use_result-some : (p q : Query) (now later : ℕ) (r : LookupResult) → folded_query p ≡ folded_query q → special_use_result p now ≡ Some r → IsSomeCore (special_use_result q later) (reply_core r)
special_use_result-some p q now later r e h = some-from (special_use_result q later) (reply_core r) (sym (special_use_result-same p q now later e) ∙ ap (option_map reply_core) h)

-- ---- a table's outcomes

query_eq-same : (p q : Query) → folded_query p ≡ folded_query q → (x : Query) → query_eq p x ≡ query_eq q x
query_eq-same p q e x =
    let types = sym (query_type-folded_name p) ∙ ap (λ f. type_code f.query_type) e ∙ query_type-folded_name q in
    let classes = sym (query_class-folded_name p) ∙ ap (λ f. class_code f.query_class) e ∙ query_class-folded_name q in
    λ i. ((beq (e i).name.fqdn x.name.fqdn && pointwise (pointwise nat_eq) (e i).name.labels (lower_labels x.name.labels)) && (types i == type_code x.query_type)) && (classes i == class_code x.query_class)

pub outcome-same : (p q : Query) (table : TableValue) → folded_query p ≡ folded_query q → outcome_in p table ≡ outcome_in q table
outcome-same p q table e = ap (λ f. lookup f table) (λ i x. query_eq-same p q e x i)

-- ---- a hop without preserved records

pub sections-clamped_message : (config : ConfigValue) (m : MessageValue) → sections (clamped_message config m) ≡ sections m
sections-clamped_message config m =
    let a = map-map record_core (clamped_record config) record_core (λ r. refl) m.answers in
    let b = map-map record_core (clamped_record config) record_core (λ r. refl) m.authorities in
    let c = map-map record_core (clamped_record config) record_core (λ r. refl) m.additionals in
    λ i. record { answers = a i; authorities = b i; additionals = c i }

-- a hop passes to a next one, or its result ends the look-up
pub record GoesOnTo (s : LookupContext) (hop : Hop) (c : ResponseKind) : Type 0 where
  pub next : Hop
  pub alias : verdict_on s hop c ≡ Some (LeadsTo next)
  pub on : next_class hop.query c ≡ LeadsOn (folded_query next.query)
  pub plain : next.preserved ≡ []

pub record EndsWith (s : LookupContext) (hop : Hop) (c : ResponseKind) : Type 0 where
  pub no_alias : (next : Hop) → verdict_on s hop c ≡ Some (LeadsTo next) → ⊥
  pub ends : next_class hop.query c ≡ Ends (reply_core (result_when_asked s hop c))

pub hop-next : (s : LookupContext) (hop : Hop) (c : ResponseKind) → s.preserve_intermediates ≡ false → hop.preserved ≡ [] → GoesOnTo s hop c ⊎ EndsWith s hop c
hop-next s hop (Negative n) off none = inr (record { no_alias = λ next h. cc; ends = refl })
hop-next s hop (Failed e) off none = inr (record { no_alias = λ next h. cc; ends = refl })
hop-next s hop (Answer m) off none = by (verdict s.preserve_intermediates hop m) refl
  where
    q : Query
    q = hop.query

    plain : verdict s.preserve_intermediates hop m ≡ verdict false (first_hop q) m
    plain = λ i. verdict (off i) (record { query = q; preserved = none i }) m

    by : (v : Verdict) → verdict s.preserve_intermediates hop m ≡ v → GoesOnTo s hop (Answer m) ⊎ EndsWith s hop (Answer m)
    by (Accepted f) e =
        inr (record {
          no_alias = λ next h. let clash : Some (Accepted f) ≡ Some (LeadsTo next) = ap Some (sym e) ∙ h in cc;
          ends = ap (next_verdict q m) (sym plain ∙ e) ∙ ap (λ x. Ends (Ok x)) (sym (sections-clamped_message s.cache.config f)) ∙ ap (λ v. Ends (reply_core (result_of_verdict s.cache.config q s.now m v))) (sym e);
        })
    by (LeadsTo next) e =
        let there : next ≡ next_hop s.preserve_intermediates hop (walk_of q m.answers) m = (alias-leads s.preserve_intermediates hop m next e).next_is in
        inl (record {
          next = next;
          alias = ap Some e;
          on = ap (next_verdict q m) (sym plain ∙ e);
          plain = ap (λ h. h.preserved) there ∙ (λ i. (next_hop (off i) (record { query = q; preserved = none i }) (walk_of q m.answers) m).preserved);
        })
    by NoMatch e =
        inr (record {
          no_alias = λ next h. let clash : Some NoMatch ≡ Some (LeadsTo next) = ap Some (sym e) ∙ h in cc;
          ends = ap (next_verdict q m) (sym plain ∙ e) ∙ ap (λ v. Ends (reply_core (result_of_verdict s.cache.config q s.now m v))) (sym e);
        })

-- ---- meanings

-- a meaning by what the table's outcome comes to
pub means-ends : (table : TableValue) (q : Query) (o : OutcomeValue) (r : ReplyCore) → special_use_result q 0 ≡ None → outcome_in q table ≡ Some o → next_outcome q o ≡ Ends r → ResolvesTo table q r 1
means-ends table q o r plain found ends = by (hop-next cacheless_context (first_hop q) (kind_of o) refl refl)
  where
    by : GoesOnTo cacheless_context (first_hop q) (kind_of o) ⊎ EndsWith cacheless_context (first_hop q) (kind_of o) → ResolvesTo table q r 1
    by (inl on) = let clash : Ends r ≡ LeadsOn (folded_query on.next.query) = sym ends ∙ on.on in cc
    by (inr last) =
        let same : Ends (reply_core (result_when_asked cacheless_context (first_hop q) (kind_of o))) ≡ Ends r = sym last.ends ∙ ends in
        let cores : reply_core (result_when_asked cacheless_context (first_hop q) (kind_of o)) ≡ r = cc in
        subst (λ c. ResolvesTo table q c 1) cores (at_last plain found last.no_alias)

-- the three ways in which a question has a meaning
pub record BySpecial (q : Query) (r : ReplyCore) : Type 0 where
  pub reply : LookupResult
  pub is : special_use_result q 0 ≡ Some reply
  pub core_is : reply_core reply ≡ r

pub record ByOutcome (table : TableValue) (q : Query) (r : ReplyCore) : Type 0 where
  pub plain : special_use_result q 0 ≡ None
  pub outcome : OutcomeValue
  pub found : outcome_in q table ≡ Some outcome
  pub ends : next_outcome q outcome ≡ Ends r

pub record ByAlias (table : TableValue) (q : Query) (r : ReplyCore) (n : ℕ) : Type 0 where
  pub plain : special_use_result q 0 ≡ None
  pub outcome : OutcomeValue
  pub found : outcome_in q table ≡ Some outcome
  pub next : Query
  pub on : next_outcome q outcome ≡ LeadsOn (folded_query next)
  pub rest : ℕ
  pub means : ResolvesTo table next r rest
  pub length_is : n ≡ suc rest

pub means-cases : (table : TableValue) (q : Query) (r : ReplyCore) (n : ℕ) → ResolvesTo table q r n → BySpecial q r ⊎ (ByOutcome table q r ⊎ ByAlias table q r n)
means-cases table q r n (at_special {reply = reply} h) = inl (record { reply = reply; is = h; core_is = refl })
means-cases table q r n (at_last {outcome = o} plain found no_alias) = inr (inl (record { plain = plain; outcome = o; found = found; ends = by (hop-next cacheless_context (first_hop q) (kind_of o) refl refl) }))
  where
    by : GoesOnTo cacheless_context (first_hop q) (kind_of o) ⊎ EndsWith cacheless_context (first_hop q) (kind_of o) → next_outcome q o ≡ Ends (reply_core (result_when_asked cacheless_context (first_hop q) (kind_of o)))
    by (inl on) = absurd (no_alias on.next on.alias)
    by (inr last) = last.ends
means-cases table q r n (at_alias {next = next} {outcome = o} {n = m} plain found alias means) =
    inr (inr (record { plain = plain; outcome = o; found = found; next = next.query; on = by (hop-next cacheless_context (first_hop q) (kind_of o) refl refl); rest = m; means = means; length_is = refl }))
  where
    by : GoesOnTo cacheless_context (first_hop q) (kind_of o) ⊎ EndsWith cacheless_context (first_hop q) (kind_of o) → next_outcome q o ≡ LeadsOn (folded_query next.query)
    by (inl there) =
        let twice : Some (LeadsTo there.next) ≡ Some (LeadsTo next) = sym there.alias ∙ alias in
        let same : there.next ≡ next = cc in
        there.on ∙ ap (λ h. LeadsOn (folded_query h.query)) same
    by (inr last) = absurd (last.no_alias next alias)

pub means-some : (table : TableValue) (q : Query) (r : ReplyCore) (n : ℕ) → ResolvesTo table q r n → 1 ≤ n
means-some table q r n (at_special h) = omega arith
means-some table q r n (at_last plain found no_alias) = omega arith
means-some table q r n (at_alias {n = m} plain found alias means) = omega arith

-- equal questions mean the same
pub means-same : (table : TableValue) (p q : Query) (r : ReplyCore) (n : ℕ) → folded_query p ≡ folded_query q → ResolvesTo table p r n → ResolvesTo table q r n
means-same table p q r n e (at_special {reply = reply} h) = let there = special_use_result-some p q 0 0 reply e h in subst (λ c. ResolvesTo table q c 1) there.core_is (at_special there.is)
means-same table p q r n e (at_last {outcome = o} plain found no_alias) = by (hop-next cacheless_context (first_hop p) (kind_of o) refl refl)
  where
    by : GoesOnTo cacheless_context (first_hop p) (kind_of o) ⊎ EndsWith cacheless_context (first_hop p) (kind_of o) → ResolvesTo table q (reply_core (result_when_asked cacheless_context (first_hop p) (kind_of o))) 1
    by (inl on) = absurd (no_alias on.next on.alias)
    by (inr last) = means-ends table q o (reply_core (result_when_asked cacheless_context (first_hop p) (kind_of o))) (special_use_result-none p q 0 0 e plain) (sym (outcome-same p q table e) ∙ found) (sym (next-same p q o o e refl) ∙ last.ends)
means-same table p q r n e (at_alias {next = next} {outcome = o} {n = m} plain found alias means) = by (hop-next cacheless_context (first_hop p) (kind_of o) refl refl) (hop-next cacheless_context (first_hop q) (kind_of o) refl refl) (λ there same. means-same table next.query there r m same means)
  where
    by : GoesOnTo cacheless_context (first_hop p) (kind_of o) ⊎ EndsWith cacheless_context (first_hop p) (kind_of o) → GoesOnTo cacheless_context (first_hop q) (kind_of o) ⊎ EndsWith cacheless_context (first_hop q) (kind_of o)
        → ((there : Query) → folded_query next.query ≡ folded_query there → ResolvesTo table there r m) → ResolvesTo table q r (suc m)
    by (inr last) other rest = absurd (last.no_alias next alias)
    by (inl here) (inl there) rest =
        let twice : Some (LeadsTo here.next) ≡ Some (LeadsTo next) = sym here.alias ∙ alias in
        let same : here.next ≡ next = cc in
        let both : LeadsOn (folded_query here.next.query) ≡ LeadsOn (folded_query there.next.query) = sym here.on ∙ next-same p q o o e refl ∙ there.on in
        let questions : folded_query here.next.query ≡ folded_query there.next.query = cc in
        at_alias (special_use_result-none p q 0 0 e plain) (sym (outcome-same p q table e) ∙ found) there.alias (rest there.next.query (ap (λ h. folded_query h.query) (sym same) ∙ questions))
    by (inl here) (inr last) rest = let clash : LeadsOn (folded_query here.next.query) ≡ Ends (reply_core (result_when_asked cacheless_context (first_hop q) (kind_of o))) = sym here.on ∙ next-same p q o o e refl ∙ last.ends in cc

-- and they mean one reply at most
pub means-one : (table : TableValue) (q : Query) (r c : ReplyCore) (n m : ℕ) → ResolvesTo table q r n → ResolvesTo table q c m → r ≡ c
means-one table q r c n m (at_special {reply = reply} h) other = by (means-cases table q c m other)
  where
    by : BySpecial q c ⊎ (ByOutcome table q c ⊎ ByAlias table q c m) → reply_core reply ≡ c
    by (inl s) = let twice : Some reply ≡ Some s.reply = sym h ∙ s.is in let same : reply ≡ s.reply = cc in ap reply_core same ∙ s.core_is
    by (inr (inl o)) = let clash : Some reply ≡ None = sym h ∙ o.plain in cc
    by (inr (inr a)) = let clash : Some reply ≡ None = sym h ∙ a.plain in cc
means-one table q r c n m (at_last {outcome = o} plain found no_alias) other = by (hop-next cacheless_context (first_hop q) (kind_of o) refl refl) (means-cases table q c m other)
  where
    by : GoesOnTo cacheless_context (first_hop q) (kind_of o) ⊎ EndsWith cacheless_context (first_hop q) (kind_of o) → BySpecial q c ⊎ (ByOutcome table q c ⊎ ByAlias table q c m) → reply_core (result_when_asked cacheless_context (first_hop q) (kind_of o)) ≡ c
    by (inl on) cases = absurd (no_alias on.next on.alias)
    by (inr last) (inl s) = let clash : None ≡ Some s.reply = sym plain ∙ s.is in cc
    by (inr last) (inr (inl u)) =
        let twice : Some o ≡ Some u.outcome = sym found ∙ u.found in
        let same : o ≡ u.outcome = cc in
        let ends : Ends (reply_core (result_when_asked cacheless_context (first_hop q) (kind_of o))) ≡ Ends c = sym last.ends ∙ ap (next_outcome q) same ∙ u.ends in
        cc
    by (inr last) (inr (inr a)) =
        let twice : Some o ≡ Some a.outcome = sym found ∙ a.found in
        let same : o ≡ a.outcome = cc in
        let clash : Ends (reply_core (result_when_asked cacheless_context (first_hop q) (kind_of o))) ≡ LeadsOn (folded_query a.next) = sym last.ends ∙ ap (next_outcome q) same ∙ a.on in
        cc
means-one table q r c n m (at_alias {next = next} {outcome = o} {n = k} plain found alias means) other = by (hop-next cacheless_context (first_hop q) (kind_of o) refl refl) (means-cases table q c m other) (λ j there. means-one table next.query r c k j means there)
  where
    by : GoesOnTo cacheless_context (first_hop q) (kind_of o) ⊎ EndsWith cacheless_context (first_hop q) (kind_of o) → BySpecial q c ⊎ (ByOutcome table q c ⊎ ByAlias table q c m) → ((j : ℕ) → ResolvesTo table next.query c j → r ≡ c) → r ≡ c
    by (inr last) cases rest = absurd (last.no_alias next alias)
    by (inl on) (inl s) rest = let clash : None ≡ Some s.reply = sym plain ∙ s.is in cc
    by (inl on) (inr (inl u)) rest =
        let twice : Some o ≡ Some u.outcome = sym found ∙ u.found in
        let same : o ≡ u.outcome = cc in
        let clash : LeadsOn (folded_query on.next.query) ≡ Ends c = sym on.on ∙ ap (next_outcome q) same ∙ u.ends in
        cc
    by (inl on) (inr (inr a)) rest =
        let twice : Some o ≡ Some a.outcome = sym found ∙ a.found in
        let same : o ≡ a.outcome = cc in
        let hops : Some (LeadsTo on.next) ≡ Some (LeadsTo next) = sym on.alias ∙ alias in
        let one : on.next ≡ next = cc in
        let both : LeadsOn (folded_query a.next) ≡ LeadsOn (folded_query on.next.query) = sym a.on ∙ ap (next_outcome q) (sym same) ∙ on.on in
        let questions : folded_query a.next ≡ folded_query on.next.query = cc in
        rest a.rest (means-same table a.next next.query c a.rest (questions ∙ ap (λ h. folded_query h.query) one) a.means)
