-- What follows from a verdict: where an alias leads, and where the answers of an accepted response come from.
use Rattle.std.proofs.Common.{◌≡◌, ℕ, ◌==◌, Bool, true, false, ◌||◌, ◌&&◌, List, [], ◌∷◌, ◌++◌, map, filter, Some, refl, sym, ap, ◌∙◌, subst, if◌then◌else◌}
use Rattle.std.proofs.lemmas.Bool.{eqb-true, and_parts}
use Rattle.std.specs.List.{AllByRecursion}
use Rattle.hickory_proto_core.specs.Codes.{type_code}
use Rattle.hickory_proto_core.specs.Records.{RecordValue}
use Rattle.hickory_proto_core.specs.Messages.{MessageValue}
use Rattle.hickory_proto_core.specs.ResponseKind.{ResponseKind, Answer, Negative, Failed, kind_of, record_type_code, is_empty}
use Rattle.hickory_proto_core.specs.declared.query.Query.{Query}
use Rattle.hickory_proto_core.specs.declared.recorded.Exchange.{Exchange}
use Rattle.hickory_resolver_model.specs.Cache.{CacheValue}
use Rattle.hickory_resolver_model.specs.AliasWalk.{Walk, standing, walk_of, walk_from}
use Rattle.hickory_resolver_model.specs.Verdict.{Hop, Accepted, LeadsTo, NoMatch, is_match, is_accepted, is_filtered, is_intermediate, has_class, found_message, filtered_answers, next_hop, all_records, with_ttl_at_most, verdict}
use Rattle.hickory_resolver_model.specs.Hops.{LookupContext, IsAliasHop, FollowsAliases, verdict_on}
use Rattle.hickory_resolver_theorems.proofs.Lists.{all-weaker, all-append, all-front, all-filter, all-map, all-kept}

-- ---- aliases

-- a record counted, and the next hop is that of the walk
pub record LeadsOn (keep : Bool) (hop : Hop) (m : MessageValue) (next : Hop) : Type 0 where
  pub followed : is_empty (walk_of hop.query m.answers).places ≡ false
  pub next_is : next ≡ next_hop keep hop (walk_of hop.query m.answers) m

pub alias-leads : (keep : Bool) (hop : Hop) (m : MessageValue) (next : Hop) → verdict keep hop m ≡ LeadsTo next → LeadsOn keep hop m next
alias-leads keep hop m next h = by (is_accepted hop walk m) (is_empty walk.places) refl h
  where
    walk : Walk
    walk = walk_of hop.query m.answers

    by : (a b : Bool) → is_empty walk.places ≡ b → (if a then Accepted (found_message keep hop walk m) else (if b then NoMatch else LeadsTo (next_hop keep hop walk m))) ≡ LeadsTo next → LeadsOn keep hop m next
    by true b e k = cc
    by false true e k = cc
    by false false e k = let same : next_hop keep hop walk m ≡ next = cc in record { followed = e; next_is = sym same }

-- a question for CNAMEs follows none
pub follows-no_cname : (q : Query) (answers : List RecordValue) → type_code q.query_type ≡ 5 → is_empty (walk_of q answers).places ≡ true
follows-no_cname q answers e = ap (λ n. is_empty (if (if n == 255 then false else (if n == 5 then false else true)) then walk_from 0 q.name q.name answers else standing q.name).places) e

-- the response that a hop before the last got
pub record Passed (s : LookupContext) (hop : Hop) (x : Exchange) (next : Hop) : Type 0 where
  pub response : MessageValue
  pub class : kind_of x.outcome ≡ Answer response
  pub leads : LeadsOn s.preserve_intermediates hop response next

pub passed : (s : LookupContext) (hop : Hop) (x : Exchange) (next : Hop) → IsAliasHop s hop x next → Passed s hop x next
passed s hop x next p = by (kind_of x.outcome) refl p.alias
  where
    by : (c : ResponseKind) → kind_of x.outcome ≡ c → verdict_on s hop c ≡ Some (LeadsTo next) → Passed s hop x next
    by (Answer response) e k =
        let same : verdict s.preserve_intermediates hop response ≡ LeadsTo next = cc in
        record { response = response; class = e; leads = alias-leads s.preserve_intermediates hop response next same }
    by (Negative none) e k = cc
    by (Failed error) e k = cc

-- ---- the type stays, and no preserved record is of the asked type

pub record KeepsType (code : ℕ) (hop : Hop) : Type 0 where
  pub type_is : type_code hop.query.query_type ≡ code
  pub others : AllByRecursion (λ r. record_type_code r ≡ code → ⊥) hop.preserved

intermediate-other : (code : ℕ) (q : Query) (r : RecordValue) → (code ≡ 5 → ⊥) → is_intermediate q r ≡ true → record_type_code r ≡ code → ⊥
intermediate-other code q r not_five h e = not_five (sym e ∙ eqb-true _ _ (and_parts (has_class q r) (record_type_code r == 5) h).1)

pub next-keeps : (code : ℕ) (keep : Bool) (hop : Hop) (m : MessageValue) (next : Hop) → KeepsType code hop → LeadsOn keep hop m next → KeepsType code next
next-keeps code keep hop m next k on =
    subst (KeepsType code) (sym on.next_is) (record { type_is = k.type_is; others = all-append Other hop.preserved (more keep) k.others (by keep) })
  where
    Other : RecordValue → Type 0
    Other r = record_type_code r ≡ code → ⊥

    walk : Walk
    walk = walk_of hop.query m.answers

    more : Bool → List RecordValue
    more b = if b then map (with_ttl_at_most walk.ttl) (filter (is_intermediate hop.query) (all_records m)) else []

    not_five : code ≡ 5 → ⊥
    not_five e = let clash : true ≡ false = sym (follows-no_cname hop.query m.answers (k.type_is ∙ e)) ∙ on.followed in cc

    by : (b : Bool) → AllByRecursion Other (more b)
    by true = all-map Other (with_ttl_at_most walk.ttl) (filter (is_intermediate hop.query) (all_records m)) (all-kept Other (is_intermediate hop.query) (λ r. intermediate-other code hop.query r not_five) (all_records m))
    by false = tt

pub leads-keep : (code : ℕ) (s : LookupContext) (caches : List CacheValue) (hop : Hop) (xs : List Exchange) (last : Hop) → KeepsType code hop → FollowsAliases s caches hop xs last → KeepsType code last × AllByRecursion (λ x. type_code x.query.query_type ≡ code) xs
leads-keep code s [] hop [] last k e = (subst (KeepsType code) (sym e) k, tt)
leads-keep code s (cache ∷ caches) hop (x ∷ xs) last k (next, p, rest) =
    let on = passed (record s { cache = cache }) hop x next p in
    let there = leads-keep code s caches next xs last (next-keeps code s.preserve_intermediates hop on.response next k on.leads) rest in
    (there.0, (ap (λ q. type_code q.query_type) p.asked ∙ k.type_is, there.1))
leads-keep code s [] hop (x ∷ xs) last k never = absurd never
leads-keep code s (cache ∷ caches) hop [] last k never = absurd never

-- ---- accepted responses

-- what holds of the preserved records and, with their TTLs as they are or with_ttl_at_most, of all records of a response holds of the answers
-- once it is accepted
pub found-answers : (P : RecordValue → Type 0) (keep : Bool) (hop : Hop) (walk : Walk) (m : MessageValue) → AllByRecursion P hop.preserved → AllByRecursion (λ r. P r × P (with_ttl_at_most walk.ttl r)) (all_records m) → AllByRecursion P (found_message keep hop walk m).answers
found-answers P keep hop walk m front all = by (is_filtered keep hop walk m)
  where
    test : RecordValue → Bool
    test = λ r. is_match hop.query walk r || (keep && is_intermediate hop.query r)

    low : AllByRecursion P (map (with_ttl_at_most walk.ttl) (filter test (all_records m)))
    low = all-map P (with_ttl_at_most walk.ttl) (filter test (all_records m)) (all-filter (λ r. P (with_ttl_at_most walk.ttl r)) test (all_records m) (all-weaker (λ r. P r × P (with_ttl_at_most walk.ttl r)) (λ r. P (with_ttl_at_most walk.ttl r)) (λ r h. h.1) (all_records m) all))

    by : (b : Bool) → AllByRecursion P (if b then record m { answers = filtered_answers keep hop walk m } else m).answers
    by true = all-append P hop.preserved _ front low
    by false =
        let each = all-weaker (λ r. P r × P (with_ttl_at_most walk.ttl r)) P (λ r h. h.0) (all_records m) all in
        all-front P m.answers m.authorities (all-front P (m.answers ++ m.authorities) m.additionals each)
