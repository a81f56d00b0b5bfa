-- What a response comes to for a question is the same for responses that agree and questions that are equal.
use Rattle.std.proofs.Common.{◌≡◌, ℕ, ◌+◌, Bool, true, false, not, ◌&&◌, ◌||◌, ◌==◌, List, [], ◌∷◌, ◌++◌, map, filter, Option, Some, None, Result, Ok, Err, refl, sym, ap, ap₂, ◌∙◌, subst, if◌then◌else◌}
use Rattle.std.proofs.lemmas.List.{map-append}
use Rattle.std.specs.List.{filter_map, cons_option}
use Rattle.std.specs.Option.{option_map, option_map_or}
use Rattle.std.specs.Prelude.{is_some}
use Rattle.hickory_proto_core.specs.Name.{NameValue, name_eq}
use Rattle.hickory_proto_core.specs.Codes.{response_code, response_of}
use Rattle.hickory_proto_core.specs.Records.{RecordValue, soa_minimum, ns_target}
use Rattle.hickory_proto_core.specs.Messages.{MessageValue, response_metadata, some_record}
use Rattle.hickory_proto_core.specs.Errors.{ForwardValue}
use Rattle.hickory_proto_core.specs.Handles.{OutcomeValue}
use Rattle.hickory_proto_core.specs.ResponseKind.{ResponseKind, Answer, Negative, Failed, kind_of, is_asked, is_empty, answers_question, contains_answer, first_query, or_none, first_soa, is_address_of, forward_of, forwards_of, negative_of}
use Rattle.hickory_proto_core.specs.declared.query.Query.{Query}
use Rattle.hickory_proto_core.specs.codes.dns_class.DNSClass.TheVariants as class
use Rattle.hickory_proto_core.specs.codes.op_code.OpCode.TheVariants as op
use Rattle.hickory_proto_core.specs.declared.net_error.NetError.{NetError}
use Rattle.hickory_proto_core.specs.declared.net_error.NetError.TheVariants.{Message, Timeout, Proto, Dns, NoOutcome, Bounds, OutOfMemory}
use Rattle.hickory_proto_core.specs.declared.net_error.DnsError.TheVariants.{ResponseCode, NoRecordsFound}
use Rattle.hickory_resolver_model.specs.AliasWalk.{Walk, Counted, AliasTo, Server, counted, reached_by, ends_at, has_target, is_moved, standing, walk_step, walk_from, walk_of, follows_aliases}
use Rattle.hickory_resolver_model.specs.Verdict.{Verdict, Accepted, LeadsTo, NoMatch, is_match, is_led_match, is_accepted, is_filtered, is_intermediate, found_message, filtered_answers, first_or, next_name, next_hop, all_records, with_ttl_at_most, verdict, first_hop}
use Rattle.hickory_resolver_model.specs.Hops.{no_match}
use Rattle.hickory_resolver_theorems.specs.Cores.{folded_name, folded_query, record_core, Sections, sections, forward_core, error_core, ReplyCore, ResponseCore, outcome_core}
use Rattle.hickory_resolver_theorems.proofs.Folding.{name_eq-folded_name, zone_of-folded_name, minimum-folded_name, target-folded_name, folded_counted, counted-folded_name, record_type-folded_name, query_type-folded_name, query_class-folded_name, record_class-folded_name, any-map, filter-map, find-map, map-map}

-- what a question comes to by one outcome: a reply, or another question
pub data Next : Type 0 where
  Ends : ReplyCore → Next
  LeadsOn : Query → Next

abbrev pub next_verdict : Query → MessageValue → Verdict → Next
next_verdict q m (Accepted f) = Ends (Ok (sections f))
next_verdict q m (LeadsTo h) = LeadsOn (folded_query h.query)
next_verdict q m NoMatch = Ends (Err (error_core (no_match q m)))

abbrev pub next_class : Query → ResponseKind → Next
next_class q (Answer m) = next_verdict q m (verdict false (first_hop q) m)
next_class q (Negative n) = Ends (Err (error_core (Dns (NoRecordsFound n))))
next_class q (Failed e) = Ends (Err (error_core e))

abbrev pub next_outcome : Query → OutcomeValue → Next
next_outcome q o = next_class q (kind_of o)

-- ---- the same from what the outcome comes to, and the question in lower case

abbrev message_of : ResponseCore → MessageValue
message_of c = record {
  metadata = record (response_metadata 0 op.Query) { truncation = c.truncation; response_code = response_of c.code };
  queries = c.queries;
  answers = c.body.answers;
  authorities = c.body.authorities;
  additionals = c.body.additionals;
}

abbrev response_core : MessageValue → ResponseCore
response_core m = record { code = response_code m.metadata.response_code; truncation = m.metadata.truncation; queries = map folded_query m.queries; body = sections m }

abbrev folded_message : MessageValue → MessageValue
folded_message m = message_of (response_core m)

abbrev no_match_core : Query → MessageValue → NetError
no_match_core q m = Dns (NoRecordsFound (record { query = q; soa = first_soa m.authorities; ns = None; negative_ttl = None; response_code = m.metadata.response_code; authorities = None }))

abbrev negative_core_of : MessageValue → NetError
negative_core_of m = Dns (NoRecordsFound (record {
  query = first_query m.queries;
  soa = first_soa m.authorities;
  ns = or_none (forwards_of m);
  negative_ttl = None;
  response_code = m.metadata.response_code;
  authorities = or_none m.authorities;
}))

-- the sections of an accepted response, without TTLs
abbrev found_core : Query → Walk → MessageValue → Sections
found_core q walk m =
    record {
      answers = if is_filtered false (first_hop q) walk m then filter (is_match q walk) (all_records m) else m.answers;
      authorities = m.authorities;
      additionals = m.additionals;
    }

abbrev walk_core : Query → Walk → MessageValue → Next
walk_core q walk m =
    if is_accepted (first_hop q) walk m then Ends (Ok (found_core q walk m))
    else (if is_empty walk.places then Ends (Err (no_match_core q m)) else LeadsOn (record { name = next_name walk; query_type = q.query_type; query_class = class.IN }))

abbrev answer_core : Query → MessageValue → Next
answer_core q m = walk_core q (walk_of q m.answers) m

abbrev next_core : Query → Result ResponseCore NetError → Next
next_core q (Ok c) =
    if (c.code == 0) || (c.code == 3) then (if c.truncation || contains_answer (message_of c) then answer_core q (message_of c) else Ends (Err (negative_core_of (message_of c))))
    else Ends (Err (Dns (ResponseCode (response_of c.code))))
next_core q (Err e) = Ends (Err e)

-- ---- tests of records

-- the walk of a response without times, at the places and the names of the walk of the response
abbrev at_walk : Walk → Walk
at_walk walk = record { places = walk.places; last = folded_name walk.last; targets = map folded_name walk.targets; alias_ttls = map (λ t. 0) walk.alias_ttls; ttl = 0 }

ends-folded_name : (walk : Walk) (name : NameValue) → ends_at (at_walk walk) (folded_name name) ≡ ends_at walk name
ends-folded_name walk name = name_eq-folded_name walk.last name

has-folded_name : (walk : Walk) (name : NameValue) → has_target (at_walk walk) (folded_name name) ≡ has_target walk name
has-folded_name walk name = any-map (λ t. name_eq t (folded_name name)) (λ t. name_eq t name) folded_name (λ t. name_eq-folded_name t name) walk.targets

empty-map : {A B : Type 0} (f : A → B) (xs : List A) → is_empty (map f xs) ≡ is_empty xs
empty-map f [] = refl
empty-map f (x ∷ xs) = refl

moved-at : (walk : Walk) → is_moved (at_walk walk) ≡ is_moved walk
moved-at walk = ap not (empty-map (λ t. 0) walk.alias_ttls)

next-folded_name : (walk : Walk) → next_name (at_walk walk) ≡ folded_name (next_name walk)
next-folded_name walk = by walk.alias_ttls walk.targets
  where
    by : (ttls : List ℕ) (targets : List NameValue) → (if not (is_empty {A = ℕ} (map (λ t. 0) ttls)) then folded_name walk.last else first_or (folded_name walk.last) (map folded_name targets)) ≡ folded_name (if not (is_empty ttls) then walk.last else first_or walk.last targets)
    by (t ∷ ts) targets = refl
    by [] [] = refl
    by [] (target ∷ targets) = refl

match-folded_name : (q : Query) (walk : Walk) (r : RecordValue) → is_match (folded_query q) (at_walk walk) (record_core r) ≡ is_match q walk r
match-folded_name q walk r =
    let tq = query_type-folded_name q in
    let tr = record_type-folded_name r in
    let cq = query_class-folded_name q in
    let cr = record_class-folded_name r in
    let own = name_eq-folded_name q.name r.name in
    let ends = ends-folded_name walk r.name in
    let has = has-folded_name walk r.name in
    λ i. ((cq i == cr i) && ((tq i == 255) || (tq i == tr i))) && (own i || (ends i || has i))

led_match-folded_name : (q : Query) (walk : Walk) (r : RecordValue) → is_led_match (folded_query q) (at_walk walk) (record_core r) ≡ is_led_match q walk r
led_match-folded_name q walk r =
    let tq = query_type-folded_name q in
    let tr = record_type-folded_name r in
    let cq = query_class-folded_name q in
    let cr = record_class-folded_name r in
    let ends = ends-folded_name walk r.name in
    let has = has-folded_name walk r.name in
    let moved = moved-at walk in
    λ i. ((cq i == cr i) && ((tq i == 255) || (tq i == tr i))) && (has i || (moved i && ends i))

asked-folded_name : (q : Query) (r : RecordValue) → is_asked (folded_query q) (record_core r) ≡ is_asked q r
asked-folded_name q r =
    let tq = query_type-folded_name q in
    let tr = record_type-folded_name r in
    let own = name_eq-folded_name q.name r.name in
    let zone = zone_of-folded_name r.name q.name in
    λ i. if tq i == 255 then own i else (if tq i == 6 then (tr i == 6) && zone i else (tq i == tr i) && own i)

some-folded_name : (p q : RecordValue → Bool) (m : MessageValue) → ((r : RecordValue) → p (record_core r) ≡ q r) → some_record p (folded_message m) ≡ some_record q m
some-folded_name p q m same =
    let a = any-map p q record_core same m.answers in
    let b = any-map p q record_core same m.authorities in
    let c = any-map p q record_core same m.additionals in
    λ i. (a i || b i) || c i

empty-folded_name : (rs : List RecordValue) → is_empty (map record_core rs) ≡ is_empty rs
empty-folded_name [] = refl
empty-folded_name (r ∷ rs) = refl

answers-folded_name : (q : Query) (m : MessageValue) → answers_question (folded_query q) (folded_message m) ≡ answers_question q m
answers-folded_name q m =
    let tq = query_type-folded_name q in
    let some = some-folded_name (is_asked (folded_query q)) (is_asked q) m (asked-folded_name q) in
    let empty = empty-folded_name m.answers in
    λ i. some i || ((not (tq i == 255) && not (tq i == 6)) && not (empty i))

contains-folded_name : (m : MessageValue) → contains_answer (folded_message m) ≡ contains_answer m
contains-folded_name m = any-map (λ q. answers_question q (folded_message m)) (λ q. answers_question q m) folded_query (λ q. answers-folded_name q m) m.queries

-- ---- the parts of negative answers

soa-folded_name : (rs : List RecordValue) → first_soa (map record_core rs) ≡ option_map record_core (first_soa rs)
soa-folded_name rs = find-map (λ r. is_some (soa_minimum r.rdata)) (λ r. is_some (soa_minimum r.rdata)) record_core (λ r. ap is_some (minimum-folded_name r.rdata)) rs

first-folded_name : (qs : List Query) → first_query (map folded_query qs) ≡ folded_query (first_query qs)
first-folded_name [] = refl
first-folded_name (q ∷ qs) = refl

section-folded_name : (rs : List RecordValue) → or_none (map record_core rs) ≡ option_map (map record_core) (or_none rs)
section-folded_name [] = refl
section-folded_name (r ∷ rs) = refl

address-folded_name : (server : NameValue) (r : RecordValue) → is_address_of (folded_name server) (record_core r) ≡ is_address_of server r
address-folded_name server r =
    let tr = record_type-folded_name r in
    let own = name_eq-folded_name server r.name in
    λ i. ((tr i == 1) || (tr i == 28)) && own i

forward-folded_name : (additionals : List RecordValue) (r : RecordValue) → forward_of (map record_core additionals) (record_core r) ≡ option_map forward_core (forward_of additionals r)
forward-folded_name additionals r = ap (option_map (λ server. record { ns = record_core r; glue = filter (is_address_of server) (map record_core additionals) })) (target-folded_name r.rdata) ∙ by (ns_target r.rdata)
  where
    by : (o : Option NameValue) → option_map (λ server. record { ns = record_core r; glue = filter (is_address_of server) (map record_core additionals) }) (option_map folded_name o) ≡ option_map forward_core (option_map (λ server. record { ns = r; glue = filter (is_address_of server) additionals }) o)
    by None = refl
    by (Some server) = ap (λ glue. Some (record { ns = record_core r; glue = glue })) (filter-map (is_address_of (folded_name server)) (is_address_of server) record_core (address-folded_name server) additionals)

forwards-folded_name : (additionals rs : List RecordValue) → filter_map (forward_of (map record_core additionals)) (map record_core rs) ≡ map forward_core (filter_map (forward_of additionals) rs)
forwards-folded_name additionals [] = refl
forwards-folded_name additionals (r ∷ rs) = ap₂ cons_option (forward-folded_name additionals r) (forwards-folded_name additionals rs) ∙ by (forward_of additionals r)
  where
    by : (o : Option ForwardValue) → cons_option (option_map forward_core o) (map forward_core (filter_map (forward_of additionals) rs)) ≡ map forward_core (cons_option o (filter_map (forward_of additionals) rs))
    by None = refl
    by (Some f) = refl

some-forwards : (fs : List ForwardValue) → or_none (map forward_core fs) ≡ option_map (map forward_core) (or_none fs)
some-forwards [] = refl
some-forwards (f ∷ fs) = refl

negative-folded_name : (m : MessageValue) → error_core (Dns (NoRecordsFound (negative_of m))) ≡ negative_core_of (folded_message m)
negative-folded_name m =
    let first = first-folded_name m.queries in
    let soa = soa-folded_name m.authorities in
    let ns = ap or_none (forwards-folded_name m.additionals m.authorities) ∙ some-forwards (forwards_of m) in
    let section = section-folded_name m.authorities in
    sym (λ i. Dns (NoRecordsFound (record {
      query = first i;
      soa = soa i;
      ns = ns i;
      negative_ttl = None;
      response_code = response_of (response_code m.metadata.response_code);
      authorities = section i;
    })))

no_match-folded_name : (q : Query) (m : MessageValue) → error_core (no_match q m) ≡ no_match_core (folded_query q) (folded_message m)
no_match-folded_name q m =
    let soa = soa-folded_name m.authorities in
    sym (λ i. Dns (NoRecordsFound (record {
      query = folded_query q;
      soa = soa i;
      ns = None;
      negative_ttl = None;
      response_code = response_of (response_code m.metadata.response_code);
      authorities = None;
    })))

-- ---- the walk

-- a walk without times has the same places, and the names in lower case
abbrev SameWalk : Walk → Walk → Type 0
SameWalk w v = (w.places ≡ v.places) × (w.last ≡ folded_name v.last) × (w.targets ≡ map folded_name v.targets) × (w.alias_ttls ≡ map (λ t. 0) v.alias_ttls)

walk_from-folded_name : (asked : NameValue) (rs : List RecordValue) (place : ℕ) (reached : NameValue) → SameWalk (walk_from place (folded_name asked) (folded_name reached) (map record_core rs)) (walk_from place asked reached rs)
walk_from-folded_name asked [] place reached = (refl, refl, refl, refl)
walk_from-folded_name asked (r ∷ rs) place reached = by (counted asked reached r) (counted (folded_name asked) (folded_name reached) (record_core r)) (counted-folded_name asked reached r) (walk_from-folded_name asked rs (place + 1))
  where
    with_it : Option Counted → Walk
    with_it o = option_map_or (λ c. walk_step place r.ttl c (walk_from (place + 1) asked (reached_by reached c) rs)) o (walk_from (place + 1) asked reached rs)

    folded_with : Option Counted → Walk
    folded_with o = option_map_or (λ c. walk_step place 0 c (walk_from (place + 1) (folded_name asked) (reached_by (folded_name reached) c) (map record_core rs))) o (walk_from (place + 1) (folded_name asked) (folded_name reached) (map record_core rs))

    same : (o : Option Counted) → ((n : NameValue) → SameWalk (walk_from (place + 1) (folded_name asked) (folded_name n) (map record_core rs)) (walk_from (place + 1) asked n rs)) → SameWalk (folded_with (option_map folded_counted o)) (with_it o)
    same None rest = rest reached
    same (Some (AliasTo next)) rest = let there = rest next in (ap (λ ps. place ∷ ps) there.0, there.1, there.2, ap (λ ts. 0 ∷ ts) there.3)
    same (Some (Server target)) rest = let there = rest reached in (ap (λ ps. place ∷ ps) there.0, there.1, ap (λ ns. folded_name target ∷ ns) there.2, there.3)

    by : (o p : Option Counted) → p ≡ option_map folded_counted o → ((n : NameValue) → SameWalk (walk_from (place + 1) (folded_name asked) (folded_name n) (map record_core rs)) (walk_from (place + 1) asked n rs)) → SameWalk (folded_with p) (with_it o)
    by o p e rest = subst (λ x. SameWalk (folded_with x) (with_it o)) (sym e) (same o rest)

walk_of-folded_name : (q : Query) (answers : List RecordValue) → SameWalk (walk_of (folded_query q) (map record_core answers)) (walk_of q answers)
walk_of-folded_name q answers = subst (λ n. SameWalk (if (if n == 255 then false else (if n == 5 then false else true)) then walk_from 0 (folded_name q.name) (folded_name q.name) (map record_core answers) else standing (folded_name q.name)) (walk_of q answers)) (sym (query_type-folded_name q)) (by (follows_aliases q))
  where
    by : (b : Bool) → SameWalk (if b then walk_from 0 (folded_name q.name) (folded_name q.name) (map record_core answers) else standing (folded_name q.name)) (if b then walk_from 0 q.name q.name answers else standing q.name)
    by true = walk_from-folded_name q.name answers 0 q.name
    by false = (refl, refl, refl, refl)

-- ---- the verdict

all-folded_name : (m : MessageValue) → all_records (folded_message m) ≡ map record_core (all_records m)
all-folded_name m = sym (map-append record_core (m.answers ++ m.authorities) m.additionals ∙ ap (λ xs. xs ++ map record_core m.additionals) (map-append record_core m.answers m.authorities))

or_false : (b : Bool) → (b || false) ≡ b
or_false true = refl
or_false false = refl

-- the answers that are filtered
filtered-folded_name : (q : Query) (walk : Walk) (m : MessageValue) → map record_core (filtered_answers false (first_hop q) walk m) ≡ filter (is_match (folded_query q) (at_walk walk)) (all_records (folded_message m))
filtered-folded_name q walk m =
    map-map record_core (with_ttl_at_most walk.ttl) record_core (λ r. refl) (filter test (all_records m))
    ∙ sym (ap (filter (is_match (folded_query q) (at_walk walk))) (all-folded_name m) ∙ filter-map (is_match (folded_query q) (at_walk walk)) test record_core (λ r. match-folded_name q walk r ∙ sym (or_false (is_match q walk r))) (all_records m))
  where
    test : RecordValue → Bool
    test r = is_match q walk r || (false && is_intermediate q r)

found-folded_name : (q : Query) (walk : Walk) (m : MessageValue) → sections (found_message false (first_hop q) walk m) ≡ found_core (folded_query q) (at_walk walk) (folded_message m)
found-folded_name q walk m = by (is_filtered false (first_hop q) walk m) (is_filtered false (first_hop (folded_query q)) (at_walk walk) (folded_message m)) same
  where
    same : is_filtered false (first_hop (folded_query q)) (at_walk walk) (folded_message m) ≡ is_filtered false (first_hop q) walk m
    same =
        let some = some-folded_name (is_led_match (folded_query q) (at_walk walk)) (is_led_match q walk) m (led_match-folded_name q walk) in
        λ i. not true || (some i && not false)

    by : (a b : Bool) → b ≡ a → sections (if a then record m { answers = filtered_answers false (first_hop q) walk m } else m)
        ≡ record {
          answers = if b then filter (is_match (folded_query q) (at_walk walk)) (all_records (folded_message m)) else map record_core m.answers;
          authorities = map record_core m.authorities;
          additionals = map record_core m.additionals;
        }
    by true b e =
        let answers = filtered-folded_name q walk m ∙ sym (ap (λ c. if c then filter (is_match (folded_query q) (at_walk walk)) (all_records (folded_message m)) else map record_core m.answers) e) in
        λ i. record { answers = answers i; authorities = map record_core m.authorities; additionals = map record_core m.additionals }
    by false b e =
        let answers = sym (ap (λ c. if c then filter (is_match (folded_query q) (at_walk walk)) (all_records (folded_message m)) else map record_core m.answers) e) in
        λ i. record { answers = answers i; authorities = map record_core m.authorities; additionals = map record_core m.additionals }

verdict-folded_name : (q : Query) (m : MessageValue) → next_verdict q m (verdict false (first_hop q) m) ≡ answer_core (folded_query q) (folded_message m)
verdict-folded_name q m = by (is_accepted (first_hop q) walk m) (is_accepted (first_hop (folded_query q)) (at_walk walk) (folded_message m)) same (is_empty walk.places) ∙ sym walks
  where
    walk : Walk
    walk = walk_of q m.answers

    walks : answer_core (folded_query q) (folded_message m) ≡ walk_core (folded_query q) (at_walk walk) (folded_message m)
    walks =
        let there = walk_of-folded_name q m.answers in
        λ i. walk_core (folded_query q) (record { places = there.0 i; last = there.1 i; targets = there.2 i; alias_ttls = there.3 i; ttl = 0 }) (folded_message m)

    same : is_accepted (first_hop (folded_query q)) (at_walk walk) (folded_message m) ≡ is_accepted (first_hop q) walk m
    same =
        let some = some-folded_name (is_match (folded_query q) (at_walk walk)) (is_match q walk) m (match-folded_name q walk) in
        let moved = moved-at walk in
        λ i. some i && (not (moved i) || true)

    core_by : Bool → Bool → Next
    core_by accepted nowhere =
        if accepted then Ends (Ok (found_core (folded_query q) (at_walk walk) (folded_message m)))
        else (if nowhere then Ends (Err (no_match_core (folded_query q) (folded_message m))) else LeadsOn (record { name = next_name (at_walk walk); query_type = (folded_query q).query_type; query_class = class.IN }))

    by : (a b : Bool) → b ≡ a → (nowhere : Bool)
        → next_verdict q m (if a then Accepted (found_message false (first_hop q) walk m) else (if nowhere then NoMatch else LeadsTo (next_hop false (first_hop q) walk m))) ≡ core_by b nowhere
    by true b e nowhere = ap (λ f. Ends (Ok f)) (found-folded_name q walk m) ∙ sym (ap (λ c. core_by c nowhere) e)
    by false b e true = ap (λ x. Ends (Err x)) (no_match-folded_name q m) ∙ sym (ap (λ c. core_by c true) e)
    by false b e false = ap (λ n. LeadsOn (record { name = n; query_type = (folded_query q).query_type; query_class = class.IN })) (sym (next-folded_name walk)) ∙ sym (ap (λ c. core_by c false) e)

-- ---- an outcome

outcome-folded_name : (q : Query) (o : OutcomeValue) → next_outcome q o ≡ next_core (folded_query q) (outcome_core o)
outcome-folded_name q (Ok m) = by ((code == 0) || (code == 3)) (m.metadata.truncation || contains_answer m) (m.metadata.truncation || contains_answer (folded_message m)) (ap (λ b. m.metadata.truncation || b) (contains-folded_name m))
  where
    code : ℕ
    code = response_code m.metadata.response_code

    core_by : Bool → Bool → Next
    core_by usual response_to = if usual then (if response_to then answer_core (folded_query q) (folded_message m) else Ends (Err (negative_core_of (folded_message m)))) else Ends (Err (Dns (ResponseCode (response_of code))))

    by : (usual a b : Bool) → b ≡ a → next_class q (if usual then (if a then Answer m else Negative (negative_of m)) else Failed (Dns (ResponseCode m.metadata.response_code))) ≡ core_by usual b
    by true true b e = verdict-folded_name q m ∙ sym (ap (λ c. core_by true c) e)
    by true false b e = ap (λ x. Ends (Err x)) (negative-folded_name m) ∙ sym (ap (λ c. core_by true c) e)
    by false a b e = refl
outcome-folded_name q (Err (Dns (NoRecordsFound n))) = refl
outcome-folded_name q (Err (Dns (ResponseCode code))) = refl
outcome-folded_name q (Err (Message text)) = refl
outcome-folded_name q (Err Timeout) = refl
outcome-folded_name q (Err (Proto error)) = refl
outcome-folded_name q (Err NoOutcome) = refl
outcome-folded_name q (Err (Bounds error)) = refl
outcome-folded_name q (Err OutOfMemory) = refl

-- questions that are equal come to the same by outcomes that agree
pub next-same : (p q : Query) (o u : OutcomeValue) → folded_query p ≡ folded_query q → outcome_core o ≡ outcome_core u → next_outcome p o ≡ next_outcome q u
next-same p q o u e f = outcome-folded_name p o ∙ ap₂ next_core e f ∙ sym (outcome-folded_name q u)
