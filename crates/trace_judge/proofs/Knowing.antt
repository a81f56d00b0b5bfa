-- What is known of a record or a denial, by the index.
use Rattle.std.proofs.Common.{◌≡◌, ◌+◌, ◌-◌, ◌≤◌, ℕ, Bool, true, false, ◌&&◌, ◌||◌, cond, fold, max, nat_le, not, List, [], ◌∷◌, Option, None, Some, refl, ap, sym, ◌∙◌, arith}
use Rattle.std.specs.List.{list_any}
use Rattle.std.proofs.lemmas.Bool.{le-leb, leb-true}
use Rattle.std.proofs.lemmas.Bool.Decides.{nat_tests}
use Rattle.hickory_proto_core.specs.Records.{RecordValue}
use Rattle.hickory_proto_core.specs.codes.dns_class.DNSClass.{DNSClass}
use Rattle.hickory_proto_core.specs.Name.{NameValue}
use Rattle.hickory_proto_core.specs.declared.query.Query.{Query}
use Rattle.trace_judge.specs.Asks.{is_ask_from, was_asked_after, was_asked_since}
use Rattle.trace_judge.specs.Denials.{covers, covers_until, denial_deadline, last_denial, last_name, was_denial_allowed, was_denied}
use Rattle.trace_judge.specs.Evidence.{EvidenceValue}
use Rattle.trace_judge.specs.Index.{IndexValue, Stands, denied_at, is_reaching, is_since, last_from, latest_at, moment_since, reaches, seen_at, tried_in}
use Rattle.trace_judge.specs.Receptions.{deadline, grace, had_ttl, is_same_record, last_deadline, question_of, reach, was_allowed, was_received}
use Rattle.trace_judge.specs.RecordKeys.{KeyValue, record_key}
use Rattle.trace_judge.specs.Findings.{denial_facts_of, denial_reach, facts_of}
use Rattle.trace_judge.specs.Replies.{ReplyValue}
use Rattle.trace_judge.specs.Trace.{milliseconds_of}
use Rattle.trace_judge.specs.declared.asks.Ask.{Ask}
use Rattle.trace_judge.specs.declared.event.Moment.{Moment}
use Rattle.trace_judge.specs.declared.facts.DenialFacts.{DenialFacts}
use Rattle.trace_judge.specs.declared.facts.Facts.{Facts}
use Rattle.trace_judge.specs.declared.denials.Denial.{Denial}
use Rattle.trace_judge.specs.declared.denials.Denied.{Denied}
use Rattle.trace_judge.specs.declared.receptions.Reception.{Reception}
use Rattle.trace_judge.proofs.Leads.{SeenAlike}
use Rattle.trace_judge.proofs.Tests.{any-or, any_same, le_max}

-- numbers are the same where the same numbers are below them
pub same_numbers : (m n : ℕ) → ((u : ℕ) → nat_le u m ≡ nat_le u n) → m ≡ n
same_numbers m n same =
    let a : m ≤ n = leb-true m n (sym (same m) ∙ le-leb m m (omega arith)) in
    let b : n ≤ m = leb-true n m (same n ∙ le-leb n n (omega arith)) in
    omega arith

-- the greatest number of those that pass a test
abbrev best : {X : Type 0} → (X → Bool) → (X → ℕ) → ℕ → List X → ℕ
best f d from xs = fold (λ a x. cond (f x) (max a (d x)) a) from xs

best-reach : {X : Type 0} (f : X → Bool) (d : X → ℕ) (from : ℕ) (xs : List X) (u : ℕ)
    → nat_le u (best f d from xs) ≡ (nat_le u from || list_any (λ x. f x && nat_le u (d x)) xs)
best-reach f d from [] u = none (nat_le u from) where
  none : (b : Bool) → b ≡ (b || false)
  none true = refl
  none false = refl
best-reach f d from (x ∷ xs) u =
    best-reach f d (cond (f x) (max from (d x)) from) xs u
    ∙ ap (λ b. b || list_any (λ y. f y && nat_le u (d y)) xs) (step (f x))
    ∙ assoc (nat_le u from) (f x && nat_le u (d x)) (list_any (λ y. f y && nat_le u (d y)) xs) where
      step : (b : Bool) → nat_le u (cond b (max from (d x)) from) ≡ (nat_le u from || (b && nat_le u (d x)))
      step true = le_max u from (d x)
      step false = none (nat_le u from) where
        none : (b : Bool) → b ≡ (b || false)
        none true = refl
        none false = refl

      assoc : (a b c : Bool) → ((a || b) || c) ≡ (a || (b || c))
      assoc true b c = refl
      assoc false b c = refl

-- ---- a record

any_reach : (b : Bool) (r : Reception) → b ≡ (b && (nat_le 0 (deadline r) && nat_le 0 r.found.ttl))
any_reach true r = grind (arith, nat_tests)
any_reach false r = refl

pub received_known : (before : ℕ) (rs : List Reception) (seen : List (KeyValue × List Reception)) → SeenAlike before rs seen
    → (told : RecordValue) → reaches told before 0 (seen_at seen (record_key told)) ≡ was_received rs told
received_known before rs seen same told =
    let from : before ≡ max 0 before = omega arith in
    ap (λ n. reaches told n 0 (seen_at seen (record_key told))) from ∙ sym (same told 0 0)
    ∙ sym (any_same (λ r. is_same_record r.found told) (is_reaching told 0 0) rs (λ r. any_reach (is_same_record r.found told) r))

late : (b : Bool) (slack until : ℕ) (r : Reception)
    → (b && nat_le until (deadline r + grace slack)) ≡ (b && (nat_le (until - grace slack) (deadline r) && nat_le 0 r.found.ttl))
late true slack until r = grind (arith, nat_tests)
late false slack until r = refl

pub allowed_known : (slack until before : ℕ) (rs : List Reception) (seen : List (KeyValue × List Reception)) → SeenAlike before rs seen
    → (told : RecordValue) → reaches told (max (until - grace slack) before) 0 (seen_at seen (record_key told)) ≡ was_allowed slack rs until told
allowed_known slack until before rs seen same told =
    sym (same told (until - grace slack) 0)
    ∙ sym (any_same (λ r. is_same_record r.found told && nat_le until (deadline r + grace slack))
    (is_reaching told (until - grace slack) 0) rs (λ r. late (is_same_record r.found told) slack until r))

ttl_reach : (b : Bool) (slack ttl : ℕ) (r : Reception)
    → (b && nat_le ttl (r.found.ttl + slack)) ≡ (b && (nat_le 0 (deadline r) && nat_le (ttl - slack) r.found.ttl))
ttl_reach true slack ttl r = grind (arith, nat_tests)
ttl_reach false slack ttl r = refl

pub ttl_known : (slack before : ℕ) (rs : List Reception) (seen : List (KeyValue × List Reception)) → SeenAlike before rs seen
    → (told : RecordValue) → reaches told before (told.ttl - slack) (seen_at seen (record_key told)) ≡ had_ttl slack rs told
ttl_known slack before rs seen same told =
    let from : before ≡ max 0 before = omega arith in
    ap (λ n. reaches told n (told.ttl - slack) (seen_at seen (record_key told))) from ∙ sym (same told 0 (told.ttl - slack))
    ∙ sym (any_same (λ r. is_same_record r.found told && nat_le told.ttl (r.found.ttl + slack))
    (is_reaching told 0 (told.ttl - slack)) rs (λ r. ttl_reach (is_same_record r.found told) slack told.ttl r))

until_reach : (b : Bool) (u : ℕ) (r : Reception) → (b && nat_le u (deadline r)) ≡ (b && (nat_le u (deadline r) && nat_le 0 r.found.ttl))
until_reach true u r = grind (arith, nat_tests)
until_reach false u r = refl

from_reach : (b : Bool) (before u : ℕ) (r : Reception)
    → (b && (nat_le (max u before) (deadline r) && nat_le 0 r.found.ttl)) ≡ ((b && nat_le before (deadline r)) && nat_le u (deadline r))
from_reach true before u r = grind (arith, nat_tests)
from_reach false before u r = refl

pub deadline_known : (before : ℕ) (rs : List Reception) (seen : List (KeyValue × List Reception)) → SeenAlike before rs seen
    → (told : RecordValue) → last_from before told (seen_at seen (record_key told)) ≡ last_deadline rs told
deadline_known before rs seen same told =
    let near = seen_at seen (record_key told) in
    sym (same_numbers (last_deadline rs told) (last_from before told near) (λ u.
    best-reach (λ r. is_same_record r.found told) deadline 0 rs u
    ∙ ap (λ b. nat_le u 0 || b)
    (any_same (λ r. is_same_record r.found told && nat_le u (deadline r)) (is_reaching told u 0) rs (λ r. until_reach (is_same_record r.found told) u r)
    ∙ same told u 0
    ∙ any_same (is_reaching told (max u before) 0) (λ r. (is_same_record r.found told && nat_le before (deadline r)) && nat_le u (deadline r)) near
    (λ r. from_reach (is_same_record r.found told) before u r))
    ∙ sym (best-reach (λ r. is_same_record r.found told && nat_le before (deadline r)) deadline 0 near u)))

abbrev NotedAlike : ℕ → List Ask → List (Query × ℕ) → Type 0
NotedAlike before among moments =
    (q : Query) (since : ℕ) → list_any (is_ask_from q since) among ≡ is_since (max since before) (latest_at moments q)

pub asked_known : (before : ℕ) (among : List Ask) (moments : List (Query × ℕ)) → NotedAlike before among moments
    → (since : ℕ) (q : Query) (told : RecordValue)
    → (is_since (max since before) (latest_at moments q) || is_since (max since before) (latest_at moments (question_of told)))
    ≡ was_asked_since among since q told
asked_known before among moments same since q told =
    ap (λ b. b || is_since (max since before) (latest_at moments (question_of told))) (sym (same q since))
    ∙ ap (λ b. list_any (is_ask_from q since) among || b) (sym (same (question_of told) since))
    ∙ sym (any-or (is_ask_from q since) (is_ask_from (question_of told) since) among)

pub tried_known : (e : EvidenceValue) (i : IndexValue) → Stands e i → (moment : ℕ) (q : Query) (told : RecordValue)
    → tried_in i moment q (question_of told)
    ≡ (was_asked_since e.asks moment q told && not (was_asked_after e.answers moment q told))
tried_known e i s moment q told =
    ap (λ b. b && not (is_since (max (moment + 1) i.oldest) (latest_at i.answered q) || is_since (max (moment + 1) i.oldest) (latest_at i.answered (question_of told))))
    (asked_known i.oldest e.asks i.asked s.asked_are moment q told)
    ∙ ap (λ b. was_asked_since e.asks moment q told && not b) (asked_known i.oldest e.answers i.answered s.answered_are (moment + 1) q told)

-- what is known of a record by the index is what is known by all that was received
pub facts_known : (e : EvidenceValue) (i : IndexValue) → Stands e i → (now : Moment) (q : Query) (told : RecordValue) (f : Facts)
    → f.received ≡ reaches told i.oldest 0 (seen_at i.seen (record_key told))
    → f.allowed ≡ reaches told (max (reach (milliseconds_of now) told.ttl - grace i.slack) i.oldest) 0 (seen_at i.seen (record_key told))
    → f.had_ttl ≡ reaches told i.oldest (told.ttl - i.slack) (seen_at i.seen (record_key told))
    → f.deadline ≡ last_from i.oldest told (seen_at i.seen (record_key told))
    → f.tried ≡ tried_in i f.deadline q (question_of told)
    → f ≡ facts_of e now q told
facts_known e i s now q told f received allowed ttl last tried =
    let deadline_is : f.deadline ≡ last_deadline e.received told
    = last ∙ deadline_known i.oldest e.received i.seen s.seen_are told in
    let received_is : f.received ≡ was_received e.received told
    = received ∙ received_known i.oldest e.received i.seen s.seen_are told in
    let until = reach (milliseconds_of now) told.ttl in
    let allowed_is : f.allowed ≡ was_allowed e.slack e.received until told
    = allowed ∙ allowed_known i.slack until i.oldest e.received i.seen s.seen_are told
    ∙ ap (λ n. was_allowed n e.received until told) s.slack_is in
    let ttl_is : f.had_ttl ≡ had_ttl e.slack e.received told
    = ttl ∙ ttl_known i.slack i.oldest e.received i.seen s.seen_are told ∙ ap (λ n. had_ttl n e.received told) s.slack_is in
    let tried_is : f.tried ≡ (was_asked_since e.asks (last_deadline e.received told) q told
    && not (was_asked_after e.answers (last_deadline e.received told) q told))
    = tried ∙ tried_known e i s f.deadline q told
    ∙ ap (λ n. was_asked_since e.asks n q told && not (was_asked_after e.answers n q told)) deadline_is in
    λ k. record { received = received_is k; allowed = allowed_is k; had_ttl = ttl_is k; deadline = deadline_is k; tried = tried_is k }

-- ---- a denial

abbrev DeniedAlike : ℕ → DNSClass → NameValue → Denied → List Denial → Option ℕ → Type 0
DeniedAlike before class name denied ds latest =
    (until : ℕ) → list_any (covers_until class name denied until) ds ≡ is_since (max until before) latest

any_denial : (b : Bool) (n : ℕ) → b ≡ (b && nat_le 0 n)
any_denial true n = grind (arith, nat_tests)
any_denial false n = refl

pub denied_known : (before : ℕ) (class : DNSClass) (name : NameValue) (denied : Denied) (ds : List Denial) (latest : Option ℕ)
    → DeniedAlike before class name denied ds latest → is_since before latest ≡ was_denied ds class name denied
denied_known before class name denied ds latest same =
    let from : before ≡ max 0 before = omega arith in
    ap (λ n. is_since n latest) from ∙ sym (same 0)
    ∙ sym (any_same (covers class name denied) (covers_until class name denied 0) ds (λ d. any_denial (covers class name denied d) (denial_deadline d)))

late_denial : (b : Bool) (slack until n : ℕ) → (b && nat_le until (n + grace slack)) ≡ (b && nat_le (until - grace slack) n)
late_denial true slack until n = grind (arith, nat_tests)
late_denial false slack until n = refl

pub denial_allowed_known : (slack until before : ℕ) (class : DNSClass) (name : NameValue) (denied : Denied) (ds : List Denial) (latest : Option ℕ)
    → DeniedAlike before class name denied ds latest
    → is_since (max (until - grace slack) before) latest ≡ was_denial_allowed slack ds until class name denied
denial_allowed_known slack until before class name denied ds latest same =
    sym (same (until - grace slack))
    ∙ sym (any_same (λ d. covers class name denied d && nat_le until (denial_deadline d + grace slack))
    (covers_until class name denied (until - grace slack)) ds
    (λ d. late_denial (covers class name denied d) slack until (denial_deadline d)))

moment-reach : (before u : ℕ) (latest : Option ℕ) → nat_le u (moment_since before latest) ≡ (nat_le u 0 || is_since (max u before) latest)
moment-reach before u None = none (nat_le u 0) where
  none : (b : Bool) → b ≡ (b || false)
  none true = refl
  none false = refl
moment-reach before u (Some m) = grind (arith, nat_tests)

pub denial_deadline_known : (before : ℕ) (class : DNSClass) (name : NameValue) (denied : Denied) (ds : List Denial) (latest : Option ℕ)
    → DeniedAlike before class name denied ds latest → moment_since before latest ≡ last_denial ds class name denied
denial_deadline_known before class name denied ds latest same =
    same_numbers (moment_since before latest) (last_denial ds class name denied) (λ u.
    moment-reach before u latest ∙ ap (λ b. nat_le u 0 || b) (sym (same u))
    ∙ sym (best-reach (covers class name denied) denial_deadline 0 ds u))

pub denial_facts_known : (e : EvidenceValue) (i : IndexValue) → Stands e i → (now : Moment) (reply : ReplyValue) (denied : Denied) (f : DenialFacts)
    → (latest : Option ℕ) → latest ≡ denied_at i.denied reply.query.query_class (last_name reply.query reply.answers) denied
    → f.denied ≡ is_since i.oldest latest
    → f.allowed ≡ is_since (max (denial_reach now reply - grace i.slack) i.oldest) latest
    → f.deadline ≡ moment_since i.oldest latest
    → f ≡ denial_facts_of e now reply denied
denial_facts_known e i s now reply denied f latest is known allowed last =
    let class = reply.query.query_class in let name = last_name reply.query reply.answers in
    let same : DeniedAlike i.oldest class name denied e.denied latest
    = λ until. s.denied_are class name denied until ∙ ap (is_since (max until i.oldest)) (sym is) in
    let denied_is : f.denied ≡ was_denied e.denied class name denied
    = known ∙ denied_known i.oldest class name denied e.denied latest same in
    let allowed_is : f.allowed ≡ was_denial_allowed e.slack e.denied (denial_reach now reply) class name denied
    = allowed ∙ denial_allowed_known i.slack (denial_reach now reply) i.oldest class name denied e.denied latest same
    ∙ ap (λ n. was_denial_allowed n e.denied (denial_reach now reply) class name denied) s.slack_is in
    let deadline_is : f.deadline ≡ last_denial e.denied class name denied
    = last ∙ denial_deadline_known i.oldest class name denied e.denied latest same in
    λ k. record { denied = denied_is k; allowed = allowed_is k; deadline = deadline_is k }
