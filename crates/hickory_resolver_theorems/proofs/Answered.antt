-- What a step answers: answers of its sub-look-ups, or a literal address.
use Rattle.std.proofs.Common.{◌≡◌, ◌⊎◌, ◌≤◌, ℕ, ◌+◌, Bool, true, false, not, ◌||◌, if◌then◌else◌, cond, min, nat_le, List, [], ◌∷◌, ◌++◌, Option, None, Some, Result, Ok, Err, append_assoc, refl, sym, ap, ◌∙◌, subst, arith, inl, inr}
use Rattle.std.specs.List.{AllByRecursion}
use Rattle.std.specs.declared.net.IpAddr.{IpAddr}
use Rattle.hickory_proto_core.specs.Name.{NameValue}
use Rattle.hickory_proto_core.specs.NameGiven.{IsReadAddress}
use Rattle.hickory_proto_core.specs.Codes.{type_code}
use Rattle.hickory_proto_core.specs.Records.{RecordValue, data_of_address}
use Rattle.hickory_proto_core.specs.ResponseKind.{is_empty}
use Rattle.hickory_proto_core.specs.codes.record_type.RecordType.{RecordType}
use Rattle.hickory_proto_core.specs.names.name_error.NameError.{NameError}
use Rattle.hickory_proto_core.specs.declared.net_error.NetError.TheVariants.{OutOfMemory}
use Rattle.hickory_resolver_model.specs.Bounds.{ConfigValue, greatest_ttl}
use Rattle.hickory_resolver_model.specs.Cache.{CacheValue}
use Rattle.hickory_resolver_model.specs.Lookup.{LookupValue, LookupResult}
use Rattle.hickory_resolver_model.specs.Hosts.{append}
use Rattle.hickory_resolver_model.specs.Calls.{SubLookup, SubLookupRelation, FamilyOrder, One, Both, Fallback, has_answers, is_out_of_memory, both_results, next_type, attempt_result, IsAttemptResult, AreSubLookups, results_of, IsAttempt, stops, CallPlan, IsLastReply, Says, AreAttempts, no_name, literal_at_once, last_resort}
use Rattle.hickory_resolver_model.specs.Attempts.{attempts}
use Rattle.hickory_resolver_model.specs.Run.{Settings, RequestValue, Lookup, LookupIp, ClearLookup, Clear, StepReply, LookedUp, LookedUpIp, Cleared, address_plan, Call, AtOnce, Attempt, name_call, address_call, IsCall, IsServed, Stage}
use Rattle.hickory_resolver_theorems.specs.Covered.{Dated, IsCovered, IsLoopback}
use Rattle.hickory_resolver_theorems.specs.Statements.{IsFreshRecord, IsFreshReply, IsFreshSubLookup, IsFreshWhereGiven, IsFreshAnswer, HasFreshAnswers, IsLiteral, AreFreshAnswers}
use Rattle.hickory_resolver_theorems.specs.CallFacts.{IsOwnAnswer}
use Rattle.hickory_resolver_theorems.proofs.Lists.{all-weaker, all-append, all-has, has-all, has-left, has-right, contains-from_recursion, contains-to_recursion, ContainsByRecursion}

-- ---- answers of sub-look-ups

-- a sub-look-up gave this answer, to be used as long or longer
pub record IsGiven (parts : List SubLookup) (deadline : ℕ) (r : RecordValue) : Type 0 where
  part : SubLookup
  found : LookupValue
  is_part : ContainsByRecursion parts part
  result_is : part.result ≡ Ok found
  is_answer : ContainsByRecursion found.message.answers r
  usable : deadline ≤ found.valid_until

abbrev pub AreGiven : List SubLookup → LookupResult → Type 0
AreGiven parts (Ok l) = AllByRecursion (IsGiven parts l.valid_until) l.message.answers
AreGiven parts (Err e) = Unit {0}

given-own : (ps : List SubLookup) (p : SubLookup) → ContainsByRecursion ps p → AreGiven ps p.result
given-own ps p has = by p.result refl
  where
    by : (r : LookupResult) → p.result ≡ r → AreGiven ps r
    by (Ok l) e = has-all (IsGiven ps l.valid_until) l.message.answers (λ r h. record { part = p; found = l; is_part = has; result_is = e; is_answer = h; usable = omega arith })
    by (Err error) e = tt

-- by these sub-look-ups and others behind them, or before them
given-left : (ps qs : List SubLookup) (r : LookupResult) → AreGiven ps r → AreGiven (ps ++ qs) r
given-left ps qs (Ok l) given =
    all-weaker (IsGiven ps l.valid_until) (IsGiven (ps ++ qs) l.valid_until)
    (λ r g. record { part = g.part; found = g.found; is_part = has-left ps qs g.part g.is_part; result_is = g.result_is; is_answer = g.is_answer; usable = g.usable }) l.message.answers given
given-left ps qs (Err e) given = tt

given-right : (ps qs : List SubLookup) (r : LookupResult) → AreGiven qs r → AreGiven (ps ++ qs) r
given-right ps qs (Ok l) given =
    all-weaker (IsGiven qs l.valid_until) (IsGiven (ps ++ qs) l.valid_until)
    (λ r g. record { part = g.part; found = g.found; is_part = has-right ps qs g.part g.is_part; result_is = g.result_is; is_answer = g.is_answer; usable = g.usable }) l.message.answers given
given-right ps qs (Err e) given = tt

-- up to a sooner deadline
given-sooner : (ps : List SubLookup) (later sooner : ℕ) (rs : List RecordValue) → sooner ≤ later → AllByRecursion (IsGiven ps later) rs → AllByRecursion (IsGiven ps sooner) rs
given-sooner ps later sooner rs le given =
    all-weaker (IsGiven ps later) (IsGiven ps sooner)
    (λ r g. record { part = g.part; found = g.found; is_part = g.is_part; result_is = g.result_is; is_answer = g.is_answer; usable = let soon = g.usable in omega (arith, le, soon) }) rs given

given-both : (ps : List SubLookup) (r k : LookupResult) → AreGiven ps r → AreGiven ps k → AreGiven ps (both_results r k)
given-both ps (Ok l) (Ok k) given too =
    all-append (IsGiven ps (min l.valid_until k.valid_until)) l.message.answers k.message.answers
    (given-sooner ps l.valid_until (min l.valid_until k.valid_until) l.message.answers (omega arith) given)
    (given-sooner ps k.valid_until (min l.valid_until k.valid_until) k.message.answers (omega arith) too)
given-both ps (Ok l) (Err e) given too = given
given-both ps (Err e) (Ok k) given too = too
given-both ps (Err e) (Err f) given too = tt

-- ---- an attempt

given-attempt : (plan : FamilyOrder) (ps : List SubLookup) → AreGiven ps (attempt_result plan (results_of ps))
given-attempt plan [] = tt
given-attempt plan (p ∷ []) = given-own (p ∷ []) p (inl refl)
given-attempt (One t) (p ∷ q ∷ qs) = given-own (p ∷ q ∷ qs) q (inr (inl refl))
given-attempt (Fallback t u) (p ∷ q ∷ qs) = given-own (p ∷ q ∷ qs) q (inr (inl refl))
given-attempt (Both t u) (p ∷ q ∷ qs) = by (is_out_of_memory q.result)
  where
    second : AreGiven (p ∷ q ∷ qs) q.result
    second = given-own (p ∷ q ∷ qs) q (inr (inl refl))

    by : (b : Bool) → AreGiven (p ∷ q ∷ qs) (cond b q.result (both_results p.result q.result))
    by true = second
    by false = given-both (p ∷ q ∷ qs) p.result q.result (given-own (p ∷ q ∷ qs) p (inl refl)) second

given-result : (plan : FamilyOrder) (ps : List SubLookup) (r : LookupResult) → IsAttemptResult plan (results_of ps) r → AreGiven ps r
given-result plan ps r (inl (over, e)) = subst (AreGiven ps) (sym e) (given-attempt plan ps)
given-result plan ps r (inr (takes, e)) = subst (AreGiven ps) (sym e) tt

-- ---- how long the sub-look-ups with answers may be used

-- where it has answers, it may be used up to a deadline
abbrev pub IsUsable : ℕ → LookupResult → Type 0
IsUsable deadline r = (l : LookupValue) → r ≡ Ok l → has_answers (Ok l) ≡ true → deadline ≤ l.valid_until

abbrev pub AreUsable : ℕ → List SubLookup → Type 0
AreUsable deadline ps = AllByRecursion (λ p. IsUsable deadline p.result) ps

usable-none : (deadline : ℕ) (r : LookupResult) → has_answers r ≡ false → IsUsable deadline r
usable-none deadline r none l e some = let clash : false ≡ true = sym none ∙ ap has_answers e ∙ some in cc

usable-own : (l : LookupValue) → IsUsable l.valid_until (Ok l)
usable-own l k e some = let same : l ≡ k = cc in omega (arith, ap (λ x. x.valid_until) same)

some-left : (xs ys : List RecordValue) → not (is_empty xs) ≡ true → not (is_empty (xs ++ ys)) ≡ true
some-left [] ys h = cc
some-left (x ∷ xs) ys h = refl

some-right : (xs ys : List RecordValue) → not (is_empty ys) ≡ true → not (is_empty (xs ++ ys)) ≡ true
some-right [] ys h = h
some-right (x ∷ xs) ys h = refl

-- two results made one, which is not out of memory, are each to be used as long as the one
usable-both : (deadline : ℕ) (r k : LookupResult) → is_out_of_memory (if is_out_of_memory k then k else both_results r k) ≡ false → IsUsable deadline (if is_out_of_memory k then k else both_results r k) → IsUsable deadline r × IsUsable deadline k
usable-both deadline (Ok l) (Ok k) live usable = (
  (λ x e some.
      let same : l ≡ x = cc in
      let long : deadline ≤ min l.valid_until k.valid_until = usable (append l k) refl (some-left l.message.answers k.message.answers (subst (λ y. has_answers (Ok y) ≡ true) (sym same) some)) in
      omega (arith, long, ap (λ y. y.valid_until) same)),
  (λ x e some.
      let same : k ≡ x = cc in
      let long : deadline ≤ min l.valid_until k.valid_until = usable (append l k) refl (some-right l.message.answers k.message.answers (subst (λ y. has_answers (Ok y) ≡ true) (sym same) some)) in
      omega (arith, long, ap (λ y. y.valid_until) same)),
)
usable-both deadline (Ok l) (Err e) live usable = (by (is_out_of_memory (Err e)) refl live usable, usable-none deadline (Err e) refl)
  where
    by : (b : Bool) → is_out_of_memory (Err e) ≡ b → is_out_of_memory (cond b (Err e) (Ok l)) ≡ false → IsUsable deadline (cond b (Err e) (Ok l)) → IsUsable deadline (Ok l)
    by true out alive long = let clash : true ≡ false = sym out ∙ alive in cc
    by false out alive long = long
usable-both deadline (Err e) (Ok k) live usable = (usable-none deadline (Err e) refl, usable)
usable-both deadline (Err e) (Err f) live usable = (usable-none deadline (Err e) refl, usable-none deadline (Err f) refl)

-- a second type is looked up only after no answers
fallback-none : (t u v : RecordType) (r : LookupResult) → next_type (Fallback t u) (r ∷ []) ≡ Some v → has_answers r ≡ false
fallback-none t u v r on = by (has_answers r) refl on
  where
    by : (b : Bool) → has_answers r ≡ b → cond (b || is_out_of_memory r) None (Some u) ≡ Some v → has_answers r ≡ false
    by true e k = let clash : None ≡ Some v = k in cc
    by false e k = e

-- the sub-look-ups of an attempt that is not out of memory are each to be used as long as its result
usable-attempt : (Answers : SubLookupRelation) (with_hosts : Bool) (n : NameValue) (plan : FamilyOrder) (deadline : ℕ) (before : CacheValue) (ps : List SubLookup) (after : CacheValue) → AreSubLookups Answers with_hosts n plan before [] ps after
    → is_out_of_memory (attempt_result plan (results_of ps)) ≡ false → IsUsable deadline (attempt_result plan (results_of ps)) → AreUsable deadline ps
usable-attempt Answers with_hosts n plan deadline before [] after are live usable = tt
usable-attempt Answers with_hosts n plan deadline before (p ∷ []) after are live usable = (usable, tt)
usable-attempt Answers with_hosts n (One t) deadline before (p ∷ q ∷ qs) after (a, b, next, is, (v, m, on, second, rest)) live usable = absurd (let clash : None ≡ Some v = on in cc)
usable-attempt Answers with_hosts n (Fallback t u) deadline before (p ∷ q ∷ []) after (a, b, next, is, (v, m, on, second, rest)) live usable =
    (usable-none deadline p.result (fallback-none t u v p.result on), (usable, tt))
usable-attempt Answers with_hosts n (Both t u) deadline before (p ∷ q ∷ []) after are live usable =
    let both = usable-both deadline p.result q.result live usable in
    (both.0, (both.1, tt))
usable-attempt Answers with_hosts n (Fallback t u) deadline before (p ∷ q ∷ x ∷ xs) after (a, b, next, is, (v, m, on, second, (w, k, more, third, rest))) live usable = absurd (let clash : None ≡ Some w = more in cc)
usable-attempt Answers with_hosts n (Both t u) deadline before (p ∷ q ∷ x ∷ xs) after (a, b, next, is, (v, m, on, second, (w, k, more, third, rest))) live usable = absurd (let clash : None ≡ Some w = more in cc)

usable-result : (Answers : SubLookupRelation) (with_hosts : Bool) (before : CacheValue) (n : NameValue) (plan : FamilyOrder) (ps : List SubLookup) (r : LookupResult) (after : CacheValue) (deadline : ℕ) → IsAttempt Answers with_hosts before n plan ps r after
    → is_out_of_memory r ≡ false → IsUsable deadline r → AreUsable deadline ps
usable-result Answers with_hosts before n plan ps r after deadline attempt live usable = by attempt.result_is
  where
    by : IsAttemptResult plan (results_of ps) r → AreUsable deadline ps
    by (inl (over, e)) = usable-attempt Answers with_hosts n plan deadline before ps after attempt.are (subst (λ x. is_out_of_memory x ≡ false) e live) (subst (IsUsable deadline) e usable)
    by (inr (takes, e)) = absurd (let clash : false ≡ true = sym live ∙ ap is_out_of_memory e in cc)

or-false : (a b : Bool) → (a || b) ≡ false → (a ≡ false) × (b ≡ false)
or-false true b h = cc
or-false false b h = (refl, h)

-- the sub-look-ups of a call with an answer are each to be used as long as that
usable-attempts : (Answers : SubLookupRelation) (plan : CallPlan) (with_hosts : Bool) (before : CacheValue) (names : List NameValue) (last : LookupResult → Type 0) (parts : List SubLookup) (reply : LookupResult) (after : CacheValue)
    → AreAttempts Answers plan with_hosts before names last parts reply after → (l : LookupValue) → reply ≡ Ok l → AreUsable l.valid_until parts
usable-attempts Answers plan with_hosts before [] last parts reply after (none, fallback, same) l ok = subst (AreUsable l.valid_until) (sym none) tt
usable-attempts Answers plan with_hosts before (n ∷ ns) last parts reply after (front, back, result, mid, are, attempt, goes) l ok =
    subst (AreUsable l.valid_until) (sym are) (by goes (λ rest. usable-attempts Answers plan plan.hosts_for_all mid ns (λ x. x ≡ result) back reply after rest l ok))
  where
    by : ((stops result ≡ true) × (back ≡ []) × (reply ≡ result) × (after ≡ mid)) ⊎ ((stops result ≡ false) × AreAttempts Answers plan plan.hosts_for_all mid ns (λ x. x ≡ result) back reply after)
        → (AreAttempts Answers plan plan.hosts_for_all mid ns (λ x. x ≡ result) back reply after → AreUsable l.valid_until back) → AreUsable l.valid_until (front ++ back)
    by (inl (stopped, none, e, same)) more =
        let is : Ok l ≡ result = sym ok ∙ e in
        all-append (λ p. IsUsable l.valid_until p.result) front back
        (usable-result Answers with_hosts before n plan.types front result mid l.valid_until attempt (sym (ap is_out_of_memory is)) (subst (IsUsable l.valid_until) is (usable-own l)))
        (subst (AreUsable l.valid_until) (sym none) tt)
    by (inr (live, rest)) more =
        let both = or-false (has_answers result) (is_out_of_memory result) live in
        all-append (λ p. IsUsable l.valid_until p.result) front back
        (usable-result Answers with_hosts before n plan.types front result mid l.valid_until attempt both.1 (usable-none l.valid_until result both.0))
        (more rest)

-- ---- attempts

-- the reply is the literal of the plan, or its answers are given
abbrev IsToldBy : CallPlan → List SubLookup → LookupResult → Type 0
IsToldBy plan parts reply = ((l : LookupValue) × (plan.literal ≡ Some l) × (reply ≡ Ok l)) ⊎ AreGiven parts reply

given-attempts : (Answers : SubLookupRelation) (plan : CallPlan) (with_hosts : Bool) (before : CacheValue) (names : List NameValue) (last : LookupResult → Type 0) (earlier parts : List SubLookup) (reply : LookupResult) (after : CacheValue)
    → ((x : LookupResult) → last x → AreGiven earlier x) → AreAttempts Answers plan with_hosts before names last parts reply after → IsToldBy plan (earlier ++ parts) reply
given-attempts Answers plan with_hosts before [] last earlier parts reply after known (none, fallback, same) = by plan.literal refl fallback
  where
    by : (o : Option LookupValue) → plan.literal ≡ o → IsLastReply o last reply → IsToldBy plan (earlier ++ parts) reply
    by None e is = inr (given-left earlier parts reply (known reply is))
    by (Some l) e (inl is) = inl (l, e, is)
    by (Some l) e (inr out) = inr (subst (AreGiven (earlier ++ parts)) (sym out) tt)
given-attempts Answers plan with_hosts before (n ∷ ns) last earlier parts reply after known (front, back, result, mid, are, attempt, goes) =
    by goes (λ rest. given-attempts Answers plan plan.hosts_for_all mid ns (λ x. x ≡ result) (earlier ++ front) back reply after (λ x e. subst (AreGiven (earlier ++ front)) (sym e) (given-right earlier front result first)) rest)
  where
    first : AreGiven front result
    first = given-result plan.types front result attempt.result_is

    whole : IsToldBy plan (earlier ++ (front ++ back)) reply → IsToldBy plan (earlier ++ parts) reply
    whole told = subst (λ ps. IsToldBy plan (earlier ++ ps) reply) (sym are) told

    by : ((stops result ≡ true) × (back ≡ []) × (reply ≡ result) × (after ≡ mid)) ⊎ ((stops result ≡ false) × AreAttempts Answers plan plan.hosts_for_all mid ns (λ x. x ≡ result) back reply after)
        → (AreAttempts Answers plan plan.hosts_for_all mid ns (λ x. x ≡ result) back reply after → IsToldBy plan ((earlier ++ front) ++ back) reply) → IsToldBy plan (earlier ++ parts) reply
    by (inl (stopped, none, e, same)) more = whole (inr (given-right earlier (front ++ back) reply (given-left front back reply (subst (AreGiven front) (sym e) first))))
    by (inr (live, rest)) more = whole (subst (λ ps. IsToldBy plan ps reply) (append_assoc earlier front back) (more rest))

-- ---- a call

said : (text : List ℕ) (x : LookupResult) → Says text x → AreGiven [] x
said text (Ok l) is = absurd is
said text (Err e) is = tt

-- an answer is a look-up's own, or those of its sub-look-ups; and each of these that has answers may be used as long
abbrev pub IsTold : (LookupValue → Type 0) → List SubLookup → LookupResult → Type 0
IsTold IsOwn parts reply = (l : LookupValue) → reply ≡ Ok l → (IsOwn l ⊎ AreGiven parts (Ok l)) × AreUsable l.valid_until parts

pub told-call : (Answers : SubLookupRelation) (s : Settings) (before : CacheValue) (call : Call) (parts : List SubLookup) (reply : LookupResult) (after : CacheValue)
    → IsCall Answers s before call parts reply after → IsTold (IsOwnAnswer call) parts reply
told-call Answers s before (AtOnce answer) parts reply after (none, e, same) l ok = (inl (sym e ∙ ok), subst (AreUsable l.valid_until) (sym none) tt)
told-call Answers s before (Attempt n plan) parts reply after is l ok = (
  by (given-attempts Answers plan true before (attempts s.search n) (Says plan.no_names) [] parts reply after (said plan.no_names) is),
  usable-attempts Answers plan true before (attempts s.search n) (Says plan.no_names) parts reply after is l ok,
)
  where
    by : IsToldBy plan parts reply → (plan.literal ≡ Some l) ⊎ AreGiven parts (Ok l)
    by (inl (k, e, is)) = inl (let same : k ≡ l = cc in e ∙ ap Some same)
    by (inr given) = inr (subst (AreGiven parts) ok given)

pub told-unserved : (IsOwn : LookupValue → Type 0) (parts : List SubLookup) (reply : LookupResult) → reply ≡ Err OutOfMemory → IsTold IsOwn parts reply
told-unserved IsOwn parts reply e l ok = absurd (let clash : Err OutOfMemory ≡ Ok l = sym e ∙ ok in cc)

-- ---- a request

told-weaker : (IsOwn IsOther : LookupValue → Type 0) (parts : List SubLookup) (reply : LookupResult) → ((l : LookupValue) → IsOwn l → IsOther l) → IsTold IsOwn parts reply → IsTold IsOther parts reply
told-weaker IsOwn IsOther parts reply weaker is l ok = let there = is l ok in (by there.0, there.1)
  where
    by : IsOwn l ⊎ AreGiven parts (Ok l) → IsOther l ⊎ AreGiven parts (Ok l)
    by (inl own) = inl (weaker l own)
    by (inr given) = inr given

-- a look-up of a name answers nothing by itself
own-name : (request : RequestValue) (t : RecordType) (name : Result NameValue NameError) (l : LookupValue) → IsOwnAnswer (name_call t name) l → IsLiteral request l
own-name request t (Ok n) l own = absurd (let clash : None ≡ Some l = own in cc)
own-name request t (Err fault) l own = cc

-- one of addresses, what its text spells
own-addresses : (s : Settings) (text : List ℕ) (now : ℕ) (address : Option IpAddr) (name : Result NameValue NameError) → IsReadAddress text address → (l : LookupValue) → IsOwnAnswer (address_call s address name now) l → IsLiteral (LookupIp text now) l
own-addresses s text now None (Ok n) read l own = absurd (let clash : None ≡ Some l = own in cc)
own-addresses s text now None (Err fault) read l own = cc
own-addresses s text now (Some address) (Err fault) read l own = (address, read, inr (no_name, (let is : l ≡ literal_at_once no_name address now = cc in is)))
own-addresses s text now (Some address) (Ok n) read l own = by (nat_le s.search.ndots 4) own
  where
    by : (b : Bool) → IsOwnAnswer (cond b (AtOnce (Ok (literal_at_once n address now))) (Attempt n (address_plan s.strategy (Some (last_resort (data_of_address address) now))))) l → IsLiteral (LookupIp text now) l
    by true e = (address, read, inr (n, (let is : l ≡ literal_at_once n address now = cc in is)))
    by false e = (address, read, inl (let is : l ≡ last_resort (data_of_address address) now = cc in is))

told : (Answers : ℕ → SubLookupRelation) (s : Settings) (before : CacheValue) (request : RequestValue) (parts : List SubLookup) (reply : LookupResult) (after : CacheValue) → IsServed Answers s before request parts (LookedUp reply) after → IsTold (IsLiteral request) parts reply
told Answers s before (Lookup text t now) parts reply after (inl (name, read, is)) =
    told-weaker (IsOwnAnswer (name_call t name)) (IsLiteral (Lookup text t now)) parts reply (own-name (Lookup text t now) t name) (told-call (Answers now) s before (name_call t name) parts reply after is)
told Answers s before (Lookup text t now) parts reply after (inr (none, e, same)) = told-unserved (IsLiteral (Lookup text t now)) parts reply e
told Answers s before (LookupIp text now) parts reply after is = absurd is
told Answers s before (ClearLookup text t now) parts reply after is = absurd is
told Answers s before (Clear now) parts reply after is = absurd is

told-ip : (Answers : ℕ → SubLookupRelation) (s : Settings) (before : CacheValue) (request : RequestValue) (parts : List SubLookup) (reply : LookupResult) (after : CacheValue) → IsServed Answers s before request parts (LookedUpIp reply) after → IsTold (IsLiteral request) parts reply
told-ip Answers s before (Lookup text t now) parts reply after is = absurd is
told-ip Answers s before (LookupIp text now) parts reply after (inl (given, (address, name), is)) =
    told-weaker (IsOwnAnswer (address_call s given.address given.name now)) (IsLiteral (LookupIp text now)) parts reply (own-addresses s text now given.address given.name address)
    (told-call (Answers now) s before (address_call s given.address given.name now) parts reply after is)
told-ip Answers s before (LookupIp text now) parts reply after (inr (none, e, same)) = told-unserved (IsLiteral (LookupIp text now)) parts reply e
told-ip Answers s before (ClearLookup text t now) parts reply after is = absurd is
told-ip Answers s before (Clear now) parts reply after is = absurd is

-- ---- fresh answers

some-has : (xs : List RecordValue) (r : RecordValue) → ContainsByRecursion xs r → not (is_empty xs) ≡ true
some-has [] r h = absurd h
some-has (x ∷ xs) r h = refl

-- a record that a fresh sub-look-up gave is fresh as long as that may be used, and so up to a sooner deadline
fresh-where_given : (config : ConfigValue) (sources : ℕ → List Dated) (now deadline : ℕ) (r : RecordValue) (p : SubLookup) → IsFreshSubLookup config sources now p → IsUsable deadline p.result → IsFreshWhereGiven config sources now deadline r p
fresh-where_given config sources now deadline r p fresh usable client (found, is, has) zero = λ same. sooner (there same)
  where
    code : ℕ
    code = type_code p.question.query_type

    inside : ContainsByRecursion found.message.answers r
    inside = contains-to_recursion found.message.answers r has

    there : IsFreshRecord config (sources code) code now found.valid_until r
    there = all-has (IsFreshRecord config (sources code) code now found.valid_until) found.message.answers r (subst (IsFreshReply config (sources code) code now) is (fresh client zero)) inside

    soon : deadline ≤ found.valid_until
    soon = usable found is (some-has found.message.answers r inside)

    sooner : IsLoopback r ⊎ (IsCovered config (sources code) now r × (r.ttl ≤ greatest_ttl config code) × (found.valid_until ≤ now + r.ttl)) → IsLoopback r ⊎ (IsCovered config (sources code) now r × (r.ttl ≤ greatest_ttl config code) × (deadline ≤ now + r.ttl))
    sooner (inl loop) = inl loop
    sooner (inr (covered, short, live)) = inr (covered, short, omega (arith, soon, live))

all-fresh : (config : ConfigValue) (sources : ℕ → List Dated) (now deadline : ℕ) (r : RecordValue) (ps : List SubLookup) → AllByRecursion (IsFreshSubLookup config sources now) ps → AreUsable deadline ps → AllByRecursion (IsFreshWhereGiven config sources now deadline r) ps
all-fresh config sources now deadline r [] fresh usable = tt
all-fresh config sources now deadline r (p ∷ ps) (first, rest) (long, longs) = (fresh-where_given config sources now deadline r p first long, all-fresh config sources now deadline r ps rest longs)

-- the answers of a look-up over sub-look-ups that are fresh
pub has-fresh : (IsOwn : LookupValue → Type 0) (config : ConfigValue) (sources : ℕ → List Dated) (now : ℕ) (parts : List SubLookup) (reply : LookupResult) → AllByRecursion (IsFreshSubLookup config sources now) parts → IsTold IsOwn parts reply → HasFreshAnswers IsOwn config sources now parts reply
has-fresh IsOwn config sources now parts (Ok l) all is = by there.0
  where
    there : (IsOwn l ⊎ AreGiven parts (Ok l)) × AreUsable l.valid_until parts
    there = is l refl

    answer : (r : RecordValue) → IsGiven parts l.valid_until r → IsFreshAnswer config sources now parts l.valid_until r
    answer r g = record {
      part = g.part;
      found = g.found;
      is_part = contains-from_recursion parts g.part g.is_part;
      result_is = g.result_is;
      is_answer = contains-from_recursion g.found.message.answers r g.is_answer;
      usable = g.usable;
      fresh = all-fresh config sources now l.valid_until r parts all there.1;
    }

    by : IsOwn l ⊎ AreGiven parts (Ok l) → HasFreshAnswers IsOwn config sources now parts (Ok l)
    by (inl own) = inl own
    by (inr given) = inr (all-weaker (IsGiven parts l.valid_until) (IsFreshAnswer config sources now parts l.valid_until) answer l.message.answers given)
has-fresh IsOwn config sources now parts (Err e) all is = tt

-- and of a step
pub fresh-answers : (Answers : ℕ → SubLookupRelation) (s : Settings) (config : ConfigValue) (sources : List Dated) (stage : Stage) (reply : StepReply) (after : CacheValue) → AllByRecursion (IsFreshSubLookup config (λ code. sources) stage.step.now) stage.parts
    → IsServed Answers s stage.before stage.request stage.parts reply after → AreFreshAnswers config sources stage reply
fresh-answers Answers s config sources stage (LookedUp reply) after all is = has-fresh (IsLiteral stage.request) config (λ code. sources) stage.step.now stage.parts reply all (told Answers s stage.before stage.request stage.parts reply after is)
fresh-answers Answers s config sources stage (LookedUpIp reply) after all is = has-fresh (IsLiteral stage.request) config (λ code. sources) stage.step.now stage.parts reply all (told-ip Answers s stage.before stage.request stage.parts reply after is)
fresh-answers Answers s config sources stage (Cleared done) after all is = tt
