-- A request has one cacheless reply, times and out of memory aside.
use Rattle.std.proofs.Common.{◌≡◌, ◌⊎◌, ℕ, Bool, true, false, cond, not, ◌||◌, List, [], ◌∷◌, ◌++◌, map, length, Option, None, Some, Result, Ok, Err, arith, length-append, refl, sym, ap, ap₂, ◌∙◌, subst, inl, inr}
use Rattle.std.specs.Prelude.{option_and_then, codes, find, filter}
use Rattle.std.proofs.lemmas.List.{map-append}
use Rattle.std.specs.Net.Addr.{is_ipv6}
use Rattle.std.specs.declared.net.IpAddr.{IpAddr}
use Rattle.std.specs.declared.net.IpAddr.TheVariants.{V4, V6}
use Rattle.std.proofs.NetLemmas.Theorems.{IsIpText_unique}
use Rattle.hickory_proto_names.proofs.NameOnce.{text_is_unambiguous}
use Rattle.hickory_proto_names.proofs.ArpaNames.{name_parts}
use Rattle.hickory_proto_names.proofs.ArpaNets.{net_unique}
use Rattle.hickory_proto_core.specs.Name.{NameValue}
use Rattle.hickory_proto_core.specs.NameDecided.{IsReading, is_text_name}
use Rattle.hickory_proto_core.specs.NameGiven.{IsReadAddress}
use Rattle.hickory_proto_core.specs.Arpa.{IsArpaNameOf, arpa_zone, net_labels}
use Rattle.hickory_proto_core.specs.names.ip.IpNet.{IpNet}
use Rattle.hickory_proto_core.specs.Records.{DataValue, data_of_address}
use Rattle.hickory_proto_core.specs.ResponseKind.{is_empty, asks_for}
use Rattle.hickory_proto_core.specs.Table.{TableValue}
use Rattle.hickory_proto_core.specs.declared.query.Query.{Query}
use Rattle.hickory_proto_core.specs.codes.record_type.RecordType.TheVariants as type
use Rattle.hickory_proto_core.specs.names.name_error.NameError.{NameError}
use Rattle.hickory_proto_core.specs.declared.net_error.NetError.TheVariants.{OutOfMemory}
use Rattle.hickory_resolver_model.specs.Cache.{CacheValue}
use Rattle.hickory_resolver_model.specs.Lookup.{LookupValue, LookupResult, question_of}
use Rattle.hickory_resolver_model.specs.Hosts.{Host, as_fqdn, family, is_host, has_address, pointers, pointer_lookup, StandsFor, static_answer, HostsHave, NotInHosts}
use Rattle.hickory_resolver_model.specs.Calls.{CallContext, SubLookup, FamilyOrder, One, Both, Fallback, has_answers, is_out_of_memory, both_results, next_type, attempt_result, IsAttemptResult, AreSubLookups, results_of, IsAttempt, IsAnsweredByHosts, stops, CallPlan, IsLastReply, Says, AreAttempts}
use Rattle.hickory_resolver_model.specs.Attempts.{attempts}
use Rattle.hickory_resolver_model.specs.Run.{Settings, call_context_at, RequestValue, Lookup, LookupIp, ClearLookup, Clear, LookedUp, LookedUpIp, Call, AtOnce, Attempt, name_call, address_call, IsCall}
use Rattle.hickory_resolver_theorems.specs.AttemptLaws.{some_attempt}
use Rattle.hickory_resolver_theorems.specs.Cores.{ReplyCore, sections, reply_core, record_core}
use Rattle.hickory_resolver_theorems.specs.Statements.{IsCachelessSubLookup, CachelessSubLookup, IsOneCachelessBy, IsOneCacheless}
use Rattle.hickory_resolver_theorems.proofs.Meanings.{means-one}

-- ---- readings

same-name : (text : List ℕ) (m n : Result NameValue NameError) → IsReading text m → IsReading text n → m ≡ n
same-name text m n h k = is_text_name text m (text_is_unambiguous text) h ∙ sym (is_text_name text n (text_is_unambiguous text) k)

same-address : (text : List ℕ) (x y : Option IpAddr) → IsReadAddress text x → IsReadAddress text y → x ≡ y
same-address text None None h k = refl
same-address text None (Some b) h k = absurd (h b k)
same-address text (Some a) None h k = absurd (k a h)
same-address text (Some a) (Some b) h k = ap Some (IsIpText_unique text a b h k)

-- ---- the table of hosts

two_last : {A : Type 0} (xs ys : List A) (a b c d : A) → xs ++ a ∷ b ∷ [] ≡ ys ++ c ∷ d ∷ [] → (xs ≡ ys) × (a ≡ c)
two_last [] [] a b c d e = (refl, cc)
two_last [] (y ∷ ys) a b c d e = absurd (omega (arith, ap length e, length-append ys (c ∷ d ∷ [])))
two_last (x ∷ xs) [] a b c d e = absurd (omega (arith, ap length e, length-append xs (a ∷ b ∷ [])))
two_last (x ∷ xs) (y ∷ ys) a b c d e =
    let heads : x ≡ y = cc in
    let tails : xs ++ a ∷ b ∷ [] ≡ ys ++ c ∷ d ∷ [] = cc in
    let rest = two_last xs ys a b c d tails in
    (ap₂ (λ u us. u ∷ us) heads rest.0, rest.1)

-- the label before `arpa`
abbrev zone : Bool → List ℕ
zone false = codes "in-addr"
zone true = codes "ip6"

zone-of : (a : IpAddr) → arpa_zone a ≡ zone (is_ipv6 a) ∷ codes "arpa" ∷ []
zone-of (V4 a) = refl
zone-of (V6 a) = refl

same-family : (f g : Bool) → zone f ≡ zone g → f ≡ g
same-family false false e = refl
same-family true true e = refl
same-family false true e = absurd (cc)
same-family true false e = absurd (cc)

same-net : (n : NameValue) (a b : IpNet) → IsArpaNameOf n a → IsArpaNameOf n b → a ≡ b
same-net n a b h k =
    let ends = two_last (net_labels a) (net_labels b) (zone (is_ipv6 a.addr)) (codes "arpa") (zone (is_ipv6 b.addr)) (codes "arpa")
    (ap (λ z. net_labels a ++ z) (sym (zone-of a.addr)) ∙ sym (name_parts n a h).1 ∙ (name_parts n b k).1 ∙ ap (λ z. net_labels b ++ z) (zone-of b.addr)) in
    net_unique a b h.0 k.0 (same-family (is_ipv6 a.addr) (is_ipv6 b.addr) ends.1) ends.0

same-stands : (n : NameValue) (x y : Option DataValue) → StandsFor n x → StandsFor n y → x ≡ y
same-stands n None None h k = refl
same-stands n None (Some d) h (net, is, e) = absurd (h net is)
same-stands n (Some c) None (net, is, e) k = absurd (k net is)
same-stands n (Some c) (Some d) (net, is, e) (other, too, f) = ap Some (e ∙ ap (λ x. data_of_address x.addr) (same-net n net other is too) ∙ sym f)

same-hosts : (q : Query) (now : ℕ) (hosts : List Host) (a b : Option LookupValue) → HostsHave q now hosts a → HostsHave q now hosts b → a ≡ b
same-hosts q now hosts a b (x, h, e) (y, k, f) = e ∙ by (asks_for type.PTR q) refl ∙ sym f
  where
    n : NameValue
    n = as_fqdn q.name

    among : Option DataValue → Bool → Option LookupValue
    among o ptr = cond (asks_for type.A q || asks_for type.AAAA q) (option_and_then (family q.query_type) (find (is_host n) hosts)) (cond ptr (option_and_then (λ d. pointer_lookup q (pointers n (filter (has_address d) hosts)) now) o) None)

    by : (p : Bool) → asks_for type.PTR q ≡ p → static_answer x q now hosts ≡ static_answer y q now hosts
    by true is = ap (λ o. static_answer o q now hosts) (same-stands n x y (h is) (k is))
    by false is = ap (among x) is ∙ sym (ap (among y) is)

-- ---- what replies come to

abbrev Same : LookupResult → LookupResult → Type 0
Same a b = reply_core a ≡ reply_core b

empty-map : {A B : Type 0} (f : A → B) (xs : List A) → is_empty (map f xs) ≡ is_empty xs
empty-map f [] = refl
empty-map f (x ∷ xs) = refl

abbrev core_answers : ReplyCore → Bool
core_answers (Ok s) = not (is_empty s.answers)
core_answers (Err e) = false

core-answers : (r : LookupResult) → core_answers (reply_core r) ≡ has_answers r
core-answers (Ok l) = ap not (empty-map record_core l.message.answers)
core-answers (Err e) = refl

same-answers : (a b : LookupResult) → Same a b → has_answers a ≡ has_answers b
same-answers a b same = sym (core-answers a) ∙ ap core_answers same ∙ core-answers b

core-append : (l k : LookupValue) → reply_core (both_results (Ok l) (Ok k)) ≡ Ok (record {
  answers = (sections l.message).answers ++ (sections k.message).answers;
  authorities = (sections l.message).authorities ++ (sections k.message).authorities;
  additionals = (sections l.message).additionals ++ (sections k.message).additionals;
})
core-append l k =
    let one = map-append record_core l.message.answers k.message.answers in
    let two = map-append record_core l.message.authorities k.message.authorities in
    let three = map-append record_core l.message.additionals k.message.additionals in
    λ i. Ok (record { answers = one i; authorities = two i; additionals = three i })

abbrev core_both : ReplyCore → ReplyCore → ReplyCore
core_both (Ok l) (Ok k) = Ok (record { answers = l.answers ++ k.answers; authorities = l.authorities ++ k.authorities; additionals = l.additionals ++ k.additionals })
core_both (Ok l) (Err e) = Ok l
core_both (Err e) (Ok k) = Ok k
core_both (Err e) (Err f) = Err e

core-both : (a b : LookupResult) → reply_core (both_results a b) ≡ core_both (reply_core a) (reply_core b)
core-both (Ok l) (Ok k) = core-append l k
core-both (Ok l) (Err e) = refl
core-both (Err e) (Ok k) = refl
core-both (Err e) (Err f) = refl

same-both : (a b c d : LookupResult) → Same a c → Same b d → Same (both_results a b) (both_results c d)
same-both a b c d one two = core-both a b ∙ ap₂ core_both one two ∙ sym (core-both c d)

-- ---- a sub-look-up

-- one of two results is out of memory, or they come to the same
abbrev Meet : LookupResult → LookupResult → Type 0
Meet a b = (is_out_of_memory a ≡ true) ⊎ ((is_out_of_memory b ≡ true) ⊎ Same a b)

meet : (a b : LookupResult) → is_out_of_memory a ≡ false → is_out_of_memory b ≡ false → Meet a b → Same a b
meet a b live alive (inl out) = let clash : false ≡ true = sym live ∙ out in cc
meet a b live alive (inr (inl out)) = let clash : false ≡ true = sym alive ∙ out in cc
meet a b live alive (inr (inr same)) = same

-- the table has this for a question, which may find no memory
found-meets : (a b : LookupResult) (l k : LookupValue) → l ≡ k → (a ≡ Ok l) ⊎ (a ≡ Err OutOfMemory) → (b ≡ Ok k) ⊎ (b ≡ Err OutOfMemory) → Meet a b
found-meets a b l k e (inr out) is = inl (ap is_out_of_memory out)
found-meets a b l k e (inl ok) (inr out) = inr (inl (ap is_out_of_memory out))
found-meets a b l k e (inl ok) (inl too) = inr (inr (ap reply_core (ok ∙ ap Ok e ∙ sym too)))

-- where the table is looked at and has something, nothing else is asked
never : (t : CallContext) (with_hosts : Bool) (q : Query) (found : LookupValue) → with_hosts ≡ true → HostsHave q t.now t.hosts (Some found) → NotInHosts with_hosts q t.now t.hosts → ⊥
never t with_hosts q found asks has (inl not_looked) = absurd (let clash : true ≡ false = sym asks ∙ not_looked in cc)
never t with_hosts q found asks has (inr none) = absurd (let clash : Some found ≡ None = same-hosts q t.now t.hosts (Some found) None has none in cc)

part-once : (table : TableValue) (t : CallContext) (with_hosts : Bool) (q : Query) (c d e f : CacheValue) (p u : SubLookup) → CachelessSubLookup table t with_hosts c q p d → CachelessSubLookup table t with_hosts e q u f → Meet p.result u.result
part-once table t with_hosts q c d e f p u (for, is) (for_too, is_too) = by is is_too
  where
    has-at : (x : SubLookup) → x.question ≡ q → (found : LookupValue) → HostsHave x.question t.now t.hosts (Some found) → HostsHave q t.now t.hosts (Some found)
    has-at x same found has = subst (λ y. HostsHave y t.now t.hosts (Some found)) same has

    by : IsAnsweredByHosts t with_hosts c p d ⊎ (IsCachelessSubLookup table t with_hosts q p × (d ≡ c)) → IsAnsweredByHosts t with_hosts e u f ⊎ (IsCachelessSubLookup table t with_hosts q u × (f ≡ e)) → Meet p.result u.result
    by (inl s) (inl v) = found-meets p.result u.result s.found v.found (let both : Some s.found ≡ Some v.found = same-hosts q t.now t.hosts (Some s.found) (Some v.found) (has-at p for s.found s.has) (has-at u for_too v.found v.has) in let one : s.found ≡ v.found = cc in one) s.result_is v.result_is
    by (inl s) (inr (v, same)) = absurd (never t with_hosts q s.found s.asks_hosts (has-at p for s.found s.has) v.not_in_hosts)
    by (inr (s, same)) (inl v) = absurd (never t with_hosts q v.found v.asks_hosts (has-at u for_too v.found v.has) s.not_in_hosts)
    by (inr (s, same)) (inr (v, other)) = inr (inr (s.result_is ∙ means-one table q s.reply v.reply s.length_is v.length_is s.means v.means ∙ sym v.result_is))

-- ---- an attempt

-- what was answered to a question, out of memory aside
record Answered (table : TableValue) (t : CallContext) (with_hosts : Bool) (q : Query) (r : LookupResult) : Type 0 where
  before : CacheValue
  after : CacheValue
  part : SubLookup
  is : CachelessSubLookup table t with_hosts before q part after
  result_is : part.result ≡ r
  live : is_out_of_memory r ≡ false

answered-once : (table : TableValue) (t : CallContext) (with_hosts : Bool) (q : Query) (a b : LookupResult) → Answered table t with_hosts q a → Answered table t with_hosts q b → Same a b
answered-once table t with_hosts q a b x y =
    meet a b x.live y.live (subst (Meet a) y.result_is (subst (λ r. Meet r y.part.result) x.result_is (part-once table t with_hosts q x.before x.after y.before y.after x.part y.part x.is y.is)))

-- the results that an attempt is made of, by what it looks up
abbrev Made : TableValue → CallContext → Bool → NameValue → FamilyOrder → LookupResult → Type 0
Made table t with_hosts n (One u) r = Answered table t with_hosts (question_of n u) r
Made table t with_hosts n (Both u v) r =
    (a : LookupResult) × (b : LookupResult) × Answered table t with_hosts (question_of n u) a × Answered table t with_hosts (question_of n v) b × (r ≡ both_results a b)
Made table t with_hosts n (Fallback u v) r =
    (Answered table t with_hosts (question_of n u) r × (has_answers r ≡ true))
    ⊎ ((a : LookupResult) × Answered table t with_hosts (question_of n u) a × (has_answers a ≡ false) × Answered table t with_hosts (question_of n v) r)

made-once : (table : TableValue) (t : CallContext) (with_hosts : Bool) (n : NameValue) (plan : FamilyOrder) (r k : LookupResult) → Made table t with_hosts n plan r → Made table t with_hosts n plan k → Same r k
made-once table t with_hosts n (One u) r k x y = answered-once table t with_hosts (question_of n u) r k x y
made-once table t with_hosts n (Both u v) r k (a, b, x, y, e) (c, d, z, w, f) =
    ap reply_core e ∙ same-both a b c d (answered-once table t with_hosts (question_of n u) a c x z) (answered-once table t with_hosts (question_of n v) b d y w) ∙ sym (ap reply_core f)
made-once table t with_hosts n (Fallback u v) r k (inl (x, h)) (inl (y, j)) = answered-once table t with_hosts (question_of n u) r k x y
made-once table t with_hosts n (Fallback u v) r k (inl (x, h)) (inr (c, z, none, w)) =
    let clash : true ≡ false = sym h ∙ same-answers r c (answered-once table t with_hosts (question_of n u) r c x z) ∙ none in cc
made-once table t with_hosts n (Fallback u v) r k (inr (a, x, none, y)) (inl (z, h)) =
    let clash : true ≡ false = sym h ∙ same-answers k a (answered-once table t with_hosts (question_of n u) k a z x) ∙ none in cc
made-once table t with_hosts n (Fallback u v) r k (inr (a, x, none, y)) (inr (c, z, nothing, w)) = answered-once table t with_hosts (question_of n v) r k y w

or-parts : (a b : Bool) → (a || b) ≡ false → (a ≡ false) × (b ≡ false)
or-parts true b h = cc
or-parts false b h = (refl, h)

or-left : (a b : Bool) → (a || b) ≡ true → b ≡ false → a ≡ true
or-left true b h k = refl
or-left false b h k = let clash : true ≡ false = sym h ∙ k in cc

-- an attempt that is over, out of memory aside, is made of answers
made : (table : TableValue) (t : CallContext) (with_hosts : Bool) (n : NameValue) (plan : FamilyOrder) (before : CacheValue) (ps : List SubLookup) (r : LookupResult) (after : CacheValue) → AreSubLookups (CachelessSubLookup table t) with_hosts n plan before [] ps after
    → next_type plan (results_of ps) ≡ None → r ≡ attempt_result plan (results_of ps) → is_out_of_memory r ≡ false → Made table t with_hosts n plan r
made table t with_hosts n (One u) before [] r after are over e live = let clash : Some u ≡ None = over in cc
made table t with_hosts n (Both u v) before [] r after are over e live = let clash : Some u ≡ None = over in cc
made table t with_hosts n (Fallback u v) before [] r after are over e live = let clash : Some u ≡ None = over in cc
made table t with_hosts n (One u) before (p ∷ []) r after (w, mid, next, is, same) over e live =
    record { before = before; after = mid; part = p; is = subst (λ x. CachelessSubLookup table t with_hosts before (question_of n x) p mid) (let one : w ≡ u = cc in one) is; result_is = sym e; live = live }
made table t with_hosts n (Both u v) before (p ∷ []) r after (w, mid, next, is, same) over e live = by (is_out_of_memory p.result) refl over
  where
    by : (b : Bool) → is_out_of_memory p.result ≡ b → cond b None (Some v) ≡ None → Made table t with_hosts n (Both u v) r
    by true out h = let clash : false ≡ true = sym live ∙ ap is_out_of_memory e ∙ out in cc
    by false out h = let clash : Some v ≡ None = h in cc
made table t with_hosts n (Fallback u v) before (p ∷ []) r after (w, mid, next, is, same) over e live = by (has_answers p.result || is_out_of_memory p.result) refl over
  where
    alive : is_out_of_memory p.result ≡ false
    alive = sym (ap is_out_of_memory e) ∙ live

    by : (b : Bool) → (has_answers p.result || is_out_of_memory p.result) ≡ b → cond b None (Some v) ≡ None → Made table t with_hosts n (Fallback u v) r
    by true is_over h = inl (
      record { before = before; after = mid; part = p; is = subst (λ x. CachelessSubLookup table t with_hosts before (question_of n x) p mid) (let one : w ≡ u = cc in one) is; result_is = sym e; live = live },
      ap has_answers e ∙ or-left (has_answers p.result) (is_out_of_memory p.result) is_over alive,
    )
    by false is_over h = let clash : Some v ≡ None = h in cc
made table t with_hosts n (One u) before (p ∷ q ∷ qs) r after (w, mid, next, is, (x, m, more, second, rest)) over e live = let clash : None ≡ Some x = more in cc
made table t with_hosts n (Both u v) before (p ∷ q ∷ []) r after (w, mid, next, is, (x, m, more, second, rest)) over e live = first (is_out_of_memory p.result) refl more
  where
    last : (b : Bool) → is_out_of_memory q.result ≡ b → r ≡ cond b q.result (both_results p.result q.result) → is_out_of_memory p.result ≡ false → v ≡ x → Made table t with_hosts n (Both u v) r
    last true out f alive type_is = let clash : false ≡ true = sym live ∙ ap is_out_of_memory f ∙ out in cc
    last false out f alive type_is = (
      p.result,
      q.result,
      record { before = before; after = mid; part = p; is = subst (λ y. CachelessSubLookup table t with_hosts before (question_of n y) p mid) (let one : w ≡ u = cc in one) is; result_is = refl; live = alive },
      record { before = mid; after = m; part = q; is = subst (λ y. CachelessSubLookup table t with_hosts mid (question_of n y) q m) (sym type_is) second; result_is = refl; live = out },
      f,
    )

    first : (b : Bool) → is_out_of_memory p.result ≡ b → cond b None (Some v) ≡ Some x → Made table t with_hosts n (Both u v) r
    first true out h = let clash : None ≡ Some x = h in cc
    first false out h = last (is_out_of_memory q.result) refl e out (let one : v ≡ x = cc in one)
made table t with_hosts n (Fallback u v) before (p ∷ q ∷ []) r after (w, mid, next, is, (x, m, more, second, rest)) over e live = by (has_answers p.result || is_out_of_memory p.result) refl more
  where
    by : (b : Bool) → (has_answers p.result || is_out_of_memory p.result) ≡ b → cond b None (Some v) ≡ Some x → Made table t with_hosts n (Fallback u v) r
    by true on h = let clash : None ≡ Some x = h in cc
    by false on h =
        let parts = or-parts (has_answers p.result) (is_out_of_memory p.result) on in
        inr (
          p.result,
          record { before = before; after = mid; part = p; is = subst (λ y. CachelessSubLookup table t with_hosts before (question_of n y) p mid) (let one : w ≡ u = cc in one) is; result_is = refl; live = parts.1 },
          parts.0,
          record { before = mid; after = m; part = q; is = subst (λ y. CachelessSubLookup table t with_hosts mid (question_of n y) q m) (let one : x ≡ v = cc in one) second; result_is = sym e; live = live },
        )
made table t with_hosts n (Both u v) before (p ∷ q ∷ y ∷ ys) r after (w, mid, next, is, (x, m, more, second, (z, k, third, it, rest))) over e live = let clash : None ≡ Some z = third in cc
made table t with_hosts n (Fallback u v) before (p ∷ q ∷ y ∷ ys) r after (w, mid, next, is, (x, m, more, second, (z, k, third, it, rest))) over e live = let clash : None ≡ Some z = third in cc

made-of : (table : TableValue) (t : CallContext) (with_hosts : Bool) (n : NameValue) (plan : FamilyOrder) (before : CacheValue) (ps : List SubLookup) (r : LookupResult) (after : CacheValue) → IsAttempt (CachelessSubLookup table t) with_hosts before n plan ps r after → is_out_of_memory r ≡ false → Made table t with_hosts n plan r
made-of table t with_hosts n plan before ps r after attempt live = by attempt.result_is
  where
    by : IsAttemptResult plan (results_of ps) r → Made table t with_hosts n plan r
    by (inl (over, e)) = made table t with_hosts n plan before ps r after attempt.are over e live
    by (inr (takes, out)) = let clash : false ≡ true = sym live ∙ ap is_out_of_memory out in cc

-- ---- attempts

-- where a call goes on behind an attempt, or ends with it
abbrev Goes : TableValue → CallContext → CallPlan → CacheValue → List NameValue → LookupResult → List SubLookup → LookupResult → CacheValue → Type 0
Goes table t plan mid ns result back r after =
    ((stops result ≡ true) × (back ≡ []) × (r ≡ result) × (after ≡ mid))
    ⊎ ((stops result ≡ false) × AreAttempts (CachelessSubLookup table t) plan plan.hosts_for_all mid ns (λ x. x ≡ result) back r after)

goes-live : (table : TableValue) (t : CallContext) (plan : CallPlan) (mid : CacheValue) (ns : List NameValue) (result : LookupResult) (back : List SubLookup) (r : LookupResult) (after : CacheValue) → is_out_of_memory r ≡ false → Goes table t plan mid ns result back r after → is_out_of_memory result ≡ false
goes-live table t plan mid ns result back r after live (inl (stopped, none, e, same)) = sym (ap is_out_of_memory e) ∙ live
goes-live table t plan mid ns result back r after live (inr (on, rest)) = (or-parts (has_answers result) (is_out_of_memory result) on).1

same-stops : (a b : LookupResult) → is_out_of_memory a ≡ false → is_out_of_memory b ≡ false → Same a b → stops a ≡ stops b
same-stops a b live alive same = ap₂ (λ x y. x || y) (same-answers a b same) (live ∙ sym alive)

-- the last resort, or what came last
last-once : (literal : Option LookupValue) (first second : LookupResult → Type 0) (r k : LookupResult) → (first r → second k → Same r k) → is_out_of_memory r ≡ false → is_out_of_memory k ≡ false → IsLastReply literal first r → IsLastReply literal second k → Same r k
last-once None first second r k known live alive x y = known x y
last-once (Some l) first second r k known live alive (inr out) y = let clash : false ≡ true = sym live ∙ ap is_out_of_memory out in cc
last-once (Some l) first second r k known live alive (inl e) (inr out) = let clash : false ≡ true = sym alive ∙ ap is_out_of_memory out in cc
last-once (Some l) first second r k known live alive (inl e) (inl f) = ap reply_core (e ∙ sym f)

tries-once : (table : TableValue) (t : CallContext) (plan : CallPlan) (with_hosts : Bool) (c d : CacheValue) (names : List NameValue) (first second : LookupResult → Type 0) (ps qs : List SubLookup) (r k : LookupResult) (e f : CacheValue)
    → (names ≡ [] → first r → second k → Same r k) → is_out_of_memory r ≡ false → is_out_of_memory k ≡ false
    → AreAttempts (CachelessSubLookup table t) plan with_hosts c names first ps r e → AreAttempts (CachelessSubLookup table t) plan with_hosts d names second qs k f → Same r k
tries-once table t plan with_hosts c d [] first second ps qs r k e f known live alive (none, last, same) (nothing, final, unchanged) = last-once plan.literal first second r k (known refl) live alive last final
tries-once table t plan with_hosts c d (n ∷ ns) first second ps qs r k e f known live alive (front, back, a, mid, are, attempt, goes) (before, behind, b, between, are_too, attempt_too, goes_too) =
    by goes goes_too (λ rest more. tries-once table t plan plan.hosts_for_all mid between ns (λ x. x ≡ a) (λ x. x ≡ b) back behind r k e f (λ none x y. ap reply_core x ∙ same ∙ sym (ap reply_core y)) live alive rest more)
  where
    a_live : is_out_of_memory a ≡ false
    a_live = goes-live table t plan mid ns a back r e live goes

    b_live : is_out_of_memory b ≡ false
    b_live = goes-live table t plan between ns b behind k f alive goes_too

    same : Same a b
    same = made-once table t with_hosts n plan.types a b (made-of table t with_hosts n plan.types c front a mid attempt a_live) (made-of table t with_hosts n plan.types d before b between attempt_too b_live)

    by : Goes table t plan mid ns a back r e → Goes table t plan between ns b behind k f
        → (AreAttempts (CachelessSubLookup table t) plan plan.hosts_for_all mid ns (λ x. x ≡ a) back r e → AreAttempts (CachelessSubLookup table t) plan plan.hosts_for_all between ns (λ x. x ≡ b) behind k f → Same r k) → Same r k
    by (inl (x, none, is, u)) (inl (y, nothing, is_too, v)) more = ap reply_core is ∙ same ∙ sym (ap reply_core is_too)
    by (inl (x, none, is, u)) (inr (on, rest)) more = let clash : true ≡ false = sym x ∙ same-stops a b a_live b_live same ∙ on in cc
    by (inr (on, rest)) (inl (y, nothing, is_too, v)) more = let clash : true ≡ false = sym y ∙ sym (same-stops a b a_live b_live same) ∙ on in cc
    by (inr (on, rest)) (inr (too, others)) more = more rest others

-- ---- a request

pub call-once : (table : TableValue) (s : Settings) (t : CallContext) (call : Call) (c d e f : CacheValue) (ps qs : List SubLookup) (r k : LookupResult) → is_out_of_memory r ≡ false → is_out_of_memory k ≡ false
    → IsCall (CachelessSubLookup table t) s c call ps r e → IsCall (CachelessSubLookup table t) s d call qs k f → Same r k
call-once table s t (AtOnce answer) c d e f ps qs r k live alive (none, is, same) (nothing, is_too, unchanged) = ap reply_core (is ∙ sym is_too)
call-once table s t (Attempt n plan) c d e f ps qs r k live alive x y =
    tries-once table t plan true c d (attempts s.search n) (Says plan.no_names) (Says plan.no_names) ps qs r k e f (λ none _ _. absurd (some_attempt s.search n none)) live alive x y

names-once : (table : TableValue) (s : Settings) (cache : CacheValue) (request : RequestValue) → IsOneCachelessBy LookedUp table s cache request
names-once table s cache (Lookup text u now) ps qs r k (inl (m, read, is)) (inl (n, again, is_too)) live alive =
    call-once table s (call_context_at s now) (name_call u m) cache cache cache cache ps qs r k live alive is
    (subst (λ x. IsCall (CachelessSubLookup table (call_context_at s now)) s cache (name_call u x) qs k cache) (same-name text n m again read) is_too)
names-once table s cache (Lookup text u now) ps qs r k (inr (none, out, same)) other live alive = let clash : false ≡ true = sym live ∙ ap is_out_of_memory out in cc
names-once table s cache (Lookup text u now) ps qs r k (inl one) (inr (none, out, same)) live alive = let clash : false ≡ true = sym alive ∙ ap is_out_of_memory out in cc
names-once table s cache (LookupIp text now) ps qs r k is other live alive = absurd is
names-once table s cache (ClearLookup text u now) ps qs r k is other live alive = absurd is
names-once table s cache (Clear now) ps qs r k is other live alive = absurd is

addresses-once : (table : TableValue) (s : Settings) (cache : CacheValue) (request : RequestValue) → IsOneCachelessBy LookedUpIp table s cache request
addresses-once table s cache (LookupIp text now) ps qs r k (inl (g, (a, m), is)) (inl (h, (b, n), is_too)) live alive =
    call-once table s (call_context_at s now) (address_call s g.address g.name now) cache cache cache cache ps qs r k live alive is
    (subst (λ x. IsCall (CachelessSubLookup table (call_context_at s now)) s cache (address_call s x g.name now) qs k cache) (same-address text h.address g.address b a)
    (subst (λ x. IsCall (CachelessSubLookup table (call_context_at s now)) s cache (address_call s h.address x now) qs k cache) (same-name text h.name g.name n m) is_too))
addresses-once table s cache (LookupIp text now) ps qs r k (inr (none, out, same)) other live alive = let clash : false ≡ true = sym live ∙ ap is_out_of_memory out in cc
addresses-once table s cache (LookupIp text now) ps qs r k (inl one) (inr (none, out, same)) live alive = let clash : false ≡ true = sym alive ∙ ap is_out_of_memory out in cc
addresses-once table s cache (Lookup text u now) ps qs r k is other live alive = absurd is
addresses-once table s cache (ClearLookup text u now) ps qs r k is other live alive = absurd is
addresses-once table s cache (Clear now) ps qs r k is other live alive = absurd is

pub one_cacheless : (table : TableValue) (s : Settings) (cache : CacheValue) (request : RequestValue) → IsOneCacheless table s cache request
one_cacheless table s cache request = (names-once table s cache request, addresses-once table s cache request)
