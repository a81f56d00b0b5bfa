-- What is kept of records that say what is not there: by their owners, and their chains by zones.
use Rattle.std.proofs.Common.{◌≡◌, ◌≤◌, ◌<◌, ◌+◌, ◌*◌, ◌/◌, ◌%◌, ℕ, zero, suc, IfSome, MatchOption, take, drop, Bool, true, false, ◌&&◌, ◌||◌, ◌==◌, cond, length, nat_le, nat_lt, List, [], ◌∷◌, ◌++◌, filter, Option, None, Some, unwrap_or, refl, ap, ap₂, subst, sym, ◌∙◌, ◌⊎◌, inl, inr, arith}
use Rattle.std.specs.BTreeMap.{insert_entry, is_at}
use Rattle.std.specs.Borrow.{Bor}
use Rattle.std.specs.List.{flat_map, list_any}
use Rattle.std.specs.Map.{lookup, remove_entry}
use Rattle.std.specs.Option.{option_map_or}
use Rattle.std.specs.Ordering.{is_eq, match_ordering}
use Rattle.std.specs.declared.cmp.Ordering.{Ordering}
use Rattle.std.specs.declared.cmp.Ordering.TheVariants.{Less, Equal, Greater}
use Rattle.std.proofs.lemmas.Bool.{and_from, and_left, and_parts, cases_Bool, cond-false, cond-true, eqb-true, false_from_ne_true, le-leb, or_cases, or_left, or_right}
use Rattle.std.proofs.lemmas.Bool.Decides.{nat_tests}
use Rattle.std.proofs.lemmas.Grind.{flat_map-append}
use Rattle.std.proofs.lemmas.List.{append-nil}
use Rattle.std.proofs.lemmas.List.Elements.{filter-append}
use Rattle.std.proofs.lemmas.List.Folds.{list_any-append}
use Rattle.hickory_proto_core.specs.Codes.{class_code}
use Rattle.hickory_proto_core.specs.Name.{NameValue, base_of, name_cmp, name_eq}
use Rattle.hickory_proto_core.specs.NameLaws.{name_equiv, name_ties}
use Rattle.hickory_proto_core.specs.Records.{DataValue, RecordValue, unknown_data}
use Rattle.hickory_proto_core.specs.codes.dns_class.DNSClass.{DNSClass}
use Rattle.synthesis.specs.Nsec3.{ChainValue, Nsec3Value, chain_octets, chain_of, is_usable, read_chain, read_nsec3}
use Rattle.synthesis.specs.Nsec3 as nsec3
use Rattle.trace_judge.specs.Below.{some_below}
use Rattle.trace_judge.specs.Hashed.{chain_passes, data_of_chain, is_of_chain}
use Rattle.trace_judge.specs.Index.{AddsOwner, ForgetsOwners, GapsSee, GapsValue, OwnersSee, Respects, SeesAs, any_late, any_owner, chain_by, chain_record, chains_in, is_lasting, is_late, is_outdone, is_unknown, with_chain, with_reception}
use Rattle.trace_judge.specs.MadeIndex.{is_kept_chain}
use Rattle.trace_judge.specs.Receptions.{deadline, is_same_record}
use Rattle.trace_judge.specs.RecordKeys.{KeyValue}
use Rattle.trace_judge.specs.declared.event.Moment.{Moment}
use Rattle.trace_judge.specs.declared.receptions.Reception.{Reception}
use Rattle.trace_judge.proofs.Seen.{any-with}
use Rattle.trace_judge.proofs.Tests.{any-filter, any-push, any_same, any_weaker, le_trans, same_tests}

or_turned : (a b : Bool) → (a || b) ≡ (b || a)
or_turned true true = refl
or_turned true false = refl
or_turned false true = refl
or_turned false false = refl

or_grouped : (a b c : Bool) → ((a || b) || c) ≡ (a || (b || c))
or_grouped true b c = refl
or_grouped false b c = refl

or_none : (b : Bool) → (b || false) ≡ b
or_none true = refl
or_none false = refl

-- ---- entries of a map

-- what was at a key, and the others
any-removed : {K X : Type 0} (test : K → Bool) (p : X → Bool) (es : List (K × X))
    → list_any (λ e. p e.1) es ≡ (list_any (λ e. p e.1) (remove_entry test es) || option_map_or p (lookup test es) false)
any-removed test p [] = refl
any-removed test p (e ∷ es) =
    let at = remove_entry test es in
    elim (cases_Bool (test e.0)) [
      | inl k ↦ or_turned (p e.1) (list_any (λ x. p x.1) es)
          ∙ sym (ap₂ (λ l o. list_any (λ x. p x.1) l || option_map_or p o false)
          (cond-true (test e.0) es (e ∷ at) k) (cond-true (test e.0) (Some e.1) (lookup test es) k))
      | inr k ↦ ap (λ b. p e.1 || b) (any-removed test p es)
          ∙ sym (or_grouped (p e.1) (list_any (λ x. p x.1) at) (option_map_or p (lookup test es) false))
          ∙ sym (ap₂ (λ l o. list_any (λ x. p x.1) l || option_map_or p o false)
          (cond-false (test e.0) es (e ∷ at) k) (cond-false (test e.0) (Some e.1) (lookup test es) k))
    ]

-- a new key is put in its place
inserted_at : {K X : Type 0} (cmp : K → K → Ordering) (p : X → Bool) (e : K × X) (es : List (K × X)) (k : K) (v : X) (o : Ordering)
    → cmp k e.0 ≡ o → lookup (is_at (cmp k)) (e ∷ es) ≡ None
    → (lookup (is_at (cmp k)) es ≡ None → list_any (λ x. p x.1) (insert_entry cmp es k v) ≡ (list_any (λ x. p x.1) es || p v))
    → list_any (λ x. p x.1) (match_ordering o ((k, v) ∷ e ∷ es) ((e.0, v) ∷ es) (e ∷ insert_entry cmp es k v))
    ≡ (list_any (λ x. p x.1) (e ∷ es) || p v)
inserted_at cmp p e es k v Less is none rest = or_turned (p v) (p e.1 || list_any (λ x. p x.1) es)
inserted_at cmp p e es k v Equal is none rest =
    absurd (let found = ap (λ o. cond (is_eq o) (Some e.1) (lookup (is_at (cmp k)) es)) is in cc)
inserted_at cmp p e es k v Greater is none rest =
    let absent : lookup (is_at (cmp k)) es ≡ None
    = ap (λ o. cond (is_eq o) (Some e.1) (lookup (is_at (cmp k)) es)) (sym is) ∙ none in
    ap (λ b. p e.1 || b) (rest absent) ∙ sym (or_grouped (p e.1) (list_any (λ x. p x.1) es) (p v))

-- a new key is put in its place
any-inserted : {K X : Type 0} (cmp : K → K → Ordering) (p : X → Bool) (es : List (K × X)) (k : K) (v : X)
    → lookup (is_at (cmp k)) es ≡ None
    → list_any (λ e. p e.1) (insert_entry cmp es k v) ≡ (list_any (λ e. p e.1) es || p v)
any-inserted cmp p [] k v none = or_none (p v)
any-inserted cmp p (e ∷ es) k v none =
    inserted_at cmp p e es k v (cmp k e.0) refl none (any-inserted cmp p es k v)

-- a name is at itself
pub at_itself : (n : NameValue) → is_at (name_cmp n) n ≡ true
at_itself n = sym (name_ties n n) ∙ name_equiv.refl n

-- ---- owners

-- what outdoes a reception is late where it is
outdone_late : (makes : RecordValue → Bool) (from : ℕ) → Respects makes → (by r : Reception) → is_outdone by r ≡ true
    → is_late from makes r ≡ true → is_late from makes by ≡ true
outdone_late makes from respects by r o h =
    let better = and_parts (is_same_record r.found by.found) (nat_le (deadline r) (deadline by) && nat_le r.found.ttl by.found.ttl) o in
    let later = and_parts (nat_le (deadline r) (deadline by)) (nat_le r.found.ttl by.found.ttl) better.1 in
    let hit = and_parts (makes r.found) (nat_le from (deadline r)) h in
    and_from (makes by.found) (nat_le from (deadline by)) (respects r.found by.found better.0 hit.0)
    (le_trans from (deadline r) (deadline by) hit.1 later.0)

had_or : (p : List Reception → Bool) (o : Option (List Reception)) → p [] ≡ false → option_map_or p o false ≡ p (unwrap_or o [])
had_or p None none = sym none
had_or p (Some rs) none = refl

pub adds_owner : (new : Reception) (key : NameValue) (was without is : List (NameValue × List Reception)) (had : List Reception)
    → without ≡ remove_entry (is_at (name_cmp key)) was
    → had ≡ unwrap_or (lookup (is_at (name_cmp key)) was) []
    → lookup (is_at (name_cmp key)) without ≡ None
    → is ≡ insert_entry name_cmp without key (with_reception new had)
    → AddsOwner new was is
adds_owner new key was without is had out seen none put = λ makes from respects.
    let p = any_late from makes in
    let q = λ (o : NameValue × List Reception). p o.1 in
    let taken = lookup (is_at (name_cmp key)) was in
    ap (list_any q) put
    ∙ any-inserted name_cmp p without key (with_reception new had) none
    ∙ ap (λ b. list_any q without || b) (any-with (is_late from makes) (outdone_late makes from respects) new had)
    ∙ sym (or_grouped (list_any q without) (p had) (is_late from makes new))
    ∙ ap (λ b. b || is_late from makes new)
    (ap₂ (λ l rs. list_any q l || p rs) out seen
    ∙ ap (λ b. list_any q (remove_entry (is_at (name_cmp key)) was) || b) (sym (had_or p taken refl))
    ∙ sym (any-removed (is_at (name_cmp key)) p was))

lasting_late : (moment from : ℕ) (makes : RecordValue → Bool) (rs : List Reception) → moment ≤ from
    → (is_lasting moment rs && any_late from makes rs) ≡ any_late from makes rs
lasting_late moment from makes rs below =
    same_tests (is_lasting moment rs && any_late from makes rs) (any_late from makes rs)
    (λ h. (and_parts (is_lasting moment rs) (any_late from makes rs) h).1)
    (λ h. and_from (is_lasting moment rs) (any_late from makes rs)
    (any_weaker (is_late from makes) (λ r. nat_le moment (deadline r)) rs
    (λ r k. le_trans moment from (deadline r) (le-leb moment from below) (and_parts (makes r.found) (nat_le from (deadline r)) k).1) h) h)

pub forgets_owners : (moment : ℕ) (was is : List (NameValue × List Reception)) → is ≡ filter (λ e. is_lasting moment e.1) was
    → ForgetsOwners moment was is
forgets_owners moment was is kept = λ makes from below.
    ap (any_owner from makes) kept
    ∙ any-filter (λ e. is_lasting moment e.1) (λ o. any_late from makes o.1) was
    ∙ any_same (λ o. is_lasting moment o.1 && any_late from makes o.1) (λ o. any_late from makes o.1) was
    (λ o. lasting_late moment from makes o.1 below)

pub owners_push : (code before : ℕ) (was is : List (NameValue × List Reception)) (rs : List Reception) (new : Reception)
    → OwnersSee code before was rs → AddsOwner new was is → OwnersSee code before is (rs ++ new ∷ [])
owners_push code before was is rs new sees adds = λ makes from respects typed below.
    adds makes from respects ∙ ap (λ b. b || is_late from makes new) (sees makes from respects typed below)
    ∙ sym (any-push (is_late from makes) rs new)

-- one of another type
pub owners_other : (code before : ℕ) (was : List (NameValue × List Reception)) (rs : List Reception) (new : Reception)
    → is_unknown code new.found.rdata ≡ false → OwnersSee code before was rs → OwnersSee code before was (rs ++ new ∷ [])
owners_other code before was rs new other sees = λ makes from respects typed below.
    let not_late : is_late from makes new ≡ false
    = and_left (makes new.found) (nat_le from (deadline new)) (false_from_ne_true (makes new.found)
    (λ h. let no : true ≡ false = sym (typed new.found h) ∙ other in cc)) in
    sees makes from respects typed below
    ∙ sym (any-push (is_late from makes) rs new ∙ ap (λ b. any_late from makes rs || b) not_late ∙ or_none (any_late from makes rs))

any_taken : {X : Type 0} (p : X → Bool) (n : ℕ) (xs : List X) → list_any p (take n xs) ≡ true → list_any p xs ≡ true
any_taken p zero xs h = absurd (let no : false ≡ true = h in cc)
any_taken p (suc n) [] h = h
any_taken p (suc n) (x ∷ xs) h = elim (or_cases (p x) (list_any p (take n xs)) h) [
  | inl a ↦ or_left (p x) (list_any p xs) a
  | inr b ↦ or_right (p x) (list_any p xs) (any_taken p n xs b)
]

any_dropped : {X : Type 0} (p : X → Bool) (n : ℕ) (xs : List X) → list_any p (drop n xs) ≡ true → list_any p xs ≡ true
any_dropped p zero xs h = h
any_dropped p (suc n) [] h = h
any_dropped p (suc n) (x ∷ xs) h = or_right (p x) (list_any p xs) (any_dropped p n xs h)

-- the last of a run of entries is among them
pub last_of_run : (r : Option (Bor NameValue × Bor (List Reception))) (s t es : List (NameValue × List Reception)) (i n : ℕ)
    → s ≡ take n (drop i es) → MatchOption r ((s ≡ []) × (t ≡ [])) (λ x. s ≡ t ++ (x.0.now, x.1.now) ∷ [])
    → IfSome r (λ e. (p : List Reception → Bool) → p e.1.now ≡ true → list_any (λ o. p o.1) es ≡ true)
last_of_run None s t es i n run steps = tt
last_of_run (Some x) s t es i n run steps = λ p h.
    let q = λ (o : NameValue × List Reception). p o.1 in
    any_dropped q i es (any_taken q n (drop i es)
    (ap (list_any q) (sym run ∙ steps) ∙ any-push q t (x.0.now, x.1.now) ∙ or_right (list_any q t) (p x.1.now) h))

-- ---- chains

pub chains_push : (rs : List Reception) (new : Reception)
    → chains_in (rs ++ new ∷ []) ≡ chains_in rs ++ chain_by new.moment new.found new.found.rdata
chains_push rs new =
    let f = λ (r : Reception). chain_by r.moment r.found r.found.rdata in
    flat_map-append f rs (new ∷ []) ∙ ap (λ l. flat_map f rs ++ l) (append-nil (f new))

none_either : (b : Bool) (xs : List Reception) → xs ≡ cond b xs xs
none_either true xs = refl
none_either false xs = refl

chain_kept : (before : ℕ) (m : Moment) (r : RecordValue) (o : Option ChainValue)
    → filter (λ x. nat_le before (deadline x)) (with_chain m r o)
    ≡ cond (nat_le before (deadline (record { moment = m; found = r }))) (with_chain m r o) []
chain_kept before m r None = none_either (nat_le before (deadline (record { moment = m; found = r }))) []
chain_kept before m r (Some chain) = refl

data_kept : (before : ℕ) (m : Moment) (r : RecordValue) (d : DataValue)
    → filter (λ x. nat_le before (deadline x)) (chain_by m r d)
    ≡ cond (nat_le before (deadline (record { moment = m; found = r }))) (chain_by m r d) []
data_kept before m r (unknown_data code bytes) = elim (cases_Bool (code == 50)) [
  | inl k ↦ ap (filter (λ x. nat_le before (deadline x))) (cond-true (code == 50) (with_chain m r (chain_of (base_of r.name) bytes)) [] k)
      ∙ chain_kept before m r (chain_of (base_of r.name) bytes)
      ∙ ap (λ l. cond (nat_le before (deadline (record { moment = m; found = r }))) l [])
      (sym (cond-true (code == 50) (with_chain m r (chain_of (base_of r.name) bytes)) [] k))
  | inr k ↦ ap (filter (λ x. nat_le before (deadline x))) (cond-false (code == 50) (with_chain m r (chain_of (base_of r.name) bytes)) [] k)
      ∙ chain_kept before m r None
      ∙ ap (λ l. cond (nat_le before (deadline (record { moment = m; found = r }))) l [])
      (sym (cond-false (code == 50) (with_chain m r (chain_of (base_of r.name) bytes)) [] k))
]
data_kept before m r _ = chain_kept before m r None

-- a chain runs out where its record does
pub chains_kept : (before : ℕ) (rs : List Reception)
    → chains_in (filter (λ r. nat_le before (deadline r)) rs) ≡ filter (λ r. nat_le before (deadline r)) (chains_in rs)
chains_kept before [] = refl
chains_kept before (r ∷ rs) =
    let keeps = λ (x : Reception). nat_le before (deadline x) in
    let mine = chain_by r.moment r.found r.found.rdata in
    elim (cases_Bool (keeps r)) [
      | inl k ↦ ap chains_in (cond-true (keeps r) (r ∷ filter keeps rs) (filter keeps rs) k)
          ∙ ap₂ ◌++◌ (sym (data_kept before r.moment r.found r.found.rdata ∙ cond-true (keeps r) mine [] k)) (chains_kept before rs)
          ∙ sym (filter-append keeps mine (chains_in rs))
      | inr k ↦ ap chains_in (cond-false (keeps r) (r ∷ filter keeps rs) (filter keeps rs) k)
          ∙ chains_kept before rs
          ∙ ap (λ l. l ++ filter keeps (chains_in rs)) (sym (data_kept before r.moment r.found r.found.rdata ∙ cond-false (keeps r) mine [] k))
          ∙ sym (filter-append keeps mine (chains_in rs))
    ]

whole_again : (n : ℕ) → 256 * (n / 256) + n % 256 ≡ n
whole_again n = omega arith

two_up : (n : ℕ) → nat_lt (n + 2) 2 ≡ false
two_up n = grind (arith, nat_tests)

-- a chain is read back out of its octets
read_back : (zone other : NameValue) (n : ℕ) (salt : List ℕ)
    → read_chain zone (chain_octets (record { zone = other; iterations = n; salt = salt }))
    ≡ Some (record { zone = zone; iterations = n; salt = salt })
read_back zone other n salt =
    let octets = n / 256 ∷ n % 256 ∷ salt in
    let long : nat_lt (length octets) 2 ≡ false = grind (arith, nat_tests) in
    cond-false (nat_lt (length octets) 2) None (Some (record { zone = zone; iterations = 256 * (n / 256) + n % 256; salt = salt })) long
    ∙ ap (λ k. Some (record { zone = zone; iterations = k; salt = salt })) (whole_again n)

none_of : (a b : Bool) → false ≡ ((a && false) && b)
none_of true b = refl
none_of false b = refl

one_chain : (from : ℕ) (class : DNSClass) (zone : NameValue) (test : ChainValue → Bool) (m : Moment) (r : RecordValue)
    (o : Option Nsec3Value)
    → any_late from (is_kept_chain class zone test) (with_chain m r (nsec3.chain_by (base_of r.name) o))
    ≡ ((((class_code r.dns_class == class_code class) && name_eq (base_of r.name) zone) && chain_passes test (nsec3.chain_by zone o))
    && nat_le from (deadline (record { moment = m; found = r })))
one_chain from class zone test m r None =
    none_of ((class_code r.dns_class == class_code class) && name_eq (base_of r.name) zone) (nat_le from (deadline (record { moment = m; found = r })))
one_chain from class zone test m r (Some n) =
    let here = (class_code r.dns_class == class_code class) && name_eq (base_of r.name) zone in
    let late = nat_le from (deadline (record { moment = m; found = r })) in
    let mine : ChainValue = record { zone = base_of r.name; iterations = n.iterations; salt = n.salt } in
    let its : ChainValue = record { zone = zone; iterations = n.iterations; salt = n.salt } in
    elim (cases_Bool (is_usable n)) [
      | inl k ↦ ap (λ o. any_late from (is_kept_chain class zone test) (with_chain m r o)) (cond-true (is_usable n) (Some mine) None k)
          ∙ or_none (is_late from (is_kept_chain class zone test) (record { moment = m; found = chain_record r mine }))
          ∙ ap (λ o. (here && chain_passes test o) && late)
          (read_back zone (base_of r.name) n.iterations n.salt ∙ sym (cond-true (is_usable n) (Some its) None k))
      | inr k ↦ ap (λ o. any_late from (is_kept_chain class zone test) (with_chain m r o)) (cond-false (is_usable n) (Some mine) None k)
          ∙ none_of here late
          ∙ ap (λ o. (here && chain_passes test o) && late) (sym (cond-false (is_usable n) (Some its) None k))
    ]

data_chain : (from : ℕ) (class : DNSClass) (zone : NameValue) (test : ChainValue → Bool) (m : Moment) (r : RecordValue) (d : DataValue)
    → any_late from (is_kept_chain class zone test) (chain_by m r d)
    ≡ ((((class_code r.dns_class == class_code class) && name_eq (base_of r.name) zone) && data_of_chain test zone d)
    && nat_le from (deadline (record { moment = m; found = r })))
data_chain from class zone test m r (unknown_data code bytes) =
    let here = (class_code r.dns_class == class_code class) && name_eq (base_of r.name) zone in
    let late = nat_le from (deadline (record { moment = m; found = r })) in
    let its = chain_passes test (chain_of zone bytes) in
    elim (cases_Bool (code == 50)) [
      | inl k ↦ ap (any_late from (is_kept_chain class zone test))
          (cond-true (code == 50) (with_chain m r (chain_of (base_of r.name) bytes)) [] k)
          ∙ one_chain from class zone test m r (read_nsec3 bytes)
          ∙ ap (λ b. (here && (b && its)) && late) (sym k)
      | inr k ↦ ap (any_late from (is_kept_chain class zone test))
          (cond-false (code == 50) (with_chain m r (chain_of (base_of r.name) bytes)) [] k)
          ∙ none_of here late
          ∙ ap (λ b. (here && (b && its)) && late) (sym k)
    ]
data_chain from class zone test m r _ =
    none_of ((class_code r.dns_class == class_code class) && name_eq (base_of r.name) zone) (nat_le from (deadline (record { moment = m; found = r })))

-- the chains that are kept pass the tests that the chains of the records do
pub chain_late : (from : ℕ) (class : DNSClass) (zone : NameValue) (test : ChainValue → Bool) (rs : List Reception)
    → any_late from (is_kept_chain class zone test) (chains_in rs) ≡ any_late from (is_of_chain class zone test) rs
chain_late from class zone test [] = refl
chain_late from class zone test (r ∷ rs) =
    list_any-append (is_late from (is_kept_chain class zone test)) (chain_by r.moment r.found r.found.rdata) (chains_in rs)
    ∙ ap₂ ◌||◌ (data_chain from class zone test r.moment r.found r.found.rdata) (chain_late from class zone test rs)

-- ---- one more of all

other_type : (d : DataValue) → is_unknown 47 d ≡ true → is_unknown 50 d ≡ false
other_type (unknown_data c bytes) h = grind (arith, nat_tests)
other_type _ h = absurd (let no : false ≡ true = h in cc)

nsec3_type : (d : DataValue) → is_unknown 50 d ≡ true → is_unknown 47 d ≡ false
nsec3_type (unknown_data c bytes) h = grind (arith, nat_tests)
nsec3_type _ h = absurd (let no : false ≡ true = h in cc)

no_chain : (m : Moment) (r : RecordValue) (d : DataValue) → is_unknown 50 d ≡ false → chain_by m r d ≡ []
no_chain m r (unknown_data c bytes) h = cond-false (c == 50) (with_chain m r (chain_of (base_of r.name) bytes)) [] h
no_chain m r _ h = refl

chains_other : (rs : List Reception) (new : Reception) → is_unknown 50 new.found.rdata ≡ false
    → chains_in (rs ++ new ∷ []) ≡ chains_in rs
chains_other rs new other =
    chains_push rs new ∙ ap (λ l. chains_in rs ++ l) (no_chain new.moment new.found new.found.rdata other)
    ∙ append-nil (chains_in rs)

pub gaps_nsec : (from : ℕ) (gaps : GapsValue) (nsec : List (NameValue × List Reception)) (rs : List Reception) (new : Reception)
    → is_unknown 47 new.found.rdata ≡ true → AddsOwner new gaps.nsec nsec → GapsSee from gaps rs
    → GapsSee from (record gaps { nsec = nsec }) (rs ++ new ∷ [])
gaps_nsec from gaps nsec rs new is adds sees = record {
  nsec_are = owners_push 47 from gaps.nsec nsec rs new sees.nsec_are adds;
  nsec3_are = owners_other 50 from gaps.nsec3 rs new (other_type new.found.rdata is) sees.nsec3_are;
  chains_are = subst (SeesAs from gaps.chains) (sym (chains_other rs new (other_type new.found.rdata is))) sees.chains_are;
}

pub gaps_nsec3 : (from : ℕ) (gaps : GapsValue) (nsec3 : List (NameValue × List Reception)) (chains : List (KeyValue × List Reception))
    (rs : List Reception) (new : Reception)
    → is_unknown 50 new.found.rdata ≡ true → AddsOwner new gaps.nsec3 nsec3
    → SeesAs from chains (chains_in rs ++ chain_by new.moment new.found new.found.rdata) → GapsSee from gaps rs
    → GapsSee from (record gaps { nsec3 = nsec3; chains = chains }) (rs ++ new ∷ [])
gaps_nsec3 from gaps nsec3 chains rs new is adds kept sees = record {
  nsec_are = owners_other 47 from gaps.nsec rs new (nsec3_type new.found.rdata is) sees.nsec_are;
  nsec3_are = owners_push 50 from gaps.nsec3 nsec3 rs new sees.nsec3_are adds;
  chains_are = subst (SeesAs from chains) (sym (chains_push rs new)) kept;
}

pub gaps_other : (from : ℕ) (gaps : GapsValue) (rs : List Reception) (new : Reception)
    → is_unknown 47 new.found.rdata ≡ false → is_unknown 50 new.found.rdata ≡ false → GapsSee from gaps rs
    → GapsSee from gaps (rs ++ new ∷ [])
gaps_other from gaps rs new nsec nsec3 sees = record {
  nsec_are = owners_other 47 from gaps.nsec rs new nsec sees.nsec_are;
  nsec3_are = owners_other 50 from gaps.nsec3 rs new nsec3 sees.nsec3_are;
  chains_are = subst (SeesAs from gaps.chains) (sym (chains_other rs new nsec3)) sees.chains_are;
}

-- a number below that passes
pub some_at : (n k : ℕ) (test : ℕ → Bool) → k < n → test k ≡ true → some_below n test ≡ true
some_at zero k test below h = absurd (omega arith)
some_at (suc n) k test below h = elim (eq_or_below k n (omega arith)) [
  | inl e ↦ or_left (test n) (some_below n test) (ap test (sym e) ∙ h)
  | inr less ↦ or_right (test n) (some_below n test) (some_at n k test less h)
] where
  eq_or_below : (a b : ℕ) → a ≤ b → (a ≡ b) ⊎ (a < b)
  eq_or_below a b below = elim (cases_Bool (a == b)) [
    | inl e ↦ inl (eqb-true a b e)
    | inr e ↦ inr (grind (arith, nat_tests))
  ]
