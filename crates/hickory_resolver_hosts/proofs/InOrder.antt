-- The names of an address by their places, in the order of the table.
use Rattle.std.proofs.Common.{◌≡◌, ℕ, ◌<◌, ◌≤◌, ◌+◌, ◌-◌, zero, suc, nat_lt, Bool, true, false, cond, ◌||◌, ◌&&◌, ◌==◌, List, [], ◌∷◌, ◌++◌, length, map, filter, slice_get, Option, None, Some, Result, Ok, Err, IfOk, refl, sym, ap, ap₂, subst, ◌∙◌, append_assoc, true≢false, arith}
use Rattle.std.specs.Bool.{⊤}
use Rattle.std.specs.List.{list_any, filter_map, cons_option, AllByRecursion}
use Rattle.std.specs.List.Sorted.{IsStrictlySortedBy}
use Rattle.std.specs.Option.{option_map, option_map_or}
use Rattle.std.specs.Ordering.{is_eq, nat_cmp, ordering_then}
use Rattle.std.specs.Cmp.{nat_cmp_total, unsigned_ties}
use Rattle.std.specs.declared.cmp.Ordering.TheVariants.{Less, Equal}
use Rattle.std.specs.declared.net.IpAddr.{IpAddr}
use Rattle.std.specs.BTreeSet.{BTreeSet}
use Rattle.std.specs.BTreeSet as set
use Rattle.std.proofs.lemmas.Cmp.{ranked}
use Rattle.std.proofs.lemmas.Bool.{eqb-true, eq-eqb, lt-ltb}
use Rattle.std.proofs.lemmas.Bool.Decides.{nat_tests}
use Rattle.std.proofs.lemmas.Option.{slice_get-map}
use Rattle.hickory_proto_core.specs.Name.{NameValue}
use Rattle.hickory_proto_core.specs.Records.{RecordValue, DataValue, data_of_address}
use Rattle.hickory_proto_core.specs.Arpa.{IsArpaNameOf}
use Rattle.hickory_proto_core.specs.names.ip.IpNet.{IpNet}
use Rattle.hickory_proto_core.specs.declared.query.Query.{Query}
use Rattle.hickory_resolver_model.specs.Lookup.{LookupValue, answers_for_day}
use Rattle.hickory_resolver_model.specs.Hosts.{Host, has_address, as_fqdn, pointer_lookup, pointers}
use Rattle.hickory_resolver_hosts.specs.Index.{has_owner, owner_cmp, owners_below}
use Rattle.hickory_resolver_hosts.specs.HostsTable.{host_at, hosts_of, has_address_at, no_lookups, pointer_at, pointer_to, HasPointers}
use Rattle.hickory_resolver_hosts.specs.declared.host.HostLookups.{HostLookups}
use Rattle.hickory_resolver_hosts.proofs.IndexChanges.{equal_from, is_below, is_below_by, tied_bits}

-- a turn of the loop over places
pub turn_some : {X Y : Type 0} (g : X → Option Y) (rs new all : List Y) (s t : List X) (x : X) (r : Y) → s ≡ x ∷ t → g x ≡ Some r
    → new ≡ rs ++ r ∷ []
    → rs ++ filter_map g s ≡ all → new ++ filter_map g t ≡ all
turn_some g rs new all s t x r left found pushed before =
    ap (λ v. v ++ filter_map g t) pushed ∙ append_assoc rs (r ∷ []) (filter_map g t)
    ∙ ap (λ o. rs ++ cons_option o (filter_map g t)) (sym found)
    ∙ ap (λ v. rs ++ filter_map g v) (sym left) ∙ before

pub turn_none : {X Y : Type 0} (g : X → Option Y) (rs all : List Y) (s t : List X) (x : X) → s ≡ x ∷ t → g x ≡ None
    → rs ++ filter_map g s ≡ all → rs ++ filter_map g t ≡ all
turn_none g rs all s t x left none before =
    ap (λ o. rs ++ cons_option o (filter_map g t)) (sym none) ∙ ap (λ v. rs ++ filter_map g v) (sym left) ∙ before

pub pointed : (owner n : NameValue) (h : HostLookups) (es : List (NameValue × HostLookups)) (i : ℕ) (r : RecordValue)
    → Some (n, h) ≡ slice_get es i
    → r ≡ pointer_to owner (no_lookups n) → pointer_at owner (hosts_of es) i ≡ Some r
pointed owner n h es i r at is =
    ap (option_map (pointer_to owner)) (slice_get-map (λ e. host_at e.0 e.1) es i
    ∙ ap (option_map (λ e. host_at e.0 e.1)) (sym at))
    ∙ ap Some (sym is)

pub not_pointed : (owner : NameValue) (es : List (NameValue × HostLookups)) (i : ℕ) → None ≡ slice_get es i
    → pointer_at owner (hosts_of es) i ≡ None
not_pointed owner es i at = ap (option_map (pointer_to owner)) (slice_get-map (λ e. host_at e.0 e.1) es i
    ∙ ap (option_map (λ e. host_at e.0 e.1)) (sym at))

-- numbers that ascend from some number on
abbrev From : ℕ → List ℕ → Type 0
From n [] = ⊤
From n (k ∷ ks) = (n ≤ k) × From (suc k) ks

all_above : (k : ℕ) (ks : List ℕ) → AllByRecursion (λ y. nat_cmp k y ≡ Less) ks → AllByRecursion (λ y. suc k ≤ y) ks
all_above k [] h = tt
all_above k (y ∷ ks) h = (ranked k y Less (sym h.0), all_above k ks h.1)

from_sorted : (n : ℕ) (ks : List ℕ) → IsStrictlySortedBy nat_cmp ks → AllByRecursion (λ k. n ≤ k) ks → From n ks
unfolding IsStrictlySortedBy
from_sorted n [] sorted above = tt
from_sorted n (k ∷ ks) sorted above = (above.0, from_sorted (suc k) ks sorted.1 (all_above k ks sorted.0))

from_zero : (ks : List ℕ) → AllByRecursion (λ k. 0 ≤ k) ks
from_zero [] = tt
from_zero (k ∷ ks) = (omega arith, from_zero ks)

abbrev has : List ℕ → ℕ → Bool
has ks i = list_any (λ k. i == k) ks

apart : (i k : ℕ) → (i ≡ k → ⊥) → (i == k) ≡ false
apart i k differ = by (i == k) refl
  where
    by : (b : Bool) → (i == k) ≡ b → (i == k) ≡ false
    by true e = absurd (differ (eqb-true i k e))
    by false e = e

below_none : (n m : ℕ) (ks : List ℕ) → From m ks → n < m → has ks n ≡ false
below_none n m [] from less = refl
below_none n m (k ∷ ks) from less =
    let high : m ≤ k = from.0 in
    ap₂ (λ a b. a || b) (apart n k (λ e. absurd (omega arith))) (below_none n (suc k) ks from.1 (omega arith))

from_next : (n : ℕ) (ks : List ℕ) → From n ks → has ks n ≡ false → From (suc n) ks
from_next n [] from none = tt
from_next n (k ∷ ks) from none = (by (n == k) refl none, from.1)
  where
    low : n ≤ k
    low = from.0

    by : (b : Bool) → (n == k) ≡ b → (n == k) || has ks n ≡ false → suc n ≤ k
    by true e h = absurd (true≢false (sym (ap (λ x. x || has ks n) e) ∙ h))
    by false e h = grind (arith, nat_tests)

has_self : (k : ℕ) (ks : List ℕ) → has (k ∷ ks) k ≡ true
has_self k ks = ap (λ b. b || has ks k) (eq-eqb k k refl)

-- places in order that are those of the hosts that pass give those hosts in order
in_order : {R : Type 0} (p : Host → Bool) (f : Host → R) (hosts : List Host) (n : ℕ) (g : ℕ → Option R) (ks : List ℕ) → From n ks
    → ((i m : ℕ) → m ≡ n + i → g m ≡ option_map f (slice_get hosts i))
    → ((i m : ℕ) → m ≡ n + i → has ks m ≡ option_map_or p (slice_get hosts i) false)
    → filter_map g ks ≡ map f (filter p hosts)
in_order p f [] n g [] from gives says = refl
in_order p f [] n g (k ∷ ks) from gives says =
    let low : n ≤ k = from.0 in
    absurd (true≢false (sym (has_self k ks) ∙ says (k - n) k (omega arith)))
in_order {R} p f (h ∷ hosts) n g ks from gives says = by (λ js a b. in_order p f hosts (suc n) g js a next b) (p h) refl ks from
    says
  where
    next : (i m : ℕ) → m ≡ suc n + i → g m ≡ option_map f (slice_get hosts i)
    next i m e = gives (suc i) m (omega arith)

    by : ((js : List ℕ) → From (suc n) js → ((i m : ℕ) → m ≡ suc n + i → has js m ≡ option_map_or p (slice_get hosts i) false)
        → filter_map g js ≡ map f (filter p hosts))
        → (b : Bool) → p h ≡ b → (js : List ℕ) → From n js
        → ((i m : ℕ) → m ≡ n + i → has js m ≡ option_map_or p (slice_get (h ∷ hosts) i) false)
        → filter_map g js ≡ map f (cond (p h) (h ∷ filter p hosts) (filter p hosts))
    by ih true e [] from says = absurd (true≢false (sym e ∙ sym (says 0 n (omega arith))))
    by ih true e (k ∷ js) from says = pick (n == k) refl
      where
        pick : (c : Bool) → (n == k) ≡ c → filter_map g (k ∷ js) ≡ map f (cond (p h) (h ∷ filter p hosts) (filter p hosts))
        pick true q =
            let same : n ≡ k = eqb-true n k q in
            let later : From (suc n) js = subst (λ m. From (suc m) js) (sym same) from.1 in
            ap (λ o. cons_option o (filter_map g js)) (gives 0 k (omega arith))
            ∙ ap (λ rs. f h ∷ rs)
            (ih js later (λ i m r. sym (ap (λ b. b || has js m) (apart m k (λ z. absurd (omega arith))))
            ∙ says (suc i) m (omega arith)))
            ∙ ap (λ b. map f (cond b (h ∷ filter p hosts) (filter p hosts))) (sym e)
        pick false q =
            let low : n ≤ k = from.0 in
            let missing : has (k ∷ js) n ≡ false = ap₂ (λ a b. a || b) q (below_none n (suc k) js from.1 (omega arith)) in
            absurd (true≢false (sym e ∙ sym (says 0 n (omega arith)) ∙ missing))
    by ih false e js from says =
        let none : has js n ≡ false = says 0 n (omega arith) ∙ e in
        ih js (from_next n js from none) (λ i m r. says (suc i) m (omega arith))
        ∙ ap (λ b. map f (cond b (h ∷ filter p hosts) (filter p hosts))) (sym e)

abbrev Pair : Type 0
Pair = ℕ × ℕ

-- the places among the pairs of an address that are below a number
abbrev places_of : ℕ → ℕ → List Pair → List ℕ
places_of bits n owners = map (λ q. q.1) (filter (is_below bits n) owners)

abbrev is_there : ℕ → ℕ → List Pair → Bool
is_there bits i owners = list_any (λ r. is_eq (owner_cmp nat_cmp (bits, i) r)) owners

-- a pair among others
pair_there : (bits : ℕ) (q : Pair) (owners : List Pair) → (bits == q.0) ≡ true → is_there bits q.1 (q ∷ owners) ≡ true
pair_there bits q owners e =
    ap (λ b. b || is_there bits q.1 owners) (tied_bits bits q.0 q.1 q.1 ∙ ap₂ (λ x y. x && y) e (eq-eqb q.1 q.1 refl))

pair_behind : (bits i : ℕ) (p : Pair) (owners : List Pair) → is_there bits i owners ≡ true → is_there bits i (p ∷ owners) ≡ true
pair_behind bits i p owners h = by (is_eq (owner_cmp nat_cmp (bits, i) p))
  where
    by : (b : Bool) → b || is_there bits i owners ≡ true
    by true = refl
    by false = h

-- where all places of an address are below a number, they are those of its pairs
places_have : (bits n : ℕ) (owners : List Pair) → ((i : ℕ) → is_there bits i owners ≡ true → i < n) → (i : ℕ)
    → has (places_of bits n owners) i ≡ is_there bits i owners
places_have bits n [] below i = refl
places_have bits n (q ∷ owners) below i =
    by (places_have bits n owners (λ j h. below j (pair_behind bits j q owners h)) i) (is_below bits n q) refl
  where
    is_same : (b : Bool) → (bits == q.0) ≡ b → is_below bits n q ≡ b
    is_same true e = is_below_by bits n q ∙ ap₂ (λ x y. x && y) e (lt-ltb q.1 n (below q.1 (pair_there bits q owners e)))
    is_same false e = is_below_by bits n q ∙ ap (λ x. x && nat_lt q.1 n) e

    at : (b : Bool) → is_below bits n q ≡ b → is_eq (owner_cmp nat_cmp (bits, i) q) ≡ b && (i == q.1)
    at b e = tied_bits bits q.0 i q.1 ∙ ap (λ s. s && (i == q.1)) (sym (is_same (bits == q.0) refl) ∙ e)

    by : has (places_of bits n owners) i ≡ is_there bits i owners → (b : Bool) → is_below bits n q ≡ b
        → has (map (λ r. r.1) (cond b (q ∷ filter (is_below bits n) owners) (filter (is_below bits n) owners))) i
        ≡ is_there bits i (q ∷ owners)
    by rest true e = ap₂ (λ x y. x || y) (sym (at true e)) rest
    by rest false e = rest ∙ ap (λ x. x || is_there bits i owners) (sym (at false e))

-- the places of an address ascend
same_from : (bits n : ℕ) (q : Pair) → is_below bits n q ≡ true → nat_cmp bits q.0 ≡ Equal
same_from bits n q h =
    equal_from (nat_cmp bits q.0) (sym (unsigned_ties bits q.0)
    ∙ by (bits == q.0) (nat_lt q.1 n) (sym (is_below_by bits n q) ∙ h))
  where
    by : (x y : Bool) → x && y ≡ true → x ≡ true
    by true y e = refl
    by false y e = e

later_place : (bits : ℕ) (p q : Pair) → nat_cmp bits p.0 ≡ Equal → nat_cmp bits q.0 ≡ Equal → owner_cmp nat_cmp p q ≡ Less
    → nat_cmp p.1 q.1 ≡ Less
later_place bits p q p_is q_is h =
    ap (λ o. ordering_then o (nat_cmp p.1 q.1)) (sym q_is ∙ nat_cmp_total.congr bits p.0 q.0 p_is) ∙ h

above_places : (bits n : ℕ) (p : Pair) (owners : List Pair) → nat_cmp bits p.0 ≡ Equal
    → AllByRecursion (λ q. owner_cmp nat_cmp p q ≡ Less) owners
    → AllByRecursion (λ i. nat_cmp p.1 i ≡ Less) (places_of bits n owners)
above_places bits n p [] p_is above = tt
above_places bits n p (q ∷ owners) p_is above = by (above_places bits n p owners p_is above.1) (is_below bits n q) refl
  where
    by : AllByRecursion (λ i. nat_cmp p.1 i ≡ Less) (places_of bits n owners) → (b : Bool) → is_below bits n q ≡ b
        → AllByRecursion (λ i. nat_cmp p.1 i ≡ Less)
        (map (λ r. r.1) (cond b (q ∷ filter (is_below bits n) owners) (filter (is_below bits n) owners)))
    by rest true e = (later_place bits p q p_is (same_from bits n q e) above.0, rest)
    by rest false e = rest

places_sorted : (bits n : ℕ) (owners : List Pair) → IsStrictlySortedBy (owner_cmp nat_cmp) owners
    → IsStrictlySortedBy nat_cmp (places_of bits n owners)
unfolding IsStrictlySortedBy
places_sorted bits n [] sorted = tt
places_sorted bits n (q ∷ owners) sorted = by (places_sorted bits n owners sorted.1) (is_below bits n q) refl
  where
    by : IsStrictlySortedBy nat_cmp (places_of bits n owners) → (b : Bool) → is_below bits n q ≡ b
        → IsStrictlySortedBy nat_cmp
        (map (λ r. r.1) (cond b (q ∷ filter (is_below bits n) owners) (filter (is_below bits n) owners)))
    by rest true e = (above_places bits n q owners (same_from bits n q e) sorted.0, rest)
    by rest false e = rest

-- a place that has an address is that of a host
place_below : (hosts : List Host) (d : DataValue) (i : ℕ) → has_address_at hosts d i ≡ true → i < length hosts
place_below [] d i h = absurd (true≢false (sym h))
place_below (x ∷ hosts) d zero h = omega arith
place_below (x ∷ hosts) d (suc i) h = let rest = place_below hosts d i h in omega arith

gives_at : (owner : NameValue) (hosts : List Host) (i k : ℕ) → k ≡ 0 + i
    → pointer_at owner hosts k ≡ option_map (pointer_to owner) (slice_get hosts i)
gives_at owner hosts i k e = let same : k ≡ i = omega arith in ap (pointer_at owner hosts) same

filter_map_places : {R : Type 0} (g : ℕ → Option R) (owners : List Pair)
    → filter_map (λ q. g q.1) owners ≡ filter_map g (map (λ q. q.1) owners)
filter_map_places g [] = refl
filter_map_places g (q ∷ owners) = ap (cons_option (g q.1)) (filter_map_places g owners)

-- the pairs that the index has for an address give the names that have it, in the order of the table
pub pointers_between : (owner : NameValue) (hosts : List Host) (m : BTreeSet Pair) (bits n : ℕ) (d : DataValue)
    → ((i : ℕ) → has_owner m bits i ≡ has_address_at hosts d i) → n ≡ length hosts → set.IsOrdered (owner_cmp nat_cmp) m
    → filter_map (λ q. pointer_at owner hosts q.1) (owners_below nat_cmp m bits n) ≡ pointers owner (filter (has_address d) hosts)
pointers_between owner hosts m bits n d indexed n_is ordered =
    filter_map_places (pointer_at owner hosts) (owners_below nat_cmp m bits n)
    ∙ in_order (has_address d) (pointer_to owner) hosts 0 (pointer_at owner hosts) (places_of bits n m.keys)
    (from_sorted 0 (places_of bits n m.keys) (places_sorted bits n m.keys ordered) (from_zero (places_of bits n m.keys)))
    (gives_at owner hosts) says
  where
    below : (i : ℕ) → is_there bits i m.keys ≡ true → i < n
    below i h = let short = place_below hosts d i (sym (indexed i) ∙ h) in omega arith

    says : (i k : ℕ) → k ≡ 0 + i → has (places_of bits n m.keys) k ≡ option_map_or (has_address d) (slice_get hosts i) false
    says i k e =
        let same : k ≡ i = omega arith in
        places_have bits n m.keys below k ∙ indexed k ∙ ap (has_address_at hosts d) same

pub if_ok : {T E : Type 0} {P Q : T → Type 0} (r : Result T E) → ((x : T) → P x → Q x) → IfOk r P → IfOk r Q
if_ok (Ok x) f p = f x p
if_ok (Err e) f p = tt

-- what a PTR question gets
pub pointer_none : (q : Query) (rs : List RecordValue) (now : ℕ) → length rs ≡ 0 → None ≡ pointer_lookup q rs now
pointer_none q [] now h = refl
pointer_none q (r ∷ rs) now h = absurd (omega arith)

pub pointer_some : (q : Query) (rs : List RecordValue) (now : ℕ) (l : LookupValue) → (length rs ≡ 0 → ⊥)
    → l ≡ answers_for_day q rs now → Some l ≡ pointer_lookup q rs now
pointer_some q [] now l h is = absurd (h refl)
pointer_some q (r ∷ rs) now l h is = ap Some is

pub has_pointers : (q : Query) (now : ℕ) (owner : NameValue) (hosts seen : List Host) (net : IpNet) (a : IpAddr)
    (rs : List RecordValue) (result : Option LookupValue) → owner ≡ as_fqdn q.name
    → IsArpaNameOf owner net → a ≡ net.addr → rs ≡ pointers owner (filter (has_address (data_of_address a)) hosts) → hosts ≡ seen
    → result ≡ pointer_lookup q rs now
    → HasPointers q now seen result
has_pointers q now owner hosts seen net a rs result owner_is arpa a_is rs_is seen_is is = (
  Some (data_of_address net.addr),
  (net, subst (λ n. IsArpaNameOf n net) owner_is arpa, refl),
  is ∙ ap (λ xs. pointer_lookup q xs now) (rs_is
      ∙ ap₂ (λ n hs. pointers n (filter (has_address (data_of_address a)) hs)) owner_is seen_is
      ∙ ap (λ x. pointers (as_fqdn q.name) (filter (has_address (data_of_address x)) seen)) a_is),
)
