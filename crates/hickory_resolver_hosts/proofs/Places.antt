-- A table that gets a look-up: the names in their places, the hosts, and the index.
use Rattle.std.proofs.Common.{◌≡◌, ℕ, ◌+◌, zero, suc, Bool, true, false, cond, not, ◌||◌, ◌&&◌, ◌==◌, List, [], ◌∷◌, ◌++◌, length, map, find, option_and_then, slice_get, Option, None, Some, refl, sym, ap, ap₂, ◌∙◌, arith, if◌then◌else◌}
use Rattle.std.specs.Bool.{beq}
use Rattle.std.specs.List.{list_any, position_or_len, IsDistinct, AllByRecursion}
use Rattle.std.specs.Map.{keys_of, values_of, lookup}
use Rattle.std.specs.Option.{option_map_or}
use Rattle.std.specs.declared.net.IpAddr.{IpAddr}
use Rattle.std.specs.declared.net.IpAddr.TheVariants.{V4, V6}
use Rattle.std.proofs.lemmas.List.Folds.{list_any-append}
use Rattle.std.proofs.lemmas.Bool.{eqb-true}
use Rattle.std.proofs.Math.Dec.{eqb-suc-zero, eqb-zero-suc}
use Rattle.std.proofs.lemmas.Bool.Decides.{nat_tests}
use Rattle.indexmap.specs.IndexMap.{insert_entry}
use Rattle.indexmap.specs.Layout.{set_value_at}
use Rattle.hickory_proto_core.specs.Name.{NameValue, name_eq}
use Rattle.hickory_proto_core.specs.NameLaws.{name_equiv}
use Rattle.hickory_proto_core.specs.Codes.{type_code}
use Rattle.hickory_proto_core.specs.Records.{RecordValue, DataValue, a_data, aaaa_data, cname_data, ns_data, ptr_data, soa_data, srv_data, mx_data, txt_data, unknown_data, data_eq, data_of_address}
use Rattle.hickory_proto_core.specs.codes.record_type.RecordType.{RecordType}
use Rattle.hickory_resolver_model.specs.Lookup.{LookupValue}
use Rattle.hickory_resolver_model.specs.Hosts.{Host, address_type, append, family, has_address, has_answer, insert_host, is_host, as_fqdn, no_addresses, with_lookup}
use Rattle.hickory_resolver_hosts.specs.Index.{is_owner, is_among, EachAddress}
use Rattle.hickory_resolver_hosts.specs.declared.owners.Owners.{Owners}
use Rattle.hickory_resolver_hosts.specs.HostsTable.{host_at, hosts_of, no_lookups, place_in, put_host, has_address_at, IsIndexed, is_given}
use Rattle.hickory_resolver_hosts.specs.declared.host.HostLookups.{HostLookups}
use Rattle.hickory_resolver_hosts.proofs.GivenAddresses.{and_false}
use Rattle.hickory_resolver_hosts.proofs.IndexChanges.{and_with_true, or_with_false}

abbrev Entries : Type 0
Entries = List (NameValue × HostLookups)

-- the place of a name among the keys
pub place_is : (n : NameValue) (es : Entries) → place_in n (hosts_of es) ≡ position_or_len (name_eq n) (keys_of es)
place_is n [] = refl
place_is n (e ∷ es) = by (place_is n es) (name_eq n e.0)
  where
    by : place_in n (hosts_of es) ≡ position_or_len (name_eq n) (keys_of es) → (b : Bool)
        → cond b zero (suc (place_in n (hosts_of es))) ≡ cond (not b) (1 + position_or_len (name_eq n) (keys_of es)) 0
    by rest true = refl
    by rest false = omega arith

-- the look-ups at the place of a name are changed
pub put_at_place : (f : Host → Host) (n : NameValue) (es : Entries) (i : ℕ) (old new : HostLookups) → i ≡ place_in n (hosts_of es) → slice_get (values_of es) i ≡ Some old
    → ((m : NameValue) → host_at m new ≡ f (host_at m old)) → hosts_of (set_value_at es i new) ≡ put_host f n (hosts_of es)
put_at_place f n [] i old new is at says = absurd cc
put_at_place f n (e ∷ es) i old new is at says = by (λ j. put_at_place f n es j old new) (name_eq n e.0) i is at
  where
    by : ((j : ℕ) → j ≡ place_in n (hosts_of es) → slice_get (values_of es) j ≡ Some old → ((m : NameValue) → host_at m new ≡ f (host_at m old)) → hosts_of (set_value_at es j new) ≡ put_host f n (hosts_of es))
        → (b : Bool) (j : ℕ) → j ≡ cond b zero (suc (place_in n (hosts_of es))) → slice_get (e.1 ∷ values_of es) j ≡ Some old
        → hosts_of (set_value_at (e ∷ es) j new) ≡ cond b (f (host_at e.0 e.1) ∷ hosts_of es) (host_at e.0 e.1 ∷ put_host f n (hosts_of es))
    by rest true zero h k = let same : e.1 ≡ old = cc in ap (λ x. x ∷ hosts_of es) (says e.0 ∙ ap (λ l. f (host_at e.0 l)) (sym same))
    by rest true (suc j) h k = absurd (omega arith)
    by rest false zero h k = absurd (omega arith)
    by rest false (suc j) h k = ap (λ hs. host_at e.0 e.1 ∷ hs) (rest j (omega arith) k says)

pub same_at_place : (es : Entries) (i : ℕ) (old new : HostLookups) → slice_get (values_of es) i ≡ Some old → new ≡ old → hosts_of (set_value_at es i new) ≡ hosts_of es
same_at_place [] i old new at is = refl
same_at_place (e ∷ es) zero old new at is = let same : e.1 ≡ old = cc in ap (λ l. host_at e.0 l ∷ hosts_of es) (is ∙ sym same)
same_at_place (e ∷ es) (suc i) old new at is = ap (λ hs. host_at e.0 e.1 ∷ hs) (same_at_place es i old new at is)

-- a new name at the end
pub put_behind : (f : Host → Host) (n : NameValue) (es : Entries) (new : HostLookups) → place_in n (hosts_of es) ≡ length es → host_at n new ≡ f (no_lookups n)
    → hosts_of (insert_entry name_eq es n new) ≡ put_host f n (hosts_of es)
put_behind f n [] new is says = ap (λ h. h ∷ []) says
put_behind f n (e ∷ es) new is says = by (λ k. put_behind f n es new k says) (name_eq n e.0) is
  where
    by : (place_in n (hosts_of es) ≡ length es → hosts_of (insert_entry name_eq es n new) ≡ put_host f n (hosts_of es)) → (b : Bool) → cond b zero (suc (place_in n (hosts_of es))) ≡ suc (length es)
        → hosts_of (cond b ((e.0, new) ∷ es) (e ∷ insert_entry name_eq es n new)) ≡ cond b (f (host_at e.0 e.1) ∷ hosts_of es) (host_at e.0 e.1 ∷ put_host f n (hosts_of es))
    by rest true h = absurd (omega arith)
    by rest false h = ap (λ hs. host_at e.0 e.1 ∷ hs) (rest (omega arith))

-- where no name stands twice, each host of a name is the first one
none_else : (f : Host → Host) (n k : NameValue) (es : Entries) → name_eq n k ≡ true → AllByRecursion (λ m. name_eq k m ≡ false) (keys_of es) → map (λ h. if is_host n h then f h else h) (hosts_of es) ≡ hosts_of es
none_else f n k [] same apart = refl
none_else f n k (e ∷ es) same apart =
    ap₂ (λ b hs. cond b (f (host_at e.0 e.1)) (host_at e.0 e.1) ∷ hs) (name_equiv.congr n k e.0 same ∙ apart.0) (none_else f n k es same apart.1)

abbrev changed : (Host → Host) → NameValue → List Host → List Host
changed f n hosts = if list_any (is_host n) hosts then map (λ h. if is_host n h then f h else h) hosts else hosts ++ f (no_lookups n) ∷ []

pub put_is_changed : (f : Host → Host) (n : NameValue) (es : Entries) → IsDistinct name_eq (keys_of es) → put_host f n (hosts_of es) ≡ changed f n (hosts_of es)
unfolding IsDistinct
put_is_changed f n [] apart = refl
put_is_changed f n (e ∷ es) apart = by (put_is_changed f n es apart.1) (name_eq n e.0) refl
  where
    more : (b : Bool) → host_at e.0 e.1 ∷ cond b (map (λ h. if is_host n h then f h else h) (hosts_of es)) (hosts_of es ++ f (no_lookups n) ∷ [])
        ≡ cond b (host_at e.0 e.1 ∷ map (λ h. if is_host n h then f h else h) (hosts_of es)) (host_at e.0 e.1 ∷ (hosts_of es ++ f (no_lookups n) ∷ []))
    more true = refl
    more false = refl

    by : put_host f n (hosts_of es) ≡ changed f n (hosts_of es) → (b : Bool) → name_eq n e.0 ≡ b
        → cond b (f (host_at e.0 e.1) ∷ hosts_of es) (host_at e.0 e.1 ∷ put_host f n (hosts_of es))
        ≡ cond (b || list_any (is_host n) (hosts_of es)) (cond b (f (host_at e.0 e.1)) (host_at e.0 e.1) ∷ map (λ h. if is_host n h then f h else h) (hosts_of es))
        (host_at e.0 e.1 ∷ (hosts_of es ++ f (no_lookups n) ∷ []))
    by rest true same = ap (λ hs. f (host_at e.0 e.1) ∷ hs) (sym (none_else f n e.0 es same apart.0))
    by rest false same = ap (λ hs. host_at e.0 e.1 ∷ hs) rest ∙ more (list_any (is_host n) (hosts_of es))

marked_same : (n : NameValue) → n.fqdn ≡ true → as_fqdn n ≡ n
marked_same n h = ap (λ b. record n { fqdn = b }) (sym h)

-- what is put in is what the table of the definition gets
pub put_is_insert : (n : NameValue) (t : RecordType) (l : LookupValue) (now : ℕ) (es : Entries) → n.fqdn ≡ true → IsDistinct name_eq (keys_of es)
    → put_host (with_lookup n t l now) n (hosts_of es) ≡ insert_host n t l now (hosts_of es)
put_is_insert n t l now es full apart =
    put_is_changed (with_lookup n t l now) n es apart ∙ ap (λ m. changed (with_lookup m t l now) m (hosts_of es)) (sym (marked_same n full))

-- which addresses the hosts have then
abbrev Adds : (Host → Host) → DataValue → Bool → Type 0
Adds f d more = (h : Host) → has_address d (f h) ≡ has_address d h || more

zero_suc : (i : ℕ) → (zero == suc i) ≡ false
zero_suc i = eqb-zero-suc i

suc_zero : (i : ℕ) → (suc i == zero) ≡ false
suc_zero i = eqb-suc-zero i

suc_suc : (i j : ℕ) → (suc i == suc j) ≡ (i == j)
suc_suc i j = grind (arith, nat_tests)

apart_and : (more b : Bool) → b ≡ false → false ≡ more && b
apart_and more b e = sym (ap (λ x. more && x) e ∙ and_false more)

kept_or : (x more b : Bool) → b ≡ false → x ≡ x || (more && b)
kept_or x more b e = or_with_false x ∙ ap (λ y. x || y) (apart_and more b e)

pub has_after : (f : Host → Host) (n : NameValue) (d : DataValue) (more : Bool) (hosts : List Host) → Adds f d more → (i : ℕ)
    → has_address_at (put_host f n hosts) d i ≡ has_address_at hosts d i || (more && (place_in n hosts == i))
has_after f n (a_data o) more [] adds zero = adds (no_lookups n) ∙ and_with_true more
has_after f n (aaaa_data o) more [] adds zero = adds (no_lookups n) ∙ and_with_true more
has_after f n (cname_data o) more [] adds zero = adds (no_lookups n) ∙ and_with_true more
has_after f n (ns_data o) more [] adds zero = adds (no_lookups n) ∙ and_with_true more
has_after f n (ptr_data o) more [] adds zero = adds (no_lookups n) ∙ and_with_true more
has_after f n (soa_data o a b c d e g) more [] adds zero = adds (no_lookups n) ∙ and_with_true more
has_after f n (srv_data o a b c) more [] adds zero = adds (no_lookups n) ∙ and_with_true more
has_after f n (mx_data o a) more [] adds zero = adds (no_lookups n) ∙ and_with_true more
has_after f n (txt_data o) more [] adds zero = adds (no_lookups n) ∙ and_with_true more
has_after f n (unknown_data o a) more [] adds zero = adds (no_lookups n) ∙ and_with_true more
has_after f n d more [] adds (suc i) = apart_and more (zero == suc i) (zero_suc i)
has_after f n d more (h ∷ hosts) adds i = by (has_after f n d more hosts adds) (is_host n h) i
  where
    by : ((j : ℕ) → has_address_at (put_host f n hosts) d j ≡ has_address_at hosts d j || (more && (place_in n hosts == j))) → (b : Bool) (j : ℕ)
        → has_address_at (cond b (f h ∷ hosts) (h ∷ put_host f n hosts)) d j ≡ has_address_at (h ∷ hosts) d j || (more && (cond b zero (suc (place_in n hosts)) == j))
    by rest true zero = adds h ∙ ap (λ m. has_address d h || m) (and_with_true more)
    by rest true (suc j) = kept_or (has_address_at hosts d j) more (zero == suc j) (zero_suc j)
    by rest false zero = kept_or (has_address d h) more (suc (place_in n hosts) == zero) (suc_zero (place_in n hosts))
    by rest false (suc j) = rest j ∙ ap (λ b. has_address_at hosts d j || (more && b)) (sym (suc_suc (place_in n hosts) j))

-- what a look-up of a type adds to a host
none_given : (rs : List RecordValue) → list_any (λ r. false) rs ≡ false
none_given [] = refl
none_given (r ∷ rs) = none_given rs

or_false_is : (x y : Bool) → y ≡ false → x ≡ x || y
or_false_is x y e = or_with_false x ∙ ap (λ z. x || z) (sym e)

joined_answers : (d : DataValue) (kept : Option LookupValue) (none l : LookupValue) → has_answer d none ≡ false
    → has_answer d (append (option_map_or (λ k. k) kept none) l) ≡ option_map_or (has_answer d) kept false || has_answer d l
joined_answers d None none l e = list_any-append (λ r. data_eq d r.rdata) none.message.answers l.message.answers ∙ ap (λ x. x || has_answer d l) e
joined_answers d (Some k) none l e = list_any-append (λ r. data_eq d r.rdata) k.message.answers l.message.answers

abbrev with_family : Bool → LookupValue → LookupValue → Host → Host
with_family true none l h = record h { a = Some (append (option_map_or (λ k. k) h.a none) l) }
with_family false none l h = record h { aaaa = Some (append (option_map_or (λ k. k) h.aaaa none) l) }

family_is : (n : NameValue) (t : RecordType) (l : LookupValue) (now : ℕ) (h : Host) → with_lookup n t l now h ≡ with_family (type_code t == 1) (no_addresses n t now) l h
family_is n t l now h = by (type_code t == 1)
  where
    by : (b : Bool) → (let joined = Some (append (option_map_or (λ k. k) (cond b h.a h.aaaa) (no_addresses n t now)) l) in cond b (record h { a = joined }) (record h { aaaa = joined }))
        ≡ with_family b (no_addresses n t now) l h
    by true = refl
    by false = refl

family_adds : (b : Bool) (none l : LookupValue) (h : Host) (a : IpAddr) → none.message.answers ≡ []
    → has_address (data_of_address a) (with_family b none l h)
    ≡ has_address (data_of_address a) h || list_any (λ r. beq (type_code (address_type (data_of_address a)) == 1) b && data_eq (data_of_address a) r.rdata) l.message.answers
family_adds true none l h (V4 x) e = joined_answers (data_of_address (V4 x)) h.a none l (ap (list_any (λ r. data_eq (data_of_address (V4 x)) r.rdata)) e)
family_adds true none l h (V6 x) e = or_false_is _ _ (none_given l.message.answers)
family_adds false none l h (V4 x) e = or_false_is _ _ (none_given l.message.answers)
family_adds false none l h (V6 x) e = joined_answers (data_of_address (V6 x)) h.aaaa none l (ap (list_any (λ r. data_eq (data_of_address (V6 x)) r.rdata)) e)

pub lookup_adds : (n : NameValue) (t : RecordType) (l : LookupValue) (now : ℕ) (a : IpAddr) → Adds (with_lookup n t l now) (data_of_address a) (is_given t l.message.answers a)
lookup_adds n t l now a h = ap (has_address (data_of_address a)) (family_is n t l now h) ∙ family_adds (type_code t == 1) (no_addresses n t now) l h a refl

index_step : (own own_place more here : Bool) → (here ≡ true → own ≡ own_place) → own || ((more && not own_place) && here) ≡ own || (more && here)
index_step true p more here same = refl
index_step false true more true same = let e : false ≡ true = same refl in cc
index_step false true more false same = and_false (more && false) ∙ sym (and_false more)
index_step false false more here same = ap (λ x. x && here) (sym (and_with_true more))

-- the index after it is told of all addresses of a look-up
pub told_indexed : (before after : List Host) (m k : Owners) (n : NameValue) (t : RecordType) (l : LookupValue) (now place : ℕ)
    → IsIndexed before m → place ≡ place_in n before → after ≡ put_host (with_lookup n t l now) n before
    → EachAddress (λ a. (i : ℕ) → is_owner k a i ≡ is_owner m a i || (is_given t l.message.answers a && (place == i)))
    → IsIndexed after k
told_indexed before after m k n t l now place indexed place_is after_is owners a is i =
    owners a is i ∙ ap₂ (λ x p. x || (is_given t l.message.answers a && (p == i))) (indexed a is i) place_is
    ∙ sym (has_after (with_lookup n t l now) n (data_of_address a) (is_given t l.message.answers a) before (lookup_adds n t l now a) i)
    ∙ ap (λ hosts. has_address_at hosts (data_of_address a) i) (sym after_is)

-- the index after it is told of those addresses of a look-up that are new
pub indexed_after : (before after : List Host) (m k : Owners) (n : NameValue) (t : RecordType) (l : LookupValue)
    (now place : ℕ) (added : List IpAddr) → IsIndexed before m
    → place ≡ place_in n before → after ≡ put_host (with_lookup n t l now) n before
    → EachAddress (λ a. (i : ℕ) → is_owner k a i ≡ is_owner m a i || (is_among a added && (place == i)))
    → EachAddress (λ a. is_among a added ≡ is_given t l.message.answers a && not (is_owner m a place))
    → IsIndexed after k
indexed_after before after m k n t l now place added indexed place_is after_is owners among =
    told_indexed before after m k n t l now place indexed place_is after_is (λ a is i. owners a is i
    ∙ ap (λ x. is_owner m a i || (x && (place == i))) (among a is)
    ∙ index_step (is_owner m a i) (is_owner m a place) (is_given t l.message.answers a) (place == i) (λ here. ap (is_owner m a) (sym (eqb-true place i here))))

-- no name stands behind the last
pub none_past : (es : Entries) (d : DataValue) (i : ℕ) → i ≡ length es → has_address_at (hosts_of es) d i ≡ false
none_past [] d i is = refl
none_past (e ∷ es) d zero is = absurd (omega arith)
none_past (e ∷ es) d (suc i) is = none_past es d i (omega arith)

-- what is new was not there
pub new_is_apart : (m : Owners) (place : ℕ) (added : List IpAddr) (a : IpAddr) (given : Bool)
    → is_among a added ≡ given && not (is_owner m a place) → is_among a added ≡ true → is_owner m a place ≡ false
new_is_apart m place added a given says among = by given (is_owner m a place) (sym says ∙ among)
  where
    by : (g o : Bool) → g && not o ≡ true → o ≡ false
    by true true e = sym e
    by true false e = refl
    by false o e = absurd cc

-- the look-ups of a name
pub found_family : (t : RecordType) (n m : NameValue) (es : Entries) (o : Option HostLookups) → o ≡ lookup (name_eq n) es
    → option_and_then (λ h. family t (host_at m h)) o ≡ option_and_then (family t) (find (is_host n) (hosts_of es))
found_family t n m es o is = ap (option_and_then (λ h. family t (host_at m h))) is ∙ all es
  where
    all : (fs : Entries) → option_and_then (λ h. family t (host_at m h)) (lookup (name_eq n) fs) ≡ option_and_then (family t) (find (is_host n) (hosts_of fs))
    all [] = refl
    all (e ∷ fs) = by (all fs) (name_eq n e.0)
      where
        by : option_and_then (λ h. family t (host_at m h)) (lookup (name_eq n) fs) ≡ option_and_then (family t) (find (is_host n) (hosts_of fs)) → (b : Bool)
            → option_and_then (λ h. family t (host_at m h)) (cond b (Some e.1) (lookup (name_eq n) fs)) ≡ option_and_then (family t) (cond b (Some (host_at e.0 e.1)) (find (is_host n) (hosts_of fs)))
        by rest true = refl
        by rest false = rest
