-- Which addresses records give, and the index after they are told to it.
use Rattle.std.proofs.Common.{◌≡◌, ℕ, ◌<◌, ◌+◌, Bool, true, false, not, ◌||◌, ◌&&◌, ◌==◌, List, [], ◌∷◌, ◌++◌, Option, Result, Ok, Err, OnOk, OnErr, is_err, is_ok, cond, length, take, drop, get_or, Some, refl, sym, ap, ap₂, ◌∙◌, true≢false}
use Rattle.std.specs.Bool.{then_some}
use Rattle.std.specs.List.{list_any}
use Rattle.std.specs.Option.{option_map_or}
use Rattle.std.specs.declared.net.IpAddr.{IpAddr}
use Rattle.std.specs.declared.net.IpAddr.TheVariants.{V4, V6}
use Rattle.std.proofs.lemmas.List.{take-append-drop}
use Rattle.std.proofs.lemmas.List.Folds.{list_any_more, list_any-append}
use Rattle.std.proofs.lemmas.Bool.{eqb-true, eq-eqb}
use Rattle.hickory_proto_core.specs.Records.{RecordValue, data_eq, data_of, data_of_address, address_of}
use Rattle.hickory_proto_core.specs.declared.record_data.RData.{RData}
use Rattle.hickory_proto_core.specs.declared.record_data.RData.TheVariants.{A, AAAA, CNAME, NS, PTR, SOA, SRV, MX, TXT, Unknown}
use Rattle.hickory_proto_core.specs.codes.record_type.RecordType.{RecordType}
use Rattle.hickory_resolver_hosts.specs.Index.{same_address, is_among, is_owner}
use Rattle.hickory_resolver_hosts.specs.declared.owners.Owners.{Owners}
use Rattle.hickory_resolver_hosts.specs.HostsTable.{gives, is_given, is_of_family}
use Rattle.hickory_resolver_hosts.proofs.IndexChanges.{owner_alike}

and_true : (x : Bool) → x && true ≡ x
and_true true = refl
and_true false = refl

pub and_false : (x : Bool) → x && false ≡ false
and_false true = refl
and_false false = refl

-- the data of an address
data_of_found : (d : RData) (k : IpAddr) → address_of d ≡ Some k → data_of d ≡ data_of_address k
data_of_found (A x) k h = let e : V4 x ≡ k = cc in ap data_of_address e
data_of_found (AAAA x) k h = let e : V6 x ≡ k = cc in ap data_of_address e
data_of_found (CNAME x) k h = cc
data_of_found (NS x) k h = cc
data_of_found (PTR x) k h = cc
data_of_found (SOA a b c d e f g) k h = cc
data_of_found (SRV a b c d) k h = cc
data_of_found (MX a b) k h = cc
data_of_found (TXT x) k h = cc
data_of_found (Unknown a b) k h = cc

-- equal addresses are of one family
same_family : (t : RecordType) (k a : IpAddr) → data_eq (data_of_address a) (data_of_address k) ≡ true
    → is_of_family t a ≡ is_of_family t k
same_family t (V4 k) (V4 a) h = refl
same_family t (V4 k) (V6 a) h = cc
same_family t (V6 k) (V4 a) h = cc
same_family t (V6 k) (V6 a) h = refl

-- what a record of an address gives
gives_found : (t : RecordType) (r : RecordValue) (k a : IpAddr) → r.rdata ≡ data_of_address k
    → gives t a r ≡ is_of_family t k && data_eq (data_of_address a) (data_of_address k)
gives_found t r k a is =
    ap (λ d. is_of_family t a && data_eq (data_of_address a) d) is
    ∙ by (data_eq (data_of_address a) (data_of_address k)) (same_family t k a)
  where
    by : (b : Bool) → (b ≡ true → is_of_family t a ≡ is_of_family t k) → is_of_family t a && b ≡ is_of_family t k && b
    by true same = ap (λ f. f && true) (same refl)
    by false same = and_false (is_of_family t a) ∙ sym (and_false (is_of_family t k))

pub given_if : (t : RecordType) (r : RecordValue) (d : RData) (k : IpAddr) (o : Option IpAddr) → r.rdata ≡ data_of d
    → address_of d ≡ Some k → o ≡ then_some (is_of_family t k) k → (a : IpAddr)
    → option_map_or (λ x. data_eq (data_of_address a) (data_of_address x)) o false ≡ gives t a r
given_if t r d k o is found says a =
    ap (λ x. option_map_or (λ y. data_eq (data_of_address a) (data_of_address y)) x false) says ∙ by (is_of_family t k)
    ∙ sym (gives_found t r k a (is ∙ data_of_found d k found))
  where
    by : (b : Bool)
        → option_map_or (λ x. data_eq (data_of_address a) (data_of_address x)) (then_some b k) false
        ≡ b && data_eq (data_of_address a) (data_of_address k)
    by true = refl
    by false = refl

or_false : (x : Bool) → x || false ≡ x
or_false true = refl
or_false false = refl

among_push : (xs : List IpAddr) (k a : IpAddr) → is_among a (xs ++ k ∷ []) ≡ is_among a xs || same_address k a
among_push xs k a = list_any-append (λ x. same_address x a) xs (k ∷ [])
    ∙ ap (λ x. is_among a xs || x) (or_false (same_address k a))

-- an address is new where an equal one is
new_alike : (m : Owners) (k a : IpAddr) (place : ℕ) (g new : Bool) → same_address k a ≡ g → new ≡ not (is_owner m k place)
    → g && new ≡ g && not (is_owner m a place)
new_alike m k a place true new same says = says ∙ ap not (owner_alike m k a place same)
new_alike m k a place false new same says = refl

-- the list of new addresses after one address, which is new or not
pub noted : (m : Owners) (k a : IpAddr) (place : ℕ) (g : Bool) (xs : List IpAddr) → same_address k a ≡ g
    → true ≡ not (is_owner m k place)
    → is_among a (xs ++ k ∷ []) ≡ is_among a xs || (g && not (is_owner m a place))
noted m k a place g xs same says =
    among_push xs k a ∙ ap (λ x. is_among a xs || x) (same ∙ sym (and_true g) ∙ new_alike m k a place g true same says)

pub not_noted : (m : Owners) (k a : IpAddr) (place : ℕ) (g : Bool) (xs : List IpAddr) → same_address k a ≡ g
    → false ≡ not (is_owner m k place)
    → is_among a xs ≡ is_among a xs || (g && not (is_owner m a place))
not_noted m k a place g xs same says =
    sym (or_false (is_among a xs)) ∙ ap (λ x. is_among a xs || x) (sym (and_false g) ∙ new_alike m k a place g false same says)

-- a step of the list of new addresses
pub added_more : (before now : Owners) (place : ℕ) (t : RecordType) (rs : List RecordValue) (i : ℕ) (d r : RecordValue)
    (xs new : List IpAddr) (a : IpAddr) → i < length rs → r ≡ get_or rs i d
    → is_among a xs ≡ is_given t (take i rs) a && not (is_owner before a place)
    → is_owner now a place ≡ is_owner before a place || (is_among a xs && (place == place))
    → is_among a new ≡ is_among a xs || (gives t a r && not (is_owner now a place))
    → is_among a new ≡ is_given t (take (i + 1) rs) a && not (is_owner before a place)
added_more before now place t rs i d r xs new a short is was owners says =
    says ∙ ap (λ o. is_among a xs || (gives t a r && not o))
    (owners ∙ ap (λ h. is_owner before a place || (is_among a xs && h)) (eq-eqb place place refl))
    ∙ by (is_given t (take i rs) a) (gives t a r) (is_owner before a place) (is_among a xs) was
    ∙ ap (λ g. g && not (is_owner before a place))
    (sym (list_any_more (gives t a) rs i d short ∙ ap (λ x. is_given t (take i rs) a || gives t a x) (sym is)))
  where
    by : (g e o x : Bool) → x ≡ g && not o → x || (e && not (o || (x && true))) ≡ (g || e) && not o
    by g e true true h = absurd (true≢false (h ∙ and_false g))
    by g e true false h = and_false e ∙ sym (and_false (g || e))
    by true e false true h = refl
    by true e false false h = absurd (true≢false (sym h))
    by false e false true h = absurd (true≢false h)
    by false e false false h = refl

-- a step of the index that is told of addresses
pub owners_more : (before now after : Owners) (place : ℕ) (g : Bool) (xs new : List IpAddr) (a : IpAddr) (i : ℕ)
    → is_owner now a i ≡ is_owner before a i || (is_among a xs && (place == i))
    → is_among a new ≡ is_among a xs || (g && not (is_owner now a place))
    → is_owner after a i ≡ is_owner now a i || (g && (place == i))
    → is_owner after a i ≡ is_owner before a i || (is_among a new && (place == i))
owners_more before now after place g xs new a i was noted says =
    says ∙ by (is_owner before a i) (is_among a xs) g (is_owner now a i) (is_owner now a place) (place == i) was
    (λ h. ap (is_owner now a) (eqb-true place i h))
    ∙ ap (λ x. is_owner before a i || (x && (place == i))) (sym noted)
  where
    by : (o x e c p h : Bool) → c ≡ o || (x && h) → (h ≡ true → p ≡ c) → c || (e && h) ≡ o || ((x || (e && not p)) && h)
    by o x e c p false is same = ap₂ (λ u v. u || v) (is ∙ ap (λ v. o || v) (and_false x)) (and_false e) ∙ or_false (o || false)
        ∙ ap (λ v. o || v) (sym (and_false (x || (e && not p))))
    by true x e c p true is same = ap (λ u. u || (e && true)) is
    by false true e c p true is same = ap (λ u. u || (e && true)) is
    by false false e c p true is same = ap (λ u. u || (e && true)) is ∙ sym (and_true (e && true))
        ∙ ap (λ v. (e && not v) && true) (sym (same refl ∙ is))

-- the index that forgets what it was told
pub restored : (before now after : Owners) (told : Bool) (place : ℕ) (a : IpAddr) (i : ℕ)
    → (told ≡ true → is_owner before a place ≡ false)
    → is_owner now a i ≡ is_owner before a i || (told && (place == i))
    → is_owner after a i ≡ is_owner now a i && not (told && (place == i))
    → is_owner after a i ≡ is_owner before a i
restored before now after told place a i apart was says =
    says ∙ ap (λ x. x && not (told && (place == i))) was
    ∙ by (is_owner before a i) told (place == i) (λ here p. ap (is_owner before a) (sym (eqb-true place i p)) ∙ apart here)
  where
    by : (o x p : Bool) → (x ≡ true → p ≡ true → o ≡ false) → (o || (x && p)) && not (x && p) ≡ o
    by true true true apart = sym (apart refl refl)
    by true true false apart = refl
    by true false p apart = refl
    by false true true apart = refl
    by false true false apart = refl
    by false false p apart = refl

-- one more record, of those that give addresses
pub given_more : (t : RecordType) (rs : List RecordValue) (i : ℕ) (d r : RecordValue) (a : IpAddr) → i < length rs
    → r ≡ get_or rs i d → is_given t (take (i + 1) rs) a ≡ is_given t (take i rs) a || gives t a r
given_more t rs i d r a short is =
    list_any_more (gives t a) rs i d short ∙ ap (λ x. is_given t (take i rs) a || gives t a x) (sym is)

-- what the first records give, all give
pub given_front : (t : RecordType) (rs : List RecordValue) (i : ℕ) (a : IpAddr) → is_given t (take i rs) a ≡ true
    → is_given t rs a ≡ true
given_front t rs i a h =
    sym (ap (list_any (gives t a)) (take-append-drop i rs)) ∙ list_any-append (gives t a) (take i rs) (drop i rs)
    ∙ ap (λ b. b || is_given t (drop i rs) a) h

-- an index that is told, and one that forgets, of one more record
pub told_more : (o x e h : Bool) → (o || (x && h)) || (e && h) ≡ o || ((x || e) && h)
told_more true x e h = refl
told_more false true true true = refl
told_more false true true false = refl
told_more false true false true = refl
told_more false true false false = refl
told_more false false e h = refl

pub forgot_more : (o x e h : Bool) → (o && not (x && h)) && not (e && h) ≡ o && not ((x || e) && h)
forgot_more false x e h = refl
forgot_more true true true true = refl
forgot_more true true true false = refl
forgot_more true true false true = refl
forgot_more true true false false = refl
forgot_more true false e h = refl

not_both : (h : Bool) → h && not h ≡ false
not_both true = refl
not_both false = refl

-- the index of a place that had no address, once it forgets at least what it was told of it
pub undone : (before now after : Owners) (told all : Bool) (place : ℕ) (a : IpAddr) (i : ℕ)
    → is_owner before a place ≡ false → (told ≡ true → all ≡ true)
    → is_owner now a i ≡ is_owner before a i || (told && (place == i))
    → is_owner after a i ≡ is_owner now a i && not (all && (place == i))
    → is_owner after a i ≡ is_owner before a i
undone before now after told all place a i none more was says =
    says ∙ ap (λ x. x && not (all && (place == i))) was
    ∙ by (is_owner before a i) told all (place == i) (λ here. ap (is_owner before a) (sym (eqb-true place i here)) ∙ none) more
  where
    by : (o x g h : Bool) → (h ≡ true → o ≡ false) → (x ≡ true → g ≡ true) → (o || (x && h)) && not (g && h) ≡ o
    by true x g true apart more = absurd (true≢false (apart refl))
    by true x true false apart more = refl
    by true x false false apart more = refl
    by false true true h apart more = not_both h
    by false true false h apart more = absurd (true≢false (sym (more refl)))
    by false false g h apart more = refl

-- an address that is new was not there, nor any equal one
pub apart_alike : (m : Owners) (k a : IpAddr) (place : ℕ) → true ≡ not (is_owner m k place) → same_address k a ≡ true
    → is_owner m a place ≡ false
apart_alike m k a place says same = sym (owner_alike m k a place same) ∙ by (is_owner m k place) says
  where
    by : (o : Bool) → true ≡ not o → o ≡ false
    by true e = e
    by false e = refl

pub on_ok : {T E P Q : Type 0} (r : Result T E) → (P → Q) → OnOk r P → OnOk r Q
on_ok (Ok x) f p = f p
on_ok (Err e) f p = tt

pub ok_from : {T E P : Type 0} (r : Result T E) → is_err r ≡ false → OnOk r P → P
ok_from (Ok x) h p = p
ok_from (Err e) h p = absurd cc

pub err_from : {T E P : Type 0} (r : Result T E) → is_err r ≡ true → OnErr r P → P
err_from (Ok x) h p = absurd cc
err_from (Err e) h p = p

-- what a push that is not refused leaves
pub pushed : {T E X : Type 0} (r : Result T E) (old new : List X) (x : X) → is_err r ≡ false
    → new ≡ cond (is_ok r) (old ++ x ∷ []) old → new ≡ old ++ x ∷ []
pushed (Ok y) old new x h is = is
pushed (Err e) old new x h is = absurd cc
