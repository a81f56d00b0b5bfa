-- Pairs of names and addresses, put in one after the other.
use Rattle.std.proofs.Common.{◌≡◌, ◌↔◌, MatchOption, ℕ, ◌<◌, ◌+◌, zero, suc, Bool, true, false, ◌&&◌, nat_lt, List, [], ◌∷◌, ◌++◌, length, take, get_or, Option, None, Some, Result, Ok, Err, refl, sym, ap, ap₂, subst, ◌∙◌, inl, inr, true≢false, add-one, codes, decimal, arith}
use Rattle.std.specs.List.{list_all}
use Rattle.std.specs.Option.{option_to_list}
use Rattle.std.specs.Char.{is_ascii, digit_value}
use Rattle.std.specs.Str.{chars, IsUtf8}
use Rattle.std.specs.Str.Parse.{AllDigits}
use Rattle.std.specs.Net.Grammar.{IsDotted, IsGroupsAfter}
use Rattle.std.specs.declared.net.IpAddr.{IpAddr}
use Rattle.std.specs.declared.net.IpAddr.TheVariants.{V4, V6}
use Rattle.std.proofs.lemmas.Fmt.{IsAscii-decimal}
use Rattle.std.proofs.lemmas.Bool.Decides.{nat_tests}
use Rattle.hickory_proto_core.specs.Name.{NameValue}
use Rattle.hickory_proto_core.specs.Records.{DataValue, data_of_address}
use Rattle.hickory_proto_core.specs.Addresses.{IsAddressText}
use Rattle.hickory_resolver_model.specs.Hosts.{Host, AreNames, AreLinePairs, IsAddressField, insert_host, insert_pairs, line_fields, one_address, address_type, as_fqdn}
use Rattle.hickory_resolver_hosts.specs.Reading.{Pair, pairs_of, AreNamesRead, IsNameField, IsLineRead}
use Rattle.hickory_resolver_hosts.specs.declared.hosts_error.HostsError.{HostsError}
use Rattle.hickory_resolver_hosts.specs.declared.hosts_error.HostsError.TheVariants.{Read, InvalidData, OutOfMemory}
use Rattle.hickory_resolver_hosts.proofs.FieldTexts.{all_ascii, ascii_all, chars_of_ascii, text_of_ascii}

pub pairs_in_turn : (now : ℕ) (ps qs : List Pair) (hosts : List Host) → insert_pairs now (ps ++ qs) hosts ≡ insert_pairs now qs (insert_pairs now ps hosts)
pairs_in_turn now [] qs hosts = refl
pairs_in_turn now (p ∷ ps) qs hosts = pairs_in_turn now ps qs (insert_host p.0 (address_type p.1) (one_address (as_fqdn p.0) p.1 now) now hosts)

pairs_joined : (d : DataValue) (ns ms : List NameValue) → pairs_of d (ns ++ ms) ≡ pairs_of d ns ++ pairs_of d ms
pairs_joined d [] ms = refl
pairs_joined d (n ∷ ns) ms = ap (λ ps. (n, d) ∷ ps) (pairs_joined d ns ms)

-- the front of a list up to an element, and the whole
pub more_at : {X : Type 0} (xs : List X) (k : ℕ) (x : X) → (k < length xs) × (x ≡ get_or xs k x) → take (suc k) xs ≡ take k xs ++ x ∷ []
more_at [] k x h = absurd (omega (arith, h.0))
more_at (y ∷ ys) zero x h = ap (λ z. z ∷ []) (sym h.1)
more_at (y ∷ ys) (suc k) x h = let short = h.0 in ap (λ zs. y ∷ zs) (more_at ys k x (omega arith, h.1))

pub take_whole : {X : Type 0} (k : ℕ) (xs : List X) → k ≡ length xs → take k xs ≡ xs
take_whole zero [] h = refl
take_whole zero (x ∷ xs) h = absurd (omega arith)
take_whole (suc k) [] h = absurd (omega arith)
take_whole (suc k) (x ∷ xs) h = ap (λ ys. x ∷ ys) (take_whole k xs (omega arith))

names_push : (fs : List (List ℕ)) (f : List ℕ) (found : Option NameValue) (names : List NameValue) → AreNames fs names → IsNameField f found → AreNames (fs ++ f ∷ []) (names ++ option_to_list found)
names_push [] f None names h none = inr (none, ap (λ ns. ns ++ []) h)
names_push [] f (Some n) names h some = inl (n, [], some.0, some.1, ap (λ ns. ns ++ n ∷ []) h, refl)
names_push (g ∷ fs) f found names (inl (n, ns, a, s, e, rest)) is = inl (n, ns ++ option_to_list found, a, s, ap (λ ms. ms ++ option_to_list found) e, names_push fs f found ns rest is)
names_push (g ∷ fs) f found names (inr (x, rest)) is = inr (x, names_push fs f found names rest is)

append_none : {A : Type 0} (xs : List A) → xs ++ [] ≡ xs
append_none [] = refl
append_none (x ∷ xs) = ap (λ ys. x ∷ ys) (append_none xs)

-- a turn of the loop over the names of a line
abbrev pub AreSoFar : ℕ → DataValue → List (List ℕ) → List Host → List Host → Type 0
AreSoFar now d fields before after = (found : List NameValue) × AreNames fields found × (after ≡ insert_pairs now (pairs_of d found) before)

pub name_put : (now : ℕ) (d : DataValue) (fs : List (List ℕ)) (k j : ℕ) (f : List ℕ) (n : NameValue) (before middle after : List Host) → (k < length fs) × (f ≡ get_or fs k f) → j ≡ k + 1
    → AreSoFar now d (take k fs) before middle → IsNameField f (Some n) → after ≡ insert_host n (address_type d) (one_address (as_fqdn n) d now) now middle → AreSoFar now d (take j fs) before after
name_put now d fs k j f n before middle after here next sofar is insert_entry = (
  sofar.0 ++ n ∷ [],
  subst (λ gs. AreNames gs (sofar.0 ++ n ∷ [])) (sym (ap (λ i. take i fs) (next ∙ add-one k) ∙ more_at fs k f here)) (names_push (take k fs) f (Some n) sofar.0 sofar.1 is),
  insert_entry ∙ ap (insert_host n (address_type d) (one_address (as_fqdn n) d now) now) sofar.2
      ∙ sym (ap (λ ps. insert_pairs now ps before) (pairs_joined d sofar.0 (n ∷ [])) ∙ pairs_in_turn now (pairs_of d sofar.0) ((n, d) ∷ []) before),
)

pub name_passed : (now : ℕ) (d : DataValue) (fs : List (List ℕ)) (k j : ℕ) (f : List ℕ) (before middle after : List Host) → (k < length fs) × (f ≡ get_or fs k f) → j ≡ k + 1
    → AreSoFar now d (take k fs) before middle → IsNameField f None → after ≡ middle → AreSoFar now d (take j fs) before after
name_passed now d fs k j f before middle after here next sofar is same = (
  sofar.0,
  subst (λ ns. AreNames (take j fs) ns) (append_none sofar.0)
      (subst (λ gs. AreNames gs (sofar.0 ++ [])) (sym (ap (λ i. take i fs) (next ∙ add-one k) ∙ more_at fs k f here)) (names_push (take k fs) f None sofar.0 sofar.1 is)),
  same ∙ sofar.2,
)

pub none_left : (fs : List (List ℕ)) → length fs ≡ 0 → fs ≡ []
none_left [] h = refl
none_left (f ∷ fs) h = absurd (omega arith)

-- all the names of a line are put in
pub names_all : (now : ℕ) (d : DataValue) (fs : List (List ℕ)) (k : ℕ) (before after : List Host) → k ≡ length fs → AreSoFar now d (take k fs) before after → AreNamesRead now d fs before (Ok tt) after
names_all now d fs k before after done sofar = (sofar.0, subst (λ gs. AreNames gs sofar.0) (take_whole k fs done) sofar.1, sofar.2)

-- the texts of addresses are ASCII
both_ascii : (xs ys : List ℕ) → list_all is_ascii xs ≡ true → list_all is_ascii ys ≡ true → list_all is_ascii (xs ++ ys) ≡ true
both_ascii [] ys h k = k
both_ascii (x ∷ xs) ys h k = by (λ e. both_ascii xs ys e k) (is_ascii x) h
  where
    by : (list_all is_ascii xs ≡ true → list_all is_ascii (xs ++ ys) ≡ true) → (b : Bool) → b && list_all is_ascii xs ≡ true → b && list_all is_ascii (xs ++ ys) ≡ true
    by rest true e = rest e
    by rest false e = e

decimal_ascii : (n : ℕ) → n < 256 → list_all is_ascii (decimal n) ≡ true
decimal_ascii n h = ascii_all (decimal n) (IsAscii-decimal n (omega arith))

digit_low : (c : ℕ) → digit_value c < 16 → is_ascii c ≡ true
digit_low c h = by (nat_lt c 128) refl
  where
    by : (b : Bool) → nat_lt c 128 ≡ b → nat_lt c 128 ≡ true
    by true e = e
    by false e = absurd (grind (arith, nat_tests))

digits_ascii : (text : List ℕ) → AllDigits 16 text → list_all is_ascii text ≡ true
digits_ascii [] h = refl
digits_ascii (c ∷ cs) h = ap₂ (λ a b. a && b) (digit_low c h.0) (digits_ascii cs h.1)

dotted_ascii : (text octets : List ℕ) → IsDotted text octets → list_all is_ascii text ≡ true
dotted_ascii text octets h =
    ap (list_all is_ascii) h.spelled
    ∙ both_ascii (decimal h.a ++ codes "." ++ decimal h.b ++ codes "." ++ decimal h.c ++ codes ".") (decimal h.d)
    (both_ascii (decimal h.a ++ codes "." ++ decimal h.b ++ codes "." ++ decimal h.c) (codes ".")
    (both_ascii (decimal h.a ++ codes "." ++ decimal h.b ++ codes ".") (decimal h.c)
    (both_ascii (decimal h.a ++ codes "." ++ decimal h.b) (codes ".")
    (both_ascii (decimal h.a ++ codes ".") (decimal h.b) (both_ascii (decimal h.a) (codes ".") (decimal_ascii h.a h.fit.0) refl) (decimal_ascii h.b h.fit.1)) refl)
    (decimal_ascii h.c h.fit.2)) refl) (decimal_ascii h.d h.fit.3)

groups_ascii : (ipv4 : Bool) (lead text segments : List ℕ) → list_all is_ascii lead ≡ true → IsGroupsAfter ipv4 lead text segments → list_all is_ascii text ≡ true
groups_ascii ipv4 lead text [] low h = ap (list_all is_ascii) h
groups_ascii ipv4 lead text (s ∷ segments) low (inl (group, rest, spelled, is, more)) =
    ap (list_all is_ascii) spelled ∙ both_ascii (lead ++ group) rest (both_ascii lead group low (digits_ascii group is.0.0.1)) (groups_ascii ipv4 (codes ":") rest segments refl more)
groups_ascii ipv4 lead text (s ∷ segments) low (inr (last, octets, allowed, spelled, is, value)) =
    ap (list_all is_ascii) spelled ∙ both_ascii lead last low (dotted_ascii last octets is)

pub address_ascii : (text : List ℕ) (a : IpAddr) → IsAddressText text a → list_all is_ascii text ≡ true
address_ascii text (V4 a) h = dotted_ascii text _ h
address_ascii text (V6 a) (inl (groups, whole)) = groups_ascii true [] text _ refl groups
address_ascii text (V6 a) (inr elided) =
    ap (list_all is_ascii) elided.spelled
    ∙ both_ascii (elided.head_text ++ codes "::") elided.tail_text (both_ascii elided.head_text (codes "::") (groups_ascii false [] elided.head_text elided.head refl elided.head_groups) refl)
    (groups_ascii true [] elided.tail_text elided.tail refl elided.tail_groups)

-- a field that is an address, or none
pub address_field : (bytes : List ℕ) (a : IpAddr) → IsUtf8 bytes → IsAddressText bytes a → IsAddressField (chars bytes) (data_of_address a)
address_field bytes a u h =
    let same : chars bytes ≡ bytes = chars_of_ascii bytes u (all_ascii bytes (address_ascii bytes a h)) in
    (a, subst (λ t. IsAddressText t a) (sym same) h, refl)

pub no_address_field : (bytes : List ℕ) → IsUtf8 bytes → ((a : IpAddr) → IsAddressText bytes a → ⊥) → (d : DataValue) → IsAddressField (chars bytes) d → ⊥
no_address_field bytes u none d h =
    let same : chars bytes ≡ bytes = text_of_ascii bytes u (address_ascii (chars bytes) h.0 h.1) in
    none h.0 (subst (λ t. IsAddressText t h.0) same h.1)

pub line_empty : (now : ℕ) (line : List ℕ) (hosts : List Host) → IsUtf8 line → line_fields line ≡ [] → IsLineRead now line hosts (Ok tt) hosts
line_empty now line hosts u none = (u, ([], subst (λ fs. AreLinePairs fs []) (sym none) refl, refl))

pub line_without : (now : ℕ) (line f : List ℕ) (fs : List (List ℕ)) (hosts : List Host) → IsUtf8 line → line_fields line ≡ f ∷ fs → ((d : DataValue) → IsAddressField f d → ⊥) → IsLineRead now line hosts (Ok tt) hosts
line_without now line f fs hosts u is none = (u, ([], subst (λ gs. AreLinePairs gs []) (sym is) (inr (none, refl)), refl))

pub line_of_names : (now : ℕ) (line f : List ℕ) (fs : List (List ℕ)) (d : DataValue) (before after : List Host) (result : Result (Unit {0}) HostsError) → IsUtf8 line → line_fields line ≡ f ∷ fs
    → IsAddressField f d → AreNamesRead now d fs before result after → IsLineRead now line before result after
line_of_names now line f fs d before after (Ok x) u is address (names, named, insert_entry) =
    (u, (pairs_of d names, subst (λ gs. AreLinePairs gs (pairs_of d names)) (sym is) (inl (d, names, address, named, refl)), insert_entry))
line_of_names now line f fs d before after (Err Read) u is address (out, rest) = let e : true ≡ false = cc in absurd (true≢false e)
line_of_names now line f fs d before after (Err InvalidData) u is address (out, rest) = let e : true ≡ false = cc in absurd (true≢false e)
line_of_names now line f fs d before after (Err OutOfMemory) u is address (out, (count, names, named, insert_entry)) =
    (pairs_of d names, (u, (suc count, subst (λ gs. AreLinePairs (take (suc count) gs) (pairs_of d names)) (sym is) (inl (d, names, address, named, refl)))), insert_entry)

pub address_read : (bytes : List ℕ) → IsUtf8 bytes → (r : Option IpAddr) → ((a : IpAddr) → (r ≡ Some a) ↔ IsAddressText bytes a)
    → MatchOption r ((d : DataValue) → IsAddressField (chars bytes) d → ⊥) (λ a. IsAddressField (chars bytes) (data_of_address a))
address_read bytes u None says = no_address_field bytes u (λ a h. let gone : None ≡ Some a = (says a).1 h in let e : true ≡ false = cc in true≢false e)
address_read bytes u (Some a) says = address_field bytes a u ((says a).0 refl)
