-- The text of a request is a line of a script that asks it again.
use Rattle.std.proofs.Common.{◌≡◌, ◌∙◌, ℕ, ◌<◌, ◌^◌, ◌&&◌, Bool, true, false, cond, List, [], ◌∷◌, ◌++◌, length, drop, codes, ◌==◌, nat_lt, nat_eq, Option, None, Some, Result, Ok, Err, refl, sym, ap, subst, arith, append_assoc}
use Rattle.std.proofs.lemmas.Bool.{and_parts, and_from, ltb-true}
use Rattle.std.proofs.lemmas.Bool.Decides.{nat_tests}
use Rattle.std.proofs.lemmas.Grind.{common_steps}
use Rattle.std.proofs.lemmas.List.{append-nil}
use Rattle.std.proofs.lemmas.Fmt.{digits_decimal, digits_value-decimal, decimal_is_IsNumeral}
use Rattle.std.specs.Char.{is_ascii_digit}
use Rattle.std.specs.Fmt.{decimal}
use Rattle.std.specs.List.{list_all, starts_with}
use Rattle.std.specs.Option.{ok_or, option_map, option_or}
use Rattle.std.specs.Str.{all_ascii_digits}
use Rattle.std.specs.Str.Parse.{digits_value}
use Rattle.hickory_proto_core.specs.Codes.{decimal_below, is_text, type_code, type_named, type_of, type_text, type_of_word, code_after}
use Rattle.hickory_proto_core.specs.DecimalLaws.{decimals}
use Rattle.hickory_proto_core.specs.codes.record_type.RecordType.{RecordType}
use Rattle.hickory_proto_core.specs.codes.record_type.RecordType.TheVariants as type
use Rattle.hickory_resolver_model.specs.Run.{RequestValue, Lookup, LookupIp, ClearLookup, Clear, moment_of}
use Rattle.replay_script.specs.Fields.{is_allowed, is_plain}
use Rattle.replay_script.specs.RequestLine.{asked_by, request_asked, lookup_asked, host_asked, clear_lookup_asked, clear_asked}
use Rattle.replay_script.specs.Words.{◌>>=◌, number_field}
use Rattle.replay_script.specs.Faults.{LineFaultValue, wrong_field}
use Rattle.replay_script.specs.declared.fault.ScriptFault.TheVariants as fault
use Rattle.replay_script.specs.Output.{request_text}
use Rattle.conversation.specs.Texts.{fields_behind}
use Rattle.conversation_journal.proofs.JournalTexts.{IsField, AreFields, line_of, whole_lines}

-- ---- numbers

digit-plain : (b : ℕ) → is_ascii_digit b ≡ true → is_plain b ≡ true
digit-plain b h = grind (arith, nat_tests, common_steps)

digit-allowed : (b : ℕ) → is_ascii_digit b ≡ true → is_allowed b ≡ true
digit-allowed b h = grind (arith, nat_tests, common_steps)

digits-plain : (ds : List ℕ) → all_ascii_digits ds ≡ true → list_all is_plain ds ≡ true
digits-plain [] h = refl
digits-plain (d ∷ ds) h = let parts = and_parts (is_ascii_digit d) (all_ascii_digits ds) h in and_from _ _ (digit-plain d parts.0) (digits-plain ds parts.1)

digits-allowed : (ds : List ℕ) → all_ascii_digits ds ≡ true → list_all is_allowed ds ≡ true
digits-allowed [] h = refl
digits-allowed (d ∷ ds) h = let parts = and_parts (is_ascii_digit d) (all_ascii_digits ds) h in and_from _ _ (digit-allowed d parts.0) (digits-allowed ds parts.1)

number-filled : (n : ℕ) → n < 2 ^ 64 → nat_lt 0 (length (decimal n)) ≡ true
number-filled n h = let some = (decimal_is_IsNumeral n h).0.0 in grind (arith, nat_tests)

number-digits : (n : ℕ) → n < 2 ^ 64 → all_ascii_digits (decimal n) ≡ true
number-digits n h = digits_decimal decimals n h

pub number-field : (n : ℕ) → n < 2 ^ 64 → IsField (decimal n)
number-field n h = record {
  filled = number-filled n h;
  plain = digits-plain (decimal n) (number-digits n h);
  allowed = digits-allowed (decimal n) (number-digits n h);
}

below-again : (limit n : ℕ) → n < 2 ^ 64 → n < limit → decimal_below limit (decimal n) ≡ Some n
below-again limit n h k =
    let value : digits_value 10 (decimal n) ≡ n = digits_value-decimal decimals n h in
    let less : nat_lt n limit ≡ true = grind (arith, nat_tests) in
    rw (number-digits n h, number-filled n h, value, less) refl

pub number-again : (n : ℕ) → n < 2 ^ 64 → number_field 64 (decimal n) ≡ Ok n
number-again n h = ap (λ o. ok_or o (wrong_field fault.BadNumber (decimal n))) (below-again (2 ^ 64) n h h)

below_by : (t : Bool) (limit v n : ℕ) → nat_lt v limit ≡ t → (a : Bool) → cond (a && t) (Some v) None ≡ Some n → n < limit
below_by true limit v n e true is = let same : v ≡ n = cc in subst (λ x. x < limit) same (ltb-true v limit e)
below_by true limit v n e false is = absurd (let h = is in cc)
below_by false limit v n e true is = absurd (let h = is in cc)
below_by false limit v n e false is = absurd (let h = is in cc)

below-below : (limit : ℕ) (ds : List ℕ) (n : ℕ) → decimal_below limit ds ≡ Some n → n < limit
below-below limit ds n is = below_by (nat_lt (digits_value 10 ds) limit) limit (digits_value 10 ds) n refl (all_ascii_digits ds && nat_lt 0 (length ds)) is

-- ---- types

-- the text of a type is a field that names it
pub record IsTyped (t : RecordType) : Type 0 where
  pub named : type_named (type_text (type_code t)) ≡ Some t
  pub field : IsField (type_text (type_code t))

abbrev known : (word : List ℕ) → nat_lt 0 (length word) ≡ true → list_all is_plain word ≡ true → list_all is_allowed word ≡ true → IsField word
known word filled plain allowed = record { filled = filled; plain = plain; allowed = allowed }

typed-A : IsTyped type.A
typed-A = record { named = refl; field = known (codes "A") refl refl refl }

typed-NS : IsTyped type.NS
typed-NS = record { named = refl; field = known (codes "NS") refl refl refl }

typed-CNAME : IsTyped type.CNAME
typed-CNAME = record { named = refl; field = known (codes "CNAME") refl refl refl }

typed-SOA : IsTyped type.SOA
typed-SOA = record { named = refl; field = known (codes "SOA") refl refl refl }

pub typed-PTR : IsTyped type.PTR
typed-PTR = record { named = refl; field = known (codes "PTR") refl refl refl }

typed-MX : IsTyped type.MX
typed-MX = record { named = refl; field = known (codes "MX") refl refl refl }

typed-TXT : IsTyped type.TXT
typed-TXT = record { named = refl; field = known (codes "TXT") refl refl refl }

typed-AAAA : IsTyped type.AAAA
typed-AAAA = record { named = refl; field = known (codes "AAAA") refl refl refl }

typed-SRV : IsTyped type.SRV
typed-SRV = record { named = refl; field = known (codes "SRV") refl refl refl }

typed-CERT : IsTyped type.CERT
typed-CERT = record { named = refl; field = known (codes "CERT") refl refl refl }

typed-TLSA : IsTyped type.TLSA
typed-TLSA = record { named = refl; field = known (codes "TLSA") refl refl refl }

typed-SMIMEA : IsTyped type.SMIMEA
typed-SMIMEA = record { named = refl; field = known (codes "SMIMEA") refl refl refl }

typed-ANY : IsTyped type.ANY
typed-ANY = record { named = refl; field = known (codes "ANY") refl refl refl }

choice : (b : Bool) (x y : RecordType) → IsTyped x → (b ≡ false → IsTyped y) → IsTyped (cond b x y)
choice true x y h k = h
choice false x y h k = k refl

typed-word : (code : ℕ) → code < 2 ^ 16 → type_text code ≡ codes "TYPE" ++ decimal code → type_of code ≡ type.Unknown code → IsTyped (type.Unknown code)
typed-word code h text kind =
    let wide : code < 2 ^ 64 = omega (arith, h) in
    let named : type_named (codes "TYPE" ++ decimal code) ≡ Some (type.Unknown code) = rw (below-again (2 ^ 16) code wide h) (ap (λ t. Some t) kind) in
    let own = number-field code wide in
    record {
      named = ap type_named text ∙ named;
      field = subst IsField (sym text) (record { filled = grind (arith, nat_tests); plain = own.plain; allowed = own.allowed });
    }

pub typed-code : (code : ℕ) → code < 2 ^ 16 → IsTyped (type_of code)
typed-code code h =
    choice (code == 1) type.A _ typed-A (λ h1.
    choice (code == 2) type.NS _ typed-NS (λ h2.
    choice (code == 5) type.CNAME _ typed-CNAME (λ h5.
    choice (code == 6) type.SOA _ typed-SOA (λ h6.
    choice (code == 12) type.PTR _ typed-PTR (λ h12.
    choice (code == 15) type.MX _ typed-MX (λ h15.
    choice (code == 16) type.TXT _ typed-TXT (λ h16.
    choice (code == 28) type.AAAA _ typed-AAAA (λ h28.
    choice (code == 33) type.SRV _ typed-SRV (λ h33.
    choice (code == 37) type.CERT _ typed-CERT (λ h37.
    choice (code == 52) type.TLSA _ typed-TLSA (λ h52.
    choice (code == 53) type.SMIMEA _ typed-SMIMEA (λ h53.
    choice (code == 255) type.ANY _ typed-ANY (λ h255.
    typed-word code h (rw (h1, h2, h5, h6, h12, h15, h16, h28, h33, h37, h52, h53, h255) refl) (rw (h1, h2, h5, h6, h12, h15, h16, h28, h33, h37, h52, h53, h255) refl))))))))))))))

-- ---- requests

-- what is asked can be written in one line
abbrev pub IsWritable : RequestValue → Type 0
IsWritable (Lookup name t now) = (now < 2 ^ 64) × IsField name × IsTyped t
IsWritable (LookupIp host now) = (now < 2 ^ 64) × IsField host
IsWritable (ClearLookup name t now) = (now < 2 ^ 64) × IsField name × IsTyped t
IsWritable (Clear now) = now < 2 ^ 64

-- the fields behind `at`
abbrev pub asked_fields : RequestValue → List (List ℕ)
asked_fields (Lookup name t now) = decimal now ∷ codes "lookup" ∷ name ∷ type_text (type_code t) ∷ []
asked_fields (LookupIp host now) = decimal now ∷ codes "lookup_ip" ∷ host ∷ []
asked_fields (ClearLookup name t now) = decimal now ∷ codes "clear_lookup" ∷ name ∷ type_text (type_code t) ∷ []
asked_fields (Clear now) = decimal now ∷ codes "clear" ∷ []

-- fields, one behind another
abbrev lefts : List ℕ → List (List ℕ) → List ℕ
lefts front [] = front
lefts front (f ∷ fs) = lefts (front ++ codes " " ++ f) fs

lefts-behind : (front : List ℕ) (fs : List (List ℕ)) → lefts front fs ≡ front ++ fields_behind fs
lefts-behind front [] = sym (append-nil front)
lefts-behind front (f ∷ fs) = lefts-behind (front ++ codes " " ++ f) fs ∙ ap (λ x. x ++ fields_behind fs) (append_assoc front (codes " ") f) ∙ append_assoc front (codes " " ++ f) (fields_behind fs)

lefts-text : (q : RequestValue) → request_text q ≡ lefts (codes "at") (asked_fields q) ++ codes "\n"
lefts-text (Lookup name t now) = refl
lefts-text (LookupIp host now) =
    let at : List ℕ = codes "at " ++ decimal now in
    ap (λ x. x ++ host ++ codes "\n") (sym (ap (λ x. x ++ codes " ") (append_assoc at (codes " ") (codes "lookup_ip")) ∙ append_assoc at (codes " lookup_ip") (codes " ")))
lefts-text (ClearLookup name t now) = refl
lefts-text (Clear now) =
    let at : List ℕ = codes "at " ++ decimal now in
    ap (λ x. x ++ codes "\n") (sym (append_assoc at (codes " ") (codes "clear")))

-- the text of a request is one line
pub request-text : (q : RequestValue) → request_text q ≡ whole_lines (line_of (codes "at") (asked_fields q) ∷ [])
request-text q = lefts-text q ∙ ap (λ x. x ++ codes "\n") (lefts-behind (codes "at") (asked_fields q))

pub asked-again : (q : RequestValue) → IsWritable q → request_asked (asked_fields q) ≡ Ok q
asked-again (Lookup name t now) (h, own, typed) = rw (number-again now h, typed.named) refl
asked-again (LookupIp host now) (h, own) = rw (number-again now h) refl
asked-again (ClearLookup name t now) (h, own, typed) = rw (number-again now h, typed.named) refl
asked-again (Clear now) h = rw (number-again now h) refl

pub asked-fields : (q : RequestValue) → IsWritable q → AreFields (asked_fields q)
asked-fields (Lookup name t now) (h, own, typed) = (number-field now h, (known (codes "lookup") refl refl refl, (own, (typed.field, tt))))
asked-fields (LookupIp host now) (h, own) = (number-field now h, (known (codes "lookup_ip") refl refl refl, (own, tt)))
asked-fields (ClearLookup name t now) (h, own, typed) = (number-field now h, (known (codes "clear_lookup") refl refl refl, (own, (typed.field, tt))))
asked-fields (Clear now) h = (number-field now h, (known (codes "clear") refl refl refl, tt))

-- what is asked can be written again
abbrev IfTyped : Option RecordType → Type 0
IfTyped None = Unit {0}
IfTyped (Some t) = IsTyped t

or_word : (b : Bool) (x : RecordType) (o : Option RecordType) → IsTyped x → IfTyped o → IfTyped (cond b (Some x) o)
or_word true x o h k = h
or_word false x o h k = k

typed-of_word : (w : List ℕ) → IfTyped (type_of_word w)
typed-of_word w =
    or_word (is_text (codes "A") w) type.A _ typed-A (
    or_word (is_text (codes "NS") w) type.NS _ typed-NS (
    or_word (is_text (codes "CNAME") w) type.CNAME _ typed-CNAME (
    or_word (is_text (codes "SOA") w) type.SOA _ typed-SOA (
    or_word (is_text (codes "PTR") w) type.PTR _ typed-PTR (
    or_word (is_text (codes "MX") w) type.MX _ typed-MX (
    or_word (is_text (codes "TXT") w) type.TXT _ typed-TXT (
    or_word (is_text (codes "AAAA") w) type.AAAA _ typed-AAAA (
    or_word (is_text (codes "SRV") w) type.SRV _ typed-SRV (
    or_word (is_text (codes "CERT") w) type.CERT _ typed-CERT (
    or_word (is_text (codes "TLSA") w) type.TLSA _ typed-TLSA (
    or_word (is_text (codes "SMIMEA") w) type.SMIMEA _ typed-SMIMEA (
    or_word (is_text (codes "ANY") w) type.ANY None typed-ANY tt))))))))))))

code_by : (t : Bool) (ds : List ℕ) (code : ℕ) → cond t (decimal_below (2 ^ 16) ds) None ≡ Some code → code < 2 ^ 16
code_by true ds code is = below-below (2 ^ 16) ds code is
code_by false ds code is = absurd (let h = is in cc)

typed-coded : (w : List ℕ) (o : Option ℕ) → code_after (codes "TYPE") w ≡ o → IfTyped (option_map type_of o)
typed-coded w None e = tt
typed-coded w (Some code) e = typed-code code (code_by (starts_with nat_eq w (codes "TYPE")) (drop 4 w) code e)

typed-or : (o p : Option RecordType) → IfTyped o → IfTyped p → IfTyped (option_or o p)
typed-or None p h k = k
typed-or (Some t) p h k = h

pub typed-named : (w : List ℕ) (t : RecordType) → type_named w ≡ Some t → IsTyped t
typed-named w t e =
    let P : Option RecordType → Type 0 = λ o. IfTyped o in
    subst P e (typed-or (type_of_word w) (option_map type_of (code_after (codes "TYPE") w)) (typed-of_word w) (typed-coded w (code_after (codes "TYPE") w) refl))

number_by : (f : LineFaultValue) (o : Option ℕ) (n : ℕ) → ok_or o f ≡ Ok n → o ≡ Some n
number_by f None n is = absurd (let h = is in cc)
number_by f (Some m) n is = let same : m ≡ n = cc in ap (λ x. Some x) same

pub number-below : (text : List ℕ) (n : ℕ) → number_field 64 text ≡ Ok n → n < 2 ^ 64
number-below text n is = below-below (2 ^ 64) text n (number_by (wrong_field fault.BadNumber text) (decimal_below (2 ^ 64) text) n is)

-- it can be written, and is of this moment
abbrev IsWrittenAt : ℕ → RequestValue → Type 0
IsWrittenAt now q = IsWritable q × (moment_of q ≡ now)

abbrev named : List ℕ → List ℕ → Option RecordType → Result (List ℕ × RecordType) LineFaultValue
named name w o = ok_or o (wrong_field fault.UnknownWord w) >>= (λ t. Ok (name, t))

writable-type : (now : ℕ) (name w : List ℕ) (make : List ℕ → RecordType → RequestValue) (o : Option RecordType) (q : RequestValue) → type_named w ≡ o → ((t : RecordType) → IsTyped t → IsWrittenAt now (make name t))
    → (named name w o >>= (λ asked. Ok (make asked.0 asked.1))) ≡ Ok q → IsWrittenAt now q
writable-type now name w make None q e k is = absurd (let h = is in cc)
writable-type now name w make (Some t) q e k is = let same : make name t ≡ q = cc in subst (λ x. IsWrittenAt now x) same (k t (typed-named w t e))

writable-lookup : (now : ℕ) (fs : List (List ℕ)) (q : RequestValue) → now < 2 ^ 64 → AreFields fs → lookup_asked now fs ≡ Ok q → IsWrittenAt now q
writable-lookup now [] q h own is = absurd (let e = is in cc)
writable-lookup now (name ∷ []) q h own is = absurd (let e = is in cc)
writable-lookup now (name ∷ w ∷ []) q h own is = writable-type now name w (λ n t. Lookup n t now) (type_named w) q refl (λ t typed. ((h, own.0, typed), refl)) is
writable-lookup now (name ∷ w ∷ x ∷ fs) q h own is = absurd (let e = is in cc)

writable-clear_lookup : (now : ℕ) (fs : List (List ℕ)) (q : RequestValue) → now < 2 ^ 64 → AreFields fs → clear_lookup_asked now fs ≡ Ok q → IsWrittenAt now q
writable-clear_lookup now [] q h own is = absurd (let e = is in cc)
writable-clear_lookup now (name ∷ []) q h own is = absurd (let e = is in cc)
writable-clear_lookup now (name ∷ w ∷ []) q h own is = writable-type now name w (λ n t. ClearLookup n t now) (type_named w) q refl (λ t typed. ((h, own.0, typed), refl)) is
writable-clear_lookup now (name ∷ w ∷ x ∷ fs) q h own is = absurd (let e = is in cc)

writable-host : (now : ℕ) (fs : List (List ℕ)) (q : RequestValue) → now < 2 ^ 64 → AreFields fs → host_asked now fs ≡ Ok q → IsWrittenAt now q
writable-host now [] q h own is = absurd (let e = is in cc)
writable-host now (host ∷ []) q h own is = let same : LookupIp host now ≡ q = cc in subst (λ x. IsWrittenAt now x) same ((h, own.0), refl)
writable-host now (host ∷ x ∷ fs) q h own is = absurd (let e = is in cc)

writable-clear : (now : ℕ) (fs : List (List ℕ)) (q : RequestValue) → now < 2 ^ 64 → clear_asked now fs ≡ Ok q → IsWrittenAt now q
writable-clear now [] q h is = let same : Clear now ≡ q = cc in subst (λ x. IsWrittenAt now x) same (h, refl)
writable-clear now (x ∷ fs) q h is = absurd (let e = is in cc)

writable-verb : (verb : List ℕ) (a b c d : Bool) (now : ℕ) (fs : List (List ℕ)) (q : RequestValue) → now < 2 ^ 64 → AreFields fs
    → cond a (lookup_asked now fs) (cond b (host_asked now fs) (cond c (clear_lookup_asked now fs) (cond d (clear_asked now fs) (Err (wrong_field fault.UnknownWord verb))))) ≡ Ok q → IsWrittenAt now q
writable-verb verb true b c d now fs q h own is = writable-lookup now fs q h own is
writable-verb verb false true c d now fs q h own is = writable-host now fs q h own is
writable-verb verb false false true d now fs q h own is = writable-clear_lookup now fs q h own is
writable-verb verb false false false true now fs q h own is = writable-clear now fs q h is
writable-verb verb false false false false now fs q h own is = absurd (let e = is in cc)

writable-at : (moment verb : List ℕ) (fs : List (List ℕ)) (r : Result ℕ LineFaultValue) (q : RequestValue) → number_field 64 moment ≡ r → AreFields fs → (r >>= (λ now. asked_by now verb fs)) ≡ Ok q → IsWritable q × (number_field 64 moment ≡ Ok (moment_of q))
writable-at moment verb fs (Ok now) q e own is =
    let w = writable-verb verb (is_text (codes "lookup") verb) (is_text (codes "lookup_ip") verb) (is_text (codes "clear_lookup") verb) (is_text (codes "clear") verb) now fs q (number-below moment now e) own is in
    (w.0, e ∙ ap (λ n. Ok n) (sym w.1))
writable-at moment verb fs (Err f) q e own is = absurd (let h = is in cc)

-- the moment is the first field
abbrev pub IsMoment : List (List ℕ) → ℕ → Type 0
IsMoment [] now = ⊥
IsMoment (moment ∷ behind) now = number_field 64 moment ≡ Ok now

pub writable : (given : List (List ℕ)) (q : RequestValue) → AreFields given → request_asked given ≡ Ok q → IsWritable q × IsMoment given (moment_of q)
writable [] q own is = absurd (let e = is in cc)
writable (moment ∷ []) q own is = absurd (let e = is in cc)
writable (moment ∷ verb ∷ fs) q own is = writable-at moment verb fs (number_field 64 moment) q refl own.1.1 is
