-- Characters and bytes of the fields of a line.
use Rattle.std.proofs.Common.{◌≡◌, ◌⊎◌, ℕ, ◌<◌, ◌≤◌, ◌+◌, zero, suc, Bool, true, false, cond, not, ◌&&◌, ◌==◌, List, [], ◌∷◌, ◌++◌, Option, None, Some, length, map, filter, take, drop, refl, sym, ap, ap₂, subst, ◌∙◌, inl, inr, append_assoc, true≢false, length-append, arith}
use Rattle.std.specs.Prelude.{MatchOption, MatchResult, Result, Ok, Err}
use Rattle.std.specs.Bool.{MatchBool}
use Rattle.std.specs.List.{list_all, before_first, prefix_len}
use Rattle.std.specs.Char.{is_ascii, to_ascii_lowercase, is_whitespace, is_not_whitespace, encode_utf8}
use Rattle.std.specs.Str.{chars, all_scalars, encode_utf8_all, EmptyOrStartsWithPassing, IsAscii, IsNotAscii, IsUtf8, NoCharPasses, NonePass}
use Rattle.std.proofs.lemmas.Str.{chars-encodes, encode_same, encodes-IsAscii, len_utf8_bounds, length-encode}
use Rattle.std.proofs.lemmas.Str.Ascii.{IsAscii-cons, IsAscii-nil}
use Rattle.std.proofs.lemmas.Bool.{ltb-true, and_parts}
use Rattle.std.proofs.lemmas.Bool.Decides.{nat_tests}
use Rattle.hickory_proto_core.specs.Name.{NameValue}
use Rattle.hickory_proto_core.specs.NameText.{HasFault, IsUnambiguous, Spells}
use Rattle.hickory_proto_core.specs.names.name_error.NameError.{NameError}
use Rattle.hickory_proto_core.specs.names.name_error.NameError.TheVariants.{OutOfMemory}
use Rattle.hickory_proto_core.specs.ResponseKind.{is_empty}
use Rattle.hickory_resolver_model.specs.Hosts.{cut_at, put_first}
use Rattle.hickory_resolver_hosts.specs.Reading.{IsNameField}
use Rattle.hickory_resolver_hosts.specs.Text.{words}
use Rattle.hickory_resolver_hosts.specs.declared.hosts_error.HostsError.{HostsError}
use Rattle.hickory_resolver_hosts.specs.declared.hosts_error.HostsError.TheVariants as hosts_error

-- a list with an element
abbrev pub is_nonempty : {A : Type 0} → List A → Bool
is_nonempty xs = not (is_empty xs)

nonempty_character : (c : ℕ) (r : List ℕ) → encode_utf8 c ++ r ≡ [] → ⊥
nonempty_character c r h =
    let long : length (encode_utf8 c) + length r ≡ 0 = sym (length-append (encode_utf8 c) r) ∙ ap length h in
    let some : 1 ≤ length (encode_utf8 c) = subst (λ n. 1 ≤ n) (sym (length-encode c)) (len_utf8_bounds c).0 in
    omega arith

-- a text whose characters begin with these
pub strip : (cs ds t : List ℕ) → encode_utf8_all ds ≡ encode_utf8_all cs ++ t → (es : List ℕ) × (ds ≡ cs ++ es) × (encode_utf8_all es ≡ t)
strip [] ds t h = (ds, refl, h)
strip (c ∷ cs) [] t h = absurd (nonempty_character c (encode_utf8_all cs ++ t) (sym (append_assoc (encode_utf8 c) (encode_utf8_all cs) t) ∙ sym h))
strip (c ∷ cs) (d ∷ ds) t h =
    let both = encode_same d c (encode_utf8_all ds) (encode_utf8_all cs ++ t) (h ∙ append_assoc (encode_utf8 c) (encode_utf8_all cs) t) in
    let rest = strip cs ds t both.1 in
    (rest.0, ap₂ (λ x xs. x ∷ xs) both.0 rest.1, rest.2)

ends : (cs : List ℕ) → encode_utf8_all cs ≡ [] → cs ≡ []
ends [] h = refl
ends (c ∷ cs) h = absurd (nonempty_character c (encode_utf8_all cs) h)

append_none : (xs : List ℕ) → xs ++ [] ≡ xs
append_none [] = refl
append_none (x ∷ xs) = ap (λ ys. x ∷ ys) (append_none xs)

same_characters : (cs ds : List ℕ) → encode_utf8_all ds ≡ encode_utf8_all cs → ds ≡ cs
same_characters cs ds h =
    let s = strip cs ds [] (h ∙ sym (append_none (encode_utf8_all cs))) in
    s.1 ∙ ap (λ es. cs ++ es) (ends s.0 s.2) ∙ append_none cs

-- the characters of a text, by the bytes that they make
pub chars_are : (bs cs : List ℕ) → IsUtf8 bs → encode_utf8_all cs ≡ bs → chars bs ≡ cs
chars_are bs cs u e =
    ap chars (sym u.1.1) ∙ chars-encodes u.0 u.1.0 ∙ same_characters cs u.0 (u.1.1 ∙ sym e)

pub chars_make : (bs : List ℕ) → IsUtf8 bs → encode_utf8_all (chars bs) ≡ bs
chars_make bs u = ap encode_utf8_all (ap chars (sym u.1.1) ∙ chars-encodes u.0 u.1.0) ∙ u.1.1

pub ascii_all : (bs : List ℕ) → IsAscii bs → list_all is_ascii bs ≡ true
ascii_all [] h = refl
ascii_all (b ∷ bs) h =
    let low : b < 128 = h 0 in
    let here : is_ascii b ≡ true = grind (arith, nat_tests) in
    ap₂ (λ x y. x && y) here (ascii_all bs (λ i. h (suc i)))

pub all_ascii : (bs : List ℕ) → list_all is_ascii bs ≡ true → IsAscii bs
all_ascii [] h = IsAscii-nil
all_ascii (b ∷ bs) h = let both = and_parts (is_ascii b) (list_all is_ascii bs) h in IsAscii-cons b bs (ltb-true b 128 both.0) (all_ascii bs both.1)

-- ASCII texts are their own characters
pub chars_of_ascii : (bs : List ℕ) → IsUtf8 bs → IsAscii bs → chars bs ≡ bs
chars_of_ascii bs u h = chars_are bs bs u (encodes-IsAscii bs h)

pub ascii_chars : (bs : List ℕ) → IsUtf8 bs → IsAscii bs → list_all is_ascii (chars bs) ≡ true
ascii_chars bs u h = ap (list_all is_ascii) (chars_of_ascii bs u h) ∙ ascii_all bs h

-- a text whose characters are ASCII is its characters
pub text_of_ascii : (bs : List ℕ) → IsUtf8 bs → list_all is_ascii (chars bs) ≡ true → chars bs ≡ bs
text_of_ascii bs u h = sym (encodes-IsAscii (chars bs) (all_ascii (chars bs) h)) ∙ chars_make bs u

pub past_ascii : (bs : List ℕ) → IsUtf8 bs → IsNotAscii bs → list_all is_ascii (chars bs) ≡ false
past_ascii bs u high = by (list_all is_ascii (chars bs)) refl
  where
    by : (b : Bool) → list_all is_ascii (chars bs) ≡ b → list_all is_ascii (chars bs) ≡ false
    by true e =
        let low = all_ascii (chars bs) e high.0 in
        let same = text_of_ascii bs u e in
        absurd (let top = high.1 in let P : List ℕ → Type 0 = λ xs. IsAscii xs in let less = subst P same (all_ascii (chars bs) e) high.0 in omega arith)
    by false e = e

-- what stands before the first such character
none_before : (p : ℕ → Bool) (cs : List ℕ) → NonePass p cs → prefix_len (λ x. not (p x)) cs ≡ length cs
none_before p [] h = refl
none_before p (c ∷ cs) h = ap₂ (λ b n. cond (not b) (1 + n) 0) h.0 (none_before p cs h.1) ∙ omega arith

take_all : (cs : List ℕ) → take (length cs) cs ≡ cs
take_all [] = refl
take_all (c ∷ cs) = ap (λ xs. c ∷ xs) (take_all cs)

pub before_none : (p : ℕ → Bool) (cs : List ℕ) → NonePass p cs → before_first p cs ≡ cs
before_none p cs h = ap (λ n. take n cs) (none_before p cs h) ∙ take_all cs

pub before_one : (p : ℕ → Bool) (cs : List ℕ) (e : ℕ) (es : List ℕ) → NonePass p cs → p e ≡ true → before_first p (cs ++ e ∷ es) ≡ cs
before_one p [] e es h here = ap (λ b. take (cond (not b) (1 + prefix_len (λ x. not (p x)) es) 0) (e ∷ es)) here
before_one p (c ∷ cs) e es h here =
    ap (λ b. take (cond (not b) (1 + prefix_len (λ x. not (p x)) (cs ++ e ∷ es)) 0) (c ∷ (cs ++ e ∷ es))) h.0
    ∙ ap (λ n. take n (c ∷ (cs ++ e ∷ es))) one
    ∙ ap (λ xs. c ∷ xs) (before_one p cs e es h.1 here)
  where
    one : 1 + prefix_len (λ x. not (p x)) (cs ++ e ∷ es) ≡ suc (prefix_len (λ x. not (p x)) (cs ++ e ∷ es))
    one = omega arith

no_words : (cs : List ℕ) → NonePass is_not_whitespace cs → words cs ≡ []
no_words [] h = refl
no_words (c ∷ cs) h = by (no_words cs h.1) (is_whitespace c) refl
  where
    by : words cs ≡ [] → (b : Bool) → is_whitespace c ≡ b → words (c ∷ cs) ≡ []
    by rest true e = ap (λ b. filter is_nonempty (cond b ([] ∷ cut_at is_whitespace cs) (put_first c (cut_at is_whitespace cs)))) e ∙ rest
    by rest false e = absurd (true≢false (sym (ap not e) ∙ h.0))

words_behind : (gs cs : List ℕ) → NonePass is_not_whitespace gs → words (gs ++ cs) ≡ words cs
words_behind [] cs h = refl
words_behind (g ∷ gs) cs h = by (words_behind gs cs h.1) (is_whitespace g) refl
  where
    by : words (gs ++ cs) ≡ words cs → (b : Bool) → is_whitespace g ≡ b → words (g ∷ (gs ++ cs)) ≡ words cs
    by rest true e = ap (λ b. filter is_nonempty (cond b ([] ∷ cut_at is_whitespace (gs ++ cs)) (put_first g (cut_at is_whitespace (gs ++ cs))))) e ∙ rest
    by rest false e = absurd (true≢false (sym (ap not e) ∙ h.0))

cut_word : (xs ts : List ℕ) (rest : List (List ℕ)) → NonePass is_whitespace xs → cut_at is_whitespace ts ≡ [] ∷ rest → cut_at is_whitespace (xs ++ ts) ≡ xs ∷ rest
cut_word [] ts rest h e = e
cut_word (x ∷ xs) ts rest h e =
    ap (λ b. cond b ([] ∷ cut_at is_whitespace (xs ++ ts)) (put_first x (cut_at is_whitespace (xs ++ ts)))) h.0 ∙ ap (put_first x) (cut_word xs ts rest h.1 e)

-- nothing is left, or white space
abbrev AtGap : List ℕ → Type 0
AtGap ts = (ts ≡ []) ⊎ ((e : ℕ) × (es : List ℕ) × (ts ≡ e ∷ es) × (is_whitespace e ≡ true))

word_before : (x : ℕ) (xs ts : List ℕ) → NonePass is_whitespace (x ∷ xs) → AtGap ts → words ((x ∷ xs) ++ ts) ≡ (x ∷ xs) ∷ words ts
word_before x xs ts h (inl none) =
    ap (filter is_nonempty) (cut_word (x ∷ xs) ts [] h (ap (cut_at is_whitespace) none)) ∙ ap (λ l. (x ∷ xs) ∷ words l) (sym none)
word_before x xs ts h (inr (e, es, is, space)) =
    let cut : cut_at is_whitespace ts ≡ [] ∷ cut_at is_whitespace es =
    ap (cut_at is_whitespace) is ∙ ap (λ b. cond b ([] ∷ cut_at is_whitespace es) (put_first e (cut_at is_whitespace es))) space in
    ap (filter is_nonempty) (cut_word (x ∷ xs) ts (cut_at is_whitespace es) h cut) ∙ ap (λ l. (x ∷ xs) ∷ filter is_nonempty l) (sym cut)

scalars_split : (xs ys : List ℕ) → all_scalars (xs ++ ys) ≡ true → (all_scalars xs ≡ true) × (all_scalars ys ≡ true)
scalars_split [] ys h = (refl, h)
scalars_split (x ∷ xs) ys h =
    let both = and_parts _ (all_scalars (xs ++ ys)) h in
    let rest = scalars_split xs ys both.1 in
    (ap₂ (λ a b. a && b) both.0 rest.0, rest.1)

at_gap : (ts rt more : List ℕ) → encode_utf8_all ts ≡ rt → EmptyOrStartsWithPassing is_whitespace rt more → AtGap ts
at_gap [] rt more e h = inl refl
at_gap (t ∷ ts) rt more e h =
    let some : 0 < length rt = subst (λ l. 0 < length l) e (let long = length-append (encode_utf8 t) (encode_utf8_all ts) in
    let first : 1 ≤ length (encode_utf8 t) = subst (λ n. 1 ≤ n) (sym (length-encode t)) (len_utf8_bounds t).0 in omega arith) in
    let starts = h some in
    let same = encode_same t starts.0 (encode_utf8_all ts) more (e ∙ starts.2) in
    inr (t, ts, refl, ap is_whitespace same.0 ∙ starts.1)

-- what a turn of `split_whitespace` gives
abbrev pub SplitTurn : List ℕ → List ℕ → List ℕ → Type 0
SplitTurn all word rest =
    (gap : List ℕ) × (all ≡ gap ++ (word ++ rest)) × (0 < length word)
    × NoCharPasses is_not_whitespace gap × NoCharPasses is_whitespace word × ((more : List ℕ) × EmptyOrStartsWithPassing is_whitespace rest more)

turn_of : (all word rest ds gs xs ts : List ℕ) → IsUtf8 all → encode_utf8_all ds ≡ all → ds ≡ gs ++ (xs ++ ts) → NonePass is_not_whitespace gs → NonePass is_whitespace xs → IsUtf8 word
    → encode_utf8_all xs ≡ word → IsUtf8 rest → encode_utf8_all ts ≡ rest → 0 < length word → AtGap ts → words (chars all) ≡ chars word ∷ words (chars rest)
turn_of all word rest ds gs [] ts u e whole gap plain word_text word_is rest_text rest_is some at = absurd (let long : 0 ≡ length word = ap length word_is in omega arith)
turn_of all word rest ds gs (x ∷ xs) ts u e whole gap plain word_text word_is rest_text rest_is some at =
    ap words (chars_are all ds u e ∙ whole) ∙ words_behind gs ((x ∷ xs) ++ ts) gap ∙ word_before x xs ts plain at
    ∙ ap₂ (λ w l. w ∷ words l) (sym (chars_are word (x ∷ xs) word_text word_is)) (sym (chars_are rest ts rest_text rest_is))

pub split_turn : (all word rest : List ℕ) → IsUtf8 all → SplitTurn all word rest → IsUtf8 rest × (words (chars all) ≡ chars word ∷ words (chars rest))
split_turn all word rest u h =
    let front = strip h.3.0 u.0 (word ++ rest) (u.1.1 ∙ h.1 ∙ ap (λ g. g ++ (word ++ rest)) (sym h.3.1)) in
    let back = strip h.4.0 front.0 rest (front.2 ∙ ap (λ w. w ++ rest) (sym h.4.1)) in
    let whole : u.0 ≡ h.3.0 ++ (h.4.0 ++ back.0) = front.1 ∙ ap (λ es. h.3.0 ++ es) back.1 in
    let parts = scalars_split h.4.0 back.0 (scalars_split h.3.0 (h.4.0 ++ back.0) (ap all_scalars (sym whole) ∙ u.1.0)).1 in
    let rest_text : IsUtf8 rest = (back.0, (parts.1, back.2)) in (
      rest_text,
      turn_of all word rest u.0 h.3.0 h.4.0 back.0 u u.1.1 whole h.3.2 h.4.2 (h.4.0, (parts.0, h.4.1)) h.4.1 rest_text back.2 h.2 (at_gap back.0 rest h.5.0 back.2 h.5.1),
    )

pub split_end : (all : List ℕ) → IsUtf8 all → NoCharPasses is_not_whitespace all → length (words (chars all)) ≡ 0
split_end all u h = ap length (ap words (chars_are all h.0 u h.1) ∙ no_words h.0 h.2)

pub is_ascii_text : (b : Bool) (bs : List ℕ) → MatchBool b (IsAscii bs) (IsNotAscii bs) → b ≡ true → IsAscii bs
is_ascii_text true bs h e = h
is_ascii_text false bs h e = absurd (true≢false (sym e))

pub is_past_ascii : (b : Bool) (bs : List ℕ) → MatchBool b (IsAscii bs) (IsNotAscii bs) → b ≡ false → IsNotAscii bs
is_past_ascii true bs h e = absurd (true≢false e)
is_past_ascii false bs h e = h

-- a text that is no name
pub no_name : (bytes : List ℕ) (error : NameError) → IsUnambiguous bytes → (error ≡ OutOfMemory) ⊎ HasFault bytes error → (error ≡ OutOfMemory → ⊥) → (n : NameValue) → Spells bytes n → ⊥
no_name bytes error only (inl out) differs n spelled = differs out
no_name bytes error only (inr found) differs n spelled = only.not_both n error spelled found

-- the name that a field is, by the text that it is in lower case
pub named_field : (f bytes : List ℕ) (found : Option NameValue) → list_all is_ascii f ≡ true → bytes ≡ map to_ascii_lowercase f
    → MatchOption found ((n : NameValue) → Spells bytes n → ⊥) (Spells bytes) → IsNameField f found
named_field f bytes None plain is none = inr (λ n spelled. none n (subst (λ b. Spells b n) (sym is) spelled))
named_field f bytes (Some n) plain is spelled = (plain, subst (λ b. Spells b n) is spelled)

pub named_by : (f bytes : List ℕ) (r : Result (Option NameValue) HostsError) → list_all is_ascii f ≡ true → bytes ≡ map to_ascii_lowercase f
    → MatchResult r (λ found. MatchOption found ((n : NameValue) → Spells bytes n → ⊥) (Spells bytes)) (λ error. error ≡ hosts_error.OutOfMemory)
    → MatchResult r (IsNameField f) (λ error. error ≡ hosts_error.OutOfMemory)
named_by f bytes (Ok found) plain is h = named_field f bytes found plain is h
named_by f bytes (Err error) plain is h = h

-- ASCII in lower case
pub lower_parts : (bs : List ℕ) → list_all (λ b. is_ascii b && to_ascii_lowercase b == b) bs ≡ true → IsAscii bs × (bs ≡ map to_ascii_lowercase bs)
lower_parts [] h = (IsAscii-nil, refl)
lower_parts (b ∷ bs) h =
    let both = and_parts (is_ascii b && to_ascii_lowercase b == b) _ h in
    let here = and_parts (is_ascii b) _ both.0 in
    let rest = lower_parts bs both.1 in
    (IsAscii-cons b bs (ltb-true b 128 here.0) rest.0, ap₂ (λ x xs. x ∷ xs) (sym (from_test (to_ascii_lowercase b) b here.1)) rest.1)
  where
    from_test : (x y : ℕ) → (x == y) ≡ true → x ≡ y
    from_test x y e = grind (arith, nat_tests)

take_drop : (i : ℕ) (xs : List ℕ) → xs ≡ take i xs ++ drop i xs
take_drop zero xs = refl
take_drop (suc i) [] = refl
take_drop (suc i) (x ∷ xs) = ap (λ ys. x ∷ ys) (take_drop i xs)

-- the text before a comment, and one without any
pub before_comment : (all front rest : List ℕ) (i : ℕ) → IsUtf8 all → NoCharPasses (λ d. d == 35) (take i all) → drop i all ≡ encode_utf8 35 ++ rest → front ≡ take i all
    → chars front ≡ before_first (λ c. c == 35) (chars all)
before_comment all front rest i u plain is front_is =
    let split = take_drop i all ∙ ap₂ (λ a b. a ++ b) (sym plain.1) is in
    let first = strip plain.0 u.0 (encode_utf8 35 ++ rest) (u.1.1 ∙ split) in
    let parts = scalars_split plain.0 first.0 (ap all_scalars (sym first.1) ∙ u.1.0) in
    chars_are front plain.0 (plain.0, (parts.0, plain.1 ∙ sym front_is)) (plain.1 ∙ sym front_is) ∙ by plain.0 plain.2 first.0 first.2
    ∙ ap (before_first (λ c. c == 35)) (sym (chars_are all u.0 u u.1.1 ∙ first.1))
  where
    by : (cs : List ℕ) → NonePass (λ c. c == 35) cs → (es : List ℕ) → encode_utf8_all es ≡ encode_utf8 35 ++ rest → cs ≡ before_first (λ c. c == 35) (cs ++ es)
    by cs h [] e = absurd (nonempty_character 35 rest (sym e))
    by cs h (x ∷ es) e = sym (before_one (λ c. c == 35) cs x es h (ap (λ y. y == 35) (encode_same x 35 (encode_utf8_all es) rest e).0))

pub no_comment : (all : List ℕ) → IsUtf8 all → NoCharPasses (λ d. d == 35) all → chars all ≡ before_first (λ c. c == 35) (chars all)
no_comment all u h = chars_are all h.0 u h.1 ∙ sym (before_none (λ c. c == 35) h.0 h.2) ∙ ap (before_first (λ c. c == 35)) (sym (chars_are all h.0 u h.1))
