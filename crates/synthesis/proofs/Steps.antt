-- One step of what is read octet by octet.
use Rattle.std.proofs.Common.{◌≡◌, ◌≢◌, ◌≤◌, ◌-◌, ◌/◌, ◌%◌, ◌<◌, ℕ, zero, suc, true, false, ◌||◌, ◌==◌, cond, nat_lt, get_or, length, take, drop, List, [], ◌∷◌, ◌++◌, None, refl, ◌⊎◌, ◌+◌, inl, inr, length-drop, ap, ap₂, sym, ◌∙◌, arith}
use Rattle.std.proofs.lemmas.Bool.{cond-true, cond-false, eq-eqb, le-ltb, lt-ltb, ne_eqb, or_left, or_right}
use Rattle.std.proofs.lemmas.Bool.Decides.{nat_tests}
use Rattle.std.proofs.lemmas.Grind.{common_steps}
use Rattle.std.proofs.lemmas.List.{take_all}
use Rattle.std.specs.Global.{Vec}
use Rattle.hickory_proto_core.specs.Name.{label_bytes}
use Rattle.synthesis.specs.TypeBits.{has_bit, has_type_in}
use Rattle.synthesis.specs.WireNames.{named, read_behind}

-- no window is left, or no octet
pub no_window : (code : ℕ) (bits : List ℕ) → has_type_in 0 code bits ≡ false
unfolding has_type_in
no_window code bits = refl

pub no_bits : (windows code : ℕ) → has_type_in windows code [] ≡ false
unfolding has_type_in
no_bits zero code = refl
no_bits (suc windows) code = refl

pub no_count : (windows code window : ℕ) → has_type_in windows code (window ∷ []) ≡ false
unfolding has_type_in
no_count zero code window = refl
no_count (suc windows) code window = refl

-- a window, and those behind it
pub next_window : (windows code window count : ℕ) (rest : List ℕ) → 0 < windows
    → has_type_in windows code (window ∷ count ∷ rest)
    ≡ cond (nat_lt (length rest) count) false
    (cond (window == code / 256) (has_bit (code % 256) (take count rest)) (has_type_in (windows - 1) code (drop count rest)))
unfolding has_type_in
next_window zero code window count rest some = absurd (omega arith)
next_window (suc windows) code window count rest some =
    let fewer : windows ≡ suc windows - 1 = omega arith in
    ap (λ n. cond (nat_lt (length rest) count) false
    (cond (window == code / 256) (has_bit (code % 256) (take count rest)) (has_type_in n code (drop count rest)))) fewer

-- no label may follow, or no octet does
pub no_label : (labels : List (List ℕ)) (bytes : List ℕ) → read_behind labels 0 bytes ≡ None
unfolding read_behind
no_label labels bytes = refl

pub no_bytes : (labels : List (List ℕ)) (more : ℕ) → read_behind labels more [] ≡ None
unfolding read_behind
no_bytes labels zero = refl
no_bytes labels (suc more) = refl

-- a label, and those behind it
pub next_label : (labels : List (List ℕ)) (more count : ℕ) (rest : List ℕ) → 0 < more
    → read_behind labels more (count ∷ rest)
    ≡ cond (count == 0) (named labels rest) (cond (nat_lt 63 count || nat_lt (length rest) count) None
    (read_behind (labels ++ take count rest ∷ []) (more - 1) (drop count rest)))
unfolding read_behind
next_label labels zero count rest some = absurd (omega arith)
next_label labels (suc more) count rest some =
    let fewer : more ≡ suc more - 1 = omega arith in
    ap (λ n. cond (count == 0) (named labels rest) (cond (nat_lt 63 count || nat_lt (length rest) count) None
    (read_behind (labels ++ take count rest ∷ []) n (drop count rest)))) fewer

-- ---- the same of a list by its parts

pub no_window_at : (windows code : ℕ) (bits : List ℕ) → windows ≡ 0 → has_type_in windows code bits ≡ false
no_window_at windows code bits none = ap (λ n. has_type_in n code bits) none ∙ no_window code bits

pub few_bits : (windows code : ℕ) (bits : List ℕ) → length bits < 2 → has_type_in windows code bits ≡ false
few_bits windows code [] few = no_bits windows code
few_bits windows code (window ∷ []) few = no_count windows code window
few_bits windows code (window ∷ count ∷ rest) few = absurd (omega arith)

-- what is left of a slice behind its first items
pub behind : (k : ℕ) (xs : List ℕ) → take (length xs - k) (drop k xs) ≡ drop k xs
behind k xs = take_all (length xs - k) (drop k xs) (omega (arith, length-drop k xs))

-- a window and its count, and what stands behind them
pub record WindowAt (windows : ℕ) (bits : List ℕ) (window count : ℕ) (rest : List ℕ) : Type 0 where
  pub some : 0 < windows
  pub two : 2 ≤ length bits
  pub window_is : window ≡ get_or bits 0 0
  pub count_is : count ≡ get_or bits 1 0
  pub rest_is : rest ≡ drop 2 bits

window_at : (windows code : ℕ) (bits : List ℕ) (window count : ℕ) (rest : List ℕ) → WindowAt windows bits window count rest
    → has_type_in windows code bits
    ≡ cond (nat_lt (length rest) count) false
    (cond (window == code / 256) (has_bit (code % 256) (take count rest)) (has_type_in (windows - 1) code (drop count rest)))
window_at windows code [] window count rest w = absurd (omega (arith, w.two))
window_at windows code (x ∷ []) window count rest w = absurd (omega (arith, w.two))
window_at windows code (x ∷ y ∷ more) window count rest w =
    next_window windows code x y more w.some
    ∙ ap₂ (λ a b. cond (nat_lt (length more) b) false
    (cond (a == code / 256) (has_bit (code % 256) (take b more)) (has_type_in (windows - 1) code (drop b more))))
    (sym w.window_is) (sym w.count_is)
    ∙ ap (λ l. cond (nat_lt (length l) count) false
    (cond (window == code / 256) (has_bit (code % 256) (take count l)) (has_type_in (windows - 1) code (drop count l)))) (sym w.rest_is)

pub short_window : (windows code : ℕ) (bits : List ℕ) (window count : ℕ) (rest : List ℕ) → WindowAt windows bits window count rest
    → length rest < count → has_type_in windows code bits ≡ false
short_window windows code bits window count rest w short =
    window_at windows code bits window count rest w
    ∙ cond-true (nat_lt (length rest) count) false _ (lt-ltb (length rest) count short)

pub this_window : (windows code : ℕ) (bits : List ℕ) (window count : ℕ) (rest : List ℕ) → WindowAt windows bits window count rest
    → count ≤ length rest → window ≡ code / 256
    → has_type_in windows code bits ≡ has_bit (code % 256) (take count rest)
this_window windows code bits window count rest w fits is =
    window_at windows code bits window count rest w
    ∙ cond-false (nat_lt (length rest) count) false _ (le-ltb (length rest) count fits)
    ∙ cond-true (window == code / 256) _ _ (eq-eqb window (code / 256) is)

pub other_window : (windows code : ℕ) (bits : List ℕ) (window count : ℕ) (rest : List ℕ) → WindowAt windows bits window count rest
    → count ≤ length rest → window ≢ code / 256
    → has_type_in windows code bits ≡ has_type_in (windows - 1) code (drop count rest)
other_window windows code bits window count rest w fits other =
    window_at windows code bits window count rest w
    ∙ cond-false (nat_lt (length rest) count) false _ (le-ltb (length rest) count fits)
    ∙ cond-false (window == code / 256) _ _ (ne_eqb window (code / 256) other)

pub no_label_at : (labels : List (List ℕ)) (more : ℕ) (bytes : List ℕ) → more ≡ 0 → None ≡ read_behind labels more bytes
no_label_at labels more bytes none = sym (ap (λ n. read_behind labels n bytes) none ∙ no_label labels bytes)

pub few_bytes : (labels : List (List ℕ)) (more : ℕ) (bytes : List ℕ) → length bytes < 1 → None ≡ read_behind labels more bytes
few_bytes labels more [] few = sym (no_bytes labels more)
few_bytes labels more (b ∷ bytes) few = absurd (omega arith)

-- a count, and what stands behind it
pub record LabelAt (more : ℕ) (bytes : List ℕ) (count : ℕ) (rest : List ℕ) : Type 0 where
  pub some : 0 < more
  pub one : 1 ≤ length bytes
  pub count_is : count ≡ get_or bytes 0 0
  pub rest_is : rest ≡ drop 1 bytes

label_at : (labels : List (List ℕ)) (more : ℕ) (bytes : List ℕ) (count : ℕ) (rest : List ℕ) → LabelAt more bytes count rest
    → read_behind labels more bytes
    ≡ cond (count == 0) (named labels rest) (cond (nat_lt 63 count || nat_lt (length rest) count) None
    (read_behind (labels ++ take count rest ∷ []) (more - 1) (drop count rest)))
label_at labels more [] count rest w = absurd (omega (arith, w.one))
label_at labels more (x ∷ xs) count rest w =
    next_label labels more x xs w.some
    ∙ ap (λ a. cond (a == 0) (named labels xs) (cond (nat_lt 63 a || nat_lt (length xs) a) None
    (read_behind (labels ++ take a xs ∷ []) (more - 1) (drop a xs)))) (sym w.count_is)
    ∙ ap (λ l. cond (count == 0) (named labels l) (cond (nat_lt 63 count || nat_lt (length l) count) None
    (read_behind (labels ++ take count l ∷ []) (more - 1) (drop count l)))) (sym w.rest_is)

pub last_label : (labels : List (List ℕ)) (more : ℕ) (bytes : List ℕ) (count : ℕ) (rest : List ℕ) → LabelAt more bytes count rest → count ≡ 0
    → named labels rest ≡ read_behind labels more bytes
last_label labels more bytes count rest w is =
    sym (label_at labels more bytes count rest w ∙ cond-true (count == 0) _ _ (eq-eqb count 0 is))

pub bad_label : (labels : List (List ℕ)) (more : ℕ) (bytes : List ℕ) (count : ℕ) (rest : List ℕ) → LabelAt more bytes count rest → count ≢ 0
    → (nat_lt 63 count || nat_lt (length rest) count) ≡ true → None ≡ read_behind labels more bytes
bad_label labels more bytes count rest w other bad =
    sym (label_at labels more bytes count rest w ∙ cond-false (count == 0) _ _ (ne_eqb count 0 other)
    ∙ cond-true (nat_lt 63 count || nat_lt (length rest) count) _ _ bad)

pub good_label : (labels : List (List ℕ)) (more : ℕ) (bytes : List ℕ) (count : ℕ) (rest : List ℕ) → LabelAt more bytes count rest → count ≢ 0
    → (nat_lt 63 count || nat_lt (length rest) count) ≡ false
    → read_behind (labels ++ take count rest ∷ []) (more - 1) (drop count rest) ≡ read_behind labels more bytes
good_label labels more bytes count rest w other good =
    sym (label_at labels more bytes count rest w ∙ cond-false (count == 0) _ _ (ne_eqb count 0 other)
    ∙ cond-false (nat_lt 63 count || nat_lt (length rest) count) _ _ good)

pub is_bad : (count len : ℕ) → (63 < count) ⊎ (len < count) → (nat_lt 63 count || nat_lt len count) ≡ true
is_bad count len (inl h) = or_left (nat_lt 63 count) (nat_lt len count) (lt-ltb 63 count h)
is_bad count len (inr h) = or_right (nat_lt 63 count) (nat_lt len count) (lt-ltb len count h)

pub is_good : (count len : ℕ) → count ≤ 63 → count ≤ len → (nat_lt 63 count || nat_lt len count) ≡ false
is_good count len a b = grind (arith, nat_tests)

pub pushed : (vs : List (Vec ℕ)) (v : Vec ℕ) (l : List ℕ) → v.items ≡ l → label_bytes (vs ++ v ∷ []) ≡ label_bytes vs ++ l ∷ []
pushed [] v l e = ap (λ x. x ∷ []) e
pushed (w ∷ vs) v l e = ap (λ ls. w.items ∷ ls) (pushed vs v l e)

pub take_labels : (n : ℕ) (vs : List (Vec ℕ)) → label_bytes (take n vs) ≡ take n (label_bytes vs)
take_labels zero vs = refl
take_labels (suc n) [] = refl
take_labels (suc n) (v ∷ vs) = ap (λ ls. v.items ∷ ls) (take_labels n vs)

-- one more label
pub one_more : (before : List (List ℕ)) (vs : List (Vec ℕ)) (i : ℕ) (v : Vec ℕ) → i < length vs → v ≡ get_or vs i v
    → (before ++ label_bytes (take i vs)) ++ v.items ∷ [] ≡ before ++ label_bytes (take (i + 1) vs)
one_more before vs i v below is = grind (arith, common_steps)
