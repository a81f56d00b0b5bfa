-- Lines that are written with one blank between two fields, and end with LF: they are cut and read as they were.
use Rattle.std.proofs.Common.{◌≡◌, ◌∙◌, ℕ, zero, suc, ◌<◌, ◌-◌, Bool, true, false, cond, not, List, [], ◌∷◌, ◌++◌, length, filter, find, slice_index, ◌==◌, nat_lt, None, Some, Result, Ok, Err, MatchBool, refl, sym, ap, ap₂, subst, arith, append_assoc}
use Rattle.std.proofs.lemmas.Bool.{and_parts, and_from, eqb-true}
use Rattle.std.proofs.lemmas.Bool.Decides.{nat_tests}
use Rattle.std.proofs.lemmas.Grind.{common_steps}
use Rattle.std.proofs.lemmas.List.{append-nil}
use Rattle.std.proofs.lemmas.List.Splits.{slice_split-cons_no, length-slice_split}
use Rattle.std.specs.List.{AllByRecursion, list_all, slice_split, onto_first}
use Rattle.std.specs.Str.Lines.{lines, lines_of_parts, strip_carriage_return}
use Rattle.replay_script.specs.Fields.{fields, is_allowed, is_blank, is_plain, is_skipped}
use Rattle.replay_script.specs.Line.{IsRead, IsSaid, directive_named}
use Rattle.replay_script.specs.Faults.{LineFaultValue, wrong_field, wrong_line}
use Rattle.replay_script.specs.declared.fault.ScriptFault.TheVariants as fault
use Rattle.replay_script.specs.declared.line.Line.{Line}
use Rattle.replay_script.specs.declared.line.Line.TheVariants as line
use Rattle.conversation.specs.Texts.{fields_behind}

-- ---- lines

abbrev pub is_newline : ℕ → Bool
is_newline byte = byte == 10

allowed-no_newline : (b : ℕ) → is_allowed b ≡ true → is_newline b ≡ false
allowed-no_newline b h = grind (arith, nat_tests, common_steps)

allowed-no_return : (b : ℕ) → is_allowed b ≡ true → (b == 13) ≡ false
allowed-no_return b h = grind (arith, nat_tests, common_steps)

-- what is behind a part
some_parts : (part : List ℕ) (parts : List (List ℕ)) → 0 < length parts → lines_of_parts (part ∷ parts) ≡ strip_carriage_return part ∷ lines_of_parts parts
some_parts part [] some = absurd (omega arith)
some_parts part (x ∷ parts) some = refl

no_return_at : (l : List ℕ) (k : ℕ) → list_all is_allowed l ≡ true → (slice_index l k == 13) ≡ false
no_return_at [] k h = refl
no_return_at (b ∷ l) zero h = allowed-no_return b (and_parts (is_allowed b) (list_all is_allowed l) h).0
no_return_at (b ∷ l) (suc k) h = no_return_at l k (and_parts (is_allowed b) (list_all is_allowed l) h).1

not_stripped : (l : List ℕ) → list_all is_allowed l ≡ true → strip_carriage_return l ≡ l
not_stripped l h = rw (no_return_at l (length l - 1) h) refl

cut_at_newline : (l rest : List ℕ) → list_all is_allowed l ≡ true → slice_split is_newline (l ++ 10 ∷ rest) ≡ l ∷ slice_split is_newline rest
cut_at_newline [] rest h = refl
cut_at_newline (b ∷ l) rest h =
    let parts = and_parts (is_allowed b) (list_all is_allowed l) h in
    slice_split-cons_no is_newline b (l ++ 10 ∷ rest) (allowed-no_newline b parts.0) ∙ ap (onto_first b) (cut_at_newline l rest parts.1)

-- lines, each with its end
abbrev pub whole_lines : List (List ℕ) → List ℕ
whole_lines [] = []
whole_lines (l ∷ ls) = l ++ 10 ∷ whole_lines ls

abbrev pub AreAllowed : List (List ℕ) → Type 0
AreAllowed ls = AllByRecursion (λ l. list_all is_allowed l ≡ true) ls

pub lines-whole : (ls : List (List ℕ)) → AreAllowed ls → lines (whole_lines ls) ≡ ls
lines-whole [] h = refl
lines-whole (l ∷ ls) (own, others) =
    ap lines_of_parts (cut_at_newline l (whole_lines ls) own)
    ∙ some_parts l (slice_split is_newline (whole_lines ls)) (omega (arith, length-slice_split is_newline (whole_lines ls)))
    ∙ ap₂ (λ x xs. x ∷ xs) (not_stripped l own) (lines-whole ls others)

pub whole_lines-append : (ls ms : List (List ℕ)) → whole_lines (ls ++ ms) ≡ whole_lines ls ++ whole_lines ms
whole_lines-append [] ms = refl
whole_lines-append (l ∷ ls) ms = ap (λ rest. l ++ 10 ∷ rest) (whole_lines-append ls ms) ∙ sym (append_assoc l (10 ∷ whole_lines ls) (whole_lines ms))

pub allowed-append : (ls ms : List (List ℕ)) → AreAllowed ls → AreAllowed ms → AreAllowed (ls ++ ms)
allowed-append [] ms h k = k
allowed-append (l ∷ ls) ms (own, others) k = (own, allowed-append ls ms others k)

-- ---- fields

-- a field: it is not empty, and has no blank and no byte that may not stand in a line
pub record IsField (field : List ℕ) : Type 0 where
  pub filled : nat_lt 0 (length field) ≡ true
  pub plain : list_all is_plain field ≡ true
  pub allowed : list_all is_allowed field ≡ true

abbrev pub AreFields : List (List ℕ) → Type 0
AreFields given = AllByRecursion IsField given

-- a line of these fields, less its end
abbrev pub line_of : List ℕ → List (List ℕ) → List ℕ
line_of field given = field ++ fields_behind given

no_blank : (b : ℕ) → is_plain b ≡ true → is_blank b ≡ false
no_blank b h = grind (arith, nat_tests, common_steps)

cut_at_blank : (f rest : List ℕ) → list_all is_plain f ≡ true → slice_split is_blank (f ++ 32 ∷ rest) ≡ f ∷ slice_split is_blank rest
cut_at_blank [] rest h = refl
cut_at_blank (b ∷ f) rest h =
    let parts = and_parts (is_plain b) (list_all is_plain f) h in
    slice_split-cons_no is_blank b (f ++ 32 ∷ rest) (no_blank b parts.0) ∙ ap (onto_first b) (cut_at_blank f rest parts.1)

cut_nowhere : (f : List ℕ) → list_all is_plain f ≡ true → slice_split is_blank f ≡ f ∷ []
cut_nowhere [] h = refl
cut_nowhere (b ∷ f) h =
    let parts = and_parts (is_plain b) (list_all is_plain f) h in
    slice_split-cons_no is_blank b f (no_blank b parts.0) ∙ ap (onto_first b) (cut_nowhere f parts.1)

abbrev pub is_filled : List ℕ → Bool
is_filled field = nat_lt 0 (length field)

kept_first : (f : List ℕ) (parts : List (List ℕ)) → is_filled f ≡ true → filter is_filled (f ∷ parts) ≡ f ∷ filter is_filled parts
kept_first f parts h = rw h refl

pub fields-line : (f : List ℕ) (fs : List (List ℕ)) → IsField f → AreFields fs → fields (line_of f fs) ≡ f ∷ fs
fields-line f [] own others = ap (λ bs. fields bs) (append-nil f) ∙ ap (filter is_filled) (cut_nowhere f own.plain) ∙ kept_first f [] own.filled
fields-line f (g ∷ gs) own (next, others) =
    ap (filter is_filled) (cut_at_blank f (line_of g gs) own.plain) ∙ kept_first f (slice_split is_blank (line_of g gs)) own.filled ∙ ap (λ more. f ∷ more) (fields-line g gs next others)

-- the fields of a line are fields
abbrev IsPart : List ℕ → Type 0
IsPart p = (list_all is_plain p ≡ true) × (list_all is_allowed p ≡ true)

onto_part : (b : ℕ) (parts : List (List ℕ)) → is_plain b ≡ true → is_allowed b ≡ true → AllByRecursion IsPart parts → AllByRecursion IsPart (onto_first b parts)
onto_part b [] plain allowed h = ((and_from _ _ plain refl, and_from _ _ allowed refl), tt)
onto_part b (p ∷ ps) plain allowed (own, others) = ((and_from _ _ plain own.0, and_from _ _ allowed own.1), others)

parts_by : (t : Bool) (b : ℕ) (parts : List (List ℕ)) → is_blank b ≡ t → is_allowed b ≡ true → AllByRecursion IsPart parts → AllByRecursion IsPart (cond t ([] ∷ parts) (onto_first b parts))
parts_by true b parts e allowed h = ((refl, refl), h)
parts_by false b parts e allowed h = onto_part b parts (ap not e) allowed h

parts_are : (bs : List ℕ) → list_all is_allowed bs ≡ true → AllByRecursion IsPart (slice_split is_blank bs)
parts_are [] h = ((refl, refl), tt)
parts_are (b ∷ bs) h =
    let both = and_parts (is_allowed b) (list_all is_allowed bs) h in
    parts_by (is_blank b) b (slice_split is_blank bs) refl both.0 (parts_are bs both.1)

kept_by : (t : Bool) (p : List ℕ) (more : List (List ℕ)) → is_filled p ≡ t → IsPart p → AreFields more → AreFields (cond t (p ∷ more) more)
kept_by true p more e own others = (record { filled = e; plain = own.0; allowed = own.1 }, others)
kept_by false p more e own others = others

kept_are : (parts : List (List ℕ)) → AllByRecursion IsPart parts → AreFields (filter is_filled parts)
kept_are [] h = tt
kept_are (p ∷ ps) (own, others) = kept_by (is_filled p) p (filter is_filled ps) refl own (kept_are ps others)

pub fields-are : (bs : List ℕ) → list_all is_allowed bs ≡ true → AreFields (fields bs)
fields-are bs h = kept_are (slice_split is_blank bs) (parts_are bs h)

-- ---- a line of fields is allowed

behind-allowed : (fs : List (List ℕ)) → AreFields fs → list_all is_allowed (fields_behind fs) ≡ true
behind-allowed [] h = refl
behind-allowed (f ∷ fs) (own, others) = all-append f (fields_behind fs) own.allowed (behind-allowed fs others)
  where
    all-append : (xs ys : List ℕ) → list_all is_allowed xs ≡ true → list_all is_allowed ys ≡ true → list_all is_allowed (xs ++ ys) ≡ true
    all-append [] ys h k = k
    all-append (x ∷ xs) ys h k = let parts = and_parts (is_allowed x) (list_all is_allowed xs) h in and_from _ _ parts.0 (all-append xs ys parts.1 k)

pub all_allowed-append : (xs ys : List ℕ) → list_all is_allowed xs ≡ true → list_all is_allowed ys ≡ true → list_all is_allowed (xs ++ ys) ≡ true
all_allowed-append [] ys h k = k
all_allowed-append (x ∷ xs) ys h k = let parts = and_parts (is_allowed x) (list_all is_allowed xs) h in and_from _ _ parts.0 (all_allowed-append xs ys parts.1 k)

pub line-allowed : (f : List ℕ) (fs : List (List ℕ)) → IsField f → AreFields fs → list_all is_allowed (line_of f fs) ≡ true
line-allowed f fs own others = all_allowed-append f (fields_behind fs) own.allowed (behind-allowed fs others)

-- ---- reading

-- no directive begins with `#`
no_hash : (rest : List ℕ) → directive_named (35 ∷ rest) ≡ None
no_hash rest = refl

IsSaid-hash : (has_reply : Bool) (b : ℕ) (bs : List ℕ) (fs : List (List ℕ)) (said : Line) → IsSaid has_reply ((b ∷ bs) ∷ fs) (Ok said) → (b == 35) ≡ false
IsSaid-hash has_reply b bs fs said is = by (b == 35) refl
  where
    by : (t : Bool) → (b == 35) ≡ t → (b == 35) ≡ false
    by false e = e
    by true e =
        let P : ℕ → Type 0 = λ x. IsSaid has_reply ((x ∷ bs) ∷ fs) (Ok said) in
        let refused : Ok said ≡ Err (wrong_field fault.UnknownDirective (35 ∷ bs)) = subst P (eqb-true b 35 e) is in
        absurd (let h = refused in cc)

plain_found : (b : ℕ) (bs : List ℕ) → is_plain b ≡ true → find is_plain (b ∷ bs) ≡ Some b
plain_found b bs h = rw h refl

pub line-read : (has_reply : Bool) (f : List ℕ) (fs : List (List ℕ)) (said : Line) → IsField f → AreFields fs → IsSaid has_reply (f ∷ fs) (Ok said) → IsRead has_reply (line_of f fs) (Ok said)
line-read has_reply [] fs said own others is = absurd (let e = own.filled in cc)
line-read has_reply (b ∷ bs) fs said own others is =
    let plain = (and_parts (is_plain b) (list_all is_plain bs) own.plain).0 in
    let told : is_skipped (line_of (b ∷ bs) fs) ≡ false = rw (plain_found b (bs ++ fields_behind fs) plain) (IsSaid-hash has_reply b bs fs said is) in
    let r : Result Line LineFaultValue = Ok said in
    let P : Bool → Type 0 = λ t. MatchBool t (r ≡ Ok line.Blank) (MatchBool (list_all is_allowed (line_of (b ∷ bs) fs)) (IsSaid has_reply (fields (line_of (b ∷ bs) fs)) r) (r ≡ Err (wrong_line fault.BadByte))) in
    let Q : Bool → Type 0 = λ t. MatchBool t (IsSaid has_reply (fields (line_of (b ∷ bs) fs)) r) (r ≡ Err (wrong_line fault.BadByte)) in
    let R : List (List ℕ) → Type 0 = λ given. IsSaid has_reply given r in
    subst P (sym told) (subst Q (sym (line-allowed (b ∷ bs) fs own others)) (subst R (sym (fields-line (b ∷ bs) fs own others)) is))
