-- Lines of a text, and what is written of their events, one after another.
use Rattle.std.proofs.Common.{◌≡◌, ◌<◌, ℕ, Bool, true, false, List, [], ◌∷◌, ◌++◌, IfOk, IfSome, Result, cond, length, nat_lt, Option, None, Some, refl, ap, subst, sym, ◌∙◌, append_assoc, append-nil, arith}
use Rattle.std.specs.Io.BufRead.{drop_through, ends_with_byte, strip_last, take_through}
use Rattle.std.specs.Io.KnownBytes.{Appends}
use Rattle.std.proofs.lemmas.Bool.{ltb-true}
use Rattle.std.proofs.lemmas.Result.{IfOk-weaker}
use Rattle.std.proofs.lemmas.Bool.Decides.{nat_tests}
use Rattle.trace_judge.specs.Options.{OptionsValue}
use Rattle.trace_lines.specs.Printing.{counts_text}
use Rattle.trace_lines.specs.Reports.{HasHeard, SessionValue, counts_of, has_found, told_text}
use Rattle.trace_lines.specs.Whole.{IsSplit, IsTrace, whole_text, with_whole}
use Rattle.trace_lines.specs.declared.error.TraceError.{TraceError}
use Rattle.trace_lines.specs.declared.reader.Placed.{Placed}
use Rattle.trace_lines.specs.declared.verdict.Strictness.{Strictness}

-- ---- what is written

pub nothing_written : (a : Option (List ℕ)) → Appends a a []
nothing_written None = tt
nothing_written (Some xs) = sym (append-nil xs)

pub more_written : (a b c : Option (List ℕ)) (xs ys : List ℕ) → Appends a b xs → Appends b c ys → Appends a c (xs ++ ys)
more_written None b c xs ys p q = tt
more_written (Some us) None c xs ys p q = absurd p
more_written (Some us) (Some vs) None xs ys p q = absurd q
more_written (Some us) (Some vs) (Some ws) xs ys p q = q ∙ ap (λ l. l ++ ys) p ∙ append_assoc us xs ys

-- the lines that tell of one event more
pub told_more : (options : OptionsValue) (strict : Strictness) (past : List Placed) (whole : Option Placed)
    → told_text options strict past ++ whole_text options strict past whole ≡ told_text options strict (with_whole whole past)
told_more options strict past None = append-nil (told_text options strict past)
told_more options strict past (Some placed) = refl

-- ---- what is read

-- these are the first lines of all that there was to be read, where that is known
abbrev pub AreRead : Option (List ℕ) → Option (List ℕ) → List (List ℕ) → Type 0
AreRead start now lines = IfSome start (λ text. (rest : List ℕ) × (now ≡ Some rest) × IsSplit text lines rest)

pub none_read : (start : Option (List ℕ)) → AreRead start start []
none_read None = tt
none_read (Some text) = (text, refl, refl)

known_at : (known : Option (List ℕ)) (rest : List ℕ) (P : List ℕ → Type 0) → known ≡ Some rest → IfSome known P → P rest
known_at known rest P is h = subst (λ o. IfSome o P) is h

-- a line without its end
abbrev pub line_of : List ℕ → List ℕ
line_of piece = cond (ends_with_byte 10 piece) (strip_last 13 (strip_last 10 piece)) (strip_last 10 piece)

pub one_read : (start before after : Option (List ℕ)) (lines : List (List ℕ)) (piece line : List ℕ) (is_there : Bool)
    → is_there ≡ true → AreRead start before lines
    → IfSome before (λ text. (is_there ≡ nat_lt 0 (length text)) × (piece ≡ take_through 10 text)
    × (after ≡ Some (drop_through 10 text)))
    → line ≡ line_of piece
    → AreRead start after (line ∷ lines)
one_read None before after lines piece line is_there there read more is = tt
one_read (Some text) before after lines piece line is_there there read more is =
    let rest = read.0 in
    let m = known_at before rest
    (λ xs. (is_there ≡ nat_lt 0 (length xs)) × (piece ≡ take_through 10 xs) × (after ≡ Some (drop_through 10 xs))) read.1 more in
    let some : 0 < length rest = ltb-true 0 (length rest) (sym m.0 ∙ there) in (
      drop_through 10 rest,
      m.2,
      (rest, read.2, some, is ∙ ap line_of m.1, refl),
    )

no_rest : (rest : List ℕ) → nat_lt 0 (length rest) ≡ false → rest ≡ []
no_rest [] h = refl
no_rest (x ∷ rest) h = absurd (grind (arith, nat_tests))

pub all_read : (start before after : Option (List ℕ)) (lines : List (List ℕ)) (piece : List ℕ) (is_there : Bool)
    → is_there ≡ false → AreRead start before lines
    → IfSome before (λ text. (is_there ≡ nat_lt 0 (length text)) × (piece ≡ take_through 10 text)
    × (after ≡ Some (drop_through 10 text)))
    → IfSome start (λ text. IsSplit text lines [])
all_read None before after lines piece is_there none read end = tt
all_read (Some text) before after lines piece is_there none read end =
    let m = known_at before read.0
    (λ xs. (is_there ≡ nat_lt 0 (length xs)) × (piece ≡ take_through 10 xs) × (after ≡ Some (drop_through 10 xs))) read.1 end in
    subst (IsSplit text lines) (no_rest read.0 (sym m.0 ∙ none)) read.2

-- what was told of all events, and then the counts
pub reported : (options : OptionsValue) (strict : Strictness) (session : SessionValue) (known a b c : Option (List ℕ))
    (result : Result Bool TraceError)
    → ((lines : List (List ℕ)) × (events : List Placed) × IsTrace lines events × IfSome known (λ text. IsSplit text lines [])
    × HasHeard options strict events session × Appends a b (told_text options strict events))
    → IfOk result (λ found. (found ≡ session.found) × Appends b c (counts_text session.counts))
    → IfOk result (λ found. (lines : List (List ℕ)) × (events : List Placed) × IsTrace lines events
    × IfSome known (λ text. IsSplit text lines []) × (found ≡ has_found options strict events)
    × Appends a c (told_text options strict events ++ counts_text (counts_of options events)))
reported options strict session known a b c result all end =
    IfOk-weaker result (λ found. (found ≡ session.found) × Appends b c (counts_text session.counts)) _ (λ found e. (
      all.0,
      all.1,
      all.2,
      all.3,
      e.0 ∙ all.4.found_is,
      more_written a b c (told_text options strict all.1) (counts_text (counts_of options all.1)) all.5
          (subst (λ n. Appends b c (counts_text n)) all.4.counts_are e.1),
    )) end
