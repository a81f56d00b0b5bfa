-- The first line of bytes, and the lines behind it.
use Rattle.std.proofs.Common.{◌≡◌, ℕ, ◌<◌, ◌+◌, zero, suc, Bool, true, false, cond, List, [], ◌∷◌, ◌++◌, length, take, drop, slice_index, Option, None, Some, MatchOption, IfSome, Result, Ok, Err, refl, sym, ap, ◌∙◌, inl, inr, add-one, arith, ⊎_elim}
use Rattle.std.proofs.lemmas.Bool.{cases_Bool}
use Rattle.memchr.specs.Find.{IsFirstByte, Passes, is_byte}
use Rattle.hickory_resolver_model.specs.Hosts.{Host, cut_at, put_first, insert_pairs}
use Rattle.hickory_resolver_hosts.specs.Reading.{AreLinesRead, IsLineRead}
use Rattle.hickory_resolver_hosts.specs.Text.{lines_of}
use Rattle.hickory_resolver_hosts.specs.declared.hosts_error.HostsError.{HostsError}
use Rattle.hickory_resolver_hosts.specs.declared.hosts_error.HostsError.TheVariants.{Read, InvalidData, OutOfMemory}
use Rattle.hickory_resolver_hosts.proofs.LinesRead.{pairs_in_turn}

module _ (p : ℕ → Bool) where
  cut_first : (xs : List ℕ) (k : ℕ) → k < length xs → ((j : ℕ) → j < k → p (slice_index xs j) ≡ false) → p (slice_index xs k) ≡ true
      → cut_at p xs ≡ take k xs ∷ cut_at p (drop (suc k) xs)
  cut_first [] k short none at = absurd (omega arith)
  cut_first (x ∷ xs) zero short none at = ap (λ b. cond b ([] ∷ cut_at p xs) (put_first x (cut_at p xs))) at
  cut_first (x ∷ xs) (suc k) short none at =
      ap (λ b. cond b ([] ∷ cut_at p xs) (put_first x (cut_at p xs))) (none 0 (omega arith))
      ∙ ap (put_first x) (cut_first xs k (omega arith) (λ j below. none (suc j) (omega arith)) at)

  cut_none : (xs : List ℕ) → ((j : ℕ) → j < length xs → p (slice_index xs j) ≡ false) → cut_at p xs ≡ xs ∷ []
  cut_none [] none = refl
  cut_none (x ∷ xs) none =
      ap (λ b. cond b ([] ∷ cut_at p xs) (put_first x (cut_at p xs))) (none 0 (omega arith))
      ∙ ap (put_first x) (cut_none xs (λ j below. none (suc j) (omega arith)))

  fails : (xs : List ℕ) (k : ℕ) → ¬ Passes p xs k → p (slice_index xs k) ≡ false
  fails xs k h = ⊎_elim (λ t. absurd (h t)) (λ f. f) (cases_Bool (p _))

-- where the first line ends
pub line_end_within : (xs : List ℕ) (r : Option ℕ) → IsFirstByte (is_byte 10) xs r → IfSome r (λ end. end < length xs)
line_end_within xs None h = tt
line_end_within xs (Some k) h = h.0.high

pub line_end_is : (xs : List ℕ) (r : Option ℕ) → IsFirstByte (is_byte 10) xs r
    → MatchOption r (lines_of xs ≡ xs ∷ []) (λ end. lines_of xs ≡ take end xs ∷ lines_of (drop (end + 1) xs))
line_end_is xs None h = cut_none (is_byte 10) xs (λ j below. fails (is_byte 10) xs j (h j (omega arith) below))
line_end_is xs (Some k) h =
    cut_first (is_byte 10) xs k h.0.high (λ j below. fails (is_byte 10) xs j (h.0.before j (omega arith) below)) h.1
    ∙ ap (λ j. take k xs ∷ lines_of (drop j xs)) (sym (add-one k))

-- a line is read, and then those behind it
pub line_then : (now : ℕ) (line : List ℕ) (ls : List (List ℕ)) (before middle after : List Host) (r : Result (Unit {0}) HostsError)
    → IsLineRead now line before (Ok tt) middle → AreLinesRead now ls middle r after → AreLinesRead now (line ∷ ls) before r after
line_then now line ls before middle after (Ok done) (u, (ps, pairs, put)) (more, are, is) =
    (ps ++ more, inl (u, (ps, more, pairs, are, refl)), is ∙ ap (insert_pairs now more) put ∙ sym (pairs_in_turn now ps more before))
line_then now line ls before middle after (Err Read) (u, (ps, pairs, put)) failed = failed
line_then now line ls before middle after (Err InvalidData) (u, (ps, pairs, put)) (more, are, is) =
    (ps ++ more, inl (u, (ps, more, pairs, are, refl)), is ∙ ap (insert_pairs now more) put ∙ sym (pairs_in_turn now ps more before))
line_then now line ls before middle after (Err OutOfMemory) (u, (ps, pairs, put)) (more, are, is) =
    (ps ++ more, inr (inr (u, (ps, more, pairs, are, refl))), is ∙ ap (insert_pairs now more) put ∙ sym (pairs_in_turn now ps more before))

-- a line at which the reading ends
pub line_stops : (now : ℕ) (line : List ℕ) (ls : List (List ℕ)) (before after : List Host) (error : HostsError)
    → IsLineRead now line before (Err error) after → AreLinesRead now (line ∷ ls) before (Err error) after
line_stops now line ls before after Read failed = failed
line_stops now line ls before after InvalidData (bad, same) = ([], inr (bad, refl, refl), same)
line_stops now line ls before after OutOfMemory (ps, first, put) = (ps, inr (inl first), put)

-- the last line
pub line_last : (now : ℕ) (line : List ℕ) (before after : List Host) (r : Result (Unit {0}) HostsError)
    → IsLineRead now line before r after → AreLinesRead now (line ∷ []) before r after
line_last now line before after (Ok done) h = line_then now line [] before after after (Ok done) h ([], (refl, refl), refl)
line_last now line before after (Err error) h = line_stops now line [] before after error h
