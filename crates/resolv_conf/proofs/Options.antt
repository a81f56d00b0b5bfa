-- A word that is an option without a number.
use Rattle.std.proofs.Common.{◌≡◌, ◌∙◌, ℕ, false, ◌&&◌, nat_eq, List, [], ◌∷◌, length, take, drop, codes, cond, refl, sym, ap, ap₂, arith}
use Rattle.std.proofs.lemmas.Bool.Decides.{nat_tests}
use Rattle.std.specs.Cmp.Lexicographic.{pointwise}
use Rattle.resolv_conf.specs.OptionWord.{attempts_named, begins, flag_named, ndots_named, number_within, option_of, timeout_named}

same_turned : (x y : ℕ) → nat_eq x y ≡ nat_eq y x
same_turned x y = grind (arith, nat_tests)

turned : (xs ys : List ℕ) → pointwise nat_eq xs ys ≡ pointwise nat_eq ys xs
turned [] [] = refl
turned [] (y ∷ ys) = refl
turned (x ∷ xs) [] = refl
turned (x ∷ xs) (y ∷ ys) = ap₂ (λ a b. a && b) (same_turned x y) (turned xs ys)

-- a word from which no such front is taken away does not begin with it
pub begins-other : (word name literal : List ℕ) → literal ≡ name → pointwise nat_eq (take (length literal) word) literal ≡ false → begins word name ≡ false
begins-other word name literal is other =
    turned name (take (length name) word) ∙ ap (λ n. pointwise nat_eq (take (length n) word) n) (sym is) ∙ other

pub option_of-flag : (word : List ℕ) → begins word (codes "ndots:") ≡ false → begins word (codes "timeout:") ≡ false → begins word (codes "attempts:") ≡ false → option_of word ≡ flag_named word
unfolding option_of
option_of-flag word no_dots no_timeout no_attempts =
    let timeouts = timeout_named (number_within 30 (drop 8 word)) in
    let rounds = attempts_named (number_within 5 (drop 9 word)) in
    ap (λ b. cond b (ndots_named (number_within 15 (drop 6 word))) (cond (begins word (codes "timeout:")) timeouts (cond (begins word (codes "attempts:")) rounds (flag_named word)))) no_dots
    ∙ ap (λ b. cond b timeouts (cond (begins word (codes "attempts:")) rounds (flag_named word))) no_timeout
    ∙ ap (λ b. cond b rounds (flag_named word)) no_attempts
