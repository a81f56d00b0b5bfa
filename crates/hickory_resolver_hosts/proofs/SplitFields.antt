-- The fields that `split_whitespace` gives.
use Rattle.std.proofs.Common.{ℕ, List}
use Rattle.std.specs.Str.{chars, IsUtf8}
use Rattle.std.specs.Str.Iter.{split_whitespace_rest, split_whitespace_steps}
use Rattle.std.specs.Borrow.{Bor}
use Rattle.std.proofs.lemmas.Iterator.{YieldsList}
use Rattle.std.proofs.lemmas.Iterator.Splits.{YieldsList-from_shown_while}
use Rattle.hickory_resolver_hosts.specs.Text.{words}
use Rattle.hickory_resolver_hosts.proofs.FieldTexts.{split_turn, split_end}

pub splits : (s : _) → IsUtf8 (split_whitespace_rest s) → YieldsList split_whitespace_steps (λ (x : Bor (List ℕ)). chars x.now) s (words (chars (split_whitespace_rest s)))
splits s u =
    YieldsList-from_shown_while split_whitespace_steps (λ x. chars x.now) (λ s. words (chars (split_whitespace_rest s))) (λ s. IsUtf8 (split_whitespace_rest s))
    (λ s t v h. split_end (split_whitespace_rest s) v h.1)
    (λ s x t v h. split_turn (split_whitespace_rest s) x.now (split_whitespace_rest t) v h)
    s u
