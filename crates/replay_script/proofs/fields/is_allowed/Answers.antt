-- The table is held against the definition at each of the 256 bytes, by computing.
use Rattle.std.proofs.Common.{◌≡◌, ℕ, ◌<◌, ◌==◌, Bool, true, false, cond, map, get_or, refl, ap, ◌∙◌, arith}
use Rattle.std.proofs.lemmas.List.FromFn.{get_or-map-range_with_len}
use Rattle.std.specs.List.{range_with_len}
use Rattle.replay_script.specs.Fields.{is_allowed}
use Rattle.replay_script.specs.declared.fields.TheConstants.{ALLOWED}
use Rattle.replay_script.proofs.fields.is_allowed.Goals as goal

abbrev digit : Bool → ℕ
digit is = cond is 49 48

abbrev digit_at : ℕ → ℕ
digit_at b = digit (is_allowed b)

table_is : ALLOWED ≡ map digit_at (range_with_len 0 256)
table_is = refl

is_digit : (is : Bool) → (digit is == 49) ≡ is
is_digit true = refl
is_digit false = refl

read : (b : ℕ) → b < 256 → (get_or ALLOWED b 0 == 49) ≡ is_allowed b
read b h =
    ap (λ t. get_or t b 0 == 49) table_is
    ∙ ap (λ n. n == 49) (get_or-map-range_with_len digit_at 0 256 b b 0 h (omega arith))
    ∙ is_digit (is_allowed b)

pub returns : goal.returns
returns c = read c.args.byte (omega arith)
