-- The table is held against the definition at each of the 256 bytes, by computing.
use Rattle.std.proofs.Common.{◌≡◌, ℕ, ◌+◌, ◌<◌, Bool, true, false, not, nat_eq, bit_and, cond, map, get_or, refl, ap, ◌∙◌, arith}
use Rattle.std.proofs.lemmas.List.FromFn.{get_or-map-range_with_len}
use Rattle.std.specs.List.{range_with_len}
use Rattle.hickory_proto_names.specs.NameText.{is_plain}
use Rattle.hickory_proto_names.specs.declared.name_text.TheConstants.{PLAIN}
use Rattle.hickory_proto_names.proofs.name_text.is_plain.Goals.{then-first, else-first}
use Rattle.hickory_proto_names.proofs.name_text.is_plain.Goals as goal

-- the digit of a byte, by whether it stands for itself as the first one of a label and as a later one
abbrev digit : Bool → Bool → ℕ
digit first later = 48 + cond first 1 0 + cond later 2 0

abbrev digit_at : ℕ → ℕ
digit_at b = digit (is_plain true b) (is_plain false b)

table_is : PLAIN ≡ map digit_at (range_with_len 0 256)
table_is = refl

abbrev has_flag : ℕ → ℕ → Bool
has_flag flag n = not (nat_eq (bit_and n flag) 0)

first_flag : (first later : Bool) → has_flag 1 (digit first later) ≡ first
first_flag true true = refl
first_flag true false = refl
first_flag false true = refl
first_flag false false = refl

later_flag : (first later : Bool) → has_flag 2 (digit first later) ≡ later
later_flag true true = refl
later_flag true false = refl
later_flag false true = refl
later_flag false false = refl

read : (flag b : ℕ) → b < 256 → has_flag flag (get_or PLAIN b 0) ≡ has_flag flag (digit_at b)
read flag b h =
    ap (λ t. has_flag flag (get_or t b 0)) table_is
    ∙ ap (has_flag flag) (get_or-map-range_with_len digit_at 0 256 b b 0 h (omega arith))

as_first : (first : Bool) (place b : ℕ) → b < 256 → first ≡ true → place ≡ 1
    → has_flag place (get_or PLAIN b 0) ≡ is_plain first b
as_first first place b h is flag = rw (is, flag) (read 1 b h ∙ first_flag (is_plain true b) (is_plain false b))

as_later : (first : Bool) (place b : ℕ) → b < 256 → first ≡ false → place ≡ 2
    → has_flag place (get_or PLAIN b 0) ≡ is_plain first b
as_later first place b h is flag = rw (is, flag) (read 2 b h ∙ later_flag (is_plain true b) (is_plain false b))

pub returns : goal.returns
returns c =
    elim c.if-first.branch [
      | then-first w ↦ as_first c.args.first c.if-first.place c.args.byte (omega arith) w.if-first.true w.place-is
      | else-first w ↦ as_later c.args.first c.if-first.place c.args.byte (omega arith) w.if-first.false w.place-is
    ]
