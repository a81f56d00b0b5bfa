-- Bytes that are allowed are text.
use Rattle.std.proofs.Common.{◌≡◌, ◌<◌, ℕ, true, List, [], ◌∷◌, arith}
use Rattle.std.proofs.lemmas.Bool.Decides.{nat_tests}
use Rattle.std.proofs.lemmas.Bool.{and_parts}
use Rattle.std.proofs.lemmas.Grind.{common_steps}
use Rattle.std.proofs.lemmas.Str.{IsUtf8-from_ascii}
use Rattle.std.proofs.lemmas.Str.Ascii.{IsAscii-nil, IsAscii-cons}
use Rattle.std.specs.List.{list_all}
use Rattle.std.specs.Str.{IsAscii, IsUtf8}
use Rattle.replay_script.specs.Fields.{is_allowed}

allowed_ascii : (b : ℕ) → is_allowed b ≡ true → b < 128
allowed_ascii b h = grind (arith, nat_tests, common_steps)

all_ascii : (bs : List ℕ) → list_all is_allowed bs ≡ true → IsAscii bs
all_ascii [] h = IsAscii-nil
all_ascii (b ∷ bs) h =
    let parts = and_parts (is_allowed b) (list_all is_allowed bs) h in
    IsAscii-cons b bs (allowed_ascii b parts.0) (all_ascii bs parts.1)

pub allowed_text : (bs : List ℕ) → list_all is_allowed bs ≡ true → IsUtf8 bs
allowed_text bs h = IsUtf8-from_ascii bs (all_ascii bs h)
