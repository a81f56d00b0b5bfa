-- Whether a name ends with another, suffix by suffix.
use Rattle.std.proofs.Common.{◌≡◌, ◌∙◌, ℕ, ◌<◌, Bool, true, false, List, ap, drop, length, sym}
use Rattle.std.specs.Prelude.{◌||◌}
use Rattle.std.specs.List.{list_any}
use Rattle.domain_table.specs.Names.{next_place, suffixes}
use Rattle.domain_table.proofs.Suffixes.{suffixes-at}

-- where the suffix at a place passes no test, those behind it tell of all from there on
pub below_next : (test : List ℕ → Bool) (name : List ℕ) (place : ℕ) → place < length name
    → test (drop place name) ≡ false
    → list_any test (suffixes (drop (next_place name place) name)) ≡ list_any test (suffixes (drop place name))
below_next test name place within fails =
    sym (ap (list_any test) (suffixes-at name place within)
    ∙ ap (λ (b : Bool). b || list_any test (suffixes (drop (next_place name place) name))) fails)

pub below_here : (test : List ℕ → Bool) (name : List ℕ) (place : ℕ) → place < length name
    → test (drop place name) ≡ true → list_any test (suffixes (drop place name)) ≡ true
below_here test name place within passes =
    ap (list_any test) (suffixes-at name place within)
    ∙ ap (λ (b : Bool). b || list_any test (suffixes (drop (next_place name place) name))) passes
