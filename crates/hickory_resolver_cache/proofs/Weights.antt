-- What pairs and entries weigh together.
use Rattle.std.proofs.Common.{◌≡◌, ℕ, ◌+◌, List, [], ◌∷◌, map, Option, None, Some, refl, sym, ap, ap₂, ◌∙◌, arith}
use Rattle.std.proofs.lemmas.List.Elements.{All-head}
use Rattle.std.proofs.lemmas.List.Sorted.{All-permutation, sum_by-IsPermutation, sum_by_popped}
use Rattle.std.proofs.lemmas.List.Sums.{sum_by-cons}
use Rattle.std.specs.List.{All, sum_by}
use Rattle.std.specs.Option.{option_map_or}
use Rattle.hickory_resolver_model.specs.Cache.{all_weight, entry_weight}
use Rattle.hickory_resolver_cache.specs.Turns.{Gone, HasItsWeight, IsNumbered, Pair, Turn, entries_of, in_order, stored_entry, weight_at}
use Rattle.hickory_resolver_cache.proofs.Listed.{in_order-permutes}
use Rattle.hickory_resolver_cache.proofs.TurnOrder.{numbers-left}

pub pair_weight : Pair → ℕ
pair_weight p = entry_weight (stored_entry p)

weight-map : (ps : List Pair) → all_weight (map stored_entry ps) ≡ sum_by pair_weight ps
unfolding pair_weight
weight-map [] = refl
weight-map (p ∷ ps) =
    sum_by-cons entry_weight (stored_entry p) (map stored_entry ps) ∙ ap (λ n. pair_weight p + n) (weight-map ps)
    ∙ sym (sum_by-cons pair_weight p ps)

-- the entries weigh what the pairs do
pub all_weight-pairs : (next : ℕ) (ps : List Pair) → IsNumbered next ps → all_weight (entries_of ps next) ≡ sum_by pair_weight ps
all_weight-pairs next ps h = weight-map (in_order ps next) ∙ sum_by-IsPermutation pair_weight ps (in_order ps next) (in_order-permutes next ps h)

-- where the turn goes, its weight does
pub weight-gone : (next : ℕ) (ps rs : List Pair) (o : Option Turn) → IsNumbered next ps → All HasItsWeight ps → Gone o ps rs → all_weight (entries_of rs next) + weight_at ps o ≡ all_weight (entries_of ps next)
unfolding pair_weight
weight-gone next ps rs None h each gone = let same = ap (λ l. all_weight (entries_of l next)) gone in omega (arith, same)
weight-gone next ps rs (Some t) h each gone =
    let x : Pair = gone.0 in
    let whole = all_weight-pairs next ps h in
    let rest = all_weight-pairs next rs (numbers-left next ps rs (Some t) h gone) in
    let parts = sum_by_popped pair_weight x ps rs gone.2 in
    let own = (All-head HasItsWeight x rs (All-permutation HasItsWeight ps (x ∷ rs) gone.2 each)).weighs in
    let at = ap (λ o. option_map_or (λ (p : Pair). p.1.weight) o 0) gone.1.number in
    ap₂ ◌+◌ rest (at ∙ own) ∙ parts ∙ sym whole
