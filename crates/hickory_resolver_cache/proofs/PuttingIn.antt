-- A pair that has come in as the newest, in place of its question's.
use Rattle.std.proofs.Common.{◌≡◌, ℕ, ◌+◌, List, [], ◌∷◌, ◌++◌, map, Option, None, Some, refl, sym, ap, subst, ◌∙◌, arith, nat_eq, cond}
use Rattle.std.proofs.lemmas.Bool.{eq-eqb, ne_eqb}
use Rattle.std.proofs.lemmas.List.Elements.{All-push, All-tail}
use Rattle.std.proofs.lemmas.List.Sorted.{All-permutation}
use Rattle.std.specs.List.{All, IsDistinct}
use Rattle.std.specs.Map.{keys_of}
use Rattle.hickory_proto_core.specs.Query.{query_eq}
use Rattle.hickory_proto_core.specs.declared.query.Query.{Query}
use Rattle.hickory_resolver_model.specs.Cache.{all_weight, without}
use Rattle.hickory_resolver_cache.specs.Octets.{IsPutIn}
use Rattle.hickory_resolver_cache.specs.Turns.{Gone, HasItsWeight, IsNumbered, IsPlaced, IsSameList, IsStored, IsTurnOf, Order, Pair, Turn, entries_of, numbered, stored_entry, weight_at}
use Rattle.hickory_resolver_cache.proofs.Listed.{listed-same}
use Rattle.hickory_resolver_cache.proofs.Renumbered.{numbered-permuted, same_list-permuted}
use Rattle.hickory_resolver_cache.proofs.Store.{drops}
use Rattle.hickory_resolver_cache.proofs.TurnOrder.{gone-push, numbered-push, numbers-left, numbers-push, placed-left, placed-push}
use Rattle.hickory_resolver_cache.proofs.Weights.{weight-gone}

pub each-left : (ps rs : List Pair) (o : Option Turn) → All HasItsWeight ps → Gone o ps rs → All HasItsWeight rs
each-left ps rs None each gone = subst (All HasItsWeight) (sym gone) each
each-left ps rs (Some t) each gone = All-tail HasItsWeight gone.0 rs (All-permutation HasItsWeight ps (gone.0 ∷ rs) gone.2 each)

module _ (next : ℕ) (ps qs : List Pair) (p : Pair) (old new : Order) (o : Option Turn) (h : IsNumbered next ps) (placed : IsPlaced ps old) (is : p.1.number ≡ next) (s : IsStored o next ps old p qs new) where
  numbers : IsNumbered (next + 1) (s.rest ++ p ∷ [])
  numbers = numbers-push next s.rest p (numbers-left next ps s.rest o h s.gone) is

  turns : IsPlaced (s.rest ++ p ∷ []) new
  turns =
      placed-left (ps ++ p ∷ []) (s.rest ++ p ∷ []) s.between new o (numbers-push next ps p h is).apart
      (placed-push next ps p old s.between h is placed s.added) (gone-push ps s.rest p o s.gone) s.turn_gone

  same : IsSameList (s.rest ++ p ∷ []) (next + 1) qs (next + 1) new
  same = same_list-permuted (next + 1) (s.rest ++ p ∷ []) qs new numbers turns s.moved

  alike : (n : ℕ) → numbered qs n ≡ cond (nat_eq n next) (Some p) (numbered s.rest n)
  alike n = (numbered-permuted (s.rest ++ p ∷ []) qs numbers.apart s.moved).1 n ∙ numbered-push next s.rest p (numbers-left next ps s.rest o h s.gone) is n

  pub others-put : entries_of qs next ≡ entries_of s.rest next
  others-put =
      ap (map stored_entry) (listed-same (numbered qs) (numbered s.rest) next (λ n l. alike n ∙ ap (λ b. cond b (Some p) (numbered s.rest n)) (ne_eqb n next (λ e. omega (arith, e, l)))))

  pub others-without : IsDistinct query_eq (keys_of ps) → (q : Query) → IsTurnOf q ps o → entries_of qs next ≡ without q (entries_of ps next)
  others-without apart q own = others-put ∙ drops next ps h apart q o own s.rest s.gone

  -- what the others weigh is what was held without what left
  pub others-weigh : All HasItsWeight ps → all_weight (entries_of qs next) + weight_at ps o ≡ all_weight (entries_of ps next)
  others-weigh each = let less = weight-gone next ps s.rest o h each s.gone in let same_entries = ap all_weight others-put in omega (arith, less, same_entries)

  pub put-stored : All HasItsWeight ps → HasItsWeight p → IsPutIn (p.1.valid_until, next) p qs new
  put-stored each own = record {
    numbers = same.numbers;
    placed = same.placed;
    newest = record { number = alike next ∙ ap (λ b. cond b (Some p) (numbered s.rest next)) (eq-eqb next next refl); valid_until = refl };
    each = same.weights_are (All-push HasItsWeight s.rest p (each-left ps s.rest o each s.gone) own);
  }
