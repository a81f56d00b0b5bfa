-- A whole store within a bound in octets.
use Rattle.std.proofs.Common.{◌≡◌, ℕ, ◌+◌, ◌-◌, ◌*◌, ◌<◌, ◌≤◌, Bool, true, false, not, List, [], ◌∷◌, ◌++◌, length, Some, refl, sym, ap, ap₂, ◌∙◌, arith}
use Rattle.std.proofs.lemmas.Bool.{ltb-false, true≢false}
use Rattle.hickory_resolver_model.specs.Cache.{Entry, all_weight, entry_weight, insert_weighed, is_heavy, is_light, with_room, without}
use Rattle.hickory_resolver_cache.specs.Octets.{IsPutIn, IsShed, IsWeighed}
use Rattle.hickory_resolver_cache.specs.Turns.{Order, Pair, Turn, entries_of, stored_entry}
use Rattle.hickory_resolver_cache.proofs.Laws.{light-stored}
use Rattle.hickory_resolver_cache.proofs.Shedding.{entries-put, weight-put}

-- an entry that is not heavy is within the bound
pub light-fits : (most weight : ℕ) (e : Entry) → weight ≡ entry_weight e → is_light (Some most) e ≡ true → weight ≤ most
light-fits most weight e is light = by (is_heavy most e) refl
  where
    by : (b : Bool) → is_heavy most e ≡ b → weight ≤ most
    by true h = absurd (true≢false (sym light ∙ ap not h))
    by false h = let fits = ltb-false most (256 * entry_weight e) h in omega (arith, fits, is)

module _ (own : Turn) (p : Pair) (ps qs : List Pair) (new : Order) (e : Entry) (capacity most weight : ℕ) (h : IsPutIn own p qs new) (s : IsShed capacity (most - weight) own.1 ps qs) (is : weight ≡ entry_weight e) (light : is_light (Some most) e ≡ true) (same : stored_entry p ≡ e) where
  pub entries-shed : (es : List Entry) → 0 < capacity → entries_of ps own.1 ≡ without e.query es → entries_of qs (own.1 + 1) ≡ insert_weighed most capacity es e
  entries-shed es pos others =
      entries-put own p qs new h ∙ ap₂ (λ l x. l ++ x ∷ []) s.entries_are same
      ∙ ap₂ (λ l w. with_room (length l) capacity (most - w) l ++ e ∷ []) others is
      ∙ sym (light-stored most capacity es e pos light)

  pub weighed-shed : (left : ℕ) → left ≡ all_weight (entries_of qs own.1) → IsWeighed (record { most = most; held = left + weight }) (own.1 + 1) qs
  weighed-shed left held = record {
    each = h.each;
    held =
        let whole = weight-put own p qs new h in
        let new_one = ap entry_weight same in
        omega (arith, whole, new_one, held, is);
    within =
        let fits = light-fits most weight e is light in
        let rest = s.within in
        omega (arith, fits, rest, held);
  }
