-- A store that has one pair come in and another leave.
use Rattle.std.proofs.Common.{◌≡◌, ℕ, ◌+◌, ◌<◌, ◌≤◌, cond, List, [], ◌∷◌, ◌++◌, length, Option, None, Some, refl, sym, ◌∙◌, subst, remove, ◌⊎◌, inl, inr}
use Rattle.std.proofs.lemmas.Bool.{cases_lt}
use Rattle.std.proofs.lemmas.List.Sorted.{IsPermutation-refl, IsPermutation-remove, IsPermutation-sym, IsPermutation-trans}
use Rattle.std.proofs.lemmas.Option.{get_or_from_slice_get, slice_get_within}
use Rattle.std.specs.List.{IsDistinct}
use Rattle.std.specs.List.Sorted.{IsPermutation}
use Rattle.std.specs.Map.{lookup, keys_of}
use Rattle.std.specs.BTreeMap.{get, is_at}
use Rattle.hickory_proto_core.specs.declared.query.Query.{Query}
use Rattle.hickory_proto_core.specs.Query.{query_eq}
use Rattle.hickory_resolver_model.specs.Cache.{insert_entry}
use Rattle.hickory_resolver_cache.specs.Turns.{Pair, Turn, Order, turn_cmp, stored_entry, numbered, in_order, entries_of, IsNumbered, IsPlaced, IsKept, IsSameList, Gone, TurnGone, IsTurnOf, IsSomeTurn, IsLeaving, Frees, IsStored}
use Rattle.hickory_resolver_cache.proofs.Listed.{in_order-permutes, listed-same, stands}
use Rattle.hickory_resolver_cache.proofs.Store.{MakesRoom, makes_room-own, makes_room-none, makes_room-any, none-left, kept-store, entries-insert_entry}
use Rattle.hickory_resolver_cache.proofs.TurnOrder.{gone-push, left, numbers-left, numbers-push}
use Rattle.hickory_resolver_cache.proofs.Renumbered.{kept-same, same_list-permuted}

-- ---- the turn that leaves
pub makes_room-leaving : (capacity next : ℕ) (q : Query) (ps : List Pair) (order : Order) (o : Option Turn) → IsNumbered next ps → IsPlaced ps order → IsDistinct query_eq (keys_of ps) → 0 < capacity → lookup (query_eq q) ps ≡ None → IsLeaving capacity ps order o
    → MakesRoom capacity next q ps o
makes_room-leaving capacity next q ps order o h placed apart pos none leaving = by (cases_lt (length ps) capacity)
  where
    by : (length ps < capacity) ⊎ (capacity ≤ length ps) → MakesRoom capacity next q ps o
    by (inl l) = subst (MakesRoom capacity next q ps) (sym (leaving.0 l)) (makes_room-none next ps h apart capacity q none l)
    by (inr l) = makes_room-any next ps h apart capacity q order o pos none l placed (leaving.1 l)

pub frees-room : (capacity next : ℕ) (q : Query) (ps : List Pair) (o : Option Turn) → IsNumbered next ps → MakesRoom capacity next q ps o → Frees q ps o
frees-room capacity next q ps o h room rs apart gone = none-left capacity next q ps rs o h apart room gone

-- ---- the question's own turn
pub turn-given : (q r : Query) (ps : List Pair) (found o : Option Turn) → q ≡ r → found ≡ o → IsTurnOf q ps found → IsTurnOf r ps o
turn-given q r ps found o same is own = subst (λ x. IsTurnOf x ps o) same (subst (IsTurnOf q ps) is own)

pub frees-own : (next : ℕ) (q : Query) (ps : List Pair) (t : Turn) → IsNumbered next ps → IsDistinct query_eq (keys_of ps) → IsTurnOf q ps (Some t) → Frees q ps (Some t)
frees-own next q ps t h apart own = frees-room 1 next q ps (Some t) h (makes_room-own next ps h apart 1 q t own)

-- ---- a pair that comes in before another leaves

-- what is left once a pair is gone is the same, whatever its order
same-gone : (next : ℕ) (ps rs qs : List Pair) (o : Option Turn) → IsNumbered next ps → Gone o ps rs → Gone o ps qs → IsPermutation rs qs
same-gone next ps rs qs None h gone too = subst (IsPermutation rs) (gone ∙ sym too) (IsPermutation-refl rs)
same-gone next ps rs qs (Some t) h gone too =
    IsPermutation-trans rs (in_order rs next) qs (in_order-permutes next rs (numbers-left next ps rs (Some t) h gone))
    (subst (λ l. IsPermutation l qs) (sym alike) (IsPermutation-sym qs (in_order qs next) (in_order-permutes next qs (numbers-left next ps qs (Some t) h too))))
  where
    alike : in_order rs next ≡ in_order qs next
    alike = listed-same (numbered rs) (numbered qs) next (λ n l. left ps rs t gone.0 h.apart gone.1 gone.2 n ∙ sym (left ps qs t too.0 h.apart too.1 too.2 n))

pub stored-before : (next : ℕ) (ps qs : List Pair) (p : Pair) (old between new : Order) (o : Option Turn) → IsNumbered next ps → p.1.number ≡ next → IsSomeTurn ps o
    → ((u : Turn) → get turn_cmp between u ≡ cond (is_at (turn_cmp (p.1.valid_until, next)) u) (Some p.0) (get turn_cmp old u)) → Gone o (ps ++ p ∷ []) qs → TurnGone o between new
    → IsStored o next ps old p qs new
stored-before next ps qs p old between new None h is some added gone turn_gone = record {
  rest = ps;
  between = between;
  gone = refl;
  moved = subst (IsPermutation (ps ++ p ∷ [])) (sym gone) (IsPermutation-refl (ps ++ p ∷ []));
  added = added;
  turn_gone = turn_gone;
}
stored-before next ps qs p old between new (Some t) h is some added gone turn_gone =
    let at = stands ps t.1 some.0 some.1.number in
    let rest = remove ps at.0 in
    let left_out : Gone (Some t) ps rest =
    (some.0, some.1, IsPermutation-remove ps at.0 some.0 (slice_get_within ps at.0 some.0 at.1) (sym (get_or_from_slice_get ps at.0 some.0 some.0 at.1))) in
    record {
      rest = rest;
      between = between;
      gone = left_out;
      moved = same-gone (next + 1) (ps ++ p ∷ []) (rest ++ p ∷ []) qs (Some t) (numbers-push next ps p h is) (gone-push ps rest p (Some t) left_out) gone;
      added = added;
      turn_gone = turn_gone;
    }

-- ---- what holds after a store
module _ (capacity next : ℕ) (ps qs : List Pair) (p : Pair) (old new : Order) (o : Option Turn) (h : IsKept capacity next ps old) (is : p.1.number ≡ next) (room : MakesRoom capacity next p.0 ps o) (s : IsStored o next ps old p qs new) where
  pushed : IsKept capacity (next + 1) (s.rest ++ p ∷ []) new
  pushed = kept-store capacity next ps s.rest p old s.between new o h is room s.added s.gone s.turn_gone

  same : IsSameList (s.rest ++ p ∷ []) (next + 1) qs (next + 1) new
  same = same_list-permuted (next + 1) (s.rest ++ p ∷ []) qs new pushed.numbers pushed.placed s.moved

  pub kept-stored : IsKept capacity (next + 1) qs new
  kept-stored = kept-same capacity (next + 1) (next + 1) (s.rest ++ p ∷ []) qs new pushed same

  pub entries-stored : 0 < capacity → entries_of qs (next + 1) ≡ insert_entry capacity (entries_of ps next) (stored_entry p)
  entries-stored pos = same.entries_are ∙ entries-insert_entry capacity next ps s.rest p o {order = old} h is room s.gone pos
