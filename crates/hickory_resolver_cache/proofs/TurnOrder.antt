-- Turns in order, and what a store or a removal does to the pairs and the turns.
use Rattle.std.proofs.Common.{◌≡◌, ℕ, ◌+◌, ◌<◌, ◌≤◌, Bool, true, false, cond, ◌&&◌, ◌==◌, nat_eq, List, [], ◌∷◌, ◌++◌, length, Option, None, Some, refl, sym, ap, ap₂, ◌∙◌, subst, arith, slice_get, position, is_some, ◌⊎◌, inl, inr, if◌then◌else◌}
use Rattle.std.proofs.lemmas.Bool.{eq-eqb, ne_eqb, cases_eq, false≢true}
use Rattle.std.proofs.lemmas.List.{length-map}
use Rattle.std.proofs.lemmas.List.Quantifiers.{position-Some}
use Rattle.std.proofs.lemmas.List.Sorted.{IsPermutation-append_left, IsPermutation-swap_remove}
use Rattle.std.proofs.lemmas.Map.Entries.{lookup_from_place}
use Rattle.std.proofs.lemmas.Map.Keys.{le_from_not_gt}
use Rattle.std.proofs.lemmas.Option.{slice_get-map, same_Some, get_or_from_slice_get}
use Rattle.std.specs.Cmp.{unsigned_ties, tied_then}
use Rattle.std.specs.declared.cmp.Ordering.{Ordering}
use Rattle.std.specs.declared.cmp.Ordering.TheVariants.{Less, Equal, Greater}
use Rattle.std.specs.List.{IsDistinct, swap_remove}
use Rattle.std.specs.List.Sorted.{IsPermutation}
use Rattle.std.specs.Map.{lookup, keys_of, values_of}
use Rattle.std.specs.BTreeMap.{get, is_at}
use Rattle.std.specs.Ordering.{nat_cmp, ordering_then, is_eq, is_gt}
use Rattle.std.specs.Option.{option_or, option_map, IfSome}
use Rattle.indexmap.specs.IndexMap.{swap_remove_entry}
use Rattle.indexmap.proofs.MapLemmas.{some_index, value_index, swap_remove_entry-found}
use Rattle.hickory_proto_core.specs.declared.query.Query.{Query}
use Rattle.hickory_resolver_cache.specs.declared.kept.Kept.{Kept}
use Rattle.hickory_proto_core.specs.Query.{query_eq, query_equiv}
use Rattle.hickory_resolver_cache.specs.Turns.{Pair, Turn, Order, turn_cmp, by_number, numbered, query_at, IsNumbered, IsPlaced, StandsAt, Gone, TurnGone}
use Rattle.hickory_resolver_cache.proofs.PairLists.{or-none}
use Rattle.hickory_resolver_cache.proofs.Listed.{numbered-append, numbered-is, numbered-at, numbered-left, apart-left, apart-push, stands}

pub at-turn : (t u : Turn) → is_at (turn_cmp t) u ≡ ((t.0 == u.0) && (t.1 == u.1))
at-turn t u = sym (ap₂ (λ a b. a && b) (unsigned_ties t.0 u.0) (unsigned_ties t.1 u.1) ∙ tied_then (nat_cmp t.0 u.0) (nat_cmp t.1 u.1))

pub apart-turn : (t u : Turn) → (t.1 ≡ u.1 → ⊥) → is_at (turn_cmp t) u ≡ false
apart-turn t u ne = at-turn t u ∙ ap (λ b. (t.0 == u.0) && b) (ne_eqb t.1 u.1 ne) ∙ by (t.0 == u.0)
  where
    by : (b : Bool) → (b && false) ≡ false
    by true = refl
    by false = refl

same-turn : (t u : Turn) → t.1 ≡ u.1 → is_at (turn_cmp t) u ≡ (t.0 == u.0)
same-turn t u e = at-turn t u ∙ ap (λ b. (t.0 == u.0) && b) (eq-eqb t.1 u.1 e) ∙ by (t.0 == u.0)
  where
    by : (b : Bool) → (b && true) ≡ b
    by true = refl
    by false = refl

gt-then : (o p : Ordering) → is_gt (ordering_then o p) ≡ false → (is_gt o ≡ false) × (is_eq o ≡ true → is_gt p ≡ false)
gt-then Less p h = (refl, λ e. absurd (false≢true e))
gt-then Equal p h = (refl, λ e. h)
gt-then Greater p h = absurd (false≢true (sym h))

-- a turn that is not above another
pub turn-below : (t u : Turn) → is_gt (turn_cmp t u) ≡ false → (t.0 ≤ u.0) × (t.0 ≡ u.0 → t.1 ≤ u.1)
turn-below t u h =
    let parts = gt-then (nat_cmp t.0 u.0) (nat_cmp t.1 u.1) h in
    (le_from_not_gt t.0 u.0 parts.0, λ e. le_from_not_gt t.1 u.1 (parts.1 (sym (unsigned_ties t.0 u.0) ∙ eq-eqb t.0 u.0 e)))

pub query_at-own : (p : Pair) → query_at p.1.valid_until (Some p) ≡ Some p.0
query_at-own p = ap (λ b. if b then Some p.0 else None) (eq-eqb p.1.valid_until p.1.valid_until refl)

pub taken-from_stands : (ps : List Pair) (order : Order) (t : Turn) (p : Pair) → IsPlaced ps order → StandsAt ps t p → get turn_cmp order t ≡ Some p.0
taken-from_stands ps order t p placed s = placed t ∙ ap (query_at t.0) s.number ∙ ap (λ d. query_at d (Some p)) (sym s.valid_until) ∙ query_at-own p

-- ---- the pair at a turn leaves
pub left : (ps rs : List Pair) (t : Turn) (p : Pair) → IsDistinct nat_eq (keys_of (by_number ps)) → StandsAt ps t p → IsPermutation ps (p ∷ rs) → (n : ℕ) → numbered rs n ≡ cond (nat_eq n t.1) None (numbered ps n)
left ps rs t p apart s moves n = numbered-left ps rs p moves apart n ∙ ap (λ m. cond (nat_eq n m) None (numbered ps n)) (numbered-is ps t.1 p s.number)

pub numbers-left : (next : ℕ) (ps rs : List Pair) (o : Option Turn) → IsNumbered next ps → Gone o ps rs → IsNumbered next rs
numbers-left next ps rs None h gone = subst (IsNumbered next) (sym gone) h
numbers-left next ps rs (Some t) h gone = record {
  apart = apart-left ps rs gone.0 gone.2 h.apart;
  below = λ n l. left ps rs t gone.0 h.apart gone.1 gone.2 n ∙ ap (cond (nat_eq n t.1) None) (h.below n l) ∙ none (nat_eq n t.1);
}
  where
    none : (b : Bool) → cond {A = Option Pair} b None None ≡ None
    none true = refl
    none false = refl

pub placed-left : (ps rs : List Pair) (old new : Order) (o : Option Turn) → IsDistinct nat_eq (keys_of (by_number ps)) → IsPlaced ps old → Gone o ps rs → TurnGone o old new → IsPlaced rs new
placed-left ps rs old new None apart placed gone turns u = turns u ∙ placed u ∙ ap (λ l. query_at u.0 (numbered l u.1)) (sym gone)
placed-left ps rs old new (Some t) apart placed gone turns u = turns u ∙ by (cases_eq t.1 u.1)
  where
    p : Pair
    p = gone.0

    now : numbered rs u.1 ≡ cond (nat_eq u.1 t.1) None (numbered ps u.1)
    now = left ps rs t p apart gone.1 gone.2 u.1

    here : t.1 ≡ u.1 → (b : Bool) → (t.0 == u.0) ≡ b → cond b None (get turn_cmp old u) ≡ None
    here e true d = refl
    here e false d =
        placed u ∙ ap (λ n. query_at u.0 (numbered ps n)) (sym e) ∙ ap (query_at u.0) gone.1.number
        ∙ ap (λ b. if b then Some p.0 else None) (ap (λ m. m == u.0) gone.1.valid_until ∙ d)

    by : (t.1 ≡ u.1) ⊎ (t.1 ≡ u.1 → ⊥) → cond (is_at (turn_cmp t) u) None (get turn_cmp old u) ≡ query_at u.0 (numbered rs u.1)
    by (inl e) =
        ap (λ b. cond b None (get turn_cmp old u)) (same-turn t u e) ∙ here e (t.0 == u.0) refl
        ∙ sym (ap (query_at u.0) (now ∙ ap (λ b. cond b None (numbered ps u.1)) (eq-eqb u.1 t.1 (sym e))))
    by (inr ne) =
        ap (λ b. cond b None (get turn_cmp old u)) (apart-turn t u ne) ∙ placed u
        ∙ sym (ap (query_at u.0) (now ∙ ap (λ b. cond b None (numbered ps u.1)) (ne_eqb u.1 t.1 (λ e. ne (sym e)))))

-- ---- a pair comes in, with the next number
pub numbered-push : (next : ℕ) (ps : List Pair) (p : Pair) → IsNumbered next ps → p.1.number ≡ next → (n : ℕ) → numbered (ps ++ p ∷ []) n ≡ cond (nat_eq n next) (Some p) (numbered ps n)
numbered-push next ps p h is n = numbered-append ps (p ∷ []) n ∙ ap (λ m. option_or (numbered ps n) (cond (nat_eq n m) (Some p) None)) is ∙ by (cases_eq n next)
  where
    by : (n ≡ next) ⊎ (n ≡ next → ⊥) → option_or (numbered ps n) (cond (nat_eq n next) (Some p) None) ≡ cond (nat_eq n next) (Some p) (numbered ps n)
    by (inl e) = ap (λ o. option_or o (cond (nat_eq n next) (Some p) None)) (h.below n (omega arith)) ∙ ap (λ b. cond b (Some p) None) (eq-eqb n next e) ∙ sym (ap (λ b. cond b (Some p) (numbered ps n)) (eq-eqb n next e))
    by (inr ne) = ap (λ b. option_or (numbered ps n) (cond b (Some p) None)) (ne_eqb n next ne) ∙ or-none (numbered ps n) ∙ sym (ap (λ b. cond b (Some p) (numbered ps n)) (ne_eqb n next ne))

pub numbers-push : (next : ℕ) (ps : List Pair) (p : Pair) → IsNumbered next ps → p.1.number ≡ next → IsNumbered (next + 1) (ps ++ p ∷ [])
numbers-push next ps p h is = record {
  apart = apart-push ps p h.apart (ap (numbered ps) is ∙ h.below next (omega arith));
  below = λ n l. numbered-push next ps p h is n ∙ ap (λ b. cond b (Some p) (numbered ps n)) (ne_eqb n next (λ e. omega arith)) ∙ h.below n (omega arith);
}

pub placed-push : (next : ℕ) (ps : List Pair) (p : Pair) (old new : Order) → IsNumbered next ps → p.1.number ≡ next → IsPlaced ps old
    → ((u : Turn) → get turn_cmp new u ≡ cond (is_at (turn_cmp (p.1.valid_until, next)) u) (Some p.0) (get turn_cmp old u)) → IsPlaced (ps ++ p ∷ []) new
placed-push next ps p old new h is placed updates u = updates u ∙ by (cases_eq next u.1)
  where
    t : Turn
    t = (p.1.valid_until, next)

    now : numbered (ps ++ p ∷ []) u.1 ≡ cond (nat_eq u.1 next) (Some p) (numbered ps u.1)
    now = numbered-push next ps p h is u.1

    by : (next ≡ u.1) ⊎ (next ≡ u.1 → ⊥) → cond (is_at (turn_cmp t) u) (Some p.0) (get turn_cmp old u) ≡ query_at u.0 (numbered (ps ++ p ∷ []) u.1)
    by (inl e) =
        ap₂ (λ b o. cond b (Some p.0) o) (same-turn t u e) (placed u ∙ ap (query_at u.0) (h.below u.1 (omega arith)))
        ∙ sym (ap (query_at u.0) (now ∙ ap (λ b. cond b (Some p) (numbered ps u.1)) (eq-eqb u.1 next (sym e))))
    by (inr ne) =
        ap (λ b. cond b (Some p.0) (get turn_cmp old u)) (apart-turn t u ne) ∙ placed u
        ∙ sym (ap (query_at u.0) (now ∙ ap (λ b. cond b (Some p) (numbered ps u.1)) (ne_eqb u.1 next (λ e. ne (sym e)))))

-- the pair that is to leave still stands when another has come in
pub stands-push : (next : ℕ) (ps : List Pair) (p : Pair) (t : Turn) (x : Pair) → StandsAt ps t x → StandsAt (ps ++ p ∷ []) t x
stands-push next ps p t x s = record {
  number = numbered-append ps (p ∷ []) t.1 ∙ ap (λ o. option_or o (numbered (p ∷ []) t.1)) s.number;
  valid_until = s.valid_until;
}

pub gone-push : (ps rs : List Pair) (p : Pair) (o : Option Turn) → Gone o ps rs → Gone o (ps ++ p ∷ []) (rs ++ p ∷ [])
gone-push ps rs p None gone = ap (λ l. l ++ p ∷ []) gone
gone-push ps rs p (Some t) gone = (gone.0, stands-push 0 ps p t gone.0 gone.1, IsPermutation-append_left (p ∷ []) ps (gone.0 ∷ rs) gone.2)

-- ---- in the index
pub found-query : (ps : List Pair) (n : ℕ) (p : Pair) → IsDistinct query_eq (keys_of ps) → numbered ps n ≡ Some p → lookup (query_eq p.0) ps ≡ Some p.1
found-query ps n p apart h =
    let at = stands ps n p h in
    lookup_from_place query_equiv ps at.0 p.0 p.1 apart at.1

-- the pair at the question's index is the one that stands at the turn
pub taken-out : (ps rs : List Pair) (t : Turn) (p : Pair) (i : ℕ) (out : Option Pair) → IsDistinct nat_eq (keys_of (by_number ps)) → IsDistinct query_eq (keys_of ps) → StandsAt ps t p
    → i < length ps → slice_get (values_of ps) i ≡ lookup (query_eq p.0) ps → out ≡ slice_get ps i → IfSome out (λ x. rs ≡ swap_remove ps i x) → IsPermutation ps (p ∷ rs)
taken-out ps rs t p i out numbers apart s within at is after = by out refl is after
  where
    value : slice_get (values_of ps) i ≡ Some p.1
    value = at ∙ found-query ps t.1 p apart s.number

    by : (o : Option Pair) → out ≡ o → o ≡ slice_get ps i → IfSome o (λ x. rs ≡ swap_remove ps i x) → IsPermutation ps (p ∷ rs)
    by None e g h = let v = sym value ∙ slice_get-map (λ (q : Pair). q.1) ps i ∙ ap (option_map (λ (q : Pair). q.1)) (sym g) in cc
    by (Some x) e g h =
        let v = same_Some x.1 p.1 (ap (option_map (λ (q : Pair). q.1)) g ∙ sym (slice_get-map (λ (q : Pair). q.1) ps i) ∙ value) in
        let num = ap (λ (k : Kept). k.number) v ∙ numbered-is ps t.1 p s.number in
        let same : x ≡ p = same_Some x p (sym (numbered-at ps i x numbers (sym g)) ∙ ap (numbered ps) num ∙ s.number) in
        subst (λ l. IsPermutation ps (p ∷ l)) (sym (h ∙ ap (swap_remove ps i) same))
        (IsPermutation-swap_remove ps i p within (sym (get_or_from_slice_get ps i p p (sym g ∙ ap Some same))))

pub taken-found : (ps rs : List Pair) (t : Turn) (p : Pair) (k : Query) → IsDistinct nat_eq (keys_of (by_number ps)) → IsDistinct query_eq (keys_of ps) → StandsAt ps t p → k ≡ p.0
    → rs ≡ swap_remove_entry (query_eq k) ps → IsPermutation ps (p ∷ rs)
taken-found ps rs t p k numbers apart s key is = by (position (query_eq p.0) (keys_of ps)) refl
  where
    after : rs ≡ swap_remove_entry (query_eq p.0) ps
    after = is ∙ ap (λ q. swap_remove_entry (query_eq q) ps) key

    some : is_some (position (query_eq p.0) (keys_of ps)) ≡ true
    some = some_index (query_eq p.0) ps ∙ ap is_some (found-query ps t.1 p apart s.number)

    each : (o : Option Pair) (i : ℕ) → position (query_eq p.0) (keys_of ps) ≡ Some i → IfSome o (λ x. rs ≡ swap_remove ps i x)
    each None i e = tt
    each (Some x) i e = after ∙ swap_remove_entry-found (query_eq p.0) ps i x e

    by : (r : Option ℕ) → position (query_eq p.0) (keys_of ps) ≡ r → IsPermutation ps (p ∷ rs)
    by None e = absurd (false≢true (sym (ap is_some e) ∙ some))
    by (Some i) e =
        let within = subst (λ n. i < n) (length-map ps (λ (q : Pair). q.0)) (position-Some (query_eq p.0) (keys_of ps) i p.0 e).0 in
        taken-out ps rs t p i (slice_get ps i) numbers apart s within (subst (λ r. IfSome r (λ j. slice_get (values_of ps) j ≡ lookup (query_eq p.0) ps)) e (value_index (query_eq p.0) ps)) refl (each (slice_get ps i) i e)
