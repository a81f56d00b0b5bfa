-- Entries that leave, the earliest deadlines first, while a new one stands last.
use Rattle.std.proofs.Common.{◌≡◌, ℕ, ◌+◌, ◌<◌, ◌≤◌, suc, zero, Bool, true, false, ◌&&◌, ◌==◌, List, [], ◌∷◌, ◌++◌, map, length, Option, None, Some, IsSome, refl, sym, ap, ap₂, ◌∙◌, subst, arith, if◌then◌else◌, cond, length-append, le-leb, ◌⊎◌, inl, inr}
use Rattle.std.specs.Prelude.{nat_le, nat_lt}
use Rattle.std.proofs.lemmas.Bool.{and_from, and_parts, cases_eq, cases_lt, eq-eqb, eqb-true, false≢true, leb-true, lt-ltb, ne_eqb, true≢false}
use Rattle.std.proofs.lemmas.List.{map-append}
use Rattle.std.proofs.lemmas.List.Elements.{All-tail}
use Rattle.std.proofs.lemmas.List.Sorted.{All-permutation, length_permutation}
use Rattle.std.proofs.lemmas.List.Sums.{sum_by_push}
use Rattle.std.proofs.lemmas.Option.{same_Some}
use Rattle.std.specs.BTreeMap.{get}
use Rattle.std.specs.Option.{option_to_list}
use Rattle.hickory_resolver_model.specs.Cache.{Entry, all_weight, entry_weight, has_room, with_room, without_earliest}
use Rattle.hickory_resolver_cache.specs.Octets.{IsPutIn, IsShed, fits}
use Rattle.hickory_resolver_cache.specs.Turns.{Gone, HasItsWeight, IsFirstOther, IsPlaced, IsTaken, Order, Pair, StandsAt, Turn, TurnGone, entries_of, in_order, listed, numbered, query_at, stored_entry, turn_cmp, weight_at}
use Rattle.hickory_resolver_cache.proofs.Rooms.{with_room-done, with_room-step}
use Rattle.hickory_resolver_cache.proofs.Store.{length-entries, without-least}
use Rattle.hickory_resolver_cache.proofs.TurnOrder.{apart-turn, at-turn, left, numbers-left, placed-left, taken-from_stands, turn-below}
use Rattle.hickory_resolver_cache.proofs.Weights.{weight-gone}

-- a turn that the order has is some pair's
pub taken-some : (ps : List Pair) (order : Order) (t : Turn) → IsPlaced ps order → IsSome (get turn_cmp order t) → IsTaken ps order (Some t)
taken-some ps order t placed some = by (numbered ps t.1) refl
  where
    at : (o : Option Pair) → numbered ps t.1 ≡ o → IsSome (query_at t.0 o)
    at o e = subst IsSome (placed t ∙ ap (query_at t.0) e) some

    by : (o : Option Pair) → numbered ps t.1 ≡ o → IsTaken ps order (Some t)
    by None e = absurd (false≢true (at None e))
    by (Some x) e = due (x.1.valid_until == t.0) refl
      where
        due : (b : Bool) → (x.1.valid_until == t.0) ≡ b → IsTaken ps order (Some t)
        due true d =
            let s : StandsAt ps t x = record { number = e; valid_until = eqb-true x.1.valid_until t.0 d } in
            (x, s, taken-from_stands ps order t x placed s)
        due false d = absurd (false≢true (subst IsSome (ap (λ b. if b then Some x.0 else None) d) (at (Some x) e)))

-- whether there is room, from the pairs
pub fits-room : (capacity room held : ℕ) (ps : List Pair) (es : List Entry) → length ps ≡ length es + 1 → held ≡ all_weight es → fits capacity room ps held ≡ has_room capacity room es
fits-room capacity room held ps es long weighs =
    ap₂ (λ n w. nat_le n capacity && nat_le w room) (let e : length ps ≡ suc (length es) = omega (arith, long) in e) weighs

pub room-empty : (capacity room : ℕ) (es : List Entry) → 0 < capacity → length es ≡ 0 → has_room capacity room es ≡ true
room-empty capacity room [] pos h = and_from (nat_lt 0 capacity) (nat_le 0 room) (lt-ltb 0 capacity pos) (le-leb 0 room (omega arith))
room-empty capacity room (e ∷ es) pos h = absurd (omega (arith, h))

module _ (own : Turn) (p : Pair) (ps : List Pair) (order : Order) (h : IsPutIn own p ps order) where
  -- the newest stands last
  pub entries-put : entries_of ps (own.1 + 1) ≡ entries_of ps own.1 ++ stored_entry p ∷ []
  entries-put =
      ap (entries_of ps) (let e : own.1 + 1 ≡ suc own.1 = omega arith in e)
      ∙ ap (λ o. map stored_entry (in_order ps own.1 ++ option_to_list o)) h.newest.number ∙ map-append stored_entry (in_order ps own.1) (p ∷ [])

  pub length-put : length ps ≡ length (entries_of ps own.1) + 1
  length-put =
      let whole = length-entries (own.1 + 1) ps h.numbers in
      let parts = ap length entries-put in
      let both = length-append (entries_of ps own.1) (stored_entry p ∷ []) in
      omega (arith, whole, parts, both)

  pub weight-put : all_weight (entries_of ps (own.1 + 1)) ≡ all_weight (entries_of ps own.1) + entry_weight (stored_entry p)
  weight-put = ap all_weight entries-put ∙ sum_by_push entry_weight (entries_of ps own.1) (stored_entry p)

  -- where there is no other turn, there is no other entry
  pub no_other : IsFirstOther own order None → length (entries_of ps own.1) ≡ 0
  no_other none = ap (λ l. length (map stored_entry l)) (empty own.1 (omega arith))
    where
      no : (n : ℕ) → n < own.1 → (o : Option Pair) → numbered ps n ≡ o → numbered ps n ≡ None
      no n l None e = e
      no n l (Some x) e =
          let u : Turn = (x.1.valid_until, n) in
          let there = taken-from_stands ps order u x h.placed (record { number = e; valid_until = refl }) in
          absurd (true≢false (sym (none u (subst IsSome (sym there) refl)) ∙ apart-turn own u (λ s. omega (arith, s, l))))

      empty : (k : ℕ) → k ≤ own.1 → listed (numbered ps) k ≡ []
      empty zero l = refl
      empty (suc k) l = ap₂ (λ xs o. xs ++ option_to_list o) (empty k (omega arith)) (no k (omega arith) (numbered ps k) refl)

  module _ (t : Turn) (first : IsFirstOther own order (Some t)) where
    pub taken-other : IsTaken ps order (Some t)
    taken-other = taken-some ps order t h.placed first.0

    module _ (rs : List Pair) (new : Order) (gone : Gone (Some t) ps rs) (turns : TurnGone (Some t) order new) where
      other : own.1 ≡ t.1 → ⊥
      other e =
          let same : p ≡ gone.0 = same_Some p gone.0 (sym h.newest.number ∙ ap (numbered ps) e ∙ gone.1.number) in
          let due : own.0 ≡ t.0 = sym h.newest.valid_until ∙ ap (λ (x : Pair). x.1.valid_until) same ∙ gone.1.valid_until in
          absurd (true≢false (sym (at-turn own t ∙ and_from (own.0 == t.0) (own.1 == t.1) (eq-eqb own.0 t.0 due) (eq-eqb own.1 t.1 e)) ∙ first.1))

      below : t.1 < own.1
      below = by (cases_lt t.1 (own.1 + 1))
        where
          by : (t.1 < own.1 + 1) ⊎ (own.1 + 1 ≤ t.1) → t.1 < own.1
          by (inl l) = either (cases_eq own.1 t.1)
            where
              either : (own.1 ≡ t.1) ⊎ (own.1 ≡ t.1 → ⊥) → t.1 < own.1
              either (inl e) = absurd (other e)
              either (inr ne) = strict (cases_lt t.1 own.1)
                where
                  strict : (t.1 < own.1) ⊎ (own.1 ≤ t.1) → t.1 < own.1
                  strict (inl m) = m
                  strict (inr m) = absurd (ne (omega (arith, l, m)))
          by (inr l) = let clash = sym gone.1.number ∙ h.numbers.below t.1 l in cc

      pub put-left : IsPutIn own p rs new
      put-left = record {
        numbers = numbers-left (own.1 + 1) ps rs (Some t) h.numbers gone;
        placed = placed-left ps rs order new (Some t) h.numbers.apart h.placed gone turns;
        newest = record {
          number = left ps rs t gone.0 h.numbers.apart gone.1 gone.2 own.1 ∙ ap (λ b. cond b None (numbered ps own.1)) (ne_eqb own.1 t.1 other) ∙ h.newest.number;
          valid_until = h.newest.valid_until;
        };
        each = All-tail HasItsWeight gone.0 rs (All-permutation HasItsWeight ps (gone.0 ∷ rs) gone.2 h.each);
      }

      pub entries-left : entries_of rs own.1 ≡ without_earliest (entries_of ps own.1)
      entries-left = without-least own.1 ps rs h.numbers.apart t gone.0 gone.1 gone.2 below least
        where
          least : (n : ℕ) (x : Pair) → n < own.1 → numbered ps n ≡ Some x → (t.0 ≤ x.1.valid_until) × (t.0 ≡ x.1.valid_until → t.1 ≤ n)
          least n x l e =
              let u : Turn = (x.1.valid_until, n) in
              let there = taken-from_stands ps order u x h.placed (record { number = e; valid_until = refl }) in
              turn-below t u (first.2 u (subst IsSome (sym there) refl) (apart-turn own u (λ s. omega (arith, s, l))))

      pub shorter : length rs + 1 ≡ length ps
      shorter = let n = length_permutation ps (gone.0 ∷ rs) gone.2 in omega (arith, n)

-- one leaves: so much is held after, and what leaves after it is the same
module _ (own : Turn) (p : Pair) (ps rs : List Pair) (order new : Order) (t : Turn) (h : IsPutIn own p ps order) (first : IsFirstOther own order (Some t)) (gone : Gone (Some t) ps rs) (turns : TurnGone (Some t) order new) where
  after : IsPutIn own p rs new
  after = put-left own p ps order h t first rs new gone turns

  pub lighter : all_weight (entries_of rs own.1) + weight_at ps (Some t) ≡ all_weight (entries_of ps own.1)
  lighter =
      let whole = weight-gone (own.1 + 1) ps rs (Some t) h.numbers h.each gone in
      let one = weight-put own p ps order h in
      let two = weight-put own p rs new after in
      omega (arith, whole, one, two)

  pub same-room : (capacity room : ℕ) → has_room capacity room (entries_of ps own.1) ≡ false
      → with_room (length (entries_of rs own.1)) capacity room (entries_of rs own.1) ≡ with_room (length (entries_of ps own.1)) capacity room (entries_of ps own.1)
  same-room capacity room none =
      ap (with_room (length (entries_of rs own.1)) capacity room) (entries-left own p ps order h t first rs new gone turns)
      ∙ sym (with_room-step (length (entries_of rs own.1)) capacity room (entries_of ps own.1) none)
      ∙ ap (λ n. with_room n capacity room (entries_of ps own.1)) long
    where
      long : suc (length (entries_of rs own.1)) ≡ length (entries_of ps own.1)
      long =
          let a = length-put own p ps order h in
          let b = length-put own p rs new after in
          let c = shorter own p ps order h t first rs new gone turns in
          omega (arith, a, b, c)

-- where there is no room, there is another turn
pub other-some : (own : Turn) (p : Pair) (ps : List Pair) (order : Order) → IsPutIn own p ps order → (capacity room : ℕ) → 0 < capacity → has_room capacity room (entries_of ps own.1) ≡ false
    → (o : Option Turn) → IsFirstOther own order o → IsSome o
other-some own p ps order h capacity room pos none None first =
    absurd (true≢false (sym (room-empty capacity room (entries_of ps own.1) pos (no_other own p ps order h first)) ∙ none))
other-some own p ps order h capacity room pos none (Some t) first = refl

-- where there is room, what had to leave has left
pub shed-done : (own : Turn) (p : Pair) (ps qs : List Pair) (order : Order) → IsPutIn own p qs order → (capacity room held : ℕ) → held ≡ all_weight (entries_of qs own.1) → fits capacity room qs held ≡ true
    → with_room (length (entries_of qs own.1)) capacity room (entries_of qs own.1) ≡ with_room (length (entries_of ps own.1)) capacity room (entries_of ps own.1)
    → IsShed capacity room own.1 ps qs
shed-done own p ps qs order h capacity room held weighs few same =
    let parts = and_parts (nat_le (length qs) capacity) (nat_le held room) few in
    let roomy = sym (fits-room capacity room held qs (entries_of qs own.1) (length-put own p qs order h) weighs) ∙ few in
    record {
      short = leb-true (length qs) capacity parts.0;
      within = let light = leb-true held room parts.1 in omega (arith, light, weighs);
      entries_are = sym (with_room-done (length (entries_of qs own.1)) capacity room (entries_of qs own.1) roomy) ∙ same;
    }
