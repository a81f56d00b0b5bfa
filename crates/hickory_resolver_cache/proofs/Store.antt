-- The list of entries after a store or a removal.
use Rattle.std.proofs.Common.{◌≡◌, ℕ, ◌+◌, ◌<◌, ◌≤◌, suc, zero, Bool, true, false, not, cond, ◌==◌, ◌||◌, nat_lt, nat_eq, List, [], ◌∷◌, ◌++◌, map, length, fold, min, Option, None, Some, refl, sym, ap, ap₂, ◌∙◌, subst, arith, ◌⊎◌, inl, inr, if◌then◌else◌, is_some, remove, length-append, le-leb}
use Rattle.std.proofs.lemmas.Bool.{eqb-true, eq-eqb, ne_eqb, cases_lt, cases_eq, false≢true, lt-leb, lt-ltb, le-ltb, or_left}
use Rattle.std.proofs.lemmas.List.{map-append, length-map}
use Rattle.std.proofs.lemmas.List.Sorted.{IsPermutation-map, IsPermutation-sym, length_permutation}
use Rattle.std.proofs.lemmas.Map.{NonePasses}
use Rattle.std.proofs.lemmas.Map.Entries.{none_past_head, place_from_lookup}
use Rattle.std.proofs.lemmas.Map.Keys.{IsDistinct-head, IsDistinct-tail}
use Rattle.std.proofs.lemmas.Option.{same_Some}
use Rattle.std.specs.List.{IsDistinct, AllByRecursion, list_any, position_or_len}
use Rattle.std.specs.List.Sorted.{IsPermutation}
use Rattle.std.specs.Prelude.{Result, Ok, Err, IsOk, OnOk}
use Rattle.std.specs.Map.{lookup, keys_of}
use Rattle.std.specs.BTreeMap.{get, is_at, IsLowerBound}
use Rattle.std.specs.Option.{option_map, option_to_list, IsSome}
use Rattle.indexmap.proofs.MapLemmas.{distinct_permutation, lookup_permutation}
use Rattle.hickory_proto_core.specs.declared.query.Query.{Query}
use Rattle.hickory_proto_core.specs.Handles.{OutcomeValue}
use Rattle.hickory_resolver_cache.specs.declared.kept.Kept.{Kept}
use Rattle.hickory_proto_core.specs.Query.{query_eq, query_equiv}
use Rattle.std.specs.Prelude.{◌&&◌, nat_le}
use Rattle.hickory_resolver_model.specs.Cache.{Entry, current, is_for, without, without_earliest, least_deadline, kept_beside, insert_entry}
use Rattle.hickory_resolver_cache.specs.Turns.{Pair, Turn, Order, turn_cmp, stored_entry, by_number, numbered, listed, in_order, entries_of, IsNumbered, IsPlaced, IsKept, StandsAt, Gone, TurnGone, IsTaken, IsTurnOf, IsSomeTurn, IsFirstTurn, shown, shown_entry}
use Rattle.hickory_resolver_cache.proofs.PairLists.{all-map, all-map_at, all-weaker, remove-first, list_any-filter_not, list_any-remove, filter-none}
use Rattle.hickory_resolver_cache.proofs.Listed.{listed-same, all-listed, Around, around, in_order-permutes, numbered-at}
use Rattle.hickory_resolver_cache.proofs.TurnOrder.{left, turn-below, taken-from_stands, numbered-push, found-query, numbers-left, numbers-push, placed-left, placed-push, gone-push, stands-push}

-- what the pairs become when the turn goes is what stays when an entry for the question comes in
pub record MakesRoom (capacity next : ℕ) (q : Query) (ps : List Pair) (turn : Option Turn) : Type 0 where
  pub stays : (rs : List Pair) → Gone turn ps rs
      → entries_of rs next ≡ kept_beside capacity q (entries_of ps next)
  pub room : turn ≡ None → length ps < capacity

-- what the pairs become when the turn goes is what stays without an entry for the question
abbrev pub Drops : ℕ → Query → List Pair → Option Turn → Type 0
Drops next q ps turn =
    (rs : List Pair) → Gone turn ps rs → entries_of rs next ≡ without q (entries_of ps next)

-- ---- the question's entry is taken out
passed-on : (q : Query) (a p : Query) → query_eq a p ≡ false → query_eq q p ≡ true → query_eq q a ≡ false
passed-on q a p apart h = by (query_eq q a) refl
  where
    by : (b : Bool) → query_eq q a ≡ b → query_eq q a ≡ false
    by true e = absurd (false≢true (sym apart ∙ sym (query_equiv.congr q a p e) ∙ h))
    by false e = e

without-none : (q : Query) (ps : List Pair) → NonePasses (query_eq q) ps → without q (map stored_entry ps) ≡ map stored_entry ps
without-none q [] h = refl
without-none q (p ∷ ps) h =
    ap (λ b. cond (not b) (stored_entry p ∷ without q (map stored_entry ps)) (without q (map stored_entry ps))) h.0
    ∙ ap (λ l. stored_entry p ∷ l) (without-none q ps h.1)

without-middle : (q : Query) (A : List Pair) (p : Pair) (B : List Pair) → IsDistinct query_eq (keys_of (A ++ p ∷ B)) → query_eq q p.0 ≡ true → without q (map stored_entry (A ++ p ∷ B)) ≡ map stored_entry (A ++ B)
without-middle q [] p B d h =
    ap (λ b. cond (not b) (stored_entry p ∷ without q (map stored_entry B)) (without q (map stored_entry B))) h
    ∙ without-none q B (none_past_head query_equiv q p B d h)
without-middle q (a ∷ A) p B d h =
    let other = passed-on q a.0 p.0 (all-map_at (λ y. query_eq a.0 y ≡ false) (λ (x : Pair). x.0) A p B (IsDistinct-head query_eq a.0 (keys_of (A ++ p ∷ B)) d)) h in
    ap (λ b. cond (not b) (stored_entry a ∷ without q (map stored_entry (A ++ p ∷ B))) (without q (map stored_entry (A ++ p ∷ B)))) other
    ∙ ap (λ l. stored_entry a ∷ l) (without-middle q A p B (IsDistinct-tail query_eq a.0 (keys_of (A ++ p ∷ B)) d) h)

-- ---- the first entry of the least deadline is taken out
fold-le : (m : ℕ) (zs : List Entry) → fold (λ d x. min d x.valid_until) m zs ≤ m
fold-le m [] = omega arith
fold-le m (z ∷ zs) = let h = fold-le (min m z.valid_until) zs in omega (arith, h)

fold-least : (d m : ℕ) (zs : List Entry) → d ≤ m → AllByRecursion (λ z. d ≤ z.valid_until) zs → d ≤ fold (λ k x. min k x.valid_until) m zs
fold-least d m [] l h = l
fold-least d m (z ∷ zs) l h = let z_above = h.0 in fold-least d (min m z.valid_until) zs (omega arith) h.1

fold-at : (m : ℕ) (xs : List Entry) (e : Entry) (ys : List Entry) → fold (λ d x. min d x.valid_until) m (xs ++ e ∷ ys) ≤ e.valid_until
fold-at m [] e ys = let h = fold-le (min m e.valid_until) ys in omega (arith, h)
fold-at m (x ∷ xs) e ys = fold-at (min m x.valid_until) xs e ys

least-at : (xs : List Entry) (e : Entry) (ys : List Entry) → AllByRecursion (λ z. e.valid_until ≤ z.valid_until) (xs ++ e ∷ ys) → least_deadline (xs ++ e ∷ ys) ≡ e.valid_until
least-at [] e ys h =
    let above = fold-least e.valid_until e.valid_until ys (omega arith) h.1 in
    let below = fold-le e.valid_until ys in
    omega (arith, above, below)
least-at (x ∷ xs) e ys h =
    let first = h.0 in
    let above = fold-least e.valid_until x.valid_until (xs ++ e ∷ ys) first h.1 in
    let below = fold-at x.valid_until xs e ys in
    omega (arith, above, below)

without_earliest-middle : (xs : List Entry) (e : Entry) (ys : List Entry) → AllByRecursion (λ z. e.valid_until ≤ z.valid_until) (xs ++ e ∷ ys) → AllByRecursion (λ z. e.valid_until < z.valid_until) xs → without_earliest (xs ++ e ∷ ys) ≡ xs ++ ys
without_earliest-middle xs e ys all above =
    let least = least-at xs e ys all in
    ap (λ m. remove (xs ++ e ∷ ys) (position_or_len (λ z. z.valid_until == m) (xs ++ e ∷ ys))) least
    ∙ remove-first (λ z. z.valid_until == e.valid_until) xs e ys
    (all-weaker (λ z. e.valid_until < z.valid_until) (λ z. (z.valid_until == e.valid_until) ≡ false) (λ z l. ne_eqb z.valid_until e.valid_until (λ s. omega arith)) xs above)
    (eq-eqb e.valid_until e.valid_until refl)

-- ---- look-ups in the list in order
lookup-agree : (t u : Query → Bool) → ((k : Query) → t k ≡ u k) → (ps : List Pair) → lookup t ps ≡ lookup u ps
lookup-agree t u same [] = refl
lookup-agree t u same (p ∷ ps) = ap₂ (λ b r. cond b (Some p.1) r) (same p.0) (lookup-agree t u same ps)

list_any-entries : (q : Query) (ps : List Pair) → list_any (is_for q) (map stored_entry ps) ≡ is_some (lookup (query_eq q) ps)
list_any-entries q [] = refl
list_any-entries q (p ∷ ps) = by (query_eq q p.0) refl (list_any-entries q ps)
  where
    by : (b : Bool) → query_eq q p.0 ≡ b → list_any (is_for q) (map stored_entry ps) ≡ is_some (lookup (query_eq q) ps) → list_any (is_for q) (map stored_entry (p ∷ ps)) ≡ is_some (lookup (query_eq q) (p ∷ ps))
    by true e h = or_true e ∙ sym (ap (λ b. is_some (cond b (Some p.1) (lookup (query_eq q) ps))) e)
      where
        or_true : query_eq q p.0 ≡ true → list_any (is_for q) (map stored_entry (p ∷ ps)) ≡ true
        or_true z = or_left (query_eq q p.0) (list_any (is_for q) (map stored_entry ps)) z
    by false e h = ap (λ b. b || list_any (is_for q) (map stored_entry ps)) e ∙ h ∙ sym (ap (λ b. is_some (cond b (Some p.1) (lookup (query_eq q) ps))) e)

abbrev pub if_current : ℕ → Option Kept → Option Kept
if_current now None = None
if_current now (Some k) = if nat_le now k.valid_until then Some k else None

current-none : (q : Query) (now : ℕ) (ps : List Pair) → NonePasses (query_eq q) ps → current q now (map stored_entry ps) ≡ None
current-none q now [] h = refl
current-none q now (p ∷ ps) h = ap (λ b. cond (b && nat_le now p.1.valid_until) (Some (stored_entry p)) (current q now (map stored_entry ps))) h.0 ∙ current-none q now ps h.1

current-entries : (q : Query) (now : ℕ) (ps : List Pair) → IsDistinct query_eq (keys_of ps) → option_map shown_entry (current q now (map stored_entry ps)) ≡ option_map shown (if_current now (lookup (query_eq q) ps))
current-entries q now [] d = refl
current-entries q now (p ∷ ps) d = by (query_eq q p.0) refl (nat_le now p.1.valid_until) refl (current-entries q now ps (IsDistinct-tail query_eq p.0 (keys_of ps) d))
  where
    rest : Option Entry
    rest = current q now (map stored_entry ps)

    found : Bool → Option (OutcomeValue × ℕ × ℕ)
    found b = option_map shown (if_current now (cond b (Some p.1) (lookup (query_eq q) ps)))

    by : (own : Bool) → query_eq q p.0 ≡ own → (now_is : Bool) → nat_le now p.1.valid_until ≡ now_is → option_map shown_entry rest ≡ option_map shown (if_current now (lookup (query_eq q) ps))
        → option_map shown_entry (current q now (map stored_entry (p ∷ ps))) ≡ found (query_eq q p.0)
    by true h true k tail =
        ap₂ (λ a b. option_map shown_entry (cond (a && b) (Some (stored_entry p)) rest)) h k
        ∙ sym (ap found h ∙ ap (λ b. option_map shown (if b then Some p.1 else None)) k)
    by true h false k tail =
        ap₂ (λ a b. option_map shown_entry (cond (a && b) (Some (stored_entry p)) rest)) h k
        ∙ ap (option_map shown_entry) (current-none q now ps (none_past_head query_equiv q p ps d h))
        ∙ sym (ap found h ∙ ap (λ b. option_map shown (if b then Some p.1 else None)) k)
    by false h b k tail =
        ap (λ a. option_map shown_entry (cond (a && nat_le now p.1.valid_until) (Some (stored_entry p)) rest)) h ∙ tail ∙ sym (ap found h)

-- the list round the pair of a turn below the number next, when it is the first of those below and leaves
module _ (next : ℕ) (ps rs : List Pair) (apart : IsDistinct nat_eq (keys_of (by_number ps))) (t : Turn) (p : Pair) (s : StandsAt ps t p) (moves : IsPermutation ps (p ∷ rs)) (below : t.1 < next) where
  around_first : Around (numbered ps) (numbered rs) next t.1 p
  around_first = around (numbered ps) (numbered rs) t.1 p s.number (left ps rs t p apart s moves) next below

  pub without-least : ((n : ℕ) (x : Pair) → n < next → numbered ps n ≡ Some x → (t.0 ≤ x.1.valid_until) × (t.0 ≡ x.1.valid_until → t.1 ≤ n)) → entries_of rs next ≡ without_earliest (entries_of ps next)
  without-least least =
      ap (map stored_entry) around_first.left ∙ map-append stored_entry (listed (numbered ps) t.1) around_first.after
      ∙ sym (without_earliest-middle (map stored_entry (listed (numbered ps) t.1)) (stored_entry p) (map stored_entry around_first.after) all above)
      ∙ sym (ap without_earliest split)
    where
      split : entries_of ps next ≡ map stored_entry (listed (numbered ps) t.1) ++ stored_entry p ∷ map stored_entry around_first.after
      split = ap (map stored_entry) around_first.whole ∙ map-append stored_entry (listed (numbered ps) t.1) (p ∷ around_first.after)

      all : AllByRecursion (λ z. p.1.valid_until ≤ z.valid_until) (map stored_entry (listed (numbered ps) t.1) ++ stored_entry p ∷ map stored_entry around_first.after)
      all = subst (AllByRecursion (λ z. p.1.valid_until ≤ z.valid_until)) split
          (all-map (λ z. p.1.valid_until ≤ z.valid_until) stored_entry (in_order ps next)
          (all-listed (λ x. p.1.valid_until ≤ x.1.valid_until) (numbered ps) next (λ n x l e. let k = (least n x l e).0 in let d = s.valid_until in omega (arith, k, d))))

      above : AllByRecursion (λ z. p.1.valid_until < z.valid_until) (map stored_entry (listed (numbered ps) t.1))
      above =
          all-map (λ z. p.1.valid_until < z.valid_until) stored_entry (listed (numbered ps) t.1)
          (all-listed (λ x. p.1.valid_until < x.1.valid_until) (numbered ps) t.1 (λ n x l e. strict n x l (least n x (let b = below in omega (arith, b, l)) e)))
        where
          strict : (n : ℕ) (x : Pair) → n < t.1 → (t.0 ≤ x.1.valid_until) × (t.0 ≡ x.1.valid_until → t.1 ≤ n) → p.1.valid_until < x.1.valid_until
          strict n x l k = by (cases_eq t.0 x.1.valid_until)
            where
              d : p.1.valid_until ≡ t.0
              d = s.valid_until

              by : (t.0 ≡ x.1.valid_until) ⊎ (t.0 ≡ x.1.valid_until → ⊥) → p.1.valid_until < x.1.valid_until
              by (inl e) = let m = k.1 e in absurd (omega (arith, m, l))
              by (inr ne) = let m = k.0 in by_order (cases_lt t.0 x.1.valid_until) m
                where
                  by_order : (t.0 < x.1.valid_until) ⊎ (x.1.valid_until ≤ t.0) → t.0 ≤ x.1.valid_until → p.1.valid_until < x.1.valid_until
                  by_order (inl m) n = omega (arith, m, d)
                  by_order (inr m) n = absurd (ne (omega (arith, m, n)))

module _ (next : ℕ) (ps : List Pair) (h : IsNumbered next ps) where
  pub length-entries : length (entries_of ps next) ≡ length ps
  length-entries = length-map (in_order ps next) stored_entry ∙ length_permutation ps (in_order ps next) (in_order-permutes next ps h)

  module _ (apart : IsDistinct query_eq (keys_of ps)) where
    keys-in_order : IsDistinct query_eq (keys_of (in_order ps next))
    keys-in_order = distinct_permutation query_equiv (keys_of ps) (keys_of (in_order ps next)) (IsPermutation-map (λ p. p.0) ps (in_order ps next) (in_order-permutes next ps h)) apart

    lookup-in_order : (q : Query) → lookup (query_eq q) (in_order ps next) ≡ lookup (query_eq q) ps
    lookup-in_order q = lookup_permutation query_equiv ps (in_order ps next) (in_order-permutes next ps h) keys-in_order (query_eq q) (query_equiv.congr q)

    pub any-lookup : (q : Query) → list_any (is_for q) (entries_of ps next) ≡ is_some (lookup (query_eq q) ps)
    any-lookup q = list_any-entries q (in_order ps next) ∙ ap is_some (lookup-in_order q)

    pub current-lookup : (q : Query) (now : ℕ) → option_map shown_entry (current q now (entries_of ps next)) ≡ option_map shown (if_current now (lookup (query_eq q) ps))
    current-lookup q now = current-entries q now (in_order ps next) keys-in_order ∙ ap (λ o. option_map shown (if_current now o)) (lookup-in_order q)

    pub current-some : (q : Query) (now : ℕ) (k : Kept) → Some k ≡ lookup (query_eq q) ps → now ≤ k.valid_until → Some (shown k) ≡ option_map shown_entry (current q now (entries_of ps next))
    current-some q now k found live =
        sym (ap (λ b. option_map shown (if b then Some k else None)) (le-leb now k.valid_until live)) ∙ ap (λ o. option_map shown (if_current now o)) found ∙ sym (current-lookup q now)

    pub current-past : (q : Query) (now : ℕ) (k : Kept) → Some k ≡ lookup (query_eq q) ps → k.valid_until < now → None ≡ option_map shown_entry (current q now (entries_of ps next))
    current-past q now k found past =
        sym (ap (λ b. option_map shown (if b then Some k else None)) (lt-leb now k.valid_until past)) ∙ ap (λ o. option_map shown (if_current now o)) found ∙ sym (current-lookup q now)

    pub current-missing : (q : Query) (now : ℕ) → None ≡ lookup (query_eq q) ps → None ≡ option_map shown_entry (current q now (entries_of ps next))
    current-missing q now found = ap (λ o. option_map shown (if_current now o)) found ∙ sym (current-lookup q now)

    -- the list round the pair of a turn, when it leaves
    module _ (rs : List Pair) (t : Turn) (p : Pair) (s : StandsAt ps t p) (moves : IsPermutation ps (p ∷ rs)) where
      below : t.1 < next
      below = by (cases_lt t.1 next)
        where
          by : (t.1 < next) ⊎ (next ≤ t.1) → t.1 < next
          by (inl l) = l
          by (inr l) = let e = sym s.number ∙ h.below t.1 l in cc

      parts : Around (numbered ps) (numbered rs) next t.1 p
      parts = around (numbered ps) (numbered rs) t.1 p s.number (left ps rs t p h.apart s moves) next below

      pub without-own : (q : Query) → query_eq q p.0 ≡ true → entries_of rs next ≡ without q (entries_of ps next)
      without-own q own =
          ap (map stored_entry) parts.left
          ∙ sym (without-middle q (listed (numbered ps) t.1) p parts.after (subst (λ l. IsDistinct query_eq (keys_of l)) parts.whole keys-in_order) own)
          ∙ sym (ap (λ l. without q (map stored_entry l)) parts.whole)

      pub without-first : (((n : ℕ) (x : Pair) → numbered ps n ≡ Some x → (t.0 ≤ x.1.valid_until) × (t.0 ≡ x.1.valid_until → t.1 ≤ n))) → entries_of rs next ≡ without_earliest (entries_of ps next)
      without-first least = without-least next ps rs h.apart t p s moves below (λ n x l e. least n x e)

    -- ---- the turn that leaves
    pub drops : (q : Query) (o : Option Turn) → IsTurnOf q ps o → Drops next q ps o
    drops q None none rs gone =
        ap (λ l. entries_of l next) gone ∙ sym (filter-none (is_for q) (entries_of ps next) (any-lookup q ∙ ap is_some none))
    drops q (Some t) own rs gone =
        let same : own.0 ≡ gone.0 = same_Some own.0 gone.0 (sym own.1.number ∙ gone.1.number) in
        without-own rs t gone.0 gone.1 gone.2 q (subst (λ (y : Pair). query_eq q y.0 ≡ true) same own.2)

    pub makes_room-own : (capacity : ℕ) (q : Query) (t : Turn) → IsTurnOf q ps (Some t) → MakesRoom capacity next q ps (Some t)
    makes_room-own capacity q t own = record {
      stays = λ rs gone. drops q (Some t) own rs gone
          ∙ sym (ap (λ b. if b then without q (entries_of ps next) else (if nat_lt (length (entries_of ps next)) capacity then entries_of ps next else without_earliest (entries_of ps next))) some);
      room = λ e. cc;
    }
      where
        found : is_some (lookup (query_eq q) ps) ≡ true
        found = ap is_some (lookup-agree (query_eq q) (query_eq own.0.0) (λ k. query_equiv.congr q own.0.0 k own.2) ps ∙ found-query ps t.1 own.0 apart own.1.number)

        some : list_any (is_for q) (entries_of ps next) ≡ true
        some = any-lookup q ∙ found

    pub makes_room-none : (capacity : ℕ) (q : Query) → lookup (query_eq q) ps ≡ None → length ps < capacity → MakesRoom capacity next q ps None
    makes_room-none capacity q none room = record {
      stays = λ rs gone. ap (λ l. entries_of l next) gone ∙ sym (ap₂ (λ b c. if b then without q (entries_of ps next) else (if c then entries_of ps next else without_earliest (entries_of ps next)))
          (any-lookup q ∙ ap is_some none) (lt-ltb (length (entries_of ps next)) capacity (subst (λ n. n < capacity) (sym length-entries) room)));
      room = λ e. room;
    }

    pub makes_room-first : (capacity : ℕ) (q : Query) (order : Order) (t : Turn) (k : Query) → lookup (query_eq q) ps ≡ None → capacity ≤ length ps → IsPlaced ps order → get turn_cmp order t ≡ Some k → IsLowerBound turn_cmp order t
        → MakesRoom capacity next q ps (Some t)
    makes_room-first capacity q order t k none full placed at lower = record {
      stays = λ rs gone. without-first rs t gone.0 gone.1 gone.2 least
          ∙ sym (ap₂ (λ b c. if b then without q (entries_of ps next) else (if c then entries_of ps next else without_earliest (entries_of ps next)))
          (any-lookup q ∙ ap is_some none) (le-ltb (length (entries_of ps next)) capacity (subst (λ n. capacity ≤ n) (sym length-entries) full)));
      room = λ e. cc;
    }
      where
        least : (n : ℕ) (x : Pair) → numbered ps n ≡ Some x → (t.0 ≤ x.1.valid_until) × (t.0 ≡ x.1.valid_until → t.1 ≤ n)
        least n x e =
            turn-below t (x.1.valid_until, n) (lower (x.1.valid_until, n) (subst IsSome (sym (taken-from_stands ps order (x.1.valid_until, n) x placed (record { number = e; valid_until = refl }))) refl))

-- ---- a store
pub kept_beside-none : (capacity : ℕ) (q : Query) (es : List Entry) → list_any (is_for q) (kept_beside capacity q es) ≡ false
kept_beside-none capacity q es = by (list_any (is_for q) es) refl (nat_lt (length es) capacity) refl
  where
    rest : Bool → Bool → List Entry
    rest own room = if own then without q es else (if room then es else without_earliest es)

    by : (own : Bool) → list_any (is_for q) es ≡ own → (room : Bool) → nat_lt (length es) capacity ≡ room → list_any (is_for q) (kept_beside capacity q es) ≡ false
    by true h room k = ap (λ b. list_any (is_for q) (rest b (nat_lt (length es) capacity))) h ∙ list_any-filter_not (is_for q) es
    by false h true k = ap₂ (λ b r. list_any (is_for q) (rest b r)) h k ∙ h
    by false h false k = ap₂ (λ b r. list_any (is_for q) (rest b r)) h k ∙ list_any-remove (is_for q) es _ h

none-from_is_some : {X : Type 0} (o : Option X) → is_some o ≡ false → o ≡ None
none-from_is_some None h = refl
none-from_is_some (Some x) h = cc

-- once the pair has left, the question has none
pub none-left : (capacity next : ℕ) (q : Query) (ps rs : List Pair) (o : Option Turn) → IsNumbered next ps → IsDistinct query_eq (keys_of rs) → MakesRoom capacity next q ps o → Gone o ps rs → lookup (query_eq q) rs ≡ None
none-left capacity next q ps rs o h apart room gone =
    none-from_is_some (lookup (query_eq q) rs)
    (sym (any-lookup next rs (numbers-left next ps rs o h gone) apart q) ∙ ap (list_any (is_for q)) (room.stays rs gone) ∙ kept_beside-none capacity q (entries_of ps next))

-- the pair that comes in stands last
pub entries-push : (next : ℕ) (rs : List Pair) (p : Pair) → IsNumbered next rs → p.1.number ≡ next → entries_of (rs ++ p ∷ []) (next + 1) ≡ entries_of rs next ++ stored_entry p ∷ []
entries-push next rs p h is =
    ap (entries_of (rs ++ p ∷ [])) more
    ∙ ap (map stored_entry) (ap₂ (λ l o. l ++ option_to_list o)
    (listed-same (numbered (rs ++ p ∷ [])) (numbered rs) next (λ n l. numbered-push next rs p h is n ∙ ap (λ b. cond b (Some p) (numbered rs n)) (ne_eqb n next (λ e. omega arith))))
    (numbered-push next rs p h is next ∙ ap (λ b. cond b (Some p) (numbered rs next)) (eq-eqb next next refl)))
    ∙ map-append stored_entry (in_order rs next) (p ∷ [])
  where
    more : next + 1 ≡ suc next
    more = omega arith

length-gone : (capacity : ℕ) (ps rs : List Pair) (o : Option Turn) → length ps ≤ capacity → (o ≡ None → length ps < capacity) → Gone o ps rs → length rs < capacity
length-gone capacity ps rs None short room gone = subst (λ l. length l < capacity) (sym gone) (room refl)
length-gone capacity ps rs (Some t) short room gone = let n = length_permutation ps (gone.0 ∷ rs) gone.2 in omega (arith, n)

pub length-left : (ps rs : List Pair) (o : Option Turn) → Gone o ps rs → length rs ≤ length ps
length-left ps rs None gone = let n = ap length gone in omega (arith, n)
length-left ps rs (Some t) gone = let n = length_permutation ps (gone.0 ∷ rs) gone.2 in omega (arith, n)

-- what holds after a store
pub kept-store : (capacity next : ℕ) (ps rs : List Pair) (p : Pair) (old mid new : Order) (o : Option Turn) → IsKept capacity next ps old → p.1.number ≡ next → MakesRoom capacity next p.0 ps o
    → ((u : Turn) → get turn_cmp mid u ≡ cond (is_at (turn_cmp (p.1.valid_until, next)) u) (Some p.0) (get turn_cmp old u)) → Gone o ps rs → TurnGone o mid new
    → IsKept capacity (next + 1) (rs ++ p ∷ []) new
kept-store capacity next ps rs p old mid new o h is room updates gone turns =
    let pushed = numbers-push next ps p h.numbers is in
    record {
      short = let n = length-append rs (p ∷ []) in let m = length-gone capacity ps rs o h.short room.room gone in omega (arith, n, m);
      numbers = numbers-push next rs p (numbers-left next ps rs o h.numbers gone) is;
      placed = placed-left (ps ++ p ∷ []) (rs ++ p ∷ []) mid new o pushed.apart (placed-push next ps p old mid h.numbers is h.placed updates) (gone-push ps rs p o gone) turns;
    }

pub kept-left : (capacity next : ℕ) (ps rs : List Pair) (old new : Order) (o : Option Turn) → IsKept capacity next ps old → Gone o ps rs → TurnGone o old new → IsKept capacity next rs new
kept-left capacity next ps rs old new o h gone turns = record {
  short = let n = length-left ps rs o gone in let m = h.short in omega (arith, n, m);
  numbers = numbers-left next ps rs o h.numbers gone;
  placed = placed-left ps rs old new o h.numbers.apart h.placed gone turns;
}

-- some pair stands where the turn points to, also when another turn has come in
pub taken-push : (next : ℕ) (ps : List Pair) (p : Pair) (old mid : Order) (o : Option Turn) → IsNumbered next ps → p.1.number ≡ next → IsPlaced ps old → IsSomeTurn ps o
    → ((u : Turn) → get turn_cmp mid u ≡ cond (is_at (turn_cmp (p.1.valid_until, next)) u) (Some p.0) (get turn_cmp old u)) → IsTaken ps mid o
taken-push next ps p old mid None h is placed some updates = tt
taken-push next ps p old mid (Some t) h is placed some updates =
    (some.0, some.1, taken-from_stands (ps ++ p ∷ []) mid t some.0 (placed-push next ps p old mid h is placed updates) (stands-push next ps p t some.0 some.1))

-- and when its pair has come in too
pub taken-pushed : (next : ℕ) (ps : List Pair) (p : Pair) (old mid : Order) (o : Option Turn) → IsNumbered next ps → p.1.number ≡ next → IsPlaced ps old → IsSomeTurn ps o
    → ((u : Turn) → get turn_cmp mid u ≡ cond (is_at (turn_cmp (p.1.valid_until, next)) u) (Some p.0) (get turn_cmp old u)) → IsTaken (ps ++ p ∷ []) mid o
taken-pushed next ps p old mid None h is placed some updates = tt
taken-pushed next ps p old mid (Some t) h is placed some updates =
    let stays = stands-push next ps p t some.0 some.1 in
    (some.0, stays, taken-from_stands (ps ++ p ∷ []) mid t some.0 (placed-push next ps p old mid h is placed updates) stays)

pub insert_entry-room_for : (capacity : ℕ) (es : List Entry) (e : Entry) → 0 < capacity → kept_beside capacity e.query es ++ e ∷ [] ≡ insert_entry capacity es e
insert_entry-room_for capacity es e pos = by (capacity == 0) refl
  where
    by : (b : Bool) → (capacity == 0) ≡ b → kept_beside capacity e.query es ++ e ∷ [] ≡ insert_entry capacity es e
    by true h = let z = eqb-true capacity 0 h in absurd (omega (arith, z, pos))
    by false h = sym (ap (λ b. if b then es else kept_beside capacity e.query es ++ e ∷ []) h)

-- a turn of the question's entry, from the look-up
pub turn-found : (q : Query) (ps : List Pair) (k : Kept) → IsDistinct nat_eq (keys_of (by_number ps)) → lookup (query_eq q) ps ≡ Some k → IsTurnOf q ps (Some (k.valid_until, k.number))
turn-found q ps k numbers h =
    let at = place_from_lookup (query_eq q) ps k h in
    ((at.1, k), record { number = numbered-at ps at.0 (at.1, k) numbers at.2; valid_until = refl }, at.3)

-- an order with no turn
pub no_pairs : (next : ℕ) (ps : List Pair) (order : Order) → IsNumbered next ps → IsPlaced ps order → ((t : Turn) → get turn_cmp order t ≡ None) → length ps ≡ 0
no_pairs next ps order h placed none =
    sym (length-entries next ps h) ∙ length-map (in_order ps next) stored_entry ∙ ap length (empty next)
  where
    no : (n : ℕ) (o : Option Pair) → numbered ps n ≡ o → numbered ps n ≡ None
    no n None e = e
    no n (Some x) e = let t = sym (none (x.1.valid_until, n)) ∙ taken-from_stands ps order (x.1.valid_until, n) x placed (record { number = e; valid_until = refl }) in cc

    empty : (k : ℕ) → listed (numbered ps) k ≡ []
    empty zero = refl
    empty (suc k) = ap₂ (λ l o. l ++ option_to_list o) (empty k) (no k (numbered ps k) refl)

pub ok_fact : {T E P : Type 0} (r : Result T E) → IsOk r → OnOk r P → P
ok_fact (Ok v) h p = p
ok_fact (Err e) h p = absurd (false≢true h)

-- no entries, whatever the next number is
pub entries-none : (next : ℕ) (ps : List Pair) → ps ≡ [] → entries_of ps next ≡ []
entries-none next ps e = ap (λ l. entries_of l next) e ∙ ap (map stored_entry) (none next)
  where
    none : (n : ℕ) → listed (numbered []) n ≡ []
    none zero = refl
    none (suc n) = ap (λ l. l ++ []) (none n)

pub kept-empty : (capacity next : ℕ) (ps : List Pair) (order : Order) → ps ≡ [] → order.entries ≡ [] → IsKept capacity next ps order
unfolding IsDistinct
kept-empty capacity next ps order e o = subst (λ l. IsKept capacity next l order) (sym e) none
  where
    none : IsKept capacity next [] order
    none = record {
      short = omega arith;
      numbers = record { apart = tt; below = λ n l. refl };
      placed = λ t. ap (lookup (is_at (turn_cmp t))) o;
    }

pub no_turns : (order : Order) → length order.entries ≡ 0 → (t : Turn) → get turn_cmp order t ≡ None
no_turns order e t = by order.entries e
  where
    by : (l : List (Turn × Query)) → length l ≡ 0 → lookup (is_at (turn_cmp t)) l ≡ None
    by [] h = refl
    by (x ∷ l) h = absurd (omega (arith, h))

pub query-at_turn : (ps : List Pair) (order : Order) (t : Turn) (k : Query) (taken : IsTaken ps order (Some t)) → get turn_cmp order t ≡ Some k → k ≡ taken.0.0
query-at_turn ps order t k taken h = same_Some k taken.0.0 (sym h ∙ taken.2)

-- the first turn leaves, where the cache is full
pub makes_room-any : (next : ℕ) (ps : List Pair) → IsNumbered next ps → IsDistinct query_eq (keys_of ps) → (capacity : ℕ) (q : Query) (order : Order) (o : Option Turn) → 0 < capacity → lookup (query_eq q) ps ≡ None → capacity ≤ length ps → IsPlaced ps order → IsFirstTurn order o
    → MakesRoom capacity next q ps o
makes_room-any next ps h apart capacity q order None pos none full placed first = let n = no_pairs next ps order h placed first in absurd (omega (arith, n, pos, full))
makes_room-any next ps h apart capacity q order (Some t) pos none full placed first = makes_room-first next ps h apart capacity q order t first.0.0 none full placed first.0.1 first.1

keys-entries : (ps : List Pair) → map (λ e. e.query) (map stored_entry ps) ≡ keys_of ps
keys-entries [] = refl
keys-entries (p ∷ ps) = ap (λ l. p.0 ∷ l) (keys-entries ps)

-- the pairs are for different questions, as the entries are
pub apart-pairs : (next : ℕ) (ps : List Pair) → IsNumbered next ps → IsDistinct query_eq (map (λ e. e.query) (entries_of ps next)) → IsDistinct query_eq (keys_of ps)
apart-pairs next ps h apart =
    distinct_permutation query_equiv (keys_of (in_order ps next)) (keys_of ps)
    (IsPermutation-sym (keys_of ps) (keys_of (in_order ps next)) (IsPermutation-map (λ p. p.0) ps (in_order ps next) (in_order-permutes next ps h)))
    (subst (IsDistinct query_eq) (keys-entries (in_order ps next)) apart)

-- ---- a whole store
pub entries-insert_entry : (capacity next : ℕ) (ps rs : List Pair) (p : Pair) (o : Option Turn) {order : Order} → IsKept capacity next ps order → p.1.number ≡ next → MakesRoom capacity next p.0 ps o → Gone o ps rs → 0 < capacity
    → entries_of (rs ++ p ∷ []) (next + 1) ≡ insert_entry capacity (entries_of ps next) (stored_entry p)
entries-insert_entry capacity next ps rs p o h is room gone pos =
    entries-push next rs p (numbers-left next ps rs o h.numbers gone) is ∙ ap (λ l. l ++ stored_entry p ∷ []) (room.stays rs gone) ∙ insert_entry-room_for capacity (entries_of ps next) (stored_entry p) pos
