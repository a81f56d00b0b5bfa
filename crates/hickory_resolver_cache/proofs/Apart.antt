-- What holds of every cache: its entries are for different questions, also after a store or a removal.
use Rattle.std.proofs.Common.{◌≡◌, ℕ, suc, zero, Bool, true, false, cond, ◌==◌, ◌-◌, ◌||◌, Option, None, Some, List, [], ◌∷◌, ◌++◌, map, filter, length, not, remove, nat_lt, refl, sym, ap, ◌∙◌, subst, arith, if◌then◌else◌}
use Rattle.std.proofs.lemmas.List.{map-append}
use Rattle.std.proofs.lemmas.Map.Keys.{IsDistinct-cons, IsDistinct-head, IsDistinct-push, IsDistinct-tail}
use Rattle.std.specs.List.{AllByRecursion, IsDistinct, list_any, position_or_len}
use Rattle.hickory_proto_core.specs.Query.{query_eq, query_equiv}
use Rattle.hickory_proto_core.specs.declared.query.Query.{Query}
use Rattle.hickory_resolver_model.specs.Bounds.{ConfigValue}
use Rattle.hickory_resolver_model.specs.Cache.{Entry, IsCache, insert_entry, insert_within, is_for, is_heavy, entry_weight, kept_beside, least_deadline, without, without_earliest}
use Rattle.hickory_resolver_cache.specs.Turns.{IsSound, Order, Pair, entries_of}
use Rattle.hickory_resolver_cache.proofs.Laws.{AreApart, others_within, without-none_for}
use Rattle.hickory_resolver_cache.proofs.Rooms.{with_room-keeps, with_room-none}
use Rattle.hickory_resolver_cache.proofs.PairLists.{all-filter, all-map, all-remove, all-unmap}
use Rattle.hickory_resolver_cache.proofs.Store.{entries-none, kept_beside-none, length-entries}

-- what a caller is told of it
pub sound-cache : {config : ConfigValue} {capacity next : ℕ} {ps : List Pair} {order : Order} → IsSound config capacity next ps order → IsCache config capacity (entries_of ps next)
sound-cache {next = next} {ps = ps} h = record {
  short = let n = length-entries next ps h.kept.numbers in let s = h.kept.short in omega (arith, n, s);
  apart = h.apart;
  timely = h.timely;
}

pub apart-none : (next : ℕ) (ps : List Pair) → ps ≡ [] → AreApart (entries_of ps next)
unfolding IsDistinct
apart-none next ps e = subst AreApart (sym (entries-none next ps e)) tt

-- the questions of some entries
abbrev questions : List Entry → List Query
questions es = map (λ e. e.query) es

abbrev IsOther : Entry → Query → Type 0
IsOther e q = query_eq e.query q ≡ false

-- an entry before others, fewer of which stay
apart-cons : (e : Entry) (es stay : List Entry) → AreApart (e ∷ es)
    → (AllByRecursion (λ x. IsOther e x.query) es → AllByRecursion (λ x. IsOther e x.query) stay) → AreApart stay → AreApart (e ∷ stay)
apart-cons e es stay d fewer rest =
    IsDistinct-cons query_eq e.query (questions stay)
    (all-map (IsOther e) (λ x. x.query) stay (fewer (all-unmap (IsOther e) (λ x. x.query) es (IsDistinct-head query_eq e.query (questions es) d))))
    rest

apart-filter : (p : Entry → Bool) (es : List Entry) → AreApart es → AreApart (filter p es)
apart-filter p [] d = d
apart-filter p (e ∷ es) d = by (p e) (apart-filter p es (IsDistinct-tail query_eq e.query (questions es) d))
  where
    by : (b : Bool) → AreApart (filter p es) → AreApart (cond b (e ∷ filter p es) (filter p es))
    by true rest = apart-cons e es (filter p es) d (all-filter (λ x. IsOther e x.query) p es) rest
    by false rest = rest

apart-remove : (es : List Entry) (i : ℕ) → AreApart es → AreApart (remove es i)
apart-remove [] zero d = d
apart-remove [] (suc i) d = d
apart-remove (e ∷ es) zero d = IsDistinct-tail query_eq e.query (questions es) d
apart-remove (e ∷ es) (suc i) d =
    apart-cons e es (remove es i) d (all-remove (λ x. IsOther e x.query) es i) (apart-remove es i (IsDistinct-tail query_eq e.query (questions es) d))

pub apart-without : (q : Query) (es : List Entry) → AreApart es → AreApart (without q es)
apart-without q es d = apart-filter (λ e. not (is_for q e)) es d

apart-room : (capacity : ℕ) (q : Query) (es : List Entry) → AreApart es → AreApart (kept_beside capacity q es)
apart-room capacity q es d = by (list_any (is_for q) es) (nat_lt (length es) capacity)
  where
    by : (own room : Bool) → AreApart (if own then without q es else (if room then es else without_earliest es))
    by true room = apart-without q es d
    by false true = d
    by false false = apart-remove es (position_or_len (λ e. e.valid_until == least_deadline es) es) d

any-question : (q : Query) (es : List Entry) → list_any (query_eq q) (questions es) ≡ list_any (is_for q) es
any-question q [] = refl
any-question q (e ∷ es) = ap (λ b. query_eq q e.query || b) (any-question q es)

pub apart-insert_entry : (capacity : ℕ) (es : List Entry) (e : Entry) → AreApart es → AreApart (insert_entry capacity es e)
apart-insert_entry capacity es e d = by (capacity == 0)
  where
    room : List Entry
    room = kept_beside capacity e.query es

    by : (b : Bool) → AreApart (if b then es else room ++ e ∷ [])
    by true = d
    by false =
        subst (IsDistinct query_eq) (sym (map-append (λ x. x.query) room (e ∷ [])))
        (IsDistinct-push query_equiv (questions room) e.query (apart-room capacity e.query es d) (any-question e.query room ∙ kept_beside-none capacity e.query es))

pub apart-insert_within : (octets : Option ℕ) (capacity : ℕ) (es : List Entry) (e : Entry) → AreApart es → AreApart (insert_within octets capacity es e)
apart-insert_within None capacity es e d = apart-insert_entry capacity es e d
apart-insert_within (Some octets) capacity es e d = by (capacity == 0) (is_heavy octets e)
  where
    room : List Entry
    room = others_within octets capacity es e

    none : list_any (is_for e.query) room ≡ false
    none = with_room-none (is_for e.query) (length (without e.query es)) capacity (octets - entry_weight e) (without e.query es) (without-none_for e.query es)

    others : AreApart room
    others =
        with_room-keeps AreApart (λ l h. apart-remove l (position_or_len (λ x. x.valid_until == least_deadline l) l) h) (length (without e.query es)) capacity (octets - entry_weight e) (without e.query es)
        (apart-without e.query es d)

    by : (b heavy : Bool) → AreApart (if b then es else (if heavy then without e.query es else (room ++ e ∷ [])))
    by true heavy = d
    by false true = apart-without e.query es d
    by false false =
        subst (IsDistinct query_eq) (sym (map-append (λ x. x.query) room (e ∷ [])))
        (IsDistinct-push query_equiv (questions room) e.query others (any-question e.query room ∙ none))
