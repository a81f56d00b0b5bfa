-- What a cache keeps: entries by question in any order, each with the number of its store, and the questions
-- by deadline and number. The list of its entries is in the order of the numbers.
use Rattle.std.specs.Prelude.{◌≡◌, ℕ, true, false, ◌≤◌, ◌<◌, zero, suc, ◌==◌, nat_eq, List, [], ◌∷◌, ◌++◌, map, length, Option, None, Some, IsSome, if◌then◌else◌, cond}
use Rattle.std.specs.declared.cmp.Ordering.{Ordering}
use Rattle.std.specs.Ordering.{is_gt, nat_cmp, ordering_then}
use Rattle.std.specs.Option.{option_map_or, option_to_list}
use Rattle.std.specs.List.{All, AllByRecursion, IsDistinct}
use Rattle.std.specs.List.Sorted.{IsPermutation}
use Rattle.std.specs.Map.{lookup, keys_of}
use Rattle.std.specs.BTreeMap.{BTreeMap, get, is_at, IsLowerBound}
use Rattle.hickory_proto_core.specs.declared.query.Query.{Query}
use Rattle.hickory_resolver_cache.specs.declared.kept.Kept.{Kept}
use Rattle.hickory_proto_core.specs.Handles.{OutcomeValue}
use Rattle.hickory_proto_core.specs.Query.{query_eq}
use Rattle.hickory_resolver_model.specs.Bounds.{ConfigValue}
use Rattle.hickory_resolver_model.specs.Cache.{Entry, OutlivesNoAnswer, entry_weight}

abbrev pub Pair : Type 0
Pair = Query × Kept

-- a deadline and a number
abbrev pub Turn : Type 0
Turn = ℕ × ℕ

abbrev pub turn_cmp : Turn → Turn → Ordering
turn_cmp t u = ordering_then (nat_cmp t.0 u.0) (nat_cmp t.1 u.1)

abbrev pub stored_entry : Pair → Entry
stored_entry p =
    record {
      query = p.0;
      result = p.1.result;
      original_time = p.1.original_time;
      valid_until = p.1.valid_until;
    }

-- the pair that is kept of an entry under a number, with a weight
abbrev pub pair_of : Entry → ℕ → ℕ → Pair
pair_of e n weight = (
  e.query,
  record {
    result = e.result;
    original_time = e.original_time;
    valid_until = e.valid_until;
    number = n;
    weight = weight;
  },
)

-- the pair has the weight of its entry
pub record HasItsWeight (p : Pair) : Type 0 where
  pub weighs : p.1.weight ≡ entry_weight (stored_entry p)

abbrev pub by_number : List Pair → List (ℕ × Pair)
by_number ps = map (λ p. (p.1.number, p)) ps

-- the pair that has the number n
abbrev pub numbered : List Pair → ℕ → Option Pair
numbered ps n = lookup (nat_eq n) (by_number ps)

-- the pairs that f gives below n, in order
abbrev pub listed : (ℕ → Option Pair) → ℕ → List Pair
listed f zero = []
listed f (suc n) = listed f n ++ option_to_list (f n)

-- the pairs in the order of their stores
abbrev pub in_order : List Pair → ℕ → List Pair
in_order ps next = listed (numbered ps) next

abbrev pub entries_of : List Pair → ℕ → List Entry
entries_of ps next = map stored_entry (in_order ps next)

-- the question of the pair, if it has the deadline d
abbrev pub query_at : ℕ → Option Pair → Option Query
query_at d None = None
query_at d (Some p) = if p.1.valid_until == d then Some p.0 else None

abbrev pub Order : Type 0
Order = BTreeMap Turn Query

-- each turn has the question of the pair with its number and deadline
abbrev pub IsPlaced : List Pair → Order → Type 0
IsPlaced ps order = (t : Turn) → get turn_cmp order t ≡ query_at t.0 (numbered ps t.1)

-- the numbers differ, and are below the next one
pub record IsNumbered (next : ℕ) (ps : List Pair) : Type 0 where
  pub apart : IsDistinct nat_eq (keys_of (by_number ps))
  pub below : (n : ℕ) → next ≤ n → numbered ps n ≡ None

-- the pairs are as many as there may be at the most, each has its turn, and there is no other turn
pub record IsKept (capacity next : ℕ) (ps : List Pair) (order : Order) : Type 0 where
  pub short : length ps ≤ capacity
  pub numbers : IsNumbered next ps
  pub placed : IsPlaced ps order

-- what holds of every cache
pub record IsSound (config : ConfigValue) (capacity next : ℕ) (ps : List Pair) (order : Order) : Type 0 where
  pub kept : IsKept capacity next ps order
  pub apart : IsDistinct query_eq (map (λ e. e.query) (entries_of ps next))
  pub timely : AllByRecursion (OutlivesNoAnswer config) (entries_of ps next)

-- The pairs may stand in another order and have other numbers: the list of entries is the same, and so is how
-- many there are. Where each had the weight of its entry, each has it still.
pub record IsSameList (ps : List Pair) (next : ℕ) (rs : List Pair) (after : ℕ) (order : Order) : Type 0 where
  pub length_is : length rs ≡ length ps
  pub numbers : IsNumbered after rs
  pub placed : IsPlaced rs order
  pub entries_are : entries_of rs after ≡ entries_of ps next
  pub weights_are : All HasItsWeight ps → All HasItsWeight rs

-- the pair with the number n
abbrev pub with_number : ℕ → Pair → Pair
with_number n p = (
  p.0,
  record {
    result = p.1.result;
    original_time = p.1.original_time;
    valid_until = p.1.valid_until;
    number = n;
    weight = p.1.weight;
  },
)

-- the pairs with the numbers from n on
abbrev pub renumbered : ℕ → List Pair → List Pair
renumbered n [] = []
renumbered n (p ∷ ps) = with_number n p ∷ renumbered (suc n) ps

-- the turns of the pairs, if each had its place as its number
pub record IsOrderOf (ps : List Pair) (order : Order) : Type 0 where
  pub numbers : IsNumbered (length ps) (renumbered 0 ps)
  pub placed : IsPlaced (renumbered 0 ps) order

-- p stands at the turn t
pub record StandsAt (ps : List Pair) (t : Turn) (p : Pair) : Type 0 where
  pub number : numbered ps t.1 ≡ Some p
  pub valid_until : p.1.valid_until ≡ t.0

-- the pair at the turn, if there is one, is gone
abbrev pub Gone : Option Turn → List Pair → List Pair → Type 0
Gone None ps rs = rs ≡ ps
Gone (Some t) ps rs = (p : Pair) × StandsAt ps t p × IsPermutation ps (p ∷ rs)

-- what the pair at the turn weighs, if there is one
abbrev pub weight_at : List Pair → Option Turn → ℕ
weight_at ps None = 0
weight_at ps (Some t) = option_map_or (λ p. p.1.weight) (numbered ps t.1) 0

-- the turn, if there is one, is gone
abbrev pub TurnGone : Option Turn → Order → Order → Type 0
TurnGone None old new = (u : Turn) → get turn_cmp new u ≡ get turn_cmp old u
TurnGone (Some t) old new =
    (u : Turn) → get turn_cmp new u ≡ cond (is_at (turn_cmp t) u) None (get turn_cmp old u)

-- some pair stands at the turn, if there is one, and the order has its question there
abbrev pub IsTaken : List Pair → Order → Option Turn → Type 0
IsTaken ps order None = Unit {0}
IsTaken ps order (Some t) = (p : Pair) × StandsAt ps t p × (get turn_cmp order t ≡ Some p.0)

-- the turn, if there is one, is that of the question's pair
abbrev pub IsTurnOf : Query → List Pair → Option Turn → Type 0
IsTurnOf q ps None = lookup (query_eq q) ps ≡ None
IsTurnOf q ps (Some t) = (p : Pair) × StandsAt ps t p × (query_eq q p.0 ≡ true)

-- the turn, if there is one, is some pair's
abbrev pub IsSomeTurn : List Pair → Option Turn → Type 0
IsSomeTurn ps None = Unit {0}
IsSomeTurn ps (Some t) = (p : Pair) × StandsAt ps t p

-- no pair is left for the question once the turn goes
abbrev pub Frees : Query → List Pair → Option Turn → Type 0
Frees q ps turn =
    (rs : List Pair) → IsDistinct query_eq (keys_of rs) → Gone turn ps rs → lookup (query_eq q) rs ≡ None

-- The pair p has come in, under the number n, and what stood at the turn has left, if there is one. The pairs
-- may stand in another order.
pub record IsStored
    (turn : Option Turn) (n : ℕ) (ps : List Pair) (old : Order) (p : Pair) (qs : List Pair) (new : Order) : Type 0 where
  pub rest : List Pair
  pub between : Order
  pub gone : Gone turn ps rest
  pub moved : IsPermutation (rest ++ p ∷ []) qs
  pub added : (u : Turn)
      → get turn_cmp between u ≡ cond (is_at (turn_cmp (p.1.valid_until, n)) u) (Some p.0) (get turn_cmp old u)
  pub turn_gone : TurnGone turn between new

-- the turn is the first, or there is none
abbrev pub IsFirstTurn : Order → Option Turn → Type 0
IsFirstTurn order None = (t : Turn) → get turn_cmp order t ≡ None
IsFirstTurn order (Some t) = ((q : Query) × (get turn_cmp order t ≡ Some q)) × IsLowerBound turn_cmp order t

-- the turn is the first beside that one, or there is no other
abbrev pub IsFirstOther : Turn → Order → Option Turn → Type 0
IsFirstOther own order None = (t : Turn) → IsSome (get turn_cmp order t) → is_at (turn_cmp own) t ≡ true
IsFirstOther own order (Some t) =
    IsSome (get turn_cmp order t) × (is_at (turn_cmp own) t ≡ false)
    × ((u : Turn) → IsSome (get turn_cmp order u) → is_at (turn_cmp own) u ≡ false → is_gt (turn_cmp t u) ≡ false)

-- the turn is the first where there are as many pairs as may be, and none where there are fewer
abbrev pub IsLeaving : ℕ → List Pair → Order → Option Turn → Type 0
IsLeaving capacity ps order turn =
    (length ps < capacity → turn ≡ None) × (capacity ≤ length ps → IsFirstTurn order turn)

-- what a look-up gives of an entry
abbrev pub shown : Kept → OutcomeValue × ℕ × ℕ
shown k = (k.result, k.original_time, k.valid_until)

abbrev pub shown_entry : Entry → OutcomeValue × ℕ × ℕ
shown_entry e = (e.result, e.original_time, e.valid_until)
