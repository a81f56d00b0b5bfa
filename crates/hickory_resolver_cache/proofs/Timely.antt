-- An entry outlives none of its answers of the asked type, where the least TTL of that type is 0.
use Rattle.std.proofs.Common.{◌≡◌, ℕ, ◌+◌, ◌-◌, ◌≤◌, Bool, true, false, cond, ◌||◌, ◌==◌, List, [], ◌∷◌, ◌++◌, map, length, filter, fold, min, Option, None, Some, Ok, Err, unwrap_or, refl, sym, ap, ◌∙◌, subst, arith, not, nat_lt, if◌then◌else◌}
use Rattle.std.proofs.lemmas.Bool.{eqb-true, eq-eqb, false≢true, or_left}
use Rattle.std.specs.List.{AllByRecursion, list_any, position_or_len}
use Rattle.std.specs.Option.{option_map_or}
use Rattle.hickory_proto_core.specs.Codes.{type_code}
use Rattle.hickory_proto_core.specs.ResponseKind.{record_type_code}
use Rattle.hickory_proto_core.specs.Handles.{OutcomeValue}
use Rattle.hickory_proto_core.specs.Errors.{NoRecordsValue}
use Rattle.hickory_proto_core.specs.Messages.{MessageValue}
use Rattle.hickory_proto_core.specs.Records.{RecordValue}
use Rattle.hickory_proto_core.specs.declared.query.Query.{Query}
use Rattle.hickory_proto_core.specs.declared.net_error.NetError.TheVariants.{Message, Timeout, Proto, Dns, NoOutcome, Bounds, OutOfMemory}
use Rattle.hickory_proto_core.specs.declared.net_error.DnsError.TheVariants.{ResponseCode, NoRecordsFound}
use Rattle.hickory_resolver_model.specs.Bounds.{ConfigValue, bounds_for, clamped_message, clamped_record, clamped_records, greatest_ttl, least_ttl, living_records, positive_bounds, reduced_bound}
use Rattle.hickory_resolver_model.specs.Cache.{Entry, IsTimelyAnswer, OutlivesNoAnswer, current, entry_of, is_for, negative_entry, not_after, not_after_current, positive_entry, entry_weight, insert_entry, insert_within, is_heavy, kept_beside, without, without_earliest, least_deadline}
use Rattle.hickory_resolver_cache.proofs.Laws.{others_within}
use Rattle.hickory_resolver_cache.proofs.Rooms.{with_room-keeps}
use Rattle.hickory_resolver_cache.proofs.PairLists.{all-append, all-filter, all-remove, all-weaker}

-- ---- the least TTL of some records
least-below : (n : ℕ) (rs : List RecordValue) → fold min n (map (λ r. r.ttl) rs) ≤ n
least-below n [] = omega arith
least-below n (r ∷ rs) = let h = least-below (min n r.ttl) rs in omega (arith, h)

least-of : (n : ℕ) (rs : List RecordValue) → AllByRecursion (λ r. fold min n (map (λ x. x.ttl) rs) ≤ r.ttl) rs
least-of n [] = tt
least-of n (r ∷ rs) = (let h = least-below (min n r.ttl) rs in omega (arith, h), least-of (min n r.ttl) rs)

pub least-all : (d : ℕ) (rs : List RecordValue) → AllByRecursion (λ r. unwrap_or (least_ttl rs) d ≤ r.ttl) rs
least-all d [] = tt
least-all d (r ∷ rs) = (least-below r.ttl rs, least-of r.ttl rs)

-- what holds of each record that passes
unfiltered : {X : Type 0} (P : X → Type 0) (p : X → Bool) (xs : List X) → AllByRecursion P (filter p xs) → AllByRecursion (λ x. p x ≡ true → P x) xs
unfiltered P p [] h = tt
unfiltered {X = X} P p (x ∷ xs) h = by (p x) refl h (λ k. unfiltered P p xs k)
  where
    by : (b : Bool) → p x ≡ b → AllByRecursion P (cond b (x ∷ filter p xs) (filter p xs))
        → (AllByRecursion P (filter p xs) → AllByRecursion (λ y. p y ≡ true → P y) xs) → AllByRecursion (λ y. p y ≡ true → P y) (x ∷ xs)
    by true e k rest = (λ t. k.0, rest k.1)
    by false e k rest = (λ t. absurd (false≢true (sym e ∙ t)), rest k)

all-front : {X : Type 0} (P : X → Type 0) (xs ys : List X) → AllByRecursion P (xs ++ ys) → AllByRecursion P xs
all-front P [] ys h = tt
all-front P (x ∷ xs) ys h = (h.0, all-front P xs ys h.1)

-- each answer of the asked type is one that the message lives by
pub living-answers : (P : RecordValue → Type 0) (q : Query) (m : MessageValue) → AllByRecursion P (living_records q m) → AllByRecursion (λ r. record_type_code r ≡ type_code q.query_type → P r) m.answers
living-answers P q m = by (type_code q.query_type == 2) refl
  where
    code : ℕ
    code = type_code q.query_type

    ns : RecordValue → Bool
    ns r = record_type_code r == 2

    own : RecordValue → Bool
    own r = (record_type_code r == code) || (record_type_code r == 5)

    by : (b : Bool) → (code == 2) ≡ b → AllByRecursion P (if b then filter ns (m.answers ++ m.authorities) else filter own m.answers) → AllByRecursion (λ r. record_type_code r ≡ code → P r) m.answers
    by true e h =
        let two : code ≡ 2 = eqb-true code 2 e in
        all-weaker (λ r. ns r ≡ true → P r) (λ r. record_type_code r ≡ code → P r) (λ r w s. w (eq-eqb (record_type_code r) 2 (s ∙ two))) m.answers
        (all-front (λ r. ns r ≡ true → P r) m.answers m.authorities (unfiltered P ns (m.answers ++ m.authorities) h))
    by false e h =
        all-weaker (λ r. own r ≡ true → P r) (λ r. record_type_code r ≡ code → P r) (λ r w s. w (or_left (record_type_code r == code) (record_type_code r == 5) (eq-eqb (record_type_code r) code s))) m.answers
        (unfiltered P own m.answers h)

-- ---- the greatest TTL of a type

-- an answer of a type without a least TTL is cut at the greatest
is-cut : (config : ConfigValue) (code : ℕ) (r : RecordValue) → (positive_bounds (bounds_for config code)).0 ≡ 0 → record_type_code r ≡ code → (clamped_record config r).ttl ≤ greatest_ttl config code
is-cut config code r zero_least own =
    let same : positive_bounds (bounds_for config (record_type_code r)) ≡ positive_bounds (bounds_for config code) = ap (λ n. positive_bounds (bounds_for config n)) own in
    let none : reduced_bound (positive_bounds (bounds_for config (record_type_code r))).0 ≡ 0 = ap (λ (b : ℕ × ℕ). reduced_bound b.0) same ∙ ap reduced_bound zero_least in
    let most : greatest_ttl config (record_type_code r) ≡ greatest_ttl config code = ap (λ (b : ℕ × ℕ). reduced_bound b.1) same in
    omega (arith, none, most)

-- each answer of the type, once it is clamped, is timely where the entry does not outlive it
timely-answers : (config : ConfigValue) (e : Entry) (code : ℕ) → (positive_bounds (bounds_for config code)).0 ≡ 0 → (rs : List RecordValue)
    → AllByRecursion (λ r. record_type_code r ≡ code → e.valid_until ≤ e.original_time + r.ttl) (clamped_records config rs) → AllByRecursion (IsTimelyAnswer config e code) (clamped_records config rs)
timely-answers config e code zero_least [] h = tt
timely-answers config e code zero_least (r ∷ rs) h = (λ own. (h.0 own, is-cut config code r zero_least own), timely-answers config e code zero_least rs h.1)

-- ---- the entries that outcomes become
pub timely-positive : (config : ConfigValue) (q : Query) (m : MessageValue) (now : ℕ) → OutlivesNoAnswer config (positive_entry config q m now)
timely-positive config q m now zero_least n is =
    subst (λ (x : MessageValue). AllByRecursion (IsTimelyAnswer config e (type_code q.query_type)) x.answers) same
    (timely-answers config e (type_code q.query_type) zero_least m.answers
    (living-answers (λ r. e.valid_until ≤ now + r.ttl) q kept
    (all-weaker (λ r. lived ≤ r.ttl) (λ r. e.valid_until ≤ now + r.ttl) (λ r l. omega (arith, l, zero_least)) (living_records q kept) (least-all bounds.0 (living_records q kept)))))
  where
    e : Entry
    e = positive_entry config q m now

    kept : MessageValue
    kept = clamped_message config m

    bounds : ℕ × ℕ
    bounds = positive_bounds (bounds_for config (type_code q.query_type))

    lived : ℕ
    lived = unwrap_or (least_ttl (living_records q kept)) bounds.0

    same : kept ≡ n
    same = cc

pub timely-negative : (config : ConfigValue) (q : Query) (n : NoRecordsValue) (now : ℕ) → OutlivesNoAnswer config (negative_entry config q n now)
timely-negative config q n now zero_least m is = cc

pub timely-entry : (config : ConfigValue) (q : Query) (outcome : OutcomeValue) (now : ℕ) (e : Entry) → Some e ≡ entry_of config q outcome now → OutlivesNoAnswer config e
timely-entry config q (Ok m) now e h = let same : e ≡ positive_entry config q m now = cc in subst (OutlivesNoAnswer config) (sym same) (timely-positive config q m now)
timely-entry config q (Err (Dns (NoRecordsFound n))) now e h = let same : e ≡ negative_entry config q n now = cc in subst (OutlivesNoAnswer config) (sym same) (timely-negative config q n now)
timely-entry config q (Err (Dns (ResponseCode code))) now e h = cc
timely-entry config q (Err (Message text)) now e h = cc
timely-entry config q (Err Timeout) now e h = cc
timely-entry config q (Err (Proto error)) now e h = cc
timely-entry config q (Err NoOutcome) now e h = cc
timely-entry config q (Err (Bounds error)) now e h = cc
timely-entry config q (Err OutOfMemory) now e h = cc

-- an entry that is current for less time
timely-sooner : (config : ConfigValue) (e : Entry) (deadline : ℕ) → deadline ≤ e.valid_until → OutlivesNoAnswer config e → OutlivesNoAnswer config (record e { valid_until = deadline })
timely-sooner config e deadline sooner h zero_least m is =
    all-weaker (IsTimelyAnswer config e (type_code e.query.query_type)) (IsTimelyAnswer config (record e { valid_until = deadline }) (type_code e.query.query_type))
    (λ r w s. let t = w s in let l = t.0 in (omega (arith, l, sooner), t.1)) m.answers (h zero_least m is)

pub timely-limited : (config : ConfigValue) (es : List Entry) (now : ℕ) (e : Entry) → OutlivesNoAnswer config e → OutlivesNoAnswer config (not_after_current es now e)
timely-limited config es now e h = timely-sooner config e (deadline (current e.query now es)) (below (current e.query now es)) h
  where
    deadline : Option Entry → ℕ
    deadline o = option_map_or (λ c. min e.valid_until c.valid_until) o e.valid_until

    below : (o : Option Entry) → deadline o ≤ e.valid_until
    below None = omega arith
    below (Some c) = omega arith

pub timely-not_after : (config : ConfigValue) (limit : ℕ) (e : Entry) → OutlivesNoAnswer config e → OutlivesNoAnswer config (not_after limit e)
timely-not_after config limit e h = timely-sooner config e (min e.valid_until limit) (omega arith) h

-- ---- the list after a store or a removal
pub timely-without : (config : ConfigValue) (q : Query) (es : List Entry) → AllByRecursion (OutlivesNoAnswer config) es → AllByRecursion (OutlivesNoAnswer config) (without q es)
timely-without config q es h = all-filter (OutlivesNoAnswer config) (λ e. not (is_for q e)) es h

timely-room : (config : ConfigValue) (capacity : ℕ) (q : Query) (es : List Entry) → AllByRecursion (OutlivesNoAnswer config) es → AllByRecursion (OutlivesNoAnswer config) (kept_beside capacity q es)
timely-room config capacity q es h = by (list_any (is_for q) es) (nat_lt (length es) capacity)
  where
    by : (own room : Bool) → AllByRecursion (OutlivesNoAnswer config) (if own then without q es else (if room then es else without_earliest es))
    by true room = timely-without config q es h
    by false true = h
    by false false = all-remove (OutlivesNoAnswer config) es (position_or_len (λ e. e.valid_until == least_deadline es) es) h

pub timely-insert_entry : (config : ConfigValue) (capacity : ℕ) (es : List Entry) (e : Entry) → AllByRecursion (OutlivesNoAnswer config) es → OutlivesNoAnswer config e → AllByRecursion (OutlivesNoAnswer config) (insert_entry capacity es e)
timely-insert_entry config capacity es e h new = by (capacity == 0)
  where
    by : (b : Bool) → AllByRecursion (OutlivesNoAnswer config) (if b then es else kept_beside capacity e.query es ++ e ∷ [])
    by true = h
    by false = all-append (OutlivesNoAnswer config) (kept_beside capacity e.query es) (e ∷ []) (timely-room config capacity e.query es h) (new, tt)

pub timely-insert_within : (config : ConfigValue) (octets : Option ℕ) (capacity : ℕ) (es : List Entry) (e : Entry) → AllByRecursion (OutlivesNoAnswer config) es → OutlivesNoAnswer config e → AllByRecursion (OutlivesNoAnswer config) (insert_within octets capacity es e)
timely-insert_within config None capacity es e h new = timely-insert_entry config capacity es e h new
timely-insert_within config (Some octets) capacity es e h new = by (capacity == 0) (is_heavy octets e)
  where
    room : List Entry
    room = others_within octets capacity es e

    others : AllByRecursion (OutlivesNoAnswer config) room
    others =
        with_room-keeps (AllByRecursion (OutlivesNoAnswer config)) (λ l k. all-remove (OutlivesNoAnswer config) l (position_or_len (λ x. x.valid_until == least_deadline l) l) k)
        (length (without e.query es)) capacity (octets - entry_weight e) (without e.query es) (timely-without config e.query es h)

    by : (b heavy : Bool) → AllByRecursion (OutlivesNoAnswer config) (if b then es else (if heavy then without e.query es else (room ++ e ∷ [])))
    by true heavy = h
    by false true = timely-without config e.query es h
    by false false = all-append (OutlivesNoAnswer config) room (e ∷ []) others (new, tt)
