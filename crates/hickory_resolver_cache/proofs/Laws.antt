-- What holds of a cache from one store to the next.
use Rattle.std.proofs.Common.{◌≡◌, ℕ, ◌≤◌, ◌<◌, Bool, true, false, ◌&&◌, ◌==◌, ◌-◌, ◌*◌, not, nat_lt, ◌⊎◌, inl, inr, List, [], ◌∷◌, ◌++◌, map, length, find, min, IfSome, IsSome, is_some, Option, None, Some, Ok, Err, cond, sym, refl, ap, ap₂, ◌∙◌, subst, arith, if◌then◌else◌}
use Rattle.std.specs.Option.{option_map_or, option_or}
use Rattle.std.proofs.lemmas.Bool.{ne_eqb, eqb-true, true≢false}
use Rattle.std.proofs.lemmas.List.Folds.{find-append}
use Rattle.std.proofs.lemmas.Map.Keys.{IsDistinct-head, IsDistinct-tail}
use Rattle.hickory_proto_core.specs.declared.query.Query.{Query}
use Rattle.hickory_proto_core.specs.Query.{query_eq, query_equiv}
use Rattle.hickory_proto_core.specs.Handles.{OutcomeValue}
use Rattle.hickory_proto_core.specs.declared.net_error.NetError.TheVariants.{Message, Timeout, Proto, Dns, NoOutcome, Bounds, OutOfMemory}
use Rattle.hickory_proto_core.specs.declared.net_error.DnsError.TheVariants.{ResponseCode, NoRecordsFound}
use Rattle.hickory_resolver_model.specs.Bounds.{ConfigValue, clamped_message, negative_lifetime, positive_lifetime}
use Rattle.hickory_resolver_model.specs.Cache.{CacheValue, Entry, IsNewest, entry_weight, insert_weighed, insert_within, is_heavy, is_light, with_room, without, NeverLater, current, entry_of, is_current, is_for, last_moment, negative_entry, not_after, not_after_current, positive_entry, kept_beside, saturating_sum, store, store_until}
use Rattle.hickory_resolver_cache.specs.Outcome.{kept_entry}
use Rattle.hickory_resolver_cache.proofs.PairLists.{find-none, list_any-filter_not, none_alike}
use Rattle.hickory_resolver_cache.proofs.Rooms.{with_room-none}
use Rattle.std.specs.List.{IsDistinct, list_any}
use Rattle.hickory_resolver_cache.proofs.Store.{kept_beside-none}

abbrev pub AreApart : List Entry → Type 0
AreApart es = IsDistinct query_eq (map (λ e. e.query) es)

-- of entries apart, the question's current one is its own
pub own-current : (q : Query) (now : ℕ) (es : List Entry) (was : Entry) → AreApart es → current q now es ≡ Some was → find (is_for q) es ≡ Some was
own-current q now [] was apart h = h
own-current q now (e ∷ es) was apart h =
    by (own-current q now es was (IsDistinct-tail query_eq e.query (map (λ x. x.query) es) apart)) (is_for q e) refl (is_current now e) refl
  where
    rest : Option Entry
    rest = current q now es

    by : (current q now es ≡ Some was → find (is_for q) es ≡ Some was) → (own : Bool) → is_for q e ≡ own → (live : Bool) → is_current now e ≡ live → find (is_for q) (e ∷ es) ≡ Some was
    by tail true k true l = ap (λ b. cond b (Some e) (find (is_for q) es)) k ∙ sym (ap₂ (λ b c. cond (b && c) (Some e) rest) k l) ∙ h
    by tail true k false l =
        let here : rest ≡ Some was = sym (ap₂ (λ b c. cond (b && c) (Some e) rest) k l) ∙ h in
        let none = find-none (is_for q) es (none_alike query_eq query_equiv (λ x. x.query) q e es k (IsDistinct-head query_eq e.query (map (λ x. x.query) es) apart)) in
        let clash : None ≡ Some was = sym none ∙ tail here in
        cc
    by tail false k live l =
        ap (λ b. cond b (Some e) (find (is_for q) es)) k ∙ tail (sym (ap₂ (λ b c. cond (b && c) (Some e) rest) k l) ∙ h)

-- a cache that stays as it is
pub never_later-same : (q : Query) (now : ℕ) (es : List Entry) → AreApart es → NeverLater q now es es
never_later-same q now es apart was is h k =
    let same : Some was ≡ Some is = sym (own-current q now es was apart h) ∙ k in
    let deadlines : was.valid_until ≡ is.valid_until = cc in
    omega arith

-- What a store comes to: a cache without a place stays, a heavy entry leaves none for its question, and any other
-- stands last.
abbrev Stays : ℕ → List Entry → List Entry → Type 0
Stays capacity es after = (capacity ≡ 0) × (after ≡ es)

abbrev StandsLast : Entry → List Entry → Type 0
StandsLast e after = (others : List Entry) × (list_any (is_for e.query) others ≡ false) × (after ≡ others ++ e ∷ [])

abbrev Outcomes : ℕ → List Entry → Entry → List Entry → Type 0
Outcomes capacity es e after = Stays capacity es after ⊎ (after ≡ without e.query es) ⊎ StandsLast e after

pub without-none_for : (q : Query) (es : List Entry) → list_any (is_for q) (without q es) ≡ false
without-none_for q es = list_any-filter_not (is_for q) es

-- the others of a store within a bound in octets
abbrev pub others_within : ℕ → ℕ → List Entry → Entry → List Entry
others_within octets capacity es e = with_room (length (without e.query es)) capacity (octets - entry_weight e) (without e.query es)

inserted : (octets : Option ℕ) (capacity : ℕ) (es : List Entry) (e : Entry) → Outcomes capacity es e (insert_within octets capacity es e)
inserted None capacity es e = by (capacity == 0) refl
  where
    room : List Entry
    room = kept_beside capacity e.query es

    by : (b : Bool) → (capacity == 0) ≡ b → Outcomes capacity es e (if b then es else room ++ e ∷ [])
    by true z = inl (eqb-true capacity 0 z, refl)
    by false z = inr (inr (room, kept_beside-none capacity e.query es, refl))
inserted (Some octets) capacity es e = by (capacity == 0) refl (is_heavy octets e)
  where
    room : List Entry
    room = others_within octets capacity es e

    by : (b : Bool) → (capacity == 0) ≡ b → (heavy : Bool) → Outcomes capacity es e (if b then es else (if heavy then without e.query es else (room ++ e ∷ [])))
    by true z heavy = inl (eqb-true capacity 0 z, refl)
    by false z true = inr (inl refl)
    by false z false = inr (inr (room, with_room-none (is_for e.query) (length (without e.query es)) capacity (octets - entry_weight e) (without e.query es) (without-none_for e.query es), refl))

-- the question's entry, where one stands last
find-last : (e : Entry) (others : List Entry) → list_any (is_for e.query) others ≡ false → find (is_for e.query) (others ++ e ∷ []) ≡ Some e
find-last e others none =
    find-append (is_for e.query) others (e ∷ [])
    ∙ ap₂ (λ o b. option_or o (cond b (Some e) None)) (find-none (is_for e.query) others none) (query_equiv.refl e.query)

-- a store whose deadline is limited
pub never_later-insert_within : (octets : Option ℕ) (capacity now : ℕ) (es : List Entry) (e : Entry) → AreApart es → NeverLater e.query now es (insert_within octets capacity es (not_after_current es now e))
never_later-insert_within octets capacity now es e apart was is h k = by (inserted octets capacity es stored)
  where
    stored : Entry
    stored = not_after_current es now e

    after : List Entry
    after = insert_within octets capacity es stored

    by : Outcomes capacity es stored after → is.valid_until ≤ was.valid_until
    by (inl stays) = never_later-same e.query now es apart was is h (sym (ap (find (is_for e.query)) stays.1) ∙ k)
    by (inr (inl gone)) =
        let none : None ≡ Some is = sym (find-none (is_for e.query) (without e.query es) (without-none_for e.query es)) ∙ sym (ap (find (is_for e.query)) gone) ∙ k in
        cc
    by (inr (inr last)) =
        let same : Some stored ≡ Some is = sym (find-last stored last.0 last.1) ∙ sym (ap (find (is_for e.query)) last.2) ∙ k in
        let limit = ap (λ o. option_map_or (λ c. min e.valid_until c.valid_until) o e.valid_until) h in
        let deadlines : stored.valid_until ≡ is.valid_until = cc in
        omega (arith, limit)

-- the entry that an outcome becomes is for its question
pub entry_of-query : (config : ConfigValue) (q : Query) (outcome : OutcomeValue) (now : ℕ) (e : Entry) → Some e ≡ entry_of config q outcome now → e.query ≡ q
entry_of-query config q (Ok m) now e h = cc
entry_of-query config q (Err (Dns (NoRecordsFound n))) now e h = cc
entry_of-query config q (Err (Dns (ResponseCode code))) now e h = cc
entry_of-query config q (Err (Message text)) now e h = cc
entry_of-query config q (Err Timeout) now e h = cc
entry_of-query config q (Err (Proto error)) now e h = cc
entry_of-query config q (Err NoOutcome) now e h = cc
entry_of-query config q (Err (Bounds error)) now e h = cc
entry_of-query config q (Err OutOfMemory) now e h = cc

pub never_later-stored : (octets : Option ℕ) (capacity now : ℕ) (q : Query) (es after : List Entry) (e : Entry) → AreApart es → e.query ≡ q → after ≡ insert_within octets capacity es (not_after_current es now e) → NeverLater q now es after
never_later-stored octets capacity now q es after e apart for h =
    subst (λ p. NeverLater p now es after) for (subst (λ l. NeverLater e.query now es l) (sym h) (never_later-insert_within octets capacity now es e apart))

-- ---- a store with a limit

-- the question's entry after a store, if there is one, is the one that was stored
limited-stored : (octets : Option ℕ) (capacity limit : ℕ) (es : List Entry) (e : Entry) → 0 < capacity → e.valid_until ≤ limit → IfSome (find (is_for e.query) (insert_within octets capacity es e)) (λ kept. kept.valid_until ≤ limit)
limited-stored octets capacity limit es e pos early = by (inserted octets capacity es e)
  where
    Limited : List Entry → Type 0
    Limited after = IfSome (find (is_for e.query) after) (λ kept. kept.valid_until ≤ limit)

    by : Outcomes capacity es e (insert_within octets capacity es e) → IfSome (find (is_for e.query) (insert_within octets capacity es e)) (λ kept. kept.valid_until ≤ limit)
    by (inl stays) = let none = stays.0 in absurd (omega (arith, none, pos))
    by (inr (inl gone)) =
        subst (λ l. IfSome (find (is_for e.query) l) (λ kept. kept.valid_until ≤ limit)) (sym gone)
        (subst (λ o. IfSome o (λ kept. kept.valid_until ≤ limit)) (sym (find-none (is_for e.query) (without e.query es) (without-none_for e.query es))) tt)
    by (inr (inr last)) =
        subst (λ l. IfSome (find (is_for e.query) l) (λ kept. kept.valid_until ≤ limit)) (sym last.2)
        (subst (λ o. IfSome o (λ kept. kept.valid_until ≤ limit)) (sym (find-last e last.0 last.1)) early)

pub within-stored : (octets : Option ℕ) (capacity limit : ℕ) (q : Query) (es after : List Entry) (e : Entry) → 0 < capacity → e.query ≡ q → after ≡ insert_within octets capacity es (not_after limit e) → IfSome (find (is_for q) after) (λ kept. kept.valid_until ≤ limit)
within-stored octets capacity limit q es after e pos for h =
    subst (λ p. IfSome (find (is_for p) after) (λ kept. kept.valid_until ≤ limit)) for
    (subst (λ l. IfSome (find (is_for e.query) l) (λ kept. kept.valid_until ≤ limit)) (sym h)
    (limited-stored octets capacity limit es (not_after limit e) pos (omega arith)))

-- an entry that is not heavy stands last
pub light-stored : (octets capacity : ℕ) (es : List Entry) (e : Entry) → 0 < capacity → is_light (Some octets) e ≡ true → insert_weighed octets capacity es e ≡ others_within octets capacity es e ++ e ∷ []
light-stored octets capacity es e pos light =
    ap₂ (λ b h. if b then es else (if h then without e.query es else (others_within octets capacity es e ++ e ∷ []))) (ne_eqb capacity 0 (λ z. omega (arith, z, pos))) (not_heavy (is_heavy octets e) light)
  where
    not_heavy : (b : Bool) → not b ≡ true → b ≡ false
    not_heavy true h = cc
    not_heavy false h = refl

pub newest-stored : (octets : Option ℕ) (capacity : ℕ) (es : List Entry) (e : Entry) → 0 < capacity → is_light octets e ≡ true → IsNewest e (insert_within octets capacity es e)
newest-stored None capacity es e pos light = (kept_beside capacity e.query es, ap (λ b. if b then es else kept_beside capacity e.query es ++ e ∷ []) (ne_eqb capacity 0 (λ z. omega (arith, z, pos))))
newest-stored (Some octets) capacity es e pos light = (others_within octets capacity es e, light-stored octets capacity es e pos light)

-- a heavy one leaves none for its question, where it weighs so much
pub heavy-stored : (octets : Option ℕ) (capacity weight : ℕ) (es : List Entry) (e : Entry) → 0 < capacity → (IsSome octets → weight ≡ entry_weight e) → option_map_or (λ most. nat_lt most (256 * weight)) octets false ≡ true
    → insert_within octets capacity es e ≡ without e.query es
heavy-stored None capacity weight es e pos is heavy = cc
heavy-stored (Some octets) capacity weight es e pos is heavy =
    ap₂ (λ b h. if b then es else (if h then without e.query es else (others_within octets capacity es e ++ e ∷ []))) (ne_eqb capacity 0 (λ z. omega (arith, z, pos)))
    (ap (λ w. nat_lt octets (256 * w)) (sym (is refl)) ∙ heavy)

pub light-told : (octets : Option ℕ) (weight : ℕ) (e : Entry) → (IsSome octets → weight ≡ entry_weight e) → option_map_or (λ most. nat_lt most (256 * weight)) octets false ≡ false → is_light octets e ≡ true
light-told None weight e is light = refl
light-told (Some octets) weight e is light = ap not (ap (λ w. nat_lt octets (256 * w)) (sym (is refl)) ∙ light)

light-limited : (octets : Option ℕ) (limit : ℕ) (e : Entry) → is_light octets e ≡ true → is_light octets (not_after limit e) ≡ true
light-limited None limit e light = refl
light-limited (Some octets) limit e light = light

pub newest-until : (octets : Option ℕ) (capacity limit : ℕ) (es after : List Entry) (e : Entry) (o : Option Entry) → Some e ≡ o → 0 < capacity → after ≡ insert_within octets capacity es (not_after limit e)
    → IfSome o (λ x. is_light octets x ≡ true → IsNewest (not_after limit x) after)
newest-until octets capacity limit es after e o is pos h =
    subst (λ r. IfSome r (λ x. is_light octets x ≡ true → IsNewest (not_after limit x) after)) is
    (λ light. subst (IsNewest (not_after limit e)) (sym h) (newest-stored octets capacity es (not_after limit e) pos (light-limited octets limit e light)))

-- where nothing is stored though the outcome is kept, there is no room and no entry
pub within-none : (c : CacheValue) (q : Query) (outcome : OutcomeValue) (now limit : ℕ) → length c.entries ≤ c.capacity → None ≡ kept_entry c q outcome now → IsSome (entry_of c.config q outcome now)
    → IfSome (find (is_for q) c.entries) (λ kept. kept.valid_until ≤ limit)
within-none c q outcome now limit short none some = by (c.capacity == 0) refl
  where
    kept : Option Entry
    kept = entry_of c.config q outcome now

    nothing : (es : List Entry) → length es ≤ 0 → IfSome (find (is_for q) es) (λ e. e.valid_until ≤ limit)
    nothing [] h = tt
    nothing (e ∷ es) h = absurd (omega (arith, h))

    by : (b : Bool) → (c.capacity == 0) ≡ b → IfSome (find (is_for q) c.entries) (λ e. e.valid_until ≤ limit)
    by true full = let zero_capacity = eqb-true c.capacity 0 full in nothing c.entries (omega (arith, short, zero_capacity))
    by false room =
        let missing : None ≡ kept = none ∙ ap (λ b. if b then None else kept) room in
        absurd (true≢false (sym some ∙ ap is_some (sym missing)))

-- the entry that an outcome becomes is current up to the last moment at the most
sum-in_time : (a b : ℕ) → saturating_sum a b ≤ last_moment
sum-in_time a b = omega arith

entry_of-in_time : (config : ConfigValue) (q : Query) (outcome : OutcomeValue) (now : ℕ) (e : Entry) → Some e ≡ entry_of config q outcome now → e.valid_until ≤ last_moment
entry_of-in_time config q (Ok m) now e h = let same : e ≡ positive_entry config q m now = cc in subst (λ (x : Entry). x.valid_until ≤ last_moment) (sym same) (sum-in_time now (positive_lifetime config q (clamped_message config m)))
entry_of-in_time config q (Err (Dns (NoRecordsFound n))) now e h = let same : e ≡ negative_entry config q n now = cc in subst (λ (x : Entry). x.valid_until ≤ last_moment) (sym same) (sum-in_time now (negative_lifetime config q n))
entry_of-in_time config q (Err (Dns (ResponseCode code))) now e h = cc
entry_of-in_time config q (Err (Message text)) now e h = cc
entry_of-in_time config q (Err Timeout) now e h = cc
entry_of-in_time config q (Err (Proto error)) now e h = cc
entry_of-in_time config q (Err NoOutcome) now e h = cc
entry_of-in_time config q (Err (Bounds error)) now e h = cc
entry_of-in_time config q (Err OutOfMemory) now e h = cc

-- so the last moment is no limit
not_after-last : (config : ConfigValue) (q : Query) (outcome : OutcomeValue) (now : ℕ) (e : Entry) → Some e ≡ entry_of config q outcome now → not_after last_moment e ≡ e
not_after-last config q outcome now e h =
    let in_time = entry_of-in_time config q outcome now e h in
    ap (λ d. record e { valid_until = d }) (omega (arith, in_time))

pub store_until-last : (c : CacheValue) (q : Query) (outcome : OutcomeValue) (now : ℕ) → store_until c q outcome now last_moment ≡ store c q outcome now
store_until-last c q outcome now = ap (λ es. record c { entries = es }) (by (entry_of c.config q outcome now) refl)
  where
    by : (o : Option Entry) → entry_of c.config q outcome now ≡ o
        → option_map_or (λ e. insert_within c.octets c.capacity c.entries (not_after last_moment e)) o c.entries ≡ option_map_or (insert_within c.octets c.capacity c.entries) o c.entries
    by None h = refl
    by (Some e) h = ap (λ x. insert_within c.octets c.capacity c.entries x) (not_after-last c.config q outcome now e (sym h))

pub newest-last : (octets : Option ℕ) (config : ConfigValue) (q : Query) (outcome : OutcomeValue) (now : ℕ) (es : List Entry)
    → IfSome (entry_of config q outcome now) (λ e. is_light octets e ≡ true → IsNewest (not_after last_moment e) es) → IfSome (entry_of config q outcome now) (λ e. is_light octets e ≡ true → IsNewest e es)
newest-last octets config q outcome now es = by (entry_of config q outcome now) refl
  where
    by : (o : Option Entry) → entry_of config q outcome now ≡ o → IfSome o (λ e. is_light octets e ≡ true → IsNewest (not_after last_moment e) es) → IfSome o (λ e. is_light octets e ≡ true → IsNewest e es)
    by None h k = tt
    by (Some e) h k = λ light. subst (λ x. IsNewest x es) (not_after-last config q outcome now e (sym h)) (k light)
