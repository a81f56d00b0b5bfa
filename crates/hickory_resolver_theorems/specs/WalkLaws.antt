-- There is exactly one walk over the answers to a question.
use Rattle.std.specs.Prelude.{◌≡◌, ◌≤◌, ◌+◌, ℕ, Bool, true, false, List, [], ◌∷◌, ◌++◌, fold, length, min, Option, Some, None, unwrap_or, slice_get, if◌then◌else◌}
use Rattle.std.specs.Option.{option_map, option_map_or}
use Rattle.std.specs.List.{filter_map, cons_option}
use Rattle.std.proofs.Common.{refl, sym, ap, ap₂, ◌∙◌, subst, ⊎_elim, arith, append_assoc, length-append}
use Rattle.std.proofs.lemmas.Option.{slice_get_within}
use Rattle.std.proofs.lemmas.Bool.{cases_order}
use Rattle.std.proofs.lemmas.List.{append-nil}
use Rattle.hickory_proto_core.specs.Name.{NameValue}
use Rattle.hickory_proto_core.specs.Records.{RecordValue}
use Rattle.hickory_proto_core.specs.declared.query.Query.{Query}
use Rattle.hickory_resolver_model.specs.Bounds.{day}
use Rattle.hickory_resolver_model.specs.AliasWalk.{Walk, Counted, AliasTo, Server, counted, reached_by, CountNowhere, IsWalk, standing, walk_step, walk_from, walk_of, follows_aliases}

at_front : (front rs : List RecordValue) (r : RecordValue)
    → slice_get (front ++ r ∷ rs) (length front) ≡ Some r
at_front [] rs r = refl
at_front (f ∷ fs) rs r = at_front fs rs r

-- a record that does not count may stand before a walk
after_one : (answers : List RecordValue) (asked : NameValue) (low : ℕ) (reached : NameValue) (r : RecordValue)
    (ps : List ℕ) (walk : Walk) → slice_get answers low ≡ Some r → counted asked reached r ≡ None
    → IsWalk answers asked (low + 1) reached ps walk → IsWalk answers asked low reached ps walk
after_one answers asked low reached r [] walk here none (same, nowhere) = (same, more)
  where
    more : CountNowhere answers asked reached low (length answers)
    more k x h l at =
        ⊎_elim (λ e. let same_x : Some r ≡ Some x = sym here ∙ ap (slice_get answers) e ∙ at in
        ap (counted asked reached) (sym (ap (λ o. unwrap_or o r) same_x)) ∙ none)
        (⊎_elim (λ lt. nowhere k x (omega arith) l at) (λ gt. absurd (omega arith))) (cases_order low k)
after_one answers asked low reached r (p ∷ ps) walk here none (above, nowhere, rest) =
    (omega arith, more, rest)
  where
    more : CountNowhere answers asked reached low p
    more k x h l at =
        ⊎_elim (λ e. let same_x : Some r ≡ Some x = sym here ∙ ap (slice_get answers) e ∙ at in
        ap (counted asked reached) (sym (ap (λ o. unwrap_or o r) same_x)) ∙ none)
        (⊎_elim (λ lt. nowhere k x (omega arith) l at) (λ gt. absurd (omega arith))) (cases_order low k)

-- the walk that is computed is one
walk_from_is : (answers : List RecordValue) (asked : NameValue) (front rs : List RecordValue) (place : ℕ)
    (reached : NameValue) → answers ≡ front ++ rs → place ≡ length front
    → IsWalk answers asked place reached (walk_from place asked reached rs).places
    (walk_from place asked reached rs)
walk_from_is answers asked front [] place reached e n = (
  refl,
  λ k x h l at. absurd
      (let long : length answers ≡ length front = ap length (e ∙ append-nil front) in omega arith),
)
walk_from_is answers asked front (r ∷ rs) place reached e n =
    on (counted asked reached r) refl
    (λ next. walk_from_is answers asked (front ++ r ∷ []) rs (place + 1) next e' n')
  where
    e' : answers ≡ (front ++ r ∷ []) ++ rs
    e' = e ∙ sym (append_assoc front (r ∷ []) rs)

    n' : place + 1 ≡ length (front ++ r ∷ [])
    n' = ap (λ m. m + 1) n ∙ sym (length-append front (r ∷ []))

    here : slice_get answers place ≡ Some r
    here = ap₂ slice_get e n ∙ at_front front rs r

    with_it : Option Counted → Walk
    with_it o =
        option_map_or (λ c. walk_step place r.ttl c (walk_from (place + 1) asked (reached_by reached c) rs)) o
        (walk_from (place + 1) asked reached rs)

    on : (o : Option Counted) → counted asked reached r ≡ o
        → ((next : NameValue)
        → IsWalk answers asked (place + 1) next (walk_from (place + 1) asked next rs).places
        (walk_from (place + 1) asked next rs))
        → IsWalk answers asked place reached (with_it o).places (with_it o)
    on None none walk = after_one answers asked place reached r _ _ here none (walk reached)
    on (Some (AliasTo target)) counts walk = (
      omega arith,
      (λ k x h l at. absurd (omega arith)),
      (r, AliasTo target, walk_from (place + 1) asked target rs, here, counts, walk target, refl),
    )
    on (Some (Server target)) counts walk = (
      omega arith,
      (λ k x h l at. absurd (omega arith)),
      (r, Server target, walk_from (place + 1) asked reached rs, here, counts, walk reached, refl),
    )

-- two walks from one place and one name are the same
pub one_walk : (answers : List RecordValue) (asked : NameValue) (low : ℕ) (reached : NameValue)
    (ps qs : List ℕ) (walk other : Walk) → IsWalk answers asked low reached ps walk
    → IsWalk answers asked low reached qs other → (ps ≡ qs) × (walk ≡ other)
one_walk answers asked low reached [] [] walk other (e, n) (f, m) = (refl, e ∙ sym f)
one_walk answers asked low reached [] (q ∷ qs) walk other (e, n) (above, m, (r, c, w, at, counts, rest, made)) =
    absurd (let none = n q r above (slice_get_within answers q r at) at in
    let both : None ≡ Some c = sym none ∙ counts in cc)
one_walk answers asked low reached (p ∷ ps) [] walk other (above, n, (r, c, w, at, counts, rest, made)) (f, m) =
    absurd (let none = m p r above (slice_get_within answers p r at) at in
    let both : None ≡ Some c = sym none ∙ counts in cc)
one_walk answers asked low reached (p ∷ ps) (q ∷ qs) walk other
    (above, n, (r, c, w, at, counts, rest, made))
    (above', m, (r', c', w', at', counts', rest', made')) =
    ⊎_elim (same (λ v. one_walk answers asked (p + 1) (reached_by reached c) ps qs w w' rest v))
    (⊎_elim (λ lt. absurd (earlier p r c above at counts (m p r above lt at)))
    (λ gt. absurd (earlier q r' c' above' at' counts' (n q r' above' gt at')))) (cases_order p q)
  where
    earlier : (k : ℕ) (x : RecordValue) (d : Counted) → low ≤ k → slice_get answers k ≡ Some x
        → counted asked reached x ≡ Some d → counted asked reached x ≡ None → ⊥
    earlier k x d h at counts none = let both : None ≡ Some d = sym none ∙ counts in cc

    same : (IsWalk answers asked (p + 1) (reached_by reached c) qs w' → (ps ≡ qs) × (w ≡ w')) → p ≡ q
        → ((p ∷ ps) ≡ (q ∷ qs)) × (walk ≡ other)
    same walks e =
        let records : Some r ≡ Some r' = sym at ∙ ap (slice_get answers) e ∙ at' in
        let one : r ≡ r' = ap (λ o. unwrap_or o r) records in
        let counteds : Some c ≡ Some c' = sym counts ∙ ap (counted asked reached) one ∙ counts' in
        let alike : c ≡ c' = ap (λ o. unwrap_or o c) counteds in
        let P : ℕ → Counted → Type 0 = λ k d. IsWalk answers asked (k + 1) (reached_by reached d) qs w' in
        let moved : IsWalk answers asked (p + 1) (reached_by reached c') qs w' =
        let Q : ℕ → Type 0 = λ k. P k c' in subst Q (sym e) rest' in
        let there : IsWalk answers asked (p + 1) (reached_by reached c) qs w' =
        let Q : Counted → Type 0 = λ d. P p d in subst Q (sym alike) moved in
        let both = walks there in (
          ap₂ (λ k ks. k ∷ ks) e both.0,
          made ∙ (λ i. walk_step (e i) (one i).ttl (alike i) (both.1 i)) ∙ sym made',
        )

-- ---- the TTL of a walk

-- the TTLs of the records at these places
abbrev pub ttls_at : List RecordValue → List ℕ → List ℕ
ttls_at answers places = filter_map (λ p. option_map (λ r. r.ttl) (slice_get answers p)) places

fold_min : (a t : ℕ) (ts : List ℕ) → fold min (min a t) ts ≡ min t (fold min a ts)
fold_min a t [] = omega arith
fold_min a t (x ∷ xs) =
    let swap : min (min a t) x ≡ min (min a x) t = omega arith in
    ap (λ m. fold min m xs) swap ∙ fold_min (min a x) t xs

ttl_of_walk : (answers : List RecordValue) (asked : NameValue) (low : ℕ) (reached : NameValue) (ps : List ℕ)
    (walk : Walk) → IsWalk answers asked low reached ps walk → walk.ttl ≡ fold min day (ttls_at answers ps)
ttl_of_walk answers asked low reached [] walk (same, nowhere) = ap (λ w. w.ttl) same
ttl_of_walk answers asked low reached (p ∷ ps) walk (above, nowhere, (r, c, w, at, counts, rest, made)) =
    ap (λ v. v.ttl) made ∙ step c
    ∙ ap (min r.ttl) (ttl_of_walk answers asked (p + 1) (reached_by reached c) ps w rest)
    ∙ sym (fold_min day r.ttl (ttls_at answers ps))
    ∙ sym (ap (λ o. fold min day (cons_option (option_map (λ x. x.ttl) o) (ttls_at answers ps))) at)
  where
    step : (d : Counted) → (walk_step p r.ttl d w).ttl ≡ min r.ttl w.ttl
    step (AliasTo target) = refl
    step (Server target) = refl

-- ---- the walk of a question

-- these are the places of the walk of a question, and the walk: where the question is led on, a walk from the
-- asked name; for every type and for CNAMEs no place, and a walk that stands at the asked name
abbrev pub IsWalkWhere : Bool → Query → List RecordValue → List ℕ → Walk → Type 0
IsWalkWhere true q answers places walk = IsWalk answers q.name 0 q.name places walk
IsWalkWhere false q answers places walk = (places ≡ []) × (walk ≡ standing q.name)

abbrev pub IsWalkOf : Query → List RecordValue → List ℕ → Walk → Type 0
IsWalkOf q answers places walk = IsWalkWhere (follows_aliases q) q answers places walk

-- the walk of a question is one over its answers, at its places; each walk over them is that one, at those
-- places; and its TTL is the least of a day and the TTLs at its places
pub record IsOneWalk (q : Query) (answers : List RecordValue) : Type 0 where
  pub is : IsWalkOf q answers (walk_of q answers).places (walk_of q answers)
  pub only : (places : List ℕ) (walk : Walk) → IsWalkOf q answers places walk
      → (places ≡ (walk_of q answers).places) × (walk ≡ walk_of q answers)
  pub ttl_is : (walk_of q answers).ttl ≡ fold min day (ttls_at answers (walk_of q answers).places)

pub one_walk_of : (q : Query) (answers : List RecordValue) → IsOneWalk q answers
one_walk_of q answers = record {
  is = is (follows_aliases q);
  only = only (follows_aliases q);
  ttl_is = ttl_is (follows_aliases q);
}
  where
    walk_where : Bool → Walk
    walk_where b = if b then walk_from 0 q.name q.name answers else standing q.name

    is : (b : Bool) → IsWalkWhere b q answers (walk_where b).places (walk_where b)
    is true = walk_from_is answers q.name [] answers 0 q.name refl refl
    is false = (refl, refl)

    only : (b : Bool) (places : List ℕ) (walk : Walk) → IsWalkWhere b q answers places walk
        → (places ≡ (walk_where b).places) × (walk ≡ walk_where b)
    only true places walk h =
        one_walk answers q.name 0 q.name places (walk_where true).places walk (walk_where true) h (is true)
    only false places walk h = h

    ttl_is : (b : Bool) → (walk_where b).ttl ≡ fold min day (ttls_at answers (walk_where b).places)
    ttl_is true =
        ttl_of_walk answers q.name 0 q.name (walk_where true).places (walk_where true) (is true)
    ttl_is false = refl
