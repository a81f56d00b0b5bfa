-- The walk along aliases, answer by answer.
use Rattle.std.proofs.Common.{◌≡◌, ℕ, ◌+◌, List, [], ◌∷◌, ◌++◌, length, min, Option, None, Some, refl, sym, ap, ◌∙◌, subst, arith}
use Rattle.std.specs.Option.{option_map_or}
use Rattle.hickory_proto_core.specs.Name.{NameValue}
use Rattle.hickory_proto_core.specs.Records.{RecordValue}
use Rattle.hickory_resolver_model.specs.AliasWalk.{Walk, Counted, AliasTo, Server, counted, reached_by, standing, walk_step, walk_from}
use Rattle.hickory_resolver_client.specs.Walks.{ShowsAs, ShowsWith, ShowsNext, with_counted, with_next}

-- ---- a walk over one answer more

-- what is added at the end may be added first, after the first record
step_ends : (place n t : ℕ) (asked : NameValue) (r : RecordValue) (c : Counted) (w : Walk) → walk_step place t c (with_next n asked r w) ≡ with_next n asked r (walk_step place t c w)
step_ends place n t asked r (AliasTo target) w = on (counted asked w.last r)
  where
    first : Walk → Walk
    first v = walk_step place t (AliasTo target) v

    on : (o : Option Counted) → first (option_map_or (λ c. with_counted n r.ttl c w) o w) ≡ option_map_or (λ c. with_counted n r.ttl c (first w)) o (first w)
    on None = refl
    on (Some (AliasTo next)) = ap (λ m. record { places = place ∷ (w.places ++ n ∷ []); last = next; targets = w.targets; alias_ttls = t ∷ (w.alias_ttls ++ r.ttl ∷ []); ttl = m }) (omega arith)
    on (Some (Server next)) = ap (λ m. record { places = place ∷ (w.places ++ n ∷ []); last = w.last; targets = w.targets ++ next ∷ []; alias_ttls = t ∷ w.alias_ttls; ttl = m }) (omega arith)
step_ends place n t asked r (Server target) w = on (counted asked w.last r)
  where
    first : Walk → Walk
    first v = walk_step place t (Server target) v

    on : (o : Option Counted) → first (option_map_or (λ c. with_counted n r.ttl c w) o w) ≡ option_map_or (λ c. with_counted n r.ttl c (first w)) o (first w)
    on None = refl
    on (Some (AliasTo next)) = ap (λ m. record { places = place ∷ (w.places ++ n ∷ []); last = next; targets = target ∷ w.targets; alias_ttls = w.alias_ttls ++ r.ttl ∷ []; ttl = m }) (omega arith)
    on (Some (Server next)) = ap (λ m. record { places = place ∷ (w.places ++ n ∷ []); last = w.last; targets = target ∷ (w.targets ++ next ∷ []); alias_ttls = w.alias_ttls; ttl = m }) (omega arith)

pub walk_push : (asked : NameValue) (place n : ℕ) (reached : NameValue) (rs : List RecordValue) (r : RecordValue) → n ≡ place + length rs → walk_from place asked reached (rs ++ r ∷ []) ≡ with_next n asked r (walk_from place asked reached rs)
walk_push asked place n reached [] r e = on (counted asked reached r)
  where
    same : place ≡ n
    same = omega arith

    on : (o : Option Counted) → option_map_or (λ c. walk_step place r.ttl c (standing (reached_by reached c))) o (standing reached) ≡ option_map_or (λ c. with_counted n r.ttl c (standing reached)) o (standing reached)
    on None = refl
    on (Some (AliasTo next)) = let least : min r.ttl 86400 ≡ min 86400 r.ttl = omega arith in λ i. record { places = same i ∷ []; last = next; targets = []; alias_ttls = r.ttl ∷ []; ttl = least i }
    on (Some (Server next)) = let least : min r.ttl 86400 ≡ min 86400 r.ttl = omega arith in λ i. record { places = same i ∷ []; last = reached; targets = next ∷ []; alias_ttls = []; ttl = least i }
walk_push asked place n reached (s ∷ ss) r e = on (counted asked reached s) (λ next. walk_push asked (place + 1) n next ss r later)
  where
    later : n ≡ (place + 1) + length ss
    later = omega arith

    on : (o : Option Counted) → ((next : NameValue) → walk_from (place + 1) asked next (ss ++ r ∷ []) ≡ with_next n asked r (walk_from (place + 1) asked next ss))
        → option_map_or (λ c. walk_step place s.ttl c (walk_from (place + 1) asked (reached_by reached c) (ss ++ r ∷ []))) o (walk_from (place + 1) asked reached (ss ++ r ∷ []))
        ≡ with_next n asked r (option_map_or (λ c. walk_step place s.ttl c (walk_from (place + 1) asked (reached_by reached c) ss)) o (walk_from (place + 1) asked reached ss))
    on None push = push reached
    on (Some c) push =
        ap (walk_step place s.ttl c) (push (reached_by reached c))
        ∙ step_ends place n s.ttl asked r c (walk_from (place + 1) asked (reached_by reached c) ss)

-- ---- the next answer

-- what it counts as where the shown walk stands, it counts as where the walk does
counts_there : (asked : NameValue) (r : RecordValue) (w before : Walk) (o : Option Counted) → ShowsAs w before → counted asked before.last r ≡ o → counted asked w.last r ≡ o
counts_there asked r w before o shows e = ap (λ n. counted asked n r) (sym shows.last_is) ∙ e

pub next_counts : (asked : NameValue) (r : RecordValue) (before after : Walk) (c : Counted) → counted asked before.last r ≡ Some c → ShowsWith c r.ttl before after → ShowsNext asked r before after
next_counts asked r before after c e with_it = λ w place shows.
    let P : Option Counted → Type 0 = λ o. ShowsAs (option_map_or (λ d. with_counted place r.ttl d w) o w) after in
    subst P (sym (counts_there asked r w before (Some c) shows e)) (with_it w place shows)

pub next_counts_not : (asked : NameValue) (r : RecordValue) (before : Walk) → counted asked before.last r ≡ None → ShowsNext asked r before before
next_counts_not asked r before e = λ w place shows.
    let P : Option Counted → Type 0 = λ o. ShowsAs (option_map_or (λ d. with_counted place r.ttl d w) o w) before in
    subst P (sym (counts_there asked r w before None shows e)) shows

-- the next answer of some answers
pub shows_push : (asked : NameValue) (rs more : List RecordValue) (r : RecordValue) (before after : Walk) → more ≡ rs ++ r ∷ [] → ShowsAs (walk_from 0 asked asked rs) before → ShowsNext asked r before after → ShowsAs (walk_from 0 asked asked more) after
shows_push asked rs more r before after e shows next =
    let P : Walk → Type 0 = λ w. ShowsAs w after in
    subst P (sym (ap (walk_from 0 asked asked) e ∙ walk_push asked 0 (0 + length rs) asked rs r refl)) (next (walk_from 0 asked asked rs) (0 + length rs) shows)
