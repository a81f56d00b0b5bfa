-- What is kept of receptions.
use Rattle.std.proofs.Common.{◌≡◌, ◌≤◌, ℕ, Bool, true, false, not, ◌&&◌, ◌||◌, cond, nat_le, List, [], ◌∷◌, ◌++◌, filter, Option, None, Some, unwrap_or, refl, ap, sym, ◌∙◌, inl, inr}
use Rattle.std.specs.List.{list_any}
use Rattle.std.proofs.lemmas.Bool.{and_from, and_parts, and_left, cases_Bool, cond-true, cond-false, le-leb, or_cases, or_left, or_right, not_from_false, false_from_ne_true}
use Rattle.std.proofs.lemmas.Map.Entries.{option_filter}
use Rattle.hickory_proto_core.specs.Records.{RecordValue}
use Rattle.trace_judge.specs.Index.{Adds, is_lasting, is_outdone, is_reaching, reaches, seen_at, with_reception}
use Rattle.trace_judge.specs.Receptions.{deadline, is_same_record}
use Rattle.trace_judge.specs.RecordKeys.{KeyValue, key_eq, record_key}
use Rattle.trace_judge.specs.declared.receptions.Reception.{Reception}
use Rattle.trace_judge.proofs.Keys.{same_equiv, same_key, seen_same}
use Rattle.trace_judge.proofs.Tests.{any-filter, any-push, any_weaker, found_in, le_trans, same_tests}

-- what outdoes a reception reaches where it does
pub outdone_reaches : (told : RecordValue) (until ttl : ℕ) (by r : Reception) → is_outdone by r ≡ true
    → is_reaching told until ttl r ≡ true → is_reaching told until ttl by ≡ true
outdone_reaches told until ttl by r o h =
    let better = and_parts (is_same_record r.found by.found) (nat_le (deadline r) (deadline by) && nat_le r.found.ttl by.found.ttl) o in
    let later = and_parts (nat_le (deadline r) (deadline by)) (nat_le r.found.ttl by.found.ttl) better.1 in
    let hit = and_parts (is_same_record r.found told) (nat_le until (deadline r) && nat_le ttl r.found.ttl) h in
    let far = and_parts (nat_le until (deadline r)) (nat_le ttl r.found.ttl) hit.1 in
    and_from (is_same_record by.found told) (nat_le until (deadline by) && nat_le ttl by.found.ttl)
    (sym (same_equiv.congr r.found by.found told better.0) ∙ hit.0)
    (and_from (nat_le until (deadline by)) (nat_le ttl by.found.ttl)
    (le_trans until (deadline r) (deadline by) far.0 later.0) (le_trans ttl r.found.ttl by.found.ttl far.1 later.1))

-- with one more reception, where what outdoes one that passes a test passes it too
pub any-with : (hit : Reception → Bool)
    → ((by r : Reception) → is_outdone by r ≡ true → hit r ≡ true → hit by ≡ true)
    → (new : Reception) (rs : List Reception) → list_any hit (with_reception new rs) ≡ (list_any hit rs || hit new)
any-with hit rises new rs =
    let better = list_any (λ r. is_outdone r new) rs in
    let kept = filter (λ r. not (is_outdone new r)) rs in
    elim (cases_Bool better) [
      | inl e ↦ ap (list_any hit) (cond-true better rs (kept ++ new ∷ []) e)
          ∙ same_tests (list_any hit rs) (list_any hit rs || hit new)
          (λ h. or_left (list_any hit rs) (hit new) h)
          (λ h. elim (or_cases (list_any hit rs) (hit new) h) [
            | inl a ↦ a
            | inr b ↦ (let r = found_in (λ r. is_outdone r new) rs e in r.2 hit (rises r.0 new r.1 b))
          ])
      | inr e ↦ ap (list_any hit) (cond-false better rs (kept ++ new ∷ []) e)
          ∙ any-push hit kept new
          ∙ same_tests (list_any hit kept || hit new) (list_any hit rs || hit new)
          (λ h. elim (or_cases (list_any hit kept) (hit new) h) [
            | inl a ↦ or_left (list_any hit rs) (hit new) (any_weaker (λ r. not (is_outdone new r) && hit r) hit rs
                (λ r k. (and_parts (not (is_outdone new r)) (hit r) k).1) (sym (any-filter (λ r. not (is_outdone new r)) hit rs) ∙ a))
            | inr b ↦ or_right (list_any hit rs) (hit new) b
          ])
          (λ h. elim (or_cases (list_any hit rs) (hit new) h) [
            | inl a ↦ (let r = found_in hit rs a in elim (cases_Bool (is_outdone new r.0)) [
              | inl o ↦ or_right (list_any hit kept) (hit new) (rises new r.0 o r.1)
              | inr o ↦ or_left (list_any hit kept) (hit new) (any-filter (λ x. not (is_outdone new x)) hit rs
                  ∙ r.2 (λ x. not (is_outdone new x) && hit x)
                  (and_from (not (is_outdone new r.0)) (hit r.0) (not_from_false (is_outdone new r.0) o) r.1))
            ])
            | inr b ↦ or_right (list_any hit kept) (hit new) b
          ])
    ]

pub reaches-with : (told : RecordValue) (until ttl : ℕ) (new : Reception) (rs : List Reception)
    → reaches told until ttl (with_reception new rs) ≡ (reaches told until ttl rs || is_reaching told until ttl new)
reaches-with told until ttl new rs = any-with (is_reaching told until ttl) (outdone_reaches told until ttl) new rs

-- a reception was put to its key, and other keys keep what they had
pub adds_from : (new : Reception) (before after : List (KeyValue × List Reception))
    → ((q : KeyValue) → seen_at after q
    ≡ cond (key_eq (record_key new.found) q) (with_reception new (seen_at before (record_key new.found))) (seen_at before q))
    → Adds new before after
adds_from new before after put = λ told until ttl.
    let key = record_key new.found in let q = record_key told in
    let at = reaches told until ttl in
    elim (cases_Bool (key_eq key q)) [
      | inl e ↦ ap at (put q ∙ cond-true (key_eq key q) (with_reception new (seen_at before key)) (seen_at before q) e)
          ∙ reaches-with told until ttl new (seen_at before key)
          ∙ ap (λ rs. at rs || is_reaching told until ttl new) (seen_same key q e before)
      | inr e ↦ ap at (put q ∙ cond-false (key_eq key q) (with_reception new (seen_at before key)) (seen_at before q) e)
          ∙ sym (or_other (at (seen_at before q)) (is_reaching told until ttl new) (and_left (is_same_record new.found told)
          (nat_le until (deadline new) && nat_le ttl new.found.ttl) (false_from_ne_true (is_same_record new.found told)
          (λ s. let no : true ≡ false = sym (same_key new.found told s) ∙ e in cc))))
    ] where
      or_other : (a b : Bool) → b ≡ false → (a || b) ≡ a
      or_other true b e = refl
      or_other false b e = e

-- where all ran out before a moment, none reaches it
pub kept_reaches : (told : RecordValue) (moment until ttl : ℕ) (o : Option (List Reception)) → moment ≤ until
    → reaches told until ttl (unwrap_or (option_filter (is_lasting moment) o) []) ≡ reaches told until ttl (unwrap_or o [])
kept_reaches told moment until ttl None below = refl
kept_reaches told moment until ttl (Some rs) below = elim (cases_Bool (is_lasting moment rs)) [
  | inl e ↦ ap (λ o. reaches told until ttl (unwrap_or o [])) (cond-true (is_lasting moment rs) (Some rs) None e)
  | inr e ↦ ap (λ o. reaches told until ttl (unwrap_or o [])) (cond-false (is_lasting moment rs) (Some rs) None e)
      ∙ sym (false_from_ne_true (reaches told until ttl rs) (λ h.
      let no : true ≡ false = sym (any_weaker (is_reaching told until ttl) (λ r. nat_le moment (deadline r)) rs
      (λ r k. let hit = and_parts (is_same_record r.found told) (nat_le until (deadline r) && nat_le ttl r.found.ttl) k in
      let far = and_parts (nat_le until (deadline r)) (nat_le ttl r.found.ttl) hit.1 in
      le_trans moment until (deadline r) (le-leb moment until below) far.0) h) ∙ e in cc))
]

-- one value was taken out, and another put in
pub put_back : {X : Type 0} (b : Bool) (was without with : Option X) (w d : X) → without ≡ cond b None was
    → with ≡ cond b (Some w) without → unwrap_or with d ≡ cond b w (unwrap_or was d)
put_back true was without with w d out put = ap (λ o. unwrap_or o d) put
put_back false was without with w d out put = ap (λ o. unwrap_or o d) (put ∙ out)
