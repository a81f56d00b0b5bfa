-- The latest moment of each question.
use Rattle.std.proofs.Common.{◌≡◌, ◌≤◌, ℕ, Bool, true, false, ◌&&◌, ◌||◌, cond, nat_le, List, Option, None, Some, refl, ap, sym, ◌∙◌, inl, inr}
use Rattle.std.proofs.lemmas.Bool.{cases_Bool, cond-true, cond-false, le-leb, false_from_ne_true}
use Rattle.std.proofs.lemmas.Map.Entries.{option_filter}
use Rattle.hickory_proto_core.specs.Query.{query_eq, query_equiv}
use Rattle.hickory_proto_core.specs.declared.query.Query.{Query}
use Rattle.trace_judge.specs.Index.{Notes, is_since, latest_at, latest_of, later}
use Rattle.trace_judge.proofs.Keys.{latest_same}
use Rattle.trace_judge.proofs.Tests.{le_max, le_trans}

pub since_later : (since moment : ℕ) (o : Option ℕ) → is_since since (Some (later moment o)) ≡ (is_since since o || nat_le since moment)
since_later since moment None = refl
since_later since moment (Some other) = le_max since other moment

pub since_latest : (since : ℕ) (a b : Option ℕ) → is_since since (latest_of a b) ≡ (is_since since a || is_since since b)
since_latest since None b = refl
since_latest since (Some moment) b = since_later since moment b ∙ turned (is_since since b) (nat_le since moment) where
  turned : (x y : Bool) → (x || y) ≡ (y || x)
  turned true true = refl
  turned true false = refl
  turned false true = refl
  turned false false = refl

-- a moment was put to a question, and other questions keep what they had
pub notes_from : (q : Query) (moment : ℕ) (before after : List (Query × ℕ))
    → ((p : Query) → latest_at after p ≡ cond (query_eq q p) (Some (later moment (latest_at before q))) (latest_at before p))
    → Notes q moment before after
notes_from q moment before after put = λ p since. elim (cases_Bool (query_eq q p)) [
  | inl e ↦ ap (is_since since) (put p ∙ cond-true (query_eq q p) (Some (later moment (latest_at before q))) (latest_at before p) e)
      ∙ since_later since moment (latest_at before q)
      ∙ ap (λ o. is_since since o || nat_le since moment) (latest_same q p e before)
      ∙ ap (λ b. is_since since (latest_at before p) || (b && nat_le since moment)) (sym e ∙ query_equiv.symm q p)
  | inr e ↦ ap (is_since since) (put p ∙ cond-false (query_eq q p) (Some (later moment (latest_at before q))) (latest_at before p) e)
      ∙ or_none (is_since since (latest_at before p))
      ∙ ap (λ b. is_since since (latest_at before p) || (b && nat_le since moment)) (sym e ∙ query_equiv.symm q p)
] where
  or_none : (b : Bool) → b ≡ (b || false)
  or_none true = refl
  or_none false = refl

-- what is before a moment is not after it
pub kept_since : (moment since : ℕ) (o : Option ℕ) → moment ≤ since → is_since since (option_filter (nat_le moment) o) ≡ is_since since o
kept_since moment since None below = refl
kept_since moment since (Some other) below = elim (cases_Bool (nat_le moment other)) [
  | inl e ↦ ap (is_since since) (cond-true (nat_le moment other) (Some other) None e)
  | inr e ↦ ap (is_since since) (cond-false (nat_le moment other) (Some other) None e)
      ∙ sym (false_from_ne_true (nat_le since other) (λ h.
      let no : true ≡ false = sym (le_trans moment since other (le-leb moment since below) h) ∙ e in cc))
]
