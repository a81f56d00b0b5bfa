-- How many times each question is open.
use Rattle.std.proofs.Common.{◌≡◌, ◌+◌, ◌-◌, ◌||◌, ℕ, Bool, true, false, cond, nat_lt, List, [], ◌∷◌, ◌++◌, Option, None, Some, unwrap_or, refl, ap, sym, ◌∙◌, inl, inr, arith}
use Rattle.std.specs.Map.{lookup}
use Rattle.std.proofs.lemmas.Bool.{cases_Bool, cond-true, cond-false, lt-ltb}
use Rattle.hickory_proto_core.specs.Query.{query_eq, query_equiv}
use Rattle.hickory_proto_core.specs.declared.query.Query.{Query}
use Rattle.trace_judge.specs.Index.{Counts, count_at, once, times}
use Rattle.trace_judge.specs.Judging.{CountsOpen}
use Rattle.trace_judge.specs.Trace.{is_asked, without}

-- one more at the end
count-push : (q : Query) (asked : List Query) (new : Query)
    → times q (asked ++ new ∷ []) ≡ times q asked + once (query_eq q new)
count-push q [] new = omega arith
count-push q (a ∷ asked) new = let more = count-push q asked new in omega arith

-- it is open where it is counted
pub open_where_counted : (q : Query) (asked : List Query) → is_asked q asked ≡ nat_lt 0 (times q asked)
open_where_counted q [] = refl
open_where_counted q (a ∷ asked) = elim (cases_Bool (query_eq a q)) [
  | inl e ↦ ap (λ b. b || is_asked q asked) e
      ∙ sym (lt-ltb 0 (once (query_eq q a) + times q asked)
      (let here : once (query_eq q a) ≡ 1 = ap once (query_equiv.symm q a ∙ e) in omega arith))
  | inr e ↦ ap (λ b. b || is_asked q asked) e ∙ open_where_counted q asked
      ∙ ap (nat_lt 0) (let none : once (query_eq q a) ≡ 0 = ap once (query_equiv.symm q a ∙ e) in omega arith)
]

-- equal questions are counted alike
count-same : (p q : Query) (asked : List Query) → query_eq p q ≡ true → times p asked ≡ times q asked
count-same p q [] e = refl
count-same p q (a ∷ asked) e =
    let here : once (query_eq p a) ≡ once (query_eq q a) = ap once (query_equiv.congr p q a e) in
    let more = count-same p q asked e in omega arith

-- a question that is answered is counted once less
count-without : (q : Query) (asked : List Query) → times q (without q asked) ≡ times q asked - 1
count-without q [] = refl
count-without q (a ∷ asked) = elim (cases_Bool (query_eq a q)) [
  | inl e ↦ ap (times q) (cond-true (query_eq a q) asked (a ∷ without q asked) e)
      ∙ (let here : once (query_eq q a) ≡ 1 = ap once (query_equiv.symm q a ∙ e) in omega arith)
  | inr e ↦ ap (times q) (cond-false (query_eq a q) asked (a ∷ without q asked) e)
      ∙ (let none : once (query_eq q a) ≡ 0 = ap once (query_equiv.symm q a ∙ e) in
      let more = count-without q asked in omega arith)
]

-- and every other as often as before
count-others : (q p : Query) (asked : List Query) → query_eq q p ≡ false
    → times p (without q asked) ≡ times p asked
count-others q p [] other = refl
count-others q p (a ∷ asked) other = elim (cases_Bool (query_eq a q)) [
  | inl e ↦ ap (times p) (cond-true (query_eq a q) asked (a ∷ without q asked) e)
      ∙ (let none : once (query_eq p a) ≡ 0 = ap once (query_equiv.symm p a ∙ query_equiv.congr a q p e ∙ other) in omega arith)
  | inr e ↦ ap (times p) (cond-false (query_eq a q) asked (a ∷ without q asked) e)
      ∙ (let more = count-others q p asked other in omega arith)
]

pub counts-asked : (q : Query) (before after : List (Query × ℕ)) (asked : List Query)
    → CountsOpen before asked → Counts q (count_at before q + 1) before after → CountsOpen after (asked ++ q ∷ [])
counts-asked q before after asked counts put = λ p. elim (cases_Bool (query_eq q p)) [
  | inl e ↦ put p ∙ cond-true (query_eq q p) (count_at before q + 1) (count_at before p) e
      ∙ (let here : once (query_eq p q) ≡ 1 = ap once (query_equiv.symm p q ∙ e) in
      let same = count-same q p asked e in let was = counts q in let more = count-push p asked q in omega arith)
  | inr e ↦ put p ∙ cond-false (query_eq q p) (count_at before q + 1) (count_at before p) e
      ∙ (let none : once (query_eq p q) ≡ 0 = ap once (query_equiv.symm p q ∙ e) in
      let was = counts p in let more = count-push p asked q in omega arith)
]

pub counts-answered : (q : Query) (before after : List (Query × ℕ)) (asked : List Query)
    → CountsOpen before asked → Counts q (count_at before q - 1) before after → CountsOpen after (without q asked)
counts-answered q before after asked counts put = λ p. elim (cases_Bool (query_eq q p)) [
  | inl e ↦ put p ∙ cond-true (query_eq q p) (count_at before q - 1) (count_at before p) e
      ∙ ap (λ n. n - 1) (counts q) ∙ sym (count-without q asked) ∙ count-same q p (without q asked) e
  | inr e ↦ put p ∙ cond-false (query_eq q p) (count_at before q - 1) (count_at before p) e
      ∙ counts p ∙ sym (count-others q p asked e)
]

unwrap-cond : {X : Type 0} (b : Bool) (x d : X) (o : Option X) → unwrap_or (cond b (Some x) o) d ≡ cond b x (unwrap_or o d)
unwrap-cond true x d o = refl
unwrap-cond false x d o = refl

unwrap-none : (b : Bool) (n : ℕ) (o : Option ℕ) → n ≡ 0 → unwrap_or (cond b None o) 0 ≡ cond b n (unwrap_or o 0)
unwrap-none true n o e = sym e
unwrap-none false n o e = refl

-- a count was put in
pub counts_some : (q : Query) (count : ℕ) (before after : List (Query × ℕ))
    → ((p : Query) → lookup (query_eq p) after ≡ cond (query_eq q p) (Some count) (lookup (query_eq p) before))
    → Counts q count before after
counts_some q count before after put = λ p.
    ap (λ o. unwrap_or o 0) (put p) ∙ unwrap-cond (query_eq q p) count 0 (lookup (query_eq p) before)

-- a count was taken out
pub counts_none : (q : Query) (count : ℕ) (before after : List (Query × ℕ)) → count ≡ 0
    → ((p : Query) → lookup (query_eq p) after ≡ cond (query_eq q p) None (lookup (query_eq p) before))
    → Counts q count before after
counts_none q count before after none put = λ p.
    ap (λ o. unwrap_or o 0) (put p) ∙ unwrap-none (query_eq q p) count (lookup (query_eq p) before) none
