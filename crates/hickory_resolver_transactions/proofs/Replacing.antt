-- A server is put in the place of the first with its place.
use Rattle.std.proofs.Common.{◌≡◌, ℕ, zero, suc, ◌<◌, Bool, true, cond, eqb, List, [], ◌∷◌, ◌++◌, length, get_or, take, drop, refl, ap, sym, ◌∙◌, arith, drop-cons}
use Rattle.std.proofs.Math.ListN.{set}
use Rattle.std.proofs.lemmas.Bool.Decides.{nat_tests}
use Rattle.hickory_resolver_transactions.specs.Transaction.{replaced}
use Rattle.hickory_resolver_transactions.specs.declared.candidate.Candidate.{Candidate}

set-split : (cs : List Candidate) (i : ℕ) (y : Candidate) → i < length cs → set cs i y ≡ take i cs ++ (y ∷ drop (suc i) cs)
set-split [] i y h = absurd (omega (arith, h))
set-split (c ∷ cs) zero y h = refl
set-split (c ∷ cs) (suc i) y h = ap (λ (l : List Candidate). c ∷ l) (set-split cs i y (omega (arith, h)))

pub replaced_there : (new : Candidate) (cs first : List Candidate) (i : ℕ) (d : Candidate) → i < length cs
    → (get_or cs i d).place ≡ new.place
    → take i cs ++ replaced new (drop i cs) ≡ replaced new first → set cs i new ≡ replaced new first
replaced_there new cs first i d h e so_far =
    let rest = drop (suc i) cs in
    let here = get_or cs i d in
    let same : eqb here.place new.place ≡ true = grind (arith, nat_tests) in
    set-split cs i new h
    ∙ ap (λ (l : List Candidate). take i cs ++ l)
    (sym (ap (λ (l : List Candidate). replaced new l) (drop-cons cs i d h) ∙ ap (λ (b : Bool). cond b (new ∷ rest) (here ∷ replaced new rest)) same))
    ∙ so_far
