-- What is not kept is looked up.
use Rattle.std.proofs.Common.{◌≡◌, ◌∙◌, ℕ, Bool, true, false, List, sym, subst, refl}
use Rattle.std.specs.Prelude.{IfOk, MatchOption, None, Option, Result, Some}
use Rattle.client_requests.specs.Keys.{key_of}
use Rattle.client_requests.specs.Requests.{RequestValue}
use Rattle.yimarotu_forwarder.specs.Forwarders.{ForwarderValue}
use Rattle.client_limits.specs.Counts.{admits}
use Rattle.yimarotu_forwarder.specs.LookingUp.{JoinsOr, JoinsOrTold}
use Rattle.yimarotu_forwarder.specs.Queries.{AnswersAsked, Misses, hit, with_hit}
use Rattle.yimarotu_forwarder.specs.declared.answered.Outcome.{Outcome}

never : false ≡ true → ⊥
never e = cc

pub missed : {E : Type 0} (r : RequestValue) (before mid after : ForwarderValue) (told : Bool) (result : Result Outcome E)
    → MatchOption (hit r before) ((told ≡ false) × (mid ≡ before))
    (λ octets. (told ≡ true) × (mid ≡ record (with_hit (key_of r) before) { reply = octets }))
    → told ≡ false → IfOk result (λ answered. Misses r mid answered after)
    → IfOk result (λ answered. AnswersAsked r before answered after)
missed {E} r before mid after told result kept not_told misses = by (hit r before) refl kept
  where
    by : (o : Option (List ℕ)) → hit r before ≡ o
        → MatchOption o ((told ≡ false) × (mid ≡ before))
        (λ octets. (told ≡ true) × (mid ≡ record (with_hit (key_of r) before) { reply = octets }))
        → IfOk result (λ answered. AnswersAsked r before answered after)
    by None is k =
        rw is (subst (λ (s : ForwarderValue). IfOk result (λ (answered : Outcome). Misses r s answered after)) k.1 misses)
    by (Some octets) is k = absurd (never (sym not_told ∙ k.0))

-- who is not told past its end waits
pub joined : {E : Type 0} (o : Option (List ℕ)) (waiting : ℕ) (r : RequestValue) (before mid after : ForwarderValue)
    (told : Bool) (result : Result Outcome E)
    → MatchOption o ((told ≡ false) × (mid ≡ before)) (λ octets. (told ≡ true) × (mid ≡ record before { reply = octets }))
    → told ≡ false
    → IfOk result (λ answered. JoinsOr (admits mid.options.limits r.client.address waiting mid.counts) r mid answered after)
    → IfOk result (λ answered. JoinsOrTold o waiting r before answered after)
joined None waiting r before mid after told result kept not_told joins =
    subst (λ (s : ForwarderValue). IfOk result (λ (answered : Outcome).
    JoinsOr (admits s.options.limits r.client.address waiting s.counts) r s answered after)) kept.1 joins
joined (Some octets) waiting r before mid after told result kept not_told joins = absurd (never (sym not_told ∙ kept.0))
