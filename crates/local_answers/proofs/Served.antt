-- Zones that are served, one after another.
use Rattle.std.proofs.Common.{◌≡◌, ℕ, ◌+◌, ◌<◌, List, [], length, map, take, get_or, ap, ◌∙◌, arith, Bor}
use Rattle.std.proofs.lemmas.List.{get_or-map, length-map}
use Rattle.std.proofs.lemmas.List.Sums.{fold_more}
use Rattle.domain_table.specs.Domains.{inserted}
use Rattle.local_answers.specs.declared.rules.DomainRule.{DomainRule}
use Rattle.local_answers.specs.declared.rules.DomainRule.TheVariants as rule
use Rattle.local_answers.specs.Zones.{with_served}

abbrev pub octets_of : List (Bor (List ℕ)) → List (List ℕ)
octets_of zones = map (λ zone. zone.now) zones

pub served-more : (rules : List (List ℕ × DomainRule)) (zones : List (Bor (List ℕ))) (i : ℕ) (d : Bor (List ℕ))
    → i < length zones
    → with_served (take (i + 1) (octets_of zones)) rules
    ≡ inserted (get_or zones i d).now rule.Serve (with_served (take i (octets_of zones)) rules)
served-more rules zones i d within =
    let long : length (octets_of zones) ≡ length zones = length-map zones (λ z. z.now) in
    fold_more (λ served z. inserted z rule.Serve served) rules (octets_of zones) i [] (omega arith)
    ∙ ap (λ (z : List ℕ). inserted z rule.Serve (with_served (take i (octets_of zones)) rules))
    (get_or-map (λ z. z.now) zones i d [] within)
