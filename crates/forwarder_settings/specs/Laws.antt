-- What holds of all settings.
use Rattle.std.specs.Prelude.{◌≡◌, ℕ, true, false, List, ◌∷◌, ◌++◌, Some}
use Rattle.std.specs.List.{AllByRecursion}
use Rattle.std.specs.Str.{bytes_eq}
use Rattle.domain_table.specs.Domains.{value_of}
use Rattle.domain_table.specs.Names.{is_short, lower_name}
use Rattle.local_answers.specs.declared.rules.DomainRule.{DomainRule}
use Rattle.forwarder_settings.specs.LocalRules.{local_rules}
use Rattle.forwarder_settings.specs.Reading.{SettingsValue}

-- none of these rules is of this domain
abbrev pub AreOfOthers : List ℕ → List (List ℕ × DomainRule) → Type 0
AreOfOthers domain rules = AllByRecursion (λ r. bytes_eq (lower_name domain) (lower_name r.0) ≡ false) rules

-- The last rule that lines say of a domain counts for it, whatever zones are served and a file blocks.
abbrev pub TheLastLineCounts : Type 0
TheLastLineCounts =
    (settings : SettingsValue) (blocked domain : List ℕ) (said : DomainRule)
    (before behind : List (List ℕ × DomainRule)) → settings.rules ≡ before ++ (domain, said) ∷ behind
    → is_short domain ≡ true → AreOfOthers domain behind
    → value_of domain (local_rules settings blocked) ≡ Some said
