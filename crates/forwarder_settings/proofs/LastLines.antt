-- The last rule of a domain.
use Rattle.std.proofs.Common.{◌≡◌, ◌∙◌, ℕ, Bool, true, false, cond, List, [], ◌∷◌, ◌++◌, refl, ap}
use Rattle.std.specs.Prelude.{Some}
use Rattle.std.specs.Cmp.Lexicographic.{bytes_decides}
use Rattle.std.specs.Str.{bytes_eq}
use Rattle.indexmap.specs.IndexMap.{insert_entry}
use Rattle.domain_table.proofs.OneValue.{keeps_one_value}
use Rattle.domain_table.specs.Domains.{inserted, value_of}
use Rattle.domain_table.specs.Names.{is_short, lower_name}
use Rattle.local_answers.specs.declared.rules.DomainRule.{DomainRule}
use Rattle.forwarder_settings.specs.Blocked.{blocked_domains, with_blocked}
use Rattle.forwarder_settings.specs.Laws.{AreOfOthers, TheLastLineCounts}
use Rattle.forwarder_settings.specs.LocalRules.{served_rules, with_rules}

abbrev Rules : Type 0
Rules = List (List ℕ × DomainRule)

rules_append : (xs ys es : Rules) → with_rules (xs ++ ys) es ≡ with_rules ys (with_rules xs es)
rules_append [] ys es = refl
rules_append (x ∷ xs) ys es = rules_append xs ys (inserted x.0 x.1 es)

said_last : (domain : List ℕ) (said : DomainRule) (es : Rules) → is_short domain ≡ true
    → value_of domain (inserted domain said es) ≡ Some said
said_last domain said es short =
    keeps_one_value DomainRule domain domain said es short
    ∙ ap (λ (b : Bool). cond b (Some said) (value_of domain es))
    ((bytes_decides (lower_name domain) (lower_name domain)).1 refl)

-- a rule of another domain leaves it
left : (domain other : List ℕ) (said rule : DomainRule) (es : Rules) → value_of domain es ≡ Some said
    → bytes_eq (lower_name domain) (lower_name other) ≡ false → value_of domain (inserted other rule es) ≡ Some said
left domain other said rule es here differs = by (is_short other) refl
  where
    by : (b : Bool) → is_short other ≡ b → value_of domain (inserted other rule es) ≡ Some said
    by true short =
        keeps_one_value DomainRule other domain rule es short
        ∙ ap (λ (b : Bool). cond b (Some rule) (value_of domain es)) differs
        ∙ here
    by false long =
        ap (λ (b : Bool). value_of domain (cond b (insert_entry bytes_eq es (lower_name other) rule) es)) long ∙ here

all_left : (domain : List ℕ) (said : DomainRule) (behind es : Rules) → value_of domain es ≡ Some said
    → AreOfOthers domain behind → value_of domain (with_rules behind es) ≡ Some said
all_left domain said [] es here others = here
all_left domain said (r ∷ rs) es here others =
    all_left domain said rs (inserted r.0 r.1 es) (left domain r.0 said r.1 es here others.0) others.1

last : (domain : List ℕ) (said : DomainRule) (before behind es : Rules) → is_short domain ≡ true
    → AreOfOthers domain behind → value_of domain (with_rules (before ++ (domain, said) ∷ behind) es) ≡ Some said
last domain said before behind es short others =
    ap (value_of domain) (rules_append before ((domain, said) ∷ behind) es)
    ∙ all_left domain said behind (inserted domain said (with_rules before es))
    (said_last domain said (with_rules before es) short) others

pub the_last_line_counts : TheLastLineCounts
the_last_line_counts settings blocked domain said before behind split short others =
    let under = with_blocked (blocked_domains blocked) (served_rules settings) in
    ap (λ (rules : Rules). value_of domain (with_rules rules under)) split
    ∙ last domain said before behind under short others
