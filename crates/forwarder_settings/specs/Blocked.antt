-- Files of blocked names: a name on each line, or lines of a file of hosts, whose address is one of no other host.
use Rattle.std.specs.Prelude.{◌≡◌, ℕ, Bool, ◌||◌, ◌==◌, List, [], ◌∷◌, ◌++◌, codes, fold, Option, if◌then◌else◌}
use Rattle.std.specs.List.{before_first, filter_map, flat_map, list_all}
use Rattle.std.specs.Option.{option_map, option_map_or}
use Rattle.std.specs.Result.{result_ok}
use Rattle.std.specs.Str.Lines.{lines}
use Rattle.domain_table.specs.Domains.{inserted}
use Rattle.hickory_proto_core.specs.Codes.{is_text}
use Rattle.hickory_proto_core.specs.NameDecided.{text_name}
use Rattle.local_answers.specs.declared.rules.Blocked.TheVariants.{NoName}
use Rattle.local_answers.specs.declared.rules.DomainRule.{DomainRule}
use Rattle.local_answers.specs.declared.rules.DomainRule.TheVariants as rule
use Rattle.replay_script.specs.Fields.{fields, is_allowed}
use Rattle.forwarder_settings.specs.Reading.{domain_of}

-- what stands before a comment
abbrev pub without_comment : List ℕ → List ℕ
without_comment line = before_first (λ byte. byte == 35) line

-- an address that files of hosts give to blocked names
abbrev pub is_nowhere : List ℕ → Bool
is_nowhere word =
    is_text (codes "0.0.0.0") word || is_text (codes "127.0.0.1") word || is_text (codes "::") word
    || is_text (codes "::1") word

-- the fields that are to be names: the only one, or those behind such an address
abbrev pub names_among : List (List ℕ) → List (List ℕ)
names_among [] = []
names_among (name ∷ []) = name ∷ []
names_among (address ∷ name ∷ names) = if is_nowhere address then name ∷ names else []

-- the fields of a line; those of a line with a byte that may not stand in one are none
abbrev pub fields_of : List ℕ → List (List ℕ)
fields_of text = if list_all is_allowed text then fields text else []

-- the domain that a text names, if it names one
abbrev pub domain_named : List ℕ → Option (List ℕ)
domain_named text = option_map domain_of (result_ok (text_name text))

-- the domains of a line, and of a file; what is no name is passed over
abbrev pub domains_among : List (List ℕ) → List (List ℕ)
domains_among texts = filter_map domain_named texts

abbrev pub line_domains : List ℕ → List (List ℕ)
line_domains line = domains_among (names_among (fields_of (without_comment line)))

abbrev pub blocked_domains : List ℕ → List (List ℕ)
blocked_domains file = flat_map line_domains (lines file)

-- the rules, with these domains blocked: they do not exist, nor does any name below them
abbrev pub with_blocked : List (List ℕ) → List (List ℕ × DomainRule) → List (List ℕ × DomainRule)
with_blocked domains rules = fold (λ blocked domain. inserted domain (rule.Block NoName) blocked) rules domains

-- the same with the name of a text, if it is one
abbrev pub with_name_blocked : List ℕ → List (List ℕ × DomainRule) → List (List ℕ × DomainRule)
with_name_blocked text rules =
    option_map_or (λ domain. inserted domain (rule.Block NoName) rules) (domain_named text) rules

-- the first of these domains are blocked
abbrev pub FirstBlocked : List (List ℕ) → List (List ℕ × DomainRule) → List (List ℕ × DomainRule) → Type 0
FirstBlocked domains old new =
    (first : List (List ℕ)) × (others : List (List ℕ)) × (domains ≡ first ++ others) × (new ≡ with_blocked first old)
