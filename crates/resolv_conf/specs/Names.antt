-- The domains of the search list.
use Rattle.std.specs.Prelude.{ℕ, ◌+◌, Bool, true, false, ◌&&◌, ◌==◌, nat_lt, List, [], ◌∷◌, length, Option, None, Some, if◌then◌else◌}
use Rattle.std.specs.Char.{is_ascii}
use Rattle.std.specs.List.{list_all}
use Rattle.std.specs.Option.{option_map_or, option_or}
use Rattle.std.specs.Result.{result_ok}
use Rattle.hickory_proto_core.specs.Name.{NameValue}
use Rattle.hickory_proto_core.specs.NameDecided.{text_name}
use Rattle.resolv_conf.specs.Keyword.{keyword_of}
use Rattle.resolv_conf.specs.Text.{behind_word, cut, words}
use Rattle.resolv_conf.specs.declared.keyword.Keyword.{Keyword}
use Rattle.resolv_conf.specs.declared.keyword.Keyword.TheVariants.{NameServer, Domain, Search, Options, Other, Nothing}

-- the domain name that a word of ASCII is, or none
unfoldable pub name_of : List ℕ → Option NameValue
name_of word = if list_all is_ascii word then result_ok (text_name word) else None

-- `domain` and `search` name domains
abbrev pub is_domains_keyword : Keyword → Bool
is_domains_keyword NameServer = false
is_domains_keyword Domain = true
is_domains_keyword Search = true
is_domains_keyword Options = false
is_domains_keyword Other = false
is_domains_keyword Nothing = false

-- a line that names domains has a word behind its keyword
unfoldable pub names_domains : List ℕ → Bool
names_domains line = is_domains_keyword (keyword_of line) && nat_lt 0 (length (words (behind_word line)))

-- the number of a line, where it names domains
abbrev pub domains_line : ℕ → List ℕ → Option ℕ
domains_line number line = if names_domains line then Some number else None

-- the number of the last line that names domains, of lines that are counted from here on
abbrev pub last_domains_line : ℕ → List (List ℕ) → Option ℕ
last_domains_line number [] = None
last_domains_line number (line ∷ lines) =
    option_or (last_domains_line (number + 1) lines) (domains_line number line)

-- whether the line of this number is the one that counts
abbrev pub counts : Option ℕ → ℕ → Bool
counts last number = option_map_or (λ line. line == number) last false

-- the domain of a host: what stands behind the first dot of its name
unfoldable pub domain_of_host : List ℕ → Option NameValue
domain_of_host hostname = option_map_or (λ parts. name_of parts.1) (cut 46 hostname) None
