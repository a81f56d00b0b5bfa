-- The keyword of a line (resolv.conf(5)).
use Rattle.std.specs.Prelude.{ℕ, Bool, false, ◌||◌, ◌==◌, List, [], ◌∷◌, codes, if◌then◌else◌}
use Rattle.std.specs.List.{list_all}
use Rattle.std.specs.Str.{bytes_eq}
use Rattle.resolv_conf.specs.Text.{first_word, is_blank}
use Rattle.resolv_conf.specs.declared.keyword.Keyword.{Keyword}
use Rattle.resolv_conf.specs.declared.keyword.Keyword.TheVariants.{NameServer, Domain, Search, Options, Other, Nothing}

-- a comment has `#` or `;` in its first column
abbrev pub is_comment : List ℕ → Bool
is_comment [] = false
is_comment (first ∷ rest) = (first == 35) || (first == 59)

-- a comment, or a line of blanks alone
abbrev pub says_nothing : List ℕ → Bool
says_nothing line = is_comment line || list_all is_blank line

-- the keyword that a word is, letter for letter
unfoldable pub keyword_named : List ℕ → Keyword
keyword_named word =
    if bytes_eq word (codes "nameserver") then NameServer
    else (if bytes_eq word (codes "domain") then Domain
    else (if bytes_eq word (codes "search") then Search
    else (if bytes_eq word (codes "options") then Options else Other)))

-- what a line is about: its first word, which begins in the first column
unfoldable pub keyword_of : List ℕ → Keyword
keyword_of line = if says_nothing line then Nothing else keyword_named (first_word line)
