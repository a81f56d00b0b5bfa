-- What lines say, and what is passed over.
use Rattle.std.specs.Prelude.{ℕ, ◌+◌, ◌++◌, List, [], ◌∷◌, fold, Option, None, Some, if◌then◌else◌}
use Rattle.std.specs.declared.net.IpAddr.{IpAddr}
use Rattle.hickory_proto_core.specs.Name.{NameValue}
use Rattle.resolv_conf.specs.Keyword.{keyword_of}
use Rattle.resolv_conf.specs.Names.{counts, name_of}
use Rattle.resolv_conf.specs.OptionWord.{default_settings, option_of, with_option}
use Rattle.resolv_conf.specs.Servers.{server_of}
use Rattle.resolv_conf.specs.Text.{behind_word, words}
use Rattle.resolv_conf.specs.declared.keyword.Keyword.{Keyword}
use Rattle.resolv_conf.specs.declared.keyword.Keyword.TheVariants as keyword
use Rattle.resolv_conf.specs.declared.option_word.OptionWord.{OptionWord}
use Rattle.resolv_conf.specs.declared.option_word.OptionWord.TheVariants as option
use Rattle.resolv_conf.specs.declared.passed_over.PassedOver.{PassedOver}
use Rattle.resolv_conf.specs.declared.passed_over.Reason.{Reason}
use Rattle.resolv_conf.specs.declared.passed_over.Reason.TheVariants.{UnknownKeyword, NoValue, NotAnAddress, NotAName, Replaced}
use Rattle.resolv_conf.specs.declared.server.Server.{Server}
use Rattle.resolv_conf.specs.declared.settings.Settings.{Settings}

-- what is said: servers with their scopes, domains of the search list, options, and what is passed over
pub record Said : Type 0 where
  pub addresses : List IpAddr
  pub scopes : List (Option (List ℕ))
  pub search : List NameValue
  pub options : List OptionWord
  pub passed_over : List PassedOver

abbrev pub nothing_said : Said
nothing_said = record { addresses = []; scopes = []; search = []; options = []; passed_over = [] }

-- one thing, and then another
abbrev pub then_said : Said → Said → Said
then_said first second = record {
  addresses = first.addresses ++ second.addresses;
  scopes = first.scopes ++ second.scopes;
  search = first.search ++ second.search;
  options = first.options ++ second.options;
  passed_over = first.passed_over ++ second.passed_over;
}

-- a line, or one of its words, is passed over
abbrev pub passes : ℕ → Reason → Said
passes number reason =
    record nothing_said { passed_over = record { line = number; reason = reason } ∷ [] }

abbrev pub server_said : Server → Said
server_said server =
    record nothing_said { addresses = server.address ∷ []; scopes = server.scope ∷ [] }

abbrev pub domain_named : NameValue → Said
domain_named name = record nothing_said { search = name ∷ [] }

abbrev pub option_set : OptionWord → Said
option_set option = record nothing_said { options = option ∷ [] }

-- `nameserver`: its first word is a server
abbrev pub server_found : ℕ → Option Server → Said
server_found number None = passes number NotAnAddress
server_found number (Some server) = server_said server

abbrev pub servers_said : ℕ → List (List ℕ) → Said
servers_said number [] = passes number NoValue
servers_said number (word ∷ others) = server_found number (server_of word)

-- a word that is to be a domain
abbrev pub domain_found : ℕ → Option NameValue → Said
domain_found number None = passes number NotAName
domain_found number (Some name) = domain_named name

abbrev pub name_said : ℕ → List ℕ → Said
name_said number word = domain_found number (name_of word)

abbrev pub names_said : ℕ → List (List ℕ) → Said
names_said number [] = nothing_said
names_said number (word ∷ others) = then_said (name_said number word) (names_said number others)

-- `domain`: its first word is the one domain, where the line counts
abbrev pub domain_said : Option ℕ → ℕ → List (List ℕ) → Said
domain_said last number [] = passes number NoValue
domain_said last number (word ∷ others) =
    if counts last number then name_said number word else passes number Replaced

-- `search`: all its words are domains, where the line counts
abbrev pub search_said : Option ℕ → ℕ → List (List ℕ) → Said
search_said last number [] = passes number NoValue
search_said last number (word ∷ others) =
    if counts last number then names_said number (word ∷ others) else passes number Replaced

-- a word behind `options`
abbrev pub option_said : ℕ → OptionWord → Said
option_said number (option.PassedOver reason) = passes number reason
option_said number other = option_set other

abbrev pub options_said : ℕ → List (List ℕ) → Said
options_said number [] = nothing_said
options_said number (word ∷ others) =
    then_said (option_said number (option_of word)) (options_said number others)

-- `options`: each word for itself
abbrev pub options_line_said : ℕ → List (List ℕ) → Said
options_line_said number [] = passes number NoValue
options_line_said number (word ∷ others) = options_said number (word ∷ others)

-- what the words behind a keyword say
abbrev pub keyword_said : Option ℕ → ℕ → Keyword → List (List ℕ) → Said
keyword_said last number keyword.NameServer values = servers_said number values
keyword_said last number keyword.Domain values = domain_said last number values
keyword_said last number keyword.Search values = search_said last number values
keyword_said last number keyword.Options values = options_line_said number values
keyword_said last number keyword.Other values = passes number UnknownKeyword
keyword_said last number keyword.Nothing values = nothing_said

-- what a line says
unfoldable pub line_said : Option ℕ → ℕ → List ℕ → Said
line_said last number line =
    keyword_said last number (keyword_of line) (words (behind_word line))

-- what lines say that are counted from here on
abbrev pub lines_said : Option ℕ → ℕ → List (List ℕ) → Said
lines_said last number [] = nothing_said
lines_said last number (line ∷ lines) =
    then_said (line_said last number line) (lines_said last (number + 1) lines)

-- what is known once some lines are read. Options are set one after the other, so that the later of two counts
pub record ReadingValue : Type 0 where
  pub addresses : List IpAddr
  pub scopes : List (Option (List ℕ))
  pub search : List NameValue
  pub settings : Settings
  pub passed_over : List PassedOver

abbrev pub reading_begun : ReadingValue
reading_begun =
    record { addresses = []; scopes = []; search = []; settings = default_settings; passed_over = [] }

abbrev pub with_said : ReadingValue → Said → ReadingValue
with_said reading said = record {
  addresses = reading.addresses ++ said.addresses;
  scopes = reading.scopes ++ said.scopes;
  search = reading.search ++ said.search;
  settings = fold with_option reading.settings said.options;
  passed_over = reading.passed_over ++ said.passed_over;
}
