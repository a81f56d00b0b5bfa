-- What settings configure, one after another.
use Rattle.std.specs.Prelude.{Bool, false, List, [], ◌∷◌, ◌++◌, Option, None, Some}
use Rattle.hickory_proto_core.specs.Name.{NameValue}
use Rattle.hickory_resolver_config.specs.ResolverConfig.{OptionsValue, default_options}
use Rattle.replay_script.specs.OptionLine.{with_option}
use Rattle.replay_script.specs.declared.setting.Setting.{Setting}
use Rattle.replay_script.specs.declared.setting.Setting.TheVariants as set

-- the options: each setting of one counts in place of those before it
abbrev pub options_from : OptionsValue → List Setting → OptionsValue
options_from options [] = options
options_from options (set.Option line ∷ settings) = options_from (with_option line options) settings
options_from options (set.Domain name ∷ settings) = options_from options settings
options_from options (set.Search name ∷ settings) = options_from options settings
options_from options (set.Upstream table ∷ settings) = options_from options settings

-- the last domain, where there is one, and else this one
abbrev pub domain_from : Option NameValue → List Setting → Option NameValue
domain_from domain [] = domain
domain_from domain (set.Option line ∷ settings) = domain_from domain settings
domain_from domain (set.Domain name ∷ settings) = domain_from (Some name) settings
domain_from domain (set.Search name ∷ settings) = domain_from domain settings
domain_from domain (set.Upstream table ∷ settings) = domain_from domain settings

-- the search list, in order
abbrev pub search_in : List Setting → List NameValue
search_in [] = []
search_in (set.Option line ∷ settings) = search_in settings
search_in (set.Domain name ∷ settings) = search_in settings
search_in (set.Search name ∷ settings) = name ∷ search_in settings
search_in (set.Upstream table ∷ settings) = search_in settings

-- whether the last mode, or where there is none this, is a table
abbrev pub table_from : Bool → List Setting → Bool
table_from table [] = table
table_from table (set.Option line ∷ settings) = table_from table settings
table_from table (set.Domain name ∷ settings) = table_from table settings
table_from table (set.Search name ∷ settings) = table_from table settings
table_from table (set.Upstream chosen ∷ settings) = table_from chosen settings

-- the options, the domain, the search list, and whether the outcomes are a table
pub record ConfigurationValue : Type 0 where
  pub options : OptionsValue
  pub domain : Option NameValue
  pub search : List NameValue
  pub table : Bool

-- where nothing is set they are those of a resolver by default, and the outcomes come in order
abbrev pub configured : List Setting → ConfigurationValue
configured settings = record {
  options = options_from default_options settings;
  domain = domain_from None settings;
  search = search_in settings;
  table = table_from false settings;
}

-- one more setting
abbrev pub with_setting : Setting → ConfigurationValue → ConfigurationValue
with_setting (set.Option line) c = record c { options = with_option line c.options }
with_setting (set.Domain name) c = record c { domain = Some name }
with_setting (set.Search name) c = record c { search = c.search ++ name ∷ [] }
with_setting (set.Upstream table) c = record c { table = table }
