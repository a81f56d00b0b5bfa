-- What a file says, as lines of a script that sets the same of a resolver.
use Rattle.std.specs.Prelude.{ℕ, List, [], ◌∷◌, ◌++◌, map, codes}
use Rattle.std.specs.Fmt.{decimal}
use Rattle.hickory_proto_core.specs.Name.{NameValue}
use Rattle.hickory_proto_core.specs.NameText.{name_text}
use Rattle.hickory_resolver_config.specs.declared.strategies.LookupIpStrategy.{LookupIpStrategy}
use Rattle.hickory_resolver_config.specs.declared.strategies.LookupIpStrategy.TheVariants.{Ipv4Only}
use Rattle.resolv_conf.specs.ResolvConf.{ResolvConfValue}

abbrev pub ndots_line : ℕ → List ℕ
ndots_line ndots = codes "option ndots " ++ decimal ndots

-- without `no-aaaa` the families stay as they are set
abbrev pub strategy_lines : LookupIpStrategy → List (List ℕ)
strategy_lines Ipv4Only = codes "option ip_strategy Ipv4Only" ∷ []
strategy_lines other = []

abbrev pub search_line : NameValue → List ℕ
search_line name = codes "search " ++ name_text name

-- the number of dots, the families, and the search list
abbrev pub script_lines : ResolvConfValue → List (List ℕ)
script_lines conf =
    ndots_line conf.options.ndots ∷ strategy_lines conf.options.ip_strategy ++ map search_line conf.config.search
