-- The servers of a file, as text: an address a line.
use Rattle.std.specs.Prelude.{ℕ, List, [], ◌++◌, codes, Option, None, Some}
use Rattle.std.specs.List.{flat_map, zip}
use Rattle.std.specs.Net.Text.{ip_text}
use Rattle.hickory_resolver_config.specs.Servers.{ServerValue}
use Rattle.resolv_conf.specs.ResolvConf.{ResolvConfValue}

-- a scope stands behind `%` (RFC 4007, section 11)
abbrev pub scope_text : Option (List ℕ) → List ℕ
scope_text None = []
scope_text (Some scope) = codes "%" ++ scope

abbrev pub server_line : ServerValue × Option (List ℕ) → List ℕ
server_line server = ip_text server.0.ip ++ scope_text server.1 ++ codes "\n"

abbrev pub server_lines : ResolvConfValue → List ℕ
server_lines conf = flat_map server_line (zip conf.config.name_servers conf.scopes)
