-- What a file resolv.conf says (resolv.conf(5)).
use Rattle.std.specs.Prelude.{ℕ, Bool, true, false, List, [], ◌∷◌, map, Option, None, Some, if◌then◌else◌}
use Rattle.std.specs.List.{list_any}
use Rattle.std.specs.declared.net.IpAddr.{IpAddr}
use Rattle.std.specs.declared.net.IpAddr.TheVariants.{V4}
use Rattle.hickory_proto_core.specs.Name.{NameValue}
use Rattle.hickory_resolver_config.specs.Connections.{ProtocolValue, over_tcp, over_udp}
use Rattle.hickory_resolver_config.specs.ResolverConfig.{OptionsValue, ResolverConfigValue, default_options}
use Rattle.hickory_resolver_config.specs.Servers.{server_over}
use Rattle.hickory_resolver_config.specs.declared.strategies.LookupIpStrategy.{LookupIpStrategy}
use Rattle.hickory_resolver_config.specs.declared.strategies.LookupIpStrategy.TheVariants.{Ipv4Only, Ipv6AndIpv4}
use Rattle.hickory_resolver_config.specs.declared.strategies.ServerOrderingStrategy.{ServerOrderingStrategy}
use Rattle.hickory_resolver_config.specs.declared.strategies.ServerOrderingStrategy.TheVariants.{RoundRobin, UserProvidedOrder}
use Rattle.resolv_conf.specs.Keyword.{keyword_of}
use Rattle.resolv_conf.specs.Names.{domain_of_host, last_domains_line}
use Rattle.resolv_conf.specs.Said.{ReadingValue, Said, domain_named, lines_said, nothing_said, reading_begun, server_said, with_said}
use Rattle.resolv_conf.specs.Servers.{plain_server}
use Rattle.resolv_conf.specs.Text.{lines_of}
use Rattle.resolv_conf.specs.declared.keyword.Keyword.{Keyword}
use Rattle.resolv_conf.specs.declared.keyword.Keyword.TheVariants.{NameServer, Domain, Search, Options, Other, Nothing}
use Rattle.resolv_conf.specs.declared.passed_over.PassedOver.{PassedOver}
use Rattle.resolv_conf.specs.declared.settings.Settings.{Settings}

-- how servers are asked: over UDP and TCP, or with `use-vc` over TCP alone
abbrev pub protocols_of : Settings → List ProtocolValue
protocols_of settings = if settings.use_vc then over_tcp ∷ [] else over_udp ∷ over_tcp ∷ []

-- which addresses are looked up: with `no-aaaa` no AAAA records
abbrev pub ip_strategy_of : Settings → LookupIpStrategy
ip_strategy_of settings = if settings.no_aaaa then Ipv4Only else Ipv6AndIpv4

-- in which order servers are asked: as they stand, or with `rotate` in turn
abbrev pub ordering_of : Settings → ServerOrderingStrategy
ordering_of settings = if settings.rotate then RoundRobin else UserProvidedOrder

-- the options of a resolver: a server is asked once the one before it has not answered
abbrev pub options_of : Settings → OptionsValue
options_of settings = record default_options {
  ndots = settings.ndots;
  timeout = settings.timeout;
  attempts = settings.attempts;
  edns0 = settings.edns0;
  ip_strategy = ip_strategy_of settings;
  num_concurrent_reqs = 1;
  server_ordering_strategy = ordering_of settings;
}

abbrev pub is_server_keyword : Keyword → Bool
is_server_keyword NameServer = true
is_server_keyword Domain = false
is_server_keyword Search = false
is_server_keyword Options = false
is_server_keyword Other = false
is_server_keyword Nothing = false

-- a line `nameserver`, whatever stands behind it
abbrev pub is_server_line : List ℕ → Bool
is_server_line line = is_server_keyword (keyword_of line)

-- 127.0.0.1
abbrev pub loopback : IpAddr
loopback = V4 (record { octets = 127 ∷ 0 ∷ 0 ∷ 1 ∷ [] })

-- where no line names a server, the server is this machine
unfoldable pub default_server_said : List (List ℕ) → Said
default_server_said lines = if list_any is_server_line lines then nothing_said else server_said (plain_server loopback)

-- where no line names domains, the domain of the host is the one of the search list, if it has one
abbrev pub host_domain_said : Option NameValue → Said
host_domain_said None = nothing_said
host_domain_said (Some domain) = domain_named domain

abbrev pub default_domain_said : Option ℕ → List ℕ → Said
default_domain_said None hostname = host_domain_said (domain_of_host hostname)
default_domain_said (Some line) hostname = nothing_said

-- what a file says, on a host of this name
unfoldable pub file_said : List ℕ → List ℕ → ReadingValue
file_said octets hostname =
    let lines = lines_of octets in
    let last = last_domains_line 1 lines in
    with_said (with_said (with_said reading_begun (lines_said last 1 lines)) (default_server_said lines))
    (default_domain_said last hostname)

pub record ResolvConfValue : Type 0 where
  pub config : ResolverConfigValue
  pub options : OptionsValue
  pub scopes : List (Option (List ℕ))
  pub trust_ad : Bool
  pub passed_over : List PassedOver

-- the configuration that this is
abbrev pub configuration_of : ReadingValue → ResolvConfValue
configuration_of reading = record {
  config = record {
    domain = None;
    search = reading.search;
    name_servers = map (server_over (protocols_of reading.settings)) reading.addresses;
  };
  options = options_of reading.settings;
  scopes = reading.scopes;
  trust_ad = reading.settings.trust_ad;
  passed_over = reading.passed_over;
}

-- the configuration of a file, on a host of this name
abbrev pub resolv_conf : List ℕ → List ℕ → ResolvConfValue
resolv_conf octets hostname = configuration_of (file_said octets hostname)
