-- What a resolver is configured with: domain, search list and servers, and the options.
use Rattle.std.specs.Prelude.{ℕ, Bool, true, false, List, [], Option, None}
use Rattle.hickory_proto_core.specs.Name.{NameValue}
use Rattle.hickory_proto_core.specs.names.ip.IpNet.{IpNet}
use Rattle.hickory_resolver_config.specs.Servers.{ServerValue}
use Rattle.hickory_resolver_config.specs.declared.strategies.LookupIpStrategy.{LookupIpStrategy}
use Rattle.hickory_resolver_config.specs.declared.strategies.LookupIpStrategy.TheVariants.{Ipv6AndIpv4}
use Rattle.hickory_resolver_config.specs.declared.strategies.ServerOrderingStrategy.{ServerOrderingStrategy}
use Rattle.hickory_resolver_config.specs.declared.strategies.ServerOrderingStrategy.TheVariants.{QueryStatistics}
use Rattle.hickory_resolver_config.specs.declared.strategies.ResolveHosts.{ResolveHosts}
use Rattle.hickory_resolver_config.specs.declared.strategies.ResolveHosts.TheVariants.{Auto}

pub record ResolverConfigValue : Type 0 where
  pub domain : Option NameValue
  pub search : List NameValue
  pub name_servers : List ServerValue

-- no domain, no search list, and these servers
abbrev pub config_of_servers : List ServerValue → ResolverConfigValue
config_of_servers servers = record { domain = None; search = []; name_servers = servers }

-- the options, with lists for vectors and in place of the set of ports. Times are in seconds
pub record OptionsValue : Type 0 where
  pub ndots : ℕ
  pub timeout : ℕ
  pub attempts : ℕ
  pub edns0 : Bool
  pub ip_strategy : LookupIpStrategy
  pub cache_size : ℕ
  pub cache_octets : Option ℕ
  pub use_hosts_file : ResolveHosts
  pub positive_min_ttl : Option ℕ
  pub negative_min_ttl : Option ℕ
  pub positive_max_ttl : Option ℕ
  pub negative_max_ttl : Option ℕ
  pub num_concurrent_reqs : ℕ
  pub max_active_requests : ℕ
  pub preserve_intermediates : Bool
  pub try_tcp_on_error : Bool
  pub server_ordering_strategy : ServerOrderingStrategy
  pub recursion_desired : Bool
  pub avoid_local_udp_ports : List ℕ
  pub os_port_selection : Bool
  pub case_randomization : Bool
  pub allow_answers : List IpNet
  pub deny_answers : List IpNet
  pub edns_payload_len : ℕ

abbrev pub default_options : OptionsValue
default_options = record {
  ndots = 1;
  timeout = 5;
  attempts = 2;
  edns0 = true;
  ip_strategy = Ipv6AndIpv4;
  cache_size = 8192;
  cache_octets = None;
  use_hosts_file = Auto;
  positive_min_ttl = None;
  negative_min_ttl = None;
  positive_max_ttl = None;
  negative_max_ttl = None;
  num_concurrent_reqs = 2;
  max_active_requests = 32;
  preserve_intermediates = true;
  try_tcp_on_error = false;
  server_ordering_strategy = QueryStatistics;
  recursion_desired = true;
  avoid_local_udp_ports = [];
  os_port_selection = false;
  case_randomization = false;
  allow_answers = [];
  deny_answers = [];
  edns_payload_len = 1232;
}
