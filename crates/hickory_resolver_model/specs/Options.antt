-- What the options and the configuration of a resolver say for the definitions.
use Rattle.std.specs.Prelude.{[], Result, Ok, Err}
use Rattle.std.specs.Option.{option_map_or}
use Rattle.hickory_proto_core.specs.declared.dns_request.DnsRequestOptions.{DnsRequestOptions}
use Rattle.hickory_resolver_config.specs.ResolverConfig.{ResolverConfigValue, OptionsValue}
use Rattle.hickory_resolver_model.specs.Attempts.{Search}
use Rattle.hickory_proto_core.specs.declared.bounds_error.BoundsError.{BoundsError}
use Rattle.hickory_resolver_model.specs.Bounds.{BoundsValue, ConfigValue, bounds_fault}

-- how names are attempted
abbrev pub search_of : ResolverConfigValue → OptionsValue → Search
search_of config options =
    record { ndots = options.ndots; domain = config.domain; search = config.search }

-- the bounds on times to live of every type
abbrev pub bounds_of : OptionsValue → BoundsValue
bounds_of options = record {
  positive_min = options.positive_min_ttl;
  negative_min = options.negative_min_ttl;
  positive_max = options.positive_max_ttl;
  negative_max = options.negative_max_ttl;
}

-- the same bounds for every type, or their fault
abbrev pub config_or_fault : BoundsValue → Result ConfigValue BoundsError
config_or_fault bounds =
    option_map_or Err (bounds_fault bounds) (Ok (record { default = bounds; by_type = [] }))

-- how each question is sent
abbrev pub request_options_of : OptionsValue → DnsRequestOptions
request_options_of options = record {
  recursion_desired = options.recursion_desired;
  use_edns = options.edns0;
  edns_payload_len = options.edns_payload_len;
  case_randomization = options.case_randomization;
}
