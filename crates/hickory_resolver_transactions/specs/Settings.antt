-- What the options of a resolver say to a transaction.
use Rattle.std.specs.Prelude.{◌+◌, ◌-◌, ◌*◌, ◌^◌, min, max}
use Rattle.hickory_resolver_config.specs.ResolverConfig.{OptionsValue}
use Rattle.hickory_resolver_transactions.specs.declared.choices.TheConstants.{MOST_ROUNDS}
use Rattle.hickory_resolver_transactions.specs.declared.settings.Settings.{Settings}

-- The timeout of the options is of seconds, that of a transaction of milliseconds. Attempts are retries (RFC 9520,
-- section 3.1).
abbrev pub settings_of : OptionsValue → Settings
settings_of options = record {
  timeout = min (options.timeout * 1000) (2 ^ 64 - 1);
  rounds = min (min (options.attempts + 1) (2 ^ 64 - 1)) MOST_ROUNDS;
  concurrent = max options.num_concurrent_reqs 1;
  tcp_on_error = options.try_tcp_on_error;
  varies_letters = options.case_randomization;
}
