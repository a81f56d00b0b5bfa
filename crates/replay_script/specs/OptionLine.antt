-- A line that sets an option: `option` KEY VALUE.
use Rattle.std.specs.Prelude.{ℕ, Bool, true, false, List, [], ◌∷◌, codes, Option, None, Some, Result, Ok, Err, if◌then◌else◌}
use Rattle.std.specs.Option.{ok_or}
use Rattle.hickory_proto_core.specs.Codes.{is_text}
use Rattle.hickory_resolver_config.specs.ResolverConfig.{OptionsValue}
use Rattle.hickory_resolver_config.specs.declared.strategies.LookupIpStrategy.{LookupIpStrategy}
use Rattle.hickory_resolver_config.specs.declared.strategies.LookupIpStrategy.TheVariants as strategy
use Rattle.replay_script.specs.Faults.{LineFaultValue, wrong_field, wrong_line}
use Rattle.replay_script.specs.Words.{◌>>=◌, number_field}
use Rattle.replay_script.specs.declared.fault.ScriptFault.TheVariants.{FieldCount, UnknownWord}
use Rattle.replay_script.specs.declared.option_line.OptionKey.{OptionKey}
use Rattle.replay_script.specs.declared.option_line.OptionKey.TheVariants as key
use Rattle.replay_script.specs.declared.option_line.OptionLine.{OptionLine}
use Rattle.replay_script.specs.declared.option_line.OptionLine.TheVariants.{CacheSize, IpStrategy, Ndots, NegativeMaxTtl, NegativeMinTtl, PositiveMaxTtl, PositiveMinTtl, PreserveIntermediates}

-- the option of a word
abbrev pub key_named : List ℕ → Option OptionKey
key_named word =
    if is_text (codes "ndots") word then Some key.Ndots else (
    if is_text (codes "cache_size") word then Some key.CacheSize else (
    if is_text (codes "positive_min_ttl") word then Some key.PositiveMinTtl else (
    if is_text (codes "negative_min_ttl") word then Some key.NegativeMinTtl else (
    if is_text (codes "positive_max_ttl") word then Some key.PositiveMaxTtl else (
    if is_text (codes "negative_max_ttl") word then Some key.NegativeMaxTtl else (
    if is_text (codes "ip_strategy") word then Some key.IpStrategy else (
    if is_text (codes "preserve_intermediates") word then Some key.PreserveIntermediates else None)))))))

-- the strategy of a word
abbrev pub strategy_field : List ℕ → Result LookupIpStrategy LineFaultValue
strategy_field word =
    if is_text (codes "Ipv4Only") word then Ok strategy.Ipv4Only else (
    if is_text (codes "Ipv6Only") word then Ok strategy.Ipv6Only else (
    if is_text (codes "Ipv4AndIpv6") word then Ok strategy.Ipv4AndIpv6 else (
    if is_text (codes "Ipv6AndIpv4") word then Ok strategy.Ipv6AndIpv4 else (
    if is_text (codes "Ipv6thenIpv4") word then Ok strategy.Ipv6thenIpv4 else (
    if is_text (codes "Ipv4thenIpv6") word then Ok strategy.Ipv4thenIpv6
    else Err (wrong_field UnknownWord word))))))

abbrev pub truth_field : List ℕ → Result Bool LineFaultValue
truth_field word =
    if is_text (codes "true") word then Ok true else (
    if is_text (codes "false") word then Ok false else Err (wrong_field UnknownWord word))

-- what the value of an option writes: a number of 64 bits, a strategy, or whether it is wanted
abbrev pub value_of : OptionKey → List ℕ → Result OptionLine LineFaultValue
value_of key.Ndots text = number_field 64 text >>= (λ n. Ok (Ndots n))
value_of key.CacheSize text = number_field 64 text >>= (λ n. Ok (CacheSize n))
value_of key.PositiveMinTtl text = number_field 64 text >>= (λ n. Ok (PositiveMinTtl n))
value_of key.NegativeMinTtl text = number_field 64 text >>= (λ n. Ok (NegativeMinTtl n))
value_of key.PositiveMaxTtl text = number_field 64 text >>= (λ n. Ok (PositiveMaxTtl n))
value_of key.NegativeMaxTtl text = number_field 64 text >>= (λ n. Ok (NegativeMaxTtl n))
value_of key.IpStrategy text = strategy_field text >>= (λ s. Ok (IpStrategy s))
value_of key.PreserveIntermediates text = truth_field text >>= (λ t. Ok (PreserveIntermediates t))

-- KEY VALUE
abbrev pub option_of : List (List ℕ) → Result OptionLine LineFaultValue
option_of (key ∷ value ∷ []) = do
  k ← ok_or (key_named key) (wrong_field UnknownWord key)
  value_of k value
option_of fields = Err (wrong_line FieldCount)

-- the options with this one set, and all others as they were
abbrev pub with_option : OptionLine → OptionsValue → OptionsValue
with_option (Ndots n) options = record options { ndots = n }
with_option (CacheSize n) options = record options { cache_size = n }
with_option (PositiveMinTtl n) options = record options { positive_min_ttl = Some n }
with_option (NegativeMinTtl n) options = record options { negative_min_ttl = Some n }
with_option (PositiveMaxTtl n) options = record options { positive_max_ttl = Some n }
with_option (NegativeMaxTtl n) options = record options { negative_max_ttl = Some n }
with_option (IpStrategy s) options = record options { ip_strategy = s }
with_option (PreserveIntermediates t) options = record options { preserve_intermediates = t }
