-- A line that sets an option that only a forwarder has: `option` KEY VALUE.
use Rattle.std.specs.Prelude.{ℕ, List, [], ◌∷◌, codes, Option, None, Some, option_map, Result, Ok, if◌then◌else◌}
use Rattle.hickory_proto_core.specs.Codes.{is_text}
use Rattle.replay_script.specs.Faults.{LineFaultValue}
use Rattle.replay_script.specs.OptionLine.{truth_field}
use Rattle.replay_script.specs.Words.{◌>>=◌, number_field}
use Rattle.forwarder_settings.specs.declared.forwarder_option.ForwarderKey.{ForwarderKey}
use Rattle.forwarder_settings.specs.declared.forwarder_option.ForwarderKey.TheVariants as key
use Rattle.forwarder_settings.specs.declared.forwarder_option.ForwarderOption.{ForwarderOption}
use Rattle.forwarder_settings.specs.declared.forwarder_option.ForwarderOption.TheVariants as to

-- the option of a word
abbrev pub key_named : List ℕ → Option ForwarderKey
key_named word =
    if is_text (codes "trusts_authentic_data") word then Some key.TrustsAuthenticData else (
    if is_text (codes "drops_strangers") word then Some key.DropsStrangers else (
    if is_text (codes "serves_locally") word then Some key.ServesLocally else (
    if is_text (codes "prefetches") word then Some key.Prefetches else (
    if is_text (codes "greatest_ttl") word then Some key.GreatestTtl else (
    if is_text (codes "serves_stale") word then Some key.ServesStale else (
    if is_text (codes "cache_octets") word then Some key.CacheOctets else (
    if is_text (codes "cache_entries") word then Some key.CacheEntries else (
    if is_text (codes "failures") word then Some key.Failures else (
    if is_text (codes "clients") word then Some key.Clients else (
    if is_text (codes "clients_of_address") word then Some key.ClientsOfAddress else (
    if is_text (codes "clients_of_question") word then Some key.ClientsOfQuestion else None)))))))))))

-- what the value of an option writes: a number of 64 bits, or whether it is wanted
abbrev pub value_of : ForwarderKey → List ℕ → Result ForwarderOption LineFaultValue
value_of key.TrustsAuthenticData text = truth_field text >>= (λ t. Ok (to.TrustsAuthenticData t))
value_of key.DropsStrangers text = truth_field text >>= (λ t. Ok (to.DropsStrangers t))
value_of key.ServesLocally text = truth_field text >>= (λ t. Ok (to.ServesLocally t))
value_of key.Prefetches text = truth_field text >>= (λ t. Ok (to.Prefetches t))
value_of key.GreatestTtl text = number_field 64 text >>= (λ n. Ok (to.GreatestTtl n))
value_of key.ServesStale text = number_field 64 text >>= (λ n. Ok (to.ServesStale n))
value_of key.CacheOctets text = number_field 64 text >>= (λ n. Ok (to.CacheOctets n))
value_of key.CacheEntries text = number_field 64 text >>= (λ n. Ok (to.CacheEntries n))
value_of key.Failures text = number_field 64 text >>= (λ n. Ok (to.Failures n))
value_of key.Clients text = number_field 64 text >>= (λ n. Ok (to.Clients n))
value_of key.ClientsOfAddress text = number_field 64 text >>= (λ n. Ok (to.ClientsOfAddress n))
value_of key.ClientsOfQuestion text = number_field 64 text >>= (λ n. Ok (to.ClientsOfQuestion n))

-- KEY VALUE, where the key is that of such an option
abbrev pub forwarder_option : List (List ℕ) → Option (Result ForwarderOption LineFaultValue)
forwarder_option (key ∷ value ∷ []) = option_map (λ k. value_of k value) (key_named key)
forwarder_option fields = None
