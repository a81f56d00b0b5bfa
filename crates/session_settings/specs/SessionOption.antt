-- A line that sets an option that no script has: `option` KEY VALUE. A key is the name of a field of the options.
use Rattle.std.specs.Prelude.{ℕ, List, [], ◌∷◌, codes, Option, None, Some, option_map, Result, Ok, Err, if◌then◌else◌}
use Rattle.hickory_proto_core.specs.Codes.{is_text}
use Rattle.hickory_resolver_config.specs.ResolverConfig.{OptionsValue}
use Rattle.hickory_resolver_config.specs.declared.strategies.ServerOrderingStrategy.{ServerOrderingStrategy}
use Rattle.hickory_resolver_config.specs.declared.strategies.ServerOrderingStrategy.TheVariants as ordering
use Rattle.replay_script.specs.Faults.{LineFaultValue, wrong_field}
use Rattle.replay_script.specs.OptionLine.{truth_field}
use Rattle.replay_script.specs.Words.{◌>>=◌, number_field}
use Rattle.replay_script.specs.declared.fault.ScriptFault.TheVariants.{UnknownWord}
use Rattle.session_settings.specs.declared.session_option.SessionKey.{SessionKey}
use Rattle.session_settings.specs.declared.session_option.SessionKey.TheVariants as key
use Rattle.session_settings.specs.declared.session_option.SessionOption.{SessionOption}
use Rattle.session_settings.specs.declared.session_option.SessionOption.TheVariants as to

-- the option of a word
abbrev pub key_named : List ℕ → Option SessionKey
key_named word =
    if is_text (codes "timeout") word then Some key.Timeout else (
    if is_text (codes "attempts") word then Some key.Attempts else (
    if is_text (codes "edns0") word then Some key.Edns else (
    if is_text (codes "edns_payload_len") word then Some key.EdnsPayload else (
    if is_text (codes "num_concurrent_reqs") word then Some key.ConcurrentRequests else (
    if is_text (codes "max_active_requests") word then Some key.ActiveRequests else (
    if is_text (codes "try_tcp_on_error") word then Some key.TcpOnError else (
    if is_text (codes "recursion_desired") word then Some key.RecursionDesired else (
    if is_text (codes "case_randomization") word then Some key.CaseRandomization else (
    if is_text (codes "server_ordering_strategy") word then Some key.ServerOrdering else (
    if is_text (codes "cache_octets") word then Some key.CacheOctets else None))))))))))

-- the order of servers that a word names
abbrev pub ordering_field : List ℕ → Result ServerOrderingStrategy LineFaultValue
ordering_field word =
    if is_text (codes "QueryStatistics") word then Ok ordering.QueryStatistics else (
    if is_text (codes "UserProvidedOrder") word then Ok ordering.UserProvidedOrder else (
    if is_text (codes "RoundRobin") word then Ok ordering.RoundRobin else Err (wrong_field UnknownWord word)))

-- what the value of an option writes: a number of 64 or of 16 bits, an order, or whether it is wanted
abbrev pub value_of : SessionKey → List ℕ → Result SessionOption LineFaultValue
value_of key.Timeout text = number_field 64 text >>= (λ n. Ok (to.Timeout n))
value_of key.Attempts text = number_field 64 text >>= (λ n. Ok (to.Attempts n))
value_of key.Edns text = truth_field text >>= (λ t. Ok (to.Edns t))
value_of key.EdnsPayload text = number_field 16 text >>= (λ n. Ok (to.EdnsPayload n))
value_of key.ConcurrentRequests text = number_field 64 text >>= (λ n. Ok (to.ConcurrentRequests n))
value_of key.ActiveRequests text = number_field 64 text >>= (λ n. Ok (to.ActiveRequests n))
value_of key.TcpOnError text = truth_field text >>= (λ t. Ok (to.TcpOnError t))
value_of key.RecursionDesired text = truth_field text >>= (λ t. Ok (to.RecursionDesired t))
value_of key.CaseRandomization text = truth_field text >>= (λ t. Ok (to.CaseRandomization t))
value_of key.ServerOrdering text = ordering_field text >>= (λ o. Ok (to.ServerOrdering o))
value_of key.CacheOctets text = number_field 64 text >>= (λ n. Ok (to.CacheOctets n))

-- KEY VALUE, where the key is that of such an option
abbrev pub session_option : List (List ℕ) → Option (Result SessionOption LineFaultValue)
session_option (key ∷ value ∷ []) = option_map (λ k. value_of k value) (key_named key)
session_option fields = None

-- the options with this one set, and all others as they were; a timeout is in seconds
abbrev pub with_option : SessionOption → OptionsValue → OptionsValue
with_option (to.Timeout n) options = record options { timeout = n }
with_option (to.Attempts n) options = record options { attempts = n }
with_option (to.Edns t) options = record options { edns0 = t }
with_option (to.EdnsPayload n) options = record options { edns_payload_len = n }
with_option (to.ConcurrentRequests n) options = record options { num_concurrent_reqs = n }
with_option (to.ActiveRequests n) options = record options { max_active_requests = n }
with_option (to.TcpOnError t) options = record options { try_tcp_on_error = t }
with_option (to.RecursionDesired t) options = record options { recursion_desired = t }
with_option (to.CaseRandomization t) options = record options { case_randomization = t }
with_option (to.ServerOrdering o) options = record options { server_ordering_strategy = o }
with_option (to.CacheOctets n) options = record options { cache_octets = Some n }
