-- Replies that say that a look-up failed.
use Rattle.std.specs.Prelude.{ℕ, List, [], ◌∷◌, ◌++◌, Option}
use Rattle.std.specs.Option.{option_map_or}
use Rattle.hickory_proto_wire.specs.Writing.{u16_octets, weighed}
use Rattle.client_queries.specs.Refusals.{head_octets, question_octets}
use Rattle.client_queries.specs.declared.choices.TheConstants.{LARGEST_DATAGRAM}
use Rattle.client_queries.specs.declared.query.ClientEdns.{ClientEdns}
use Rattle.client_queries.specs.declared.query.ClientQuery.{ClientQuery}
use Rattle.failure_replies.specs.declared.failure.FailureReason.{FailureReason}
use Rattle.failure_replies.specs.declared.failure.FailureReason.TheVariants.{Other, CachedError, NotReady, NoReachableAuthority, NetworkError}

-- the code that says that a look-up failed (RFC 1035, section 4.1.1)
abbrev pub servfail : ℕ
servfail = 2

-- INFO-CODE (RFC 8914, section 4)
abbrev pub info_code : FailureReason → ℕ
info_code Other = 0
info_code CachedError = 13
info_code NotReady = 14
info_code NoReachableAuthority = 22
info_code NetworkError = 23

-- the option of an extended error without text: its number, its length, INFO-CODE (RFC 8914, section 2)
abbrev pub error_option : ℕ → List ℕ
error_option info = u16_octets 15 ++ u16_octets 2 ++ u16_octets info

-- OPT of version 0 with that option, and DNSSEC OK as it was asked; the code's upper bits are 0 (RFC 6891, section 6.1)
abbrev pub opt_with_error : ClientEdns → ℕ → List ℕ
opt_with_error edns info =
    0 ∷ u16_octets 41 ++ u16_octets LARGEST_DATAGRAM ++ 0 ∷ 0 ∷ u16_octets (weighed edns.dnssec_ok 32768)
    ++ u16_octets 6 ++ error_option info

-- where the query had OPT
abbrev pub error_octets : Option ClientEdns → ℕ → List ℕ
error_octets edns info = option_map_or (λ e. opt_with_error e info) edns []

-- the reply to these octets that says that the look-up failed, and why
abbrev pub failure_octets : List ℕ → ClientQuery → FailureReason → List ℕ
failure_octets octets q reason =
    head_octets q servfail ++ question_octets octets q.question_end ++ error_octets q.edns (info_code reason)
