-- Whole replies that are told for no longer than so many seconds.
use Rattle.std.specs.Prelude.{ℕ, map, min}
use Rattle.hickory_resolver_model.specs.Verdict.{with_ttl_at_most}
use Rattle.whole_replies.specs.Kept.{KeptValue}

-- A resolver may bound each TTL that it received (RFC 2181, section 8).
abbrev pub capped : ℕ → KeptValue → KeptValue
capped greatest k = record k {
  answers = map (with_ttl_at_most greatest) k.answers;
  authorities = map (with_ttl_at_most greatest) k.authorities;
  seconds = min k.seconds greatest;
}
