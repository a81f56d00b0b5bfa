-- A reply that is told past its end, where nothing newer can be had (RFC 8767, section 4).
use Rattle.std.specs.Prelude.{ℕ, false, map}
use Rattle.hickory_proto_core.specs.Records.{RecordValue}
use Rattle.stored_replies.specs.Stored.{StoredValue}
use Rattle.stored_replies.specs.declared.choices.TheConstants.{STALE_TTL}

abbrev pub with_ttl : ℕ → RecordValue → RecordValue
with_ttl ttl r = record r { ttl = ttl }

-- What is told in place of it: the same, but that each TTL is `STALE_TTL`, and that it is not held for authentic. It is
-- told as of the second 0.
abbrev pub stale_of : StoredValue → StoredValue
stale_of s = record {
  query = s.query;
  kept = record {
    code = s.kept.code;
    authentic_data = false;
    answers = map (with_ttl STALE_TTL) s.kept.answers;
    authorities = map (with_ttl STALE_TTL) s.kept.authorities;
    seconds = STALE_TTL;
  };
  moment = 0;
}
