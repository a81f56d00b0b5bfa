-- The reply to a question for all types.
use Rattle.std.specs.Prelude.{ℕ, List, [], ◌∷◌, ◌++◌, codes}
use Rattle.hickory_proto_core.specs.Records.{unknown_data}
use Rattle.hickory_proto_core.specs.declared.query.Query.{Query}
use Rattle.whole_replies.specs.Kept.{KeptValue}
use Rattle.local_answers.specs.Replies.{answer, record_at}

-- To a question for all types one HINFO record, of type 13, is told: its two strings are `RFC8482` and the empty one,
-- and its TTL is an hour (RFC 8482, section 4.2; RFC 1035, section 3.3.2).
abbrev pub any_reply : Query → KeptValue
any_reply q = answer (record_at q 3600 (unknown_data 13 (7 ∷ (codes "RFC8482" ++ 0 ∷ []))) ∷ [])
