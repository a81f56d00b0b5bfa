-- What was sent and what came stays so, whatever happens after it.
use Rattle.std.proofs.Common.{◌≡◌, ℕ, Bool, true, false, cond, List, [], ◌∷◌, ◌++◌, refl, ap, sym, ◌∙◌, append_assoc, append-nil, inl, inr, eqb, ◌&&◌}
use Rattle.std.specs.Prelude.{Contains}
use Rattle.std.proofs.lemmas.List.Elements.{Contains-append_left}
use Rattle.hickory_resolver_pool.specs.Laws.{time_passes, group_has, is_asked, octets_come, channel_fails, is_forgotten}
use Rattle.hickory_resolver_flights.specs.Flights.{KeptValue}
use Rattle.hickory_resolver_tries.specs.declared.pool_question.PoolQuestion.{PoolQuestion}
use Rattle.hickory_resolver_pool.specs.declared.over.PoolOutcome.{PoolOutcome}
use Rattle.hickory_resolver_pool_theorems.specs.Runs.{Happening, came, did}
use Rattle.hickory_resolver_pool_theorems.specs.Wire.{WasSent, CameOn, IsMessageOf, datagrams_on, stream_on, is_open_datagram, is_open_stream}
use Rattle.hickory_resolver_pool_theorems.specs.MadeUp.{IsBelievedReply}

module _ (a : Happening) (past : List Happening) where
  pub sent-more : (n channel id : ℕ) (message : List ℕ) → WasSent past n channel id message
      → WasSent (a ∷ past) n channel id message
  sent-more n channel id message w = record {
    later = a ∷ w.later;
    earlier = w.earlier;
    pool = w.pool;
    kind = w.kind;
    happened = ap (λ (p : List Happening). a ∷ p) w.happened;
    of_transaction = w.of_transaction;
  }

  pub reply-more : (n : ℕ) (q : PoolQuestion) (told : PoolOutcome) (k : KeptValue) → IsBelievedReply past n q told k
      → IsBelievedReply (a ∷ past) n q told k
  reply-more n q told k b = record {
    later = a ∷ b.later;
    earlier = b.earlier;
    tried = b.tried;
    happened = ap (λ (p : List Happening). a ∷ p) b.happened;
    sent = b.sent;
    came = b.came;
    believed = b.believed;
    spelled = b.spelled;
    told_is = b.told_is;
  }

-- ---- datagrams, and streams

datagram-if : (b : Bool) (xs : List (List ℕ)) (octets found : List ℕ) → Contains xs found
    → Contains (cond b (xs ++ octets ∷ []) xs) found
datagram-if true xs octets found c = Contains-append_left xs (octets ∷ []) found c
datagram-if false xs octets found c = c

pub datagrams-more : (a : Happening) (past : List Happening) (channel : ℕ) (found : List ℕ)
    → Contains (datagrams_on channel past) found → Contains (datagrams_on channel (a ∷ past)) found
datagrams-more (came s (octets_come number octets now)) past channel found c =
    datagram-if (eqb number channel && is_open_datagram channel s) (datagrams_on channel past) octets found c
datagrams-more (came s (time_passes now)) past channel found c = c
datagrams-more (came s (group_has group servers)) past channel found c = c
datagrams-more (came s (is_asked group query options dnssec now)) past channel found c = c
datagrams-more (came s (channel_fails f now)) past channel found c = c
datagrams-more (came s (is_forgotten asker)) past channel found c = c
datagrams-more (did s r) past channel found c = c

-- a stream that goes on
pub record GoesOn (before after : List ℕ) : Type 0 where
  pub more : List ℕ
  pub is : after ≡ before ++ more

pub goes-not : (stream : List ℕ) → GoesOn stream stream
goes-not stream = record { more = []; is = sym (append-nil stream) }

goes-if : (b : Bool) (stream octets : List ℕ) → GoesOn stream (cond b (stream ++ octets) stream)
goes-if true stream octets = record { more = octets; is = refl }
goes-if false stream octets = goes-not stream

pub stream-more : (a : Happening) (past : List Happening) (channel : ℕ)
    → GoesOn (stream_on channel past) (stream_on channel (a ∷ past))
stream-more (came s (octets_come number octets now)) past channel =
    goes-if (eqb number channel && is_open_stream channel s) (stream_on channel past) octets
stream-more (came s (time_passes now)) past channel = goes-not (stream_on channel past)
stream-more (came s (group_has group servers)) past channel = goes-not (stream_on channel past)
stream-more (came s (is_asked group query options dnssec now)) past channel = goes-not (stream_on channel past)
stream-more (came s (channel_fails f now)) past channel = goes-not (stream_on channel past)
stream-more (came s (is_forgotten asker)) past channel = goes-not (stream_on channel past)
stream-more (did s r) past channel = goes-not (stream_on channel past)

longer : (b : List ℕ) (h l : ℕ) (m x y : List ℕ)
    → (b ++ h ∷ l ∷ (m ++ x)) ++ y ≡ b ++ h ∷ l ∷ (m ++ (x ++ y))
longer b h l m x y = append_assoc b (h ∷ l ∷ (m ++ x)) y ∙ ap (λ (s : List ℕ). b ++ h ∷ l ∷ s) (append_assoc m x y)

message-more : (before after message : List ℕ) → GoesOn before after → IsMessageOf before message
    → IsMessageOf after message
message-more before after message g m = record {
  before = m.before;
  behind = m.behind ++ g.more;
  high = m.high;
  low = m.low;
  stands = g.is ∙ ap (λ (s : List ℕ). s ++ g.more) m.stands ∙ longer m.before m.high m.low message m.behind g.more;
  length_is = m.length_is;
}

pub came-more : (a : Happening) (past : List Happening) (channel : ℕ) (octets : List ℕ) → CameOn past channel octets
    → CameOn (a ∷ past) channel octets
came-more a past channel octets (inl datagram) = inl (datagrams-more a past channel octets datagram)
came-more a past channel octets (inr message) =
    inr (message-more (stream_on channel past) (stream_on channel (a ∷ past)) octets (stream-more a past channel) message)
