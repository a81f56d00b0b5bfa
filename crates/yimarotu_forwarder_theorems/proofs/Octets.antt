-- The first octets of replies.
use Rattle.std.proofs.Common.{◌≡◌, ℕ, Bool, true, false, List, [], ◌∷◌, ◌++◌, ◌≤◌, length, take, drop, refl, ap, subst}
use Rattle.std.specs.Prelude.{Option, None, Some, nat_le, unwrap_or, if◌then◌else◌}
use Rattle.std.specs.Option.{option_and_then}
use Rattle.hickory_proto_wire.specs.Writing.{u16_octets}
use Rattle.client_queries.specs.declared.query.Refusal.{Refusal}
use Rattle.client_requests.specs.Replies.{failure_reply, fits, refusal_reply, reply_to, stale_reply, stored_reply}
use Rattle.client_requests.specs.Requests.{IsShort, RequestValue, limit_of, question_of}
use Rattle.client_requests.specs.declared.choices.TheConstants.{LONGEST_MESSAGE}
use Rattle.client_requests.specs.declared.fetch_end.FetchEnd.{FetchEnd}
use Rattle.client_requests.specs.declared.fetch_end.FetchEnd.TheVariants.{Reply, Failure}
use Rattle.failure_replies.specs.declared.failure.FailureReason.{FailureReason}
use Rattle.failure_replies.specs.declared.failure.FailureReason.TheVariants.{Other}
use Rattle.second_chance_cache.specs.SecondChance.{CacheValue}
use Rattle.stored_replies.specs.Stale.{stale_of}
use Rattle.stored_replies.specs.Stored.{StoredValue, whole_octets}
use Rattle.yimarotu_forwarder.specs.Cached.{CachedValue}
use Rattle.yimarotu_forwarder.specs.Options.{OptionsValue}
use Rattle.yimarotu_forwarder.specs.Stale.{stale_hit_in, stale_in, told_end_in}
use Rattle.stored_replies.specs.Told.{asks_for, bare_octets, cut_octets, cut_within, reply_within, told_message, told_octets, within}
use Rattle.yimarotu_forwarder_theorems.proofs.Lengths.{failure-fits, refusal-fits, stale-fits, stored-fits}
use Rattle.yimarotu_forwarder_theorems.specs.ReplyOctets.{IsOwnReply}

front : (xs ys : List ℕ) → take (length xs) (xs ++ ys) ≡ xs
front [] ys = refl
front (x ∷ xs) ys = ap (λ (l : List ℕ). x ∷ l) (front xs ys)

pub failure-own : (r : RequestValue) (why : FailureReason) → IsOwnReply r (failure_reply r why)
failure-own r why = record { id = refl; question = front (question_of r) _; fits = failure-fits r why }

pub refusal-own : (r : RequestValue) (why : Refusal) → IsOwnReply r (refusal_reply r why)
refusal-own r why = record { id = refl; question = front (question_of r) _; fits = refusal-fits r why }

-- the first octets of a reply, however long it is
record IsBegun (r : RequestValue) (reply : List ℕ) : Type 0 where
  pub id : take 2 reply ≡ u16_octets r.query.id
  pub question : take (length (question_of r)) (drop 12 reply) ≡ question_of r

own-so : (r : RequestValue) (reply : List ℕ) → IsBegun r reply → (IsShort r → length reply ≤ limit_of r)
    → IsOwnReply r reply
own-so r reply begun few = record { id = begun.id; question = begun.question; fits = few }

told-own : (r : RequestValue) (s : StoredValue) (trust : Bool) (now : ℕ)
    → IsBegun r (told_octets r.octets r.query s trust now)
unfolding told_message whole_octets
told-own r s trust now = record { id = refl; question = front (question_of r) _ }

cut-own : (r : RequestValue) (s : StoredValue) (trust : Bool) (now : ℕ)
    → IsBegun r (cut_octets r.octets r.query s trust now)
unfolding told_message bare_octets
cut-own r s trust now = record { id = refl; question = front (question_of r) _ }

-- what is told of an answer, if anything
told-within : (most : ℕ) (written octets : List ℕ) (asks : Bool)
    → option_and_then (within most) (if asks then Some written else None) ≡ Some octets → written ≡ octets
told-within most written octets false h = absurd cc
told-within most written octets true h = by (nat_le (length written) most) h
  where
    by : (b : Bool) → (if b then Some written else None) ≡ Some octets → written ≡ octets
    by true e = cc
    by false e = absurd cc

pub stored-own : (r : RequestValue) (s : StoredValue) (trust : Bool) (now : ℕ) (octets : List ℕ)
    → stored_reply r s trust now ≡ Some octets → IsOwnReply r octets
stored-own r s trust now octets h =
    own-so r octets (by (fits r s) h) (λ short. stored-fits r s trust now octets short h)
  where
    by : (b : Bool)
        → (if b then reply_within LONGEST_MESSAGE r.octets r.query s trust now
        else cut_within LONGEST_MESSAGE r.octets r.query s trust now) ≡ Some octets
        → IsBegun r octets
    by true e =
        subst (IsBegun r)
        (told-within LONGEST_MESSAGE (told_octets r.octets r.query s trust now) octets
        (asks_for r.octets r.query s) e)
        (told-own r s trust now)
    by false e =
        subst (IsBegun r)
        (told-within LONGEST_MESSAGE (cut_octets r.octets r.query s trust now) octets (asks_for r.octets r.query s) e)
        (cut-own r s trust now)

pub reply-own : (r : RequestValue) (end : FetchEnd) (trust : Bool) (now : ℕ) → IsOwnReply r (reply_to r end trust now)
reply-own r (Failure why) trust now = failure-own r why
reply-own r (Reply s) trust now = by (stored_reply r s trust now) refl
  where
    by : (o : Option (List ℕ)) → stored_reply r s trust now ≡ o → IsOwnReply r (unwrap_or o (failure_reply r Other))
    by None is = failure-own r Other
    by (Some octets) is = stored-own r s trust now octets is

-- ---- past its end

stale-own : (r : RequestValue) (s : StoredValue) (octets : List ℕ) → stale_reply r s ≡ Some octets → IsOwnReply r octets
stale-own r s octets h = own-so r octets (by (fits r s) h) (λ short. stale-fits r s octets short h)
  where
    by : (b : Bool)
        → (if b then reply_within LONGEST_MESSAGE r.octets r.query (stale_of s) false 0
        else cut_within LONGEST_MESSAGE r.octets r.query s false 0) ≡ Some octets
        → IsBegun r octets
    by true e =
        subst (IsBegun r)
        (told-within LONGEST_MESSAGE (told_octets r.octets r.query (stale_of s) false 0) octets
        (asks_for r.octets r.query s) e)
        (told-own r (stale_of s) false 0)
    by false e =
        subst (IsBegun r)
        (told-within LONGEST_MESSAGE (cut_octets r.octets r.query s false 0) octets (asks_for r.octets r.query s) e)
        (cut-own r s false 0)

module _ (cache : CacheValue CachedValue) (r : RequestValue) (key : List ℕ) (o : OptionsValue) (now : ℕ) where
  pub stale-hit-own : (octets : List ℕ) → stale_hit_in cache r key o now ≡ Some octets → IsOwnReply r octets
  stale-hit-own octets h = by (stale_in cache key o now) h
    where
      by : (s : Option StoredValue) → option_and_then (stale_reply r) s ≡ Some octets → IsOwnReply r octets
      by None e = absurd cc
      by (Some s) e = stale-own r s octets e

  pub told-end-own : (end : FetchEnd) → IsOwnReply r (told_end_in cache r key o now end)
  told-end-own (Reply s) = reply-own r (Reply s) o.trusts_authentic_data now
  told-end-own (Failure why) = by (stale_hit_in cache r key o now) refl
    where
      by : (h : Option (List ℕ)) → stale_hit_in cache r key o now ≡ h → IsOwnReply r (unwrap_or h (failure_reply r why))
      by None is = failure-own r why
      by (Some octets) is = stale-hit-own octets is
