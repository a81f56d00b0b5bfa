-- What the core is told as a response is what octets spell.
use Rattle.std.proofs.Common.{◌≡◌, ℕ, Bool, true, false, cond, List, refl, ap, sym, ◌∙◌}
use Rattle.std.specs.Prelude.{Option, None, Some, Result, Ok, Err}
use Rattle.std.specs.Option.{option_and_then}
use Rattle.hickory_proto_core.specs.Messages.{MessageValue}
use Rattle.hickory_proto_wire.specs.Messages.{message_of}
use Rattle.hickory_proto_wire.specs.declared.wire_error.WireFault.{WireFault}
use Rattle.hickory_proto_wire.specs.declared.wire_message.WireMessage.{WireMessage}
use Rattle.hickory_proto_core.specs.Name.{NameValue}
use Rattle.hickory_resolver_flights.specs.Flights.{KeptValue}
use Rattle.hickory_resolver_tries.specs.Heads.{head_of}
use Rattle.hickory_resolver_tries.specs.Outcome.{is_truncated, message_if, with_letters}
use Rattle.hickory_resolver_pool.specs.Over.{OverValue, is_of_reply, reply_of, answered_with, IsToldToCore, IsCoreOutcome}
use Rattle.hickory_resolver_pool.specs.Over as over
use Rattle.hickory_resolver_pool.specs.declared.over.PoolOutcome.{PoolOutcome}
use Rattle.hickory_resolver_pool.specs.declared.over.PoolOutcome.TheVariants.{Response, Cut, Code, Unreachable, Timeout, Overloaded}
use Rattle.hickory_resolver_pool_theorems.specs.Handles.{IsReadOfOctets, CoreIsToldWhatCame}
use Rattle.hickory_resolver_pool_theorems.specs.MadeUp.{HasBelievedReply}
use Rattle.hickory_resolver_pool_theorems.specs.Runs.{Happening}
use Rattle.hickory_resolver_pool_theorems.proofs.MadeUp.{nothing_is_made_up}

-- a message that the core is told is that of a response
is-response : (o : PoolOutcome) (message : Option WireMessage) (m : MessageValue) → IsToldToCore o message (Ok m)
    → (o ≡ Response) × (Ok m ≡ answered_with message)
is-response Response message m told = (refl, told)
is-response Cut message m told = absurd told
is-response Code message m told = absurd cc
is-response Unreachable message m told = absurd told
is-response Timeout message m told = absurd cc
is-response Overloaded message m told = absurd told

pub record IsRead (octets : List ℕ) (asked : NameValue) (w : WireMessage) : Type 0 where
  pub read : WireMessage
  pub spelled : message_of octets ≡ Ok read
  pub whole : is_truncated (head_of octets) ≡ false
  pub letters : w ≡ with_letters asked read

is-read : (octets : List ℕ) (asked : NameValue) (w : WireMessage)
    → Some w ≡ message_if (is_truncated (head_of octets)) asked (message_of octets) → IsRead octets asked w
is-read octets asked w e = by (message_of octets) refl (is_truncated (head_of octets)) refl e
  where
    by : (r : Result WireMessage WireFault) → message_of octets ≡ r → (cut : Bool)
        → is_truncated (head_of octets) ≡ cut → Some w ≡ message_if cut asked r → IsRead octets asked w
    by (Err fault) is cut c h = absurd cc
    by (Ok read) is true c h = absurd cc
    by (Ok read) is false c h = record {
      read = read;
      spelled = is;
      whole = c;
      letters = let same : w ≡ with_letters asked read = cc in same;
    }

module _ (past : List Happening) (o : OverValue) (m : MessageValue) where
  read-of : (response : o.outcome ≡ Response) (kept : Option KeptValue) → o.kept ≡ kept
      → HasBelievedReply past o kept
      → Ok m ≡ answered_with (option_and_then (λ k. k.message) kept) → IsReadOfOctets past o m
  read-of response None has found told = absurd found
  read-of response (Some k) has found told = by k.message refl told
    where
      by : (w : Option WireMessage) → k.message ≡ w → Ok m ≡ answered_with w → IsReadOfOctets past o m
      by None is e = absurd cc
      by (Some w) is e =
          let r = is-read k.octets o.question.query.name w (sym is ∙ found.spelled) in
          let same : m ≡ w.message = cc in
          record {
            reply = k;
            believed = found;
            read = r.read;
            spelled = r.spelled;
            whole = r.whole;
            told = same ∙ ap (λ (x : WireMessage). x.message) r.letters;
          }

pub core_is_told_what_came : CoreIsToldWhatCame
core_is_told_what_came options limits seed past s after o m runs steps told =
    let is = is-response o.outcome (over.message_of o) m told in
    let reply : is_of_reply o.outcome ≡ true = ap (λ (x : PoolOutcome). is_of_reply x) is.0 in
    let found = nothing_is_made_up options limits seed past s after o runs steps reply in
    let kept : Ok m ≡ answered_with (option_and_then (λ k. k.message) o.kept) =
    is.1 ∙ ap (λ (b : Bool). answered_with (option_and_then (λ k. k.message) (cond b o.kept None))) reply in
    read-of past o m is.0 o.kept refl found kept
