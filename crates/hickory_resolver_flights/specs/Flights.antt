-- A question in flight: its transaction, and what is made of octets that come for it.
use Rattle.std.specs.Prelude.{ℕ, ◌+◌, Bool, false, ◌==◌, List, Option, None, Some, if◌then◌else◌}
use Rattle.std.specs.Option.{option_map, option_map_or}
use Rattle.hickory_proto_wire.specs.Messages.{message_of}
use Rattle.hickory_proto_wire.specs.declared.wire_message.WireMessage.{WireMessage}
use Rattle.hickory_resolver_servers.specs.Server.{ServerState}
use Rattle.hickory_resolver_tries.specs.Belief.{belief_of}
use Rattle.hickory_resolver_tries.specs.Heads.{head_of}
use Rattle.hickory_resolver_tries.specs.Outcome.{is_truncated, message_if}
use Rattle.hickory_resolver_tries.specs.Outcome as reply
use Rattle.hickory_resolver_tries.specs.Tries.{octets_of_try}
use Rattle.hickory_resolver_tries.specs.declared.belief.Belief.{Belief}
use Rattle.hickory_resolver_tries.specs.declared.belief.Belief.TheVariants as belief
use Rattle.hickory_resolver_tries.specs.declared.outcome.ReplyOutcome.{ReplyOutcome}
use Rattle.hickory_resolver_tries.specs.declared.pool_question.PoolQuestion.{PoolQuestion}
use Rattle.hickory_resolver_tries.specs.declared.try_message.TryForm.{TryForm}
use Rattle.hickory_resolver_transactions.specs.Transaction.{TransactionState, begun_with, came, opt_was_refused, other_letters_came, sent, try_at, try_to_send, named}
use Rattle.hickory_resolver_transactions.specs.declared.candidate.Made.{Made}
use Rattle.hickory_resolver_transactions.specs.declared.candidate.Try.{Try}
use Rattle.hickory_resolver_transactions.specs.declared.settings.Settings.{Settings}
use Rattle.hickory_resolver_flights.specs.declared.heard.Heard.{Heard}
use Rattle.hickory_resolver_flights.specs.declared.heard.Heard.TheVariants.{Nothing, OtherLetters, OptRefused, Reply}

-- a reply that was believed: its number, its octets, and the message that they spell, with the letters that were asked,
-- unless they were cut or spell none
pub record KeptValue : Type 0 where
  pub number : ℕ
  pub octets : List ℕ
  pub message : Option WireMessage

-- how many replies were believed, and the one that the transaction names
pub record FlightState : Type 0 where
  pub question : PoolQuestion
  pub transaction : TransactionState
  pub replies : ℕ
  pub kept : Option KeptValue

abbrev pub flight_of : Settings → List ServerState → PoolQuestion → FlightState
flight_of settings servers question = record {
  question = question;
  transaction = begun_with settings servers;
  replies = 0;
  kept = None;
}

-- ---- sending

abbrev pub octets_to_send : Made → FlightState → Option (List ℕ)
octets_to_send made s = option_map (λ t. octets_of_try s.question t.form) (try_to_send made s.transaction)

abbrev pub sent_by : Made → FlightState → FlightState
sent_by made s = record s { transaction = sent made s.transaction }

-- ---- what came

abbrev pub names : ℕ → TransactionState → Bool
names number t = option_map_or (λ n. n == number) (named t) false

abbrev pub kept_of : List ℕ → FlightState → KeptValue
kept_of octets s = record {
  number = s.replies;
  octets = octets;
  message = message_if (is_truncated (head_of octets)) s.question.query.name (message_of octets);
}

-- a reply that is named is kept, in the place of the one before
abbrev pub with_reply : Option KeptValue → TransactionState → FlightState → FlightState
with_reply kept after s = record s {
  transaction = after;
  replies = s.replies + 1;
  kept = if names s.replies after then kept else s.kept;
}

abbrev pub settled : ℕ → ℕ → ReplyOutcome → Option KeptValue → FlightState → FlightState
settled channel id outcome kept s = with_reply kept (came channel id outcome s.replies s.transaction) s

abbrev pub replied : ℕ → ℕ → Try → List ℕ → FlightState → FlightState
replied channel id t octets s =
    settled channel id (reply.outcome_of s.question t.form octets) (Some (kept_of octets s)) s

abbrev pub heard_as : Belief → ℕ → ℕ → Try → List ℕ → FlightState → FlightState
heard_as belief.Believed channel id t octets s = replied channel id t octets s
heard_as belief.OtherLetters channel id t octets s =
    record s { transaction = other_letters_came channel id s.transaction }
heard_as belief.OptRefused channel id t octets s = record s { transaction = opt_was_refused channel id s.transaction }
heard_as belief.NotBelieved channel id t octets s = s

abbrev pub heard_by : ℕ → ℕ → List ℕ → FlightState → Try → FlightState
heard_by channel id octets s t = heard_as (belief_of s.question t.form octets) channel id t octets s

-- Octets came on a channel, with this number in their header. Where there is no such try, nothing changes.
abbrev pub heard : ℕ → ℕ → List ℕ → FlightState → FlightState
heard channel id octets s = option_map_or (heard_by channel id octets s) (try_at channel id s.transaction) s

-- what they were
abbrev pub meaning_as : Belief → PoolQuestion → TryForm → List ℕ → Heard
meaning_as belief.Believed q form octets = Reply (reply.outcome_of q form octets)
meaning_as belief.OtherLetters q form octets = OtherLetters
meaning_as belief.OptRefused q form octets = OptRefused
meaning_as belief.NotBelieved q form octets = Nothing

abbrev pub meaning_to : List ℕ → FlightState → Try → Heard
meaning_to octets s t = meaning_as (belief_of s.question t.form octets) s.question t.form octets

abbrev pub meaning : ℕ → ℕ → List ℕ → FlightState → Heard
meaning channel id octets s = option_map_or (meaning_to octets s) (try_at channel id s.transaction) Nothing

-- ---- all else is done with the transaction alone

abbrev pub changed : (TransactionState → TransactionState) → FlightState → FlightState
changed change s = record s { transaction = change s.transaction }
