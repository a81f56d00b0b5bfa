-- What look-ups came to.
use Rattle.std.specs.Prelude.{◌≡◌, ℕ, false, List, Option, None, Some, Ok, Err, MatchResult}
use Rattle.std.specs.Option.{is_some, option_map, unwrap_or}
use Rattle.hickory_proto_core.specs.Codes.{response_code}
use Rattle.hickory_proto_core.specs.Errors.{NoRecordsValue}
use Rattle.hickory_proto_core.specs.Messages.{MessageValue}
use Rattle.hickory_proto_core.specs.declared.net_error.DnsError.TheVariants.{ResponseCode, NoRecordsFound}
use Rattle.hickory_proto_core.specs.declared.net_error.NetError.{NetError}
use Rattle.hickory_proto_core.specs.declared.net_error.NetError.TheVariants as net
use Rattle.hickory_resolver_model.specs.Lookup.{LookupResult, LookupValue}
use Rattle.yimarotu_c.specs.LookingUp.{status_of}
use Rattle.yimarotu_c.specs.Messages.{IsMessageOrNonePut}
use Rattle.yimarotu_c.specs.Statuses.{number_of}
use Rattle.yimarotu_c.specs.declared.answering.Told.{Told}
use Rattle.yimarotu_c.specs.declared.answering.YimarotuAnswered.{YimarotuAnswered}
use Rattle.yimarotu_c.specs.declared.rewriting.YimarotuWritten.{YimarotuWritten}
use Rattle.yimarotu_c.specs.declared.status.Status.{Status}
use Rattle.yimarotu_embedded.specs.Held.{found_in}
use Rattle.yimarotu_embedded.specs.declared.held.Held.{Held}
use Rattle.yimarotu_session.specs.Messages.{negative_message, response_message}

-- an error and a response code
abbrev pub told_code : ℕ → ℕ → Told
told_code error code = record { error = error; has_ttl = false; code = code; ttl = 0; until = 0 }

abbrev pub told_negative : NoRecordsValue → Told
told_negative none = record {
  error = 1;
  has_ttl = is_some none.negative_ttl;
  code = response_code none.response_code;
  ttl = unwrap_or none.negative_ttl 0;
  until = 0;
}

abbrev pub told_error : NetError → Told
told_error (net.Dns (NoRecordsFound none)) = told_negative none
told_error (net.Dns (ResponseCode code)) = told_code 2 (response_code code)
told_error net.Timeout = told_code 3 0
told_error (net.Message text) = told_code 4 0
told_error (net.Proto error) = told_code 5 0
told_error net.NoOutcome = told_code 6 0
told_error (net.Bounds error) = told_code 7 0
told_error net.OutOfMemory = told_code 8 0

abbrev pub told_lookup : LookupValue → Told
told_lookup l = record {
  error = 0;
  has_ttl = false;
  code = response_code l.message.metadata.response_code;
  ttl = 0;
  until = l.valid_until;
}

-- what is told of a look-up beside its message
abbrev pub told_of : LookupResult → Told
told_of (Ok l) = told_lookup l
told_of (Err error) = told_error error

-- the message of what a look-up came to: records and negative answers have one
abbrev pub message_of_error : NetError → Option MessageValue
message_of_error (net.Dns (NoRecordsFound none)) = Some (negative_message none)
message_of_error other = None

abbrev pub answer_message : LookupResult → Option MessageValue
answer_message (Ok l) = Some l.message
answer_message (Err error) = message_of_error error

abbrev pub answered_end : Status → YimarotuAnswered
answered_end status = record {
  status = number_of status;
  error = 0;
  fault = 0;
  has_ttl = false;
  code = 0;
  ttl = 0;
  until = 0;
  length = 0;
}

abbrev pub answered_of : Told → YimarotuWritten → YimarotuAnswered
answered_of told written = record {
  status = written.status;
  error = told.error;
  fault = written.fault;
  has_ttl = told.has_ttl;
  code = told.code;
  ttl = told.ttl;
  until = told.until;
  length = written.length;
}

-- what a look-up came to is told, and its message is put in the room, where it has one
pub record IsFoundPut (found : LookupResult) (limit : ℕ) (before after : List ℕ) (ended : YimarotuAnswered)
    : Type 0 where
  pub written : YimarotuWritten
  pub put : IsMessageOrNonePut (option_map response_message (answer_message found)) limit before after written
  pub told : ended ≡ answered_of (told_of found) written

-- of a look-up that is not done the room stays
abbrev pub IsAnswered : ℕ → ℕ → Held → List ℕ → List ℕ → YimarotuAnswered → Type 0
IsAnswered number limit held before after ended =
    MatchResult (found_in number held) (λ found. IsFoundPut found limit before after ended)
    (λ error. (after ≡ before) × (ended ≡ answered_end (status_of error)))
