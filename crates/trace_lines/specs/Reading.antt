-- The events of a trace: each begins with a line of its own, gets the records of the lines behind it, and is whole
-- where the next one begins or a blank line stands.
use Rattle.std.specs.Prelude.{◌≡◌, ◌⊎◌, ◌+◌, ◌-◌, ◌^◌, ℕ, List, [], ◌∷◌, ◌++◌, max, min, nat_lt, Option, None, Some, Result, Ok, Err, MatchResult, if◌then◌else◌}
use Rattle.hickory_proto_core.specs.Records.{RecordValue}
use Rattle.replay_script.specs.Faults.{LineFaultValue, out_of_memory, wrong_line}
use Rattle.replay_script.specs.declared.fault.ScriptFault.TheVariants.{MomentBack, NoReply}
use Rattle.replay_script.specs.declared.record_line.Section.{Section}
use Rattle.replay_script.specs.declared.record_line.Section.TheVariants.{Additional, Answer, Authority}
use Rattle.replay_script.specs.declared.reply_line.ReplyHead.{ReplyHead}
use Rattle.trace_judge.specs.Replies.{ReplyValue}
use Rattle.trace_judge.specs.Trace.{milliseconds_of}
use Rattle.trace_judge.specs.declared.event.Moment.{Moment}
use Rattle.trace_judge.specs.declared.event.Said.{Said}
use Rattle.trace_judge.specs.declared.event.Said.TheVariants as said
use Rattle.trace_lines.specs.Lines.{IsLine}
use Rattle.trace_lines.specs.declared.line.TraceLine.{TraceLine}
use Rattle.trace_lines.specs.declared.line.TraceLine.TheVariants as line
use Rattle.trace_lines.specs.declared.opening.Opening.{Opening}
use Rattle.trace_lines.specs.declared.opening.Opening.TheVariants.{Asked, Received, Told}
use Rattle.trace_lines.specs.declared.reader.Placed.{Placed}

-- a response before it has records
abbrev pub opened : ReplyHead → ReplyValue
opened head = record {
  query = head.query;
  code = head.code;
  truncated = head.truncated;
  answers = [];
  authorities = [];
  additionals = [];
}

-- what an event says before it has records
abbrev pub begun : Opening → Said
begun (Asked q) = said.Asked q
begun (Received head) = said.Received (opened head)
begun (Told head) = said.Told (opened head)

-- one more record of a section
abbrev pub with_record : Section → RecordValue → ReplyValue → ReplyValue
with_record Answer found reply = record reply { answers = reply.answers ++ found ∷ [] }
with_record Authority found reply = record reply { authorities = reply.authorities ++ found ∷ [] }
with_record Additional found reply = record reply { additionals = reply.additionals ++ found ∷ [] }

-- records belong to responses
abbrev pub put_to : Section → RecordValue → Said → Result Said LineFaultValue
put_to section found (said.Asked q) = Err (wrong_line NoReply)
put_to section found (said.Received reply) = Ok (said.Received (with_record section found reply))
put_to section found (said.Told reply) = Ok (said.Told (with_record section found reply))

-- how many lines were read, the event that may still get records, and the latest moment in milliseconds
pub record ReaderValue : Type 0 where
  pub lines : ℕ
  pub open_event : Option Placed
  pub latest : ℕ

-- before the first line
abbrev pub unread : ReaderValue
unread = record { lines = 0; open_event = None; latest = 0 }

-- what is whole with a line, and what is kept behind it
abbrev pub Step : Type 0
Step = Result (Option Placed × ReaderValue) LineFaultValue

abbrev pub with_said : ReaderValue → Placed → Result Said LineFaultValue → Step
with_said reader placed (Ok s) =
    Ok (None, record reader { open_event = Some (record placed { event = record placed.event { said = s } }) })
with_said reader placed (Err fault) = Err fault

abbrev pub with_found : ReaderValue → Section → RecordValue → Option Placed → Step
with_found reader section found None = Err (wrong_line NoReply)
with_found reader section found (Some placed) = with_said reader placed (put_to section found placed.event.said)

abbrev pub placed_at : ℕ → Moment → Opening → Placed
placed_at number moment o = record { line = number; event = record { moment = moment; said = begun o } }

-- an event may be up to 50 milliseconds before the latest one
abbrev pub with_event : ReaderValue → Moment → Opening → Step
with_event reader moment o =
    if nat_lt (milliseconds_of moment + 50) reader.latest then Err (wrong_line MomentBack)
    else Ok (
      reader.open_event,
      record reader {
        open_event = Some (placed_at reader.lines moment o);
        latest = max reader.latest (milliseconds_of moment);
      },
    )

-- what a line does, by what it says
abbrev pub with_line : ReaderValue → TraceLine → Step
with_line reader line.Blank = Ok (reader.open_event, record reader { open_event = None })
with_line reader line.Comment = Ok (None, reader)
with_line reader (line.Begins moment o) = with_event reader moment o
with_line reader (line.Record section found) = with_found reader section found reader.open_event

abbrev pub with_read : ReaderValue → Result TraceLine LineFaultValue → Step
with_read reader (Ok read) = with_line reader read
with_read reader (Err fault) = Err fault

-- one more line is counted, up to what 64 bits hold
abbrev pub counted : ReaderValue → ReaderValue
counted reader = record reader { lines = min (reader.lines + 1) (2 ^ 64 - 1) }

-- a line is read, or it has a fault there
abbrev pub IsTaken : ReaderValue → List ℕ → Result (Option Placed) LineFaultValue → ReaderValue → Type 0
IsTaken before text result after =
    MatchResult result
    (λ whole. (read : Result TraceLine LineFaultValue) × IsLine text read
    × (with_read (counted before) read ≡ Ok (whole, after)))
    (λ fault. ((fault ≡ out_of_memory)
    ⊎ ((read : Result TraceLine LineFaultValue) × IsLine text read × (with_read (counted before) read ≡ Err fault)))
    × (after.lines ≡ (counted before).lines))
