-- Findings, and the table of counts, as text.
use Rattle.std.specs.Prelude.{◌/◌, ◌%◌, ◌-◌, ◌^◌, ℕ, false, List, [], ◌++◌, codes, Option, None, Some}
use Rattle.std.specs.Fmt.{decimal, format_spec, padded_integral}
use Rattle.std.specs.List.{slice_get}
use Rattle.hickory_proto_core.specs.Codes.{response_code, response_text}
use Rattle.hickory_proto_core.specs.Records.{RecordValue}
use Rattle.hickory_proto_core.specs.Texts.{question_text, record_text}
use Rattle.trace_judge.specs.Replies.{ReplyValue}
use Rattle.trace_judge.specs.declared.classes.Class.{Class}
use Rattle.trace_judge.specs.declared.classes.Class.TheVariants.{Stale, ServedStale, Raised, AliasOutlives, NegativeOutlives, Synthesized, NeverReceived, Unseen, Unasked}
use Rattle.trace_judge.specs.declared.classes.Finding.{Finding}
use Rattle.trace_judge.specs.declared.classes.Place.{Place}
use Rattle.trace_judge.specs.declared.classes.Place.TheVariants.{Record, Response}
use Rattle.trace_judge.specs.declared.classes.Section.TheVariants.{Answer, Authority, Additional}
use Rattle.trace_judge.specs.declared.event.Moment.{Moment}
use Rattle.trace_judge.specs.declared.event.Said.{Said}
use Rattle.trace_judge.specs.declared.event.Said.TheVariants.{Asked, Received, Told}
use Rattle.trace_lines.specs.declared.reader.Placed.{Placed}
use Rattle.trace_lines.specs.declared.table.Counts.{Counts}

-- a number with zeros before it, up to three digits
abbrev pub three_digits : ℕ → List ℕ
three_digits n = padded_integral (format_spec 32 0 4 3 (2 ^ 64 - 1)) false [] (decimal n)

-- seconds, and three digits behind a dot
abbrev pub seconds_text : ℕ → ℕ → List ℕ
seconds_text seconds thousandths = decimal seconds ++ codes "." ++ three_digits thousandths

abbrev pub moment_text : Moment → List ℕ
moment_text m = seconds_text m.seconds m.milliseconds

-- so many milliseconds, as seconds
abbrev pub by_text : List ℕ → ℕ → List ℕ
by_text name by = name ++ seconds_text (by / 1000) (by % 1000)

abbrev pub class_text : Class → List ℕ
class_text (Stale by) = by_text (codes "stale by ") by
class_text (ServedStale by) = by_text (codes "served stale for ") by
class_text Raised = codes "raised"
class_text AliasOutlives = codes "alias outlives"
class_text (NegativeOutlives by) = by_text (codes "negative outlives by ") by
class_text Synthesized = codes "synthesized"
class_text NeverReceived = codes "never received"
class_text Unseen = codes "unseen"
class_text Unasked = codes "not asked"

-- the record at a place
abbrev pub record_at : ReplyValue → Place → Option RecordValue
record_at reply (Record Answer i) = slice_get reply.answers i
record_at reply (Record Authority i) = slice_get reply.authorities i
record_at reply (Record Additional i) = slice_get reply.additionals i
record_at reply Response = None

-- a record, or CODE NAME CLASS TYPE of the response
abbrev pub place_text : ReplyValue → Option RecordValue → List ℕ
place_text reply None = response_text (response_code reply.code) ++ codes " " ++ question_text reply.query
place_text reply (Some found) = record_text found

-- what a finding is said of
abbrev pub subject_text : Said → Place → List ℕ
subject_text (Asked q) place = question_text q
subject_text (Received reply) place = place_text reply (record_at reply place)
subject_text (Told reply) place = place_text reply (record_at reply place)

-- line NUMBER at MOMENT CLASS: SUBJECT
abbrev pub finding_text : Placed → Finding → List ℕ
finding_text placed finding =
    codes "line " ++ decimal placed.line ++ codes " at " ++ moment_text placed.event.moment ++ codes " "
    ++ class_text finding.class ++ codes ": " ++ subject_text placed.event.said finding.place ++ codes "\n"

-- ---- counts

-- nothing is counted yet
abbrev pub no_counts : Counts
no_counts = record {
  told = 0;
  stale = 0;
  served_stale = 0;
  raised = 0;
  alias_outlives = 0;
  negative_outlives = 0;
  synthesized = 0;
  never_received = 0;
  unseen = 0;
  not_asked = 0;
}

abbrev pub told_text : Counts → List ℕ
told_text c =
    codes "told " ++ decimal c.told ++ codes "\nstale " ++ decimal c.stale ++ codes "\nserved stale "
    ++ decimal c.served_stale ++ codes "\n"

abbrev pub received_text : Counts → List ℕ
received_text c =
    codes "raised " ++ decimal c.raised ++ codes "\nalias outlives " ++ decimal c.alias_outlives ++ codes "\n"

abbrev pub denied_text : Counts → List ℕ
denied_text c =
    codes "negative outlives " ++ decimal c.negative_outlives ++ codes "\nsynthesized " ++ decimal c.synthesized
    ++ codes "\n"

abbrev pub unseen_text : Counts → List ℕ
unseen_text c =
    codes "never received " ++ decimal c.never_received ++ codes "\nunseen " ++ decimal c.unseen ++ codes "\n"

abbrev pub unknown_text : Counts → List ℕ
unknown_text c = unseen_text c ++ codes "not asked " ++ decimal c.not_asked ++ codes "\n"

-- a line for each count
abbrev pub counts_text : Counts → List ℕ
counts_text c = told_text c ++ received_text c ++ denied_text c ++ unknown_text c
