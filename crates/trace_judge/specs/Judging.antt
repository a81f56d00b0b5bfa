-- What a judge finds in a trace, and what it keeps of the lines that it has heard.
use Rattle.std.specs.Prelude.{◌≡◌, ◌≤◌, ◌&&◌, ℕ, Bool, false, not, nat_le, List, [], filter, max, Option, unwrap_or}
use Rattle.std.specs.List.{list_any}
use Rattle.hickory_proto_core.specs.Query.{query_eq}
use Rattle.hickory_proto_core.specs.declared.query.Query.{Query}
use Rattle.trace_judge.specs.Asks.{answers, asks, is_ask_from}
use Rattle.trace_judge.specs.Denials.{denial_deadline, denials}
use Rattle.trace_judge.specs.Evidence.{EvidenceValue}
use Rattle.trace_judge.specs.Findings.{told_findings, when}
use Rattle.trace_judge.specs.Forgetting.{latest, oldest}
use Rattle.trace_judge.specs.Index.{DeniedValue, Forgets, ForgetsDenials, ForgetsGaps, ForgetsMoments, GapsSee, GapsValue, IndexValue, SeesAs, count_at, is_since, latest_at, times, type_key, whole_key}
use Rattle.trace_judge.specs.Receptions.{deadline, receptions}
use Rattle.trace_judge.specs.RecordKeys.{KeyValue}
use Rattle.trace_judge.specs.Trace.{is_counted, milliseconds_of, open_questions, start_in}
use Rattle.trace_judge.specs.declared.asks.Ask.{Ask}
use Rattle.trace_judge.specs.declared.classes.Class.TheVariants.{Unasked}
use Rattle.trace_judge.specs.declared.classes.Finding.{Finding}
use Rattle.trace_judge.specs.declared.classes.Place.TheVariants as place
use Rattle.trace_judge.specs.declared.denials.Denial.{Denial}
use Rattle.trace_judge.specs.declared.denials.Denied.{Denied}
use Rattle.trace_judge.specs.declared.denials.Denied.TheVariants.{WholeName, OneType}
use Rattle.trace_judge.specs.declared.event.Event.{Event}
use Rattle.trace_judge.specs.declared.event.Moment.{Moment}
use Rattle.trace_judge.specs.declared.event.Said.{Said}
use Rattle.trace_judge.specs.declared.event.Said.TheVariants.{Asked, Received, Told}
use Rattle.trace_judge.specs.Options.{OptionsValue}
use Rattle.trace_judge.specs.declared.receptions.Reception.{Reception}

-- What there is to judge a telling at this moment by: all that was received before it, and is not forgotten.
abbrev pub evidence_of : OptionsValue → List Event → Moment → EvidenceValue
evidence_of options past now =
    let before = oldest options.slack (max (latest past) (milliseconds_of now)) in record {
      slack = options.slack;
      local = options.local;
      own = options.own;
      dns64 = options.dns64;
      start = unwrap_or (start_in past) now;
      received = filter (λ r. nat_le before (deadline r)) (receptions past);
      denied = filter (λ d. nat_le before (denial_deadline d)) (denials past);
      asks = filter (λ a. nat_le before (milliseconds_of a.moment)) (asks past);
      answers = filter (λ a. nat_le before (milliseconds_of a.moment)) (answers past);
    }

-- what is found in a line, with whether its question was open where it is received
abbrev pub findings_by : Bool → EvidenceValue → Moment → Said → List Finding
findings_by counts e now (Asked q) = []
findings_by counts e now (Received reply) = when (not counts) place.Response Unasked
findings_by counts e now (Told reply) = told_findings e now reply

-- what is found in a line, of which `past` stands before it
abbrev pub event_findings : OptionsValue → List Event → Event → List Finding
event_findings options past event =
    findings_by (is_counted past event.said) (evidence_of options past event.moment) event.moment event.said

-- what a judge keeps
pub record JudgeValue : Type 0 where
  pub options : OptionsValue
  pub start : Option Moment
  pub clock : ℕ
  pub open_counts : List (Query × ℕ)
  pub seen : List (KeyValue × List Reception)
  pub gaps : GapsValue
  pub asked : List (Query × ℕ)
  pub answered : List (Query × ℕ)
  pub denied : DeniedValue

-- each question is open as often as it is among these
abbrev pub CountsOpen : List (Query × ℕ) → List Query → Type 0
CountsOpen counts open_ones = (q : Query) → count_at counts q ≡ times q open_ones

-- from a moment on, the index says what these questions do
abbrev pub NotesAs : ℕ → List (Query × ℕ) → List Ask → Type 0
NotesAs before moments among =
    (q : Query) (since : ℕ) → before ≤ since
    → is_since since (latest_at moments q) ≡ list_any (is_ask_from q since) among

-- a denial of a type, or of a whole name, by the question that stands for it
abbrev pub is_type_denial : Query → ℕ → Denial → Denied → Bool
is_type_denial key until d WholeName = false
is_type_denial key until d (OneType t) =
    query_eq key (type_key d.dns_class d.name t) && nat_le until (denial_deadline d)

abbrev pub is_whole_denial : Query → ℕ → Denial → Denied → Bool
is_whole_denial key until d WholeName =
    query_eq key (whole_key d.dns_class d.name) && nat_le until (denial_deadline d)
is_whole_denial key until d (OneType t) = false

-- from a moment on, the index says what these denials do
pub record DeniesAs (before : ℕ) (index : DeniedValue) (ds : List Denial) : Type 0 where
  pub types_are : (key : Query) (until : ℕ) → before ≤ until
      → is_since until (latest_at index.types key) ≡ list_any (λ d. is_type_denial key until d d.denied) ds
  pub names_are : (key : Query) (until : ℕ) → before ≤ until
      → is_since until (latest_at index.names key) ≡ list_any (λ d. is_whole_denial key until d d.denied) ds

-- what a telling at this moment is judged by
abbrev pub index_of : JudgeValue → Moment → ℕ → IndexValue
index_of judge now before = record {
  slack = judge.options.slack;
  oldest = before;
  local = judge.options.local;
  own = judge.options.own;
  dns64 = judge.options.dns64;
  start = unwrap_or judge.start now;
  seen = judge.seen;
  gaps = judge.gaps;
  asked = judge.asked;
  answered = judge.answered;
  denied = judge.denied;
}

-- nothing is forgotten but what ran out before a moment
pub record ForgetsAll (moment : ℕ) (before after : JudgeValue) : Type 0 where
  pub options_are : after.options ≡ before.options
  pub start_is : after.start ≡ before.start
  pub clock_is : after.clock ≡ before.clock
  pub open_are : after.open_counts ≡ before.open_counts
  pub seen_are : Forgets moment before.seen after.seen
  pub gaps_are : ForgetsGaps moment before.gaps after.gaps
  pub asked_are : ForgetsMoments moment before.asked after.asked
  pub answered_are : ForgetsMoments moment before.answered after.answered
  pub denied_are : ForgetsDenials moment before.denied after.denied

-- the judge has heard these lines, the latest first, and no others
pub record Keeps (options : OptionsValue) (past : List Event) (judge : JudgeValue) : Type 0 where
  pub options_are : judge.options ≡ options
  pub start_is : judge.start ≡ start_in past
  pub clock_is : judge.clock ≡ latest past
  pub open_are : CountsOpen judge.open_counts (open_questions past)
  pub seen_are : SeesAs (oldest options.slack (latest past)) judge.seen (receptions past)
  pub gaps_are : GapsSee (oldest options.slack (latest past)) judge.gaps (receptions past)
  pub asked_are : NotesAs (oldest options.slack (latest past)) judge.asked (asks past)
  pub answered_are : NotesAs (oldest options.slack (latest past)) judge.answered (answers past)
  pub denied_are : DeniesAs (oldest options.slack (latest past)) judge.denied (denials past)
