-- What is told of a trace: of the classes that hold, those that are findings, and how often each held.
use Rattle.std.specs.Prelude.{◌≡◌, ◌+◌, ◌-◌, ◌*◌, ◌^◌, ℕ, Bool, true, false, not, ◌&&◌, ◌||◌, ◌==◌, nat_le, min, List, [], ◌∷◌, ◌++◌, filter, fold, map, Option, None, Some}
use Rattle.std.specs.List.{flat_map, list_any}
use Rattle.trace_judge.specs.Judging.{JudgeValue, Keeps, event_findings}
use Rattle.trace_judge.specs.Options.{OptionsValue}
use Rattle.trace_judge.specs.declared.classes.Class.{Class}
use Rattle.trace_judge.specs.declared.classes.Class.TheVariants.{Stale, ServedStale, Raised, AliasOutlives, NegativeOutlives, Synthesized, NeverReceived, Unseen, Unasked}
use Rattle.trace_judge.specs.declared.classes.Finding.{Finding}
use Rattle.trace_judge.specs.declared.classes.Place.{Place}
use Rattle.trace_judge.specs.declared.classes.Place.TheVariants.{Record, Response}
use Rattle.trace_judge.specs.declared.classes.Section.{Section}
use Rattle.trace_judge.specs.declared.classes.Section.TheVariants.{Answer, Authority, Additional}
use Rattle.trace_judge.specs.declared.event.Event.{Event}
use Rattle.trace_judge.specs.declared.event.Said.{Said}
use Rattle.trace_judge.specs.declared.event.Said.TheVariants.{Asked, Received, Told}
use Rattle.trace_lines.specs.Printing.{finding_text, no_counts}
use Rattle.trace_lines.specs.declared.reader.Placed.{Placed}
use Rattle.trace_lines.specs.declared.verdict.Strictness.{Strictness}
use Rattle.trace_lines.specs.declared.table.Counts.{Counts}

-- served stale, so many milliseconds after it ran out at the most
abbrev pub is_served_within : ℕ → Class → Bool
is_served_within longest (ServedStale by) = nat_le by longest
is_served_within longest other = false

abbrev pub section_number : Section → ℕ
section_number Answer = 0
section_number Authority = 1
section_number Additional = 2

abbrev pub is_same_place : Place → Place → Bool
is_same_place (Record s i) (Record t j) = (section_number s == section_number t) && (i == j)
is_same_place Response Response = true
is_same_place place other = false

-- of this place it is so
abbrev pub is_served_at : ℕ → Finding → Finding → Bool
is_served_at longest finding other = is_same_place other.place finding.place && is_served_within longest other.class

-- what a finding is said of may be served stale, for so many seconds
abbrev pub may_be_served : Option ℕ → List Finding → Finding → Bool
may_be_served None found finding = false
may_be_served (Some seconds) found finding = list_any (is_served_at (1000 * seconds) finding) found

-- What is found: what was not received in the first day only where the trace begins with an empty cache; what may be
-- served stale not for so long. What the resolver makes by itself is no finding, nor is what was not asked.
abbrev pub is_finding_of : Strictness → List Finding → Finding → Class → Bool
is_finding_of strict found finding Unseen = strict.cold
is_finding_of strict found finding Unasked = false
is_finding_of strict found finding Synthesized = false
is_finding_of strict found finding (Stale by) = not (may_be_served strict.serve_stale found finding)
is_finding_of strict found finding (ServedStale by) = not (may_be_served strict.serve_stale found finding)
is_finding_of strict found finding Raised = not (may_be_served strict.serve_stale found finding)
is_finding_of strict found finding other = true

abbrev pub is_finding : Strictness → List Finding → Finding → Bool
is_finding strict found finding = is_finding_of strict found finding finding.class

abbrev pub is_unasked : Class → Bool
is_unasked Unasked = true
is_unasked other = false

-- what was received and not asked is told of, and is no finding
abbrev pub is_told_of : Strictness → List Finding → Finding → Bool
is_told_of strict found finding = is_unasked finding.class || is_finding strict found finding

-- the lines that tell of an event in which these classes hold
abbrev pub event_text : Strictness → Placed → List Finding → List ℕ
event_text strict placed found = flat_map (finding_text placed) (filter (is_told_of strict found) found)

-- one more, up to what 64 bits hold
abbrev pub one_more : ℕ → ℕ
one_more n = min (n + 1) (2 ^ 64 - 1)

abbrev pub with_class : Counts → Class → Counts
with_class c (Stale by) = record c { stale = one_more c.stale }
with_class c (ServedStale by) = record c { served_stale = one_more c.served_stale }
with_class c Raised = record c { raised = one_more c.raised }
with_class c AliasOutlives = record c { alias_outlives = one_more c.alias_outlives }
with_class c (NegativeOutlives by) = record c { negative_outlives = one_more c.negative_outlives }
with_class c Synthesized = record c { synthesized = one_more c.synthesized }
with_class c NeverReceived = record c { never_received = one_more c.never_received }
with_class c Unseen = record c { unseen = one_more c.unseen }
with_class c Unasked = record c { not_asked = one_more c.not_asked }

abbrev pub with_telling : Counts → Said → Counts
with_telling c (Asked q) = c
with_telling c (Received reply) = c
with_telling c (Told reply) = record c { told = one_more c.told }

-- with an event in which these classes hold
abbrev pub with_found : Counts → Said → List Finding → Counts
with_found c said found = fold (λ n finding. with_class n finding.class) (with_telling c said) found

-- ---- a whole trace

-- the events, of which the latest comes first, as a judge hears them
abbrev pub heard : List Placed → List Event
heard past = map (λ p. p.event) past

-- the classes that hold in the latest of these events
abbrev pub found_at : OptionsValue → List Placed → Placed → List Finding
found_at options past placed = event_findings options (heard past) placed.event

-- the lines that tell of these events
abbrev pub told_text : OptionsValue → Strictness → List Placed → List ℕ
told_text options strict [] = []
told_text options strict (placed ∷ past) =
    told_text options strict past ++ event_text strict placed (found_at options past placed)

-- how often each class was found in them
abbrev pub counts_of : OptionsValue → List Placed → Counts
counts_of options [] = no_counts
counts_of options (placed ∷ past) =
    with_found (counts_of options past) placed.event.said (found_at options past placed)

-- whether anything is a finding
abbrev pub has_found : OptionsValue → Strictness → List Placed → Bool
has_found options strict [] = false
has_found options strict (placed ∷ past) =
    has_found options strict past
    || list_any (is_finding strict (found_at options past placed)) (found_at options past placed)

-- what is kept of a trace
pub record SessionValue : Type 0 where
  pub strictness : Strictness
  pub judge : JudgeValue
  pub counts : Counts
  pub found : Bool

-- these events were heard, the latest first, and no others
pub record HasHeard (options : OptionsValue) (strict : Strictness) (past : List Placed)
    (session : SessionValue) : Type 0 where
  pub strictness_is : session.strictness ≡ strict
  pub judge_is : Keeps options (heard past) session.judge
  pub counts_are : session.counts ≡ counts_of options past
  pub found_is : session.found ≡ has_found options strict past
