-- One more record of a section.
use Rattle.std.proofs.Common.{◌≡◌, ◌+◌, ◌<◌, ◌≤◌, ℕ, List, ◌∷◌, ◌++◌, length, drop, map, get_or, ap, sym, ◌∙◌, append_assoc}
use Rattle.std.proofs.lemmas.List.{append-nil, at_drop_all, at_drop_more}
use Rattle.hickory_proto_core.specs.Records.{RecordValue}
use Rattle.hickory_proto_core.specs.declared.query.Query.{Query}
use Rattle.trace_judge.specs.Evidence.{EvidenceValue}
use Rattle.trace_judge.specs.Findings.{record_findings, section_findings}
use Rattle.trace_judge.specs.declared.classes.Finding.{Finding}
use Rattle.trace_judge.specs.declared.classes.Place.TheVariants as place
use Rattle.trace_judge.specs.declared.classes.Section.{Section}
use Rattle.trace_judge.specs.Judging.{event_findings}
use Rattle.trace_judge.specs.Options.{OptionsValue}
use Rattle.trace_judge.specs.Traces.{findings_from, judged_at}
use Rattle.trace_judge.specs.declared.event.Event.{Event}
use Rattle.trace_judge.specs.declared.event.Moment.{Moment}
use Rattle.trace_judge.specs.declared.trace.Judged.{Judged}

-- what is found so far, and then in the rest
pub section_step : (e : EvidenceValue) (now : Moment) (q : Query) (s : Section) (i : ℕ) (rs : List RecordValue) (r : RecordValue) (before after : List Finding) → i < length rs → r ≡ get_or rs i r → after ≡ before ++ record_findings e now q (place.Record s i) r → after ++ section_findings e now q s (i + 1) (drop (i + 1) rs) ≡ before ++ section_findings e now q s i (drop i rs)
section_step e now q s i rs r before after below is found =
    ap (λ (x : List Finding). x ++ section_findings e now q s (i + 1) (drop (i + 1) rs)) found
    ∙ append_assoc before (record_findings e now q (place.Record s i) r) (section_findings e now q s (i + 1) (drop (i + 1) rs))
    ∙ ap (λ (x : RecordValue). before ++ (record_findings e now q (place.Record s i) x ++ section_findings e now q s (i + 1) (drop (i + 1) rs))) is
    ∙ sym (ap (λ (x : List Finding). before ++ x) (at_drop_more (section_findings e now q s i) rs i r below))

-- nothing is left
pub section_end : (e : EvidenceValue) (now : Moment) (q : Query) (s : Section) (i : ℕ) (rs : List RecordValue) (all : List Finding) → length rs ≤ i → all ≡ all ++ section_findings e now q s i (drop i rs)
section_end e now q s i rs all past =
    sym (append-nil all) ∙ sym (ap (λ (x : List Finding). all ++ x) (at_drop_all (section_findings e now q s i) rs i past))

-- one more line of a trace
pub judged_step : (options : OptionsValue) (past : List Event) (i : ℕ) (trace : List Event) (event : Event) (found : List Finding) (before after : List Judged) → i < length trace → event ≡ get_or trace i event → found ≡ event_findings options past event → after ≡ before ++ map (judged_at i) found → after ++ findings_from options (event ∷ past) (i + 1) (drop (i + 1) trace) ≡ before ++ findings_from options past i (drop i trace)
judged_step options past i trace event found before after below is finds notes =
    ap (λ (x : List Judged). x ++ findings_from options (event ∷ past) (i + 1) (drop (i + 1) trace)) notes
    ∙ append_assoc before (map (judged_at i) found) (findings_from options (event ∷ past) (i + 1) (drop (i + 1) trace))
    ∙ ap (λ (x : List Finding). before ++ (map (judged_at i) x ++ findings_from options (event ∷ past) (i + 1) (drop (i + 1) trace))) finds
    ∙ ap (λ (x : Event). before ++ (map (judged_at i) (event_findings options past x) ++ findings_from options (x ∷ past) (i + 1) (drop (i + 1) trace))) is
    ∙ sym (ap (λ (x : List Judged). before ++ x) (at_drop_more (findings_from options past i) trace i event below))
