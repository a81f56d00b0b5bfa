use Rattle.std.proofs.Common.{◌≡◌, ◌∙◌, ◌++◌, Some, ap, max, subst, sym, unwrap_or}
use Rattle.trace_judge.specs.Asks.{answered_by, answers, asked_by, asks}
use Rattle.trace_judge.specs.Denials.{denials, denied_in}
use Rattle.trace_judge.specs.Forgetting.{latest, oldest}
use Rattle.trace_judge.specs.Index.{Forgets, ForgetsDenials, ForgetsGaps, ForgetsMoments, GapsSee, SeesAs, count_at}
use Rattle.trace_judge.specs.Judging.{DeniesAs, Keeps, NotesAs, evidence_of, findings_by}
use Rattle.trace_judge.specs.Receptions.{received_by, receptions}
use Rattle.trace_judge.specs.Trace.{is_counted, milliseconds_of, open_questions}
use Rattle.trace_judge.proofs.Standing.{denies-forgetting, denies-later, gaps-forgetting, gaps-later, notes-forgetting, notes-later, oldest-later, sees-forgetting, sees-later, stands-kept}
use Rattle.trace_judge.proofs.hearing.Judge.hear.Goals as goal

pub returns : goal.returns
returns c = λ options past given.
    let i = c.self.inside in let now = c.args.event.now.moment in let said = c.args.event.now.said in
    let kept = subst (Keeps options past) (sym c.self.view_is) given in
    let clock : c.max-clock.result ≡ max (latest past) (milliseconds_of now)
    = c.max-clock.ensures ∙ (λ k. max (kept.clock_is k) (c.in_milliseconds.ensures.value k)) in
    let from = oldest options.slack (max (latest past) (milliseconds_of now)) in
    let from_is : c.oldest_of-oldest.result ≡ from
    = c.oldest_of-oldest.ensures ∙ (λ k. oldest ((kept.options_are k).slack) (clock k)) in
    let below = oldest-later options.slack (latest past) (milliseconds_of now) in
    let was = oldest options.slack (latest past) in
    let counts : c.in_ok-counts.counts ≡ is_counted past said
    = c.in_ok-counts.ensures.counts (open_questions past) kept.open_are in
    let e = evidence_of options past now in
    let stands = stands-kept options past _ now c.oldest_of-oldest.result kept from_is in
    let forgot = c.forget.ensures in (
      c.in_ok-found.ensures e stands ∙ ap (λ b. findings_by b e now said) counts,
      record {
        options_are = forgot.options_are ∙ kept.options_are;
        start_is = forgot.start_is ∙ ap Some (c.unwrap_or.ensures ∙ ap (λ o. unwrap_or o now) kept.start_is);
        clock_is = forgot.clock_is ∙ clock;
        open_are = λ q. ap (λ m. count_at m q) forgot.open_are ∙ c.in_ok-counts.ensures.is_open (open_questions past) kept.open_are q;
        seen_are = subst (λ b. SeesAs from c.forget.new.self.seen (receptions past ++ received_by b now said)) counts
            (sees-forgetting from c.hear_received.new.seen c.forget.new.self.seen (receptions past ++ received_by c.in_ok-counts.counts now said)
            (subst (λ n. Forgets n c.hear_received.new.seen c.forget.new.self.seen) from_is forgot.seen_are)
            (c.in_ok-hear_received.ensures from (receptions past) (sees-later was from i.seen (receptions past) below kept.seen_are)));
        gaps_are = subst (λ b. GapsSee from c.forget.new.self.gaps (receptions past ++ received_by b now said)) counts
            (gaps-forgetting from c.hear_gaps.new.gaps c.forget.new.self.gaps (receptions past ++ received_by c.in_ok-counts.counts now said)
            (subst (λ n. ForgetsGaps n c.hear_gaps.new.gaps c.forget.new.self.gaps) from_is forgot.gaps_are)
            (c.in_ok-hear_gaps.ensures from (receptions past) (gaps-later was from i.gaps (receptions past) below kept.gaps_are)));
        asked_are = notes-forgetting from c.hear_asked.new.asked c.forget.new.self.asked (asks past ++ asked_by now said)
            (subst (λ n. ForgetsMoments n c.hear_asked.new.asked c.forget.new.self.asked) from_is forgot.asked_are)
            (c.in_ok-hear_asked.ensures from (asks past) (notes-later was from i.asked (asks past) below kept.asked_are));
        answered_are = subst (λ b. NotesAs from c.forget.new.self.answered (answers past ++ answered_by b now said)) counts
            (notes-forgetting from c.hear_answered.new.answered c.forget.new.self.answered (answers past ++ answered_by c.in_ok-counts.counts now said)
            (subst (λ n. ForgetsMoments n c.hear_answered.new.answered c.forget.new.self.answered) from_is forgot.answered_are)
            (c.in_ok-hear_answered.ensures from (answers past) (notes-later was from i.answered (answers past) below kept.answered_are)));
        denied_are = subst (λ b. DeniesAs from c.forget.new.self.denied (denials past ++ denied_in b now said)) counts
            (denies-forgetting from c.hear_denied.new.denied c.forget.new.self.denied (denials past ++ denied_in c.in_ok-counts.counts now said)
            (subst (λ n. ForgetsDenials n c.hear_denied.new.denied c.forget.new.self.denied) from_is forgot.denied_are)
            (c.in_ok-hear_denied.ensures from (denials past) (denies-later was from i.denied (denials past) below kept.denied_are)));
      },
    )
