-- What waits for a channel keeps its time.
use Rattle.std.proofs.Common.{◌≡◌, ℕ, refl, ap, ◌∙◌}
use Rattle.std.specs.Prelude.{unwrap_or}
use Rattle.hickory_resolver_transactions.specs.Candidates.{way_of_try, freed_progress, freed_one, uncounted, try_made, sent_with, without_channel}
use Rattle.hickory_resolver_transactions.specs.Laws.{EachKeepsItsTime}
use Rattle.hickory_resolver_transactions.specs.declared.candidate.Candidate.{Candidate}
use Rattle.hickory_resolver_transactions.specs.declared.candidate.Progress.{Progress}
use Rattle.hickory_resolver_transactions.specs.declared.candidate.Progress.TheVariants.{Blocked}
use Rattle.hickory_resolver_transactions.specs.declared.candidate.Transport.{Transport}
use Rattle.hickory_resolver_transactions.specs.declared.candidate.Transport.TheVariants.{Udp, Tcp}
use Rattle.hickory_resolver_transactions.specs.declared.candidate.Try.{Try}

uncounted-progress : (how : Transport) (c : Candidate) → (uncounted how c).progress ≡ c.progress
uncounted-progress Udp c = refl
uncounted-progress Tcp c = refl

-- how far it is once a channel was free
abbrev freed_in : Candidate → Progress → Candidate
freed_in c p = record c { progress = freed_progress p }

abbrev waiting_for : Try → Progress
waiting_for t = Blocked (way_of_try t) (unwrap_or t.channel_due t.due)

pub each_keeps_its_time : EachKeepsItsTime
each_keeps_its_time c made settings way due until e =
    let t = try_made made (freed_one c) settings in
    record {
      unsent = ap (λ (p : Progress). (without_channel until (freed_in c p)).progress) e;
      unopened =
          uncounted-progress t.transport (record (sent_with made settings (freed_one c)) { progress = waiting_for t })
          ∙ ap (λ (p : Progress). waiting_for (try_made made (freed_in c p) settings)) e;
    }
