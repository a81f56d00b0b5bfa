use Rattle.std.proofs.Common.{inl, inr}
use Rattle.std.proofs.lemmas.Result.{MatchResult-weaker}
use Rattle.trace_lines.proofs.settings.Settings.add_prefix.Goals as goal

pub returns : goal.returns
returns c =
    MatchResult-weaker c.push_prefix.result c.push_prefix.ensures
    (λ _ pushed. (c.prefix_of.result, c.prefix_of.ensures, pushed))
    (λ _ fault. elim fault [
      | inl memory ↦ inl memory
      | inr none ↦ inr (c.prefix_of.result, c.prefix_of.ensures, none)
    ])
