-- A fetch that is found asks its question.
use Rattle.std.proofs.Common.{◌≡◌, ◌∙◌, ℕ, List, ap, refl, subst, sym}
use Rattle.std.specs.Prelude.{Option, None, Some, MatchOption}
use Rattle.std.specs.Option.{option_and_then}
use Rattle.yimarotu_forwarder.specs.Fetches.{FetchValue, fetch_at}
use Rattle.yimarotu_forwarder.specs.Forwarders.{ForwarderValue}
use Rattle.yimarotu_forwarder.specs.NextQuestions.{next_key, with_asked_where}
use Rattle.yimarotu_forwarder.specs.Steps.{AsksFor, AsksNext, AsksOr, EndsWith, IsDecidedAs, IsDecidedNext, has_turn}
use Rattle.local_answers.specs.declared.local_data.Decision.{Decision}
use Rattle.whole_replies.specs.Kept.{KeptValue}

pub asks_for : (key : List ℕ) (found : Decision) (before after : ForwarderValue)
    → IsDecidedNext before key (Some found)
    → ((f : FetchValue) → fetch_at key before.fetches ≡ Some f → AsksOr found key f (has_turn before) after)
    → AsksFor before after key
asks_for key found before after decided asks = by (fetch_at key before.fetches) refl decided
  where
    by : (o : Option FetchValue) → fetch_at key before.fetches ≡ o
        → MatchOption o (Some found ≡ None) (IsDecidedAs before (Some found))
        → MatchOption o (after ≡ has_turn before) (AsksNext key (has_turn before) after)
    by None h d = absurd (never d)
      where
        never : Some found ≡ None → ⊥
        never is = cc
    by (Some f) h d = record { found = found; decided = d; asks = asks f h }

-- what is put behind is marked once the fetch is over, as if it was before
pub ends_marked : (key : List ℕ) (kept : KeptValue) (replies : ℕ) (end : Option (List ℕ))
    (before mid after : ForwarderValue) → end ≡ option_and_then next_key (fetch_at key before.fetches)
    → ((f : FetchValue) → fetch_at key before.fetches ≡ Some f → EndsWith key kept replies f (has_turn before) mid)
    → after ≡ with_asked_where end mid → (f : FetchValue) → fetch_at key before.fetches ≡ Some f
    → EndsWith key kept replies f (with_asked_where (next_key f) (has_turn before)) after
ends_marked key kept replies end before mid after own ends is f found =
    let h = ends f found in
    let same : end ≡ next_key f = own ∙ ap (option_and_then next_key) found in
    subst (λ (x : ForwarderValue). EndsWith key kept replies f (with_asked_where (next_key f) (has_turn before)) x)
    (sym (is ∙ ap (λ (k : Option (List ℕ)). with_asked_where k mid) same))
    (record { ends = h.ends; others_are = ap (with_asked_where (next_key f)) h.others_are })
