-- A fetch hears, and takes its turn.
use Rattle.std.proofs.Common.{◌≡◌, ◌∙◌, ◌++◌, ℕ, List, [], ◌∷◌, ap, sym, subst}
use Rattle.std.specs.Prelude.{Option, None, Some, MatchOption}
use Rattle.std.specs.Option.{option_map}
use Rattle.hickory_resolver_pool.specs.Over.{OverValue}
use Rattle.yimarotu_forwarder.specs.Fetches.{FetchValue, FetchesValue, HoldsFetch, PutsFetch, asked_for, fetch_at, without_asker}
use Rattle.yimarotu_forwarder.specs.Hearing.{HearsAsker, HearsAt, HearsFetch, HearsWithTurn, Holds, HoldsTurn, TakesTurn}
use Rattle.yimarotu_forwarder.specs.Telling.{HearsIn, heard_so, told_of}
use Rattle.yimarotu_forwarder.specs.declared.telling.Told.{Told}
use Rattle.yimarotu_forwarder.specs.declared.telling.Told.TheVariants as told

turn_taken : (what : Told) (key : List ℕ) (f : FetchValue) (before mid after : FetchesValue)
    → HoldsFetch key f before mid → TakesTurn what key mid after → HearsIn what key f before after
turn_taken told.Asks key f before mid after holds turn = record {
  puts = subst (λ (x : FetchesValue). PutsFetch key (Some f) before x) (sym turn) holds.puts;
  others_are =
      turn ∙ ap (λ (x : FetchesValue). record x { to_ask = x.to_ask ++ key ∷ [] }) holds.others_stay
      ∙ ap (λ (x : List (List ℕ × FetchValue)). record before { fetches = x; to_ask = before.to_ask ++ key ∷ [] })
      (ap (λ (y : FetchesValue). y.fetches) (sym turn));
}
turn_taken (told.Whole kept) key f before mid after holds turn =
    subst (λ (x : FetchesValue). HoldsFetch key f before x) (sym turn) holds
turn_taken (told.Fails why) key f before mid after holds turn =
    subst (λ (x : FetchesValue). HoldsFetch key f before x) (sym turn) holds

same_told : (one other : Told) → Some one ≡ Some other → one ≡ other
same_told one other is = cc

-- what was told takes its turn
pub with_turn : (over : OverValue) (second : ℕ) (key : List ℕ) (what : Told) (before mid after : FetchesValue)
    → HearsAt over second key (Some what) before mid → TakesTurn what key mid after
    → HearsWithTurn over second key (Some what) before after
with_turn over second key what before mid after hears turn = by (fetch_at key before) hears
  where
    by : (o : Option FetchValue)
        → MatchOption o ((Some what ≡ None) × (mid ≡ before)) (Holds over second key (Some what) before mid)
        → MatchOption o ((Some what ≡ None) × (after ≡ before)) (HoldsTurn over second key (Some what) before after)
    by None h = absurd (never h.0)
      where
        never : Some what ≡ None → ⊥
        never is = cc
    by (Some f) h = record {
      told_is = h.told_is;
      hears = turn_taken (told_of over f) key (heard_so over second f) before mid after h.holds
          (subst (λ (t : Told). TakesTurn t key mid after) (same_told what (told_of over f) h.told_is) turn);
    }

-- the asker is forgotten
hears_without : (what : Told) (key : List ℕ) (f : FetchValue) (asker : ℕ) (before after : FetchesValue)
    → HearsIn what key f before after → HearsIn what key f (without_asker asker before) (without_asker asker after)
hears_without told.Asks key f asker before after h =
    record { puts = h.puts; others_are = ap (without_asker asker) h.others_are }
hears_without (told.Whole kept) key f asker before after h =
    record { puts = h.puts; others_stay = ap (without_asker asker) h.others_stay }
hears_without (told.Fails why) key f asker before after h =
    record { puts = h.puts; others_stay = ap (without_asker asker) h.others_stay }

pub asker_heard : (over : OverValue) (asker second : ℕ) (key : List ℕ) (what : Option Told)
    (before mid : FetchesValue) → HearsWithTurn over second key what before mid → asked_for asker before ≡ Some key
    → HearsAsker over asker second (option_map {U = List ℕ × Told} (λ t. (key, t)) what) before
    (without_asker asker mid)
asker_heard over asker second key what before mid hears found = rw found (by (fetch_at key before) hears)
  where
    by : (o : Option FetchValue)
        → MatchOption o ((what ≡ None) × (mid ≡ before)) (HoldsTurn over second key what before mid)
        → MatchOption o
        ((option_map {U = List ℕ × Told} (λ t. (key, t)) what ≡ None)
        × (without_asker asker mid ≡ without_asker asker before))
        (HearsFetch over second key (option_map {U = List ℕ × Told} (λ t. (key, t)) what) (without_asker asker before)
        (without_asker asker mid))
    by None h = (ap (option_map {U = List ℕ × Told} (λ (t : Told). (key, t))) h.0, ap (without_asker asker) h.1)
    by (Some f) h = record {
      heard_is = ap (option_map {U = List ℕ × Told} (λ (t : Told). (key, t))) h.told_is;
      hears = hears_without (told_of over f) key (heard_so over second f) asker before mid h.hears;
    }
