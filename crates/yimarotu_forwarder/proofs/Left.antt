-- A fetch after another is left.
use Rattle.std.proofs.Common.{◌≡◌, ◌∙◌, ℕ, zero, suc, ◌+◌, ◌≤◌, true, false, List, [], ◌∷◌, ◌++◌, add-one, ap, ap₂, append-nil, arith, length, sym, drop, fold, map, take}
use Rattle.std.proofs.lemmas.List.{drop_all, take_all}
use Rattle.std.specs.Prelude.{None, Some, slice_get}
use Rattle.std.specs.Map.{values_of}
use Rattle.indexmap.specs.Layout.{length-set_value_at, set_value_at}
use Rattle.client_limits.specs.Counts.{CountsValue}
use Rattle.yimarotu_forwarder.specs.Fetches.{FetchValue, FetchesValue}
use Rattle.yimarotu_forwarder.specs.Leaving.{counts_without, counts_without_fetches, entry_without, fetch_without, fetches_without}

pub never : false ≡ true → ⊥
never e = cc

module _ {K V : Type 0} (changed : V → V) where
  abbrev pub entry_changed : K × V → K × V
  entry_changed e = (e.0, changed e.1)

  -- one more entry is changed
  pub changed_at : (es : List (K × V)) (i : ℕ) (v w : V) → slice_get (values_of es) i ≡ Some v → w ≡ changed v
      → take (suc i) (set_value_at es i w) ++ map entry_changed (drop (suc i) (set_value_at es i w))
      ≡ take i es ++ map entry_changed (drop i es)
  changed_at [] i v w at is = absurd (never at)
    where
      never : None ≡ Some v → ⊥
      never e = cc
  changed_at (e ∷ es) zero v w at is =
      ap (λ (x : V). (e.0, x) ∷ map entry_changed es) (is ∙ ap changed (sym (value at)))
    where
      value : Some e.1 ≡ Some v → e.1 ≡ v
      value same = cc
  changed_at (e ∷ es) (suc i) v w at is = ap (λ (l : List (K × V)). e ∷ l) (changed_at es i v w at is)

module _ {K V C : Type 0} (counts : C → V → C) where
  -- and counted
  pub counted_at : (es : List (K × V)) (i : ℕ) (v w : V) (c : C) → slice_get (values_of es) i ≡ Some v
      → fold (λ n e. counts n e.1) (counts c v) (drop (suc i) (set_value_at es i w))
      ≡ fold (λ n e. counts n e.1) c (drop i es)
  counted_at [] i v w c at = absurd (never at)
    where
      never : None ≡ Some v → ⊥
      never e = cc
  counted_at (e ∷ es) zero v w c at = ap (λ (x : V). fold (λ n e. counts n e.1) (counts c x) es) (sym (value at))
    where
      value : Some e.1 ≡ Some v → e.1 ≡ v
      value same = cc
  counted_at (e ∷ es) (suc i) v w c at = counted_at es i v w c at

-- the fetches behind so many are still to be left
pub record AreLeft (client index : ℕ) (first now : FetchesValue) (counts_first counts : CountsValue) : Type 0 where
  pub fetches :
      take index now.fetches ++ map (entry_without client) (drop index now.fetches)
      ≡ map (entry_without client) first.fetches
  pub counts_are :
      counts_without_fetches client counts (drop index now.fetches)
      ≡ counts_without_fetches client counts_first first.fetches
  pub length_is : length now.fetches ≡ length first.fetches
  pub others_stay : now ≡ record first { fetches = now.fetches }

pub left_next : (client index : ℕ) (first now after : FetchesValue) (counts_first counts counts_after : CountsValue)
    (f left : FetchValue) → AreLeft client index first now counts_first counts
    → slice_get (values_of now.fetches) index ≡ Some f → left ≡ fetch_without client f
    → counts_after ≡ counts_without client counts f.waiting
    → after ≡ record now { fetches = set_value_at now.fetches index left }
    → AreLeft client (index + 1) first after counts_first counts_after
left_next client index first now after counts_first counts counts_after f left so_far at is counted written =
    rw (written, add-one, counted) (record {
      fetches = changed_at (fetch_without client) now.fetches index f left at is ∙ so_far.fetches;
      counts_are =
          counted_at (λ n g. counts_without client n g.waiting) now.fetches index f left counts at ∙ so_far.counts_are;
      length_is = length-set_value_at now.fetches index left ∙ so_far.length_is;
      others_stay =
          ap (λ (s : FetchesValue). record s { fetches = set_value_at now.fetches index left }) so_far.others_stay;
    })

pub left_all : (client index : ℕ) (first now : FetchesValue) (counts_first counts : CountsValue)
    → AreLeft client index first now counts_first counts → length first.fetches ≤ index
    → (now ≡ fetches_without client first) × (counts ≡ counts_without_fetches client counts_first first.fetches)
left_all client index first now counts_first counts so_far all =
    let short : length now.fetches ≤ index = omega (arith, so_far.length_is) in
    let none : drop index now.fetches ≡ [] = drop_all index now.fetches short in
    let whole : take index now.fetches ≡ now.fetches = take_all index now.fetches short in
    let entries : now.fetches ≡ map (entry_without client) first.fetches =
    sym (append-nil now.fetches)
    ∙ ap₂ (λ (l m : List (List ℕ × FetchValue)). l ++ map (entry_without client) m) (sym whole) (sym none)
    ∙ so_far.fetches in (
      so_far.others_stay ∙ ap (λ (l : List (List ℕ × FetchValue)). record first { fetches = l }) entries,
      ap (λ (l : List (List ℕ × FetchValue)). counts_without_fetches client counts l) (sym none) ∙ so_far.counts_are,
    )
