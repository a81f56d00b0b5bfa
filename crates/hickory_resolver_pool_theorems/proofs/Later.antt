-- What was said of a transaction stays said, whatever happens later.
use Rattle.std.proofs.Common.{◌∙◌, List, ◌++◌, sym, ap}
use Rattle.std.proofs.lemmas.List.{append_assoc}
use Rattle.hickory_resolver_pool.specs.Over.{OverValue}
use Rattle.hickory_resolver_pool.specs.Pool.{PoolState}
use Rattle.hickory_resolver_pool_theorems.specs.Runs.{Happening, WasOver}

abbrev pub over-grows : (first : PoolState) (more past : List Happening) (o : OverValue) → WasOver first past o
    → WasOver first (more ++ past) o
over-grows first more past o w = record {
  later = more ++ w.later;
  earlier = w.earlier;
  before = w.before;
  after = w.after;
  happened = ap (λ (l : List Happening). more ++ l) w.happened ∙ sym (append_assoc more w.later _);
  runs = w.runs;
  ends = w.ends;
}
