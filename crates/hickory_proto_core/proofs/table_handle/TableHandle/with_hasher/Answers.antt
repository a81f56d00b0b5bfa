use Rattle.std.proofs.Common.{ℕ, ◌∙◌, Ok}
use Rattle.std.proofs.lemmas.Iterator.Adapters.{fact_from_extend, YieldsList-from_vec}
use Rattle.hickory_proto_core.specs.Query.{query_eq, query_equiv}
use Rattle.hickory_proto_core.proofs.Tables.{extended-empty}
use Rattle.hickory_proto_core.proofs.table_handle.TableHandle.with_hasher.Goals as goal

pub returns-clause-ok : goal.returns-clause-ok
returns-clause-ok g c =
    fact_from_extend {E = ℕ} (λ x. x) (Ok c.in_ok-extend.field-0) c.in_ok-extend.ensures.ran (λ it b. YieldsList-from_vec {s = it} _ b.0 (b.1 ∙ c.args.outcomes.ok.0))
    (λ xs e h. extended-empty query_eq query_equiv.symm c.with_hasher-table.result c.extend.new.self xs c.args.outcomes.items c.with_hasher-table.ensures.empty e h)
