use Rattle.std.proofs.Common.{◌∙◌, ap, nat_le, rules}
use Rattle.std.specs.Map.{lookup}
use Rattle.std.proofs.lemmas.Map.Entries.{lookup-filter-values}
use Rattle.std.proofs.lemmas.Map.Made.{filter_same_pairs}
use Rattle.hickory_proto_core.specs.Query.{query_eq, query_equiv}
use Rattle.trace_judge.specs.Index.{is_since, latest_at}
use Rattle.trace_judge.proofs.Moments.{kept_since}
use Rattle.trace_judge.proofs.latest.drop_earlier.Goals as goal

pub returns : goal.returns
returns c = λ p since below.
    ap (λ es. is_since since (lookup (query_eq p) es))
    (filter_same_pairs _ (λ e. nat_le c.args.moment e.1) _ (λ k v b w f' t. search rules) _ _ c.retain.ensures.filtered)
    ∙ ap (is_since since)
    (lookup-filter-values query_equiv (nat_le c.args.moment) p c.args.moments.now.entries c.retain.ensures.was_unique)
    ∙ kept_since c.args.moment since (latest_at c.args.moments.now.entries p) below
