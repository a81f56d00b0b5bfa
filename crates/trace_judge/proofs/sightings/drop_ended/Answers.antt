use Rattle.std.proofs.Common.{◌∙◌, [], ap, rules, unwrap_or}
use Rattle.std.specs.Map.{lookup}
use Rattle.std.proofs.lemmas.Map.Entries.{lookup-filter-values}
use Rattle.std.proofs.lemmas.Map.Made.{filter_same_pairs}
use Rattle.trace_judge.specs.Index.{is_lasting, reaches, seen_at}
use Rattle.trace_judge.specs.RecordKeys.{key_eq, key_equiv, record_key}
use Rattle.trace_judge.proofs.Seen.{kept_reaches}
use Rattle.trace_judge.proofs.sightings.drop_ended.Goals as goal

pub returns : goal.returns
returns c = λ told until ttl below.
    ap (λ es. reaches told until ttl (seen_at es (record_key told)))
    (filter_same_pairs _ (λ e. is_lasting c.args.moment e.1) _ (λ k v b w f' t. search rules) _ _ c.retain.ensures.filtered)
    ∙ ap (λ o. reaches told until ttl (unwrap_or o []))
    (lookup-filter-values key_equiv (is_lasting c.args.moment) (record_key told) c.args.seen.now.entries c.retain.ensures.was_unique)
    ∙ kept_reaches told c.args.moment until ttl (lookup (key_eq (record_key told)) c.args.seen.now.entries) below
