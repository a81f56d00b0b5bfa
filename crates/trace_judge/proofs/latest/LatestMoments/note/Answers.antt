use Rattle.std.proofs.Common.{◌≡◌, ◌∙◌, Some, ap, cond}
use Rattle.std.specs.Map.{lookup}
use Rattle.hickory_proto_core.specs.Query.{query_eq}
use Rattle.trace_judge.specs.Index.{latest_at, later}
use Rattle.trace_judge.proofs.Moments.{notes_from}
use Rattle.trace_judge.proofs.latest.LatestMoments.note.Goals as goal

pub returns : goal.returns
returns c =
    let q = c.args.query in
    let latest : c.later-latest.result ≡ later c.args.moment (latest_at c.args.self.now q)
    = c.later-latest.ensures ∙ ap (later c.args.moment) c.of.ensures in
    notes_from q c.args.moment c.args.self.now c.insert.new.self.entries (λ p.
    c.in_ok-insert.ensures.updates.0 p
    ∙ ap (λ v. cond (query_eq q p) (Some v) (lookup (query_eq p) c.self.inside.moments.entries)) latest
    ∙ ap (λ es. cond (query_eq q p) (Some (later c.args.moment (latest_at c.args.self.now q))) (lookup (query_eq p) es))
    c.self.view_is)
