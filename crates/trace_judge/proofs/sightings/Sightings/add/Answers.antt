use Rattle.std.proofs.Common.{◌≡◌, ◌∙◌, [], ap, cond, unwrap_or}
use Rattle.std.specs.Map.{lookup}
use Rattle.trace_judge.specs.Index.{seen_at, with_reception}
use Rattle.trace_judge.specs.RecordKeys.{key_eq, record_key}
use Rattle.trace_judge.proofs.Seen.{adds_from, put_back}
use Rattle.trace_judge.proofs.sightings.Sightings.add.Goals as goal

pub returns : goal.returns
returns c =
    let key = c.in_ok-key.key in
    let was = c.self.inside.seen.entries in
    let had : c.unwrap_or-seen.result ≡ seen_at was key
    = c.unwrap_or-seen.ensures ∙ ap (λ o. unwrap_or o c.new-2.result) c.remove.ensures.value
    ∙ ap (λ d. unwrap_or (lookup (key_eq key) was) d) c.new-2.ensures in
    let has : c.add.new.self ≡ with_reception c.args.new (seen_at was key)
    = c.in_ok-add.ensures ∙ ap (with_reception c.args.new) had in
    adds_from c.args.new c.args.self.now c.insert.new.self.entries (λ q.
    put_back (key_eq key q) (lookup (key_eq q) was) (lookup (key_eq q) c.remove.new.self.entries)
    (lookup (key_eq q) c.insert.new.self.entries) c.add.new.self [] (c.remove.ensures.updates.0 q) (c.in_ok-insert.ensures.updates.0 q)
    ∙ ap (λ w. cond (key_eq key q) w (seen_at was q)) has
    ∙ ap (λ k. cond (key_eq k q) (with_reception c.args.new (seen_at was k)) (seen_at was q)) c.in_ok-key.ensures
    ∙ ap (λ es. cond (key_eq (record_key c.args.new.found) q) (with_reception c.args.new (seen_at es (record_key c.args.new.found))) (seen_at es q))
    c.self.view_is)
