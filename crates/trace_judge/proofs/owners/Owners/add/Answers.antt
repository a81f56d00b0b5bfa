use Rattle.std.proofs.Common.{◌≡◌, ◌∙◌, [], None, ap, subst, unwrap_or}
use Rattle.std.specs.BTreeMap.{insert_entry, is_at}
use Rattle.std.specs.Map.{lookup}
use Rattle.std.proofs.lemmas.Bool.{cond-true}
use Rattle.hickory_proto_core.specs.Name.{name_cmp}
use Rattle.trace_judge.specs.Index.{AddsOwner}
use Rattle.trace_judge.proofs.Owning.{adds_owner, at_itself}
use Rattle.trace_judge.proofs.owners.Owners.add.Goals as goal

pub returns : goal.returns
returns c =
    let key = c.in_ok-owner.owner in let was = c.self.inside.owners.entries in let without = c.remove.new.self.entries in
    let at = is_at (name_cmp key) in
    let had : c.unwrap_or-seen.result ≡ unwrap_or (lookup at was) []
    = c.unwrap_or-seen.ensures ∙ ap (λ o. unwrap_or o c.new-2.result) c.remove.ensures.value
    ∙ ap (λ d. unwrap_or (lookup at was) d) c.new-2.ensures in
    let none : lookup at without ≡ None
    = c.remove.ensures.updates.0 key ∙ cond-true (at key) None (lookup at was) (at_itself key) in
    subst (λ w. AddsOwner c.args.new w c.insert.new.self.entries) c.self.view_is
    (adds_owner c.args.new key was without c.insert.new.self.entries c.unwrap_or-seen.result c.remove.ensures.entries had none
    (c.in_ok-insert.ensures.entries ∙ ap (insert_entry name_cmp without key) c.in_ok-add.ensures))
