use Rattle.std.proofs.Common.{◌∙◌, refl, ap, map}
use Rattle.hickory_resolver_client.proofs.Targets.{is_among, added_name, keeps_first, keeps_other}
use Rattle.hickory_resolver_client.proofs.alias_walk.AliasWalk.add_target.Goals as goal

pub returns-in-Some : goal.returns-in-Some
returns-in-Some c =
    let old = c.in-Some.targets in
    keeps_other c.args.self.now _ c.self.inside.ttl c.self.inside.alias_ttl c.self.inside.targets c.self.view_is _ c.args.ttl c.args.target.now old (record { first = old.first; others = c.insert.new.self }) c.in-Some.is c.min-self-inside.ensures refl
    (λ name. ap (λ ks. is_among name (map (λ k. k.now) ks)) c.in_ok-insert.ensures.keys ∙ added_name (λ k. k.now) c.args.target old.others.keys name)

pub returns : goal.returns
returns c =
    keeps_first c.args.self.now _ c.self.inside.ttl c.self.inside.alias_ttl c.self.inside.targets c.self.view_is _ c.args.ttl (record { first = c.args.target; others = c.new.result }) c.in_default.not-Some c.min-self-inside.ensures
    (ap (map (λ k. k.now)) c.new.ensures.empty)
