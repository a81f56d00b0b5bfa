use Rattle.std.proofs.Common.{◌≡◌, ◌++◌, map, filter, take}
use Rattle.hickory_resolver_model.specs.Verdict.{with_ttl_at_most}
use Rattle.hickory_resolver_client.specs.Verdicts.{is_wanted}
use Rattle.hickory_resolver_client.proofs.verdict.Selection.copy_section.Given as goal

abbrev pub invariant-loop-found : goal.invariant-loop-found
invariant-loop-found l =
    l.copies.items
    ≡ l.initial.copies.items ++ map (with_ttl_at_most l.self.walk.now.ttl) (filter (is_wanted l.self.query.now l.self.walk.now l.self.matches l.self.intermediates) (take l.found-index l.records))
