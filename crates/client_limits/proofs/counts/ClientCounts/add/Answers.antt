-- One more, and one less: that is what was.
use Rattle.std.proofs.Common.{◌≡◌, ◌∙◌, ◌+◌, ℕ, ap, sym}
use Rattle.client_limits.specs.Counts.{CountsValue, count_of}
use Rattle.client_limits.proofs.Undone.{undone_by}
use Rattle.client_limits.proofs.counts.ClientCounts.add.Goals as goal

-- src/counts.rt
pub returns-clause-undone : goal.returns-clause-undone
returns-clause-undone c =
    let was : CountsValue = record { all = c.self.inside.all; of_networks = c.self.inside.of_networks.entries } in
    undone_by c.args.address was c.in_ok-all.all c.counted_as.result c.in_ok-count.count
    c.set_count.new.counts.entries c.self.invariant c.in_ok-all.ensures c.counted_as.ensures
    (c.in_ok-count.ensures ∙ ap (λ (n : ℕ). n + 1)
    (c.of.ensures ∙ ap (count_of c.args.address) (sym c.self.view_is))) c.in_ok-set_count.ensures.ok
    c.in_ok-set_count.ensures.keys
    ∙ c.self.view_is
