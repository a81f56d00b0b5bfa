use Rattle.std.proofs.Common.{◌∙◌}
use Rattle.domain_table.proofs.Kept.{lookup-domains}
use Rattle.domain_table.proofs.domain_table.DomainTable.entry.Goals as goal

pub returns : goal.returns
returns g c =
    rw (← c.self.view_is) (c.get.ensures.value ∙ lookup-domains c.args.lower.now c.self.inside.entries.entries)
