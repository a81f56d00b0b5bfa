use Rattle.std.proofs.Common.{◌≡◌, true, ap, ◌∙◌}
use Rattle.domain_table.specs.Names.{is_short}
use Rattle.domain_table.specs.Domains.{domains_of}
use Rattle.domain_table.proofs.Kept.{domains-inserted}
use Rattle.domain_table.proofs.domain_table.DomainTable.insert.Goals as goal

pub returns-in-Ok-clause-ok : goal.returns-in-Ok-clause-ok
returns-in-Ok-clause-ok g c =
    let domain = c.args.domain.now in
    let short : is_short domain ≡ true = cc in
    rw (← c.self.view_is) (ap domains_of c.in-Ok.ensures.entries
    ∙ domains-inserted c.in_ok-key.key domain c.args.value c.self.inside.entries.entries short
    (c.in_ok-key.ensures.items ∙ c.lower_room-room.ensures))
