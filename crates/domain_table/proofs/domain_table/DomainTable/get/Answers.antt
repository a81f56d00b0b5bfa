use Rattle.std.proofs.Common.{◌≡◌, true, length, take, ◌∙◌}
use Rattle.domain_table.specs.Names.{is_short}
use Rattle.domain_table.proofs.Kept.{lookup-short}
use Rattle.domain_table.proofs.domain_table.DomainTable.get.Goals as goal

pub returns : goal.returns
returns g c =
    let domain = c.args.domain.now in
    let short : is_short domain ≡ true = cc in
    c.entry.ensures
    ∙ lookup-short (take (length domain) c.lower_room-room.result) domain c.args.self.now short
    c.lower_room-room.ensures
