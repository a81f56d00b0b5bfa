use Rattle.std.proofs.Common.{◌∙◌, sym}
use Rattle.forwarder_settings.proofs.Slashes.{before_slash, behind_slash}
use Rattle.forwarder_settings.proofs.prefixes.read_prefix.Goals as goal

pub range-requires-clause-end_boundary : goal.range-requires-clause-end_boundary
range-requires-clause-end_boundary c =
    before_slash c.args.word.now c.in-Some.place (sym c.in-Some.is ∙ c.slash_place.ensures)

pub range_from-requires : goal.range_from-requires
range_from-requires c =
    behind_slash c.args.word.now c.in-Some.place c.utf8.word (sym c.in-Some.is ∙ c.slash_place.ensures)
