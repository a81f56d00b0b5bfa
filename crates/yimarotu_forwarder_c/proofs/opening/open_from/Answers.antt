-- The octets of the seed are those that were given.
use Rattle.std.proofs.Common.{◌≡◌, ℕ, List, inl, length, subst}
use Rattle.yimarotu_forwarder_c.specs.Openings.{OpensSeeded}
use Rattle.yimarotu_forwarder_c.proofs.opening.open_from.Goals as goal

pub returns-in-Ok : goal.returns-in-Ok
returns-in-Ok c =
    let same : c.in-Ok.seed ≡ c.args.seed.now = c.in-Ok.ensures.1.same in
    let long : length c.args.seed.now ≡ 32 = c.in-Ok.ensures.1.long in
    let P : List ℕ → Type 0 = λ seed. OpensSeeded c.args.texts.now seed c.args.moment c.open_seeded.result c.open_seeded.new.forwarder.inside.value in
    inl (long, subst P same c.open_seeded.ensures)
