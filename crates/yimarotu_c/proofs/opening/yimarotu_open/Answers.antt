-- The octets of the seed are those that were given.
use Rattle.std.proofs.Common.{◌≡◌, ℕ, List, None, inl, length, rules, subst, sym}
use Rattle.std.specs.Prelude.{Option}
use Rattle.yimarotu_c.specs.Openings.{Opens, OpensDriven, OpensSeeded}
use Rattle.yimarotu_embedded.specs.declared.held.Held.{Held}
use Rattle.yimarotu_c.proofs.opening.yimarotu_open.Goals as goal

pub returns-in-Ok : goal.returns-in-Ok
returns-in-Ok c =
    let none : c.args.session.now.inside.value ≡ None = search rules in
    let same : c.in-Ok.seed ≡ c.args.seed.now = c.in-Ok.ensures.1.same in
    let long : length c.args.seed.now ≡ 32 = c.in-Ok.ensures.1.long in
    let P : List ℕ → Type 0 = λ seed. OpensSeeded c.args.conf.now c.args.hostname.now c.args.settings.now c.args.hosts.now seed c.args.moment c.open_seeded.result c.open_seeded.new.session.inside.value in
    let Q : Option Held → Type 0 = λ before. Opens (OpensDriven c.args.conf.now c.args.hostname.now c.args.settings.now c.args.hosts.now c.args.seed.now c.args.moment) before c.open_seeded.result c.open_seeded.new.session.inside.value in
    subst Q (sym none) (inl (long, subst P same c.open_seeded.ensures))
