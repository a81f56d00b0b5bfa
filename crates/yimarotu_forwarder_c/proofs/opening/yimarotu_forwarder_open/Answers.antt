-- Where there is no forwarder, one is opened as from these texts.
use Rattle.std.proofs.Common.{◌≡◌, ◌∙◌, Bool, false, None, refl, rules, subst, sym}
use Rattle.std.specs.Option.{is_some}
use Rattle.std.specs.Prelude.{Option, Some}
use Rattle.yimarotu_driven_forwarder.specs.Driven.{DrivenValue}
use Rattle.yimarotu_driven_forwarder.specs.Texts.{texts_of}
use Rattle.yimarotu_forwarder_c.specs.Openings.{Opens, OpensFrom}
use Rattle.yimarotu_forwarder_c.proofs.opening.yimarotu_forwarder_open.Goals as goal

none_of : (o : Option DrivenValue) → is_some o ≡ false → o ≡ None
none_of None h = refl
none_of (Some d) h = absurd cc

pub returns : goal.returns
returns c =
    let none : c.args.forwarder.now.inside.value ≡ None =
    none_of c.args.forwarder.now.inside.value (sym c.is_open.ensures ∙ c.if-is_open.false) in
    let P : Option DrivenValue → Type 0 = λ before. Opens (OpensFrom
    (texts_of c.args.conf.now c.args.hostname.now c.args.settings.now c.args.hosts.now c.args.blocked.now)
    c.args.seed.now c.args.moment) before c.open_from.result c.open_from.new.forwarder.inside.value in
    subst P (sym none) c.open_from.ensures
