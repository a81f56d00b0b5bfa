use Rattle.std.proofs.Common.{◌∙◌, Bool, Err, List, refl, subst, ℕ}
use Rattle.yimarotu_session.specs.FileSettings.{IsMadeSo}
use Rattle.yimarotu_session.specs.declared.opening.OpenError.TheVariants.{OutOfMemory}
use Rattle.yimarotu_session.proofs.file_settings.read_resolver_behind.Goals as goal

pub returns-in-Ok : goal.returns-in-Ok
returns-in-Ok c =
    let P : List ℕ → Type 0 = λ lines. IsMadeSo c.args.conf.now.options.edns0 lines c.args.hosts.now c.args.now c.read_resolver_so.result in
    let Q : Bool → Type 0 = λ edns. IsMadeSo edns c.deref.result.now c.args.hosts.now c.args.now c.read_resolver_so.result in
    subst P (c.deref.ensures.value ∙ c.in-Ok.ensures) (subst Q c.has_edns.ensures c.read_resolver_so.ensures)

pub returns-in-Err : goal.returns-in-Err
returns-in-Err c = (Err OutOfMemory, tt, refl)
