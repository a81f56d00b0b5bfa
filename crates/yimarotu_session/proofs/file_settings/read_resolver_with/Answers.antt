use Rattle.std.proofs.Common.{Err, refl, subst}
use Rattle.resolv_conf.specs.ResolvConf.{ResolvConfValue}
use Rattle.yimarotu_session.specs.FileSettings.{IsMadeBehind}
use Rattle.yimarotu_session.specs.declared.opening.OpenError.TheVariants.{OutOfMemory}
use Rattle.yimarotu_session.proofs.file_settings.read_resolver_with.Goals as goal

pub returns-in-Ok : goal.returns-in-Ok
returns-in-Ok c =
    let P : ResolvConfValue → Type 0 = λ conf. IsMadeBehind conf c.args.settings.now c.args.hosts.now c.args.now c.read_resolver_behind.result in
    subst P c.in-Ok.ensures c.read_resolver_behind.ensures

pub returns-in-Err : goal.returns-in-Err
returns-in-Err c = (Err OutOfMemory, tt, refl)
