-- The settings are read out of these texts.
use Rattle.std.proofs.Common.{◌≡◌, Err, Ok, rules}
use Rattle.yimarotu_driven_forwarder.proofs.Same.{settings_of}
use Rattle.yimarotu_driven_forwarder.proofs.opening.open_forwarder.Goals as goal

pub returns-in-Ok : goal.returns-in-Ok
returns-in-Ok c =
    let conf : c.texts.inside.conf.now ≡ c.args.texts.now.conf = search rules in
    let hostname : c.texts.inside.hostname.now ≡ c.args.texts.now.hostname = search rules in
    let lines : c.texts.inside.settings.now ≡ c.args.texts.now.settings = search rules in
    (Ok c.in-Ok.settings, settings_of (Ok c.in-Ok.settings) conf hostname lines c.in-Ok.ensures, c.open_over.ensures)

pub returns-in-Err : goal.returns-in-Err
returns-in-Err c =
    let conf : c.texts.inside.conf.now ≡ c.args.texts.now.conf = search rules in
    let hostname : c.texts.inside.hostname.now ≡ c.args.texts.now.hostname = search rules in
    let lines : c.texts.inside.settings.now ≡ c.args.texts.now.settings = search rules in
    (Err c.in-Err.error, settings_of (Err c.in-Err.error) conf hostname lines c.in-Err.ensures, search rules)
