-- The local data is read out of these texts.
use Rattle.std.proofs.Common.{◌≡◌, ◌/◌, Err, Ok, rules}
use Rattle.yimarotu_forwarder.specs.Local.{LocalValue}
use Rattle.yimarotu_driven_forwarder.proofs.Same.{local_of}
use Rattle.yimarotu_driven_forwarder.proofs.driven_forwarder.DrivenForwarder.read_over.Goals as goal

pub returns-in-Ok : goal.returns-in-Ok
returns-in-Ok c =
    let local : LocalValue = record { hosts = c.in-Ok.local.hosts; rules = c.in-Ok.local.rules } in
    let hosts : c.texts.inside.hosts.now ≡ c.args.texts.now.hosts = search rules in
    let blocked : c.texts.inside.blocked.now ≡ c.args.texts.now.blocked = search rules in
    (Ok local, local_of c.args.settings (c.args.now / 1000) (Ok local) hosts blocked c.in-Ok.ensures.ok, c.take.ensures)

pub returns-in-Err : goal.returns-in-Err
returns-in-Err c =
    let hosts : c.texts.inside.hosts.now ≡ c.args.texts.now.hosts = search rules in
    let blocked : c.texts.inside.blocked.now ≡ c.args.texts.now.blocked = search rules in
    (Err c.in-Err.error, local_of c.args.settings (c.args.now / 1000) (Err c.in-Err.error) hosts blocked c.in-Err.ensures.err, search rules)
