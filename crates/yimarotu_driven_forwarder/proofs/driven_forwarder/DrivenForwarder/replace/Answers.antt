-- Whose servers are set is the forwarder that was there.
use Rattle.std.proofs.Common.{◌≡◌, Err, Ok, Result, refl, rules, subst}
use Rattle.yimarotu_forwarder.specs.Forwarders.{ForwarderValue}
use Rattle.yimarotu_driven_forwarder.specs.Servers.{AsksServers}
use Rattle.yimarotu_driven_forwarder.proofs.Groups.{Ended}
use Rattle.yimarotu_driven_forwarder.proofs.driven_forwarder.DrivenForwarder.replace.Goals as goal

pub returns-in-Ok : goal.returns-in-Ok
returns-in-Ok c =
    let was : c.self.inside.forwarder ≡ c.args.self.now.forwarder = search rules in
    let ended : Ended = Ok c.in-Ok.field-0 in
    let P : ForwarderValue → Type 0 = λ f. AsksServers c.args.settings.servers c.args.settings.groups f ended c.set_servers.new.forwarder in
    (ended, c.set_servers.new.forwarder, subst P was c.in-Ok.ensures, (refl, search rules))

pub returns-in-Err : goal.returns-in-Err
returns-in-Err c =
    let was : c.self.inside.forwarder ≡ c.args.self.now.forwarder = search rules in
    let ended : Ended = Err c.in-Err.error in
    let P : ForwarderValue → Type 0 = λ f. AsksServers c.args.settings.servers c.args.settings.groups f ended c.set_servers.new.forwarder in
    (ended, c.set_servers.new.forwarder, subst P was c.in-Err.ensures, (refl, search rules))
