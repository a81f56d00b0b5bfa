use Rattle.std.proofs.Common.{◌≡◌, subst}
use Rattle.std.specs.Prelude.{OnOk}
use Rattle.local_answers.specs.Zones.{locally_served_zones}
use Rattle.forwarder_settings.specs.LocalRules.{served_rules}
use Rattle.forwarder_settings.specs.Reading.{SettingsValue}
use Rattle.forwarder_settings.proofs.ServedZones.{served_on}
use Rattle.forwarder_settings.proofs.reading.ForwarderSettings.serve_zones.Goals as goal

pub returns-then-self-clause-ok : goal.returns-then-self-clause-ok
returns-then-self-clause-ok g c =
    let P : SettingsValue → Type 0 = λ s. OnOk c.serve_locally.result (c.serve_locally.new.self.rules ≡ served_rules s) in
    subst P c.self.view_is
    (served_on c.serve_locally.result c.self.inside.serves_locally locally_served_zones c.args.local.now.rules
    c.serve_locally.new.self.rules c.requires c.if-self.true c.serve_locally.ensures.ok)
