use Rattle.std.proofs.Common.{◌<◌, length, subst, sym}
use Rattle.forwarder_settings.proofs.Labels.{short_label}
use Rattle.forwarder_settings.proofs.domains.canonical.Goals as goal

pub push_label-requires : goal.push_label-requires
push_label-requires c =
    subst (λ l. length l < 256) (sym c.deref.ensures.value)
    (short_label c.args.labels.now c.loop-label.label-index c.label-item.result c.requires c.loop-label-test.true c.label-item.is)
