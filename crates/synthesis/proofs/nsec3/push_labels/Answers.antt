use Rattle.std.proofs.Common.{◌<◌, length, subst, sym}
use Rattle.synthesis.proofs.Hashes.{short_label}
use Rattle.synthesis.proofs.nsec3.push_labels.Goals as goal

pub push_label-requires : goal.push_label-requires
push_label-requires c =
    subst (λ l. length l < 256) (sym c.deref.ensures.value)
    (short_label c.args.labels.now c.loop-label.label-index c.label-item.result c.requires c.loop-label-test.true c.label-item.is)
