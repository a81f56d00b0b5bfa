use Rattle.yimarotu_forwarder.proofs.NameOctets.{label_fits}
use Rattle.yimarotu_forwarder.proofs.local.octets_of.Goals as goal

pub put_label-requires : goal.put_label-requires
put_label-requires c =
    let fits =
    label_fits c.loop-label.octets.items c.args.labels.now c.loop-label.label-index c.label-item.result
    c.loop-label.invariant c.requires c.loop-label-test.true c.label-item.is in
    rw (c.deref.ensures.value) fits
