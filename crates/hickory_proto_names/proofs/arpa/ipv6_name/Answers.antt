-- All octets have their labels, and these are a name's.
use Rattle.std.proofs.Common.{◌≡◌, ℕ, ◌-◌, ◌<◌, List, drop, get_or, length, map, reverse, None, sym, ◌∙◌, ap, subst, arith}
use Rattle.std.specs.declared.net.IpAddr.TheVariants.{V6}
use Rattle.std.specs.Net.Addr.{ipv6_octets}
use Rattle.hickory_proto_names.specs.Name.{label_bytes, label_fault}
use Rattle.hickory_proto_names.specs.Arpa.{arpa_name, whole_net, hex_label, nibbles_of}
use Rattle.hickory_proto_names.proofs.ArpaMade.{ipv6_labels, ipv6_valid, ipv6_whole, taken, made_of, read_back}
use Rattle.hickory_proto_names.proofs.arpa.ipv6_name.Goals as goal

made_labels : (c : goal.After-from_labels) → label_bytes c.in_ok-with_zone.field-0.items ≡ (arpa_name (whole_net (V6 c.args.address))).labels
made_labels c =
    let size : length (ipv6_octets c.args.address) ≡ 16 = ap length (sym c.octets-octets.ensures) ∙ c.loop-i.invariant.size in
    let made = c.loop-i.invariant.made ∙ ap (λ (o : List ℕ). reverse (map hex_label (nibbles_of (drop (16 - c.loop-i.i) o)))) c.octets-octets.ensures in
    c.in_ok-with_zone.ensures.ok ∙ ipv6_labels c.args.address (label_bytes c.loop-i.labels.items) c.loop-i.i size (omega arith) made

pub returns-clause-ok : goal.returns-clause-ok
returns-clause-ok c = made_of c.from_labels.result _ _ (made_labels c) c.from_labels.ensures.ok

pub returns-clause-back : goal.returns-clause-back
returns-clause-back c =
    let size : length (ipv6_octets c.args.address) ≡ 16 = ap length (sym c.octets-octets.ensures) ∙ c.loop-i.invariant.size in
    let P : List ℕ → Type 0 = λ o. (k : ℕ) → get_or o k 0 < 256 in
    let small = subst P c.octets-octets.ensures (λ k. c.loop-i.invariant.small k (omega arith)) in
    read_back c.from_labels.result (whole_net (V6 c.args.address)) (ipv6_whole c.args.address size small) (made_of c.from_labels.result _ _ (made_labels c) c.from_labels.ensures.ok)

pub returns-clause-err : goal.returns-clause-err
returns-clause-err c =
    let size : length (ipv6_octets c.args.address) ≡ 16 = ap length (sym c.octets-octets.ensures) ∙ c.loop-i.invariant.size in
    let valid : label_fault (label_bytes c.in_ok-with_zone.field-0.items) ≡ None = ap label_fault (made_labels c) ∙ ipv6_valid c.args.address size in
    taken c.from_labels.result _ valid c.from_labels.ensures.err
