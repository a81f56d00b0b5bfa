-- All octets have their labels, and these are a name's.
use Rattle.std.proofs.Common.{◌≡◌, ℕ, ◌-◌, ◌<◌, List, decimal, drop, get_or, length, map, reverse, None, sym, ◌∙◌, ap, subst, arith}
use Rattle.std.specs.declared.net.IpAddr.TheVariants.{V4}
use Rattle.std.specs.Net.Addr.{ipv4_octets}
use Rattle.hickory_proto_names.specs.Name.{label_bytes, label_fault}
use Rattle.hickory_proto_names.specs.Arpa.{arpa_name, whole_net}
use Rattle.hickory_proto_names.proofs.ArpaMade.{ipv4_labels, ipv4_valid, ipv4_whole, taken, made_of, read_back}
use Rattle.hickory_proto_names.proofs.arpa.ipv4_name.Goals as goal

made_labels : (c : goal.After-from_labels) → label_bytes c.in_ok-with_zone.field-0.items ≡ (arpa_name (whole_net (V4 c.args.address))).labels
made_labels c =
    let size : length (ipv4_octets c.args.address) ≡ 4 = ap length (sym c.octets-octets.ensures) ∙ c.loop-i.invariant.size in
    let made = c.loop-i.invariant.made ∙ ap (λ (o : List ℕ). reverse (map decimal (drop (4 - c.loop-i.i) o))) c.octets-octets.ensures in
    c.in_ok-with_zone.ensures.ok ∙ ipv4_labels c.args.address (label_bytes c.loop-i.labels.items) c.loop-i.i size (omega arith) made

pub returns-clause-ok : goal.returns-clause-ok
returns-clause-ok c = made_of c.from_labels.result _ _ (made_labels c) c.from_labels.ensures.ok

pub returns-clause-back : goal.returns-clause-back
returns-clause-back c =
    let size : length (ipv4_octets c.args.address) ≡ 4 = ap length (sym c.octets-octets.ensures) ∙ c.loop-i.invariant.size in
    let P : List ℕ → Type 0 = λ o. (k : ℕ) → get_or o k 0 < 256 in
    let small = subst P c.octets-octets.ensures (λ k. c.loop-i.invariant.small k (omega arith)) in
    read_back c.from_labels.result (whole_net (V4 c.args.address)) (ipv4_whole c.args.address size small) (made_of c.from_labels.result _ _ (made_labels c) c.from_labels.ensures.ok)

pub returns-clause-err : goal.returns-clause-err
returns-clause-err c =
    let size : length (ipv4_octets c.args.address) ≡ 4 = ap length (sym c.octets-octets.ensures) ∙ c.loop-i.invariant.size in
    let P : List ℕ → Type 0 = λ o. (k : ℕ) → get_or o k 0 < 256 in
    let small = subst P c.octets-octets.ensures (λ k. c.loop-i.invariant.small k (omega arith)) in
    let valid : label_fault (label_bytes c.in_ok-with_zone.field-0.items) ≡ None = ap label_fault (made_labels c) ∙ ipv4_valid c.args.address size small in
    taken c.from_labels.result _ valid c.from_labels.ensures.err
