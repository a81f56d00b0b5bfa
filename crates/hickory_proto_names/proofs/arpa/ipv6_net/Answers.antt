-- The digits are those of the address, and digits that no label writes are those of none.
use Rattle.std.proofs.Common.{◌≡◌, ℕ, ◌*◌, length, sym, subst, ap, refl, arith, true, List}
use Rattle.std.proofs.lemmas.List.{length-map}
use Rattle.std.specs.declared.net.IpAddr.TheVariants.{V6}
use Rattle.std.specs.Net.Addr.{is_ipv6}
use Rattle.hickory_proto_names.specs.declared.ip.IpNet.{IpNet}
use Rattle.hickory_proto_names.specs.Name.{label_bytes, lower_labels}
use Rattle.hickory_proto_names.specs.Arpa.{IsArpaNet, IsWritten, net_labels, part_count, hex_label}
use Rattle.hickory_proto_names.proofs.ArpaNets.{net_written, ipv6_unwritten, address_of_digits}
use Rattle.hickory_proto_names.proofs.arpa.ipv6_net.Goals as goal

pub returns-in_err-digits : goal.returns-in_err-digits
returns-in_err-digits c = rw c.from_residual.ensures (ipv6_unwritten _ c.in_err-digits.ensures.none)

pub returns : goal.returns
returns c =
    let labels = label_bytes c.args.labels.now in
    let octets = c.octets_of_digits.ensures in
    let address = address_of_digits c.from_octets.result c.octets_of_digits.result c.in_ok-digits.digits c.from_octets.ensures octets.digits octets.len c.in_ok-digits.ensures.found.small in
    let net : IpNet = record { addr = V6 c.from_octets.result; prefix_len = 4 * length c.args.labels.now } in
    let counted : length labels ≡ length c.args.labels.now = length-map c.args.labels.now _ in
    let P : List ℕ → Type 0 = λ ds. IsWritten hex_label 16 labels ds in
    let Q : IpNet → Type 0 = λ n. IsArpaNet n × (is_ipv6 n.addr ≡ true) × (lower_labels labels ≡ net_labels n) in
    let parts : part_count net ≡ length labels = omega arith in
    let prefix : net.prefix_len ≡ 4 * length labels = ap (λ n. 4 * n) (sym counted) in
    let made = net_written net 16 labels address.0 parts prefix (subst P (sym address.1) c.in_ok-digits.ensures.found) in
    subst Q (sym c.new.ensures) (made.0, refl, made.1)
