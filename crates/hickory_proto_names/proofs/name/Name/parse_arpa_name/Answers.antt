-- The last two labels tell the family, and the labels before them the network.
use Rattle.std.proofs.Common.{◌≢◌, true, false, sym, ◌∙◌, ap, refl}
use Rattle.std.specs.Prelude.{codes}
use Rattle.hickory_proto_names.specs.Name.{lower_label}
use Rattle.hickory_proto_names.proofs.ArpaNames.{HasLastTwo, ends_read, zone_read, no_family}
use Rattle.hickory_proto_names.proofs.name.Name.parse_arpa_name.Goals as goal

pub returns-then-not-eq_ignore_ascii_case-clause-only : goal.returns-then-not-eq_ignore_ascii_case-clause-only
returns-then-not-eq_ignore_ascii_case-clause-only c =
    let h : HasLastTwo c.args.self.now c.labels.result.now c.family-item.result c.arpa-item.result = record { labels = c.labels.ensures.labels; some = c.in-len2-up.len_at_least; x_at = c.family-item.is; y_at = c.arpa-item.is } in
    λ net named.
    let in_arpa = ap lower_label c.deref.ensures.value ∙ (ends_read _ _ _ _ h net named).1 in
    let yes = c.if-not-eq_ignore_ascii_case.ensures.test.1 in_arpa in
    absurd (cc)

pub returns-then-eq_ignore_ascii_case-clause-ok : goal.returns-then-eq_ignore_ascii_case-clause-ok
returns-then-eq_ignore_ascii_case-clause-ok c =
    let h : HasLastTwo c.args.self.now c.labels.result.now c.family-item.result c.arpa-item.result = record { labels = c.labels.ensures.labels; some = c.in-len2-up.len_at_least; x_at = c.family-item.is; y_at = c.arpa-item.is } in
    let in_family = ap lower_label (sym c.deref-2.ensures.value) ∙ c.if-eq_ignore_ascii_case.ensures.test.0 refl in
    let in_arpa = ap lower_label (sym c.deref.ensures.value) ∙ c.if-not-eq_ignore_ascii_case.ensures.test.0 refl in
    (zone_read _ _ _ _ h false c.ipv4_net.result c.ok_or.result (sym c.if-not-is_fqdn.ensures) in_family in_arpa c.ipv4_net.ensures c.ok_or.ensures.value).0

pub returns-then-eq_ignore_ascii_case-clause-only : goal.returns-then-eq_ignore_ascii_case-clause-only
returns-then-eq_ignore_ascii_case-clause-only c =
    let h : HasLastTwo c.args.self.now c.labels.result.now c.family-item.result c.arpa-item.result = record { labels = c.labels.ensures.labels; some = c.in-len2-up.len_at_least; x_at = c.family-item.is; y_at = c.arpa-item.is } in
    let in_family = ap lower_label (sym c.deref-2.ensures.value) ∙ c.if-eq_ignore_ascii_case.ensures.test.0 refl in
    let in_arpa = ap lower_label (sym c.deref.ensures.value) ∙ c.if-not-eq_ignore_ascii_case.ensures.test.0 refl in
    (zone_read _ _ _ _ h false c.ipv4_net.result c.ok_or.result (sym c.if-not-is_fqdn.ensures) in_family in_arpa c.ipv4_net.ensures c.ok_or.ensures.value).1

pub returns-then-eq_ignore_ascii_case-2-clause-ok : goal.returns-then-eq_ignore_ascii_case-2-clause-ok
returns-then-eq_ignore_ascii_case-2-clause-ok c =
    let h : HasLastTwo c.args.self.now c.labels.result.now c.family-item.result c.arpa-item.result = record { labels = c.labels.ensures.labels; some = c.in-len2-up.len_at_least; x_at = c.family-item.is; y_at = c.arpa-item.is } in
    let in_family = ap lower_label (sym c.deref-else-eq_ignore_ascii_case.ensures.value) ∙ c.if-eq_ignore_ascii_case-2.ensures.test.0 refl in
    let in_arpa = ap lower_label (sym c.deref.ensures.value) ∙ c.if-not-eq_ignore_ascii_case.ensures.test.0 refl in
    (zone_read _ _ _ _ h true c.ipv6_net.result c.ok_or-then-eq_ignore_ascii_case-2.result (sym c.if-not-is_fqdn.ensures) in_family in_arpa c.ipv6_net.ensures c.ok_or-then-eq_ignore_ascii_case-2.ensures.value).0

pub returns-then-eq_ignore_ascii_case-2-clause-only : goal.returns-then-eq_ignore_ascii_case-2-clause-only
returns-then-eq_ignore_ascii_case-2-clause-only c =
    let h : HasLastTwo c.args.self.now c.labels.result.now c.family-item.result c.arpa-item.result = record { labels = c.labels.ensures.labels; some = c.in-len2-up.len_at_least; x_at = c.family-item.is; y_at = c.arpa-item.is } in
    let in_family = ap lower_label (sym c.deref-else-eq_ignore_ascii_case.ensures.value) ∙ c.if-eq_ignore_ascii_case-2.ensures.test.0 refl in
    let in_arpa = ap lower_label (sym c.deref.ensures.value) ∙ c.if-not-eq_ignore_ascii_case.ensures.test.0 refl in
    (zone_read _ _ _ _ h true c.ipv6_net.result c.ok_or-then-eq_ignore_ascii_case-2.result (sym c.if-not-is_fqdn.ensures) in_family in_arpa c.ipv6_net.ensures c.ok_or-then-eq_ignore_ascii_case-2.ensures.value).1

pub returns-else-eq_ignore_ascii_case-2-clause-only : goal.returns-else-eq_ignore_ascii_case-2-clause-only
returns-else-eq_ignore_ascii_case-2-clause-only c =
    let h : HasLastTwo c.args.self.now c.labels.result.now c.family-item.result c.arpa-item.result = record { labels = c.labels.ensures.labels; some = c.in-len2-up.len_at_least; x_at = c.family-item.is; y_at = c.arpa-item.is } in
    let other4 : lower_label c.family-item.result.items ≢ codes "in-addr" = λ e. let yes = c.if-eq_ignore_ascii_case.ensures.test.1 (ap lower_label c.deref-2.ensures.value ∙ e) in absurd (cc) in
    let other6 : lower_label c.family-item.result.items ≢ codes "ip6" = λ e. let yes = c.if-eq_ignore_ascii_case-2.ensures.test.1 (ap lower_label c.deref-else-eq_ignore_ascii_case.ensures.value ∙ e) in absurd (cc) in
    λ net named. absurd (no_family _ _ _ _ h other4 other6 net named)
