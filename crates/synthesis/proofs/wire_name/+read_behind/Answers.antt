use Rattle.std.proofs.Common.{◌≡◌, ◌∙◌, ◌-◌, ◌++◌, ◌∷◌, [], IfOk, ap, drop, length, subst, take, arith, inl, inr}
use Rattle.hickory_proto_core.specs.Name.{label_bytes}
use Rattle.synthesis.specs.WireNames.{read_behind}
use Rattle.synthesis.proofs.Steps.{LabelAt, bad_label, behind, few_bytes, good_label, is_bad, is_good, last_label, no_label_at, pushed}
use Rattle.synthesis.proofs.wire_name.+read_behind.Goals.{then-count-gt63-via-then-count-gt63, then-count-gt63-via-else-count-gt63+then-rest-count}
use Rattle.synthesis.proofs.wire_name.+read_behind.Goals as goal

pub returns-then-more-eq0 : goal.returns-then-more-eq0
returns-then-more-eq0 t c = no_label_at (label_bytes c.args.labels.items) c.args.more c.args.bytes.now c.if-more-eq0.true

pub returns-in_default : goal.returns-in_default
returns-in_default t c = few_bytes (label_bytes c.args.labels.items) c.args.more c.args.bytes.now (omega (arith, c.in_default.len_below))

pub returns-then-count-eq0 : goal.returns-then-count-eq0
returns-then-count-eq0 t c =
    let bytes = c.args.bytes.now in let rest = take (length bytes - 1) (drop 1 bytes) in
    let w : LabelAt c.args.more bytes c.from-count.result rest
    = record { some = omega arith; one = c.in-len1-up.len_at_least; count_is = c.from-count.ensures; rest_is = behind 1 bytes } in
    subst (λ x. IfOk c.named.result (λ n. n ≡ x))
    (last_label (label_bytes c.args.labels.items) c.args.more bytes c.from-count.result rest w c.if-count-eq0.true) c.named.ensures

pub returns-then-count-gt63 : goal.returns-then-count-gt63
returns-then-count-gt63 t c =
    let bytes = c.args.bytes.now in let rest = take (length bytes - 1) (drop 1 bytes) in
    let w : LabelAt c.args.more bytes c.from-count.result rest
    = record { some = omega arith; one = c.in-len1-up.len_at_least; count_is = c.from-count.ensures; rest_is = behind 1 bytes } in
    elim c.then-count-gt63.branch [
      | then-count-gt63-via-then-count-gt63 v ↦ bad_label (label_bytes c.args.labels.items) c.args.more bytes c.from-count.result rest w
          c.if-count-eq0.false (is_bad c.from-count.result (length rest) (inl v.if-count-gt63.true))
      | then-count-gt63-via-else-count-gt63+then-rest-count v ↦ bad_label (label_bytes c.args.labels.items) c.args.more bytes c.from-count.result rest w
          c.if-count-eq0.false (is_bad c.from-count.result (length rest) (inr v.if-rest-count.true))
    ]

pub returns : goal.returns
returns t c =
    let bytes = c.args.bytes.now in let rest = take (length bytes - 1) (drop 1 bytes) in
    let w : LabelAt c.args.more bytes c.from-count.result rest
    = record { some = omega arith; one = c.in-len1-up.len_at_least; count_is = c.from-count.ensures; rest_is = behind 1 bytes } in
    subst (λ x. IfOk c.read_behind.result (λ n. n ≡ x))
    (ap (λ ls. read_behind ls (c.args.more - 1) (take (length rest - c.from-count.result) (drop c.from-count.result rest)))
    (ap label_bytes c.in_ok-push.ensures.items ∙ pushed c.args.labels.items c.in_ok-label.label (take c.from-count.result rest) c.in_ok-label.ensures)
    ∙ ap (read_behind (label_bytes c.args.labels.items ++ take c.from-count.result rest ∷ []) (c.args.more - 1)) (behind c.from-count.result rest)
    ∙ good_label (label_bytes c.args.labels.items) c.args.more bytes c.from-count.result rest w c.if-count-eq0.false
    (is_good c.from-count.result (length rest) (omega arith) (omega arith))) c.read_behind.ensures
