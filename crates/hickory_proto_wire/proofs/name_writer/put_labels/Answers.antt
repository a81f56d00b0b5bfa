use Rattle.std.proofs.Common.{◌≡◌, ℕ, List, ◌++◌, [], ◌+◌, None, Some, drop, get_or, sym, ap, ◌∙◌, append_assoc, arith}
use Rattle.hickory_proto_names.specs.Name.{label_bytes}
use Rattle.hickory_proto_wire.specs.Writing.{counted}
use Rattle.hickory_proto_wire.specs.Written.{place_of, name_octets, whole_count}
use Rattle.hickory_proto_wire.proofs.Runs.{short_at}
use Rattle.hickory_proto_wire.proofs.Same.{labels_rest, labels_first, labels_some, labels_end, name_next, name_pointed}
use Rattle.hickory_proto_wire.proofs.name_writer.put_labels.Goals as goal

pub put_string-requires : goal.put_string-requires
put_string-requires c =
    rw c.deref.ensures.value
    (short_at c.args.labels.now c.loop-count.count c.index-labels-count.result c.requires c.loop-count-test.true
    c.index-labels-count.is)

pub loop-count-preserved : goal.loop-count-preserved
loop-count-preserved c =
    let places = c.args.places.now in
    let all = label_bytes c.args.labels.now in
    let rest = drop c.loop-count.count all in
    let more = drop (c.loop-count.count + 1) all in
    let label = c.index-labels-count.result.items in
    let out = c.loop-count.out.items in
    let none : place_of places rest ≡ None =
    ap (λ (ls : List (List ℕ)). place_of places ls) (sym (labels_rest c.args.labels.now c.loop-count.count))
    ∙ sym c.place_of.ensures ∙ c.in_default.is in
    let next =
    name_next places rest more label
    (labels_first c.args.labels.now c.loop-count.count c.index-labels-count.result c.loop-count-test.true c.index-labels-count.is)
    none in (
      ap (λ (o : List ℕ). o ++ name_octets places more)
          (c.in_ok-put_string.ensures ∙ ap (λ (x : List ℕ). out ++ counted x) c.deref.ensures.value)
          ∙ append_assoc out (counted label) (name_octets places more)
          ∙ ap (λ (x : List ℕ). out ++ x) (sym next.0) ∙ c.loop-count.invariant.0,
      omega (arith, next.1, c.loop-count.invariant.1),
    )

pub returns-in-Some-clause-octets : goal.returns-in-Some-clause-octets
returns-in-Some-clause-octets c =
    let places = c.args.places.now in
    let all = label_bytes c.args.labels.now in
    let rest = drop c.loop-count.count all in
    let some : place_of places rest ≡ Some c.in-Some.at =
    ap (λ (ls : List (List ℕ)). place_of places ls) (sym (labels_rest c.args.labels.now c.loop-count.count))
    ∙ sym c.place_of.ensures ∙ c.in-Some.is in
    let here =
    name_pointed places rest (drop (c.loop-count.count + 1) all) (get_or all c.loop-count.count []) c.in-Some.at
    (labels_some c.args.labels.now c.loop-count.count c.loop-count-test.true) some in
    c.in_ok-put_pointer.ensures ∙ ap (λ (x : List ℕ). c.loop-count.out.items ++ x) (sym here.0)
    ∙ c.loop-count.invariant.0

pub returns-in-Some-clause-whole : goal.returns-in-Some-clause-whole
returns-in-Some-clause-whole c =
    let places = c.args.places.now in
    let all = label_bytes c.args.labels.now in
    let rest = drop c.loop-count.count all in
    let some : place_of places rest ≡ Some c.in-Some.at =
    ap (λ (ls : List (List ℕ)). place_of places ls) (sym (labels_rest c.args.labels.now c.loop-count.count))
    ∙ sym c.place_of.ensures ∙ c.in-Some.is in
    let here =
    name_pointed places rest (drop (c.loop-count.count + 1) all) (get_or all c.loop-count.count []) c.in-Some.at
    (labels_some c.args.labels.now c.loop-count.count c.loop-count-test.true) some in
    omega (arith, here.1, c.loop-count.invariant.1)

pub returns-clause-octets : goal.returns-clause-octets
returns-clause-octets c =
    let end = labels_end c.args.labels.now c.loop-count.count c.loop-count-test.false in
    c.in_ok-push.ensures.items
    ∙ ap (λ (ls : List (List ℕ)). c.loop-count.out.items ++ name_octets c.args.places.now ls) (sym end)
    ∙ c.loop-count.invariant.0

pub returns-clause-whole : goal.returns-clause-whole
returns-clause-whole c =
    let end = labels_end c.args.labels.now c.loop-count.count c.loop-count-test.false in
    omega (
      arith,
      c.loop-count.invariant.1,
      ap (λ (ls : List (List ℕ)). whole_count c.args.places.now ls) end,
      c.loop-count-test.false,
      c.loop-count.auto.count-end,
    )
