use Rattle.std.proofs.Common.{List, ℕ, ◌++◌, ap, ◌∙◌}
use Rattle.hickory_proto_wire.specs.Writing.{u16_octets}
use Rattle.hickory_resolver_tries.proofs.TryOctets.{header_is}
use Rattle.hickory_resolver_tries.proofs.try_message.put_header.Goals as goal

pub returns : goal.returns
returns c =
    let add : ℕ → List ℕ → List ℕ = λ n o. o ++ u16_octets n in
    let e1 = c.in_ok-put_u16.ensures in
    let e2 = c.in_ok-put_u16-2.ensures ∙ ap (add c.query_flags.result) e1 in
    let e3 = c.in_ok-put_u16-3.ensures ∙ ap (add 1) e2 in
    let e4 = c.in_ok-put_u16-4.ensures ∙ ap (add 0) e3 in
    let e5 = c.in_ok-put_u16-5.ensures ∙ ap (add 0) e4 in
    let e6 = c.in_ok-put_u16-6.ensures ∙ ap (add c.weighed.result) e5 in
    e6 ∙ ap (λ (n : ℕ). add n (add 0 (add 0 (add 1 (add c.query_flags.result (add c.args.form.now.id c.args.out.now.items)))))) c.weighed.ensures
    ∙ header_is c.args.question.now c.args.form.now c.args.with_opt c.query_flags.result c.args.out.now.items c.requires
    c.query_flags.ensures
