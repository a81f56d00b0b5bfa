use Rattle.std.proofs.Common.{List, ℕ, ◌++◌, ap, ◌∙◌}
use Rattle.hickory_proto_wire.specs.Writing.{u16_octets}
use Rattle.hickory_resolver_tries.proofs.TryOctets.{opt_is}
use Rattle.hickory_resolver_tries.proofs.try_message.put_sent_opt.Goals as goal

pub returns : goal.returns
returns c =
    let add : ℕ → List ℕ → List ℕ = λ n o. o ++ u16_octets n in
    let e0 = c.in_ok-push.ensures.items in
    let e1 = c.in_ok-put_u16.ensures ∙ ap (add 41) e0 in
    let e2 = c.in_ok-put_u16-2.ensures ∙ ap (add c.args.opt.now.payload) e1 in
    let e3 = c.in_ok-put_u16-3.ensures ∙ ap (add 0) e2 in
    let e4 = c.in_ok-put_u16-4.ensures ∙ ap (add c.weighed.result) e3 in
    let e5 = c.in_ok-put_u16-5.ensures ∙ ap (add 0) e4 in
    e5 ∙ opt_is c.args.opt.now c.weighed.result c.args.out.now.items c.weighed.ensures
