use Rattle.std.proofs.Common.{◌≡◌, ℕ, List, ◌++◌, length, ap, subst, ◌∙◌}
use Rattle.hickory_proto_wire.specs.Edns.{EdnsValue}
use Rattle.hickory_proto_wire.specs.Written.{edns_octets}
use Rattle.hickory_proto_wire.proofs.Written.{edns_added}
use Rattle.hickory_proto_wire.proofs.message_writer.put_opt.Goals as goal

pub returns-clause-octets : goal.returns-clause-octets
returns-clause-octets c =
    let inside : EdnsValue = record {
      size = c.edns.inside.size;
      version = c.edns.inside.version;
      flags = c.edns.inside.flags;
      options = c.edns.inside.options.items;
    } in
    subst (λ (e : EdnsValue). c.extend_from_slice.new.self.items ≡ c.args.out.now.items ++ edns_octets e c.args.code)
    c.edns.view_is
    (edns_added _ _ _ _ _ _ _ inside c.args.code _ _ c.opt_ttl.ensures.value (ap length c.as_slice.ensures.value)
    c.in_ok-push.ensures.items c.in_ok-put_u16.ensures c.in_ok-put_u16-2.ensures c.in_ok-put_u32.ensures
    c.in_ok-put_u16-3.ensures
    (c.in_ok-extend_from_slice.ensures.items
    ∙ ap (λ (x : List ℕ). c.put_u16-3.new.out.items ++ x) c.deref.ensures.value))
