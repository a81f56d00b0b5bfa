use Rattle.std.proofs.Common.{◌≡◌, ℕ, List, ◌++◌, subst, rules, ◌∙◌}
use Rattle.std.specs.List.{flat_map}
use Rattle.hickory_proto_wire.specs.Writing.{u16_octets}
use Rattle.hickory_proto_wire.proofs.Data.{eight}
use Rattle.hickory_proto_wire.proofs.Written.{eight_added}
use Rattle.hickory_proto_wire.proofs.data_writer.put_aaaa.Goals as goal

pub returns-clause-octets : goal.returns-clause-octets
returns-clause-octets c =
    subst (λ (s : List ℕ). c.put_u16-8.new.out.items ≡ c.args.out.now.items ++ flat_map u16_octets s)
    (eight c.segments-segments.result (search rules) ∙ c.segments-segments.ensures)
    (eight_added _ _ _ _ _ _ _ _ _ _ _ _ _ _ _ _ _ c.in_ok-put_u16.ensures c.in_ok-put_u16-2.ensures
    c.in_ok-put_u16-3.ensures c.in_ok-put_u16-4.ensures c.in_ok-put_u16-5.ensures c.in_ok-put_u16-6.ensures
    c.in_ok-put_u16-7.ensures c.in_ok-put_u16-8.ensures)
