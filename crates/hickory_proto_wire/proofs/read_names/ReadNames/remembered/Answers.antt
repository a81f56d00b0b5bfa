use Rattle.std.proofs.Common.{◌≡◌, ℕ, List, sym, subst, ◌∙◌}
use Rattle.hickory_proto_names.specs.Name.{NameValue}
use Rattle.hickory_proto_wire.specs.ReadNames.{IsReadAt}
use Rattle.hickory_proto_wire.proofs.Fits.{ok_is}
use Rattle.hickory_proto_wire.proofs.ReadTable.{AllRead, still_all_read}
use Rattle.hickory_proto_wire.proofs.read_names.ReadNames.remembered.Goals as goal

pub invariant_of-self-2 : goal.invariant_of-self-2
invariant_of-self-2 c =
    let octets = c.self.inside.octets.now in
    let name : c.args.name ≡ c.in_ok-copy.copy =
    ok_is c.args.name c.in_ok-name.name c.in_ok-name.ensures ∙ sym c.in_ok-copy.ensures.cases in
    let read : IsReadAt octets c.args.place c.in_ok-copy.copy =
    subst (λ (o : List ℕ). IsReadAt o c.args.place c.in_ok-copy.copy) (sym c.self.view_is)
    (subst (λ (n : NameValue). IsReadAt c.args.self.now c.args.place n) name c.requires) in
    subst (λ (names : List (ℕ × NameValue)). AllRead octets names) (sym c.in_ok-insert.ensures.entries)
    (still_all_read octets c.self.inside.names.entries c.args.place c.in_ok-copy.copy c.self.invariant read)
