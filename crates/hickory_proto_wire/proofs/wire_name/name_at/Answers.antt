use Rattle.std.proofs.Common.{◌≡◌, sym, subst}
use Rattle.std.proofs.lemmas.Result.{err_from_is_err_and}
use Rattle.hickory_proto_names.specs.Name.{NameValue}
use Rattle.hickory_proto_wire.specs.LabelsPlace.{labels_place}
use Rattle.hickory_proto_wire.specs.ReadNames.{IsReadAt}
use Rattle.hickory_proto_wire.proofs.Measures.{name_unmeasured}
use Rattle.hickory_proto_wire.proofs.Fits.{ok_is}
use Rattle.hickory_proto_wire.proofs.Readings.{is_read, is_known}
use Rattle.hickory_proto_wire.proofs.wire_name.name_at.Goals as goal

pub returns-in_err-end-clause-exact : goal.returns-in_err-end-clause-exact
returns-in_err-end-clause-exact c =
    let p = err_from_is_err_and c.from_residual-in_err-end.result c.from_residual-in_err-end.ensures.1 in
    rw (p.1, p.2) (name_unmeasured c.in_err-end.field-0.0 c.args.bytes.now c.args.at c.in_err-end.ensures.exact)

pub returns-in-Some-clause-exact : goal.returns-in-Some-clause-exact
returns-in-Some-clause-exact c =
    let place : c.in_ok-place.place ≡ labels_place c.args.bytes.now c.args.at =
    ok_is c.in_ok-place.place (labels_place c.args.bytes.now c.args.at) (sym c.in_ok-place.ensures) in
    is_known c.args.bytes.now c.args.names.now c.args.at c.in_ok-place.place c.in_ok-end.field-0-0 c.in_ok-end.end
    c.in_ok-clone.field-0 c.requires place c.in_ok-end.ensures.exact
    (subst (λ (n : NameValue). IsReadAt c.args.names.now c.in_ok-place.place n) (sym c.in_ok-clone.ensures.cases) c.in-Some.ensures)

pub remembered-requires : goal.remembered-requires
remembered-requires c =
    let place : c.in_ok-place.place ≡ labels_place c.args.bytes.now c.args.at =
    ok_is c.in_ok-place.place (labels_place c.args.bytes.now c.args.at) (sym c.in_ok-place.ensures) in
    is_read c.args.bytes.now c.args.names.now c.args.at c.in_ok-place.place c.in_ok-name.end c.in_ok-name.name c.requires
    place c.in_ok-name.ensures
