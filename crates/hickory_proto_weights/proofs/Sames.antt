-- Names that are equal, and the addresses of one server, weigh the same.
use Rattle.std.proofs.Common.{◌≡◌, ◌∙◌, ℕ, ◌+◌, ◌*◌, List, [], ◌∷◌, length, map, true, Some, refl, ap, sym, arith}
use Rattle.std.specs.Option.{option_map_or}
use Rattle.std.specs.List.{list_all, sum_by}
use Rattle.std.proofs.lemmas.Bool.{and_parts}
use Rattle.std.proofs.lemmas.List.{length-map}
use Rattle.std.proofs.lemmas.List.Sums.{sum_by-cons}
use Rattle.hickory_proto_names.specs.Name.{NameValue, name_eq, lower_label, lower_labels}
use Rattle.hickory_proto_names.specs.NameLaws.{same_from_name_eq}
use Rattle.hickory_proto_core.specs.Errors.{ForwardValue}
use Rattle.hickory_proto_core.specs.Records.{DataValue, RecordValue, ns_target, a_data, aaaa_data, cname_data, ns_data, ptr_data, soa_data, srv_data, mx_data, txt_data, unknown_data}
use Rattle.hickory_proto_weights.specs.Laws.{EqualNamesWeighTheSame, AddressesWeighAsRecords, is_address, is_address_of}
use Rattle.hickory_proto_weights.specs.Weights.{octets_weight, strings_weight, name_weight, data_weight, record_weight, records_weight, address_weight, server_weight}
use Rattle.hickory_proto_weights.specs.declared.choices.TheConstants.{NAME, RECORD, SERVER}

strings-lower : (ls : List (List ℕ)) → strings_weight (lower_labels ls) ≡ strings_weight ls
strings-lower [] = refl
strings-lower (l ∷ ls) =
    let lower = sum_by-cons octets_weight (lower_label l) (lower_labels ls) in
    let own = sum_by-cons octets_weight l ls in
    let others = strings-lower ls in
    let same : length (lower_label l) ≡ length l = length-map l _ in
    omega (arith, lower, own, others, same)

pub equal_names : EqualNamesWeighTheSame
equal_names a b e =
    let same = (same_from_name_eq a b e).1 in
    ap (λ w. NAME + w) (sym (strings-lower a.labels) ∙ ap strings_weight same ∙ strings-lower b.labels)

address-data : (d : DataValue) → is_address d ≡ true → data_weight d ≡ 0
address-data (a_data octets) e = refl
address-data (aaaa_data segments) e = refl
address-data (cname_data target) e = cc
address-data (ns_data target) e = cc
address-data (ptr_data target) e = cc
address-data (soa_data mname rname serial refresh retry expire minimum) e = cc
address-data (srv_data priority weight port target) e = cc
address-data (mx_data preference exchange) e = cc
address-data (txt_data strings) e = cc
address-data (unknown_data code octets) e = cc

address-record : (server : NameValue) (r : RecordValue) → is_address_of server r ≡ true
    → record_weight r ≡ RECORD + name_weight server
address-record server r e =
    let parts = and_parts (name_eq server r.name) (is_address r.rdata) e in
    let names = equal_names server r.name parts.0 in
    let none = address-data r.rdata parts.1 in
    omega (arith, names, none)

address-records : (server : NameValue) (rs : List RecordValue) → list_all (is_address_of server) rs ≡ true
    → records_weight rs ≡ length rs * (RECORD + name_weight server)
address-records server [] e = omega arith
address-records server (r ∷ rs) e =
    let parts = and_parts (is_address_of server r) (list_all (is_address_of server) rs) e in
    let first = address-record server r parts.0 in
    let others = address-records server rs parts.1 in
    let all = sum_by-cons record_weight r rs in
    grind (arith, first, others, all)

pub addresses : AddressesWeighAsRecords
addresses f server names all =
    let each = address-records server f.glue all in
    let one = ap address_weight names in
    rw (one, each) refl
