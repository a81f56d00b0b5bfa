use Rattle.std.proofs.Common.{length, sym, ap, ◌∙◌}
use Rattle.indexmap.specs.Entry.{entry_index}
use Rattle.indexmap.specs.IndexMap.{insert_index, insert_entry}
use Rattle.hickory_proto_core.specs.Name.{name_eq}
use Rattle.hickory_proto_core.specs.Records.{data_of_address}
use Rattle.hickory_resolver_model.specs.Hosts.{with_lookup}
use Rattle.hickory_resolver_hosts.specs.HostsTable.{hosts_of, place_in, put_host}
use Rattle.hickory_resolver_hosts.proofs.GivenAddresses.{on_ok}
use Rattle.hickory_resolver_hosts.proofs.Places.{told_indexed, none_past, place_is, put_behind, put_is_insert}
use Rattle.hickory_resolver_hosts.proofs.table.insert_indexed.Goals as goal

pub join-requires-clause-place : goal.join-requires-clause-place
join-requires-clause-place g c =
    let lent = rw c.in-Occupied.is at c.in_ok-entry.ensures.same_map in
    let stays = rw c.in-Occupied.is at c.in_ok-entry.ensures.unchanged in
    let at = rw c.in-Occupied.is at c.in_ok-entry.ensures.index in
    c.index-place.ensures ∙ at ∙ ap (λ k. insert_index name_eq c.args.names.now k) c.in_ok-clone.ensures.cases
    ∙ sym (place_is c.args.name c.args.names.now.entries)
    ∙ ap (λ es. place_in c.args.name (hosts_of es)) (sym (ap (λ m. m.entries) (c.names-in-Occupied-1.given.1 (sym lent)) ∙ stays))

pub returns-clause-ok : goal.returns-clause-ok
returns-clause-ok g c =
    let lent = rw c.in-Occupied.is at c.in_ok-entry.ensures.same_map in
    let stays = rw c.in-Occupied.is at c.in_ok-entry.ensures.unchanged in
    on_ok c.join.result (λ e. e
    ∙ ap (λ es. put_host (with_lookup c.args.name c.args.record_type c.args.lookup c.args.now) c.args.name (hosts_of es))
    (ap (λ m. m.entries) (c.names-in-Occupied-1.given.1 (sym lent)) ∙ stays)
    ∙ put_is_insert c.args.name c.args.record_type c.args.lookup c.args.now c.args.names.now.entries c.requires.as_fqdn
    c.in_ok-entry.ensures.unique) c.join.ensures.ok

pub returns-in-Vacant-clause-ok : goal.returns-in-Vacant-clause-ok
unfolding entry_index
returns-in-Vacant-clause-ok g c =
    let lent = rw c.in-Vacant.is at c.in_ok-entry.ensures.same_map in
    let stays = rw c.in-Vacant.is at c.in_ok-entry.ensures.unchanged in
    let at = rw c.in-Vacant.is at c.in_ok-entry.ensures.index in
    let puts = rw c.in-Vacant.is at c.in_ok-entry.ensures.update in
    let w = c.insert_entry-entry.ensures in
    let last = place_is c.args.name c.args.names.now.entries
    ∙ sym (at ∙ ap (λ k. insert_index name_eq c.args.names.now k) c.in_ok-clone.ensures.cases) ∙ ap length stays in
    ap (λ m. hosts_of m.entries) (c.names-in-Vacant-1.given.1 (sym (w.0 ∙ lent)) ∙ w.1)
    ∙ ap hosts_of (puts.1 c.in-Ok.first ∙ ap (λ k. insert_entry name_eq c.args.names.now.entries k c.in-Ok.first) c.in_ok-clone.ensures.cases)
    ∙ put_behind (with_lookup c.args.name c.args.record_type c.args.lookup c.args.now) c.args.name c.args.names.now.entries
    c.in-Ok.first last (c.in-Ok.ensures.ok c.args.name)
    ∙ put_is_insert c.args.name c.args.record_type c.args.lookup c.args.now c.args.names.now.entries c.requires.as_fqdn
    c.in_ok-entry.ensures.unique

pub returns-in-Vacant-clause-indexed : goal.returns-in-Vacant-clause-indexed
unfolding entry_index
returns-in-Vacant-clause-indexed g c =
    let lent = rw c.in-Vacant.is at c.in_ok-entry.ensures.same_map in
    let stays = rw c.in-Vacant.is at c.in_ok-entry.ensures.unchanged in
    let at = rw c.in-Vacant.is at c.in_ok-entry.ensures.index in
    let puts = rw c.in-Vacant.is at c.in_ok-entry.ensures.update in
    let w = c.insert_entry-entry.ensures in
    let place = at ∙ ap (λ k. insert_index name_eq c.args.names.now k) c.in_ok-clone.ensures.cases
    ∙ sym (place_is c.args.name c.args.names.now.entries) in
    let after = ap (λ m. hosts_of m.entries) (c.names-in-Vacant-1.given.1 (sym (w.0 ∙ lent)) ∙ w.1)
    ∙ ap hosts_of (puts.1 c.in-Ok.first ∙ ap (λ k. insert_entry name_eq c.args.names.now.entries k c.in-Ok.first) c.in_ok-clone.ensures.cases)
    ∙ put_behind (with_lookup c.args.name c.args.record_type c.args.lookup c.args.now) c.args.name c.args.names.now.entries
    c.in-Ok.first (sym place ∙ ap length stays) (c.in-Ok.ensures.ok c.args.name) in
    told_indexed _ _ c.args.owners.now c.first.new.owners c.args.name c.args.record_type c.args.lookup c.args.now
    c.index-place-in-Vacant.result c.requires.indexed (c.index-place-in-Vacant.ensures ∙ place) after c.in-Ok.ensures.told

pub first-requires : goal.first-requires
unfolding entry_index
first-requires g c = λ a is.
    c.requires.indexed a is c.index-place-in-Vacant.result
    ∙ none_past c.args.names.now.entries (data_of_address a) c.index-place-in-Vacant.result
    (c.index-place-in-Vacant.ensures ∙ ap length (rw c.in-Vacant.is at c.in_ok-entry.ensures.unchanged))
