-- The walk along aliases, record by record: its last name, and whether it was led on.
use Rattle.std.proofs.Common.{◌≡◌, ℕ, ◌+◌, Bool, true, false, ◌||◌, List, [], ◌∷◌, length, drop, ◌≤◌, refl, ap, sym, ◌∙◌}
use Rattle.std.specs.Prelude.{Option}
use Rattle.std.specs.Option.{option_map_or, unwrap_or, is_some}
use Rattle.std.proofs.lemmas.List.{drop_all}
use Rattle.hickory_proto_core.specs.Name.{NameValue, name_eq}
use Rattle.hickory_proto_core.specs.Records.{RecordValue, DataValue, a_data, aaaa_data, cname_data, ns_data, ptr_data, soa_data, srv_data, mx_data, txt_data, unknown_data}
use Rattle.hickory_resolver_model.specs.AliasWalk.{Counted, Walk, counted_data, reached_by, walk_step, walk_from, is_moved}
use Rattle.hickory_resolver_tries.specs.Chain.{target_if, alias_at, next_name}

-- the last name of a walk, and whether aliases led it on
pub record Ends : Type 0 where
  pub last : NameValue
  pub moved : Bool

abbrev ends_of : Walk → Ends
ends_of w = record { last = w.last; moved = is_moved w }

abbrev led : Option NameValue → Ends → Ends
led target e = record { last = e.last; moved = is_some target || e.moved }

step : (walk : NameValue → Walk) (place ttl : ℕ) (reached : NameValue) (owns asked : Bool) (d : DataValue)
    → ends_of (option_map_or (λ (c : Counted). walk_step place ttl c (walk (reached_by reached c))) (counted_data owns asked d) (walk reached))
    ≡ led (target_if owns d) (ends_of (walk (unwrap_or (target_if owns d) reached)))
step walk place ttl reached true asked (cname_data target) = refl
step walk place ttl reached false asked (cname_data target) = refl
step walk place ttl reached true asked (srv_data priority weight port target) = refl
step walk place ttl reached false true (srv_data priority weight port target) = refl
step walk place ttl reached false false (srv_data priority weight port target) = refl
step walk place ttl reached owns asked (a_data octets) = refl
step walk place ttl reached owns asked (aaaa_data segments) = refl
step walk place ttl reached owns asked (ns_data target) = refl
step walk place ttl reached owns asked (ptr_data target) = refl
step walk place ttl reached owns asked (soa_data mname rname serial refresh retry expire minimum) = refl
step walk place ttl reached owns asked (mx_data preference exchange) = refl
step walk place ttl reached owns asked (txt_data strings) = refl
step walk place ttl reached owns asked (unknown_data code octets) = refl

-- the same of records alone
abbrev pub ends_from : NameValue → List RecordValue → Ends
ends_from reached [] = record { last = reached; moved = false }
ends_from reached (r ∷ rs) = led (alias_at reached r) (ends_from (next_name reached r) rs)

pub walk_ends : (place : ℕ) (asked reached : NameValue) (rs : List RecordValue)
    → ends_of (walk_from place asked reached rs) ≡ ends_from reached rs
walk_ends place asked reached [] = refl
walk_ends place asked reached (r ∷ rs) =
    step (λ name. walk_from (place + 1) asked name rs) place r.ttl reached (name_eq reached r.name) (name_eq asked r.name) r.rdata
    ∙ ap (led (alias_at reached r)) (walk_ends (place + 1) asked (next_name reached r) rs)

-- ---- a loop over them

-- what was found so far, and what the rest gives
abbrev pub so_far : Bool → Ends → Ends
so_far moved e = record { last = e.last; moved = moved || e.moved }

or_false : (b : Bool) → b ≡ (b || false)
or_false true = refl
or_false false = refl

pub ends_all : (moved : Bool) (reached name : NameValue) (answers : List RecordValue) (i : ℕ)
    → so_far moved (ends_from reached (drop i answers)) ≡ ends_from name answers → length answers ≤ i
    → record { last = reached; moved = moved } ≡ ends_from name answers
ends_all moved reached name answers i h end =
    ap (λ b. record { last = reached; moved = b }) (or_false moved)
    ∙ ap (λ (rs : List RecordValue). so_far moved (ends_from reached rs)) (sym (drop_all i answers end)) ∙ h
