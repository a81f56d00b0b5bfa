-- Aliases that led from a name to another (RFC 1034, section 3.6.2), and whether they had run out.
use Rattle.std.specs.Prelude.{◌+◌, ℕ, Bool, false, not, ◌&&◌, ◌||◌, ◌==◌, nat_le, List, Option, None, if◌then◌else◌, zero, suc}
use Rattle.std.specs.List.{list_any}
use Rattle.std.specs.Option.{option_map_or}
use Rattle.hickory_proto_core.specs.Codes.{class_code}
use Rattle.hickory_proto_core.specs.Name.{NameValue, name_eq}
use Rattle.hickory_proto_core.specs.codes.dns_class.DNSClass.{DNSClass}
use Rattle.hickory_proto_core.specs.declared.query.Query.{Query}
use Rattle.trace_judge.specs.Denials.{alias_target}
use Rattle.trace_judge.specs.Receptions.{deadline, grace}
use Rattle.trace_judge.specs.declared.receptions.Reception.{Reception}

-- where a reception of an alias that had not run out at a moment leads from a name
abbrev pub next_name : ℕ → ℕ → DNSClass → NameValue → Reception → Option NameValue
next_name slack at class from r =
    if (class_code r.found.dns_class == class_code class) && name_eq r.found.name from
    && nat_le at (deadline r + grace slack) then alias_target r.found.rdata else None

-- so many aliases at the most, which had not run out at that moment, lead from a name to this one
unfoldable pub leads : ℕ → ℕ → List Reception → DNSClass → NameValue → ℕ → NameValue → Bool
leads slack at received class to zero from = name_eq from to
leads slack at received class to (suc hops) from =
    name_eq from to
    || list_any (λ r. option_map_or (leads slack at received class to hops) (next_name slack at class from r) false)
    received

-- this alias leads on from a name, and so many more to the other
abbrev pub leads_by : ℕ → ℕ → List Reception → DNSClass → NameValue → ℕ → NameValue → Reception → Bool
leads_by slack at received class to hops from r =
    option_map_or (leads slack at received class to hops) (next_name slack at class from r) false

-- Aliases led from the name of a question to this name, and no such chain of them is current.
abbrev pub is_alias_outlived : ℕ → List Reception → ℕ → Query → NameValue → Bool
is_alias_outlived slack received now q owner =
    leads slack 0 received q.query_class owner 16 q.name && not (leads slack now received q.query_class owner 16 q.name)
