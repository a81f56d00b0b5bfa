-- Where a response leads the one who asked: it is accepted, or it is an alias of another name, or it has
-- nothing that was asked for (RFC 1034, section 3.6.2; RFC 1035, section 7.3).
use Rattle.std.specs.Prelude.{ℕ, Bool, not, ◌&&◌, ◌||◌, ◌==◌, List, [], ◌∷◌, ◌++◌, map, filter, min, if◌then◌else◌}
use Rattle.hickory_proto_core.specs.Name.{NameValue, name_eq}
use Rattle.hickory_proto_core.specs.Codes.{type_code, class_code}
use Rattle.hickory_proto_core.specs.Records.{RecordValue}
use Rattle.hickory_proto_core.specs.Messages.{MessageValue, some_record}
use Rattle.hickory_proto_core.specs.ResponseKind.{is_any, record_type_code, is_of_type, is_empty}
use Rattle.hickory_proto_core.specs.codes.record_type.RecordType.TheVariants as type
use Rattle.hickory_proto_core.specs.declared.query.Query.{Query}
use Rattle.hickory_proto_core.specs.codes.dns_class.DNSClass.TheVariants as class
use Rattle.hickory_resolver_model.specs.AliasWalk.{Walk, ends_at, has_target, is_moved, walk_of}

-- a question on the way of a look-up, and the records that were preserved before it
pub record Hop : Type 0 where
  pub query : Query
  pub preserved : List RecordValue

-- the first hop of a question: nothing is preserved before it
abbrev pub first_hop : Query → Hop
first_hop q = record { query = q; preserved = [] }

-- the response is accepted, with these sections; or it leads to another hop; or it has nothing that was asked
-- for
pub data Verdict : Type 0 where
  Accepted : MessageValue → Verdict
  LeadsTo : Hop → Verdict
  NoMatch : Verdict

abbrev pub has_class : Query → RecordValue → Bool
has_class q r = class_code q.query_class == class_code r.dns_class

abbrev pub has_type : Query → RecordValue → Bool
has_type q r = is_any q || (type_code q.query_type == record_type_code r)

-- a record of the asked class and type (any, for ANY), owned by the asked name, by the last name of the walk, or
-- by a target
abbrev pub is_match : Query → Walk → RecordValue → Bool
is_match q walk r =
    has_class q r && has_type q r && (name_eq q.name r.name || (ends_at walk r.name || has_target walk r.name))

-- a match that the walk led to: a target owns it, or the last name, where an alias moved it
abbrev pub is_led_match : Query → Walk → RecordValue → Bool
is_led_match q walk r =
    has_class q r && has_type q r && (has_target walk r.name || (is_moved walk && ends_at walk r.name))

-- a CNAME record of the asked class
abbrev pub is_intermediate : Query → RecordValue → Bool
is_intermediate q r = has_class q r && is_of_type type.CNAME r

abbrev pub with_ttl_at_most : ℕ → RecordValue → RecordValue
with_ttl_at_most ttl r = record r { ttl = min r.ttl ttl }

abbrev pub all_records : MessageValue → List RecordValue
all_records m = m.answers ++ m.authorities ++ m.additionals

-- Some record matches, and either no alias counted or no record was preserved.
abbrev pub is_accepted : Hop → Walk → MessageValue → Bool
is_accepted hop walk m =
    some_record (is_match hop.query walk) m && (not (is_moved walk) || is_empty hop.preserved)

-- The answers of an accepted response are filtered where records were preserved; and where intermediate records
-- are not wanted, and the walk led to a match.
abbrev pub is_filtered : Bool → Hop → Walk → MessageValue → Bool
is_filtered keep hop walk m =
    not (is_empty hop.preserved) || (some_record (is_led_match hop.query walk) m && not keep)

-- the preserved records, then the matches and, where they are wanted, the intermediate records of this
-- response, whose TTLs are at most that of the walk
abbrev pub filtered_answers : Bool → Hop → Walk → MessageValue → List RecordValue
filtered_answers keep hop walk m =
    hop.preserved
    ++ map (with_ttl_at_most walk.ttl)
    (filter (λ r. is_match hop.query walk r || (keep && is_intermediate hop.query r))
    (all_records m))

abbrev pub found_message : Bool → Hop → Walk → MessageValue → MessageValue
found_message keep hop walk m =
    if is_filtered keep hop walk m then record m { answers = filtered_answers keep hop walk m } else m

-- where a walk leads: to its last name where an alias counted, else to the first target
abbrev pub first_or : NameValue → List NameValue → NameValue
first_or n [] = n
first_or n (target ∷ targets) = target

abbrev pub next_name : Walk → NameValue
next_name walk = if is_moved walk then walk.last else first_or walk.last walk.targets

-- the next hop: the name that the walk leads to, in the class of the Internet; where they are wanted, the
-- intermediate records of this response are preserved
abbrev pub next_hop : Bool → Hop → Walk → MessageValue → Hop
next_hop keep hop walk m = record {
  query = record { name = next_name walk; query_type = hop.query.query_type; query_class = class.IN };
  preserved =
      hop.preserved ++ (if keep
      then map (with_ttl_at_most walk.ttl) (filter (is_intermediate hop.query) (all_records m)) else []);
}

abbrev pub walk_verdict : Bool → Hop → Walk → MessageValue → Verdict
walk_verdict keep hop walk m =
    if is_accepted hop walk m then Accepted (found_message keep hop walk m)
    else (if is_empty walk.places then NoMatch else LeadsTo (next_hop keep hop walk m))

-- the verdict on a response to a hop; `keep` says whether intermediate records are wanted
abbrev pub verdict : Bool → Hop → MessageValue → Verdict
verdict keep hop m = walk_verdict keep hop (walk_of hop.query m.answers) m
