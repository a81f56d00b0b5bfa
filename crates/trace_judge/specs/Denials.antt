-- Denials: responses that say that a name, or a type of it, does not exist (RFC 2308).
use Rattle.std.specs.Prelude.{◌+◌, ◌*◌, ℕ, Bool, false, not, ◌&&◌, ◌||◌, ◌==◌, nat_le, List, [], ◌∷◌, ◌++◌, max, fold, Option, None, Some, option_and_then, unwrap_or, if◌then◌else◌}
use Rattle.std.specs.List.{list_any}
use Rattle.hickory_proto_core.specs.Codes.{class_code, response_code, type_code}
use Rattle.hickory_proto_core.specs.Name.{NameValue, is_zone_of, name_eq}
use Rattle.hickory_proto_core.specs.Records.{DataValue, RecordValue, cname_data}
use Rattle.hickory_proto_core.specs.ResponseKind.{first_soa, is_any, is_of_type, record_type_code, soa_ttl}
use Rattle.hickory_proto_core.specs.codes.dns_class.DNSClass.{DNSClass}
use Rattle.hickory_proto_core.specs.codes.record_type.RecordType.{RecordType}
use Rattle.hickory_proto_core.specs.codes.record_type.RecordType.TheVariants as type
use Rattle.hickory_proto_core.specs.declared.query.Query.{Query}
use Rattle.trace_judge.specs.Receptions.{grace}
use Rattle.trace_judge.specs.Trace.{is_counted, milliseconds_of}
use Rattle.trace_judge.specs.declared.denials.Denial.{Denial}
use Rattle.trace_judge.specs.declared.denials.Denied.{Denied}
use Rattle.trace_judge.specs.declared.denials.Denied.TheVariants.{WholeName, OneType}
use Rattle.trace_judge.specs.declared.event.Event.{Event}
use Rattle.trace_judge.specs.declared.event.Moment.{Moment}
use Rattle.trace_judge.specs.Replies.{ReplyValue}
use Rattle.trace_judge.specs.declared.event.Said.{Said}
use Rattle.trace_judge.specs.declared.event.Said.TheVariants.{Asked, Received, Told}

-- a record of the asked type, and any for ANY
abbrev pub has_type : Query → RecordValue → Bool
has_type q r = is_any q || (type_code q.query_type == record_type_code r)

-- other name servers are named, and no zone is (RFC 2308, section 2.2)
abbrev pub is_referral : List RecordValue → Bool
is_referral authorities = list_any (is_of_type type.NS) authorities && not (list_any (is_of_type type.SOA) authorities)

-- What a response denies: the name, by NXDOMAIN; the type, where nothing of it was answered and no other server was
-- named. One that is cut short denies nothing.
abbrev pub denied_by : ReplyValue → Option Denied
denied_by reply =
    if reply.truncated then None else (
    if response_code reply.code == 3 then Some WholeName else (
    if not (response_code reply.code == 0)
    || (list_any (has_type reply.query) reply.answers || is_referral reply.authorities) then None else (
    Some (OneType reply.query.query_type))))

-- the name that a CNAME record leads to (RFC 1034, section 3.6.2)
abbrev pub alias_target : DataValue → Option NameValue
alias_target (cname_data target) = Some target
alias_target other = None

abbrev pub target_or : NameValue → Option NameValue → Bool → NameValue
target_or name None is_alias = name
target_or name (Some target) is_alias = if is_alias then target else name

abbrev pub follow : DNSClass → NameValue → RecordValue → NameValue
follow class name r =
    target_or name (alias_target r.rdata) ((class_code r.dns_class == class_code class) && name_eq r.name name)

-- the name that a response speaks of in the end: its aliases stand in the order in which they lead on
abbrev pub last_name : Query → List RecordValue → NameValue
last_name q answers = fold (follow q.query_class) q.name answers

-- the lesser TTL of the SOA record, and 0 where there is none: such a denial is not to be kept (RFC 2308, section 5)
abbrev pub negative_ttl : List RecordValue → ℕ
negative_ttl authorities = unwrap_or (option_and_then soa_ttl (first_soa authorities)) 0

-- the denial that a response is, received at a moment
abbrev pub denial_at : Moment → ReplyValue → Denied → Denial
denial_at moment reply denied = record {
  moment = moment;
  name = last_name reply.query reply.answers;
  dns_class = reply.query.query_class;
  denied = denied;
  ttl = negative_ttl reply.authorities;
}

abbrev pub denial_of : Moment → ReplyValue → Option Denied → List Denial
denial_of moment reply None = []
denial_of moment reply (Some denied) = denial_at moment reply denied ∷ []

abbrev pub denied_in : Bool → Moment → Said → List Denial
denied_in counts moment (Asked q) = []
denied_in counts moment (Received reply) = if counts then denial_of moment reply (denied_by reply) else []
denied_in counts moment (Told reply) = []

-- all denials that were received, in order
abbrev pub denials : List Event → List Denial
denials [] = []
denials (event ∷ past) = denials past ++ denied_in (is_counted past event.said) event.moment event.said

abbrev pub denial_deadline : Denial → ℕ
denial_deadline d = milliseconds_of d.moment + 1000 * d.ttl

-- a denial of a type is covered by one of the same type
abbrev pub denies_type : Denied → RecordType → Bool
denies_type WholeName t = false
denies_type (OneType asked) t = type_code asked == type_code t

-- A denied name covers itself and what is below it, of every type (RFC 8020, section 2). A denied type covers that type
-- of its name.
abbrev pub covers_denied : NameValue → Denied → NameValue → Denied → Bool
covers_denied owner WholeName name denied = is_zone_of owner name
covers_denied owner (OneType t) name denied = denies_type denied t && name_eq owner name

abbrev pub covers : DNSClass → NameValue → Denied → Denial → Bool
covers class name denied d =
    (class_code d.dns_class == class_code class) && covers_denied d.name d.denied name denied

-- such a denial runs out at that moment or later
abbrev pub covers_until : DNSClass → NameValue → Denied → ℕ → Denial → Bool
covers_until class name denied until d = covers class name denied d && nat_le until (denial_deadline d)

-- some reception denies this
abbrev pub was_denied : List Denial → DNSClass → NameValue → Denied → Bool
was_denied received class name denied = list_any (covers class name denied) received

-- a reception that denies this allows it to be kept until then
abbrev pub allows_denied : ℕ → ℕ → DNSClass → NameValue → Denied → Denial → Bool
allows_denied slack until class name denied d =
    covers class name denied d && nat_le until (denial_deadline d + grace slack)

abbrev pub was_denial_allowed : ℕ → List Denial → ℕ → DNSClass → NameValue → Denied → Bool
was_denial_allowed slack received until class name denied =
    list_any (allows_denied slack until class name denied) received

-- the latest deadline of what denies this, in milliseconds
abbrev pub later_denial : DNSClass → NameValue → Denied → ℕ → Denial → ℕ
later_denial class name denied latest d =
    if covers class name denied d then max latest (denial_deadline d) else latest

abbrev pub last_denial : List Denial → DNSClass → NameValue → Denied → ℕ
last_denial received class name denied = fold (later_denial class name denied) 0 received
