-- What a request attempts, and who answers it as things stand: the names in the order in which they are attempted, each
-- with the types that are looked up for it.
use Rattle.std.specs.Prelude.{◌≡◌, ◌≢◌, ◌⊎◌, ◌-◌, ℕ, Bool, true, List, [], ◌∷◌, ◌++◌, map, Option, None, Some, Result, Ok, Err, if◌then◌else◌}
use Rattle.std.specs.List.{flat_map}
use Rattle.std.specs.declared.net.IpAddr.{IpAddr}
use Rattle.hickory_proto_core.specs.Name.{NameValue}
use Rattle.hickory_proto_core.specs.NameGiven.{IsReadName, IsReadAddress}
use Rattle.hickory_proto_core.specs.codes.record_type.RecordType.{RecordType}
use Rattle.hickory_proto_core.specs.declared.query.Query.{Query}
use Rattle.hickory_proto_core.specs.names.name_error.NameError.{NameError}
use Rattle.hickory_proto_core.specs.names.name_error.NameError.TheVariants as name_fault
use Rattle.hickory_resolver_model.specs.Attempts.{attempts}
use Rattle.hickory_resolver_model.specs.Cache.{CacheValue, Entry, current}
use Rattle.hickory_resolver_model.specs.Calls.{FamilyOrder, One, Both, Fallback}
use Rattle.hickory_resolver_model.specs.Hosts.{Host, HostsHave, NotInHosts}
use Rattle.hickory_resolver_model.specs.Lookup.{LookupValue, question_of}
use Rattle.hickory_resolver_model.specs.Run.{Call, AtOnce, Attempt, RequestValue, Lookup, LookupIp, ClearLookup, Clear, Settings, name_call, address_call}
use Rattle.hickory_resolver_model.specs.SpecialUse.{is_special_use}
use Rattle.hickory_resolver.specs.declared.explaining.Answerer.{Answerer}
use Rattle.hickory_resolver.specs.declared.explaining.Answerer.TheVariants as by
use Rattle.hickory_resolver.specs.declared.explaining.Attempted.{Attempted}
use Rattle.hickory_resolver.specs.declared.explaining.Planned.{Planned}

-- ---- the questions

-- the types that may be looked up for a name
abbrev pub planned_types : FamilyOrder → List RecordType
planned_types (One t) = t ∷ []
planned_types (Both t u) = t ∷ u ∷ []
planned_types (Fallback t u) = t ∷ u ∷ []

-- the questions for a name, each with whether the table of hosts is asked
abbrev pub name_questions : FamilyOrder → Bool → NameValue → List (Query × Bool)
name_questions plan asks_hosts name = map (λ t. (question_of name t, asks_hosts)) (planned_types plan)

-- those for names in order; the table of hosts is asked for the first, and may be for all
abbrev pub names_questions : FamilyOrder → Bool → List NameValue → List (Query × Bool)
names_questions plan hosts_for_all [] = []
names_questions plan hosts_for_all (name ∷ names) =
    name_questions plan true name ++ flat_map (name_questions plan hosts_for_all) names

-- ---- who answers

-- a current entry answers, with its age and its deadline (seconds); else the question is sent
abbrev pub answered_by_entry : ℕ → Option Entry → Answerer
answered_by_entry now (Some entry) = by.Cache (now - entry.original_time) entry.valid_until
answered_by_entry now None = by.Upstream

abbrev pub answered_by_client : ℕ → CacheValue → Query → Answerer
answered_by_client now cache q =
    if is_special_use q.name then by.SpecialUse else answered_by_entry now (current q now cache.entries)

-- the table of hosts answers, where it is asked and has something; else the client
abbrev pub IsAnsweredBy : ℕ → List Host → CacheValue → Query × Bool → Answerer → Type 0
IsAnsweredBy now hosts cache planned who =
    ((planned.1 ≡ true) × (found : LookupValue) × HostsHave planned.0 now hosts (Some found) × (who ≡ by.Hosts))
    ⊎ (NotInHosts planned.1 planned.0 now hosts
    × (who ≡ answered_by_client now cache planned.0))

abbrev pub AreAnswered : ℕ → List Host → CacheValue → List (Query × Bool) → List Attempted → Type 0
AreAnswered now hosts cache [] [] = Unit {0}
AreAnswered now hosts cache (q ∷ qs) (a ∷ rest) =
    (a.question ≡ q.0) × IsAnsweredBy now hosts cache q a.answerer × AreAnswered now hosts cache qs rest
AreAnswered now hosts cache qs attempted = ⊥

-- ---- what a request attempts

-- what was read as a name, or is none, is attempted by a plan; out of memory says nothing of the text
abbrev pub ExplainsNamed : Settings → CacheValue → ℕ → FamilyOrder → Bool → Result NameValue NameError → List Attempted
    → Type 0
ExplainsNamed s cache now plan hosts_for_all (Ok name) attempted =
    AreAnswered now s.hosts cache (names_questions plan hosts_for_all (attempts s.search name)) attempted
ExplainsNamed s cache now plan hosts_for_all (Err fault) attempted =
    (fault ≢ name_fault.OutOfMemory) × (attempted ≡ [])

-- what is answered at once attempts nothing
abbrev pub ExplainsCall : Settings → CacheValue → ℕ → Call → List Attempted → Type 0
ExplainsCall s cache now (AtOnce answer) attempted = attempted ≡ []
ExplainsCall s cache now (Attempt name plan) attempted =
    ExplainsNamed s cache now plan.types plan.hosts_for_all (Ok name) attempted

abbrev pub ExplainsHost : Settings → CacheValue → List ℕ → ℕ → List Attempted → Type 0
ExplainsHost s cache text now attempted =
    (address : Option IpAddr) × IsReadAddress text address × (name : Result NameValue NameError)
    × IsReadName text name × (name ≢ Err name_fault.OutOfMemory)
    × ExplainsCall s cache now (address_call s address name now) attempted

-- a clear attempts nothing
abbrev pub Explains : Settings → CacheValue → RequestValue → List Attempted → Type 0
Explains s cache (Lookup text t now) attempted =
    (name : Result NameValue NameError) × IsReadName text name × (name ≢ Err name_fault.OutOfMemory)
    × ExplainsCall s cache now (name_call t name) attempted
Explains s cache (LookupIp text now) attempted = ExplainsHost s cache text now attempted
Explains s cache (ClearLookup text t now) attempted = attempted ≡ []
Explains s cache (Clear now) attempted = attempted ≡ []

-- ---- the code's questions

abbrev pub planned_value : Planned → Query × Bool
planned_value p = (p.question, p.asks_hosts)

abbrev pub planned_values : List Planned → List (Query × Bool)
planned_values list = map planned_value list
