-- What a call looks up for each of its names: the types of records, one after another.
use Rattle.std.specs.Prelude.{ℕ, Bool, true, false, codes, List, [], ◌∷◌, Option, Some, None}
use Rattle.hickory_proto_core.specs.Name.{NameValue}
use Rattle.hickory_proto_core.specs.codes.record_type.RecordType.{RecordType}
use Rattle.hickory_resolver_model.specs.Calls.{FamilyOrder, One, Both, Fallback}
use Rattle.hickory_resolver_model.specs.Lookup.{LookupResult}
use Rattle.hickory_resolver_model.specs.Run.{family_order}
use Rattle.hickory_resolver_attempts.specs.declared.sought.Sought.{Sought}
use Rattle.hickory_resolver_attempts.specs.declared.sought.Sought.TheVariants.{Records, Addresses}
use Rattle.hickory_resolver_attempts.specs.declared.sought.Types.{Types}
use Rattle.hickory_resolver_attempts.specs.declared.sought.Types.TheVariants as types

abbrev pub order_value : Types → FamilyOrder
order_value (types.One t) = One t
order_value (types.Both t u) = Both t u
order_value (types.Fallback t u) = Fallback t u

abbrev pub order_of : Sought → FamilyOrder
order_of (Records t) = One t
order_of (Addresses strategy) = family_order strategy

abbrev pub asks_for_all : Sought → Bool
asks_for_all (Records t) = false
asks_for_all (Addresses strategy) = true

-- what is said where there is no name
abbrev pub no_names_of : Sought → List ℕ
no_names_of (Records t) = codes "can not lookup for no names"
no_names_of (Addresses strategy) = codes "can not lookup IPs for no names"

-- the first type of a name
abbrev pub first_type : FamilyOrder → RecordType
first_type (One t) = t
first_type (Both t u) = t
first_type (Fallback t u) = t

-- the name once more, while the first type is looked up and a second one may follow
abbrev pub kept_name_for : FamilyOrder → Option LookupResult → NameValue → Option NameValue
kept_name_for (One t) first name = None
kept_name_for (Both t u) None name = Some name
kept_name_for (Both t u) (Some r) name = None
kept_name_for (Fallback t u) None name = Some name
kept_name_for (Fallback t u) (Some r) name = None

abbrev pub results_so_far : Option LookupResult → List LookupResult
results_so_far None = []
results_so_far (Some r) = r ∷ []
