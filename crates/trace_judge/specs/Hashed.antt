-- Denials that are made of NSEC3 records (RFC 5155, section 8; RFC 8198, section 5.2). `lasts` says of a test of
-- records whether one that passes it was received, and may be kept for as long as the denial is told.
use Rattle.std.specs.Prelude.{◌+◌, ℕ, Bool, true, false, ◌&&◌, ◌||◌, ◌==◌, length, Option, None, Some}
use Rattle.hickory_proto_core.specs.Codes.{class_code, type_code}
use Rattle.hickory_proto_core.specs.Name.{NameValue, base_of, name_eq, trimmed_name}
use Rattle.hickory_proto_core.specs.Records.{DataValue, RecordValue, unknown_data}
use Rattle.hickory_proto_core.specs.codes.dns_class.DNSClass.{DNSClass}
use Rattle.synthesis.specs.Nsec3.{ChainValue, Nsec3Value, chain_of, covers, encloses, hashed_owner, is_bare, read_nsec3}
use Rattle.trace_judge.specs.Below.{some_below}
use Rattle.trace_judge.specs.declared.denials.Denied.{Denied}
use Rattle.trace_judge.specs.declared.denials.Denied.TheVariants.{WholeName, OneType}

-- NSEC3 data (of type 50) pass a test
abbrev pub data_pass : (Option Nsec3Value → Bool) → DataValue → Bool
data_pass test (unknown_data code bytes) = (code == 50) && test (read_nsec3 bytes)
data_pass test other = false

-- an NSEC3 record passes a test of its owner and its data
abbrev pub is_hashed : DNSClass → (NameValue → Option Nsec3Value → Bool) → RecordValue → Bool
is_hashed class test by = (class_code by.dns_class == class_code class) && data_pass (test by.name) by.rdata

abbrev pub says_if : ((RecordValue → Bool) → Bool) → DNSClass → (NameValue → NameValue → Option Nsec3Value → Bool)
    → Option NameValue → Bool
says_if lasts class test None = false
says_if lasts class test (Some hashed) = lasts (is_hashed class (test hashed))

-- a record says this of the hash of a name, or of that of its wildcard
abbrev pub says : ((RecordValue → Bool) → Bool) → DNSClass → ChainValue → Bool → NameValue
    → (NameValue → NameValue → Option Nsec3Value → Bool) → Bool
says lasts class chain star name test = says_if lasts class test (hashed_owner chain star name)

-- so many of its last labels are the closest encloser of a name: it is there, and the next closer name, which has one
-- label more, is not (section 8.3)
abbrev pub is_encloser : ((RecordValue → Bool) → Bool) → DNSClass → ChainValue → NameValue → ℕ → Bool
is_encloser lasts class chain name count =
    says lasts class chain false (trimmed_name count name) (encloses chain)
    && says lasts class chain false (trimmed_name (count + 1) name) (covers chain)

-- of the wildcard: it is not there (section 8.4), or it is without the type (section 8.7)
abbrev pub wild_test : ChainValue → Denied → NameValue → NameValue → Option Nsec3Value → Bool
wild_test chain WholeName = covers chain
wild_test chain (OneType t) = λ hashed. is_bare chain hashed (type_code t)

-- the name is not there, with so many labels as its closest encloser, and what its wildcard would stand for is not
-- either
abbrev pub is_missing : ((RecordValue → Bool) → Bool) → DNSClass → ChainValue → NameValue → Denied → ℕ → Bool
is_missing lasts class chain name denied count =
    is_encloser lasts class chain name count
    && says lasts class chain true (trimmed_name count name) (wild_test chain denied)

-- the name is there, and is without the type (section 8.5)
abbrev pub is_without : ((RecordValue → Bool) → Bool) → DNSClass → ChainValue → NameValue → Denied → Bool
is_without lasts class chain name WholeName = false
is_without lasts class chain name (OneType t) =
    says lasts class chain false name (λ hashed. is_bare chain hashed (type_code t))

abbrev pub is_denied_in : ((RecordValue → Bool) → Bool) → DNSClass → NameValue → Denied → ChainValue → Bool
is_denied_in lasts class name denied chain =
    is_without lasts class chain name denied
    || some_below (length name.labels) (is_missing lasts class chain name denied)

-- ---- chains

abbrev pub chain_passes : (ChainValue → Bool) → Option ChainValue → Bool
chain_passes test None = false
chain_passes test (Some chain) = test chain

abbrev pub data_of_chain : (ChainValue → Bool) → NameValue → DataValue → Bool
data_of_chain test zone (unknown_data code bytes) = (code == 50) && chain_passes test (chain_of zone bytes)
data_of_chain test zone other = false

-- a record belongs to a chain of the zone, directly below which its owner is, and the chain passes the test
abbrev pub is_of_chain : DNSClass → NameValue → (ChainValue → Bool) → RecordValue → Bool
is_of_chain class zone test by =
    ((class_code by.dns_class == class_code class) && name_eq (base_of by.name) zone)
    && data_of_chain test zone by.rdata

-- The denial is made in some chain, of which so many of the name's last labels are the zone.
abbrev pub is_denied_hashed : ((RecordValue → Bool) → Bool) → DNSClass → NameValue → Denied → Bool
is_denied_hashed lasts class name denied =
    some_below (length name.labels + 1)
    (λ count. lasts (is_of_chain class (trimmed_name count name) (is_denied_in lasts class name denied)))
