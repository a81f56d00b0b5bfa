-- What the error of a name becomes as the error of an answer, and which errors are negative answers
-- (RFC 2308, section 2).
use Rattle.std.specs.Prelude.{Bool, false, true, ◌==◌, Option, None, Result, Ok, Err}
use Rattle.hickory_proto_codes.specs.Codes.{response_code}
use Rattle.hickory_proto_codes.specs.declared.response_code.ResponseCode.TheVariants.{NXDomain}
use Rattle.hickory_proto_core.specs.Errors.{NoRecordsValue}
use Rattle.hickory_proto_core.specs.Records.{RecordValue}
use Rattle.hickory_proto_names.specs.declared.name_error.NameError.{NameError}
use Rattle.hickory_proto_names.specs.declared.name_error.NameError.TheVariants as name_error
use Rattle.hickory_proto_core.specs.declared.net_error.NetError.{NetError}
use Rattle.hickory_proto_core.specs.declared.net_error.NetError.TheVariants.{Proto, Dns, OutOfMemory}
use Rattle.hickory_proto_core.specs.declared.net_error.DnsError.{DnsError}
use Rattle.hickory_proto_core.specs.declared.net_error.DnsError.TheVariants.{ResponseCode, NoRecordsFound}

abbrev pub net_error_of : NameError → NetError
net_error_of name_error.OutOfMemory = OutOfMemory
net_error_of fault = Proto fault

-- the negative answer that an error is, or else the error
abbrev pub no_records_or : NetError → Result NoRecordsValue NetError
no_records_or (Dns (NoRecordsFound none)) = Ok none
no_records_or error = Err error

-- whether an error is a negative answer, and whether it says that the name does not exist
abbrev pub is_no_records_found : NetError → Bool
is_no_records_found (Dns (NoRecordsFound none)) = true
is_no_records_found other = false

abbrev pub is_nx_domain : NetError → Bool
is_nx_domain (Dns (NoRecordsFound none)) = response_code none.response_code == response_code NXDomain
is_nx_domain other = false

-- the SOA record of a negative answer, where it has one
abbrev pub soa_of_error : NetError → Option RecordValue
soa_of_error (Dns (NoRecordsFound none)) = none.soa
soa_of_error other = None

-- whether an error holds memory, so that a copy of it may be refused: a negative answer does, and no other
abbrev pub dns_error_holds_memory : DnsError → Bool
dns_error_holds_memory (ResponseCode code) = false
dns_error_holds_memory (NoRecordsFound none) = true

abbrev pub error_holds_memory : NetError → Bool
error_holds_memory (Dns error) = dns_error_holds_memory error
error_holds_memory other = false
