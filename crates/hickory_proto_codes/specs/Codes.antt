-- Types, classes, response codes and kinds of messages by their codes, and the words that stand for
-- them in texts (RFC 1035, sections 3.2.2 to 3.2.5 and 4.1.1; RFC 3597, section 5 for unknown types
-- and classes).
use Rattle.std.specs.Prelude.{ℕ, ◌^◌, Bool, List, ◌++◌, length, drop, codes, ◌==◌, ◌&&◌, nat_lt, nat_eq, Option, None, Some, if◌then◌else◌}
use Rattle.std.specs.Fmt.{decimal}
use Rattle.std.specs.List.{starts_with}
use Rattle.std.specs.Option.{option_map, option_or}
use Rattle.std.specs.Str.{all_ascii_digits}
use Rattle.std.specs.Str.Parse.{digits_value}
use Rattle.std.specs.Cmp.Lexicographic.{pointwise}
use Rattle.hickory_proto_codes.specs.declared.record_type.RecordType.{RecordType}
use Rattle.hickory_proto_codes.specs.declared.record_type.RecordType.TheVariants as type_variants
use Rattle.hickory_proto_codes.specs.declared.dns_class.DNSClass.{DNSClass}
use Rattle.hickory_proto_codes.specs.declared.dns_class.DNSClass.TheVariants as class_variants
use Rattle.hickory_proto_codes.specs.declared.response_code.ResponseCode.{ResponseCode}
use Rattle.hickory_proto_codes.specs.declared.response_code.ResponseCode.TheVariants as response_variants
use Rattle.hickory_proto_codes.specs.declared.op_code.OpCode.{OpCode}
use Rattle.hickory_proto_codes.specs.declared.op_code.OpCode.TheVariants as op_variants

-- the number that decimal digits write, below a limit: one digit or more, and leading zeros are taken
abbrev pub decimal_below : ℕ → List ℕ → Option ℕ
decimal_below limit ds =
    if all_ascii_digits ds && nat_lt 0 (length ds) && nat_lt (digits_value 10 ds) limit
    then Some (digits_value 10 ds) else None

-- the code of 16 bits that is written behind a word
abbrev pub code_after : List ℕ → List ℕ → Option ℕ
code_after word text =
    if starts_with nat_eq text word then decimal_below (2 ^ 16) (drop (length word) text) else None

-- the text is that word
abbrev pub is_text : List ℕ → List ℕ → Bool
is_text word text = pointwise nat_eq text word

-- the code of a RecordType
abbrev pub type_code : RecordType → ℕ
type_code type_variants.A = 1
type_code type_variants.NS = 2
type_code type_variants.CNAME = 5
type_code type_variants.SOA = 6
type_code type_variants.PTR = 12
type_code type_variants.MX = 15
type_code type_variants.TXT = 16
type_code type_variants.AAAA = 28
type_code type_variants.SRV = 33
type_code type_variants.CERT = 37
type_code type_variants.TLSA = 52
type_code type_variants.SMIMEA = 53
type_code type_variants.ANY = 255
type_code (type_variants.Unknown code) = code

-- the RecordType of a code, by its name where it has one
abbrev pub type_of : ℕ → RecordType
type_of code =
    if code == 1 then type_variants.A else (
    if code == 2 then type_variants.NS else (
    if code == 5 then type_variants.CNAME else (
    if code == 6 then type_variants.SOA else (
    if code == 12 then type_variants.PTR else (
    if code == 15 then type_variants.MX else (
    if code == 16 then type_variants.TXT else (
    if code == 28 then type_variants.AAAA else (
    if code == 33 then type_variants.SRV else (
    if code == 37 then type_variants.CERT else (
    if code == 52 then type_variants.TLSA else (
    if code == 53 then type_variants.SMIMEA else (
    if code == 255 then type_variants.ANY else (type_variants.Unknown code)))))))))))))

-- the word of a code, or `TYPE` and its number
abbrev pub type_text : ℕ → List ℕ
type_text code =
    if code == 1 then codes "A" else (
    if code == 2 then codes "NS" else (
    if code == 5 then codes "CNAME" else (
    if code == 6 then codes "SOA" else (
    if code == 12 then codes "PTR" else (
    if code == 15 then codes "MX" else (
    if code == 16 then codes "TXT" else (
    if code == 28 then codes "AAAA" else (
    if code == 33 then codes "SRV" else (
    if code == 37 then codes "CERT" else (
    if code == 52 then codes "TLSA" else (
    if code == 53 then codes "SMIMEA" else (
    if code == 255 then codes "ANY" else (codes "TYPE" ++ decimal code)))))))))))))

-- the RecordType whose word a text is
abbrev pub type_of_word : List ℕ → Option RecordType
type_of_word text =
    if is_text (codes "A") text then Some type_variants.A else (
    if is_text (codes "NS") text then Some type_variants.NS else (
    if is_text (codes "CNAME") text then Some type_variants.CNAME else (
    if is_text (codes "SOA") text then Some type_variants.SOA else (
    if is_text (codes "PTR") text then Some type_variants.PTR else (
    if is_text (codes "MX") text then Some type_variants.MX else (
    if is_text (codes "TXT") text then Some type_variants.TXT else (
    if is_text (codes "AAAA") text then Some type_variants.AAAA else (
    if is_text (codes "SRV") text then Some type_variants.SRV else (
    if is_text (codes "CERT") text then Some type_variants.CERT else (
    if is_text (codes "TLSA") text then Some type_variants.TLSA else (
    if is_text (codes "SMIMEA") text then Some type_variants.SMIMEA else (
    if is_text (codes "ANY") text then Some type_variants.ANY else (
    None)))))))))))))

-- the RecordType that a text names: by its word, or by `TYPE` and the number of its code
abbrev pub type_named : List ℕ → Option RecordType
type_named text = option_or (type_of_word text) (option_map type_of (code_after (codes "TYPE") text))

-- the code of a DNSClass
abbrev pub class_code : DNSClass → ℕ
class_code class_variants.IN = 1
class_code class_variants.CH = 3
class_code class_variants.HS = 4
class_code class_variants.NONE = 254
class_code class_variants.ANY = 255
class_code (class_variants.Unknown code) = code

-- the DNSClass of a code, by its name where it has one
abbrev pub class_of : ℕ → DNSClass
class_of code =
    if code == 1 then class_variants.IN else (
    if code == 3 then class_variants.CH else (
    if code == 4 then class_variants.HS else (
    if code == 254 then class_variants.NONE else (
    if code == 255 then class_variants.ANY else (class_variants.Unknown code)))))

-- the word of a code, or `CLASS` and its number
abbrev pub class_text : ℕ → List ℕ
class_text code =
    if code == 1 then codes "IN" else (
    if code == 3 then codes "CH" else (
    if code == 4 then codes "HS" else (
    if code == 254 then codes "NONE" else (
    if code == 255 then codes "ANY" else (codes "CLASS" ++ decimal code)))))

-- the DNSClass that a text names: by its word, or by `CLASS` and the number of its code
abbrev pub class_named : List ℕ → Option DNSClass
class_named text =
    if is_text (codes "IN") text then Some class_variants.IN else (
    if is_text (codes "CH") text then Some class_variants.CH else (
    if is_text (codes "HS") text then Some class_variants.HS else (
    if is_text (codes "NONE") text then Some class_variants.NONE else (
    if is_text (codes "ANY") text then Some class_variants.ANY else (
    option_map class_of (code_after (codes "CLASS") text))))))

-- the code of a ResponseCode
abbrev pub response_code : ResponseCode → ℕ
response_code response_variants.NoError = 0
response_code response_variants.FormErr = 1
response_code response_variants.ServFail = 2
response_code response_variants.NXDomain = 3
response_code response_variants.NotImp = 4
response_code response_variants.Refused = 5
response_code (response_variants.Unknown code) = code

-- the ResponseCode of a code, by its name where it has one
abbrev pub response_of : ℕ → ResponseCode
response_of code =
    if code == 0 then response_variants.NoError else (
    if code == 1 then response_variants.FormErr else (
    if code == 2 then response_variants.ServFail else (
    if code == 3 then response_variants.NXDomain else (
    if code == 4 then response_variants.NotImp else (
    if code == 5 then response_variants.Refused else (response_variants.Unknown code))))))

-- the word of a code, or `CODE` and its number
abbrev pub response_text : ℕ → List ℕ
response_text code =
    if code == 0 then codes "NOERROR" else (
    if code == 1 then codes "FORMERR" else (
    if code == 2 then codes "SERVFAIL" else (
    if code == 3 then codes "NXDOMAIN" else (
    if code == 4 then codes "NOTIMP" else (
    if code == 5 then codes "REFUSED" else (codes "CODE" ++ decimal code))))))

-- the ResponseCode that a text names: by its word, or by `CODE` and the number of its code
abbrev pub response_named : List ℕ → Option ResponseCode
response_named text =
    if is_text (codes "NOERROR") text then Some response_variants.NoError else (
    if is_text (codes "FORMERR") text then Some response_variants.FormErr else (
    if is_text (codes "SERVFAIL") text then Some response_variants.ServFail else (
    if is_text (codes "NXDOMAIN") text then Some response_variants.NXDomain else (
    if is_text (codes "NOTIMP") text then Some response_variants.NotImp else (
    if is_text (codes "REFUSED") text then Some response_variants.Refused else (
    option_map response_of (code_after (codes "CODE") text)))))))

-- the code of a OpCode
abbrev pub op_code : OpCode → ℕ
op_code op_variants.Query = 0
op_code (op_variants.Unknown code) = code

-- the OpCode of a code, by its name where it has one
abbrev pub op_of : ℕ → OpCode
op_of code =
    if code == 0 then op_variants.Query else (op_variants.Unknown code)
