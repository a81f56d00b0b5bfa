-- Negative answers as plain data (RFC 2308, section 2), and what an error is turned into.
use Rattle.std.specs.Prelude.{ℕ, List, Option, None, Some}
use Rattle.std.specs.Global.{Vec}
use Rattle.hickory_proto_core.specs.Records.{RecordValue}
use Rattle.hickory_proto_core.specs.declared.query.Query.{Query}
use Rattle.hickory_proto_codes.specs.declared.response_code.ResponseCode.{ResponseCode}

-- what a collection holds, where there is one
abbrev pub items_or_none : {A : Type 0} → Option (Vec A) → Option (List A)
items_or_none None = None
items_or_none (Some v) = Some v.items

-- a name server that an answer refers to, and its addresses
pub record ForwardValue : Type 0 where
  pub ns : RecordValue
  pub glue : List RecordValue

pub record NoRecordsValue : Type 0 where
  pub query : Query
  pub soa : Option RecordValue
  pub ns : Option (List ForwardValue)
  pub negative_ttl : Option ℕ
  pub response_code : ResponseCode
  pub authorities : Option (List RecordValue)
