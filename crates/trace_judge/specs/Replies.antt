-- Responses as plain data.
use Rattle.std.specs.Prelude.{Bool, List}
use Rattle.hickory_proto_core.specs.Records.{RecordValue}
use Rattle.hickory_proto_core.specs.codes.response_code.ResponseCode.{ResponseCode}
use Rattle.hickory_proto_core.specs.declared.query.Query.{Query}

-- a response, with the question that it answers, and whether it is truncated (RFC 1035, section 4.1)
pub record ReplyValue : Type 0 where
  pub query : Query
  pub code : ResponseCode
  pub truncated : Bool
  pub answers : List RecordValue
  pub authorities : List RecordValue
  pub additionals : List RecordValue
