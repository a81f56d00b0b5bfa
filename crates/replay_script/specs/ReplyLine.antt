-- A line that opens a response: `reply` CODE NAME TYPE, and behind them a class, `tc` and `noq` where they
-- are wanted.
use Rattle.std.specs.Prelude.{ℕ, Bool, true, false, nat_lt, List, [], ◌∷◌, length, codes, Option, None, Some, Result, Ok, Err, if◌then◌else◌}
use Rattle.std.specs.Option.{ok_or}
use Rattle.hickory_proto_core.specs.Codes.{class_named, is_text, response_named}
use Rattle.hickory_proto_core.specs.Messages.{MessageValue, response_metadata}
use Rattle.hickory_proto_core.specs.codes.dns_class.DNSClass.{DNSClass}
use Rattle.hickory_proto_core.specs.codes.dns_class.DNSClass.TheVariants as class
use Rattle.hickory_proto_core.specs.codes.op_code.OpCode.TheVariants as op
use Rattle.hickory_proto_core.specs.codes.response_code.ResponseCode.{ResponseCode}
use Rattle.replay_script.specs.Faults.{LineFaultValue, wrong_field, wrong_line}
use Rattle.replay_script.specs.Words.{◌>>=◌, name_field, type_field}
use Rattle.replay_script.specs.declared.fault.ScriptFault.TheVariants.{FieldCount, UnknownWord}
use Rattle.replay_script.specs.declared.reply_line.ReplyHead.{ReplyHead}

-- the class, where the first word is one, and else that of the Internet; and the words behind it
abbrev pub class_before : Option DNSClass → List ℕ → List (List ℕ) → DNSClass × List (List ℕ)
class_before (Some c) word words = (c, words)
class_before None word words = (class.IN, word ∷ words)

abbrev pub class_first : List (List ℕ) → DNSClass × List (List ℕ)
class_first [] = (class.IN, [])
class_first (word ∷ words) = class_before (class_named word) word words

-- whether the first word is this one; and the words behind it
abbrev pub flag_first : List ℕ → List (List ℕ) → Bool × List (List ℕ)
flag_first flag [] = (false, [])
flag_first flag (word ∷ words) = if is_text flag word then (true, words) else (false, word ∷ words)

-- no word is left
abbrev pub no_more : List (List ℕ) → Result (Unit {0}) LineFaultValue
no_more [] = Ok tt
no_more (word ∷ words) = Err (wrong_field UnknownWord word)

-- the words behind a type: a class, `tc` and `noq`, in this order, where they are wanted
abbrev pub with_words : ReplyHead → List (List ℕ) → Result ReplyHead LineFaultValue
with_words head words =
    let c = class_first words in
    let t = flag_first (codes "tc") c.1 in
    let q = flag_first (codes "noq") t.1 in
    (no_more q.1 >>= (λ _. Ok (record head {
      query = record head.query { query_class = c.0 };
      truncated = t.0;
      without_question = q.0;
    })))

-- the response code that a word names
abbrev pub code_field : List ℕ → Result ResponseCode LineFaultValue
code_field word = ok_or (response_named word) (wrong_field UnknownWord word)

-- CODE NAME TYPE
abbrev pub plain_head : List ℕ → List ℕ → List ℕ → Result ReplyHead LineFaultValue
plain_head code name type = do
  c ← code_field code
  n ← name_field name
  t ← type_field type
  Ok (record {
    query = record { name = n; query_type = t; query_class = class.IN };
    code = c;
    truncated = false;
    without_question = false;
  })

-- at most three words stand behind the type
abbrev pub reply_of : List (List ℕ) → Result ReplyHead LineFaultValue
reply_of (code ∷ name ∷ type ∷ words) =
    if nat_lt 3 (length words) then Err (wrong_line FieldCount)
    else (plain_head code name type >>= (λ head. with_words head words))
reply_of fields = Err (wrong_line FieldCount)

-- the response as it is opened, with no records
abbrev pub opened_response : ReplyHead → MessageValue
opened_response head = record {
  metadata = record (response_metadata 0 op.Query) { response_code = head.code; truncation = head.truncated };
  queries = if head.without_question then [] else head.query ∷ [];
  answers = [];
  authorities = [];
  additionals = [];
}
