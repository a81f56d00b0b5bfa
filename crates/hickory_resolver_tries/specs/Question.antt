-- What is asked of a server, and who asks the same: who would be sent the same.
use Rattle.std.specs.Prelude.{◌≡◌, ℕ, Bool, true, false, ◌&&◌, ◌||◌, ◌==◌, List, ◌++◌, Option, None, Some, if◌then◌else◌}
use Rattle.std.specs.Bool.{beq}
use Rattle.std.specs.Option.{is_some}
use Rattle.std.specs.Cmp.{IsEquivalence, and_equiv, on_equiv, nat_eq_equiv, bool_eq_equiv, booleans_Decides}
use Rattle.std.specs.Hash as fed
use Rattle.std.specs.Hash.{Alike, and-Alike, on_Alike, same_Alike}
use Rattle.std.proofs.lemmas.Bool.{eqb-true}
use Rattle.hickory_proto_core.specs.Query.{query_eq, query_equiv, query_hash_input, query_respects_eq}
use Rattle.hickory_proto_core.specs.declared.query.Query.{Query}
use Rattle.hickory_proto_core.specs.declared.dns_request.DnsRequestOptions.{DnsRequestOptions}
use Rattle.hickory_resolver_tries.specs.declared.pool_question.DnssecOptions.{DnssecOptions}
use Rattle.hickory_resolver_tries.specs.declared.pool_question.SentOpt.{SentOpt}
use Rattle.hickory_resolver_tries.specs.declared.pool_question.PoolQuestion.{PoolQuestion}

-- the size that OPT announces, and its DO bit; 0, and not set, where there is no OPT
abbrev pub payload_or_zero : Option SentOpt → ℕ
payload_or_zero None = 0
payload_or_zero (Some opt) = opt.payload

abbrev pub is_dnssec_ok : Option SentOpt → Bool
is_dnssec_ok None = false
is_dnssec_ok (Some opt) = opt.dnssec_ok

-- the question of a query with these options: DNSSEC OK is a bit of OPT, so that it is never asked without OPT
abbrev pub question_of : Query → DnsRequestOptions → DnssecOptions → PoolQuestion
question_of query options dnssec = record {
  query = query;
  recursion_desired = options.recursion_desired;
  checking_disabled = dnssec.checking_disabled;
  authentic_data = dnssec.authentic_data;
  opt = if options.use_edns || dnssec.dnssec_ok
      then Some (record { payload = options.edns_payload_len; dnssec_ok = dnssec.dnssec_ok }) else None;
}

-- the same name without case, type and class, and the same bits and size are sent with them
abbrev pub question_eq : PoolQuestion → PoolQuestion → Bool
question_eq p q =
    query_eq p.query q.query && beq p.recursion_desired q.recursion_desired
    && beq p.checking_disabled q.checking_disabled && beq p.authentic_data q.authentic_data
    && beq (is_some p.opt) (is_some q.opt) && (payload_or_zero p.opt == payload_or_zero q.opt)
    && beq (is_dnssec_ok p.opt) (is_dnssec_ok q.opt)

pub question_equiv : IsEquivalence question_eq
question_equiv =
    and_equiv (and_equiv (and_equiv (and_equiv (and_equiv (and_equiv
    (on_equiv (λ q. q.query) query_equiv)
    (on_equiv (λ q. q.recursion_desired) bool_eq_equiv))
    (on_equiv (λ q. q.checking_disabled) bool_eq_equiv))
    (on_equiv (λ q. q.authentic_data) bool_eq_equiv))
    (on_equiv (λ q. is_some q.opt) bool_eq_equiv))
    (on_equiv (λ q. payload_or_zero q.opt) nat_eq_equiv))
    (on_equiv (λ q. is_dnssec_ok q.opt) bool_eq_equiv)

-- what a question feeds a hasher
abbrev pub question_hash_input : PoolQuestion → List (List ℕ)
question_hash_input q =
    query_hash_input q.query ++ fed.bool q.recursion_desired ++ fed.bool q.checking_disabled ++ fed.bool q.authentic_data
    ++ fed.bool (is_some q.opt) ++ fed.u16 (payload_or_zero q.opt) ++ fed.bool (is_dnssec_ok q.opt)

-- questions that are equal feed the same
code_fed : (n m : ℕ) → (n == m) ≡ true → fed.u16 n ≡ fed.u16 m
code_fed n m h = λ i. fed.u16 (eqb-true n m h i)

alike_bits : Alike beq fed.bool
alike_bits = same_Alike fed.bool booleans_Decides

question_alike : Alike question_eq question_hash_input
question_alike =
    let queries : Alike query_eq query_hash_input = record { fed = query_respects_eq } in
    let codes : Alike ◌==◌ fed.u16 = record { fed = code_fed } in
    and-Alike (and-Alike (and-Alike (and-Alike (and-Alike (and-Alike
    (on_Alike (λ q. q.query) queries)
    (on_Alike (λ q. q.recursion_desired) alike_bits))
    (on_Alike (λ q. q.checking_disabled) alike_bits))
    (on_Alike (λ q. q.authentic_data) alike_bits))
    (on_Alike (λ q. is_some q.opt) alike_bits))
    (on_Alike (λ q. payload_or_zero q.opt) codes))
    (on_Alike (λ q. is_dnssec_ok q.opt) alike_bits)

pub question_respects_eq : (p q : PoolQuestion) → question_eq p q ≡ true → question_hash_input p ≡ question_hash_input q
question_respects_eq = question_alike.fed
