-- Replies without a look-up are short.
use Rattle.std.proofs.Common.{◌≡◌, ℕ, ◌+◌, ◌-◌, ◌≤◌, Bool, true, false, cond, ◌&&◌, List, ◌++◌, length, drop, refl, subst, arith, length-append}
use Rattle.std.specs.Prelude.{Option, None, Some, nat_le, ◌==◌}
use Rattle.std.specs.Option.{option_and_then}
use Rattle.std.proofs.lemmas.Bool.{and_parts, leb-true}
use Rattle.std.proofs.lemmas.List.{length-take}
use Rattle.hickory_proto_wire.specs.Messages.{bit}
use Rattle.hickory_resolver_tries.specs.Heads.{head_of}
use Rattle.hickory_resolver_tries.specs.declared.head.Head.{Head}
use Rattle.client_queries.specs.Places.{behind_codes, most_steps, name_end, question_end}
use Rattle.client_queries.specs.Queries.{query_if, query_of, query_with, question_in}
use Rattle.client_queries.specs.Refusals.{head_octets, opt_octets, question_octets, refusal_code}
use Rattle.client_queries.specs.declared.query.ClientEdns.{ClientEdns}
use Rattle.client_queries.specs.declared.query.ClientQuery.{ClientQuery}
use Rattle.failure_replies.specs.Failures.{error_octets, info_code, servfail}
use Rattle.failure_replies.specs.Laws.{FailuresAreShort, IsShort, RefusalsAreShort}

-- ---- the question

behind-short : (octets : List ℕ) (at : ℕ) → length (question_octets octets (behind_codes octets at)) ≤ 259
behind-short octets at = by (nat_le at 267 && nat_le (at + 4) (length octets)) refl
  where
    by : (b : Bool) → (nat_le at 267 && nat_le (at + 4) (length octets)) ≡ b
        → length (question_octets octets (cond b (Some (at + 4)) None)) ≤ 259
    by true h =
        let small : at ≤ 267 = leb-true at 267 (and_parts (nat_le at 267) (nat_le (at + 4) (length octets)) h).0 in
        omega (arith, small, length-take (at + 4 - 12) (drop 12 octets))
    by false h = omega arith

end-short : (octets : List ℕ) → length (question_octets octets (question_end octets)) ≤ 259
end-short octets = by (name_end false most_steps octets 12)
  where
    by : (end : Option ℕ) → length (question_octets octets (option_and_then (behind_codes octets) end)) ≤ 259
    by None = omega arith
    by (Some at) = behind-short octets at

question-short : (octets : List ℕ) (h : Head) → length (question_octets octets (question_in octets h)) ≤ 259
question-short octets h = by (h.queries == 1)
  where
    by : (b : Bool) → length (question_octets octets (cond b (question_end octets) None)) ≤ 259
    by true = end-short octets
    by false = omega arith

query-short : (octets : List ℕ) (q : ClientQuery) → query_of octets ≡ Some q
    → length (question_octets octets q.question_end) ≤ 259
query-short octets q h = by (head_of octets) h
  where
    read : (head : Head) (b : Bool) → cond b None (Some (query_with octets head)) ≡ Some q
        → length (question_octets octets q.question_end) ≤ 259
    read head true h = absurd cc
    read head false h =
        let is : query_with octets head ≡ q = cc in
        subst (λ (r : ClientQuery). length (question_octets octets r.question_end) ≤ 259) is (question-short octets head)

    by : (head : Option Head) → option_and_then (query_if octets) head ≡ Some q
        → length (question_octets octets q.question_end) ≤ 259
    by None h = absurd cc
    by (Some head) h = read head (bit 32768 head.flags) h

-- ---- the whole

short : (octets : List ℕ) (q : ClientQuery) (code : ℕ) (opt : List ℕ) → length opt ≤ 17
    → IsShort octets q (head_octets q code ++ question_octets octets q.question_end ++ opt)
short octets q code opt few =
    let question : List ℕ = question_octets octets q.question_end in
    let all = length-append (head_octets q code ++ question) opt in
    let both = length-append (head_octets q code) question in
    let head : length (head_octets q code) ≡ 12 = refl in
    record {
      beside_question = omega (arith, all, both, head, few);
      in_all = λ h. omega (arith, all, both, head, few, query-short octets q h);
    }

error-short : (edns : Option ClientEdns) (info : ℕ) → length (error_octets edns info) ≤ 17
error-short None info = omega arith
error-short (Some e) info = omega arith

opt-short : (edns : Option ClientEdns) (code : ℕ) → length (opt_octets edns code) ≤ 17
opt-short None code = omega arith
opt-short (Some e) code = omega arith

pub failures_are_short : FailuresAreShort
failures_are_short octets q reason =
    short octets q servfail (error_octets q.edns (info_code reason)) (error-short q.edns (info_code reason))

pub refusals_are_short : RefusalsAreShort
refusals_are_short octets q refusal =
    short octets q (refusal_code refusal) (opt_octets q.edns (refusal_code refusal))
    (opt-short q.edns (refusal_code refusal))
