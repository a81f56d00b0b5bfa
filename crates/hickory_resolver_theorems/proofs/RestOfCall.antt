-- What is left of a call: what it comes to with one part more before it, or where an attempt is over.
use Rattle.std.proofs.Common.{◌≡◌, ◌∙◌, Bool, true, false, List, [], ◌∷◌, ◌++◌, Some, refl, sym, ap, subst, inl, inr, append_assoc}
use Rattle.std.proofs.lemmas.List.{append-nil}
use Rattle.hickory_proto_core.specs.Name.{NameValue}
use Rattle.hickory_proto_core.specs.declared.recorded.Exchange.{Exchange}
use Rattle.hickory_proto_core.specs.codes.record_type.RecordType.{RecordType}
use Rattle.hickory_resolver_model.specs.Cache.{CacheValue}
use Rattle.hickory_resolver_model.specs.Lookup.{LookupResult, question_of}
use Rattle.hickory_resolver_model.specs.Calls.{Hosts, Client, SubLookup, SubLookupRelation, asks_of_sub_lookups, next_type, IsAttemptResult, IsLastReply, results_of, stops, CallPlan, AreAttempts}
use Rattle.hickory_resolver_theorems.specs.ResumingCalls.{AttemptValue, with_result, at_next}
use Rattle.hickory_resolver_theorems.proofs.SentAlone.{IsRestOfCall, CallRelation, LeadsToWhole}

pub asks-append : (parts : List SubLookup) (p : SubLookup) → asks_of_sub_lookups (parts ++ p ∷ []) ≡ asks_of_sub_lookups parts ++ p.asks
asks-append [] p = append-nil p.asks
asks-append (q ∷ qs) p = ap (λ xs. q.asks ++ xs) (asks-append qs p) ∙ sym (append_assoc q.asks (asks_of_sub_lookups qs) p.asks)

-- a part that the client answered, and one that the table of hosts answered
abbrev pub by_client : (a : AttemptValue) (t : RecordType) (asks : List Exchange) (result : LookupResult) → SubLookup
by_client a t asks result = record { question = question_of a.name t; source = Client; asks = asks; result = result }

abbrev pub hosts_part : (a : AttemptValue) (t : RecordType) (result : LookupResult) → SubLookup
hosts_part a t result = record { question = question_of a.name t; source = Hosts; asks = []; result = result }

module _ (Answers : SubLookupRelation) where
  pub rest_after : (a : AttemptValue) (t : RecordType) (before mid : CacheValue) (p : SubLookup) → next_type a.plan.types a.results ≡ Some t → Answers a.with_hosts before (question_of a.name t) p mid → (parts : List SubLookup) (result : LookupResult) (after : CacheValue) → IsRestOfCall Answers (with_result a p.result) mid parts result after → IsRestOfCall Answers a before (p ∷ parts) result after
  rest_after a t before mid p next answered parts result after (front, back, r, end, e, are, is, rest) =
      let P : List LookupResult → Type 0 = λ rs. IsAttemptResult a.plan.types rs r in
      (p ∷ front, back, r, end, ap (λ ps. p ∷ ps) e, (t, mid, next, answered, are), subst P (append_assoc a.results (p.result ∷ []) (results_of front)) is, rest)

  -- the attempt is over
  over_by : (a : AttemptValue) (r : LookupResult) → IsAttemptResult a.plan.types a.results r → IsAttemptResult a.plan.types (a.results ++ []) r
  over_by a r is = let P : List LookupResult → Type 0 = λ rs. IsAttemptResult a.plan.types rs r in subst P (sym (append-nil a.results)) is

  pub rest_stopped : (a : AttemptValue) (r : LookupResult) (before : CacheValue) → IsAttemptResult a.plan.types a.results r → stops r ≡ true → IsRestOfCall Answers a before [] r before
  rest_stopped a r before is stop = ([], [], r, before, refl, refl, over_by a r is, inl (stop, refl, refl, refl))

  -- what is left of a call from the first of some names, at which nothing was looked up yet: attempts at them
  pub attempts_of : (plan : CallPlan) (with_hosts : Bool) (name : NameValue) (names : List NameValue) (before : CacheValue) (IsLast : LookupResult → Type 0) (parts : List SubLookup) (result : LookupResult) (after : CacheValue) → IsRestOfCall Answers (record { plan = plan; with_hosts = with_hosts; name = name; results = []; left = names }) before parts result after
      → AreAttempts Answers plan with_hosts before (name ∷ names) IsLast parts result after
  attempts_of plan with_hosts name names before IsLast parts result after (front, back, r, mid, e, are, is, rest) = (front, back, r, mid, e, record { are = are; result_is = is }, rest)

  pub rest_next : (a : AttemptValue) (r : LookupResult) (name : NameValue) (names : List NameValue) (before : CacheValue) → IsAttemptResult a.plan.types a.results r → stops r ≡ false → a.left ≡ name ∷ names → (parts : List SubLookup) (result : LookupResult) (after : CacheValue) → IsRestOfCall Answers (at_next a name names) before parts result after → IsRestOfCall Answers a before parts result after
  rest_next a r name names before is on left parts result after rest =
      let P : List NameValue → Type 0 = λ ns. AreAttempts Answers a.plan a.plan.hosts_for_all before ns (λ x. x ≡ r) parts result after in
      ([], parts, r, before, refl, refl, over_by a r is, inr (on, subst P (sym left) (attempts_of a.plan a.plan.hosts_for_all name names before (λ x. x ≡ r) parts result after rest)))

  pub rest_none : (a : AttemptValue) (last r : LookupResult) (before : CacheValue) → IsAttemptResult a.plan.types a.results last → stops last ≡ false → a.left ≡ [] → IsLastReply a.plan.literal (λ x. x ≡ last) r → IsRestOfCall Answers a before [] r before
  rest_none a last r before is on left reply =
      let P : List NameValue → Type 0 = λ ns. AreAttempts Answers a.plan a.plan.hosts_for_all before ns (λ x. x ≡ last) [] r before in
      ([], [], last, before, refl, refl, over_by a last is, inr (on, subst P (sym left) (refl, reply, refl)))

  pub more_done : (IsWhole : CallRelation) → (done : List SubLookup) (a : AttemptValue) (t : RecordType) (before mid : CacheValue) (p : SubLookup) → next_type a.plan.types a.results ≡ Some t → Answers a.with_hosts before (question_of a.name t) p mid → LeadsToWhole Answers IsWhole done a before → LeadsToWhole Answers IsWhole (done ++ p ∷ []) (with_result a p.result) mid
  more_done IsWhole done a t before mid p next answered whole parts result after rest =
      subst (λ ps. IsWhole ps result after) (sym (append_assoc done (p ∷ []) parts)) (whole (p ∷ parts) result after (rest_after a t before mid p next answered parts result after rest))
