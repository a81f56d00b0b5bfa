-- What the handles may answer, and what stands after a request.
use Rattle.std.specs.Prelude.{◌≡◌, Bool, true, List, [], ◌∷◌, ◌++◌, Result, Ok, Err}
use Rattle.std.proofs.Common.{subst, sym}
use Rattle.hickory_proto_core.specs.Messages.{MessageValue}
use Rattle.hickory_proto_core.specs.NetErrors.{error_holds_memory}
use Rattle.hickory_proto_core.specs.declared.dns_request.DnsRequest.{DnsRequest}
use Rattle.hickory_proto_core.specs.declared.dns_request.DnsRequestOptions.{DnsRequestOptions}
use Rattle.hickory_proto_core.specs.declared.recorded.Exchange.{Exchange}
use Rattle.hickory_proto_core.specs.declared.net_error.NetError.{NetError}
use Rattle.hickory_proto_core.specs.declared.net_error.NetError.TheVariants.{NoOutcome}

-- what came back for a question: a response or an error
abbrev pub OutcomeValue : Type 0
OutcomeValue = Result MessageValue NetError

-- whether what came back holds memory, so that a copy of it may be refused: a response, or a negative answer
abbrev pub holds_memory : OutcomeValue → Bool
holds_memory (Ok response) = true
holds_memory (Err error) = error_holds_memory error

-- a handle of type H before it, a request, what is answered, and the handle after it
abbrev pub HandleStep : Type 0 → Type 1
HandleStep H = H → DnsRequest → OutcomeValue → H → Type 0

-- a script answers its first outcome and keeps the rest; an empty one answers that it has none
abbrev pub ScriptStep : List OutcomeValue → DnsRequest → OutcomeValue → List OutcomeValue → Type 0
ScriptStep [] request outcome after = (outcome ≡ Err NoOutcome) × (after ≡ [])
ScriptStep (o ∷ os) request outcome after = (outcome ≡ o) × (after ≡ os)

-- one handle leads by these exchanges to another: each question was sent with these options, and its outcome
-- came back
abbrev pub Leads : {H : Type 0} → HandleStep H → DnsRequestOptions → H → List Exchange → H → Type 0
Leads step options before [] after = after ≡ before
Leads {H} step options before (x ∷ xs) after =
    (mid : H) × (step before (record { query = x.query; options = options }) x.outcome mid)
    × Leads step options mid xs after

-- exchanges after exchanges
pub Leads-append : {H : Type 0} (step : HandleStep H) (options : DnsRequestOptions) (before mid after : H)
    (xs ys : List Exchange) → Leads step options before xs mid → Leads step options mid ys after
    → Leads step options before (xs ++ ys) after
Leads-append step options before mid after [] ys e l = subst (λ h. Leads step options h ys after) e l
Leads-append step options before mid after (x ∷ xs) ys (next, sent, rest) l =
    (next, sent, Leads-append step options next mid after xs ys rest l)

-- what each step keeps, a chain of exchanges keeps
pub Leads-keeps : {H : Type 0} (step : HandleStep H) (options : DnsRequestOptions) (Holds : H → Type 0)
    → ((before : H) (request : DnsRequest) (outcome : OutcomeValue) (after : H)
    → step before request outcome after → Holds before → Holds after)
    → (before after : H) (xs : List Exchange) → Leads step options before xs after → Holds before
    → Holds after
Leads-keeps step options Holds keeps before after [] e held = subst Holds (sym e) held
Leads-keeps step options Holds keeps before after (x ∷ xs) (mid, sent, rest) held =
    let asked : DnsRequest = record { query = x.query; options = options } in
    let kept = keeps before asked x.outcome mid sent held in
    Leads-keeps step options Holds keeps mid after xs rest kept

-- what a handle that keeps its exchanges shows
pub record RecordedValue (H : Type 0) : Type 0 where
  pub handle : H
  pub exchanges : List Exchange
