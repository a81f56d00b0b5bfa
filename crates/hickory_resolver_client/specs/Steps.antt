-- A look-up hop by hop: what a hop comes to that was asked, and how a look-up is finished.
use Rattle.std.specs.Prelude.{◌≡◌, ◌⊎◌, ◌<◌, ℕ, Bool, true, not, ◌||◌, List, [], Result, Some, Ok, Err, if◌then◌else◌}
use Rattle.hickory_proto_core.specs.Errors.{NoRecordsValue}
use Rattle.hickory_proto_core.specs.ResponseKind.{ResponseKind, Failed, is_empty}
use Rattle.hickory_proto_core.specs.declared.net_error.NetError.{NetError}
use Rattle.hickory_proto_core.specs.declared.net_error.NetError.TheVariants.{Dns, OutOfMemory}
use Rattle.hickory_proto_core.specs.declared.net_error.DnsError.TheVariants.{NoRecordsFound}
use Rattle.hickory_resolver_model.specs.Cache.{CacheValue}
use Rattle.hickory_resolver_model.specs.Lookup.{LookupResult}
use Rattle.hickory_resolver_model.specs.Verdict.{Hop, LeadsTo}
use Rattle.hickory_resolver_model.specs.Hops.{IsBeginning, LookupContext, verdict_on, result_when_asked, stores_when_asked, alias_limit, result_until, is_kept, Store, after_stores, PassedValue, limit_of, earlier_stores}
use Rattle.hickory_resolver_client.specs.declared.client_state.HopStep as code
use Rattle.hickory_resolver_client.specs.declared.client_state.HopStep.TheVariants.{Next, Done}

-- a failure is never for want of records
abbrev pub NeverFailsNegative : ResponseKind → Type 0
NeverFailsNegative kind = (n : NoRecordsValue) → kind ≡ Failed (Dns (NoRecordsFound n)) → ⊥

-- this result, with these stores made; or out of memory, with nothing stored
abbrev pub SettledAs : LookupContext → LookupResult → List Store → LookupResult → CacheValue → Type 0
SettledAs s reply stores result after =
    ((result ≡ reply) × (after ≡ after_stores stores s.cache))
    ⊎ ((result ≡ Err OutOfMemory) × (after ≡ s.cache))

-- an alias ends a look-up only at the eighth question
abbrev pub EndsAt : LookupContext → Hop → ℕ → ResponseKind → Type 0
EndsAt s hop depth kind = (next : Hop) → verdict_on s hop kind ≡ Some (LeadsTo next) → depth ≡ 7

-- something is made of what came back: it is no failure
abbrev pub IsWorkedOn : ResponseKind → Type 0
IsWorkedOn kind = (error : NetError) → kind ≡ Failed error → ⊥

-- what a hop that was asked comes to, by the kind of what came back. A failure is the result as it is
abbrev pub IsSettled : LookupContext → Hop → ℕ → ResponseKind → Result code.HopStep NetError → CacheValue
    → Type 0
IsSettled s hop depth kind (Ok (Next asked limit next)) after =
    (asked ≡ hop.query) × (limit ≡ alias_limit s hop.query kind)
    × (verdict_on s hop kind ≡ Some (LeadsTo next)) × (depth < 7) × (after ≡ s.cache)
IsSettled s hop depth kind (Ok (Done result limit)) after =
    (EndsAt s hop depth kind × (result ≡ result_when_asked s hop kind) × (limit ≡ alias_limit s hop.query kind)
    × (after ≡ after_stores (stores_when_asked s hop kind) s.cache))
    ⊎ ((result ≡ Err OutOfMemory) × IsWorkedOn kind × (after ≡ s.cache))
IsSettled s hop depth kind (Err error) after = (error ≡ OutOfMemory) × IsWorkedOn kind × (after ≡ s.cache)

-- memory ran out among stores: there are some, and a beginning of them was made
abbrev pub RunsOutAmong : List Store → CacheValue → CacheValue → Type 0
RunsOutAmong stores before after = (stores ≡ [] → ⊥) × IsBeginning stores before after

-- what a look-up comes to after its last hop: the result is kept under each question that was passed, and given up
-- to the limit of the first hop where that was asked; or memory ran out among these stores
abbrev pub IsFinished : List PassedValue → LookupResult → ℕ → Bool → ℕ → CacheValue → LookupResult → CacheValue
    → Type 0
IsFinished passed result limit last_asked now before answer after =
    ((answer ≡ (if last_asked || not (is_empty passed) then result_until (limit_of passed limit) result else result))
    × (after ≡ after_stores (earlier_stores result now limit passed) before))
    ⊎ ((answer ≡ Err OutOfMemory) × (is_kept result ≡ true)
    × RunsOutAmong (earlier_stores result now limit passed) before after)
