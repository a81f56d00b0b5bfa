-- A look-up that does no I/O: it says which question is to be sent, and goes on with what came back to it. Each of its
-- hops reads the cache as it stands when the hop is taken, and its result is kept in the cache that stands at its end.
-- In between, others may have stored, cleared or evicted. Its moment is that of its start.
use Rattle.std.specs.Prelude.{◌≡◌, ◌⊎◌, ◌<◌, ℕ, false, List, [], ◌∷◌, ◌++◌, length, Some, Err}
use Rattle.hickory_proto_core.specs.Handles.{OutcomeValue}
use Rattle.hickory_proto_core.specs.ResponseKind.{Failed, kind_of}
use Rattle.hickory_proto_core.specs.declared.query.Query.{Query}
use Rattle.hickory_proto_core.specs.declared.net_error.NetError.{NetError}
use Rattle.hickory_proto_core.specs.declared.net_error.NetError.TheVariants.{OutOfMemory}
use Rattle.hickory_resolver_model.specs.Cache.{CacheValue}
use Rattle.hickory_resolver_model.specs.Lookup.{LookupResult}
use Rattle.hickory_resolver_model.specs.Verdict.{Hop, first_hop, LeadsTo}
use Rattle.hickory_resolver_model.specs.Hops.{IsBeginning, LookupContext, GoesUpstream, ChainEnd, Special, Hit, Asked, IsChainEnd, verdict_on, is_asked, PassedValue, passed_by, stores_of, reply_of, after_stores}

-- ---- one step: a look-up is started, or goes on with what came back

-- a look-up that waits for what comes back to the question of a hop: the moment of its start, the questions that were
-- asked before, in order, and the hop
pub record WaitingValue : Type 0 where
  pub now : ℕ
  pub passed : List PassedValue
  pub hop : Hop

-- how far a look-up or a call came: it waits, as this says, or it is done
pub data Progress (W : Type 0) : Type 0 where
  Waits : W → Progress W
  IsDone : LookupResult → Progress W

abbrev pub ProgressValue : Type 0
ProgressValue = Progress WaitingValue

-- something is made of how it ends, and that takes memory: all but a failure, which is given as it is
abbrev pub TakesMemory : ChainEnd → Type 0
TakesMemory (Special reply) = Unit {0}
TakesMemory (Hit entry) = Unit {0}
TakesMemory (Asked outcome) = (error : NetError) → kind_of outcome ≡ Failed error → ⊥

-- a look-up ends at this hop, over the cache that stands now, with this result; where memory runs out, a beginning of
-- its stores is made
abbrev pub EndsAs : LookupContext → List PassedValue → Hop → ChainEnd → LookupResult → CacheValue → Type 0
EndsAs s passed hop last result after =
    ((result ≡ reply_of s passed hop last) × (after ≡ after_stores (stores_of s passed hop last) s.cache))
    ⊎ ((result ≡ Err OutOfMemory) × TakesMemory last × IsBeginning (stores_of s passed hop last) s.cache after)

-- a look-up comes to a hop, behind these passed questions: it waits for what comes back to the hop's question, or it
-- ends at a special name or at an entry that is current now
abbrev pub ComesTo : LookupContext → List PassedValue → Hop → ProgressValue → CacheValue → Type 0
ComesTo s passed hop (Waits w) after =
    GoesUpstream s hop.query × (w ≡ record { now = s.now; passed = passed; hop = hop }) × (after ≡ s.cache)
ComesTo s passed hop (IsDone result) after =
    (last : ChainEnd) × (is_asked last ≡ false) × IsChainEnd s (length passed) hop last
    × EndsAs s passed hop last result after

-- a look-up of a question is started
abbrev pub Starts : LookupContext → Query → ProgressValue → CacheValue → Type 0
Starts s question progress after = ComesTo s [] (first_hop question) progress after

-- an alias came back, and not to the eighth question: the look-up comes to the next hop; or memory ran out before
pub record FollowsAlias
    (s : LookupContext) (w : WaitingValue) (outcome : OutcomeValue) (progress : ProgressValue) (after : CacheValue)
    : Type 0 where
  pub next : Hop
  pub alias : verdict_on s w.hop (kind_of outcome) ≡ Some (LeadsTo next)
  pub early : length w.passed < 7
  pub goes_on : ComesTo s (w.passed ++ passed_by s w.hop.query outcome ∷ []) next progress after
      ⊎ ((progress ≡ IsDone (Err OutOfMemory)) × (after ≡ s.cache))

-- what came back ends the look-up
pub record IsEndedBy
    (s : LookupContext) (w : WaitingValue) (outcome : OutcomeValue) (progress : ProgressValue) (after : CacheValue)
    : Type 0 where
  pub result : LookupResult
  pub progress_is : progress ≡ IsDone result
  pub no_alias : (next : Hop) → verdict_on s w.hop (kind_of outcome) ≡ Some (LeadsTo next) → length w.passed ≡ 7
  pub ends : EndsAs s w.passed w.hop (Asked outcome) result after

-- a look-up that waits goes on with what came back to its question
abbrev pub Resumes : LookupContext → WaitingValue → OutcomeValue → ProgressValue → CacheValue → Type 0
Resumes s w outcome progress after =
    FollowsAlias s w outcome progress after ⊎ IsEndedBy s w outcome progress after
