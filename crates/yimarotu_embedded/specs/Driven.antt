-- A session with a network as a program drives it.
use Rattle.std.specs.Prelude.{◌≡◌, ℕ, Bool, not, List, length, Option, None, Some, Result, Ok, Err, MatchOption}
use Rattle.std.specs.Option.{option_map}
use Rattle.std.specs.Result.{is_ok}
use Rattle.hickory_resolver_model.specs.Cache.{CacheValue, all_weight}
use Rattle.yimarotu_embedded.specs.Counts.{no_counts, with_action, with_start}
use Rattle.yimarotu_embedded.specs.NetworkOpening.{IsOpened}
use Rattle.yimarotu_embedded.specs.declared.counts.Counts.{Counts}
use Rattle.yimarotu_embedded.specs.declared.network_opening.NetworkOpenError.{NetworkOpenError}
use Rattle.yimarotu_session.specs.NetworkSessions.{NetworkValue, found_at}
use Rattle.yimarotu_session.specs.NetworkSteps.{SessionSteps}
use Rattle.yimarotu_session.specs.declared.network_session.NetworkAction.{NetworkAction}
use Rattle.yimarotu_session.specs.declared.session_error.SessionError.{SessionError}

-- with what the program has to do next and was not told whole
pub record DrivenValue : Type 0 where
  pub session : NetworkValue
  pub action : Option NetworkAction
  pub counts : Counts

-- a session that did nothing yet
abbrev pub IsDriven : List ℕ → List ℕ → List ℕ → List ℕ → List ℕ → ℕ → Result DrivenValue NetworkOpenError → Type 0
IsDriven conf hostname settings hosts seed now (Ok d) =
    IsOpened conf hostname settings hosts seed now (Ok d.session) × (d.action ≡ None) × (d.counts ≡ no_counts)
IsDriven conf hostname settings hosts seed now (Err error) =
    IsOpened conf hostname settings hosts seed now (Err error)

abbrev pub over_network : (NetworkValue → NetworkValue) → DrivenValue → DrivenValue
over_network change d = record d { session = change d.session }

-- whether the look-up of a number waits
abbrev pub waits_at : ℕ → NetworkValue → Bool
waits_at number session = not (is_ok (found_at number session))

-- a look-up begins so, and is counted
abbrev pub StartsIn : (NetworkValue → Result (Unit {0}) SessionError → NetworkValue → Type 0) → ℕ → DrivenValue
    → Result Bool SessionError → DrivenValue → Type 0
StartsIn Begins number before (Ok waits) after =
    Begins before.session (Ok tt) after.session × (waits ≡ waits_at number after.session)
    × (after ≡ record before { session = after.session; counts = with_start waits before.counts })
StartsIn Begins number before (Err error) after =
    Begins before.session (Err error) after.session × (after ≡ record before { session = after.session })

-- where nothing is left to be told, the session does its next step
abbrev pub FetchesNext : DrivenValue → DrivenValue → Type 0
FetchesNext before after =
    SessionSteps before.session after.action after.session
    × (after.counts ≡ with_action after.action after.session before.counts)

abbrev pub Fetches : DrivenValue → DrivenValue → Type 0
Fetches before after = MatchOption before.action (FetchesNext before after) (λ action. after ≡ before)

abbrev pub without_action : DrivenValue → DrivenValue
without_action d = record d { action = None }

-- how many octets the entries of a cache weigh, where these are bounded
abbrev pub octets_held : CacheValue → Option ℕ
octets_held cache = option_map (λ _. all_weight cache.entries) cache.octets
