-- A look-up that was begun is kept, or lost.
use Rattle.std.proofs.Common.{◌≡◌, ℕ, Bool, false, Option, None, Some, Result, Ok, Err, IfErr, IfOk, MatchOption, MatchResult}
use Rattle.std.specs.Option.{is_some}
use mathlib.Core.Bool.{true≢false}
use Rattle.hickory_resolver.specs.Contexts.{progress_of}
use Rattle.hickory_resolver.specs.Driving.{CallProgress}
use Rattle.yimarotu_session.specs.Calls.{BeginsLookup, Does, IsLost, Stands, waits_of}
use Rattle.yimarotu_session.specs.Sessions.{Puts, SessionValue, lookup_at}
use Rattle.yimarotu_session.specs.declared.session_error.SessionError.{SessionError}
use Rattle.yimarotu_session.specs.declared.session_error.SessionError.TheVariants.{OutOfMemory, InUse}

where_none : {A : Type 0} (P : Type 0) (Q : A → Type 0) (held : Option A) → is_some held ≡ false → P → MatchOption held P Q
where_none P Q None none p = p
where_none P Q (Some x) none p = absurd (true≢false none)

module _ (Comes : Does) (number : ℕ) (before : SessionValue) (progress : CallProgress) (after : SessionValue) where
  abbrev WhereKept : Bool → Type 0
  WhereKept waits = (waits ≡ waits_of progress) × Puts number (Some progress) before.lookups after.lookups

  abbrev WhereLost : SessionError → Type 0
  WhereLost error = (error ≡ OutOfMemory) × (after.lookups ≡ before.lookups)

  kept : (result : Result Bool SessionError) → Comes before.resolver (progress_of progress) after.resolver
      → IfOk result WhereKept → IfErr result WhereLost
      → MatchResult result (λ waits. Stands Comes number before waits after) (λ error. IsLost Comes before error after)
  kept (Ok waits) comes ok err = record { progress = progress; comes = comes; waits_is = ok.0; lookups_are = ok.1 }
  kept (Err error) comes ok err = record { progress = progress_of progress; comes = comes; error_is = err.0; lookups_stay = err.1 }

  pub begins : (result : Result Bool SessionError) → is_some (lookup_at number before.lookups) ≡ false
      → Comes before.resolver (progress_of progress) after.resolver → IfOk result WhereKept → IfErr result WhereLost
      → BeginsLookup Comes number before result after
  begins result free comes ok err =
      where_none (MatchResult result (λ waits. Stands Comes number before waits after) (λ error. IsLost Comes before error after))
      (λ held. (result ≡ Err InUse) × (after ≡ before)) (lookup_at number before.lookups) free (kept result comes ok err)
