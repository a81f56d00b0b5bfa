-- What a caller sees of a session.
use Rattle.std.specs.Prelude.{◌≡◌, ℕ, List, Option, nat_eq, if◌then◌else◌}
use Rattle.std.specs.Map.{lookup}
use Rattle.hickory_proto_core.specs.Handles.{OutcomeValue}
use Rattle.hickory_resolver.specs.Driving.{CallProgress}
use Rattle.hickory_resolver_model.specs.Resolver.{ResolverValue}

-- look-ups, each under its number: one waits for what comes back to its question, or is done
abbrev pub Lookups : Type 0
Lookups = List (ℕ × CallProgress)

-- a resolver that sends nothing itself, and the look-ups
pub record SessionValue : Type 0 where
  pub resolver : ResolverValue (List OutcomeValue)
  pub lookups : Lookups

-- the value of a number
abbrev pub value_at : {A : Type 0} → ℕ → List (ℕ × A) → Option A
value_at number values = lookup (nat_eq number) values

-- under this number is now this value, or none; those under other numbers stay
abbrev pub PutsUnder : {A : Type 0} → ℕ → Option A → List (ℕ × A) → List (ℕ × A) → Type 0
PutsUnder number held before after =
    (other : ℕ) → value_at other after ≡ (if nat_eq number other then held else value_at other before)

-- the same of look-ups
abbrev pub lookup_at : ℕ → Lookups → Option CallProgress
lookup_at = value_at

abbrev pub Puts : ℕ → Option CallProgress → Lookups → Lookups → Type 0
Puts = PutsUnder
