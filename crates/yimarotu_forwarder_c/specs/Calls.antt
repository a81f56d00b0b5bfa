-- Calls of a forwarder that is open, or not.
use Rattle.std.specs.Prelude.{◌≡◌, ℕ, List, Option, None, Some, MatchOption}
use Rattle.yimarotu_driven_forwarder.specs.Driven.{DrivenValue}

-- of one that is closed the call ends so, and nothing changes
abbrev pub OnOpen : {A : Type 0} → (DrivenValue → A → DrivenValue → Type 0) → A → Option DrivenValue → A
    → Option DrivenValue → Type 0
OnOpen Does closed before ended after =
    MatchOption before ((ended ≡ closed) × (after ≡ None))
    (λ d. (left : DrivenValue) × Does d ended left × (after ≡ Some left))

-- the same with a room: then all of it stays
abbrev pub OnOpenIn : {A : Type 0} → (DrivenValue → List ℕ → A → DrivenValue → List ℕ → Type 0) → A
    → Option DrivenValue → List ℕ → A → Option DrivenValue → List ℕ → Type 0
OnOpenIn Does closed before room ended after room' =
    MatchOption before ((ended ≡ closed) × (after ≡ None) × (room' ≡ room))
    (λ d. (left : DrivenValue) × Does d room ended left room' × (after ≡ Some left))

-- a call that tells what a forwarder knows, and changes nothing
abbrev pub AsksOpen : {A : Type 0} → (DrivenValue → A → Type 0) → A → Option DrivenValue → A → Option DrivenValue
    → Type 0
AsksOpen Tells closed before ended after =
    (after ≡ before) × MatchOption before (ended ≡ closed) (λ d. Tells d ended)
