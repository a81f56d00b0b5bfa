-- A session of either kind, and what the calls that both have do.
use Rattle.std.specs.Prelude.{◌≡◌, ℕ, Bool, List, Result, Ok, Err}
use Rattle.std.specs.declared.alloc.AllocError.{AllocError}
use Rattle.hickory_proto_core.specs.codes.record_type.RecordType.{RecordType}
use Rattle.hickory_resolver_model.specs.Lookup.{LookupResult}
use Rattle.yimarotu_embedded.specs.Driven.{DrivenValue, StartsIn, over_network}
use Rattle.yimarotu_embedded.specs.declared.held.Held.{Held}
use Rattle.yimarotu_embedded.specs.declared.held.Held.TheVariants.{Fed, Driven}
use Rattle.yimarotu_session.specs.Calls as fed
use Rattle.yimarotu_session.specs.NetworkSessions as network
use Rattle.yimarotu_session.specs.Sessions.{SessionValue}
use Rattle.yimarotu_session.specs.declared.session_error.SessionError.{SessionError}

-- what a call does with a session that is fed by hand, and what it does with one that asks by itself
abbrev pub OnEither : {A : Type 0} → (SessionValue → A → SessionValue → Type 0)
    → (DrivenValue → A → DrivenValue → Type 0) → Held → A → Held → Type 0
OnEither IfFed IfDriven (Fed s) result after = (left : SessionValue) × IfFed s result left × (after ≡ Fed left)
OnEither IfFed IfDriven (Driven d) result after = (left : DrivenValue) × IfDriven d result left × (after ≡ Driven left)

-- a call for sessions that are fed by hand: with any other it ends so, and nothing changes
abbrev pub OnFed : {A : Type 0} → (SessionValue → A → SessionValue → Type 0) → A → Held → A → Held → Type 0
OnFed Does refused = OnEither Does (λ d result left. (result ≡ refused) × (left ≡ d))

-- a call for sessions that ask by themselves
abbrev pub OnDriven : {A : Type 0} → (DrivenValue → A → DrivenValue → Type 0) → A → Held → A → Held → Type 0
OnDriven Does refused = OnEither (λ s result left. (result ≡ refused) × (left ≡ s)) Does

abbrev pub StartsNameIn : ℕ → List ℕ → RecordType → ℕ → Held → Result Bool SessionError → Held → Type 0
StartsNameIn number name t now =
    OnEither (fed.BeginsName number name t (network.seconds_of now))
    (StartsIn (network.BeginsName number name t now) number)

abbrev pub StartsHostIn : ℕ → List ℕ → ℕ → Held → Result Bool SessionError → Held → Type 0
StartsHostIn number host now =
    OnEither (fed.BeginsHost number host (network.seconds_of now))
    (StartsIn (network.BeginsHost number host now) number)

-- the session with a network changes, and nothing beside it
abbrev pub InNetwork : {A : Type 0} → (network.NetworkValue → A → network.NetworkValue → Type 0) → DrivenValue → A
    → DrivenValue → Type 0
InNetwork Does before result after =
    Does before.session result after.session × (after ≡ record before { session = after.session })

-- A look-up is forgotten; or, where the pool is to forget its asker, no memory is left, and nothing changes. A session
-- that is fed by hand has no places that come free, and looks at no moment.
abbrev pub CancelsFed : ℕ → SessionValue → Result Bool AllocError → SessionValue → Type 0
CancelsFed number before (Ok was_there) after = fed.Cancels number before was_there after
CancelsFed number before (Err error) after = ⊥

abbrev pub CancelsNetwork : ℕ → ℕ → network.NetworkValue → Result Bool AllocError → network.NetworkValue → Type 0
CancelsNetwork number now before (Ok was_there) after = network.Cancels number now before was_there after
CancelsNetwork number now before (Err error) after = after ≡ before

abbrev pub CancelsIn : ℕ → ℕ → Held → Result Bool AllocError → Held → Type 0
CancelsIn number now = OnEither (CancelsFed number) (InNetwork (CancelsNetwork number now))

abbrev pub ClearsNameIn : List ℕ → RecordType → Held → Result (Unit {0}) SessionError → Held → Type 0
ClearsNameIn name t = OnEither (fed.ClearsName name t) (InNetwork (network.ClearsName name t))

abbrev pub ClearsIn : Held → Held → Type 0
ClearsIn before after =
    OnEither {A = Unit {0}} (λ s done left. left ≡ fed.cleared s) (λ d done left. left ≡ over_network network.cleared d)
    before tt after

-- what the look-up of a number came to
abbrev pub found_in : ℕ → Held → Result LookupResult SessionError
found_in number (Fed s) = fed.found_at number s
found_in number (Driven d) = network.found_at number d.session
