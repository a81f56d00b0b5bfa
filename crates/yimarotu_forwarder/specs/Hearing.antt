-- The parts of a telling: the fetch hears, and then goes on.
use Rattle.std.specs.Prelude.{◌≡◌, ◌++◌, ℕ, List, [], ◌∷◌, Option, None, Some, MatchOption}
use Rattle.hickory_resolver_pool.specs.Over.{OverValue}
use Rattle.client_requests.specs.declared.fetch_end.FetchEnd.TheVariants.{Failure}
use Rattle.yimarotu_forwarder.specs.Fetches.{FetchValue, FetchesValue, HoldsFetch, asked_for, fetch_at, without_asker}
use Rattle.yimarotu_forwarder.specs.Forwarders.{ForwarderValue, TellingValue, second_of}
use Rattle.yimarotu_forwarder.specs.Telling.{EndsFetch, EndsForMemory, HearsIn, heard_so, one_more, told_of, whole_end}
use Rattle.yimarotu_forwarder.specs.declared.telling.Told.{Told}
use Rattle.yimarotu_forwarder.specs.declared.telling.Told.TheVariants as told

-- ---- the fetch hears

-- the fetch of this key: the key, and what it is told
pub record HearsFetch (over : OverValue) (second : ℕ) (key : List ℕ) (heard : Option (List ℕ × Told))
    (before after : FetchesValue) (f : FetchValue) : Type 0 where
  pub heard_is : heard ≡ Some (key, told_of over f)
  pub hears : HearsIn (told_of over f) key (heard_so over second f) before after

-- one that goes on has a question to ask
abbrev pub TakesTurn : Told → List ℕ → FetchesValue → FetchesValue → Type 0
TakesTurn told.Asks key before after = after ≡ record before { to_ask = before.to_ask ++ key ∷ [] }
TakesTurn other key before after = after ≡ before

pub record Holds (over : OverValue) (second : ℕ) (key : List ℕ) (told : Option Told) (before after : FetchesValue)
    (f : FetchValue) : Type 0 where
  pub told_is : told ≡ Some (told_of over f)
  pub holds : HoldsFetch key (heard_so over second f) before after

abbrev pub HearsAt : OverValue → ℕ → List ℕ → Option Told → FetchesValue → FetchesValue → Type 0
HearsAt over second key told before after =
    MatchOption (fetch_at key before) ((told ≡ None) × (after ≡ before)) (Holds over second key told before after)

pub record HoldsTurn (over : OverValue) (second : ℕ) (key : List ℕ) (told : Option Told) (before after : FetchesValue)
    (f : FetchValue) : Type 0 where
  pub told_is : told ≡ Some (told_of over f)
  pub hears : HearsIn (told_of over f) key (heard_so over second f) before after

abbrev pub HearsWithTurn : OverValue → ℕ → List ℕ → Option Told → FetchesValue → FetchesValue → Type 0
HearsWithTurn over second key told before after =
    MatchOption (fetch_at key before) ((told ≡ None) × (after ≡ before))
    (HoldsTurn over second key told before after)

abbrev pub HearsKey : OverValue → ℕ → ℕ → Option (List ℕ × Told) → FetchesValue → FetchesValue → List ℕ → Type 0
HearsKey over asker second heard before after key =
    MatchOption (fetch_at key before) ((heard ≡ None) × (after ≡ without_asker asker before))
    (HearsFetch over second key heard (without_asker asker before) after)

abbrev pub HearsAsker : OverValue → ℕ → ℕ → Option (List ℕ × Told) → FetchesValue → FetchesValue → Type 0
HearsAsker over asker second heard before after =
    MatchOption (asked_for asker before) ((heard ≡ None) × (after ≡ before))
    (HearsKey over asker second heard before after)

-- so the forwarder, and one more is told
pub record HearsNext (t : TellingValue) (asker : ℕ) (heard : Option (List ℕ × Told)) (before after : ForwarderValue)
    : Type 0 where
  pub hears : HearsAsker t.over asker (second_of before) heard before.fetches after.fetches
  pub others_are : after ≡ record before { fetches = after.fetches; telling = Some (one_more t) }

-- ---- it goes on

-- it is over, where it heard the end
abbrev pub GoesOn : Option (List ℕ × Told) → ForwarderValue → ForwarderValue → Type 0
GoesOn None before after = after ≡ before
GoesOn (Some (key, told.Asks)) before after = after ≡ before
GoesOn (Some (key, told.Whole kept)) before after =
    MatchOption (fetch_at key before.fetches) (after ≡ before)
    (λ f. EndsFetch key (whole_end kept f before) f before after)
GoesOn (Some (key, told.Fails why)) before after =
    MatchOption (fetch_at key before.fetches) (after ≡ before) (λ f. EndsFetch key (Failure why) f before after)

abbrev pub StopsKey : List ℕ → ForwarderValue → ForwarderValue → Type 0
StopsKey key before after = MatchOption (fetch_at key before.fetches) ⊥ (λ f. EndsForMemory key f before after)

abbrev pub StopsGoingOn : Option (List ℕ × Told) → ForwarderValue → ForwarderValue → Type 0
StopsGoingOn None before after = ⊥
StopsGoingOn (Some (key, told.Asks)) before after = ⊥
StopsGoingOn (Some (key, told.Whole kept)) before after = StopsKey key before after
StopsGoingOn (Some (key, told.Fails why)) before after = StopsKey key before after
