-- Questions that are looked up for clients, each under its key, and the requests that wait for what they come to.
use Rattle.std.specs.Prelude.{◌≡◌, ◌==◌, ◌&&◌, ℕ, Bool, not, List, [], ◌∷◌, ◌++◌, drop, filter, nat_eq, Option, None, Some, if◌then◌else◌}
use Rattle.std.specs.List.{list_any}
use Rattle.std.specs.Map.{lookup}
use Rattle.std.specs.Option.{option_map}
use Rattle.indexmap.specs.IndexMap.{insert_entry, swap_remove_entry}
use Rattle.client_requests.specs.Keys.{key_eq}
use Rattle.client_requests.specs.Requests.{RequestValue}
use Rattle.whole_lookups.specs.Lookups.{LookupValue}

-- How far a look-up is, whether the servers are asked not to check (CD), the second at which the pool told the first of
-- its replies, the generation of local data under which it began, the moment at which it did (milliseconds), and the
-- requests that wait, first come first.
pub record FetchValue : Type 0 where
  pub lookup : LookupValue
  pub checking_disabled : Bool
  pub heard : Option ℕ
  pub generation : ℕ
  pub began : ℕ
  pub waiting : List RequestValue

-- The fetches by key; the askers of the pool, each with the key of the fetch that it asks for; and the keys of those
-- that have a question to ask, first come first.
pub record FetchesValue : Type 0 where
  pub fetches : List (List ℕ × FetchValue)
  pub askers : List (ℕ × List ℕ)
  pub to_ask : List (List ℕ)

abbrev pub no_fetches : FetchesValue
no_fetches = record { fetches = []; askers = []; to_ask = [] }

abbrev pub fetch_in : List ℕ → List (List ℕ × FetchValue) → Option FetchValue
fetch_in key fetches = lookup (key_eq key) fetches

abbrev pub fetch_at : List ℕ → FetchesValue → Option FetchValue
fetch_at key f = fetch_in key f.fetches

-- the key of the fetch that an asker asks for
abbrev pub asked_for : ℕ → FetchesValue → Option (List ℕ)
asked_for asker f = lookup (nat_eq asker) f.askers

-- ---- who waits

-- the same client sent the same number
abbrev pub is_same_request : RequestValue → RequestValue → Bool
is_same_request r w = (w.client.number == r.client.number) && (w.query.id == r.query.id)

abbrev pub has_request : RequestValue → FetchValue → Bool
has_request r f = list_any (is_same_request r) f.waiting

-- ---- changes

-- under this key is now this fetch, or none; the others stay
abbrev pub PutsFetch : List ℕ → Option FetchValue → FetchesValue → FetchesValue → Type 0
PutsFetch key held before after =
    (other : List ℕ) → fetch_at other after ≡ (if key_eq key other then held else fetch_at other before)

-- a fetch is changed so, where there is one of this key
pub record ChangesFetch (key : List ℕ) (change : FetchValue → FetchValue) (before after : FetchesValue) : Type 0 where
  pub puts : PutsFetch key (option_map change (fetch_at key before)) before after
  pub others_stay : after ≡ record before { fetches = after.fetches }

-- one more waits
abbrev pub with_waiting : RequestValue → FetchValue → FetchValue
with_waiting r f = record f { waiting = f.waiting ++ r ∷ [] }

-- an asker asks for a fetch
abbrev pub with_asker : ℕ → List ℕ → FetchesValue → FetchesValue
with_asker asker key f = record f { askers = insert_entry nat_eq f.askers asker key }

abbrev pub without_asker : ℕ → FetchesValue → FetchesValue
without_asker asker f = record f { askers = swap_remove_entry (nat_eq asker) f.askers }

-- a fetch begins, for which this asker asks
pub record Begins (key : List ℕ) (fetch : FetchValue) (asker : ℕ) (before after : FetchesValue) : Type 0 where
  pub puts : PutsFetch key (Some fetch) before after
  pub others_are : after ≡ record (with_asker asker key before) { fetches = after.fetches }

-- a fetch is now this
pub record HoldsFetch (key : List ℕ) (fetch : FetchValue) (before after : FetchesValue) : Type 0 where
  pub puts : PutsFetch key (Some fetch) before after
  pub others_stay : after ≡ record before { fetches = after.fetches }

-- and has a question to ask
pub record LeadsOn (key : List ℕ) (fetch : FetchValue) (before after : FetchesValue) : Type 0 where
  pub puts : PutsFetch key (Some fetch) before after
  pub others_are : after ≡ record before { fetches = after.fetches; to_ask = before.to_ask ++ key ∷ [] }

-- a fetch is over
pub record Ends (key : List ℕ) (before after : FetchesValue) : Type 0 where
  pub puts : PutsFetch key None before after
  pub others_stay : after ≡ record before { fetches = after.fetches }

-- the first that has a question to ask has its turn
abbrev pub first_asked : FetchesValue → FetchesValue
first_asked f = record f { to_ask = drop 1 f.to_ask }

-- a client waits no more
abbrev pub is_of_client : ℕ → RequestValue → Bool
is_of_client number w = w.client.number == number

abbrev pub without_client : ℕ → List RequestValue → List RequestValue
without_client number waiting = filter (λ w. not (is_of_client number w)) waiting
