-- A client that waits no more.
use Rattle.std.specs.Prelude.{ℕ, List, fold, map, Option, None, Some, if◌then◌else◌}
use Rattle.std.specs.Option.{option_map}
use Rattle.client_limits.specs.Counts.{CountsValue, removed}
use Rattle.client_requests.specs.Requests.{RequestValue}
use Rattle.yimarotu_forwarder.specs.Fetches.{FetchValue, FetchesValue, is_of_client, without_client}
use Rattle.yimarotu_forwarder.specs.Forwarders.{ForwarderValue, ReplyingValue}

-- ---- the places that its requests had are free

-- one request waits no more, where it is of this client
abbrev pub counts_without_request : ℕ → CountsValue → RequestValue → CountsValue
counts_without_request number counts w =
    if is_of_client number w then removed w.client.address counts else counts

-- for each of its requests one place, of the address that it came from
abbrev pub counts_without : ℕ → CountsValue → List RequestValue → CountsValue
counts_without number counts waiting = fold (counts_without_request number) counts waiting

-- ---- nobody waits for it

abbrev pub fetch_without : ℕ → FetchValue → FetchValue
fetch_without number f = record f { waiting = without_client number f.waiting }

abbrev pub entry_without : ℕ → List ℕ × FetchValue → List ℕ × FetchValue
entry_without number e = (e.0, fetch_without number e.1)

-- in each fetch; they go on
abbrev pub fetches_without : ℕ → FetchesValue → FetchesValue
fetches_without number f = record f { fetches = map (entry_without number) f.fetches }

abbrev pub replying_without : ℕ → ReplyingValue → ReplyingValue
replying_without number r = record r { waiting = without_client number r.waiting }

-- ---- the whole

abbrev pub counts_without_fetch : ℕ → CountsValue → List ℕ × FetchValue → CountsValue
counts_without_fetch number counts e = counts_without number counts e.1.waiting

-- of each fetch, from the first to the last
abbrev pub counts_without_fetches : ℕ → CountsValue → List (List ℕ × FetchValue) → CountsValue
counts_without_fetches number counts fetches = fold (counts_without_fetch number) counts fetches

abbrev pub counts_without_replying : ℕ → CountsValue → Option ReplyingValue → CountsValue
counts_without_replying number counts None = counts
counts_without_replying number counts (Some r) = counts_without number counts r.waiting

-- No request of a client of this number is replied to any more: neither one that waits for a look-up, nor one that was
-- to be told what a look-up came to.
abbrev pub gone : ℕ → ForwarderValue → ForwarderValue
gone number s = record s {
  counts =
      counts_without_replying number (counts_without_fetches number s.counts s.fetches.fetches) s.replying;
  fetches = fetches_without number s.fetches;
  replying = option_map (replying_without number) s.replying;
}
