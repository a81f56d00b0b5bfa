-- The part of a forwarder that asks the pool and tells what it says, and how that changes.
use Rattle.std.proofs.Common.{◌≡◌, ◌∙◌, ℕ, List, [], refl, sym, ap, subst}
use Rattle.std.specs.Prelude.{Option, None, Some, slice_get}
use Rattle.hickory_proto_core.specs.declared.dns_request.DnsRequestOptions.{DnsRequestOptions}
use Rattle.hickory_resolver_askers.specs.declared.asker.Asker.{Asker}
use Rattle.hickory_resolver_pool.specs.Laws.{PoolEvent, after_event, is_asked, is_forgotten}
use Rattle.hickory_resolver_pool.specs.Pool.{PoolState, asking_told, list_of}
use Rattle.hickory_resolver_pool.specs.Pool as in_pool
use Rattle.hickory_resolver_pool.specs.declared.pool.Action.{Action}
use Rattle.hickory_resolver_pool.specs.declared.pool.Asked.TheVariants as asked
use Rattle.hickory_resolver_pool_theorems.specs.Runs.{given_by}
use Rattle.hickory_resolver_tries.specs.Question.{question_of}
use Rattle.hickory_resolver_tries.specs.declared.pool_question.DnssecOptions.{DnssecOptions}
use Rattle.yimarotu_forwarder.specs.Fetches.{Begins, Ends, FetchValue, FetchesValue, HoldsFetch, LeadsOn, asked_for, fetch_at, first_asked, with_asker, without_asker}
use Rattle.yimarotu_forwarder.specs.Forwarders.{ForwarderValue, TellingValue}
use Rattle.yimarotu_forwarder.specs.Leaving.{fetches_without}
use Rattle.yimarotu_forwarder.specs.Steps.{telling_of}
use Rattle.yimarotu_forwarder.specs.Telling.{one_more}

pub record Part : Type 0 where
  pub pool : PoolState
  pub telling : Option TellingValue
  pub fetches : FetchesValue

abbrev pub part : ForwarderValue → Part
part s = record { pool = s.pool; telling = s.telling; fetches = s.fetches }

-- ---- one change

-- no asker is forgotten by it
abbrev pub IsKept : PoolEvent → Type 0
IsKept (is_forgotten a) = ⊥
IsKept other = Unit {0}

-- the pool is asked the question that a fetch has to ask, and gives an asker of this number
pub record Asks (f : FetchValue) (number : ℕ) (before after : PoolState) : Type 0 where
  pub group : ℕ
  pub options : DnsRequestOptions
  pub dnssec : DnssecOptions
  pub now : ℕ
  pub asker : Asker
  pub with_do : dnssec.dnssec_ok ≡ f.lookup.dnssec
  pub given :
      asking_told (list_of group before.traffic) (question_of f.lookup.next options dnssec) before ≡ asked.Asker asker
  pub number_is : asker.number ≡ number
  pub after_is : after ≡ after_event before (is_asked group f.lookup.next options dnssec now)

pub data Move (c d : Part) : Type 0 where
  pool_hears : (e : PoolEvent) → given_by e ≡ [] → IsKept e → d ≡ record c { pool = after_event c.pool e } → Move c d
  told_all : d ≡ record c { telling = None } → Move c d
  counts_one : (t : TellingValue) → c.telling ≡ Some t → d ≡ record c { telling = Some (one_more t) } → Move c d
  fetch_changes : (key : List ℕ) (f g : FetchValue) → fetch_at key c.fetches ≡ Some f → g.lookup ≡ f.lookup
      → HoldsFetch key g c.fetches d.fetches → d ≡ record c { fetches = d.fetches } → Move c d
  client_goes : (client : ℕ) → d ≡ record c { fetches = fetches_without client c.fetches } → Move c d
  fetch_begins : (key : List ℕ) (f : FetchValue) (number : ℕ) (p : PoolState) → fetch_at key c.fetches ≡ None
      → Asks f number c.pool p → Begins key f number c.fetches d.fetches
      → d ≡ record c { pool = p; fetches = d.fetches } → Move c d
  fetch_asks : (key : List ℕ) (f : FetchValue) (number : ℕ) (p : PoolState) → slice_get c.fetches.to_ask 0 ≡ Some key
      → fetch_at key c.fetches ≡ Some f → Asks f number c.pool p
      → d ≡ record c { pool = p; fetches = with_asker number key (first_asked c.fetches) } → Move c d
  turn_passes : d ≡ record c { fetches = first_asked c.fetches } → Move c d
  turn_ends : (key : List ℕ) → slice_get c.fetches.to_ask 0 ≡ Some key → Ends key (first_asked c.fetches) d.fetches
      → d ≡ record c { fetches = d.fetches } → Move c d
  asker_goes : (asker : ℕ) (key : List ℕ) → asked_for asker c.fetches ≡ Some key
      → d ≡ record c { fetches = without_asker asker c.fetches } → Move c d
  asker_ends : (asker : ℕ) (key : List ℕ) → asked_for asker c.fetches ≡ Some key
      → Ends key (without_asker asker c.fetches) d.fetches → d ≡ record c { fetches = d.fetches } → Move c d
  asker_leads : (asker : ℕ) (key : List ℕ) (g : FetchValue) → asked_for asker c.fetches ≡ Some key
      → LeadsOn key g (without_asker asker c.fetches) d.fetches → d ≡ record c { fetches = d.fetches } → Move c d

-- ---- one after another

pub data Moves : Part → Part → Type 0 where
  as_before : (c d : Part) → d ≡ c → Moves c d
  more : (c m d : Part) → Move c m → Moves m d → Moves c d

pub move-one : (c d : Part) → Move c d → Moves c d
move-one c d first = more c d d first (as_before d d refl)

abbrev pub Near : ForwarderValue → ForwarderValue → Type 0
Near b a = Moves (part b) (part a)

-- so it is, or the pool was given something, or a step of it was done; with what it was given
pub data Goes (b a : ForwarderValue) : List PoolEvent → Type 0 where
  near_by : Near b a → Goes b a []
  event_goes : (e : PoolEvent) → IsKept e → part a ≡ record (part b) { pool = after_event b.pool e }
      → Goes b a (given_by e)
  pool_steps : (did : Option Action) → in_pool.Steps b.pool did a.pool
      → part a ≡ record (part b) { pool = a.pool; telling = telling_of did } → Goes b a []

-- ---- what happens to the pool

-- events, one after another, none of them something that is given
pub data PoolGoes : PoolState → PoolState → Type 0 where
  pool_stays : (p q : PoolState) → q ≡ p → PoolGoes p q
  pool_goes : (p q : PoolState) (e : PoolEvent) → given_by e ≡ [] → PoolGoes (after_event p e) q → PoolGoes p q

pool-then : (p q r : PoolState) → PoolGoes p q → PoolGoes q r → PoolGoes p r
pool-then p q r (pool_stays p' q' same) rest = subst (λ (x : PoolState). PoolGoes x r) same rest
pool-then p q r (pool_goes p' q' e none first) rest =
    pool_goes p r e none (pool-then (after_event p e) q r first rest)

abbrev pub pool-in : Part → PoolState
pool-in c = c.pool

one-event : (p q : PoolState) (e : PoolEvent) → given_by e ≡ [] → q ≡ after_event p e → PoolGoes p q
one-event p q e none is = pool_goes p q e none (pool_stays (after_event p e) q is)

pool-moved : (c d : Part) → Move c d → PoolGoes c.pool d.pool
pool-moved c d (pool_hears e none kept is) = one-event c.pool d.pool e none (ap pool-in is)
pool-moved c d (told_all is) = pool_stays c.pool d.pool (ap pool-in is)
pool-moved c d (counts_one t was is) = pool_stays c.pool d.pool (ap pool-in is)
pool-moved c d (fetch_changes key f g there same holds is) = pool_stays c.pool d.pool (ap pool-in is)
pool-moved c d (client_goes client is) = pool_stays c.pool d.pool (ap pool-in is)
pool-moved c d (fetch_begins key f number p none asks begins is) =
    one-event c.pool d.pool (is_asked asks.group f.lookup.next asks.options asks.dnssec asks.now) refl
    (ap pool-in is ∙ asks.after_is)
pool-moved c d (fetch_asks key f number p turn there asks is) =
    one-event c.pool d.pool (is_asked asks.group f.lookup.next asks.options asks.dnssec asks.now) refl
    (ap pool-in is ∙ asks.after_is)
pool-moved c d (turn_passes is) = pool_stays c.pool d.pool (ap pool-in is)
pool-moved c d (turn_ends key turn ends is) = pool_stays c.pool d.pool (ap pool-in is)
pool-moved c d (asker_goes asker key own is) = pool_stays c.pool d.pool (ap pool-in is)
pool-moved c d (asker_ends asker key own ends is) = pool_stays c.pool d.pool (ap pool-in is)
pool-moved c d (asker_leads asker key g own leads is) = pool_stays c.pool d.pool (ap pool-in is)

pub pool-goes : (c d : Part) → Moves c d → PoolGoes c.pool d.pool
pool-goes c d (as_before c' d' same) = pool_stays c.pool d.pool (ap pool-in same)
pool-goes c d (more c' m d' first rest) =
    pool-then c.pool m.pool d.pool (pool-moved c m first) (pool-goes m d rest)

-- ---- what is told

-- What is told is of the same transaction, or of none.
abbrev pub TellsSame : Option TellingValue → Option TellingValue → Type 0
TellsSame before after =
    (t : TellingValue) → after ≡ Some t → (u : TellingValue) × (before ≡ Some u) × (t.over ≡ u.over)

pub tells-same : (b a : Option TellingValue) → a ≡ b → TellsSame b a
tells-same b a same t is = (t, sym same ∙ is, refl)

abbrev pub telling-in : Part → Option TellingValue
telling-in c = c.telling

tells-moved : (c d : Part) → Move c d → TellsSame c.telling d.telling
tells-moved c d (pool_hears e none kept is) = tells-same c.telling d.telling (ap telling-in is)
tells-moved c d (told_all is) =
    λ t told. let clash : None ≡ Some t = sym (ap telling-in is) ∙ told in absurd cc
tells-moved c d (counts_one t was is) =
    λ u told.
    let one : Some (one_more t) ≡ Some u = sym (ap telling-in is) ∙ told in
    let same : one_more t ≡ u = cc in
    (t, was, sym (ap (λ (x : TellingValue). x.over) same))
tells-moved c d (fetch_changes key f g there same holds is) = tells-same c.telling d.telling (ap telling-in is)
tells-moved c d (client_goes client is) = tells-same c.telling d.telling (ap telling-in is)
tells-moved c d (fetch_begins key f number p none asks begins is) = tells-same c.telling d.telling (ap telling-in is)
tells-moved c d (fetch_asks key f number p turn there asks is) = tells-same c.telling d.telling (ap telling-in is)
tells-moved c d (turn_passes is) = tells-same c.telling d.telling (ap telling-in is)
tells-moved c d (turn_ends key turn ends is) = tells-same c.telling d.telling (ap telling-in is)
tells-moved c d (asker_goes asker key own is) = tells-same c.telling d.telling (ap telling-in is)
tells-moved c d (asker_ends asker key own ends is) = tells-same c.telling d.telling (ap telling-in is)
tells-moved c d (asker_leads asker key g own leads is) = tells-same c.telling d.telling (ap telling-in is)

pub telling-goes : (c d : Part) → Moves c d → TellsSame c.telling d.telling
telling-goes c d (as_before c' d' same) = tells-same c.telling d.telling (ap telling-in same)
telling-goes c d (more c' m d' first rest) =
    λ t told.
    let later = telling-goes m d rest t told in
    let sooner = tells-moved c m first later.0 later.1 in (sooner.0, sooner.1, later.2 ∙ sooner.2)
