-- How many wait, and how much is kept.
use Rattle.std.proofs.Common.{◌≡◌, ◌∙◌, ◌&&◌, ℕ, ◌+◌, ◌≤◌, ◌<◌, Bool, true, false, not, List, [], ◌∷◌, ◌++◌, length, map, refl, sym, ap, ap₂, subst, arith, length-append}
use Rattle.std.specs.Prelude.{Option, None, Some, nat_lt, if◌then◌else◌}
use Rattle.std.specs.List.{AllByRecursion}
use Rattle.std.specs.Option.{option_map}
use Rattle.std.specs.declared.net.IpAddr.{IpAddr}
use Rattle.std.proofs.lemmas.Bool.{and_parts, lt-ltb, ltb-true}
use Rattle.std.proofs.lemmas.List.Sums.{fold-append}
use Rattle.std.proofs.lemmas.Map.Made.{lookup-map_values}
use Rattle.hickory_resolver_pool.specs.Pool.{PoolState}
use Rattle.client_limits.proofs.Bounded.{stays_within_limits}
use Rattle.client_limits.specs.Counts.{CountsValue, added, admits, count_of, nobody, removed}
use Rattle.client_limits.specs.Laws.{ClientEvent, IsWithinLimits, comes, goes}
use Rattle.client_limits.specs.Laws as clients
use Rattle.client_limits.specs.declared.limits.ClientLimits.{ClientLimits}
use Rattle.client_requests.specs.Keys.{key_eq}
use Rattle.client_requests.specs.Requests.{RequestValue}
use Rattle.failure_replies.specs.declared.failure.FailureReason.{FailureReason}
use Rattle.kept_failures.specs.declared.failure.KeptFailure.{KeptFailure}
use Rattle.second_chance_cache.proofs.Bounded.{within-asked, within-nothing, within-stored, within-without}
use Rattle.second_chance_cache.specs.Laws.{CacheEvent, after_event, asks, clears, removes, stores}
use Rattle.second_chance_cache.specs.SecondChance.{CacheValue, Entry, IsCache}
use Rattle.second_chance_cache.specs.declared.bounds.CacheBounds.{CacheBounds}
use Rattle.yimarotu_forwarder.specs.Cached.{CachedValue}
use Rattle.yimarotu_forwarder.specs.Fetches.{FetchValue, fetch_in, is_of_client}
use Rattle.yimarotu_forwarder.specs.Flushing.{is_flushed as is_flushed_key}
use Rattle.yimarotu_forwarder.specs.Forwarders.{ChainEndValue, ForwarderValue, ReplyingValue, new_forwarder}
use Rattle.yimarotu_forwarder.specs.Late.{late_replying, with_nobody}
use Rattle.yimarotu_forwarder.specs.Leaving.{counts_without, counts_without_fetches, counts_without_replying, counts_without_request, entry_without, fetch_without, replying_without}
use Rattle.yimarotu_forwarder.specs.Local.{LocalValue}
use Rattle.yimarotu_forwarder.specs.Options.{OptionsValue}
use Rattle.yimarotu_forwarder.specs.Telling.{replying_of}
use Rattle.yimarotu_forwarder_theorems.specs.Bounds.{AllowNoMore, BoundsAreKept, SetsNoMore}
use Rattle.yimarotu_forwarder_theorems.specs.Runs.{ForwarderEvent, Happening, Runs, at_first, happened, next}
use Rattle.yimarotu_forwarder_theorems.proofs.Cores.{Core, Fetching, Joins, Leaves, Puts, Source, Still, Stills, as_before, begins_alone, cache_changes, chain_ends, core, failures_change, is_flushed, is_heard, is_let_go, is_over, is_told_late, left_by, more, no_chain_ends, waiting_for}
use Rattle.yimarotu_forwarder_theorems.proofs.Events.{EventMoves, event_goes, event_joins, event_leaves, event_options, event_stays, moves}
use Rattle.yimarotu_forwarder_theorems.proofs.Flushed.{fewer, let-go}

-- ---- what is kept keeps to its bounds

cache-event : {V : Type 0} (c : CacheValue V) (event : CacheEvent V) → IsCache c → IsCache (after_event c event)
cache-event c (stores key value weight deadline now) is = within-stored key value weight deadline now c is
cache-event c (asks key now) is = within-asked c.bounds key now c.entries is
cache-event c (removes key) is = within-without c.bounds key c.entries is
cache-event c clears is = within-nothing c.bounds

event-bounds : {V : Type 0} (c : CacheValue V) (event : CacheEvent V) → (after_event c event).bounds ≡ c.bounds
event-bounds c (stores key value weight deadline now) = refl
event-bounds c (asks key now) = refl
event-bounds c (removes key) = refl
event-bounds c clears = refl

-- ---- the counts are what clients that come and go leave

pub record IsCountedBy (limits : ClientLimits) (c : CountsValue) : Type 0 where
  pub events : List ClientEvent
  pub left : c ≡ clients.after_events limits nobody events

one-client : (limits : ClientLimits) (c : CountsValue) (event : ClientEvent) → IsCountedBy limits c
    → IsCountedBy limits (clients.after_event limits c event)
one-client limits c event l = record {
  events = l.events ++ event ∷ [];
  left =
      ap (λ (x : CountsValue). clients.after_event limits x event) l.left
      ∙ sym (fold-append (clients.after_event limits) nobody l.events (event ∷ []));
}

within-limits : (limits : ClientLimits) (c : CountsValue) → IsCountedBy limits c → IsWithinLimits limits c
within-limits limits c l =
    subst (λ (x : CountsValue). IsWithinLimits limits x) (sym l.left) (stays_within_limits limits l.events)

-- a client that goes
one-goes : (limits : ClientLimits) (client : ℕ) (w : RequestValue) (c : CountsValue) → IsCountedBy limits c
    → IsCountedBy limits (counts_without_request client c w)
one-goes limits client w c l = by (is_of_client client w)
  where
    by : (b : Bool) → IsCountedBy limits (if b then removed w.client.address c else c)
    by true = one-client limits c (goes w.client.address) l
    by false = l

all-go : (limits : ClientLimits) (client : ℕ) (ws : List RequestValue) (c : CountsValue) → IsCountedBy limits c
    → IsCountedBy limits (counts_without client c ws)
all-go limits client [] c l = l
all-go limits client (w ∷ ws) c l =
    all-go limits client ws (counts_without_request client c w) (one-goes limits client w c l)

fetches-go : (limits : ClientLimits) (client : ℕ) (es : Fetching) (c : CountsValue) → IsCountedBy limits c
    → IsCountedBy limits (counts_without_fetches client c es)
fetches-go limits client [] c l = l
fetches-go limits client (e ∷ es) c l =
    fetches-go limits client es (counts_without client c e.1.waiting) (all-go limits client e.1.waiting c l)

told-go : (limits : ClientLimits) (client : ℕ) (replying : Option ReplyingValue) (c : CountsValue)
    → IsCountedBy limits c → IsCountedBy limits (counts_without_replying client c replying)
told-go limits client None c l = l
told-go limits client (Some r) c l = all-go limits client r.waiting c l

-- who is admitted within lower limits is so within higher ones
admitted-within : (limits : ClientLimits) (options : OptionsValue) (address : IpAddr) (n : ℕ) (c : CountsValue)
    → AllowNoMore limits options → admits options.limits address n c ≡ true → admits limits address n c ≡ true
admitted-within limits options address n c less is =
    let own = options.limits in
    let all = and_parts (nat_lt c.all own.all && nat_lt n own.of_question) (nat_lt (count_of address c) own.of_address)
    is in
    let two = and_parts (nat_lt c.all own.all) (nat_lt n own.of_question) all.0 in
    let first = ltb-true c.all own.all two.0 in
    let second = ltb-true n own.of_question two.1 in
    let third = ltb-true (count_of address c) own.of_address all.1 in
    let first-too = lt-ltb c.all limits.all (omega (arith, first, less.all)) in
    let second-too = lt-ltb n limits.of_question (omega (arith, second, less.of_question)) in
    let third-too = lt-ltb (count_of address c) limits.of_address (omega (arith, third, less.of_address)) in
    ap₂ (λ (x : Bool) (y : Bool). (x && y) && nat_lt (count_of address c) limits.of_address) first-too second-too
    ∙ third-too

-- ---- all of it

module _ (limits : ClientLimits) (cache failures : CacheBounds) where
  pub record IsBounded (c : Core) : Type 0 where
    pub allows : AllowNoMore limits c.options
    pub counted : IsCountedBy limits c.counts
    pub few : (key : List ℕ) → length (waiting_for (fetch_in key c.fetches)) ≤ limits.of_question
    pub kept : IsCache c.cache
    pub kept_within : c.cache.bounds ≡ cache
    pub noted : IsCache c.failures
    pub noted_within : c.failures.bounds ≡ failures

  -- where others wait, and what is kept is as it was
  others-wait : (c : Core) (counts : CountsValue) (fetches : Fetching) (replying : Option ReplyingValue) → IsBounded c
      → IsCountedBy limits counts
      → ((key : List ℕ) → length (waiting_for (fetch_in key fetches)) ≤ limits.of_question)
      → IsBounded (record c { counts = counts; fetches = fetches; replying = replying })
  others-wait c counts fetches replying h counted few = record {
    allows = h.allows;
    counted = counted;
    few = few;
    kept = h.kept;
    kept_within = h.kept_within;
    noted = h.noted;
    noted_within = h.noted_within;
  }

  -- what is put has few who wait for it
  few-put : (k : List ℕ) (held : Option FetchValue) (c d : Fetching) → Puts k held c d
      → length (waiting_for held) ≤ limits.of_question
      → ((key : List ℕ) → length (waiting_for (fetch_in key c)) ≤ limits.of_question)
      → (key : List ℕ) → length (waiting_for (fetch_in key d)) ≤ limits.of_question
  few-put k held c d puts room few key =
      subst (λ (x : Option FetchValue). length (waiting_for x) ≤ limits.of_question) (sym (puts key))
      (by (key_eq k key))
    where
      by : (b : Bool) → length (waiting_for (if b then held else fetch_in key c)) ≤ limits.of_question
      by true = room
      by false = few key

  few-heard : (k : List ℕ) (f g : FetchValue) (c d : Fetching) → fetch_in k c ≡ Some f → g.waiting ≡ f.waiting
      → Puts k (Some g) c d → ((key : List ℕ) → length (waiting_for (fetch_in key c)) ≤ limits.of_question)
      → (key : List ℕ) → length (waiting_for (fetch_in key d)) ≤ limits.of_question
  few-heard k f g c d found same puts few =
      let as-many : length g.waiting ≡ length (waiting_for (fetch_in k c)) =
      ap length (same ∙ sym (ap waiting_for found)) in
      few-put k (Some g) c d puts (omega (arith, as-many, few k)) few

  as-bounded : (c : Core) (end : Option ChainEndValue) → IsBounded c → IsBounded (record c { chain_end = end })
  as-bounded c end h = record {
    allows = h.allows;
    counted = h.counted;
    few = h.few;
    kept = h.kept;
    kept_within = h.kept_within;
    noted = h.noted;
    noted_within = h.noted_within;
  }

  still-bounded : {said : Source → Type 0} (c d : Core) → Still said c d → IsBounded c → IsBounded d
  still-bounded c d (cache_changes c' d' event such e) h =
      subst IsBounded (sym e) (record {
        allows = h.allows;
        counted = h.counted;
        few = h.few;
        kept = cache-event c.cache event h.kept;
        kept_within = event-bounds c.cache event ∙ h.kept_within;
        noted = h.noted;
        noted_within = h.noted_within;
      })
  still-bounded c d (failures_change c' d' event e) h =
      subst IsBounded (sym e) (record {
        allows = h.allows;
        counted = h.counted;
        few = h.few;
        kept = h.kept;
        kept_within = h.kept_within;
        noted = cache-event c.failures event h.noted;
        noted_within = event-bounds c.failures event ∙ h.noted_within;
      })
  still-bounded c d (is_heard c' d' k f g found same led puts e) h =
      subst IsBounded (sym e) (others-wait c c.counts d.fetches c.replying h h.counted
      (few-heard k f g c.fetches d.fetches found same.waiting puts h.few))
  still-bounded c d (is_over c' d' k end f g none found same is puts e) h =
      subst IsBounded (sym e) (others-wait c c.counts d.fetches (Some (replying_of k end g)) h h.counted
      (few-put k None c.fetches d.fetches puts (omega arith) h.few))
  still-bounded c d (is_told_late c' d' k f none found puts e) h =
      subst IsBounded (sym e) (others-wait c c.counts d.fetches (Some (late_replying k f)) h h.counted
      (few-put k (Some (with_nobody f)) c.fetches d.fetches puts (omega arith) h.few))
  still-bounded c d (is_let_go c' d' r was none e) h =
      subst IsBounded (sym e) (others-wait c c.counts c.fetches None h h.counted h.few)
  still-bounded c d (chain_ends c' d' end is e) h = subst IsBounded (sym e) (as-bounded c (Some end) h)
  still-bounded c d (no_chain_ends c' d' e) h = subst IsBounded (sym e) (as-bounded c None h)
  still-bounded c d (is_flushed c' d' labels below e) h =
      subst IsBounded (sym e) (record {
        allows = h.allows;
        counted = h.counted;
        few = h.few;
        kept = let-go (λ (x : Entry CachedValue). not (is_flushed_key labels below x.key)) c.cache h.kept;
        kept_within = h.kept_within;
        noted = let-go (λ (x : Entry (KeptFailure FailureReason)). not (is_flushed_key labels below x.key)) c.failures
            h.noted;
        noted_within = h.noted_within;
      })
  still-bounded c d (begins_alone c' d' k f none waits begins puts e) h =
      let nobody-waits : length f.waiting ≡ 0 = ap length waits in
      subst IsBounded (sym e) (others-wait c c.counts d.fetches c.replying h h.counted
      (few-put k (Some f) c.fetches d.fetches puts (omega (arith, nobody-waits)) h.few))

  stills-bounded : {said : Source → Type 0} (c d : Core) → Stills said c d → IsBounded c → IsBounded d
  stills-bounded c d (as_before c' d' e) h = subst IsBounded (sym e) h
  stills-bounded c d (more c' m d' first rest) h = stills-bounded m d rest (still-bounded c m first h)

  join-bounded : (w : RequestValue) (c d : Core) → Joins w c d → IsBounded c → IsBounded d
  join-bounded w c d j h =
      let before = waiting_for (fetch_in j.key c.fetches) in
      let room : admits limits w.client.address (length before) c.counts ≡ true =
      admitted-within limits c.options w.client.address (length before) c.counts h.allows j.admitted in
      let all = and_parts (nat_lt c.counts.all limits.all && nat_lt (length before) limits.of_question)
      (nat_lt (count_of w.client.address c.counts) limits.of_address) room in
      let two = and_parts (nat_lt c.counts.all limits.all) (nat_lt (length before) limits.of_question) all.0 in
      let question : length before < limits.of_question = ltb-true (length before) limits.of_question two.1 in
      let one-more : length j.fetch.waiting ≡ length before + 1 =
      ap length j.waiting ∙ length-append before (w ∷ []) in
      subst IsBounded (sym j.others_are) (others-wait c (added w.client.address c.counts) d.fetches c.replying h
      (subst (IsCountedBy limits)
      (ap (λ (b : Bool). if b then added w.client.address c.counts else c.counts) room)
      (one-client limits c.counts (comes w.client.address (length before)) h.counted))
      (few-put j.key (Some j.fetch) c.fetches d.fetches j.puts (omega (arith, question, one-more)) h.few))

  leave-bounded : (w : RequestValue) (c d : Core) → Leaves w c d → IsBounded c → IsBounded d
  leave-bounded w c d l h =
      subst IsBounded (sym l.others_are) (others-wait c (removed w.client.address c.counts) c.fetches
      (Some (record l.replying { waiting = l.others })) h
      (one-client limits c.counts (goes w.client.address) h.counted) h.few)

  few-gone : (client : ℕ) (held : Option FetchValue) → length (waiting_for held) ≤ limits.of_question
      → length (waiting_for (option_map (fetch_without client) held)) ≤ limits.of_question
  few-gone client None few = few
  few-gone client (Some f) few =
      let less = fewer (λ (w : RequestValue). not (is_of_client client w)) f.waiting in
      omega (arith, few, less)

  gone-bounded : (client : ℕ) (c d : Core) → d ≡ left_by client c → IsBounded c → IsBounded d
  gone-bounded client c d e h =
      subst IsBounded (sym e) (others-wait c
      (counts_without_replying client (counts_without_fetches client c.counts c.fetches) c.replying)
      (map (entry_without client) c.fetches) (option_map (replying_without client) c.replying) h
      (told-go limits client c.replying (counts_without_fetches client c.counts c.fetches)
      (fetches-go limits client c.fetches c.counts h.counted))
      (λ key. subst (λ (x : Option FetchValue). length (waiting_for x) ≤ limits.of_question)
      (sym (lookup-map_values (fetch_without client) (key_eq key) c.fetches))
      (few-gone client (fetch_in key c.fetches) (h.few key))))

  optioned : (options : OptionsValue) (c d : Core) → d ≡ record c { options = options } → AllowNoMore limits options
      → IsBounded c → IsBounded d
  optioned options c d e less h =
      subst IsBounded (sym e) (record {
        allows = less;
        counted = h.counted;
        few = h.few;
        kept = h.kept;
        kept_within = h.kept_within;
        noted = h.noted;
        noted_within = h.noted_within;
      })

event-bounded : (limits : ClientLimits) (cache failures : CacheBounds) (event : ForwarderEvent) (b a : ForwarderValue)
    → SetsNoMore limits (happened event b a) → EventMoves event b a → IsBounded limits cache failures (core b)
    → IsBounded limits cache failures (core a)
event-bounded limits cache failures event b a less (event_stays says still) h =
    stills-bounded limits cache failures (core b) (core a) still h
event-bounded limits cache failures event b a less (event_joins w says j) h =
    join-bounded limits cache failures w (core b) (core a) j h
event-bounded limits cache failures event b a less (event_leaves w says l) h =
    leave-bounded limits cache failures w (core b) (core a) l h
event-bounded limits cache failures event b a less (event_goes client is e) h =
    gone-bounded limits cache failures client (core b) (core a) e h
event-bounded limits cache failures event b a less (event_options options is says e) h =
    optioned limits cache failures options (core b) (core a) e
    (subst (λ (x : ForwarderEvent). SetsNoMore limits (happened x b a)) is less) h

module _ (options : OptionsValue) (local : LocalValue) (cache failures : CacheBounds) (pool : PoolState)
    (limits : ClientLimits) (first : AllowNoMore limits options) where
  bounded : (past : List Happening) (s : ForwarderValue)
      → Runs (new_forwarder options local cache failures pool) past s → AllByRecursion (SetsNoMore limits) past
      → IsBounded limits cache failures (core s)
  bounded past s at_first less = record {
    allows = first;
    counted = record { events = []; left = refl };
    few = λ key. omega arith;
    kept = within-nothing cache;
    kept_within = refl;
    noted = within-nothing failures;
    noted_within = refl;
  }
  bounded past s (next earlier event before after happens runs) less =
      event-bounded limits cache failures event before after less.0 (moves event before after happens)
      (bounded earlier before runs less.1)

pub bounds_are_kept : BoundsAreKept
bounds_are_kept options local cache failures pool past s runs limits first less =
    let h = bounded options local cache failures pool limits first past s runs less in
    record {
      clients = within-limits limits s.counts h.counted;
      questions = h.few;
      kept_replies = h.kept;
      replies_bounds = h.kept_within;
      kept_failures = h.noted;
      failures_bounds = h.noted_within;
    }
