-- What of a forwarder decides who is replied to and what is kept, and how that changes.
use Rattle.std.proofs.Common.{◌≡◌, ℕ, ◌+◌, ◌-◌, ◌^◌, ◌≤◌, ◌⊎◌, Bool, List, [], ◌∷◌, ◌++◌, true, false, if◌then◌else◌, length, refl, subst}
use Rattle.std.specs.Prelude.{Option, None, Some, map, min}
use Rattle.std.specs.Option.{is_none, option_map, option_map_or}
use Rattle.hickory_proto_core.specs.declared.query.Query.{Query}
use Rattle.client_limits.specs.Counts.{CountsValue, added, admits, removed}
use Rattle.client_requests.specs.Keys.{key_eq, key_of}
use Rattle.client_requests.specs.Requests.{RequestValue}
use Rattle.client_requests.specs.declared.fetch_end.FetchEnd.{FetchEnd}
use Rattle.client_requests.specs.declared.fetch_end.FetchEnd.TheVariants.{Failure, Reply}
use Rattle.failure_replies.specs.declared.failure.FailureReason.{FailureReason}
use Rattle.failure_replies.specs.declared.failure.FailureReason.TheVariants as reason
use Rattle.kept_failures.specs.declared.failure.KeptFailure.{KeptFailure}
use Rattle.second_chance_cache.specs.Laws.{CacheEvent, after_event, stores}
use Rattle.second_chance_cache.specs.SecondChance.{CacheValue, told}
use Rattle.whole_lookups.specs.Lookups.{LookupValue, begun, heard, whole_with}
use Rattle.whole_lookups.specs.declared.heard.Heard.TheVariants.{Asks, Whole}
use Rattle.whole_lookups.specs.declared.choices.TheConstants.{MOST_QUESTIONS}
use Rattle.whole_replies.specs.Kept.{KeptValue, aged, kept_of, next_question}
use Rattle.stored_replies.specs.Key.{is_same_question}
use Rattle.stored_replies.specs.Stored.{StoredValue, elapsed, store_fault, stored_at}
use Rattle.stored_replies.specs.Told.{own_question}
use Rattle.yimarotu_forwarder.specs.NextQuestions.{asked_octets}
use Rattle.whole_lookups.specs.Lookups as whole
use Rattle.yimarotu_forwarder.specs.Cached.{CachedValue}
use Rattle.yimarotu_forwarder.specs.Fetches.{FetchValue, fetch_in}
use Rattle.yimarotu_forwarder.specs.Flushing.{entries_flushed}
use Rattle.yimarotu_forwarder.specs.Forwarders.{ChainEndValue, ForwarderValue, ReplyingValue}
use Rattle.yimarotu_forwarder.specs.Late.{late_replying, with_nobody}
use Rattle.yimarotu_forwarder.specs.Leaving.{counts_without_fetches, counts_without_replying, entry_without, replying_without}
use Rattle.yimarotu_forwarder.specs.Options.{OptionsValue}
use Rattle.yimarotu_forwarder.specs.Prefetching.{key_dnssec}
use Rattle.yimarotu_forwarder.specs.Replying.{end_of}
use Rattle.yimarotu_forwarder.specs.Telling.{as_told, earlier_second, replying_of}
use Rattle.yimarotu_forwarder.specs.declared.choices.TheConstants.{LONGEST_STALE}
use Rattle.yimarotu_forwarder_theorems.specs.Lookups.{HasOptions, IsHeard, IsKnown, LastsTo, Storing, ToldReply, stored_so}

abbrev pub Fetching : Type 0
Fetching = List (List ℕ × FetchValue)

abbrev pub Failures : Type 0
Failures = CacheValue (KeptFailure FailureReason)

pub record Core : Type 0 where
  pub options : OptionsValue
  pub cache : CacheValue CachedValue
  pub failures : Failures
  pub counts : CountsValue
  pub fetches : Fetching
  pub replying : Option ReplyingValue
  pub chain_end : Option ChainEndValue

abbrev pub core : ForwarderValue → Core
core s = record {
  options = s.options;
  cache = s.cache;
  failures = s.failures;
  counts = s.counts;
  fetches = s.fetches.fetches;
  replying = s.replying;
  chain_end = s.chain_end;
}

-- under this key is now this fetch, or none; the others stay
abbrev pub Puts : List ℕ → Option FetchValue → Fetching → Fetching → Type 0
Puts key held before after =
    (other : List ℕ) → fetch_in other after ≡ (if key_eq key other then held else fetch_in other before)

-- a whole reply that can be written is stored as it is
pub stored-at : (q : Query) (kept : KeptValue) (second : ℕ) (s : StoredValue) → end_of q kept second ≡ Reply s
    → s ≡ stored_at q kept second
stored-at q kept second s h = by (is_none (store_fault q kept)) h
  where
    by : (b : Bool) → (if b then Reply (stored_at q kept second) else Failure reason.Other) ≡ Reply s
        → s ≡ stored_at q kept second
    by true e = cc
    by false e = absurd cc

-- ---- changes in which nobody comes to wait, and nobody is replied to

-- what a step stands on: a reply that a look-up is told which has to ask this question, with DO or without; what is
-- known here of a question at a second; or the options at a second
pub data Source : Type 0 where
  told_reply : ToldReply → Query → Bool → Source
  known_here : Query → KeptValue → ℕ → Source
  options_at : OptionsValue → ℕ → Source

abbrev pub IsSaid : ForwarderValue → Source → Type 0
IsSaid b (told_reply r q dnssec) = IsHeard b r q dnssec
IsSaid b (known_here q here second) = IsKnown b q here second
IsSaid b (options_at options second) = HasOptions b options second

-- a look-up that begins under a key
abbrev pub IsBegun : List ℕ → LookupValue → Type 0
IsBegun key l = (q : Query) × (l ≡ begun q (key_dnssec key))

-- the same wait for it, and it is for the same question
pub record IsSame (f g : FetchValue) : Type 0 where
  pub waiting : g.waiting ≡ f.waiting
  pub asked : g.lookup.asked ≡ f.lookup.asked

-- a reply led it on to another question
pub record IsLed (said : Source → Type 0) (before after : FetchValue) : Type 0 where
  pub reply : ToldReply
  pub told : said (told_reply reply before.lookup.next before.lookup.dnssec)
  pub asks : heard reply.message before.lookup ≡ Asks
  pub led : after.lookup ≡ whole.after reply.message before.lookup
  pub since : after.heard ≡ Some (earlier_second before.heard reply.second)

-- a whole reply as it is stored
abbrev pub end_so : Query → KeptValue → Storing → FetchEnd
end_so q kept how = end_of q (as_told q.name how.options kept) how.second

-- what is kept of the question that a look-up has to ask, which few replies made, and what they made together
pub record EndsByKept (cache : CacheValue CachedValue) (l : LookupValue) (most now : ℕ) (cached : CachedValue)
    : Type 0 where
  pub key : List ℕ
  pub found : told key now cache.entries ≡ Some cached
  pub alike : key_dnssec key ≡ l.dnssec
  pub current : now ≤ cached.told_until
  pub same : is_same_question (asked_octets l.next) (own_question cached.reply) ≡ true
  pub few : l.count + cached.replies ≤ MOST_QUESTIONS + 1
  pub many : most ≡ min (l.count - 1 + cached.replies) (2 ^ 32 - 1)

-- What it came to, and how many replies made that, at the most: a failure; what a reply ended; what is known here of the
-- name that replies led to; or what is kept of that question.
pub data IsEndOf (said : Source → Type 0) (cache : CacheValue CachedValue) (f : FetchValue) (most : ℕ)
    (end : FetchEnd) : Type 0 where
  has_failed : (why : FailureReason) → end ≡ Failure why → IsEndOf said cache f most end
  has_heard : (r : ToldReply) (kept : KeptValue) → said (told_reply r f.lookup.next f.lookup.dnssec)
      → heard r.message f.lookup ≡ Whole kept → most ≡ f.lookup.count → (how : Storing)
      → said (options_at how.options r.second) → how.second ≡ earlier_second f.heard r.second
      → end ≡ end_so f.lookup.asked kept how → IsEndOf said cache f most end
  is_known : (here : KeptValue) (now : ℕ) → said (known_here f.lookup.next here now)
      → most ≡ min (f.lookup.count - 1 + 0) (2 ^ 32 - 1) → (how : Storing) → said (options_at how.options now)
      → how.second ≡ earlier_second f.heard now → end ≡ end_so f.lookup.asked (whole_with here f.lookup) how
      → IsEndOf said cache f most end
  is_kept : (now : ℕ) (cached : CachedValue) → EndsByKept cache f.lookup most now cached → (how : Storing)
      → said (options_at how.options now) → how.second ≡ earlier_second f.heard now
      → end ≡ end_so f.lookup.asked (whole_with (aged (elapsed cached.reply now) cached.reply.kept) f.lookup) how
      → IsEndOf said cache f most end

-- a reply ends a chain by itself
pub record IsChainEnd (said : Source → Type 0) (e : ChainEndValue) : Type 0 where
  pub reply : ToldReply
  pub question : Query
  pub told : said (told_reply reply question (key_dnssec e.key))
  pub kept : KeptValue
  pub keeps : kept_of question (key_dnssec e.key) reply.message ≡ Some kept
  pub ends : next_question question reply.message.message ≡ None
  pub how : Storing
  pub had : said (options_at how.options reply.second)
  pub since : how.second ≡ reply.second
  pub stored : e.reply ≡ stored_so question kept how

-- Only what those who waited were told of a look-up is stored, and the end of a chain, each for as long as it may be.
pub record StoresTold (c : Core) (key : List ℕ) (s : CachedValue) (r : ReplyingValue) : Type 0 where
  pub was : c.replying ≡ Some r
  pub own : key ≡ r.key
  pub end : r.end ≡ Reply s.reply
  pub many : s.replies ≡ r.replies

pub record StoresChainEnd (c : Core) (key : List ℕ) (s : CachedValue) (e : ChainEndValue) : Type 0 where
  pub was : c.chain_end ≡ Some e
  pub own : key ≡ e.key
  pub end : e.reply ≡ s.reply
  pub many : s.replies ≡ 1

abbrev pub StoresEnd : Core → CacheEvent CachedValue → Type 0
StoresEnd c (stores key s weight deadline now) =
    (((r : ReplyingValue) × StoresTold c key s r) ⊎ ((e : ChainEndValue) × StoresChainEnd c key s e))
    × LastsTo s.reply s.told_until × (deadline ≤ s.told_until + LONGEST_STALE)
StoresEnd c other = Unit {0}

-- where these replies may be heard
pub data Still (said : Source → Type 0) : Core → Core → Type 0 where
  cache_changes : (c d : Core) (event : CacheEvent CachedValue) → StoresEnd c event
      → d ≡ record c { cache = after_event c.cache event }
      → Still said c d
  failures_change : (c d : Core) (event : CacheEvent (KeptFailure FailureReason))
      → d ≡ record c { failures = after_event c.failures event } → Still said c d
  is_heard : (c d : Core) (key : List ℕ) (f g : FetchValue) → fetch_in key c.fetches ≡ Some f → IsSame f g
      → IsLed said f g → Puts key (Some g) c.fetches d.fetches → d ≡ record c { fetches = d.fetches }
      → Still said c d
  is_over : (c d : Core) (key : List ℕ) (end : FetchEnd) (f g : FetchValue) → c.replying ≡ None
      → fetch_in key c.fetches ≡ Some f → IsSame f g → IsEndOf said c.cache f g.lookup.count end
      → Puts key None c.fetches d.fetches
      → d ≡ record c { fetches = d.fetches; replying = Some (replying_of key end g) } → Still said c d
  is_told_late : (c d : Core) (key : List ℕ) (f : FetchValue) → c.replying ≡ None → fetch_in key c.fetches ≡ Some f
      → Puts key (Some (with_nobody f)) c.fetches d.fetches
      → d ≡ record c { fetches = d.fetches; replying = Some (late_replying key f) } → Still said c d
  is_let_go : (c d : Core) (r : ReplyingValue) → c.replying ≡ Some r → r.waiting ≡ []
      → d ≡ record c { replying = None } → Still said c d
  chain_ends : (c d : Core) (e : ChainEndValue) → IsChainEnd said e → d ≡ record c { chain_end = Some e }
      → Still said c d
  no_chain_ends : (c d : Core) → d ≡ record c { chain_end = None } → Still said c d
  is_flushed : (c d : Core) (labels : List (List ℕ)) (below : Bool)
      → d ≡ record c {
        cache = entries_flushed labels below c.cache;
        failures = entries_flushed labels below c.failures;
      } → Still said c d
  begins_alone : (c d : Core) (key : List ℕ) (f : FetchValue) → fetch_in key c.fetches ≡ None → f.waiting ≡ []
      → IsBegun key f.lookup → Puts key (Some f) c.fetches d.fetches → d ≡ record c { fetches = d.fetches } → Still said c d

-- one after another
pub data Stills (said : Source → Type 0) : Core → Core → Type 0 where
  as_before : (c d : Core) → d ≡ c → Stills said c d
  more : (c m d : Core) → Still said c m → Stills said m d → Stills said c d

-- ---- one comes to wait, and one is replied to

abbrev pub waiting_for : Option FetchValue → List RequestValue
waiting_for f = option_map_or (λ x. x.waiting) f []

-- the look-up is that of a fetch
abbrev pub IsThatOf : Option FetchValue → FetchValue → Type 0
IsThatOf held g = (f : FetchValue) × (held ≡ Some f) × (g.lookup ≡ f.lookup) × (g.heard ≡ f.heard)

pub record Joins (w : RequestValue) (c d : Core) : Type 0 where
  pub key : List ℕ
  pub own : key_of w ≡ key
  pub fetch : FetchValue
  pub puts : Puts key (Some fetch) c.fetches d.fetches
  pub others_are : d ≡ record c { counts = added w.client.address c.counts; fetches = d.fetches }
  pub admitted :
      admits c.options.limits w.client.address (length (waiting_for (fetch_in key c.fetches))) c.counts ≡ true
  pub waiting : fetch.waiting ≡ waiting_for (fetch_in key c.fetches) ++ w ∷ []
  pub lookup : IsBegun key fetch.lookup ⊎ IsThatOf (fetch_in key c.fetches) fetch

pub record Leaves (w : RequestValue) (c d : Core) : Type 0 where
  pub replying : ReplyingValue
  pub others : List RequestValue
  pub was : c.replying ≡ Some replying
  pub first : replying.waiting ≡ w ∷ others
  pub others_are : d ≡ record c {
    counts = removed w.client.address c.counts;
    replying = Some (record replying { waiting = others });
  }

-- a client is gone
abbrev pub left_by : ℕ → Core → Core
left_by client c = record c {
  counts = counts_without_replying client (counts_without_fetches client c.counts c.fetches) c.replying;
  fetches = map (entry_without client) c.fetches;
  replying = option_map (replying_without client) c.replying;
}

-- ---- one change after another

pub still-one : {said : Source → Type 0} (c d : Core) → Still said c d → Stills said c d
still-one c d s = more c d d s (as_before d d refl)

pub stills-then : {said : Source → Type 0} (c m d : Core) → Stills said c m → Stills said m d → Stills said c d
stills-then {said} c m d (as_before c' m' same) later = subst (λ (x : Core). Stills said x d) same later
stills-then c m d (more c' n m' first rest) later = more c n d first (stills-then n m d rest later)

-- no reply is heard, and nothing is known here
abbrev pub Nothing : Source → Type 0
Nothing x = ⊥

end-said : {said : Source → Type 0} (cache : CacheValue CachedValue) (f : FetchValue) (most : ℕ) (end : FetchEnd)
    → IsEndOf Nothing cache f most end → IsEndOf said cache f most end
end-said cache f most end (has_failed why is) = has_failed why is
end-said cache f most end (has_heard r kept told whole many how had since is) = absurd told
end-said cache f most end (is_known here now known many how had since is) = absurd known
end-said cache f most end (is_kept now cached by-kept how had since is) = absurd had

still-said : {said : Source → Type 0} (c d : Core) → Still Nothing c d → Still said c d
still-said c d (cache_changes c' d' event such e) = cache_changes c d event such e
still-said c d (failures_change c' d' event e) = failures_change c d event e
still-said c d (is_heard c' d' k f g found same led puts e) = absurd led.told
still-said c d (is_over c' d' k end f g none found same is puts e) =
    is_over c d k end f g none found same (end-said c.cache f g.lookup.count end is) puts e
still-said c d (is_told_late c' d' k f none found puts e) = is_told_late c d k f none found puts e
still-said c d (is_let_go c' d' r was none e) = is_let_go c d r was none e
still-said c d (chain_ends c' d' e is h) = absurd is.told
still-said c d (no_chain_ends c' d' h) = no_chain_ends c d h
still-said c d (is_flushed c' d' labels below e) = is_flushed c d labels below e
still-said c d (begins_alone c' d' k f none waits begins puts e) = begins_alone c d k f none waits begins puts e

pub stills-said : {said : Source → Type 0} (c d : Core) → Stills Nothing c d → Stills said c d
stills-said c d (as_before c' d' e) = as_before c d e
stills-said c d (more c' m d' first rest) = more c m d (still-said c m first) (stills-said m d rest)
