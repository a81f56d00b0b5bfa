-- What a step changes.
use Rattle.std.proofs.Common.{◌≡◌, ◌∙◌, ◌==◌, ◌+◌, ◌-◌, ◌^◌, ◌≤◌, ◌&&◌, ◌⊎◌, ℕ, inl, inr, Bool, true, false, List, [], ◌∷◌, drop, refl, sym, ap, subst, arith}
use Rattle.std.specs.Prelude.{Option, None, Some, MatchOption, min, nat_le, nat_lt, slice_get, if◌then◌else◌}
use Rattle.std.specs.Option.{is_none, option_and_then, option_map, option_map_or}
use Rattle.std.proofs.lemmas.Bool.{leb-true}
use Rattle.hickory_proto_core.specs.declared.query.Query.{Query}
use Rattle.hickory_proto_wire.specs.declared.wire_message.WireMessage.{WireMessage}
use Rattle.hickory_resolver_pool.specs.Over.{OverValue}
use Rattle.hickory_resolver_pool.specs.declared.pool.Action.{Action}
use Rattle.hickory_resolver_pool.specs.declared.pool.Action.TheVariants as does
use Rattle.hickory_resolver_pool.specs.declared.pool.Asked as pool_asked
use Rattle.hickory_resolver_pool.specs.declared.pool.Asked.TheVariants as asked
use Rattle.client_requests.specs.Requests.{RequestValue}
use Rattle.client_requests.specs.declared.fetch_end.FetchEnd.{FetchEnd}
use Rattle.client_requests.specs.declared.fetch_end.FetchEnd.TheVariants.{Reply, Failure}
use Rattle.failure_replies.specs.declared.failure.FailureReason.{FailureReason}
use Rattle.failure_replies.specs.declared.failure.FailureReason.TheVariants as reason
use Rattle.kept_failures.specs.Failures.{failure_behind, remembered_until}
use Rattle.kept_failures.specs.Failures as kept_failures
use Rattle.local_answers.specs.declared.local_data.Decision.{Decision}
use Rattle.local_answers.specs.declared.local_data.Decision.TheVariants as decision
use Rattle.second_chance_cache.specs.Laws.{asks, removes, stores}
use Rattle.second_chance_cache.specs.SecondChance.{Entry, stored, told, without}
use Rattle.stored_replies.specs.Key.{is_same_question}
use Rattle.stored_replies.specs.Stored.{StoredValue, elapsed, is_readable, weight_of}
use Rattle.stored_replies.specs.Told.{own_question}
use Rattle.whole_lookups.specs.Lookups as whole
use Rattle.whole_lookups.specs.Lookups.{LookupValue, after_of, gone_on, heard, may_go_on, outcome_of, whole_with}
use Rattle.whole_lookups.specs.declared.choices.TheConstants.{MOST_QUESTIONS}
use Rattle.whole_lookups.specs.declared.heard.Heard.{Heard}
use Rattle.whole_lookups.specs.declared.heard.Heard.TheVariants as heard_as
use Rattle.whole_replies.specs.Kept.{KeptValue, aged, kept_of, next_question}
use Rattle.yimarotu_forwarder.specs.Fetches.{FetchValue, asked_for, fetch_at}
use Rattle.yimarotu_forwarder.specs.Forwarders.{ChainEndValue, ForwarderValue, ReplyingValue, TellingValue, second_of}
use Rattle.yimarotu_forwarder.specs.Steps.{AsksBy, AsksFirst, AsksFor, AsksNext, AsksOr, AsksPool, EndsWith, ForwarderSteps, PrefetchesFirst, RepliesFirst, RepliesNext, RepliesTo, StepsPool, TellsFirst, TellsLateFirst, action_of, as_cached, asks_with, cached_until, has_turn, keeps_chain_end, keeps_end, lets_go, with_stored, without_chain_end, without_failure}
use Rattle.yimarotu_forwarder.specs.Local.{IsDecided}
use Rattle.yimarotu_forwarder.specs.Late.{TellsLate, TellsLateIf, TellsWaiting, TellsWaitingOf, first_due, is_told_late as is_late_key, passed_over}
use Rattle.yimarotu_forwarder.specs.LookingUp.{after_ask, pool_question, pool_says}
use Rattle.yimarotu_forwarder.specs.Cached.{CachedValue, if_told}
use Rattle.yimarotu_forwarder.specs.NextQuestions.{are_denied_alike, as_end, asked_octets, asked_where, ended_by, found_end, if_may_end, is_fresh_and_light, kept_under, may_end, next_key, with_asked_where}
use Rattle.yimarotu_forwarder.specs.Prefetching.{AsksLone, BeginsLoneBy, DecidesLone, Prefetches, PrefetchesWhere, key_dnssec, key_query, key_unchecked, lone_fetch, may_prefetch, without_prefetch}
use Rattle.yimarotu_forwarder.specs.Options.{OptionsValue}
use Rattle.yimarotu_forwarder.specs.Stale.{kept_until, told_end}
use Rattle.yimarotu_forwarder.specs.Telling.{EndsFetch, Finishes, Hears, Tells, TellsAsker, TellsFetch, TellsKey, TellsNext, as_told, chain_end_for, chain_end_in, chain_end_of, chain_end_with, counts_asker, earlier_second, ends_chain, failures_after, first_second, forgets_asker, heard_after, heard_so, is_noted, lookup_after, reason_of, response_of, told_of, whole_end, with_end}
use Rattle.yimarotu_forwarder.specs.declared.choices.TheConstants.{LONGEST_STALE}
use Rattle.yimarotu_forwarder.specs.declared.steps.ForwarderAction.{ForwarderAction}
use Rattle.yimarotu_forwarder.specs.declared.steps.ForwarderAction.TheVariants as act
use Rattle.yimarotu_forwarder_theorems.specs.Lookups.{IsKnown, LastsTo, Storing, ToldReply}
use Rattle.yimarotu_forwarder_theorems.proofs.Afters.{after-keeps}
use Rattle.yimarotu_forwarder_theorems.proofs.KeptValues.{told-asked-any}
use Rattle.yimarotu_forwarder_theorems.proofs.Keys.{next-dnssec}
use Rattle.yimarotu_forwarder_theorems.proofs.Cores.{Core, EndsByKept, IsChainEnd, IsEndOf, IsSaid, IsSame, Leaves, Source, Still, Stills, StoresChainEnd, StoresTold, as_before, begins_alone, cache_changes, chain_ends, core, end_so, failures_change, has_failed, has_heard, is_heard, is_kept, is_known, is_let_go, is_over, is_told_late, known_here, more, no_chain_ends, options_at, still-one, stills-then, stored-at, told_reply}

-- ---- lists

pub none-first : (ws : List RequestValue) → slice_get ws 0 ≡ None → ws ≡ []
none-first [] h = refl
none-first (w ∷ ws) h = absurd cc

some-first : (ws : List RequestValue) (w : RequestValue) → slice_get ws 0 ≡ Some w → ws ≡ w ∷ drop 1 ws
some-first [] w h = absurd cc
some-first (v ∷ ws) w h = let same : v ≡ w = cc in ap (λ (x : RequestValue). x ∷ ws) same

-- ---- truths

both-true : (a b : Bool) → (a && b) ≡ true → (a ≡ true) × (b ≡ true)
both-true true b h = (refl, h)
both-true false b h = absurd (let no : false ≡ true = h in cc)

all-true : (a b c : Bool) → (a && b && c) ≡ true → (a ≡ true) × (b ≡ true)
all-true true true c h = (refl, refl)
all-true true false c h = absurd (let no : false ≡ true = h in cc)
all-true false b c h = absurd (let no : false ≡ true = h in cc)

-- ---- a look-up is over

pub same-fetch : (f : FetchValue) → IsSame f f
same-fetch f = record { waiting = refl; asked = refl }

pub finishes : {said : Source → Type 0}
    (key : List ℕ) (end : FetchEnd) (f g : FetchValue) (b a : ForwarderValue) → b.replying ≡ None
    → fetch_at key b.fetches ≡ Some f → IsSame f g → IsEndOf said b.cache f g.lookup.count end
    → Finishes key end g b a
    → Still said (core b) (core a)
finishes {said} key end f g b a none found same is h =
    is_over (core b) (core a) key end f g none found same is h.ends.puts (ap core h.others_are)

-- so are the failures that are kept once it is noted
abbrev noting : List ℕ → FetchEnd → FetchValue → ForwarderValue → Core
noting key end f b =
    record (core b) { failures = failures_after key end f.began b.stalled (second_of b) b.failures }

noted : {said : Source → Type 0} (key : List ℕ) (why : FailureReason) (f : FetchValue) (b : ForwarderValue)
    → Stills said (core b) (noting key (Failure why) f b)
noted {said} key why f b = by (is_noted why f.began b.stalled)
  where
    by : (kept : Bool) → Stills said (core b) (record (core b) {
      failures =
          if kept then kept_failures.noted key why (second_of b) b.failures else b.failures;
    })
    by true =
        let one = failure_behind (told key (second_of b) b.failures.entries) why (second_of b) in
        still-one (core b) (record (core b) { failures = kept_failures.noted key why (second_of b) b.failures })
        (failures_change (core b)
        (record (core b) { failures = kept_failures.noted key why (second_of b) b.failures })
        (stores key one (kept_failures.weight_of key) (remembered_until one) (second_of b)) refl)
    by false = as_before (core b) (core b) refl

noted-by : {said : Source → Type 0}
    (key : List ℕ) (end : FetchEnd) (f : FetchValue) (b : ForwarderValue) → Stills said (core b) (noting key end f b)
noted-by {said} key (Reply s) f b =
    still-one (core b) (noting key (Reply s) f b)
    (failures_change (core b) (noting key (Reply s) f b) (removes key) refl)
noted-by {said} key (Failure why) f b = noted key why f b

end-noted : {said : Source → Type 0}
    (key : List ℕ) (end : FetchEnd) (f : FetchValue) (b : ForwarderValue)
    → Stills said (core b) (core (with_end key end f b))
end-noted {said} key end f b = by (f.generation == b.generation)
  where
    by : (same : Bool) → Stills said (core b) (record (core b) {
      failures = if same then failures_after key end f.began b.stalled (second_of b) b.failures else b.failures;
    })
    by true = noted-by key end f b
    by false = as_before (core b) (core b) refl

ends-fetch : {said : Source → Type 0}
    (key : List ℕ) (end : FetchEnd) (f g : FetchValue) (b a : ForwarderValue) → b.replying ≡ None
    → fetch_at key b.fetches ≡ Some f → IsSame f g → IsEndOf said b.cache f g.lookup.count end
    → EndsFetch key end g b a → Stills said (core b) (core a)
ends-fetch {said} key end f g b a none found same is h =
    stills-then (core b) (core (with_end key end g b)) (core a) (end-noted key end g b)
    (still-one (core (with_end key end g b)) (core a)
    (finishes key end f g (with_end key end g b) a none found same is h))

-- as what a look-up came to is stored
abbrev storing : FetchValue → ForwarderValue → Storing
storing f b = record { options = b.options; second = first_second f b }

-- ---- the end of a chain

abbrev led-to : FetchValue → Query
led-to f = f.lookup.next

-- as it is stored
abbrev keeping : FetchValue → ForwarderValue → Storing
keeping f b = record { options = b.options; second = second_of b }

-- a reply that is told now
abbrev pub told-now : OverValue → WireMessage → ForwarderValue → ToldReply
told-now over m b = record { message = m; question = over.question; second = second_of b }

abbrev pub SaysOptions : (Source → Type 0) → ForwarderValue → Type 0
SaysOptions said b = said (options_at b.options (second_of b))

-- the look-up for which an asker asks is told it
abbrev pub SaysTo : (Source → Type 0) → OverValue → ℕ → ForwarderValue → Type 0
SaysTo said over asker b =
    SaysOptions said b
    × ((key : List ℕ) (f : FetchValue) (m : WireMessage) → asked_for asker b.fetches ≡ Some key
    → fetch_at key b.fetches ≡ Some f → response_of over ≡ Some m
    → said (told_reply (told-now over m b) f.lookup.next f.lookup.dnssec))

-- the asker whose turn it is
abbrev pub SaysNext : (Source → Type 0) → TellingValue → ForwarderValue → Type 0
SaysNext said t b = (asker : ℕ) → slice_get t.over.askers t.told ≡ Some asker → SaysTo said t.over asker b

pub says-next : (t : TellingValue) (b : ForwarderValue) → b.telling ≡ Some t → SaysNext (IsSaid b) t b
says-next t b is asker turn = (
  (refl, refl),
  λ key f m own there told. record {
    telling = (t, is, told, refl, refl);
    asker = asker;
    has_turn = turn;
    key = key;
    asks_for = own;
    fetch = f;
    goes_on = there;
    question = refl;
    with_do = refl;
  },
)

no-next : (f : FetchValue) (m : WireMessage) (o : Option Query) → next_question (led-to f) m.message ≡ o
    → is_none o ≡ true → next_question (led-to f) m.message ≡ None
no-next f m None is none = is
no-next f m (Some q) is none = absurd cc

module _ {said : Source → Type 0} (over : OverValue) (b : ForwarderValue) (e : ChainEndValue) (f : FetchValue)
    (m : WireMessage) (had : SaysOptions said b)
    (told-so : said (told_reply (told-now over m b) f.lookup.next f.lookup.dnssec)) where
  with-key : (kept : KeptValue) → kept_of (led-to f) f.lookup.dnssec m ≡ Some kept
      → next_question (led-to f) m.message ≡ None → (key : Option (List ℕ)) → next_key f ≡ key → (end : FetchEnd)
      → end_so (led-to f) kept (keeping f b) ≡ end → chain_end_with key end f.generation ≡ Some e → IsChainEnd said e
  with-key kept keeps ends None own end is h = absurd cc
  with-key kept keeps ends (Some key) own (Failure why) is h = absurd cc
  with-key kept keeps ends (Some key) own (Reply r) is h =
      let same : r ≡ e.reply = cc in
      let same-key : key ≡ e.key = cc in
      let asks : key_dnssec e.key ≡ f.lookup.dnssec = next-dnssec f e.key (own ∙ ap Some same-key) in
      record {
        reply = told-now over m b;
        question = led-to f;
        told = subst (λ (d : Bool). said (told_reply (told-now over m b) (led-to f) d)) (sym asks) told-so;
        kept = kept;
        keeps = ap (λ (d : Bool). kept_of (led-to f) d m) asks ∙ keeps;
        ends = ends;
        how = keeping f b;
        had = had;
        since = refl;
        stored = sym same
            ∙ stored-at (led-to f) (as_told (led-to f).name b.options kept) (second_of b) r is;
      }

  of-kept : (k : Option KeptValue) → kept_of (led-to f) f.lookup.dnssec m ≡ k → next_question (led-to f) m.message ≡ None
      → option_and_then (chain_end_of f b) k ≡ Some e → IsChainEnd said e
  of-kept None keeps ends h = absurd cc
  of-kept (Some kept) keeps ends h =
      with-key kept keeps ends (next_key f) refl (end_so (led-to f) kept (keeping f b)) refl h

  in-chain : (ends : Bool) → ends_chain f m ≡ ends
      → (if ends then option_and_then (chain_end_of f b) (kept_of (led-to f) f.lookup.dnssec m) else None) ≡ Some e
      → IsChainEnd said e
  in-chain false is h = absurd cc
  in-chain true is h =
      let none = both-true (nat_lt 1 f.lookup.count) (is_none (next_question (led-to f) m.message)) is in
      of-kept (kept_of (led-to f) f.lookup.dnssec m) refl (no-next f m (next_question (led-to f) m.message) refl none.1) h

is-chain-end : {said : Source → Type 0} (over : OverValue) (asker : ℕ) (b : ForwarderValue) (e : ChainEndValue)
    → SaysTo said over asker b → chain_end_for over asker b ≡ Some e → IsChainEnd said e
is-chain-end {said} over asker b e says h = by (response_of over) refl h
  where
    by-fetch : (m : WireMessage) → response_of over ≡ Some m → (key : List ℕ) → asked_for asker b.fetches ≡ Some key
        → (o : Option FetchValue) → fetch_at key b.fetches ≡ o
        → option_and_then (λ f. chain_end_in f b m) o ≡ Some e → IsChainEnd said e
    by-fetch m is key own None there h = absurd cc
    by-fetch m is key own (Some f) there h =
        in-chain over b e f m says.0 (says.1 key f m own there is) (ends_chain f m) refl h

    by-key : (m : WireMessage) → response_of over ≡ Some m → (o : Option (List ℕ)) → asked_for asker b.fetches ≡ o
        → option_and_then (λ key. option_and_then (λ f. chain_end_in f b m) (fetch_at key b.fetches)) o ≡ Some e
        → IsChainEnd said e
    by-key m is None own h = absurd cc
    by-key m is (Some key) own h = by-fetch m is key own (fetch_at key b.fetches) refl h

    by : (o : Option WireMessage) → response_of over ≡ o
        → option_and_then (λ m. option_and_then (λ key. option_and_then (λ f. chain_end_in f b m)
        (fetch_at key b.fetches)) (asked_for asker b.fetches)) o ≡ Some e → IsChainEnd said e
    by None is h = absurd cc
    by (Some m) is h = by-key m is (asked_for asker b.fetches) refl h

-- it is noted, with the asker
pub counts-asker : {said : Source → Type 0} (t : TellingValue) (asker : ℕ) (b : ForwarderValue)
    → SaysTo said t.over asker b → Still said (core b) (core (counts_asker t asker b))
counts-asker {said} t asker b says = by (chain_end_for t.over asker b) refl
  where
    by : (o : Option ChainEndValue) → chain_end_for t.over asker b ≡ o
        → Still said (core b) (record (core b) { chain_end = o })
    by None is = no_chain_ends (core b) (record (core b) { chain_end = None }) refl
    by (Some e) is =
        chain_ends (core b) (record (core b) { chain_end = Some e }) e (is-chain-end t.over asker b e says is) refl

-- ---- an asker is told

after-asked : (m : WireMessage) (l : LookupValue) → (whole.after m l).asked ≡ l.asked
after-asked m l = after-keeps (λ (x : LookupValue). x.asked) m l (λ k. refl) (λ k q. refl)

-- a whole reply asks no question more
whole-count : (m : WireMessage) (l : LookupValue) (kept : KeptValue) → heard m l ≡ heard_as.Whole kept
    → (whole.after m l).count ≡ l.count
whole-count m l kept is = by (kept_of l.next l.dnssec m) (next_question l.next m.message) is
  where
    going : (k : KeptValue) (next : Query) (b : Bool)
        → (if b then heard_as.Asks else heard_as.Fails) ≡ heard_as.Whole kept
        → (if b then gone_on k next l else l).count ≡ l.count
    going k next true is = absurd cc
    going k next false is = refl

    by : (k : Option KeptValue) (next : Option Query) → outcome_of k next l ≡ heard_as.Whole kept
        → (after_of k next l).count ≡ l.count
    by None next is = refl
    by (Some k) None is = refl
    by (Some k) (Some next) is = going k next (may_go_on l) is

pub heard-same : (over : OverValue) (second : ℕ) (f : FetchValue) → IsSame f (heard_so over second f)
heard-same over second f = record { waiting = refl; asked = by (response_of over) }
  where
    by : (o : Option WireMessage) → (option_map_or (λ m. whole.after m f.lookup) o f.lookup).asked ≡ f.lookup.asked
    by None = refl
    by (Some m) = after-asked m f.lookup

-- by what the reply is
hears-so : {said : Source → Type 0}
    (over : OverValue) (key : List ℕ) (f g : FetchValue) (b a : ForwarderValue) → b.replying ≡ None
    → fetch_at key b.fetches ≡ Some f → IsSame f g → g.lookup ≡ lookup_after over f
    → g.heard ≡ heard_after (told_of over f) (second_of b) f.heard → SaysOptions said b
    → ((m : WireMessage) → response_of over ≡ Some m
    → said (told_reply (told-now over m b) f.lookup.next f.lookup.dnssec))
    → Hears (told_of over f) key g b a → Stills said (core b) (core a)
hears-so {said} over key f g b a none found same led since had says h = by (response_of over) refl
  where
    after-reply : (m : WireMessage) → response_of over ≡ Some m → lookup_after over f ≡ whole.after m f.lookup
    after-reply m is = ap (λ (o : Option WireMessage). option_map_or (λ x. whole.after x f.lookup) o f.lookup) is

    by-heard : (m : WireMessage) → response_of over ≡ Some m → (what : Heard) → heard m f.lookup ≡ what
        → Stills said (core b) (core a)
    by-heard m is heard_as.Asks how =
        let asks = rw (is, how) at h in
        still-one (core b) (core a)
        (is_heard (core b) (core a) key f g found same
        (record {
          reply = told-now over m b;
          told = says m is;
          asks = how;
          led = led ∙ after-reply m is;
          since = rw (is, how) at since;
        }) asks.0.puts
        (ap core asks.1))
    by-heard m is (heard_as.Whole kept) how =
        let ends = rw (is, how) at h in
        let first : g.heard ≡ f.heard = rw (is, how) at since in
        ends-fetch key (whole_end kept g b) f g b a none found same
        (has_heard (told-now over m b) kept (says m is) how
        (ap (λ (l : LookupValue). l.count) (led ∙ after-reply m is) ∙ whole-count m f.lookup kept how)
        (storing g b) had (ap (λ (o : Option ℕ). earlier_second o (second_of b)) first)
        (ap (λ (q : Query). end_so q kept (storing g b)) same.asked))
        ends
    by-heard m is heard_as.Fails how =
        let ends = rw (is, how) at h in
        ends-fetch key (Failure reason.Other) f g b a none found same (has_failed reason.Other refl) ends

    by : (o : Option WireMessage) → response_of over ≡ o → Stills said (core b) (core a)
    by None is =
        let ends = rw is at h in
        ends-fetch key (Failure (reason_of over.outcome)) f g b a none found same
        (has_failed (reason_of over.outcome) refl) ends
    by (Some m) is = by-heard m is (heard m f.lookup) refl

tells-asker : {said : Source → Type 0} (over : OverValue) (asker : ℕ) (b a : ForwarderValue) → b.replying ≡ None
    → SaysTo said over asker b → TellsAsker over asker b a → Stills said (core b) (core a)
tells-asker {said} over asker b a none says h = by (asked_for asker b.fetches) refl h
  where
    by-key : (key : List ℕ) → asked_for asker b.fetches ≡ Some key → (o : Option FetchValue)
        → fetch_at key b.fetches ≡ o
        → MatchOption o (a ≡ forgets_asker asker b) (TellsFetch over key (forgets_asker asker b) a)
        → Stills said (core b) (core a)
    by-key key own None is h = as_before (core b) (core a) (ap core h)
    by-key key own (Some f) is h =
        hears-so over key f (heard_so over (second_of b) f) (forgets_asker asker b) a none is
        (heard-same over (second_of b) f) refl refl says.0 (λ m told. says.1 key f m own is told) h

    by : (o : Option (List ℕ)) → asked_for asker b.fetches ≡ o → MatchOption o (a ≡ b) (TellsKey over asker b a)
        → Stills said (core b) (core a)
    by None own h = as_before (core b) (core a) (ap core h)
    by (Some key) own h = by-key key own (fetch_at key b.fetches) refl h

tells : {said : Source → Type 0} (t : TellingValue) (b a : ForwarderValue) → b.replying ≡ None → SaysNext said t b
    → Tells b a t → Stills said (core b) (core a)
tells {said} t b a none says h = by (slice_get t.over.askers t.told) refl h
  where
    by : (o : Option ℕ) → slice_get t.over.askers t.told ≡ o
        → MatchOption o (a ≡ record b { telling = None }) (TellsNext t b a) → Stills said (core b) (core a)
    by None turn h = as_before (core b) (core a) (ap core h)
    by (Some asker) turn h =
        let counted = counts_asker t asker b in
        more (core b) (core counted) (core a) (counts-asker t asker b (says asker turn))
        (tells-asker t.over asker counted a none (says asker turn) h)

-- ---- a fetch asks its question

-- what is kept of it, which may be put behind what came
ends-by-kept : (f : FetchValue) (b : ForwarderValue) (cached : CachedValue) → found_end f b ≡ Some cached
    → EndsByKept b.cache f.lookup (min (f.lookup.count - 1 + cached.replies) (2 ^ 32 - 1)) (second_of b) cached
ends-by-kept f b cached h = by-key (next_key f) refl h
  where
    may : (x : CachedValue) (key : List ℕ) → next_key f ≡ Some key → told key (second_of b) b.cache.entries ≡ Some x
        → nat_le (second_of b) x.told_until ≡ true → (ok : Bool) → may_end f b x ≡ ok → (if ok then Some x else None) ≡ Some cached
        → EndsByKept b.cache f.lookup (min (f.lookup.count - 1 + cached.replies) (2 ^ 32 - 1)) (second_of b) cached
    may x key own found current false is h = absurd cc
    may x key own found current true is h =
        let same : x ≡ cached = cc in
        let alike = is_same_question (asked_octets f.lookup.next) (own_question x.reply) in
        let few = nat_le (f.lookup.count + x.replies) (MOST_QUESTIONS + 1) in
        let parts = all-true alike few (are_denied_alike f b.options && is_fresh_and_light b x) is in
        subst (λ (y : CachedValue).
        EndsByKept b.cache f.lookup (min (f.lookup.count - 1 + y.replies) (2 ^ 32 - 1)) (second_of b) y) same (record {
          key = key;
          found = found;
          alike = next-dnssec f key own;
          current = leb-true (second_of b) x.told_until current;
          same = parts.0;
          few = leb-true (f.lookup.count + x.replies) (MOST_QUESTIONS + 1) parts.1;
          many = refl;
        })

    by-told : (x : CachedValue) (key : List ℕ) → next_key f ≡ Some key → told key (second_of b) b.cache.entries ≡ Some x → (current : Bool)
        → nat_le (second_of b) x.told_until ≡ current → option_and_then (if_may_end f b) (if current then Some x else None) ≡ Some cached
        → EndsByKept b.cache f.lookup (min (f.lookup.count - 1 + cached.replies) (2 ^ 32 - 1)) (second_of b) cached
    by-told x key own found false is h = absurd cc
    by-told x key own found true is h = may x key own found is (may_end f b x) refl h

    by-entry : (key : List ℕ) → next_key f ≡ Some key → (o : Option CachedValue) → told key (second_of b) b.cache.entries ≡ o
        → option_and_then (if_may_end f b) (option_and_then (if_told (second_of b)) o) ≡ Some cached
        → EndsByKept b.cache f.lookup (min (f.lookup.count - 1 + cached.replies) (2 ^ 32 - 1)) (second_of b) cached
    by-entry key own None found h = absurd cc
    by-entry key own (Some x) found h = by-told x key own found (nat_le (second_of b) x.told_until) refl h

    by-key : (o : Option (List ℕ)) → next_key f ≡ o
        → option_and_then (if_may_end f b) (option_and_then (kept_under b) o) ≡ Some cached
        → EndsByKept b.cache f.lookup (min (f.lookup.count - 1 + cached.replies) (2 ^ 32 - 1)) (second_of b) cached
    by-key None own h = absurd cc
    by-key (Some key) own h = by-entry key own (told key (second_of b) b.cache.entries) refl h

-- that counts as asked for again
marks : {said : Source → Type 0} (key : Option (List ℕ)) (b : ForwarderValue)
    → Stills said (core b) (core (with_asked_where key b))
marks {said} None b = as_before (core b) (core b) refl
marks {said} (Some key) b =
    still-one (core b) (core (with_asked_where (Some key) b))
    (cache_changes (core b) (core (with_asked_where (Some key) b)) (asks key (second_of b)) tt refl)

-- and is told as before
told-where : (where-key : Option (List ℕ)) (key : List ℕ) (now : ℕ) (es : List (Entry CachedValue))
    → told key now (asked_where where-key now es) ≡ told key now es
told-where None key now es = refl
told-where (Some other) key now es = told-asked-any key now other es

ends-by-marked : (f : FetchValue) (b : ForwarderValue) (cached : CachedValue) → found_end f b ≡ Some cached
    → EndsByKept (with_asked_where (next_key f) b).cache f.lookup
    (min (f.lookup.count - 1 + cached.replies) (2 ^ 32 - 1)) (second_of b) cached
ends-by-marked f b cached is =
    let kept = ends-by-kept f b cached is in
    record {
      key = kept.key;
      found = told-where (next_key f) kept.key (second_of b) b.cache.entries ∙ kept.found;
      alike = kept.alike;
      current = kept.current;
      same = kept.same;
      few = kept.few;
      many = kept.many;
    }

asks-by : {said : Source → Type 0}
    (what : pool_asked.Asked) (key : List ℕ) (f : FetchValue) (b a : ForwarderValue) → b.replying ≡ None
    → fetch_at key b.fetches ≡ Some f → AsksBy what key f b a → Stills said (core b) (core a)
asks-by {said} (asked.Asker x) key f b a none found h = as_before (core b) (core a) (ap core h)
asks-by {said} asked.Overloaded key f b a none found h =
    still-one (core b) (core a) (finishes key (Failure reason.NotReady) f f b a none found (same-fetch f)
    (has_failed reason.NotReady refl) h)
asks-by {said} asked.NoServers key f b a none found h =
    still-one (core b) (core a) (finishes key (Failure reason.NoReachableAuthority) f f b a none found (same-fetch f)
    (has_failed reason.NoReachableAuthority refl) h)

asks-or : {said : Source → Type 0}
    (what : Decision) (key : List ℕ) (f : FetchValue) (b a : ForwarderValue) → b.replying ≡ None
    → fetch_at key b.fetches ≡ Some f → SaysOptions said b
    → ((here : KeptValue) → what ≡ decision.Answer here → said (known_here f.lookup.next here (second_of b)))
    → AsksOr what key f b a → Stills said (core b) (core a)
asks-or {said} (decision.Answer kept) key f b a none found had knows h =
    ends-fetch key (whole_end (whole_with kept f.lookup) f b) f (ended_by 0 f) b a none found
    (record { waiting = refl; asked = refl })
    (is_known kept (second_of b) (knows kept refl) refl (storing f b) had refl refl) h
asks-or {said} (decision.Ask group) key f b a none found had knows h = by (found_end f b) refl h
  where
    asks : AsksPool group key f b a → Stills said (core b) (core a)
    asks h = asks-by (pool_says group (asks_with f b) b) key f (after_ask group (asks_with f b) b) a none found h

    by-read : (cached : CachedValue) → found_end f b ≡ Some cached → (readable : Bool)
        → MatchOption (option_map {U = KeptValue × ℕ} (λ kept. (kept, cached.replies))
        (if readable then Some (aged (elapsed cached.reply (second_of b)) cached.reply.kept) else None))
        (AsksPool group key f b a) (λ end. EndsWith key end.0 end.1 f (with_asked_where (next_key f) b) a)
        → Stills said (core b) (core a)
    by-read cached is false h = asks h
    by-read cached is true h =
        let here = aged (elapsed cached.reply (second_of b)) cached.reply.kept in
        let marked = with_asked_where (next_key f) b in
        stills-then (core b) (core marked) (core a) (marks (next_key f) b)
        (ends-fetch key (whole_end (whole_with here f.lookup) f b) f (ended_by cached.replies f) marked a none
        found (record { waiting = refl; asked = refl })
        (is_kept (second_of b) cached (ends-by-marked f b cached is) (storing f b) had refl refl) h)

    by : (o : Option CachedValue) → found_end f b ≡ o
        → MatchOption (option_and_then (as_end b) o) (AsksPool group key f b a)
        (λ end. EndsWith key end.0 end.1 f (with_asked_where (next_key f) b) a) → Stills said (core b) (core a)
    by None is h = asks h
    by (Some cached) is h = by-read cached is (is_readable cached.reply) h

asks-for : (key : List ℕ) (b a : ForwarderValue) → b.replying ≡ None → AsksFor b a key
    → Stills (IsSaid b) (core b) (core a)
asks-for key b a none h = by (fetch_at key b.fetches) refl h
  where
    knows : (f : FetchValue) (what : Decision) → IsDecided b.local f.lookup.next (second_of b) what
        → (here : KeptValue) → what ≡ decision.Answer here → IsKnown b f.lookup.next here (second_of b)
    knows f what decided here is =
        (refl, subst (λ (x : Decision). IsDecided b.local f.lookup.next (second_of b) x) is decided)

    by : (o : Option FetchValue) → fetch_at key b.fetches ≡ o
        → MatchOption o (a ≡ has_turn b) (AsksNext key (has_turn b) a) → Stills (IsSaid b) (core b) (core a)
    by None is h = as_before (core b) (core a) (ap core h)
    by (Some f) is h = asks-or h.found key f (has_turn b) a none is (refl, refl) (knows f h.found h.decided) h.asks

-- ---- a reply

lasts : (s : StoredValue) (b : ForwarderValue) → LastsTo s (cached_until s b)
lasts s b = omega arith

a-day : (o : OptionsValue) (until : ℕ) → kept_until o until ≤ until + LONGEST_STALE
a-day o until = omega arith

-- a reply is stored, or what was kept before it goes
stores-or-drops : {said : Source → Type 0} (key : List ℕ) (s : StoredValue) (replies : ℕ) (b : ForwarderValue)
    → ((r : ReplyingValue) × StoresTold (core b) key (as_cached s replies b) r)
    ⊎ ((e : ChainEndValue) × StoresChainEnd (core b) key (as_cached s replies b) e)
    → Still said (core b) (core (with_stored key s replies b))
stores-or-drops {said} key s replies b such = by (nat_lt (second_of b) (cached_until s b))
  where
    deadline : ℕ
    deadline = kept_until b.options (cached_until s b)

    by : (kept : Bool) → Still said (core b) (record (core b) {
      cache =
          if kept then stored key (as_cached s replies b) (weight_of s) deadline (second_of b) b.cache
          else record b.cache { entries = without key b.cache.entries };
    })
    by true =
        cache_changes (core b) (record (core b) {
          cache = stored key (as_cached s replies b) (weight_of s) deadline (second_of b) b.cache;
        }) (stores key (as_cached s replies b) (weight_of s) deadline (second_of b))
        (such, lasts s b, a-day b.options (cached_until s b)) refl
    by false =
        cache_changes (core b)
        (record (core b) { cache = record b.cache { entries = without key b.cache.entries } }) (removes key) tt refl

-- a reply is stored, and then let go
let-go-by : {said : Source → Type 0}
    (same : Bool) (end : FetchEnd) (r : ReplyingValue) (b : ForwarderValue) → b.replying ≡ Some r
    → r.waiting ≡ [] → r.end ≡ end
    → Stills said (core b)
    (core (if same then keeps_end r.key end r.replies (record b { replying = None }) else record b { replying = None }))
let-go-by {said} true (Reply s) r b was none is =
    let gone = record b { replying = None } in
    let kept = core (with_stored r.key s r.replies b) in
    more (core b) kept (core (with_stored r.key s r.replies gone))
    (stores-or-drops r.key s r.replies b (inl (r, record { was = was; own = refl; end = is; many = refl })))
    (still-one kept (core (with_stored r.key s r.replies gone))
    (is_let_go kept (core (with_stored r.key s r.replies gone)) r was none refl))
let-go-by {said} true (Failure why) r b was none is =
    still-one (core b) (core (record b { replying = None }))
    (is_let_go (core b) (core (record b { replying = None })) r was none refl)
let-go-by {said} false end r b was none is =
    still-one (core b) (core (record b { replying = None }))
    (is_let_go (core b) (core (record b { replying = None })) r was none refl)

let-go : {said : Source → Type 0}
    (r : ReplyingValue) (b a : ForwarderValue) → b.replying ≡ Some r → r.waiting ≡ [] → a ≡ lets_go r b
    → Stills said (core b) (core a)
let-go {said} r b a was none h =
    subst (λ (x : ForwarderValue). Stills said (core b) (core x)) (sym h)
    (let-go-by (r.generation == b.generation) r.end r b was none refl)

-- the end of a chain is stored, and then let go
keeps-end-by : {said : Source → Type 0} (same : Bool) (e : ChainEndValue) (b : ForwarderValue)
    → b.chain_end ≡ Some e
    → Stills said (core b)
    (core (if same then without_failure e.key (with_stored e.key e.reply 1 (without_chain_end b))
    else without_chain_end b))
keeps-end-by {said} true e b was =
    let kept = core (with_stored e.key e.reply 1 b) in
    let let-go = core (with_stored e.key e.reply 1 (without_chain_end b)) in
    let gone = core (without_failure e.key (with_stored e.key e.reply 1 (without_chain_end b))) in
    more (core b) kept gone
    (stores-or-drops e.key e.reply 1 b (inr (e, record { was = was; own = refl; end = refl; many = refl })))
    (more kept let-go gone (no_chain_ends kept let-go refl)
    (still-one let-go gone (failures_change let-go gone (removes e.key) refl)))
keeps-end-by {said} false e b was =
    still-one (core b) (core (without_chain_end b)) (no_chain_ends (core b) (core (without_chain_end b)) refl)

keeps-chain-end : {said : Source → Type 0} (e : ChainEndValue) (b a : ForwarderValue) → b.chain_end ≡ Some e
    → a ≡ keeps_chain_end e (without_chain_end b) → Stills said (core b) (core a)
keeps-chain-end {said} e b a was h =
    subst (λ (x : ForwarderValue). Stills said (core b) (core x)) (sym h)
    (keeps-end-by (e.generation == b.generation) e b was)

-- ---- a step

abbrev pub IsReply : Option ForwarderAction → Type 0
IsReply (Some (act.Reply client)) = Unit {0}
IsReply other = ⊥

-- It replies to nobody, or to the first who waits.
pub data StepMoves (before after : ForwarderValue) (action : Option ForwarderAction) : Type 0 where
  step_stays : (IsReply action → ⊥) → Stills (IsSaid before) (core before) (core after) → StepMoves before after action
  step_replies : (w : RequestValue) (leaves : Leaves w (core before) (core after))
      → action ≡ Some (act.Reply w.client.number)
      → after.reply ≡ told_end w leaves.replying.key leaves.replying.end before
      → StepMoves before after action

continues : (action : Option ForwarderAction) → action ≡ Some act.Continue → IsReply action → ⊥
continues action is reply = subst IsReply is reply

no-reply-of-pool : (did : Option Action) → IsReply (action_of did) → ⊥
no-reply-of-pool None reply = reply
no-reply-of-pool (Some (does.Open opening)) reply = reply
no-reply-of-pool (Some (does.Send sent)) reply = reply
no-reply-of-pool (Some (does.Close channel)) reply = reply
no-reply-of-pool (Some (does.Over over)) reply = reply
no-reply-of-pool (Some does.Continue) reply = reply

steps-pool : (b a : ForwarderValue) (action : Option ForwarderAction) → StepsPool b action a → StepMoves b a action
steps-pool b a action h =
    step_stays (λ reply. no-reply-of-pool h.did (subst IsReply h.action_is reply))
    (as_before (core b) (core a) (ap core h.others_are))

-- ---- what is looked up anew

lone : {said : Source → Type 0}
    (what : pool_asked.Asked) (q : Query) (key : List ℕ) (b a : ForwarderValue) → fetch_at key b.fetches ≡ None
    → BeginsLoneBy what q key b a → Stills said (core b) (core a)
lone {said} (asked.Asker x) q key b a none h =
    still-one (core b) (core a)
    (begins_alone (core b) (core a) key (lone_fetch q key b.generation b.clock) none refl (q, refl)
    h.begins.puts (ap core h.others_are))
lone {said} asked.Overloaded q key b a none h = as_before (core b) (core a) (ap core h)
lone {said} asked.NoServers q key b a none h = as_before (core b) (core a) (ap core h)

lone-or : {said : Source → Type 0}
    (what : Decision) (q : Query) (key : List ℕ) (b a : ForwarderValue) → fetch_at key b.fetches ≡ None
    → AsksLone what q key b a → Stills said (core b) (core a)
lone-or {said} (decision.Answer kept) q key b a none h = as_before (core b) (core a) (ap core h)
lone-or {said} (decision.Ask group) q key b a none h =
    let question = pool_question q (key_dnssec key) (key_unchecked key) b in
    lone (pool_says group question b) q key (after_ask group question b) a none h

prefetches : {said : Source → Type 0}
    (key : List ℕ) (b a : ForwarderValue) → Prefetches b a key → Stills said (core b) (core a)
prefetches {said} key b a h = by (fetch_at key b.fetches) refl h
  where
    by-query : (o : Option Query) → fetch_at key b.fetches ≡ None
        → MatchOption o (a ≡ without_prefetch b) (DecidesLone key (without_prefetch b) a) → Stills said (core b) (core a)
    by-query None none h = as_before (core b) (core a) (ap core h)
    by-query (Some q) none h = lone-or h.found q key (without_prefetch b) a none h.asks

    where-may : (may : Bool) → fetch_at key b.fetches ≡ None → PrefetchesWhere may key (without_prefetch b) a
        → Stills said (core b) (core a)
    where-may true none h = by-query (key_query key) none h
    where-may false none h = as_before (core b) (core a) (ap core h)

    by : (o : Option FetchValue) → fetch_at key b.fetches ≡ o
        → MatchOption o
        (PrefetchesWhere (may_prefetch key (without_prefetch b)) key (without_prefetch b) a)
        (λ f. a ≡ without_prefetch b)
        → Stills said (core b) (core a)
    by None is h = where-may (may_prefetch key (without_prefetch b)) is h
    by (Some f) is h = as_before (core b) (core a) (ap core h)

-- ---- who waits for a look-up that is late

tells-waiting : {said : Source → Type 0}
    (key : List ℕ) (b a : ForwarderValue) → b.replying ≡ None → TellsWaitingOf key b a → Stills said (core b) (core a)
tells-waiting {said} key b a none h = by (fetch_at key b.fetches) refl h
  where
    by : (o : Option FetchValue) → fetch_at key b.fetches ≡ o → MatchOption o (a ≡ b) (TellsWaiting key b a)
        → Stills said (core b) (core a)
    by None is h = as_before (core b) (core a) (ap core h)
    by (Some f) is h =
        still-one (core b) (core a) (is_told_late (core b) (core a) key f none is h.holds.puts (ap core h.others_are))

tells-late : {said : Source → Type 0}
    (key : List ℕ) (b a : ForwarderValue) → b.replying ≡ None → TellsLate b a key → Stills said (core b) (core a)
tells-late {said} key b a none h = by (is_late_key key b) h
  where
    by : (told : Bool) → TellsLateIf told key (passed_over b) a → Stills said (core b) (core a)
    by true h = tells-waiting key (passed_over b) a none h
    by false h = as_before (core b) (core a) (ap core h)

tells-late-first : (b a : ForwarderValue) (action : Option ForwarderAction) → b.replying ≡ None
    → TellsLateFirst b action a → StepMoves b a action
tells-late-first b a action none h = by (first_due b) h
  where
    by : (o : Option (List ℕ))
        → MatchOption o (StepsPool b action a) (λ key. (action ≡ Some act.Continue) × TellsLate b a key)
        → StepMoves b a action
    by None h = steps-pool b a action h
    by (Some key) h = step_stays (continues action h.0) (tells-late key b a none h.1)

prefetches-first : (b a : ForwarderValue) (action : Option ForwarderAction) → b.replying ≡ None
    → PrefetchesFirst b action a → StepMoves b a action
prefetches-first b a action none h = by b.prefetch h
  where
    by : (o : Option (List ℕ))
        → MatchOption o (TellsLateFirst b action a) (λ key. (action ≡ Some act.Continue) × Prefetches b a key)
        → StepMoves b a action
    by None h = tells-late-first b a action none h
    by (Some key) h = step_stays (continues action h.0) (prefetches key b a h.1)

tells-first : (b a : ForwarderValue) (action : Option ForwarderAction) → b.replying ≡ None → TellsFirst b action a
    → StepMoves b a action
tells-first b a action none h = by b.telling refl h
  where
    by : (o : Option TellingValue) → b.telling ≡ o
        → MatchOption o (PrefetchesFirst b action a) (λ t. (action ≡ Some act.Continue) × Tells b a t)
        → StepMoves b a action
    by None is h = prefetches-first b a action none h
    by (Some t) is h = step_stays (continues action h.0) (tells t b a none (says-next t b is) h.1)

asks-first : (b a : ForwarderValue) (action : Option ForwarderAction) → b.replying ≡ None → AsksFirst b action a
    → StepMoves b a action
asks-first b a action none h = by (slice_get b.fetches.to_ask 0) h
  where
    by : (o : Option (List ℕ))
        → MatchOption o (TellsFirst b action a) (λ key. (action ≡ Some act.Continue) × AsksFor b a key)
        → StepMoves b a action
    by None h = tells-first b a action none h
    by (Some key) h = step_stays (continues action h.0) (asks-for key b a none h.1)

replies-to : (r : ReplyingValue) (w : RequestValue) (b a : ForwarderValue) (action : Option ForwarderAction)
    → b.replying ≡ Some r → slice_get r.waiting 0 ≡ Some w → RepliesTo r b action a w → StepMoves b a action
replies-to r w b a action is first h =
    step_replies w (record {
      replying = r;
      others = drop 1 r.waiting;
      was = is;
      first = some-first r.waiting w first;
      others_are = ap core h.1;
    }) h.0 (ap (λ (x : ForwarderValue). x.reply) h.1)

replies-first : (b a : ForwarderValue) (action : Option ForwarderAction) → RepliesFirst b action a
    → StepMoves b a action
replies-first b a action h = by b.replying refl h
  where
    next : (r : ReplyingValue) → b.replying ≡ Some r → (o : Option RequestValue) → slice_get r.waiting 0 ≡ o
        → MatchOption o ((action ≡ Some act.Continue) × (a ≡ lets_go r b)) (RepliesTo r b action a)
        → StepMoves b a action
    next r is None first h = step_stays (continues action h.0) (let-go r b a is (none-first r.waiting first) h.1)
    next r is (Some w) first h = replies-to r w b a action is first h

    by : (o : Option ReplyingValue) → b.replying ≡ o
        → MatchOption o (AsksFirst b action a) (RepliesNext b action a) → StepMoves b a action
    by None is h = asks-first b a action is h
    by (Some r) is h = next r is (slice_get r.waiting 0) refl h

pub steps : (b a : ForwarderValue) (action : Option ForwarderAction) → ForwarderSteps b action a
    → StepMoves b a action
steps b a action h = by b.chain_end refl h
  where
    by : (o : Option ChainEndValue) → b.chain_end ≡ o
        → MatchOption o (RepliesFirst b action a)
        (λ e. (action ≡ Some act.Continue) × (a ≡ keeps_chain_end e (without_chain_end b))) → StepMoves b a action
    by None is h = replies-first b a action h
    by (Some e) is h = step_stays (continues action h.0) (keeps-chain-end e b a is h.1)
