-- What is promised of look-ups over one cache holds over every list of events.
use Rattle.std.proofs.Common.{◌≡◌, ◌⊎◌, ◌≤◌, ℕ, Bool, List, [], ◌∷◌, ◌++◌, length, Err, append_assoc, refl, sym, ap, ◌∙◌, subst, inl, inr}
use Rattle.std.proofs.lemmas.List.{append-nil}
use Rattle.std.specs.List.{AllByRecursion}
use Rattle.hickory_proto_core.specs.Codes.{type_code}
use Rattle.hickory_proto_core.specs.Table.{TableValue}
use Rattle.hickory_proto_core.specs.declared.query.Query.{Query}
use Rattle.hickory_proto_core.specs.declared.recorded.Exchange.{Exchange}
use Rattle.hickory_proto_core.specs.declared.net_error.NetError.TheVariants.{OutOfMemory}
use Rattle.hickory_resolver_model.specs.Cache.{CacheValue, without_query}
use Rattle.hickory_resolver_model.specs.Hops.{LookupContext, IsReplyOver}
use Rattle.hickory_resolver_model.specs.Resuming.{ProgressValue, Waits, IsDone}
use Rattle.hickory_resolver_theorems.specs.Cacheless.{ResolvesTo, IsConsistentWith}
use Rattle.hickory_resolver_theorems.specs.Cores.{reply_core}
use Rattle.hickory_resolver_theorems.specs.Covered.{Dated, dated_exchanges}
use Rattle.hickory_resolver_theorems.specs.CallFacts.{KeepsWhatIsKnown}
use Rattle.hickory_resolver_theorems.specs.Statements.{LeastTtlIsZero, IsFreshReply, IsFreshEntry, AreFreshEntries, IsWhatItResolvesTo, AreWhatTheyResolveTo}
use Rattle.hickory_resolver_theorems.specs.Interleaved.{PendingValue, DoneValue, WorldValue, world_of, context_in, EventValue, Started, Fed, Dropped, ClearedOfAll, ClearedOf, Blocked, asks_with, caches_with, pending_after, done_after, IsBetween, Happens, Happen, ended_by, received_by, ended_in, received_in, DoneWithinEight, IsMeant, IsSeenBy, IsPromisedEnd, IsPromisedInterleaving}
use Rattle.hickory_resolver_theorems.proofs.Lists.{all-weaker, all-append, all-front, all-back, all-has, has-all, has-left, has-right, has-map, ContainsByRecursion}
use Rattle.hickory_resolver_theorems.proofs.Stores.{entries-more}
use Rattle.hickory_resolver_theorems.proofs.Few.{few}
use Rattle.hickory_resolver_theorems.proofs.Fresh.{fresh-within}
use Rattle.hickory_resolver_theorems.proofs.Transparent.{transparent as transparent-by}
use Rattle.hickory_resolver_theorems.proofs.AliasLifetimes.{no_alias_outlives}
use Rattle.hickory_resolver_theorems.proofs.PromisedCalls.{cleared-keeps, without_query-keeps}
use Rattle.hickory_resolver_theorems.proofs.Runs.{reply-config}
use Rattle.hickory_resolver_theorems.proofs.InFlight.{IsInFlight, IsOnItsWay, started, resumed, in-flight-elsewhere}

-- each of these exchanges, of a look-up that was started at a moment, was received
abbrev AreReceived : List Dated → ℕ → List Exchange → Type 0
AreReceived received now xs = AllByRecursion (λ x. ContainsByRecursion received (record { moment = now; exchange = x })) xs

received-more : (xs ys : List Dated) (now : ℕ) (asks : List Exchange) → AreReceived xs now asks → AreReceived (xs ++ ys) now asks
received-more xs ys now asks all =
    all-weaker (λ x. ContainsByRecursion xs (record { moment = now; exchange = x })) (λ x. ContainsByRecursion (xs ++ ys) (record { moment = now; exchange = x })) (λ x h. has-left xs ys (record { moment = now; exchange = x }) h) asks all

received-own : (xs : List Dated) (now : ℕ) (asks : List Exchange) → AreReceived (xs ++ dated_exchanges now asks) now asks
received-own xs now asks =
    has-all (λ x. ContainsByRecursion (xs ++ dated_exchanges now asks) (record { moment = now; exchange = x })) asks
    (λ x h. has-right xs (dated_exchanges now asks) (record { moment = now; exchange = x }) (has-map (λ y. record { moment = now; exchange = y }) asks x h))

-- what is known of a look-up in flight
abbrev IsKnown : Bool → WorldValue → List Dated → PendingValue → Type 0
IsKnown preserve world received p = IsInFlight (context_in preserve world p.waiting.now) p × AreReceived received p.waiting.now p.asks

-- what is known of the world after some events
record IsGood (preserve : Bool) (received : List Dated) (ended : List DoneValue) (world : WorldValue) : Type 0 where
  entries : AreFreshEntries world.cache received
  pending : AllByRecursion (IsKnown preserve world received) world.pending
  meant : (table : TableValue) → IsSeenBy table preserve received ended → AreWhatTheyResolveTo table world.cache

seen-before : (table : TableValue) (preserve : Bool) (received more : List Dated) (ended others : List DoneValue) → IsSeenBy table preserve (received ++ more) (ended ++ others) → IsSeenBy table preserve received ended
seen-before table preserve received more ended others (off, apart, tells, few) =
    (off, apart, all-front (λ x. IsConsistentWith table x.exchange) received more tells, all-front (DoneWithinEight table) ended others few)

-- those in flight stay so over a cache with the same bounds, whatever is received
module _ (preserve : Bool) (before after : WorldValue) (received more : List Dated) (same : after.cache.config ≡ before.cache.config) where
  known-later : (p : PendingValue) → IsKnown preserve before received p → IsKnown preserve after (received ++ more) p
  known-later p (is, own) = (in-flight-elsewhere (context_in preserve before p.waiting.now) after.cache p same is, received-more received more p.waiting.now p.asks own)

  all-later : (ps : List PendingValue) → AllByRecursion (IsKnown preserve before received) ps → AllByRecursion (IsKnown preserve after (received ++ more)) ps
  all-later ps all = all-weaker (IsKnown preserve before received) (IsKnown preserve after (received ++ more)) known-later ps all

-- ---- an end

-- what was received at a look-up's moment agrees with a table, where all that was received does
told : (table : TableValue) (received : List Dated) (now : ℕ) (asks : List Exchange) → AllByRecursion (λ x. IsConsistentWith table x.exchange) received → AreReceived received now asks → AllByRecursion (IsConsistentWith table) asks
told table received now asks tells own =
    all-weaker (λ x. ContainsByRecursion received (record { moment = now; exchange = x })) (IsConsistentWith table) (λ x h. all-has (λ d. IsConsistentWith table d.exchange) received (record { moment = now; exchange = x }) tells h) asks own

-- the world after a look-up that ended
record IsGoodEnd (preserve : Bool) (received : List Dated) (ended : List DoneValue) (before after : WorldValue) (d : DoneValue) : Type 0 where
  promised : IsPromisedEnd preserve received ended before after d
  config : after.cache.config ≡ before.cache.config
  entries : AreFreshEntries after.cache received
  meant : (table : TableValue) → IsSeenBy table preserve received ended → AreWhatTheyResolveTo table after.cache

end-good : (preserve : Bool) (received more : List Dated) (ended : List DoneValue) (before after : WorldValue) (d : DoneValue) → IsGood preserve received ended before → AreReceived (received ++ more) d.now d.asks → IsReplyOver (context_in preserve before d.now) d.caches d.question d.asks d.result after.cache
    → IsGoodEnd preserve (received ++ more) (ended ++ d ∷ []) before after d
end-good preserve received more ended before after d good own is = record {
  promised = record {
    reply = is;
    few = few s d.caches d.question d.asks d.result after.cache is;
    fresh = fresh.0;
    no_alias_outlives = no_alias_outlives s d.caches d.question d.asks d.result after.cache is;
    transparent = λ table seen. means table seen (transparent table seen).0;
  };
  config = reply-config s d.caches d.question d.asks d.result after.cache is;
  entries = fresh.1;
  meant = λ table seen. (transparent table seen).1;
}
  where
    s : LookupContext
    s = context_in preserve before d.now

    fresh : (LeastTtlIsZero before.cache.config (type_code d.question.query_type) → IsFreshReply before.cache.config (received ++ more) (type_code d.question.query_type) d.now d.result) × AreFreshEntries after.cache (received ++ more)
    fresh = fresh-within s d.caches d.question d.asks d.result after.cache (received ++ more) is (entries-more before.cache received more good.entries) own

    own-meaning : (table : TableValue) → IsSeenBy table preserve (received ++ more) (ended ++ d ∷ []) → DoneWithinEight table d
    own-meaning table (off, apart, tells, few) = (all-back (DoneWithinEight table) ended (d ∷ []) few).0

    transparent : (table : TableValue) (seen : IsSeenBy table preserve (received ++ more) (ended ++ d ∷ [])) → ((d.result ≡ Err OutOfMemory) ⊎ (reply_core d.result ≡ (own-meaning table seen).0)) × AreWhatTheyResolveTo table after.cache
    transparent table seen =
        let own_means = own-meaning table seen in
        transparent-by s d.caches d.question d.asks d.result after.cache is table seen.0 seen.1 (told table (received ++ more) d.now d.asks seen.2 own)
        (good.meant table (seen-before table preserve received more ended (d ∷ []) seen)) own_means.0 own_means.1 own_means.2 own_means.3

    means : (table : TableValue) (seen : IsSeenBy table preserve (received ++ more) (ended ++ d ∷ [])) → (d.result ≡ Err OutOfMemory) ⊎ (reply_core d.result ≡ (own-meaning table seen).0) → IsMeant table d
    means table seen (inl out) = inl out
    means table seen (inr same) =
        let own_means = own-meaning table seen in
        inr (own_means.1, subst (λ r. ResolvesTo table d.question r own_means.1) (sym same) own_means.2)

-- ---- an event

abbrev GoodEvent : Bool → List Dated → List DoneValue → WorldValue → EventValue → WorldValue → Type 0
GoodEvent preserve received ended before event after =
    IsGood preserve (received ++ received_by event) (ended ++ ended_by event) after
    × AllByRecursion (IsPromisedEnd preserve (received ++ received_by event) (ended ++ ended_by event) before after) (ended_by event)

module _ (preserve : Bool) (received : List Dated) (ended : List DoneValue) (before : WorldValue) (good : IsGood preserve received ended before) where
  -- nothing is received, and no look-up ends
  kept-good : (event : EventValue) (after : WorldValue) → received_by event ≡ [] → ended_by event ≡ [] → after.cache.config ≡ before.cache.config → KeepsWhatIsKnown before.cache after.cache → AllByRecursion (IsKnown preserve before received) after.pending
      → GoodEvent preserve received ended before event after
  kept-good event after none_received none_ended same keeps pending = (
    record {
      entries = keeps.covered (received ++ received_by event) (entries-more before.cache received (received_by event) good.entries);
      pending = all-later preserve before after received (received_by event) same after.pending pending;
      meant = λ table seen. keeps.meant table (good.meant table (seen-before table preserve received (received_by event) ended (ended_by event) seen));
    },
    subst (AllByRecursion (IsPromisedEnd preserve (received ++ received_by event) (ended ++ ended_by event) before after)) (sym none_ended) tt,
  )

  -- a look-up ends, beside those that stay in flight
  done-good : (more : List Dated) (after : WorldValue) (d : DoneValue) → AreReceived (received ++ more) d.now d.asks → IsReplyOver (context_in preserve before d.now) d.caches d.question d.asks d.result after.cache → AllByRecursion (IsKnown preserve before received) after.pending
      → IsGood preserve (received ++ more) (ended ++ d ∷ []) after × AllByRecursion (IsPromisedEnd preserve (received ++ more) (ended ++ d ∷ []) before after) (d ∷ [])
  done-good more after d own is pending =
      let end = end-good preserve received more ended before after d good own is in (
        record { entries = end.entries; pending = all-later preserve before after received more end.config after.pending pending; meant = end.meant },
        (end.promised, tt),
      )

  -- a look-up takes a step, beside those that stay in flight
  step-good : (more : List Dated) (after : WorldValue) (front back : List PendingValue) (question : Query) (now : ℕ) (asks : List Exchange) (caches : List CacheValue) (progress : ProgressValue)
      → AllByRecursion (IsKnown preserve before received) front → AllByRecursion (IsKnown preserve before received) back → AreReceived (received ++ more) now asks → IsOnItsWay (context_in preserve before now) question asks caches progress after.cache
      → after.pending ≡ front ++ pending_after before.cache question asks caches progress ++ back
      → IsGood preserve (received ++ more) (ended ++ done_after question now asks caches progress) after × AllByRecursion (IsPromisedEnd preserve (received ++ more) (ended ++ done_after question now asks caches progress) before after) (done_after question now asks caches progress)
  step-good more after front back question now asks caches (IsDone result) first rest own is pending_is =
      done-good more after (record { question = question; now = now; asks = asks; caches = caches; result = result }) own is
      (subst (AllByRecursion (IsKnown preserve before received)) (sym pending_is) (all-append (IsKnown preserve before received) (front ++ []) back (all-append (IsKnown preserve before received) front [] first tt) rest))
  step-good more after front back question now asks caches (Waits w) first rest own (is, now_is, same) pending_is = (
    record {
      entries = subst (λ c. AreFreshEntries c (received ++ more)) (sym same) (entries-more before.cache received more good.entries);
      pending = subst (AllByRecursion (IsKnown preserve after (received ++ more))) (sym pending_is)
          (all-append Known (front ++ p ∷ []) back (all-append Known front (p ∷ []) (all-later preserve before after received more bounds front first) (known, tt)) (all-later preserve before after received more bounds back rest));
      meant = λ table seen. subst (AreWhatTheyResolveTo table) (sym same) (good.meant table (seen-before table preserve received more ended [] seen));
    },
    tt,
  )
    where
      p : PendingValue
      p = record { question = question; asks = asks; caches = caches; cache = before.cache; waiting = w }

      Known : PendingValue → Type 0
      Known = IsKnown preserve after (received ++ more)

      bounds : after.cache.config ≡ before.cache.config
      bounds = ap (λ c. c.config) same

      known : IsKnown preserve after (received ++ more) p
      known = (
        in-flight-elsewhere (context_in preserve before w.now) after.cache p bounds (subst (λ n. IsInFlight (context_in preserve before n) p) (sym now_is) is),
        subst (λ n. AreReceived (received ++ more) n asks) (sym now_is) own,
      )

  -- those before and after one in flight, and that one
  between : (front : List PendingValue) (p : PendingValue) (back : List PendingValue) → IsBetween front p back before.pending → AllByRecursion (IsKnown preserve before received) front × IsKnown preserve before received p × AllByRecursion (IsKnown preserve before received) back
  between front p back is =
      let all = subst (AllByRecursion (IsKnown preserve before received)) is good.pending in
      let from = all-back (IsKnown preserve before received) front (p ∷ back) all in
      (all-front (IsKnown preserve before received) front (p ∷ back) all, from.0, from.1)

  event-good : (event : EventValue) (after : WorldValue) → Happens preserve before event after → GoodEvent preserve received ended before event after
  event-good (Started question now progress) after (starts, pending_is) =
      step-good [] after before.pending [] question now [] [] progress good.pending tt tt (started (context_in preserve before now) question progress after.cache starts)
      (pending_is ∙ sym (append-nil (before.pending ++ pending_after before.cache question [] [] progress)))
  event-good (Fed p outcome progress) after (front, back, is, resumes, pending_is) =
      let there = between front p back is in
      let x : Exchange = record { query = p.waiting.hop.query; outcome = outcome } in
      let more = dated_exchanges p.waiting.now (x ∷ []) in
      step-good more after front back p.question p.waiting.now (asks_with p outcome) (caches_with p) progress there.0 there.2
      (all-append (λ y. ContainsByRecursion (received ++ more) (record { moment = p.waiting.now; exchange = y })) p.asks (x ∷ []) (received-more received more p.waiting.now p.asks there.1.1) (received-own received p.waiting.now (x ∷ [])))
      (resumed (context_in preserve before p.waiting.now) p outcome progress after.cache there.1.0 resumes) pending_is
  event-good (Dropped p) after (front, back, is, e) =
      let there = between front p back is in
      subst (GoodEvent preserve received ended before (Dropped p)) (sym e)
      (kept-good (Dropped p) (record before { pending = front ++ back }) refl refl refl (record { covered = λ sources h. h; meant = λ table h. h }) (all-append (IsKnown preserve before received) front back there.0 there.2))
  event-good ClearedOfAll after e =
      subst (GoodEvent preserve received ended before ClearedOfAll) (sym e)
      (kept-good ClearedOfAll (record before { cache = record before.cache { entries = [] } }) refl refl refl (cleared-keeps before.cache) good.pending)
  event-good (ClearedOf q) after e =
      subst (GoodEvent preserve received ended before (ClearedOf q)) (sym e)
      (kept-good (ClearedOf q) (record before { cache = without_query before.cache q }) refl refl refl (without_query-keeps before.cache q) good.pending)
  event-good (Blocked d) after (reply, caches_are, pending_is) =
      let s = context_in preserve before d.now in
      done-good (dated_exchanges d.now d.asks) after d (received-own received d.now d.asks)
      (subst (λ caches. IsReplyOver s caches d.question d.asks d.result after.cache) (sym caches_are) reply)
      (subst (AllByRecursion (IsKnown preserve before received)) (sym pending_is) good.pending)

-- ---- a list of events

events-good : (preserve : Bool) (received : List Dated) (ended : List DoneValue) (before : WorldValue) (events : List EventValue) (after : WorldValue) → IsGood preserve received ended before → Happen preserve before events after
    → IsGood preserve (received ++ received_in events) (ended ++ ended_in events) after
events-good preserve received ended before [] after good e =
    subst (IsGood preserve (received ++ []) (ended ++ [])) (sym e)
    (subst (λ xs. IsGood preserve xs (ended ++ []) before) (sym (append-nil received)) (subst (λ ds. IsGood preserve received ds before) (sym (append-nil ended)) good))
events-good preserve received ended before (event ∷ events) after good (mid, is, rest) =
    let one = event-good preserve received ended before good event mid is in
    let more = events-good preserve (received ++ received_by event) (ended ++ ended_by event) mid events after one.0 rest in
    subst (λ xs. IsGood preserve xs (ended ++ ended_in (event ∷ events)) after) (append_assoc received (received_by event) (received_in events))
    (subst (λ ds. IsGood preserve ((received ++ received_by event) ++ received_in events) ds after) (append_assoc ended (ended_by event) (ended_in events)) more)

pub interleaved : (preserve : Bool) (empty : CacheValue) → IsPromisedInterleaving preserve empty
interleaved preserve empty none events event before after happen happens =
    let first : IsGood preserve [] [] (world_of empty) = record {
      entries = subst (AllByRecursion (IsFreshEntry empty.config [])) (sym none) tt;
      pending = tt;
      meant = λ table seen. subst (AllByRecursion (IsWhatItResolvesTo table)) (sym none) tt;
    } in
    let good = event-good preserve (received_in events) (ended_in events) before (events-good preserve [] [] (world_of empty) events before first happen) event after happens in
    record {
      ended = good.1;
      entries = good.0.entries;
      meant = good.0.meant;
      waiting = all-weaker (IsKnown preserve after (received_in events ++ received_by event)) (λ p. length p.asks ≤ 7) (λ p known. known.0.passed.short) after.pending good.0.pending;
    }
