-- What a request is told at once.
use Rattle.std.proofs.Common.{◌≡◌, ◌∙◌, ℕ, ◌≤◌, Bool, true, false, List, length, refl, sym, ap, subst, arith}
use Rattle.std.specs.Prelude.{Option, None, Some, MatchOption, nat_le, if◌then◌else◌}
use Rattle.std.specs.Option.{option_and_then}
use Rattle.std.proofs.lemmas.Bool.{leb-true}
use Rattle.hickory_proto_core.specs.declared.query.Query.{Query}
use Rattle.hickory_proto_wire.specs.Messages.{bit}
use Rattle.hickory_resolver_pool.specs.declared.pool.Asked as pool_asked
use Rattle.hickory_resolver_pool.specs.declared.pool.Asked.TheVariants as asked
use Rattle.client_limits.specs.Counts.{admits}
use Rattle.client_queries.specs.declared.query.Refusal.{Refusal}
use Rattle.client_queries.specs.declared.query.Refusal.TheVariants as refusal
use Rattle.client_queries.specs.declared.query.Verdict.{Verdict}
use Rattle.client_queries.specs.declared.query.Verdict.TheVariants as verdict
use Rattle.client_requests.specs.Keys.{key_of}
use Rattle.client_requests.specs.Replies.{stale_reply, stored_reply}
use Rattle.client_requests.specs.Requests.{RequestValue, request_of, waiting_of}
use Rattle.failure_replies.specs.declared.failure.FailureReason.{FailureReason}
use Rattle.failure_replies.specs.declared.failure.FailureReason.TheVariants as reason
use Rattle.kept_failures.specs.Failures.{failure_at}
use Rattle.local_answers.specs.Told.{any_reply}
use Rattle.local_answers.specs.declared.local_data.Decision.{Decision}
use Rattle.local_answers.specs.declared.local_data.Decision.TheVariants as decision
use Rattle.second_chance_cache.specs.SecondChance.{told}
use Rattle.stored_replies.specs.Stored.{StoredValue}
use Rattle.stored_replies.specs.Told.{asks_dnssec}
use Rattle.whole_replies.specs.Kept.{KeptValue}
use Rattle.yimarotu_forwarder.specs.Cached.{CachedValue, if_told}
use Rattle.yimarotu_forwarder.specs.Counting.{answered_as}
use Rattle.yimarotu_forwarder.specs.Fetches.{FetchValue, fetch_at, has_request}
use Rattle.yimarotu_forwarder.specs.Forwarders.{ForwarderValue, at_moment, second_of}
use Rattle.yimarotu_forwarder.specs.Local.{IsDecided}
use Rattle.yimarotu_forwarder.specs.Late.{late_hit}
use Rattle.yimarotu_forwarder.specs.LookingUp.{BeginsBy, BeginsLookup, BeginsOr, BeginsWith, IsPastBound, IsPastBoundBy, JoinsBy, JoinsFetch, JoinsLookup, JoinsOr, JoinsOrTold, LooksUp, after_ask, may_begin, pool_question, pool_says}
use Rattle.yimarotu_forwarder.specs.Options.{may_ask}
use Rattle.yimarotu_forwarder.specs.Queries.{Answering, AnswersAs, AnswersAsked, AnswersBy, AnswersRequest, Decides, FailsAgain, Misses, Serves, ServesBy, TellsCounts, TellsLocalAlone, TellsOr, TellsOrLooksUp, TurnsAway, WithQuery, hit, query_in, with_hit}
use Rattle.yimarotu_forwarder.specs.Replying.{Drops, Fails, Refuses, TellsLocal}
use Rattle.yimarotu_forwarder.specs.Stale.{stale_hit, stale_in}
use Rattle.yimarotu_forwarder.specs.Statistics.{counts_reply, is_loopback}
use Rattle.yimarotu_forwarder.specs.declared.answered.Answered.TheVariants.{Dropped, Replied, Waits}
use Rattle.yimarotu_forwarder_theorems.specs.Lookups.{IsAnswer, IsKeptAnswer, IsStaleAnswer, LastsTo}
use Rattle.yimarotu_forwarder_theorems.specs.Runs.{Happening}
use Rattle.yimarotu_forwarder_theorems.specs.ToldAtOnce.{AnswersAtOnceAreOfReplies, IsToldAtOnce, MayBeTold, TellsKnown, failed, for_all_types, from_counts, from_local_data, past_its_end, refused, up_to_its_end}
use Rattle.yimarotu_forwarder_theorems.proofs.Answering.{late-is}
use Rattle.yimarotu_forwarder_theorems.proofs.Keys.{own-dnssec}
use Rattle.yimarotu_forwarder_theorems.proofs.KeptValues.{AllKept, told-kept}
use Rattle.yimarotu_forwarder_theorems.proofs.Lookups.{answers_are_of_replies, stale-so}

-- what lasts up to a second lasts up to those before it
lasts-before : (stored : StoredValue) (now second : ℕ) → now ≤ second → LastsTo stored second → LastsTo stored now
lasts-before stored now second before lasts = omega (arith, before, lasts)

-- A request, to a forwarder that keeps answers alone, is replied to.
module _ (past : List Happening) (r : RequestValue) (s : ForwarderValue)
    (all : AllKept (IsKeptAnswer past) s.cache.entries) {after : ForwarderValue} (x : AnswersRequest s Replied after r)
    (a : ForwarderValue) where
  abbrev Told : Type 0
  Told = IsToldAtOnce past r s a.reply

  -- ---- no answer

  reply-of : (b : ForwarderValue) (octets : List ℕ) → a ≡ record b { reply = octets } → a.reply ≡ octets
  reply-of b octets h = ap (λ (y : ForwarderValue). y.reply) h

  refuses : (why : Refusal) (b : ForwarderValue) → Refuses b r why x.became a → Told
  refuses why b h = refused why (reply-of b _ h.1)

  fails : (why : FailureReason) (b : ForwarderValue) → Fails b r why x.became a → Told
  fails why b h = failed why (reply-of b _ h.1)

  drops : (b : ForwarderValue) → Drops b x.became a → Told
  drops b h = let clash : Replied ≡ Dropped = x.answered_is ∙ ap answered_as h.0 in absurd cc

  waits : answered_as x.became ≡ Waits → Told
  waits h = let clash : Replied ≡ Waits = x.answered_is ∙ h in absurd cc

  -- ---- what is kept

  -- up to its end
  hit-told : (octets : List ℕ) → MayBeTold r s → hit r s ≡ Some octets → a.reply ≡ octets → Told
  hit-told octets may h is = by (told (key_of r) (second_of s) s.cache.entries) refl h
    where
      current : (cached : CachedValue) (deadline : ℕ) → IsKeptAnswer past (key_of r) cached deadline → (lasts : Bool)
          → nat_le (second_of s) cached.told_until ≡ lasts
          → option_and_then (λ y. stored_reply r y.reply s.options.trusts_authentic_data (second_of s))
          (if lasts then Some cached else None) ≡ Some octets
          → Told
      current cached deadline kept false late e = absurd cc
      current cached deadline kept true within e =
          up_to_its_end may (record {
            stored = cached.reply;
            answer = subst (λ (dnssec : Bool). IsAnswer past dnssec cached.reply) (own-dnssec r) kept.answer;
            lasts = lasts-before cached.reply (second_of s) cached.told_until
                (leb-true (second_of s) cached.told_until within) kept.lasts;
            told = e ∙ ap (λ (y : List ℕ). Some y) (sym is);
          })

      by : (o : Option CachedValue) → told (key_of r) (second_of s) s.cache.entries ≡ o
          → option_and_then (λ y. stored_reply r y.reply s.options.trusts_authentic_data (second_of s))
          (option_and_then (if_told (second_of s)) o) ≡ Some octets
          → Told
      by None found e = absurd cc
      by (Some cached) found e =
          let kept = told-kept (IsKeptAnswer past) (key_of r) (second_of s) s.cache.entries cached all found in
          current cached kept.0 kept.1 (nat_le (second_of s) cached.told_until) refl e

  -- past its end
  stale-told : (octets : List ℕ) → MayBeTold r s → stale_hit r (key_of r) s ≡ Some octets → a.reply ≡ octets → Told
  stale-told octets may h is = by (stale_in s.cache (key_of r) s.options (second_of s)) refl h
    where
      by : (o : Option StoredValue) → stale_in s.cache (key_of r) s.options (second_of s) ≡ o
          → option_and_then (stale_reply r) o ≡ Some octets → Told
      by None found e = absurd cc
      by (Some stored) found e =
          past_its_end may (record {
            stored = stored;
            stale = subst (λ (dnssec : Bool). IsStaleAnswer past dnssec (key_of r) stored s) (own-dnssec r)
                (stale-so past s (key_of r) stored all found);
            told = e ∙ ap (λ (y : List ℕ). Some y) (sym is);
          })

  -- ---- what is known here

  told-of : (q : Query) (here : KeptValue) → query_in r ≡ Some q → TellsLocal s r q here x.became a
      → TellsKnown r s a.reply q here
  told-of q here asks h = record { asks = asks; told = reply-of s _ h.1 }

  -- a request whose octets are no message is refused
  with-query : (Then : Query → Answering) → ((q : Query) → query_in r ≡ Some q → Then q s x.became a → Told)
      → WithQuery Then r s x.became a → Told
  with-query Then next h = by (query_in r) refl h
    where
      by : (o : Option Query) → query_in r ≡ o
          → MatchOption o (Refuses s r refusal.FormErr x.became a) (λ q. Then q s x.became a) → Told
      by None asks e = refuses refusal.FormErr s e
      by (Some q) asks e = next q asks e

  tells-or : (Else : ℕ → Answering) (q : Query) → query_in r ≡ Some q → ((group : ℕ) → Else group s x.became a → Told)
      → Decides Else r q s x.became a → Told
  tells-or Else q asks otherwise d = by d.found refl d.goes_on
    where
      by : (found : Decision) → d.found ≡ found → TellsOr Else r q found s x.became a → Told
      by (decision.Answer here) same e =
          from_local_data q here (subst (IsDecided s.local q (second_of s)) same d.decided) (told-of q here asks e)
      by (decision.Ask group) same e = otherwise group e

  local-alone : TellsLocalAlone r s x.became a → Told
  local-alone h =
      with-query (Decides (λ (group : ℕ) (b : ForwarderValue). Refuses b r refusal.Refused) r)
      (λ q asks d. tells-or (λ (group : ℕ) (b : ForwarderValue). Refuses b r refusal.Refused) q asks
      (λ group e. refuses refusal.Refused s e) d) h

  -- ---- a look-up

  past-bound : (b : ForwarderValue) → IsPastBound r b x.became a → Told
  past-bound b h = by r.client.is_stream h
    where
      by : (stream : Bool) → IsPastBoundBy stream r b x.became a → Told
      by true e = fails reason.NotReady b e
      by false e = drops b e

  begins-by : (what : pool_asked.Asked) (q : Query) (w : RequestValue) (b : ForwarderValue)
      → BeginsBy what q r w b x.became a → Told
  begins-by (asked.Asker y) q w b h = waits (ap answered_as h.waits)
  begins-by asked.Overloaded q w b h = past-bound b h
  begins-by asked.NoServers q w b h = fails reason.NoReachableAuthority b h

  begins-lookup : (q : Query) (group : ℕ) → BeginsLookup q r group s x.became a → Told
  begins-lookup q group h = by (may_begin r s) h
    where
      asks : (o : Option RequestValue)
          → MatchOption o (Refuses s r refusal.FormErr x.became a)
          (BeginsWith q r (pool_question q (asks_dnssec r.query.edns) (bit 16 r.query.flags) s) group s x.became a)
          → Told
      asks None e = refuses refusal.FormErr s e
      asks (Some w) e =
          let question = pool_question q (asks_dnssec r.query.edns) (bit 16 r.query.flags) s in
          begins-by (pool_says group question s) q w (after_ask group question s) e

      by : (room : Bool) → BeginsOr room q r group s x.became a → Told
      by false e = past-bound s e
      by true e = asks (waiting_of r) e

  joins-lookup : (f : FetchValue) → MayBeTold r s → JoinsLookup r s x.became a f → Told
  joins-lookup f may h = by (has_request r f) h
    where
      asks : (o : Option RequestValue) → MatchOption o (Refuses s r refusal.FormErr x.became a) (JoinsFetch r s x.became a)
          → Told
      asks None e = refuses refusal.FormErr s e
      asks (Some w) e = waits (ap answered_as e.waits)

      if-room : (room : Bool) → JoinsOr room r s x.became a → Told
      if-room false e = past-bound s e
      if-room true e = asks (waiting_of r) e

      if-late : (o : Option (List ℕ)) → late_hit f r s ≡ o → JoinsOrTold o (length f.waiting) r s x.became a → Told
      if-late None is e = if-room (admits s.options.limits r.client.address (length f.waiting) s.counts) e
      if-late (Some octets) is e = stale-told octets may (late-is f r s octets is) (reply-of s octets e.1)

      by : (there : Bool) → JoinsBy there f r s x.became a → Told
      by true e = drops s e
      by false e = if-late (late_hit f r s) refl e

  looks-up : (q : Query) (group : ℕ) → MayBeTold r s → LooksUp r q group s x.became a → Told
  looks-up q group may h = by (fetch_at (key_of r) s.fetches) h
    where
      by : (o : Option FetchValue)
          → MatchOption o (BeginsLookup q r group s x.became a) (JoinsLookup r s x.became a) → Told
      by None e = begins-lookup q group e
      by (Some f) e = joins-lookup f may e

  local-or-asked : MayBeTold r s → TellsOrLooksUp r s x.became a → Told
  local-or-asked may h =
      with-query (λ (q : Query). Decides (LooksUp r q) r q)
      (λ q asks d. tells-or (LooksUp r q) q asks (λ group e. looks-up q group may e) d) h

  -- ---- the rows

  fails-again : MayBeTold r s → FailsAgain r s x.became a → Told
  fails-again may h = by (stale_hit r (key_of r) s) refl
    where
      by : (o : Option (List ℕ)) → stale_hit r (key_of r) s ≡ o → Told
      by None is = let m = rw is at h in fails reason.CachedError s m
      by (Some octets) is = let m = rw is at h in stale-told octets may is (reply-of s octets m.1)

  misses : MayBeTold r s → Misses r s x.became a → Told
  misses may h = by (failure_at (key_of r) (second_of s) s.failures) h
    where
      by : (o : Option FailureReason)
          → MatchOption o (TellsOrLooksUp r s x.became a) (λ why. FailsAgain r s x.became a) → Told
      by None e = local-or-asked may e
      by (Some why) e = fails-again may e

  asked-for : MayBeTold r s → AnswersAsked r s x.became a → Told
  asked-for may h = by (hit r s) refl
    where
      by : (o : Option (List ℕ)) → hit r s ≡ o → Told
      by None is = let m = rw is at h in misses may m
      by (Some octets) is = let m = rw is at h in hit-told octets may is (reply-of (with_hit (key_of r) s) octets m.1)

  serves : (Then : Answering) → (MayBeTold r s → Then s x.became a → Told) → Serves Then r s x.became a → Told
  serves Then next h =
      by (bit 256 r.query.flags) refl (may_ask r.client.address s.options) refl h
    where
      away : (drop : Bool) → TurnsAway drop r s x.became a → Told
      away true e = drops s e
      away false e = refuses refusal.Refused s e

      by : (recursion : Bool) → bit 256 r.query.flags ≡ recursion → (may : Bool)
          → may_ask r.client.address s.options ≡ may → ServesBy recursion may Then r s x.became a → Told
      by false asks may is e = local-alone e
      by true asks false is e = away s.options.drops_strangers e
      by true asks true is e = next (record { recursion = asks; client = is }) e

  tells-counts : r.query.verdict ≡ verdict.Statistics → TellsCounts (is_loopback r.client.address) r s x.became a → Told
  tells-counts verdict-is h = by (is_loopback r.client.address) refl h
    where
      by : (here : Bool) → is_loopback r.client.address ≡ here → TellsCounts here r s x.became a → Told
      by false is e = refuses refusal.Refused s e
      by true is e =
          with-query (λ (q : Query) (b : ForwarderValue). TellsLocal b r q (counts_reply q b.counted))
          (λ q asks t. from_counts q verdict-is is (told-of q (counts_reply q s.counted) asks t)) e

  answers-by : (v : Verdict) → r.query.verdict ≡ v → AnswersBy v r s x.became a → Told
  answers-by (verdict.Refused why) is h = refuses why s h
  answers-by verdict.Statistics is h = tells-counts is h
  answers-by verdict.Any is h =
      serves (AnswersAs true r)
      (λ may e.
      with-query (λ (q : Query) (b : ForwarderValue). TellsLocal b r q (any_reply q))
      (λ q asks t. for_all_types q is (told-of q (any_reply q) asks t)) e) h
  answers-by verdict.Asked is h = serves (AnswersAs false r) (λ may e. asked-for may e) h

-- ---- the whole

pub answers_at_once_are_of_replies : AnswersAtOnceAreOfReplies
answers_at_once_are_of_replies options local cache failures pool past before after runs c octets now h r read =
    by (request_of c octets) read h
  where
    kept : AllKept (IsKeptAnswer past) before.cache.entries
    kept = (answers_are_of_replies options local cache failures pool past before runs).kept

    told-so : AnswersRequest (at_moment now before) Replied after r → IsToldAtOnce past r (at_moment now before) after.reply
    told-so x =
        subst (IsToldAtOnce past r (at_moment now before)) (sym (ap (λ (y : ForwarderValue). y.reply) x.counts))
        (answers-by past r (at_moment now before) kept x x.uncounted r.query.verdict refl x.answers)

    by : (o : Option RequestValue) → o ≡ Some r
        → MatchOption o ((Replied ≡ Dropped) × (after ≡ at_moment now before))
        (AnswersRequest (at_moment now before) Replied after) → IsToldAtOnce past r (at_moment now before) after.reply
    by None is e = absurd cc
    by (Some other) is e =
        let same : other ≡ r = cc in told-so (subst (AnswersRequest (at_moment now before) Replied after) same e)
