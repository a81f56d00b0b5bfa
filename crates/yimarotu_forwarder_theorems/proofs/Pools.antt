-- What happens to the pool under a forwarder, and what it tells.
use Rattle.std.proofs.Common.{◌≡◌, ◌==◌, ℕ, inl, inr, Bool, true, false, List, [], refl, sym, ap, subst}
use Rattle.std.specs.Prelude.{Option, None, Some, MatchOption, length, slice_get, if◌then◌else◌}
use Rattle.std.specs.Option.{option_map}
use Rattle.hickory_proto_core.specs.declared.query.Query.{Query}
use Rattle.hickory_proto_wire.specs.Messages.{bit}
use Rattle.hickory_proto_wire.specs.declared.wire_message.WireMessage.{WireMessage}
use Rattle.hickory_resolver_model.specs.Options.{request_options_of}
use Rattle.hickory_resolver_pool.specs.Laws.{PoolEvent, after_event, channel_fails, group_has, is_asked, octets_come, time_passes}
use Rattle.hickory_resolver_pool.specs.Over.{OverValue}
use Rattle.hickory_resolver_pool.specs.declared.pool.Asked as pool_asked
use Rattle.hickory_resolver_pool.specs.declared.pool.Asked.TheVariants as asked
use Rattle.hickory_resolver_pool_theorems.specs.Runs as pool
use Rattle.hickory_resolver_askers.specs.declared.asker.Asker.{Asker}
use Rattle.hickory_resolver_tries.specs.declared.pool_question.PoolQuestion.{PoolQuestion}
use Rattle.client_queries.specs.declared.query.Refusal.{Refusal}
use Rattle.client_queries.specs.declared.query.Refusal.TheVariants as refusal
use Rattle.client_queries.specs.declared.query.Verdict.{Verdict}
use Rattle.client_queries.specs.declared.query.Verdict.TheVariants as verdict
use Rattle.client_requests.specs.Keys.{key_of}
use Rattle.client_requests.specs.Requests.{RequestValue, request_of, waiting_of}
use Rattle.client_requests.specs.declared.client.Client.{Client}
use Rattle.client_requests.specs.declared.fetch_end.FetchEnd.{FetchEnd}
use Rattle.client_requests.specs.declared.fetch_end.FetchEnd.TheVariants.{Failure, Reply}
use Rattle.failure_replies.specs.declared.failure.FailureReason.{FailureReason}
use Rattle.failure_replies.specs.declared.failure.FailureReason.TheVariants as reason
use Rattle.kept_failures.specs.Failures.{failure_at}
use Rattle.local_answers.specs.Told.{any_reply}
use Rattle.local_answers.specs.declared.local_data.Decision.{Decision}
use Rattle.local_answers.specs.declared.local_data.Decision.TheVariants as decision
use Rattle.stored_replies.specs.Told.{asks_dnssec}
use Rattle.whole_lookups.specs.Lookups.{heard}
use Rattle.whole_lookups.specs.declared.heard.Heard.{Heard}
use Rattle.whole_lookups.specs.declared.heard.Heard.TheVariants as heard_as
use Rattle.whole_replies.specs.Kept.{KeptValue}
use Rattle.yimarotu_forwarder.specs.Fetches.{FetchValue, PutsFetch, asked_for, fetch_at, has_request, with_waiting}
use Rattle.yimarotu_forwarder.specs.Forwarders.{ChainEndValue, ForwarderValue, ReplyingValue, TellingValue, at_moment, second_of}
use Rattle.yimarotu_forwarder.specs.Late.{TellsLate, TellsLateIf, TellsWaiting, first_due, is_told_late, late_hit, passed_over, with_nobody}
use Rattle.yimarotu_forwarder.specs.LookingUp.{BeginsBy, BeginsLookup, BeginsOr, BeginsWith, IsPastBound, IsPastBoundBy, JoinsBy, JoinsFetch, JoinsLookup, JoinsOr, JoinsOrTold, LooksUp, after_ask, dnssec_of, may_begin, new_fetch, pool_question, pool_says}
use Rattle.client_limits.specs.Counts.{admits}
use Rattle.yimarotu_forwarder.specs.NextQuestions.{kept_end, next_key, with_asked_where}
use Rattle.yimarotu_forwarder.specs.Options.{may_ask}
use Rattle.yimarotu_forwarder.specs.Prefetching.{AsksLone, BeginsLoneBy, BeginsLoneWith, DecidesLone, Prefetches, PrefetchesWhere, key_dnssec, key_query, key_unchecked, lone_fetch, may_prefetch, without_prefetch}
use Rattle.yimarotu_forwarder.specs.Queries.{Answering, AnswersAs, AnswersAsked, AnswersBy, AnswersQuery, AnswersRequest, Decides, FailsAgain, Misses, Serves, ServesBy, TellsCounts, TellsLocalAlone, TellsOr, TellsOrLooksUp, TurnsAway, WithQuery, hit, query_in}
use Rattle.yimarotu_forwarder.specs.Replying.{Fails, Refuses, TellsLocal}
use Rattle.yimarotu_forwarder.specs.Stale.{stale_hit}
use Rattle.yimarotu_forwarder.specs.Statistics.{counts_reply, is_loopback}
use Rattle.yimarotu_forwarder.specs.Steps.{AsksBy, AsksFirst, AsksFor, AsksNext, AsksOr, AsksPool, EndsWith, ForwarderSteps, IsLetGo, PrefetchesFirst, RepliesFirst, RepliesNext, RepliesTo, StepsPool, StopsAsking, StopsAskingFirst, StopsPrefetchingFirst, StopsReplyingFirst, StopsStep, StopsTellingFirst, TellsFirst, TellsLateFirst, asks_with, has_turn, keeps_chain_end, keeps_end, lets_go, with_stored, without_chain_end, without_failure}
use Rattle.yimarotu_forwarder.specs.Telling.{EndsFetch, EndsForMemory, Finishes, Hears, StopsNext, StopsTelling, Tells, TellsAsker, TellsFetch, TellsKey, TellsNext, counts_asker, forgets_asker, heard_so, reason_of, response_of, told_of, whole_end}
use Rattle.yimarotu_forwarder.specs.declared.answered.Answered.{Answered}
use Rattle.yimarotu_forwarder.specs.declared.answered.Answered.TheVariants.{Dropped}
use Rattle.yimarotu_forwarder.specs.declared.steps.ForwarderAction.{ForwarderAction}
use Rattle.yimarotu_forwarder.specs.declared.steps.ForwarderAction.TheVariants as act
use Rattle.yimarotu_forwarder_theorems.specs.Runs.{ForwarderEvent, Happens, given_by, all_is_cleared, channel_fails as fails_channel, client_is_gone, is_stepped, local_data_is, name_is_flushed, octets_come as octets_came, options_are, query_comes, query_is_refused, servers_are, step_is_refused, time_passes as moment_comes}
use Rattle.yimarotu_forwarder_theorems.proofs.Parts.{Asks, Goes, IsKept, Move, Moves, Near, Part, as_before, asker_ends, asker_goes, asker_leads, client_goes, counts_one, fetch_asks, fetch_begins, fetch_changes, more, move-one, near_by, event_goes, part, pool_hears, pool_steps, told_all, turn_ends, turn_passes}

-- ---- what it does with the pool

near-same : (b a : ForwarderValue) → part a ≡ part b → Near b a
near-same b a is = as_before (part b) (part a) is

near-one : (b a : ForwarderValue) → Move (part b) (part a) → Near b a
near-one b a first = move-one (part b) (part a) first

-- a question is asked of it first
after-asking : (group : ℕ) (q : Query) (dnssec unchecked : Bool) (b a : ForwarderValue)
    → Near (after_ask group (pool_question q dnssec unchecked b) b) a → Near b a
after-asking group q dnssec unchecked b a near =
    more (part b) (part (after_ask group (pool_question q dnssec unchecked b) b)) (part a)
    (pool_hears (is_asked group q (request_options_of b.pool.options) (dnssec_of dnssec unchecked b) b.clock) refl tt
    refl) near

-- that which a fetch has to ask, and an asker is given
asks-so : (group : ℕ) (f : FetchValue) (unchecked : Bool) (b : ForwarderValue) (x : Asker)
    → pool_says group (pool_question f.lookup.next f.lookup.dnssec unchecked b) b ≡ asked.Asker x
    → Asks f x.number b.pool (after_ask group (pool_question f.lookup.next f.lookup.dnssec unchecked b) b).pool
asks-so group f unchecked b x says = record {
  group = group;
  options = request_options_of b.pool.options;
  dnssec = dnssec_of f.lookup.dnssec unchecked b;
  now = b.clock;
  asker = x;
  with_do = refl;
  given = says;
  number_is = refl;
  after_is = refl;
}

-- ---- a query

-- the question of a request
abbrev question-of : Query → RequestValue → ForwarderValue → PoolQuestion
question-of q r b = pool_question q (asks_dnssec r.query.edns) (bit 16 r.query.flags) b

module _ {b0 : ForwarderValue} {answered : Answered} {a0 : ForwarderValue} {r0 : RequestValue}
    (x : AnswersRequest b0 answered a0 r0) where
  refuses : (r : RequestValue) (why : Refusal) (b a : ForwarderValue) → Refuses b r why x.became a → Near b a
  refuses r why b a h = near-same b a (ap part h.1)

  fails : (r : RequestValue) (why : FailureReason) (b a : ForwarderValue) → Fails b r why x.became a → Near b a
  fails r why b a h = near-same b a (ap part h.1)

  past-bound : (r : RequestValue) (b a : ForwarderValue) → IsPastBound r b x.became a → Near b a
  past-bound r b a h = by r.client.is_stream h
    where
      by : (stream : Bool) → IsPastBoundBy stream r b x.became a → Near b a
      by true h = fails r reason.NotReady b a h
      by false h = near-same b a (ap part h.1)

  begins-with : (q : Query) (r w : RequestValue) (group : ℕ) (b a : ForwarderValue)
      → fetch_at (key_of r) b.fetches ≡ None → BeginsWith q r (question-of q r b) group b x.became a w → Near b a
  begins-with q r w group b a none h = by (pool_says group (question-of q r b) b) refl h
    where
      by : (what : pool_asked.Asked) → pool_says group (question-of q r b) b ≡ what
          → BeginsBy what q r w (after_ask group (question-of q r b) b) x.became a → Near b a
      by (asked.Asker k) says h =
          let f = new_fetch q r w b.generation b.clock in
          near-one b a (fetch_begins (key_of r) f k.number (after_ask group (question-of q r b) b).pool none
          (asks-so group f (bit 16 r.query.flags) b k says) h.begins (ap part h.others_are))
      by asked.Overloaded says h =
          after-asking group q (asks_dnssec r.query.edns) (bit 16 r.query.flags) b a
          (past-bound r (after_ask group (question-of q r b) b) a h)
      by asked.NoServers says h =
          after-asking group q (asks_dnssec r.query.edns) (bit 16 r.query.flags) b a
          (fails r reason.NoReachableAuthority (after_ask group (question-of q r b) b) a h)

  begins-lookup : (q : Query) (r : RequestValue) (group : ℕ) (b a : ForwarderValue)
      → fetch_at (key_of r) b.fetches ≡ None → BeginsLookup q r group b x.became a → Near b a
  begins-lookup q r group b a none h = by (may_begin r b) h
    where
      waits : (w : Option RequestValue)
          → MatchOption w (Refuses b r refusal.FormErr x.became a)
          (BeginsWith q r (question-of q r b) group b x.became a) → Near b a
      waits None h = refuses r refusal.FormErr b a h
      waits (Some w) h = begins-with q r w group b a none h

      by : (room : Bool) → BeginsOr room q r group b x.became a → Near b a
      by false h = past-bound r b a h
      by true h = waits (waiting_of r) h

  told-octets : (octets : List ℕ) (b a : ForwarderValue) → a ≡ record b { reply = octets } → Near b a
  told-octets octets b a h = near-same b a (ap part h)

  joins-lookup : (r : RequestValue) (f : FetchValue) (b a : ForwarderValue) → fetch_at (key_of r) b.fetches ≡ Some f
      → JoinsLookup r b x.became a f → Near b a
  joins-lookup r f b a there h = by (has_request r f) h
    where
      waits : (w : Option RequestValue) → MatchOption w (Refuses b r refusal.FormErr x.became a) (JoinsFetch r b x.became a) → Near b a
      waits None h = refuses r refusal.FormErr b a h
      waits (Some w) h =
          near-one b a (fetch_changes (key_of r) f (with_waiting w f) there refl
          (record {
            puts = subst
                (λ (o : Option FetchValue). PutsFetch (key_of r) (option_map (with_waiting w) o) b.fetches a.fetches)
                there h.joins.puts;
            others_stay = h.joins.others_stay;
          }) (ap part h.others_are))

      if-room : (room : Bool) → JoinsOr room r b x.became a → Near b a
      if-room false h = past-bound r b a h
      if-room true h = waits (waiting_of r) h

      if-told : (t : Option (List ℕ)) → late_hit f r b ≡ t
          → JoinsOrTold (late_hit f r b) (length f.waiting) r b x.became a → Near b a
      if-told None is h =
          let m = rw is at h in
          if-room (admits b.options.limits r.client.address (length f.waiting) b.counts) m
      if-told (Some octets) is h = let m = rw is at h in told-octets octets b a m.1

      by : (there : Bool) → JoinsBy there f r b x.became a → Near b a
      by true h = near-same b a (ap part h.1)
      by false h = if-told (late_hit f r b) refl h

  looks-up : (r : RequestValue) (q : Query) (group : ℕ) (b a : ForwarderValue) → LooksUp r q group b x.became a
      → Near b a
  looks-up r q group b a h = by (fetch_at (key_of r) b.fetches) refl h
    where
      by : (f : Option FetchValue) → fetch_at (key_of r) b.fetches ≡ f
          → MatchOption f (BeginsLookup q r group b x.became a) (JoinsLookup r b x.became a) → Near b a
      by None none h = begins-lookup q r group b a none h
      by (Some f) there h = joins-lookup r f b a there h

  tells-or : (Else : ℕ → Answering) (r : RequestValue) (q : Query) (found : Decision) (b a : ForwarderValue)
      → ((group : ℕ) → Else group b x.became a → Near b a) → TellsOr Else r q found b x.became a → Near b a
  tells-or Else r q (decision.Answer kept) b a otherwise h = near-same b a (ap part h.1)
  tells-or Else r q (decision.Ask group) b a otherwise h = otherwise group h

  with-query : (Then : Query → Answering) (r : RequestValue) (b a : ForwarderValue)
      → ((q : Query) → Then q b x.became a → Near b a) → WithQuery Then r b x.became a → Near b a
  with-query Then r b a goes-on h = by (query_in r) h
    where
      by : (q : Option Query) → MatchOption q (Refuses b r refusal.FormErr x.became a) (λ q. Then q b x.became a) → Near b a
      by None h = refuses r refusal.FormErr b a h
      by (Some q) h = goes-on q h

  local-alone : (r : RequestValue) (b a : ForwarderValue) → TellsLocalAlone r b x.became a → Near b a
  local-alone r b a h =
      with-query (Decides (λ (group : ℕ) (x : ForwarderValue). Refuses x r refusal.Refused) r) r b a
      (λ q d. tells-or (λ (group : ℕ) (x : ForwarderValue). Refuses x r refusal.Refused) r q d.found b a
      (λ group told. refuses r refusal.Refused b a told) d.goes_on) h

  local-or-asked : (r : RequestValue) (b a : ForwarderValue) → TellsOrLooksUp r b x.became a → Near b a
  local-or-asked r b a h =
      with-query (λ (q : Query). Decides (LooksUp r q) r q) r b a
      (λ q d. tells-or (LooksUp r q) r q d.found b a (λ group looks. looks-up r q group b a looks) d.goes_on) h

  misses : (r : RequestValue) (b a : ForwarderValue) → Misses r b x.became a → Near b a
  misses r b a h = by (failure_at (key_of r) (second_of b) b.failures) h
    where
      again : (t : Option (List ℕ)) → stale_hit r (key_of r) b ≡ t → FailsAgain r b x.became a → Near b a
      again None is h = let m = rw is at h in fails r reason.CachedError b a m
      again (Some octets) is h = let m = rw is at h in told-octets octets b a m.1

      by : (f : Option FailureReason)
          → MatchOption f (TellsOrLooksUp r b x.became a) (λ why. FailsAgain r b x.became a) → Near b a
      by None h = local-or-asked r b a h
      by (Some why) h = again (stale_hit r (key_of r) b) refl h

  is-asked-for : (r : RequestValue) (b a : ForwarderValue) → AnswersAsked r b x.became a → Near b a
  is-asked-for r b a h = by (hit r b) refl
    where
      by : (t : Option (List ℕ)) → hit r b ≡ t → Near b a
      by None is = let m = rw is at h in misses r b a m
      by (Some octets) is = let m = rw is at h in near-same b a (ap part m.1)

  tells-local : (r : RequestValue) (q : Query) (kept : KeptValue) (b a : ForwarderValue)
      → TellsLocal b r q kept x.became a → Near b a
  tells-local r q kept b a h = near-same b a (ap part h.1)

  answers-as : (any : Bool) (r : RequestValue) (b a : ForwarderValue) → AnswersAs any r b x.became a → Near b a
  answers-as true r b a h =
      with-query (λ (q : Query) (x : ForwarderValue). TellsLocal x r q (any_reply q)) r b a
      (λ q t. tells-local r q (any_reply q) b a t) h
  answers-as false r b a h = is-asked-for r b a h

  serves : (any : Bool) (r : RequestValue) (b a : ForwarderValue) → Serves (AnswersAs any r) r b x.became a
      → Near b a
  serves any r b a h = by (bit 256 r.query.flags) (may_ask r.client.address b.options) h
    where
      away : (drop : Bool) → TurnsAway drop r b x.became a → Near b a
      away true h = near-same b a (ap part h.1)
      away false h = refuses r refusal.Refused b a h

      by : (recursion may : Bool) → ServesBy recursion may (AnswersAs any r) r b x.became a → Near b a
      by false may h = local-alone r b a h
      by true false h = away b.options.drops_strangers h
      by true true h = answers-as any r b a h

  tells-counts : (r : RequestValue) (b a : ForwarderValue)
      → TellsCounts (is_loopback r.client.address) r b x.became a → Near b a
  tells-counts r b a h = by (is_loopback r.client.address) h
    where
      by : (here : Bool) → TellsCounts here r b x.became a → Near b a
      by false h = refuses r refusal.Refused b a h
      by true h =
          with-query (λ (q : Query) (x : ForwarderValue). TellsLocal x r q (counts_reply q x.counted)) r b a
          (λ q t. tells-local r q (counts_reply q b.counted) b a t) h

  answers-by : (v : Verdict) (r : RequestValue) (b a : ForwarderValue) → AnswersBy v r b x.became a → Near b a
  answers-by (verdict.Refused why) r b a h = refuses r why b a h
  answers-by verdict.Statistics r b a h = tells-counts r b a h
  answers-by verdict.Any r b a h = serves true r b a h
  answers-by verdict.Asked r b a h = serves false r b a h

-- time passed first
ticked : (now : ℕ) (b a : ForwarderValue) → Near (at_moment now b) a → Near b a
ticked now b a near =
    more (part b) (part (at_moment now b)) (part a) (pool_hears (time_passes now) refl tt refl) near

query-near : (c : Client) (octets : List ℕ) (now : ℕ) (answered : Answered) (b a : ForwarderValue)
    → AnswersQuery c octets now b answered a → Near b a
query-near c octets now answered b a h = ticked now b a (by (request_of c octets) h)
  where
    by : (r : Option RequestValue)
        → MatchOption r ((answered ≡ Dropped) × (a ≡ at_moment now b)) (AnswersRequest (at_moment now b) answered a)
        → Near (at_moment now b) a
    by None h = near-same (at_moment now b) a (ap part h.1)
    by (Some r) h =
        subst (λ (c : Part). Moves (part (at_moment now b)) c) (sym (ap part h.counts))
        (answers-by h r.query.verdict r (at_moment now b) h.uncounted h.answers)

-- ---- a step

-- the question behind a key
abbrev lone-question : Query → List ℕ → ForwarderValue → PoolQuestion
lone-question q key b = pool_question q (key_dnssec key) (key_unchecked key) b

-- the first that has a question to ask is over
ends-turn : (key : List ℕ) (end : FetchEnd) (f : FetchValue) (b a : ForwarderValue)
    → slice_get b.fetches.to_ask 0 ≡ Some key → Finishes key end f (has_turn b) a → Near b a
ends-turn key end f b a turn h = near-one b a (turn_ends key turn h.ends (ap part h.others_are))

-- it asks its question
asks-pool : (group : ℕ) (key : List ℕ) (f : FetchValue) (b a : ForwarderValue)
    → slice_get b.fetches.to_ask 0 ≡ Some key → fetch_at key b.fetches ≡ Some f
    → AsksPool group key f (has_turn b) a → Near b a
asks-pool group key f b a turn there h = by (pool_says group (asks_with f b) b) refl h
  where
    ends : (end : FetchEnd) → Finishes key end f (after_ask group (asks_with f b) (has_turn b)) a → Near b a
    ends end h =
        after-asking group f.lookup.next f.lookup.dnssec f.checking_disabled b a
        (ends-turn key end f (after_ask group (asks_with f b) b) a turn h)

    by : (what : pool_asked.Asked) → pool_says group (asks_with f b) b ≡ what
        → AsksBy what key f (after_ask group (asks_with f b) (has_turn b)) a → Near b a
    by (asked.Asker k) says h =
        near-one b a (fetch_asks key f k.number (after_ask group (asks_with f b) b).pool turn there
        (asks-so group f f.checking_disabled b k says) (ap part h))
    by asked.Overloaded says h = ends (Failure reason.NotReady) h
    by asked.NoServers says h = ends (Failure reason.NoReachableAuthority) h

asks-or : (what : Decision) (key : List ℕ) (f : FetchValue) (b a : ForwarderValue)
    → slice_get b.fetches.to_ask 0 ≡ Some key → fetch_at key b.fetches ≡ Some f → AsksOr what key f (has_turn b) a
    → Near b a
asks-or (decision.Answer kept) key f b a turn there h =
    near-one b a (turn_ends key turn h.ends (ap part h.others_are))
asks-or (decision.Ask group) key f b a turn there h = by (kept_end f (has_turn b)) h
  where
    by : (end : Option (KeptValue × ℕ))
        → MatchOption end (AsksPool group key f (has_turn b) a)
        (λ end. EndsWith key end.0 end.1 f (with_asked_where (next_key f) (has_turn b)) a)
        → Near b a
    by None h = asks-pool group key f b a turn there h
    by (Some end) h = near-one b a (turn_ends key turn h.ends (ap part h.others_are))

asks-for : (key : List ℕ) (b a : ForwarderValue) → slice_get b.fetches.to_ask 0 ≡ Some key → AsksFor b a key → Near b a
asks-for key b a turn h = by (fetch_at key b.fetches) refl h
  where
    by : (f : Option FetchValue) → fetch_at key b.fetches ≡ f
        → MatchOption f (a ≡ has_turn b) (AsksNext key (has_turn b) a) → Near b a
    by None none h = near-one b a (turn_passes (ap part h))
    by (Some f) there h = asks-or h.found key f b a turn there h.asks

-- one more asker is told of the same transaction
hears : (over : OverValue) (asker : ℕ) (key : List ℕ) (f g : FetchValue) (b a : ForwarderValue)
    → asked_for asker b.fetches ≡ Some key → Hears (told_of over f) key g (forgets_asker asker b) a → Near b a
hears over asker key f g b a own h = by (response_of over) refl
  where
    ends : (end : FetchEnd) → EndsFetch key end g (forgets_asker asker b) a → Near b a
    ends end e = near-one b a (asker_ends asker key own e.ends (ap part e.others_are))

    by-heard : (m : WireMessage) → response_of over ≡ Some m → (what : Heard) → heard m f.lookup ≡ what → Near b a
    by-heard m is heard_as.Asks how =
        let e = rw (is, how) at h in near-one b a (asker_leads asker key g own e.0 (ap part e.1))
    by-heard m is (heard_as.Whole kept) how =
        let e = rw (is, how) at h in ends (whole_end kept g (forgets_asker asker b)) e
    by-heard m is heard_as.Fails how = let e = rw (is, how) at h in ends (Failure reason.Other) e

    by : (o : Option WireMessage) → response_of over ≡ o → Near b a
    by None is = let e = rw is at h in ends (Failure (reason_of over.outcome)) e
    by (Some m) is = by-heard m is (heard m f.lookup) refl

tells-asker : (over : OverValue) (asker : ℕ) (b a : ForwarderValue) → TellsAsker over asker b a → Near b a
tells-asker over asker b a h = by (asked_for asker b.fetches) refl h
  where
    by-key : (key : List ℕ) → asked_for asker b.fetches ≡ Some key → (f : Option FetchValue)
        → MatchOption f (a ≡ forgets_asker asker b) (TellsFetch over key (forgets_asker asker b) a) → Near b a
    by-key key own None h = near-one b a (asker_goes asker key own (ap part h))
    by-key key own (Some f) h = hears over asker key f (heard_so over (second_of b) f) b a own h

    by : (key : Option (List ℕ)) → asked_for asker b.fetches ≡ key → MatchOption key (a ≡ b) (TellsKey over asker b a)
        → Near b a
    by None own h = near-same b a (ap part h)
    by (Some key) own h = by-key key own (fetch_at key b.fetches) h

-- from the asker that is counted
counted : (t : TellingValue) (asker : ℕ) (b a : ForwarderValue) → b.telling ≡ Some t → Near (counts_asker t asker b) a
    → Near b a
counted t asker b a is near =
    more (part b) (part (counts_asker t asker b)) (part a) (counts_one t is refl) near

tells : (t : TellingValue) (b a : ForwarderValue) → b.telling ≡ Some t → Tells b a t → Near b a
tells t b a is h = by (slice_get t.over.askers t.told) h
  where
    by : (asker : Option ℕ) → MatchOption asker (a ≡ record b { telling = None }) (TellsNext t b a) → Near b a
    by None h = near-one b a (told_all (ap part h))
    by (Some asker) h = counted t asker b a is (tells-asker t.over asker (counts_asker t asker b) a h)

-- a question is looked up for which nobody waits
lone-with : (q : Query) (key : List ℕ) (group : ℕ) (b a : ForwarderValue) → fetch_at key b.fetches ≡ None
    → BeginsLoneWith q key (lone-question q key b) group b a → Near b a
lone-with q key group b a none h = by (pool_says group (lone-question q key b) b) refl h
  where
    none-begins : a ≡ after_ask group (lone-question q key b) b → Near b a
    none-begins h =
        after-asking group q (key_dnssec key) (key_unchecked key) b a
        (near-same (after_ask group (lone-question q key b) b) a (ap part h))

    by : (what : pool_asked.Asked) → pool_says group (lone-question q key b) b ≡ what
        → BeginsLoneBy what q key (after_ask group (lone-question q key b) b) a → Near b a
    by (asked.Asker k) says h =
        let f = lone_fetch q key b.generation b.clock in
        near-one b a (fetch_begins key f k.number (after_ask group (lone-question q key b) b).pool none
        (asks-so group f (key_unchecked key) b k says) h.begins (ap part h.others_are))
    by asked.Overloaded says h = none-begins h
    by asked.NoServers says h = none-begins h

lone-or : (what : Decision) (q : Query) (key : List ℕ) (b a : ForwarderValue) → fetch_at key b.fetches ≡ None
    → AsksLone what q key b a → Near b a
lone-or (decision.Answer kept) q key b a none h = near-same b a (ap part h)
lone-or (decision.Ask group) q key b a none h = lone-with q key group b a none h

prefetches : (key : List ℕ) (b a : ForwarderValue) → Prefetches b a key → Near b a
prefetches key b a h = by (fetch_at key b.fetches) refl h
  where
    by-query : (q : Option Query) → fetch_at key b.fetches ≡ None
        → MatchOption q (a ≡ without_prefetch b) (DecidesLone key (without_prefetch b) a) → Near b a
    by-query None none h = near-same b a (ap part h)
    by-query (Some q) none h = lone-or h.found q key (without_prefetch b) a none h.asks

    where-may : (may : Bool) → fetch_at key b.fetches ≡ None → PrefetchesWhere may key (without_prefetch b) a → Near b a
    where-may true none h = by-query (key_query key) none h
    where-may false none h = near-same b a (ap part h)

    by : (f : Option FetchValue) → fetch_at key b.fetches ≡ f
        → MatchOption f
        (PrefetchesWhere (may_prefetch key (without_prefetch b)) key (without_prefetch b) a)
        (λ f. a ≡ without_prefetch b)
        → Near b a
    by None none h = where-may (may_prefetch key (without_prefetch b)) none h
    by (Some f) there h = near-same b a (ap part h)

tells-late : (key : List ℕ) (b a : ForwarderValue) → TellsLate b a key → Near b a
tells-late key b a h = by (is_told_late key b) h
  where
    waiting : (f : Option FetchValue) → fetch_at key b.fetches ≡ f
        → MatchOption f (a ≡ passed_over b) (TellsWaiting key (passed_over b) a) → Near b a
    waiting None none h = near-same b a (ap part h)
    waiting (Some f) there h =
        near-one b a (fetch_changes key f (with_nobody f) there refl h.holds (ap part h.others_are))

    by : (told : Bool) → TellsLateIf told key (passed_over b) a → Near b a
    by false h = near-same b a (ap part h)
    by true h = waiting (fetch_at key b.fetches) refl h

keeps-chain-end : (e : ChainEndValue) (b a : ForwarderValue) → a ≡ keeps_chain_end e (without_chain_end b) → Near b a
keeps-chain-end e b a h = by (e.generation == b.generation) h
  where
    by : (own : Bool)
        → a ≡ (if own then without_failure e.key (with_stored e.key e.reply 1 (without_chain_end b)) else without_chain_end b)
        → Near b a
    by true h = near-same b a (ap part h)
    by false h = near-same b a (ap part h)

let-go : (r : ReplyingValue) (b a : ForwarderValue) → a ≡ lets_go r b → Near b a
let-go r b a h = by (r.generation == b.generation) r.end h
  where
    by : (own : Bool) (end : FetchEnd)
        → a ≡ (if own then keeps_end r.key end r.replies (record b { replying = None }) else record b { replying = None })
        → Near b a
    by true (Reply s) h = near-same b a (ap part h)
    by true (Failure why) h = near-same b a (ap part h)
    by false end h = near-same b a (ap part h)

steps-goes : (action : Option ForwarderAction) (b a : ForwarderValue) → ForwarderSteps b action a → Goes b a []
steps-goes action b a h = by-end b.chain_end h
  where
    by-late : (key : Option (List ℕ))
        → MatchOption key (StepsPool b action a) (λ key. (action ≡ Some act.Continue) × TellsLate b a key) → Goes b a []
    by-late None h = pool_steps h.did h.steps (ap part h.others_are)
    by-late (Some key) h = near_by (tells-late key b a h.1)

    by-prefetch : (key : Option (List ℕ))
        → MatchOption key (TellsLateFirst b action a) (λ key. (action ≡ Some act.Continue) × Prefetches b a key) → Goes b a []
    by-prefetch None h = by-late (first_due b) h
    by-prefetch (Some key) h = near_by (prefetches key b a h.1)

    by-telling : (t : Option TellingValue) → b.telling ≡ t
        → MatchOption t (PrefetchesFirst b action a) (λ t. (action ≡ Some act.Continue) × Tells b a t) → Goes b a []
    by-telling None is h = by-prefetch b.prefetch h
    by-telling (Some t) is h = near_by (tells t b a is h.1)

    by-turn : (key : Option (List ℕ)) → slice_get b.fetches.to_ask 0 ≡ key
        → MatchOption key (TellsFirst b action a) (λ key. (action ≡ Some act.Continue) × AsksFor b a key) → Goes b a []
    by-turn None turn h = by-telling b.telling refl h
    by-turn (Some key) turn h = near_by (asks-for key b a turn h.1)

    replies : (r : ReplyingValue) (w : Option RequestValue)
        → MatchOption w ((action ≡ Some act.Continue) × (a ≡ lets_go r b)) (RepliesTo r b action a) → Goes b a []
    replies r None h = near_by (let-go r b a h.1)
    replies r (Some w) h = near_by (near-same b a (ap part h.1))

    by-replying : (r : Option ReplyingValue)
        → MatchOption r (AsksFirst b action a) (RepliesNext b action a) → Goes b a []
    by-replying None h = by-turn (slice_get b.fetches.to_ask 0) refl h
    by-replying (Some r) h = replies r (slice_get r.waiting 0) h

    by-end : (e : Option ChainEndValue)
        → MatchOption e (RepliesFirst b action a)
        (λ e. (action ≡ Some act.Continue) × (a ≡ keeps_chain_end e (without_chain_end b))) → Goes b a []
    by-end None h = by-replying b.replying h
    by-end (Some e) h = near_by (keeps-chain-end e b a h.1)

-- ---- a step that is refused

stops-near : (b a : ForwarderValue) → StopsStep b a → Near b a
stops-near b a h = by-end b.chain_end h
  where
    next : (t : TellingValue) (asker : ℕ) → b.telling ≡ Some t → StopsNext t b a asker → Near b a
    next t asker is h = by (asked_for asker b.fetches) refl h
      where
        by-key : (key : List ℕ) → asked_for asker b.fetches ≡ Some key → (f : Option FetchValue)
            → MatchOption f ⊥ (λ f. EndsForMemory key (heard_so t.over (second_of b) f)
            (forgets_asker asker (counts_asker t asker b)) a) → Near b a
        by-key key own None h = absurd h
        by-key key own (Some f) h =
            counted t asker b a is
            (near-one (counts_asker t asker b) a (asker_ends asker key own h.ends (ap part h.others_are)))

        by : (key : Option (List ℕ)) → asked_for asker b.fetches ≡ key
            → MatchOption key ⊥ (λ key. MatchOption (fetch_at key b.fetches) ⊥
            (λ f. EndsForMemory key (heard_so t.over (second_of b) f)
            (forgets_asker asker (counts_asker t asker b)) a)) → Near b a
        by None own h = absurd h
        by (Some key) own h = by-key key own (fetch_at key b.fetches) h

    telling : (t : TellingValue) → b.telling ≡ Some t → StopsTelling b a t → Near b a
    telling t is (inl h) = near-same b a (ap part h)
    telling t is (inr h) = by (slice_get t.over.askers t.told) h
      where
        by : (asker : Option ℕ) → MatchOption asker ⊥ (StopsNext t b a) → Near b a
        by None h = absurd h
        by (Some asker) h = next t asker is h

    by-prefetch : (key : Option (List ℕ)) → MatchOption key (a ≡ b) (λ key. a ≡ without_prefetch b) → Near b a
    by-prefetch None h = near-same b a (ap part h)
    by-prefetch (Some key) h = near-same b a (ap part h)

    by-telling : (t : Option TellingValue) → b.telling ≡ t
        → MatchOption t (StopsPrefetchingFirst b a) (StopsTelling b a) → Near b a
    by-telling None is h = by-prefetch b.prefetch h
    by-telling (Some t) is h = telling t is h

    fetch : (key : List ℕ) → slice_get b.fetches.to_ask 0 ≡ Some key → (f : Option FetchValue)
        → MatchOption f ⊥ (λ f. EndsForMemory key f (has_turn b) a) → Near b a
    fetch key turn None h = absurd h
    fetch key turn (Some f) h = ends-turn key (Failure reason.Other) f b a turn h

    asking : (key : List ℕ) → slice_get b.fetches.to_ask 0 ≡ Some key → StopsAsking b a key → Near b a
    asking key turn (inl h) = near-same b a (ap part h)
    asking key turn (inr h) = fetch key turn (fetch_at key b.fetches) h

    by-turn : (key : Option (List ℕ)) → slice_get b.fetches.to_ask 0 ≡ key
        → MatchOption key (StopsTellingFirst b a) (StopsAsking b a) → Near b a
    by-turn None turn h = by-telling b.telling refl h
    by-turn (Some key) turn h = asking key turn h

    by-replying : (r : Option ReplyingValue) → MatchOption r (StopsAskingFirst b a) (IsLetGo b a) → Near b a
    by-replying None h = by-turn (slice_get b.fetches.to_ask 0) refl h
    by-replying (Some r) h = near-same b a (ap part h.1)

    by-end : (e : Option ChainEndValue) → MatchOption e (StopsReplyingFirst b a) (λ e. a ≡ without_chain_end b) → Near b a
    by-end None h = by-replying b.replying h
    by-end (Some e) h = near-same b a (ap part h)

-- ---- all that may happen

-- an event of the pool alone
by-event : (e : PoolEvent) → pool.given_by e ≡ [] → IsKept e → (b a : ForwarderValue)
    → part a ≡ record (part b) { pool = after_event b.pool e } → Goes b a []
by-event e none kept b a is = near_by (near-one b a (pool_hears e none kept is))

pub goes : (event : ForwarderEvent) (b a : ForwarderValue) → Happens event b a → Goes b a (given_by event)
goes (query_comes c octets now answered) b a h = near_by (query-near c octets now answered b a h)
goes (query_is_refused now) b a h = by-event (time_passes now) refl tt b a (ap part h)
goes (client_is_gone client) b a h = near_by (near-one b a (client_goes client (ap part h)))
goes (octets_came channel octets now) b a h = event_goes (octets_come channel octets now) tt (ap part h)
goes (fails_channel failure now) b a h = event_goes (channel_fails failure now) tt (ap part h)
goes (moment_comes now) b a h = by-event (time_passes now) refl tt b a (ap part h)
goes (servers_are group servers) b a h = event_goes (group_has group servers) tt (ap part h)
goes (local_data_is local) b a h = near_by (near-same b a (ap part h))
goes (options_are options) b a h = near_by (near-same b a (ap part h))
goes (name_is_flushed domain below) b a h = near_by (near-same b a (ap part h))
goes all_is_cleared b a h = near_by (near-same b a (ap part h))
goes (is_stepped action) b a h = steps-goes action b a h
goes step_is_refused b a h = near_by (stops-near b a h)
