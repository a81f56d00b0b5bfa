-- What a query changes.
use Rattle.std.proofs.Common.{◌≡◌, ◌∙◌, ℕ, ◌-◌, inl, inr, Bool, true, false, zero, suc, ◌+◌, List, [], ◌∷◌, ◌++◌, length, take, drop, refl, sym, ap, subst, arith}
use Rattle.std.specs.Prelude.{Option, None, Some, MatchOption, ◌&&◌, nat_le, nat_lt, if◌then◌else◌}
use Rattle.std.specs.Option.{option_map, option_and_then}
use Rattle.std.proofs.lemmas.Bool.{leb-false, leb-true}
use Rattle.std.proofs.lemmas.List.{drop-take}
use Rattle.hickory_proto_core.specs.declared.query.Query.{Query}
use Rattle.hickory_proto_wire.specs.Messages.{bit}
use Rattle.hickory_resolver_pool.specs.declared.pool.Asked as pool_asked
use Rattle.hickory_resolver_pool.specs.declared.pool.Asked.TheVariants as asked
use Rattle.client_limits.specs.Counts.{added, admits}
use Rattle.client_queries.specs.Refusals.{question_octets}
use Rattle.client_queries.specs.declared.query.Refusal.{Refusal}
use Rattle.client_queries.specs.declared.query.Refusal.TheVariants as refusal
use Rattle.client_queries.specs.declared.query.Verdict.{Verdict}
use Rattle.client_queries.specs.declared.query.Verdict.TheVariants as verdict
use Rattle.client_requests.specs.Keys.{dnssec_octet, key_of}
use Rattle.client_requests.specs.Replies.{failure_reply, refusal_reply, reply_to, stored_reply}
use Rattle.client_requests.specs.Requests.{RequestValue, question_of, request_of, waiting_of, waiting_up_to}
use Rattle.client_requests.specs.declared.client.Client.{Client}
use Rattle.failure_replies.specs.declared.failure.FailureReason.{FailureReason}
use Rattle.failure_replies.specs.declared.failure.FailureReason.TheVariants as reason
use Rattle.kept_failures.specs.Failures.{failure_at}
use Rattle.local_answers.specs.Told.{any_reply}
use Rattle.local_answers.specs.declared.local_data.Decision.{Decision}
use Rattle.local_answers.specs.declared.local_data.Decision.TheVariants as decision
use Rattle.second_chance_cache.specs.Laws.{asks}
use Rattle.stored_replies.specs.Key.{question_key}
use Rattle.stored_replies.specs.Told.{asks_dnssec}
use Rattle.whole_lookups.specs.Lookups.{begun}
use Rattle.whole_replies.specs.Kept.{KeptValue}
use Rattle.yimarotu_forwarder.specs.Cached.{CachedValue}
use Rattle.yimarotu_forwarder.specs.Counting.{answered_as}
use Rattle.yimarotu_forwarder.specs.Fetches.{FetchValue, fetch_at, has_request, with_waiting}
use Rattle.yimarotu_forwarder.specs.Forwarders.{ForwarderValue, at_moment, second_of}
use Rattle.yimarotu_forwarder.specs.Late.{is_late, late_hit}
use Rattle.yimarotu_forwarder.specs.LookingUp.{BeginsBy, BeginsFetch, BeginsLookup, BeginsOr, BeginsWith, IsPastBound, IsPastBoundBy, JoinsBy, JoinsFetch, JoinsLookup, JoinsOr, LooksUp, after_ask, may_begin, new_fetch, pool_question, pool_says}
use Rattle.yimarotu_forwarder.specs.Options.{may_ask}
use Rattle.yimarotu_forwarder.specs.Queries.{Answering, AnswersAs, AnswersAsked, AnswersBy, AnswersQuery, AnswersRequest, Decides, FailsAgain, Misses, Serves, ServesBy, TellsCounts, TellsLocalAlone, TellsOr, TellsOrLooksUp, TurnsAway, WithQuery, hit, query_in, told_in, with_hit}
use Rattle.yimarotu_forwarder.specs.Replying.{Fails, Refuses, TellsLocal, end_of}
use Rattle.yimarotu_forwarder.specs.Stale.{stale_hit}
use Rattle.yimarotu_forwarder.specs.Statistics.{counts_reply, is_loopback}
use Rattle.yimarotu_forwarder.specs.declared.answered.Answered.{Answered}
use Rattle.yimarotu_forwarder.specs.declared.answered.Answered.TheVariants.{Dropped, Replied, Waits}
use Rattle.yimarotu_forwarder_theorems.specs.ReplyOctets.{IsOwnReply, IsReplyToOctets, RepliesAtOnceAreOwn}
use Rattle.yimarotu_forwarder_theorems.proofs.Cores.{Nothing, Core, Joins, Puts, Stills, as_before, cache_changes, core, more, waiting_for}
use Rattle.yimarotu_forwarder_theorems.proofs.Keys.{own-dnssec}
use Rattle.yimarotu_forwarder_theorems.proofs.Octets.{failure-own, refusal-own, reply-own, stale-hit-own, stored-own}

-- ---- a request that waits has its question still

take-twice : (n : ℕ) (xs : List ℕ) → take n (take n xs) ≡ take n xs
take-twice zero xs = refl
take-twice (suc n) [] = refl
take-twice (suc n) (x ∷ xs) = ap (λ (ys : List ℕ). x ∷ ys) (take-twice n xs)

taken-question : (octets : List ℕ) (end : ℕ)
    → take (end - 12) (drop 12 (take end octets)) ≡ take (end - 12) (drop 12 octets)
taken-question octets end = by (nat_le 12 end) refl
  where
    by : (b : Bool) → nat_le 12 end ≡ b
        → take (end - 12) (drop 12 (take end octets)) ≡ take (end - 12) (drop 12 octets)
    by true h =
        let enough = leb-true 12 end h in
        let whole : end ≡ 12 + (end - 12) = omega (arith, enough) in
        ap (λ (n : ℕ). take (end - 12) (drop 12 (take n octets))) whole
        ∙ ap (take (end - 12)) (drop-take 12 (end - 12) octets)
        ∙ take-twice (end - 12) (drop 12 octets)
    by false h =
        let few = leb-false 12 end h in
        let none : end - 12 ≡ 0 = omega (arith, few) in
        ap (λ (n : ℕ). take n (drop 12 (take end octets))) none
        ∙ sym (ap (λ (n : ℕ). take n (drop 12 octets)) none)

-- its key is that of the request
pub key-kept : (r w : RequestValue) → waiting_of r ≡ Some w → key_of w ≡ key_of r
key-kept r w h = by r.query.question_end refl h
  where
    by : (o : Option ℕ) → r.query.question_end ≡ o → option_map (waiting_up_to r) o ≡ Some w → key_of w ≡ key_of r
    by None is h = absurd cc
    by (Some end) is h =
        let same : waiting_up_to r end ≡ w = cc in
        let question : question_octets (take end r.octets) r.query.question_end ≡ question_of r =
        ap (question_octets (take end r.octets)) is ∙ taken-question r.octets end
        ∙ sym (ap (question_octets r.octets) is) in
        ap key_of (sym same) ∙ ap (λ (q : List ℕ). dnssec_octet r.query ∷ question_key q) question

client-kept : (r w : RequestValue) → waiting_of r ≡ Some w → w.client ≡ r.client
client-kept r w h = by r.query.question_end h
  where
    by : (o : Option ℕ) → option_map (waiting_up_to r) o ≡ Some w → w.client ≡ r.client
    by None h = absurd cc
    by (Some end) h = let same : waiting_up_to r end ≡ w = cc in ap (λ (x : RequestValue). x.client) (sym same)

-- ---- moves

-- a reply that is made at once is one to this request
abbrev IsReplied : RequestValue → ForwarderValue → Answered → Type 0
IsReplied r after answered = answered ≡ Replied → IsOwnReply r after.reply

-- Nobody comes to wait, or this request does.
pub data Moves (r : RequestValue) (before after : ForwarderValue) (answered : Answered) : Type 0 where
  stays : (answered ≡ Waits → ⊥) → IsReplied r after answered → Stills Nothing (core before) (core after)
      → Moves r before after answered
  joins : (w : RequestValue) → answered ≡ Waits → waiting_of r ≡ Some w → Joins w (core before) (core after)
      → Moves r before after answered

-- from what has the same core
from : (r : RequestValue) (before between after : ForwarderValue) (answered : Answered) → core between ≡ core before
    → Moves r between after answered → Moves r before after answered
from r before between after answered same (stays not own still) =
    stays not own (subst (λ (c : Core). Stills Nothing c (core after)) same still)
from r before between after answered same (joins w waits is j) =
    joins w waits is (subst (λ (c : Core). Joins w c (core after)) same j)

replied-so : (r : RequestValue) (b a : ForwarderValue) (answered : Answered) (octets : List ℕ) → answered ≡ Replied
    → IsOwnReply r octets → a ≡ record b { reply = octets } → Moves r b a answered
replied-so r b a answered octets is own h =
    stays never (λ replied. subst (IsOwnReply r) (sym (ap (λ (x : ForwarderValue). x.reply) h)) own)
    (as_before (core b) (core a) (ap core h))
  where
    never : answered ≡ Waits → ⊥
    never waits = let clash : Replied ≡ Waits = sym is ∙ waits in cc

dropped-so : (r : RequestValue) (b a : ForwarderValue) (answered : Answered) → answered ≡ Dropped → a ≡ b
    → Moves r b a answered
dropped-so r b a answered dropped h = stays never not-replied (as_before (core b) (core a) (ap core h))
  where
    not-replied : IsReplied r a answered
    not-replied is = let clash : Dropped ≡ Replied = sym dropped ∙ is in absurd cc

    never : answered ≡ Waits → ⊥
    never is = let clash : Dropped ≡ Waits = sym dropped ∙ is in cc

pub late-is : (f : FetchValue) (r : RequestValue) (b : ForwarderValue) (octets : List ℕ) → late_hit f r b ≡ Some octets
    → stale_hit r (key_of r) b ≡ Some octets
late-is f r b octets h = by (is_late f b.clock) h
  where
    by : (late : Bool) → (if late then stale_hit r (key_of r) b else None) ≡ Some octets
        → stale_hit r (key_of r) b ≡ Some octets
    by true e = e
    by false e = absurd cc

hit-own : (r : RequestValue) (b : ForwarderValue) (octets : List ℕ) → hit r b ≡ Some octets → IsOwnReply r octets
hit-own r b octets h = by (told_in b.cache (key_of r) (second_of b)) h
  where
    by : (o : Option CachedValue)
        → option_and_then (λ cached.
        stored_reply r cached.reply b.options.trusts_authentic_data (second_of b)) o
        ≡ Some octets
        → IsOwnReply r octets
    by None e = absurd cc
    by (Some cached) e = stored-own r cached.reply b.options.trusts_authentic_data (second_of b) octets e

module _ {b0 : ForwarderValue} {answered : Answered} {a0 : ForwarderValue} {r0 : RequestValue}
    (x : AnswersRequest b0 answered a0 r0) where
  refuses : (r : RequestValue) (why : Refusal) (b a : ForwarderValue) → Refuses b r why x.became a
      → Moves r b a (answered_as x.became)
  refuses r why b a h =
      replied-so r b a (answered_as x.became) (refusal_reply r why) (ap answered_as h.0) (refusal-own r why) h.1

  fails : (r : RequestValue) (why : FailureReason) (b a : ForwarderValue) → Fails b r why x.became a
      → Moves r b a (answered_as x.became)
  fails r why b a h =
      replied-so r b a (answered_as x.became) (failure_reply r why) (ap answered_as h.0) (failure-own r why) h.1

  -- ---- where there is no place

  past-bound : (r : RequestValue) (b a : ForwarderValue) → IsPastBound r b x.became a
      → Moves r b a (answered_as x.became)
  past-bound r b a h = by r.client.is_stream h
    where
      by : (stream : Bool) → IsPastBoundBy stream r b x.became a → Moves r b a (answered_as x.became)
      by true h = fails r reason.NotReady b a h
      by false h = dropped-so r b a (answered_as x.became) (ap answered_as h.0) h.1

  -- ---- a look-up

  begins-fetch : (q : Query) (r w : RequestValue) (asker : ℕ) (b a : ForwarderValue)
      → fetch_at (key_of r) b.fetches ≡ None → admits b.options.limits r.client.address 0 b.counts ≡ true
      → waiting_of r ≡ Some w → BeginsFetch q r w asker b x.became a → Moves r b a (answered_as x.became)
  begins-fetch q r w asker b a none room is h =
      let client : w.client ≡ r.client = client-kept r w is in
      joins w (ap answered_as h.waits) is (record {
        key = key_of r;
        own = key-kept r w is;
        fetch = new_fetch q r w b.generation b.clock;
        puts = h.begins.puts;
        others_are =
            ap core h.others_are
            ∙ ap (λ (x : Client). record (core b) {
              counts = added x.address b.counts;
              fetches = a.fetches.fetches;
            }) (sym client);
        admitted =
            ap (λ (x : Client). admits b.options.limits x.address
            (length (waiting_for (fetch_at (key_of r) b.fetches))) b.counts) client
            ∙ ap (λ (held : Option FetchValue). admits b.options.limits r.client.address (length (waiting_for held))
            b.counts) none ∙ room;
        waiting = sym (ap (λ (held : Option FetchValue). waiting_for held ++ w ∷ []) none);
        lookup = inl (q, ap (begun q) (sym (own-dnssec r)));
      })

  joins-fetch : (r w : RequestValue) (f : FetchValue) (b a : ForwarderValue)
      → fetch_at (key_of r) b.fetches ≡ Some f
      → admits b.options.limits r.client.address (length f.waiting) b.counts ≡ true
      → waiting_of r ≡ Some w → JoinsFetch r b x.became a w → Moves r b a (answered_as x.became)
  joins-fetch r w f b a found room is h =
      let client : w.client ≡ r.client = client-kept r w is in
      joins w (ap answered_as h.waits) is (record {
        key = key_of r;
        own = key-kept r w is;
        fetch = with_waiting w f;
        puts =
            subst (λ (held : Option FetchValue).
            Puts (key_of r) (option_map (with_waiting w) held) b.fetches.fetches a.fetches.fetches) found h.joins.puts;
        others_are =
            ap core h.others_are
            ∙ ap (λ (x : Client). record (core b) {
              counts = added x.address b.counts;
              fetches = a.fetches.fetches;
            }) (sym client);
        admitted =
            ap (λ (x : Client). admits b.options.limits x.address
            (length (waiting_for (fetch_at (key_of r) b.fetches))) b.counts) client
            ∙ ap (λ (held : Option FetchValue). admits b.options.limits r.client.address (length (waiting_for held))
            b.counts) found ∙ room;
        waiting = sym (ap (λ (held : Option FetchValue). waiting_for held ++ w ∷ []) found);
        lookup = inr (f, found, refl, refl);
      })

  begins-by : (what : pool_asked.Asked) (q : Query) (r w : RequestValue) (b a : ForwarderValue)
      → fetch_at (key_of r) b.fetches ≡ None → admits b.options.limits r.client.address 0 b.counts ≡ true
      → waiting_of r ≡ Some w → BeginsBy what q r w b x.became a → Moves r b a (answered_as x.became)
  begins-by (asked.Asker x) q r w b a none room is h =
      begins-fetch q r w x.number b a none room is h
  begins-by asked.Overloaded q r w b a none room is h = past-bound r b a h
  begins-by asked.NoServers q r w b a none room is h =
      fails r reason.NoReachableAuthority b a h

  begins-lookup : (q : Query) (r : RequestValue) (group : ℕ) (b a : ForwarderValue)
      → fetch_at (key_of r) b.fetches ≡ None → BeginsLookup q r group b x.became a → Moves r b a (answered_as x.became)
  begins-lookup q r group b a none h = by (may_begin r b) refl h
    where
      waits : (o : Option RequestValue) → waiting_of r ≡ o → admits b.options.limits r.client.address 0 b.counts ≡ true
          → MatchOption o (Refuses b r refusal.FormErr x.became a)
          (BeginsWith q r (pool_question q (asks_dnssec r.query.edns) (bit 16 r.query.flags) b) group b x.became a)
          → Moves r b a (answered_as x.became)
      waits None is room h = refuses r refusal.FormErr b a h
      waits (Some w) is room h =
          let question = pool_question q (asks_dnssec r.query.edns) (bit 16 r.query.flags) b in
          from r b (after_ask group question b) a (answered_as x.became) refl
          (begins-by (pool_says group question b) q r w (after_ask group question b) a none room is h)

      first-true : (one other : Bool) → (one && other) ≡ true → one ≡ true
      first-true true other is = refl
      first-true false other is = absurd (let no : false ≡ true = is in cc)

      by : (room : Bool) → may_begin r b ≡ room → BeginsOr room q r group b x.became a → Moves r b a (answered_as x.became)
      by false is h = past-bound r b a h
      by true is h =
          waits (waiting_of r) refl
          (first-true (admits b.options.limits r.client.address 0 b.counts)
          (nat_lt (length b.fetches.fetches) b.options.limits.all) is) h

  told-stale : (r : RequestValue) (octets : List ℕ) (b a : ForwarderValue) → stale_hit r (key_of r) b ≡ Some octets
      → answered_as x.became ≡ Replied → a ≡ record b { reply = octets } → Moves r b a (answered_as x.became)
  told-stale r octets b a is replied h =
      replied-so r b a (answered_as x.became) octets replied
      (stale-hit-own b.cache r (key_of r) b.options (second_of b) octets is) h

  joins-lookup : (r : RequestValue) (f : FetchValue) (b a : ForwarderValue)
      → fetch_at (key_of r) b.fetches ≡ Some f → JoinsLookup r b x.became a f → Moves r b a (answered_as x.became)
  joins-lookup r f b a found h = by (has_request r f) h
    where
      waits : (o : Option RequestValue) → waiting_of r ≡ o
          → admits b.options.limits r.client.address (length f.waiting) b.counts ≡ true
          → MatchOption o (Refuses b r refusal.FormErr x.became a) (JoinsFetch r b x.became a)
          → Moves r b a (answered_as x.became)
      waits None is room h = refuses r refusal.FormErr b a h
      waits (Some w) is room h = joins-fetch r w f b a found room is h

      if-room : (room : Bool) → admits b.options.limits r.client.address (length f.waiting) b.counts ≡ room
          → JoinsOr room r b x.became a → Moves r b a (answered_as x.became)
      if-room false is h = past-bound r b a h
      if-room true is h = waits (waiting_of r) refl is h

      by : (there : Bool) → JoinsBy there f r b x.became a → Moves r b a (answered_as x.became)
      by true h = dropped-so r b a (answered_as x.became) (ap answered_as h.0) h.1
      by false h = if-told (late_hit f r b) refl
        where
          if-told : (o : Option (List ℕ)) → late_hit f r b ≡ o → Moves r b a (answered_as x.became)
          if-told None is =
              let m = rw is at h in
              if-room (admits b.options.limits r.client.address (length f.waiting) b.counts) refl m
          if-told (Some octets) is =
              let m = rw is at h in
              told-stale r octets b a (late-is f r b octets is) (ap answered_as m.0) m.1

  looks-up : (r : RequestValue) (q : Query) (group : ℕ) (b a : ForwarderValue)
      → LooksUp r q group b x.became a → Moves r b a (answered_as x.became)
  looks-up r q group b a h = by (fetch_at (key_of r) b.fetches) refl h
    where
      by : (o : Option FetchValue) → fetch_at (key_of r) b.fetches ≡ o
          → MatchOption o (BeginsLookup q r group b x.became a) (JoinsLookup r b x.became a)
          → Moves r b a (answered_as x.became)
      by None is h = begins-lookup q r group b a is h
      by (Some f) is h = joins-lookup r f b a is h

  -- ---- what is known here

  tells-local : (r : RequestValue) (q : Query) (kept : KeptValue) (b a : ForwarderValue)
      → TellsLocal b r q kept x.became a → Moves r b a (answered_as x.became)
  tells-local r q kept b a h =
      replied-so r b a (answered_as x.became)
      (reply_to r (end_of q kept (second_of b)) b.options.trusts_authentic_data (second_of b)) (ap answered_as h.0)
      (reply-own r (end_of q kept (second_of b)) b.options.trusts_authentic_data (second_of b)) h.1

  tells-or : (Else : ℕ → Answering) (r : RequestValue) (q : Query) (found : Decision) (b a : ForwarderValue)
      → ((group : ℕ) → Else group b x.became a → Moves r b a (answered_as x.became))
      → TellsOr Else r q found b x.became a → Moves r b a (answered_as x.became)
  tells-or Else r q (decision.Answer kept) b a otherwise h = tells-local r q kept b a h
  tells-or Else r q (decision.Ask group) b a otherwise h = otherwise group h

  -- a request whose octets are no message is refused
  with-query : (Then : Query → Answering) (r : RequestValue) (b a : ForwarderValue)
      → ((q : Query) → Then q b x.became a → Moves r b a (answered_as x.became)) → WithQuery Then r b x.became a
      → Moves r b a (answered_as x.became)
  with-query Then r b a next h = by (query_in r) h
    where
      by : (o : Option Query) → MatchOption o (Refuses b r refusal.FormErr x.became a) (λ q. Then q b x.became a)
          → Moves r b a (answered_as x.became)
      by None h = refuses r refusal.FormErr b a h
      by (Some q) h = next q h

  local-alone : (r : RequestValue) (b a : ForwarderValue) → TellsLocalAlone r b x.became a
      → Moves r b a (answered_as x.became)
  local-alone r b a h =
      with-query (Decides (λ (group : ℕ) (x : ForwarderValue). Refuses x r refusal.Refused) r) r b a
      (λ q d. tells-or (λ (group : ℕ) (x : ForwarderValue). Refuses x r refusal.Refused) r q d.found b a
      (λ group told. refuses r refusal.Refused b a told) d.goes_on) h

  local-or-asked : (r : RequestValue) (b a : ForwarderValue) → TellsOrLooksUp r b x.became a
      → Moves r b a (answered_as x.became)
  local-or-asked r b a h =
      with-query (λ (q : Query). Decides (LooksUp r q) r q) r b a
      (λ q d. tells-or (LooksUp r q) r q d.found b a (λ group looks. looks-up r q group b a looks)
      d.goes_on) h

  -- ---- what is kept

  fails-again : (r : RequestValue) (b a : ForwarderValue) → FailsAgain r b x.became a
      → Moves r b a (answered_as x.became)
  fails-again r b a h = by (stale_hit r (key_of r) b) refl
    where
      by : (o : Option (List ℕ)) → stale_hit r (key_of r) b ≡ o → Moves r b a (answered_as x.became)
      by None is = let m = rw is at h in fails r reason.CachedError b a m
      by (Some octets) is = let m = rw is at h in told-stale r octets b a is (ap answered_as m.0) m.1

  misses : (r : RequestValue) (b a : ForwarderValue) → Misses r b x.became a
      → Moves r b a (answered_as x.became)
  misses r b a h = by (failure_at (key_of r) (second_of b) b.failures) h
    where
      by : (o : Option FailureReason)
          → MatchOption o (TellsOrLooksUp r b x.became a) (λ why. FailsAgain r b x.became a)
          → Moves r b a (answered_as x.became)
      by None h = local-or-asked r b a h
      by (Some why) h = fails-again r b a h

  marks : (r : RequestValue) (octets : List ℕ) (b a : ForwarderValue) → hit r b ≡ Some octets
      → answered_as x.became ≡ Replied → a ≡ record (with_hit (key_of r) b) { reply = octets }
      → Moves r b a (answered_as x.became)
  marks r octets b a is replied h =
      stays never (λ again. subst (IsOwnReply r) (sym (ap (λ (y : ForwarderValue). y.reply) h)) (hit-own r b octets is))
      (more (core b) (core (with_hit (key_of r) b)) (core a)
      (cache_changes (core b) (core (with_hit (key_of r) b)) (asks (key_of r) (second_of b)) tt refl)
      (as_before (core (with_hit (key_of r) b)) (core a) (ap core h)))
    where
      never : answered_as x.became ≡ Waits → ⊥
      never waits = let clash : Replied ≡ Waits = sym replied ∙ waits in cc

  asked-for : (r : RequestValue) (b a : ForwarderValue) → AnswersAsked r b x.became a
      → Moves r b a (answered_as x.became)
  asked-for r b a h = by (hit r b) refl
    where
      by : (o : Option (List ℕ)) → hit r b ≡ o → Moves r b a (answered_as x.became)
      by None is = let m = rw is at h in misses r b a m
      by (Some octets) is = let m = rw is at h in marks r octets b a is (ap answered_as m.0) m.1

  answers-as : (any : Bool) (r : RequestValue) (b a : ForwarderValue)
      → AnswersAs any r b x.became a → Moves r b a (answered_as x.became)
  answers-as true r b a h =
      with-query (λ (q : Query) (x : ForwarderValue). TellsLocal x r q (any_reply q)) r b a
      (λ q t. tells-local r q (any_reply q) b a t) h
  answers-as false r b a h = asked-for r b a h

  -- ---- the rows

  serves : (any : Bool) (r : RequestValue) (b a : ForwarderValue)
      → Serves (AnswersAs any r) r b x.became a → Moves r b a (answered_as x.became)
  serves any r b a h = by (bit 256 r.query.flags) (may_ask r.client.address b.options) h
    where
      away : (drop : Bool) → TurnsAway drop r b x.became a → Moves r b a (answered_as x.became)
      away true h = dropped-so r b a (answered_as x.became) (ap answered_as h.0) h.1
      away false h = refuses r refusal.Refused b a h

      by : (recursion may : Bool) → ServesBy recursion may (AnswersAs any r) r b x.became a
          → Moves r b a (answered_as x.became)
      by false may h = local-alone r b a h
      by true false h = away b.options.drops_strangers h
      by true true h = answers-as any r b a h

  tells-counts : (r : RequestValue) (b a : ForwarderValue)
      → TellsCounts (is_loopback r.client.address) r b x.became a → Moves r b a (answered_as x.became)
  tells-counts r b a h = by (is_loopback r.client.address) h
    where
      by : (here : Bool) → TellsCounts here r b x.became a → Moves r b a (answered_as x.became)
      by false h = refuses r refusal.Refused b a h
      by true h =
          with-query (λ (q : Query) (x : ForwarderValue). TellsLocal x r q (counts_reply q x.counted)) r b a
          (λ q t. tells-local r q (counts_reply q b.counted) b a t) h

  answers-by : (v : Verdict) (r : RequestValue) (b a : ForwarderValue)
      → AnswersBy v r b x.became a → Moves r b a (answered_as x.became)
  answers-by (verdict.Refused why) r b a h = refuses r why b a h
  answers-by verdict.Statistics r b a h = tells-counts r b a h
  answers-by verdict.Any r b a h = serves true r b a h
  answers-by verdict.Asked r b a h = serves false r b a h

-- ---- the whole

abbrev AtOnce : Client → List ℕ → ForwarderValue → Answered → Type 0
AtOnce c octets after answered = answered ≡ Replied → IsReplyToOctets c octets after.reply

-- A query leaves those who wait as they were, or one more waits.
pub data QueryMoves (c : Client) (octets : List ℕ) (before after : ForwarderValue) (answered : Answered) : Type 0 where
  query_stays : (answered ≡ Waits → ⊥) → AtOnce c octets after answered → Stills Nothing (core before) (core after)
      → QueryMoves c octets before after answered
  query_joins : (r w : RequestValue) → answered ≡ Waits → request_of c octets ≡ Some r → waiting_of r ≡ Some w
      → Joins w (core before) (core after) → QueryMoves c octets before after answered

pub answers : (c : Client) (octets : List ℕ) (now : ℕ) (before after : ForwarderValue) (answered : Answered)
    → AnswersQuery c octets now before answered after → QueryMoves c octets before after answered
answers c octets now before after answered h = by (request_of c octets) refl h
  where
    moves : (r : RequestValue) → request_of c octets ≡ Some r
        → (x : AnswersRequest (at_moment now before) answered after r)
        → Moves r before x.uncounted (answered_as x.became) → QueryMoves c octets before after answered
    moves r is x (stays not own still) =
        query_stays (λ waits. not (sym x.answered_is ∙ waits))
        (λ replied. record {
          request = r;
          read = is;
          own =
              subst (IsOwnReply r) (sym (ap (λ (y : ForwarderValue). y.reply) x.counts))
              (own (sym x.answered_is ∙ replied));
        })
        (subst (λ (c : Core). Stills Nothing (core before) c) (sym (ap core x.counts)) still)
    moves r is x (joins w waits kept j) =
        query_joins r w (x.answered_is ∙ waits) is kept
        (subst (λ (c : Core). Joins w (core before) c) (sym (ap core x.counts)) j)

    none : answered ≡ Dropped → AtOnce c octets after answered
    none dropped is = let clash : Dropped ≡ Replied = sym dropped ∙ is in absurd cc

    never : answered ≡ Dropped → answered ≡ Waits → ⊥
    never dropped is = let clash : Dropped ≡ Waits = sym dropped ∙ is in cc

    by : (o : Option RequestValue) → request_of c octets ≡ o
        → MatchOption o ((answered ≡ Dropped) × (after ≡ at_moment now before))
        (AnswersRequest (at_moment now before) answered after) → QueryMoves c octets before after answered
    by None is h = query_stays (never h.0) (none h.0) (as_before (core before) (core after) (ap core h.1))
    by (Some r) is h =
        moves r is h
        (from r before (at_moment now before) h.uncounted (answered_as h.became) refl
        (answers-by h r.query.verdict r (at_moment now before) h.uncounted h.answers))

pub replies_at_once_are_own : RepliesAtOnceAreOwn
replies_at_once_are_own c octets now before after h = by (answers c octets now before after Replied h)
  where
    by : QueryMoves c octets before after Replied → IsReplyToOctets c octets after.reply
    by (query_stays not own still) = own refl
    by (query_joins r w waits is kept j) = let clash : Replied ≡ Waits = waits in absurd cc
