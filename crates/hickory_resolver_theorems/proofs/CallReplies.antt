-- What a call answers among others keeps the promises of its sub-look-ups.
use Rattle.std.proofs.Common.{◌≡◌, ◌∙◌, ◌⊎◌, ◌≤◌, ℕ, Bool, true, List, [], ◌∷◌, ◌++◌, length, Err, refl, sym, ap, subst, arith, inl, inr, append_assoc}
use Rattle.std.specs.List.{AllByRecursion}
use Rattle.hickory_proto_core.specs.Codes.{type_code}
use Rattle.hickory_proto_core.specs.Table.{TableValue}
use Rattle.hickory_proto_core.specs.declared.query.Query.{Query}
use Rattle.hickory_proto_core.specs.declared.net_error.NetError.TheVariants.{OutOfMemory}
use Rattle.hickory_resolver_model.specs.Bounds.{ConfigValue}
use Rattle.hickory_resolver_model.specs.Cache.{CacheValue}
use Rattle.hickory_resolver_model.specs.Lookup.{LookupResult}
use Rattle.hickory_resolver_model.specs.Hosts.{Host, NotInHosts}
use Rattle.hickory_resolver_model.specs.Calls.{Source, Hosts, Client, SubLookup, SubLookupRelation, is_out_of_memory}
use Rattle.hickory_resolver_model.specs.Run.{Settings, Call, IsCall}
use Rattle.hickory_resolver_theorems.specs.Cacheless.{ResolvesTo, IsConsistentWith}
use Rattle.hickory_resolver_theorems.specs.CallFacts.{IsCallBy, IsOwnAnswer}
use Rattle.hickory_resolver_theorems.specs.CallReplies.{CachelessSubLookupOver, IsTransparentReply, IsOneCachelessCall, StartedWithinEight, IsPromisedCallReply, IsPromisedCallReplySince, ArePromisedCallReplies}
use Rattle.hickory_resolver_theorems.specs.Cores.{reply_core}
use Rattle.hickory_resolver_theorems.specs.Covered.{Dated}
use Rattle.hickory_resolver_theorems.specs.Interleaved.{DoneValue, world_of, EventValue, received_by, received_in, ended_by, ended_in, DoneWithinEight, IsMeant, IsSeenBy}
use Rattle.hickory_resolver_theorems.specs.InterleavedCalls.{DoneCallValue, CallEventValue, call_context_over, IsAskedIn, IsPromisedAmong, IsInterleavedLookup, IsInterleavedFrom, InterleavedSubLookup, IsPromisedCallEnd, IsPromisedCallEndSince, calls_ended_by, calls_received_by, calls_received_in}
use Rattle.hickory_resolver_theorems.specs.Statements.{LeastTtlIsZero, IsFreshReply, IsFreshSubLookup, IsCachelessSubLookup, CachelessSubLookup}
use Rattle.hickory_resolver_theorems.proofs.Lists.{all-weaker, all-front, has-all, contains-to_recursion}
use Rattle.hickory_resolver_theorems.proofs.Answered.{has-fresh}
use Rattle.hickory_resolver_theorems.proofs.Chains.{chain-all}
use Rattle.hickory_resolver_theorems.proofs.ConfigStays.{happen-config}
use Rattle.hickory_resolver_theorems.proofs.OneCacheless.{call-once}
use Rattle.hickory_resolver_theorems.proofs.PromisedCalls.{told-by, chain-by, out-is}
use Rattle.hickory_resolver_theorems.proofs.RunEvents.{received-append, ended-append}
use Rattle.hickory_resolver_theorems.proofs.Runs.{reply-more}
use Rattle.hickory_resolver_theorems.proofs.UnlessOut.{call-unless}
use Rattle.hickory_resolver_theorems.proofs.Weaker.{call-weaker}
use Rattle.hickory_resolver_theorems.proofs.CallInterleavings.{calls_interleaved}

abbrev IsFreshFor : ConfigValue → List Dated → Query → ℕ → LookupResult → Type 0
IsFreshFor config sources q now result = LeastTtlIsZero config (type_code q.query_type) → IsFreshReply config sources (type_code q.query_type) now result

module _ (s : Settings) (empty : CacheValue) (tables : List (List Host)) (lookups : List EventValue) where
  -- ---- a look-up that ended among these

  module _ (d : DoneValue) (among : IsPromisedAmong s.preserve_intermediates empty lookups d) where
    abbrev received_then : List Dated
    received_then = received_in among.earlier ++ received_by among.event

    abbrev ended_then : List DoneValue
    ended_then = ended_in among.earlier ++ ended_by among.event

    received-split : received_in lookups ≡ received_then ++ received_in among.later
    received-split =
        ap received_in among.are ∙ received-append among.earlier (among.event ∷ among.later)
        ∙ sym (append_assoc (received_in among.earlier) (received_by among.event) (received_in among.later))

    ended-split : ended_in lookups ≡ ended_then ++ ended_in among.later
    ended-split =
        ap ended_in among.are ∙ ended-append among.earlier (among.event ∷ among.later)
        ∙ sym (append_assoc (ended_in among.earlier) (ended_by among.event) (ended_in among.later))

    -- it is fresh by all that was received
    done-fresh : IsFreshFor empty.config (received_in lookups) d.question d.now d.result
    done-fresh zero =
        let own : IsFreshFor empty.config received_then d.question d.now d.result =
        subst (λ config. IsFreshFor config received_then d.question d.now d.result) (happen-config s.preserve_intermediates (world_of empty) among.earlier among.before among.happened) among.promised.fresh in
        subst (λ xs. IsFreshReply empty.config xs (type_code d.question.query_type) d.now d.result) (sym received-split)
        (reply-more empty.config received_then (received_in among.later) (type_code d.question.query_type) d.now d.result (own zero))

    -- what tells all that was received and ended tells what was so then
    done-meant : (table : TableValue) → IsSeenBy table s.preserve_intermediates (received_in lookups) (ended_in lookups) → IsMeant table d
    done-meant table (off, apart, tells, few) =
        among.promised.transparent table (
          off,
          apart,
          all-front (λ x. IsConsistentWith table x.exchange) received_then (received_in among.later) (subst (AllByRecursion (λ x. IsConsistentWith table x.exchange)) received-split tells),
          all-front (DoneWithinEight table) ended_then (ended_in among.later) (subst (AllByRecursion (DoneWithinEight table)) ended-split few),
        )

  -- ---- a part

  module _ (now : ℕ) where
    abbrev Answers : SubLookupRelation
    Answers = InterleavedSubLookup s empty tables lookups now

    lookup-fresh : (with_hosts : Bool) (p : SubLookup) → IsInterleavedLookup s empty tables lookups now with_hosts p → IsFreshFor empty.config (received_in lookups) p.question now p.result
    lookup-fresh with_hosts p is =
        let d = is.lookup in
        let own = done-fresh d is.promised in
        let asked = subst (λ q. IsFreshFor empty.config (received_in lookups) q d.now d.result) is.question_is own in
        let dated = subst (λ n. IsFreshFor empty.config (received_in lookups) p.question n d.result) is.now_is asked in
        subst (λ r. IsFreshFor empty.config (received_in lookups) p.question now r) is.result_is dated

    part-fresh : (with_hosts : Bool) (before : CacheValue) (q : Query) (p : SubLookup) (after : CacheValue) → Answers with_hosts before q p after → IsFreshSubLookup empty.config (λ code. received_in lookups) now p
    part-fresh with_hosts before q p after (for, is) = by p.source refl is
      where
        by : (source : Source) → p.source ≡ source → IsInterleavedFrom source s empty tables lookups now with_hosts before p after → IsFreshSubLookup empty.config (λ code. received_in lookups) now p
        by Hosts e part = λ client. absurd (let clash : Hosts ≡ Client = sym e ∙ client in cc)
        by Client e (own, same) = λ client zero. lookup-fresh with_hosts p own zero

    part-few : (with_hosts : Bool) (before : CacheValue) (q : Query) (p : SubLookup) (after : CacheValue) → Answers with_hosts before q p after → length p.asks ≤ 8
    part-few with_hosts before q p after (for, is) = by p.source is
      where
        by : (source : Source) → IsInterleavedFrom source s empty tables lookups now with_hosts before p after → length p.asks ≤ 8
        by Hosts (hosts, stood, part) = omega (arith, ap length part.nothing_asked)
        by Client (own, same) = subst (λ xs. length xs ≤ 8) own.asks_are own.promised.promised.few

    -- a part is out of memory, or the cacheless resolver's
    abbrev PartAlike : TableValue → Bool → CacheValue → Query → SubLookup → CacheValue → Type 0
    PartAlike table with_hosts before q p after = (is_out_of_memory p.result ≡ true) ⊎ CachelessSubLookupOver table s tables now with_hosts before q p after

    part-alike : (table : TableValue) → IsSeenBy table s.preserve_intermediates (received_in lookups) (ended_in lookups) → (with_hosts : Bool) (before : CacheValue) (q : Query) (p : SubLookup) (after : CacheValue) → Answers with_hosts before q p after → PartAlike table with_hosts before q p after
    part-alike table seen with_hosts before q p after (for, is) = by p.source is
      where
        meant : (own : IsInterleavedLookup s empty tables lookups now with_hosts p) → after ≡ before → IsMeant table own.lookup → PartAlike table with_hosts before q p after
        meant own same (inl out) = inl (ap is_out_of_memory (sym own.result_is ∙ out))
        meant own same (inr (n, means)) =
            let asked = subst (λ x. ResolvesTo table x (reply_core own.lookup.result) n) (own.question_is ∙ for) means in
            let cacheless : IsCachelessSubLookup table (call_context_over s now own.hosts) with_hosts q p = record {
              reply = reply_core p.result;
              length_is = n;
              not_in_hosts = subst (λ x. NotInHosts with_hosts x now own.hosts) for own.not_in_hosts;
              means = subst (λ r. ResolvesTo table q (reply_core r) n) own.result_is asked;
              result_is = refl;
            } in
            inr (own.hosts, own.stood, (for, inr (cacheless, same)))

        by : (source : Source) → IsInterleavedFrom source s empty tables lookups now with_hosts before p after → PartAlike table with_hosts before q p after
        by Hosts (hosts, stood, part) = inr (hosts, stood, (for, inl part))
        by Client (own, same) = meant own same (done-meant own.lookup own.promised table seen)

  -- ---- a call

  module _ (received : List Dated) (received_is : received_in lookups ≡ received) (d : DoneCallValue) (is : IsPromisedCallEnd s empty tables lookups d) where
    parts-fresh : AllByRecursion (IsFreshSubLookup empty.config (λ code. received) d.now) is.parts
    parts-fresh =
        subst (λ xs. AllByRecursion (IsFreshSubLookup empty.config (λ code. xs) d.now) is.parts) received_is
        (chain-all (Answers d.now) (IsFreshSubLookup empty.config (λ code. received_in lookups) d.now) (part-fresh d.now) empty is.parts empty
        (chain-by (Answers d.now) s empty d.call is.parts d.result empty is.is))

    transparent : IsTransparentReply s empty tables received (ended_in lookups) d is.parts
    transparent table seen = by is.is
      where
        seen_by : IsSeenBy table s.preserve_intermediates (received_in lookups) (ended_in lookups)
        seen_by = subst (λ xs. IsSeenBy table s.preserve_intermediates xs (ended_in lookups)) (sym received_is) seen

        Cacheless : SubLookupRelation
        Cacheless = CachelessSubLookupOver table s tables d.now

        on : (is_out_of_memory d.result ≡ true) ⊎ IsCall Cacheless s empty d.call is.parts d.result empty → (d.result ≡ Err OutOfMemory) ⊎ IsCall Cacheless s empty d.call is.parts d.result empty
        on (inl out) = inl (out-is d.result out)
        on (inr alike) = inr alike

        by : IsCallBy (Answers d.now) s empty d.call is.parts d.result empty → (d.result ≡ Err OutOfMemory) ⊎ IsCall Cacheless s empty d.call is.parts d.result empty
        by (inl call) =
            on (call-unless (Answers d.now) Cacheless (λ c. Unit {0}) (λ p. Unit {0}) (λ c. c) (λ with_hosts before q p after holds own answered. (part-alike d.now table seen_by with_hosts before q p after answered, tt))
            s empty d.call is.parts d.result empty tt (has-all (λ p. Unit {0}) is.parts (λ p h. tt)) call).0
        by (inr (none, e, same)) = inl e

    reply-promised : IsPromisedCallReply s empty tables lookups received d
    reply-promised = record {
      is = is;
      few = chain-all (Answers d.now) (λ p. length p.asks ≤ 8) (part-few d.now) empty is.parts empty (chain-by (Answers d.now) s empty d.call is.parts d.result empty is.is);
      fresh = record {
        parts_are = parts-fresh;
        answers_are = has-fresh (IsOwnAnswer d.call) empty.config (λ code. received) d.now is.parts d.result parts-fresh (told-by (Answers d.now) s empty d.call is.parts d.result empty is.is);
      };
      transparent = transparent;
    }

-- a look-up of a call that was started, where each question of these means something
asked-meant : (s : Settings) (table : TableValue) (events : List CallEventValue) → StartedWithinEight table s events → (d : DoneValue) → IsAskedIn s events d → DoneWithinEight table d
asked-meant s table events means d (call, started, of) = means call d.now d.question started of

pub replies_promised : (s : Settings) (empty : CacheValue) (first : List Host) → ArePromisedCallReplies s empty first
replies_promised s empty first none events event before after happen happens =
    let is = calls_interleaved s empty first none events event before after happen happens in
    let received = calls_received_in events ++ calls_received_by event in
    record {
      is = is;
      replies = all-weaker (IsPromisedCallEndSince s empty first (events ++ event ∷ []) is.lookups) (IsPromisedCallReplySince s empty first (events ++ event ∷ []) is.lookups received)
          (λ d ended. (ended.0, ended.1, reply-promised s empty ended.0 is.lookups received is.received_is d ended.2)) (calls_ended_by event) is.ended;
      meant = λ table means. all-weaker (IsAskedIn s (events ++ event ∷ [])) (DoneWithinEight table) (asked-meant s table (events ++ event ∷ []) means) (ended_in is.lookups) is.asked;
    }

-- ---- one reply without a cache

one-table : (table : TableValue) (s : Settings) (hosts : List Host) (now : ℕ) (with_hosts : Bool) (before : CacheValue) (q : Query) (p : SubLookup) (after : CacheValue) → CachelessSubLookupOver table s (hosts ∷ []) now with_hosts before q p after → CachelessSubLookup table (call_context_over s now hosts) with_hosts before q p after
one-table table s hosts now with_hosts before q p after (found, has, is) = by (contains-to_recursion (hosts ∷ []) found has)
  where
    by : (found ≡ hosts) ⊎ ⊥ → CachelessSubLookup table (call_context_over s now hosts) with_hosts before q p after
    by (inl e) = subst (λ h. CachelessSubLookup table (call_context_over s now h) with_hosts before q p after) e is
    by (inr never) = absurd never

pub one_cacheless_call : (table : TableValue) (s : Settings) (empty : CacheValue) (hosts : List Host) (now : ℕ) (call : Call) → IsOneCachelessCall table s empty hosts now call
one_cacheless_call table s empty hosts now call parts others a b is too live alive =
    let t = call_context_over s now hosts in
    let over = CachelessSubLookupOver table s (hosts ∷ []) now in
    let one : (ps : List SubLookup) (r : LookupResult) → IsCall over s empty call ps r empty → IsCall (CachelessSubLookup table t) s empty call ps r empty = λ ps r h. call-weaker over (CachelessSubLookup table t) (one-table table s hosts now) s empty call ps r empty h in
    call-once table s t call empty empty empty empty parts others a b live alive (one parts a is) (one others b too)
