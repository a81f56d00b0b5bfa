-- What a step leaves that is refused for memory.
use Rattle.std.proofs.Common.{◌≡◌, ℕ, inl, inr, List, refl, ap}
use Rattle.std.specs.Prelude.{Option, None, Some, MatchOption, slice_get}
use Rattle.client_requests.specs.declared.fetch_end.FetchEnd.TheVariants.{Failure}
use Rattle.failure_replies.specs.declared.failure.FailureReason.TheVariants as reason
use Rattle.yimarotu_forwarder.specs.Fetches.{FetchValue, asked_for, fetch_at}
use Rattle.yimarotu_forwarder.specs.Forwarders.{ChainEndValue, ForwarderValue, ReplyingValue, TellingValue, second_of}
use Rattle.yimarotu_forwarder.specs.Steps.{IsLetGo, StopsAsking, StopsAskingFirst, StopsPrefetchingFirst, StopsReplyingFirst, StopsStep, StopsTellingFirst, has_turn, without_chain_end}
use Rattle.yimarotu_forwarder.specs.Prefetching.{without_prefetch}
use Rattle.yimarotu_forwarder.specs.Telling.{EndsForMemory, StopsNext, StopsTelling, counts_asker, forgets_asker, heard_so}
use Rattle.yimarotu_forwarder_theorems.proofs.Cores.{IsSaid, IsSame, Source, Stills, as_before, core, has_failed, is_let_go, more, no_chain_ends, still-one}
use Rattle.yimarotu_forwarder_theorems.proofs.Stepping.{SaysNext, SaysTo, counts-asker, finishes, heard-same, none-first, same-fetch, says-next}

ends-for-memory : {said : Source → Type 0}
    (key : List ℕ) (f g : FetchValue) (b a : ForwarderValue) → b.replying ≡ None
    → fetch_at key b.fetches ≡ Some f → IsSame f g → EndsForMemory key g b a → Stills said (core b) (core a)
ends-for-memory {said} key f g b a none found same h =
    still-one (core b) (core a)
    (finishes key (Failure reason.Other) f g b a none found same (has_failed reason.Other refl) h)

stops-next : {said : Source → Type 0}
    (t : TellingValue) (asker : ℕ) (b a : ForwarderValue) → b.replying ≡ None → SaysTo said t.over asker b
    → StopsNext t b a asker → Stills said (core b) (core a)
stops-next {said} t asker b a none says h =
    more (core b) (core (counts_asker t asker b)) (core a) (counts-asker t asker b says)
    (by (asked_for asker b.fetches) h)
  where
    by-key : (key : List ℕ) (o : Option FetchValue) → fetch_at key b.fetches ≡ o
        → MatchOption o ⊥ (λ f. EndsForMemory key (heard_so t.over (second_of b) f)
        (forgets_asker asker (counts_asker t asker b)) a)
        → Stills said (core (counts_asker t asker b)) (core a)
    by-key key None is h = absurd h
    by-key key (Some f) is h =
        ends-for-memory key f (heard_so t.over (second_of b) f)
        (forgets_asker asker (counts_asker t asker b)) a none is
        (heard-same t.over (second_of b) f) h

    by : (o : Option (List ℕ))
        → MatchOption o ⊥ (λ key. MatchOption (fetch_at key b.fetches) ⊥
        (λ f. EndsForMemory key (heard_so t.over (second_of b) f)
        (forgets_asker asker (counts_asker t asker b)) a)) → Stills said (core (counts_asker t asker b)) (core a)
    by None h = absurd h
    by (Some key) h = by-key key (fetch_at key b.fetches) refl h

stops-telling : {said : Source → Type 0}
    (t : TellingValue) (b a : ForwarderValue) → b.replying ≡ None → SaysNext said t b → StopsTelling b a t
    → Stills said (core b) (core a)
stops-telling {said} t b a none says (inl h) = as_before (core b) (core a) (ap core h)
stops-telling {said} t b a none says (inr h) = by (slice_get t.over.askers t.told) refl h
  where
    by : (o : Option ℕ) → slice_get t.over.askers t.told ≡ o → MatchOption o ⊥ (StopsNext t b a)
        → Stills said (core b) (core a)
    by None turn h = absurd h
    by (Some asker) turn h = stops-next t asker b a none (says asker turn) h

stops-prefetching : {said : Source → Type 0}
    (b a : ForwarderValue) → StopsPrefetchingFirst b a → Stills said (core b) (core a)
stops-prefetching {said} b a h = by b.prefetch h
  where
    by : (o : Option (List ℕ)) → MatchOption o (a ≡ b) (λ key. a ≡ without_prefetch b) → Stills said (core b) (core a)
    by None h = as_before (core b) (core a) (ap core h)
    by (Some key) h = as_before (core b) (core a) (ap core h)

stops-telling-first : (b a : ForwarderValue) → b.replying ≡ None → StopsTellingFirst b a
    → Stills (IsSaid b) (core b) (core a)
stops-telling-first b a none h = by b.telling refl h
  where
    by : (o : Option TellingValue) → b.telling ≡ o → MatchOption o (StopsPrefetchingFirst b a) (StopsTelling b a)
        → Stills (IsSaid b) (core b) (core a)
    by None is h = stops-prefetching b a h
    by (Some t) is h = stops-telling t b a none (says-next t b is) h

stops-asking : (key : List ℕ) (b a : ForwarderValue) → b.replying ≡ None → StopsAsking b a key
    → Stills (IsSaid b) (core b) (core a)
stops-asking key b a none (inl h) = as_before (core b) (core a) (ap core h)
stops-asking key b a none (inr h) = by (fetch_at key b.fetches) refl h
  where
    by : (o : Option FetchValue) → fetch_at key b.fetches ≡ o
        → MatchOption o ⊥ (λ f. EndsForMemory key f (has_turn b) a) → Stills (IsSaid b) (core b) (core a)
    by None is h = absurd h
    by (Some f) is h = ends-for-memory key f f (has_turn b) a none is (same-fetch f) h

stops-first : (b a : ForwarderValue) → b.replying ≡ None → StopsAskingFirst b a
    → Stills (IsSaid b) (core b) (core a)
stops-first b a none h = by (slice_get b.fetches.to_ask 0) h
  where
    by : (o : Option (List ℕ)) → MatchOption o (StopsTellingFirst b a) (StopsAsking b a)
        → Stills (IsSaid b) (core b) (core a)
    by None h = stops-telling-first b a none h
    by (Some key) h = stops-asking key b a none h

stops-replying-first : (b a : ForwarderValue) → StopsReplyingFirst b a → Stills (IsSaid b) (core b) (core a)
stops-replying-first b a h = by b.replying refl h
  where
    by : (o : Option ReplyingValue) → b.replying ≡ o → MatchOption o (StopsAskingFirst b a) (IsLetGo b a)
        → Stills (IsSaid b) (core b) (core a)
    by None is stop = stops-first b a is stop
    by (Some r) is stop =
        still-one (core b) (core a) (is_let_go (core b) (core a) r is (none-first r.waiting stop.0) (ap core stop.1))

pub is-refused : (b a : ForwarderValue) → StopsStep b a → Stills (IsSaid b) (core b) (core a)
is-refused b a h = by b.chain_end h
  where
    by : (o : Option ChainEndValue) → MatchOption o (StopsReplyingFirst b a) (λ e. a ≡ without_chain_end b)
        → Stills (IsSaid b) (core b) (core a)
    by None stop = stops-replying-first b a stop
    by (Some e) stop =
        still-one (core b) (core a) (no_chain_ends (core b) (core a) (ap core stop))
