-- An asker is told: its fetch hears, and goes on.
use Rattle.std.proofs.Common.{◌≡◌, ◌∙◌, ℕ, List, ap, sym, subst, inr}
use Rattle.std.specs.Prelude.{Option, None, Some, MatchOption, slice_get}
use Rattle.client_requests.specs.declared.fetch_end.FetchEnd.{FetchEnd}
use Rattle.client_requests.specs.declared.fetch_end.FetchEnd.TheVariants.{Failure}
use Rattle.failure_replies.specs.declared.failure.FailureReason.TheVariants as reason
use Rattle.yimarotu_forwarder.proofs.Puts.{put_at, puts_again}
use Rattle.yimarotu_forwarder.specs.Fetches.{FetchValue, FetchesValue, HoldsFetch, LeadsOn, asked_for, fetch_at, without_asker}
use Rattle.yimarotu_forwarder.specs.Forwarders.{ChainEndValue, ForwarderValue, TellingValue, second_of}
use Rattle.yimarotu_forwarder.specs.Hearing.{GoesOn, HearsAsker, HearsFetch, HearsKey, HearsNext, StopsGoingOn}
use Rattle.yimarotu_forwarder.specs.Telling.{EndsFetch, EndsForMemory, Finishes, Hears, HearsIn, StopsNext, StopsTelling, Tells, TellsFetch, TellsKey, TellsNext, chain_end_for, counts_asker, forgets_asker, heard_so, one_more, told_of, whole_end, with_end}
use Rattle.yimarotu_forwarder.specs.declared.telling.Told.{Told}
use Rattle.yimarotu_forwarder.specs.declared.telling.Told.TheVariants as told

-- the fetches were these in between
abbrev between : ForwarderValue → FetchesValue → ForwarderValue
between b fetches = record b { fetches = fetches }

-- a fetch that is put, and then over, is over
finishes : (key : List ℕ) (end : FetchEnd) (f : FetchValue) (b after : ForwarderValue) (mid : FetchesValue)
    → HoldsFetch key f b.fetches mid → Finishes key end f (between b mid) after → Finishes key end f b after
finishes key end f b after mid holds fin = record {
  ends = record {
    puts = puts_again key (Some f) None b.fetches mid after.fetches holds.puts fin.ends.puts;
    others_stay =
        fin.ends.others_stay
        ∙ ap (λ (x : FetchesValue). record x { fetches = after.fetches.fetches }) holds.others_stay;
  };
  others_are = fin.others_are;
}

found_in : (A : Type 0) (P : FetchValue → Type 0) (f : FetchValue) (o : Option FetchValue) → o ≡ Some f
    → MatchOption o A P → P f
found_in A P f o is h = subst (λ (x : Option FetchValue). MatchOption x A P) is h

goes_on : (what : Told) (key : List ℕ) (f : FetchValue) (b after : ForwarderValue) (mid : FetchesValue)
    → HearsIn what key f b.fetches mid → GoesOn (Some (key, what)) (between b mid) after → Hears what key f b after
goes_on told.Asks key f b after mid hears goes = (
  subst (λ (x : ForwarderValue). LeadsOn key f b.fetches x.fetches) (sym goes) hears,
  goes ∙ ap (λ (x : FetchesValue). between b x) (ap (λ (x : ForwarderValue). x.fetches) (sym goes)),
)
goes_on (told.Whole kept) key f b after mid hears goes =
    finishes key (whole_end kept f b) f (with_end key (whole_end kept f b) f b) after mid hears
    (found_in (after ≡ between b mid) (λ (g : FetchValue).
    EndsFetch key (whole_end kept g (between b mid)) g (between b mid) after) f
    (fetch_at key mid) (put_at key (Some f) b.fetches mid hears.puts) goes)
goes_on (told.Fails why) key f b after mid hears goes =
    finishes key (Failure why) f (with_end key (Failure why) f b) after mid hears
    (found_in (after ≡ between b mid) (λ (g : FetchValue). EndsFetch key (Failure why) g (between b mid) after) f
    (fetch_at key mid) (put_at key (Some f) b.fetches mid hears.puts) goes)

-- the parts of a telling are the telling
pub tells_next : (t : TellingValue) (heard : Option (List ℕ × Told)) (asker : ℕ) (before after : ForwarderValue)
    (mid : FetchesValue) → HearsAsker t.over asker (second_of before) heard before.fetches mid
    → GoesOn heard (between (counts_asker t asker before) mid) after → TellsNext t before after asker
tells_next t heard asker before after mid hears goes = by (asked_for asker before.fetches) hears
  where
    at_none : (b : ForwarderValue) (mid' : FetchesValue) → heard ≡ None → mid ≡ mid'
        → after ≡ between (counts_asker t asker before) mid'
    at_none b mid' none same =
        subst (λ (h : Option (List ℕ × Told)). GoesOn h (between (counts_asker t asker before) mid) after) none goes
        ∙ ap (between (counts_asker t asker before)) same

    key_by : (key : List ℕ) (o : Option FetchValue)
        → MatchOption o ((heard ≡ None) × (mid ≡ without_asker asker before.fetches))
        (HearsFetch t.over (second_of before) key heard (without_asker asker before.fetches) mid)
        → MatchOption o (after ≡ forgets_asker asker (counts_asker t asker before))
        (TellsFetch t.over key (forgets_asker asker (counts_asker t asker before)) after)
    key_by key None h = at_none before (without_asker asker before.fetches) h.0 h.1
    key_by key (Some f) h =
        goes_on (told_of t.over f) key (heard_so t.over (second_of before) f) (forgets_asker asker (counts_asker t asker before))
        after mid h.hears
        (subst (λ (x : Option (List ℕ × Told)). GoesOn x (between (counts_asker t asker before) mid) after) h.heard_is goes)

    by : (o : Option (List ℕ))
        → MatchOption o ((heard ≡ None) × (mid ≡ before.fetches))
        (HearsKey t.over asker (second_of before) heard before.fetches mid)
        → MatchOption o (after ≡ counts_asker t asker before) (TellsKey t.over asker (counts_asker t asker before) after)
    by None h = at_none before before.fetches h.0 h.1
    by (Some key) h = key_by key (fetch_at key before.fetches) h

stops : (what : Told) (key : List ℕ) (f : FetchValue) (b after : ForwarderValue) (mid : FetchesValue)
    → HearsIn what key f b.fetches mid → StopsGoingOn (Some (key, what)) (between b mid) after
    → EndsForMemory key f b after
stops told.Asks key f b after mid hears nothing = absurd nothing
stops (told.Whole kept) key f b after mid hears stop =
    finishes key (Failure reason.Other) f b after mid hears
    (found_in (⊥) (λ (g : FetchValue). EndsForMemory key g (between b mid) after) f (fetch_at key mid)
    (put_at key (Some f) b.fetches mid hears.puts) stop)
stops (told.Fails why) key f b after mid hears stop =
    finishes key (Failure reason.Other) f b after mid hears
    (found_in (⊥) (λ (g : FetchValue). EndsForMemory key g (between b mid) after) f (fetch_at key mid)
    (put_at key (Some f) b.fetches mid hears.puts) stop)

-- the same where memory runs out
pub stops_next : (t : TellingValue) (heard : Option (List ℕ × Told)) (asker : ℕ) (before after : ForwarderValue)
    (mid : FetchesValue) → HearsAsker t.over asker (second_of before) heard before.fetches mid
    → StopsGoingOn heard (between (counts_asker t asker before) mid) after → StopsNext t before after asker
stops_next t heard asker before after mid hears stop = by (asked_for asker before.fetches) hears
  where
    never : heard ≡ None → ⊥
    never none =
        subst (λ (h : Option (List ℕ × Told)). StopsGoingOn h (between (counts_asker t asker before) mid) after) none stop

    key_by : (key : List ℕ) (o : Option FetchValue)
        → MatchOption o ((heard ≡ None) × (mid ≡ without_asker asker before.fetches))
        (HearsFetch t.over (second_of before) key heard (without_asker asker before.fetches) mid)
        → MatchOption o ⊥
        (λ f. EndsForMemory key (heard_so t.over (second_of before) f) (forgets_asker asker (counts_asker t asker before)) after)
    key_by key None h = never h.0
    key_by key (Some f) h =
        stops (told_of t.over f) key (heard_so t.over (second_of before) f) (forgets_asker asker (counts_asker t asker before))
        after mid h.hears
        (subst (λ (x : Option (List ℕ × Told)). StopsGoingOn x (between (counts_asker t asker before) mid) after) h.heard_is
        stop)

    by : (o : Option (List ℕ))
        → MatchOption o ((heard ≡ None) × (mid ≡ before.fetches))
        (HearsKey t.over asker (second_of before) heard before.fetches mid)
        → MatchOption o ⊥ (λ key. MatchOption (fetch_at key before.fetches) ⊥
        (λ f. EndsForMemory key (heard_so t.over (second_of before) f) (forgets_asker asker (counts_asker t asker before))
        after))
    by None h = never h.0
    by (Some key) h = key_by key (fetch_at key before.fetches) h

-- ---- the next asker is told

module _ (t : TellingValue) (heard : Option (List ℕ × Told)) (asker : ℕ) (before mid after : ForwarderValue)
    (end : Option ChainEndValue) (next : slice_get t.over.askers t.told ≡ Some asker)
    (ends : end ≡ chain_end_for t.over asker before) (hears : HearsNext t asker heard before mid) where
  -- once the end of a chain is noted
  noted : record mid { chain_end = end } ≡ between (counts_asker t asker before) mid.fetches
  noted =
      ap (λ (x : ForwarderValue). record x { chain_end = end }) hears.others_are
      ∙ ap (λ (e : Option ChainEndValue).
      record before { fetches = mid.fetches; telling = Some (one_more t); chain_end = e }) ends

  pub tells_now : GoesOn heard (record mid { chain_end = end }) after → Tells before after t
  tells_now goes =
      rw next
      (tells_next t heard asker before after mid.fetches hears.hears
      (subst (λ (x : ForwarderValue). GoesOn heard x after) noted goes))

  pub stops_now : StopsGoingOn heard (record mid { chain_end = end }) after → StopsTelling before after t
  stops_now stop =
      inr (rw next
      (stops_next t heard asker before after mid.fetches hears.hears
      (subst (λ (x : ForwarderValue). StopsGoingOn heard x after) noted stop)))
