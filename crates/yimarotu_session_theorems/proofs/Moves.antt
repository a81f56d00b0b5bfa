-- What is done to a resolver, with calls that wait under numbers, is an event of calls that happens.
use Rattle.std.proofs.Common.{◌≡◌, ◌∙◌, ℕ, Bool, true, false, cond, List, [], ◌∷◌, ◌++◌, nat_eq, refl, sym, ap, inl, inr, arith}
use Rattle.std.specs.Prelude.{Option, None, Some}
use Rattle.std.specs.List.{AllByRecursion}
use Rattle.std.proofs.lemmas.Bool.Decides.{nat_tests}
use Rattle.std.proofs.lemmas.List.{append-nil, append_assoc, map-append}
use Rattle.hickory_proto_core.specs.Handles.{OutcomeValue}
use Rattle.hickory_proto_core.specs.declared.recorded.Exchange.{Exchange}
use Rattle.hickory_resolver.specs.Starting.{ResumesAt, StartsAt}
use Rattle.hickory_resolver_events.specs.Events.{pending_after}
use Rattle.hickory_resolver_model.specs.Cache.{CacheValue}
use Rattle.hickory_resolver_model.specs.Resolver.{ResolverValue, settings}
use Rattle.hickory_resolver_model.specs.Resuming.{ProgressValue, Waits, IsDone}
use Rattle.hickory_resolver_model.specs.Run.{Call}
use Rattle.hickory_resolver_theorems.specs.InterleavedCalls.{PendingCallValue, CallWorldValue, CallEventValue, CallStarted, CallFed, CallDropped, exchange_with, call_pending, placed, CallHappens, CallsHappen}
use Rattle.hickory_resolver_theorems.specs.ResumingCalls.{WaitingCallValue, CallProgressValue}
use Rattle.yimarotu_session_theorems.specs.NetworkCalls.{ComesAndGoes}
use Rattle.yimarotu_session_theorems.proofs.Flights.{EachOnce, at, at-pushed, at-put, at-removed, cut, none-removed, once-pushed, once-put, once-removed, put_behind, values_of, with, without}

abbrev pub Flights : Type 0
Flights = List (ℕ × PendingCallValue)

-- ---- calls that wait under numbers are in flight

-- under this number waits this one now, or none
abbrev pub Puts : ℕ → Option PendingCallValue → (ℕ → Option PendingCallValue) → (ℕ → Option PendingCallValue) → Type 0
Puts n x before after = (m : ℕ) → after m ≡ cond (nat_eq n m) x (before m)

pub record AreFlying (flights : Flights) (waiting : ℕ → Option PendingCallValue) : Type 0 where
  pub once : EachOnce flights
  pub wait : (n : ℕ) → at n flights ≡ waiting n

-- the flights with this one under a number, or none
pub record Put (n : ℕ) (x : Option PendingCallValue) (before after : Flights) : Type 0 where
  pub once : EachOnce after
  pub is : (m : ℕ) → at m after ≡ cond (nat_eq n m) x (at m before)

put-flying : (n : ℕ) (x : Option PendingCallValue) (before after : Flights) (waiting later : ℕ → Option PendingCallValue)
    → AreFlying before waiting → Put n x before after → Puts n x waiting later → AreFlying after later
put-flying n x before after waiting later flying put puts = record {
  once = put.once;
  wait = λ m. put.is m ∙ ap (λ (y : Option PendingCallValue). cond (nat_eq n m) x y) (flying.wait m) ∙ sym (puts m);
}

-- ---- a call that was begun, and one that goes on

-- one more is in flight, where it waits
abbrev begun_in : ℕ → Option PendingCallValue → Flights → Flights
begun_in n None flights = flights
begun_in n (Some c) flights = put_behind n c flights

same-put : (n m : ℕ) (flights : Flights) → at n flights ≡ None → at m flights ≡ cond (nat_eq n m) None (at m flights)
same-put n m flights none = by (nat_eq n m) refl
  where
    by : (b : Bool) → nat_eq n m ≡ b → at m flights ≡ cond b None (at m flights)
    by true e = let same : n ≡ m = grind (arith, nat_tests) in ap (λ (i : ℕ). at i flights) (sym same) ∙ none
    by false e = refl

begun-put : (n : ℕ) (x : Option PendingCallValue) (flights : Flights) → EachOnce flights → at n flights ≡ None
    → Put n x flights (begun_in n x flights)
begun-put n None flights once none = record { once = once; is = λ m. same-put n m flights none }
begun-put n (Some c) flights once none = record {
  once = once-pushed n c flights once none;
  is = λ m. at-pushed n m c flights none;
}

begun-values : (n : ℕ) (call : Call) (asks : List Exchange) (progress : CallProgressValue) (flights : Flights)
    → values_of (begun_in n (pending_after call asks progress) flights) ≡ values_of flights ++ call_pending call asks progress
begun-values n call asks (Waits w) flights =
    map-append (λ f. f.1) flights ((n, record { call = call; asks = asks; waiting = w }) ∷ [])
begun-values n call asks (IsDone result) flights = sym (append-nil (values_of flights))

-- one of them goes on: it stays at its place where its sub-look-up waits on, and else stands at the end
abbrev fed_in : ProgressValue → ℕ → Option PendingCallValue → Flights → Flights
fed_in lookup n None flights = without n flights
fed_in (Waits v) n (Some d) flights = with n d flights
fed_in (IsDone result) n (Some d) flights = put_behind n d (without n flights)

put-twice : (n m : ℕ) (d : PendingCallValue) (x y z : Option PendingCallValue) → x ≡ cond (nat_eq n m) (Some d) y
    → y ≡ cond (nat_eq n m) None z → x ≡ cond (nat_eq n m) (Some d) z
put-twice n m d x y z e f = grind (arith, nat_tests)

fed-put : (lookup : ProgressValue) (n : ℕ) (x : Option PendingCallValue) (c : PendingCallValue) (flights : Flights)
    → EachOnce flights → at n flights ≡ Some c → Put n x flights (fed_in lookup n x flights)
fed-put lookup n None c flights once there = record {
  once = once-removed n flights once;
  is = λ m. at-removed n m flights once;
}
fed-put (Waits v) n (Some d) c flights once there = record {
  once = once-put n c d flights there once;
  is = λ m. at-put n m c d flights there;
}
fed-put (IsDone result) n (Some d) c flights once there =
    let gone = none-removed n flights once in
    record {
      once = once-pushed n d (without n flights) (once-removed n flights once) gone;
      is = λ m. put-twice n m d (at m (put_behind n d (without n flights))) (at m (without n flights)) (at m flights)
          (at-pushed n m d (without n flights) gone) (at-removed n m flights once);
    }

module _ (n : ℕ) (c : PendingCallValue) (flights : Flights) (there : at n flights ≡ Some c) where
  fed-values : (lookup : ProgressValue) (call : Call) (asks : List Exchange) (progress : CallProgressValue)
      → values_of (fed_in lookup n (pending_after call asks progress) flights)
      ≡ placed lookup (cut n c flights there).front (call_pending call asks progress) (cut n c flights there).back
  fed-values (Waits v) call asks (Waits w) =
      let r = cut n c flights there in
      let d : PendingCallValue = record { call = call; asks = asks; waiting = w } in
      r.put d ∙ sym (append_assoc r.front (d ∷ []) r.back)
  fed-values (Waits v) call asks (IsDone result) =
      let r = cut n c flights there in
      r.removed ∙ ap (λ l. l ++ r.back) (sym (append-nil r.front))
  fed-values (IsDone done) call asks (Waits w) =
      let r = cut n c flights there in
      let d : PendingCallValue = record { call = call; asks = asks; waiting = w } in
      map-append (λ f. f.1) (without n flights) ((n, d) ∷ []) ∙ ap (λ l. l ++ d ∷ []) r.removed
  fed-values (IsDone done) call asks (IsDone result) =
      let r = cut n c flights there in
      r.removed ∙ sym (append-nil (r.front ++ r.back))

-- ---- one more call, behind these, that goes on

abbrev pub one_pending : Call → List Exchange → WaitingCallValue → PendingCallValue
one_pending call asks w = record { call = call; asks = asks; waiting = w }

none-placed : (lookup : ProgressValue) (calls : List PendingCallValue) → placed lookup calls [] [] ≡ calls
none-placed (Waits w) calls = append-nil (calls ++ []) ∙ append-nil calls
none-placed (IsDone result) calls = append-nil (calls ++ []) ∙ append-nil calls

one-placed : (lookup : ProgressValue) (calls : List PendingCallValue) (c : PendingCallValue)
    → placed lookup calls (c ∷ []) [] ≡ calls ++ c ∷ []
one-placed (Waits w) calls c = append-nil (calls ++ c ∷ [])
one-placed (IsDone result) calls c = ap (λ (l : List PendingCallValue). l ++ c ∷ []) (append-nil calls)

-- ---- over one resolver

module _ {H : Type 0} (first : ResolverValue H) where
  abbrev pub over : CacheValue → ResolverValue H
  over cache = record first { client = record first.client { cache = cache } }

  abbrev pub world : CacheValue → Flights → CallWorldValue
  world cache flights = record { cache = cache; hosts = first.hosts; calls = values_of flights }

  -- with these calls in flight
  abbrev pub at_cache : CacheValue → List PendingCallValue → CallWorldValue
  at_cache cache calls = record { cache = cache; hosts = first.hosts; calls = calls }

  -- it is told, and what is told of it happens
  pub record Moves
      (told : List CallEventValue) (cache : CacheValue) (flights : Flights) (after : ResolverValue H)
      (waiting : ℕ → Option PendingCallValue)
      : Type 0 where
    pub left : Flights
    pub happen : CallsHappen (settings first) (world cache flights) told (world after.client.cache left)
    pub after_is : after ≡ over after.client.cache
    pub flying : AreFlying left waiting

  module _ (cache : CacheValue) (flights : Flights) (waiting : ℕ → Option PendingCallValue)
      (flying : AreFlying flights waiting) (after : ResolverValue H) (later : ℕ → Option PendingCallValue) where
    pub stays : after ≡ over cache → ((n : ℕ) → later n ≡ waiting n) → Moves [] cache flights after later
    stays same alike =
        let cache_is : after.client.cache ≡ cache = ap (λ (r : ResolverValue H). r.client.cache) same in
        record {
          left = flights;
          happen = ap (λ (x : CacheValue). world x flights) cache_is;
          after_is = same ∙ ap over (sym cache_is);
          flying = record { once = flying.once; wait = λ n. flying.wait n ∙ sym (alike n) };
        }

    pub begins : (n : ℕ) (call : Call) (now : ℕ) (progress : CallProgressValue) → waiting n ≡ None
        → StartsAt now call (over cache) progress after → Puts n (pending_after call [] progress) waiting later
        → Moves (CallStarted call now progress ∷ []) cache flights after later
    begins n call now progress free starts puts =
        let x = pending_after call [] progress in
        let left = begun_in n x flights in
        record {
          left = left;
          happen = (world after.client.cache left, (starts.starts, refl, begun-values n call [] progress flights), refl);
          after_is = starts.others_stay;
          flying = put-flying n x flights left waiting later flying
              (begun-put n x flights flying.once (flying.wait n ∙ free)) puts;
        }

    -- a call that waits goes on
    pub feeds : (n : ℕ) (c : PendingCallValue) (outcome : OutcomeValue) (progress : CallProgressValue)
        → waiting n ≡ Some c → ResumesAt c.waiting outcome (over cache) progress after
        → Puts n (pending_after c.call (c.asks ++ exchange_with c outcome ∷ []) progress) waiting later
        → Moves (CallFed c outcome progress ∷ []) cache flights after later
    feeds n c outcome progress there resumes puts =
        let flies : at n flights ≡ Some c = flying.wait n ∙ there in
        let r = cut n c flights flies in
        let asks = c.asks ++ exchange_with c outcome ∷ [] in
        let x = pending_after c.call asks progress in
        let left = fed_in resumes.resumes.0 n x flights in
        record {
          left = left;
          happen = (world after.client.cache left, (r.front, r.back, r.are, resumes.resumes, refl, fed-values n c flights flies resumes.resumes.0 c.call asks progress), refl);
          after_is = resumes.others_stay;
          flying = put-flying n x flights left waiting later flying
              (fed-put resumes.resumes.0 n x c flights flying.once flies) puts;
        }

    -- a call that waits is dropped
    pub drops : (n : ℕ) (c : PendingCallValue) → waiting n ≡ Some c → after ≡ over cache → Puts n None waiting later
        → Moves (CallDropped c ∷ []) cache flights after later
    drops n c there same puts =
        let r = cut n c flights (flying.wait n ∙ there) in
        let cache_is : after.client.cache ≡ cache = ap (λ (q : ResolverValue H). q.client.cache) same in
        let left = without n flights in
        let calls_are : world after.client.cache left ≡ record (world cache flights) { calls = r.front ++ r.back } = λ i. record { cache = cache_is i; hosts = first.hosts; calls = r.removed i } in
        record {
          left = left;
          happen = (world after.client.cache left, (r.front, r.back, r.are, calls_are), refl);
          after_is = same ∙ ap over (sym cache_is);
          flying = put-flying n None flights left waiting later flying
              (record { once = once-removed n flights flying.once; is = λ m. at-removed n m flights flying.once }) puts;
        }

    -- ---- a call that is started, goes on once at the most, and is let go

    -- all that is told of it passes
    module _ (Passes : CallEventValue → Type 0) (alike : (n : ℕ) → later n ≡ waiting n) (call : Call) (now : ℕ)
        (begun : (progress : CallProgressValue) → Passes (CallStarted call now progress))
        (let_go : (c : PendingCallValue) → Passes (CallDropped c)) where
      pub record Comes-and-goes : Type 0 where
        pub told : List CallEventValue
        pub moves : Moves told cache flights after later
        pub all : AllByRecursion Passes told
        pub comes_and_goes : ComesAndGoes call now told

      flying-on : AreFlying flights later
      flying-on = record { once = flying.once; wait = λ n. flying.wait n ∙ sym (alike n) }

      -- the calls that wait are those that waited
      as-before : (end : CallWorldValue) → end ≡ at_cache after.client.cache (values_of flights ++ [])
          → world after.client.cache flights ≡ end
      as-before end is =
          ap (λ (l : List PendingCallValue). at_cache after.client.cache l) (sym (append-nil (values_of flights))) ∙ sym is

      -- it asks nothing, or is told nothing
      pub unheard : (progress : CallProgressValue) → StartsAt now call (over cache) progress (over cache)
          → after ≡ over cache → Comes-and-goes
      unheard progress starts same = by progress starts
        where
          cache_is : after.client.cache ≡ cache
          cache_is = ap (λ (r : ResolverValue H). r.client.cache) same

          ends : world after.client.cache flights ≡ at_cache cache (values_of flights ++ [])
          ends = as-before (at_cache cache (values_of flights ++ []))
              (ap (λ (x : CacheValue). at_cache x (values_of flights ++ [])) (sym cache_is))

          after-is : after ≡ over after.client.cache
          after-is = same ∙ ap over (sym cache_is)

          by : (p : CallProgressValue) → StartsAt now call (over cache) p (over cache) → Comes-and-goes
          by (IsDone result) starts = record {
            told = CallStarted call now (IsDone result) ∷ [];
            moves = record {
              left = flights;
              happen = (at_cache cache (values_of flights ++ []), (starts.starts, refl, refl), ends);
              after_is = after-is;
              flying = flying-on;
            };
            all = (begun (IsDone result), tt);
            comes_and_goes = record { progress = IsDone result; later = []; told_is = refl; goes = inl refl };
          }
          by (Waits w) starts =
              let c = one_pending call [] w in
              record {
                told = CallStarted call now (Waits w) ∷ CallDropped c ∷ [];
                moves = record {
                  left = flights;
                  happen = (
                    at_cache cache (values_of flights ++ c ∷ []),
                    (starts.starts, refl, refl),
                    (at_cache cache (values_of flights ++ []), (values_of flights, [], refl, refl), ends),
                  );
                  after_is = after-is;
                  flying = flying-on;
                };
                all = (begun (Waits w), (let_go c, tt));
                comes_and_goes = record { progress = Waits w; later = CallDropped c ∷ []; told_is = refl; goes = inl refl };
              }

      -- it waits, and goes on with this
      pub heard : (w : WaitingCallValue) (outcome : OutcomeValue) (progress : CallProgressValue)
          → StartsAt now call (over cache) (Waits w) (over cache) → ResumesAt w outcome (over cache) progress after
          → Passes (CallFed (one_pending call [] w) outcome progress) → Comes-and-goes
      heard w outcome progress starts resumes passes = by progress resumes passes
        where
          by : (p : CallProgressValue) → ResumesAt w outcome (over cache) p after
              → Passes (CallFed (one_pending call [] w) outcome p) → Comes-and-goes
          by (IsDone result) resumes passes =
              let c = one_pending call [] w in
              let lookup : ProgressValue = resumes.resumes.0 in
              let left = placed lookup (values_of flights) [] [] in
              record {
                told = CallStarted call now (Waits w) ∷ CallFed c outcome (IsDone result) ∷ [];
                moves = record {
                  left = flights;
                  happen = (
                    at_cache cache (values_of flights ++ c ∷ []),
                    (starts.starts, refl, refl),
                    (
                      at_cache after.client.cache left,
                      (values_of flights, [], refl, resumes.resumes, refl, refl),
                      ap (λ (l : List PendingCallValue). at_cache after.client.cache l) (sym (none-placed lookup (values_of flights))),
                    ),
                  );
                  after_is = resumes.others_stay;
                  flying = flying-on;
                };
                all = (begun (Waits w), (passes, tt));
                comes_and_goes = record {
                  progress = Waits w;
                  later = CallFed c outcome (IsDone result) ∷ [];
                  told_is = refl;
                  goes = inr (outcome, IsDone result, refl);
                };
              }
          by (Waits v) resumes passes =
              let c = one_pending call [] w in
              let lookup : ProgressValue = resumes.resumes.0 in
              let d = one_pending call (exchange_with c outcome ∷ []) v in
              let left = placed lookup (values_of flights) (d ∷ []) [] in
              record {
                told = CallStarted call now (Waits w) ∷ CallFed c outcome (Waits v) ∷ CallDropped d ∷ [];
                moves = record {
                  left = flights;
                  happen = (
                    at_cache cache (values_of flights ++ c ∷ []),
                    (starts.starts, refl, refl),
                    (
                      at_cache after.client.cache left,
                      (values_of flights, [], refl, resumes.resumes, refl, refl),
                      (
                        at_cache after.client.cache (values_of flights ++ []),
                        (values_of flights, [], one-placed lookup (values_of flights) d, refl),
                        as-before (at_cache after.client.cache (values_of flights ++ [])) refl,
                      ),
                    ),
                  );
                  after_is = resumes.others_stay;
                  flying = flying-on;
                };
                all = (begun (Waits w), (passes, (let_go d, tt)));
                comes_and_goes = record {
                  progress = Waits w;
                  later = CallFed c outcome (Waits v) ∷ CallDropped d ∷ [];
                  told_is = refl;
                  goes = inr (outcome, Waits v, refl);
                };
              }

    pub clears : (told : CallEventValue) → CallHappens (settings first) (world cache flights) told (world after.client.cache flights)
        → after ≡ over after.client.cache → ((n : ℕ) → later n ≡ waiting n) → Moves (told ∷ []) cache flights after later
    clears told happens after_is alike = record {
      left = flights;
      happen = (world after.client.cache flights, happens, refl);
      after_is = after_is;
      flying = record { once = flying.once; wait = λ n. flying.wait n ∙ sym (alike n) };
    }
