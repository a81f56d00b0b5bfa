-- Worked cases of look-ups that are in flight together over one cache.
use Rattle.std.specs.Prelude.{ℕ, ◌+◌, false, List, [], ◌∷◌, codes, Ok, Err, refl}
use Rattle.std.proofs.Common.{arith, inl, inr}
use Rattle.hickory_proto_core.specs.Name.{NameValue}
use Rattle.hickory_proto_core.specs.Handles.{OutcomeValue}
use Rattle.hickory_proto_core.specs.declared.net_error.NetError.TheVariants.{OutOfMemory}
use Rattle.hickory_resolver_model.specs.Cache.{CacheValue, Entry}
use Rattle.hickory_resolver_model.specs.Lookup.{LookupValue}
use Rattle.hickory_resolver_model.specs.Verdict.{first_hop}
use Rattle.hickory_resolver_model.specs.Hops.{Hit}
use Rattle.hickory_resolver_model.specs.Resuming.{WaitingValue, Waits, IsDone}
use Rattle.hickory_resolver_model.specs.Client.{empty_cache}
use Rattle.hickory_resolver_theorems.specs.Interleaved.{PendingValue, WorldValue, world_of, EventValue, Started, Fed, ClearedOfAll, Happen}
use Rattle.hickory_resolver_theorems.specs.WorkedRun.{a}
use Rattle.hickory_resolver_theorems.specs.Worked.{name, asks_a, rr, address, response, alias_alone}

abbrev pub b : NameValue
b = name (codes "b")

-- an address of a name came back, to live for ten seconds
abbrev pub came : NameValue → OutcomeValue
came n = Ok (response (asks_a n) (rr n 10 address ∷ []))

-- what is given of it, with so many seconds left
abbrev pub given : NameValue → ℕ → ℕ → LookupValue
given n ttl until = record { message = response (asks_a n) (rr n ttl address ∷ []); valid_until = until }

-- its entry, by a look-up that was started at this moment
abbrev pub kept : NameValue → ℕ → Entry
kept n moment =
    record { query = asks_a n; result = came n; original_time = moment; valid_until = moment + 10 }

abbrev pub holding : List Entry → CacheValue
holding entries = record (empty_cache 8) { entries = entries }

-- a look-up of a name that was started at a moment waits for what comes back to its first question
abbrev pub first_wait : NameValue → ℕ → WaitingValue
first_wait n now = record { now = now; passed = []; hop = first_hop (asks_a n) }

-- nothing was kept when it was started
abbrev pub in_flight : NameValue → ℕ → PendingValue
in_flight n now =
    record { question = asks_a n; asks = []; caches = []; cache = holding []; waiting = first_wait n now }

abbrev pub starts : NameValue → ℕ → EventValue
starts n now = Started (asks_a n) now (Waits (first_wait n now))

abbrev pub world : List Entry → List PendingValue → WorldValue
world entries pending = record { cache = holding entries; pending = pending }

-- two look-ups of one name, the second five seconds later; what came back to the second is fed first
abbrev pub crossing : List EventValue
crossing =
    starts a 0 ∷ starts a 5 ∷ Fed (in_flight a 5) (came a) (IsDone (Ok (given a 10 15)))
    ∷ Fed (in_flight a 0) (came a) (IsDone (Ok (given a 10 10)))
    ∷ Started (asks_a a) 5 (IsDone (Ok (given a 5 10))) ∷ []

-- a clear between a question and what comes back to it
abbrev pub cleared_between : List EventValue
cleared_between =
    starts a 0 ∷ starts b 0 ∷ Fed (in_flight b 0) (came b) (IsDone (Ok (given b 10 10))) ∷ ClearedOfAll
    ∷ Fed (in_flight a 0) (came a) (IsDone (Ok (given a 10 10))) ∷ []

-- an alias whose target another look-up stores meanwhile
abbrev pub target_stored_meanwhile : List EventValue
target_stored_meanwhile =
    starts a 0 ∷ starts b 0 ∷ Fed (in_flight b 0) (came b) (IsDone (Ok (given b 10 10)))
    ∷ Fed (in_flight a 0) (Ok (response (asks_a a) alias_alone)) (IsDone (Ok (given b 10 10))) ∷ []

-- an outcome that is out of memory, for one of two
abbrev pub one_runs_out : List EventValue
one_runs_out =
    starts a 0 ∷ starts b 0 ∷ Fed (in_flight a 0) (Err OutOfMemory) (IsDone (Err OutOfMemory))
    ∷ Fed (in_flight b 0) (came b) (IsDone (Ok (given b 10 10))) ∷ []

-- the address of the target, under the name that led there
abbrev pub alias_kept : Entry
alias_kept = record (kept a 0) { result = Ok (response (asks_a a) (rr b 10 address ∷ [])) }

pub record InterleavedCases : Type 0 where
  -- Both ask, since nothing is kept when the second is started. The entry is that of the look-up that ended last, up to
  -- ten seconds after its own start, and not after its end.
  pub crossing_look_ups : Happen false (world_of (holding [])) crossing (world (kept a 0 ∷ []) [])
  -- what comes back after the clear is stored like any other
  pub clear_between : Happen false (world_of (holding [])) cleared_between (world (kept a 0 ∷ []) [])
  -- the target is a hit when the alias came back, and is not asked again; the alias is kept up to the deadline of the
  -- entry that was hit
  pub target_is_hit : Happen false (world_of (holding [])) target_stored_meanwhile
      (world (kept b 0 ∷ alias_kept ∷ []) [])
  -- a look-up that runs out of memory stores nothing, and the other goes on
  pub other_goes_on : Happen false (world_of (holding [])) one_runs_out (world (kept b 0 ∷ []) [])

pub interleaved_cases : InterleavedCases
interleaved_cases = record {
  crossing_look_ups = (
    world [] (in_flight a 0 ∷ []),
    (((refl, refl), refl, refl), refl),
    (
      world [] (in_flight a 0 ∷ in_flight a 5 ∷ []),
      (((refl, refl), refl, refl), refl),
      (
        world (kept a 5 ∷ []) (in_flight a 0 ∷ []),
        (
          in_flight a 0 ∷ [],
          [],
          refl,
          inr (record {
            result = Ok (given a 10 15);
            progress_is = refl;
            no_alias = λ next h. cc;
            ends = inl (refl, refl);
          }),
          refl,
        ),
        (
          world (kept a 0 ∷ []) [],
          (
            [],
            [],
            refl,
            inr (record {
              result = Ok (given a 10 10);
              progress_is = refl;
              no_alias = λ next h. cc;
              ends = inl (refl, refl);
            }),
            refl,
          ),
          (
            world (kept a 0 ∷ []) [],
            ((Hit (kept a 0), refl, (refl, refl), inl (refl, refl)), refl),
            refl,
          ),
        ),
      ),
    ),
  );
  clear_between = (
    world [] (in_flight a 0 ∷ []),
    (((refl, refl), refl, refl), refl),
    (
      world [] (in_flight a 0 ∷ in_flight b 0 ∷ []),
      (((refl, refl), refl, refl), refl),
      (
        world (kept b 0 ∷ []) (in_flight a 0 ∷ []),
        (
          in_flight a 0 ∷ [],
          [],
          refl,
          inr (record {
            result = Ok (given b 10 10);
            progress_is = refl;
            no_alias = λ next h. cc;
            ends = inl (refl, refl);
          }),
          refl,
        ),
        (
          world [] (in_flight a 0 ∷ []),
          refl,
          (
            world (kept a 0 ∷ []) [],
            (
              [],
              [],
              refl,
              inr (record {
                result = Ok (given a 10 10);
                progress_is = refl;
                no_alias = λ next h. cc;
                ends = inl (refl, refl);
              }),
              refl,
            ),
            refl,
          ),
        ),
      ),
    ),
  );
  target_is_hit = (
    world [] (in_flight a 0 ∷ []),
    (((refl, refl), refl, refl), refl),
    (
      world [] (in_flight a 0 ∷ in_flight b 0 ∷ []),
      (((refl, refl), refl, refl), refl),
      (
        world (kept b 0 ∷ []) (in_flight a 0 ∷ []),
        (
          in_flight a 0 ∷ [],
          [],
          refl,
          inr (record {
            result = Ok (given b 10 10);
            progress_is = refl;
            no_alias = λ next h. cc;
            ends = inl (refl, refl);
          }),
          refl,
        ),
        (
          world (kept b 0 ∷ alias_kept ∷ []) [],
          (
            [],
            [],
            refl,
            inl (record {
              next = first_hop (asks_a b);
              alias = refl;
              early = omega arith;
              goes_on = inl (Hit (kept b 0), refl, (refl, refl), inl (refl, refl));
            }),
            refl,
          ),
          refl,
        ),
      ),
    ),
  );
  other_goes_on = (
    world [] (in_flight a 0 ∷ []),
    (((refl, refl), refl, refl), refl),
    (
      world [] (in_flight a 0 ∷ in_flight b 0 ∷ []),
      (((refl, refl), refl, refl), refl),
      (
        world [] (in_flight b 0 ∷ []),
        (
          [],
          in_flight b 0 ∷ [],
          refl,
          inr (record {
            result = Err OutOfMemory;
            progress_is = refl;
            no_alias = λ next h. cc;
            ends = inl (refl, refl);
          }),
          refl,
        ),
        (
          world (kept b 0 ∷ []) [],
          (
            [],
            [],
            refl,
            inr (record {
              result = Ok (given b 10 10);
              progress_is = refl;
              no_alias = λ next h. cc;
              ends = inl (refl, refl);
            }),
            refl,
          ),
          refl,
        ),
      ),
    ),
  );
}
