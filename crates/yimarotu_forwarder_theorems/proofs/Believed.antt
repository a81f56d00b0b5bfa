-- Each reply that a forwarder makes an answer of was believed.
use Rattle.std.proofs.Common.{◌≡◌, ◌∙◌, ℕ, inl, inr, true, List, [], ◌∷◌, ◌++◌, refl, sym, ap, subst}
use Rattle.std.specs.Prelude.{Option, None, Some, cond}
use Rattle.std.specs.Option.{option_and_then}
use Rattle.hickory_resolver_config.specs.ResolverConfig.{OptionsValue as PoolOptions}
use Rattle.hickory_resolver_flights.specs.Flights.{KeptValue}
use Rattle.hickory_resolver_pool.specs.Laws.{PoolEvent, after_event}
use Rattle.hickory_resolver_pool.specs.Over.{OverValue, is_of_reply}
use Rattle.hickory_resolver_pool.specs.Pool.{PoolState, no_servers}
use Rattle.hickory_resolver_pool.specs.Pool as in_pool
use Rattle.hickory_resolver_pool.specs.declared.limits.PoolLimits.{PoolLimits}
use Rattle.hickory_resolver_pool.specs.declared.over.PoolOutcome.{PoolOutcome}
use Rattle.hickory_resolver_pool.specs.declared.over.PoolOutcome.TheVariants.{Code, Cut, Overloaded, Response, Timeout, Unreachable}
use Rattle.hickory_resolver_pool.specs.declared.pool.Action.{Action}
use Rattle.hickory_resolver_pool.specs.declared.pool.Action.TheVariants as does
use Rattle.hickory_resolver_pool_theorems.proofs.Later.{over-grows}
use Rattle.hickory_resolver_pool_theorems.proofs.MadeUp.{nothing_is_made_up}
use Rattle.hickory_resolver_pool_theorems.specs.MadeUp.{HasBelievedReply}
use Rattle.hickory_resolver_pool_theorems.specs.Runs as pool
use Rattle.second_chance_cache.specs.declared.bounds.CacheBounds.{CacheBounds}
use Rattle.yimarotu_forwarder.specs.Forwarders.{ForwarderValue, TellingValue, new_forwarder}
use Rattle.yimarotu_forwarder.specs.Local.{LocalValue}
use Rattle.yimarotu_forwarder.specs.Options.{OptionsValue}
use Rattle.yimarotu_forwarder.specs.Steps.{telling_of}
use Rattle.yimarotu_forwarder.specs.Telling.{response_in, response_of}
use Rattle.yimarotu_forwarder_theorems.specs.Believed.{RepliesWereBelieved, WasBelieved}
use Rattle.yimarotu_forwarder_theorems.specs.Lookups.{ToldReply, WasTold}
use Rattle.yimarotu_forwarder_theorems.specs.Runs.{ForwarderEvent, Happening, Runs, at_first, happened, next, given_by, given_in}
use Rattle.yimarotu_forwarder_theorems.proofs.Parts.{Goes, PoolGoes, TellsSame, near_by, event_goes, part, pool-goes, pool-in, pool_goes, pool_stays, pool_steps, telling-goes, telling-in, tells-same}
use Rattle.yimarotu_forwarder_theorems.proofs.Pools.{goes}

module _ (options : PoolOptions) (limits : PoolLimits) (seed : List ℕ) where
  abbrev start : PoolState
  start = no_servers options limits seed

  abbrev IsBelievedOver : List pool.Happening → OverValue → Type 0
  IsBelievedOver past o =
      (r : ToldReply) → response_of o ≡ Some r.message → r.question ≡ o.question → WasBelieved start past r

  -- what was believed stays so, whatever happens later
  grown : (more past : List pool.Happening) (r : ToldReply) → WasBelieved start past r
      → WasBelieved start (more ++ past) r
  grown more past r b = record {
    over = b.over;
    was_over = over-grows start more past b.over b.was_over;
    question = b.question;
    reply = b.reply;
    believed = b.believed;
    spells = b.spells;
  }

  -- what happened to a pool after this
  pub record Later (past : List pool.Happening) (given : List PoolEvent) (p : PoolState) : Type 0 where
    pub more : List pool.Happening
    pub runs : pool.Runs start (more ++ past) p
    pub are : pool.given_in (more ++ past) ≡ given

  went : (past : List pool.Happening) (given : List PoolEvent) (p q : PoolState) → PoolGoes p q → Later past given p
      → Later past given q
  went past given p q (pool_stays p' q' same) h = subst (Later past given) (sym same) h
  went past given p q (pool_goes p' q' e none rest) h =
      went past given (after_event p e) q rest
      (record {
        more = pool.came p e ∷ h.more;
        runs = pool.by_event (h.more ++ past) p e h.runs;
        are = ap (λ (l : List PoolEvent). l ++ pool.given_in (h.more ++ past)) none ∙ h.are;
      })

  -- a transaction that is over with a reply
  was-over : (past : List pool.Happening) (p q : PoolState) (o : OverValue) → in_pool.Steps p (Some (does.Over o)) q
      → pool.Runs start past p → IsBelievedOver (pool.did p (Some (does.Over o)) ∷ past) o
  was-over past p q o steps runs r is asked = by o.outcome refl o.kept refl is
    where
      found : (k : KeptValue) → o.kept ≡ Some k → o.outcome ≡ Response → k.message ≡ Some r.message
          → WasBelieved start (pool.did p (Some (does.Over o)) ∷ past) r
      found k kept response spells =
          let reply : is_of_reply o.outcome ≡ true = ap is_of_reply response in
          let made = nothing_is_made_up options limits seed past p q o runs steps reply in
          record {
            over = o;
            was_over = record { later = []; earlier = past; before = p; after = q; happened = refl; runs = runs; ends = steps };
            question = sym asked;
            reply = k;
            believed = subst (HasBelievedReply past o) kept made;
            spells = spells;
          }

      by : (what : PoolOutcome) → o.outcome ≡ what → (kept : Option KeptValue) → o.kept ≡ kept
          → response_in what (option_and_then (λ k. k.message) (cond (is_of_reply what) kept None)) ≡ Some r.message
          → WasBelieved start (pool.did p (Some (does.Over o)) ∷ past) r
      by Response response None kept e = absurd cc
      by Response response (Some k) kept e = found k kept response e
      by Cut response kept' kept e = absurd cc
      by Code response kept' kept e = absurd cc
      by Unreachable response kept' kept e = absurd cc
      by Timeout response kept' kept e = absurd cc
      by Overloaded response kept' kept e = absurd cc

  -- what is told is of a transaction that was over so, and so was each that was told
  pub record Stands (past : List Happening) (s : ForwarderValue) : Type 0 where
    pub pool_past : List pool.Happening
    pub runs : pool.Runs start pool_past s.pool
    pub given : pool.given_in pool_past ≡ given_in past
    pub telling : (t : TellingValue) → s.telling ≡ Some t → IsBelievedOver pool_past t.over
    pub told : (r : ToldReply) → WasTold past r → WasBelieved start pool_past r

  module _ (past : List Happening) (event : ForwarderEvent) (b a : ForwarderValue) (h : Stands past b) where
    stands-on : (more : List pool.Happening) → pool.Runs start (more ++ h.pool_past) a.pool
        → pool.given_in (more ++ h.pool_past) ≡ given_by event ++ given_in past
        → ((t : TellingValue) → a.telling ≡ Some t → IsBelievedOver (more ++ h.pool_past) t.over)
        → Stands (happened event b a ∷ past) a
    stands-on more runs given telling = record {
      pool_past = more ++ h.pool_past;
      runs = runs;
      given = given;
      telling = telling;
      told = λ r w. by r w;
    }
      where
        by : (r : ToldReply) → WasTold (happened event b a ∷ past) r → WasBelieved start (more ++ h.pool_past) r
        by r (inl (t, is, response, asked, second)) = grown more h.pool_past r (h.telling t is r response asked)
        by r (inr told) = grown more h.pool_past r (h.told r told)

    -- what is told stays, or nothing is
    tells-on : (more : List pool.Happening) → TellsSame b.telling a.telling → (t : TellingValue) → a.telling ≡ Some t
        → IsBelievedOver (more ++ h.pool_past) t.over
    tells-on more same t is =
        let found = same t is in
        subst (IsBelievedOver (more ++ h.pool_past)) (sym found.2)
        (λ r response asked. grown more h.pool_past r (h.telling found.0 found.1 r response asked))

    stepped : (did : Option Action) → in_pool.Steps b.pool did a.pool → a.telling ≡ telling_of did
        → (t : TellingValue) → a.telling ≡ Some t → IsBelievedOver (pool.did b.pool did ∷ h.pool_past) t.over
    stepped did steps told t is = by did steps (sym told ∙ is)
      where
        by : (r : Option Action) → in_pool.Steps b.pool r a.pool → telling_of r ≡ Some t
            → IsBelievedOver (pool.did b.pool r ∷ h.pool_past) t.over
        by None s is = absurd cc
        by (Some (does.Open x)) s is = absurd cc
        by (Some (does.Send x)) s is = absurd cc
        by (Some (does.Close x)) s is = absurd cc
        by (Some does.Continue) s is = absurd cc
        by (Some (does.Over o)) s is =
            let same : o ≡ t.over = cc in
            subst (IsBelievedOver (pool.did b.pool (Some (does.Over o)) ∷ h.pool_past)) same
            (was-over h.pool_past b.pool a.pool o s h.runs)

    goes-on : (given : List PoolEvent) → given_by event ≡ given → Goes b a given → Stands (happened event b a ∷ past) a
    goes-on given is (near_by near) =
        let l = went h.pool_past (given_in past) b.pool a.pool (pool-goes (part b) (part a) near)
        (record { more = []; runs = h.runs; are = h.given }) in
        stands-on l.more l.runs
        (l.are ∙ ap (λ (l : List PoolEvent). l ++ given_in past) (sym is)) (tells-on l.more (telling-goes (part b) (part a) near))
    goes-on given is (event_goes e kept part_is) =
        let more : List pool.Happening = pool.came b.pool e ∷ [] in
        stands-on more
        (subst (λ (p : PoolState). pool.Runs start (more ++ h.pool_past) p) (sym (ap pool-in part_is))
        (pool.by_event h.pool_past b.pool e h.runs))
        (ap (λ (l : List PoolEvent). pool.given_by e ++ l) h.given
        ∙ ap (λ (l : List PoolEvent). l ++ given_in past) (sym is))
        (tells-on more (tells-same b.telling a.telling (ap telling-in part_is)))
    goes-on given is (pool_steps did steps part_is) =
        stands-on (pool.did b.pool did ∷ []) (pool.by_step h.pool_past b.pool a.pool did steps h.runs)
        (h.given ∙ ap (λ (l : List PoolEvent). l ++ given_in past) (sym is))
        (stepped did steps (ap telling-in part_is))

  module _ (own : OptionsValue) (local : LocalValue) (cache failures : CacheBounds) where
    stands : (past : List Happening) (s : ForwarderValue) → Runs (new_forwarder own local cache failures start) past s
        → Stands past s
    stands past s at_first = record {
      pool_past = [];
      runs = pool.at_first;
      given = refl;
      telling = λ t is. absurd cc;
      told = λ r told. absurd told;
    }
    stands past s (next earlier event before after happens runs) =
        goes-on earlier event before after (stands earlier before runs) (given_by event) refl
        (goes event before after happens)

pub replies_were_believed : RepliesWereBelieved
replies_were_believed own local cache failures options limits seed past s runs =
    let here = stands options limits seed own local cache failures past s runs in
    record { pool_past = here.pool_past; runs = here.runs; given = here.given; believed = here.told }
