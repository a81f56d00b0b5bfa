-- Each reply that a look-up is told was told of a transaction for the question that the look-up had to ask.
use Rattle.std.proofs.Common.{◌≡◌, ◌∙◌, ℕ, Bool, true, false, List, [], ◌∷◌, ◌++◌, drop, inl, inr, refl, sym, ap, subst}
use Rattle.std.specs.Prelude.{Option, None, Some, nat_eq, slice_get, if◌then◌else◌}
use Rattle.std.specs.List.{AllByRecursion, IsDistinct}
use Rattle.std.specs.Map.{values_of}
use Rattle.std.specs.Option.{option_map}
use Rattle.std.proofs.lemmas.Map.Keys.{IsDistinct-head, IsDistinct-push, IsDistinct-tail}
use Rattle.std.proofs.lemmas.Map.Made.{lookup-map_values}
use Rattle.hickory_proto_core.specs.declared.query.Query.{Query}
use Rattle.hickory_resolver_config.specs.ResolverConfig.{OptionsValue as PoolOptions}
use Rattle.hickory_resolver_pool.specs.Laws.{PoolEvent, after_event}
use Rattle.hickory_resolver_pool.specs.Pool.{PoolState, no_servers}
use Rattle.hickory_resolver_pool.specs.Pool as in_pool
use Rattle.hickory_resolver_pool.specs.declared.limits.PoolLimits.{PoolLimits}
use Rattle.hickory_resolver_pool.specs.declared.pool.Action.{Action}
use Rattle.hickory_resolver_pool.specs.declared.pool.Action.TheVariants as does
use Rattle.hickory_resolver_pool_theorems.proofs.Askings.{all-swap_removed}
use Rattle.hickory_resolver_pool_theorems.specs.Runs as pool
use Rattle.hickory_resolver_tries.specs.declared.pool_question.PoolQuestion.{PoolQuestion}
use Rattle.client_requests.specs.Keys.{key_eq, key_equiv}
use Rattle.second_chance_cache.specs.declared.bounds.CacheBounds.{CacheBounds}
use Rattle.whole_lookups.specs.Lookups.{LookupValue}
use Rattle.yimarotu_forwarder.specs.Fetches.{FetchValue, FetchesValue, PutsFetch, asked_for, fetch_at, fetch_in, first_asked, with_asker, without_asker}
use Rattle.yimarotu_forwarder.specs.Forwarders.{ForwarderValue, TellingValue, new_forwarder}
use Rattle.yimarotu_forwarder.specs.Leaving.{fetch_without, fetches_without}
use Rattle.yimarotu_forwarder.specs.Local.{LocalValue}
use Rattle.yimarotu_forwarder.specs.Options.{OptionsValue}
use Rattle.yimarotu_forwarder.specs.Steps.{telling_of}
use Rattle.yimarotu_forwarder.specs.Telling.{one_more}
use Rattle.yimarotu_forwarder_theorems.specs.Lookups.{IsHeard, ToldReply, WasHeard}
use Rattle.yimarotu_forwarder_theorems.specs.Questions.{EachReplyIsToItsQuestion, IsFor}
use Rattle.yimarotu_forwarder_theorems.specs.Runs.{Happening, Runs, at_first, next, given_by}
use Rattle.yimarotu_forwarder_theorems.proofs.AskerLists.{AskersValue, HasNone, IsApart, IsLeft, all-both, all-inserted, all-last, all-mapped, found-all, in-at, left-without, none-any, none-inserted, once-inserted}
use Rattle.yimarotu_forwarder_theorems.proofs.Askings.{IsAsking, IsOver, KeepsAskers, asking-later, event-of, given-now, once-over, over-later, over-now, told-for}
use Rattle.yimarotu_forwarder_theorems.proofs.Cores.{Fetching}
use Rattle.yimarotu_forwarder_theorems.proofs.Keys.{own-key, same-key}
use Rattle.yimarotu_forwarder_theorems.proofs.Parts.{Asks, Goes, IsKept, Move, Moves, Part, as_before, asker_ends, asker_goes, asker_leads, client_goes, counts_one, fetch_asks, fetch_begins, fetch_changes, more, near_by, event_goes, part, pool_hears, pool_steps, told_all, turn_ends, turn_passes}
use Rattle.yimarotu_forwarder_theorems.proofs.Pools.{goes}

-- ---- who asks for a look-up

-- an asker was given for the question that the fetch of its key has to ask
pub record IsRight (past : List pool.Happening) (fetches : Fetching) (e : ℕ × List ℕ) : Type 0 where
  pub fetch : FetchValue
  pub there : fetch_in e.1 fetches ≡ Some fetch
  pub asking : IsAsking past e.0 fetch.lookup.next fetch.lookup.dnssec

-- a fetch that has a question to ask is there, and no asker asks for it
pub record HasTurn (fetches : Fetching) (askers : AskersValue) (key : List ℕ) : Type 0 where
  pub fetch : FetchValue
  pub there : fetch_in key fetches ≡ Some fetch
  pub none : HasNone key askers

-- No two askers ask for one fetch, and none has to ask twice.
pub record AreAsking (past : List pool.Happening) (f : FetchesValue) : Type 0 where
  pub right : AllByRecursion (IsRight past f.fetches) f.askers
  pub once : IsDistinct key_eq (values_of f.askers)
  pub turns : AllByRecursion (HasTurn f.fetches f.askers) f.to_ask
  pub turns_once : IsDistinct key_eq f.to_ask

same-some : (f g : FetchValue) → Some f ≡ Some g → f ≡ g
same-some f g is = cc

-- ---- what happens to the pool

asking-kept : (h : pool.Happening) (past : List pool.Happening) (f : FetchesValue) → KeepsAskers h → AreAsking past f
    → AreAsking (h ∷ past) f
asking-kept h past f kept a = record {
  right = all-mapped (IsRight past f.fetches) (IsRight (h ∷ past) f.fetches)
      (λ e x. record {
        fetch = x.fetch;
        there = x.there;
        asking = asking-later h past e.0 x.fetch.lookup.next x.fetch.lookup.dnssec kept x.asking;
      }) f.askers a.right;
  once = a.once;
  turns = a.turns;
  turns_once = a.turns_once;
}

-- ---- what happens to fetches

module _ (past : List pool.Happening) where
  -- each has to ask what it had to
  abbrev AskAsBefore : Fetching → Fetching → Type 0
  AskAsBefore c d =
      (key : List ℕ) (f : FetchValue) → fetch_in key c ≡ Some f
      → (g : FetchValue) × (fetch_in key d ≡ Some g) × (g.lookup ≡ f.lookup)

  right-as-before : (c d : Fetching) → AskAsBefore c d → (e : ℕ × List ℕ) → IsRight past c e → IsRight past d e
  right-as-before c d same e x =
      let now = same e.1 x.fetch x.there in
      record {
        fetch = now.0;
        there = now.1;
        asking = subst (λ (l : LookupValue). IsAsking past e.0 l.next l.dnssec) (sym now.2) x.asking;
      }

  turn-as-before : (c d : Fetching) (askers : AskersValue) → AskAsBefore c d → (key : List ℕ) → HasTurn c askers key
      → HasTurn d askers key
  turn-as-before c d askers same key x =
      let now = same key x.fetch x.there in record { fetch = now.0; there = now.1; none = x.none }

  asking-as-before : (f : FetchesValue) (d : Fetching) → AskAsBefore f.fetches d → AreAsking past f
      → AreAsking past (record f { fetches = d })
  asking-as-before f d same a = record {
    right = all-mapped (IsRight past f.fetches) (IsRight past d) (right-as-before f.fetches d same) f.askers a.right;
    once = a.once;
    turns = all-mapped (HasTurn f.fetches f.askers) (HasTurn d f.askers) (turn-as-before f.fetches d f.askers same)
        f.to_ask a.turns;
    turns_once = a.turns_once;
  }

  -- another is put under one key
  module _ (key : List ℕ) (held : Option FetchValue) (c d : FetchesValue) (puts : PutsFetch key held c d) where
    others-stay : (other : List ℕ) → key_eq key other ≡ false → fetch_at other d ≡ fetch_at other c
    others-stay other apart = puts other ∙ ap (λ (b : Bool). if b then held else fetch_at other c) apart

    put-there : fetch_at key d ≡ held
    put-there = puts key ∙ ap (λ (b : Bool). if b then held else fetch_at key c) (own-key key)

    right-apart : (e : ℕ × List ℕ) → IsRight past c.fetches e → key_eq key e.1 ≡ false → IsRight past d.fetches e
    right-apart e x apart = record { fetch = x.fetch; there = others-stay e.1 apart ∙ x.there; asking = x.asking }

    rights-apart : (es : AskersValue) → AllByRecursion (IsRight past c.fetches) es → HasNone key es
        → AllByRecursion (IsRight past d.fetches) es
    rights-apart es all none =
        all-both (IsRight past c.fetches) (λ (e : ℕ × List ℕ). key_eq key e.1 ≡ false) (IsRight past d.fetches)
        right-apart es all none

    -- one that has to ask what that before had to
    put-as-before : (f g : FetchValue) → fetch_at key c ≡ Some f → held ≡ Some g → g.lookup ≡ f.lookup
        → AskAsBefore c.fetches d.fetches
    put-as-before f g was now same other x there = by (key_eq key other) refl
      where
        by : (b : Bool) → key_eq key other ≡ b
            → (y : FetchValue) × (fetch_at other d ≡ Some y) × (y.lookup ≡ x.lookup)
        by true own =
            let is : key ≡ other = same-key key other own in
            let found : f ≡ x = same-some f x (sym was ∙ ap (λ (k : List ℕ). fetch_at k c) is ∙ there) in
            let put : fetch_at other d ≡ Some g = ap (λ (k : List ℕ). fetch_at k d) (sym is) ∙ put-there ∙ now in
            (g, put, same ∙ ap (λ (y : FetchValue). y.lookup) found)
        by false own = (x, others-stay other own ∙ there, refl)

  -- where there is none under a key, nothing that is there is under it
  none-there : (c : Fetching) (key other : List ℕ) (f : FetchValue) → fetch_in key c ≡ None → fetch_in other c ≡ Some f
      → key_eq key other ≡ false
  none-there c key other f none there = by (key_eq key other) refl
    where
      by : (b : Bool) → key_eq key other ≡ b → b ≡ false
      by true own =
          let clash : None ≡ Some f = sym none ∙ ap (λ (k : List ℕ). fetch_in k c) (same-key key other own) ∙ there in
          absurd cc
      by false own = refl

  -- ---- the first that has a question to ask

  pub record IsFirst (f : FetchesValue) (key : List ℕ) : Type 0 where
    pub turn : HasTurn f.fetches f.askers key
    pub others : AllByRecursion (HasTurn f.fetches f.askers) (drop 1 f.to_ask)
    pub apart : IsApart key (drop 1 f.to_ask)
    pub once : IsDistinct key_eq (drop 1 f.to_ask)

  the-first : (f : FetchesValue) (key : List ℕ) → AreAsking past f → slice_get f.to_ask 0 ≡ Some key → IsFirst f key
  the-first f key a is = by f.to_ask a.turns a.turns_once is
    where
      by : (ks : List (List ℕ)) → AllByRecursion (HasTurn f.fetches f.askers) ks → IsDistinct key_eq ks
          → slice_get ks 0 ≡ Some key → IsFirst (record f { to_ask = ks }) key
      by [] all once h = absurd cc
      by (k ∷ ks) all once h =
          let same : k ≡ key = cc in
          subst (IsFirst (record f { to_ask = k ∷ ks })) same
          (record {
            turn = all.0;
            others = all.1;
            apart = IsDistinct-head key_eq k ks once;
            once = IsDistinct-tail key_eq k ks once;
          })

  turn-goes : (f : FetchesValue) → AreAsking past f → AreAsking past (first_asked f)
  turn-goes f a = by f.to_ask a.turns a.turns_once
    where
      by : (ks : List (List ℕ)) → AllByRecursion (HasTurn f.fetches f.askers) ks → IsDistinct key_eq ks
          → AreAsking past (record f { to_ask = drop 1 ks })
      by [] all once = record { right = a.right; once = a.once; turns = tt; turns_once = once }
      by (k ∷ ks) all once =
          record { right = a.right; once = a.once; turns = all.1; turns_once = IsDistinct-tail key_eq k ks once }

  -- it is over
  turn-over : (key : List ℕ) (f d : FetchesValue) → slice_get f.to_ask 0 ≡ Some key → AreAsking past f
      → PutsFetch key None (first_asked f) d → AreAsking past (record (first_asked f) { fetches = d.fetches })
  turn-over key f d is a puts =
      let first = the-first f key a is in
      record {
        right = rights-apart key None (first_asked f) d puts f.askers a.right first.turn.none;
        once = a.once;
        turns = all-both (HasTurn f.fetches f.askers) (λ (k : List ℕ). key_eq key k ≡ false)
            (HasTurn d.fetches f.askers)
            (λ k x apart. record {
              fetch = x.fetch;
              there = others-stay key None (first_asked f) d puts k apart ∙ x.there;
              none = x.none;
            }) (drop 1 f.to_ask) first.others first.apart;
        turns_once = first.once;
      }

  -- ---- an asker is told, and forgotten

  module _ (asker : ℕ) (key : List ℕ) (f : FetchesValue) (own : asked_for asker f ≡ Some key)
      (a : AreAsking past f) where
    abbrev left : AskersValue
    left = (without_asker asker f).askers

    is-left : IsLeft key left
    is-left = left-without asker key f.askers a.once own

    rights-left : AllByRecursion (IsRight past f.fetches) left
    rights-left = all-swap_removed (IsRight past f.fetches) (nat_eq asker) f.askers a.right

    turn-left : (k : List ℕ) → HasTurn f.fetches f.askers k → HasTurn f.fetches left k
    turn-left k x = record {
      fetch = x.fetch;
      there = x.there;
      none = all-swap_removed (λ (e : ℕ × List ℕ). key_eq k e.1 ≡ false) (nat_eq asker) f.askers x.none;
    }

    asker-left : AreAsking past (without_asker asker f)
    asker-left = record {
      right = rights-left;
      once = is-left.once;
      turns = all-mapped (HasTurn f.fetches f.askers) (HasTurn f.fetches left) turn-left f.to_ask a.turns;
      turns_once = a.turns_once;
    }

    -- it had no turn
    no-turn : (k : List ℕ) → HasTurn f.fetches f.askers k → key_eq key k ≡ false
    no-turn k x =
        key_equiv.symm key k ∙ found-all (λ (e : ℕ × List ℕ). key_eq k e.1 ≡ false) asker key f.askers x.none own

    module _ (held : Option FetchValue) (d : FetchesValue) (puts : PutsFetch key held (without_asker asker f) d) where
      rights-put : AllByRecursion (IsRight past d.fetches) left
      rights-put = rights-apart key held (without_asker asker f) d puts left rights-left is-left.none

      turn-put : (k : List ℕ) → HasTurn f.fetches f.askers k → HasTurn d.fetches left k
      turn-put k x = record {
        fetch = x.fetch;
        there = others-stay key held (without_asker asker f) d puts k (no-turn k x) ∙ x.there;
        none = (turn-left k x).none;
      }

      turns-put : AllByRecursion (HasTurn d.fetches left) f.to_ask
      turns-put = all-mapped (HasTurn f.fetches f.askers) (HasTurn d.fetches left) turn-put f.to_ask a.turns

      put-over : AreAsking past (record (without_asker asker f) { fetches = d.fetches })
      put-over = record { right = rights-put; once = is-left.once; turns = turns-put; turns_once = a.turns_once }

      put-on : (g : FetchValue) → held ≡ Some g
          → AreAsking past (record (without_asker asker f) { fetches = d.fetches; to_ask = f.to_ask ++ key ∷ [] })
      put-on g is = record {
        right = rights-put;
        once = is-left.once;
        turns = all-last (HasTurn d.fetches left) f.to_ask key turns-put (record {
          fetch = g;
          there = put-there key held (without_asker asker f) d puts ∙ is;
          none = is-left.none;
        });
        turns_once = IsDistinct-push key_equiv f.to_ask key a.turns_once
            (none-any (key_eq key) f.to_ask
            (all-mapped (HasTurn f.fetches f.askers) (λ (k : List ℕ). key_eq key k ≡ false) no-turn f.to_ask a.turns));
      }

-- ---- an asker is given

module _ (past : List pool.Happening) (key : List ℕ) (f : FetchValue) (number : ℕ) (p q : PoolState)
    (asks : Asks f number p q) where
  abbrev now-past : List pool.Happening
  now-past = pool.came p (event-of f number p q asks) ∷ past

  kept-now : (c : FetchesValue) → AreAsking past c → AreAsking now-past c
  kept-now c a = asking-kept (pool.came p (event-of f number p q asks)) past c tt a

  -- a fetch begins
  begun-so : (c d : FetchesValue) → fetch_at key c ≡ None → PutsFetch key (Some f) c d → AreAsking past c
      → AreAsking now-past (record (with_asker number key c) { fetches = d.fetches })
  begun-so c d none puts before =
      let a = kept-now c before in
      let apart = all-mapped (IsRight now-past c.fetches) (λ (e : ℕ × List ℕ). key_eq key e.1 ≡ false)
      (λ e x. none-there past c.fetches key e.1 x.fetch none x.there) c.askers a.right in
      record {
        right = all-inserted (IsRight now-past d.fetches) number key c.askers
            (rights-apart now-past key (Some f) c d puts c.askers a.right apart)
            (record {
              fetch = f;
              there = put-there now-past key (Some f) c d puts;
              asking = given-now past f number p q asks;
            });
        once = once-inserted number key c.askers a.once apart;
        turns = all-mapped (HasTurn c.fetches c.askers) (HasTurn d.fetches (with_asker number key c).askers)
            (λ k x.
            let other = none-there past c.fetches key k x.fetch none x.there in
            record {
              fetch = x.fetch;
              there = others-stay now-past key (Some f) c d puts k other ∙ x.there;
              none = none-inserted k number key c.askers x.none (key_equiv.symm k key ∙ other);
            }) c.to_ask a.turns;
        turns_once = a.turns_once;
      }

  -- the first that has a question to ask does so
  asked-so : (c : FetchesValue) → slice_get c.to_ask 0 ≡ Some key → fetch_at key c ≡ Some f → AreAsking past c
      → AreAsking now-past (with_asker number key (first_asked c))
  asked-so c is there before =
      let a = kept-now c before in
      let first = the-first now-past c key a is in
      record {
        right = all-inserted (IsRight now-past c.fetches) number key c.askers a.right
            (record { fetch = f; there = there; asking = given-now past f number p q asks });
        once = once-inserted number key c.askers a.once first.turn.none;
        turns = all-both (HasTurn c.fetches c.askers) (λ (k : List ℕ). key_eq key k ≡ false)
            (HasTurn c.fetches (with_asker number key c).askers)
            (λ k x apart. record {
              fetch = x.fetch;
              there = x.there;
              none = none-inserted k number key c.askers x.none (key_equiv.symm k key ∙ apart);
            }) (drop 1 c.to_ask) first.others first.apart;
        turns_once = first.once;
      }

-- ---- all of it

module _ (options : PoolOptions) (limits : PoolLimits) (seed : List ℕ) where
  abbrev start : PoolState
  start = no_servers options limits seed

  abbrev IsToldOver : List pool.Happening → Option TellingValue → Type 0
  IsToldOver past telling = (t : TellingValue) → telling ≡ Some t → IsOver past t.over

  pub record Holds (c : Part) : Type 0 where
    pub past : List pool.Happening
    pub runs : pool.Runs start past c.pool
    pub asking : AreAsking past c.fetches
    pub telling : IsToldOver past c.telling

  -- what is told stays so while an event comes
  telling-later : (c : Part) (h : Holds c) (e : PoolEvent) → IsKept e
      → IsToldOver (pool.came c.pool e ∷ h.past) c.telling
  telling-later c h e kept t is =
      over-later c.pool e h.past t.over kept (once-over options limits seed h.past c.pool h.runs) (h.telling t is)

  heard-event : (c : Part) (e : PoolEvent) → IsKept e → Holds c → Holds (record c { pool = after_event c.pool e })
  heard-event c e kept h = record {
    past = pool.came c.pool e ∷ h.past;
    runs = pool.by_event h.past c.pool e h.runs;
    asking = asking-kept (pool.came c.pool e) h.past c.fetches kept h.asking;
    telling = telling-later c h e kept;
  }

  -- an asker is given by one
  heard-asked : (c : Part) (f : FetchValue) (number : ℕ) (p : PoolState) (g : FetchesValue)
      (asks : Asks f number c.pool p) (h : Holds c) → AreAsking (pool.came c.pool (event-of f number c.pool p asks) ∷ h.past) g
      → Holds (record c { pool = p; fetches = g })
  heard-asked c f number p g asks h a =
      let e = event-of f number c.pool p asks in
      record {
        past = pool.came c.pool e ∷ h.past;
        runs = subst (pool.Runs start (pool.came c.pool e ∷ h.past)) (sym asks.after_is)
            (pool.by_event h.past c.pool e h.runs);
        asking = a;
        telling = telling-later c h e tt;
      }

  -- only fetches change
  with-fetches : (c : Part) (g d : FetchesValue) (h : Holds c) → g ≡ d → AreAsking h.past d
      → Holds (record c { fetches = g })
  with-fetches c g d h is a = record {
    past = h.past;
    runs = h.runs;
    asking = subst (AreAsking h.past) (sym is) a;
    telling = h.telling;
  }

  moved : (c d : Part) → Move c d → Holds c → Holds d
  moved c d (pool_hears e none kept is) h = subst Holds (sym is) (heard-event c e kept h)
  moved c d (told_all is) h =
      subst Holds (sym is) (record {
        past = h.past;
        runs = h.runs;
        asking = h.asking;
        telling = λ t told. let clash : None ≡ Some t = told in absurd cc;
      })
  moved c d (counts_one t was is) h =
      subst Holds (sym is) (record {
        past = h.past;
        runs = h.runs;
        asking = h.asking;
        telling = λ u told.
            let same : one_more t ≡ u = cc in
            subst (λ (x : TellingValue). IsOver h.past x.over) same (h.telling t was);
      })
  moved c d (fetch_changes key f g there same holds is) h =
      subst Holds (sym is) (with-fetches c d.fetches (record c.fetches { fetches = d.fetches.fetches }) h
      holds.others_stay (asking-as-before h.past c.fetches d.fetches.fetches
      (put-as-before h.past key (Some g) c.fetches d.fetches holds.puts f g there refl same) h.asking))
  moved c d (client_goes client is) h =
      subst Holds (sym is) (with-fetches c (fetches_without client c.fetches) (fetches_without client c.fetches) h refl
      (asking-as-before h.past c.fetches (fetches_without client c.fetches).fetches without h.asking))
    where
      without : (key : List ℕ) (f : FetchValue) → fetch_in key c.fetches.fetches ≡ Some f
          → (g : FetchValue) × (fetch_in key (fetches_without client c.fetches).fetches ≡ Some g)
          × (g.lookup ≡ f.lookup)
      without key f there = (
        fetch_without client f,
        lookup-map_values (fetch_without client) (key_eq key) c.fetches.fetches
            ∙ ap (option_map (fetch_without client)) there,
        refl,
      )
  moved c d (fetch_begins key f number p none asks begins is) h =
      subst Holds (sym is) (heard-asked c f number p d.fetches asks h
      (subst (AreAsking (pool.came c.pool (event-of f number c.pool p asks) ∷ h.past)) (sym begins.others_are)
      (begun-so h.past key f number c.pool p asks c.fetches d.fetches none begins.puts h.asking)))
  moved c d (fetch_asks key f number p turn there asks is) h =
      subst Holds (sym is) (heard-asked c f number p (with_asker number key (first_asked c.fetches)) asks h
      (asked-so h.past key f number c.pool p asks c.fetches turn there h.asking))
  moved c d (turn_passes is) h =
      subst Holds (sym is) (with-fetches c (first_asked c.fetches) (first_asked c.fetches) h refl
      (turn-goes h.past c.fetches h.asking))
  moved c d (turn_ends key turn ends is) h =
      subst Holds (sym is) (with-fetches c d.fetches (record (first_asked c.fetches) { fetches = d.fetches.fetches }) h
      ends.others_stay (turn-over h.past key c.fetches d.fetches turn h.asking ends.puts))
  moved c d (asker_goes asker key own is) h =
      subst Holds (sym is) (with-fetches c (without_asker asker c.fetches) (without_asker asker c.fetches) h refl
      (asker-left h.past asker key c.fetches own h.asking))
  moved c d (asker_ends asker key own ends is) h =
      subst Holds (sym is) (with-fetches c d.fetches
      (record (without_asker asker c.fetches) { fetches = d.fetches.fetches }) h ends.others_stay (put-over h.past asker key c.fetches own h.asking None d.fetches ends.puts))
  moved c d (asker_leads asker key g own leads is) h =
      subst Holds (sym is) (with-fetches c d.fetches
      (record (without_asker asker c.fetches) { fetches = d.fetches.fetches; to_ask = c.fetches.to_ask ++ key ∷ [] }) h
      leads.others_are (put-on h.past asker key c.fetches own h.asking (Some g) d.fetches leads.puts g refl))

  all-moved : (c d : Part) → Moves c d → Holds c → Holds d
  all-moved c d (as_before c' d' same) h = subst Holds (sym same) h
  all-moved c d (more c' m d' first rest) h = all-moved m d rest (moved c m first h)

  stepped : (c : Part) (q : PoolState) (r : Option Action) → in_pool.Steps c.pool r q → Holds c
      → Holds (record c { pool = q; telling = telling_of r })
  stepped c q r steps h = record {
    past = pool.did c.pool r ∷ h.past;
    runs = pool.by_step h.past c.pool q r steps h.runs;
    asking = asking-kept (pool.did c.pool r) h.past c.fetches tt h.asking;
    telling = by r steps;
  }
    where
      by : (r' : Option Action) → in_pool.Steps c.pool r' q → IsToldOver (pool.did c.pool r' ∷ h.past) (telling_of r')
      by None steps t is = absurd cc
      by (Some (does.Open x)) steps t is = absurd cc
      by (Some (does.Send x)) steps t is = absurd cc
      by (Some (does.Close x)) steps t is = absurd cc
      by (Some does.Continue) steps t is = absurd cc
      by (Some (does.Over o)) steps t is =
          let same : o ≡ t.over = cc in
          subst (IsOver (pool.did c.pool (Some (does.Over o)) ∷ h.past)) same
          (over-now options limits seed h.past c.pool h.runs q o steps)

  goes-on : (b a : ForwarderValue) (given : List PoolEvent) → Goes b a given → Holds (part b) → Holds (part a)
  goes-on b a given (near_by near) h = all-moved (part b) (part a) near h
  goes-on b a given (event_goes e kept is) h = subst Holds (sym is) (heard-event (part b) e kept h)
  goes-on b a given (pool_steps did steps is) h = subst Holds (sym is) (stepped (part b) a.pool did steps h)

  module _ (own : OptionsValue) (local : LocalValue) (cache failures : CacheBounds) where
    abbrev first : ForwarderValue
    first = new_forwarder own local cache failures start

    at-first : Holds (part first)
    unfolding IsDistinct
    at-first = record {
      past = [];
      runs = pool.at_first;
      asking = record { right = tt; once = tt; turns = tt; turns_once = tt };
      telling = λ t is. absurd cc;
    }

    holds : (past : List Happening) (s : ForwarderValue) → Runs first past s → Holds (part s)
    holds past s at_first = at-first
    holds past s (next earlier event before after happens runs) =
        goes-on before after (given_by event) (goes event before after happens) (holds earlier before runs)

    heard-right : (s : ForwarderValue) (r : ToldReply) (q : Query) (dnssec : Bool) → Holds (part s)
        → IsHeard s r q dnssec → IsFor r.question q dnssec
    heard-right s r q dnssec h x =
        let right =
        found-all (IsRight h.past s.fetches.fetches) x.asker x.key s.fetches.askers h.asking.right x.asks_for in
        let same : right.fetch ≡ x.fetch = same-some right.fetch x.fetch (sym right.there ∙ x.goes_on) in
        let asking =
        subst (λ (f : FetchValue). IsAsking h.past x.asker f.lookup.next f.lookup.dnssec) same right.asking in
        let wanted = subst (IsAsking h.past x.asker q) x.with_do
        (subst (λ (k : Query). IsAsking h.past x.asker k x.fetch.lookup.dnssec) x.question asking) in
        let t = x.telling.0 in
        subst (λ (p : PoolQuestion). IsFor p q dnssec) (sym x.telling.3)
        (told-for options limits seed h.past s.pool h.runs x.asker q dnssec t.over wanted (h.telling t x.telling.1)
        (in-at x.asker t.told t.over.askers x.has_turn))

    each-right : (past : List Happening) (s : ForwarderValue) → Runs first past s → (r : ToldReply) (q : Query)
        (dnssec : Bool) → WasHeard past r q dnssec → IsFor r.question q dnssec
    each-right past s at_first r q dnssec never = absurd never
    each-right past s (next earlier event before after happens runs) r q dnssec (inl now) =
        heard-right before r q dnssec (holds earlier before runs) now
    each-right past s (next earlier event before after happens runs) r q dnssec (inr was) =
        each-right earlier before runs r q dnssec was

pub each_reply_is_to_its_question : EachReplyIsToItsQuestion
each_reply_is_to_its_question own local cache failures options limits seed past s runs r q dnssec was =
    each-right options limits seed own local cache failures past s runs r q dnssec was
