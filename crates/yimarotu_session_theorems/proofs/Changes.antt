-- Each event and each step keeps what is kept.
use Rattle.std.proofs.Common.{◌≡◌, ◌∙◌, ℕ, Bool, true, false, true≢false, cond, List, [], ◌∷◌, ◌++◌, nat_eq, refl, sym, ap, subst, inl, inr, arith}
use Rattle.std.specs.Prelude.{MatchOption, Option, None, Some, Result, Ok, Err, slice_get}
use Rattle.std.specs.Option.{option_and_then, option_map, option_map_or}
use Rattle.std.proofs.lemmas.Bool.Decides.{nat_tests}
use Rattle.hickory_proto_core.specs.Handles.{OutcomeValue}
use Rattle.hickory_proto_core.specs.Messages.{MessageValue}
use Rattle.hickory_proto_core.specs.NameGiven.{IsReadAddress, IsReadName}
use Rattle.hickory_proto_core.specs.codes.record_type.RecordType.{RecordType}
use Rattle.hickory_proto_core.specs.declared.query.Query.{Query}
use Rattle.hickory_resolver.specs.Contexts.{progress_of}
use Rattle.hickory_resolver.specs.Driving.{CallProgress}
use Rattle.hickory_resolver.specs.Starting.{KeepsAllButCache, StartsAt, StartsHost, StartsName}
use Rattle.hickory_resolver_askers.specs.declared.asker.Asker.{Asker}
use Rattle.hickory_resolver_model.specs.Cache.{CacheValue}
use Rattle.hickory_resolver_model.specs.Resolver.{ResolverValue, after_clear_lookup, settings}
use Rattle.hickory_resolver_model.specs.Run.{address_call, name_call}
use Rattle.hickory_resolver_pool.specs.Laws.{PoolEvent, after_event, group_has, is_forgotten}
use Rattle.hickory_resolver_pool.specs.Laws as pool_event
use Rattle.hickory_resolver_model.specs.Lookup.{LookupResult}
use Rattle.hickory_resolver_pool.specs.Over.{IsCoreOutcome, OverValue}
use Rattle.hickory_resolver_pool.specs.Pool.{Steps, after_tick}
use Rattle.hickory_resolver_pool.specs.declared.pool.Action.{Action}
use Rattle.hickory_resolver_pool.specs.declared.pool.Action.TheVariants as pool_action
use Rattle.hickory_resolver_pool.specs.declared.limits.PoolLimits.{PoolLimits}
use Rattle.hickory_resolver_pool_theorems.specs.Handles.{IsReadOfOctets}
use Rattle.hickory_resolver_pool_theorems.specs.Runs.{Happening, WasOver, did, given_by}
use Rattle.hickory_resolver_pool_theorems.proofs.Asked.{end-asks}
use Rattle.hickory_resolver_pool_theorems.proofs.Overs.{told-at_end}
use Rattle.hickory_resolver_pool_theorems.proofs.Told.{core_is_told_what_came}
use Rattle.hickory_resolver_theorems.specs.InterleavedCalls.{AllCleared, CallEventValue, CallHappens, NameCleared}
use Rattle.hickory_resolver_tries.specs.Question.{question_eq}
use Rattle.hickory_resolver_tries.specs.declared.pool_question.PoolQuestion.{PoolQuestion}
use Rattle.yimarotu_session.specs.Ahead.{HearsAhead, told_ahead}
use Rattle.hickory_resolver_theorems.specs.ResumingCalls.{WaitingCallValue}
use Rattle.yimarotu_session.specs.Calls.{Does}
use Rattle.yimarotu_session.specs.LookupTables.{TableValue, announced, asker_of, first_announced, held_at, lookup_of, waits_ahead, waits_for, without_asker, without_told}
use Rattle.yimarotu_session.specs.NetworkSessions.{Begins, BeginsLookup, Cancels, ClearsName, NetworkValue, TellingValue, cleared, forgotten_by_pool, is_attempted, seconds_of, with_pool}
use Rattle.yimarotu_session.specs.NetworkSteps.{asker_with, Announces, AnnouncesAs, AnnouncesFirst, AnnouncesIt, AsksFirst, AsksFor, ForgetsFirst, SessionSteps, StepsPool, Tells, TellsAhead, TellsAsker, TellsLookup, TellsNext, TellsOther, forgotten, telling_of}
use Rattle.yimarotu_session.specs.Sessions.{PutsUnder, value_at}
use Rattle.yimarotu_session.specs.declared.ahead.Ahead.{Ahead}
use Rattle.yimarotu_session.specs.declared.ahead.Ahead.TheVariants.{Nothing, Told, Waits}
use Rattle.yimarotu_session.specs.declared.ahead.SecondQuestion.{SecondQuestion}
use Rattle.yimarotu_session.specs.declared.network_lookup.NetworkLookup.{NetworkLookup}
use Rattle.yimarotu_session.specs.declared.network_lookup.NetworkLookup.TheVariants.{Asks, Asked, Done}
use Rattle.yimarotu_session.specs.declared.network_session.NetworkAction.{NetworkAction}
use Rattle.yimarotu_session.specs.declared.network_session.NetworkAction.TheVariants as act
use Rattle.yimarotu_session.specs.declared.session_error.SessionError.{SessionError}
use Rattle.yimarotu_session.specs.declared.session_error.SessionError.TheVariants.{InUse, OutOfMemory}
use Rattle.yimarotu_session_theorems.specs.NetworkCalls.{EventTells, IsRefused}
use Rattle.yimarotu_session_theorems.specs.NetworkLaws.{IsAsCall, IsFedFrom, IsFromPool, question_with}
use Rattle.yimarotu_session_theorems.specs.NetworkRuns as network
use Rattle.yimarotu_session_theorems.specs.NetworkRuns.{Happens, NetworkEvent, all_is_cleared, channel_fails, host_is_started, is_cancelled, is_started, is_stepped, name_is_cleared, octets_come, servers_are, time_passes}
use Rattle.yimarotu_session_theorems.proofs.AskedAhead.{asked-alone, equal-then, found-asking, found-waiting, from-equal}
use Rattle.yimarotu_session_theorems.proofs.Asking.{asks}
use Rattle.yimarotu_session_theorems.proofs.Calls.{as-put, is-there, waits_by}
use Rattle.yimarotu_session_theorems.proofs.Going.{IsUnplaced, Played, Went, as-stay, cancelled-call, gone-on-at, heard-alone, none-done, own-places, passed, silent, started, table-stays, waits-there}
use Rattle.yimarotu_session_theorems.proofs.Kept.{IsAskedFor, IsSettledAt, IsTelling, IsToldOf, Kept, Places, PlacesLess, PoolMoves, ahead-on, asked-on, asks-same, call_at, call_of, ends-put, ends-same, first, keeps, keeps-telling, lookup-not-asked, lookups-less, lookups-same, options, places-less, places-same, places-untold, pool-does, pool-stays, pool-takes, pool-takes-both, question_for, second-on, told-grows}
use Rattle.yimarotu_session_theorems.proofs.Moves.{clears, over, world}

module _ (resolver : ResolverValue (List OutcomeValue)) (limits : PoolLimits) (seed : List ℕ) where
  abbrev Resolver : Type 0
  Resolver = ResolverValue (List OutcomeValue)

  module _ (events : List NetworkEvent) (s : NetworkValue) (k : Kept resolver limits seed events s) (after : NetworkValue) where
    abbrev cache : CacheValue
    cache = s.resolver.client.cache

    abbrev Settled : List Happening → Option Ahead → Type 0
    Settled past place = IsSettledAt resolver limits seed past place

    abbrev After : NetworkEvent → Type 0
    After e = Kept resolver limits seed (e ∷ events) after

    -- nothing happened, or to the pool alone
    nothing : (e : NetworkEvent) → network.given_by e ≡ [] → EventTells (settings resolver) e k.calls [] k.calls → after ≡ s
        → After e
    nothing e brings silent same =
        let table : after.table ≡ s.table = ap (λ (x : NetworkValue). x.table) same in
        keeps-telling resolver limits seed events s k after e (pool-stays resolver limits seed events s k after (ap (λ (x : NetworkValue). x.pool) same)) brings
        (none-done resolver limits seed events s k after e k.past silent (ap (λ (x : NetworkValue). x.resolver) same)
        (as-stay resolver limits seed events s k after (ap (λ (t : TableValue). t.lookups) table))
        (ends-same [] s.table.lookups after.table.lookups (ap (λ (t : TableValue). t.lookups) table)))
        (asks-same resolver limits seed k.past s.table after.table table) (ap (λ (x : NetworkValue). x.telling) same)

    to-pool-alone : (e : NetworkEvent) (happens : PoolEvent) → network.given_by e ≡ given_by happens
        → EventTells (settings resolver) e k.calls [] k.calls → after ≡ with_pool (after_event s.pool happens) s → After e
    to-pool-alone e happens brings silent same =
        let p = pool-takes resolver limits seed events s k after happens (ap (λ (x : NetworkValue). x.pool) same) in
        let table : after.table ≡ s.table = ap (λ (x : NetworkValue). x.table) same in
        keeps-telling resolver limits seed events s k after e p brings
        (none-done resolver limits seed events s k after e (p.later ++ k.past) silent (ap (λ (x : NetworkValue). x.resolver) same)
        (as-stay resolver limits seed events s k after (ap (λ (t : TableValue). t.lookups) table))
        (ends-same [] s.table.lookups after.table.lookups (ap (λ (t : TableValue). t.lookups) table)))
        (asks-same resolver limits seed (p.later ++ k.past) s.table after.table table)
        (ap (λ (x : NetworkValue). x.telling) same)

    -- ---- look-ups begin

    -- a look-up has this place, whose call came so far
    abbrev Puts-it : ℕ → CallProgress → Type 0
    Puts-it n p = PutsUnder n (Some (lookup_of p)) s.table.lookups after.table.lookups

    abbrev Unplaced : ℕ → Type 0
    Unplaced n = IsUnplaced resolver limits seed events s k after n

    -- nobody waits for what is asked ahead of it
    unplaced : (n : ℕ) (place : Option Ahead) → ((q : SecondQuestion) (a : Asker) → place ≡ Some (Waits q a) → ⊥)
        → PutsUnder n place s.table.ahead after.table.ahead → Unplaced n
    unplaced n place none puts q a there = none q a (by (nat_eq n n) refl (sym (puts n) ∙ there))
      where
        by : (b : Bool) → nat_eq n n ≡ b → cond b place (value_at n s.table.ahead) ≡ Some (Waits q a)
            → place ≡ Some (Waits q a)
        by true same e = e
        by false same e = grind (arith, nat_tests)

    name-begun : (past : List Happening) (n now : ℕ) (text : List ℕ) (t : RecordType) (u : Unit {0}) (p : CallProgress)
        → k.calls n ≡ [] → Puts-it n p → Unplaced n
        → StartsName (IsReadName text) t (seconds_of now) s.resolver (progress_of p) after.resolver
        → Played resolver limits seed events s k after (is_started n text t now (Ok u)) past
    name-begun past n now text t u p free puts none (given, gives, starts) =
        started resolver limits seed events s k after (is_started n text t now (Ok u)) past n (name_call t given) (seconds_of now) p
        (given, gives, progress_of p, (free, refl, refl)) free
        (subst (λ (r : Resolver). StartsAt (seconds_of now) (name_call t given) r (progress_of p) after.resolver) k.after_is starts)
        puts none

    host-begun : (past : List Happening) (n now : ℕ) (text : List ℕ) (u : Unit {0}) (p : CallProgress)
        → k.calls n ≡ [] → Puts-it n p → Unplaced n
        → StartsHost (IsReadAddress text) (IsReadName text) (seconds_of now) s.resolver (progress_of p) after.resolver
        → Played resolver limits seed events s k after (host_is_started n text now (Ok u)) past
    host-begun past n now text u p free puts none h =
        by (subst (λ (r : Resolver). StartsHost (IsReadAddress text) (IsReadName text) (seconds_of now) r (progress_of p) after.resolver) k.after_is h)
      where
        by : StartsHost (IsReadAddress text) (IsReadName text) (seconds_of now) (over resolver cache) (progress_of p) after.resolver
            → Played resolver limits seed events s k after (host_is_started n text now (Ok u)) past
        by (address, spells, given, gives, inl (live, starts)) =
            started resolver limits seed events s k after (host_is_started n text now (Ok u)) past n (address_call (settings resolver) address given (seconds_of now)) (seconds_of now) p
            (address, spells, given, gives, progress_of p, (λ out. absurd (live out)), (free, refl, refl)) free starts puts none
        by (address, spells, given, gives, inr (out, done, same)) =
            let cache_is : after.resolver.client.cache ≡ cache = ap (λ (r : Resolver). r.client.cache) same in
            started resolver limits seed events s k after (host_is_started n text now (Ok u)) past n (address_call (settings resolver) address given (seconds_of now)) (seconds_of now) p
            (address, spells, given, gives, progress_of p, (λ is. done), (free, refl, refl)) free
            (record {
              starts = inr (done, cache_is);
              others_stay = subst (λ (r : Resolver). KeepsAllButCache (over resolver cache) r) (sym same) refl;
            })
            puts none

    -- a look-up has no call where its number is free
    free-call : (n : ℕ) → held_at n s.table ≡ None → k.calls n ≡ []
    free-call n free = subst (λ (h : Option NetworkLookup). IsAsCall (k.calls n) h) free (k.as_calls n)

    begun : (e : NetworkEvent) → network.given_by e ≡ [] → (Comes : Does) (ahead : Option Ahead) (n now : ℕ)
        → ((past : List Happening) → Settled past ahead)
        → ((q : SecondQuestion) (a : Asker) → ahead ≡ Some (Waits q a) → ⊥)
        → ((past : List Happening) (p : CallProgress) → k.calls n ≡ [] → Puts-it n p → Unplaced n
        → Comes s.resolver (progress_of p) after.resolver → Played resolver limits seed events s k after e past)
        → held_at n s.table ≡ None → Begins Comes ahead n now s after → After e
    begun e brings Comes ahead n now settled empty comes free b =
        let p = pool-takes resolver limits seed events s k after (pool_event.time_passes now) b.pool_is in
        keeps-telling resolver limits seed events s k after e p brings
        (comes (p.later ++ k.past) b.progress (free-call n free) b.begins.puts (unplaced n ahead empty b.begins.puts_ahead) b.comes)
        (record {
          lookups = lookups-less n (Some (lookup_of b.progress)) s.table.lookups after.table.lookups (lookup-not-asked b.progress) b.begins.puts;
          places = places-less resolver limits seed (p.later ++ k.past) n ahead s.table.ahead after.table.ahead (settled (p.later ++ k.past)) b.begins.puts_ahead;
        })
        b.telling_stays

    -- where it is begun, its number is free
    abbrev IsFreely : Does → Option Ahead → ℕ → ℕ → Type 0
    IsFreely Comes ahead n now = (held_at n s.table ≡ None) × Begins Comes ahead n now s after

    begins-freely : (Comes : Does) (ahead : Option Ahead) (n now : ℕ) (u : Unit {0})
        → BeginsLookup Comes ahead n now s (Ok u) after → IsFreely Comes ahead n now
    begins-freely Comes ahead n now u h = by (held_at n s.table) refl h
      where
        by : (held : Option NetworkLookup) → held_at n s.table ≡ held
            → MatchOption held (Begins Comes ahead n now s after) (λ x. (Ok u ≡ Err InUse) × (after ≡ s))
            → IsFreely Comes ahead n now
        by None free b = (free, b)
        by (Some x) there (is, same) = let clash : Ok u ≡ Err InUse = is in absurd cc

    -- where it is refused, nothing happens
    abbrev IsInVain : ℕ → SessionError → Type 0
    IsInVain n error = IsRefused error (k.calls n) × (after ≡ s)

    in-use : (call : List CallEventValue) (held : NetworkLookup) (error : SessionError) → IsAsCall call (Some held)
        → error ≡ InUse → IsRefused error call
    in-use [] held error are is = absurd (true≢false (is-there [] (Some held) are))
    in-use (event ∷ earlier) held error are is = is

    abbrev refused_as : SessionError → Result (Unit {0}) SessionError
    refused_as error = Err error

    begins-in-vain : (Comes : Does) (ahead : Option Ahead) (n now : ℕ) (error : SessionError)
        → BeginsLookup Comes ahead n now s (Err error) after → IsInVain n error
    begins-in-vain Comes ahead n now error h = by (held_at n s.table) refl h
      where
        by : (held : Option NetworkLookup) → held_at n s.table ≡ held
            → MatchOption held ((error ≡ OutOfMemory) × (after ≡ s)) (λ x. (refused_as error ≡ refused_as InUse) × (after ≡ s))
            → IsInVain n error
        by None free (is, same) = (subst (λ (call : List CallEventValue). IsRefused error call) (sym (free-call n free)) is, same)
        by (Some x) there (is, same) =
            let own : error ≡ InUse = cc in
            (in-use (k.calls n) x error (subst (λ (h : Option NetworkLookup). IsAsCall (k.calls n) h) there (k.as_calls n)) own, same)

    name-begins : (n : ℕ) (text : List ℕ) (t : RecordType) (now : ℕ) (result : Result (Unit {0}) SessionError)
        → BeginsLookup (StartsName (IsReadName text) t (seconds_of now)) None n now s result after
        → After (is_started n text t now result)
    name-begins n text t now (Ok u) h =
        let Comes : Does = StartsName (IsReadName text) t (seconds_of now) in
        let b = begins-freely Comes None n now u h in
        begun (is_started n text t now (Ok u)) refl Comes None n now (λ past. tt)
        (λ q a e. let clash : None ≡ Some (Waits q a) = e in absurd cc)
        (λ past p free puts none comes. name-begun past n now text t u p free puts none comes) b.0 b.1
    name-begins n text t now (Err error) h =
        let b = begins-in-vain (StartsName (IsReadName text) t (seconds_of now)) None n now error h in
        nothing (is_started n text t now (Err error)) refl (b.0, (refl, refl)) b.1

    host-begins : (n : ℕ) (text : List ℕ) (now : ℕ) (result : Result (Unit {0}) SessionError)
        → BeginsLookup (StartsHost (IsReadAddress text) (IsReadName text) (seconds_of now)) (Some Nothing) n now s result after
        → After (host_is_started n text now result)
    host-begins n text now (Ok u) h =
        let Comes : Does = StartsHost (IsReadAddress text) (IsReadName text) (seconds_of now) in
        let b = begins-freely Comes (Some Nothing) n now u h in
        begun (host_is_started n text now (Ok u)) refl Comes (Some Nothing) n now (λ past. tt)
        (λ q a e. let clash : Some Nothing ≡ Some (Waits q a) = e in absurd cc)
        (λ past p free puts none comes. host-begun past n now text u p free puts none comes) b.0 b.1
    host-begins n text now (Err error) h =
        let b = begins-in-vain (StartsHost (IsReadAddress text) (IsReadName text) (seconds_of now)) (Some Nothing) n now error h in
        nothing (host_is_started n text now (Err error)) refl (b.0, (refl, refl)) b.1

    -- ---- a look-up is forgotten

    cancelled : (n now : ℕ) (was_there : Bool) → Cancels n now s was_there after → After (is_cancelled n now was_there)
    cancelled n now was_there c = pool-by (asker_of (held_at n s.table)) c.pool_is
      where
        none : Unplaced n
        none = unplaced n None (λ q a e. let clash : None ≡ Some (Waits q a) = e in absurd cc) c.is_forgotten.puts_ahead

        kept : PoolMoves resolver limits seed [] k.past s.pool after.pool → After (is_cancelled n now was_there)
        kept p =
            keeps-telling resolver limits seed events s k after (is_cancelled n now was_there) p refl
            (cancelled-call resolver limits seed events s k after (p.later ++ k.past) n now was_there c.told c.resolver_stays c.is_forgotten.puts none)
            (record {
              lookups = lookups-less n None s.table.lookups after.table.lookups (λ w a e. let clash : None ≡ Some (Asked w a) = e in absurd cc) c.is_forgotten.puts;
              places = places-less resolver limits seed (p.later ++ k.past) n None s.table.ahead after.table.ahead tt c.is_forgotten.puts_ahead;
            })
            c.telling_stays

        pool-by : (a : Option Asker) → after.pool ≡ after_tick now (option_map_or (forgotten_by_pool s.pool) a s.pool)
            → After (is_cancelled n now was_there)
        pool-by None same = kept (pool-takes resolver limits seed events s k after (pool_event.time_passes now) same)
        pool-by (Some a) same =
            kept (pool-takes-both resolver limits seed events s k after (is_forgotten a) (pool_event.time_passes now) same)

    -- ---- the cache is cleared

    abbrev without_entries : Resolver → Resolver
    without_entries r = record r { client = record r.client { cache = record r.client.cache { entries = [] } } }

    -- one event of the cache alone
    cache-cleared : (e : NetworkEvent) → network.given_by e ≡ [] → (told : CallEventValue)
        → EventTells (settings resolver) e k.calls (told ∷ []) k.calls
        → IsFedFrom (first resolver limits seed) (options resolver limits seed) k.past told
        → (clear : Resolver → Resolver) (passes : Query → Bool)
        → after ≡ record s { resolver = clear s.resolver; table = without_told passes s.table }
        → ((r : Resolver) → clear (over resolver cache) ≡ over resolver (clear (over resolver cache)).client.cache)
        → CallHappens (settings resolver) (world resolver cache k.flights) told (world resolver (clear (over resolver cache)).client.cache k.flights)
        → After e
    cache-cleared e brings told tells from clear passes same others happen =
        let clear_is : after.resolver ≡ clear (over resolver cache) = ap (λ (x : NetworkValue). x.resolver) same ∙ ap clear k.after_is in
        let cache_is : after.resolver.client.cache ≡ (clear (over resolver cache)).client.cache = ap (λ (r : Resolver). r.client.cache) clear_is in
        let lookups : after.table.lookups ≡ s.table.lookups = ap (λ (x : NetworkValue). x.table.lookups) same in
        keeps-telling resolver limits seed events s k after e (pool-stays resolver limits seed events s k after (ap (λ (x : NetworkValue). x.pool) same)) brings
        (record {
          told = told ∷ [];
          calls = k.calls;
          tells = tells;
          moves = clears resolver cache k.flights (waits_by k.calls) k.flying after.resolver (waits_by k.calls) told
              (subst (λ (x : CacheValue). CallHappens (settings resolver) (world resolver cache k.flights) told (world resolver x k.flights)) (sym cache_is) happen)
              (clear_is ∙ others s.resolver ∙ ap (over resolver) (sym cache_is)) (λ n. refl);
          since = k.since;
          as_calls = as-stay resolver limits seed events s k after lookups;
          later = λ n q a there. ([], refl);
          fed = (from, tt);
          ends = ends-same (told ∷ []) s.table.lookups after.table.lookups lookups;
        })
        (record {
          lookups = lookups-same s.table.lookups after.table.lookups lookups;
          places = subst (λ (l : Places). PlacesLess resolver limits seed k.past s.table.ahead l)
              (sym (ap (λ (x : NetworkValue). x.table.ahead) same))
              (places-untold resolver limits seed k.past passes s.table.ahead);
        })
        (ap (λ (x : NetworkValue). x.telling) same)

    name-cleared : (text : List ℕ) (t : RecordType) (result : Result (Unit {0}) SessionError)
        → ClearsName text t s result after → After (name_is_cleared text t result)
    name-cleared text t (Ok u) ((given, gives, live, same), unchanged, out) =
        cache-cleared (name_is_cleared text t (Ok u)) refl (NameCleared t given) (given, gives, live, refl, refl) tt
        (after_clear_lookup t given) (is_attempted (settings s.resolver) t given) same (λ r. refl) refl
    name-cleared text t (Err e) (cleared, same, out) =
        nothing (name_is_cleared text t (Err e)) refl (out, (refl, refl)) same

    all-cleared : after ≡ cleared s → After all_is_cleared
    all-cleared same =
        cache-cleared all_is_cleared refl AllCleared (refl, refl) tt without_entries (λ q. true) same (λ r. refl) refl

  module _ (events : List NetworkEvent) (s : NetworkValue) (k : Kept resolver limits seed events s) (after : NetworkValue)
      (action : Option NetworkAction) where
    abbrev Stepped : Type 0
    Stepped = Kept resolver limits seed (is_stepped action ∷ events) after

    -- nothing is told of it, and the look-ups stay
    nothing-told : (past : List Happening) → after.resolver ≡ s.resolver → after.table.lookups ≡ s.table.lookups
        → Played resolver limits seed events s k after (is_stepped action) past
    nothing-told past same lookups =
        none-done resolver limits seed events s k after (is_stepped action) past (silent resolver limits seed events s k after action) same
        (as-stay resolver limits seed events s k after lookups)
        (ends-same [] s.table.lookups after.table.lookups lookups)

    -- ---- somebody is told

    -- nothing but a queue, an asker or what is being told has changed
    same-but : (table : TableValue) (telling : Option TellingValue) → table.lookups ≡ s.table.lookups
        → table.ahead ≡ s.table.ahead → IsTelling resolver limits seed k.past table telling
        → after ≡ record s { table = table; telling = telling } → Stepped
    same-but table telling same same_ahead told is =
        let lookups : after.table.lookups ≡ s.table.lookups = ap (λ (x : NetworkValue). x.table.lookups) is ∙ same in
        let places : after.table.ahead ≡ s.table.ahead = ap (λ (x : NetworkValue). x.table.ahead) is ∙ same_ahead in
        let p = pool-stays resolver limits seed events s k after (ap (λ (x : NetworkValue). x.pool) is) in
        let less = places-same resolver limits seed k.past s.table.ahead after.table.ahead places in
        let d = nothing-told k.past (ap (λ (x : NetworkValue). x.resolver) is) lookups in
        keeps resolver limits seed events s k after (is_stepped action) p refl d
        (asked-on resolver limits seed events s k after p (lookups-same s.table.lookups after.table.lookups lookups))
        (ahead-on resolver limits seed events s k after p less)
        (second-on resolver limits seed events s k after (is_stepped action) k.past d less)
        (subst (λ (x : NetworkValue). IsTelling resolver limits seed k.past x.table x.telling) (sym is) told)

    -- what is told is read of octets, where it is a response
    read-of : (past : List Happening) (o : OverValue) (w : WasOver (first resolver limits seed) past o)
        → (outcome : OutcomeValue) → IsCoreOutcome o outcome → (m : MessageValue) → outcome ≡ Ok m
        → IsReadOfOctets w.earlier o m
    read-of past o w outcome told m is =
        core_is_told_what_came resolver.options limits seed w.earlier w.before w.after o m w.runs w.ends
        (subst (λ (x : OutcomeValue). IsCoreOutcome o x) is told)

    -- what is told of a transaction is from the pool, for each question that is equal to its own
    from-over : (past : List Happening) (o : OverValue) (w : WasOver (first resolver limits seed) past o)
        → (question : PoolQuestion) → question_eq question o.question ≡ true → (outcome : OutcomeValue)
        → IsCoreOutcome o outcome → IsFromPool (first resolver limits seed) past question outcome
    from-over past o w question equal outcome told =
        inl (record { over = o; was_over = w; same = equal; told = told; read = read-of past o w outcome told })

    told-lookup : (past : List Happening) (o : OverValue) → IsToldOf resolver limits seed past s.table o → (number n : ℕ)
        → waits_for (asker_with o number) s.table ≡ Some n
        → TellsLookup o (asker_with o number) s.resolver s.table after.resolver after.table n → Went resolver limits seed events s k after action past
    told-lookup past o t number n found l =
        let f = found-waiting (asker_with o number) s.table n found in
        let call : call_at s.table.lookups n ≡ Some f.call = ap (λ (h : Option NetworkLookup). option_and_then call_of h) f.held in
        gone-on-at resolver limits seed events s k after action past n l.outcome (without_asker number s.table) refl (own-places resolver limits seed events s k after past)
        (λ v is.
        let one : Some f.call ≡ Some v = sym call ∙ is in
        let own : f.call ≡ v = cc in
        subst (λ (x : WaitingCallValue). IsFromPool (first resolver limits seed) past (question_with (options resolver limits seed) x) l.outcome) own
        (from-over past o t.was_over (question_with (options resolver limits seed) f.call)
        (t.asked n f.call f.the_asker f.held f.transaction) l.outcome l.told))
        l.goes_on

    told-ahead : (past : List Happening) (o : OverValue) → IsToldOf resolver limits seed past s.table o → (number n : ℕ)
        → waits_ahead (asker_with o number) s.table ≡ Some n
        → TellsAhead o (asker_with o number) s.resolver s.table after.resolver after.table n → Went resolver limits seed events s k after action past
    told-ahead past o t number n found l =
        let f = found-asking (asker_with o number) s.table n found in
        let from = from-over past o t.was_over (question_for resolver limits seed f.question.query)
        (t.ahead n f.question f.the_asker f.place f.transaction) l.outcome l.told in
        let heard = subst (λ (x : Option Ahead). HearsAhead l.outcome x s.resolver after.resolver) f.place l.heard in
        let lookups : after.table.lookups ≡ s.table.lookups = ap (λ (x : TableValue). x.lookups) l.changes.others_stay in
        let place : Option Ahead = Some (Told f.question.query l.outcome) in
        let puts = subst (λ (x : Option Ahead). PutsUnder n (option_map (told_ahead l.outcome) x) s.table.ahead after.table.ahead) f.place l.changes.puts in
        record {
          played = heard-alone resolver limits seed events s k after action past n f.question l.outcome
              (k.second n f.question f.the_asker f.place)
              (λ w waits. from-equal (first resolver limits seed) past (question_with (options resolver limits seed) w) (question_for resolver limits seed f.question.query) l.outcome
              (asked-alone f.question.query w (options resolver limits seed) waits) from)
              heard lookups;
          less = record {
            lookups = lookups-same s.table.lookups after.table.lookups lookups;
            places = places-less resolver limits seed past n place s.table.ahead after.table.ahead from puts;
          };
        }

    told-one : (past : List Happening) (o : OverValue) → IsToldOf resolver limits seed past s.table o → (number : ℕ)
        → TellsAsker o (asker_with o number) s.resolver s.table after.resolver after.table → Went resolver limits seed events s k after action past
    told-one past o t number h = by (waits_for (asker_with o number) s.table) refl h
      where
        other : (n : Option ℕ) → waits_ahead (asker_with o number) s.table ≡ n
            → MatchOption n ((after.resolver ≡ s.resolver) × (after.table ≡ s.table)) (TellsAhead o (asker_with o number) s.resolver s.table after.resolver after.table)
            → Went resolver limits seed events s k after action past
        other None none (same, stays) = table-stays resolver limits seed events s k after action past same stays
        other (Some n) found l = told-ahead past o t number n found l

        by : (n : Option ℕ) → waits_for (asker_with o number) s.table ≡ n
            → MatchOption n (TellsOther o (asker_with o number) s.resolver s.table after.resolver after.table) (TellsLookup o (asker_with o number) s.resolver s.table after.resolver after.table)
            → Went resolver limits seed events s k after action past
        by None none h = other (waits_ahead (asker_with o number) s.table) refl h
        by (Some n) found l = told-lookup past o t number n found l

    told-next : (t : TellingValue) → s.telling ≡ Some t → (number : ℕ) → TellsNext t s after number
        → Stepped
    told-next t is number n =
        let p = pool-stays resolver limits seed events s k after n.pool_stays in
        let w = subst (λ (x : Option TellingValue). IsTelling resolver limits seed k.past s.table x) is k.telling in
        let went = told-one k.past t.over w number n.told in
        keeps resolver limits seed events s k after (is_stepped action) p refl went.played
        (asked-on resolver limits seed events s k after p went.less.lookups)
        (ahead-on resolver limits seed events s k after p went.less.places)
        (second-on resolver limits seed events s k after (is_stepped action) k.past went.played went.less.places)
        (subst (λ (x : Option TellingValue). IsTelling resolver limits seed k.past after.table x) (sym n.telling_is)
        (told-grows resolver limits seed k.past [] s.table after.table t.over went.less w))

    tells : (t : TellingValue) → s.telling ≡ Some t → Tells s after t → Stepped
    tells t is h = by (slice_get t.over.askers t.told) h
      where
        by : (number : Option ℕ) → MatchOption number (after ≡ record s { telling = None }) (TellsNext t s after)
            → Stepped
        by None same = same-but s.table None refl refl tt same
        by (Some number) n = told-next t is number n

    -- an asker is forgotten to whom nobody listens
    forgot : (a : Asker) → after ≡ forgotten s a → Stepped
    forgot a same =
        let p = pool-takes resolver limits seed events s k after (is_forgotten a) (ap (λ (x : NetworkValue). x.pool) same) in
        let lookups : after.table.lookups ≡ s.table.lookups = ap (λ (x : NetworkValue). x.table.lookups) same in
        keeps-telling resolver limits seed events s k after (is_stepped action) p refl
        (nothing-told (p.later ++ k.past) (ap (λ (x : NetworkValue). x.resolver) same) lookups)
        (record {
          lookups = lookups-same s.table.lookups after.table.lookups lookups;
          places = places-same resolver limits seed (p.later ++ k.past) s.table.ahead after.table.ahead
              (ap (λ (x : NetworkValue). x.table.ahead) same);
        })
        (ap (λ (x : NetworkValue). x.telling) same)

    -- ---- a look-up is announced

    announced-one : (n : ℕ) (found : LookupResult)
        → value_at n s.table.lookups ≡ Some (Done found false) → AnnouncesIt n s action after
        → Stepped
    announced-one n found there a =
        let p = pool-stays resolver limits seed events s k after (ap (λ (x : NetworkValue). x.pool) a.others_stay) in
        let puts = subst (λ (h : Option NetworkLookup). PutsUnder n (option_map announced h) s.table.lookups after.table.lookups) there a.is_announced.puts in
        keeps-telling resolver limits seed events s k after (is_stepped action) p refl
        (none-done resolver limits seed events s k after (is_stepped action) k.past (silent resolver limits seed events s k after action) (ap (λ (x : NetworkValue). x.resolver) a.others_stay)
        (as-put n (Some (Done found true)) k.calls s.table.lookups after.table.lookups puts (waits-there resolver limits seed events s k after n (Done found false) there) k.as_calls)
        (ends-put [] n (Some (Done found true)) s.table.lookups after.table.lookups
        (λ f b e. let own : found ≡ f = cc in inl (false, there ∙ ap (λ (r : LookupResult). Some (Done r false)) own)) puts))
        (record {
          lookups = lookups-less n (Some (Done found true)) s.table.lookups after.table.lookups
              (λ v b e. let clash : Some (Done found true) ≡ Some (Asked v b) = e in absurd cc) puts;
          places = places-less resolver limits seed k.past n None s.table.ahead after.table.ahead tt a.is_announced.puts_ahead;
        })
        (ap (λ (x : NetworkValue). x.telling) a.others_stay)

    passed-announcing : after ≡ record s { table = first_announced s.table } → Stepped
    passed-announcing same = passed resolver limits seed events s k after action (first_announced s.table) refl refl same

    announces : (n : ℕ) (held : Option NetworkLookup)
        → value_at n s.table.lookups ≡ held → AnnouncesAs held n s action after → Stepped
    announces n None there (is, same) = passed-announcing same
    announces n (Some (Asks w)) there (is, same) = passed-announcing same
    announces n (Some (Asked w a)) there (is, same) = passed-announcing same
    announces n (Some (Done found false)) there a = announced-one n found there a
    announces n (Some (Done found true)) there (is, same) = passed-announcing same

    -- ---- the pool does its step

    pool-steps : StepsPool s action after → Stepped
    pool-steps h =
        let table : after.table ≡ s.table = ap (λ (x : NetworkValue). x.table) h.others_are in
        let p = pool-does resolver limits seed events s k after h.did h.steps in
        let past = did s.pool h.did ∷ k.past in
        let less = asks-same resolver limits seed past s.table after.table table in
        let d = nothing-told past (ap (λ (x : NetworkValue). x.resolver) h.others_are) (ap (λ (t : TableValue). t.lookups) table) in
        keeps resolver limits seed events s k after (is_stepped action) p refl d
        (asked-on resolver limits seed events s k after p less.lookups) (ahead-on resolver limits seed events s k after p less.places)
        (second-on resolver limits seed events s k after (is_stepped action) past d less.places)
        (subst (λ (t : Option TellingValue). IsTelling resolver limits seed past after.table t)
        (sym (ap (λ (x : NetworkValue). x.telling) h.others_are))
        (subst (λ (t : TableValue). IsTelling resolver limits seed past t (telling_of h.did)) (sym table) (said h.did h.steps)))
      where
        equal-end : (o : OverValue) (question : PoolQuestion) (a : Asker) → Steps s.pool (Some (pool_action.Over o)) after.pool
            → IsAskedFor resolver limits seed s.pool question a → a.transaction ≡ o.transaction
            → question_eq question o.question ≡ true
        equal-end o question a steps is same =
            equal-then question is.asked o.question is.same
            (end-asks is.list is.asked a.transaction s.pool o is.own (sym same) (told-at_end o s.pool after.pool steps))

        said : (d : Option Action) → Steps s.pool d after.pool
            → IsTelling resolver limits seed (did s.pool d ∷ k.past) s.table (telling_of d)
        said None steps = tt
        said (Some (pool_action.Open opening)) steps = tt
        said (Some (pool_action.Send sent)) steps = tt
        said (Some (pool_action.Close channel)) steps = tt
        said (Some (pool_action.Over o)) steps = record {
          was_over = record {
            later = [];
            earlier = k.past;
            before = s.pool;
            after = after.pool;
            happened = refl;
            runs = k.runs;
            ends = steps;
          };
          asked = λ n w a there same. equal-end o (question_with (options resolver limits seed) w) a steps (k.asked n w a there) same;
          ahead = λ n q a there same. equal-end o (question_for resolver limits seed q.query) a steps (k.ahead n (Waits q a) there) same;
        }
        said (Some pool_action.Continue) steps = tt

    -- ---- a step

    announces-first : AnnouncesFirst s action after → Stepped
    announces-first h = by (slice_get s.table.to_announce 0) h
      where
        by : (number : Option ℕ) → MatchOption number (StepsPool s action after) (Announces s action after)
            → Stepped
        by None steps = pool-steps steps
        by (Some n) a = announces n (held_at n s.table) refl a

    asks-first : s.telling ≡ None → AsksFirst s action after
        → Stepped
    asks-first none h = by (slice_get s.table.to_ask 0) h
      where
        by : (number : Option ℕ)
            → MatchOption number (AnnouncesFirst s action after) (λ n. (action ≡ Some act.Continue) × AsksFor s after n)
            → Stepped
        by None h = announces-first h
        by (Some n) (is, h) = asks resolver limits seed events s k after action n none (held_at n s.table) refl h

    forgets-first : s.telling ≡ None → ForgetsFirst s action after
        → Stepped
    forgets-first none h = by (slice_get s.table.to_forget 0) h
      where
        by : (a : Option Asker)
            → MatchOption a (AsksFirst s action after) (λ a. (action ≡ Some act.Continue) × (after ≡ forgotten s a))
            → Stepped
        by None h = asks-first none h
        by (Some a) (is, same) = forgot a same

    stepped : SessionSteps s action after → Stepped
    stepped h = by s.telling refl h
      where
        by : (t : Option TellingValue) → s.telling ≡ t
            → MatchOption t (ForgetsFirst s action after) (λ t. (action ≡ Some act.Continue) × Tells s after t)
            → Stepped
        by None none h = forgets-first none h
        by (Some t) is (said, h) = tells t is h

  -- ---- an event

  pub happens : (events : List NetworkEvent) (s : NetworkValue) (k : Kept resolver limits seed events s) (after : NetworkValue)
      (e : NetworkEvent) → Happens e s after → Kept resolver limits seed (e ∷ events) after
  happens events s k after (is_started number name t now result) h = name-begins events s k after number name t now result h
  happens events s k after (host_is_started number host now result) h = host-begins events s k after number host now result h
  happens events s k after (is_cancelled number now was_there) h = cancelled events s k after number now was_there h
  happens events s k after (servers_are servers) h =
      to-pool-alone events s k after (servers_are servers) (group_has 0 servers) refl (refl, refl) h
  happens events s k after (octets_come channel octets now) h =
      to-pool-alone events s k after (octets_come channel octets now) (pool_event.octets_come channel octets now) refl (refl, refl) h
  happens events s k after (channel_fails failure now) h =
      to-pool-alone events s k after (channel_fails failure now) (pool_event.channel_fails failure now) refl (refl, refl) h
  happens events s k after (time_passes now) h =
      to-pool-alone events s k after (time_passes now) (pool_event.time_passes now) refl (refl, refl) h
  happens events s k after (name_is_cleared name t result) h = name-cleared events s k after name t result h
  happens events s k after all_is_cleared h = all-cleared events s k after h
  happens events s k after (is_stepped action) h = stepped events s k after action h
