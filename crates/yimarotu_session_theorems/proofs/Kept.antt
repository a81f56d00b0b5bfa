-- What is kept by each event and each step of a session: its pool is one that was reached, what is being told was said
-- by it, what was asked ahead of a look-up and told is from it, and what happened to the resolver is told as events of
-- calls. Each look-up is as the call under its number, which waits since its start; and what is asked ahead of it is of
-- the second family.
use Rattle.std.proofs.Common.{◌≡◌, ◌∙◌, ℕ, Bool, true, false, cond, List, [], ◌∷◌, ◌++◌, map, nat_eq, refl, sym, ap, subst, ◌⊎◌, inl, inr, arith}
use Rattle.std.specs.Prelude.{Ok, Option, None, Some}
use Rattle.std.specs.List.{AllByRecursion}
use Rattle.std.specs.Option.{option_and_then, option_map}
use Rattle.std.proofs.lemmas.Bool.Decides.{nat_tests}
use Rattle.std.proofs.lemmas.List.{append_assoc}
use Rattle.std.proofs.lemmas.Map.Made.{lookup-map_values}
use Rattle.hickory_proto_core.specs.Handles.{OutcomeValue}
use Rattle.hickory_proto_core.specs.declared.dns_request.DnsRequestOptions.{DnsRequestOptions}
use Rattle.hickory_proto_core.specs.declared.query.Query.{Query}
use Rattle.hickory_resolver.specs.Contexts.{progress_of}
use Rattle.hickory_resolver.specs.Driving.{CallProgress}
use Rattle.hickory_resolver.specs.client.waiting.Progress.TheVariants as progress
use Rattle.hickory_resolver_askers.specs.declared.asker.Asker.{Asker}
use Rattle.hickory_resolver_model.specs.Options.{request_options_of}
use Rattle.hickory_resolver_model.specs.Resolver.{ResolverValue, settings}
use Rattle.hickory_resolver_model.specs.Lookup.{LookupResult}
use Rattle.hickory_resolver_model.specs.Resuming.{IsDone}
use Rattle.hickory_resolver_model.specs.Run.{Settings, name_call}
use Rattle.hickory_resolver_pool.specs.Laws.{PoolEvent, after_event}
use Rattle.hickory_resolver_pool.specs.Over.{OverValue}
use Rattle.hickory_resolver_pool.specs.Pool.{PoolState, Steps, no_servers}
use Rattle.hickory_resolver_pool.specs.declared.pool.Action.{Action}
use Rattle.hickory_resolver_pool.specs.declared.limits.PoolLimits.{PoolLimits}
use Rattle.hickory_resolver_pool_theorems.specs.Runs.{Happening, Runs, WasOver, by_event, by_step, came, did, given_in, given_by}
use Rattle.hickory_resolver_pool_theorems.specs.Runs as runs
use Rattle.hickory_resolver_pool_theorems.proofs.Asked.{IsOwn, own-event, own-step}
use Rattle.hickory_resolver_pool_theorems.proofs.Later.{over-grows}
use Rattle.hickory_resolver_theorems.specs.InterleavedCalls.{CallDropped, CallEventValue, CallFed, CallStarted, CallWorldValue, CallsHappen, HostsReplaced, AllCleared, NameCleared, call_world_of}
use Rattle.hickory_resolver_theorems.specs.ResumingCalls.{WaitingCallValue}
use Rattle.hickory_resolver_tries.specs.Question.{question_eq, question_of}
use Rattle.hickory_resolver_tries.specs.declared.pool_question.PoolQuestion.{PoolQuestion}
use Rattle.yimarotu_session.specs.Ahead.{is_told_of, untold}
use Rattle.yimarotu_session.specs.LookupTables.{TableValue, lookup_of}
use Rattle.yimarotu_session.specs.NetworkSessions.{NetworkValue, TellingValue, new_session}
use Rattle.yimarotu_session.specs.NetworkSteps.{no_dnssec}
use Rattle.yimarotu_session.specs.Sessions.{PutsUnder, value_at}
use Rattle.yimarotu_session.specs.declared.ahead.Ahead.{Ahead}
use Rattle.yimarotu_session.specs.declared.ahead.Ahead.TheVariants.{Nothing, Told, Waits}
use Rattle.yimarotu_session.specs.declared.ahead.SecondQuestion.{SecondQuestion}
use Rattle.yimarotu_session.specs.declared.network_lookup.NetworkLookup.{NetworkLookup}
use Rattle.yimarotu_session.specs.declared.network_lookup.NetworkLookup.TheVariants.{Asks, Asked, Done}
use Rattle.yimarotu_session_theorems.specs.NetworkCalls.{AreTold, Calls, EventTells, IsOfSecond, no_calls}
use Rattle.yimarotu_session_theorems.specs.NetworkCalls as told_calls
use Rattle.yimarotu_session_theorems.specs.NetworkLaws.{AreOfCalls, ComesTo, IsFedFrom, IsFromPool, SomeComesTo, question_with}
use Rattle.yimarotu_session_theorems.specs.NetworkRuns.{NetworkEvent}
use Rattle.yimarotu_session_theorems.specs.NetworkRuns as network
use Rattle.yimarotu_session_theorems.proofs.Calls.{AreAs, AreSinceStart, IsLater, Lookups, second-later, waits_by}
use Rattle.yimarotu_session_theorems.proofs.Moves.{AreFlying, Flights, Moves, over, world}

-- ---- the calls of look-ups

-- the call of one that waits
abbrev pub call_of : NetworkLookup → Option WaitingCallValue
call_of (Asks w) = Some w
call_of (Asked w a) = Some w
call_of (Done found announced) = None

abbrev pub call_at : List (ℕ × NetworkLookup) → ℕ → Option WaitingCallValue
call_at lookups n = option_and_then call_of (value_at n lookups)

-- ---- lists

all-append : {A : Type 0} (P : A → Type 0) (xs ys : List A) → AllByRecursion P xs → AllByRecursion P ys
    → AllByRecursion P (xs ++ ys)
all-append P [] ys all more = more
all-append P (x ∷ xs) ys all more = (all.0, all-append P xs ys all.1 more)

all-weaker : {A : Type 0} (P Q : A → Type 0) (xs : List A) → ((x : A) → P x → Q x) → AllByRecursion P xs
    → AllByRecursion Q xs
all-weaker P Q [] weaker all = tt
all-weaker P Q (x ∷ xs) weaker all = (weaker x all.0, all-weaker P Q xs weaker all.1)

pub happen-append : (s : Settings) (xs ys : List CallEventValue) (before mid after : CallWorldValue)
    → CallsHappen s before xs mid → CallsHappen s mid ys after → CallsHappen s before (xs ++ ys) after
happen-append s [] ys before mid after same more = subst (λ w. CallsHappen s w ys after) same more
happen-append s (x ∷ xs) ys before mid after (next, happens, rest) more =
    (next, happens, happen-append s xs ys next mid after rest more)

-- ---- what was told stays told, whatever happens later

module _ (first : PoolState) (more past : List Happening) where
  pub from-grows : (question : PoolQuestion) (outcome : OutcomeValue) → IsFromPool first past question outcome
      → IsFromPool first (more ++ past) question outcome
  from-grows question outcome (inl t) =
      inl (record { over = t.over; was_over = over-grows first more past t.over t.was_over; same = t.same; told = t.told; read = t.read })
  from-grows question outcome (inr r) =
      inr (record {
        later = more ++ r.later;
        earlier = r.earlier;
        before = r.before;
        query = r.query;
        options = r.options;
        now = r.now;
        happened = ap (λ (l : List Happening). more ++ l) r.happened ∙ sym (append_assoc more r.later _);
        same = r.same;
        told = r.told;
      })

  fed-grows : (options : DnsRequestOptions) (e : CallEventValue) → IsFedFrom first options past e
      → IsFedFrom first options (more ++ past) e
  fed-grows options (CallFed call outcome progress) h = from-grows (question_with options call.waiting) outcome h
  fed-grows options (CallStarted call now progress) h = tt
  fed-grows options (CallDropped call) h = tt
  fed-grows options AllCleared h = tt
  fed-grows options (NameCleared t given) h = tt
  fed-grows options (HostsReplaced hosts) h = tt

  pub all-fed-grow : (options : DnsRequestOptions) (told : List CallEventValue)
      → AllByRecursion (IsFedFrom first options past) told → AllByRecursion (IsFedFrom first options (more ++ past)) told
  all-fed-grow options told all =
      all-weaker (IsFedFrom first options past) (IsFedFrom first options (more ++ past)) told (fed-grows options) all

-- ---- look-ups whose question is asked, and what is asked ahead of them

abbrev pub Places : Type 0
Places = List (ℕ × Ahead)

-- each that is asked later was asked before, by the same asker
abbrev pub LookupsLess : Lookups → Lookups → Type 0
LookupsLess before after =
    (n : ℕ) (w : WaitingCallValue) (a : Asker) → value_at n after ≡ Some (Asked w a) → value_at n before ≡ Some (Asked w a)

abbrev pub IsNotAsked : Option NetworkLookup → Type 0
IsNotAsked held = (w : WaitingCallValue) (a : Asker) → held ≡ Some (Asked w a) → ⊥

pub lookups-less : (n : ℕ) (held : Option NetworkLookup) (before after : Lookups) → IsNotAsked held
    → PutsUnder n held before after → LookupsLess before after
lookups-less n held before after none puts m w a there = by (nat_eq n m) (sym (puts m) ∙ there)
  where
    by : (b : Bool) → cond b held (value_at m before) ≡ Some (Asked w a) → value_at m before ≡ Some (Asked w a)
    by true e = absurd (none w a e)
    by false e = e

pub lookup-not-asked : (p : CallProgress) → IsNotAsked (Some (lookup_of p))
lookup-not-asked (progress.Waiting v) w a e = absurd cc
lookup-not-asked (progress.Done found) w a e = absurd cc

pub lookups-same : (before after : Lookups) → after ≡ before → LookupsLess before after
lookups-same before after same n w a there = ap (λ (l : Lookups). value_at n l) (sym same) ∙ there

-- ---- look-ups that are done

-- each that is done later was done before, with the same, or a call came to that
abbrev pub EndsLess : List CallEventValue → Lookups → Lookups → Type 0
EndsLess told before after =
    (n : ℕ) (found : LookupResult) (b : Bool) → value_at n after ≡ Some (Done found b)
    → ((c : Bool) × (value_at n before ≡ Some (Done found c))) ⊎ SomeComesTo found told

abbrev pub EndsBefore : List CallEventValue → Lookups → ℕ → LookupResult → Type 0
EndsBefore told before n found = ((c : Bool) × (value_at n before ≡ Some (Done found c))) ⊎ SomeComesTo found told

pub ends-same : (told : List CallEventValue) (before after : Lookups) → after ≡ before → EndsLess told before after
ends-same told before after same n found b there = inl (b, ap (λ (l : Lookups). value_at n l) (sym same) ∙ there)

-- where one takes a place
pub ends-put : (told : List CallEventValue) (n : ℕ) (held : Option NetworkLookup) (before after : Lookups)
    → ((found : LookupResult) (b : Bool) → held ≡ Some (Done found b) → EndsBefore told before n found)
    → PutsUnder n held before after → EndsLess told before after
ends-put told n held before after own puts m found b there = by (nat_eq n m) refl (sym (puts m) ∙ there)
  where
    by : (t : Bool) → nat_eq n m ≡ t → cond t held (value_at m before) ≡ Some (Done found b)
        → EndsBefore told before m found
    by true is e =
        let same : n ≡ m = grind (arith, nat_tests) in
        subst (λ (i : ℕ). EndsBefore told before i found) same (own found b e)
    by false is e = inl (b, e)

-- where one that is not done does
pub ends-put-undone : (told : List CallEventValue) (n : ℕ) (held : Option NetworkLookup) (before after : Lookups)
    → ((found : LookupResult) (b : Bool) → held ≡ Some (Done found b) → ⊥) → PutsUnder n held before after
    → EndsLess told before after
ends-put-undone told n held before after undone puts =
    ends-put told n held before after (λ found b e. absurd (undone found b e)) puts

-- a call that is started, or goes on, comes with that event to what its look-up does
pub comes-at-once : (event : CallEventValue) (p : CallProgress) (found : LookupResult) (b : Bool)
    → ((r : LookupResult) → progress_of p ≡ IsDone r → ComesTo r event) → Some (lookup_of p) ≡ Some (Done found b)
    → SomeComesTo found (event ∷ [])
comes-at-once event (progress.Waiting w) found b comes e =
    let clash : Some (Asks w) ≡ Some (Done found b) = e in absurd cc
comes-at-once event (progress.Done result) found b comes e =
    let same : result ≡ found = cc in
    record {
      earlier = [];
      event = event;
      later = [];
      among = refl;
      comes_to = comes found (ap (λ (r : LookupResult). IsDone r) same);
    }

comes-before : (found : LookupResult) (told more : List CallEventValue) → SomeComesTo found told
    → SomeComesTo found (told ++ more)
comes-before found told more s = record {
  earlier = s.earlier;
  event = s.event;
  later = s.later ++ more;
  among = ap (λ (l : List CallEventValue). l ++ more) s.among ∙ append_assoc s.earlier (s.event ∷ s.later) more;
  comes_to = s.comes_to;
}

comes-behind : (found : LookupResult) (told more : List CallEventValue) → SomeComesTo found more
    → SomeComesTo found (told ++ more)
comes-behind found told more s = record {
  earlier = told ++ s.earlier;
  event = s.event;
  later = s.later;
  among = ap (λ (l : List CallEventValue). told ++ l) s.among ∙ sym (append_assoc told s.earlier (s.event ∷ s.later));
  comes_to = s.comes_to;
}

-- ---- a session

module _ (resolver : ResolverValue (List OutcomeValue)) (limits : PoolLimits) (seed : List ℕ) where
  abbrev pub first : PoolState
  first = no_servers resolver.options limits seed

  abbrev pub options : DnsRequestOptions
  options = request_options_of resolver.options

  -- a question that is asked ahead
  abbrev pub question_for : Query → PoolQuestion
  question_for q = question_of q options no_dnssec

  -- ---- what is asked ahead

  -- what needs no asker: nothing is asked, or the pool told it
  abbrev pub IsSettled : List Happening → Ahead → Type 0
  IsSettled past Nothing = Unit {0}
  IsSettled past (Waits q a) = ⊥
  IsSettled past (Told q outcome) = IsFromPool first past (question_for q) outcome

  -- each that waits later waited before, for the same asker
  abbrev pub PlacesLess : List Happening → Places → Places → Type 0
  PlacesLess past before after =
      (n : ℕ) (x : Ahead) → value_at n after ≡ Some x → (value_at n before ≡ Some x) ⊎ IsSettled past x

  abbrev pub IsSettledAt : List Happening → Option Ahead → Type 0
  IsSettledAt past None = Unit {0}
  IsSettledAt past (Some x) = IsSettled past x

  pub places-less : (past : List Happening) (n : ℕ) (place : Option Ahead) (before after : Places) → IsSettledAt past place
      → PutsUnder n place before after → PlacesLess past before after
  places-less past n place before after settled puts m x there = by (nat_eq n m) (sym (puts m) ∙ there)
    where
      settled-one : (y : Option Ahead) → IsSettledAt past y → y ≡ Some x → IsSettled past x
      settled-one None h e = let clash : None ≡ Some x = e in absurd cc
      settled-one (Some y) h e = let same : y ≡ x = cc in subst (λ (z : Ahead). IsSettled past z) same h

      by : (b : Bool) → cond b place (value_at m before) ≡ Some x → (value_at m before ≡ Some x) ⊎ IsSettled past x
      by true e = inr (settled-one place settled e)
      by false e = inl e

  -- what was told is let go
  pub places-untold : (past : List Happening) (passes : Query → Bool) (before : Places)
      → PlacesLess past before (map (λ e. (e.0, untold passes e.1)) before)
  places-untold past passes before n x there =
      of-place (value_at n before) refl (sym (lookup-map_values (untold passes) (nat_eq n) before) ∙ there)
    where
      of-test : (y : Ahead) → value_at n before ≡ Some y → (b : Bool) → cond b Nothing y ≡ x
          → (value_at n before ≡ Some x) ⊎ IsSettled past x
      of-test y is true e = inr (subst (λ (z : Ahead). IsSettled past z) e tt)
      of-test y is false e = inl (is ∙ ap (λ (z : Ahead). Some z) e)

      of-place : (y : Option Ahead) → value_at n before ≡ y → option_map (untold passes) y ≡ Some x
          → (value_at n before ≡ Some x) ⊎ IsSettled past x
      of-place None is e = let clash : None ≡ Some x = e in absurd cc
      of-place (Some y) is e = let same : untold passes y ≡ x = cc in of-test y is (is_told_of passes y) same

  pub places-same : (past : List Happening) (before after : Places) → after ≡ before → PlacesLess past before after
  places-same past before after same n x there = inl (ap (λ (l : Places). value_at n l) (sym same) ∙ there)

  pub record AsksLess (past : List Happening) (before after : TableValue) : Type 0 where
    pub lookups : LookupsLess before.lookups after.lookups
    pub places : PlacesLess past before.ahead after.ahead

  pub asks-same : (past : List Happening) (before after : TableValue) → after ≡ before → AsksLess past before after
  asks-same past before after same = record {
    lookups = lookups-same before.lookups after.lookups (ap (λ (t : TableValue). t.lookups) same);
    places = places-same past before.ahead after.ahead (ap (λ (t : TableValue). t.ahead) same);
  }

  -- ---- who asks

  -- the transaction of an asker asks an equal question, where it is there still
  pub record IsAskedFor (pool : PoolState) (question : PoolQuestion) (a : Asker) : Type 0 where
    pub list : ℕ
    pub asked : PoolQuestion
    pub same : question_eq question asked ≡ true
    pub own : IsOwn (list, asked) a.transaction pool

  abbrev pub AreAskedFor : PoolState → Lookups → Type 0
  AreAskedFor pool lookups =
      (n : ℕ) (w : WaitingCallValue) (a : Asker) → value_at n lookups ≡ Some (Asked w a)
      → IsAskedFor pool (question_with options w) a

  abbrev pub IsAhead : List Happening → PoolState → Ahead → Type 0
  IsAhead past pool Nothing = Unit {0}
  IsAhead past pool (Waits q a) = IsAskedFor pool (question_for q.query) a
  IsAhead past pool (Told q outcome) = IsFromPool first past (question_for q) outcome

  abbrev pub AreAhead : List Happening → PoolState → Places → Type 0
  AreAhead past pool places = (n : ℕ) (x : Ahead) → value_at n places ≡ Some x → IsAhead past pool x

  -- look-ups of a transaction, and what is asked ahead of them, asked what is told of it
  abbrev pub AskedEqual : OverValue → Lookups → Type 0
  AskedEqual over lookups =
      (n : ℕ) (w : WaitingCallValue) (a : Asker) → value_at n lookups ≡ Some (Asked w a)
      → a.transaction ≡ over.transaction → question_eq (question_with options w) over.question ≡ true

  abbrev pub AheadEqual : OverValue → Places → Type 0
  AheadEqual over places =
      (n : ℕ) (q : SecondQuestion) (a : Asker) → value_at n places ≡ Some (Waits q a)
      → a.transaction ≡ over.transaction → question_eq (question_for q.query) over.question ≡ true

  pub record IsToldOf (past : List Happening) (table : TableValue) (over : OverValue) : Type 0 where
    pub was_over : WasOver first past over
    pub asked : AskedEqual over table.lookups
    pub ahead : AheadEqual over table.ahead

  abbrev pub IsTelling : List Happening → TableValue → Option TellingValue → Type 0
  IsTelling past table None = Unit {0}
  IsTelling past table (Some t) = IsToldOf past table t.over

  -- each question that is asked ahead is of the second family of its look-up
  abbrev pub IsSecond : SecondQuestion → List CallEventValue → Type 0
  IsSecond q events =
      IsOfSecond (settings resolver) events (name_call q.query.query_type (Ok q.query.name)) q.started

  abbrev pub AreSecond : Calls → Places → Type 0
  AreSecond calls places =
      (n : ℕ) (q : SecondQuestion) (a : Asker) → value_at n places ≡ Some (Waits q a) → IsSecond q (calls n)

  -- after these events
  pub record Kept (events : List NetworkEvent) (s : NetworkValue) : Type 0 where
    pub past : List Happening
    pub runs : Runs first past s.pool
    pub given : given_in past ≡ network.given_in events
    pub told : List CallEventValue
    pub calls : Calls
    pub tells : AreTold (settings resolver) events told calls
    pub since : AreSinceStart calls
    pub as_calls : AreAs calls s.table.lookups
    pub second : AreSecond calls s.table.ahead
    pub flights : Flights
    pub happen : CallsHappen (settings resolver) (call_world_of resolver.client.cache resolver.hosts) told
        (world resolver s.resolver.client.cache flights)
    pub after_is : s.resolver ≡ over resolver s.resolver.client.cache
    pub flying : AreFlying flights (waits_by calls)
    pub fed : AllByRecursion (IsFedFrom first options past) told
    pub asked : AreAskedFor s.pool s.table.lookups
    pub ahead : AreAhead past s.pool s.table.ahead
    pub telling : IsTelling past s.table s.telling
    pub done : AreOfCalls told s.table

  pub kept-first : Kept [] (new_session resolver limits seed)
  kept-first = record {
    past = [];
    runs = runs.at_first;
    given = refl;
    told = [];
    calls = no_calls;
    tells = told_calls.at_first;
    since = λ n c there. let clash : None ≡ Some c = there in absurd cc;
    as_calls = λ n. refl;
    second = λ n q a there. let clash : None ≡ Some (Waits q a) = there in absurd cc;
    flights = [];
    happen = refl;
    after_is = refl;
    flying = record { once = tt; wait = λ n. refl };
    fed = tt;
    asked = λ n w a there. let clash : None ≡ Some (Asked w a) = there in absurd cc;
    ahead = λ n x there. let clash : None ≡ Some x = there in absurd cc;
    telling = tt;
    done = λ n found b there. let clash : None ≡ Some (Done found b) = there in absurd cc;
  }

  -- the pool moved, or not, and was given this
  pub record PoolMoves (given : List PoolEvent) (past : List Happening) (before after : PoolState) : Type 0 where
    pub later : List Happening
    pub runs : Runs first (later ++ past) after
    pub given_is : given_in (later ++ past) ≡ given ++ given_in past
    pub asked : (question : PoolQuestion) (a : Asker) → IsAskedFor before question a → IsAskedFor after question a

  pub told-grows : (past more : List Happening) (before after : TableValue) (over : OverValue)
      → AsksLess (more ++ past) before after → IsToldOf past before over → IsToldOf (more ++ past) after over
  told-grows past more before after over less h = record {
    was_over = over-grows first more past over h.was_over;
    asked = λ n w a there. h.asked n w a (less.lookups n w a there);
    ahead = λ n q a there. by n q a (less.places n (Waits q a) there);
  }
    where
      by : (n : ℕ) (q : SecondQuestion) (a : Asker) → (value_at n before.ahead ≡ Some (Waits q a)) ⊎ ⊥
          → a.transaction ≡ over.transaction → question_eq (question_for q.query) over.question ≡ true
      by n q a (inl there) same = h.ahead n q a there same
      by n q a (inr never) same = absurd never

  pub telling-grows : (past more : List Happening) (before after : TableValue) (t : Option TellingValue)
      → AsksLess (more ++ past) before after → IsTelling past before t → IsTelling (more ++ past) after t
  telling-grows past more before after None less h = tt
  telling-grows past more before after (Some t) less h = told-grows past more before after t.over less h

  module _ (events : List NetworkEvent) (s : NetworkValue) (k : Kept events s) (after : NetworkValue) where
    abbrev pub pool-stays : after.pool ≡ s.pool → PoolMoves [] k.past s.pool after.pool
    pool-stays same = record {
      later = [];
      runs = subst (λ (p : PoolState). Runs first k.past p) (sym same) k.runs;
      given_is = refl;
      asked = λ q a h. subst (λ (p : PoolState). IsAskedFor p q a) (sym same) h;
    }

    abbrev pub pool-takes : (e : PoolEvent) → after.pool ≡ after_event s.pool e
        → PoolMoves (given_by e) k.past s.pool after.pool
    pool-takes e same = record {
      later = came s.pool e ∷ [];
      runs = subst (λ (p : PoolState). Runs first (came s.pool e ∷ k.past) p) (sym same) (by_event k.past s.pool e k.runs);
      given_is = refl;
      asked = λ q a h. subst (λ (p : PoolState). IsAskedFor p q a) (sym same)
          (record { list = h.list; asked = h.asked; same = h.same; own = own-event (h.list, h.asked) a.transaction s.pool e h.own });
    }

    -- two events, one after the other
    abbrev pub pool-takes-both : (e f : PoolEvent) → after.pool ≡ after_event (after_event s.pool e) f
        → PoolMoves (given_by f ++ given_by e) k.past s.pool after.pool
    pool-takes-both e f same =
        let mid = after_event s.pool e in
        record {
          later = came mid f ∷ came s.pool e ∷ [];
          runs = subst (λ (p : PoolState). Runs first (came mid f ∷ came s.pool e ∷ k.past) p) (sym same)
              (by_event (came s.pool e ∷ k.past) mid f (by_event k.past s.pool e k.runs));
          given_is = sym (append_assoc (given_by f) (given_by e) (given_in k.past));
          asked = λ q a h. subst (λ (p : PoolState). IsAskedFor p q a) (sym same)
              (record {
                list = h.list;
                asked = h.asked;
                same = h.same;
                own = own-event (h.list, h.asked) a.transaction mid f (own-event (h.list, h.asked) a.transaction s.pool e h.own);
              });
        }

    abbrev pub pool-does : (r : Option Action) → Steps s.pool r after.pool → PoolMoves [] k.past s.pool after.pool
    pool-does r steps = record {
      later = did s.pool r ∷ [];
      runs = by_step k.past s.pool after.pool r steps k.runs;
      given_is = refl;
      asked = λ q a h. record { list = h.list; asked = h.asked; same = h.same; own = own-step (h.list, h.asked) a.transaction s.pool after.pool r steps h.own };
    }

    -- what is being told was said before
    pub tells-on : (more : List Happening) → after.telling ≡ s.telling → AsksLess (more ++ k.past) s.table after.table
        → IsTelling (more ++ k.past) after.table after.telling
    tells-on more same less =
        subst (λ (t : Option TellingValue). IsTelling (more ++ k.past) after.table t) (sym same)
        (telling-grows k.past more s.table after.table s.telling less k.telling)

    pub asked-on : {given : List PoolEvent} (p : PoolMoves given k.past s.pool after.pool) → LookupsLess s.table.lookups after.table.lookups
        → AreAskedFor after.pool after.table.lookups
    asked-on p less n w a there = p.asked (question_with options w) a (k.asked n w a (less n w a there))

    -- what was asked ahead before is so after it
    pub ahead-grows : {given : List PoolEvent} (p : PoolMoves given k.past s.pool after.pool) (x : Ahead) → IsAhead k.past s.pool x
        → IsAhead (p.later ++ k.past) after.pool x
    ahead-grows p Nothing h = tt
    ahead-grows p (Waits q a) h = p.asked (question_for q.query) a h
    ahead-grows p (Told q outcome) h = from-grows first p.later k.past (question_for q) outcome h

    pub ahead-on : {given : List PoolEvent} (p : PoolMoves given k.past s.pool after.pool) → PlacesLess (p.later ++ k.past) s.table.ahead after.table.ahead
        → AreAhead (p.later ++ k.past) after.pool after.table.ahead
    ahead-on p less n x there = by (less n x there)
      where
        settled : (y : Ahead) → IsSettled (p.later ++ k.past) y → IsAhead (p.later ++ k.past) after.pool y
        settled Nothing h = tt
        settled (Waits q a) h = absurd h
        settled (Told q outcome) h = h

        by : (value_at n s.table.ahead ≡ Some x) ⊎ IsSettled (p.later ++ k.past) x
            → IsAhead (p.later ++ k.past) after.pool x
        by (inl old) = ahead-grows p x (k.ahead n x old)
        by (inr h) = settled x h

    -- what an event did to the resolver, and what is told of it
    pub record Done-to (e : NetworkEvent) (past : List Happening) : Type 0 where
      pub told : List CallEventValue
      pub calls : Calls
      pub tells : EventTells (settings resolver) e k.calls told calls
      pub moves : Moves resolver told s.resolver.client.cache k.flights after.resolver (waits_by calls)
      pub since : AreSinceStart calls
      pub as_calls : AreAs calls after.table.lookups
      pub later : (n : ℕ) (q : SecondQuestion) (a : Asker) → value_at n after.table.ahead ≡ Some (Waits q a)
          → IsLater (calls n) (k.calls n)
      pub fed : AllByRecursion (IsFedFrom first options past) told
      pub ends : EndsLess told s.table.lookups after.table.lookups

    -- what is done is what a call came to, before or now
    done-on : (e : NetworkEvent) (past : List Happening) (d : Done-to e past) → AreOfCalls (k.told ++ d.told) after.table
    done-on e past d n found b there = by (d.ends n found b there)
      where
        by : EndsBefore d.told s.table.lookups n found → SomeComesTo found (k.told ++ d.told)
        by (inl (c, old)) = comes-before found k.told d.told (k.done n found c old)
        by (inr s) = comes-behind found k.told d.told s

    -- what is asked ahead still was so before
    pub second-on : (e : NetworkEvent) (past : List Happening) (d : Done-to e past)
        → PlacesLess past s.table.ahead after.table.ahead → AreSecond d.calls after.table.ahead
    second-on e past d less n q a there = by (less n (Waits q a) there)
      where
        by : (value_at n s.table.ahead ≡ Some (Waits q a)) ⊎ ⊥ → IsSecond q (d.calls n)
        by (inl old) =
            second-later (settings resolver) (k.calls n) (d.calls n) (name_call q.query.query_type (Ok q.query.name)) q.started
            (d.later n q a there) (k.second n q a old)
        by (inr never) = absurd never

    pub keeps : (e : NetworkEvent) {given : List PoolEvent} (p : PoolMoves given k.past s.pool after.pool)
        → network.given_by e ≡ given → (d : Done-to e (p.later ++ k.past)) → AreAskedFor after.pool after.table.lookups
        → AreAhead (p.later ++ k.past) after.pool after.table.ahead → AreSecond d.calls after.table.ahead
        → IsTelling (p.later ++ k.past) after.table after.telling → Kept (e ∷ events) after
    keeps e {given} p brings d asked ahead second telling =
        let past = p.later ++ k.past in
        let cache = s.resolver.client.cache in
        record {
          past = past;
          runs = p.runs;
          given = p.given_is ∙ ap (λ (l : List PoolEvent). given ++ l) k.given
              ∙ ap (λ (l : List PoolEvent). l ++ network.given_in events) (sym brings);
          told = k.told ++ d.told;
          calls = d.calls;
          tells = told_calls.next events e k.told d.told k.calls d.calls d.tells k.tells;
          since = d.since;
          as_calls = d.as_calls;
          second = second;
          flights = d.moves.left;
          happen = happen-append (settings resolver) k.told d.told (call_world_of resolver.client.cache resolver.hosts)
              (world resolver cache k.flights) (world resolver after.resolver.client.cache d.moves.left) k.happen d.moves.happen;
          after_is = d.moves.after_is;
          flying = d.moves.flying;
          fed = all-append (IsFedFrom first options past) k.told d.told
              (all-fed-grow first p.later k.past options k.told k.fed) d.fed;
          asked = asked;
          ahead = ahead;
          telling = telling;
          done = done-on e past d;
        }

    -- where no look-up is asked anew, and somebody is told as before
    pub keeps-telling : (e : NetworkEvent) {given : List PoolEvent} (p : PoolMoves given k.past s.pool after.pool)
        → network.given_by e ≡ given → Done-to e (p.later ++ k.past) → AsksLess (p.later ++ k.past) s.table after.table
        → after.telling ≡ s.telling → Kept (e ∷ events) after
    keeps-telling e p brings d less same =
        keeps e p brings d (asked-on p less.lookups) (ahead-on p less.places)
        (second-on e (p.later ++ k.past) d less.places) (tells-on p.later same less)
