-- Events that a resolver takes are told as events of calls that happen, each as promised.
use Rattle.std.proofs.Common.{◌≡◌, ◌⊎◌, ◌∙◌, ℕ, zero, suc, List, [], ◌∷◌, ◌++◌, map, Option, Some, None, Ok, Err, get_or, set, refl, sym, ap, subst, inl, inr}
use Rattle.std.proofs.lemmas.List.{append-nil, append_assoc, map-append, map-set, set-get_or}
use Rattle.hickory_proto_core.specs.Handles.{OutcomeValue}
use Rattle.hickory_proto_core.specs.declared.recorded.Exchange.{Exchange}
use Rattle.hickory_proto_core.specs.declared.net_error.NetError.TheVariants.{OutOfMemory}
use Rattle.hickory_resolver_model.specs.Cache.{CacheValue}
use Rattle.hickory_resolver_model.specs.Lookup.{LookupResult}
use Rattle.hickory_resolver_model.specs.Hosts.{Host}
use Rattle.hickory_resolver_model.specs.Resolver.{ResolverValue, settings}
use Rattle.hickory_resolver_model.specs.Resuming.{ProgressValue, Waits, IsDone}
use Rattle.hickory_resolver_model.specs.Run.{Settings, Call, call_context_at, name_call, address_call, after_clear}
use Rattle.hickory_resolver_theorems.specs.ResumingCalls.{WaitingCallValue, CallProgressValue, StartsCall, RunsOutAtStart}
use Rattle.hickory_resolver_theorems.specs.InterleavedCalls.{PendingCallValue, CallWorldValue, call_world_of, CallEventValue, CallStarted, CallFed, CallDropped, AllCleared, NameCleared, exchange_with, call_pending, placed, CallHappens, CallsHappen}
use Rattle.hickory_resolver_theorems.proofs.CallReplies.{replies_promised}
use Rattle.hickory_resolver_events.specs.Events.{TellsProgress, pending_after, IsStarted, IsFed, IsDropped, EventTells, AreTold, HappenAsPromised, IsPlayed}
use Rattle.hickory_resolver_events.specs.Playing.{waiting_in, TakesOutcome, TakesDrop, Takes, Plays}
use Rattle.hickory_resolver_events.specs.declared.events.Event.{Event}
use Rattle.hickory_resolver_events.specs.declared.events.Event.TheVariants.{Start, StartIp, Resume, Abandon, ClearLookup, Clear}
use Rattle.hickory_resolver_events.specs.declared.events.EventReply.{EventReply}
use Rattle.hickory_resolver_events.specs.declared.events.EventReply.TheVariants as reply

-- ---- an element of a list that is cut in two

cut : {A : Type 0} (f b p : List A) (c : A) (q : List A) → f ++ b ≡ p ++ c ∷ q → ((m : List A) × (f ≡ p ++ c ∷ m) × (q ≡ m ++ b)) ⊎ ((m : List A) × (b ≡ m ++ c ∷ q) × (p ≡ f ++ m))
cut [] b p c q e = inr (p, e, refl)
cut (x ∷ f) b [] c q e =
    let head : x ≡ c = cc in
    let tail : f ++ b ≡ q = cc in
    inl (f, ap (λ y. y ∷ f) head, sym tail)
cut (x ∷ f) b (y ∷ p) c q e =
    let head : x ≡ y = cc in
    let tail : f ++ b ≡ p ++ c ∷ q = cc in
    by head (cut f b p c q tail)
  where
    by : x ≡ y → ((m : List _) × (f ≡ p ++ c ∷ m) × (q ≡ m ++ b)) ⊎ ((m : List _) × (b ≡ m ++ c ∷ q) × (p ≡ f ++ m)) → ((m : List _) × (x ∷ f ≡ (y ∷ p) ++ c ∷ m) × (q ≡ m ++ b)) ⊎ ((m : List _) × (b ≡ m ++ c ∷ q) × (y ∷ p ≡ (x ∷ f) ++ m))
    by head (inl (m, f_is, q_is)) = inl (m, (λ i. head i ∷ f_is i), q_is)
    by head (inr (m, b_is, p_is)) = inr (m, b_is, (λ i. sym head i ∷ p_is i))

-- one more element among those round another
around : {A : Type 0} (P : List A → Type 0) (p q : List A) (d x : A) → ((f b : List A) → f ++ b ≡ p ++ q → P (f ++ x ∷ b)) → (f b : List A) → f ++ b ≡ p ++ d ∷ q → (front : List A) × (back : List A) × (f ++ x ∷ b ≡ front ++ d ∷ back) × P (front ++ back)
around P p q d x put f b same = by (cut f b p d q same)
  where
    by : ((m : List _) × (f ≡ p ++ d ∷ m) × (q ≡ m ++ b)) ⊎ ((m : List _) × (b ≡ m ++ d ∷ q) × (p ≡ f ++ m)) → (front : List _) × (back : List _) × (f ++ x ∷ b ≡ front ++ d ∷ back) × P (front ++ back)
    by (inl (m, f_is, q_is)) = (
      p,
      m ++ x ∷ b,
      ap (λ y. y ++ x ∷ b) f_is ∙ append_assoc p (d ∷ m) (x ∷ b),
      subst P (append_assoc p m (x ∷ b)) (put (p ++ m) b (append_assoc p m b ∙ ap (λ y. p ++ y) (sym q_is))),
    )
    by (inr (m, b_is, p_is)) = (
      f ++ x ∷ m,
      q,
      ap (λ y. f ++ x ∷ y) b_is ∙ sym (append_assoc f (x ∷ m) (d ∷ q)),
      subst P (sym (append_assoc f (x ∷ m) q)) (put f (m ++ q) (sym (append_assoc f m q) ∙ ap (λ y. y ++ q) (sym p_is))),
    )

-- ---- the calls in flight, and those that were started

-- these calls are in flight, in any order: those that wait among the ones that were started
abbrev AreInFlight : List (Option PendingCallValue) → List PendingCallValue → Type 0
AreInFlight [] calls = calls ≡ []
AreInFlight (None ∷ table) calls = AreInFlight table calls
AreInFlight (Some c ∷ table) calls = (front : List PendingCallValue) × (back : List PendingCallValue) × (calls ≡ front ++ c ∷ back) × AreInFlight table (front ++ back)

pushed-none : (table : List (Option PendingCallValue)) (calls : List PendingCallValue) → AreInFlight table calls → AreInFlight (table ++ None ∷ []) calls
pushed-none [] calls h = h
pushed-none (None ∷ table) calls h = pushed-none table calls h
pushed-none (Some c ∷ table) calls (front, back, are, rest) = (front, back, are, pushed-none table (front ++ back) rest)

pushed-some : (table : List (Option PendingCallValue)) (calls : List PendingCallValue) (c : PendingCallValue) → AreInFlight table calls → AreInFlight (table ++ Some c ∷ []) (calls ++ c ∷ [])
pushed-some [] calls c h = (calls, [], refl, append-nil calls ∙ h)
pushed-some (None ∷ table) calls c h = pushed-some table calls c h
pushed-some (Some d ∷ table) calls c (front, back, are, rest) = (
  front,
  back ++ c ∷ [],
  ap (λ y. y ++ c ∷ []) are ∙ append_assoc front (d ∷ back) (c ∷ []),
  subst (AreInFlight (table ++ Some c ∷ [])) (append_assoc front back (c ∷ [])) (pushed-some table (front ++ back) c rest),
)

pushed : (table : List (Option PendingCallValue)) (calls : List PendingCallValue) (call : Call) (asks : List Exchange) (progress : CallProgressValue) → AreInFlight table calls → AreInFlight (table ++ pending_after call asks progress ∷ []) (calls ++ call_pending call asks progress)
pushed table calls call asks (Waits w) h = pushed-some table calls (record { call = call; asks = asks; waiting = w }) h
pushed table calls call asks (IsDone r) h = subst (AreInFlight (table ++ None ∷ [])) (sym (append-nil calls)) (pushed-none table calls h)

-- a call that waits is in flight; without it the others are, and with another in its place that one is too
record Found (table : List (Option PendingCallValue)) (n : ℕ) (c : PendingCallValue) (calls : List PendingCallValue) : Type 0 where
  front : List PendingCallValue
  back : List PendingCallValue
  are : calls ≡ front ++ c ∷ back
  gone : AreInFlight (set table n None) (front ++ back)
  put : (d : PendingCallValue) (f b : List PendingCallValue) → f ++ b ≡ front ++ back → AreInFlight (set table n (Some d)) (f ++ d ∷ b)

found : (table : List (Option PendingCallValue)) (n : ℕ) (c : PendingCallValue) (calls : List PendingCallValue) → get_or table n None ≡ Some c → AreInFlight table calls → Found table n c calls
found [] n c calls e h = let clash : None ≡ Some c = e in cc
found (None ∷ table) zero c calls e h = let clash : None ≡ Some c = e in cc
found (Some d ∷ table) zero c calls e (front, back, are, rest) =
    let same : d ≡ c = cc in
    record {
      front = front;
      back = back;
      are = are ∙ ap (λ x. front ++ x ∷ back) same;
      gone = rest;
      put = λ x f b is. (f, b, refl, subst (AreInFlight table) (sym is) rest);
    }
found (None ∷ table) (suc n) c calls e h = let r = found table n c calls e h in record { front = r.front; back = r.back; are = r.are; gone = r.gone; put = λ d f b is. r.put d f b is }
found (Some d ∷ table) (suc n) c calls e (front, back, are, rest) = let r = found table n c (front ++ back) e rest in by r (cut front back r.front c r.back r.are)
  where
    -- the other call stands behind that of the place, or before it
    by : (r : Found table n c (front ++ back)) → ((m : List PendingCallValue) × (front ≡ r.front ++ c ∷ m) × (r.back ≡ m ++ back)) ⊎ ((m : List PendingCallValue) × (back ≡ m ++ c ∷ r.back) × (r.front ≡ front ++ m)) → Found (Some d ∷ table) (suc n) c calls
    by r (inl (m, front_is, back_is)) =
        let without : r.front ++ r.back ≡ (r.front ++ m) ++ back = ap (λ y. r.front ++ y) back_is ∙ sym (append_assoc r.front m back) in
        record {
          front = r.front;
          back = m ++ d ∷ back;
          are = are ∙ ap (λ y. y ++ d ∷ back) front_is ∙ append_assoc r.front (c ∷ m) (d ∷ back);
          gone = (r.front ++ m, back, sym (append_assoc r.front m (d ∷ back)), subst (AreInFlight (set table n None)) without r.gone);
          put = λ x f b is. around (AreInFlight (set table n (Some x))) (r.front ++ m) back d x (λ g k same. r.put x g k (same ∙ sym without)) f b (is ∙ sym (append_assoc r.front m (d ∷ back)));
        }
    by r (inr (m, back_is, front_is)) =
        let without : r.front ++ r.back ≡ front ++ (m ++ r.back) = ap (λ y. y ++ r.back) front_is ∙ append_assoc front m r.back in
        record {
          front = front ++ d ∷ m;
          back = r.back;
          are = are ∙ ap (λ y. front ++ d ∷ y) back_is ∙ sym (append_assoc front (d ∷ m) (c ∷ r.back));
          gone = (front, m ++ r.back, append_assoc front (d ∷ m) r.back, subst (AreInFlight (set table n None)) without r.gone);
          put = λ x f b is. around (AreInFlight (set table n (Some x))) front (m ++ r.back) d x (λ g k same. r.put x g k (same ∙ sym without)) f b (is ∙ append_assoc front (d ∷ m) r.back);
        }

-- after a call was fed, wherever it stands then
placed-fly : (table : List (Option PendingCallValue)) (n : ℕ) (c : PendingCallValue) (calls : List PendingCallValue) (r : Found table n c calls) (lookup : ProgressValue) (call : Call) (asks : List Exchange) (progress : CallProgressValue)
    → AreInFlight (set table n (pending_after call asks progress)) (placed lookup r.front (call_pending call asks progress) r.back)
placed-fly table n c calls r (Waits v) call asks (Waits w) =
    let d : PendingCallValue = record { call = call; asks = asks; waiting = w } in
    subst (AreInFlight (set table n (Some d))) (sym (append_assoc r.front (d ∷ []) r.back)) (r.put d r.front r.back refl)
placed-fly table n c calls r (Waits v) call asks (IsDone x) = subst (AreInFlight (set table n None)) (ap (λ y. y ++ r.back) (sym (append-nil r.front))) r.gone
placed-fly table n c calls r (IsDone v) call asks (Waits w) = r.put (record { call = call; asks = asks; waiting = w }) (r.front ++ r.back) [] (append-nil (r.front ++ r.back))
placed-fly table n c calls r (IsDone v) call asks (IsDone x) = subst (AreInFlight (set table n None)) (sym (append-nil (r.front ++ r.back))) r.gone

-- ---- what the code keeps of the calls

abbrev waiting_of : Option PendingCallValue → Option WaitingCallValue
waiting_of None = None
waiting_of (Some c) = Some c.waiting

pending-waits : (call : Call) (asks : List Exchange) (progress : CallProgressValue) → waiting_of (pending_after call asks progress) ≡ waiting_in progress
pending-waits call asks (Waits w) = refl
pending-waits call asks (IsDone r) = refl

kept-at : (table : List (Option PendingCallValue)) (n : ℕ) → get_or (map waiting_of table) n None ≡ waiting_of (get_or table n None)
kept-at [] n = refl
kept-at (slot ∷ table) zero = refl
kept-at (slot ∷ table) (suc n) = kept-at table n

kept-set : (table : List (Option PendingCallValue)) (n : ℕ) (slot : Option PendingCallValue) (place : Option WaitingCallValue) → place ≡ waiting_of slot → set (map waiting_of table) n place ≡ map waiting_of (set table n slot)
kept-set table n slot place is = ap (λ x. set (map waiting_of table) n x) is ∙ sym (map-set waiting_of table n slot)

kept-pushed : (table : List (Option PendingCallValue)) (call : Call) (asks : List Exchange) (progress : CallProgressValue) → map waiting_of table ++ waiting_in progress ∷ [] ≡ map waiting_of (table ++ pending_after call asks progress ∷ [])
kept-pushed table call asks progress = ap (λ x. map waiting_of table ++ x ∷ []) (sym (pending-waits call asks progress)) ∙ sym (map-append waiting_of table (pending_after call asks progress ∷ []))

-- ---- an event

module _ {H : Type 0} (first : ResolverValue H) where
  abbrev s : Settings
  s = settings first

  abbrev over : CacheValue → ResolverValue H
  over cache = record first { client = record first.client { cache = cache } }

  abbrev world : CacheValue → List PendingCallValue → CallWorldValue
  world cache calls = record { cache = cache; hosts = first.hosts; calls = calls }

  -- an event is told, and what is told of it happens
  record Goes (event : Event) (reply : EventReply) (cache : CacheValue) (calls : List PendingCallValue) (table : List (Option PendingCallValue)) (after : ResolverValue H) (still : List (Option WaitingCallValue)) : Type 0 where
    told : List CallEventValue
    next : List (Option PendingCallValue)
    cache_after : CacheValue
    calls_after : List PendingCallValue
    is : EventTells s table event reply told next
    happen : CallsHappen s (world cache calls) told (world cache_after calls_after)
    after_is : after ≡ over cache_after
    in_flight : AreInFlight next calls_after
    waiting_is : still ≡ map waiting_of next

  module _ (cache : CacheValue) (calls : List PendingCallValue) (table : List (Option PendingCallValue)) (flying : AreInFlight table calls) (after : ResolverValue H) (still : List (Option WaitingCallValue)) where
    goes_started : (event : Event) (reply : EventReply) (call : Call) (now : ℕ) → ((told : List CallEventValue) (next : List (Option PendingCallValue)) → IsStarted call now table reply told next → EventTells s table event reply told next)
        → (progress : CallProgressValue) → TellsProgress progress reply → StartsCall (call_context_at s now) s call cache progress after.client.cache ⊎ RunsOutAtStart cache progress after.client.cache → after ≡ over after.client.cache
        → still ≡ map waiting_of table ++ waiting_in progress ∷ [] → Goes event reply cache calls table after still
    goes_started event reply call now is_told progress tells starts after_is still_is = record {
      told = CallStarted call now progress ∷ [];
      next = table ++ pending_after call [] progress ∷ [];
      cache_after = after.client.cache;
      calls_after = calls ++ call_pending call [] progress;
      is = is_told (CallStarted call now progress ∷ []) (table ++ pending_after call [] progress ∷ []) (record { progress = progress; tells = tells; told_is = refl; after_is = refl });
      happen = (world after.client.cache (calls ++ call_pending call [] progress), (starts, refl, refl), refl);
      after_is = after_is;
      in_flight = pushed table calls call [] progress flying;
      waiting_is = still_is ∙ kept-pushed table call [] progress;
    }

    -- nothing is told, and nothing has changed
    goes_nowhere : (event : Event) (reply : EventReply) → EventTells s table event reply [] table → after ≡ over cache → still ≡ map waiting_of table → Goes event reply cache calls table after still
    goes_nowhere event reply is after_is still_is = record { told = []; next = table; cache_after = cache; calls_after = calls; is = is; happen = refl; after_is = after_is; in_flight = flying; waiting_is = still_is }

    -- one event of the cache alone
    goes_cleared : (event : Event) (reply : EventReply) (told : CallEventValue) (left : CacheValue) → EventTells s table event reply (told ∷ []) table → CallHappens s (world cache calls) told (world left calls) → after ≡ over left → still ≡ map waiting_of table → Goes event reply cache calls table after still
    goes_cleared event reply told left is happens after_is still_is = record { told = told ∷ []; next = table; cache_after = left; calls_after = calls; is = is; happen = (world left calls, happens, refl); after_is = after_is; in_flight = flying; waiting_is = still_is }

    empty_stays : (n : ℕ) → get_or table n None ≡ None → set table n None ≡ table
    empty_stays n e = ap (λ x. set table n x) (sym e) ∙ set-get_or table n None

    goes_fed : (number : ℕ) (outcome : OutcomeValue) (reply : EventReply) (place : Option WaitingCallValue) (slot : Option PendingCallValue) → get_or table number None ≡ slot → TakesOutcome (waiting_of slot) outcome (over cache) reply after place
        → still ≡ set (map waiting_of table) number place → Goes (Resume number outcome) reply cache calls table after still
    goes_fed number outcome reply place None e (reply_is, after_is, place_is) still_is =
        let same = empty_stays number e in
        goes_nowhere (Resume number outcome) reply (None, subst (λ o. IsFed o outcome reply [] None) (sym e) (reply_is, refl, refl), sym same) after_is (still_is ∙ kept-set table number None place place_is ∙ ap (map waiting_of) same)
    goes_fed number outcome reply place (Some c) e (progress, resumes, tells, place_is) still_is =
        let r = found table number c calls e flying in
        let asks = c.asks ++ exchange_with c outcome ∷ [] in
        let told = CallFed c outcome progress ∷ [] in
        let slot = pending_after c.call asks progress in
        let calls_after = placed resumes.resumes.0 r.front (call_pending c.call asks progress) r.back in
        record {
          told = told;
          next = set table number slot;
          cache_after = after.client.cache;
          calls_after = calls_after;
          is = (slot, subst (λ o. IsFed o outcome reply told slot) (sym e) (progress, tells, refl, refl), refl);
          happen = (world after.client.cache calls_after, (r.front, r.back, r.are, resumes.resumes, refl, refl), refl);
          after_is = resumes.others_stay;
          in_flight = placed-fly table number c calls r resumes.resumes.0 c.call asks progress;
          waiting_is = still_is ∙ kept-set table number slot place (place_is ∙ sym (pending-waits c.call asks progress));
        }

    goes_dropped : (number : ℕ) (reply : EventReply) (slot : Option PendingCallValue) → get_or table number None ≡ slot → TakesDrop (waiting_of slot) reply → after ≡ over cache → still ≡ set (map waiting_of table) number None
        → Goes (Abandon number) reply cache calls table after still
    goes_dropped number reply None e reply_is after_is still_is =
        let same = empty_stays number e in
        goes_nowhere (Abandon number) reply (subst (λ o. IsDropped o reply []) (sym e) (reply_is, refl), sym same) after_is (still_is ∙ kept-set table number None None refl ∙ ap (map waiting_of) same)
    goes_dropped number reply (Some c) e reply_is after_is still_is =
        let r = found table number c calls e flying in
        record {
          told = CallDropped c ∷ [];
          next = set table number None;
          cache_after = cache;
          calls_after = r.front ++ r.back;
          is = (subst (λ o. IsDropped o reply (CallDropped c ∷ [])) (sym e) (reply_is, refl), refl);
          happen = (world cache (r.front ++ r.back), (r.front, r.back, r.are, refl), refl);
          after_is = after_is;
          in_flight = r.gone;
          waiting_is = still_is ∙ kept-set table number None None refl;
        }

    -- a call that is done is told with its result
    done-told : (result : LookupResult) (told : EventReply) → TellsProgress (IsDone result) told → told ≡ reply.Done result
    done-told result (reply.Done said) same = ap reply.Done same
    done-told result (reply.Waits question) never = absurd never
    done-told result reply.Dropped never = absurd never
    done-told result (reply.Cleared done) never = absurd never
    done-told result reply.NoCall never = absurd never

    goes : (event : Event) (reply : EventReply) → Takes event (over cache) (map waiting_of table) reply after still → Goes event reply cache calls table after still
    goes (Start name t now) reply (progress, (given, gives, starts), tells, still_is) = goes_started (Start name t now) reply (name_call t given) now (λ told next is. (given, gives, is)) progress tells starts.starts starts.others_stay still_is
    goes (StartIp host now) reply (progress, (address, spells, given, gives, inl (live, starts)), tells, still_is) =
        goes_started (StartIp host now) reply (address_call s address given now) now (λ told next is. (address, spells, given, gives, (λ out. absurd (live out)), is)) progress tells starts.starts starts.others_stay still_is
    goes (StartIp host now) reply (progress, (address, spells, given, gives, inr (out, progress_is, same)), tells, still_is) =
        let left : after.client.cache ≡ cache = ap (λ (r : ResolverValue H). r.client.cache) same in
        goes_started (StartIp host now) reply (address_call s address given now) now (λ told next is. (address, spells, given, gives, (λ never. done-told (Err OutOfMemory) reply (subst (λ p. TellsProgress p reply) progress_is tells)), is)) progress tells (inr (progress_is, left)) (same ∙ ap over (sym left)) still_is
    goes (Resume number outcome) reply (place, takes, still_is) = goes_fed number outcome reply place (get_or table number None) refl (subst (λ o. TakesOutcome o outcome (over cache) reply after place) (kept-at table number) takes) still_is
    goes (Abandon number) reply (takes, after_is, still_is) = goes_dropped number reply (get_or table number None) refl (subst (λ o. TakesDrop o reply) (kept-at table number) takes) after_is still_is
    goes (ClearLookup name t) (reply.Cleared (Ok u)) ((given, gives, live, after_is), unchanged, out, still_is) = goes_cleared (ClearLookup name t) (reply.Cleared (Ok u)) (NameCleared t given) (after_clear s t given cache) (given, gives, live, refl, refl) refl after_is still_is
    goes (ClearLookup name t) (reply.Cleared (Err e)) (cleared, after_is, out, still_is) = goes_nowhere (ClearLookup name t) (reply.Cleared (Err e)) (out, refl, refl) after_is still_is
    goes (ClearLookup name t) (reply.Waits question) h = absurd h
    goes (ClearLookup name t) (reply.Done result) h = absurd h
    goes (ClearLookup name t) reply.Dropped h = absurd h
    goes (ClearLookup name t) reply.NoCall h = absurd h
    goes Clear reply (reply_is, after_is, still_is) = goes_cleared Clear reply AllCleared (record cache { entries = [] }) (reply_is, refl, refl) refl after_is still_is

-- ---- events

happen-append : (s : Settings) (xs ys : List CallEventValue) (before mid after : CallWorldValue) → CallsHappen s before xs mid → CallsHappen s mid ys after → CallsHappen s before (xs ++ ys) after
happen-append s [] ys before mid after same more = subst (λ w. CallsHappen s w ys after) same more
happen-append s (x ∷ xs) ys before mid after (next, happens, rest) more = (next, happens, happen-append s xs ys next mid after rest more)

-- what happens over a cache without entries is as promised
as-promised : (s : Settings) (empty : CacheValue) (first : List Host) → empty.entries ≡ [] → (earlier : List CallEventValue) (before : CallWorldValue) → CallsHappen s (call_world_of empty first) earlier before
    → (events : List CallEventValue) (end : CallWorldValue) → CallsHappen s before events end → HappenAsPromised s empty first earlier before events end
as-promised s empty first none earlier before so_far [] end same = same
as-promised s empty first none earlier before so_far (event ∷ later) end (after, happens, rest) = (
  after,
  happens,
  replies_promised s empty first none earlier event before after so_far happens,
  as-promised s empty first none (earlier ++ event ∷ []) after (happen-append s earlier (event ∷ []) (call_world_of empty first) before after so_far (after, happens, refl)) later end rest,
)

module _ {H : Type 0} (first : ResolverValue H) where
  record Ends (events : List Event) (replies : List EventReply) (cache : CacheValue) (calls : List PendingCallValue) (table : List (Option PendingCallValue)) (after : ResolverValue H) : Type 0 where
    told : List CallEventValue
    end_cache : CacheValue
    end_calls : List PendingCallValue
    tells : AreTold (settings first) table events replies told
    happen : CallsHappen (settings first) (world first cache calls) told (world first end_cache end_calls)
    after_is : after ≡ over first end_cache

  ends : (events : List Event) (replies : List EventReply) (cache : CacheValue) (calls : List PendingCallValue) (table : List (Option PendingCallValue)) → AreInFlight table calls → (after : ResolverValue H) (still : List (Option WaitingCallValue))
      → Plays events (over first cache) (map waiting_of table) replies after still → Ends events replies cache calls table after
  ends [] [] cache calls table flying after still (after_is, still_is) = record { told = []; end_cache = cache; end_calls = calls; tells = refl; happen = refl; after_is = after_is }
  ends [] (reply ∷ replies) cache calls table flying after still h = absurd h
  ends (event ∷ events) [] cache calls table flying after still h = absurd h
  ends (event ∷ events) (reply ∷ replies) cache calls table flying after still (mid, between, takes, rest) =
      let g = goes first cache calls table flying mid between event reply takes in
      let on = subst (λ r. Plays events r (map waiting_of g.next) replies after still) g.after_is (subst (λ b. Plays events mid b replies after still) g.waiting_is rest) in
      let more = ends events replies g.cache_after g.calls_after g.next g.in_flight after still on in
      record {
        told = g.told ++ more.told;
        end_cache = more.end_cache;
        end_calls = more.end_calls;
        tells = (g.told, more.told, refl, g.next, g.is, more.tells);
        happen = happen-append (settings first) g.told more.told (world first cache calls) (world first g.cache_after g.calls_after) (world first more.end_cache more.end_calls) g.happen more.happen;
        after_is = more.after_is;
      }

  pub is_played : (events : List Event) (replies : List EventReply) (after : ResolverValue H) (still : List (Option WaitingCallValue)) → Plays events first [] replies after still → IsPlayed first events replies after
  is_played events replies after still plays =
      let e = ends events replies first.client.cache [] [] refl after still plays in
      let cache_is : after.client.cache ≡ e.end_cache = ap (λ (r : ResolverValue H). r.client.cache) e.after_is in
      record {
        told = e.told;
        tells = e.tells;
        world = world first e.end_cache e.end_calls;
        happen = e.happen;
        cache_is = cache_is;
        others_stay = e.after_is ∙ ap (over first) (sym cache_is);
        promised = λ none. as-promised (settings first) first.client.cache first.hosts none [] (call_world_of first.client.cache first.hosts) refl e.told (world first e.end_cache e.end_calls) e.happen;
      }

-- ---- the loop over events

-- whatever is played of the events that are left, with what was played before it is the whole
abbrev pub LeadsOn : {H : Type 0} → List Event → ResolverValue H → List (Option WaitingCallValue) → List Event → ResolverValue H → List (Option WaitingCallValue) → List EventReply → Type 0
LeadsOn {H} all first none rest now waiting replies = (more : List EventReply) (after : ResolverValue H) (still : List (Option WaitingCallValue)) → Plays rest now waiting more after still → Plays all first none (replies ++ more) after still

module _ {H : Type 0} (all : List Event) (first : ResolverValue H) (none : List (Option WaitingCallValue)) where
  pub leads-first : (replies : List EventReply) → replies ≡ [] → LeadsOn all first none all first none replies
  leads-first replies e more after still plays = subst (λ r. Plays all first none (r ++ more) after still) (sym e) plays

  pub leads-next : (event : Event) (rest : List Event) (now : ResolverValue H) (waiting : List (Option WaitingCallValue)) (replies : List EventReply) → LeadsOn all first none (event ∷ rest) now waiting replies
      → (reply : EventReply) (mid : ResolverValue H) (between : List (Option WaitingCallValue)) → Takes event now waiting reply mid between → LeadsOn all first none rest mid between (replies ++ reply ∷ [])
  leads-next event rest now waiting replies on reply mid between takes more after still plays =
      subst (λ r. Plays all first none r after still) (sym (append_assoc replies (reply ∷ []) more)) (on (reply ∷ more) after still (mid, between, takes, plays))

  pub leads-all : (now : ResolverValue H) (waiting : List (Option WaitingCallValue)) (replies : List EventReply) → LeadsOn all first none [] now waiting replies → Plays all first none replies now waiting
  leads-all now waiting replies on = subst (λ r. Plays all first none r now waiting) (append-nil replies) (on [] now waiting (refl, refl))
