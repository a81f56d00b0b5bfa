-- What a transaction wants to send goes to a port that its server was given with.
use Rattle.std.proofs.Common.{◌≡◌, ◌≤◌, ◌<◌, ℕ, Bool, true, false, cond, eqb, eqb-true, List, [], ◌∷◌, refl, ap, sym, subst, ◌∙◌, arith, zero, suc}
use Rattle.std.specs.Prelude.{Option, None, Some, IfSome}
use Rattle.std.specs.Option.{is_some, option_and_then}
use Rattle.hickory_resolver_config.specs.ResolverConfig.{OptionsValue}
use Rattle.hickory_resolver_servers.specs.Server.{ServerState}
use Rattle.hickory_resolver_tries.specs.Question.{question_of}
use Rattle.hickory_resolver_transactions.specs.declared.candidate.Transport.{Transport}
use Rattle.hickory_resolver_transactions.specs.declared.candidate.Transport.TheVariants.{Udp, Tcp}
use Rattle.hickory_resolver_traffic.specs.Doing.{is_empty}
use Rattle.hickory_resolver_traffic.specs.Groups.{GroupListState, current_of, list_at}
use Rattle.hickory_resolver_traffic.specs.Table.{EntryState}
use Rattle.hickory_resolver_traffic.specs.Traffic.{TrafficState, entry_of}
use Rattle.hickory_resolver_pool.specs.Laws.{PoolEvent, time_passes, group_has, is_asked, octets_come, channel_fails, is_forgotten, after_event}
use Rattle.hickory_resolver_pool.specs.Pool.{PoolState, AskedOf, no_servers, settings_for, list_of, if_servers}
use Rattle.hickory_resolver_pool.specs.Servers.{PoolServerValue, states_of}
use Rattle.hickory_resolver_pool.specs.declared.limits.PoolLimits.{PoolLimits}
use Rattle.hickory_resolver_pool_theorems.specs.Answers.{servers_in}
use Rattle.hickory_resolver_pool_theorems.specs.Runs.{Happening, came, did, Runs, at_first, by_event, by_step}
use Rattle.hickory_resolver_pool_theorems.proofs.ByEvents.{keeps-done}
use Rattle.hickory_resolver_pool_theorems.proofs.EachEntry.{HoldOfEach, Begins, each-step, each-event, each-as}
use Rattle.hickory_resolver_pool_theorems.proofs.Fits.{AreFor, for-event, port_by, has_port, begun-for}
use Rattle.hickory_resolver_pool_theorems.proofs.Groups.{given_in, IsGivenAs, CurrentIs, IsCurrentList, GroupsAre, groups-runs, kept-asked, kept-came, kept-failed}
use Rattle.hickory_resolver_pool_theorems.proofs.Lists.{bare, bare_all}
use Rattle.hickory_resolver_pool_theorems.proofs.ListsKept.{kept-step}
use Rattle.hickory_resolver_pool_theorems.proofs.Scenes.{same-done}

abbrev pub next_of : PoolState → ℕ
next_of s = s.traffic.groups.next

pub next-event : (s : PoolState) (e : PoolEvent) → next_of s ≤ next_of (after_event s e)
next-event s (time_passes at) = omega arith
next-event s (group_has group servers) = omega arith
next-event s (is_asked group query options dnssec at) =
    let same = (kept-asked (list_of group s.traffic) (question_of query options dnssec) (settings_for s.options options) at s).next in
    omega (arith, same)
next-event s (octets_come channel octets at) = let same = (kept-came s channel octets at).next in omega (arith, same)
next-event s (channel_fails f at) = let same = (kept-failed s f at).next in omega (arith, same)
next-event s (is_forgotten a) = omega arith

pub given-event : (past : List Happening) (s : PoolState) (e : PoolEvent) (n : ℕ) → n < next_of s
    → given_in n (came s e ∷ past) ≡ given_in n past
given-event past s (time_passes at) n less = refl
given-event past s (group_has group servers) n less = by (eqb (next_of s) n) refl
  where
    by : (b : Bool) → eqb (next_of s) n ≡ b → cond b servers (given_in n past) ≡ given_in n past
    by false is = refl
    by true is = let same : next_of s ≡ n = eqb-true (next_of s) n is in absurd (omega (arith, less, same))
given-event past s (is_asked group query options dnssec at) n less = refl
given-event past s (octets_come channel octets at) n less = refl
given-event past s (channel_fails f at) n less = refl
given-event past s (is_forgotten a) n less = refl

-- the list of a group that has servers is its current one
pub current-is : (group list : ℕ) (t : TrafficState) → list_of group t ≡ Some list → current_of group t.groups ≡ Some list
current-is group list t is = by (current_of group t.groups) is
  where
    one : (n : ℕ) (l : Option GroupListState)
        → option_and_then (λ (x : GroupListState). cond (is_empty x.servers.servers) None (Some n)) l ≡ Some list → n ≡ list
    one n None h = absurd cc
    one n (Some l) h = empty (is_empty l.servers.servers) h
      where
        empty : (b : Bool) → cond b None (Some n) ≡ Some list → n ≡ list
        empty true g = absurd cc
        empty false g = cc

    by : (n : Option ℕ) → option_and_then (if_servers t) n ≡ Some list → n ≡ Some list
    by None h = absurd cc
    by (Some n) h = ap (λ (m : ℕ). Some m) (one n (list_at n t.groups) h)

-- ---- ports as they were given

port-bare : (p : Transport) (server : ServerState) → port_by p server ≡ port_by p (bare server)
port-bare Udp server = refl
port-bare Tcp server = refl

pub has-bare : (servers : List ServerState) (place : ℕ) (p : Transport) → has_port servers place p ≡ has_port (bare_all servers) place p
has-bare [] place p = refl
has-bare (x ∷ xs) zero p = ap (λ (o : Option ℕ). is_some o) (port-bare p x)
has-bare (x ∷ xs) (suc place) p = has-bare xs place p

-- the ports of the servers of a list, as they were given
abbrev pub given_port : List Happening → ℕ → ℕ → Transport → Bool
given_port past list place p = has_port (states_of (given_in list past)) place p

-- what a transaction wants goes to such a port; and its list is one that there was
pub record IsPorted (past : List Happening) (next : ℕ) (e : EntryState) : Type 0 where
  pub fits : AreFor (given_port past e.asked.0) e.flying.flight.transaction
  pub old : e.asked.0 < next

abbrev PortedIn : List Happening → ℕ → ℕ → EntryState → Type 0
PortedIn past next n e = IsPorted past next e

ported-more : (a : Happening) (past : List Happening) (next after : ℕ) (e : EntryState) → next ≤ after
    → (e.asked.0 < next → given_in e.asked.0 (a ∷ past) ≡ given_in e.asked.0 past) → IsPorted past next e
    → IsPorted (a ∷ past) after e
ported-more a past next after e more same w = record {
  fits = subst (λ (given : List PoolServerValue). AreFor (has_port (states_of given)) e.flying.flight.transaction)
      (sym (same w.old)) w.fits;
  old = let less = w.old in omega (arith, less, more);
}

ported-new : (past : List Happening) (s : PoolState) (e : PoolEvent) → GroupsAre past s.traffic.groups
    → Begins (PortedIn (came s e ∷ past) (next_of (after_event s e))) s e
ported-new past s (time_passes at) groups = tt
ported-new past s (group_has group servers) groups = tt
ported-new past s (octets_come channel octets at) groups = tt
ported-new past s (channel_fails f at) groups = tt
ported-new past s (is_forgotten a) groups = tt
ported-new past s (is_asked group query request dnssec at) groups = λ list l at_list there said.
    let current : IsCurrentList (given_in list past) (servers_in group past) s.traffic.groups.lists list (next_of s) =
    subst (CurrentIs past s.traffic.groups group) (current-is group list s.traffic at_list) (groups.current group) in
    let more = next-event s (is_asked group query request dnssec at) in
    let given : IsGivenAs l (given_in list past) =
    subst (λ (x : Option GroupListState). IfSome x (λ k. IsGivenAs k (given_in list past))) there (groups.each list) in
    let same : (place : ℕ) (p : Transport) → has_port l.servers.servers place p ≡ given_port past list place p =
    λ place p. has-bare l.servers.servers place p ∙ ap (λ (xs : List ServerState). has_port xs place p) given.states in
    record {
      fits = subst (λ (has : ℕ → Transport → Bool). AreFor has
          (entry_of list (question_of query request dnssec) (settings_for s.options request) l).flying.flight.transaction)
          (λ i place p. same place p i) (begun-for l.servers.servers (settings_for s.options request));
      old = let less = current.old in omega (arith, less, more);
    }

pub ported-runs : (options : OptionsValue) (limits : PoolLimits) (seed : List ℕ) (past : List Happening) (s : PoolState)
    → Runs (no_servers options limits seed) past s → HoldOfEach (PortedIn past (next_of s)) s
ported-runs options limits seed _ _ at_first = record { table = tt; worked = tt }
ported-runs options limits seed _ _ (by_event past s e more) =
    each-event (PortedIn (came s e ∷ past) (next_of (after_event s e))) s e
    (each-as (PortedIn past (next_of s)) (PortedIn (came s e ∷ past) (next_of (after_event s e)))
    (λ n f w. ported-more (came s e) past (next_of s) (next_of (after_event s e)) f (next-event s e)
    (λ less. given-event past s e f.asked.0 less) w) s (ported-runs options limits seed past s more))
    (ported-new past s e (groups-runs options limits seed past s more))
ported-runs options limits seed _ _ (by_step past s after r is more) =
    let same : next_of after ≡ next_of s = (kept-step s after r is).next in
    each-as (PortedIn past (next_of s)) (PortedIn (did s r ∷ past) (next_of after))
    (λ n f w. ported-more (did s r) past (next_of s) (next_of after) f (omega (arith, same)) (λ less. refl) w) after
    (each-step (PortedIn past (next_of s))
    (λ what x y done w.
    let list : y.current.entry.asked.0 ≡ x.current.entry.asked.0 = ap (λ (a : AskedOf). a.0) (same-done what x y done).asked in
    record {
      fits = subst (λ (n : ℕ). AreFor (given_port past n) y.current.entry.flying.flight.transaction) (sym list)
          (keeps-done (AreFor (given_port past x.current.entry.asked.0)) x.traffic.clock
          (λ t e told. for-event (given_port past x.current.entry.asked.0) t e) what x y (omega arith) done w.fits);
      old = let less = w.old in omega (arith, less, list);
    })
    s after r (ported-runs options limits seed past s more) is)
