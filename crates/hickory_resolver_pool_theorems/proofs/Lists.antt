-- The servers of a list stay those that its group was given.
use Rattle.std.proofs.Common.{◌≡◌, ◌+◌, min, ℕ, Bool, true, false, cond, not, ltb, eqb, eqb-true, List, [], ◌∷◌, map, set, refl, ap, sym, subst, ◌∙◌, zero, suc}
use Rattle.std.specs.Prelude.{Option, None, Some, slice_get}
use Rattle.std.specs.Ordering.{nat_cmp}
use Rattle.std.specs.BTreeMap.{is_at}
use Rattle.std.specs.Option.{option_map_or}
use Rattle.hickory_resolver_servers.specs.Measures.{after_failure, after_timeout, doubled, changed_at, measured, released, is_sent_after}
use Rattle.hickory_resolver_servers.specs.Server.{ServerState, known_at}
use Rattle.hickory_resolver_servers.specs.declared.choices.TheConstants.{GREATEST_ROUND_TRIP}
use Rattle.hickory_resolver_traffic.specs.Groups.{GroupListState, GroupsState, list_in, put_list, drop_list, kept_if_needed, swept, changed_list, one_more, begun, one_less, ended}
use Rattle.hickory_resolver_pool_theorems.proofs.Keys.{apart-is, others-set, found-set, others-removed, gone-removed, Apart, apart-set, apart-removed}
use Rattle.hickory_resolver_pool_theorems.proofs.ByNumber.{At}

-- ---- as they were given: what was measured, and who tries them, left out

abbrev pub bare : ServerState → ServerState
bare s = record s { estimate = None; probe = None }

abbrev pub bare_all : List ServerState → List ServerState
bare_all servers = map {A = ServerState} bare servers

bare-set : (servers : List ServerState) (place : ℕ) (old new : ServerState) → slice_get servers place ≡ Some old
    → bare new ≡ bare old → bare_all (set servers place new) ≡ bare_all servers
bare-set [] place old new is same = absurd cc
bare-set (s ∷ servers) zero old new is same =
    let one : s ≡ old = cc in
    ap (λ (x : ServerState). x ∷ bare_all servers) (same ∙ ap bare (sym one))
bare-set (s ∷ servers) (suc place) old new is same =
    ap (λ (xs : List ServerState). bare s ∷ xs) (bare-set servers place old new is same)

pub bare-changed : (change : ServerState → ServerState) → ((s : ServerState) → bare (change s) ≡ bare s) → (place : ℕ)
    → (servers : List ServerState) → bare_all (changed_at change place servers) ≡ bare_all servers
bare-changed change keeps place servers = by (slice_get servers place) refl
  where
    by : (s : Option ServerState) → slice_get servers place ≡ s
        → bare_all (option_map_or (λ x. set servers place (change x)) s servers) ≡ bare_all servers
    by None is = refl
    by (Some s) is = bare-set servers place s (change s) is (keeps s)

pub bare-failure : (timeout sent_at now : ℕ) (s : ServerState) → bare (after_failure timeout sent_at now s) ≡ bare s
bare-failure timeout sent_at now s =
    by (is_sent_after sent_at s.estimate) (min (doubled (known_at now s) timeout) GREATEST_ROUND_TRIP)
  where
    by : (b : Bool) (round_trip : ℕ) → bare (cond {A = ServerState} b (measured now s round_trip) s) ≡ bare s
    by true round_trip = refl
    by false round_trip = refl

pub bare-timeout : (timeout sent_at due now : ℕ) (s : ServerState) → bare (after_timeout timeout sent_at due now s) ≡ bare s
bare-timeout timeout sent_at due now s = by (ltb (due + timeout) now)
  where
    by : (b : Bool) → bare (cond {A = ServerState} b s (after_failure timeout sent_at now s)) ≡ bare s
    by true = refl
    by false = bare-failure timeout sent_at now s

pub bare-released : (n : ℕ) (servers : List ServerState) → bare_all (released n servers) ≡ bare_all servers
bare-released n [] = refl
bare-released n (s ∷ servers) = ap (λ (xs : List ServerState). bare s ∷ xs) (bare-released n servers)

-- ---- lists that are alike

pub record IsAlike (l k : GroupListState) : Type 0 where
  pub servers : bare_all k.servers.servers ≡ bare_all l.servers.servers
  pub sources : k.sources ≡ l.sources
  pub current : k.is_current ≡ l.is_current

pub alike-self : (l : GroupListState) → IsAlike l l
alike-self l = record { servers = refl; sources = refl; current = refl }

-- a list stays, or one that is not current is dropped
abbrev pub Stays : Option GroupListState → Option GroupListState → Type 0
Stays None None = Unit {0}
Stays None (Some k) = ⊥
Stays (Some l) None = l.is_current ≡ false
Stays (Some l) (Some k) = IsAlike l k

pub stays-self : (o : Option GroupListState) → Stays o o
stays-self None = tt
stays-self (Some l) = alike-self l

stays-then : (a b c : Option GroupListState) → Stays a b → Stays b c → Stays a c
stays-then None None None one two = tt
stays-then None None (Some c) one two = absurd two
stays-then None (Some b) c one two = absurd one
stays-then (Some a) None None one two = one
stays-then (Some a) None (Some c) one two = absurd two
stays-then (Some a) (Some b) None one two = sym one.current ∙ two
stays-then (Some a) (Some b) (Some c) one two = record {
  servers = two.servers ∙ one.servers;
  sources = two.sources ∙ one.sources;
  current = two.current ∙ one.current;
}

abbrev pub Lists : Type 0
Lists = List (ℕ × GroupListState)

pub record AreKept (ls ks : Lists) : Type 0 where
  pub apart : Apart ls → Apart ks
  pub each : Apart ls → (n : ℕ) → Stays (At n ls) (At n ks)

pub kept-self : (ls : Lists) → AreKept ls ls
kept-self ls = record { apart = λ a. a; each = λ a n. stays-self (At n ls) }

pub kept-then : (ls ks js : Lists) → AreKept ls ks → AreKept ks js → AreKept ls js
kept-then ls ks js one two = record {
  apart = λ a. two.apart (one.apart a);
  each = λ a n. stays-then (At n ls) (At n ks) (At n js) (one.each a n) (two.each (one.apart a) n);
}

pub kept-put : (number : ℕ) (l k : GroupListState) (ls : Lists) → At number ls ≡ Some l → IsAlike l k
    → AreKept ls (put_list number k ls)
kept-put number l k ls found alike = record {
  apart = λ a. apart-set number k ls a;
  each = λ a n. by n (eqb n number) refl;
}
  where
    by : (n : ℕ) (b : Bool) → eqb n number ≡ b → Stays (At n ls) (At n (put_list number k ls))
    by n true is =
        subst (λ (m : ℕ). Stays (At m ls) (At m (put_list number k ls))) (sym (eqb-true n number is))
        (subst (λ (o : Option GroupListState). Stays o (At number (put_list number k ls))) (sym found)
        (subst (λ (o : Option GroupListState). Stays (Some l) o) (sym (found-set (is_at (nat_cmp number)) ls l k found)) alike))
    by n false is =
        subst (λ (o : Option GroupListState). Stays (At n ls) o) (sym (others-set n number (apart-is n number is) k ls))
        (stays-self (At n ls))

pub kept-changed : (change : GroupListState → GroupListState) → ((l : GroupListState) → IsAlike l (change l))
    → (number : ℕ) (ls : Lists) → AreKept ls (changed_list change number ls)
kept-changed change alike number ls = by (list_in number ls) refl
  where
    by : (l : Option GroupListState) → list_in number ls ≡ l
        → AreKept ls (option_map_or (λ x. put_list number (change x) ls) l ls)
    by None is = kept-self ls
    by (Some l) is = kept-put number l (change l) ls is (alike l)

kept-swept : (number : ℕ) (ls : Lists) → AreKept ls (swept number ls)
kept-swept number ls = by (list_in number ls) refl
  where
    drops : (l : GroupListState) → list_in number ls ≡ Some l → l.is_current ≡ false → AreKept ls (drop_list number ls)
    drops l is old = record {
      apart = λ a. apart-removed number ls a;
      each = λ a n. each a n (eqb n number) refl;
    }
      where
        each : Apart ls → (n : ℕ) (b : Bool) → eqb n number ≡ b → Stays (At n ls) (At n (drop_list number ls))
        each a n true same =
            subst (λ (m : ℕ). Stays (At m ls) (At m (drop_list number ls))) (sym (eqb-true n number same))
            (subst (λ (o : Option GroupListState). Stays o (At number (drop_list number ls))) (sym is)
            (subst (λ (o : Option GroupListState). Stays (Some l) o) (sym (gone-removed number ls a)) old))
        each a n false same =
            subst (λ (o : Option GroupListState). Stays (At n ls) o) (sym (others-removed n number (apart-is n number same) ls))
            (stays-self (At n ls))

    needed : (l : GroupListState) → list_in number ls ≡ Some l → (current : Bool) → l.is_current ≡ current → (used : Bool)
        → AreKept ls (cond (cond current true used) ls (drop_list number ls))
    needed l is true at used = kept-self ls
    needed l is false at true = kept-self ls
    needed l is false at false = drops l is at

    by : (l : Option GroupListState) → list_in number ls ≡ l → AreKept ls (option_map_or (kept_if_needed number ls) l ls)
    by None is = kept-self ls
    by (Some l) is = needed l is l.is_current refl (not (eqb l.transactions 0))

pub kept-begun : (number : ℕ) (g : GroupsState) → AreKept g.lists (begun number g).lists
kept-begun number g =
    kept-changed one_more (λ l. record { servers = refl; sources = refl; current = refl }) number g.lists

pub kept-ended : (number n : ℕ) (g : GroupsState) → AreKept g.lists (ended number n g).lists
kept-ended number n g =
    kept-then g.lists (changed_list (one_less n) number g.lists) (ended number n g).lists
    (kept-changed (one_less n)
    (λ l. record { servers = bare-released n l.servers.servers; sources = refl; current = refl }) number g.lists)
    (kept-swept number (changed_list (one_less n) number g.lists))
