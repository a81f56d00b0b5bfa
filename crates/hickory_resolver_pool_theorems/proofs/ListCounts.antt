-- How many transactions ask the servers of each list, and that what is done with one leaves these counts.
use Rattle.std.proofs.Common.{◌≡◌, ◌≤◌, ◌<◌, ◌+◌, ◌-◌, ◌^◌, min, ℕ, Bool, true, false, cond, List, [], ◌∷◌, refl, ap, sym, subst, ◌∙◌}
use Rattle.std.specs.Prelude.{Option, None, Some}
use Rattle.std.specs.Ordering.{nat_cmp}
use Rattle.std.specs.List.{AllByRecursion}
use Rattle.std.specs.BTreeMap.{is_at}
use Rattle.std.specs.Option.{is_some, option_map_or}
use Rattle.hickory_resolver_flights.specs.Flights.{changed}
use Rattle.hickory_resolver_flights.specs.declared.heard.Heard.{Heard}
use Rattle.hickory_resolver_flights.specs.declared.heard.Heard.TheVariants.{Nothing, OtherLetters, OptRefused, Reply}
use Rattle.hickory_resolver_steps.specs.Ending.{try_at_place}
use Rattle.hickory_resolver_steps.specs.declared.flying.SentTry.{SentTry}
use Rattle.hickory_resolver_transactions.specs.Transaction.{wanted, freed, places_left}
use Rattle.hickory_resolver_traffic.specs.Doing.{Scene, IsDone, hears_octets, after_first, heard_of_first, hears_first, hears, doubts_message, doubts, is_empty, fails_on, after_failed, fails, act_on, stalls_on, stalls, leaving_at, leave_at, closed_at, freed_if, leaves, quits_at, after_quit, quits, place_on, with_to_do, expires, frees, then_do, changing, draws, gives_up, blocks, sends, dates, with_round_parts, is_stream, before_act, with_acted, moment_of, hear_of, with_probe, round_of}
use Rattle.hickory_resolver_traffic.specs.Inbox.{MessageValue, first_message, first_failure}
use Rattle.hickory_resolver_traffic.specs.Table.{without_blocked}
use Rattle.hickory_resolver_traffic.specs.declared.acting.ServerAct.TheVariants.{Fail, Expire, Send}
use Rattle.hickory_resolver_traffic.specs.declared.acting.ServerAct.{ServerAct}
use Rattle.hickory_resolver_traffic.specs.Acting.{acted, acted_with, parts_of, with_list_servers}
use Rattle.hickory_resolver_steps.specs.Steps.{FlyingState}
use Rattle.hickory_resolver_traffic.specs.Groups.{GroupListState, list_in, put_list}
use Rattle.hickory_resolver_traffic.specs.declared.doing.Doing.{Doing}
use Rattle.hickory_resolver_traffic.specs.declared.doing.Doing.TheVariants.{Hears, Doubts, Stalls, Fails, Quits, PutsBack, Expires, Frees, Refused, Leaves, Ends, Draws, BeginsRound, GivesUp, Blocks, Sends, Dates, Rests}
use Rattle.hickory_resolver_traffic.specs.declared.entry.ToDo.TheVariants as todo
use Rattle.hickory_resolver_traffic.specs.declared.inbox.ChannelFailure.{ChannelFailure}
use Rattle.hickory_resolver_pool_theorems.proofs.Keys.{at-is, found-set, others-set}

-- ---- the lists, and how many transactions ask the servers of each

abbrev pub Lists : Type 0
Lists = List (ℕ × GroupListState)

abbrev pub count_of : Option GroupListState → ℕ
count_of o = option_map_or (λ l. l.transactions) o 0

abbrev pub counted : ℕ → Lists → ℕ
counted k lists = count_of (list_in k lists)

abbrev pub AreFew : ℕ → Lists → Type 0
AreFew most lists = AllByRecursion (λ p. p.1.transactions ≤ most) lists

abbrev pub AreOld : ℕ → Lists → Type 0
AreOld next lists = AllByRecursion (λ p. p.0 < next) lists

-- the counts stay
pub record SameLists (a b : Lists) : Type 0 where
  pub held : (k : ℕ) → counted k b ≡ counted k a
  pub few : (most : ℕ) → AreFew most a → AreFew most b
  pub old : (next : ℕ) → AreOld next a → AreOld next b

pub lists-self : (a : Lists) → SameLists a a
lists-self a = record { held = λ k. refl; few = λ most h. h; old = λ next h. h }

pub few-set : (most number : ℕ) (l : GroupListState) (ls : Lists) → l.transactions ≤ most → AreFew most ls
    → AreFew most (put_list number l ls)
few-set most number l [] h all = tt
few-set most number l (x ∷ xs) h all = by (is_at (nat_cmp number) x.0) (few-set most number l xs h all.1)
  where
    by : (b : Bool) → AreFew most (put_list number l xs) → AreFew most (cond b ((x.0, l) ∷ xs) (x ∷ put_list number l xs))
    by true more = (h, all.1)
    by false more = (all.0, more)

pub old-set : (next number : ℕ) (l : GroupListState) (ls : Lists) → AreOld next ls → AreOld next (put_list number l ls)
old-set next number l [] all = tt
old-set next number l (x ∷ xs) all = by (is_at (nat_cmp number) x.0) (old-set next number l xs all.1)
  where
    by : (b : Bool) → AreOld next (put_list number l xs) → AreOld next (cond b ((x.0, l) ∷ xs) (x ∷ put_list number l xs))
    by true more = all
    by false more = (all.0, more)

pub few-found : (most number : ℕ) (l : GroupListState) (ls : Lists) → AreFew most ls → list_in number ls ≡ Some l
    → l.transactions ≤ most
few-found most number l [] all e = absurd cc
few-found most number l (x ∷ xs) all e = by (is_at (nat_cmp number) x.0) (few-found most number l xs all.1) e
  where
    by : (b : Bool) → (list_in number xs ≡ Some l → l.transactions ≤ most) → cond b (Some x.1) (list_in number xs) ≡ Some l
        → l.transactions ≤ most
    by true more g =
        let same : x.1 ≡ l = cc in subst (λ (y : GroupListState). y.transactions ≤ most) same all.0
    by false more g = more g

pub lists-put : (number : ℕ) (l new : GroupListState) (ls : Lists) → list_in number ls ≡ Some l
    → new.transactions ≡ l.transactions → SameLists ls (put_list number new ls)
lists-put number l new ls at same = record {
  held = held;
  few = λ most all. few-set most number new ls
      (subst (λ (n : ℕ). n ≤ most) (sym same) (few-found most number l ls all at)) all;
  old = λ next all. old-set next number new ls all;
}
  where
    held : (k : ℕ) → counted k (put_list number new ls) ≡ counted k ls
    held k = by (is_at (nat_cmp k) number) refl
      where
        by : (b : Bool) → is_at (nat_cmp k) number ≡ b → counted k (put_list number new ls) ≡ counted k ls
        by true is =
            let own = at-is k number is in
            ap (λ (n : ℕ). counted n (put_list number new ls)) own
            ∙ ap count_of (found-set (is_at (nat_cmp number)) ls l new at) ∙ same ∙ sym (ap count_of at)
            ∙ sym (ap (λ (n : ℕ). counted n ls) own)
        by false is = ap count_of (others-set k number is new ls)

-- ---- what is done with a transaction leaves the counts

pub record IsListed (x y : Scene) : Type 0 where
  pub next : y.traffic.groups.next ≡ x.traffic.groups.next
  pub lists : SameLists x.traffic.groups.lists y.traffic.groups.lists

listed-self : (x : Scene) → IsListed x x
listed-self x = record { next = refl; lists = lists-self x.traffic.groups.lists }

listed-then : (x y z : Scene) → IsListed x y → IsListed y z → IsListed x z
listed-then x y z one two = record {
  next = two.next ∙ one.next;
  lists = record {
    held = λ k. two.lists.held k ∙ one.lists.held k;
    few = λ most h. two.lists.few most (one.lists.few most h);
    old = λ next h. two.lists.old next (one.lists.old next h);
  };
}

listed-act : (what : ServerAct) (octets : List ℕ) (x : Scene) → IsListed x (act_on what octets x)
listed-act what octets x = by (list_in x.current.entry.asked.0 x.traffic.groups.lists) refl
  where
    by : (l : Option GroupListState) → list_in x.current.entry.asked.0 x.traffic.groups.lists ≡ l
        → IsListed x (with_acted x (option_map_or
        (acted_with what x.current.number (moment_of x.traffic) octets x.current.entry.asked.0 (before_act x)) l
        (before_act x)))
    by None is = record { next = refl; lists = lists-self x.traffic.groups.lists }
    by (Some l) is = record {
      next = refl;
      lists = lists-put x.current.entry.asked.0 l
          (with_list_servers l (acted what x.current.number (moment_of x.traffic) octets
          (parts_of x.traffic.shared x.current.entry.flying l)))
          x.traffic.groups.lists is refl;
    }

listed-round : (place : ℕ) (x : Scene) (f : FlyingState) → IsListed x (with_round_parts place x f)
listed-round place x f = by (list_in x.current.entry.asked.0 x.traffic.groups.lists) refl
  where
    probe : GroupListState → GroupListState
    probe l =
        with_probe x.traffic.rules.strategy (round_of place x) (places_left x.current.entry.flying.flight.transaction) l

    by : (l : Option GroupListState) → list_in x.current.entry.asked.0 x.traffic.groups.lists ≡ l
        → IsListed x (with_acted x (record {
          shared = x.traffic.shared;
          lists = option_map_or (λ g. put_list x.current.entry.asked.0 (probe g) x.traffic.groups.lists) l
              x.traffic.groups.lists;
          flying = f;
        }))
    by None is = record { next = refl; lists = lists-self x.traffic.groups.lists }
    by (Some l) is = record {
      next = refl;
      lists = lists-put x.current.entry.asked.0 l (probe l) x.traffic.groups.lists is refl;
    }

listed-hears_first : (x : Scene) → IsListed x (hears_first x)
listed-hears_first x = by (first_message x.traffic.inbox)
  where
    by : (m : Option MessageValue) → IsListed x (option_map_or (hears_octets x) m x)
    by None = listed-self x
    by (Some m) = listed-act (hear_of m) m.octets x

listed-after_first : (heard : Option Heard) (x : Scene) → IsListed x (after_first heard x)
listed-after_first None x = record { next = refl; lists = lists-self x.traffic.groups.lists }
listed-after_first (Some Nothing) x = record { next = refl; lists = lists-self x.traffic.groups.lists }
listed-after_first (Some OtherLetters) x = record { next = refl; lists = lists-self x.traffic.groups.lists }
listed-after_first (Some OptRefused) x = record { next = refl; lists = lists-self x.traffic.groups.lists }
listed-after_first (Some (Reply outcome)) x = record { next = refl; lists = lists-self x.traffic.groups.lists }

listed-stalls : (x : Scene) → IsListed x (stalls x)
listed-stalls x = by (first_failure x.traffic.inbox)
  where
    by : (f : Option ChannelFailure) → IsListed x (option_map_or (stalls_on x) f (with_to_do todo.GoOn x))
    by None = record { next = refl; lists = lists-self x.traffic.groups.lists }
    by (Some f) = record { next = refl; lists = lists-self x.traffic.groups.lists }

listed-fails : (x : Scene) → IsListed x (fails x)
listed-fails x = by (first_failure x.traffic.inbox)
  where
    after : (f : ChannelFailure) (stream : Bool) → IsListed x (after_failed stream (act_on (Fail f.channel) [] x))
    after f true = let k = listed-act (Fail f.channel) [] x in record { next = k.next; lists = k.lists }
    after f false = let k = listed-act (Fail f.channel) [] x in record { next = k.next; lists = k.lists }

    by : (f : Option ChannelFailure) → IsListed x (option_map_or (fails_on x) f (with_to_do todo.GoOn x))
    by None = record { next = refl; lists = lists-self x.traffic.groups.lists }
    by (Some f) = after f (is_stream f.channel x.traffic.shared.channels)

listed-leave_at : (place : ℕ) (x : Scene) → IsListed x (leave_at place x)
listed-leave_at place x = by (try_at_place x.current.entry.flying place)
  where
    by : (one : Option SentTry) → IsListed x (option_map_or (leaving_at place x) one x)
    by None = listed-self x
    by (Some one) = record { next = refl; lists = lists-self x.traffic.groups.lists }

listed-quits : (x : Scene) → IsListed x (quits x)
listed-quits x = by (place_on x)
  where
    after : (y : Scene) → IsListed x y → (closed : Option ℕ) → IsListed x (after_quit closed y)
    after y same None = record { next = same.next; lists = same.lists }
    after y same (Some channel) = record { next = same.next; lists = same.lists }

    by : (place : Option ℕ) → IsListed x (option_map_or (quits_at x) place (with_to_do todo.PutBack x))
    by None = record { next = refl; lists = lists-self x.traffic.groups.lists }
    by (Some place) = after (leave_at place x) (listed-leave_at place x) (closed_at place x)

listed-frees : (x : Scene) → IsListed x (frees x)
listed-frees x = by (is_some (wanted (changed freed x.current.entry.flying.flight).transaction))
  where
    by : (wants : Bool) → IsListed x (cond {A = Scene} wants
        (record {
          traffic = x.traffic;
          current = then_do todo.GoOn (changing (changed freed) x.current);
        })
        (record {
          traffic = record x.traffic { table = without_blocked x.current.number x.traffic.table };
          current = then_do todo.GoOn (changing (changed freed) x.current);
        }))
    by true = record { next = refl; lists = lists-self x.traffic.groups.lists }
    by false = record { next = refl; lists = lists-self x.traffic.groups.lists }

listed-freed_if : (closed : Option ℕ) (x : Scene) → IsListed x (freed_if closed x)
listed-freed_if None x = listed-self x
listed-freed_if (Some channel) x = by (is_empty x.traffic.table.blocked)
  where
    by : (empty : Bool) → IsListed x (record {
      traffic = cond empty x.traffic (record x.traffic { freed = min (x.traffic.freed + 1) (2 ^ 64 - 1) });
      current = x.current;
    })
    by true = listed-self x
    by false = record { next = refl; lists = lists-self x.traffic.groups.lists }

listed-doubts : (x : Scene) → IsListed x (doubts x)
listed-doubts x = by (first_message x.traffic.inbox)
  where
    by : (m : Option MessageValue) → IsListed x (record {
      traffic = option_map_or (doubts_message x.traffic) m x.traffic;
      current = then_do todo.GoOn x.current;
    })
    by None = record { next = refl; lists = lists-self x.traffic.groups.lists }
    by (Some m) = record { next = refl; lists = lists-self x.traffic.groups.lists }

listed-by : (x y z : Scene) → y ≡ z → IsListed x z → IsListed x y
listed-by x y z is w = subst (λ (v : Scene). IsListed x v) (sym is) w

pub listed-done : (what : Doing) (x y : Scene) → IsDone what x y → IsListed x y
listed-done Hears x y is =
    listed-by x y (hears x) is
    (listed-then x (hears_first x) (hears x) (listed-hears_first x)
    (listed-after_first (heard_of_first x) (hears_first x)))
listed-done Doubts x y is = listed-by x y (doubts x) is (listed-doubts x)
listed-done Stalls x y is = listed-by x y (stalls x) is (listed-stalls x)
listed-done Fails x y is = listed-by x y (fails x) is (listed-fails x)
listed-done Quits x y is = listed-by x y (quits x) is (listed-quits x)
listed-done Expires x y is = listed-by x y (expires x) is
    (let k = listed-act Expire [] x in record { next = k.next; lists = k.lists })
listed-done Frees x y is = listed-by x y (frees x) is (listed-frees x)
listed-done (Leaves place) x y is =
    listed-by x y (leaves place x) is
    (listed-then x (leave_at place x) (leaves place x) (listed-leave_at place x)
    (listed-freed_if (closed_at place x) (leave_at place x)))
listed-done Draws x y is = listed-by x y (draws x) is (record { next = refl; lists = lists-self x.traffic.groups.lists })
listed-done (BeginsRound place) x y is =
    listed-by x y (with_round_parts place x y.current.entry.flying) is.after
    (listed-round place x y.current.entry.flying)
listed-done GivesUp x y is = listed-by x y (gives_up x) is (record { next = refl; lists = lists-self x.traffic.groups.lists })
listed-done Blocks x y is = listed-by x y (blocks x) is (record { next = refl; lists = lists-self x.traffic.groups.lists })
listed-done Sends x y is = listed-by x y (sends x) is
    (let k = listed-act Send [] x in record { next = k.next; lists = k.lists })
listed-done (Dates due) x y is = listed-by x y (dates due x) is (record { next = refl; lists = lists-self x.traffic.groups.lists })
listed-done PutsBack x y is = listed-by x y x is (listed-self x)
listed-done Refused x y is = listed-by x y x is (listed-self x)
listed-done Ends x y is = listed-by x y x is (listed-self x)
listed-done Rests x y is = listed-by x y x is (listed-self x)
