-- What is done with the transaction that is worked on leaves all others, who asks, and what was asked.
use Rattle.std.proofs.Common.{◌≡◌, ◌+◌, ◌-◌, ◌^◌, min, ℕ, Bool, true, false, cond, [], refl, sym, subst, ◌∙◌}
use Rattle.std.specs.Prelude.{Option, None, Some}
use Rattle.std.specs.Option.{is_some, option_map_or}
use Rattle.hickory_resolver_flights.specs.Flights.{changed}
use Rattle.hickory_resolver_flights.specs.declared.heard.Heard.{Heard}
use Rattle.hickory_resolver_flights.specs.declared.heard.Heard.TheVariants.{Nothing, OtherLetters, OptRefused, Reply}
use Rattle.hickory_resolver_steps.specs.Ending.{try_at_place}
use Rattle.hickory_resolver_steps.specs.declared.flying.SentTry.{SentTry}
use Rattle.hickory_resolver_transactions.specs.Transaction.{wanted, freed}
use Rattle.hickory_resolver_traffic.specs.Doing.{Scene, IsDone, hears_octets, after_first, heard_of_first, hears_first, hears, doubts_message, doubts, is_empty, fails_on, after_failed, fails, act_on, stalls_on, stalls, leaving_at, leave_at, closed_at, freed_if, leaves, quits_at, after_quit, quits, place_on, with_to_do, expires, frees, then_do, changing, draws, gives_up, blocks, sends, dates, with_round_parts, is_stream}
use Rattle.hickory_resolver_traffic.specs.Inbox.{MessageValue, first_message, first_failure}
use Rattle.hickory_resolver_traffic.specs.Table.{without_blocked}
use Rattle.hickory_resolver_traffic.specs.declared.acting.ServerAct.TheVariants.{Fail}
use Rattle.hickory_resolver_traffic.specs.declared.doing.Doing.{Doing}
use Rattle.hickory_resolver_traffic.specs.declared.doing.Doing.TheVariants.{Hears, Doubts, Stalls, Fails, Quits, PutsBack, Expires, Frees, Refused, Leaves, Ends, Draws, BeginsRound, GivesUp, Blocks, Sends, Dates, Rests}
use Rattle.hickory_resolver_traffic.specs.declared.entry.ToDo.TheVariants as todo
use Rattle.hickory_resolver_traffic.specs.declared.inbox.ChannelFailure.{ChannelFailure}

-- ---- nothing that is done with a transaction has it refused

pub record IsSame (x y : Scene) : Type 0 where
  pub number : y.current.number ≡ x.current.number
  pub asked : y.current.entry.asked ≡ x.current.entry.asked
  pub to_do : y.current.to_do ≡ todo.Refuse → x.current.to_do ≡ todo.Refuse
  pub entries : y.traffic.table.entries ≡ x.traffic.table.entries
  pub askers : y.traffic.askers ≡ x.traffic.askers
  pub clock : y.traffic.clock ≡ x.traffic.clock

same-self : (x : Scene) → IsSame x x
same-self x = record { number = refl; asked = refl; to_do = λ h. h; entries = refl; askers = refl; clock = refl }

same-then : (x y z : Scene) → IsSame x y → IsSame y z → IsSame x z
same-then x y z one two = record {
  number = two.number ∙ one.number;
  asked = two.asked ∙ one.asked;
  to_do = λ h. one.to_do (two.to_do h);
  entries = two.entries ∙ one.entries;
  askers = two.askers ∙ one.askers;
  clock = two.clock ∙ one.clock;
}

same-hears_first : (x : Scene) → IsSame x (hears_first x)
same-hears_first x = by (first_message x.traffic.inbox)
  where
    by : (m : Option MessageValue) → IsSame x (option_map_or (hears_octets x) m x)
    by None = same-self x
    by (Some m) = record { number = refl; asked = refl; to_do = λ h. h; entries = refl; askers = refl; clock = refl }

same-after_first : (heard : Option Heard) (x : Scene) → IsSame x (after_first heard x)
same-after_first None x = record { number = refl; asked = refl; to_do = λ h. absurd cc; entries = refl; askers = refl; clock = refl }
same-after_first (Some Nothing) x = record { number = refl; asked = refl; to_do = λ h. absurd cc; entries = refl; askers = refl; clock = refl }
same-after_first (Some OtherLetters) x = record { number = refl; asked = refl; to_do = λ h. absurd cc; entries = refl; askers = refl; clock = refl }
same-after_first (Some OptRefused) x = record { number = refl; asked = refl; to_do = λ h. absurd cc; entries = refl; askers = refl; clock = refl }
same-after_first (Some (Reply outcome)) x = record { number = refl; asked = refl; to_do = λ h. absurd cc; entries = refl; askers = refl; clock = refl }

same-stalls : (x : Scene) → IsSame x (stalls x)
same-stalls x = by (first_failure x.traffic.inbox)
  where
    by : (f : Option ChannelFailure) → IsSame x (option_map_or (stalls_on x) f (with_to_do todo.GoOn x))
    by None = record { number = refl; asked = refl; to_do = λ h. absurd cc; entries = refl; askers = refl; clock = refl }
    by (Some f) = record { number = refl; asked = refl; to_do = λ h. absurd cc; entries = refl; askers = refl; clock = refl }

same-fails : (x : Scene) → IsSame x (fails x)
same-fails x = by (first_failure x.traffic.inbox)
  where
    after : (f : ChannelFailure) (stream : Bool) → IsSame x (after_failed stream (act_on (Fail f.channel) [] x))
    after f true = record { number = refl; asked = refl; to_do = λ h. absurd cc; entries = refl; askers = refl; clock = refl }
    after f false = record { number = refl; asked = refl; to_do = λ h. absurd cc; entries = refl; askers = refl; clock = refl }

    by : (f : Option ChannelFailure) → IsSame x (option_map_or (fails_on x) f (with_to_do todo.GoOn x))
    by None = record { number = refl; asked = refl; to_do = λ h. absurd cc; entries = refl; askers = refl; clock = refl }
    by (Some f) = after f (is_stream f.channel x.traffic.shared.channels)

same-leave_at : (place : ℕ) (x : Scene) → IsSame x (leave_at place x)
same-leave_at place x = by (try_at_place x.current.entry.flying place)
  where
    by : (one : Option SentTry) → IsSame x (option_map_or (leaving_at place x) one x)
    by None = same-self x
    by (Some one) = record { number = refl; asked = refl; to_do = λ h. h; entries = refl; askers = refl; clock = refl }

same-quits : (x : Scene) → IsSame x (quits x)
same-quits x = by (place_on x)
  where
    after : (y : Scene) → IsSame x y → (closed : Option ℕ) → IsSame x (after_quit closed y)
    after y same None = record {
      number = same.number;
      asked = same.asked;
      to_do = λ h. absurd cc;
      entries = same.entries;
      askers = same.askers;
      clock = same.clock;
    }
    after y same (Some channel) = record {
      number = same.number;
      asked = same.asked;
      to_do = λ h. absurd cc;
      entries = same.entries;
      askers = same.askers;
      clock = same.clock;
    }

    by : (place : Option ℕ) → IsSame x (option_map_or (quits_at x) place (with_to_do todo.PutBack x))
    by None = record { number = refl; asked = refl; to_do = λ h. absurd cc; entries = refl; askers = refl; clock = refl }
    by (Some place) = after (leave_at place x) (same-leave_at place x) (closed_at place x)

same-frees : (x : Scene) → IsSame x (frees x)
same-frees x = by (is_some (wanted (changed freed x.current.entry.flying.flight).transaction))
  where
    by : (wants : Bool) → IsSame x (cond {A = Scene} wants
        (record {
          traffic = x.traffic;
          current = then_do todo.GoOn (changing (changed freed) x.current);
        })
        (record {
          traffic = record x.traffic { table = without_blocked x.current.number x.traffic.table };
          current = then_do todo.GoOn (changing (changed freed) x.current);
        }))
    by true = record { number = refl; asked = refl; to_do = λ h. absurd cc; entries = refl; askers = refl; clock = refl }
    by false = record { number = refl; asked = refl; to_do = λ h. absurd cc; entries = refl; askers = refl; clock = refl }

same-freed_if : (closed : Option ℕ) (x : Scene) → IsSame x (freed_if closed x)
same-freed_if None x = same-self x
same-freed_if (Some channel) x = by (is_empty x.traffic.table.blocked)
  where
    by : (empty : Bool) → IsSame x (record {
      traffic = cond empty x.traffic (record x.traffic { freed = min (x.traffic.freed + 1) (2 ^ 64 - 1) });
      current = x.current;
    })
    by true = same-self x
    by false = record { number = refl; asked = refl; to_do = λ h. h; entries = refl; askers = refl; clock = refl }

same-doubts : (x : Scene) → IsSame x (doubts x)
same-doubts x = by (first_message x.traffic.inbox)
  where
    by : (m : Option MessageValue) → IsSame x (record {
      traffic = option_map_or (doubts_message x.traffic) m x.traffic;
      current = then_do todo.GoOn x.current;
    })
    by None = record { number = refl; asked = refl; to_do = λ h. absurd cc; entries = refl; askers = refl; clock = refl }
    by (Some m) = record { number = refl; asked = refl; to_do = λ h. absurd cc; entries = refl; askers = refl; clock = refl }

same-by : (x y z : Scene) → y ≡ z → IsSame x z → IsSame x y
same-by x y z is w = subst (λ (v : Scene). IsSame x v) (sym is) w

pub same-done : (what : Doing) (x y : Scene) → IsDone what x y → IsSame x y
same-done Hears x y is =
    same-by x y (hears x) is
    (same-then x (hears_first x) (hears x) (same-hears_first x)
    (same-after_first (heard_of_first x) (hears_first x)))
same-done Doubts x y is = same-by x y (doubts x) is (same-doubts x)
same-done Stalls x y is = same-by x y (stalls x) is (same-stalls x)
same-done Fails x y is = same-by x y (fails x) is (same-fails x)
same-done Quits x y is = same-by x y (quits x) is (same-quits x)
same-done Expires x y is = same-by x y (expires x) is (record { number = refl; asked = refl; to_do = λ h. absurd cc; entries = refl; askers = refl; clock = refl })
same-done Frees x y is = same-by x y (frees x) is (same-frees x)
same-done (Leaves place) x y is =
    same-by x y (leaves place x) is
    (same-then x (leave_at place x) (leaves place x) (same-leave_at place x)
    (same-freed_if (closed_at place x) (leave_at place x)))
same-done Draws x y is = same-by x y (draws x) is (record { number = refl; asked = refl; to_do = λ h. h; entries = refl; askers = refl; clock = refl })
same-done (BeginsRound place) x y is =
    same-by x y (with_round_parts place x y.current.entry.flying) is.after (record { number = refl; asked = refl; to_do = λ h. h; entries = refl; askers = refl; clock = refl })
same-done GivesUp x y is = same-by x y (gives_up x) is (record { number = refl; asked = refl; to_do = λ h. h; entries = refl; askers = refl; clock = refl })
same-done Blocks x y is = same-by x y (blocks x) is (record { number = refl; asked = refl; to_do = λ h. h; entries = refl; askers = refl; clock = refl })
same-done Sends x y is = same-by x y (sends x) is (record { number = refl; asked = refl; to_do = λ h. h; entries = refl; askers = refl; clock = refl })
same-done (Dates due) x y is = same-by x y (dates due x) is (record { number = refl; asked = refl; to_do = λ h. h; entries = refl; askers = refl; clock = refl })
same-done PutsBack x y is = same-by x y x is (same-self x)
same-done Refused x y is = same-by x y x is (same-self x)
same-done Ends x y is = same-by x y x is (same-self x)
same-done Rests x y is = same-by x y x is (same-self x)
