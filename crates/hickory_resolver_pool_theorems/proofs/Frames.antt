-- What most of what is done with a transaction leaves: deadlines, the channels, and its tries on them.
use Rattle.std.proofs.Common.{◌≡◌, ◌+◌, ◌-◌, ◌^◌, min, ℕ, Bool, true, false, cond, List, [], refl, ap, sym, subst, ◌∙◌}
use Rattle.std.specs.Prelude.{Option, None, Some}
use Rattle.std.specs.Option.{is_some, option_map_or}
use Rattle.hickory_resolver_flights.specs.Flights.{changed}
use Rattle.hickory_resolver_flights.specs.declared.heard.Heard.{Heard}
use Rattle.hickory_resolver_flights.specs.declared.heard.Heard.TheVariants.{Nothing, OtherLetters, OptRefused, Reply}
use Rattle.hickory_resolver_steps.specs.Ending.{try_at_place}
use Rattle.hickory_resolver_steps.specs.declared.flying.SentTry.{SentTry}
use Rattle.hickory_resolver_transactions.specs.Transaction.{wanted, freed}
use Rattle.hickory_resolver_traffic.specs.Doing.{Scene, IsDone, BeginsRoundIn, BeginsWith, round_of, before_act, with_acted, moment_of, hear_of, hears_octets, after_first, heard_of_first, hears_first, hears, doubts_message, doubts, is_empty, fails_on, after_failed, fails, act_on, stalls_on, stalls, leaving_at, leave_at, closed_at, freed_if, leaves, quits_at, after_quit, quits, place_on, with_to_do, expires, frees, then_do, changing, draws, gives_up, blocks, sends, with_round_parts, is_stream}
use Rattle.hickory_resolver_traffic.specs.Inbox.{MessageValue, first_message, first_failure}
use Rattle.hickory_resolver_traffic.specs.Table.{without_blocked}
use Rattle.hickory_resolver_traffic.specs.declared.acting.ServerAct.TheVariants.{Hear, Fail, Expire, Send}
use Rattle.hickory_resolver_traffic.specs.declared.acting.ServerAct.{ServerAct}
use Rattle.hickory_resolver_traffic.specs.Acting.{acted_with}
use Rattle.hickory_resolver_traffic.specs.Groups.{GroupListState, list_in, list_at}
use Rattle.hickory_resolver_steps.specs.Steps.{FlyingState}
use Rattle.hickory_resolver_traffic.specs.declared.doing.Doing.{Doing}
use Rattle.hickory_resolver_traffic.specs.declared.doing.Doing.TheVariants.{Hears, Doubts, Stalls, Fails, Quits, PutsBack, Expires, Frees, Refused, Leaves, Ends, Draws, BeginsRound, GivesUp, Blocks, Sends, Dates, Rests}
use Rattle.hickory_resolver_traffic.specs.declared.entry.ToDo.TheVariants as todo
use Rattle.hickory_resolver_traffic.specs.declared.inbox.ChannelFailure.{ChannelFailure}

pub record IsKept (x y : Scene) : Type 0 where
  pub deadlines : y.traffic.table.deadlines ≡ x.traffic.table.deadlines
  pub due : y.current.entry.due ≡ x.current.entry.due
  pub channels : y.traffic.shared.channels ≡ x.traffic.shared.channels
  pub tries : y.current.entry.flying.tries ≡ x.current.entry.flying.tries

kept-self : (x : Scene) → IsKept x x
kept-self x = record { deadlines = refl; due = refl; channels = refl; tries = refl }

kept-then : (x y z : Scene) → IsKept x y → IsKept y z → IsKept x z
kept-then x y z one two = record {
  deadlines = two.deadlines ∙ one.deadlines;
  due = two.due ∙ one.due;
  channels = two.channels ∙ one.channels;
  tries = two.tries ∙ one.tries;
}

-- ---- what comes of a try is known to the servers alone

abbrev pub IsHeeded : ServerAct → Type 0
IsHeeded (Hear channel id) = Unit {0}
IsHeeded (Fail channel) = Unit {0}
IsHeeded Expire = Unit {0}
IsHeeded Send = ⊥

kept-act : (what : ServerAct) (octets : List ℕ) (x : Scene) → IsHeeded what → IsKept x (act_on what octets x)
kept-act what octets x heeded = by (list_in x.current.entry.asked.0 x.traffic.groups.lists)
  where
    some : (w : ServerAct) → IsHeeded w → (l : GroupListState) → IsKept x (with_acted x
        (acted_with w x.current.number (moment_of x.traffic) octets x.current.entry.asked.0 (before_act x) l))
    some (Hear channel id) h l = record { deadlines = refl; due = refl; channels = refl; tries = refl }
    some (Fail channel) h l = record { deadlines = refl; due = refl; channels = refl; tries = refl }
    some Expire h l = record { deadlines = refl; due = refl; channels = refl; tries = refl }
    some Send h l = absurd h

    by : (l : Option GroupListState) → IsKept x (with_acted x (option_map_or
        (acted_with what x.current.number (moment_of x.traffic) octets x.current.entry.asked.0 (before_act x)) l
        (before_act x)))
    by None = record { deadlines = refl; due = refl; channels = refl; tries = refl }
    by (Some l) = some what heeded l

kept-hears_first : (x : Scene) → IsKept x (hears_first x)
kept-hears_first x = by (first_message x.traffic.inbox)
  where
    by : (m : Option MessageValue) → IsKept x (option_map_or (hears_octets x) m x)
    by None = kept-self x
    by (Some m) = kept-act (hear_of m) m.octets x tt

kept-after_first : (heard : Option Heard) (x : Scene) → IsKept x (after_first heard x)
kept-after_first None x = record { deadlines = refl; due = refl; channels = refl; tries = refl }
kept-after_first (Some Nothing) x = record { deadlines = refl; due = refl; channels = refl; tries = refl }
kept-after_first (Some OtherLetters) x = record { deadlines = refl; due = refl; channels = refl; tries = refl }
kept-after_first (Some OptRefused) x = record { deadlines = refl; due = refl; channels = refl; tries = refl }
kept-after_first (Some (Reply outcome)) x = record { deadlines = refl; due = refl; channels = refl; tries = refl }

kept-stalls : (x : Scene) → IsKept x (stalls x)
kept-stalls x = by (first_failure x.traffic.inbox)
  where
    by : (f : Option ChannelFailure) → IsKept x (option_map_or (stalls_on x) f (with_to_do todo.GoOn x))
    by None = record { deadlines = refl; due = refl; channels = refl; tries = refl }
    by (Some f) = record { deadlines = refl; due = refl; channels = refl; tries = refl }

kept-fails : (x : Scene) → IsKept x (fails x)
kept-fails x = by (first_failure x.traffic.inbox)
  where
    after : (f : ChannelFailure) (stream : Bool) → IsKept x (after_failed stream (act_on (Fail f.channel) [] x))
    after f true =
        let k = kept-act (Fail f.channel) [] x tt in
        record { deadlines = k.deadlines; due = k.due; channels = k.channels; tries = k.tries }
    after f false =
        let k = kept-act (Fail f.channel) [] x tt in
        record { deadlines = k.deadlines; due = k.due; channels = k.channels; tries = k.tries }

    by : (f : Option ChannelFailure) → IsKept x (option_map_or (fails_on x) f (with_to_do todo.GoOn x))
    by None = record { deadlines = refl; due = refl; channels = refl; tries = refl }
    by (Some f) = after f (is_stream f.channel x.traffic.shared.channels)

kept-expires : (x : Scene) → IsKept x (expires x)
kept-expires x =
    let k = kept-act Expire [] x tt in
    record { deadlines = k.deadlines; due = k.due; channels = k.channels; tries = k.tries }

kept-frees : (x : Scene) → IsKept x (frees x)
kept-frees x = by (is_some (wanted (changed freed x.current.entry.flying.flight).transaction))
  where
    by : (wants : Bool) → IsKept x (cond {A = Scene} wants
        (record {
          traffic = x.traffic;
          current = then_do todo.GoOn (changing (changed freed) x.current);
        })
        (record {
          traffic = record x.traffic { table = without_blocked x.current.number x.traffic.table };
          current = then_do todo.GoOn (changing (changed freed) x.current);
        }))
    by true = record { deadlines = refl; due = refl; channels = refl; tries = refl }
    by false = record { deadlines = refl; due = refl; channels = refl; tries = refl }

kept-doubts : (x : Scene) → IsKept x (doubts x)
kept-doubts x = by (first_message x.traffic.inbox)
  where
    by : (m : Option MessageValue) → IsKept x (record {
      traffic = option_map_or (doubts_message x.traffic) m x.traffic;
      current = then_do todo.GoOn x.current;
    })
    by None = record { deadlines = refl; due = refl; channels = refl; tries = refl }
    by (Some m) = record { deadlines = refl; due = refl; channels = refl; tries = refl }

kept-by : (x y z : Scene) → y ≡ z → IsKept x z → IsKept x y
kept-by x y z is w = subst (λ (v : Scene). IsKept x v) (sym is) w

-- a round changes no try
kept-begins : (place : ℕ) (x y : Scene) → BeginsRoundIn place x y
    → y.current.entry.flying.tries ≡ x.current.entry.flying.tries
kept-begins place x y is = by (list_at x.current.entry.asked.0 x.traffic.groups) is.begins
  where
    by : (l : Option GroupListState)
        → BeginsWith x.traffic.rules.strategy (round_of place x) l x.current.entry.flying y.current.entry.flying
        → y.current.entry.flying.tries ≡ x.current.entry.flying.tries
    by None same = ap (λ (f : FlyingState). f.tries) same
    by (Some l) round = ap (λ (f : FlyingState). f.tries) round.begun

-- but for a try that leaves, one that is sent, and a deadline
abbrev pub IsOrdinary : Doing → Type 0
IsOrdinary Quits = ⊥
IsOrdinary (Leaves place) = ⊥
IsOrdinary Sends = ⊥
IsOrdinary (Dates due) = ⊥
IsOrdinary other = Unit {0}

pub kept-done : (what : Doing) (x y : Scene) → IsDone what x y → IsOrdinary what → IsKept x y
kept-done Hears x y is o =
    kept-by x y (hears x) is
    (kept-then x (hears_first x) (hears x) (kept-hears_first x) (kept-after_first (heard_of_first x) (hears_first x)))
kept-done Doubts x y is o = kept-by x y (doubts x) is (kept-doubts x)
kept-done Stalls x y is o = kept-by x y (stalls x) is (kept-stalls x)
kept-done Fails x y is o = kept-by x y (fails x) is (kept-fails x)
kept-done Quits x y is o = absurd o
kept-done Expires x y is o = kept-by x y (expires x) is (kept-expires x)
kept-done Frees x y is o = kept-by x y (frees x) is (kept-frees x)
kept-done (Leaves place) x y is o = absurd o
kept-done Draws x y is o = kept-by x y (draws x) is (record { deadlines = refl; due = refl; channels = refl; tries = refl })
kept-done (BeginsRound place) x y is o =
    kept-by x y (with_round_parts place x y.current.entry.flying) is.after
    (record { deadlines = refl; due = refl; channels = refl; tries = kept-begins place x y is })
kept-done GivesUp x y is o = kept-by x y (gives_up x) is (record { deadlines = refl; due = refl; channels = refl; tries = refl })
kept-done Blocks x y is o = kept-by x y (blocks x) is (record { deadlines = refl; due = refl; channels = refl; tries = refl })
kept-done Sends x y is o = absurd o
kept-done (Dates due) x y is o = absurd o
kept-done PutsBack x y is o = kept-by x y x is (kept-self x)
kept-done Refused x y is o = kept-by x y x is (kept-self x)
kept-done Ends x y is o = kept-by x y x is (kept-self x)
kept-done Rests x y is o = kept-by x y x is (kept-self x)

-- ---- the deadlines, with all but a new one

pub record IsDated (x y : Scene) : Type 0 where
  pub deadlines : y.traffic.table.deadlines ≡ x.traffic.table.deadlines
  pub due : y.current.entry.due ≡ x.current.entry.due

dated-self : (x : Scene) → IsDated x x
dated-self x = record { deadlines = refl; due = refl }

dated-by : (x y z : Scene) → y ≡ z → IsDated x z → IsDated x y
dated-by x y z is w = subst (λ (v : Scene). IsDated x v) (sym is) w

dated-leave_at : (place : ℕ) (x : Scene) → IsDated x (leave_at place x)
dated-leave_at place x = by (try_at_place x.current.entry.flying place)
  where
    by : (one : Option SentTry) → IsDated x (option_map_or (leaving_at place x) one x)
    by None = dated-self x
    by (Some one) = record { deadlines = refl; due = refl }

dated-leaves : (place : ℕ) (x : Scene) → IsDated x (leaves place x)
dated-leaves place x = after (leave_at place x) (dated-leave_at place x) (closed_at place x)
  where
    after : (y : Scene) → IsDated x y → (closed : Option ℕ) → IsDated x (freed_if closed y)
    after y w None = w
    after y w (Some channel) = by (is_empty y.traffic.table.blocked)
      where
        by : (empty : Bool) → IsDated x (record {
          traffic = cond empty y.traffic (record y.traffic { freed = min (y.traffic.freed + 1) (2 ^ 64 - 1) });
          current = y.current;
        })
        by true = record { deadlines = w.deadlines; due = w.due }
        by false = record { deadlines = w.deadlines; due = w.due }

dated-quits : (x : Scene) → IsDated x (quits x)
dated-quits x = by (place_on x)
  where
    after : (y : Scene) → IsDated x y → (closed : Option ℕ) → IsDated x (after_quit closed y)
    after y w None = record { deadlines = w.deadlines; due = w.due }
    after y w (Some channel) = record { deadlines = w.deadlines; due = w.due }

    by : (place : Option ℕ) → IsDated x (option_map_or (quits_at x) place (with_to_do todo.PutBack x))
    by None = record { deadlines = refl; due = refl }
    by (Some place) = after (leave_at place x) (dated-leave_at place x) (closed_at place x)

abbrev pub IsNoDate : Doing → Type 0
IsNoDate (Dates due) = ⊥
IsNoDate other = Unit {0}

pub dated-done : (what : Doing) (x y : Scene) → IsDone what x y → IsNoDate what → IsDated x y
dated-done Quits x y is o = dated-by x y (quits x) is (dated-quits x)
dated-done (Leaves place) x y is o = dated-by x y (leaves place x) is (dated-leaves place x)
dated-done Sends x y is o = dated-by x y (sends x) is (record { deadlines = refl; due = refl })
dated-done (Dates due) x y is o = absurd o
dated-done Hears x y is o =
    let k = kept-done Hears x y is tt in record { deadlines = k.deadlines; due = k.due }
dated-done Doubts x y is o =
    let k = kept-done Doubts x y is tt in record { deadlines = k.deadlines; due = k.due }
dated-done Stalls x y is o =
    let k = kept-done Stalls x y is tt in record { deadlines = k.deadlines; due = k.due }
dated-done Fails x y is o =
    let k = kept-done Fails x y is tt in record { deadlines = k.deadlines; due = k.due }
dated-done Expires x y is o =
    let k = kept-done Expires x y is tt in record { deadlines = k.deadlines; due = k.due }
dated-done Frees x y is o =
    let k = kept-done Frees x y is tt in record { deadlines = k.deadlines; due = k.due }
dated-done Draws x y is o =
    let k = kept-done Draws x y is tt in record { deadlines = k.deadlines; due = k.due }
dated-done (BeginsRound place) x y is o =
    let k = kept-done (BeginsRound place) x y is tt in record { deadlines = k.deadlines; due = k.due }
dated-done GivesUp x y is o =
    let k = kept-done GivesUp x y is tt in record { deadlines = k.deadlines; due = k.due }
dated-done Blocks x y is o =
    let k = kept-done Blocks x y is tt in record { deadlines = k.deadlines; due = k.due }
dated-done PutsBack x y is o =
    let k = kept-done PutsBack x y is tt in record { deadlines = k.deadlines; due = k.due }
dated-done Refused x y is o =
    let k = kept-done Refused x y is tt in record { deadlines = k.deadlines; due = k.due }
dated-done Ends x y is o =
    let k = kept-done Ends x y is tt in record { deadlines = k.deadlines; due = k.due }
dated-done Rests x y is o =
    let k = kept-done Rests x y is tt in record { deadlines = k.deadlines; due = k.due }
