-- A pool, whatever happens: what it has in hand came while its channel was open, each try of a transaction was sent, or
-- goes out next, and the reply that is kept of it is of octets that came and were believed.
use Rattle.std.proofs.Common.{◌≡◌, ℕ, ◌+◌, ◌-◌, ◌^◌, Bool, true, false, cond, List, [], ◌∷◌, ◌++◌, min, refl, ap, sym, subst, ◌∙◌, inl}
use Rattle.std.specs.Prelude.{Option, None, Some, IfSome}
use Rattle.std.specs.declared.cmp.Ordering.{Ordering}
use Rattle.std.specs.declared.cmp.Ordering.TheVariants.{Less, Equal, Greater}
use Rattle.std.specs.Ordering.{nat_cmp, is_eq, match_ordering}
use Rattle.std.specs.List.{AllByRecursion}
use Rattle.std.specs.Map.{lookup, remove_entry}
use Rattle.std.specs.BTreeMap.{insert_entry, is_at}
use Rattle.std.specs.Option.{is_some, option_map, option_map_or, option_and_then}
use Rattle.hickory_resolver_askers.specs.Askers.{WaitingValue, joiner, to_admit, place_for}
use Rattle.hickory_resolver_askers.specs.Askers as ask
use Rattle.hickory_resolver_flights.specs.Flights.{FlightState, heard, heard_as, heard_by, changed}
use Rattle.hickory_resolver_flights.specs.declared.heard.Heard.{Heard}
use Rattle.hickory_resolver_flights.specs.declared.heard.Heard.TheVariants.{Nothing, OtherLetters, OptRefused, Reply}
use Rattle.hickory_resolver_steps.specs.Ending.{try_at_place}
use Rattle.hickory_resolver_steps.specs.Steps.{Parts, FlyingState, sent, out}
use Rattle.hickory_resolver_steps.specs.declared.flying.SentTry.{SentTry}
use Rattle.hickory_resolver_transactions.specs.Transaction.{TransactionState, wanted, with_round, failed, expired, blocked, freed, without_oldest, try_at}
use Rattle.hickory_resolver_transactions.specs.declared.candidate.Try.{Try}
use Rattle.hickory_resolver_tries.specs.Belief.{belief_of}
use Rattle.hickory_resolver_tries.specs.declared.belief.Belief.{Belief}
use Rattle.hickory_resolver_tries.specs.declared.belief.Belief.TheVariants as belief
use Rattle.hickory_resolver_tries.specs.declared.pool_question.PoolQuestion.{PoolQuestion}
use Rattle.hickory_resolver_traffic.specs.Acting.{Acted, acted, acted_with, acted_on, value_with, nothing_acted, parts_of, step_of, with_flight}
use Rattle.hickory_resolver_traffic.specs.Doing.{Scene, IsDone, act_on, before_act, with_acted, moment_of, hears_octets, id_of, after_first, heard_of_first, hears_first, hears, doubts_message, doubts_first, doubts, after_failed, fails_on, fails, stalls_on, stalls, leave_at, leaving_at, closed_at, freed_if, one_freed, leaves, is_empty, quits_at, quits, place_on, after_quit, with_to_do, then_do, with_inbox, changing, expires, frees, draws, with_round_parts, gives_up, blocks, sends, outgoing_of, with_outgoing, dates, is_stream, BeginsWith, round_of}
use Rattle.hickory_resolver_traffic.specs.Groups.{GroupListState, list_in, list_at}
use Rattle.hickory_resolver_traffic.specs.Inbox.{InboxState, MessageValue, first_message, first_failure, without_message, without_failure, with_failure}
use Rattle.hickory_resolver_traffic.specs.Table.{CurrentState, EntryState, entry_at, without_blocked}
use Rattle.hickory_resolver_traffic.specs.Tasks.{task_of, after_task, outgoing_task, opened_outgoing, came_in, ran_out, closed, freed_by, freed_by_first, without_taken, taken_up, took_up, did_open, did_write, sent_of, opening_of, ended}
use Rattle.hickory_resolver_traffic.specs.Tasks as tasks
use Rattle.hickory_resolver_traffic.specs.Traffic.{TrafficState, OutgoingValue, came_on}
use Rattle.hickory_resolver_traffic.specs.Openings.{OpeningValue}
use Rattle.hickory_resolver_traffic.specs.declared.acting.ServerAct.{ServerAct}
use Rattle.hickory_resolver_traffic.specs.declared.acting.ServerAct.TheVariants.{Hear, Fail, Expire, Send}
use Rattle.hickory_resolver_traffic.specs.declared.acting.Moment.{Moment}
use Rattle.hickory_resolver_traffic.specs.declared.doing.Doing.{Doing}
use Rattle.hickory_resolver_traffic.specs.declared.doing.Doing.TheVariants.{Hears, Doubts, Stalls, Fails, Quits, PutsBack, Expires, Frees, Refused, Leaves, Ends, Draws, BeginsRound, GivesUp, Blocks, Sends, Dates, Rests}
use Rattle.hickory_resolver_traffic.specs.declared.entry.ToDo.{ToDo}
use Rattle.hickory_resolver_traffic.specs.declared.entry.ToDo.TheVariants.{GoOn, PutBack}
use Rattle.hickory_resolver_traffic.specs.declared.inbox.ChannelFailure.{ChannelFailure}
use Rattle.hickory_resolver_traffic.specs.declared.inbox.Failure.{Failure}
use Rattle.hickory_resolver_traffic.specs.declared.inbox.Failure.TheVariants as failure
use Rattle.hickory_resolver_traffic.specs.declared.starting.Did.TheVariants as done
use Rattle.hickory_resolver_traffic.specs.declared.tasks.Task.{Task}
use Rattle.hickory_resolver_traffic.specs.declared.tasks.Task.TheVariants as task
use Rattle.hickory_resolver_pool.specs.Pool.{current_after}
use Rattle.hickory_resolver_pool_theorems.specs.Runs.{Happening}
use Rattle.hickory_resolver_pool_theorems.specs.Wire.{CameOn}
use Rattle.hickory_resolver_pool_theorems.proofs.Tries.{sent-failed, sent-blocked, sent-freed, sent-oldest, sent-round, sent-expired}
use Rattle.hickory_resolver_pool_theorems.proofs.Best.{tells-failed, tells-blocked, tells-freed, tells-oldest, tells-round, tells-expired}
use Rattle.hickory_resolver_transactions.specs.Laws.{round_begins, channel_failed, no_channel, channel_free, oldest_given_up, time_passed}
use Rattle.hickory_resolver_pool_theorems.proofs.Causes.{made-next}
use Rattle.hickory_resolver_pool_theorems.proofs.Boxes.{IsBox, box-message, box-without_message, box-failures, box-without_stream, box-cut}
use Rattle.hickory_resolver_pool_theorems.proofs.Flights.{IsHeld, KeepsBest, Was, held-as, held-changed, held-heard}
use Rattle.hickory_resolver_pool_theorems.proofs.Keys.{at-is}
use Rattle.hickory_resolver_pool_theorems.proofs.Sendings.{Sent, IsFlying, flying-sent}

abbrev pub IsGood : Type 1
IsGood = ℕ → PoolQuestion → Try → Type 0

abbrev pub IsEntry : IsGood → List Happening → ℕ → EntryState → Type 0
IsEntry P past n e = IsFlying P past n e.asked.1 e.flying

abbrev pub IsEntryAt : IsGood → List Happening → ℕ × EntryState → Type 0
IsEntryAt P past p = IsEntry P past p.0 p.1

abbrev pub IsCurrent : IsGood → List Happening → CurrentState → Type 0
IsCurrent P past c = IsEntry P past c.number c.entry

pub record IsTraffic (P : IsGood) (past : List Happening) (t : TrafficState) : Type 0 where
  pub box : IsBox past t.inbox
  pub table : AllByRecursion (IsEntryAt P past) t.table.entries

pub record IsScene (P : IsGood) (past : List Happening) (x : Scene) : Type 0 where
  pub traffic : IsTraffic P past x.traffic
  pub current : IsCurrent P past x.current

-- ---- the table

module _ (P : IsGood) (past : List Happening) where
  entry-at : (n m : ℕ) (e : EntryState) → is_at (nat_cmp n) m ≡ true → IsEntry P past m e → IsEntry P past n e
  entry-at n m e same w = subst (λ (k : ℕ). IsEntry P past k e) (sym (at-is n m same)) w

  entry-for : (n m : ℕ) (e : EntryState) → is_at (nat_cmp n) m ≡ true → IsEntry P past n e → IsEntry P past m e
  entry-for n m e same w = subst (λ (k : ℕ). IsEntry P past k e) (at-is n m same) w

  pub table-inserted : (n : ℕ) (e : EntryState) (es : List (ℕ × EntryState)) → AllByRecursion (IsEntryAt P past) es
      → IsEntry P past n e → AllByRecursion (IsEntryAt P past) (insert_entry nat_cmp es n e)
  table-inserted n e [] all w = (w, tt)
  table-inserted n e (x ∷ xs) all w = by (nat_cmp n x.0) refl (table-inserted n e xs all.1 w)
    where
      by : (o : Ordering) → nat_cmp n x.0 ≡ o → AllByRecursion (IsEntryAt P past) (insert_entry nat_cmp xs n e)
          → AllByRecursion (IsEntryAt P past) (match_ordering o ((n, e) ∷ x ∷ xs) ((x.0, e) ∷ xs) (x ∷ insert_entry nat_cmp xs n e))
      by Less is more = (w, all)
      by Equal is more = (entry-for n x.0 e (ap is_eq is) w, all.1)
      by Greater is more = (all.0, more)

  pub table-removed : (test : ℕ → Bool) (es : List (ℕ × EntryState)) → AllByRecursion (IsEntryAt P past) es
      → AllByRecursion (IsEntryAt P past) (remove_entry test es)
  table-removed test [] all = tt
  table-removed test (x ∷ xs) all = by (test x.0) (table-removed test xs all.1)
    where
      by : (b : Bool) → AllByRecursion (IsEntryAt P past) (remove_entry test xs)
          → AllByRecursion (IsEntryAt P past) (cond b xs (x ∷ remove_entry test xs))
      by true more = all.1
      by false more = (all.0, more)

  pub table-found : (n : ℕ) (e : EntryState) (es : List (ℕ × EntryState)) → AllByRecursion (IsEntryAt P past) es
      → lookup (is_at (nat_cmp n)) es ≡ Some e → IsEntry P past n e
  table-found n e [] all h = absurd cc
  table-found n e (x ∷ xs) all h = by (is_at (nat_cmp n) x.0) refl (table-found n e xs all.1) h
    where
      by : (b : Bool) → is_at (nat_cmp n) x.0 ≡ b → (lookup (is_at (nat_cmp n)) xs ≡ Some e → IsEntry P past n e)
          → cond b (Some x.1) (lookup (is_at (nat_cmp n)) xs) ≡ Some e → IsEntry P past n e
      by true is more g =
          let same : x.1 ≡ e = cc in subst (λ (y : EntryState). IsEntry P past n y) same (entry-at n x.0 x.1 is all.0)
      by false is more g = more g

-- ---- a question in flight

same-heard_as : (b : Belief) (channel id : ℕ) (t : Try) (octets : List ℕ) (f : FlightState)
    → (heard_as b channel id t octets f).question ≡ f.question
same-heard_as belief.Believed channel id t octets f = refl
same-heard_as belief.OtherLetters channel id t octets f = refl
same-heard_as belief.OptRefused channel id t octets f = refl
same-heard_as belief.NotBelieved channel id t octets f = refl

same-heard : (channel id : ℕ) (octets : List ℕ) (f : FlightState) → (heard channel id octets f).question ≡ f.question
same-heard channel id octets f = by (try_at channel id f.transaction)
  where
    by : (found : Option Try) → (option_map_or (heard_by channel id octets f) found f).question ≡ f.question
    by None = refl
    by (Some t) = same-heard_as (belief_of f.question t.form octets) channel id t octets f

module _ (past : List Happening) where
  abbrev pub W : IsGood
  W n q t = Was past n q t

  module _ (n : ℕ) (q : PoolQuestion) (f : FlyingState) (w : IsFlying W past n q f) where
    abbrev p : PoolQuestion
    p = f.flight.question

    abbrev tr : TransactionState
    tr = f.flight.transaction

    abbrev IsAfter : (TransactionState → TransactionState) → Type 0
    IsAfter change = IsFlying W past n q (with_flight f (changed change f.flight))

    flying-failed : (channel : ℕ) → IsAfter (failed channel)
    flying-failed channel = record {
      flight = held-changed (W n p) past n f.flight (failed channel) w.flight
          (λ a. sent-failed (W n p) tr a channel)
          (λ k. tells-failed (KeepsBest past n p f.flight.kept) tt tt tr k channel)
          (λ m. made-next tr (channel_failed channel) m);
      question = w.question;
    }

    flying-blocked : (channel : ℕ) → IsAfter (blocked channel)
    flying-blocked channel = record {
      flight = held-changed (W n p) past n f.flight (blocked channel) w.flight
          (λ a. sent-blocked (W n p) tr a channel)
          (λ k. tells-blocked (KeepsBest past n p f.flight.kept) tt tt tr k channel)
          (λ m. made-next tr (no_channel channel) m);
      question = w.question;
    }

    flying-freed : IsAfter freed
    flying-freed = record {
      flight = held-changed (W n p) past n f.flight freed w.flight
          (λ a. sent-freed (W n p) tr a)
          (λ k. tells-freed (KeepsBest past n p f.flight.kept) tt tt tr k)
          (λ m. made-next tr channel_free m);
      question = w.question;
    }

    flying-oldest : IsAfter without_oldest
    flying-oldest = record {
      flight = held-changed (W n p) past n f.flight without_oldest w.flight
          (λ a. sent-oldest (W n p) tr a)
          (λ k. tells-oldest (KeepsBest past n p f.flight.kept) tt tt tr k)
          (λ m. made-next tr oldest_given_up m);
      question = w.question;
    }

    flying-expired : (now : ℕ) → IsAfter (expired now)
    flying-expired now = record {
      flight = held-changed (W n p) past n f.flight (expired now) w.flight
          (λ a. sent-expired (W n p) tr a now)
          (λ k. tells-expired (KeepsBest past n p f.flight.kept) tt tt tr k now)
          (λ m. made-next tr (time_passed now) m);
      question = w.question;
    }

    flying-round : (order : List ℕ) → IsAfter (with_round order)
    flying-round order = record {
      flight = held-changed (W n p) past n f.flight (with_round order) w.flight
          (λ a. sent-round (W n p) tr a order)
          (λ k. tells-round (KeepsBest past n p f.flight.kept) tt tt tr k order)
          (λ m. made-next tr (round_begins order) m);
      question = w.question;
    }

    flying-heard : (channel id : ℕ) (octets : List ℕ) → CameOn past channel octets
        → IsFlying W past n q (with_flight f (heard channel id octets f.flight))
    flying-heard channel id octets came_on =
        let same = same-heard channel id octets f.flight in
        record {
          flight = subst (λ (x : PoolQuestion). IsHeld (W n x) past n (heard channel id octets f.flight)) (sym same)
              (held-heard past n f.flight w.flight channel id octets came_on);
          question = same ∙ w.question;
        }

  -- ---- what is done with the transaction that is worked on

  acted-by : (Q : FlyingState → Type 0) (what : ServerAct) (n : ℕ) (m : Moment) (octets : List ℕ) (list : ℕ) (a : Acted)
      → Q a.flying → ((l : GroupListState) → Q (acted what n m octets (parts_of a.shared a.flying l)).flying)
      → Q (acted_on what n m octets list a).flying
  acted-by Q what n m octets list a before after = by (list_in list a.lists)
    where
      by : (l : Option GroupListState) → Q (option_map_or (acted_with what n m octets list a) l a).flying
      by None = before
      by (Some l) = after l

  abbrev IsOver : Scene → Type 0
  IsOver x = IsScene W past x

  module _ (x : Scene) (w : IsOver x) where
    abbrev c : CurrentState
    c = x.current

    abbrev IsFlown : FlyingState → Type 0
    IsFlown f = IsFlying W past c.number c.entry.asked.1 f

    traffic-same : (t : TrafficState) → t.inbox ≡ x.traffic.inbox → t.table.entries ≡ x.traffic.table.entries
        → IsTraffic W past t
    traffic-same t box table = record {
      box = subst (λ (i : InboxState). IsBox past i) (sym box) w.traffic.box;
      table = subst (λ (es : List (ℕ × EntryState)). AllByRecursion (IsEntryAt W past) es) (sym table) w.traffic.table;
    }

    scene-heard : (channel id : ℕ) (octets : List ℕ) → CameOn past channel octets
        → IsOver (act_on (Hear channel id) octets x)
    scene-heard channel id octets came_on = record {
      traffic = record { box = w.traffic.box; table = w.traffic.table };
      current = acted-by IsFlown (Hear channel id) c.number (moment_of x.traffic) octets c.entry.asked.0 (before_act x)
          w.current (λ l. flying-heard c.number c.entry.asked.1 c.entry.flying w.current channel id octets came_on);
    }

    scene-failed : (channel : ℕ) → IsOver (act_on (Fail channel) [] x)
    scene-failed channel = record {
      traffic = record { box = w.traffic.box; table = w.traffic.table };
      current = acted-by IsFlown (Fail channel) c.number (moment_of x.traffic) [] c.entry.asked.0 (before_act x)
          w.current (λ l. flying-failed c.number c.entry.asked.1 c.entry.flying w.current channel);
    }

    scene-expired : IsOver (act_on Expire [] x)
    scene-expired = record {
      traffic = record { box = w.traffic.box; table = w.traffic.table };
      current = acted-by IsFlown Expire c.number (moment_of x.traffic) [] c.entry.asked.0 (before_act x)
          w.current (λ l. flying-expired c.number c.entry.asked.1 c.entry.flying w.current x.traffic.clock);
    }

    scene-to_do : (to_do : ToDo) → IsOver (with_to_do to_do x)
    scene-to_do to_do = record { traffic = w.traffic; current = w.current }

    scene-read : IsOver (with_inbox without_message x)
    scene-read = record {
      traffic = record { box = box-without_message past x.traffic.inbox w.traffic.box; table = w.traffic.table };
      current = w.current;
    }

    scene-hears_first : IsOver (hears_first x)
    scene-hears_first = by (first_message x.traffic.inbox) refl
      where
        by : (m : Option MessageValue) → first_message x.traffic.inbox ≡ m
            → IsOver (option_map_or (hears_octets x) m x)
        by None e = w
        by (Some m) e =
            scene-heard m.channel (id_of m.octets) m.octets (box-message past x.traffic.inbox m w.traffic.box e)

    scene-leave_at : (place : ℕ) → IsOver (leave_at place x)
    scene-leave_at place = by (try_at_place c.entry.flying place)
      where
        by : (one : Option SentTry) → IsOver (option_map_or (leaving_at place x) one x)
        by None = w
        by (Some one) = record {
          traffic = record { box = w.traffic.box; table = w.traffic.table };
          current = record { flight = w.current.flight; question = w.current.question };
        }

    scene-frees : IsOver (frees x)
    scene-frees = by (is_some (wanted (changed freed c.entry.flying.flight).transaction))
      where
        own : IsFlown (with_flight c.entry.flying (changed freed c.entry.flying.flight))
        own = flying-freed c.number c.entry.asked.1 c.entry.flying w.current

        by : (wants : Bool) → IsOver (cond wants
            (record {
              traffic = x.traffic;
              current = then_do GoOn (changing (changed freed) x.current);
            })
            (record {
              traffic = record x.traffic { table = without_blocked x.current.number x.traffic.table };
              current = then_do GoOn (changing (changed freed) x.current);
            }))
        by true = record { traffic = record { box = w.traffic.box; table = w.traffic.table }; current = own }
        by false = record { traffic = record { box = w.traffic.box; table = w.traffic.table }; current = own }

    scene-gives_up : IsOver (gives_up x)
    scene-gives_up = record {
      traffic = record { box = w.traffic.box; table = w.traffic.table };
      current = flying-oldest c.number c.entry.asked.1 c.entry.flying w.current;
    }

    scene-stalls : IsOver (stalls x)
    scene-stalls = by (first_failure x.traffic.inbox)
      where
        by : (f : Option ChannelFailure) → IsOver (option_map_or (stalls_on x) f (with_to_do GoOn x))
        by None = scene-to_do GoOn
        by (Some f) = record {
          traffic = record { box = w.traffic.box; table = w.traffic.table };
          current = flying-blocked c.number c.entry.asked.1 c.entry.flying w.current f.channel;
        }

    scene-round : (place : ℕ) (f : FlyingState)
        → BeginsWith x.traffic.rules.strategy (round_of place x) (list_at c.entry.asked.0 x.traffic.groups) c.entry.flying f
        → IsOver (with_round_parts place x f)
    scene-round place f begins = by (list_at c.entry.asked.0 x.traffic.groups) begins
      where
        by : (l : Option GroupListState) → BeginsWith x.traffic.rules.strategy (round_of place x) l c.entry.flying f
            → IsOver (with_round_parts place x f)
        by None same = record {
          traffic = record { box = w.traffic.box; table = w.traffic.table };
          current = subst IsFlown (sym same) w.current;
        }
        by (Some l) round = record {
          traffic = record { box = w.traffic.box; table = w.traffic.table };
          current = subst IsFlown (sym round.begun)
              (flying-round c.number c.entry.asked.1 c.entry.flying w.current round.order);
        }

  scene-after_first : (heard : Option Heard) (x : Scene) → IsOver x → IsOver (after_first heard x)
  scene-after_first None x w = scene-to_do x w GoOn
  scene-after_first (Some Nothing) x w = record { traffic = w.traffic; current = w.current }
  scene-after_first (Some OtherLetters) x w =
      let v = scene-read x w in record { traffic = v.traffic; current = v.current }
  scene-after_first (Some OptRefused) x w =
      let v = scene-read x w in record { traffic = v.traffic; current = v.current }
  scene-after_first (Some (Reply outcome)) x w =
      let v = scene-read x w in record { traffic = v.traffic; current = v.current }

  traffic-doubts : (P : IsGood) (t : TrafficState) → IsTraffic P past t → IsTraffic P past (doubts_first t)
  traffic-doubts P t w = by (first_message t.inbox)
    where
      box : (m : MessageValue) (stream : Bool) → IsBox past (cond stream
          (without_message (with_failure (record { channel = m.channel; why = failure.Closed }) t.inbox))
          (without_message t.inbox))
      box m true =
          let f : ChannelFailure = record { channel = m.channel; why = failure.Closed } in
          box-without_message past (with_failure f t.inbox) (box-failures past t.inbox w.box (t.inbox.failures ++ f ∷ []))
      box m false = box-without_message past t.inbox w.box

      by : (m : Option MessageValue) → IsTraffic P past (option_map_or (doubts_message t) m t)
      by None = w
      by (Some m) = record { box = box m (is_stream m.channel t.shared.channels); table = w.table }

  scene-fails : (x : Scene) → IsOver x → IsOver (fails x)
  scene-fails x w = by (first_failure x.traffic.inbox)
    where
      after : (y : Scene) → IsOver y → (stream : Bool) → IsOver (after_failed stream y)
      after y v true = record { traffic = v.traffic; current = v.current }
      after y v false = record {
        traffic = record {
          box = box-failures past y.traffic.inbox v.traffic.box (without_failure y.traffic.inbox).failures;
          table = v.traffic.table;
        };
        current = v.current;
      }

      by : (f : Option ChannelFailure) → IsOver (option_map_or (fails_on x) f (with_to_do GoOn x))
      by None = record { traffic = w.traffic; current = w.current }
      by (Some f) =
          after (act_on (Fail f.channel) [] x) (scene-failed x w f.channel) (is_stream f.channel x.traffic.shared.channels)

  traffic-one_freed : (P : IsGood) (t : TrafficState) → IsTraffic P past t → IsTraffic P past (one_freed t)
  traffic-one_freed P t w = by (is_empty t.table.blocked)
    where
      by : (empty : Bool) → IsTraffic P past (cond empty t (record t { freed = min (t.freed + 1) (2 ^ 64 - 1) }))
      by true = w
      by false = record { box = w.box; table = w.table }

  scene-freed_if : (closed : Option ℕ) (x : Scene) → IsOver x → IsOver (freed_if closed x)
  scene-freed_if None x w = w
  scene-freed_if (Some channel) x w = record { traffic = traffic-one_freed W x.traffic w.traffic; current = w.current }

  scene-quits : (x : Scene) → IsOver x → IsOver (quits x)
  scene-quits x w = by (place_on x)
    where
      after : (y : Scene) → IsOver y → (closed : Option ℕ) → IsOver (after_quit closed y)
      after y v None = record { traffic = v.traffic; current = v.current }
      after y v (Some channel) = record {
        traffic = record {
          box = box-failures past y.traffic.inbox v.traffic.box (without_failure y.traffic.inbox).failures;
          table = v.traffic.table;
        };
        current = v.current;
      }

      by : (place : Option ℕ) → IsOver (option_map_or (quits_at x) place (with_to_do PutBack x))
      by None = record { traffic = w.traffic; current = w.current }
      by (Some place) = after (leave_at place x) (scene-leave_at x w place) (closed_at place x)

  -- ---- what is sent goes out next

  abbrev IsOverSent : Scene → Type 0
  IsOverSent y = IsScene (Sent past y.traffic.outgoing y.traffic.shared.channels) past y

  flying-sent_as : (P Q : IsGood) (n : ℕ) (q : PoolQuestion) (f : FlyingState)
      → ((m : ℕ) (p : PoolQuestion) (t : Try) → P m p t → Q m p t) → IsFlying P past n q f → IsFlying Q past n q f
  flying-sent_as P Q n q f gives w = record {
    flight = held-as (P n f.flight.question) (Q n f.flight.question) past n f.flight
        (λ t k. gives n f.flight.question t k) w.flight;
    question = w.question;
  }

  table-sent_as : (P Q : IsGood) → ((m : ℕ) (p : PoolQuestion) (t : Try) → P m p t → Q m p t)
      → (es : List (ℕ × EntryState)) → AllByRecursion (IsEntryAt P past) es → AllByRecursion (IsEntryAt Q past) es
  table-sent_as P Q gives [] all = tt
  table-sent_as P Q gives (e ∷ es) all =
      (flying-sent_as P Q e.0 e.1.asked.1 e.1.flying gives all.0, table-sent_as P Q gives es all.1)

  pub traffic-sent_as : (P Q : IsGood) → ((m : ℕ) (p : PoolQuestion) (t : Try) → P m p t → Q m p t)
      → (t : TrafficState) → IsTraffic P past t → IsTraffic Q past t
  traffic-sent_as P Q gives t w = record { box = w.box; table = table-sent_as P Q gives t.table.entries w.table }

  pub current-sent_as : (P Q : IsGood) → ((m : ℕ) (p : PoolQuestion) (t : Try) → P m p t → Q m p t)
      → (c : Option CurrentState) → IfSome c (IsCurrent P past) → IfSome c (IsCurrent Q past)
  current-sent_as P Q gives None w = tt
  current-sent_as P Q gives (Some c) w = flying-sent_as P Q c.number c.entry.asked.1 c.entry.flying gives w

  scene-sent : (y : Scene) → IsOver y → IsOverSent y
  scene-sent y w = record {
    traffic = traffic-sent_as W (Sent past y.traffic.outgoing y.traffic.shared.channels) (λ m p t k. inl k) y.traffic w.traffic;
    current = flying-sent_as W (Sent past y.traffic.outgoing y.traffic.shared.channels) y.current.number y.current.entry.asked.1
        y.current.entry.flying (λ m p t k. inl k) w.current;
  }

  module _ (x : Scene) (w : IsOver x) where
    abbrev own : ℕ
    own = x.current.number

    abbrev at : Moment
    at = moment_of x.traffic

    abbrev list : ℕ
    list = x.current.entry.asked.0

    sends-with : (l : Option GroupListState)
        → IsOverSent (with_outgoing (option_map_or (value_with Send own at [] (before_act x)) l nothing_acted).sending
        (with_acted x (option_map_or (acted_with Send own at [] list (before_act x)) l (before_act x))))
    sends-with None =
        let none : IsScene W past (with_outgoing None (with_acted x (before_act x))) =
        record {
          traffic = record { box = w.traffic.box; table = w.traffic.table };
          current = record { flight = w.current.flight; question = w.current.question };
        } in
        scene-sent (with_outgoing None (with_acted x (before_act x))) none
    sends-with (Some l) =
        let p : Parts = parts_of x.traffic.shared x.current.entry.flying l in
        let after : Parts = sent (step_of own at) p in
        let next : Option OutgoingValue = option_map (outgoing_of list) (out (step_of own at) p) in
        record {
          traffic = record {
            box = w.traffic.box;
            table = table-sent_as W (Sent past next after.shared.channels) (λ m p t k. inl k) x.traffic.table.entries
                w.traffic.table;
          };
          current = flying-sent past own x.current.entry.asked.1 (step_of own at) p list refl w.current;
        }

    scene-sends : IsOverSent (sends x)
    scene-sends = sends-with (list_in list x.traffic.groups.lists)

  -- ---- all that is done

  scene-by : (x y : Scene) → y ≡ x → IsOver x → IsOver y
  scene-by x y same w = subst (λ (v : Scene). IsOver v) (sym same) w

  -- but for what is sent
  scene-other : (what : Doing) (x y : Scene) → IsDone what x y → (what ≡ Sends → ⊥) → IsOver x → IsOver y
  scene-other Hears x y is other w =
      scene-by (hears x) y is (scene-after_first (heard_of_first x) (hears_first x) (scene-hears_first x w))
  scene-other Doubts x y is other w =
      scene-by (doubts x) y is (record { traffic = traffic-doubts W x.traffic w.traffic; current = w.current })
  scene-other Stalls x y is other w = scene-by (stalls x) y is (scene-stalls x w)
  scene-other Fails x y is other w = scene-by (fails x) y is (scene-fails x w)
  scene-other Quits x y is other w = scene-by (quits x) y is (scene-quits x w)
  scene-other Expires x y is other w =
      let v = scene-expired x w in
      scene-by (expires x) y is (record { traffic = v.traffic; current = v.current })
  scene-other Frees x y is other w = scene-by (frees x) y is (scene-frees x w)
  scene-other (Leaves place) x y is other w =
      scene-by (leaves place x) y is
      (scene-freed_if (closed_at place x) (leave_at place x) (scene-leave_at x w place))
  scene-other Draws x y is other w =
      scene-by (draws x) y is
      (record { traffic = record { box = w.traffic.box; table = w.traffic.table }; current = w.current })
  scene-other (BeginsRound place) x y is other w =
      scene-by (with_round_parts place x y.current.entry.flying) y is.after
      (scene-round x w place y.current.entry.flying is.begins)
  scene-other GivesUp x y is other w = scene-by (gives_up x) y is (scene-gives_up x w)
  scene-other Blocks x y is other w =
      scene-by (blocks x) y is
      (record { traffic = record { box = w.traffic.box; table = w.traffic.table }; current = w.current })
  scene-other Sends x y is other w = absurd (other refl)
  scene-other (Dates due) x y is other w =
      scene-by (dates due x) y is
      (record { traffic = record { box = w.traffic.box; table = w.traffic.table }; current = w.current })
  scene-other PutsBack x y is other w = scene-by x y is w
  scene-other Refused x y is other w = scene-by x y is w
  scene-other Ends x y is other w = scene-by x y is w
  scene-other Rests x y is other w = scene-by x y is w

  pub scene-done : (what : Doing) (x y : Scene) → IsDone what x y → IsOver x → IsOverSent y
  scene-done Sends x y is w = subst (λ (v : Scene). IsOverSent v) (sym is) (scene-sends x w)
  scene-done Hears x y is w = scene-sent y (scene-other Hears x y is (λ e. absurd cc) w)
  scene-done Doubts x y is w = scene-sent y (scene-other Doubts x y is (λ e. absurd cc) w)
  scene-done Stalls x y is w = scene-sent y (scene-other Stalls x y is (λ e. absurd cc) w)
  scene-done Fails x y is w = scene-sent y (scene-other Fails x y is (λ e. absurd cc) w)
  scene-done Quits x y is w = scene-sent y (scene-other Quits x y is (λ e. absurd cc) w)
  scene-done Expires x y is w = scene-sent y (scene-other Expires x y is (λ e. absurd cc) w)
  scene-done Frees x y is w = scene-sent y (scene-other Frees x y is (λ e. absurd cc) w)
  scene-done (Leaves place) x y is w = scene-sent y (scene-other (Leaves place) x y is (λ e. absurd cc) w)
  scene-done Draws x y is w = scene-sent y (scene-other Draws x y is (λ e. absurd cc) w)
  scene-done (BeginsRound place) x y is w = scene-sent y (scene-other (BeginsRound place) x y is (λ e. absurd cc) w)
  scene-done GivesUp x y is w = scene-sent y (scene-other GivesUp x y is (λ e. absurd cc) w)
  scene-done Blocks x y is w = scene-sent y (scene-other Blocks x y is (λ e. absurd cc) w)
  scene-done (Dates due) x y is w = scene-sent y (scene-other (Dates due) x y is (λ e. absurd cc) w)
  scene-done PutsBack x y is w = scene-sent y (scene-other PutsBack x y is (λ e. absurd cc) w)
  scene-done Refused x y is w = scene-sent y (scene-other Refused x y is (λ e. absurd cc) w)
  scene-done Ends x y is w = scene-sent y (scene-other Ends x y is (λ e. absurd cc) w)
  scene-done Rests x y is w = scene-sent y (scene-other Rests x y is (λ e. absurd cc) w)

  -- ---- where no transaction is worked on

  module _ (P : IsGood) where
    traffic-closed : (channel : ℕ) (t : TrafficState) → IsTraffic P past t → IsTraffic P past (closed channel t)
    traffic-closed channel t w = record { box = box-without_stream past t.inbox w.box channel; table = w.table }

    traffic-freed_by_first : (t : TrafficState) → IsTraffic P past t → IsTraffic P past (freed_by_first t)
    traffic-freed_by_first t w = by (first_failure t.inbox)
      where
        why : (f : Failure) → IsTraffic P past (freed_by f t)
        why failure.Local = w
        why failure.Refused = traffic-one_freed P t w
        why failure.Unreachable = traffic-one_freed P t w
        why failure.Closed = traffic-one_freed P t w

        by : (f : Option ChannelFailure) → IsTraffic P past (option_map_or (λ g. freed_by g.why t) f t)
        by None = w
        by (Some f) = why f.why

    traffic-failed_first : (t : TrafficState) → IsTraffic P past t
        → IsTraffic P past (record t { inbox = without_failure t.inbox })
    traffic-failed_first t w = record {
      box = box-failures past t.inbox w.box (without_failure t.inbox).failures;
      table = w.table;
    }

    pub traffic-task : (what : Task) (t : TrafficState) → IsTraffic P past t → IsTraffic P past (after_task what t)
    traffic-task task.Opens t w = record { box = w.box; table = w.table }
    traffic-task task.Writes t w = record { box = w.box; table = w.table }
    traffic-task task.Doubts t w = traffic-doubts P t w
    traffic-task task.PassesBy t w = record { box = box-without_message past t.inbox w.box; table = w.table }
    traffic-task (task.Cuts channel) t w = record { box = box-cut past t.inbox w.box channel; table = w.table }
    traffic-task (task.ClosesFailed channel) t w =
        traffic-failed_first (freed_by_first (closed channel t))
        (traffic-freed_by_first (closed channel t) (traffic-closed channel t w))
    traffic-task task.DropsFailure t w = traffic-failed_first t w
    traffic-task (task.TakesReady n) t w = record {
      box = w.box;
      table = table-removed P past (is_at (nat_cmp n)) t.table.entries w.table;
    }
    traffic-task (task.TakesUp n to_do) t w = record {
      box = w.box;
      table = table-removed P past (is_at (nat_cmp n)) t.table.entries w.table;
    }
    traffic-task (task.Undates due n) t w = record { box = w.box; table = w.table }
    traffic-task (task.Strays n) t w = record { box = w.box; table = w.table }
    traffic-task (task.Unblocks n) t w = record { box = w.box; table = w.table }
    traffic-task (task.ClosesIdle channel) t w =
        traffic-one_freed P (closed channel t) (traffic-closed channel t w)
    traffic-task task.Admits t w = by (to_admit t.askers)
      where
        by : (first : Option (ℕ × WaitingValue)) → IsTraffic P past
            (option_map_or (λ f. without_taken f.0 (record t { askers = ask.admitted t.askers })) first t)
        by None = w
        by (Some first) = record {
          box = w.box;
          table = table-removed P past (is_at (nat_cmp first.0)) t.table.entries w.table;
        }

    -- the transaction that is taken up
    abbrev IsTaken : Option CurrentState → Type 0
    IsTaken c = IfSome c (IsCurrent P past)

    taken-up : (n : ℕ) (to_do : ToDo) (t : TrafficState) → IsTraffic P past t → IsTaken (taken_up n to_do t.table)
    taken-up n to_do t w = by (entry_at n t.table) refl
      where
        by : (e : Option EntryState) → entry_at n t.table ≡ e → IsTaken (option_map (tasks.current_of n to_do) e)
        by None h = tt
        by (Some e) h = table-found P past n e t.table.entries w.table h

    taken-ready : (c : Option CurrentState) (before : Option CurrentState) → IsTaken c → IsTaken before
        → IsTaken (current_after (took_up c) before)
    taken-ready None before w h = h
    taken-ready (Some c) before w h = w

    pub current-did : (what : Task) (t : TrafficState) (before : Option CurrentState) → IsTraffic P past t
        → IsTaken before → IsTaken (current_after (tasks.did what t) before)
    current-did task.Opens t before w h = by (option_and_then (opening_of t) t.outgoing)
      where
        by : (o : Option OpeningValue) → IsTaken (current_after (did_open o) before)
        by None = h
        by (Some o) = h
    current-did task.Writes t before w h = by t.outgoing
      where
        by : (o : Option OutgoingValue) → IsTaken (current_after (did_write o) before)
        by None = h
        by (Some o) = h
    current-did task.Doubts t before w h = h
    current-did task.PassesBy t before w h = h
    current-did (task.Cuts channel) t before w h = h
    current-did (task.ClosesFailed channel) t before w h = h
    current-did task.DropsFailure t before w h = h
    current-did (task.TakesReady n) t before w h =
        taken-ready (taken_up n GoOn t.table) before (taken-up n GoOn t w) h
    current-did (task.TakesUp n to_do) t before w h =
        taken-ready (taken_up n to_do t.table) before (taken-up n to_do t w) h
    current-did (task.Undates due n) t before w h = h
    current-did (task.Strays n) t before w h = h
    current-did (task.Unblocks n) t before w h = h
    current-did (task.ClosesIdle channel) t before w h = h
    current-did task.Admits t before w h = by (to_admit t.askers)
      where
        by : (first : Option (ℕ × WaitingValue)) → IsTaken (current_after
            (option_map_or (λ f. took_up (taken_up f.0 GoOn t.table)) first done.Idle) before)
        by None = h
        by (Some f) = taken-ready (taken_up f.0 GoOn t.table) before (taken-up f.0 GoOn t w) h
