-- What is done with a transaction before it goes on.
use Rattle.std.proofs.Common.{◌≡◌, ◌≤◌, ◌<◌, ◌+◌, ◌-◌, ◌^◌, min, suc, zero, ℕ, Bool, true, false, cond, List, [], ◌∷◌, length, drop, refl, ap, sym, subst, ◌∙◌, true≢false, arith, inl, inr, ◌⊎◌, ltb, ltb-true, leb, leb-true}
use Rattle.std.specs.Prelude.{Option, None, Some, slice_get, position}
use Rattle.std.specs.List.{position_or_len}
use Rattle.std.specs.Option.{is_some, option_map, option_map_or, option_and_then}
use Rattle.std.proofs.lemmas.List.Edits.{length-remove}
use Rattle.std.proofs.lemmas.Option.{slice_get_within}
use Rattle.hickory_resolver_flights.specs.Flights.{changed}
use Rattle.hickory_resolver_flights.specs.declared.heard.Heard.{Heard}
use Rattle.hickory_resolver_flights.specs.declared.heard.Heard.TheVariants.{Nothing, OtherLetters, OptRefused, Reply}
use Rattle.hickory_resolver_steps.specs.Ending.{try_at_place}
use Rattle.hickory_resolver_steps.specs.declared.flying.SentTry.{SentTry}
use Rattle.hickory_resolver_transactions.specs.Transaction.{wanted, freed, next_deadline, expired}
use Rattle.hickory_resolver_traffic.specs.Acting.{acted_with}
use Rattle.hickory_resolver_traffic.specs.Doing.{Scene, IsDone, after_first, heard_of, hears_octets, hears, broken, doubts_message, doubts_first, doubts, fails_on, after_failed, fails, act_on, before_act, with_acted, moment_of, stalls_on, stalls, leaving_at, leave_at, closed_at, freed_if, leaves, quits_at, after_quit, quits, place_on, is_on, with_to_do, expires, frees, then_do, changing, is_stream, is_empty, is_due}
use Rattle.hickory_resolver_traffic.specs.Groups.{GroupListState, list_in}
use Rattle.hickory_resolver_traffic.specs.Inbox.{InboxState, MessageValue, first_message, without_message, first_failure, without_failure, with_failure}
use Rattle.hickory_resolver_traffic.specs.Table.{without_blocked}
use Rattle.hickory_resolver_traffic.specs.Traffic.{TrafficState}
use Rattle.hickory_resolver_traffic.specs.declared.acting.ServerAct.TheVariants.{Fail, Expire}
use Rattle.hickory_resolver_traffic.specs.declared.doing.Doing.{Doing}
use Rattle.hickory_resolver_traffic.specs.declared.doing.Doing.TheVariants as doing
use Rattle.hickory_resolver_traffic.specs.declared.entry.ToDo.TheVariants as todo
use Rattle.hickory_resolver_traffic.specs.declared.inbox.ChannelFailure.{ChannelFailure}
use Rattle.hickory_resolver_pool_theorems.proofs.Budgets.{budget, budget-expired, budget-freed}
use Rattle.hickory_resolver_pool_theorems.proofs.Frames.{kept-done}
use Rattle.hickory_resolver_pool_theorems.proofs.Moves.{cost_of, wants_in, place_in}
use Rattle.hickory_resolver_pool_theorems.proofs.PutAway.{IsFit}
use Rattle.hickory_resolver_pool_theorems.proofs.Weights.{octets_of, came_of, one-less, length-first}
use Rattle.hickory_resolver_pool_theorems.proofs.Whole.{streams-done}

-- ---- a message is heard, or doubted

pub data IsHeard (x y : Scene) : Type 0 where
  is_doubted : y.traffic.inbox ≡ x.traffic.inbox → y.current.to_do ≡ todo.Doubt → IsHeard x y
  is_dropped : y.traffic.inbox ≡ without_message x.traffic.inbox → y.current.to_do ≡ todo.GoOn → IsHeard x y

pub hears-is : (x : Scene) → is_some (first_message x.traffic.inbox) ≡ true → IsHeard x (hears x)
hears-is x some = by (first_message x.traffic.inbox) some
  where
    heard : (m : MessageValue) (h : Heard) → IsHeard x (after_first (Some h) (hears_octets x m))
    heard m Nothing = is_doubted refl refl
    heard m OtherLetters = is_dropped refl refl
    heard m OptRefused = is_dropped refl refl
    heard m (Reply outcome) = is_dropped refl refl

    by : (o : Option MessageValue) → is_some o ≡ true
        → IsHeard x (after_first (option_map (heard_of x) o) (option_map_or (hears_octets x) o x))
    by None h = absurd (true≢false (sym h))
    by (Some m) h = heard m (heard_of x m)

pub doubts-less : (t : TrafficState) → is_some (first_message t.inbox) ≡ true → came_of (doubts_first t).inbox < came_of t.inbox
doubts-less t some = by (first_message t.inbox) some
  where
    less : length (drop 1 t.inbox.messages) + 1 ≡ length t.inbox.messages
    less = one-less t.inbox.messages some

    stream : (m : MessageValue) (b : Bool)
        → came_of (cond b (without_message (with_failure (broken m.channel) t.inbox)) (without_message t.inbox)) < came_of t.inbox
    stream m true = let is = less in omega (arith, is)
    stream m false = let is = less in omega (arith, is)

    by : (o : Option MessageValue) → is_some o ≡ true → came_of (option_map_or (doubts_message t) o t).inbox < came_of t.inbox
    by None h = absurd (true≢false (sym h))
    by (Some m) h = stream m (is_stream m.channel t.shared.channels)

-- ---- no more comes by what is done

dropped-le : {A : Type 0} (xs : List A) → length (drop 1 xs) ≤ length xs
dropped-le [] = omega arith
dropped-le (x ∷ xs) = omega arith

abbrev messages_in : Scene → ℕ
messages_in x = length x.traffic.inbox.messages

messages-hears : (x : Scene) → messages_in (hears x) ≤ messages_in x
messages-hears x = by (first_message x.traffic.inbox)
  where
    heard : (m : MessageValue) (h : Heard) → messages_in (after_first (Some h) (hears_octets x m)) ≤ messages_in x
    heard m Nothing = omega arith
    heard m OtherLetters = dropped-le x.traffic.inbox.messages
    heard m OptRefused = dropped-le x.traffic.inbox.messages
    heard m (Reply outcome) = dropped-le x.traffic.inbox.messages

    by : (o : Option MessageValue)
        → messages_in (after_first (option_map (heard_of x) o) (option_map_or (hears_octets x) o x)) ≤ messages_in x
    by None = omega arith
    by (Some m) = heard m (heard_of x m)

messages-doubts : (x : Scene) → messages_in (doubts x) ≤ messages_in x
messages-doubts x = by (first_message x.traffic.inbox)
  where
    stream : (m : MessageValue) (b : Bool)
        → length (cond b (without_message (with_failure (broken m.channel) x.traffic.inbox)) (without_message x.traffic.inbox)).messages
        ≤ messages_in x
    stream m true = dropped-le x.traffic.inbox.messages
    stream m false = dropped-le x.traffic.inbox.messages

    by : (o : Option MessageValue)
        → length (option_map_or (doubts_message x.traffic) o x.traffic).inbox.messages ≤ messages_in x
    by None = omega arith
    by (Some m) = stream m (is_stream m.channel x.traffic.shared.channels)

messages-stalls : (x : Scene) → messages_in (stalls x) ≤ messages_in x
messages-stalls x = by (first_failure x.traffic.inbox)
  where
    by : (f : Option ChannelFailure) → messages_in (option_map_or (stalls_on x) f (with_to_do todo.GoOn x)) ≤ messages_in x
    by None = omega arith
    by (Some f) = omega arith

messages-fails : (x : Scene) → messages_in (fails x) ≤ messages_in x
messages-fails x = by (first_failure x.traffic.inbox)
  where
    after : (f : ChannelFailure) (b : Bool) → messages_in (after_failed b (act_on (Fail f.channel) [] x)) ≤ messages_in x
    after f true = omega arith
    after f false = omega arith

    by : (f : Option ChannelFailure) → messages_in (option_map_or (fails_on x) f (with_to_do todo.GoOn x)) ≤ messages_in x
    by None = omega arith
    by (Some f) = after f (is_stream f.channel x.traffic.shared.channels)

inbox-leave_at : (place : ℕ) (x : Scene) → (leave_at place x).traffic.inbox ≡ x.traffic.inbox
inbox-leave_at place x = by (try_at_place x.current.entry.flying place)
  where
    by : (one : Option SentTry) → (option_map_or (leaving_at place x) one x).traffic.inbox ≡ x.traffic.inbox
    by None = refl
    by (Some one) = refl

inbox-leaves : (place : ℕ) (x : Scene) → (leaves place x).traffic.inbox ≡ x.traffic.inbox
inbox-leaves place x = by (closed_at place x) ∙ inbox-leave_at place x
  where
    y : Scene
    y = leave_at place x

    by : (shut : Option ℕ) → (freed_if shut y).traffic.inbox ≡ y.traffic.inbox
    by None = refl
    by (Some channel) = empty (is_empty y.traffic.table.blocked)
      where
        empty : (b : Bool)
            → (cond {A = TrafficState} b y.traffic (record y.traffic { freed = min (y.traffic.freed + 1) (2 ^ 64 - 1) })).inbox
            ≡ y.traffic.inbox
        empty true = refl
        empty false = refl

messages-quits : (x : Scene) → messages_in (quits x) ≤ messages_in x
messages-quits x = by (place_on x)
  where
    after : (place : ℕ) (shut : Option ℕ) → messages_in (after_quit shut (leave_at place x)) ≤ messages_in x
    after place None =
        let same : messages_in (leave_at place x) ≡ messages_in x = ap (λ (i : InboxState). length i.messages) (inbox-leave_at place x) in
        omega (arith, same)
    after place (Some channel) =
        let same : messages_in (leave_at place x) ≡ messages_in x = ap (λ (i : InboxState). length i.messages) (inbox-leave_at place x) in
        omega (arith, same)

    by : (place : Option ℕ) → messages_in (option_map_or (quits_at x) place (with_to_do todo.PutBack x)) ≤ messages_in x
    by None = omega arith
    by (Some place) = after place (closed_at place x)

messages-frees : (x : Scene) → messages_in (frees x) ≤ messages_in x
messages-frees x = by (is_some (wanted (changed freed x.current.entry.flying.flight).transaction))
  where
    by : (wants : Bool) → messages_in (cond {A = Scene} wants
        (record {
          traffic = x.traffic;
          current = then_do todo.GoOn (changing (changed freed) x.current);
        })
        (record {
          traffic = record x.traffic { table = without_blocked x.current.number x.traffic.table };
          current = then_do todo.GoOn (changing (changed freed) x.current);
        })) ≤ messages_in x
    by true = omega arith
    by false = omega arith

module _ (x y : Scene) where
  messages-by : (z : Scene) → y ≡ z → messages_in z ≤ messages_in x → messages_in y ≤ messages_in x
  messages-by z same less = subst (λ (v : Scene). messages_in v ≤ messages_in x) (sym same) less

  messages-same : (z : Scene) → y ≡ z → z.traffic.inbox ≡ x.traffic.inbox → messages_in y ≤ messages_in x
  messages-same z same stays =
      let is : messages_in z ≡ messages_in x = ap (λ (i : InboxState). length i.messages) stays in
      messages-by z same (omega (arith, is))

  messages-done : (what : Doing) → IsDone what x y → messages_in y ≤ messages_in x
  messages-done doing.Hears is = messages-by (hears x) is (messages-hears x)
  messages-done doing.Doubts is = messages-by (doubts x) is (messages-doubts x)
  messages-done doing.Stalls is = messages-by (stalls x) is (messages-stalls x)
  messages-done doing.Fails is = messages-by (fails x) is (messages-fails x)
  messages-done doing.Quits is = messages-by (quits x) is (messages-quits x)
  messages-done doing.Frees is = messages-by (frees x) is (messages-frees x)
  messages-done (doing.Leaves place) is = messages-same (leaves place x) is (inbox-leaves place x)
  messages-done doing.Expires is =
      let same : messages_in y ≡ messages_in x = ap messages_in is in omega (arith, same)
  messages-done doing.Draws is = let same : messages_in y ≡ messages_in x = ap messages_in is in omega (arith, same)
  messages-done (doing.BeginsRound place) is =
      let same : messages_in y ≡ messages_in x = ap messages_in is.after in omega (arith, same)
  messages-done doing.GivesUp is = let same : messages_in y ≡ messages_in x = ap messages_in is in omega (arith, same)
  messages-done doing.Blocks is = let same : messages_in y ≡ messages_in x = ap messages_in is in omega (arith, same)
  messages-done doing.Sends is = let same : messages_in y ≡ messages_in x = ap messages_in is in omega (arith, same)
  messages-done (doing.Dates due) is = let same : messages_in y ≡ messages_in x = ap messages_in is in omega (arith, same)
  messages-done doing.PutsBack is = let same : messages_in y ≡ messages_in x = ap messages_in is in omega (arith, same)
  messages-done doing.Refused is = let same : messages_in y ≡ messages_in x = ap messages_in is in omega (arith, same)
  messages-done doing.Ends is = let same : messages_in y ≡ messages_in x = ap messages_in is in omega (arith, same)
  messages-done doing.Rests is = let same : messages_in y ≡ messages_in x = ap messages_in is in omega (arith, same)

  pub came-done : (what : Doing) → IsDone what x y → came_of y.traffic.inbox ≤ came_of x.traffic.inbox
  came-done what is =
      let less = messages-done what is in
      let same = streams-done what x y is in
      let one = ap (λ (ss : List (ℕ × List ℕ)). octets_of ss) same.streams in
      let two = ap (λ (cs : List ℕ). length cs) same.unread in
      omega (arith, less, one, two)

-- ---- a channel failed

pub data IsFailed (x y : Scene) : Type 0 where
  is_left : y.traffic.inbox ≡ x.traffic.inbox → y.current.to_do ≡ todo.Quit → place_on y ≡ place_on x → IsFailed x y
  is_over : y.traffic.inbox ≡ without_failure x.traffic.inbox → y.current.to_do ≡ todo.GoOn → IsFailed x y

pub placed-failure : (x : Scene) → is_some (place_on x) ≡ true → is_some (first_failure x.traffic.inbox) ≡ true
placed-failure x placed = by (first_failure x.traffic.inbox) placed
  where
    by : (f : Option ChannelFailure)
        → is_some (option_and_then (λ g. position (is_on g.channel) x.current.entry.flying.tries) f) ≡ true → is_some f ≡ true
    by None h = h
    by (Some f) h = refl

place-same : (x y : Scene) → y.traffic.inbox ≡ x.traffic.inbox → y.current.entry.flying.tries ≡ x.current.entry.flying.tries
    → place_on y ≡ place_on x
place-same x y inbox tries =
    ap (λ (i : InboxState). option_and_then (λ f. position (is_on f.channel) y.current.entry.flying.tries) (first_failure i)) inbox
    ∙ ap (λ (ts : List SentTry). option_and_then (λ f. position (is_on f.channel) ts) (first_failure x.traffic.inbox)) tries

pub stalls-is : (x : Scene) → is_some (place_on x) ≡ true → IsFailed x (stalls x)
stalls-is x placed = by (first_failure x.traffic.inbox) (placed-failure x placed)
  where
    by : (f : Option ChannelFailure) → is_some f ≡ true → IsFailed x (option_map_or (stalls_on x) f (with_to_do todo.GoOn x))
    by None h = absurd (true≢false (sym h))
    by (Some f) h = is_left refl refl refl

pub fails-is : (x : Scene) → is_some (place_on x) ≡ true → IsFailed x (fails x)
fails-is x placed = by (first_failure x.traffic.inbox) refl (placed-failure x placed)
  where
    after : (f : ChannelFailure) → first_failure x.traffic.inbox ≡ Some f → (b : Bool) → is_stream f.channel x.traffic.shared.channels ≡ b
        → IsFailed x (after_failed b (act_on (Fail f.channel) [] x))
    after f at true is =
        is_left refl refl (place-same x (after_failed true (act_on (Fail f.channel) [] x)) refl
        (sym (ap (λ (b : Bool). (after_failed b (act_on (Fail f.channel) [] x)).current.entry.flying.tries) is)
        ∙ sym (ap (λ (o : Option ChannelFailure). (option_map_or (fails_on x) o (with_to_do todo.GoOn x)).current.entry.flying.tries) at)
        ∙ (kept-done doing.Fails x (fails x) refl tt).tries))
    after f at false is = is_over refl refl

    by : (f : Option ChannelFailure) → first_failure x.traffic.inbox ≡ f → is_some f ≡ true
        → IsFailed x (option_map_or (fails_on x) f (with_to_do todo.GoOn x))
    by None at h = absurd (true≢false (sym h))
    by (Some f) at h = after f at (is_stream f.channel x.traffic.shared.channels) refl

-- ---- its try leaves the channel that failed

pub data HasQuit (x y : Scene) : Type 0 where
  goes_back : y.traffic.inbox ≡ x.traffic.inbox → HasQuit x y
  is_closed : y.traffic.inbox ≡ without_failure x.traffic.inbox → HasQuit x y

pub record Quitting (x y : Scene) : Type 0 where
  pub left : HasQuit x y
  pub to_do : y.current.to_do ≡ todo.PutBack
  pub tries : length y.current.entry.flying.tries + 1 ≡ length x.current.entry.flying.tries

some-within : {A : Type 0} (xs : List A) (i : ℕ) → i < length xs → (x : A) × (slice_get xs i ≡ Some x)
some-within [] i less = absurd (omega (arith, less))
some-within (x ∷ xs) zero less = (x, refl)
some-within (x ∷ xs) (suc i) less = some-within xs i (omega (arith, less))

pub quits-is : (x : Scene) → is_some (place_on x) ≡ true → Quitting x (quits x)
quits-is x placed = by (place_on x) refl placed
  where
    ts : List SentTry
    ts = x.current.entry.flying.tries

    within : (place : ℕ) → place_on x ≡ Some place → (one : SentTry) × (slice_get ts place ≡ Some one)
    within place is = from (first_failure x.traffic.inbox) is
      where
        found : (n : ℕ) (b : Bool) → ltb n (length ts) ≡ b → cond b (Some n) None ≡ Some place
            → (one : SentTry) × (slice_get ts place ≡ Some one)
        found n true less e =
            let same : n ≡ place = cc in
            let low = ltb-true n (length ts) less in some-within ts place (omega (arith, low, same))
        found n false less e = absurd cc

        from : (f : Option ChannelFailure) → option_and_then (λ g. position (is_on g.channel) ts) f ≡ Some place
            → (one : SentTry) × (slice_get ts place ≡ Some one)
        from None e = absurd cc
        from (Some f) e = found (position_or_len (is_on f.channel) ts) (ltb (position_or_len (is_on f.channel) ts) (length ts)) refl e

    fewer : (place : ℕ) → place_on x ≡ Some place → length (leave_at place x).current.entry.flying.tries + 1 ≡ length ts
    fewer place is =
        let one = within place is in
        let same : length (leave_at place x).current.entry.flying.tries ≡ length (leaving_at place x one.0).current.entry.flying.tries =
        ap (λ (o : Option SentTry). length (option_map_or (leaving_at place x) o x).current.entry.flying.tries) one.1 in
        let inside = slice_get_within ts place one.0 one.1 in
        let shorter = length-remove ts place inside in
        omega (arith, same, shorter)

    after : (place : ℕ) → place_on x ≡ Some place → (shut : Option ℕ) → Quitting x (after_quit shut (leave_at place x))
    after place is None = record {
      left = goes_back (inbox-leave_at place x);
      to_do = refl;
      tries = fewer place is;
    }
    after place is (Some channel) = record {
      left = is_closed (ap without_failure (inbox-leave_at place x));
      to_do = refl;
      tries = fewer place is;
    }

    by : (o : Option ℕ) → place_on x ≡ o → is_some o ≡ true
        → Quitting x (option_map_or (quits_at x) o (with_to_do todo.PutBack x))
    by None is h = absurd (true≢false (sym h))
    by (Some place) is h = after place is (closed_at place x)

-- ---- time passed

pub record HasExpired (x y : Scene) : Type 0 where
  pub inbox : y.traffic.inbox ≡ x.traffic.inbox
  pub to_do : y.current.to_do ≡ todo.GoOn
  pub cost : cost_of y.current.entry < cost_of x.current.entry

pub expires-is : (x : Scene) → IsFit x → is_due x.current.entry x.traffic ≡ true → HasExpired x (expires x)
expires-is x fit due = by (list_in x.current.entry.asked.0 x.traffic.groups.lists) fit.there
  where
    when : (o : Option ℕ) → next_deadline x.current.entry.flying.flight.transaction ≡ o
        → option_map_or (λ d. leb d x.traffic.clock) o false ≡ true
        → budget true (expired x.traffic.clock x.current.entry.flying.flight.transaction) + 4
        ≤ budget true x.current.entry.flying.flight.transaction
    when None at h = absurd (true≢false (sym h))
    when (Some d) at h =
        budget-expired true x.current.entry.flying.flight.transaction x.traffic.clock fit.places d at (leb-true d x.traffic.clock h)

    by : (l : Option GroupListState) → is_some l ≡ true → HasExpired x (with_to_do todo.GoOn (with_acted x (option_map_or
        (acted_with Expire x.current.number (moment_of x.traffic) [] x.current.entry.asked.0 (before_act x)) l
        (before_act x))))
    by None h = absurd (true≢false (sym h))
    by (Some l) h =
        let less = when (next_deadline x.current.entry.flying.flight.transaction) refl due in
        record { inbox = refl; to_do = refl; cost = omega (arith, less) }

-- ---- a channel is free

pub record HasFreed (x y : Scene) : Type 0 where
  pub inbox : y.traffic.inbox ≡ x.traffic.inbox
  pub to_do : y.current.to_do ≡ todo.GoOn
  pub cost : cost_of y.current.entry ≤ cost_of x.current.entry
  pub channels : length y.traffic.shared.channels.channels ≡ length x.traffic.shared.channels.channels
  pub place : place_in y ≡ place_in x
  pub ready : y.traffic.ready ≡ x.traffic.ready
  pub why : (wants_in y ≡ true) ⊎ ((wants_in y ≡ false)
      × (y.traffic.freed + length y.traffic.table.blocked < x.traffic.freed + length x.traffic.table.blocked))

pub frees-is : (x : Scene) → IsFit x → slice_get x.traffic.table.blocked 0 ≡ Some x.current.number → HasFreed x (frees x)
frees-is x fit first = by (is_some (wanted (changed freed x.current.entry.flying.flight).transaction)) refl
  where
    less : budget true (freed x.current.entry.flying.flight.transaction) ≤ budget true x.current.entry.flying.flight.transaction
    less = budget-freed x.current.entry.flying.flight.transaction fit.places

    by : (wants : Bool) → is_some (wanted (changed freed x.current.entry.flying.flight).transaction) ≡ wants
        → HasFreed x (cond {A = Scene} wants
        (record {
          traffic = x.traffic;
          current = then_do todo.GoOn (changing (changed freed) x.current);
        })
        (record {
          traffic = record x.traffic { table = without_blocked x.current.number x.traffic.table };
          current = then_do todo.GoOn (changing (changed freed) x.current);
        }))
    by true is =
        let fewer = less in
        record {
          inbox = refl;
          to_do = refl;
          cost = omega (arith, fewer);
          channels = refl;
          place = refl;
          ready = refl;
          why = inl is;
        }
    by false is =
        let fewer = less in
        let shorter = length-first x.current.number x.traffic.table.blocked first in
        record {
          inbox = refl;
          to_do = refl;
          cost = omega (arith, fewer);
          channels = refl;
          place = refl;
          ready = refl;
          why = inr (is, omega (arith, shorter));
        }
