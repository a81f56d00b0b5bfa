-- Channels stay within their limits.
use Rattle.std.proofs.Common.{◌≡◌, ℕ, suc, ◌+◌, ◌<◌, ◌≤◌, Bool, true, false, cond, List, [], ◌∷◌, length, refl, ap, subst, arith}
use Rattle.std.specs.Prelude.{Option, None, Some}
use Rattle.std.specs.declared.cmp.Ordering.{Ordering}
use Rattle.std.specs.declared.cmp.Ordering.TheVariants.{Less, Equal, Greater}
use Rattle.std.specs.Ordering.{nat_cmp, match_ordering}
use Rattle.std.specs.List.{AllByRecursion}
use Rattle.std.specs.Map.{lookup, remove_entry, set_value}
use Rattle.std.specs.BTreeMap.{insert_entry, is_at}
use Rattle.std.specs.Option.{option_map_or, option_and_then}
use Rattle.std.proofs.lemmas.Bool.{ltb-true}
use Rattle.hickory_resolver_channels.specs.Channels.{ChannelsState, no_channels, channel_in, channel_at, has_try, has_place, pair_cmp, opened, opened_for, new_channel, replaced, most_on, takes_try, with_one_more, if_it_takes_try, joinable, joined_to, joined, with_one_less, left_to_others, left_idle, left_closed, left_last, left_in, has_others, channel_of_try, left, closable, closed_one, closed}
use Rattle.hickory_resolver_channels.specs.Laws.{ChannelEvent, opens, opens_for, joins, leaves, closes, after_event, after_events, HasFewTries, HasOldNumber, IsWithinLimits, StaysWithinLimits}
use Rattle.hickory_resolver_channels.specs.declared.channel.Channel.{Channel}
use Rattle.hickory_resolver_channels.specs.declared.channel.ChannelKind.{ChannelKind}
use Rattle.hickory_resolver_channels.specs.declared.channel.ChannelKind.TheVariants.{Datagram, Stream}
use Rattle.hickory_resolver_channels.specs.declared.channel.ChannelLimits.{ChannelLimits}

-- ---- lists of channels

abbrev Channels : Type 0
Channels = List (ℕ × Channel)

few-inserted : (limits : ChannelLimits) (n : ℕ) (c : Channel) (es : Channels) → HasFewTries limits (n, c)
    → AllByRecursion (HasFewTries limits) es → AllByRecursion (HasFewTries limits) (insert_entry nat_cmp es n c)
few-inserted limits n c [] few all = (few, tt)
few-inserted limits n c (e ∷ es) few all = by (nat_cmp n e.0) (few-inserted limits n c es few all.1)
  where
    by : (o : Ordering) → AllByRecursion (HasFewTries limits) (insert_entry nat_cmp es n c)
        → AllByRecursion (HasFewTries limits) (match_ordering o ((n, c) ∷ e ∷ es) ((e.0, c) ∷ es) (e ∷ insert_entry nat_cmp es n c))
    by Less more = (few, all)
    by Equal more = (few, all.1)
    by Greater more = (all.0, more)

old-inserted : (next n : ℕ) (c : Channel) (es : Channels) → n < next
    → AllByRecursion (HasOldNumber next) es → AllByRecursion (HasOldNumber next) (insert_entry nat_cmp es n c)
old-inserted next n c [] old all = (old, tt)
old-inserted next n c (e ∷ es) old all = by (nat_cmp n e.0) (old-inserted next n c es old all.1)
  where
    by : (o : Ordering) → AllByRecursion (HasOldNumber next) (insert_entry nat_cmp es n c)
        → AllByRecursion (HasOldNumber next) (match_ordering o ((n, c) ∷ e ∷ es) ((e.0, c) ∷ es) (e ∷ insert_entry nat_cmp es n c))
    by Less more = (old, all)
    by Equal more = (all.0, all.1)
    by Greater more = (all.0, more)

old-later : (next : ℕ) (es : Channels) → AllByRecursion (HasOldNumber next) es → AllByRecursion (HasOldNumber (next + 1)) es
old-later next [] all = tt
old-later next (e ∷ es) all = (omega (arith, all.0), old-later next es all.1)

count-inserted : (n : ℕ) (c : Channel) (es : Channels) → length (insert_entry nat_cmp es n c) ≤ length es + 1
count-inserted n c [] = omega arith
count-inserted n c (e ∷ es) = by (nat_cmp n e.0) (count-inserted n c es)
  where
    by : (o : Ordering) → length (insert_entry nat_cmp es n c) ≤ length es + 1
        → length (match_ordering o ((n, c) ∷ e ∷ es) ((e.0, c) ∷ es) (e ∷ insert_entry nat_cmp es n c)) ≤ suc (length es) + 1
    by Less more = omega arith
    by Equal more = omega arith
    by Greater more = omega (arith, more)

module _ (test : ℕ → Bool) where
  few-set : (limits : ChannelLimits) (c : Channel) (es : Channels) → c.tries ≤ most_on limits c.kind
      → AllByRecursion (HasFewTries limits) es → AllByRecursion (HasFewTries limits) (set_value test es c)
  few-set limits c [] few all = tt
  few-set limits c (e ∷ es) few all = by (test e.0) (few-set limits c es few all.1)
    where
      by : (b : Bool) → AllByRecursion (HasFewTries limits) (set_value test es c)
          → AllByRecursion (HasFewTries limits) (cond b ((e.0, c) ∷ es) (e ∷ set_value test es c))
      by true more = (few, all.1)
      by false more = (all.0, more)

  old-set : (next : ℕ) (c : Channel) (es : Channels)
      → AllByRecursion (HasOldNumber next) es → AllByRecursion (HasOldNumber next) (set_value test es c)
  old-set next c [] all = tt
  old-set next c (e ∷ es) all = by (test e.0) (old-set next c es all.1)
    where
      by : (b : Bool) → AllByRecursion (HasOldNumber next) (set_value test es c)
          → AllByRecursion (HasOldNumber next) (cond b ((e.0, c) ∷ es) (e ∷ set_value test es c))
      by true more = all
      by false more = (all.0, more)

  count-set : (c : Channel) (es : Channels) → length (set_value test es c) ≡ length es
  count-set c [] = refl
  count-set c (e ∷ es) = by (test e.0) (count-set c es)
    where
      by : (b : Bool) → length (set_value test es c) ≡ length es
          → length (cond b ((e.0, c) ∷ es) (e ∷ set_value test es c)) ≡ suc (length es)
      by true more = refl
      by false more = ap suc more

  all-removed : (P : ℕ × Channel → Type 0) (es : Channels) → AllByRecursion P es → AllByRecursion P (remove_entry test es)
  all-removed P [] all = tt
  all-removed P (e ∷ es) all = by (test e.0) (all-removed P es all.1)
    where
      by : (b : Bool) → AllByRecursion P (remove_entry test es) → AllByRecursion P (cond b es (e ∷ remove_entry test es))
      by true more = all.1
      by false more = (all.0, more)

  count-removed : (es : Channels) → length (remove_entry test es) ≤ length es
  count-removed [] = omega arith
  count-removed (e ∷ es) = by (test e.0) (count-removed es)
    where
      by : (b : Bool) → length (remove_entry test es) ≤ length es
          → length (cond b es (e ∷ remove_entry test es)) ≤ suc (length es)
      by true more = omega arith
      by false more = omega (arith, more)

  few-found : (limits : ChannelLimits) (c : Channel) (es : Channels) → AllByRecursion (HasFewTries limits) es
      → lookup test es ≡ Some c → c.tries ≤ most_on limits c.kind
  few-found limits c [] all e = absurd cc
  few-found limits c (x ∷ xs) all e = by (test x.0) (λ h. few-found limits c xs all.1 h) e
    where
      by : (b : Bool) → (lookup test xs ≡ Some c → c.tries ≤ most_on limits c.kind)
          → cond b (Some x.1) (lookup test xs) ≡ Some c → c.tries ≤ most_on limits c.kind
      by true more h = let same : x.1 ≡ c = cc in subst (λ (y : Channel). y.tries ≤ most_on limits y.kind) same all.0
      by false more h = more h

-- ---- events

module _ (limits : ChannelLimits) (s : ChannelsState) (same : s.limits ≡ limits) (w : IsWithinLimits limits s) where
  record Stays (t : ChannelsState) : Type 0 where
    limits_are : t.limits ≡ limits
    within : IsWithinLimits limits t

  as-it-is : Stays s
  as-it-is = record { limits_are = same; within = w }

  -- another channel in the place of one, and any tries and idle ones
  with-replaced : (n : ℕ) (c : Channel) (tries : List ((ℕ × ℕ) × ℕ)) (idle : List (ℕ × ℕ)) → c.tries ≤ most_on limits c.kind
      → Stays (record s { channels = replaced n c s.channels; tries = tries; idle = idle })
  with-replaced n c tries idle few = by (channel_in n s.channels)
    where
      test : ℕ → Bool
      test = is_at (nat_cmp n)

      by : (found : Option Channel)
          → Stays (record s { channels = option_map_or (λ old. set_value (is_at (nat_cmp n)) s.channels c) found s.channels; tries = tries; idle = idle })
      by None = record { limits_are = same; within = record { count = w.count; tries = w.tries; numbers = w.numbers } }
      by (Some old) = record {
        limits_are = same;
        within = record {
          count = omega (arith, w.count, count-set (is_at (nat_cmp n)) c s.channels);
          tries = few-set (is_at (nat_cmp n)) limits c s.channels few w.tries;
          numbers = old-set (is_at (nat_cmp n)) s.next c s.channels w.numbers;
        };
      }

  without : (n : ℕ) (tries : List ((ℕ × ℕ) × ℕ)) (idle : List (ℕ × ℕ))
      → Stays (record s { channels = remove_entry (is_at (nat_cmp n)) s.channels; tries = tries; idle = idle })
  without n tries idle = record {
    limits_are = same;
    within = record {
      count = omega (arith, w.count, count-removed (is_at (nat_cmp n)) s.channels);
      tries = all-removed (is_at (nat_cmp n)) (HasFewTries limits) s.channels w.tries;
      numbers = all-removed (is_at (nat_cmp n)) (HasOldNumber s.next) s.channels w.numbers;
    };
  }

  stays-opened : (server : ℕ) (kind : ChannelKind) → Stays (opened server kind s)
  stays-opened server kind = by (has_place s) refl
    where
      by : (has : Bool) → has_place s ≡ has → Stays (cond has (record s {
        next = s.next + 1;
        channels = insert_entry nat_cmp s.channels s.next (new_channel server kind);
      }) s)
      by false e = as-it-is
      by true e =
          let room = ltb-true (length s.channels) s.limits.channels e in
          let most = ap (λ (l : ChannelLimits). l.channels) same in
          record {
            limits_are = same;
            within = record {
              count = omega (arith, room, most, count-inserted s.next (new_channel server kind) s.channels);
              tries = few-inserted limits s.next (new_channel server kind) s.channels (omega arith) w.tries;
              numbers = old-inserted (s.next + 1) s.next (new_channel server kind) s.channels (omega arith)
                  (old-later s.next s.channels w.numbers);
            };
          }

  one-try : (kind : ChannelKind) → 1 ≤ most_on limits kind
  one-try Datagram = omega arith
  one-try Stream = omega arith

  stays-opened_for : (server : ℕ) (kind : ChannelKind) (id transaction : ℕ) → Stays (opened_for server kind id transaction s)
  stays-opened_for server kind id transaction = by (has_place s) refl
    where
      by : (has : Bool) → has_place s ≡ has → Stays (cond has (record s {
        next = s.next + 1;
        channels = insert_entry nat_cmp s.channels s.next (with_one_more (new_channel server kind));
        tries = insert_entry pair_cmp s.tries (s.next, id) transaction;
      }) s)
      by false e = as-it-is
      by true e =
          let room = ltb-true (length s.channels) s.limits.channels e in
          let most = ap (λ (l : ChannelLimits). l.channels) same in
          let first = with_one_more (new_channel server kind) in
          record {
            limits_are = same;
            within = record {
              count = omega (arith, room, most, count-inserted s.next first s.channels);
              tries = few-inserted limits s.next first s.channels (omega (arith, one-try kind)) w.tries;
              numbers = old-inserted (s.next + 1) s.next first s.channels (omega arith) (old-later s.next s.channels w.numbers);
            };
          }

  joinable-takes : (n id : ℕ) (c : Channel) → joinable n id s ≡ Some c → c.tries < most_on limits c.kind
  joinable-takes n id c e = by (has_try n id s) (channel_at n s) e
    where
      last : (x : Channel) (takes : Bool) → takes_try s.limits x ≡ takes → cond takes (Some x) None ≡ Some c
          → c.tries < most_on limits c.kind
      last x false t h = absurd cc
      last x true t h =
          let is : x ≡ c = cc in
          let room = ltb-true x.tries (most_on s.limits x.kind) t in
          let room2 : x.tries < most_on limits x.kind = subst (λ (l : ChannelLimits). x.tries < most_on l x.kind) same room in
          subst (λ (y : Channel). y.tries < most_on limits y.kind) is room2

      by : (has : Bool) (found : Option Channel)
          → cond has None (option_and_then (if_it_takes_try s.limits) found) ≡ Some c → c.tries < most_on limits c.kind
      by true found h = absurd cc
      by false None h = absurd cc
      by false (Some x) h = last x (takes_try s.limits x) refl h

  stays-joined : (n id transaction : ℕ) → Stays (joined n id transaction s)
  stays-joined n id transaction = by (joinable n id s) refl
    where
      by : (found : Option Channel) → joinable n id s ≡ found → Stays (option_map_or (joined_to n id transaction s) found s)
      by None e = as-it-is
      by (Some c) e =
          with-replaced n (with_one_more c) (joined_to n id transaction s c).tries (joined_to n id transaction s c).idle
          (omega (arith, joinable-takes n id c e))

  one-less : (c : Channel) (until : Option ℕ) → c.tries ≤ most_on limits c.kind
      → (with_one_less until c).tries ≤ most_on limits (with_one_less until c).kind
  one-less c until few = omega (arith, few)

  stays-left_last : (n id until : ℕ) (c : Channel) (kind : ChannelKind) → c.tries ≤ most_on limits c.kind
      → Stays (left_last n id until c kind s)
  stays-left_last n id until c Datagram few = without n (left_closed n id s).tries s.idle
  stays-left_last n id until c Stream few =
      with-replaced n (with_one_less (Some until) c) (left_idle n id until c s).tries (left_idle n id until c s).idle
      (one-less c (Some until) few)

  stays-left_in : (n id until : ℕ) (c : Channel) → c.tries ≤ most_on limits c.kind → Stays (left_in n id until s c)
  stays-left_in n id until c few = by (has_others c)
    where
      by : (others : Bool) → Stays (cond others (left_to_others n id c s) (left_last n id until c c.kind s))
      by true = with-replaced n (with_one_less None c) (left_to_others n id c s).tries s.idle (one-less c None few)
      by false = stays-left_last n id until c c.kind few

  stays-left : (n id until : ℕ) → Stays (left n id until s)
  stays-left n id until = by (channel_of_try n id s) refl
    where
      found-few : (c : Channel) (has : Bool) → cond has (channel_at n s) None ≡ Some c → c.tries ≤ most_on limits c.kind
      found-few c false h = absurd cc
      found-few c true h = few-found (is_at (nat_cmp n)) limits c s.channels w.tries h

      by : (found : Option Channel) → channel_of_try n id s ≡ found → Stays (option_map_or (left_in n id until s) found s)
      by None e = as-it-is
      by (Some c) e = stays-left_in n id until c (found-few c (has_try n id s) e)

  stays-closed : (n : ℕ) → Stays (closed n s)
  stays-closed n = by (closable n s)
    where
      by : (found : Option Channel) → Stays (option_map_or (closed_one n s) found s)
      by None = as-it-is
      by (Some c) = without n s.tries (closed_one n s c).idle

  stays-event : (event : ChannelEvent) → Stays (after_event s event)
  stays-event (opens server kind) = stays-opened server kind
  stays-event (opens_for server kind id transaction) = stays-opened_for server kind id transaction
  stays-event (joins n id transaction) = stays-joined n id transaction
  stays-event (leaves n id until) = stays-left n id until
  stays-event (closes n) = stays-closed n

stays-events : (limits : ChannelLimits) (s : ChannelsState) → s.limits ≡ limits → IsWithinLimits limits s
    → (events : List ChannelEvent) → IsWithinLimits limits (after_events s events)
stays-events limits s same w [] = w
stays-events limits s same w (event ∷ events) =
    let after = stays-event limits s same w event in
    stays-events limits (after_event s event) after.limits_are after.within events

pub stays_within_limits : StaysWithinLimits
stays_within_limits limits events =
    stays-events limits (no_channels limits) refl (record { count = omega arith; tries = tt; numbers = tt }) events
