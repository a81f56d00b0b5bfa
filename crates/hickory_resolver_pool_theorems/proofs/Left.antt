-- The tries on channels, and those that a transaction keeps in mind: after one is made, and after one leaves.
use Rattle.std.proofs.Common.{◌≡◌, ◌≤◌, ◌<◌, ◌+◌, ◌-◌, suc, zero, ℕ, Bool, true, false, cond, ◌&&◌, List, [], ◌∷◌, ◌++◌, refl, ap, sym, subst, ◌∙◌, true≢false, inl, inr, ◌⊎◌, arith, eqb, eqb-true, eq-eqb}
use Rattle.std.specs.Prelude.{Option, None, Some, remove, slice_get}
use Rattle.std.specs.Ordering.{nat_cmp}
use Rattle.std.specs.List.{AllByRecursion, list_any}
use Rattle.std.specs.Map.{lookup, remove_entry, set_value}
use Rattle.std.specs.BTreeMap.{insert_entry, is_at}
use Rattle.std.specs.Option.{is_some, option_map_or, option_and_then}
use Rattle.hickory_resolver_channels.specs.Channels.{ChannelsState, channel_at, channel_in, transaction_at, has_try, pair_cmp, replaced, left, left_in, left_last, left_to_others, tries_without, has_others, closed, closed_one, closable, joined, joined_to, joinable, opened_for, number_given, has_place, new_channel, with_one_more, if_it_takes_try, takes_try}
use Rattle.hickory_resolver_channels.specs.declared.channel.Channel.{Channel}
use Rattle.hickory_resolver_channels.specs.declared.channel.ChannelKind.{ChannelKind}
use Rattle.hickory_resolver_channels.specs.declared.channel.ChannelKind.TheVariants.{Datagram, Stream}
use Rattle.hickory_resolver_steps.specs.declared.flying.SentTry.{SentTry}
use Rattle.hickory_resolver_pool_theorems.specs.Agreement.{is_sent_as}
use Rattle.hickory_resolver_pool_theorems.proofs.Keys.{at-is}
use Rattle.hickory_resolver_pool_theorems.proofs.Keys as numbers
use Rattle.hickory_resolver_pool_theorems.proofs.KeySets.{or-true, or-left, or-split, or-more, not-true}

-- ---- what is kept in mind

abbrev pub Mind : ℕ → ℕ → List SentTry → Type 0
Mind channel id ts = list_any (is_sent_as channel id) ts ≡ true

-- no try twice
abbrev pub EachOnce : List SentTry → Type 0
EachOnce [] = Unit {0}
EachOnce (t ∷ ts) = (list_any (is_sent_as t.channel t.id) ts ≡ false) × EachOnce ts

abbrev pub try_of : ℕ → ℕ → SentTry
try_of channel id = record { channel = channel; id = id }

pub sent-is : (channel id : ℕ) (t : SentTry) → is_sent_as channel id t ≡ true → (t.channel ≡ channel) × (t.id ≡ id)
sent-is channel id t h = by (eqb t.channel channel) (eqb t.id id) refl refl h
  where
    by : (a b : Bool) → eqb t.channel channel ≡ a → eqb t.id id ≡ b → (a && b) ≡ true → (t.channel ≡ channel) × (t.id ≡ id)
    by true true one two h = (eqb-true t.channel channel one, eqb-true t.id id two)
    by true false one two h = absurd (true≢false (sym h))
    by false b one two h = absurd (true≢false (sym h))

pub sent-self : (t : SentTry) → is_sent_as t.channel t.id t ≡ true
sent-self t =
    ap (λ (b : Bool). b && eqb t.id t.id) (eq-eqb t.channel t.channel refl) ∙ eq-eqb t.id t.id refl

-- two that are the same are kept in mind as one
sent-same : (channel id : ℕ) (t : SentTry) (ts : List SentTry) → is_sent_as channel id t ≡ true
    → list_any (is_sent_as t.channel t.id) ts ≡ list_any (is_sent_as channel id) ts
sent-same channel id t ts h =
    let same = sent-is channel id t h in
    ap (λ (n : ℕ). list_any (is_sent_as n t.id) ts) same.0 ∙ ap (λ (n : ℕ). list_any (is_sent_as channel n) ts) same.1

pub mind-pushed : (channel id : ℕ) (ts : List SentTry) (t : SentTry) → Mind channel id (ts ++ t ∷ [])
    → Mind channel id ts ⊎ (is_sent_as channel id t ≡ true)
mind-pushed channel id [] t h = by (or-split (is_sent_as channel id t) false h)
  where
    by : (is_sent_as channel id t ≡ true) ⊎ (false ≡ true) → Mind channel id [] ⊎ (is_sent_as channel id t ≡ true)
    by (inl e) = inr e
    by (inr e) = inl e
mind-pushed channel id (x ∷ xs) t h =
    by (mind-pushed channel id xs t) (or-split (is_sent_as channel id x) (list_any (is_sent_as channel id) (xs ++ t ∷ [])) h)
  where
    more : Mind channel id xs ⊎ (is_sent_as channel id t ≡ true)
        → Mind channel id (x ∷ xs) ⊎ (is_sent_as channel id t ≡ true)
    more (inl e) = inl (or-true (is_sent_as channel id x) (list_any (is_sent_as channel id) xs) e)
    more (inr e) = inr e

    by : (Mind channel id (xs ++ t ∷ []) → Mind channel id xs ⊎ (is_sent_as channel id t ≡ true))
        → (is_sent_as channel id x ≡ true) ⊎ Mind channel id (xs ++ t ∷ [])
        → Mind channel id (x ∷ xs) ⊎ (is_sent_as channel id t ≡ true)
    by rest (inl e) = inl (or-left (is_sent_as channel id x) (list_any (is_sent_as channel id) xs) e)
    by rest (inr e) = more (rest e)

pub mind-kept : (channel id : ℕ) (ts : List SentTry) (t : SentTry) → Mind channel id ts → Mind channel id (ts ++ t ∷ [])
mind-kept channel id [] t h = absurd (true≢false (sym h))
mind-kept channel id (x ∷ xs) t h =
    or-more (is_sent_as channel id x) (list_any (is_sent_as channel id) xs)
    (list_any (is_sent_as channel id) (xs ++ t ∷ [])) h (mind-kept channel id xs t)

pub mind-own : (channel id : ℕ) (ts : List SentTry) (t : SentTry) → is_sent_as channel id t ≡ true
    → Mind channel id (ts ++ t ∷ [])
mind-own channel id [] t h = or-left (is_sent_as channel id t) false h
mind-own channel id (x ∷ xs) t h =
    or-true (is_sent_as channel id x) (list_any (is_sent_as channel id) (xs ++ t ∷ [])) (mind-own channel id xs t h)

pub once-pushed : (ts : List SentTry) (t : SentTry) → EachOnce ts → (Mind t.channel t.id ts → ⊥) → EachOnce (ts ++ t ∷ [])
once-pushed [] t a none = (refl, tt)
once-pushed (x ∷ xs) t a none = (
  not-true (list_any (is_sent_as x.channel x.id) (xs ++ t ∷ [])) (λ h. apart (mind-pushed x.channel x.id xs t h)),
  once-pushed xs t a.1 (λ h. none (or-true (is_sent_as t.channel t.id x) (list_any (is_sent_as t.channel t.id) xs) h)),
)
  where
    apart : Mind x.channel x.id xs ⊎ (is_sent_as x.channel x.id t ≡ true) → ⊥
    apart (inl e) = true≢false (sym e ∙ a.0)
    apart (inr e) =
        let same = sent-is x.channel x.id t e in
        none (or-left (is_sent_as t.channel t.id x) (list_any (is_sent_as t.channel t.id) xs)
        (ap (λ (b : Bool). b && eqb x.id t.id) (eq-eqb x.channel t.channel (sym same.0)) ∙ eq-eqb x.id t.id (sym same.1)))

-- ---- and one is forgotten

pub mind-before : (channel id : ℕ) (ts : List SentTry) (p : ℕ) → Mind channel id (remove ts p) → Mind channel id ts
mind-before channel id [] p h = by p h
  where
    by : (i : ℕ) → Mind channel id (remove [] i) → Mind channel id []
    by zero g = g
    by (suc i) g = g
mind-before channel id (x ∷ xs) zero h = or-true (is_sent_as channel id x) (list_any (is_sent_as channel id) xs) h
mind-before channel id (x ∷ xs) (suc p) h =
    or-more (is_sent_as channel id x) (list_any (is_sent_as channel id) (remove xs p)) (list_any (is_sent_as channel id) xs)
    h (mind-before channel id xs p)

pub mind-removed : (channel id : ℕ) (ts : List SentTry) (p : ℕ) (t : SentTry) → slice_get ts p ≡ Some t
    → is_sent_as channel id t ≡ false → Mind channel id ts → Mind channel id (remove ts p)
mind-removed channel id [] p t at other h = absurd (true≢false (sym h))
mind-removed channel id (x ∷ xs) zero t at other h =
    by (or-split (is_sent_as channel id x) (list_any (is_sent_as channel id) xs) h)
  where
    by : (is_sent_as channel id x ≡ true) ⊎ Mind channel id xs → Mind channel id xs
    by (inl e) =
        let same : x ≡ t = cc in
        absurd (true≢false (sym e ∙ ap (λ (y : SentTry). is_sent_as channel id y) same ∙ other))
    by (inr e) = e
mind-removed channel id (x ∷ xs) (suc p) t at other h =
    or-more (is_sent_as channel id x) (list_any (is_sent_as channel id) xs) (list_any (is_sent_as channel id) (remove xs p))
    h (mind-removed channel id xs p t at other)

pub mind-there : (ts : List SentTry) (p : ℕ) (t : SentTry) → slice_get ts p ≡ Some t → Mind t.channel t.id ts
mind-there [] p t e = absurd cc
mind-there (y ∷ ys) zero t e =
    let same : y ≡ t = cc in
    or-left (is_sent_as t.channel t.id y) (list_any (is_sent_as t.channel t.id) ys)
    (ap (λ (z : SentTry). is_sent_as t.channel t.id z) same ∙ sent-self t)
mind-there (y ∷ ys) (suc q) t e =
    or-true (is_sent_as t.channel t.id y) (list_any (is_sent_as t.channel t.id) ys) (mind-there ys q t e)

pub mind-gone : (ts : List SentTry) (p : ℕ) (t : SentTry) → EachOnce ts → slice_get ts p ≡ Some t
    → Mind t.channel t.id (remove ts p) → ⊥
mind-gone [] p t a at h = absurd cc
mind-gone (x ∷ xs) zero t a at h =
    let same : x ≡ t = cc in
    true≢false (sym h ∙ ap (λ (y : SentTry). list_any (is_sent_as y.channel y.id) xs) (sym same) ∙ a.0)
mind-gone (x ∷ xs) (suc p) t a at h =
    by (mind-gone xs p t a.1 at) (or-split (is_sent_as t.channel t.id x) (list_any (is_sent_as t.channel t.id) (remove xs p)) h)
  where
    by : (Mind t.channel t.id (remove xs p) → ⊥)
        → (is_sent_as t.channel t.id x ≡ true) ⊎ Mind t.channel t.id (remove xs p) → ⊥
    by rest (inl e) = true≢false (sym (sent-same t.channel t.id x xs e ∙ mind-there xs p t at) ∙ a.0)
    by rest (inr e) = rest e

pub once-forgotten : (ts : List SentTry) (p : ℕ) → EachOnce ts → EachOnce (remove ts p)
once-forgotten [] p a = by p
  where
    by : (i : ℕ) → EachOnce (remove [] i)
    by zero = tt
    by (suc i) = tt
once-forgotten (x ∷ xs) zero a = a.1
once-forgotten (x ∷ xs) (suc p) a = (
  not-true (list_any (is_sent_as x.channel x.id) (remove xs p))
      (λ h. true≢false (sym (mind-before x.channel x.id xs p h) ∙ a.0)),
  once-forgotten xs p a.1,
)

-- ---- channels that are open

abbrev pub IsOpen : ℕ → ChannelsState → Type 0
IsOpen k s = is_some (channel_at k s) ≡ true

module _ {X : Type 0} where
  some-set : (q : ℕ) (test : ℕ → Bool) (es : List (ℕ × X)) (v : X)
      → is_some (lookup (is_at (nat_cmp q)) (set_value test es v)) ≡ true → is_some (lookup (is_at (nat_cmp q)) es) ≡ true
  some-set q test [] v h = h
  some-set q test (e ∷ es) v h = by (test e.0) (is_at (nat_cmp q) e.0) refl (some-set q test es v) h
    where
      by : (a b : Bool) → is_at (nat_cmp q) e.0 ≡ b
          → (is_some (lookup (is_at (nat_cmp q)) (set_value test es v)) ≡ true
          → is_some (lookup (is_at (nat_cmp q)) es) ≡ true)
          → is_some (lookup (is_at (nat_cmp q)) (cond a ((e.0, v) ∷ es) (e ∷ set_value test es v))) ≡ true
          → is_some (cond (is_at (nat_cmp q) e.0) (Some e.1) (lookup (is_at (nat_cmp q)) es)) ≡ true
      by a true is more g = ap (λ (b : Bool). is_some (cond b (Some e.1) (lookup (is_at (nat_cmp q)) es))) is
      by true false is more g =
          ap (λ (b : Bool). is_some (cond b (Some e.1) (lookup (is_at (nat_cmp q)) es))) is
          ∙ sym (ap (λ (b : Bool). is_some (cond b (Some v) (lookup (is_at (nat_cmp q)) es))) is) ∙ g
      by false false is more g =
          ap (λ (b : Bool). is_some (cond b (Some e.1) (lookup (is_at (nat_cmp q)) es))) is
          ∙ more (sym (ap (λ (b : Bool). is_some (cond b (Some e.1) (lookup (is_at (nat_cmp q)) (set_value test es v)))) is) ∙ g)

  some-removed : (q : ℕ) (test : ℕ → Bool) (es : List (ℕ × X))
      → is_some (lookup (is_at (nat_cmp q)) (remove_entry test es)) ≡ true → is_some (lookup (is_at (nat_cmp q)) es) ≡ true
  some-removed q test [] h = h
  some-removed q test (e ∷ es) h = by (test e.0) (is_at (nat_cmp q) e.0) refl (some-removed q test es) h
    where
      by : (a b : Bool) → is_at (nat_cmp q) e.0 ≡ b
          → (is_some (lookup (is_at (nat_cmp q)) (remove_entry test es)) ≡ true
          → is_some (lookup (is_at (nat_cmp q)) es) ≡ true)
          → is_some (lookup (is_at (nat_cmp q)) (cond a es (e ∷ remove_entry test es))) ≡ true
          → is_some (cond (is_at (nat_cmp q) e.0) (Some e.1) (lookup (is_at (nat_cmp q)) es)) ≡ true
      by a true is more g = ap (λ (b : Bool). is_some (cond b (Some e.1) (lookup (is_at (nat_cmp q)) es))) is
      by true false is more g = ap (λ (b : Bool). is_some (cond b (Some e.1) (lookup (is_at (nat_cmp q)) es))) is ∙ g
      by false false is more g =
          ap (λ (b : Bool). is_some (cond b (Some e.1) (lookup (is_at (nat_cmp q)) es))) is
          ∙ more (sym (ap (λ (b : Bool). is_some (cond b (Some e.1) (lookup (is_at (nat_cmp q)) (remove_entry test es)))) is) ∙ g)

  some-inserted : (q k : ℕ) (v : X) (es : List (ℕ × X))
      → is_some (lookup (is_at (nat_cmp q)) (insert_entry nat_cmp es k v)) ≡ true
      → (q ≡ k) ⊎ (is_some (lookup (is_at (nat_cmp q)) es) ≡ true)
  some-inserted q k v es h = by (is_at (nat_cmp q) k) refl
    where
      by : (b : Bool) → is_at (nat_cmp q) k ≡ b → (q ≡ k) ⊎ (is_some (lookup (is_at (nat_cmp q)) es) ≡ true)
      by true is = inl (at-is q k is)
      by false is = inr (sym (ap (λ (o : Option X). is_some o) (numbers.others-inserted q k is v es)) ∙ h)

open-replaced : (k number : ℕ) (c : Channel) (s : ChannelsState)
    → is_some (channel_in k (replaced number c s.channels)) ≡ true → IsOpen k s
open-replaced k number c s h = by (channel_in number s.channels) h
  where
    by : (o : Option Channel)
        → is_some (channel_in k (option_map_or (λ old. set_value (is_at (nat_cmp number)) s.channels c) o s.channels)) ≡ true
        → IsOpen k s
    by None g = g
    by (Some old) g = some-set k (is_at (nat_cmp number)) s.channels c g

-- ---- a try leaves its channel, where it is on one that is open

pub data HasLeft (channel id : ℕ) (s t : ChannelsState) : Type 0 where
  is_gone : t.tries ≡ tries_without channel id s → HasLeft channel id s t
  was_closed : t.tries ≡ s.tries → is_some (channel_at channel s) ≡ false → HasLeft channel id s t
  was_gone : t.tries ≡ s.tries → has_try channel id s ≡ false → HasLeft channel id s t

pub record Leaving (channel id : ℕ) (s t : ChannelsState) : Type 0 where
  pub left : HasLeft channel id s t
  pub next : t.next ≡ s.next
  pub still : (k : ℕ) → IsOpen k t → IsOpen k s

module _ (channel id until : ℕ) (s : ChannelsState) where
  leaving-last : (c : Channel) (kind : ChannelKind) → Leaving channel id s (left_last channel id until c kind s)
  leaving-last c Datagram = record {
    left = is_gone refl;
    next = refl;
    still = λ k h. some-removed k (is_at (nat_cmp channel)) s.channels h;
  }
  leaving-last c Stream = record {
    left = is_gone refl;
    next = refl;
    still = λ k h. open-replaced k channel (record c { tries = c.tries - 1; idle_until = Some until }) s h;
  }

  leaving-in : (c : Channel) → Leaving channel id s (left_in channel id until s c)
  leaving-in c = by (has_others c)
    where
      by : (b : Bool)
          → Leaving channel id s (cond b (left_to_others channel id c s) (left_last channel id until c c.kind s))
      by true = record {
        left = is_gone refl;
        next = refl;
        still = λ k h. open-replaced k channel (record c { tries = c.tries - 1; idle_until = None }) s h;
      }
      by false = leaving-last c c.kind

  pub leaving : Leaving channel id s (left channel id until s)
  leaving = by (has_try channel id s) refl
    where
      on : (c : Option Channel) → channel_at channel s ≡ c
          → Leaving channel id s (option_map_or (left_in channel id until s) c s)
      on None is = record {
        left = was_closed refl (ap (λ (o : Option Channel). is_some o) is);
        next = refl;
        still = λ k h. h;
      }
      on (Some c) is = leaving-in c

      by : (b : Bool) → has_try channel id s ≡ b
          → Leaving channel id s (option_map_or (left_in channel id until s) (cond b (channel_at channel s) None) s)
      by true is = on (channel_at channel s) refl
      by false is = record { left = was_gone refl is; next = refl; still = λ k h. h }

-- a channel is closed
pub record Closing (s t : ChannelsState) : Type 0 where
  pub tries : t.tries ≡ s.tries
  pub next : t.next ≡ s.next
  pub still : (k : ℕ) → IsOpen k t → IsOpen k s

pub closing : (channel : ℕ) (s : ChannelsState) → Closing s (closed channel s)
closing channel s = by (closable channel s)
  where
    by : (c : Option Channel) → Closing s (option_map_or (closed_one channel s) c s)
    by None = record { tries = refl; next = refl; still = λ k h. h }
    by (Some c) = record {
      tries = refl;
      next = refl;
      still = λ k h. some-removed k (is_at (nat_cmp channel)) s.channels h;
    }

-- ---- one is made

pub record Making (channel id n : ℕ) (s t : ChannelsState) : Type 0 where
  pub new : transaction_at channel id s ≡ None
  pub tries : t.tries ≡ insert_entry pair_cmp s.tries (channel, id) n
  pub opens : (k : ℕ) → IsOpen k t → (k ≡ channel) ⊎ IsOpen k s
  pub at : IsOpen channel s ⊎ (channel ≡ s.next)
  pub grows : s.next ≤ t.next
  pub given : channel < t.next

abbrev pub AreOldTries : ChannelsState → Type 0
AreOldTries s = (channel id n : ℕ) → transaction_at channel id s ≡ Some n → channel < s.next

pub making-open : (channel id n : ℕ) (s : ChannelsState) → is_some (joinable channel id s) ≡ true
    → AllByRecursion (λ p. p.0 < s.next) s.channels → Making channel id n s (joined channel id n s)
making-open channel id n s can old = by (has_try channel id s) refl can
  where
    none : (o : Option ℕ) → is_some o ≡ false → o ≡ None
    none None e = refl
    none (Some x) e = absurd (true≢false e)

    number : (es : List (ℕ × Channel)) → AllByRecursion (λ p. p.0 < s.next) es
        → is_some (channel_in channel es) ≡ true → channel < s.next
    number [] all h = absurd (true≢false (sym h))
    number (e ∷ es) all h = here (is_at (nat_cmp channel) e.0) refl h (number es all.1)
      where
        here : (b : Bool) → is_at (nat_cmp channel) e.0 ≡ b
            → is_some (cond b (Some e.1) (lookup (is_at (nat_cmp channel)) es)) ≡ true
            → (is_some (channel_in channel es) ≡ true → channel < s.next) → channel < s.next
        here true is g more = let same = at-is channel e.0 is in let less : e.0 < s.next = all.0 in omega (arith, same, less)
        here false is g more = more g

    on : has_try channel id s ≡ false → (o : Option Channel) → channel_at channel s ≡ o
        → is_some (option_and_then (if_it_takes_try s.limits) o) ≡ true
        → Making channel id n s (option_map_or (joined_to channel id n s) (option_and_then (if_it_takes_try s.limits) o) s)
    on free None is h = absurd (true≢false (sym h))
    on free (Some c) is h = takes (takes_try s.limits c) h
      where
        is_open : IsOpen channel s
        is_open = ap (λ (o : Option Channel). is_some o) is

        takes : (b : Bool) → is_some (cond {A = Option Channel} b (Some c) None) ≡ true
            → Making channel id n s (option_map_or (joined_to channel id n s) (cond b (Some c) None) s)
        takes false g = absurd (true≢false (sym g))
        takes true g = record {
          new = none (transaction_at channel id s) free;
          tries = refl;
          opens = λ k o. inr (open-replaced k channel (with_one_more c) s o);
          at = inl is_open;
          grows = omega arith;
          given = number s.channels old is_open;
        }

    by : (b : Bool) → has_try channel id s ≡ b
        → is_some (cond b None (option_and_then (if_it_takes_try s.limits) (channel_at channel s))) ≡ true
        → Making channel id n s
        (option_map_or (joined_to channel id n s) (cond b None (option_and_then (if_it_takes_try s.limits) (channel_at channel s))) s)
    by true is h = absurd (true≢false (sym h))
    by false is h = on is (channel_at channel s) refl h

pub making-new : (server : ℕ) (kind : ChannelKind) (channel id n : ℕ) (s : ChannelsState)
    → number_given s ≡ Some channel → AreOldTries s → Making channel id n s (opened_for server kind id n s)
making-new server kind channel id n s given old = by (has_place s) given
  where
    fresh : (o : Option ℕ) → transaction_at s.next id s ≡ o → o ≡ None
    fresh None e = refl
    fresh (Some m) e = let less = old s.next id m e in absurd (omega (arith, less))

    by : (b : Bool) → cond b (Some s.next) None ≡ Some channel
        → Making channel id n s (cond b (record s {
          next = s.next + 1;
          channels = insert_entry nat_cmp s.channels s.next (with_one_more (new_channel server kind));
          tries = insert_entry pair_cmp s.tries (s.next, id) n;
        }) s)
    by false e = absurd cc
    by true e =
        let same : s.next ≡ channel = cc in
        subst (λ (k : ℕ). Making k id n s (record s {
          next = s.next + 1;
          channels = insert_entry nat_cmp s.channels s.next (with_one_more (new_channel server kind));
          tries = insert_entry pair_cmp s.tries (s.next, id) n;
        })) same (record {
          new = fresh (transaction_at s.next id s) refl;
          tries = refl;
          opens = λ k o. some-inserted k s.next (with_one_more (new_channel server kind)) s.channels o;
          at = inr refl;
          grows = omega arith;
          given = omega arith;
        })
