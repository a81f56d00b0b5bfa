-- Which channels there are after a try is made or leaves, and after one is closed.
use Rattle.std.proofs.Common.{◌≡◌, ◌+◌, ℕ, Bool, true, false, cond, not, ◌&&◌, ◌||◌, eqb, eq-eqb, ne_eqb, refl, ap, sym, ◌∙◌, true≢false}
use Rattle.std.specs.Prelude.{Option, None, Some}
use Rattle.std.specs.Ordering.{nat_cmp, is_eq}
use Rattle.std.specs.Map.{remove_entry, set_value}
use Rattle.std.specs.BTreeMap.{insert_entry, is_at}
use Rattle.std.specs.Option.{is_some, option_map_or, option_and_then}
use Rattle.hickory_resolver_channels.specs.Channels.{ChannelsState, channel_at, channel_in, has_try, pair_cmp, replaced, left, left_in, left_last, left_to_others, has_others, closes, closes_last, closed, closed_one, if_empty, joined, joined_to, joinable, opened_for, has_place, new_channel, with_one_more, with_one_less, channel_of_try}
use Rattle.hickory_resolver_channels.specs.declared.channel.Channel.{Channel}
use Rattle.hickory_resolver_channels.specs.declared.channel.ChannelKind.{ChannelKind}
use Rattle.hickory_resolver_channels.specs.declared.channel.ChannelKind.TheVariants.{Datagram, Stream}
use Rattle.hickory_resolver_pool_theorems.proofs.Counts.{tries_of}
use Rattle.hickory_resolver_pool_theorems.proofs.Keys.{nat-self, at-is, found-inserted, found-set, others-inserted, others-set, others-removed, gone-removed, Apart}

abbrev pub present : ℕ → ChannelsState → Bool
present k s = is_some (channel_at k s)

-- a number is this one, or another
which : (P : Type 0) (q k : ℕ) → (q ≡ k → P) → (is_at (nat_cmp q) k ≡ false → eqb k q ≡ false → P) → P
which P q k one two = by (is_at (nat_cmp q) k) refl
  where
    by : (b : Bool) → is_at (nat_cmp q) k ≡ b → P
    by true is = one (at-is q k is)
    by false is =
        two is (ne_eqb k q (λ (same : k ≡ q). true≢false (sym (ap (λ (n : ℕ). is_at (nat_cmp q) n) same ∙ ap is_eq (nat-self q)) ∙ is)))

and-true : (b : Bool) → (b && true) ≡ b
and-true true = refl
and-true false = refl

and-false : (b : Bool) → (b && false) ≡ false
and-false true = refl
and-false false = refl

or-false : (b : Bool) → (b || false) ≡ b
or-false true = refl
or-false false = refl

or-true : (b : Bool) → (b || true) ≡ true
or-true true = refl
or-true false = refl

module _ (s : ChannelsState) where
  present-replaced : (number : ℕ) (c : Channel) (k : ℕ)
      → is_some (channel_in k (replaced number c s.channels)) ≡ present k s
  present-replaced number c k = by (channel_in number s.channels) refl
    where
      by : (o : Option Channel) → channel_in number s.channels ≡ o
          → is_some (channel_in k (option_map_or (λ old. set_value (is_at (nat_cmp number)) s.channels c) o s.channels)) ≡ present k s
      by None at = refl
      by (Some old) at =
          which (is_some (channel_in k (set_value (is_at (nat_cmp number)) s.channels c)) ≡ present k s) k number
          (λ same.
          ap (λ (n : ℕ). is_some (channel_in n (set_value (is_at (nat_cmp number)) s.channels c))) same
          ∙ ap (λ (o : Option Channel). is_some o) (found-set (is_at (nat_cmp number)) s.channels old c at)
          ∙ sym (ap (λ (n : ℕ). is_some (channel_in n s.channels)) same ∙ ap (λ (o : Option Channel). is_some o) at))
          (λ apart other. ap (λ (o : Option Channel). is_some o) (others-set k number apart c s.channels))

  pub present-joined : (number id n k : ℕ) → present k (joined number id n s) ≡ present k s
  present-joined number id n k = by (joinable number id s)
    where
      by : (c : Option Channel) → present k (option_map_or (joined_to number id n s) c s) ≡ present k s
      by None = refl
      by (Some c) = present-replaced number (with_one_more c) k

  pub present-opened : (server : ℕ) (kind : ChannelKind) (id n k : ℕ) → has_place s ≡ true
      → present k (opened_for server kind id n s) ≡ (present k s || eqb s.next k)
  present-opened server kind id n k room =
      ap (λ (b : Bool). present k (cond b (record s {
        next = s.next + 1;
        channels = insert_entry nat_cmp s.channels s.next c;
        tries = insert_entry pair_cmp s.tries (s.next, id) n;
      }) s)) room
      ∙ which (is_some (channel_in k (insert_entry nat_cmp s.channels s.next c)) ≡ (present k s || eqb s.next k)) k s.next
      (λ same.
      ap (λ (m : ℕ). is_some (channel_in m (insert_entry nat_cmp s.channels s.next c))) same
      ∙ ap (λ (o : Option Channel). is_some o) (found-inserted nat_cmp nat-self s.next c s.channels)
      ∙ sym (ap (λ (b : Bool). present k s || b) (eq-eqb s.next k (sym same)) ∙ or-true (present k s)))
      (λ apart other.
      ap (λ (o : Option Channel). is_some o) (others-inserted k s.next apart c s.channels)
      ∙ sym (ap (λ (b : Bool). present k s || b) other ∙ or-false (present k s)))
    where
      c : Channel
      c = with_one_more (new_channel server kind)

  module _ (apart : Apart s.channels) where
    present-removed : (number k : ℕ)
        → is_some (channel_in k (remove_entry (is_at (nat_cmp number)) s.channels)) ≡ (present k s && not (eqb number k))
    present-removed number k =
        which (is_some (channel_in k (remove_entry (is_at (nat_cmp number)) s.channels)) ≡ (present k s && not (eqb number k))) k number
        (λ same.
        ap (λ (m : ℕ). is_some (channel_in m (remove_entry (is_at (nat_cmp number)) s.channels))) same
        ∙ ap (λ (o : Option Channel). is_some o) (gone-removed number s.channels apart)
        ∙ sym (ap (λ (b : Bool). present k s && not b) (eq-eqb number k (sym same)) ∙ and-false (present k s)))
        (λ other un.
        ap (λ (o : Option Channel). is_some o) (others-removed k number other s.channels)
        ∙ sym (ap (λ (b : Bool). present k s && not b) un ∙ and-true (present k s)))

    pub present-left : (number id until k : ℕ)
        → present k (left number id until s) ≡ (present k s && not (closes number id s && eqb number k))
    present-left number id until k = by (channel_of_try number id s)
      where
        last : (c : Channel) (kind : ChannelKind) → has_others c ≡ false
            → present k (left_last number id until c kind s) ≡ (present k s && not (closes_last c kind && eqb number k))
        last c Datagram few =
            present-removed number k
            ∙ sym (ap (λ (b : Bool). present k s && not (not b && eqb number k)) few)
        last c Stream few =
            present-replaced number (with_one_less (Some until) c) k ∙ sym (and-true (present k s))

        others : (c : Channel) (b : Bool) → has_others c ≡ b
            → present k (cond b (left_to_others number id c s) (left_last number id until c c.kind s))
            ≡ (present k s && not (closes_last c c.kind && eqb number k))
        others c true many = present-replaced number (with_one_less None c) k ∙ sym (none c.kind)
          where
            none : (kind : ChannelKind) → (present k s && not (closes_last c kind && eqb number k)) ≡ present k s
            none Datagram = ap (λ (b : Bool). present k s && not (not b && eqb number k)) many ∙ and-true (present k s)
            none Stream = and-true (present k s)
        others c false few = last c c.kind few

        by : (o : Option Channel) → present k (option_map_or (left_in number id until s) o s)
            ≡ (present k s && not (option_map_or (λ c. closes_last c c.kind) o false && eqb number k))
        by None = sym (and-true (present k s))
        by (Some c) = others c (has_others c) refl

    pub present-closed : (number k : ℕ) → tries_of (channel_at number s) ≡ 0
        → present k (closed number s) ≡ (present k s && not (eqb number k))
    present-closed number k none = by (channel_at number s) refl none
      where
        empty : (c : Channel) → c.tries ≡ 0 → (b : Bool) → eqb c.tries 0 ≡ b
            → present k (option_map_or (closed_one number s) (cond b (Some c) None) s) ≡ (present k s && not (eqb number k))
        empty c none true is = present-removed number k
        empty c none false is = absurd (true≢false (sym (eq-eqb c.tries 0 none) ∙ is))

        by : (o : Option Channel) → channel_at number s ≡ o → tries_of o ≡ 0
            → present k (option_map_or (closed_one number s) (option_and_then if_empty o) s) ≡ (present k s && not (eqb number k))
        by None at z =
            which (present k s ≡ (present k s && not (eqb number k))) k number
            (λ same.
            let gone : present k s ≡ false = ap (λ (m : ℕ). present m s) same ∙ ap (λ (o : Option Channel). is_some o) at in
            gone ∙ sym (ap (λ (b : Bool). b && not (eqb number k)) gone))
            (λ apart other. sym (ap (λ (b : Bool). present k s && not b) other ∙ and-true (present k s)))
        by (Some c) at z = empty c z (eqb c.tries 0) refl

-- what closes a channel is on one that is there
pub closes-there : (number id : ℕ) (s : ChannelsState) → closes number id s ≡ true → present number s ≡ true
closes-there number id s h = by (has_try number id s) h
  where
    by : (b : Bool) → option_map_or (λ c. closes_last c c.kind) (cond b (channel_at number s) None) false ≡ true
        → present number s ≡ true
    by false g = absurd (true≢false (sym g))
    by true g = on (channel_at number s) g
      where
        on : (o : Option Channel) → option_map_or (λ c. closes_last c c.kind) o false ≡ true → is_some o ≡ true
        on None e = absurd (true≢false (sym e))
        on (Some c) e = refl
