-- What came and was not read yet came on its channel while it was open.
use Rattle.std.proofs.Common.{◌≡◌, ℕ, ◌+◌, ◌*◌, Bool, true, false, cond, not, ◌&&◌, List, [], ◌∷◌, ◌++◌, length, take, drop, refl, ap, ap₂, sym, subst, ◌∙◌, append_assoc, inl, inr, eqb, eqb-true, eq-eqb, true≢false, arith, take-append-drop, length-take}
use Rattle.std.specs.Prelude.{Contains, Option, None, Some, IfSome, nat_lt, slice_get}
use Rattle.std.specs.Ordering.{nat_cmp}
use Rattle.std.specs.List.{AllByRecursion}
use Rattle.std.specs.Map.{remove_entry, set_value}
use Rattle.std.specs.BTreeMap.{insert_entry, is_at}
use Rattle.std.specs.Option.{option_map_or, option_and_then}
use Rattle.std.proofs.lemmas.Bool.{ltb-false}
use Rattle.std.proofs.lemmas.List.Elements.{Contains-push}
use Rattle.hickory_resolver_channels.specs.Channels.{channel_at}
use Rattle.hickory_resolver_channels.specs.declared.channel.Channel.{Channel}
use Rattle.hickory_resolver_channels.specs.declared.channel.ChannelKind.{ChannelKind}
use Rattle.hickory_resolver_channels.specs.declared.channel.ChannelKind.TheVariants.{Datagram, Stream}
use Rattle.hickory_resolver_tries.specs.Stream.{first_of}
use Rattle.hickory_resolver_traffic.specs.Doing.{is_stream_kind}
use Rattle.hickory_resolver_traffic.specs.Inbox.{MessageValue, InboxState, empty_inbox, with_message, with_octets, with_piece, without_message, without_unread, without_stream, octets_in, first_message, cut_off, cut_on}
use Rattle.hickory_resolver_traffic.specs.Traffic.{taken_in}
use Rattle.hickory_resolver_traffic.specs.declared.inbox.ChannelFailure.{ChannelFailure}
use Rattle.hickory_resolver_pool.specs.Laws.{octets_come}
use Rattle.hickory_resolver_pool.specs.Pool.{PoolState}
use Rattle.hickory_resolver_pool.specs.declared.pool.Action.{Action}
use Rattle.hickory_resolver_pool_theorems.specs.Runs.{Happening, came, did}
use Rattle.hickory_resolver_pool_theorems.specs.Wire.{CameOn, IsMessageOf, datagrams_on, stream_on, is_open_datagram, is_open_stream}
use Rattle.hickory_resolver_pool_theorems.proofs.Keys.{Apart, apart-is, nat-self, found-inserted, found-set, others-inserted, others-set, others-removed, apart-set, apart-inserted, apart-removed, gone-removed}
use Rattle.hickory_resolver_pool_theorems.proofs.Wires.{came-more}

-- what is left of a stream
pub record IsRestOf (stream rest : List ℕ) : Type 0 where
  pub before : List ℕ
  pub is : stream ≡ before ++ rest

abbrev pub Rest : List Happening → ℕ → Option (List ℕ) → Type 0
Rest past q o = IfSome o (IsRestOf (stream_on q past))

abbrev pub IsOnWire : List Happening → MessageValue → Type 0
IsOnWire past m = CameOn past m.channel m.octets

pub record IsBox (past : List Happening) (i : InboxState) : Type 0 where
  pub messages : AllByRecursion (IsOnWire past) i.messages
  pub streams : (q : ℕ) → IfSome (octets_in q i.streams) (IsRestOf (stream_on q past))
  pub apart : Apart i.streams

pub box-first : (past : List Happening) → IsBox past empty_inbox
box-first past = record { messages = tt; streams = λ q. tt; apart = tt }

-- ---- messages

messages-more : (a : Happening) (past : List Happening) (ms : List MessageValue) → AllByRecursion (IsOnWire past) ms
    → AllByRecursion (IsOnWire (a ∷ past)) ms
messages-more a past [] all = tt
messages-more a past (m ∷ ms) all = (came-more a past m.channel m.octets all.0, messages-more a past ms all.1)

messages-pushed : (past : List Happening) (ms : List MessageValue) (m : MessageValue) → AllByRecursion (IsOnWire past) ms
    → IsOnWire past m → AllByRecursion (IsOnWire past) (ms ++ m ∷ [])
messages-pushed past [] m all k = (k, tt)
messages-pushed past (x ∷ xs) m all k = (all.0, messages-pushed past xs m all.1 k)

messages-dropped : (past : List Happening) (ms : List MessageValue) → AllByRecursion (IsOnWire past) ms
    → AllByRecursion (IsOnWire past) (drop 1 ms)
messages-dropped past [] all = tt
messages-dropped past (m ∷ ms) all = all.1

first-in : (past : List Happening) (ms : List MessageValue) (m : MessageValue) → AllByRecursion (IsOnWire past) ms
    → slice_get ms 0 ≡ Some m → IsOnWire past m
first-in past [] m all e = absurd cc
first-in past (x ∷ xs) m all e = let same : x ≡ m = cc in subst (IsOnWire past) same all.0

pub box-message : (past : List Happening) (i : InboxState) (m : MessageValue) → IsBox past i → first_message i ≡ Some m
    → CameOn past m.channel m.octets
box-message past i m b e = first-in past i.messages m b.messages e

module _ (past : List Happening) (i : InboxState) (b : IsBox past i) where
  pub box-without_message : IsBox past (without_message i)
  box-without_message = record {
    messages = messages-dropped past i.messages b.messages;
    streams = b.streams;
    apart = b.apart;
  }

  pub box-failures : (failures : List ChannelFailure) → IsBox past (record i { failures = failures })
  box-failures failures = record { messages = b.messages; streams = b.streams; apart = b.apart }

  pub box-unread : (unread : List ℕ) → IsBox past (record i { unread = unread })
  box-unread unread = record { messages = b.messages; streams = b.streams; apart = b.apart }

  -- ---- a stream is given up

  pub box-without_stream : (channel : ℕ) → IsBox past (without_stream channel i)
  box-without_stream channel = record {
    messages = b.messages;
    streams = λ q. by q (eqb q channel) refl;
    apart = apart-removed channel i.streams b.apart;
  }
    where
      by : (q : ℕ) (same : Bool) → eqb q channel ≡ same
          → Rest past q (octets_in q (remove_entry (is_at (nat_cmp channel)) i.streams))
      by q true e =
          let is = eqb-true q channel e in
          subst (Rest past q)
          (sym (ap (λ (n : ℕ). octets_in n (remove_entry (is_at (nat_cmp channel)) i.streams)) is
          ∙ gone-removed channel i.streams b.apart)) tt
      by q false e =
          subst (Rest past q) (sym (others-removed q channel (apart-is q channel e) i.streams)) (b.streams q)

  -- ---- a message is cut off

  pub record IsFirst (stream message rest : List ℕ) : Type 0 where
    pub high : ℕ
    pub low : ℕ
    pub is : stream ≡ high ∷ low ∷ (message ++ rest)
    pub length_is : length message ≡ high * 256 + low

  -- a test that gave something gave this
  gave : {A : Type 0} (t : Bool) (x y : A) → cond t None (Some x) ≡ Some y → (t ≡ false) × (x ≡ y)
  gave true x y h = absurd cc
  gave false x y h = (refl, cc)

  first-parts : (stream message rest : List ℕ) → first_of stream ≡ Some (message, rest) → IsFirst stream message rest
  first-parts [] message rest e = absurd cc
  first-parts (high ∷ []) message rest e = absurd cc
  first-parts (high ∷ low ∷ octets) message rest e =
      let k : ℕ = high * 256 + low in
      let g = gave (nat_lt (length octets) k) (take k octets, drop k octets) (message, rest) e in
      let room = ltb-false (length octets) k g.0 in
      let one : take k octets ≡ message = ap (λ (p : List ℕ × List ℕ). p.0) g.1 in
      let other : drop k octets ≡ rest = ap (λ (p : List ℕ × List ℕ). p.1) g.1 in
      record {
        high = high;
        low = low;
        is = ap (λ (s : List ℕ). high ∷ low ∷ s) (sym (take-append-drop k octets) ∙ ap₂ (λ (x y : List ℕ). x ++ y) one other);
        length_is = ap length (sym one) ∙ length-take k octets ∙ omega (arith, room);
      }

  message-of : (stream held message rest : List ℕ) → IsRestOf stream held → IsFirst held message rest
      → IsMessageOf stream message
  message-of stream held message rest r f = record {
    before = r.before;
    behind = rest;
    high = f.high;
    low = f.low;
    stands = r.is ∙ ap (λ (s : List ℕ). r.before ++ s) f.is;
    length_is = f.length_is;
  }

  rest-of : (stream held message rest : List ℕ) → IsRestOf stream held → IsFirst held message rest → IsRestOf stream rest
  rest-of stream held message rest r f = record {
    before = r.before ++ f.high ∷ f.low ∷ message;
    is = r.is ∙ ap (λ (s : List ℕ). r.before ++ s) f.is ∙ sym (append_assoc r.before (f.high ∷ f.low ∷ message) rest);
  }

  module _ (channel : ℕ) where
    cut-one : (held message rest : List ℕ) → octets_in channel i.streams ≡ Some held
        → first_of held ≡ Some (message, rest) → IsBox past (cut_off channel i (message, rest))
    cut-one held message rest has first = record {
      messages = messages-pushed past i.messages (record { channel = channel; octets = message }) b.messages
          (inr (message-of (stream_on channel past) held message rest before (first-parts held message rest first)));
      streams = λ q. by q (eqb q channel) refl;
      apart = apart-set channel rest i.streams b.apart;
    }
      where
        before : IsRestOf (stream_on channel past) held
        before = subst (Rest past channel) has (b.streams channel)

        here : Rest past channel (octets_in channel (set_value (is_at (nat_cmp channel)) i.streams rest))
        here =
            subst (Rest past channel) (sym (found-set (is_at (nat_cmp channel)) i.streams held rest has))
            (rest-of (stream_on channel past) held message rest before (first-parts held message rest first))

        by : (q : ℕ) (same : Bool) → eqb q channel ≡ same
            → Rest past q (octets_in q (set_value (is_at (nat_cmp channel)) i.streams rest))
        by q true e =
            subst (λ (n : ℕ). Rest past n (octets_in n (set_value (is_at (nat_cmp channel)) i.streams rest)))
            (sym (eqb-true q channel e)) here
        by q false e =
            subst (Rest past q) (sym (others-set q channel (apart-is q channel e) rest i.streams)) (b.streams q)

    pub box-cut : IsBox past (cut_on channel i)
    box-cut = by (octets_in channel i.streams) refl
      where
        first : (held : List ℕ) → octets_in channel i.streams ≡ Some held → (o : Option (List ℕ × List ℕ))
            → first_of held ≡ o → IsBox past (option_map_or (cut_off channel i) o (without_unread i))
        first held has None e = box-unread (drop 1 i.unread)
        first held has (Some p) e = cut-one held p.0 p.1 has e

        by : (o : Option (List ℕ)) → octets_in channel i.streams ≡ o
            → IsBox past (option_map_or (cut_off channel i) (option_and_then first_of o) (without_unread i))
        by None e = box-unread (drop 1 i.unread)
        by (Some held) e = first held e (first_of held) refl

  -- ---- a step, and events that bring no octets

  pub box-step : (s : PoolState) (r : Option Action) → IsBox (did s r ∷ past) i
  box-step s r = record {
    messages = messages-more (did s r) past i.messages b.messages;
    streams = b.streams;
    apart = b.apart;
  }

  pub box-later : (a : Happening) → ((q : ℕ) → stream_on q (a ∷ past) ≡ stream_on q past) → IsBox (a ∷ past) i
  box-later a same = record {
    messages = messages-more a past i.messages b.messages;
    streams = λ q. subst (λ (stream : List ℕ). IfSome (octets_in q i.streams) (IsRestOf stream)) (sym (same q)) (b.streams q);
    apart = b.apart;
  }

  -- ---- octets come

  module _ (s : PoolState) (channel : ℕ) (octets : List ℕ) (now : ℕ) where
    abbrev brings : Happening
    brings = came s (octets_come channel octets now)

    stays : is_open_stream channel s ≡ false → (q : ℕ) → stream_on q (brings ∷ past) ≡ stream_on q past
    stays closed q = by (eqb channel q) refl
      where
        by : (same : Bool) → eqb channel q ≡ same
            → cond (same && is_open_stream q s) (stream_on q past ++ octets) (stream_on q past) ≡ stream_on q past
        by true e =
            ap (λ (o : Bool). cond o (stream_on q past ++ octets) (stream_on q past))
            (ap (λ (n : ℕ). is_open_stream n s) (sym (eqb-true channel q e)) ∙ closed)
        by false e = refl

    pub box-closed : channel_at channel s.traffic.shared.channels ≡ None → IsBox (brings ∷ past) i
    box-closed none =
        box-later brings (stays (ap (λ (c : Option Channel). option_map_or (λ x. is_stream_kind x.kind) c false) none))

    box-datagram : (c : Channel) → channel_at channel s.traffic.shared.channels ≡ Some c → c.kind ≡ Datagram
        → IsBox (brings ∷ past) (with_message channel octets i)
    box-datagram c has kind = record {
      messages =
          messages-pushed (brings ∷ past) i.messages (record { channel = channel; octets = octets })
          later.messages (inl here);
      streams = later.streams;
      apart = later.apart;
    }
      where
        stream_not : is_open_stream channel s ≡ false
        stream_not =
            ap (λ (o : Option Channel). option_map_or (λ x. is_stream_kind x.kind) o false) has
            ∙ ap is_stream_kind kind

        datagram : is_open_datagram channel s ≡ true
        datagram =
            ap (λ (o : Option Channel). option_map_or (λ x. not (is_stream_kind x.kind)) o false) has
            ∙ ap (λ (k : ChannelKind). not (is_stream_kind k)) kind

        later : IsBox (brings ∷ past) i
        later = box-later brings (stays stream_not)

        here : Contains (datagrams_on channel (brings ∷ past)) octets
        here =
            subst (λ (o : Bool). Contains (cond o (datagrams_on channel past ++ octets ∷ []) (datagrams_on channel past)) octets)
            (sym (ap₂ (λ (x y : Bool). x && y) (eq-eqb channel channel refl) datagram)) (Contains-push (datagrams_on channel past) octets)

    box-stream : (c : Channel) → channel_at channel s.traffic.shared.channels ≡ Some c → c.kind ≡ Stream
        → IsBox (brings ∷ past) (with_piece channel octets i)
    box-stream c has kind = record {
      messages = messages-more brings past i.messages b.messages;
      streams = λ q. by q (eqb q channel) refl;
      apart = apart (octets_in channel i.streams) refl;
    }
      where
        stream_is : is_open_stream channel s ≡ true
        stream_is =
            ap (λ (o : Option Channel). option_map_or (λ x. is_stream_kind x.kind) o false) has
            ∙ ap is_stream_kind kind

        longer : stream_on channel (brings ∷ past) ≡ stream_on channel past ++ octets
        longer =
            ap (λ (o : Bool). cond o (stream_on channel past ++ octets) (stream_on channel past))
            (ap₂ (λ (x y : Bool). x && y) (eq-eqb channel channel refl) stream_is)

        same : (q : ℕ) → eqb q channel ≡ false → stream_on q (brings ∷ past) ≡ stream_on q past
        same q other =
            ap (λ (o : Bool). cond (o && is_open_stream q s) (stream_on q past ++ octets) (stream_on q past))
            (turned (eqb channel q) refl)
          where
            turned : (e : Bool) → eqb channel q ≡ e → e ≡ false
            turned false e = refl
            turned true e =
                absurd (true≢false (sym (ap (λ (n : ℕ). eqb n channel) (sym (eqb-true channel q e)) ∙ eq-eqb channel channel refl) ∙ other))

        here : (o : Option (List ℕ)) → octets_in channel i.streams ≡ o
            → Rest (brings ∷ past) channel (octets_in channel (option_map_or (λ held. set_value (is_at (nat_cmp channel)) i.streams (held ++ octets))
            o (insert_entry nat_cmp i.streams channel octets)))
        here None none =
            subst (Rest (brings ∷ past) channel) (sym (found-inserted nat_cmp nat-self channel octets i.streams))
            (record { before = stream_on channel past; is = longer })
        here (Some held) has =
            let r : IsRestOf (stream_on channel past) held =
            subst (λ (o : Option (List ℕ)). IfSome o (IsRestOf (stream_on channel past))) has (b.streams channel) in
            subst (Rest (brings ∷ past) channel) (sym (found-set (is_at (nat_cmp channel)) i.streams held (held ++ octets) has))
            (record {
              before = r.before;
              is = longer ∙ ap (λ (x : List ℕ). x ++ octets) r.is ∙ append_assoc r.before held octets;
            })

        there : (q : ℕ) → eqb q channel ≡ false → (o : Option (List ℕ))
            → Rest (brings ∷ past) q (octets_in q (option_map_or (λ held. set_value (is_at (nat_cmp channel)) i.streams (held ++ octets))
            o (insert_entry nat_cmp i.streams channel octets)))
        there q other o =
            subst (λ (stream : List ℕ). IfSome (octets_in q (option_map_or (λ held. set_value (is_at (nat_cmp channel)) i.streams (held ++ octets)) o (insert_entry nat_cmp i.streams channel octets))) (IsRestOf stream))
            (sym (same q other)) (before o)
          where
            before : (p : Option (List ℕ)) → IfSome (octets_in q (option_map_or (λ held. set_value (is_at (nat_cmp channel)) i.streams (held ++ octets)) p (insert_entry nat_cmp i.streams channel octets)))
                (IsRestOf (stream_on q past))
            before None =
                subst (λ (x : Option (List ℕ)). IfSome x (IsRestOf (stream_on q past)))
                (sym (others-inserted q channel (apart-is q channel other) octets i.streams)) (b.streams q)
            before (Some held) =
                subst (λ (x : Option (List ℕ)). IfSome x (IsRestOf (stream_on q past)))
                (sym (others-set q channel (apart-is q channel other) (held ++ octets) i.streams)) (b.streams q)

        by : (q : ℕ) (e : Bool) → eqb q channel ≡ e → Rest (brings ∷ past) q (octets_in q (with_octets channel octets i.streams))
        by q true e =
            subst (λ (n : ℕ). Rest (brings ∷ past) n (octets_in n (with_octets channel octets i.streams))) (sym (eqb-true q channel e))
            (here (octets_in channel i.streams) refl)
        by q false e = there q e (octets_in channel i.streams)

        apart : (o : Option (List ℕ)) → octets_in channel i.streams ≡ o
            → Apart (option_map_or (λ held. set_value (is_at (nat_cmp channel)) i.streams (held ++ octets)) o
            (insert_entry nat_cmp i.streams channel octets))
        apart None none = apart-inserted channel octets i.streams none b.apart
        apart (Some held) has = apart-set channel (held ++ octets) i.streams b.apart

    pub box-open : (c : Channel) → channel_at channel s.traffic.shared.channels ≡ Some c
        → IsBox (brings ∷ past) (taken_in c.kind channel octets i)
    box-open c has = by c.kind refl
      where
        by : (kind : ChannelKind) → c.kind ≡ kind → IsBox (brings ∷ past) (taken_in kind channel octets i)
        by Datagram kind = box-datagram c has kind
        by Stream kind = box-stream c has kind
