-- What look-ups come to, and what is kept of it.
use Rattle.std.proofs.Common.{◌≡◌, ◌∙◌, ℕ, ◌+◌, ◌-◌, ◌<◌, ◌≤◌, Bool, true, false, not, List, [], ◌∷◌, ◌++◌, length, refl, suc, sym, ap, subst, arith, length-append, ◌⊎◌, inl, inr}
use Rattle.std.specs.Prelude.{Option, None, Some, map, nat_le, nat_lt, ◌&&◌, if◌then◌else◌}
use Rattle.std.specs.List.{AllByRecursion}
use Rattle.std.specs.Option.{option_and_then, option_map}
use Rattle.std.proofs.lemmas.Bool.{leb-true, ltb-true}
use Rattle.std.proofs.lemmas.List.Sums.{fold-append}
use Rattle.std.proofs.lemmas.Map.Made.{lookup-map_values}
use Rattle.hickory_proto_core.specs.Records.{RecordValue}
use Rattle.hickory_proto_core.specs.declared.query.Query.{Query}
use Rattle.hickory_proto_wire.specs.declared.wire_message.WireMessage.{WireMessage}
use Rattle.hickory_resolver_pool.specs.Pool.{PoolState}
use Rattle.client_requests.specs.Keys.{key_eq}
use Rattle.client_requests.specs.Requests.{RequestValue}
use Rattle.client_requests.specs.declared.fetch_end.FetchEnd.{FetchEnd}
use Rattle.client_requests.specs.declared.fetch_end.FetchEnd.TheVariants.{Failure, Reply}
use Rattle.failure_replies.specs.declared.failure.FailureReason.TheVariants as reason
use Rattle.second_chance_cache.specs.Laws.{CacheEvent, asks, clears, removes, stores}
use Rattle.second_chance_cache.specs.SecondChance.{CacheValue, Entry, told}
use Rattle.second_chance_cache.specs.declared.bounds.CacheBounds.{CacheBounds}
use Rattle.stored_replies.specs.Stale.{with_ttl}
use Rattle.stored_replies.specs.Key.{is_same_question}
use Rattle.stored_replies.specs.Stored.{StoredValue, elapsed}
use Rattle.stored_replies.specs.Told.{own_question}
use Rattle.stored_replies.specs.declared.choices.TheConstants.{STALE_TTL}
use Rattle.whole_lookups.proofs.InOrder.{asks_few_questions}
use Rattle.whole_lookups.specs.Laws.{after_all, told_by, whole_of}
use Rattle.whole_lookups.specs.Lookups.{LookupValue, after, after_of, begun, gone_on, heard, may_go_on, outcome_of, whole_with}
use Rattle.whole_lookups.specs.declared.choices.TheConstants.{MOST_QUESTIONS}
use Rattle.whole_lookups.specs.declared.heard.Heard.{Heard}
use Rattle.whole_lookups.specs.declared.heard.Heard.TheVariants.{Asks, Fails, Whole}
use Rattle.whole_replies.specs.Kept.{KeptValue, aged, kept_of, next_question}
use Rattle.yimarotu_forwarder.specs.Cached.{CachedValue}
use Rattle.yimarotu_forwarder.specs.Fetches.{FetchValue, fetch_in}
use Rattle.yimarotu_forwarder.specs.Flushing.{is_flushed as is_flushed_key}
use Rattle.yimarotu_forwarder.specs.Forwarders.{ChainEndValue, ForwarderValue, ReplyingValue, new_forwarder, second_of}
use Rattle.yimarotu_forwarder.specs.Late.{late_replying, with_nobody}
use Rattle.yimarotu_forwarder.specs.Telling.{as_told, earlier_second, replies_of, replying_of}
use Rattle.yimarotu_forwarder.specs.declared.choices.TheConstants.{LONGEST_STALE}
use Rattle.yimarotu_forwarder.specs.Leaving.{fetch_without, replying_without}
use Rattle.yimarotu_forwarder.specs.Local.{LocalValue}
use Rattle.yimarotu_forwarder.specs.NextQuestions.{asked_octets}
use Rattle.yimarotu_forwarder.specs.Options.{OptionsValue, stale_seconds}
use Rattle.yimarotu_forwarder.specs.Prefetching.{key_dnssec}
use Rattle.yimarotu_forwarder.specs.Stale.{if_stale, stale_in}
use Rattle.yimarotu_forwarder_theorems.specs.Lookups.{AnswersAreOfReplies, AreHeard, HadOptions, HasShortTtl, HeardReplies, IsAnswer, IsKeptAnswer, IsMadeOf, IsStaleAnswer, AreSince, LastsTo, StaleAnswersAreOfReplies, Storing, ToldReply, WasHeard, WasKnown, WasTold, by_kept_end, by_local_data, by_servers, messages, stored_so}
use Rattle.yimarotu_forwarder_theorems.specs.Runs.{ForwarderEvent, Happening, Runs, at_first, happened, next}
use Rattle.yimarotu_forwarder_theorems.proofs.Cores.{Core, Fetching, IsBegun, IsChainEnd, IsEndOf, IsLed, IsSaid, IsThatOf, Joins, Leaves, Puts, Source, Still, Stills, StoresEnd, as_before, begins_alone, cache_changes, chain_ends, core, end_so, failures_change, has_failed, has_heard, is_flushed, is_heard, is_kept, is_known, is_let_go, is_over, is_told_late, known_here, left_by, more, no_chain_ends, options_at, stored-at, told_reply}
use Rattle.yimarotu_forwarder_theorems.proofs.Events.{EventMoves, event_goes, event_joins, event_leaves, event_options, event_stays, moves}
use Rattle.yimarotu_forwarder_theorems.proofs.Afters.{after-keeps}
use Rattle.yimarotu_forwarder_theorems.proofs.Keys.{same-key}
use Rattle.yimarotu_forwarder_theorems.proofs.KeptValues.{AllKept, StoresSuch, all-after, all-filtered, told-kept}

abbrev Messages : Type 0
Messages = List WireMessage

abbrev Replies : Type 0
Replies = List ToldReply

-- ---- replies that led on

abbrev pub LeadOn : LookupValue → Messages → Type 0
LeadOn l [] = Unit {0}
LeadOn l (m ∷ ms) = (heard m l ≡ Asks) × LeadOn (after m l) ms

one-leads : (l : LookupValue) (ms : Messages) (m : WireMessage) → LeadOn l ms → heard m (after_all l ms) ≡ Asks
    → LeadOn l (ms ++ m ∷ [])
one-leads l [] m lead on = (on, tt)
one-leads l (x ∷ ms) m lead on = (lead.0, one-leads (after x l) ms m lead.1 on)

whole-behind : (l : LookupValue) (ms : Messages) (m : WireMessage) (kept : KeptValue) → LeadOn l ms
    → heard m (after_all l ms) ≡ Whole kept → whole_of l (ms ++ m ∷ []) ≡ Some kept
whole-behind l [] m kept lead is = ap (λ (h : Heard). told_by h [] None) is
whole-behind l (x ∷ ms) m kept lead is =
    ap (λ (h : Heard). told_by h (ms ++ m ∷ []) (whole_of (after x l) (ms ++ m ∷ []))) lead.0
    ∙ whole-behind (after x l) ms m kept lead.1 is

-- each asks one question more
one-asked : (m : WireMessage) (l : LookupValue) → heard m l ≡ Asks → (after m l).count ≡ l.count + 1
one-asked m l on = by (kept_of l.next l.dnssec m) (next_question l.next m.message) on
  where
    going : (k : KeptValue) (next : Query) (b : Bool) → (if b then Asks else Fails) ≡ Asks
        → (if b then gone_on k next l else l).count ≡ l.count + 1
    going k q true is = refl
    going k q false is = absurd cc

    by : (k : Option KeptValue) (next : Option Query) → outcome_of k next l ≡ Asks
        → (after_of k next l).count ≡ l.count + 1
    by None q is = absurd cc
    by (Some k) None is = absurd cc
    by (Some k) (Some q) is = going k q (may_go_on l) is

all-asked : (ms : Messages) (l : LookupValue) → LeadOn l ms → (after_all l ms).count ≡ l.count + length ms
all-asked [] l lead = omega arith
all-asked (m ∷ ms) l lead = omega (arith, all-asked ms (after m l) lead.1, one-asked m l lead.0)

-- with DO or without, all along
dnssec-after : (ms : Messages) (l : LookupValue) → (after_all l ms).dnssec ≡ l.dnssec
dnssec-after [] l = refl
dnssec-after (m ∷ ms) l =
    dnssec-after ms (after m l) ∙ after-keeps (λ (x : LookupValue). x.dnssec) m l (λ k. refl) (λ k q. refl)

-- ---- replies that were told

module _ (P : ToldReply → Type 0) where
  one-behind : (rs : Replies) (r : ToldReply) → AllByRecursion P rs → P r → AllByRecursion P (rs ++ r ∷ [])
  one-behind [] r all one = (one, tt)
  one-behind (x ∷ rs) r all one = (all.0, one-behind rs r all.1 one)

  all-behind : (rs others : Replies) → AllByRecursion P rs → AllByRecursion P others
      → AllByRecursion P (rs ++ others)
  all-behind [] others all rest = rest
  all-behind (x ∷ rs) others all rest = (all.0, all-behind rs others all.1 rest)

messages-behind : (rs : Replies) (r : ToldReply) → messages (rs ++ r ∷ []) ≡ messages rs ++ r.message ∷ []
messages-behind [] r = refl
messages-behind (x ∷ rs) r = ap (λ (ms : Messages). x.message ∷ ms) (messages-behind rs r)

as-many : (rs : Replies) → length (messages rs) ≡ length rs
as-many [] = refl
as-many (r ∷ rs) = ap suc (as-many rs)

heard-told : (past : List Happening) (r : ToldReply) (q : Query) (dnssec : Bool) → WasHeard past r q dnssec
    → WasTold past r
heard-told [] r q dnssec never = absurd never
heard-told (happened event b a ∷ past) r q dnssec (inl now) = inl now.telling
heard-told (happened event b a ∷ past) r q dnssec (inr was) = inr (heard-told past r q dnssec was)

-- one more is heard, by a look-up that has to ask what those before led to
heard-behind : (past : List Happening) (l : LookupValue) (rs : Replies) (r : ToldReply) → AreHeard past l rs
    → WasHeard past r (after_all l (messages rs)).next (after_all l (messages rs)).dnssec
    → AreHeard past l (rs ++ r ∷ [])
heard-behind past l [] r all one = (one, tt)
heard-behind past l (x ∷ rs) r all one = (all.0, heard-behind past (after x.message l) rs r all.1 one)

heard-before : (h : Happening) (past : List Happening) (l : LookupValue) (rs : Replies) → AreHeard past l rs
    → AreHeard (h ∷ past) l rs
heard-before (happened event b a) past l [] all = tt
heard-before (happened event b a) past l (r ∷ rs) all =
    (inr all.0, heard-before (happened event b a) past (after r.message l) rs all.1)

told-before : (h : Happening) (past : List Happening) (rs : Replies) → AllByRecursion (WasTold past) rs
    → AllByRecursion (WasTold (h ∷ past)) rs
told-before (happened event b a) past [] all = tt
told-before (happened event b a) past (r ∷ rs) all = (inr all.0, told-before (happened event b a) past rs all.1)

-- ---- the second from which on a whole ages

-- it was noted at no later second
abbrev IsBy : Option ℕ → ℕ → Type 0
IsBy None second = ⊥
IsBy (Some first) second = first ≤ second

abbrev AreBy : Option ℕ → Replies → Type 0
AreBy heard replies = AllByRecursion (λ (r : ToldReply). IsBy heard r.second) replies

earlier-now : (heard : Option ℕ) (now : ℕ) → earlier_second heard now ≤ now
earlier-now None now = omega arith
earlier-now (Some first) now = omega arith

earlier-all : (heard : Option ℕ) (now : ℕ) (rs : Replies) → AreBy heard rs → AreSince (earlier_second heard now) rs
earlier-all heard now [] all = tt
earlier-all None now (r ∷ rs) all = absurd all.0
earlier-all (Some first) now (r ∷ rs) all =
    let early : first ≤ r.second = all.0 in (omega (arith, early), earlier-all (Some first) now rs all.1)

since-all : (second : ℕ) (heard : Option ℕ) (now : ℕ) (rs : Replies) → second ≡ earlier_second heard now
    → AreBy heard rs → AreSince second rs
since-all second heard now rs is all =
    subst (λ (s : ℕ). AreSince s rs) (sym is) (earlier-all heard now rs all)

since-now : (second : ℕ) (heard : Option ℕ) (now : ℕ) → second ≡ earlier_second heard now → second ≤ now
since-now second heard now is = subst (λ (s : ℕ). s ≤ now) (sym is) (earlier-now heard now)

by-earlier : (heard : Option ℕ) (now : ℕ) (rs : Replies) → AreSince (earlier_second heard now) rs
    → AreBy (Some (earlier_second heard now)) rs
by-earlier heard now [] all = tt
by-earlier heard now (r ∷ rs) all = (all.0, by-earlier heard now rs all.1)

module _ (past : List Happening) where
  -- ---- how far a look-up is

  -- and the second that was noted for it
  pub record IsReached (dnssec : Bool) (l : LookupValue) (noted : Option ℕ) : Type 0 where
    pub question : Query
    pub replies : Replies
    pub told : AllByRecursion (WasTold past) replies
    pub in_turn : AreHeard past (begun question dnssec) replies
    pub reached : l ≡ after_all (begun question dnssec) (messages replies)
    pub lead : LeadOn (begun question dnssec) (messages replies)
    pub asked : l.asked ≡ question
    pub since : AreBy noted replies

  begins-so : (key : List ℕ) (l : LookupValue) (noted : Option ℕ) → IsBegun key l
      → IsReached (key_dnssec key) l noted
  begins-so key l noted (q, is) = record {
    question = q;
    replies = [];
    told = tt;
    in_turn = tt;
    reached = is;
    lead = tt;
    asked = ap (λ (x : LookupValue). x.asked) is;
    since = tt;
  }

  -- what happened said it
  abbrev Was : Source → Type 0
  Was (told_reply r q dnssec) = WasHeard past r q dnssec
  Was (known_here q here second) = WasKnown past q here second
  Was (options_at options second) = HadOptions past options second

  -- of the look-up that those before led to
  heard-next : (dnssec : Bool) (l : LookupValue) (noted : Option ℕ) (r : IsReached dnssec l noted) (x : ToldReply)
      → WasHeard past x l.next l.dnssec → AreHeard past (begun r.question dnssec) (r.replies ++ x ∷ [])
  heard-next dnssec l noted r x was =
      heard-behind past (begun r.question dnssec) r.replies x r.in_turn
      (subst (λ (k : LookupValue). WasHeard past x k.next k.dnssec) r.reached was)

  led-so : {said : Source → Type 0} (dnssec : Bool) (f g : FetchValue) → ((x : Source) → said x → Was x)
      → g.lookup.asked ≡ f.lookup.asked → IsLed said f g → IsReached dnssec f.lookup f.heard
      → IsReached dnssec g.lookup g.heard
  led-so dnssec f g tells same led r =
      let ms = messages r.replies in
      let m = led.reply.message in
      let all : messages (r.replies ++ led.reply ∷ []) ≡ ms ++ m ∷ [] = messages-behind r.replies led.reply in
      let on : heard m (after_all (begun r.question dnssec) ms) ≡ Asks = ap (heard m) (sym r.reached) ∙ led.asks in
      let first = earlier_second f.heard led.reply.second in
      let was = tells (told_reply led.reply f.lookup.next f.lookup.dnssec) led.told in
      record {
        question = r.question;
        replies = r.replies ++ led.reply ∷ [];
        told = one-behind (WasTold past) r.replies led.reply r.told
            (heard-told past led.reply f.lookup.next f.lookup.dnssec was);
        in_turn = heard-next dnssec f.lookup f.heard r led.reply was;
        reached =
            led.led ∙ ap (after m) r.reached
            ∙ sym (fold-append (λ (k : LookupValue) (x : WireMessage). after x k) (begun r.question dnssec) ms
            (m ∷ []))
            ∙ ap (after_all (begun r.question dnssec)) (sym all);
        lead = subst (LeadOn (begun r.question dnssec)) (sym all)
            (one-leads (begun r.question dnssec) ms m r.lead on);
        asked = same ∙ r.asked;
        since = subst (λ (o : Option ℕ). AreBy o (r.replies ++ led.reply ∷ [])) (sym led.since)
            (one-behind (λ (x : ToldReply). first ≤ x.second) r.replies led.reply
            (earlier-all f.heard led.reply.second r.replies r.since) (earlier-now f.heard led.reply.second));
      }

  -- ---- its end

  -- as many replies as that made it, and no more than few
  pub record IsCounted (dnssec : Bool) (s : StoredValue) (most : ℕ) : Type 0 where
    pub replies : Replies
    pub told : AllByRecursion (WasTold past) replies
    pub few : length replies ≤ most
    pub most_are_few : most ≤ MOST_QUESTIONS
    pub made : IsMadeOf past dnssec replies s

  pub record IsKeptCounted (key : List ℕ) (cached : CachedValue) (deadline : ℕ) : Type 0 where
    pub counted : IsCounted (key_dnssec key) cached.reply cached.replies
    pub lasts : LastsTo cached.reply cached.told_until
    pub a_day : deadline ≤ cached.told_until + LONGEST_STALE

  -- one question more than replies led on, and few
  count-reached : (dnssec : Bool) (l : LookupValue) (noted : Option ℕ) (r : IsReached dnssec l noted)
      → l.count ≡ 1 + length r.replies
  count-reached dnssec l noted r =
      ap (λ (x : LookupValue). x.count) r.reached
      ∙ all-asked (messages r.replies) (begun r.question dnssec) r.lead
      ∙ ap (λ (n : ℕ). 1 + n) (as-many r.replies)

  few-reached : (dnssec : Bool) (l : LookupValue) (noted : Option ℕ) → IsReached dnssec l noted
      → l.count ≤ MOST_QUESTIONS
  few-reached dnssec l noted r =
      subst (λ (x : LookupValue). x.count ≤ MOST_QUESTIONS) (sym r.reached)
      (asks_few_questions r.question dnssec (messages r.replies))

  -- with DO or without, all along
  dnssec-reached : (dnssec : Bool) (l : LookupValue) (noted : Option ℕ) → IsReached dnssec l noted
      → l.dnssec ≡ dnssec
  dnssec-reached dnssec l noted r =
      ap (λ (x : LookupValue). x.dnssec) r.reached
      ∙ dnssec-after (messages r.replies) (begun r.question dnssec)

  stored-asked : (dnssec : Bool) (l : LookupValue) (noted : Option ℕ) (r : IsReached dnssec l noted)
      (kept : KeptValue) (how : Storing) (end : FetchEnd) (s : StoredValue) → end ≡ end_so l.asked kept how
      → end ≡ Reply s → s ≡ stored_so r.question kept how
  stored-asked dnssec l noted r kept how end s is h =
      stored-at l.asked (as_told l.asked.name how.options kept) how.second s (sym is ∙ h)
      ∙ ap (λ (q : Query). stored_so q kept how) r.asked

  ended-so : {said : Source → Type 0} (dnssec : Bool) (cache : CacheValue CachedValue) (f : FetchValue) (most : ℕ)
      (end : FetchEnd) (s : StoredValue) → ((x : Source) → said x → Was x) → IsReached dnssec f.lookup f.heard
      → AllKept IsKeptCounted cache.entries → IsEndOf said cache f most end → end ≡ Reply s
      → IsCounted dnssec s most
  ended-so dnssec cache f most end s tells r all (has_failed why is) h =
      let clash : Failure why ≡ Reply s = sym is ∙ h in absurd cc
  ended-so dnssec cache f most end s tells r all (has_heard m kept said-so heard-it many how had since is) h =
      let ms = messages r.replies in
      let again : heard m.message (after_all (begun r.question dnssec) ms) ≡ Whole kept =
      ap (heard m.message) (sym r.reached) ∙ heard-it in
      let whole = whole-behind (begun r.question dnssec) ms m.message kept r.lead again in
      let was = tells (told_reply m f.lookup.next f.lookup.dnssec) said-so in
      record {
        replies = r.replies ++ m ∷ [];
        told = one-behind (WasTold past) r.replies m r.told (heard-told past m f.lookup.next f.lookup.dnssec was);
        few = omega (
          arith,
          many,
          count-reached dnssec f.lookup f.heard r,
          length-append r.replies (m ∷ []),
        );
        most_are_few = omega (arith, many, few-reached dnssec f.lookup f.heard r);
        made = by_servers r.question r.replies m kept how s (heard-next dnssec f.lookup f.heard r m was)
            (ap (whole_of (begun r.question dnssec)) (messages-behind r.replies m) ∙ whole)
            (tells (options_at how.options m.second) had)
            (one-behind (λ (x : ToldReply). how.second ≤ x.second) r.replies m
            (since-all how.second f.heard m.second r.replies since r.since)
            (since-now how.second f.heard m.second since))
            (stored-asked dnssec f.lookup f.heard r kept how end s is h);
      }
  ended-so dnssec cache f most end s tells r all (is_known here now known many how had since is) h = record {
    replies = r.replies;
    told = r.told;
    few = omega (
      arith,
      many,
      count-reached dnssec f.lookup f.heard r,
      few-reached dnssec f.lookup f.heard r,
    );
    most_are_few = omega (arith, many, few-reached dnssec f.lookup f.heard r);
    made = by_local_data r.question r.replies here now how s r.in_turn
        (subst (λ (x : LookupValue). WasKnown past x.next here now) r.reached
        (tells (known_here f.lookup.next here now) known)) (tells (options_at how.options now) had)
        (since-now how.second f.heard now since) (since-all how.second f.heard now r.replies since r.since)
        (stored-asked dnssec f.lookup f.heard r (whole_with here f.lookup) how end s is h
        ∙ ap (λ (x : LookupValue). stored_so r.question (whole_with here x) how) r.reached);
  }
  ended-so dnssec cache f most end s tells r all (is_kept now cached by-kept how had since is) h =
      let found = told-kept IsKeptCounted by-kept.key now cache.entries cached all by-kept.found in
      let last = subst (λ (d : Bool). IsCounted d cached.reply cached.replies)
      (by-kept.alike ∙ dnssec-reached dnssec f.lookup f.heard r) found.1.counted in
      let here = aged (elapsed cached.reply now) cached.reply.kept in
      let lasts : LastsTo cached.reply now = omega (arith, by-kept.current, found.1.lasts) in
      record {
        replies = r.replies ++ last.replies;
        told = all-behind (WasTold past) r.replies last.replies r.told last.told;
        few = omega (
          arith,
          by-kept.many,
          by-kept.few,
          count-reached dnssec f.lookup f.heard r,
          last.few,
          length-append r.replies last.replies,
        );
        most_are_few = omega (arith, by-kept.many, by-kept.few, count-reached dnssec f.lookup f.heard r);
        made = by_kept_end r.question r.replies last.replies cached.reply now how s r.in_turn last.made lasts
            (tells (options_at how.options now) had) (since-now how.second f.heard now since) (since-all how.second f.heard now r.replies since r.since)
            (subst (λ (x : LookupValue). is_same_question (asked_octets x.next) (own_question cached.reply) ≡ true)
            r.reached by-kept.same)
            (stored-asked dnssec f.lookup f.heard r (whole_with here f.lookup) how end s is h
            ∙ ap (λ (x : LookupValue). stored_so r.question (whole_with here x) how) r.reached);
      }

  -- a reply that ends a chain is the whole of its own look-up
  chain-end-so : {said : Source → Type 0} (e : ChainEndValue) → ((x : Source) → said x → Was x)
      → IsChainEnd said e → IsCounted (key_dnssec e.key) e.reply 1
  chain-end-so e tells c =
      let was = tells (told_reply c.reply c.question (key_dnssec e.key)) c.told in
      record {
        replies = c.reply ∷ [];
        told = (heard-told past c.reply c.question (key_dnssec e.key) was, tt);
        few = omega arith;
        most_are_few = omega arith;
        made = by_servers c.question [] c.reply c.kept c.how e.reply (was, tt)
            (ap (λ (h : Heard). told_by h [] None)
            (ap (λ (k : Option KeptValue).
            outcome_of k (next_question c.question c.reply.message.message) (begun c.question (key_dnssec e.key))) c.keeps
            ∙ ap (λ (q : Option Query). outcome_of (Some c.kept) q (begun c.question (key_dnssec e.key))) c.ends))
            (tells (options_at c.how.options c.reply.second) c.had) (omega (arith, c.since), tt) c.stored;
      }

  -- ---- all of it

  abbrev IsToldOf : Option ReplyingValue → Type 0
  IsToldOf replying =
      (r : ReplyingValue) (s : StoredValue) → replying ≡ Some r → r.end ≡ Reply s
      → IsCounted (key_dnssec r.key) s r.replies

  abbrev IsEndOfReply : Option ChainEndValue → Type 0
  IsEndOfReply end = (e : ChainEndValue) → end ≡ Some e → IsCounted (key_dnssec e.key) e.reply 1

  abbrev AreReached : Fetching → Type 0
  AreReached fetches =
      (key : List ℕ) (f : FetchValue) → fetch_in key fetches ≡ Some f
      → IsReached (key_dnssec key) f.lookup f.heard

  pub record IsSound (c : Core) : Type 0 where
    pub going_on : AreReached c.fetches
    pub told : IsToldOf c.replying
    pub chain_end : IsEndOfReply c.chain_end
    pub kept : AllKept IsKeptCounted c.cache.entries

  none-told : IsToldOf None
  none-told r s is end = absurd cc

  no-end : IsEndOfReply None
  no-end e is = absurd cc

  -- of an equal one
  same-counted : (s : StoredValue) (r q : ReplyingValue) → r.key ≡ q.key → r.replies ≡ q.replies
      → IsCounted (key_dnssec r.key) s r.replies → IsCounted (key_dnssec q.key) s q.replies
  same-counted s r q own same h =
      subst (IsCounted (key_dnssec q.key) s) same
      (subst (λ (k : List ℕ). IsCounted (key_dnssec k) s r.replies) own h)

  put-reached : (key : List ℕ) (held : Option FetchValue) (c d : Fetching) → Puts key held c d → AreReached c
      → ((f : FetchValue) → held ≡ Some f → IsReached (key_dnssec key) f.lookup f.heard) → AreReached d
  put-reached key held c d puts all one other f is = by (key_eq key other) refl (sym (puts other) ∙ is)
    where
      by : (b : Bool) → key_eq key other ≡ b → (if b then held else fetch_in other c) ≡ Some f
          → IsReached (key_dnssec other) f.lookup f.heard
      by true own e =
          subst (λ (k : List ℕ). IsReached (key_dnssec k) f.lookup f.heard) (same-key key other own) (one f e)
      by false own e = all other f e

  same-put : (f g : FetchValue) → Some f ≡ Some g → f ≡ g
  same-put f g e = cc

  stored-such : (c : Core) (event : CacheEvent CachedValue) → StoresEnd c event → IsToldOf c.replying
      → IsEndOfReply c.chain_end → StoresSuch IsKeptCounted event
  stored-such c (stores key s weight deadline now) (inl (r, x), lasts, a_day) told ends =
      record {
        counted = subst (λ (k : List ℕ). IsCounted (key_dnssec k) s.reply s.replies) (sym x.own)
            (subst (IsCounted (key_dnssec r.key) s.reply) (sym x.many) (told r s.reply x.was x.end));
        lasts = lasts;
        a_day = a_day;
      }
  stored-such c (stores key s weight deadline now) (inr (e, x), lasts, a_day) told ends =
      record {
        counted = subst (λ (k : List ℕ). IsCounted (key_dnssec k) s.reply s.replies) (sym x.own)
            (subst (IsCounted (key_dnssec e.key) s.reply) (sym x.many)
            (subst (λ (y : StoredValue). IsCounted (key_dnssec e.key) y 1) x.end (ends e x.was)));
        lasts = lasts;
        a_day = a_day;
      }
  stored-such c (asks key now) such told ends = tt
  stored-such c (removes key) such told ends = tt
  stored-such c clears such told ends = tt

  still-sound : {said : Source → Type 0} (c d : Core) → ((x : Source) → said x → Was x)
      → Still said c d → IsSound c → IsSound d
  still-sound c d tells (cache_changes c' d' event such e) h =
      subst IsSound (sym e) (record {
        going_on = h.going_on;
        told = h.told;
        chain_end = h.chain_end;
        kept = all-after IsKeptCounted c.cache event (stored-such c event such h.told h.chain_end) h.kept;
      })
  still-sound c d tells (failures_change c' d' event e) h =
      subst IsSound (sym e) (record { going_on = h.going_on; told = h.told; chain_end = h.chain_end; kept = h.kept })
  still-sound c d tells (is_heard c' d' k f g found same led puts e) h =
      let now = led-so (key_dnssec k) f g tells same.asked led (h.going_on k f found) in
      subst IsSound (sym e) (record {
        going_on = put-reached k (Some g) c.fetches d.fetches puts h.going_on
            (λ x is. subst (λ (y : FetchValue). IsReached (key_dnssec k) y.lookup y.heard) (same-put g x is) now);
        told = h.told;
        chain_end = h.chain_end;
        kept = h.kept;
      })
  still-sound c d tells (is_over c' d' k end f g none found same is puts e) h =
      subst IsSound (sym e) (record {
        going_on = put-reached k None c.fetches d.fetches puts h.going_on (λ x never. absurd cc);
        told = λ r s was ends.
            let same = same-replying (replying_of k end g) r was in
            let end-is : end ≡ Reply s = ap (λ (x : ReplyingValue). x.end) same ∙ ends in
            subst (λ (x : ReplyingValue). IsCounted (key_dnssec x.key) s x.replies) same
            (subst (IsCounted (key_dnssec k) s) (sym (ap (λ (x : FetchEnd). replies_of x g.lookup.count) end-is))
            (ended-so (key_dnssec k) c.cache f g.lookup.count end s tells (h.going_on k f found) h.kept is
            end-is));
        chain_end = h.chain_end;
        kept = h.kept;
      })
    where
      same-replying : (r q : ReplyingValue) → Some r ≡ Some q → r ≡ q
      same-replying r q is' = cc
  still-sound c d tells (is_told_late c' d' k f none found puts e) h =
      subst IsSound (sym e) (record {
        going_on = put-reached k (Some (with_nobody f)) c.fetches d.fetches puts h.going_on
            (λ x is. subst (λ (y : FetchValue). IsReached (key_dnssec k) y.lookup y.heard) (same-put (with_nobody f) x is)
            (h.going_on k f found));
        told = λ r s was ends. failed r s was ends;
        chain_end = h.chain_end;
        kept = h.kept;
      })
    where
      failed : (r : ReplyingValue) (s : StoredValue) → Some (late_replying k f) ≡ Some r → r.end ≡ Reply s
          → IsCounted (key_dnssec r.key) s r.replies
      failed r s is ends = let clash : Failure reason.NoReachableAuthority ≡ Reply s = cc in absurd cc
  still-sound c d tells (is_let_go c' d' r was none e) h =
      subst IsSound (sym e) (record { going_on = h.going_on; told = none-told; chain_end = h.chain_end; kept = h.kept })
  still-sound c d tells (chain_ends c' d' end is e) h =
      subst IsSound (sym e) (record {
        going_on = h.going_on;
        told = h.told;
        chain_end = λ x same. subst (λ (y : ChainEndValue). IsCounted (key_dnssec y.key) y.reply 1)
            (same-end end x same)
            (chain-end-so end tells is);
        kept = h.kept;
      })
    where
      same-end : (x y : ChainEndValue) → Some x ≡ Some y → x ≡ y
      same-end x y is' = cc
  still-sound c d tells (no_chain_ends c' d' e) h =
      subst IsSound (sym e)
      (record { going_on = h.going_on; told = h.told; chain_end = no-end; kept = h.kept })
  still-sound c d tells (is_flushed c' d' labels below e) h =
      subst IsSound (sym e) (record {
        going_on = h.going_on;
        told = h.told;
        chain_end = h.chain_end;
        kept = all-filtered IsKeptCounted (λ (x : Entry CachedValue). not (is_flushed_key labels below x.key))
            c.cache.entries h.kept;
      })
  still-sound c d tells (begins_alone c' d' k f none waits begins puts e) h =
      subst IsSound (sym e) (record {
        going_on = put-reached k (Some f) c.fetches d.fetches puts h.going_on
            (λ x is. subst (λ (y : FetchValue). IsReached (key_dnssec k) y.lookup y.heard) (same-put f x is)
            (begins-so k f.lookup f.heard begins));
        told = h.told;
        chain_end = h.chain_end;
        kept = h.kept;
      })

  stills-sound : {said : Source → Type 0} (c d : Core) → ((x : Source) → said x → Was x)
      → Stills said c d → IsSound c → IsSound d
  stills-sound c d tells (as_before c' d' e) h = subst IsSound (sym e) h
  stills-sound c d tells (more c' m d' first rest) h = stills-sound m d tells rest (still-sound c m tells first h)

  join-sound : (w : RequestValue) (c d : Core) → Joins w c d → IsSound c → IsSound d
  join-sound w c d j h =
      subst IsSound (sym j.others_are) (record {
        going_on = put-reached j.key (Some j.fetch) c.fetches d.fetches j.puts h.going_on
            (λ x is. subst (λ (y : FetchValue). IsReached (key_dnssec j.key) y.lookup y.heard) (same-put j.fetch x is)
            (by j.lookup));
        told = h.told;
        chain_end = h.chain_end;
        kept = h.kept;
      })
    where
      by : IsBegun j.key j.fetch.lookup ⊎ IsThatOf (fetch_in j.key c.fetches) j.fetch
          → IsReached (key_dnssec j.key) j.fetch.lookup j.fetch.heard
      by (inl begins) = begins-so j.key j.fetch.lookup j.fetch.heard begins
      by (inr (f, found, same, noted)) =
          subst (IsReached (key_dnssec j.key) j.fetch.lookup) (sym noted)
          (subst (λ (l : LookupValue). IsReached (key_dnssec j.key) l f.heard) (sym same) (h.going_on j.key f found))

  leave-sound : (w : RequestValue) (c d : Core) → Leaves w c d → IsSound c → IsSound d
  leave-sound w c d l h =
      subst IsSound (sym l.others_are) (record {
        going_on = h.going_on;
        told = λ r s is end. same-counted s l.replying r
            (ap (λ (x : ReplyingValue). x.key) (same-replying (record l.replying { waiting = l.others }) r is))
            (ap (λ (x : ReplyingValue). x.replies) (same-replying (record l.replying { waiting = l.others }) r is))
            (h.told l.replying s l.was
            (ap (λ (x : ReplyingValue). x.end) (same-replying (record l.replying { waiting = l.others }) r is) ∙ end));
        chain_end = h.chain_end;
        kept = h.kept;
      })
    where
      same-replying : (r q : ReplyingValue) → Some r ≡ Some q → r ≡ q
      same-replying r q is' = cc

  -- who is gone waits for nothing
  reached-left : (dnssec : Bool) (client : ℕ) (held : Option FetchValue) (f : FetchValue)
      → ((g : FetchValue) → held ≡ Some g → IsReached dnssec g.lookup g.heard)
      → option_map (fetch_without client) held ≡ Some f → IsReached dnssec f.lookup f.heard
  reached-left dnssec client None f all is = absurd cc
  reached-left dnssec client (Some g) f all is =
      subst (λ (y : FetchValue). IsReached dnssec y.lookup y.heard) (same-put (fetch_without client g) f is) (all g refl)

  told-left : (client : ℕ) (replying : Option ReplyingValue) → IsToldOf replying
      → IsToldOf (option_map (replying_without client) replying)
  told-left client None told = none-told
  told-left client (Some q) told =
      λ r s is end. same-counted s q r
      (ap (λ (x : ReplyingValue). x.key) (same-replying (replying_without client q) r is))
      (ap (λ (x : ReplyingValue). x.replies) (same-replying (replying_without client q) r is))
      (told q s refl (ap (λ (x : ReplyingValue). x.end) (same-replying (replying_without client q) r is) ∙ end))
    where
      same-replying : (r q : ReplyingValue) → Some r ≡ Some q → r ≡ q
      same-replying r q is' = cc

  gone-sound : (client : ℕ) (c d : Core) → d ≡ left_by client c → IsSound c → IsSound d
  gone-sound client c d e h =
      subst IsSound (sym e) (record {
        going_on = λ key f is. reached-left (key_dnssec key) client (fetch_in key c.fetches) f (h.going_on key)
            (sym (lookup-map_values (fetch_without client) (key_eq key) c.fetches) ∙ is);
        told = told-left client c.replying h.told;
        chain_end = h.chain_end;
        kept = h.kept;
      })

  heard-so : (dnssec : Bool) (l : LookupValue) (noted : Option ℕ) → IsReached dnssec l noted
      → HeardReplies past dnssec l
  heard-so dnssec l noted r = record {
    question = r.question;
    replies = r.replies;
    told = r.told;
    in_turn = r.in_turn;
    heard = r.reached;
    few = few-reached dnssec l noted r;
  }

-- ---- what was so stays so

known-later : (h : Happening) (past : List Happening) (q : Query) (here : KeptValue) (second : ℕ)
    → WasKnown past q here second → WasKnown (h ∷ past) q here second
known-later (happened event b a) past q here second was = inr was

had-later : (h : Happening) (past : List Happening) (options : OptionsValue) (second : ℕ)
    → HadOptions past options second → HadOptions (h ∷ past) options second
had-later (happened event b a) past options second was = inr was

made-later : (h : Happening) (past : List Happening) (dnssec : Bool) (rs : Replies) (s : StoredValue)
    → IsMadeOf past dnssec rs s → IsMadeOf (h ∷ past) dnssec rs s
made-later h past dnssec rs s (by_servers q rs' last kept how s' in_turn whole had since is) =
    by_servers q rs' last kept how s (heard-before h past (begun q dnssec) (rs' ++ last ∷ []) in_turn) whole
    (had-later h past how.options last.second had) since is
made-later h past dnssec rs s (by_local_data q rs' here second how s' in_turn known had early since is) =
    by_local_data q rs here second how s (heard-before h past (begun q dnssec) rs in_turn)
    (known-later h past (after_all (begun q dnssec) (messages rs)).next here second known)
    (had-later h past how.options second had) early since is
made-later h past dnssec rs s (by_kept_end q first last end second how s' in_turn made lasts had early since same is) =
    by_kept_end q first last end second how s (heard-before h past (begun q dnssec) first in_turn)
    (made-later h past dnssec last end made) lasts (had-later h past how.options second had) early since same is

reached-later : (h : Happening) (past : List Happening) (dnssec : Bool) (l : LookupValue) (noted : Option ℕ)
    → IsReached past dnssec l noted → IsReached (h ∷ past) dnssec l noted
reached-later h past dnssec l noted r = record {
  question = r.question;
  replies = r.replies;
  told = told-before h past r.replies r.told;
  in_turn = heard-before h past (begun r.question dnssec) r.replies r.in_turn;
  reached = r.reached;
  lead = r.lead;
  asked = r.asked;
  since = r.since;
}

counted-later : (h : Happening) (past : List Happening) (dnssec : Bool) (s : StoredValue) (most : ℕ)
    → IsCounted past dnssec s most → IsCounted (h ∷ past) dnssec s most
counted-later h past dnssec s most x = record {
  replies = x.replies;
  told = told-before h past x.replies x.told;
  few = x.few;
  most_are_few = x.most_are_few;
  made = made-later h past dnssec x.replies s x.made;
}

kept-later : (h : Happening) (past : List Happening) (es : List (Entry CachedValue))
    → AllKept (IsKeptCounted past) es → AllKept (IsKeptCounted (h ∷ past)) es
kept-later h past [] all = tt
kept-later h past (e ∷ es) all = (
  record {
    counted = counted-later h past (key_dnssec e.key) e.value.reply e.value.replies all.0.counted;
    lasts = all.0.lasts;
    a_day = all.0.a_day;
  },
  kept-later h past es all.1,
)

sound-later : (h : Happening) (past : List Happening) (c : Core) → IsSound past c → IsSound (h ∷ past) c
sound-later h past c x = record {
  going_on = λ key f found. reached-later h past (key_dnssec key) f.lookup f.heard (x.going_on key f found);
  told = λ r s is end. counted-later h past (key_dnssec r.key) s r.replies (x.told r s is end);
  chain_end = λ e is. counted-later h past (key_dnssec e.key) e.reply 1 (x.chain_end e is);
  kept = kept-later h past c.cache.entries x.kept;
}

-- ---- what is counted is an answer

answer-of : (past : List Happening) (dnssec : Bool) (s : StoredValue) (most : ℕ) → IsCounted past dnssec s most
    → IsAnswer past dnssec s
answer-of past dnssec s most x = record {
  replies = x.replies;
  told = x.told;
  few = omega (arith, x.few, x.most_are_few);
  made = x.made;
}

kept-answer : (past : List Happening) (key : List ℕ) (cached : CachedValue) (deadline : ℕ)
    → IsKeptCounted past key cached deadline → IsKeptAnswer past key cached deadline
kept-answer past key cached deadline x = record {
  answer = answer-of past (key_dnssec key) cached.reply cached.replies x.counted;
  lasts = x.lasts;
  a_day = x.a_day;
}

kept-answers : (past : List Happening) (es : List (Entry CachedValue)) → AllKept (IsKeptCounted past) es
    → AllKept (IsKeptAnswer past) es
kept-answers past [] all = tt
kept-answers past (e ∷ es) all = (kept-answer past e.key e.value e.deadline all.0, kept-answers past es all.1)

said-now : (event : ForwarderEvent) (b a : ForwarderValue) (past : List Happening) (x : Source) → IsSaid b x
    → Was (happened event b a ∷ past) x
said-now event b a past (told_reply r q dnssec) says = inl says
said-now event b a past (known_here q here second) says = inl says
said-now event b a past (options_at options second) says = inl says

event-sound : (past : List Happening) (event : ForwarderEvent) (b a : ForwarderValue)
    → ((x : Source) → IsSaid b x → Was past x) → EventMoves event b a → IsSound past (core b)
    → IsSound past (core a)
event-sound past event b a tells (event_stays says still) h = stills-sound past (core b) (core a) tells still h
event-sound past event b a tells (event_joins w says j) h = join-sound past w (core b) (core a) j h
event-sound past event b a tells (event_leaves w says l) h = leave-sound past w (core b) (core a) l h
event-sound past event b a tells (event_goes client is e) h = gone-sound past client (core b) (core a) e h
event-sound past event b a tells (event_options options is says e) h =
    subst (IsSound past) (sym e) (record { going_on = h.going_on; told = h.told; chain_end = h.chain_end; kept = h.kept })

module _ (options : OptionsValue) (local : LocalValue) (cache failures : CacheBounds) (pool : PoolState) where
  sound : (past : List Happening) (s : ForwarderValue)
      → Runs (new_forwarder options local cache failures pool) past s → IsSound past (core s)
  sound past s at_first = record {
    going_on = λ key f never. absurd cc;
    told = none-told [];
    chain_end = no-end [];
    kept = tt;
  }
  sound past s (next earlier event before after happens runs) =
      let h = happened event before after in
      event-sound (h ∷ earlier) event before after (said-now event before after earlier)
      (moves event before after happens)
      (sound-later h earlier (core before) (sound earlier before runs))

pub answers_are_of_replies : AnswersAreOfReplies
answers_are_of_replies options local cache failures pool past s runs =
    let h = sound options local cache failures pool past s runs in
    record {
      going_on = λ key f found. heard-so past (key_dnssec key) f.lookup f.heard (h.going_on key f found);
      told = λ r end is ends. answer-of past (key_dnssec r.key) end r.replies (h.told r end is ends);
      chain_end = λ e is. answer-of past (key_dnssec e.key) e.reply 1 (h.chain_end e is);
      kept = kept-answers past s.cache.entries h.kept;
    }

-- ---- what is told past its end

short-ttls : (rs : List RecordValue) → AllByRecursion HasShortTtl (map (with_ttl STALE_TTL) rs)
short-ttls [] = tt
short-ttls (r ∷ rs) = (refl, short-ttls rs)

-- What is kept past its end is stale, where all that is kept are answers.
pub stale-so : (past : List Happening) (s : ForwarderValue) (key : List ℕ) (stored : StoredValue)
    → AllKept (IsKeptAnswer past) s.cache.entries → stale_in s.cache key s.options (second_of s) ≡ Some stored
    → IsStaleAnswer past (key_dnssec key) key stored s
stale-so past s key stored all is = by (told key (second_of s) s.cache.entries) refl is
  where
    late-so : (cached : CachedValue) → told key (second_of s) s.cache.entries ≡ Some cached → (deadline : ℕ)
        → IsKeptAnswer past key cached deadline → (over : Bool) → nat_lt cached.told_until (second_of s) ≡ over
        → (late : Bool) → nat_le (second_of s - cached.told_until) (stale_seconds s.options) ≡ late
        → (if over && late then Some cached.reply else None) ≡ Some stored
        → IsStaleAnswer past (key_dnssec key) key stored s
    late-so cached found deadline kept false over late days h = absurd cc
    late-so cached found deadline kept true over false days h = absurd cc
    late-so cached found deadline kept true over true days h =
        let same : cached.reply ≡ stored = cc in
        let before : cached.told_until < second_of s = ltb-true cached.told_until (second_of s) over in
        let within : second_of s - cached.told_until ≤ stale_seconds s.options =
        leb-true (second_of s - cached.told_until) (stale_seconds s.options) days in
        record {
          cached = cached;
          found = found;
          reply_is = same;
          answer = subst (IsAnswer past (key_dnssec key)) same kept.answer;
          lasts = subst (λ (x : StoredValue). LastsTo x cached.told_until) same kept.lasts;
          over = before;
          late = omega (arith, before, within);
          a_day = omega arith;
          answers = short-ttls stored.kept.answers;
          authorities = short-ttls stored.kept.authorities;
        }

    by : (o : Option CachedValue) → told key (second_of s) s.cache.entries ≡ o
        → option_and_then (if_stale s.options (second_of s)) o ≡ Some stored
        → IsStaleAnswer past (key_dnssec key) key stored s
    by None found h = absurd cc
    by (Some cached) found h =
        let kept = told-kept (IsKeptAnswer past) key (second_of s) s.cache.entries cached all found in
        late-so cached found kept.0 kept.1 (nat_lt cached.told_until (second_of s)) refl
        (nat_le (second_of s - cached.told_until) (stale_seconds s.options)) refl h

pub stale_answers_are_of_replies : StaleAnswersAreOfReplies
stale_answers_are_of_replies options local cache failures pool past s runs key stored is =
    stale-so past s key stored (answers_are_of_replies options local cache failures pool past s runs).kept is
