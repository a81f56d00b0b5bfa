-- The counts are those of who waits.
use Rattle.std.proofs.Common.{◌≡◌, ◌∙◌, ◌==◌, ℕ, suc, ◌+◌, ◌-◌, ◌<◌, Bool, true, false, List, [], ◌∷◌, ◌++◌, length, refl, sym, ap, subst, arith, length-append}
use Rattle.std.specs.Prelude.{filter, if◌then◌else◌}
use Rattle.std.specs.List.{AllByRecursion}
use Rattle.std.proofs.lemmas.Bool.{eqb-true}
use Rattle.std.proofs.lemmas.List.{append-nil}
use Rattle.std.proofs.lemmas.List.Elements.{filter-append}
use Rattle.hickory_resolver_pool.specs.Pool.{PoolState}
use Rattle.client_limits.specs.Counts.{CountsValue, added, count_at, count_of, one_less, removed}
use Rattle.client_limits.specs.Networks.{counted_as}
use Rattle.client_requests.specs.Keys.{key_of}
use Rattle.client_requests.specs.Requests.{RequestValue}
use Rattle.second_chance_cache.specs.declared.bounds.CacheBounds.{CacheBounds}
use Rattle.yimarotu_forwarder.specs.Forwarders.{ForwarderValue, new_forwarder}
use Rattle.yimarotu_forwarder.specs.Local.{LocalValue}
use Rattle.yimarotu_forwarder.specs.Options.{OptionsValue}
use Rattle.yimarotu_forwarder_theorems.specs.Bounds.{NobodyGoes, WhoWaitsIsCounted, number_of, of_network}
use Rattle.yimarotu_forwarder_theorems.specs.Replies.{is_under, replied_in, replied_to, told_to_wait, under, waited_in}
use Rattle.yimarotu_forwarder_theorems.specs.Runs.{ForwarderEvent, Happening, Runs, at_first, happened, next}
use Rattle.yimarotu_forwarder_theorems.proofs.Cores.{Core, Joins, Leaves, Source, Still, Stills, as_before, begins_alone, cache_changes, chain_ends, core, failures_change, is_flushed, is_heard, is_let_go, is_over, is_told_late, more, no_chain_ends}
use Rattle.yimarotu_forwarder_theorems.proofs.Events.{EventMoves, Says, event_goes, event_joins, event_leaves, event_options, event_stays, moves}
use Rattle.yimarotu_forwarder_theorems.proofs.Keys.{same-key}
use Rattle.yimarotu_forwarder_theorems.proofs.Networks.{Ascends, ascends-inserted, ascends-less, count-added, count-less, is, is-own, is-same}
use Rattle.yimarotu_forwarder_theorems.proofs.Replied.{AreOwn, are-own, first-own, first-waits}
use Rattle.yimarotu_forwarder_theorems.proofs.Waiting.{join-waits, leave-waits, stills-wait, waiting}

abbrev Requests : Type 0
Requests = List RequestValue

abbrev Test : Type 0
Test = RequestValue → Bool

-- ---- counting

abbrev one_if : Bool → ℕ
one_if b = if b then 1 else 0

count-and : (p : Test) (xs ys : Requests) → number_of p (xs ++ ys) ≡ number_of p xs + number_of p ys
count-and p xs ys = ap length (filter-append p xs ys) ∙ length-append (filter p xs) (filter p ys)

count-same : (p q : Test) (ws : Requests) → ((w : RequestValue) → p w ≡ q w) → number_of p ws ≡ number_of q ws
count-same p q [] same = refl
count-same p q (w ∷ ws) same =
    ap (λ (b : Bool). length (if b then w ∷ filter p ws else filter p ws)) (same w)
    ∙ by (q w) (count-same p q ws same)
  where
    by : (b : Bool) → number_of p ws ≡ number_of q ws
        → length (if b then w ∷ filter p ws else filter p ws) ≡ length (if b then w ∷ filter q ws else filter q ws)
    by true alike = ap suc alike
    by false alike = alike

count-one : (p : Test) (w : RequestValue) → number_of p (w ∷ []) ≡ (if p w then 1 else 0)
count-one p w = by (p w)
  where
    by : (b : Bool) → length (if b then w ∷ [] else []) ≡ (if b then 1 else 0)
    by true = refl
    by false = refl

count-cut : (p : Test) (front back : Requests) (w : RequestValue)
    → number_of p (front ++ w ∷ back) ≡ number_of p (front ++ back) + (if p w then 1 else 0)
count-cut p front back w =
    omega (
      arith,
      count-and p front (w ∷ back),
      count-and p (w ∷ []) back,
      count-and p front back,
      count-one p w,
    )

-- ---- the first of a question, cut out

record Cut (key : List ℕ) (ws : Requests) (w : RequestValue) : Type 0 where
  front : Requests
  back : Requests
  are : ws ≡ front ++ w ∷ back
  none : under key front ≡ []

cut : (key : List ℕ) (ws : Requests) (w : RequestValue) (rest : Requests) → under key ws ≡ w ∷ rest → Cut key ws w
cut key [] w rest h = absurd cc
cut key (x ∷ ws) w rest h = by (is_under key x) refl h (λ later. cut key ws w rest later)
  where
    by : (b : Bool) → is_under key x ≡ b → (if b then x ∷ under key ws else under key ws) ≡ w ∷ rest
        → (under key ws ≡ w ∷ rest → Cut key ws w) → Cut key (x ∷ ws) w
    by true own h later =
        let same : x ≡ w = cc in
        record { front = []; back = ws; are = ap (λ (y : RequestValue). y ∷ ws) same; none = refl }
    by false own h later =
        let c = later h in
        record {
          front = x ∷ c.front;
          back = c.back;
          are = ap (λ (l : Requests). x ∷ l) c.are;
          none = ap (λ (b : Bool). if b then x ∷ under key c.front else under key c.front) own ∙ c.none;
        }

-- ---- who is owed a reply

abbrev counts_at : ℕ → Test
counts_at n w = is n (counted_as w.client.address)

record Counts (c : CountsValue) (owed : Requests) : Type 0 where
  order : Ascends c.of_networks
  all : c.all ≡ length owed
  each : (n : ℕ) → count_at n c.of_networks ≡ number_of (counts_at n) owed

record Owes (past : List Happening) (s : ForwarderValue) : Type 0 where
  owed : Requests
  wait : (key : List ℕ) → under key owed ≡ waiting key (core s)
  counts : Counts s.counts owed
  long : length (waited_in past) ≡ length (replied_in past) + length owed
  total : (p : Test) → number_of p (waited_in past) ≡ number_of p (replied_in past) + number_of p owed

counts-added : (c : CountsValue) (owed : Requests) (w : RequestValue) → Counts c owed
    → Counts (added w.client.address c) (owed ++ w ∷ [])
counts-added c owed w h =
    let n = counted_as w.client.address in
    record {
      order = ascends-inserted n (count_at n c.of_networks + 1) c.of_networks h.order;
      all = omega (arith, h.all, length-append owed (w ∷ []));
      each = λ m. omega (
        arith,
        count-added m n c.of_networks,
        h.each m,
        count-and (counts_at m) owed (w ∷ []),
        count-one (counts_at m) w,
      );
    }

counts-removed : (c : CountsValue) (front back : Requests) (w : RequestValue) → Counts c (front ++ w ∷ back)
    → Counts (removed w.client.address c) (front ++ back)
counts-removed c front back w h = by (count_of w.client.address c == 0) refl
  where
    own : one_if (is (counted_as w.client.address) (counted_as w.client.address)) ≡ one_if true
    own = ap one_if (is-own (counted_as w.client.address))

    some : 0 < count_of w.client.address c
    some =
        omega (
          arith,
          h.each (counted_as w.client.address),
          count-cut (counts_at (counted_as w.client.address)) front back w,
          own,
        )

    by : (b : Bool) → (count_of w.client.address c == 0) ≡ b
        → Counts (if b then c else record {
          all = c.all - 1;
          of_networks = one_less (counted_as w.client.address) (count_of w.client.address c) c.of_networks;
        }) (front ++ back)
    by true none =
        let zero-held : count_of w.client.address c ≡ 0 = eqb-true (count_of w.client.address c) 0 none in
        absurd (omega (arith, some, zero-held))
    by false there = record {
      order = ascends-less (counted_as w.client.address) (count_of w.client.address c) c.of_networks h.order;
      all = omega (
        arith,
        h.all,
        length-append front (w ∷ back),
        length-append front back,
      );
      each = λ m. omega (
        arith,
        count-less m (counted_as w.client.address) (count_of w.client.address c) c.of_networks h.order refl some,
        h.each m,
        count-cut (counts_at m) front back w,
      );
    }

-- ---- each event

still-counts : {said : Source → Type 0} (c d : Core) → Still said c d → d.counts ≡ c.counts
still-counts c d (cache_changes c' d' event such e) = ap (λ (x : Core). x.counts) e
still-counts c d (failures_change c' d' event e) = ap (λ (x : Core). x.counts) e
still-counts c d (is_heard c' d' k f g found same led puts e) = ap (λ (x : Core). x.counts) e
still-counts c d (is_over c' d' k end f g none found same is puts e) = ap (λ (x : Core). x.counts) e
still-counts c d (is_told_late c' d' k f none found puts e) = ap (λ (x : Core). x.counts) e
still-counts c d (is_let_go c' d' r was none e) = ap (λ (x : Core). x.counts) e
still-counts c d (chain_ends c' d' end is e) = ap (λ (x : Core). x.counts) e
still-counts c d (no_chain_ends c' d' e) = ap (λ (x : Core). x.counts) e
still-counts c d (is_flushed c' d' labels below e) = ap (λ (x : Core). x.counts) e
still-counts c d (begins_alone c' d' k f none waits begins puts e) = ap (λ (x : Core). x.counts) e

stills-count : {said : Source → Type 0} (c d : Core) → Stills said c d → d.counts ≡ c.counts
stills-count c d (as_before c' d' e) = ap (λ (x : Core). x.counts) e
stills-count c d (more c' m d' first rest) = stills-count m d rest ∙ still-counts c m first

-- nobody comes, and nobody leaves
same-owed : (past : List Happening) (event : ForwarderEvent) (b a : ForwarderValue) → Says event b [] []
    → ((key : List ℕ) → waiting key (core a) ≡ waiting key (core b)) → a.counts ≡ b.counts → Owes past b
    → Owes (happened event b a ∷ past) a
same-owed past event b a says waits counted h =
    let came : waited_in past ++ told_to_wait event ≡ waited_in past =
    ap (λ (ws : Requests). waited_in past ++ ws) says.told_is ∙ append-nil (waited_in past) in
    let went : replied_in past ++ replied_to event b ≡ replied_in past =
    ap (λ (ws : Requests). replied_in past ++ ws) says.replied_is ∙ append-nil (replied_in past) in
    record {
      owed = h.owed;
      wait = λ key. h.wait key ∙ sym (waits key);
      counts = subst (λ (c : CountsValue). Counts c h.owed) (sym counted) h.counts;
      long = ap length came ∙ h.long ∙ sym (ap (λ (ws : Requests). length ws + length h.owed) went);
      total = λ p.
          ap (number_of p) came ∙ h.total p ∙ sym (ap (λ (ws : Requests). number_of p ws + number_of p h.owed) went);
    }

one-owed : (past : List Happening) (event : ForwarderEvent) (b a : ForwarderValue) (w : RequestValue)
    → Says event b (w ∷ []) [] → Joins w (core b) (core a) → Owes past b → Owes (happened event b a ∷ past) a
one-owed past event b a w says j h =
    let came : waited_in past ++ told_to_wait event ≡ waited_in past ++ w ∷ [] =
    ap (λ (ws : Requests). waited_in past ++ ws) says.told_is in
    let went : replied_in past ++ replied_to event b ≡ replied_in past =
    ap (λ (ws : Requests). replied_in past ++ ws) says.replied_is ∙ append-nil (replied_in past) in
    record {
      owed = h.owed ++ w ∷ [];
      wait = λ key.
          filter-append (is_under key) h.owed (w ∷ [])
          ∙ ap (λ (ws : Requests). ws ++ under key (w ∷ [])) (h.wait key)
          ∙ sym (join-waits key w (core b) (core a) j);
      counts =
          subst (λ (c : CountsValue). Counts c (h.owed ++ w ∷ [])) (sym (ap (λ (x : Core). x.counts) j.others_are))
          (counts-added b.counts h.owed w h.counts);
      long =
          ap length came
          ∙ omega (arith, length-append (waited_in past) (w ∷ []), h.long, length-append h.owed (w ∷ []))
          ∙ sym (ap (λ (ws : Requests). length ws + length (h.owed ++ w ∷ [])) went);
      total = λ p.
          ap (number_of p) came
          ∙ omega (
            arith,
            count-and p (waited_in past) (w ∷ []),
            h.total p,
            count-and p h.owed (w ∷ []),
          )
          ∙ sym (ap (λ (ws : Requests). number_of p ws + number_of p (h.owed ++ w ∷ [])) went);
    }

-- who waits for each question, without the first of one
left-wait : (key : List ℕ) (front back later : Requests) (w : RequestValue) → under (key_of w) front ≡ []
    → under key (w ∷ []) ++ later ≡ under key (front ++ w ∷ back) → under key (front ++ back) ≡ later
left-wait key front back later w none h = by (is_under key w) refl
  where
    parts : under key (front ++ w ∷ back) ≡ under key front ++ (under key (w ∷ []) ++ under key back)
    parts =
        filter-append (is_under key) front (w ∷ back)
        ∙ ap (λ (ws : Requests). under key front ++ ws) (filter-append (is_under key) (w ∷ []) back)

    by : (b : Bool) → is_under key w ≡ b → under key (front ++ back) ≡ later
    by true own =
        let single : under key (w ∷ []) ≡ w ∷ [] = ap (λ (b : Bool). if b then w ∷ [] else []) own in
        let no-front : under key front ≡ [] =
        ap (λ (k : List ℕ). under k front) (same-key key (key_of w) own) ∙ none in
        let whole : w ∷ later ≡ w ∷ under key back =
        sym (ap (λ (ws : Requests). ws ++ later) single) ∙ h ∙ parts
        ∙ ap (λ (ws : Requests). ws ++ (under key (w ∷ []) ++ under key back)) no-front
        ∙ ap (λ (ws : Requests). ws ++ under key back) single in
        let same : later ≡ under key back = cc in
        filter-append (is_under key) front back ∙ ap (λ (ws : Requests). ws ++ under key back) no-front ∙ sym same
    by false apart =
        let nothing : under key (w ∷ []) ≡ [] = ap (λ (b : Bool). if b then w ∷ [] else []) apart in
        filter-append (is_under key) front back
        ∙ sym (ap (λ (ws : Requests). under key front ++ (ws ++ under key back)) nothing) ∙ sym parts ∙ sym h
        ∙ ap (λ (ws : Requests). ws ++ later) nothing

less-owed : (past : List Happening) (event : ForwarderEvent) (b a : ForwarderValue) (w : RequestValue) → AreOwn b
    → Says event b [] (w ∷ []) → Leaves w (core b) (core a) → Owes past b → Owes (happened event b a ∷ past) a
less-owed past event b a w are says l h =
    let own = first-own b w (core a) are l in
    let c = cut (key_of w) h.owed w _ (h.wait (key_of w) ∙ ap (λ (k : List ℕ). waiting k (core b)) own
    ∙ first-waits b w (core a) l) in
    let came : waited_in past ++ told_to_wait event ≡ waited_in past =
    ap (λ (ws : Requests). waited_in past ++ ws) says.told_is ∙ append-nil (waited_in past) in
    let went : replied_in past ++ replied_to event b ≡ replied_in past ++ w ∷ [] =
    ap (λ (ws : Requests). replied_in past ++ ws) says.replied_is in
    let before : length h.owed ≡ length (c.front ++ w ∷ c.back) = ap length c.are in
    record {
      owed = c.front ++ c.back;
      wait = λ key.
          left-wait key c.front c.back (waiting key (core a)) w c.none
          (leave-waits key w (core b) (core a) l own ∙ sym (h.wait key) ∙ ap (under key) c.are);
      counts =
          subst (λ (x : CountsValue). Counts x (c.front ++ c.back)) (sym (ap (λ (x : Core). x.counts) l.others_are))
          (counts-removed b.counts c.front c.back w (subst (Counts b.counts) c.are h.counts));
      long =
          ap length came
          ∙ omega (
            arith,
            h.long,
            before,
            length-append c.front (w ∷ c.back),
            length-append c.front c.back,
            length-append (replied_in past) (w ∷ []),
          )
          ∙ sym (ap (λ (ws : Requests). length ws + length (c.front ++ c.back)) went);
      total = λ p.
          let held : number_of p h.owed ≡ number_of p (c.front ++ w ∷ c.back) = ap (number_of p) c.are in
          ap (number_of p) came
          ∙ omega (
            arith,
            h.total p,
            held,
            count-cut p c.front c.back w,
            count-and p (replied_in past) (w ∷ []),
            count-one p w,
          )
          ∙ sym (ap (λ (ws : Requests). number_of p ws + number_of p (c.front ++ c.back)) went);
    }

owes-next : (past : List Happening) (event : ForwarderEvent) (b a : ForwarderValue) → AreOwn b
    → NobodyGoes (happened event b a) → EventMoves event b a → Owes past b → Owes (happened event b a ∷ past) a
owes-next past event b a are stay (event_stays says still) h =
    same-owed past event b a says (λ key. stills-wait key (core b) (core a) still)
    (stills-count (core b) (core a) still) h
owes-next past event b a are stay (event_joins w says j) h = one-owed past event b a w says j h
owes-next past event b a are stay (event_leaves w says l) h = less-owed past event b a w are says l h
owes-next past event b a are stay (event_goes client is e) h =
    absurd (subst (λ (x : ForwarderEvent). NobodyGoes (happened x b a)) is stay)
owes-next past event b a are stay (event_options options is says e) h =
    same-owed past event b a says (λ key. ap (waiting key) e) (ap (λ (x : Core). x.counts) e) h

module _ (options : OptionsValue) (local : LocalValue) (cache failures : CacheBounds) (pool : PoolState) where
  owes : (past : List Happening) (s : ForwarderValue)
      → Runs (new_forwarder options local cache failures pool) past s → AllByRecursion NobodyGoes past → Owes past s
  owes past s at_first stay = record {
    owed = [];
    wait = λ key. refl;
    counts = record { order = tt; all = refl; each = λ n. refl };
    long = refl;
    total = λ p. refl;
  }
  owes past s (next earlier event before after happens runs) stay =
      owes-next earlier event before after (are-own options local cache failures pool earlier before runs) stay.0
      (moves event before after happens) (owes earlier before runs stay.1)

pub who_waits_is_counted : WhoWaitsIsCounted
who_waits_is_counted options local cache failures pool past s runs stay =
    let h = owes options local cache failures pool past s runs stay in
    record {
      all = omega (arith, h.long, h.counts.all);
      each = λ address.
          let alike =
          count-same (counts_at (counted_as address)) (of_network address) h.owed
          (λ w. is-same (counted_as address) (counted_as w.client.address)) in
          omega (arith, h.total (of_network address), h.counts.each (counted_as address), alike);
    }
