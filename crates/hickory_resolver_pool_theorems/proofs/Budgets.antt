-- What a transaction may do still: it falls with what is sent, with each round, and with what runs out.
use Rattle.std.proofs.Common.{◌≡◌, ◌≤◌, ◌<◌, ◌+◌, ◌-◌, ◌*◌, suc, zero, ℕ, Bool, true, false, cond, not, ◌&&◌, ◌||◌, ltb, eqb, ne_eqb, eq-eqb, List, [], ◌∷◌, ◌++◌, length, drop, map, refl, ap, sym, subst, ◌∙◌, inl, inr, ◌⊎◌, true≢false, arith}
use Rattle.std.specs.Prelude.{Option, None, Some, find, filter, slice_get}
use Rattle.std.specs.List.{AllByRecursion, fold, filter_map, list_any}
use Rattle.std.specs.Option.{is_some, option_map, option_map_or, option_or, option_and_then}
use Rattle.hickory_resolver_transactions.specs.Candidates.{is_again, is_queued, is_due, is_blocked, due_of, late_due, has_failed_by, way_of, sent_with, counted, without_channel, requeued, freed_progress, freed_one, way_in, first_way}
use Rattle.hickory_resolver_transactions.specs.Laws.{HasRoom, IsWithinSends}
use Rattle.hickory_resolver_transactions.specs.Table.{after_deadline, may_begin_tcp, sends_by}
use Rattle.hickory_resolver_transactions.specs.Transaction.{TransactionState, replaced, replacing, freed, noting, without_oldest, late_too, with_late, kept_in, acted, picked, next_deadline, expired_in, late_expired, expired, wants_round, with_round, is_queued_at, first_queued, may_send, next_of, chosen, wanted, sent, unsent, has_late, earlier}
use Rattle.hickory_resolver_transactions.specs.declared.candidate.Candidate.{Candidate}
use Rattle.hickory_resolver_transactions.specs.declared.candidate.LateTry.{LateTry}
use Rattle.hickory_resolver_transactions.specs.declared.candidate.Made.{Made}
use Rattle.hickory_resolver_transactions.specs.declared.candidate.Progress.{Progress}
use Rattle.hickory_resolver_transactions.specs.declared.candidate.Progress.TheVariants as progress
use Rattle.hickory_resolver_transactions.specs.declared.candidate.Transport.{Transport}
use Rattle.hickory_resolver_transactions.specs.declared.candidate.Transport.TheVariants.{Udp, Tcp}
use Rattle.hickory_resolver_transactions.specs.declared.candidate.Try.{Try}
use Rattle.hickory_resolver_transactions.specs.declared.candidate.Way.{Way}
use Rattle.hickory_resolver_transactions.specs.declared.outcome.Outcome.TheVariants as told
use Rattle.hickory_resolver_transactions.specs.declared.settings.Settings.{Settings}
use Rattle.hickory_resolver_transactions.specs.declared.table.Then.TheVariants.{Rests, Again}
use Rattle.hickory_resolver_transactions.specs.declared.transaction.Wanted.{Wanted}
use Rattle.hickory_resolver_pool_theorems.proofs.Servers.{HasPlaces}
use Rattle.hickory_resolver_pool_theorems.proofs.Ticks.{Has, fold-is, server-found, failed-found}
use Rattle.hickory_resolver_pool_theorems.proofs.Tries.{found-passes}

-- ---- what is left of a server, and of a transaction

abbrev pub left_of : Candidate → ℕ
left_of c = (2 - c.udp_sends) + (2 - c.tcp_sends)

-- What waits for a channel is as far as what is to be asked again, or not so far.
module _ (is_far : Bool) where
  abbrev held : ℕ
  held = cond is_far 2 1

  held-le : held ≤ 2
  held-le = by is_far
    where
      by : (b : Bool) → cond b 2 1 ≤ 2
      by true = omega arith
      by false = omega arith

  held-some : 1 ≤ held
  held-some = by is_far
    where
      by : (b : Bool) → 1 ≤ cond b 2 1
      by true = omega arith
      by false = omega arith

  abbrev pub stage : Progress → ℕ
  stage progress.Queued = 2
  stage (progress.Again way due) = 2
  stage (progress.Blocked way due) = held
  stage (progress.Waiting t) = 4
  stage progress.Tried = 0
  stage progress.Gone = 0

  abbrev pub cost : Candidate → ℕ
  cost c = 20 * left_of c + 4 * stage c.progress

  abbrev pub costs : List Candidate → ℕ
  costs [] = 0
  costs (c ∷ cs) = cost c + costs cs

  -- so many rounds, each of that
  abbrev pub times : ℕ → ℕ → ℕ
  times zero k = 0
  times (suc n) k = k + times n k

  abbrev pub of_round : List Candidate → ℕ
  of_round cs = 96 * length cs + 8

  abbrev pub budget : TransactionState → ℕ
  budget t = times (t.settings.rounds - t.round) (of_round t.candidates) + costs t.candidates + 4 * length t.late

  stage-le : (p : Progress) → stage p ≤ 4
  stage-le progress.Queued = omega arith
  stage-le (progress.Again way due) = omega arith
  stage-le (progress.Blocked way due) = let two = held-le in omega (arith, two)
  stage-le (progress.Waiting t) = omega arith
  stage-le progress.Tried = omega arith
  stage-le progress.Gone = omega arith

  costs-le : (cs : List Candidate) → costs cs ≤ 96 * length cs
  costs-le [] = omega arith
  costs-le (c ∷ cs) = let more = costs-le cs in let one = stage-le c.progress in omega (arith, more, one)

  -- ---- another in the place of a server

  abbrev pub Inside : Candidate → List Candidate → Type 0
  Inside c [] = ⊥
  Inside c (x ∷ xs) = (x ≡ c) ⊎ Inside c xs

  found-inside : (test : Candidate → Bool) (cs : List Candidate) (c : Candidate) → find test cs ≡ Some c → Inside c cs
  found-inside test [] c e = absurd cc
  found-inside test (x ∷ xs) c e = by (test x) (found-inside test xs c) e
    where
      by : (b : Bool) → (find test xs ≡ Some c → Inside c xs) → cond b (Some x) (find test xs) ≡ Some c → Inside c (x ∷ xs)
      by true more h = inl cc
      by false more h = inr (more h)

  got-inside : (cs : List Candidate) (i : ℕ) (c : Candidate) → slice_get cs i ≡ Some c → Inside c cs
  got-inside [] i c e = absurd cc
  got-inside (x ∷ xs) zero c e = inl cc
  got-inside (x ∷ xs) (suc i) c e = inr (got-inside xs i c e)

  place-inside : (n : ℕ) (cs : List Candidate) (c : Candidate) → HasPlaces n cs → Inside c cs → n ≤ c.place
  place-inside n [] c all h = absurd h
  place-inside n (x ∷ xs) c all (inl same) =
      let place : x.place ≡ c.place = ap (λ (y : Candidate). y.place) same in omega (arith, all.0, place)
  place-inside n (x ∷ xs) c all (inr more) =
      let after = place-inside (n + 1) xs c all.1 more in omega (arith, after)

  length-replaced : (new : Candidate) (cs : List Candidate) → length (replaced new cs) ≡ length cs
  length-replaced new [] = refl
  length-replaced new (x ∷ xs) = by (eqb x.place new.place) (length-replaced new xs)
    where
      by : (b : Bool) → length (replaced new xs) ≡ length xs
          → length (cond b (new ∷ xs) (x ∷ replaced new xs)) ≡ length (x ∷ xs)
      by true more = refl
      by false more = omega (arith, more)

  costs-replaced : (n : ℕ) (cs : List Candidate) (c new : Candidate) → HasPlaces n cs → Inside c cs → new.place ≡ c.place
      → costs (replaced new cs) + cost c ≡ costs cs + cost new
  costs-replaced n [] c new all h same = absurd h
  costs-replaced n (x ∷ xs) c new all h same = by (eqb x.place new.place) refl h (λ m. costs-replaced (n + 1) xs c new all.1 m same)
    where
      by : (b : Bool) → eqb x.place new.place ≡ b → (x ≡ c) ⊎ Inside c xs
          → (Inside c xs → costs (replaced new xs) + cost c ≡ costs xs + cost new)
          → costs (cond b (new ∷ xs) (x ∷ replaced new xs)) + cost c ≡ cost x + costs xs + cost new
      by true at (inl is) more = let own : cost x ≡ cost c = ap cost is in omega (arith, own)
      by false at (inl is) more =
          let place : x.place ≡ new.place = ap (λ (y : Candidate). y.place) is ∙ sym same in
          absurd (true≢false (sym (eq-eqb x.place new.place place) ∙ at))
      by true at (inr m) more =
          let after = place-inside (n + 1) xs c all.1 m in
          let apart : eqb x.place new.place ≡ false =
          ne_eqb x.place new.place (λ (e : x.place ≡ new.place). omega (arith, e, same, after, all.0)) in
          absurd (true≢false (sym at ∙ apart))
      by false at (inr m) more = let rest = more m in omega (arith, rest)

  -- ---- an event changes servers and late tries

  -- what stays
  pub record IsLike (t u : TransactionState) : Type 0 where
    pub settings : u.settings ≡ t.settings
    pub round : u.round ≡ t.round
    pub count : length u.candidates ≡ length t.candidates

  budget-by : (t u : TransactionState) → IsLike t u → (k : ℕ)
      → costs u.candidates + 4 * length u.late + k ≤ costs t.candidates + 4 * length t.late → budget u + k ≤ budget t
  budget-by t u like k less =
      let rounds : times (u.settings.rounds - u.round) (of_round u.candidates)
      ≡ times (t.settings.rounds - t.round) (of_round t.candidates) =
      ap (λ (s : Settings). times (s.rounds - u.round) (of_round u.candidates)) like.settings
      ∙ ap (λ (r : ℕ). times (t.settings.rounds - r) (of_round u.candidates)) like.round
      ∙ ap (λ (n : ℕ). times (t.settings.rounds - t.round) (96 * n + 8)) like.count in
      omega (arith, rounds, less)

  -- ---- late tries

  pub length-pushed : {A : Type 0} (xs : List A) (x : A) → length (xs ++ x ∷ []) ≡ length xs + 1
  length-pushed [] x = omega arith
  length-pushed (y ∷ ys) x = let more = length-pushed ys x in omega (arith, more)

  length-dropped : {A : Type 0} (xs : List A) → length (drop 1 xs) ≤ length xs
  length-dropped [] = omega arith
  length-dropped (x ∷ xs) = omega arith

  length-less : {A : Type 0} (xs : List A) → ltb 0 (length xs) ≡ true → length (drop 1 xs) + 1 ≡ length xs
  length-less [] h = absurd (true≢false (sym h))
  length-less (x ∷ xs) h = omega arith

  filtered-le : (now : ℕ) (ls : List LateTry) → length (filter (λ l. not (has_failed_by now l)) ls) ≤ length ls
  filtered-le now [] = omega arith
  filtered-le now (l ∷ ls) = by (has_failed_by now l) (filtered-le now ls)
    where
      by : (b : Bool) → length (filter (λ x. not (has_failed_by now x)) ls) ≤ length ls
          → length (cond (not b) (l ∷ filter (λ x. not (has_failed_by now x)) ls) (filter (λ x. not (has_failed_by now x)) ls))
          ≤ length (l ∷ ls)
      by true more = omega (arith, more)
      by false more = omega (arith, more)

  filtered-less : (now : ℕ) (ls : List LateTry) → list_any (has_failed_by now) ls ≡ true
      → length (filter (λ l. not (has_failed_by now l)) ls) + 1 ≤ length ls
  filtered-less now [] e = absurd (true≢false (sym e))
  filtered-less now (l ∷ ls) e = by (has_failed_by now l) refl (filtered-less now ls) (filtered-le now ls) e
    where
      by : (b : Bool) → has_failed_by now l ≡ b
          → (list_any (has_failed_by now) ls ≡ true → length (filter (λ x. not (has_failed_by now x)) ls) + 1 ≤ length ls)
          → length (filter (λ x. not (has_failed_by now x)) ls) ≤ length ls
          → list_any (has_failed_by now) (l ∷ ls) ≡ true
          → length (cond (not b) (l ∷ filter (λ x. not (has_failed_by now x)) ls) (filter (λ x. not (has_failed_by now x)) ls)) + 1
          ≤ length (l ∷ ls)
      by true is more le h = omega (arith, le)
      by false is more le h =
          let rest = more (sym (ap (λ (b : Bool). b || list_any (has_failed_by now) ls) is) ∙ h) in
          omega (arith, rest)

  -- ---- the oldest late try is given up

  pub budget-given_up : (t : TransactionState) → has_late t ≡ true → budget (without_oldest t) + 4 ≤ budget t
  budget-given_up t h =
      let less = length-less t.late h in
      budget-by t (without_oldest t) (record { settings = refl; round = refl; count = refl }) 4 (omega (arith, less))

  -- ---- a round begins

  length-requeued : (cs : List Candidate) → length (map {A = Candidate} requeued cs) ≡ length cs
  length-requeued [] = refl
  length-requeued (c ∷ cs) = let rest = length-requeued cs in omega (arith, rest)

  pub budget-round : (t : TransactionState) (order : List ℕ) → wants_round t ≡ true → t.round < t.settings.rounds
      → budget (with_round order t) + 8 ≤ budget t
  budget-round t order wants more = by (wants_round t) wants
    where
      counts : length (map {A = Candidate} requeued t.candidates) ≡ length t.candidates
      counts = length-requeued t.candidates

      rounds : (d : ℕ) → t.settings.rounds - t.round ≡ d
          → times (t.settings.rounds - (t.round + 1)) (of_round (map {A = Candidate} requeued t.candidates))
          + of_round t.candidates ≡ times (t.settings.rounds - t.round) (of_round t.candidates)
      rounds zero is = absurd (omega (arith, is, more))
      rounds (suc d) is =
          let before : times (t.settings.rounds - t.round) (of_round t.candidates)
          ≡ of_round t.candidates + times d (of_round t.candidates) =
          ap (λ (n : ℕ). times n (of_round t.candidates)) is in
          let left : t.settings.rounds - (t.round + 1) ≡ d = omega (arith, is) in
          let after : times (t.settings.rounds - (t.round + 1)) (of_round (map {A = Candidate} requeued t.candidates))
          ≡ times d (of_round t.candidates) =
          ap (λ (n : ℕ). times n (of_round (map {A = Candidate} requeued t.candidates))) left
          ∙ ap (λ (n : ℕ). times d (96 * n + 8)) counts in
          omega (arith, before, after)

      by : (b : Bool) → b ≡ true → budget (cond b (record t {
        candidates = map {A = Candidate} requeued t.candidates;
        order = order;
        round = t.round + 1;
      }) t) + 8 ≤ budget t
      by false e = absurd (true≢false (sym e))
      by true e =
          let all = rounds (t.settings.rounds - t.round) refl in
          let most = costs-le (map {A = Candidate} requeued t.candidates) in
          omega (arith, all, most, counts)

  -- ---- what is wanted is sent, or waits for a channel

  -- it is to be sent: asked again, or not asked yet
  pub record IsNext (t : TransactionState) (c : Candidate) : Type 0 where
    pub inside : Inside c t.candidates
    pub staged : stage c.progress ≡ 2
    pub room : sends_by (way_of c).transport c < 2

  all-inside : (P : Candidate → Type 0) (cs : List Candidate) (c : Candidate) → AllByRecursion P cs → Inside c cs → P c
  all-inside P [] c all h = absurd h
  all-inside P (x ∷ xs) c all (inl same) = subst P same all.0
  all-inside P (x ∷ xs) c all (inr more) = all-inside P xs c all.1 more

  transport-room : (p : Transport) (c : Candidate) → c.udp_sends ≡ 0 → c.tcp_sends ≡ 0 → sends_by p c < 2
  transport-room Udp c one two = omega (arith, one)
  transport-room Tcp c one two = omega (arith, two)

  next-again : (t : TransactionState) (c : Candidate) → AllByRecursion IsWithinSends t.candidates → Inside c t.candidates
      → is_again c.progress ≡ true → IsNext t c
  next-again t c all inside is = by c.progress refl is (all-inside IsWithinSends t.candidates c all inside).room
    where
      by : (p : Progress) → c.progress ≡ p → is_again p ≡ true → HasRoom c.progress c → IsNext t c
      by progress.Queued at h room = absurd (true≢false (sym h))
      by (progress.Again way due) at h room = record {
        inside = inside;
        staged = ap stage at;
        room = subst (λ (w : Way). sends_by w.transport c < 2) (sym (ap (λ (q : Progress). way_in q (first_way c)) at))
            (subst (λ (q : Progress). HasRoom q c) at room);
      }
      by (progress.Blocked way due) at h room = absurd (true≢false (sym h))
      by (progress.Waiting x) at h room = absurd (true≢false (sym h))
      by progress.Tried at h room = absurd (true≢false (sym h))
      by progress.Gone at h room = absurd (true≢false (sym h))

  next-queued : (t : TransactionState) (c : Candidate) → AllByRecursion IsWithinSends t.candidates → Inside c t.candidates
      → is_queued c.progress ≡ true → IsNext t c
  next-queued t c all inside is = by c.progress refl is (all-inside IsWithinSends t.candidates c all inside).room
    where
      by : (p : Progress) → c.progress ≡ p → is_queued p ≡ true → HasRoom c.progress c → IsNext t c
      by progress.Queued at h room =
          let none = subst (λ (q : Progress). HasRoom q c) at room in
          record { inside = inside; staged = ap stage at; room = transport-room (way_of c).transport c none.0 none.1 }
      by (progress.Again way due) at h room = absurd (true≢false (sym h))
      by (progress.Blocked way due) at h room = absurd (true≢false (sym h))
      by (progress.Waiting x) at h room = absurd (true≢false (sym h))
      by progress.Tried at h room = absurd (true≢false (sym h))
      by progress.Gone at h room = absurd (true≢false (sym h))

  find-test : (test : ℕ → Bool) (xs : List ℕ) (x : ℕ) → find test xs ≡ Some x → test x ≡ true
  find-test test xs x e = found-passes test xs x e

  next-first : (t : TransactionState) (c : Candidate) → AllByRecursion IsWithinSends t.candidates → first_queued t ≡ Some c
      → IsNext t c
  next-first t c all e = by (find (is_queued_at t.candidates) t.order) refl e
    where
      picks : picked is_queued t ≡ Some c → IsNext t c
      picks h =
          next-queued t c all (found-inside (λ x. is_queued x.progress) t.candidates c h)
          (found-passes (λ (x : Candidate). is_queued x.progress) t.candidates c h)

      at-place : (place : ℕ) → find (is_queued_at t.candidates) t.order ≡ Some place → (o : Option Candidate)
          → slice_get t.candidates place ≡ o → option_or o (picked is_queued t) ≡ Some c → IsNext t c
      at-place place found None at h = picks h
      at-place place found (Some d) at h =
          let same : d ≡ c = cc in
          let test = find-test (is_queued_at t.candidates) t.order place found in
          let queued : is_queued d.progress ≡ true =
          sym (ap (λ (o : Option Candidate). option_map_or (λ x. is_queued x.progress) o false) at) ∙ test in
          next-queued t c all (got-inside t.candidates place c (at ∙ ap (λ (x : Candidate). Some x) same))
          (ap (λ (x : Candidate). is_queued x.progress) (sym same) ∙ queued)

      by : (o : Option ℕ) → find (is_queued_at t.candidates) t.order ≡ o
          → option_or (option_and_then (slice_get t.candidates) o) (picked is_queued t) ≡ Some c → IsNext t c
      by None found h = picks h
      by (Some place) found h = at-place place found (slice_get t.candidates place) refl h

  pub next-is : (t : TransactionState) (c : Candidate) → AllByRecursion IsWithinSends t.candidates → chosen t ≡ Some c
      → IsNext t c
  next-is t c all e = by (may_send t) e
    where
      again : (o : Option Candidate) → picked is_again t ≡ o → option_or o (first_queued t) ≡ Some c → IsNext t c
      again None at h = next-first t c all h
      again (Some d) at h =
          let same : d ≡ c = cc in
          let found = at ∙ ap (λ (x : Candidate). Some x) same in
          next-again t c all (found-inside (λ x. is_again x.progress) t.candidates c found)
          (found-passes (λ (x : Candidate). is_again x.progress) t.candidates c found)

      by : (b : Bool) → cond b (next_of t) None ≡ Some c → IsNext t c
      by true h = again (picked is_again t) refl h
      by false h = absurd cc

  counted-left : (p : Transport) (c : Candidate) → sends_by p c < 2 → left_of (counted p c) + 1 ≤ left_of c
  counted-left Udp c room = omega (arith, room)
  counted-left Tcp c room = omega (arith, room)

  counted-place : (p : Transport) (c : Candidate) → (counted p c).place ≡ c.place
  counted-place Udp c = refl
  counted-place Tcp c = refl

  module _ (t : TransactionState) (places : HasPlaces 0 t.candidates) (all : AllByRecursion IsWithinSends t.candidates) where
    pub budget-sent : (made : Made) → is_some (wanted t) ≡ true → budget (sent made t) + 12 ≤ budget t
    budget-sent made wants = by (chosen t) refl wants
      where
        by : (o : Option Candidate) → chosen t ≡ o
            → is_some {T = Wanted} (option_map (λ c. record { place = c.place; way = way_of c }) o) ≡ true
            → budget (option_map_or (λ c. record t { candidates = replaced (sent_with made t.settings c) t.candidates }) o t) + 12
            ≤ budget t
        by None at h = absurd (true≢false (sym h))
        by (Some c) at h =
            let next = next-is t c all at in
            let new : Candidate = sent_with made t.settings c in
            let less = counted-left (way_of c).transport c next.room in
            let sum = costs-replaced 0 t.candidates c new places next.inside (counted-place (way_of c).transport c) in
            let before = next.staged in
            budget-by t (record t { candidates = replaced new t.candidates })
            (record { settings = refl; round = refl; count = length-replaced new t.candidates }) 12
            (omega (arith, less, sum, before))

    pub budget-unsent : (due : ℕ) → is_some (wanted t) ≡ true → budget (unsent due t) + 4 * (2 - held) ≤ budget t
    budget-unsent due wants = by (chosen t) refl wants
      where
        by : (o : Option Candidate) → chosen t ≡ o
            → is_some {T = Wanted} (option_map (λ c. record { place = c.place; way = way_of c }) o) ≡ true
            → budget (option_map_or (λ c. record t { candidates = replaced (without_channel due c) t.candidates }) o t) + 4 * (2 - held)
            ≤ budget t
        by None at h = absurd (true≢false (sym h))
        by (Some c) at h =
            let next = next-is t c all at in
            let new : Candidate = without_channel due c in
            let sum = costs-replaced 0 t.candidates c new places next.inside refl in
            let before = next.staged in
            budget-by t (record t { candidates = replaced new t.candidates })
            (record { settings = refl; round = refl; count = length-replaced new t.candidates }) (4 * (2 - held))
            (let two = held-le in omega (arith, sum, before, two))

  -- ---- time passes

  module _ (t : TransactionState) (now : ℕ) (places : HasPlaces 0 t.candidates) where
    -- a late try more at the most
    kept-late : (s : TransactionState) (l : LateTry)
        → (length (with_late l s).late ≤ length s.late + 1) × ((with_late l s).candidates ≡ s.candidates)
        × ((with_late l s).settings ≡ s.settings) × ((with_late l s).round ≡ s.round)
    kept-late s l = by (ltb (length s.late) 2)
      where
        by : (few : Bool) → (length (cond few (late_too l s) (late_too l (without_oldest s))).late ≤ length s.late + 1)
            × ((cond few (late_too l s) (late_too l (without_oldest s))).candidates ≡ s.candidates)
            × ((cond few (late_too l s) (late_too l (without_oldest s))).settings ≡ s.settings)
            × ((cond few (late_too l s) (late_too l (without_oldest s))).round ≡ s.round)
        by true = (let one = length-pushed s.late l in omega (arith, one), refl, refl, refl)
        by false = (
          let one = length-pushed (drop 1 s.late) l in let two = length-dropped s.late in omega (arith, one, two),
          refl,
          refl,
          refl,
        )

    module _ (c : Candidate) (inside : Inside c t.candidates) where
      lower : (s : TransactionState) (new : Candidate) → length s.late ≤ length t.late + 1 → s.candidates ≡ t.candidates
          → s.settings ≡ t.settings → s.round ≡ t.round → new.place ≡ c.place → cost new + 8 ≤ cost c
          → budget (record s { candidates = replaced new s.candidates }) + 4 ≤ budget t
      lower s new late same settings round place less =
          let sum = costs-replaced 0 t.candidates c new places inside place in
          let now_is : costs (replaced new s.candidates) ≡ costs (replaced new t.candidates) =
          ap (λ (cs : List Candidate). costs (replaced new cs)) same in
          budget-by t (record s { candidates = replaced new s.candidates })
          (record {
            settings = settings;
            round = round;
            count = ap (λ (cs : List Candidate). length (replaced new cs)) same ∙ length-replaced new t.candidates;
          }) 4 (omega (arith, sum, now_is, late, less))

      waiting-lower : (x : Try) → c.progress ≡ progress.Waiting x
          → budget (acted (after_deadline t.settings.tcp_on_error c x) true c t) + 4 ≤ budget t
      waiting-lower x is = by (t.settings.tcp_on_error && may_begin_tcp c x)
        where
          four : stage c.progress ≡ 4
          four = ap stage is

          kept : (length (kept_in c.progress c.place t).late ≤ length t.late + 1)
              × ((kept_in c.progress c.place t).candidates ≡ t.candidates)
              × ((kept_in c.progress c.place t).settings ≡ t.settings)
              × ((kept_in c.progress c.place t).round ≡ t.round)
          kept =
              subst (λ (p : Progress). (length (kept_in p c.place t).late ≤ length t.late + 1)
              × ((kept_in p c.place t).candidates ≡ t.candidates)
              × ((kept_in p c.place t).settings ≡ t.settings) × ((kept_in p c.place t).round ≡ t.round)) (sym is)
              (kept-late t (record { place = c.place; tried = x; has_failed = false }))

          by : (again : Bool) → budget (acted
              (cond again (Again (record { transport = Tcp; with_opt = x.form.with_opt })) (Rests told.Timeout)) true c t) + 4
              ≤ budget t
          by true =
              lower (kept_in c.progress c.place t)
              (record c { progress = progress.Again (record { transport = Tcp; with_opt = x.form.with_opt }) None })
              kept.0 kept.1 kept.2 kept.3 refl (omega (arith, four))
          by false =
              lower (kept_in c.progress c.place t) (record c { progress = progress.Tried }) kept.0 kept.1 kept.2 kept.3 refl
              (omega (arith, four))

      found-lower : (p : Progress) → c.progress ≡ p → is_due now p ≡ true → budget (expired_in c p t) + 4 ≤ budget t
      found-lower progress.Queued is due = absurd (true≢false (sym due))
      found-lower (progress.Again way at) is due = absurd (true≢false (sym due))
      found-lower (progress.Blocked way at) is due =
          let one : stage c.progress ≡ held = ap stage is in
          let some = held-some in
          let sum = costs-replaced 0 t.candidates c (record c { progress = progress.Tried }) places inside refl in
          budget-by t (expired_in c (progress.Blocked way at) t)
          (record { settings = refl; round = refl; count = length-replaced (record c { progress = progress.Tried }) t.candidates }) 4
          (omega (arith, one, some, sum))
      found-lower (progress.Waiting x) is due = waiting-lower x is
      found-lower progress.Tried is due = absurd (true≢false (sym due))
      found-lower progress.Gone is due = absurd (true≢false (sym due))

    late-lower : list_any (has_failed_by now) t.late ≡ true → budget (late_expired now t) + 4 ≤ budget t
    late-lower e = by (list_any (has_failed_by now) t.late) e
      where
        by : (some : Bool) → some ≡ true → budget (cond some
            (noting told.Unreachable (record t { late = filter (λ l. not (has_failed_by now l)) t.late })) t) + 4 ≤ budget t
        by true h =
            let less = filtered-less now t.late e in
            budget-by t (noting told.Unreachable (record t { late = filter (λ l. not (has_failed_by now l)) t.late }))
            (record { settings = refl; round = refl; count = refl }) 4 (omega (arith, less))
        by false h = absurd (true≢false (sym h))

    pub budget-expired : (due : ℕ) → next_deadline t ≡ Some due → due ≤ now → budget (expired now t) + 4 ≤ budget t
    budget-expired due e come = by (picked (is_due now) t) refl
      where
        late : picked (is_due now) t ≡ None
            → (fold earlier None (filter_map (λ c. due_of c.progress) t.candidates) ≡ Some due)
            ⊎ Has due (filter_map late_due t.late)
            → list_any (has_failed_by now) t.late ≡ true
        late none (inr h) = failed-found due now come t.late h
        late none (inl h) = first none (fold-is None (filter_map (λ c. due_of c.progress) t.candidates) due h)
          where
            first : picked (is_due now) t ≡ None
                → (None ≡ Some due) ⊎ Has due (filter_map (λ c. due_of c.progress) t.candidates)
                → list_any (has_failed_by now) t.late ≡ true
            first none (inl no_such) = absurd cc
            first none (inr has) = absurd (server-found due now come t.candidates has none)

        by : (found : Option Candidate) → picked (is_due now) t ≡ found
            → budget (option_map_or (λ c. expired_in c c.progress t) found (late_expired now t)) + 4 ≤ budget t
        by None none =
            late-lower (late none (fold-is (fold earlier None (filter_map (λ c. due_of c.progress) t.candidates))
            (filter_map late_due t.late) due e))
        by (Some c) found =
            found-lower c (found-inside (λ x. is_due now x.progress) t.candidates c found) c.progress refl
            (found-passes (λ (x : Candidate). is_due now x.progress) t.candidates c found)

-- ---- a channel is free: what waits for one is to be asked again, which is as far

freed-stage : (p : Progress) → stage true (freed_progress p) ≤ stage true p
freed-stage progress.Queued = omega arith
freed-stage (progress.Again way due) = omega arith
freed-stage (progress.Blocked way due) = omega arith
freed-stage (progress.Waiting t) = omega arith
freed-stage progress.Tried = omega arith
freed-stage progress.Gone = omega arith

pub budget-freed : (t : TransactionState) → HasPlaces 0 t.candidates → budget true (freed t) ≤ budget true t
budget-freed t places = by (picked is_blocked t) refl
  where
    by : (found : Option Candidate) → picked is_blocked t ≡ found
        → budget true (option_map_or (λ c. replacing (freed_one c) t) found t) ≤ budget true t
    by None none = omega arith
    by (Some c) found =
        let inside = found-inside true (λ x. is_blocked x.progress) t.candidates c found in
        let sum = costs-replaced true 0 t.candidates c (freed_one c) places inside refl in
        let less = freed-stage c.progress in
        let lower = budget-by true t (replacing (freed_one c) t)
        (record { settings = refl; round = refl; count = length-replaced true (freed_one c) t.candidates }) 0
        (omega (arith, sum, less)) in
        omega (arith, lower)
