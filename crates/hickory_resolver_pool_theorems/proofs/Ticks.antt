-- A tick at the moment up to which a transaction waits has it wait for less.
use Rattle.std.proofs.Common.{◌≡◌, ◌≤◌, ◌<◌, ◌+◌, ℕ, Bool, true, false, cond, not, ◌&&◌, ◌||◌, leb, le-leb, ltb, eqb, ne_eqb, eq-eqb, List, [], ◌∷◌, ◌++◌, length, drop, refl, ap, sym, subst, ◌∙◌, inl, inr, ◌⊎◌, true≢false, arith}
use Rattle.std.specs.Prelude.{Option, None, Some, find, filter}
use Rattle.std.specs.List.{fold, filter_map, cons_option, list_any}
use Rattle.std.specs.Option.{option_map_or}
use Rattle.hickory_resolver_transactions.specs.Candidates.{is_waiting, is_blocked, due_of, is_due, is_past, late_due, has_failed_by}
use Rattle.hickory_resolver_transactions.specs.Table.{after_deadline, may_begin_tcp}
use Rattle.hickory_resolver_transactions.specs.Transaction.{TransactionState, replaced, noting, without_oldest, late_too, with_late, kept_in, acted, picked, earlier, next_deadline, expired_in, late_expired, expired}
use Rattle.hickory_resolver_transactions.specs.declared.candidate.Candidate.{Candidate}
use Rattle.hickory_resolver_transactions.specs.declared.candidate.LateTry.{LateTry}
use Rattle.hickory_resolver_transactions.specs.declared.candidate.Progress.{Progress}
use Rattle.hickory_resolver_transactions.specs.declared.candidate.Progress.TheVariants as progress
use Rattle.hickory_resolver_transactions.specs.declared.candidate.Try.{Try}
use Rattle.hickory_resolver_transactions.specs.declared.candidate.Transport.TheVariants.{Tcp}
use Rattle.hickory_resolver_transactions.specs.declared.outcome.Outcome.TheVariants as told
use Rattle.hickory_resolver_transactions.specs.declared.table.Then.TheVariants.{Rests, Again}
use Rattle.hickory_resolver_pool_theorems.specs.Ticks.{one_if, waiting_in, failed_in, waits_for, EachTickLowers}
use Rattle.hickory_resolver_pool_theorems.proofs.Servers.{HasPlaces, has-places}
use Rattle.hickory_resolver_pool_theorems.proofs.Tries.{found-passes}

-- ---- the earliest is one of them

abbrev pub Has : ℕ → List ℕ → Type 0
Has due [] = ⊥
Has due (x ∷ xs) = (x ≡ due) ⊎ Has due xs

earlier-is : (first : Option ℕ) (x due : ℕ) → earlier first x ≡ Some due → (first ≡ Some due) ⊎ (x ≡ due)
earlier-is None x due e = inr cc
earlier-is (Some other) x due e = by (ltb x other) e
  where
    by : (b : Bool) → cond b (Some x) (Some other) ≡ Some due → (Some other ≡ Some due) ⊎ (x ≡ due)
    by true h = inr cc
    by false h = inl h

pub fold-is : (first : Option ℕ) (xs : List ℕ) (due : ℕ) → fold earlier first xs ≡ Some due → (first ≡ Some due) ⊎ Has due xs
fold-is first [] due e = inl e
fold-is first (x ∷ xs) due e = by (fold-is (earlier first x) xs due e)
  where
    here : (first ≡ Some due) ⊎ (x ≡ due) → (first ≡ Some due) ⊎ Has due (x ∷ xs)
    here (inl h) = inl h
    here (inr h) = inr (inl h)

    by : (earlier first x ≡ Some due) ⊎ Has due xs → (first ≡ Some due) ⊎ Has due (x ∷ xs)
    by (inl h) = here (earlier-is first x due h)
    by (inr h) = inr (inr h)

module _ (due now : ℕ) (come : due ≤ now) where
  -- a server that waits up to then is found
  pub server-found : (cs : List Candidate) → Has due (filter_map (λ c. due_of c.progress) cs)
      → find (λ c. is_due now c.progress) cs ≡ None → ⊥
  server-found [] h none = h
  server-found (c ∷ cs) h none = by (due_of c.progress) refl (server-found cs) h none
    where
      here : (o : Option ℕ) → due_of c.progress ≡ o → (b : Bool) → is_past now o ≡ b
          → cond (is_past now (due_of c.progress)) (Some c) (find (λ x. is_due now x.progress) cs) ≡ None
          → b ≡ true → ⊥
      here o is b past none come_is =
          let found : Some c ≡ None =
          sym (ap (λ (x : Bool). cond x (Some c) (find (λ y. is_due now y.progress) cs))
          (ap (λ (x : Option ℕ). is_past now x) is ∙ past ∙ come_is)) ∙ none in cc

      rest : (b : Bool) → cond b (Some c) (find (λ x. is_due now x.progress) cs) ≡ None
          → find (λ x. is_due now x.progress) cs ≡ None
      rest true e = absurd cc
      rest false e = e

      by : (o : Option ℕ) → due_of c.progress ≡ o
          → (Has due (filter_map (λ x. due_of x.progress) cs) → find (λ x. is_due now x.progress) cs ≡ None → ⊥)
          → Has due (cons_option o (filter_map (λ x. due_of x.progress) cs))
          → cond (is_past now (due_of c.progress)) (Some c) (find (λ x. is_due now x.progress) cs) ≡ None → ⊥
      by None is more h none = more h (rest (is_past now (due_of c.progress)) none)
      by (Some at) is more (inl same) none =
          here (Some at) is (leb at now) refl none (le-leb at now (omega (arith, same, come)))
      by (Some at) is more (inr h) none = more h (rest (is_past now (due_of c.progress)) none)

  -- a try that failed and is due by then is there
  pub failed-found : (ls : List LateTry) → Has due (filter_map late_due ls) → list_any (has_failed_by now) ls ≡ true
  failed-found [] h = absurd h
  failed-found (l ∷ ls) h = by l.has_failed (failed-found ls) h
    where
      by : (failed : Bool) → (Has due (filter_map late_due ls) → list_any (has_failed_by now) ls ≡ true)
          → Has due (cons_option (cond failed (Some l.tried.due) None) (filter_map late_due ls))
          → ((failed && leb l.tried.due now) || list_any (has_failed_by now) ls) ≡ true
      by true more (inl same) =
          ap (λ (b : Bool). b || list_any (has_failed_by now) ls)
          (le-leb l.tried.due now (omega (arith, same, come)))
      by true more (inr h) = test (leb l.tried.due now) (more h)
        where
          test : (b : Bool) → list_any (has_failed_by now) ls ≡ true → (b || list_any (has_failed_by now) ls) ≡ true
          test true e = refl
          test false e = e
      by false more h = more h

-- ---- what waits

abbrev waits : Progress → Bool
waits p = is_waiting p || is_blocked p

place-after : (n : ℕ) (test : Candidate → Bool) (cs : List Candidate) (c : Candidate) → HasPlaces n cs
    → find test cs ≡ Some c → n ≤ c.place
place-after n test [] c all e = absurd cc
place-after n test (x ∷ xs) c all e = by (test x) (place-after (n + 1) test xs c all.1) e
  where
    by : (b : Bool) → (find test xs ≡ Some c → n + 1 ≤ c.place) → cond b (Some x) (find test xs) ≡ Some c → n ≤ c.place
    by true more h =
        let same : x ≡ c = cc in
        subst (λ (y : Candidate). n ≤ y.place) same (omega (arith, all.0))
    by false more h = omega (arith, more h)

-- a server that was found is the one whose place another takes
one-less : (n : ℕ) (test : Candidate → Bool) (cs : List Candidate) (c new : Candidate) → HasPlaces n cs
    → find test cs ≡ Some c → waits c.progress ≡ true → new.place ≡ c.place → waits new.progress ≡ false
    → waiting_in (replaced new cs) + 1 ≡ waiting_in cs
one-less n test [] c new all e w same stops = absurd cc
one-less n test (x ∷ xs) c new all e w same stops =
    by (test x) (λ h. one-less (n + 1) test xs c new all.1 h w same stops) (λ h. place-after (n + 1) test xs c all.1 h) e
  where
    here : (b : Bool) → eqb x.place new.place ≡ b → x ≡ c → waiting_in (cond b (new ∷ xs) (x ∷ replaced new xs)) + 1
        ≡ one_if (waits x.progress) + waiting_in xs
    here true at is =
        let one : waits x.progress ≡ true = subst (λ (y : Candidate). waits y.progress ≡ true) (sym is) w in
        let lower : one_if (waits new.progress) ≡ 0 = ap one_if stops in
        let before : one_if (waits x.progress) ≡ 1 = ap one_if one in
        omega (arith, lower, before)
    here false at is =
        let place : x.place ≡ new.place = ap (λ (y : Candidate). y.place) is ∙ sym same in
        absurd (true≢false (sym (eq-eqb x.place new.place place) ∙ at))

    there : (b : Bool) → eqb x.place new.place ≡ b → n + 1 ≤ c.place
        → waiting_in (replaced new xs) + 1 ≡ waiting_in xs
        → waiting_in (cond b (new ∷ xs) (x ∷ replaced new xs)) + 1 ≡ one_if (waits x.progress) + waiting_in xs
    there true at later more =
        let apart : eqb x.place new.place ≡ false =
        ne_eqb x.place new.place (λ (h : x.place ≡ new.place). omega (arith, h, same, later, all.0)) in
        absurd (true≢false (sym at ∙ apart))
    there false at later more = omega (arith, more)

    by : (b : Bool) → (find test xs ≡ Some c → waiting_in (replaced new xs) + 1 ≡ waiting_in xs)
        → (find test xs ≡ Some c → n + 1 ≤ c.place) → cond b (Some x) (find test xs) ≡ Some c
        → waiting_in (cond (eqb x.place new.place) (new ∷ xs) (x ∷ replaced new xs)) + 1
        ≡ one_if (waits x.progress) + waiting_in xs
    by true more later h = let is : x ≡ c = cc in here (eqb x.place new.place) refl is
    by false more later h = there (eqb x.place new.place) refl (later h) (more h)

-- ---- late tries

failed-pushed : (ls : List LateTry) (l : LateTry) → l.has_failed ≡ false → failed_in (ls ++ l ∷ []) ≡ failed_in ls
failed-pushed [] l e = ap (λ (b : Bool). one_if b + 0) e
failed-pushed (x ∷ xs) l e = ap (λ (n : ℕ). one_if x.has_failed + n) (failed-pushed xs l e)

failed-dropped : (ls : List LateTry) → failed_in (drop 1 ls) ≤ failed_in ls
failed-dropped [] = omega arith
failed-dropped (x ∷ xs) = omega arith

-- the ones whose time has come are gone
filtered-le : (now : ℕ) (ls : List LateTry) → failed_in (filter (λ l. not (has_failed_by now l)) ls) ≤ failed_in ls
filtered-le now [] = omega arith
filtered-le now (l ∷ ls) = by (has_failed_by now l) (filtered-le now ls)
  where
    by : (b : Bool) → failed_in (filter (λ x. not (has_failed_by now x)) ls) ≤ failed_in ls
        → failed_in (cond (not b) (l ∷ filter (λ x. not (has_failed_by now x)) ls) (filter (λ x. not (has_failed_by now x)) ls))
        ≤ one_if l.has_failed + failed_in ls
    by true more = omega (arith, more)
    by false more = omega (arith, more)

filtered-less : (now : ℕ) (ls : List LateTry) → list_any (has_failed_by now) ls ≡ true
    → failed_in (filter (λ l. not (has_failed_by now l)) ls) < failed_in ls
filtered-less now [] e = absurd (true≢false (sym e))
filtered-less now (l ∷ ls) e =
    by l.has_failed (leb l.tried.due now) refl (filtered-less now ls) (filtered-le now ls) e
  where
    by : (failed due : Bool) → l.has_failed ≡ failed
        → (list_any (has_failed_by now) ls ≡ true → failed_in (filter (λ x. not (has_failed_by now x)) ls) < failed_in ls)
        → failed_in (filter (λ x. not (has_failed_by now x)) ls) ≤ failed_in ls
        → ((failed && due) || list_any (has_failed_by now) ls) ≡ true
        → failed_in (cond (not (failed && due)) (l ∷ filter (λ x. not (has_failed_by now x)) ls) (filter (λ x. not (has_failed_by now x)) ls))
        < one_if l.has_failed + failed_in ls
    by true true is more le h = let one : one_if l.has_failed ≡ 1 = ap one_if is in omega (arith, le, one)
    by true false is more le h = let less = more h in omega (arith, less)
    by false due is more le h = let less = more h in omega (arith, less)

-- ---- a tick

module _ (t : TransactionState) (now : ℕ) (places : HasPlaces 0 t.candidates) where
  -- a late try more, of which no channel failed
  kept-late : (s : TransactionState) (l : LateTry) → l.has_failed ≡ false
      → (failed_in (with_late l s).late ≤ failed_in s.late) × ((with_late l s).candidates ≡ s.candidates)
  kept-late s l e = by (ltb (length s.late) 2)
    where
      by : (few : Bool)
          → (failed_in (cond few (late_too l s) (late_too l (without_oldest s))).late ≤ failed_in s.late)
          × ((cond few (late_too l s) (late_too l (without_oldest s))).candidates ≡ s.candidates)
      by true = (omega (arith, failed-pushed s.late l e), refl)
      by false = (omega (arith, failed-pushed (drop 1 s.late) l e, failed-dropped s.late), refl)

  module _ (c : Candidate) (found : picked (is_due now) t ≡ Some c) where
    -- another that does not wait, in the place of this one
    lower : (s : TransactionState) (new : Candidate) → failed_in s.late ≤ failed_in t.late → s.candidates ≡ t.candidates
        → waits c.progress ≡ true → new.place ≡ c.place → waits new.progress ≡ false
        → waiting_in (replaced new s.candidates) + failed_in s.late < waits_for t
    lower s new late same w place stops =
        let one = one-less 0 (λ x. is_due now x.progress) t.candidates c new places found w place stops in
        let all : waiting_in (replaced new s.candidates) + 1 ≡ waiting_in t.candidates =
        ap (λ (cs : List Candidate). waiting_in (replaced new cs) + 1) same ∙ one in
        omega (arith, all, late)

    waiting-lower : (x : Try) → c.progress ≡ progress.Waiting x
        → waits_for (acted (after_deadline t.settings.tcp_on_error c x) true c t) < waits_for t
    waiting-lower x is = by (t.settings.tcp_on_error && may_begin_tcp c x)
      where
        w : waits c.progress ≡ true
        w = ap waits is

        l : LateTry
        l = record { place = c.place; tried = x; has_failed = false }

        kept : (failed_in (kept_in c.progress c.place t).late ≤ failed_in t.late)
            × ((kept_in c.progress c.place t).candidates ≡ t.candidates)
        kept =
            subst (λ (p : Progress). (failed_in (kept_in p c.place t).late ≤ failed_in t.late)
            × ((kept_in p c.place t).candidates ≡ t.candidates)) (sym is)
            (kept-late t (record { place = c.place; tried = x; has_failed = false }) refl)

        by : (again : Bool) → waits_for (acted
            (cond again (Again (record { transport = Tcp; with_opt = x.form.with_opt })) (Rests told.Timeout)) true c t) < waits_for t
        by true =
            lower (kept_in c.progress c.place t)
            (record c { progress = progress.Again (record { transport = Tcp; with_opt = x.form.with_opt }) None })
            kept.0 kept.1 w refl refl
        by false = lower (kept_in c.progress c.place t) (record c { progress = progress.Tried }) kept.0 kept.1 w refl refl

    found-lower : (p : Progress) → c.progress ≡ p → is_due now p ≡ true → waits_for (expired_in c p t) < waits_for t
    found-lower progress.Queued is due = absurd (true≢false (sym due))
    found-lower (progress.Again way at) is due = absurd (true≢false (sym due))
    found-lower (progress.Blocked way at) is due =
        lower t (record c { progress = progress.Tried }) (omega arith) refl (ap waits is) refl refl
    found-lower (progress.Waiting x) is due = waiting-lower x is
    found-lower progress.Tried is due = absurd (true≢false (sym due))
    found-lower progress.Gone is due = absurd (true≢false (sym due))

  late-lower : list_any (has_failed_by now) t.late ≡ true → waits_for (late_expired now t) < waits_for t
  late-lower e = by (list_any (has_failed_by now) t.late) e
    where
      by : (some : Bool) → some ≡ true → waits_for (cond some
          (noting told.Unreachable (record t { late = filter (λ l. not (has_failed_by now l)) t.late })) t) < waits_for t
      by true h = let less = filtered-less now t.late e in omega (arith, less)
      by false h = absurd (true≢false (sym h))

  tick-lower : (due : ℕ) → next_deadline t ≡ Some due → due ≤ now → waits_for (expired now t) < waits_for t
  tick-lower due e come = by (picked (is_due now) t) refl
    where
      -- one of the late ones, where it is none of the servers
      late : picked (is_due now) t ≡ None
          → (fold earlier None (filter_map (λ c. due_of c.progress) t.candidates) ≡ Some due)
          ⊎ Has due (filter_map late_due t.late)
          → list_any (has_failed_by now) t.late ≡ true
      late none (inr h) = failed-found due now come t.late h
      late none (inl h) = first none (fold-is None (filter_map (λ c. due_of c.progress) t.candidates) due h)
        where
          first : picked (is_due now) t ≡ None
              → (None ≡ Some due) ⊎ Has due (filter_map (λ c. due_of c.progress) t.candidates)
              → list_any (has_failed_by now) t.late ≡ true
          first none (inl no_such) = absurd cc
          first none (inr has) = absurd (server-found due now come t.candidates has none)

      by : (found : Option Candidate) → picked (is_due now) t ≡ found
          → waits_for (option_map_or (λ c. expired_in c c.progress t) found (late_expired now t)) < waits_for t
      by None none =
          late-lower (late none (fold-is (fold earlier None (filter_map (λ c. due_of c.progress) t.candidates))
          (filter_map late_due t.late) due e))
      by (Some c) found =
          found-lower c found c.progress refl
          (found-passes (λ (x : Candidate). is_due now x.progress) t.candidates c found)

pub each_tick_lowers : EachTickLowers
each_tick_lowers t m due now e come =
    tick-lower t now (has-places m.settings m.servers m.events m.rounds t m.made) due e come
