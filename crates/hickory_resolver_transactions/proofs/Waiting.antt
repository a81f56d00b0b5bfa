-- A transaction that is not over waits for something that comes.
use Rattle.std.proofs.Common.{◌≡◌, ◌⊎◌, ℕ, ◌+◌, ◌<◌, ◌≤◌, Bool, true, false, cond, not, ◌&&◌, ◌||◌, ltb, List, [], ◌∷◌, refl, ap, sym, ◌∙◌, inl, inr, arith}
use Rattle.std.specs.Prelude.{Option, None, Some, find, count_by, slice_get}
use Rattle.std.specs.List.{list_any, fold, filter_map, cons_option}
use Rattle.std.specs.Option.{is_some, is_none, option_or, option_and_then, option_map}
use Rattle.std.proofs.lemmas.Bool.{ltb-false}
use Rattle.std.proofs.lemmas.List.Sums.{sum_by-cons}
use Rattle.hickory_resolver_transactions.specs.Candidates.{is_again, is_queued, is_waiting, is_busy, due_of, late_due, way_of}
use Rattle.hickory_resolver_transactions.specs.Laws.{WaitsForSomething, NeverWaitsForEver}
use Rattle.hickory_resolver_transactions.specs.Transaction.{TransactionState, picked, is_idle, may_go_on, first_queued, is_queued_at, may_send, next_of, told, earlier, next_deadline}
use Rattle.hickory_resolver_transactions.specs.declared.candidate.Candidate.{Candidate}
use Rattle.hickory_resolver_transactions.specs.declared.candidate.LateTry.{LateTry}
use Rattle.hickory_resolver_transactions.specs.declared.candidate.Progress.{Progress}
use Rattle.hickory_resolver_transactions.specs.declared.candidate.Progress.TheVariants as progress
use Rattle.hickory_resolver_transactions.specs.declared.outcome.Outcome.{Outcome}
use Rattle.hickory_resolver_transactions.specs.declared.transaction.Wanted.{Wanted}

-- ---- deadlines

earlier-some : (first : Option ℕ) (due : ℕ) → is_some (earlier first due) ≡ true
earlier-some None due = refl
earlier-some (Some other) due = by (ltb due other)
  where
    by : (first : Bool) → is_some (cond first (Some due) (Some other)) ≡ true
    by true = refl
    by false = refl

fold-some : (first : Option ℕ) (dues : List ℕ) → is_some first ≡ true → is_some (fold earlier first dues) ≡ true
fold-some first [] h = h
fold-some first (due ∷ dues) h = fold-some (earlier first due) dues (earlier-some first due)

-- some due among them, or none and the first as it is
module _ {X : Type 0} (due : X → Option ℕ) where
  abbrev some_due : X → Bool
  some_due x = is_some (due x)

  fold-due : (first : Option ℕ) (xs : List X) → list_any some_due xs ≡ true → is_some (fold earlier first (filter_map due xs)) ≡ true
  fold-due first [] h = absurd cc
  fold-due first (x ∷ xs) h = by (due x) (λ f k. fold-due f xs k) h
    where
      by : (d : Option ℕ) → ((f : Option ℕ) → list_any some_due xs ≡ true → is_some (fold earlier f (filter_map due xs)) ≡ true)
          → (is_some d || list_any some_due xs) ≡ true → is_some (fold earlier first (cons_option d (filter_map due xs))) ≡ true
      by None more k = more first k
      by (Some at) more k = fold-some (earlier first at) (filter_map due xs) (earlier-some first at)

abbrev has_due : Candidate → Bool
has_due c = is_some (due_of c.progress)

deadline-of : (s : TransactionState) → list_any has_due s.candidates ≡ true → is_some (next_deadline s) ≡ true
deadline-of s h =
    fold-some (fold earlier None (filter_map (λ (c : Candidate). due_of c.progress) s.candidates)) (filter_map late_due s.late)
    (fold-due (λ (c : Candidate). due_of c.progress) None s.candidates h)

failed-due : (late : List LateTry) → list_any (λ (l : LateTry). l.has_failed) late ≡ true
    → list_any (λ (l : LateTry). is_some (late_due l)) late ≡ true
failed-due [] h = absurd cc
failed-due (l ∷ ls) h = by l.has_failed (failed-due ls) h
  where
    by : (b : Bool) → (list_any (λ (x : LateTry). x.has_failed) ls ≡ true → list_any (λ (x : LateTry). is_some (late_due x)) ls ≡ true)
        → (b || list_any (λ (x : LateTry). x.has_failed) ls) ≡ true
        → (is_some (cond b (Some l.tried.due) None) || list_any (λ (x : LateTry). is_some (late_due x)) ls) ≡ true
    by true more k = refl
    by false more k = more k

late-deadline : (s : TransactionState) → list_any (λ (l : LateTry). l.has_failed) s.late ≡ true → is_some (next_deadline s) ≡ true
late-deadline s h =
    fold-due late_due (fold earlier None (filter_map (λ (c : Candidate). due_of c.progress) s.candidates)) s.late
    (failed-due s.late h)

-- ---- servers

find-some : (test : Candidate → Bool) (cs : List Candidate) → list_any test cs ≡ true → is_some (find test cs) ≡ true
find-some test [] h = absurd cc
find-some test (c ∷ cs) h = by (test c) (find-some test cs) h
  where
    by : (b : Bool) → (list_any test cs ≡ true → is_some (find test cs) ≡ true) → (b || list_any test cs) ≡ true
        → is_some (cond b (Some c) (find test cs)) ≡ true
    by true more k = refl
    by false more k = more k

or-right : (a b : Bool) → b ≡ true → (a || b) ≡ true
or-right true b h = refl
or-right false b h = h

-- one that waits has its time
waiting-due : (cs : List Candidate) → 1 ≤ count_by (λ (c : Candidate). is_waiting c.progress) cs → list_any has_due cs ≡ true
waiting-due [] h = absurd (omega arith)
waiting-due (c ∷ cs) h =
    by c.progress (waiting-due cs)
    (omega (arith, h, sum_by-cons (λ (x : Candidate). cond (is_waiting x.progress) 1 0) c cs))
  where
    by : (p : Progress) → (1 ≤ count_by (λ (x : Candidate). is_waiting x.progress) cs → list_any has_due cs ≡ true)
        → 1 ≤ cond (is_waiting p) 1 0 + count_by (λ (x : Candidate). is_waiting x.progress) cs
        → (is_some (due_of p) || list_any has_due cs) ≡ true
    by progress.Queued more k = more (omega arith)
    by (progress.Again way due) more k = more (omega arith)
    by (progress.Blocked way due) more k = refl
    by (progress.Waiting t) more k = refl
    by progress.Tried more k = more (omega arith)
    by progress.Gone more k = more (omega arith)

abbrev asks_again : Candidate → Bool
asks_again c = is_again c.progress

abbrev waits_its_turn : Candidate → Bool
waits_its_turn c = is_queued c.progress

-- what is busy has its time, or is to be sent
record HasNext (cs : List Candidate) : Type 0 where
  next : (list_any has_due cs ≡ true) ⊎ ((list_any asks_again cs ≡ true) ⊎ (list_any waits_its_turn cs ≡ true))

next-more : (c : Candidate) (cs : List Candidate) → HasNext cs → HasNext (c ∷ cs)
next-more c cs n = record { next = by n.next }
  where
    by : (list_any has_due cs ≡ true) ⊎ ((list_any asks_again cs ≡ true) ⊎ (list_any waits_its_turn cs ≡ true))
        → (list_any has_due (c ∷ cs) ≡ true) ⊎ ((list_any asks_again (c ∷ cs) ≡ true) ⊎ (list_any waits_its_turn (c ∷ cs) ≡ true))
    by (inl h) = inl (or-right (has_due c) (list_any has_due cs) h)
    by (inr (inl h)) = inr (inl (or-right (asks_again c) (list_any asks_again cs) h))
    by (inr (inr h)) = inr (inr (or-right (waits_its_turn c) (list_any waits_its_turn cs) h))

true-or : (a b : Bool) → a ≡ true → (a || b) ≡ true
true-or true b h = refl
true-or false b h = absurd cc

busy-next : (cs : List Candidate) → list_any (λ (c : Candidate). is_busy c.progress) cs ≡ true → HasNext cs
busy-next [] h = absurd cc
busy-next (c ∷ cs) h = by c.progress refl (λ k. next-more c cs (busy-next cs k)) h
  where
    by : (p : Progress) → c.progress ≡ p → (list_any (λ (x : Candidate). is_busy x.progress) cs ≡ true → HasNext (c ∷ cs))
        → (is_busy p || list_any (λ (x : Candidate). is_busy x.progress) cs) ≡ true → HasNext (c ∷ cs)
    by progress.Queued e more k =
        record { next = inr (inr (true-or (waits_its_turn c) (list_any waits_its_turn cs) (ap is_queued e))) }
    by (progress.Again way due) e more k =
        record { next = inr (inl (true-or (asks_again c) (list_any asks_again cs) (ap is_again e))) }
    by (progress.Blocked way due) e more k =
        record { next = inl (true-or (has_due c) (list_any has_due cs) (ap (λ (p : Progress). is_some (due_of p)) e)) }
    by (progress.Waiting t) e more k =
        record { next = inl (true-or (has_due c) (list_any has_due cs) (ap (λ (p : Progress). is_some (due_of p)) e)) }
    by progress.Tried e more k = more k
    by progress.Gone e more k = more k

-- ---- what is to be sent

or-first : (a b : Option Candidate) → is_some a ≡ true → is_some (option_or a b) ≡ true
or-first None b h = absurd cc
or-first (Some c) b h = refl

or-second : (a b : Option Candidate) → is_some b ≡ true → is_some (option_or a b) ≡ true
or-second None b h = h
or-second (Some c) b h = refl

map-some : (o : Option Candidate) → is_some o ≡ true
    → is_some (option_map (λ (c : Candidate). let w : Wanted = record { place = c.place; way = way_of c } in w) o) ≡ true
map-some None h = absurd cc
map-some (Some c) h = refl

abbrev wanted_of : Bool → TransactionState → Option Wanted
wanted_of may s = option_map (λ c. record { place = c.place; way = way_of c }) (cond may (next_of s) None)

sends-next : (s : TransactionState) → 1 ≤ s.settings.concurrent → s.ended ≡ None → is_some (next_of s) ≡ true
    → WaitsForSomething s
sends-next s some unended next =
    by (ltb (count_by (λ (c : Candidate). is_waiting c.progress) s.candidates) s.settings.concurrent) refl
  where
    by : (room : Bool)
        → ltb (count_by (λ (c : Candidate). is_waiting c.progress) s.candidates) s.settings.concurrent ≡ room
        → WaitsForSomething s
    by true e =
        let may : may_send s ≡ true = ap (λ (o : Option ℕ). is_none o && ltb (count_by (λ (c : Candidate). is_waiting c.progress) s.candidates) s.settings.concurrent) unended ∙ e in
        inr (inl (ap (λ (m : Bool). is_some (wanted_of m s)) may ∙ map-some (next_of s) next))
    by false e =
        let full = ltb-false (count_by (λ (c : Candidate). is_waiting c.progress) s.candidates) s.settings.concurrent e in
        inr (inr (deadline-of s (waiting-due s.candidates (omega (arith, full, some)))))

by-next : (s : TransactionState) → 1 ≤ s.settings.concurrent → s.ended ≡ None
    → (list_any has_due s.candidates ≡ true) ⊎ ((list_any asks_again s.candidates ≡ true) ⊎ (list_any waits_its_turn s.candidates ≡ true))
    → WaitsForSomething s
by-next s some unended (inl h) = inr (inr (deadline-of s h))
by-next s some unended (inr (inl h)) =
    sends-next s some unended (or-first (picked is_again s) (first_queued s) (find-some asks_again s.candidates h))
by-next s some unended (inr (inr h)) =
    sends-next s some unended
    (or-second (picked is_again s) (first_queued s)
    (or-second (option_and_then (slice_get s.candidates) (find (is_queued_at s.candidates) s.order)) (picked is_queued s)
    (find-some waits_its_turn s.candidates h)))

-- ---- the whole

not-over : (busy failed go : Bool) (noted : Option Outcome) → told None ((not busy && not failed) && not go) noted ≡ None
    → (busy ≡ true) ⊎ ((failed ≡ true) ⊎ (((not busy && not failed) && go) ≡ true))
not-over true failed go noted e = inl refl
not-over false true go noted e = inr (inl refl)
not-over false false true noted e = inr (inr refl)
not-over false false false noted e = absurd cc

is-open : (ended : Option ℕ) (over : Bool) (noted : Option Outcome) → told ended over noted ≡ None → ended ≡ None
is-open None over noted e = refl
is-open (Some reply) over noted e = absurd cc

pub never_waits_for_ever : NeverWaitsForEver
never_waits_for_ever s some e =
    let busy = list_any (λ (c : Candidate). is_busy c.progress) s.candidates in
    let has_failed = list_any (λ (l : LateTry). l.has_failed) s.late in
    let opened = is-open s.ended ((not busy && not has_failed) && not (may_go_on s)) s.noted e in
    let e2 = ap (λ (o : Option ℕ). told o ((not busy && not has_failed) && not (may_go_on s)) s.noted) (sym opened) ∙ e in
    by opened (not-over busy has_failed (may_go_on s) s.noted e2)
  where
    by : s.ended ≡ None
        → (list_any (λ (c : Candidate). is_busy c.progress) s.candidates ≡ true) ⊎ ((list_any (λ (l : LateTry). l.has_failed) s.late ≡ true) ⊎ (((not (list_any (λ (c : Candidate). is_busy c.progress) s.candidates) && not (list_any (λ (l : LateTry). l.has_failed) s.late)) && may_go_on s) ≡ true))
        → WaitsForSomething s
    by unended (inl h) = by-next s some unended (busy-next s.candidates h).next
    by unended (inr (inl h)) = inr (inr (late-deadline s h))
    by unended (inr (inr h)) = inl (ap (λ (o : Option ℕ). is_none o && is_idle s && may_go_on s) unended ∙ h)
