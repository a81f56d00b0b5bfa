-- Who waits for each transaction is as what happened says.
use Rattle.std.proofs.Common.{◌≡◌, ◌≤◌, ◌<◌, ◌+◌, ℕ, Bool, true, false, cond, not, ◌||◌, eqb, eqb-true, eq-eqb, List, [], ◌∷◌, ◌++◌, length, append-nil, drop, refl, ap, sym, subst, ◌∙◌, true≢false, inl, inr, ◌⊎◌, arith}
use Rattle.std.specs.Prelude.{Option, None, Some, IfSome}
use Rattle.std.specs.List.{AllByRecursion, list_any}
use Rattle.std.specs.Option.{is_some, option_map, option_map_or, option_or}
use Rattle.hickory_resolver_askers.specs.Askers.{AskersState, WaitingValue, flying_at, waiting_at, has_place, first_waiting, begun_in, next_one, with_asker, joined_flying, joined_waiting, joined, joiner, over, without, without_asker, what_is_left, forgot_as, forgot, admitted_one, admitted}
use Rattle.hickory_resolver_askers.specs.declared.asker.Asker.{Asker}
use Rattle.hickory_resolver_askers.specs.declared.asker.Forgotten.TheVariants.{Nobody, OthersAsk, Last}
use Rattle.hickory_resolver_askers.specs.declared.asker.Place.TheVariants.{InFlight, Waits}
use Rattle.hickory_resolver_pool_theorems.specs.Tellings.{IsNoneOf, EachOnce}
use Rattle.hickory_resolver_pool_theorems.proofs.Keys.{gone-removed}
use Rattle.hickory_resolver_pool_theorems.proofs.ByNumber.{all-without, all-pushed, all-as, once-without, once-pushed, without-none, At, none-inserted, none-removed, none-dropped, none-changed, first-at, first-gone, Keeps, keeps-removed, keeps-inserted, keeps-dropped, keeps-changed, keeps-without, keeps-as}

-- the askers of each transaction
abbrev pub Asking : Type 0
Asking = ℕ → List ℕ

abbrev pub FliesAs : Asking → ℕ → List ℕ → Type 0
FliesAs A n l = l ≡ A n

abbrev pub WaitsAs : Asking → ℕ → WaitingValue → Type 0
WaitsAs A n w = w.askers ≡ A n

pub record AreHeard (A : Asking) (a : AskersState) : Type 0 where
  pub flying : Keeps (FliesAs A) a.in_flight
  pub waiting : Keeps (WaitsAs A) a.waiting
  pub either : (n : ℕ) → (At n a.in_flight ≡ None) ⊎ (At n a.waiting ≡ None)
  pub new : (n : ℕ) → a.next_transaction ≤ n → (At n a.in_flight ≡ None) × (At n a.waiting ≡ None) × (A n ≡ [])
  pub numbers : (n : ℕ) → AllByRecursion (λ k. k < a.next_asker) (A n)
  pub once : (n : ℕ) → EachOnce (A n)
  pub apart : (n m : ℕ) → (m ≡ n → ⊥) → AllByRecursion (IsNoneOf (A m)) (A n)

turned : (n k : ℕ) (b : Bool) → eqb n k ≡ b → eqb k n ≡ b
turned n k true is = eq-eqb k n (sym (eqb-true n k is))
turned n k false is = by (eqb k n) refl
  where
    by : (b : Bool) → eqb k n ≡ b → b ≡ false
    by false same = refl
    by true same = absurd (true≢false (sym (eq-eqb n k (sym (eqb-true k n same))) ∙ is))

-- the same askers
pub heard-same : (A B : Asking) (a : AskersState) → ((n : ℕ) → B n ≡ A n) → AreHeard A a → AreHeard B a
heard-same A B a same w = record {
  flying = keeps-as (FliesAs A) (FliesAs B) (λ n l is. is ∙ sym (same n)) a.in_flight w.flying;
  waiting = keeps-as (WaitsAs A) (WaitsAs B) (λ n l is. is ∙ sym (same n)) a.waiting w.waiting;
  either = w.either;
  new = λ n more. ((w.new n more).0, (w.new n more).1, same n ∙ (w.new n more).2);
  numbers = λ n. subst (AllByRecursion (λ k. k < a.next_asker)) (sym (same n)) (w.numbers n);
  once = λ n. subst EachOnce (sym (same n)) (w.once n);
  apart = λ n m other. by n m (w.apart n m other);
}
  where
    by : (n m : ℕ) → AllByRecursion (IsNoneOf (A m)) (A n) → AllByRecursion (IsNoneOf (B m)) (B n)
    by n m all =
        subst (λ (l : List ℕ). AllByRecursion (IsNoneOf l) (B n)) (sym (same m))
        (subst (AllByRecursion (IsNoneOf (A m))) (sym (same n)) all)

-- ---- a transaction is over, or gets its place

module _ (A : Asking) (a : AskersState) (w : AreHeard A a) where
  pub heard-over : (n : ℕ) → AreHeard A (over n a)
  heard-over n = record {
    flying = keeps-removed (FliesAs A) n a.in_flight w.flying;
    waiting = keeps-removed (WaitsAs A) n a.waiting w.waiting;
    either = λ m. by m (w.either m);
    new = λ m more.
        (none-removed m n a.in_flight (w.new m more).0, none-removed m n a.waiting (w.new m more).1, (w.new m more).2);
    numbers = w.numbers;
    once = w.once;
    apart = w.apart;
  }
    where
      by : (m : ℕ) → (At m a.in_flight ≡ None) ⊎ (At m a.waiting ≡ None)
          → (At m (over n a).in_flight ≡ None) ⊎ (At m (over n a).waiting ≡ None)
      by m (inl none) = inl (none-removed m n a.in_flight none)
      by m (inr none) = inr (none-removed m n a.waiting none)

  heard-first : (f : ℕ × WaitingValue) → first_waiting a ≡ Some f → AreHeard A (admitted_one a f)
  heard-first f is = record {
    flying = keeps-inserted (FliesAs A) f.0 f.1.askers a.in_flight none own w.flying;
    waiting = keeps-dropped (WaitsAs A) a.waiting w.waiting;
    either = λ m. by m (eqb m f.0) refl (w.either m);
    new = λ m more. (
      none-inserted m f.0 f.1.askers a.in_flight (newer m more (eqb m f.0) refl) (w.new m more).0,
      none-dropped m a.waiting (w.new m more).1,
      (w.new m more).2,
    );
    numbers = w.numbers;
    once = w.once;
    apart = w.apart;
  }
    where
      found : At f.0 a.waiting ≡ Some f.1
      found = first-at f a.waiting is

      not-none : At f.0 a.waiting ≡ None → ⊥
      not-none none = let no_such : None ≡ Some f.1 = sym none ∙ found in cc

      flying-none : (At f.0 a.in_flight ≡ None) ⊎ (At f.0 a.waiting ≡ None) → At f.0 a.in_flight ≡ None
      flying-none (inl h) = h
      flying-none (inr h) = absurd (not-none h)

      none : At f.0 a.in_flight ≡ None
      none = flying-none (w.either f.0)

      own : f.1.askers ≡ A f.0
      own = subst (λ (o : Option WaitingValue). IfSome o (WaitsAs A f.0)) found (w.waiting.each f.0)

      by : (m : ℕ) (b : Bool) → eqb m f.0 ≡ b → (At m a.in_flight ≡ None) ⊎ (At m a.waiting ≡ None)
          → (At m (admitted_one a f).in_flight ≡ None) ⊎ (At m (admitted_one a f).waiting ≡ None)
      by m true same h =
          inr (ap (λ (k : ℕ). At k (drop 1 a.waiting)) (eqb-true m f.0 same) ∙ first-gone f a.waiting is w.waiting.apart)
      by m false same (inl h) = inl (none-inserted m f.0 f.1.askers a.in_flight same h)
      by m false same (inr h) = inr (none-dropped m a.waiting h)

      newer : (m : ℕ) → a.next_transaction ≤ m → (b : Bool) → eqb m f.0 ≡ b → b ≡ false
      newer m more false same = refl
      newer m more true same =
          absurd (not-none (ap (λ (k : ℕ). At k a.waiting) (sym (eqb-true m f.0 same)) ∙ (w.new m more).1))

  pub heard-admitted : AreHeard A (admitted a)
  heard-admitted = by (has_place a) (first_waiting a) refl
    where
      by : (place : Bool) (f : Option (ℕ × WaitingValue)) → first_waiting a ≡ f
          → AreHeard A (option_map_or (admitted_one a) (cond place f None) a)
      by true None is = w
      by true (Some f) is = heard-first f is
      by false f is = w

-- ---- one asks

abbrev pub Given : Asking → Asker → Asking
Given A k n = A n ++ cond (eqb k.transaction n) (k.number ∷ []) []

given-own : (A : Asking) (k : Asker) → Given A k k.transaction ≡ A k.transaction ++ k.number ∷ []
given-own A k =
    ap (λ (b : Bool). A k.transaction ++ cond b (k.number ∷ []) []) (eq-eqb k.transaction k.transaction refl)

given-other : (A : Asking) (k : Asker) (n : ℕ) → eqb n k.transaction ≡ false → Given A k n ≡ A n
given-other A k n is =
    ap (λ (b : Bool). A n ++ cond b (k.number ∷ []) []) (turned n k.transaction false is) ∙ append-nil (A n)

pub given-all : (P : ℕ → Type 0) (A : Asking) (k : Asker) (n : ℕ) → AllByRecursion P (A n)
    → (eqb k.transaction n ≡ true → P k.number) → AllByRecursion P (Given A k n)
given-all P A k n all own = by (eqb k.transaction n) refl
  where
    by : (b : Bool) → eqb k.transaction n ≡ b → AllByRecursion P (A n ++ cond b (k.number ∷ []) [])
    by true is = all-pushed P k.number (A n) all (own is)
    by false is = subst (AllByRecursion P) (sym (append-nil (A n))) all

module _ (A : Asking) (a : AskersState) (w : AreHeard A a) (k : Asker) (number : k.number ≡ a.next_asker) where
  given-numbers : (n : ℕ) → AllByRecursion (λ j. j < a.next_asker + 1) (Given A k n)
  given-numbers n =
      given-all (λ j. j < a.next_asker + 1) A k n
      (all-as (λ j. j < a.next_asker) (λ j. j < a.next_asker + 1) (λ j less. omega (arith, less)) (A n) (w.numbers n))
      (λ is. omega (arith, number))

  given-less : (n : ℕ) → AllByRecursion (λ j. j < k.number) (A n)
  given-less n = subst (λ (m : ℕ). AllByRecursion (λ j. j < m) (A n)) (sym number) (w.numbers n)

  given-once : (n : ℕ) → EachOnce (Given A k n)
  given-once n = by (eqb k.transaction n)
    where
      by : (b : Bool) → EachOnce (A n ++ cond b (k.number ∷ []) [])
      by true = once-pushed k.number (A n) (w.once n) (given-less n)
      by false = subst EachOnce (sym (append-nil (A n))) (w.once n)

  given-apart : (n m : ℕ) → (m ≡ n → ⊥) → AllByRecursion (IsNoneOf (Given A k m)) (Given A k n)
  given-apart n m other = given-all (IsNoneOf (Given A k m)) A k n (old (A n) (w.apart n m other) (given-less n)) new
    where
      old : (xs : List ℕ) → AllByRecursion (IsNoneOf (A m)) xs → AllByRecursion (λ j. j < k.number) xs
          → AllByRecursion (IsNoneOf (Given A k m)) xs
      old [] none less = tt
      old (x ∷ xs) none less = (
        given-all (λ j. j ≡ x → ⊥) A k m none.0 (λ is same. omega (arith, less.0, same)),
        old xs none.1 less.1,
      )

      new : eqb k.transaction n ≡ true → IsNoneOf (Given A k m) k.number
      new is =
          given-all (λ j. j ≡ k.number → ⊥) A k m
          (all-as (λ j. j < k.number) (λ j. j ≡ k.number → ⊥) (λ j less same. omega (arith, less, same)) (A m) (given-less m))
          (λ same. absurd (other (sym (eqb-true k.transaction m same) ∙ eqb-true k.transaction n is)))

  -- of one that is there
  module _ (there : (a.next_transaction ≤ k.transaction) → ⊥) where
    given-newer : (m : ℕ) → a.next_transaction ≤ m → eqb m k.transaction ≡ false
    given-newer m more = by (eqb m k.transaction) refl
      where
        by : (b : Bool) → eqb m k.transaction ≡ b → b ≡ false
        by false is = refl
        by true is = absurd (there (subst (λ (j : ℕ). a.next_transaction ≤ j) (eqb-true m k.transaction is) more))

    given-flying : At k.transaction a.waiting ≡ None → AreHeard (Given A k) (joined_flying k.transaction a)
    given-flying none = record {
      flying = keeps-changed (FliesAs A) (FliesAs (Given A k)) k.transaction
          (λ n is l same. same ∙ sym (given-other A k n is)) (λ l. l ++ a.next_asker ∷ [])
          (λ l same. ap (λ (l2 : List ℕ). l2 ++ a.next_asker ∷ []) same
          ∙ ap (λ (j : ℕ). A k.transaction ++ j ∷ []) (sym number) ∙ sym (given-own A k))
          a.in_flight w.flying;
      waiting = keeps-without (WaitsAs A) (WaitsAs (Given A k)) k.transaction
          (λ n is l same. same ∙ sym (given-other A k n is)) a.waiting none w.waiting;
      either = λ m. by m (w.either m);
      new = λ m more. (
        none-changed m k.transaction (λ l. l ++ a.next_asker ∷ []) a.in_flight (w.new m more).0,
        (w.new m more).1,
        given-other A k m (given-newer m more) ∙ (w.new m more).2,
      );
      numbers = given-numbers;
      once = given-once;
      apart = given-apart;
    }
      where
        by : (m : ℕ) → (At m a.in_flight ≡ None) ⊎ (At m a.waiting ≡ None)
            → (At m (joined_flying k.transaction a).in_flight ≡ None) ⊎ (At m a.waiting ≡ None)
        by m (inl h) = inl (none-changed m k.transaction (λ l. l ++ a.next_asker ∷ []) a.in_flight h)
        by m (inr h) = inr h

    given-waiting : At k.transaction a.in_flight ≡ None → AreHeard (Given A k) (joined_waiting k.transaction a)
    given-waiting none = record {
      flying = keeps-without (FliesAs A) (FliesAs (Given A k)) k.transaction
          (λ n is l same. same ∙ sym (given-other A k n is)) a.in_flight none w.flying;
      waiting = keeps-changed (WaitsAs A) (WaitsAs (Given A k)) k.transaction
          (λ n is l same. same ∙ sym (given-other A k n is)) (λ l. with_asker a.next_asker l)
          (λ l same. ap (λ (l2 : List ℕ). l2 ++ a.next_asker ∷ []) same
          ∙ ap (λ (j : ℕ). A k.transaction ++ j ∷ []) (sym number) ∙ sym (given-own A k))
          a.waiting w.waiting;
      either = λ m. by m (w.either m);
      new = λ m more. (
        (w.new m more).0,
        none-changed m k.transaction (λ l. with_asker a.next_asker l) a.waiting (w.new m more).1,
        given-other A k m (given-newer m more) ∙ (w.new m more).2,
      );
      numbers = given-numbers;
      once = given-once;
      apart = given-apart;
    }
      where
        by : (m : ℕ) → (At m a.in_flight ≡ None) ⊎ (At m a.waiting ≡ None)
            → (At m a.in_flight ≡ None) ⊎ (At m (joined_waiting k.transaction a).waiting ≡ None)
        by m (inl h) = inl h
        by m (inr h) = inr (none-changed m k.transaction (λ l. with_asker a.next_asker l) a.waiting h)

abbrev next_of : AskersState → ℕ → Asker
next_of a n = record { transaction = n; number = a.next_asker }

pub heard-joined : (A : Asking) (a : AskersState) (n : ℕ) (k : Asker) → AreHeard A a → joiner n a ≡ Some k
    → AreHeard (Given A k) (joined n a)
heard-joined A a n k w joins = by (flying_at n a) (waiting_at n a) refl refl joins
  where
    by : (f : Option (List ℕ)) (v : Option WaitingValue) → flying_at n a ≡ f → waiting_at n a ≡ v
        → cond (is_some f || is_some v) (Some (next_of a n)) None ≡ Some k
        → AreHeard (Given A k) (cond {A = AskersState} (is_some f) (joined_flying n a) (cond (is_some v) (joined_waiting n a) a))
    by None None fs vs h = absurd cc
    by None (Some v) fs vs h =
        let same : next_of a n ≡ k = cc in
        subst (λ (j : Asker). AreHeard (Given A j) (joined_waiting n a)) same
        (given-waiting A a w (next_of a n) refl (λ more. let no_such : None ≡ Some v = sym (w.new n more).1 ∙ vs in absurd cc) fs)
    by (Some l) v fs vs h =
        let same : next_of a n ≡ k = cc in
        subst (λ (j : Asker). AreHeard (Given A j) (joined_flying n a)) same
        (given-flying A a w (next_of a n) refl (λ more. let no_such : None ≡ Some l = sym (w.new n more).0 ∙ fs in absurd cc)
        (none (w.either n)))
      where
        none : (At n a.in_flight ≡ None) ⊎ (At n a.waiting ≡ None) → At n a.waiting ≡ None
        none (inl h) = let no_such : None ≡ Some l = sym h ∙ fs in absurd cc
        none (inr h) = h

module _ (A : Asking) (a : AskersState) (w : AreHeard A a) where
  abbrev fresh : ℕ
  fresh = a.next_transaction

  abbrev first : Asker
  first = next_one a

  fresh-old : (m : ℕ) → a.next_transaction + 1 ≤ m → a.next_transaction ≤ m
  fresh-old m more = omega (arith, more)

  fresh-other : (m : ℕ) → a.next_transaction + 1 ≤ m → eqb m fresh ≡ false
  fresh-other m more = by (eqb m fresh) refl
    where
      by : (b : Bool) → eqb m fresh ≡ b → b ≡ false
      by false is = refl
      by true is = let same : m ≡ fresh = eqb-true m fresh is in absurd (omega (arith, more, same))

  fresh-new : (At fresh a.in_flight ≡ None) × (At fresh a.waiting ≡ None) × (A fresh ≡ [])
  fresh-new = w.new fresh (omega arith)

  fresh-is : a.next_asker ∷ [] ≡ Given A first fresh
  fresh-is = sym (given-own A first ∙ ap (λ (l : List ℕ). l ++ a.next_asker ∷ []) fresh-new.2)

  still-flying : Keeps (FliesAs (Given A first)) a.in_flight
  still-flying =
      keeps-without (FliesAs A) (FliesAs (Given A first)) fresh (λ n is l same. same ∙ sym (given-other A first n is))
      a.in_flight fresh-new.0 w.flying

  still-waiting : Keeps (WaitsAs (Given A first)) a.waiting
  still-waiting =
      keeps-without (WaitsAs A) (WaitsAs (Given A first)) fresh (λ n is l same. same ∙ sym (given-other A first n is))
      a.waiting fresh-new.1 w.waiting

  pub heard-begun_flying : (until : ℕ) → AreHeard (Given A first) (begun_in InFlight until a)
  heard-begun_flying until = record {
    flying = keeps-inserted (FliesAs (Given A first)) fresh (a.next_asker ∷ []) a.in_flight fresh-new.0 fresh-is still-flying;
    waiting = still-waiting;
    either = λ m. by m (eqb m fresh) refl (w.either m);
    new = λ m more. (
      none-inserted m fresh (a.next_asker ∷ []) a.in_flight (fresh-other m more) (w.new m (fresh-old m more)).0,
      (w.new m (fresh-old m more)).1,
      given-other A first m (fresh-other m more) ∙ (w.new m (fresh-old m more)).2,
    );
    numbers = given-numbers A a w first refl;
    once = given-once A a w first refl;
    apart = given-apart A a w first refl;
  }
    where
      by : (m : ℕ) (b : Bool) → eqb m fresh ≡ b → (At m a.in_flight ≡ None) ⊎ (At m a.waiting ≡ None)
          → (At m (begun_in InFlight until a).in_flight ≡ None) ⊎ (At m a.waiting ≡ None)
      by m true is h = inr (ap (λ (j : ℕ). At j a.waiting) (eqb-true m fresh is) ∙ fresh-new.1)
      by m false is (inl h) = inl (none-inserted m fresh (a.next_asker ∷ []) a.in_flight is h)
      by m false is (inr h) = inr h

  abbrev one_from : ℕ → WaitingValue
  one_from until = record { until = until; askers = a.next_asker ∷ [] }

  pub heard-begun_waiting : (until : ℕ) → AreHeard (Given A first) (begun_in Waits until a)
  heard-begun_waiting until = record {
    flying = still-flying;
    waiting = keeps-inserted (WaitsAs (Given A first)) fresh (one_from until) a.waiting fresh-new.1 fresh-is still-waiting;
    either = λ m. by m (eqb m fresh) refl (w.either m);
    new = λ m more. (
      (w.new m (fresh-old m more)).0,
      none-inserted m fresh (one_from until) a.waiting (fresh-other m more) (w.new m (fresh-old m more)).1,
      given-other A first m (fresh-other m more) ∙ (w.new m (fresh-old m more)).2,
    );
    numbers = given-numbers A a w first refl;
    once = given-once A a w first refl;
    apart = given-apart A a w first refl;
  }
    where
      by : (m : ℕ) (b : Bool) → eqb m fresh ≡ b → (At m a.in_flight ≡ None) ⊎ (At m a.waiting ≡ None)
          → (At m a.in_flight ≡ None) ⊎ (At m (begun_in Waits until a).waiting ≡ None)
      by m true is h = inl (ap (λ (j : ℕ). At j a.in_flight) (eqb-true m fresh is) ∙ fresh-new.0)
      by m false is (inl h) = inl h
      by m false is (inr h) = inr (none-inserted m fresh (one_from until) a.waiting is h)

-- ---- one is forgotten

abbrev pub Forgot : Asking → Asker → Asking
Forgot A k n = cond (eqb k.transaction n) (without k.number (A n)) (A n)

forgot-own : (A : Asking) (k : Asker) → Forgot A k k.transaction ≡ without k.number (A k.transaction)
forgot-own A k =
    ap (λ (b : Bool). cond b (without k.number (A k.transaction)) (A k.transaction))
    (eq-eqb k.transaction k.transaction refl)

forgot-other : (A : Asking) (k : Asker) (n : ℕ) → eqb n k.transaction ≡ false → Forgot A k n ≡ A n
forgot-other A k n is =
    ap (λ (b : Bool). cond b (without k.number (A n)) (A n)) (turned n k.transaction false is)

pub forgot-all : (P : ℕ → Type 0) (A : Asking) (k : Asker) (n : ℕ) → AllByRecursion P (A n) → AllByRecursion P (Forgot A k n)
forgot-all P A k n all = by (eqb k.transaction n)
  where
    by : (b : Bool) → AllByRecursion P (cond b (without k.number (A n)) (A n))
    by true = all-without P k.number (A n) all
    by false = all

module _ (A : Asking) (k : Asker) where
  forgot-once : (n : ℕ) → EachOnce (A n) → EachOnce (Forgot A k n)
  forgot-once n once = by (eqb k.transaction n)
    where
      by : (b : Bool) → EachOnce (cond b (without k.number (A n)) (A n))
      by true = once-without k.number (A n) once
      by false = once

  forgot-none : (n : ℕ) → A n ≡ [] → Forgot A k n ≡ []
  forgot-none n none = by (eqb k.transaction n)
    where
      by : (b : Bool) → cond b (without k.number (A n)) (A n) ≡ []
      by true = ap (without k.number) none
      by false = none

  forgot-apart : (n m : ℕ) → AllByRecursion (IsNoneOf (A m)) (A n) → AllByRecursion (IsNoneOf (Forgot A k m)) (Forgot A k n)
  forgot-apart n m apart = forgot-all (IsNoneOf (Forgot A k m)) A k n (old (A n) apart)
    where
      old : (xs : List ℕ) → AllByRecursion (IsNoneOf (A m)) xs → AllByRecursion (IsNoneOf (Forgot A k m)) xs
      old [] none = tt
      old (x ∷ xs) none = (forgot-all (λ j. j ≡ x → ⊥) A k m none.0, old xs none.1)

module _ (A : Asking) (a : AskersState) (w : AreHeard A a) (k : Asker) where
  abbrev n : ℕ
  n = k.transaction

  abbrev B : Asking
  B = Forgot A k

  -- where what is there is as it has to be now
  forgot-with : (b : AskersState) → b.next_transaction ≡ a.next_transaction → b.next_asker ≡ a.next_asker
      → Keeps (FliesAs B) b.in_flight → Keeps (WaitsAs B) b.waiting
      → ((m : ℕ) → At m a.in_flight ≡ None → At m b.in_flight ≡ None)
      → ((m : ℕ) → At m a.waiting ≡ None → At m b.waiting ≡ None) → AreHeard B b
  forgot-with b next asker flies waits flies_none waits_none = record {
    flying = flies;
    waiting = waits;
    either = λ m. by m (w.either m);
    new = λ m more.
        let old = w.new m (subst (λ (j : ℕ). j ≤ m) next more) in
        (flies_none m old.0, waits_none m old.1, forgot-none A k m old.2);
    numbers = λ m. subst (λ (j : ℕ). AllByRecursion (λ i. i < j) (B m)) (sym asker)
        (forgot-all (λ i. i < a.next_asker) A k m (w.numbers m));
    once = λ m. forgot-once A k m (w.once m);
    apart = λ m l other. forgot-apart A k m l (w.apart m l other);
  }
    where
      by : (m : ℕ) → (At m a.in_flight ≡ None) ⊎ (At m a.waiting ≡ None)
          → (At m b.in_flight ≡ None) ⊎ (At m b.waiting ≡ None)
      by m (inl h) = inl (flies_none m h)
      by m (inr h) = inr (waits_none m h)

  forgot-others : AreHeard B (forgot_as OthersAsk k a)
  forgot-others =
      forgot-with (forgot_as OthersAsk k a) refl refl
      (keeps-changed (FliesAs A) (FliesAs B) n (λ m is l same. same ∙ sym (forgot-other A k m is)) (without k.number)
      (λ l same. ap (without k.number) same ∙ sym (forgot-own A k)) a.in_flight w.flying)
      (keeps-changed (WaitsAs A) (WaitsAs B) n (λ m is l same. same ∙ sym (forgot-other A k m is)) (without_asker k.number)
      (λ l same. ap (without k.number) same ∙ sym (forgot-own A k)) a.waiting w.waiting)
      (λ m none. none-changed m n (without k.number) a.in_flight none)
      (λ m none. none-changed m n (without_asker k.number) a.waiting none)

  forgot-last : AreHeard B (over n a)
  forgot-last =
      forgot-with (over n a) refl refl flies waits
      (λ m none. none-removed m n a.in_flight none) (λ m none. none-removed m n a.waiting none)
    where
      gone : AreHeard A (over n a)
      gone = heard-over A a w n

      flies : Keeps (FliesAs B) (over n a).in_flight
      flies =
          keeps-without (FliesAs A) (FliesAs B) n (λ m is l same. same ∙ sym (forgot-other A k m is)) (over n a).in_flight
          (gone-removed n a.in_flight w.flying.apart) gone.flying

      waits : Keeps (WaitsAs B) (over n a).waiting
      waits =
          keeps-without (WaitsAs A) (WaitsAs B) n (λ m is l same. same ∙ sym (forgot-other A k m is)) (over n a).waiting
          (gone-removed n a.waiting w.waiting.apart) gone.waiting

  -- it is none of its askers
  forgot-nobody : without k.number (A n) ≡ A n → AreHeard B a
  forgot-nobody same =
      forgot-with a refl refl
      (keeps-as (FliesAs A) (FliesAs B) (λ m l is. is ∙ sym (stays m (eqb k.transaction m) refl)) a.in_flight w.flying)
      (keeps-as (WaitsAs A) (WaitsAs B) (λ m l is. is ∙ sym (stays m (eqb k.transaction m) refl)) a.waiting w.waiting)
      (λ m none. none) (λ m none. none)
    where
      stays : (m : ℕ) (b : Bool) → eqb k.transaction m ≡ b → cond b (without k.number (A m)) (A m) ≡ A m
      stays m true is =
          subst (λ (j : ℕ). without k.number (A j) ≡ A j) (eqb-true k.transaction m is) same
      stays m false is = refl

  pub heard-forgot : AreHeard B (forgot k a)
  heard-forgot = by (flying_at n a) (waiting_at n a) refl refl
    where
      -- by whether it is one of them
      ask : (l : List ℕ) → l ≡ A n → (any one : Bool) → list_any (λ m. eqb m k.number) l ≡ any
          → AreHeard B (forgot_as (cond (not any) Nobody (cond one Last OthersAsk)) k a)
      ask l is true true any = forgot-last
      ask l is true false any = forgot-others
      ask l is false one any = forgot-nobody (subst (λ (x : List ℕ). without k.number x ≡ x) is (without-none k.number l any))

      nothing : (f : (At n a.in_flight ≡ None) × (At n a.waiting ≡ None)) → AreHeard B a
      nothing f =
          forgot-with a refl refl
          (keeps-without (FliesAs A) (FliesAs B) n (λ m is l same. same ∙ sym (forgot-other A k m is)) a.in_flight f.0 w.flying)
          (keeps-without (WaitsAs A) (WaitsAs B) n (λ m is l same. same ∙ sym (forgot-other A k m is)) a.waiting f.1 w.waiting)
          (λ m none. none) (λ m none. none)

      by : (f : Option (List ℕ)) (v : Option WaitingValue) → flying_at n a ≡ f → waiting_at n a ≡ v
          → AreHeard B (forgot_as (option_map_or (what_is_left k.number) (option_or f (option_map (λ x. x.askers) v)) Nobody) k a)
      by None None fs vs = nothing (fs, vs)
      by None (Some v) fs vs =
          ask v.askers (subst (λ (o : Option WaitingValue). IfSome o (WaitsAs A n)) vs (w.waiting.each n))
          (list_any (λ m. eqb m k.number) v.askers) (eqb (length v.askers) 1) refl
      by (Some l) v fs vs =
          ask l (subst (λ (o : Option (List ℕ)). IfSome o (FliesAs A n)) fs (w.flying.each n))
          (list_any (λ m. eqb m k.number) l) (eqb (length l) 1) refl
