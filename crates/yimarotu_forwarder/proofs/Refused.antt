-- What a refused call leaves.
use Rattle.std.proofs.Common.{◌≡◌, ◌∙◌, ap, refl, List, ℕ}
use Rattle.std.specs.Prelude.{true, false, IfOk, MatchOption, None, OnErr, OnOk, Option, Some, Result, Ok, Err}
use Rattle.std.specs.Option.{is_none}
use Rattle.std.specs.Map.{set_value}
use Rattle.std.proofs.lemmas.Map.Steps.{set_value_same}
use Rattle.client_requests.specs.Keys.{key_eq}
use Rattle.yimarotu_forwarder.specs.Fetches.{FetchValue, FetchesValue, fetch_at}

pub if_refused : {A E P Q : Type 0} (r : Result A E) → (P → Q) → OnErr r P → OnErr r Q
if_refused (Ok a) f p = p
if_refused (Err e) f p = f p

-- A fetch that is written back as it was leaves the fetches as they were.
pub put_back : (key : List ℕ) (before : FetchesValue) (entries : List (List ℕ × FetchValue)) (fetch fetch' : FetchValue)
    → entries ≡ set_value (key_eq key) before.fetches fetch' → fetch' ≡ fetch → fetch_at key before ≡ Some fetch
    → record before { fetches = entries } ≡ before
put_back key before entries fetch fetch' written same found =
    ap (λ (l : List (List ℕ × FetchValue)). record before { fetches = l })
    (written ∙ ap (λ (f : FetchValue). set_value (key_eq key) before.fetches f) same
    ∙ set_value_same (key_eq key) before.fetches fetch found)

pub if_done : {A E P Q : Type 0} (r : Result A E) → (P → Q) → OnOk r P → OnOk r Q
if_done (Ok a) f p = f p
if_done (Err e) f p = p

pub if_ok : {A E P : Type 0} (r : Result A E) (a : A) → r ≡ Ok a → OnOk r P → P
if_ok (Ok x) a is p = p
if_ok (Err e) a is p = absurd cc

-- what is done for a fetch that is found
pub if_done_for : {A E F Q : Type 0} {H P : F → Type 0} (r : Result A E) → (((f : F) → H f → P f) → Q)
    → ((f : F) → H f → OnOk r (P f)) → OnOk r Q
if_done_for (Ok a) g p = g p
if_done_for (Err e) g p = tt

-- what holds of each value
pub if_value : {A E : Type 0} (P Q : A → Type 0) (r : Result A E) → ((a : A) → P a → Q a) → IfOk r P → IfOk r Q
if_value P Q (Ok a) f p = f a p
if_value P Q (Err e) f p = p

-- where there is none, and where there is one
pub at_none : {X : Type 0} (A : Type 0) (P : X → Type 0) (o : Option X) → is_none o ≡ true → A → MatchOption o A P
at_none A P None is a = a
at_none A P (Some x) is a = absurd (never is)
  where
    never : false ≡ true → ⊥
    never e = cc

pub none_there : {X : Type 0} (o : Option X) → is_none o ≡ true → o ≡ None
none_there None is = refl
none_there (Some x) is = absurd (never is)
  where
    never : false ≡ true → ⊥
    never e = cc
