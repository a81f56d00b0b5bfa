-- Fetches that are put under a key, one after another.
use Rattle.std.proofs.Common.{◌≡◌, ◌∙◌, ℕ, Bool, true, false, List, Option, if◌then◌else◌, refl, ap}
use Rattle.client_requests.specs.Keys.{key_eq, key_equiv}
use Rattle.yimarotu_forwarder.specs.Fetches.{FetchValue, FetchesValue, PutsFetch, fetch_at}

-- what is put under a key stands there
pub put_at : (key : List ℕ) (held : Option FetchValue) (before after : FetchesValue) → PutsFetch key held before after
    → fetch_at key after ≡ held
put_at key held before after puts =
    puts key ∙ rw (key_equiv.refl key) refl

chosen : {A : Type 0} (b : Bool) (x y z : A) → (if b then x else (if b then y else z)) ≡ (if b then x else z)
chosen true x y z = refl
chosen false x y z = refl

-- what is put last counts
pub puts_again : (key : List ℕ) (first last : Option FetchValue) (before between after : FetchesValue)
    → PutsFetch key first before between → PutsFetch key last between after → PutsFetch key last before after
puts_again key first last before between after one two other =
    two other ∙ ap (λ (held : Option FetchValue). if key_eq key other then last else held) (one other)
    ∙ chosen (key_eq key other) last first (fetch_at other before)
