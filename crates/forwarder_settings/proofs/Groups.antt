-- The groups of domains, of which one gets one more server.
use Rattle.std.proofs.Common.{◌≡◌, ◌∙◌, ◌<◌, ◌≤◌, ℕ, zero, suc, Bool, true, false, leb, List, [], ◌∷◌, length, refl, ap, arith}
use Rattle.std.proofs.lemmas.Bool.{leb-false, leb-true}
use Rattle.std.specs.Prelude.{OnOk, Result, Ok, Err, slice_index_or, slice_set}
use Rattle.hickory_resolver_pool.specs.Servers.{PoolServerValue}
use Rattle.forwarder_settings.specs.Reading.{DomainGroupValue, grown_at, one_more}

pub grown-set : (place : ℕ) (server : PoolServerValue) (groups : List DomainGroupValue) (group : DomainGroupValue)
    → place < length groups → group ≡ slice_index_or groups place group
    → slice_set groups place (one_more server group) ≡ grown_at place server groups
grown-set place server [] group short is = absurd (omega arith)
grown-set zero server (first ∷ groups) group short is =
    ap (λ (g : DomainGroupValue). one_more server g ∷ groups) is
grown-set (suc place) server (first ∷ groups) group short is =
    ap (λ (gs : List DomainGroupValue). first ∷ gs) (grown-set place server groups group (omega arith) is)

pub grown-beyond : (place : ℕ) (server : PoolServerValue) (groups : List DomainGroupValue)
    → length groups ≤ place → groups ≡ grown_at place server groups
grown-beyond place server [] far = refl
grown-beyond zero server (first ∷ groups) far = absurd (omega arith)
grown-beyond (suc place) server (first ∷ groups) far =
    ap (λ (gs : List DomainGroupValue). first ∷ gs) (grown-beyond place server groups (omega arith))

-- the group at the place is written, where the call is well
pub grown_on : {A E : Type 0} (r : Result A E) (place : ℕ) (server : PoolServerValue) (groups : List DomainGroupValue)
    (group new : DomainGroupValue) → place < length groups → group ≡ slice_index_or groups place group
    → OnOk r (new ≡ one_more server group) → OnOk r (slice_set groups place new ≡ grown_at place server groups)
grown_on (Ok x) place server groups group new short is made =
    ap (λ (g : DomainGroupValue). slice_set groups place g) made ∙ grown-set place server groups group short is
grown_on (Err e) place server groups group new short is made = tt

-- what is not below is beyond
pub beyond : (at n : ℕ) → (at < n → false ≡ true) → n ≤ at
beyond at n h = by (leb n at) refl
  where
    by : (b : Bool) → leb n at ≡ b → n ≤ at
    by true is = leb-true n at is
    by false is = absurd (let wrong : false ≡ true = h (leb-false n at is) in cc)
