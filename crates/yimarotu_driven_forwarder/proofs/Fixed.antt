-- Whether a server is to be asked from a given port is told both ways.
use Rattle.std.proofs.Common.{◌≡◌, ℕ, Option, None, Some, Result, Ok, Err, refl, sym, ◌∙◌}
use Rattle.hickory_resolver_pool.specs.declared.servers.ServersError.{ServersError}
use Rattle.hickory_resolver_pool.specs.declared.servers.ServersError.TheVariants.{FixedPort, OutOfMemory}

abbrev pub Ended : Type 0
Ended = Result (Unit {0}) ServersError

-- where the call ends well none is
pub none_fixed : (o : Option ℕ) (ended : Ended) → ended ≡ Ok tt
    → ((place : ℕ) → o ≡ Some place → ended ≡ Err (FixedPort place)) → o ≡ None
none_fixed None ended well fixed = refl
none_fixed (Some place) ended well fixed = let contrary : ended ≡ Err (FixedPort place) = fixed place refl in cc

abbrev pub refused : ServersError → Ended
refused error = Err error

-- the place that is told is the first one
pub first_told : (o : Option ℕ) (told : ℕ) (error : ServersError) → error ≡ FixedPort told
    → ((place : ℕ) → o ≡ Some place → refused error ≡ refused (FixedPort place))
    → (o ≡ None → error ≡ OutOfMemory) → o ≡ Some told
first_told None told error is fixed free = let contrary : error ≡ OutOfMemory = free refl in cc
first_told (Some place) told error is fixed free =
    let same : refused error ≡ refused (FixedPort place) = fixed place refl in cc
