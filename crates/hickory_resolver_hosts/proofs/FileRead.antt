-- A file that is read, and a reader that is not read whole.
use Rattle.std.proofs.Common.{◌≡◌, ℕ, Bool, List, [], ◌∷◌, Option, None, Some, Result, Ok, Err, IsErrAnd, refl, sym, ap, inl}
use Rattle.hickory_resolver_model.specs.Hosts.{Host, file_lines}
use Rattle.hickory_resolver_hosts.specs.Reading.{AreFirstPairs, IsReadFault, IsSourceRead}
use Rattle.hickory_resolver_hosts.specs.declared.hosts_error.HostsError.{HostsError}
use Rattle.hickory_resolver_hosts.specs.declared.hosts_error.HostsError.TheVariants.{Read, InvalidData, OutOfMemory}

-- no pair of any lines
pub nothing_first : (ls : List (List ℕ)) → AreFirstPairs ls []
nothing_first [] = refl
nothing_first (l ∷ ls) = inl refl

-- an error that is handed on
pub err_is : (x : HostsError) (r : Result (Unit {0}) HostsError) → IsErrAnd r (λ e. e ≡ x) → Err x ≡ r
err_is x (Ok v) h = absurd h
err_is x (Err e) h = ap Err (sym h)

-- a reader that is not read whole
pub source_failed : (now : ℕ) (known : Option (List ℕ)) (hosts : List Host) (failed : Bool) (error : HostsError) → IsReadFault error failed → IsSourceRead now known hosts (Err error) hosts failed
source_failed now known hosts failed Read h = (h, refl)
source_failed now known hosts failed InvalidData h = absurd h
source_failed now None hosts failed OutOfMemory h = (h, ([], tt, ([], nothing_first (file_lines []), refl)))
source_failed now (Some xs) hosts failed OutOfMemory h = (h, (xs, refl, ([], nothing_first (file_lines xs), refl)))
