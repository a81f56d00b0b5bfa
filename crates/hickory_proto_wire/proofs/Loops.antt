-- Reading values one behind the other, as a loop does.
use Rattle.std.proofs.Common.{◌≡◌, ℕ, zero, suc, ◌-◌, ◌+◌, ◌≤◌, ◌<◌, List, [], ◌∷◌, ◌++◌, length, Result, Ok, Err, refl, sym, ap, ◌∙◌, append_assoc, arith}
use Rattle.std.proofs.lemmas.List.{append-nil}
use Rattle.std.proofs.lemmas.Bool.{lt-ltb, le-ltb}
use Rattle.hickory_proto_wire.specs.declared.wire_error.WireFault.{WireFault}
use Rattle.hickory_proto_wire.specs.declared.wire_error.WireError.{WireError}
use Rattle.hickory_proto_wire.specs.declared.wire_error.WireError.TheVariants as errors
use Rattle.hickory_proto_wire.specs.declared.wire_record.RecordHead.{RecordHead}
use Rattle.hickory_proto_wire.specs.Octets.{◌>>=◌, Fails, with_front}
use Rattle.hickory_proto_wire.specs.RecordData.{string_at, strings_at}
use Rattle.hickory_proto_wire.specs.Found.{Found}
use Rattle.hickory_proto_wire.specs.Records.{repeat_at, head_at, found_with, additionals_at}

regroup : {A : Type 0} (front : List A) (x : A) (read : Result (List A × ℕ) WireFault)
    → with_front front (read >>= λ r. Ok (x ∷ r.0, r.1)) ≡ with_front (front ++ x ∷ []) read
regroup {A} front x (Ok r) = ap (λ (xs : List A). Ok (xs, r.1)) (simp append_assoc)
regroup front x (Err f) = refl

-- ---- so many values

pub goes_on : {A : Type 0} (read : ℕ → Result (A × ℕ) WireFault) (front : List A) (count i at : ℕ) (x : A) (after : ℕ)
    (total : Result (List A × ℕ) WireFault) → i < count → read at ≡ Ok (x, after)
    → with_front front (repeat_at read (count - i) at) ≡ total
    → with_front (front ++ x ∷ []) (repeat_at read (count - (i + 1)) after) ≡ total
unfolding repeat_at
goes_on read front count i at x after total lt h so_far =
    let k : count - i ≡ suc (count - (i + 1)) = omega arith in
    let one : with_front front (repeat_at read (count - i) at)
    ≡ with_front (front ++ x ∷ []) (repeat_at read (count - (i + 1)) after) =
    rw (k, h) (regroup front x (repeat_at read (count - (i + 1)) after)) in
    sym one ∙ so_far

pub ends : {A : Type 0} (e : WireError) (read : ℕ → Result (A × ℕ) WireFault) (front : List A) (count i at : ℕ)
    (total : Result (List A × ℕ) WireFault) → i < count → Fails e (read at)
    → with_front front (repeat_at read (count - i) at) ≡ total → Fails e total
unfolding repeat_at
ends errors.OutOfMemory read front count i at total lt h so_far = tt
ends (errors.Fault f) read front count i at total lt h so_far =
    let k : count - i ≡ suc (count - (i + 1)) = omega arith in
    let one : with_front front (repeat_at read (count - i) at) ≡ Err f = rw (k, h) refl in
    sym so_far ∙ one

pub is_done : {A : Type 0} (read : ℕ → Result (A × ℕ) WireFault) (front : List A) (count i at : ℕ)
    (total : Result (List A × ℕ) WireFault) → count ≤ i
    → with_front front (repeat_at read (count - i) at) ≡ total → total ≡ Ok (front, at)
unfolding repeat_at
is_done {A} read front count i at total le so_far =
    let k : count - i ≡ 0 = omega arith in
    let one : with_front front (repeat_at read (count - i) at) ≡ Ok (front, at) =
    rw k (ap (λ (xs : List A). Ok (xs, at)) (append-nil front)) in
    sym so_far ∙ one

-- ---- strings up to the end

pub string_goes_on : (front : List (List ℕ)) (bytes : List ℕ) (count i at : ℕ) (x : List ℕ) (after : ℕ)
    (total : Result (List (List ℕ) × ℕ) WireFault) → i < count → at < length bytes
    → string_at bytes at ≡ Ok (x, after) → with_front front (strings_at (count - i) bytes at) ≡ total
    → with_front (front ++ x ∷ []) (strings_at (count - (i + 1)) bytes after) ≡ total
unfolding strings_at
string_goes_on front bytes count i at x after total lt within h so_far =
    let k : count - i ≡ suc (count - (i + 1)) = omega arith in
    let one : with_front front (strings_at (count - i) bytes at)
    ≡ with_front (front ++ x ∷ []) (strings_at (count - (i + 1)) bytes after) =
    rw (k, lt-ltb at (length bytes) within, h) (regroup front x (strings_at (count - (i + 1)) bytes after)) in
    sym one ∙ so_far

pub string_ends : (e : WireError) (front : List (List ℕ)) (bytes : List ℕ) (count i at : ℕ)
    (total : Result (List (List ℕ) × ℕ) WireFault) → i < count → at < length bytes → Fails e (string_at bytes at)
    → with_front front (strings_at (count - i) bytes at) ≡ total → Fails e total
unfolding strings_at
string_ends errors.OutOfMemory front bytes count i at total lt within h so_far = tt
string_ends (errors.Fault f) front bytes count i at total lt within h so_far =
    let k : count - i ≡ suc (count - (i + 1)) = omega arith in
    let one : with_front front (strings_at (count - i) bytes at) ≡ Err f =
    rw (k, lt-ltb at (length bytes) within, h) refl in
    sym so_far ∙ one

pub strings_done : (front : List (List ℕ)) (bytes : List ℕ) (steps at : ℕ)
    (total : Result (List (List ℕ) × ℕ) WireFault) → length bytes ≤ at
    → with_front front (strings_at steps bytes at) ≡ total → total ≡ Ok (front, at)
unfolding strings_at
strings_done front bytes zero at total le so_far =
    sym so_far ∙ ap (λ (xs : List (List ℕ)). Ok (xs, at)) (append-nil front)
strings_done front bytes (suc steps) at total le so_far =
    let one : with_front front (strings_at (suc steps) bytes at) ≡ Ok (front, at) =
    rw (le-ltb at (length bytes) le) (ap (λ (xs : List (List ℕ)). Ok (xs, at)) (append-nil front)) in
    sym so_far ∙ one

pub strings_counted : (front : List (List ℕ)) (bytes : List ℕ) (count i at : ℕ)
    (total : Result (List (List ℕ) × ℕ) WireFault) → count ≤ i
    → with_front front (strings_at (count - i) bytes at) ≡ total → total ≡ Ok (front, at)
unfolding strings_at
strings_counted front bytes count i at total le so_far =
    let k : count - i ≡ 0 = omega arith in
    let one : with_front front (strings_at (count - i) bytes at) ≡ Ok (front, at) =
    rw k (ap (λ (xs : List (List ℕ)). Ok (xs, at)) (append-nil front)) in
    sym so_far ∙ one

-- ---- the additional section

pub found_goes_on : (bytes : List ℕ) (count i at : ℕ) (head : RecordHead) (found more : Found)
    (total : Result (Found × ℕ) WireFault) → i < count → head_at bytes at ≡ Ok head
    → found_with bytes head found ≡ Ok more → additionals_at (count - i) bytes at found ≡ total
    → additionals_at (count - (i + 1)) bytes head.end more ≡ total
unfolding additionals_at
found_goes_on bytes count i at head found more total lt h g so_far =
    let k : count - i ≡ suc (count - (i + 1)) = omega arith in
    let one : additionals_at (count - i) bytes at found ≡ additionals_at (count - (i + 1)) bytes head.end more =
    rw (k, h, g) refl in
    sym one ∙ so_far

pub head_ends : (e : WireError) (bytes : List ℕ) (count i at : ℕ) (found : Found)
    (total : Result (Found × ℕ) WireFault) → i < count → Fails e (head_at bytes at)
    → additionals_at (count - i) bytes at found ≡ total → Fails e total
unfolding additionals_at
head_ends errors.OutOfMemory bytes count i at found total lt h so_far = tt
head_ends (errors.Fault f) bytes count i at found total lt h so_far =
    let k : count - i ≡ suc (count - (i + 1)) = omega arith in
    let one : additionals_at (count - i) bytes at found ≡ Err f = rw (k, h) refl in
    sym so_far ∙ one

pub found_ends : (e : WireError) (bytes : List ℕ) (count i at : ℕ) (head : RecordHead) (found : Found)
    (total : Result (Found × ℕ) WireFault) → i < count → head_at bytes at ≡ Ok head
    → Fails e (found_with bytes head found) → additionals_at (count - i) bytes at found ≡ total → Fails e total
unfolding additionals_at
found_ends errors.OutOfMemory bytes count i at head found total lt h g so_far = tt
found_ends (errors.Fault f) bytes count i at head found total lt h g so_far =
    let k : count - i ≡ suc (count - (i + 1)) = omega arith in
    let one : additionals_at (count - i) bytes at found ≡ Err f = rw (k, h, g) refl in
    sym so_far ∙ one

pub found_done : (bytes : List ℕ) (count i at : ℕ) (found : Found) (total : Result (Found × ℕ) WireFault)
    → count ≤ i → additionals_at (count - i) bytes at found ≡ total → total ≡ Ok (found, at)
unfolding additionals_at
found_done bytes count i at found total le so_far =
    let k : count - i ≡ 0 = omega arith in
    let one : additionals_at (count - i) bytes at found ≡ Ok (found, at) = rw k refl in
    sym so_far ∙ one
