-- Data by their parts: read one behind the other, as a loop does, and read again where they stand.
use Rattle.std.proofs.Common.{◌≡◌, ℕ, ◌+◌, ◌≤◌, ◌<◌, List, [], ◌∷◌, ◌++◌, length, drop, get_or, Result, Ok, Err, refl, sym, ap, ◌∙◌, append_assoc, add-one}
use Rattle.std.specs.Prelude.{Option, None, Some}
use Rattle.std.proofs.Math.Seq.{drop-cons}
use Rattle.std.proofs.lemmas.List.{append-nil, drop_all}
use Rattle.hickory_proto_wire.specs.declared.wire_error.WireFault.{WireFault}
use Rattle.hickory_proto_wire.specs.declared.wire_error.WireError.{WireError}
use Rattle.hickory_proto_wire.specs.declared.wire_error.WireError.TheVariants as errors
use Rattle.hickory_proto_wire.specs.declared.old_data.Part.{Part}
use Rattle.hickory_proto_wire.specs.Octets.{◌>>=◌, Fails, with_front}
use Rattle.hickory_proto_wire.specs.OldData.{NameReader, part_at, parts_at, end_of}
use Rattle.hickory_proto_wire.proofs.Fits.{ok_is}

-- ---- one part more

abbrev Read : Type 0
Read = Result (List ℕ × ℕ) WireFault

-- the first part of those that are left
first_is : (parts : List Part) (i : ℕ) (p : Part) → i < length parts
    → drop i parts ≡ get_or parts i p ∷ drop (i + 1) parts
first_is parts i p lt = rw (add-one i) (drop-cons parts i p lt)

regroup : (front new octets : List ℕ) (read : Read) → front ++ octets ≡ new
    → with_front front (read >>= λ r. Ok (octets ++ r.0, r.1)) ≡ with_front new read
regroup front new octets (Ok r) e = ap (λ (x : List ℕ). Ok (x, r.1)) (sym (append_assoc front octets r.0) ∙ ap (λ (x : List ℕ). x ++ r.0) e)
regroup front new octets (Err f) e = refl

with_new : (front new : List ℕ) (after : ℕ) (first : Read) (rest : ℕ → Read) → with_front front first ≡ Ok (new, after)
    → with_front front (first >>= λ x. rest x.1 >>= λ r. Ok (x.0 ++ r.0, r.1)) ≡ with_front new (rest after)
with_new front new after (Ok x) rest e =
    let same = ok_is (front ++ x.0, x.1) (new, after) e in
    regroup front new x.0 (rest x.1) (ap (λ (y : List ℕ × ℕ). y.0) same)
    ∙ ap (λ (y : List ℕ × ℕ). with_front new (rest y.1)) same
with_new front new after (Err f) rest e = absurd cc

without : (front : List ℕ) (f : WireFault) (first : Read) (rest : ℕ → Read) → with_front front first ≡ Err f
    → with_front front (first >>= λ x. rest x.1 >>= λ r. Ok (x.0 ++ r.0, r.1)) ≡ Err f
without front f (Ok x) rest e = absurd cc
without front f (Err g) rest e = e

pub part_goes_on : (read : NameReader) (front new bytes : List ℕ) (parts : List Part) (i at after : ℕ) (p : Part)
    (total : Result (List ℕ × ℕ) WireFault) → i < length parts → with_front front (part_at read (get_or parts i p) bytes at) ≡ Ok (new, after)
    → with_front front (parts_at read (drop i parts) bytes at) ≡ total
    → with_front new (parts_at read (drop (i + 1) parts) bytes after) ≡ total
unfolding parts_at
part_goes_on read front new bytes parts i at after p total lt h so_far =
    let one : with_front front (parts_at read (drop i parts) bytes at) ≡ with_front new (parts_at read (drop (i + 1) parts) bytes after) =
    rw (first_is parts i p lt) (with_new front new after (part_at read (get_or parts i p) bytes at) (parts_at read (drop (i + 1) parts) bytes) h) in
    sym one ∙ so_far

pub part_ends : (e : WireError) (read : NameReader) (front bytes : List ℕ) (parts : List Part) (i at : ℕ) (p : Part) (total : Result (List ℕ × ℕ) WireFault)
    → i < length parts → Fails e (with_front front (part_at read (get_or parts i p) bytes at))
    → with_front front (parts_at read (drop i parts) bytes at) ≡ total → Fails e total
unfolding parts_at
part_ends errors.OutOfMemory read front bytes parts i at p total lt h so_far = tt
part_ends (errors.Fault f) read front bytes parts i at p total lt h so_far =
    let one : with_front front (parts_at read (drop i parts) bytes at) ≡ Err f =
    rw (first_is parts i p lt) (without front f (part_at read (get_or parts i p) bytes at) (parts_at read (drop (i + 1) parts) bytes) h) in
    sym so_far ∙ one

pub parts_done : (read : NameReader) (front bytes : List ℕ) (parts : List Part) (i at : ℕ) (total : Result (List ℕ × ℕ) WireFault)
    → length parts ≤ i → with_front front (parts_at read (drop i parts) bytes at) ≡ total → total ≡ Ok (front, at)
unfolding parts_at
parts_done read front bytes parts i at total le so_far =
    let none : drop i parts ≡ [] = drop_all i parts le in
    let one : with_front front (parts_at read (drop i parts) bytes at) ≡ Ok (front, at) =
    rw none (ap (λ (x : List ℕ). Ok (x, at)) (append-nil front)) in
    sym so_far ∙ one

-- ---- where the parts end

some_is : (n m : ℕ) → Some n ≡ Some m → n ≡ m
some_is n m e = cc

end_behind : (octets : List ℕ) (read : Read) → end_of (read >>= λ r. Ok (octets ++ r.0, r.1)) ≡ end_of read
end_behind octets (Ok r) = refl
end_behind octets (Err f) = refl

end_with : (after : ℕ) (first : Read) (rest : ℕ → Read) → end_of first ≡ Some after
    → end_of (first >>= λ x. rest x.1 >>= λ r. Ok (x.0 ++ r.0, r.1)) ≡ end_of (rest after)
end_with after (Ok x) rest e = end_behind x.0 (rest x.1) ∙ ap (λ (n : ℕ). end_of (rest n)) (some_is x.1 after e)
end_with after (Err f) rest e = absurd cc

end_without : (first : Read) (rest : ℕ → Read) → end_of first ≡ None
    → end_of (first >>= λ x. rest x.1 >>= λ r. Ok (x.0 ++ r.0, r.1)) ≡ None
end_without (Ok x) rest e = absurd cc
end_without (Err f) rest e = refl

pub end_goes_on : (read : NameReader) (bytes : List ℕ) (parts : List Part) (i at after : ℕ) (p : Part) (total : Option ℕ)
    → i < length parts → end_of (part_at read (get_or parts i p) bytes at) ≡ Some after
    → end_of (parts_at read (drop i parts) bytes at) ≡ total
    → end_of (parts_at read (drop (i + 1) parts) bytes after) ≡ total
unfolding parts_at
end_goes_on read bytes parts i at after p total lt h so_far =
    let one : end_of (parts_at read (drop i parts) bytes at) ≡ end_of (parts_at read (drop (i + 1) parts) bytes after) =
    rw (first_is parts i p lt) (end_with after (part_at read (get_or parts i p) bytes at) (parts_at read (drop (i + 1) parts) bytes) h) in
    sym one ∙ so_far

pub end_fails : (read : NameReader) (bytes : List ℕ) (parts : List Part) (i at : ℕ) (p : Part) (total : Option ℕ)
    → i < length parts → end_of (part_at read (get_or parts i p) bytes at) ≡ None
    → end_of (parts_at read (drop i parts) bytes at) ≡ total → total ≡ None
unfolding parts_at
end_fails read bytes parts i at p total lt h so_far =
    let one : end_of (parts_at read (drop i parts) bytes at) ≡ None =
    rw (first_is parts i p lt) (end_without (part_at read (get_or parts i p) bytes at) (parts_at read (drop (i + 1) parts) bytes) h) in
    sym so_far ∙ one

pub end_done : (read : NameReader) (bytes : List ℕ) (parts : List Part) (i at : ℕ) (total : Option ℕ) → length parts ≤ i
    → end_of (parts_at read (drop i parts) bytes at) ≡ total → total ≡ Some at
unfolding parts_at
end_done read bytes parts i at total le so_far =
    let one : end_of (parts_at read (drop i parts) bytes at) ≡ Some at = rw (drop_all i parts le) refl in
    sym so_far ∙ one
