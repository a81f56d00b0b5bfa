-- TTLs changed at their places are those of the records so changed.
use Rattle.std.proofs.Common.{◌≡◌, ℕ, ◌+◌, ◌-◌, ◌*◌, ◌/◌, ◌%◌, false, List, [], ◌∷◌, ◌++◌, length, drop, map, get_or, refl, sym, ap, ap₂, ◌∙◌, append_assoc, length-append, arith}
use Rattle.std.specs.Prelude.{nat_lt}
use Rattle.std.proofs.lemmas.Bool.{le-ltb}
use Rattle.std.proofs.lemmas.List.{take_at, drop_at, drop-drop, get_or-append-add}
use Rattle.hickory_proto_core.specs.Records.{RecordValue}
use Rattle.hickory_proto_wire.specs.Writing.{u16_octets, data_code}
use Rattle.hickory_proto_codes.specs.Codes.{class_code}
use Rattle.hickory_proto_wire.specs.Written.{Body, name_octets, u32_octets, record_octets, record_added}
use Rattle.stored_replies.specs.Walk.{over, u32_at, changed_at, changed, ttl_place, ttl_places}
use Rattle.stored_replies.proofs.Added.{added, added_alike, alike_low, before_ttl, behind_ttl, around_ttl, by_ttl, same_length}

-- ---- a part of a room written over

pub over_at : (front old new rest : List ℕ) (at : ℕ) → length front ≡ at → length old ≡ length new
    → over (front ++ (old ++ rest)) at new ≡ front ++ (new ++ rest)
over_at front old new rest at here same =
    let back : drop (at + length new) (front ++ (old ++ rest)) ≡ rest =
    sym (drop-drop (length new) at (front ++ (old ++ rest)))
    ∙ ap (drop (length new)) (drop_at front (old ++ rest) at here) ∙ drop_at old rest (length new) same in
    ap₂ (λ (x : List ℕ) (y : List ℕ). x ++ (new ++ y)) (take_at front (old ++ rest) at here) back

-- behind what was written before
pub over_next : (done room new : List ℕ) (at : ℕ) → length done ≡ at
    → over (done ++ drop at room) at new ≡ (done ++ new) ++ drop (at + length new) room
over_next done room new at here =
    let back : drop (at + length new) (done ++ drop at room) ≡ drop (at + length new) room =
    sym (drop-drop (length new) at (done ++ drop at room))
    ∙ ap (drop (length new)) (drop_at done (drop at room) at here) ∙ drop-drop (length new) at room in
    ap₂ (λ (x : List ℕ) (y : List ℕ). x ++ (new ++ y)) (take_at done (drop at room) at here) back
    ∙ sym (append_assoc done new (drop (at + length new) room))

-- ---- one TTL

number_of : (n : ℕ) → (n / 65536 / 256 * 256 + n / 65536 % 256) * 65536 + (n % 65536 / 256 * 256 + n % 65536 % 256) ≡ n
number_of n = omega arith

read_at : (front rest : List ℕ) (at i : ℕ) → length front ≡ at → get_or (front ++ rest) (at + i) 0 ≡ get_or rest i 0
read_at front rest at i here =
    ap (λ (n : ℕ). get_or (front ++ rest) (n + i) 0) (sym here) ∙ get_or-append-add front rest i 0

u32_read : (front rest : List ℕ) (at n : ℕ) → length front ≡ at → u32_at (front ++ (u32_octets n ++ rest)) at ≡ n
u32_read front rest at n here =
    let whole = u32_octets n ++ rest in
    let r0 : get_or (front ++ whole) at 0 ≡ n / 65536 / 256 =
    ap (λ (k : ℕ). get_or (front ++ whole) k 0) (omega arith) ∙ read_at front whole at 0 here in
    let r1 : get_or (front ++ whole) (at + 1) 0 ≡ n / 65536 % 256 = read_at front whole at 1 here in
    let r2 : get_or (front ++ whole) (at + 2) 0 ≡ n % 65536 / 256 = read_at front whole at 2 here in
    let step : at + 2 + 1 ≡ at + 3 = omega arith in
    let r3 : get_or (front ++ whole) (at + 2 + 1) 0 ≡ n % 65536 % 256 =
    ap (λ (k : ℕ). get_or (front ++ whole) k 0) step ∙ read_at front whole at 3 here in
    rw (r0, r1, r2, r3) (number_of n)

pub changed_one : (change : ℕ → ℕ) (front rest : List ℕ) (at ttl : ℕ) → length front ≡ at
    → changed_at change (front ++ (u32_octets ttl ++ rest)) at ≡ front ++ (u32_octets (change ttl) ++ rest)
changed_one change front rest at ttl here =
    let room = front ++ (u32_octets ttl ++ rest) in
    let fits : nat_lt (length room) (at + 4) ≡ false =
    le-ltb (length room) (at + 4) (omega (arith, here, length-append front (u32_octets ttl ++ rest), length-append (u32_octets ttl) rest)) in
    rw (fits, u32_read front rest at ttl here)
    (over_at front (u32_octets ttl) (u32_octets (change ttl)) rest at here refl)

changed_record : (change : ℕ → ℕ) (b : Body) (r : RecordValue) (front rest : List ℕ) → length front ≡ 12 + length b.octets
    → changed_at change (front ++ (record_octets b.places r ++ rest)) (ttl_place b r)
    ≡ front ++ (record_octets b.places (by_ttl change r) ++ rest)
changed_record change b r front rest here =
    let ps = b.places in
    let low = by_ttl change r in
    let d = front ++ before_ttl ps r in
    let y = behind_ttl ps r ++ rest in
    let parts : (s : RecordValue) → before_ttl ps s ≡ before_ttl ps r → behind_ttl ps s ≡ behind_ttl ps r
    → front ++ (record_octets ps s ++ rest) ≡ d ++ (u32_octets s.ttl ++ y) =
    λ s p q.
    ap (λ (x : List ℕ). front ++ (x ++ rest))
    (around_ttl ps s ∙ ap₂ (λ (x : List ℕ) (z : List ℕ). x ++ (u32_octets s.ttl ++ z)) p q)
    ∙ ap (λ (x : List ℕ). front ++ x) (append_assoc (before_ttl ps r) (u32_octets s.ttl ++ behind_ttl ps r) rest)
    ∙ sym (append_assoc front (before_ttl ps r) (u32_octets s.ttl ++ y)) in
    let at : length d ≡ ttl_place b r =
    omega (
      arith,
      here,
      length-append front (before_ttl ps r),
      length-append (name_octets ps r.name.labels) (u16_octets (data_code r.rdata) ++ u16_octets (class_code r.dns_class)),
    ) in
    ap (λ (x : List ℕ). changed_at change x (ttl_place b r)) (parts r refl refl)
    ∙ changed_one change d y (ttl_place b r) r.ttl at ∙ sym (parts low refl refl)

-- ---- all of them

pub changed_records : (rs : List RecordValue) (change : ℕ → ℕ) (b : Body) (front back : List ℕ)
    → length front ≡ 12 + length b.octets
    → changed change (front ++ (added b rs ++ back)) (ttl_places b rs)
    ≡ front ++ (added b (map (by_ttl change) rs) ++ back)
changed_records [] change b front back here = refl
changed_records (r ∷ rs) change b front back here =
    let low = by_ttl change r in
    let next = record_added b r in
    let own = record_octets b.places r in
    let new = record_octets b.places low in
    let rest = added next rs ++ back in
    let old = map (by_ttl change) rs in
    let long : length (front ++ new) ≡ 12 + length next.octets =
    omega (arith, here, same_length b.places r change, length-append front new, length-append b.octets own) in
    let one : changed_at change (front ++ ((own ++ added next rs) ++ back)) (ttl_place b r) ≡ (front ++ new) ++ rest =
    ap (λ (x : List ℕ). changed_at change (front ++ x) (ttl_place b r)) (append_assoc own (added next rs) back)
    ∙ changed_record change b r front rest here ∙ sym (append_assoc front new rest) in
    ap (λ (x : List ℕ). changed change x (ttl_places next rs)) one
    ∙ changed_records rs change next (front ++ new) back long
    ∙ append_assoc front new (added next old ++ back)
    ∙ ap (λ (x : List ℕ). front ++ (new ++ (x ++ back))) (sym (added_alike old (record_added b low) next (alike_low b r change)))
    ∙ ap (λ (x : List ℕ). front ++ x) (sym (append_assoc new (added (record_added b low) old) back))
