-- Two readings that come to the labels of one place read the same labels.
use Rattle.std.proofs.Common.{◌≡◌, ℕ, zero, suc, ◌-◌, ◌+◌, ◌*◌, ◌≤◌, ◌<◌, Bool, true, false, cond, ltb, eqb, List, [], ◌∷◌, ◌++◌, length, take, drop, get_or, Result, Ok, Err, refl, sym, ap, ap₂, subst, ◌∙◌, length-append, arith}
use Rattle.std.proofs.lemmas.Bool.{lt-ltb, le-ltb, ltb-true, ltb-false}
use Rattle.std.proofs.lemmas.List.{take-append-drop, take-append-le, drop-append-le, get_or_append_left, length-drop}
use Rattle.hickory_proto_names.specs.Name.{NameValue}
use Rattle.hickory_proto_wire.specs.declared.wire_error.WireFault.{WireFault}
use Rattle.hickory_proto_wire.specs.declared.wire_error.WireFault.TheVariants as faults
use Rattle.hickory_proto_wire.specs.declared.wire_name.Piece.{Piece}
use Rattle.hickory_proto_wire.specs.declared.wire_name.Piece.TheVariants.{Root, Label, Pointer}
use Rattle.hickory_proto_wire.specs.declared.wire_name.Walk.{Walk}
use Rattle.hickory_proto_wire.specs.Octets.{◌>>=◌, octet_at, octets_at}
use Rattle.hickory_proto_wire.specs.Names.{piece_at, labels_at, behind_label, at_target, name_start, name_at}
use Rattle.hickory_proto_wire.specs.LabelsPlace.{led_on, place_from, measured}
use Rattle.hickory_proto_wire.specs.ReadNames.{IsReadAt, IsFront}
use Rattle.hickory_proto_wire.proofs.Fits.{bind_ok, ok_is, guard_ok, test_ok, Labels, branch}

abbrev done : {A : Type 0} → A → Result A WireFault
done x = Ok x

-- ---- what is read of the first octets is read of all of them

octet_more : (bytes rest : List ℕ) (at : ℕ) (x : ℕ × ℕ) → octet_at bytes at ≡ Ok x → octet_at (bytes ++ rest) at ≡ Ok x
unfolding octet_at
octet_more bytes rest at x e =
    let g = test_ok (ltb at (length bytes)) faults.Short (Ok (get_or bytes at 0, at + 1)) x e in
    let within : at < length bytes = ltb-true at (length bytes) g.0 in
    let longer : at < length (bytes ++ rest) = omega (arith, within, length-append bytes rest) in
    rw (lt-ltb at (length (bytes ++ rest)) longer, get_or_append_left bytes rest 0 at within) g.1

octets_more : (count : ℕ) (bytes rest : List ℕ) (at : ℕ) (x : List ℕ × ℕ) → octets_at count bytes at ≡ Ok x
    → octets_at count (bytes ++ rest) at ≡ Ok x
unfolding octets_at
octets_more count bytes rest at x e =
    let g = guard_ok (ltb (length bytes) (at + count)) faults.Short (Ok (take count (drop at bytes), at + count)) x e in
    let within : at + count ≤ length bytes = ltb-false (length bytes) (at + count) g.0 in
    let longer : at + count ≤ length (bytes ++ rest) = omega (arith, within, length-append bytes rest) in
    let behind : at ≤ length bytes = omega arith in
    let same : take count (drop at (bytes ++ rest)) ≡ take count (drop at bytes) =
    ap (λ (l : List ℕ). take count l) (drop-append-le at bytes rest behind)
    ∙ take-append-le count (drop at bytes) rest (omega (arith, length-drop at bytes)) in
    rw (le-ltb (length (bytes ++ rest)) (at + count) longer, same) g.1

piece_more : (bytes rest : List ℕ) (at : ℕ) (x : Piece × ℕ) → piece_at bytes at ≡ Ok x → piece_at (bytes ++ rest) at ≡ Ok x
unfolding piece_at
piece_more bytes rest at x e =
    let b = bind_ok (octet_at bytes at) (λ first. cond (eqb first.0 0) (Ok (Root, first.1)) (cond (ltb first.0 64) (Ok (Label first.0, first.1)) (cond (ltb first.0 192) (Err faults.BadLabel) (octet_at bytes first.1 >>= λ low. Ok (Pointer ((first.0 - 192) * 256 + low.0), low.1))))) x e in
    rw (octet_more bytes rest at b.0 b.1) (tail b.0.0 b.0.1 (eqb b.0.0 0) (ltb b.0.0 64) (ltb b.0.0 192) b.2)
  where
    tail : (first after : ℕ) (p q r : Bool)
        → cond p (Ok (Root, after)) (cond q (Ok (Label first, after)) (cond r (Err faults.BadLabel) (octet_at bytes after >>= λ low. Ok (Pointer ((first - 192) * 256 + low.0), low.1)))) ≡ Ok x
        → cond p (Ok (Root, after)) (cond q (Ok (Label first, after)) (cond r (Err faults.BadLabel) (octet_at (bytes ++ rest) after >>= λ low. Ok (Pointer ((first - 192) * 256 + low.0), low.1)))) ≡ Ok x
    tail first after true q r e = e
    tail first after false true r e = e
    tail first after false false true e = e
    tail first after false false false e =
        let b = bind_ok (octet_at bytes after) (λ low. Ok (Pointer ((first - 192) * 256 + low.0), low.1)) x e in
        rw (octet_more bytes rest after b.0 b.1) b.2

-- what a pointer leads to is read too
led_there : (inner : Walk → Labels) (walk : Walk) (target after : ℕ) (x : List (List ℕ) × ℕ)
    → cond (eqb walk.jumps 0) (Err faults.TooManyPointers) (cond (ltb target walk.start) (inner (at_target walk target) >>= λ rest. Ok (rest.0, after)) (Err faults.PointerNotBack)) ≡ Ok x
    → (eqb walk.jumps 0 ≡ false) × (ltb target walk.start ≡ true) × (r : List (List ℕ) × ℕ) × (inner (at_target walk target) ≡ Ok r) × (done (r.0, after) ≡ Ok x)
led_there inner walk target after x e =
    let f = guard_ok (eqb walk.jumps 0) faults.TooManyPointers (cond (ltb target walk.start) (inner (at_target walk target) >>= λ rest. Ok (rest.0, after)) (Err faults.PointerNotBack)) x e in
    let g = test_ok (ltb target walk.start) faults.PointerNotBack (inner (at_target walk target) >>= λ rest. Ok (rest.0, after)) x f.1 in
    let r = bind_ok (inner (at_target walk target)) (λ rest. Ok (rest.0, after)) x g.1 in
    (f.0, g.0, r.0, r.1, r.2)

-- a label and what is behind it are read too
label_here : (inner : Walk → Labels) (bytes : List ℕ) (walk : Walk) (len after : ℕ) (x : List (List ℕ) × ℕ)
    → cond (ltb walk.left (len + 2)) (Err faults.NameTooLong) (octets_at len bytes after >>= λ label. inner (behind_label walk len label.1) >>= λ rest. Ok (label.0 ∷ rest.0, rest.1)) ≡ Ok x
    → (ltb walk.left (len + 2) ≡ false) × (label : List ℕ × ℕ) × (octets_at len bytes after ≡ Ok label) × (r : List (List ℕ) × ℕ) × (inner (behind_label walk len label.1) ≡ Ok r) × (done (label.0 ∷ r.0, r.1) ≡ Ok x)
label_here inner bytes walk len after x e =
    let g = guard_ok (ltb walk.left (len + 2)) faults.NameTooLong (octets_at len bytes after >>= λ label. inner (behind_label walk len label.1) >>= λ rest. Ok (label.0 ∷ rest.0, rest.1)) x e in
    let o = bind_ok (octets_at len bytes after) (λ label. inner (behind_label walk len label.1) >>= λ rest. Ok (label.0 ∷ rest.0, rest.1)) x g.1 in
    let r = bind_ok (inner (behind_label walk len o.0.1)) (λ rest. Ok (o.0.0 ∷ rest.0, rest.1)) x o.2 in
    (g.0, o.0, o.1, r.0, r.1, r.2)

-- the first piece is read too
piece_first : (steps : ℕ) (bytes : List ℕ) (walk : Walk) (x : List (List ℕ) × ℕ) → labels_at steps bytes walk ≡ Ok x
    → (less : ℕ) × (steps ≡ suc less) × (p : Piece × ℕ) × (piece_at bytes walk.at ≡ Ok p) × (branch (labels_at less bytes) bytes walk p.0 p.1 ≡ Ok x)
unfolding labels_at
piece_first zero bytes walk x e = absurd cc
piece_first (suc steps) bytes walk x e =
    let p = bind_ok (piece_at bytes walk.at) (λ piece. branch (labels_at steps bytes) bytes walk piece.0 piece.1) x e in
    (steps, refl, p.0, p.1, p.2)

branch_more : (bytes rest : List ℕ) (one two : Walk → Labels)
    (ih : (w : Walk) (x : List (List ℕ) × ℕ) → one w ≡ Ok x → two w ≡ Ok x)
    (walk : Walk) (piece : Piece) (after : ℕ) (x : List (List ℕ) × ℕ)
    → branch one bytes walk piece after ≡ Ok x → branch two (bytes ++ rest) walk piece after ≡ Ok x
branch_more bytes rest one two ih walk Root after x e = e
branch_more bytes rest one two ih walk (Label len) after x e =
    let h = label_here one bytes walk len after x e in
    rw (h.0, octets_more len bytes rest after h.1 h.2, ih (behind_label walk len h.1.1) h.3 h.4) h.5
branch_more bytes rest one two ih walk (Pointer target) after x e =
    let h = led_there one walk target after x e in
    rw (h.0, h.1, ih (at_target walk target) h.2 h.3) h.4

still_read : (steps : ℕ) (bytes rest : List ℕ) (walk : Walk) (x : List (List ℕ) × ℕ) → labels_at steps bytes walk ≡ Ok x
    → labels_at steps (bytes ++ rest) walk ≡ Ok x
unfolding labels_at
still_read zero bytes rest walk x e = absurd cc
still_read (suc steps) bytes rest walk x e =
    let p = bind_ok (piece_at bytes walk.at) (λ piece. branch (labels_at steps bytes) bytes walk piece.0 piece.1) x e in
    rw (piece_more bytes rest walk.at p.0 p.1)
    (branch_more bytes rest (labels_at steps bytes) (labels_at steps (bytes ++ rest)) (still_read steps bytes rest) walk p.0.0 p.0.1 x p.2)

-- ---- two readings

branch_same : (bytes : List ℕ) (one two : Walk → Labels)
    (ih : (v w : Walk) (x y : List (List ℕ) × ℕ) → v.at ≡ w.at → one v ≡ Ok x → two w ≡ Ok y → x.0 ≡ y.0)
    (v w : Walk) (piece : Piece) (after : ℕ) (x y : List (List ℕ) × ℕ)
    → branch one bytes v piece after ≡ Ok x → branch two bytes w piece after ≡ Ok y → x.0 ≡ y.0
branch_same bytes one two ih v w Root after x y d e =
    ap (λ (z : List (List ℕ) × ℕ). z.0) (sym (ok_is ([], after) x d) ∙ ok_is ([], after) y e)
branch_same bytes one two ih v w (Label len) after x y d e =
    let f = label_here one bytes v len after x d in
    let g = label_here two bytes w len after y e in
    let label : f.1 ≡ g.1 = ok_is f.1 g.1 (sym f.2 ∙ g.2) in
    let more : f.3.0 ≡ g.3.0 =
    ih (behind_label v len f.1.1) (behind_label w len g.1.1) f.3 g.3 (ap (λ (z : List ℕ × ℕ). z.1) label) f.4 g.4 in
    ap (λ (z : List (List ℕ) × ℕ). z.0) (sym (ok_is (f.1.0 ∷ f.3.0, f.3.1) x f.5))
    ∙ ap₂ (λ (l : List ℕ) (ls : List (List ℕ)). l ∷ ls) (ap (λ (z : List ℕ × ℕ). z.0) label) more
    ∙ ap (λ (z : List (List ℕ) × ℕ). z.0) (ok_is (g.1.0 ∷ g.3.0, g.3.1) y g.5)
branch_same bytes one two ih v w (Pointer target) after x y d e =
    let f = led_there one v target after x d in
    let g = led_there two w target after y e in
    ap (λ (z : List (List ℕ) × ℕ). z.0) (sym (ok_is (f.2.0, after) x f.4))
    ∙ ih (at_target v target) (at_target w target) f.2 g.2 refl f.3 g.3
    ∙ ap (λ (z : List (List ℕ) × ℕ). z.0) (ok_is (g.2.0, after) y g.4)

-- At one place the same labels are read, whatever is left of steps, octets and pointers.
same_read : (steps others : ℕ) (bytes : List ℕ) (v w : Walk) (x y : List (List ℕ) × ℕ) → v.at ≡ w.at
    → labels_at steps bytes v ≡ Ok x → labels_at others bytes w ≡ Ok y → x.0 ≡ y.0
unfolding labels_at
same_read zero others bytes v w x y at d e = absurd cc
same_read (suc steps) zero bytes v w x y at d e = absurd cc
same_read (suc steps) (suc others) bytes v w x y at d e =
    let p = bind_ok (piece_at bytes v.at) (λ piece. branch (labels_at steps bytes) bytes v piece.0 piece.1) x d in
    let q = bind_ok (piece_at bytes w.at) (λ piece. branch (labels_at others bytes) bytes w piece.0 piece.1) y e in
    let same : q.0 ≡ p.0 = ok_is q.0 p.0 (sym q.1 ∙ ap (λ (n : ℕ). piece_at bytes n) (sym at) ∙ p.1) in
    branch_same bytes (labels_at steps bytes) (labels_at others bytes) (same_read steps others bytes) v w p.0.0 p.0.1 x y p.2
    (subst (λ (z : Piece × ℕ). branch (labels_at others bytes) bytes w z.0 z.1 ≡ Ok y) same q.2)

-- ---- where the labels stand

abbrev marked : List (List ℕ) → Bool → NameValue
marked labels fqdn = record { labels = labels; fqdn = fqdn }

abbrev whole_name : List (List ℕ) → NameValue
whole_name labels = marked labels true

-- A name whose labels are read has them at the place that its first pointers lead to.
read_at_place : (pointers steps : ℕ) (bytes : List ℕ) (walk : Walk) (x : List (List ℕ) × ℕ) → labels_at steps bytes walk ≡ Ok x
    → IsReadAt bytes (place_from pointers bytes walk.at) (whole_name x.0)
unfolding place_from
read_at_place zero steps bytes walk x e = record { steps = steps; walk = walk; end = x.1; there = refl; read = e; whole = refl }
read_at_place (suc pointers) steps bytes walk x e =
    let p = piece_first steps bytes walk x e in
    rw p.3 (on (read_at_place pointers) p.0 p.2.0 p.2.1 p.4)
  where
    on : (further : (steps : ℕ) (bytes : List ℕ) (walk : Walk) (x : List (List ℕ) × ℕ) → labels_at steps bytes walk ≡ Ok x
        → IsReadAt bytes (place_from pointers bytes walk.at) (whole_name x.0))
        (less : ℕ) (piece : Piece) (after : ℕ) → branch (labels_at less bytes) bytes walk piece after ≡ Ok x
        → IsReadAt bytes (led_on walk.at (Ok (piece, after)) (place_from pointers bytes)) (whole_name x.0)
    on further less Root after d = record { steps = steps; walk = walk; end = x.1; there = refl; read = e; whole = refl }
    on further less (Label len) after d = record { steps = steps; walk = walk; end = x.1; there = refl; read = e; whole = refl }
    on further less (Pointer target) after d =
        let r = led_there (labels_at less bytes) walk target after x d in
        subst (λ (ls : List (List ℕ)). IsReadAt bytes (place_from pointers bytes target) (whole_name ls))
        (ap (λ (z : List (List ℕ) × ℕ). z.0) (ok_is (r.2.0, after) x r.4))
        (further less bytes (at_target walk target) r.2 r.3)

-- ---- names of a message

-- the octets of a message are these, and others behind them
all_of : (bytes octets : List ℕ) → IsFront bytes octets → bytes ++ drop (length bytes) octets ≡ octets
all_of bytes octets front =
    ap (λ (l : List ℕ). l ++ drop (length bytes) octets) (sym front) ∙ take-append-drop (length bytes) octets

name_is : (x y : NameValue × ℕ) → done x ≡ done y → x ≡ y
name_is x y e = cc

pair_is : (x y : ℕ × ℕ) → done x ≡ done y → x ≡ y
pair_is x y e = cc

-- a name that is read of the first octets of a message
pub is_read : (bytes octets : List ℕ) (at place end : ℕ) (name : NameValue) → IsFront bytes octets
    → place ≡ place_from 128 bytes at → name_at bytes at ≡ Ok (name, end) → IsReadAt octets place name
unfolding name_at
is_read bytes octets at place end name front e read =
    let x = bind_ok (labels_at 256 bytes (name_start at)) (λ labels. Ok (whole_name labels.0, labels.1)) (name, end) read in
    let r = read_at_place 128 256 bytes (name_start at) x.0 x.1 in
    let more : labels_at r.steps octets r.walk ≡ Ok (x.0.0, r.end) =
    ap (λ (l : List ℕ). labels_at r.steps l r.walk) (sym (all_of bytes octets front))
    ∙ still_read r.steps bytes (drop (length bytes) octets) r.walk (x.0.0, r.end) r.read in
    subst (λ (n : NameValue). IsReadAt octets place n) (ap (λ (z : NameValue × ℕ). z.0) (name_is (whole_name x.0.0, x.0.1) (name, end) x.2))
    (record { steps = r.steps; walk = r.walk; end = r.end; there = r.there ∙ sym e; read = more; whole = refl })

-- a name that is known at the place of one that can be measured is that name
pub is_known : (bytes octets : List ℕ) (at place count end : ℕ) (name : NameValue) → IsFront bytes octets
    → place ≡ place_from 128 bytes at → measured (labels_at 256 bytes (name_start at)) ≡ Ok (count, end)
    → IsReadAt octets place name → name_at bytes at ≡ Ok (name, end)
unfolding name_at
is_known bytes octets at place count end name front e read known =
    let x = bind_ok (labels_at 256 bytes (name_start at)) (λ labels. Ok (length labels.0, labels.1)) (count, end) read in
    let r = read_at_place 128 256 bytes (name_start at) x.0 x.1 in
    let more : labels_at r.steps octets r.walk ≡ Ok (x.0.0, r.end) =
    ap (λ (l : List ℕ). labels_at r.steps l r.walk) (sym (all_of bytes octets front))
    ∙ still_read r.steps bytes (drop (length bytes) octets) r.walk (x.0.0, r.end) r.read in
    let labels : x.0.0 ≡ name.labels =
    same_read r.steps known.steps octets r.walk known.walk (x.0.0, r.end) (name.labels, known.end)
    (r.there ∙ sym e ∙ sym known.there) more known.read in
    let behind : x.0.1 ≡ end = ap (λ (z : ℕ × ℕ). z.1) (pair_is (length x.0.0, x.0.1) (count, end) x.2) in
    let same : whole_name x.0.0 ≡ name =
    ap₂ (λ (ls : List (List ℕ)) (f : Bool). marked ls f) labels (sym known.whole) in
    rw x.1 (ap₂ (λ (n : NameValue) (m : ℕ). done (n, m)) same behind)
