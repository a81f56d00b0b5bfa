-- The labels that are read are those of a name.
use Rattle.std.proofs.Common.{◌≡◌, ℕ, zero, suc, ◌-◌, ◌+◌, ◌*◌, ◌≤◌, ◌<◌, Bool, true, false, cond, ltb, eqb, List, [], ◌∷◌, ◌++◌, length, take, drop, None, Result, Ok, Err, refl, sym, ap, subst, ◌∙◌, arith, ◌⊎◌, inl, inr}
use Rattle.std.specs.List.{list_any}
use Rattle.std.proofs.lemmas.List.Sums.{sum_by-cons}
use Rattle.std.proofs.lemmas.Bool.{le-ltb, ne_eqb, or_from, ltb-false, ltb-true, eqb-false}
use Rattle.std.proofs.lemmas.List.{length-take, length-drop}
use Rattle.hickory_proto_names.specs.Name.{label_fault, is_empty_label, is_long_label, wire_len}
use Rattle.hickory_proto_wire.specs.declared.wire_error.WireFault.{WireFault}
use Rattle.hickory_proto_wire.specs.declared.wire_error.WireFault.TheVariants as faults
use Rattle.hickory_proto_wire.specs.declared.wire_name.Piece.{Piece}
use Rattle.hickory_proto_wire.specs.declared.wire_name.Piece.TheVariants.{Root, Label, Pointer}
use Rattle.hickory_proto_wire.specs.declared.wire_name.Walk.{Walk}
use Rattle.hickory_proto_wire.specs.Octets.{◌>>=◌, with_front, octet_at, octets_at}
use Rattle.hickory_proto_wire.specs.Names.{piece_at, labels_at, behind_label, at_target, name_start}

-- the value of a step that did not fail
pub bind_ok : {A B : Type 0} (r : Result A WireFault) (f : A → Result B WireFault) (y : B) → (r >>= f) ≡ Ok y
    → (x : A) × (r ≡ Ok x) × (f x ≡ Ok y)
bind_ok (Ok x) f y e = (x, refl, e)
bind_ok (Err d) f y e = absurd cc

abbrev done : {A : Type 0} → A → Result A WireFault
done x = Ok x

pub ok_is : {A : Type 0} (x y : A) → done x ≡ done y → x ≡ y
ok_is x y e = cc

-- a test that did not fail, either way round
pub guard_ok : {A : Type 0} (b : Bool) (d : WireFault) (r : Result A WireFault) (y : A) → cond b (Err d) r ≡ Ok y
    → (b ≡ false) × (r ≡ Ok y)
guard_ok true d r y e = absurd cc
guard_ok false d r y e = (refl, e)

pub test_ok : {A : Type 0} (b : Bool) (d : WireFault) (r : Result A WireFault) (y : A) → cond b r (Err d) ≡ Ok y
    → (b ≡ true) × (r ≡ Ok y)
test_ok true d r y e = (refl, e)
test_ok false d r y e = absurd cc

-- labels that a name of so many octets can have
pub record AreLabels (left : ℕ) (labels : List (List ℕ)) : Type 0 where
  pub some : list_any is_empty_label labels ≡ false
  pub short : list_any is_long_label labels ≡ false
  pub fits : wire_len labels ≤ left

pub octets_len : (count : ℕ) (bytes : List ℕ) (at : ℕ) (x : List ℕ × ℕ) → octets_at count bytes at ≡ Ok x
    → length x.0 ≡ count
unfolding octets_at
octets_len count bytes at x e =
    let g = guard_ok (ltb (length bytes) (at + count)) faults.Short (Ok (take count (drop at bytes), at + count)) x e in
    let within = ltb-false (length bytes) (at + count) g.0 in
    let len : length (take count (drop at bytes)) ≡ count = omega (arith, length-take count (drop at bytes), length-drop at bytes) in
    subst (λ (y : List ℕ × ℕ). length y.0 ≡ count) (ok_is (take count (drop at bytes), at + count) x g.1) len

-- a label has 1 to 63 octets
abbrev pub IsPiece : Piece → Type 0
IsPiece Root = Unit {0}
IsPiece (Label len) = (0 < len) × (len < 64)
IsPiece (Pointer target) = Unit {0}

choose : {A : Type 0} (b : Bool) (x y z : A) → cond b x y ≡ z → ((b ≡ true) × (x ≡ z)) ⊎ ((b ≡ false) × (y ≡ z))
choose true x y z e = inl (refl, e)
choose false x y z e = inr (refl, e)

positive : (n : ℕ) → eqb n 0 ≡ false → 0 < n
positive n e = let h = eqb-false n 0 e in omega arith

pieces : (first after : ℕ) (low : Result (ℕ × ℕ) WireFault) (x : Piece × ℕ)
    → cond (eqb first 0) (Ok (Root, after)) (cond (ltb first 64) (Ok (Label first, after))
    (cond (ltb first 192) (Err faults.BadLabel) (low >>= λ low. Ok (Pointer ((first - 192) * 256 + low.0), low.1))))
    ≡ Ok x → IsPiece x.0
pieces first after low x e =
    elim (choose (eqb first 0) _ _ _ e) [
      | inl p ↦ subst (λ (y : Piece × ℕ). IsPiece y.0) (ok_is (Root, after) x p.1) tt
      | inr p ↦ elim (choose (ltb first 64) _ _ _ p.1) [
        | inl q ↦ subst (λ (y : Piece × ℕ). IsPiece y.0) (ok_is (Label first, after) x q.1) (positive first p.0, ltb-true first 64 q.0)
        | inr q ↦ elim (choose (ltb first 192) _ _ _ q.1) [
          | inl r ↦ absurd cc
          | inr r ↦
              let b = bind_ok low (λ low. Ok (Pointer ((first - 192) * 256 + low.0), low.1)) x r.1 in
              subst (λ (y : Piece × ℕ). IsPiece y.0) (ok_is (Pointer ((first - 192) * 256 + b.0.0), b.0.1) x b.2) tt
        ]
      ]
    ]

pub piece_len : (bytes : List ℕ) (at : ℕ) (x : Piece × ℕ) → piece_at bytes at ≡ Ok x → IsPiece x.0
unfolding piece_at
piece_len bytes at x e =
    let b = bind_ok (octet_at bytes at) (λ first. cond (eqb first.0 0) (Ok (Root, first.1)) (cond (ltb first.0 64) (Ok (Label first.0, first.1)) (cond (ltb first.0 192) (Err faults.BadLabel) (octet_at bytes first.1 >>= λ low. Ok (Pointer ((first.0 - 192) * 256 + low.0), low.1))))) x e in
    pieces b.0.0 b.0.1 (octet_at bytes b.0.1) x b.2

-- ---- the labels of a name

abbrev pub Labels : Type 0
Labels = Result (List (List ℕ) × ℕ) WireFault

-- what a piece leads to, where the rest is read by inner
abbrev pub branch : (Walk → Labels) → List ℕ → Walk → Piece → ℕ → Labels
branch inner bytes walk piece after =
    elim piece as (λ _. Result (List (List ℕ) × ℕ) WireFault) [
      | Root ↦ Ok ([], after)
      | Label len ↦ cond (ltb walk.left (len + 2)) (Err faults.NameTooLong) (
          octets_at len bytes after >>= λ label.
          inner (behind_label walk len label.1) >>= λ rest.
          Ok (label.0 ∷ rest.0, rest.1))
      | Pointer target ↦ cond (eqb walk.jumps 0) (Err faults.TooManyPointers) (
          cond (ltb target walk.start)
          (inner (at_target walk target) >>= λ rest. Ok (rest.0, after))
          (Err faults.PointerNotBack))
    ]

one_more : (left len : ℕ) (l : List ℕ) (ls : List (List ℕ)) → length l ≡ len → 0 < len → len < 64 → len + 2 ≤ left
    → AreLabels (left - (len + 1)) ls → AreLabels left (l ∷ ls)
one_more left len l ls size some short room more =
    record {
      some = or_from (is_empty_label l) (list_any is_empty_label ls) (ne_eqb (length l) 0 (λ z. omega arith)) more.some;
      short = or_from (is_long_label l) (list_any is_long_label ls) (le-ltb 63 (length l) (omega arith)) more.short;
      fits = omega (arith, more.fits, sum_by-cons (λ (x : List ℕ). length x + 1) l ls);
    }

branch_fits : (inner : Walk → Labels) (ih : (w : Walk) (y : List (List ℕ) × ℕ) → 0 < w.left → inner w ≡ Ok y → AreLabels w.left y.0)
    (bytes : List ℕ) (walk : Walk) (piece : Piece) (after : ℕ) (x : List (List ℕ) × ℕ) → 0 < walk.left → IsPiece piece
    → branch inner bytes walk piece after ≡ Ok x → AreLabels walk.left x.0
branch_fits inner ih bytes walk Root after x some is e =
    subst (λ (y : List (List ℕ) × ℕ). AreLabels walk.left y.0) (ok_is ([], after) x e)
    (record { some = refl; short = refl; fits = omega arith })
branch_fits inner ih bytes walk (Label len) after x some is e =
    let g = guard_ok (ltb walk.left (len + 2)) faults.NameTooLong (octets_at len bytes after >>= λ label. inner (behind_label walk len label.1) >>= λ rest. Ok (label.0 ∷ rest.0, rest.1)) x e in
    let room = ltb-false walk.left (len + 2) g.0 in
    let o = bind_ok (octets_at len bytes after) (λ label. inner (behind_label walk len label.1) >>= λ rest. Ok (label.0 ∷ rest.0, rest.1)) x g.1 in
    let r = bind_ok (inner (behind_label walk len o.0.1)) (λ rest. Ok (o.0.0 ∷ rest.0, rest.1)) x o.2 in
    let more = ih (behind_label walk len o.0.1) r.0 (omega arith) r.1 in
    let size : length o.0.0 ≡ len = octets_len len bytes after o.0 o.1 in
    let all : AreLabels walk.left (o.0.0 ∷ r.0.0) = one_more walk.left len o.0.0 r.0.0 size is.0 is.1 room more in
    subst (λ (y : List (List ℕ) × ℕ). AreLabels walk.left y.0) (ok_is (o.0.0 ∷ r.0.0, r.0.1) x r.2) all
branch_fits inner ih bytes walk (Pointer target) after x some is e =
    let g = guard_ok (eqb walk.jumps 0) faults.TooManyPointers (cond (ltb target walk.start) (inner (at_target walk target) >>= λ rest. Ok (rest.0, after)) (Err faults.PointerNotBack)) x e in
    let h = test_ok (ltb target walk.start) faults.PointerNotBack (inner (at_target walk target) >>= λ rest. Ok (rest.0, after)) x g.1 in
    let r = bind_ok (inner (at_target walk target)) (λ rest. Ok (rest.0, after)) x h.1 in
    let more : AreLabels walk.left r.0.0 = ih (at_target walk target) r.0 some r.1 in
    subst (λ (y : List (List ℕ) × ℕ). AreLabels walk.left y.0) (ok_is (r.0.0, after) x r.2) more

pub labels_fit : (steps : ℕ) (bytes : List ℕ) (walk : Walk) (x : List (List ℕ) × ℕ) → 0 < walk.left
    → labels_at steps bytes walk ≡ Ok x → AreLabels walk.left x.0
unfolding labels_at
labels_fit zero bytes walk x some e = absurd cc
labels_fit (suc steps) bytes walk x some e =
    let p = bind_ok (piece_at bytes walk.at) (λ piece. branch (labels_at steps bytes) bytes walk piece.0 piece.1) x e in
    branch_fits (labels_at steps bytes) (labels_fit steps bytes) bytes walk p.0.0 p.0.1 x some (piece_len bytes walk.at p.0 p.1) p.2

-- the labels that are read have no fault as those of a name
pub no_fault : (front : List (List ℕ)) (bytes : List ℕ) (at : ℕ) (labels : List (List ℕ)) (end : ℕ) → front ≡ []
    → with_front front (labels_at 256 bytes (name_start at)) ≡ Ok (labels, end) → label_fault labels ≡ None
no_fault front bytes at labels end none e =
    let r = bind_ok (labels_at 256 bytes (name_start at)) (λ x. Ok (front ++ x.0, x.1)) (labels, end) e in
    let all = labels_fit 256 bytes (name_start at) r.0 (omega arith) r.1 in
    let same : r.0.0 ≡ labels =
    ap (λ (f : List (List ℕ)). f ++ r.0.0) (sym none)
    ∙ ap (λ (y : List (List ℕ) × ℕ). y.0) (ok_is (front ++ r.0.0, r.0.1) (labels, end) r.2) in
    subst (λ (ls : List (List ℕ)). label_fault ls ≡ None) same
    (rw (all.some, all.short, le-ltb 255 (wire_len r.0.0) all.fits) refl)
