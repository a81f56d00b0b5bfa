-- Data that were read with their names whole are read again as they are, wherever they stand and end the data.
use Rattle.std.proofs.Common.{◌≡◌, ℕ, zero, suc, ◌-◌, ◌+◌, ◌*◌, ◌<◌, Bool, true, false, cond, ltb, eqb, List, [], ◌∷◌, ◌++◌, length, get_or, drop, take, Result, Ok, Err, refl, sym, ap, subst, ◌∙◌, append_assoc, length-append, arith, inl, inr, ◌⊎◌, add-one}
use Rattle.std.specs.Prelude.{None, Some, nat_eq}
use Rattle.std.specs.Cmp.Lexicographic.{bytes_decides}
use Rattle.std.proofs.Math.Seq.{drop-cons}
use Rattle.std.proofs.lemmas.Bool.{le-ltb, eqb-true, eqb-false, eq-eqb, ltb-true}
use Rattle.std.proofs.lemmas.List.{take-append-drop, drop-drop, drop_all, append-nil}
use Rattle.hickory_proto_names.specs.Name.{NameValue, label_fault, wire_form, wire_len}
use Rattle.hickory_proto_wire.specs.declared.wire_error.WireFault.{WireFault}
use Rattle.hickory_proto_wire.specs.declared.wire_error.WireFault.TheVariants as faults
use Rattle.hickory_proto_wire.specs.declared.wire_name.Piece.{Piece}
use Rattle.hickory_proto_wire.specs.declared.wire_name.Piece.TheVariants as pieces
use Rattle.hickory_proto_wire.specs.declared.wire_name.Walk.{Walk}
use Rattle.hickory_proto_wire.specs.declared.old_data.Part.{Part}
use Rattle.hickory_proto_wire.specs.declared.old_data.Part.TheVariants.{Octets, String, Name, Rest}
use Rattle.hickory_proto_wire.specs.Octets.{◌>>=◌, octet_at, octets_at}
use Rattle.hickory_proto_wire.specs.Names.{piece_at, labels_at, behind_label, at_target, name_start, name_at}
use Rattle.hickory_proto_wire.specs.OldData.{NameReader, is_among, parts_of, uncompressed_start, whole_name_at, uncompressed_name_at, string_octets_at, part_at, parts_at, end_of, gives_octets, is_spelled_out}
use Rattle.hickory_proto_wire.specs.Writing.{Begins, Stands, counted}
use Rattle.hickory_proto_wire.proofs.Stands.{stands_front, stands_behind, stands_rest, octet_there, octets_there}
use Rattle.hickory_proto_wire.proofs.Fits.{bind_ok, ok_is, guard_ok, test_ok, octets_len, AreLabels, Labels, branch, labels_fit}
use Rattle.hickory_proto_wire.proofs.Runs.{root_there, are_labels, one_less}
use Rattle.hickory_proto_wire.proofs.Places.{label_first, few_labels, name_spelled, whole_name}

-- ---- what was read as it stands

-- these octets are all from one position up to another
abbrev Between : List ℕ → List ℕ → ℕ → ℕ → Type 0
Between octets bytes at end = (drop at bytes ≡ octets ++ drop end bytes) × (end ≡ at + length octets)

between_both : (a b bytes : List ℕ) (at mid end : ℕ) → Between a bytes at mid → Between b bytes mid end → Between (a ++ b) bytes at end
between_both a b bytes at mid end p q = (
  p.0 ∙ ap (λ (x : List ℕ). a ++ x) q.0 ∙ sym (append_assoc a b (drop end bytes)),
  omega (arith, p.1, q.1, length-append a b),
)

between_as : (a b bytes : List ℕ) (at end : ℕ) → a ≡ b → Between a bytes at end → Between b bytes at end
between_as a b bytes at end e p = subst (λ (x : List ℕ). Between x bytes at end) e p

octet_between : (bytes : List ℕ) (at : ℕ) (x : ℕ × ℕ) → octet_at bytes at ≡ Ok x → Between (x.0 ∷ []) bytes at x.1
unfolding octet_at
octet_between bytes at x e =
    let t = test_ok (ltb at (length bytes)) faults.Short (Ok (get_or bytes at 0, at + 1)) x e in
    let here : Between (get_or bytes at 0 ∷ []) bytes at (at + 1) =
    (rw (add-one at) (drop-cons bytes at 0 (ltb-true at (length bytes) t.0)), refl) in
    subst (λ (y : ℕ × ℕ). Between (y.0 ∷ []) bytes at y.1) (ok_is (get_or bytes at 0, at + 1) x t.1) here

octets_between : (count : ℕ) (bytes : List ℕ) (at : ℕ) (x : List ℕ × ℕ) → octets_at count bytes at ≡ Ok x → Between x.0 bytes at x.1
unfolding octets_at
octets_between count bytes at x e =
    let g = guard_ok (ltb (length bytes) (at + count)) faults.Short (Ok (take count (drop at bytes), at + count)) x e in
    let same = ok_is (take count (drop at bytes), at + count) x g.1 in
    let parts : drop at bytes ≡ take count (drop at bytes) ++ drop (at + count) bytes =
    sym (take-append-drop count (drop at bytes)) ∙ ap (λ (y : List ℕ). take count (drop at bytes) ++ y) (drop-drop count at bytes) in
    let end : x.1 ≡ at + length x.0 =
    sym (ap (λ (y : List ℕ × ℕ). y.1) same) ∙ ap (λ (n : ℕ). at + n) (sym (octets_len count bytes at x e)) in
    (subst (λ (y : List ℕ × ℕ). drop at bytes ≡ y.0 ++ drop y.1 bytes) same parts, end)

-- ---- a name that goes by no pointer

abbrev PieceBetween : List ℕ → ℕ → Piece → ℕ → Type 0
PieceBetween bytes at pieces.Root end = Between (0 ∷ []) bytes at end
PieceBetween bytes at (pieces.Label len) end = Between (len ∷ []) bytes at end
PieceBetween bytes at (pieces.Pointer target) end = Unit {0}

choose : {A : Type 0} (b : Bool) (x y z : A) → cond b x y ≡ z → ((b ≡ true) × (x ≡ z)) ⊎ ((b ≡ false) × (y ≡ z))
choose true x y z e = inl (refl, e)
choose false x y z e = inr (refl, e)

pieces_between : (bytes : List ℕ) (at first after : ℕ) (low : Result (ℕ × ℕ) WireFault) (x : Piece × ℕ) → Between (first ∷ []) bytes at after
    → cond (eqb first 0) (Ok (pieces.Root, after)) (cond (ltb first 64) (Ok (pieces.Label first, after))
    (cond (ltb first 192) (Err faults.BadLabel) (low >>= λ low. Ok (pieces.Pointer ((first - 192) * 256 + low.0), low.1))))
    ≡ Ok x → PieceBetween bytes at x.0 x.1
pieces_between bytes at first after low x here e =
    elim (choose (eqb first 0) _ _ _ e) [
      | inl p ↦ subst (λ (y : Piece × ℕ). PieceBetween bytes at y.0 y.1) (ok_is (pieces.Root, after) x p.1)
          (subst (λ (n : ℕ). Between (n ∷ []) bytes at after) (eqb-true first 0 p.0) here)
      | inr p ↦ elim (choose (ltb first 64) _ _ _ p.1) [
        | inl q ↦ subst (λ (y : Piece × ℕ). PieceBetween bytes at y.0 y.1) (ok_is (pieces.Label first, after) x q.1) here
        | inr q ↦ elim (choose (ltb first 192) _ _ _ q.1) [
          | inl r ↦ absurd cc
          | inr r ↦
              let b = bind_ok low (λ low. Ok (pieces.Pointer ((first - 192) * 256 + low.0), low.1)) x r.1 in
              subst (λ (y : Piece × ℕ). PieceBetween bytes at y.0 y.1) (ok_is (pieces.Pointer ((first - 192) * 256 + b.0.0), b.0.1) x b.2) tt
        ]
      ]
    ]

piece_between : (bytes : List ℕ) (at : ℕ) (x : Piece × ℕ) → piece_at bytes at ≡ Ok x → PieceBetween bytes at x.0 x.1
unfolding piece_at
piece_between bytes at x e =
    let b = bind_ok (octet_at bytes at) (λ first. cond (eqb first.0 0) (Ok (pieces.Root, first.1)) (cond (ltb first.0 64) (Ok (pieces.Label first.0, first.1)) (cond (ltb first.0 192) (Err faults.BadLabel) (octet_at bytes first.1 >>= λ low. Ok (pieces.Pointer ((first.0 - 192) * 256 + low.0), low.1))))) x e in
    pieces_between bytes at b.0.0 b.0.1 (octet_at bytes b.0.1) x (octet_between bytes at b.0 b.1) b.2

branch_between : (inner : Walk → Labels) (bytes : List ℕ)
    (ih : (w : Walk) (y : List (List ℕ) × ℕ) → w.jumps ≡ 0 → inner w ≡ Ok y → Between (wire_form y.0) bytes w.at y.1)
    (walk : Walk) (piece : Piece) (after : ℕ) (x : List (List ℕ) × ℕ) → walk.jumps ≡ 0 → PieceBetween bytes walk.at piece after
    → branch inner bytes walk piece after ≡ Ok x → Between (wire_form x.0) bytes walk.at x.1
branch_between inner bytes ih walk pieces.Root after x none here e =
    subst (λ (y : List (List ℕ) × ℕ). Between (wire_form y.0) bytes walk.at y.1) (ok_is ([], after) x e) here
branch_between inner bytes ih walk (pieces.Label len) after x none here e =
    let g = guard_ok (ltb walk.left (len + 2)) faults.NameTooLong (octets_at len bytes after >>= λ label. inner (behind_label walk len label.1) >>= λ rest. Ok (label.0 ∷ rest.0, rest.1)) x e in
    let o = bind_ok (octets_at len bytes after) (λ label. inner (behind_label walk len label.1) >>= λ rest. Ok (label.0 ∷ rest.0, rest.1)) x g.1 in
    let r = bind_ok (inner (behind_label walk len o.0.1)) (λ rest. Ok (o.0.0 ∷ rest.0, rest.1)) x o.2 in
    let more : Between (wire_form r.0.0) bytes o.0.1 r.0.1 = ih (behind_label walk len o.0.1) r.0 none r.1 in
    let label : Between o.0.0 bytes after o.0.1 = octets_between len bytes after o.0 o.1 in
    let both : Between (o.0.0 ++ wire_form r.0.0) bytes after r.0.1 = between_both o.0.0 (wire_form r.0.0) bytes after o.0.1 r.0.1 label more in
    let all : Between (len ∷ (o.0.0 ++ wire_form r.0.0)) bytes walk.at r.0.1 =
    between_both (len ∷ []) (o.0.0 ++ wire_form r.0.0) bytes walk.at after r.0.1 here both in
    let size : len ≡ length o.0.0 = sym (octets_len len bytes after o.0 o.1) in
    let whole : Between (wire_form (o.0.0 ∷ r.0.0)) bytes walk.at r.0.1 =
    subst (λ (n : ℕ). Between (n ∷ (o.0.0 ++ wire_form r.0.0)) bytes walk.at r.0.1) size all in
    subst (λ (y : List (List ℕ) × ℕ). Between (wire_form y.0) bytes walk.at y.1) (ok_is (o.0.0 ∷ r.0.0, r.0.1) x r.2) whole
branch_between inner bytes ih walk (pieces.Pointer target) after x none here e =
    let g = guard_ok (eqb walk.jumps 0) faults.TooManyPointers (cond (ltb target walk.start) (inner (at_target walk target) >>= λ rest. Ok (rest.0, after)) (Err faults.PointerNotBack)) x e in
    absurd (eqb-false walk.jumps 0 g.0 none)

labels_between : (steps : ℕ) (bytes : List ℕ) (walk : Walk) (x : List (List ℕ) × ℕ) → walk.jumps ≡ 0
    → labels_at steps bytes walk ≡ Ok x → Between (wire_form x.0) bytes walk.at x.1
unfolding labels_at
labels_between zero bytes walk x none e = absurd cc
labels_between (suc steps) bytes walk x none e =
    let p = bind_ok (piece_at bytes walk.at) (λ piece. branch (labels_at steps bytes) bytes walk piece.0 piece.1) x e in
    branch_between (labels_at steps bytes) bytes (labels_between steps bytes) walk p.0.0 p.0.1 x none (piece_between bytes walk.at p.0 p.1) p.2

uncompressed_between : (bytes : List ℕ) (at : ℕ) (x : List ℕ × ℕ) → uncompressed_name_at bytes at ≡ Ok x → Between x.0 bytes at x.1
unfolding uncompressed_name_at
uncompressed_between bytes at x e =
    let l = bind_ok (labels_at 256 bytes (uncompressed_start at)) (λ labels. Ok (wire_form labels.0, labels.1)) x e in
    subst (λ (y : List ℕ × ℕ). Between y.0 bytes at y.1) (ok_is (wire_form l.0.0, l.0.1) x l.2)
    (labels_between 256 bytes (uncompressed_start at) l.0 refl l.1)

part_between : (part : Part) (bytes : List ℕ) (at : ℕ) (x : List ℕ × ℕ) → part_at uncompressed_name_at part bytes at ≡ Ok x → Between x.0 bytes at x.1
unfolding part_at string_octets_at
part_between (Octets count) bytes at x e = octets_between count bytes at x e
part_between String bytes at x e =
    let l = bind_ok (octet_at bytes at) (λ len. octets_at (len.0 + 1) bytes at) x e in
    octets_between (l.0.0 + 1) bytes at x l.2
part_between Name bytes at x e = uncompressed_between bytes at x e
part_between Rest bytes at x e = octets_between (length bytes - at) bytes at x e

-- a part that was read, and the parts behind it
parts_split : (read : NameReader) (part : Part) (parts : List Part) (bytes : List ℕ) (at : ℕ) (x : List ℕ × ℕ)
    → parts_at read (part ∷ parts) bytes at ≡ Ok x
    → (first : List ℕ × ℕ) × (rest : List ℕ × ℕ) × (part_at read part bytes at ≡ Ok first)
    × (parts_at read parts bytes first.1 ≡ Ok rest) × ((first.0 ++ rest.0, rest.1) ≡ x)
unfolding parts_at
parts_split read part parts bytes at x e =
    let f = bind_ok (part_at read part bytes at) (λ first. parts_at read parts bytes first.1 >>= λ rest. Ok (first.0 ++ rest.0, rest.1)) x e in
    let r = bind_ok (parts_at read parts bytes f.0.1) (λ rest. Ok (f.0.0 ++ rest.0, rest.1)) x f.2 in
    (f.0, r.0, f.1, r.1, ok_is (f.0.0 ++ r.0.0, r.0.1) x r.2)

parts_between : (parts : List Part) (bytes : List ℕ) (at : ℕ) (x : List ℕ × ℕ) → parts_at uncompressed_name_at parts bytes at ≡ Ok x
    → Between x.0 bytes at x.1
unfolding parts_at
parts_between [] bytes at x e =
    subst (λ (y : List ℕ × ℕ). Between y.0 bytes at y.1) (ok_is ([], at) x e) (refl, omega arith)
parts_between (part ∷ parts) bytes at x e =
    let s = parts_split uncompressed_name_at part parts bytes at x e in
    let first = part_between part bytes at s.0 s.2 in
    let rest = parts_between parts bytes s.0.1 s.1 s.3 in
    subst (λ (y : List ℕ × ℕ). Between y.0 bytes at y.1) s.4 (between_both s.0.0 s.1.0 bytes at s.0.1 s.1.1 first rest)

-- ---- names that stand whole

no_flaw : (labels : List (List ℕ)) → AreLabels 255 labels → label_fault labels ≡ None
no_flaw labels all = rw (all.some, all.short, le-ltb 255 (wire_len labels) all.fits) refl

uncompressed_reads : (labels : List (List ℕ)) (bytes : List ℕ) (walk : Walk) (steps : ℕ) → AreLabels walk.left labels
    → length labels < steps → Stands (wire_form labels) bytes walk.at
    → labels_at steps bytes walk ≡ Ok (labels, walk.at + length (wire_form labels))
unfolding labels_at
uncompressed_reads [] bytes walk steps fits enough s =
    let k : steps ≡ suc (steps - 1) = omega (arith, enough) in
    rw (k, root_there [] bytes walk.at s) refl
uncompressed_reads (l ∷ ls) bytes walk steps fits enough s =
    let rest = wire_form ls in
    let one = one_less walk.left l ls fits in
    let inner : Stands (l ++ rest) bytes (walk.at + 1) = stands_rest (length l) (l ++ rest) bytes walk.at s in
    let next = behind_label walk (length l) (walk.at + 1 + length l) in
    let more = uncompressed_reads ls bytes next (steps - 1) one.3 (omega (arith, enough)) (stands_behind l rest bytes (walk.at + 1) inner) in
    let end : walk.at + 1 + length l + length rest ≡ walk.at + length (counted l ++ rest) = omega (arith, length-append l rest) in
    label_first l ls rest bytes walk steps (walk.at + 1 + length l + length rest) fits (omega (arith, enough)) s more
    ∙ ap (λ (n : ℕ). Ok (l ∷ ls, n)) end

-- what is read of a name is the whole of some labels, and what is whole is read as it stands
record IsReader (read : NameReader) : Type 0 where
  makes : (bytes : List ℕ) (at : ℕ) (x : List ℕ × ℕ) → read bytes at ≡ Ok x
      → (labels : List (List ℕ)) × (label_fault labels ≡ None) × (x.0 ≡ wire_form labels)
  reads : (labels : List (List ℕ)) (bytes : List ℕ) (at : ℕ) → label_fault labels ≡ None → Stands (wire_form labels) bytes at
      → read bytes at ≡ Ok (wire_form labels, at + length (wire_form labels))

uncompressed_reader : IsReader uncompressed_name_at
unfolding uncompressed_name_at
uncompressed_reader = record {
  makes = λ bytes at x e.
      let l = bind_ok (labels_at 256 bytes (uncompressed_start at)) (λ labels. Ok (wire_form labels.0, labels.1)) x e in (
        l.0.0,
        no_flaw l.0.0 (labels_fit 256 bytes (uncompressed_start at) l.0 (omega arith) l.1),
        sym (ap (λ (y : List ℕ × ℕ). y.0) (ok_is (wire_form l.0.0, l.0.1) x l.2)),
      );
  reads = λ labels bytes at none s.
      let fits = are_labels labels none in
      let few = few_labels 255 labels fits in
      rw (uncompressed_reads labels bytes (uncompressed_start at) 256 fits (omega (arith, few, fits.fits)) s) refl;
}

name_made_of : (bytes : List ℕ) (at : ℕ) (x : NameValue × ℕ) → name_at bytes at ≡ Ok x → label_fault x.0.labels ≡ None
unfolding name_at
name_made_of bytes at x e =
    let named : List (List ℕ) × ℕ → NameValue × ℕ = λ l. (record { labels = l.0; fqdn = true }, l.1) in
    let l = bind_ok (labels_at 256 bytes (name_start at)) (λ labels. Ok (named labels)) x e in
    subst (λ (y : NameValue × ℕ). label_fault y.0.labels ≡ None) (ok_is (named l.0) x l.2)
    (no_flaw l.0.0 (labels_fit 256 bytes (name_start at) l.0 (omega arith) l.1))

whole_reader : IsReader whole_name_at
unfolding whole_name_at
whole_reader = record {
  makes = λ bytes at x e.
      let n = bind_ok (name_at bytes at) (λ name. Ok (wire_form name.0.labels, name.1)) x e in (
        n.0.0.labels,
        name_made_of bytes at n.0 n.1,
        sym (ap (λ (y : List ℕ × ℕ). y.0) (ok_is (wire_form n.0.0.labels, n.0.1) x n.2)),
      );
  reads = λ labels bytes at none s.
      let begins : Begins [] bytes = (bytes, refl) in
      let there = subst (λ (o : List ℕ). Stands o bytes at) (sym (whole_name labels)) s in
      let read = name_spelled [] [] labels tt none bytes at begins (omega arith) there in
      rw read (ap (λ (o : List ℕ). Ok (wire_form labels, at + length o)) (whole_name labels));
}

-- ---- parts that stand

head_is : (xs more rest : List ℕ) (n : ℕ) → xs ++ more ≡ n ∷ rest → 0 < length xs → (ys : List ℕ) × (xs ≡ n ∷ ys)
head_is [] more rest n e some = absurd (omega (arith, some))
head_is (y ∷ ys) more rest n e some =
    let first : y ≡ n = cc in
    (ys, ap (λ (z : ℕ). z ∷ ys) first)

string_again : (bytes : List ℕ) (at : ℕ) (x : List ℕ × ℕ) (others : List ℕ) (there : ℕ) → string_octets_at bytes at ≡ Ok x
    → Stands x.0 others there → string_octets_at others there ≡ Ok (x.0, there + length x.0)
unfolding string_octets_at
string_again bytes at x others there e s =
    let l = bind_ok (octet_at bytes at) (λ len. octets_at (len.0 + 1) bytes at) x e in
    let size : length x.0 ≡ l.0.0 + 1 = octets_len (l.0.0 + 1) bytes at x l.2 in
    let first = octet_between bytes at l.0 l.1 in
    let all = octets_between (l.0.0 + 1) bytes at x l.2 in
    let head = head_is x.0 (drop x.1 bytes) (drop l.0.1 bytes) l.0.0 (sym all.0 ∙ first.0) (omega (arith, size)) in
    let here = subst (λ (o : List ℕ). Stands o others there) head.1 s in
    let octets : octets_at (l.0.0 + 1) others there ≡ Ok (x.0, there + length x.0) =
    subst (λ (n : ℕ). octets_at n others there ≡ Ok (x.0, there + length x.0)) size (octets_there x.0 others there s) in
    rw (octet_there l.0.0 head.0 others there here) octets

part_again : (first second : NameReader) (a : IsReader first) (b : IsReader second) (part : Part) (bytes : List ℕ) (at : ℕ)
    (x : List ℕ × ℕ) (others : List ℕ) (there : ℕ) → part_at first part bytes at ≡ Ok x → Stands x.0 others there
    → (part ≡ Rest → length others ≡ there + length x.0) → part_at second part others there ≡ Ok (x.0, there + length x.0)
unfolding part_at
part_again first second a b (Octets count) bytes at x others there e s end =
    subst (λ (n : ℕ). octets_at n others there ≡ Ok (x.0, there + length x.0)) (octets_len count bytes at x e) (octets_there x.0 others there s)
part_again first second a b String bytes at x others there e s end = string_again bytes at x others there e s
part_again first second a b Name bytes at x others there e s end =
    let m = a.makes bytes at x e in
    let here = subst (λ (o : List ℕ). Stands o others there) m.2 s in
    subst (λ (o : List ℕ). second others there ≡ Ok (o, there + length o)) (sym m.2) (b.reads m.0 others there m.1 here)
part_again first second a b Rest bytes at x others there e s end =
    let size : length x.0 ≡ length others - there = omega (arith, end refl) in
    subst (λ (n : ℕ). octets_at n others there ≡ Ok (x.0, there + length x.0)) size (octets_there x.0 others there s)

-- the rest is the last part
abbrev RestIsLast : List Part → Type 0
RestIsLast [] = Unit {0}
RestIsLast (part ∷ parts) = (part ≡ Rest → parts ≡ []) × RestIsLast parts

nothing : (read : NameReader) (parts : List Part) (bytes : List ℕ) (at : ℕ) (x : List ℕ × ℕ) → parts ≡ []
    → parts_at read parts bytes at ≡ Ok x → x.0 ≡ []
unfolding parts_at
nothing read [] bytes at x none e = sym (ap (λ (y : List ℕ × ℕ). y.0) (ok_is ([], at) x e))
nothing read (part ∷ parts) bytes at x none e = absurd cc

parts_again : (first second : NameReader) (a : IsReader first) (b : IsReader second) (parts : List Part) (bytes : List ℕ) (at : ℕ)
    (x : List ℕ × ℕ) (others : List ℕ) (there : ℕ) → RestIsLast parts → parts_at first parts bytes at ≡ Ok x
    → Stands x.0 others there → length others ≡ there + length x.0
    → parts_at second parts others there ≡ Ok (x.0, there + length x.0)
unfolding parts_at
parts_again first second a b [] bytes at x others there last e s end =
    let none : [] ≡ x.0 = ap (λ (y : List ℕ × ℕ). y.0) (ok_is ([], at) x e) in
    let here : there ≡ there + length x.0 = omega (arith, ap length none) in
    ap (λ (o : List ℕ). Ok (o, there)) none ∙ ap (λ (n : ℕ). Ok (x.0, n)) here
parts_again first second a b (part ∷ parts) bytes at x others there last e s end =
    let p = parts_split first part parts bytes at x e in
    let whole : p.0.0 ++ p.1.0 ≡ x.0 = ap (λ (y : List ℕ × ℕ). y.0) p.4 in
    let size = length-append p.0.0 p.1.0 in
    let both : Stands (p.0.0 ++ p.1.0) others there = subst (λ (o : List ℕ). Stands o others there) (sym whole) s in
    let full : length others ≡ there + length p.0.0 + length p.1.0 = omega (arith, end, ap length whole, size) in
    let one =
    part_again first second a b part bytes at p.0 others there p.2 (stands_front p.0.0 p.1.0 others there both)
    (λ rest. omega (arith, full, ap length (nothing first parts bytes p.0.1 p.1 (last.0 rest) p.3))) in
    let more =
    parts_again first second a b parts bytes p.0.1 p.1 others (there + length p.0.0) last.1 p.3
    (stands_behind p.0.0 p.1.0 others there both) full in
    let place : there + length p.0.0 + length p.1.0 ≡ there + length (p.0.0 ++ p.1.0) = omega (arith, size) in
    rw (one, more, place) (ap (λ (o : List ℕ). Ok (o, there + length o)) whole)

-- ---- the parts of a type

either : {A : Type 0} (P : A → Type 0) (b : Bool) (x y : A) → P x → P y → P (cond b x y)
either P true x y p q = p
either P false x y p q = q

rest_last : (code : ℕ) → RestIsLast (parts_of code)
rest_last code =
    let one : RestIsLast (Name ∷ []) = (λ e. refl, tt) in
    let rest : RestIsLast (Rest ∷ []) = (λ e. refl, tt) in
    let two : RestIsLast (Name ∷ Name ∷ []) = (λ e. absurd cc, one) in
    let behind : RestIsLast (Octets 2 ∷ Name ∷ []) = (λ e. absurd cc, one) in
    let px : RestIsLast (Octets 2 ∷ Name ∷ Name ∷ []) = (λ e. absurd cc, two) in
    let nxt : RestIsLast (Name ∷ Rest ∷ []) = (λ e. absurd cc, rest) in
    let sig : RestIsLast (Octets 18 ∷ Name ∷ Rest ∷ []) = (λ e. absurd cc, nxt) in
    let third : RestIsLast (String ∷ Name ∷ []) = (λ e. absurd cc, one) in
    let second : RestIsLast (String ∷ String ∷ Name ∷ []) = (λ e. absurd cc, third) in
    let first : RestIsLast (String ∷ String ∷ String ∷ Name ∷ []) = (λ e. absurd cc, second) in
    let naptr : RestIsLast (Octets 4 ∷ String ∷ String ∷ String ∷ Name ∷ []) = (λ e. absurd cc, first) in
    either RestIsLast (is_among (3 ∷ 4 ∷ 7 ∷ 8 ∷ 9 ∷ []) code) _ _ one (
    either RestIsLast (is_among (14 ∷ 17 ∷ []) code) _ _ two (
    either RestIsLast (is_among (18 ∷ 21 ∷ []) code) _ _ behind (
    either RestIsLast (eqb code 26) _ _ px (
    either RestIsLast (eqb code 24) _ _ sig (
    either RestIsLast (eqb code 30) _ _ nxt (
    either RestIsLast (eqb code 35) _ _ naptr rest))))))

all_stand : (octets : List ℕ) → Stands octets octets 0
all_stand octets = ([], [], sym (append-nil octets), refl)

-- ---- what is spelled out

read_is : (octets : List ℕ) (read : Result (List ℕ × ℕ) WireFault) → gives_octets octets read ≡ true
    → (x : List ℕ × ℕ) × (read ≡ Ok x) × (x.0 ≡ octets)
read_is octets (Ok x) e = (x, refl, (bytes_decides x.0 octets).0 e)
read_is octets (Err f) e = absurd cc

-- such octets are read as themselves wherever they stand and end the data
pub data_again : (code : ℕ) (octets : List ℕ) → is_spelled_out code octets ≡ true → (bytes : List ℕ) (at : ℕ) → Stands octets bytes at
    → length bytes ≡ at + length octets → parts_at whole_name_at (parts_of code) bytes at ≡ Ok (octets, at + length octets)
data_again code octets spelled bytes at s end =
    let x = read_is octets (parts_at whole_name_at (parts_of code) octets 0) spelled in
    subst (λ (o : List ℕ). Stands o bytes at → length bytes ≡ at + length o → parts_at whole_name_at (parts_of code) bytes at ≡ Ok (o, at + length o))
    x.2
    (parts_again whole_name_at whole_name_at whole_reader whole_reader (parts_of code) octets 0 x.0 bytes at (rest_last code) x.1) s end

gives_it : (octets : List ℕ) (n : ℕ) (read : Result (List ℕ × ℕ) WireFault) → read ≡ Ok (octets, n) → gives_octets octets read ≡ true
gives_it octets n read e =
    ap (λ (r : Result (List ℕ × ℕ) WireFault). gives_octets octets r) e ∙ (bytes_decides octets octets).1 refl

-- what was read is so
pub read_spelled_out : (code : ℕ) (bytes : List ℕ) (at : ℕ) (x : List ℕ × ℕ) → parts_at whole_name_at (parts_of code) bytes at ≡ Ok x
    → is_spelled_out code x.0 ≡ true
read_spelled_out code bytes at x e =
    gives_it x.0 (0 + length x.0) _
    (parts_again whole_name_at whole_name_at whole_reader whole_reader (parts_of code) bytes at x x.0 0 (rest_last code) e (all_stand x.0) (omega arith))

-- ---- the octets are so where the parts, with no pointer, end with them

end_is : (read : Result (List ℕ × ℕ) WireFault) (end : ℕ) → end_of read ≡ Some end → (x : List ℕ × ℕ) × (read ≡ Ok x) × (x.1 ≡ end)
end_is (Ok x) end e = let same : x.1 ≡ end = cc in (x, refl, same)
end_is (Err f) end e = absurd cc

uncompressed_spelled : (code : ℕ) (octets : List ℕ) → end_of (parts_at uncompressed_name_at (parts_of code) octets 0) ≡ Some (length octets)
    → is_spelled_out code octets ≡ true
uncompressed_spelled code octets e =
    let x = end_is (parts_at uncompressed_name_at (parts_of code) octets 0) (length octets) e in
    let b = parts_between (parts_of code) octets 0 x.0 x.1 in
    let left : drop x.0.1 octets ≡ [] = drop_all x.0.1 octets (omega (arith, x.2)) in
    let same : octets ≡ x.0.0 = b.0 ∙ ap (λ (o : List ℕ). x.0.0 ++ o) left ∙ append-nil x.0.0 in
    let here : Stands x.0.0 octets 0 = subst (λ (o : List ℕ). Stands o octets 0) same (all_stand octets) in
    let again =
    parts_again uncompressed_name_at whole_name_at uncompressed_reader whole_reader (parts_of code) octets 0 x.0 octets 0 (rest_last code) x.1 here
    (omega (arith, ap length same)) in
    gives_it octets (0 + length x.0.0) _ (again ∙ ap (λ (o : List ℕ). Ok (o, 0 + length x.0.0)) (sym same))

spelled_uncompressed : (code : ℕ) (octets : List ℕ) → is_spelled_out code octets ≡ true
    → end_of (parts_at uncompressed_name_at (parts_of code) octets 0) ≡ Some (length octets)
spelled_uncompressed code octets e =
    let x = read_is octets (parts_at whole_name_at (parts_of code) octets 0) e in
    let here : Stands x.0.0 octets 0 = subst (λ (o : List ℕ). Stands o octets 0) (sym x.2) (all_stand octets) in
    let again =
    parts_again whole_name_at uncompressed_name_at whole_reader uncompressed_reader (parts_of code) octets 0 x.0 octets 0 (rest_last code) x.1 here
    (omega (arith, ap length x.2)) in
    let end : 0 + length x.0.0 ≡ length octets = omega (arith, ap length x.2) in
    ap (λ (r : Result (List ℕ × ℕ) WireFault). end_of r) again ∙ ap (λ (n : ℕ). Some n) end

same_test : (a b : Bool) → (a ≡ true → b ≡ true) → (b ≡ true → a ≡ true) → a ≡ b
same_test true b f g = sym (f refl)
same_test false true f g = g refl
same_test false false f g = refl

some_is : (n m : ℕ) → Some n ≡ Some m → n ≡ m
some_is n m e = cc

pub end_spelled : (code : ℕ) (octets : List ℕ) (end : ℕ) → end_of (parts_at uncompressed_name_at (parts_of code) octets 0) ≡ Some end
    → nat_eq end (length octets) ≡ is_spelled_out code octets
end_spelled code octets end e =
    same_test (nat_eq end (length octets)) (is_spelled_out code octets)
    (λ t. uncompressed_spelled code octets (e ∙ ap (λ (n : ℕ). Some n) (eqb-true end (length octets) t)))
    (λ t. eq-eqb end (length octets) (some_is end (length octets) (sym e ∙ spelled_uncompressed code octets t)))

pub not_spelled : (code : ℕ) (octets : List ℕ) → end_of (parts_at uncompressed_name_at (parts_of code) octets 0) ≡ None
    → is_spelled_out code octets ≡ false
not_spelled code octets e =
    same_test (is_spelled_out code octets) false (λ t. let h : Some (length octets) ≡ None = sym (spelled_uncompressed code octets t) ∙ e in absurd cc)
    (λ t. absurd cc)
