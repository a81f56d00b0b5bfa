-- Names that were written are read again, and so is what stands at each place that is kept.
use Rattle.std.proofs.Common.{◌≡◌, ℕ, zero, suc, ◌-◌, ◌+◌, ◌*◌, ◌≤◌, ◌<◌, Bool, true, false, cond, ltb, ◌&&◌, List, [], ◌∷◌, ◌++◌, length, Ok, refl, sym, ap, subst, ◌∙◌, append_assoc, length-append, arith}
use Rattle.std.proofs.lemmas.Bool.{le-ltb, lt-ltb, ltb-true, ne_eqb}
use Rattle.std.specs.Prelude.{Option, None, Some}
use Rattle.std.specs.List.{AllByRecursion}
use Rattle.std.specs.Cmp.Lexicographic.{pointwise_decides, bytes_decides}
use Rattle.std.proofs.lemmas.List.Sums.{sum_by-cons}
use Rattle.hickory_proto_names.specs.Name.{label_fault, wire_len, wire_form}
use Rattle.hickory_proto_wire.specs.declared.wire_name.Walk.{Walk}
use Rattle.hickory_proto_wire.specs.Names.{labels_at, behind_label, name_start, name_at}
use Rattle.hickory_proto_wire.specs.Writing.{Begins, Stands, Spells, counted}
use Rattle.hickory_proto_wire.specs.Place.{PlaceValue}
use Rattle.hickory_proto_wire.specs.Written.{are_same, place_of, pointed_or, name_octets, zero_if_some, whole_count, noted}
use Rattle.hickory_proto_wire.proofs.Fits.{AreLabels}
use Rattle.hickory_proto_wire.proofs.Stands.{stands_front, stands_behind, stands_rest, octets_there, begins_more}
use Rattle.hickory_proto_wire.proofs.Runs.{root_there, label_there, pointer_there, one_less, are_labels}

-- ---- what stands at a place

-- Its labels are read there, in all bytes that begin with the known ones, by the reader that has room for them.
pub record NameStands (known : List ℕ) (p : PlaceValue) : Type 0 where
  pub small : p.at < 16384
  pub before : p.at < length known
  pub reads : (bytes : List ℕ) (steps left jumps : ℕ) → Begins known bytes → AreLabels left p.labels
      → 2 * length p.labels < steps → length p.labels ≤ jumps
      → (end : ℕ) × (labels_at steps bytes (record { start = p.at; at = p.at; left = left; jumps = jumps })
      ≡ Ok (p.labels, end))

abbrev pub AllStand : List ℕ → List PlaceValue → Type 0
AllStand known places = AllByRecursion (NameStands known) places

abbrev pub place : List (List ℕ) → ℕ → PlaceValue
place labels at = record { labels = labels; at = at }

some_is : (a b : ℕ) → Some a ≡ Some b → a ≡ b
some_is a b e = cc

place_found : (known : List ℕ) (places : List PlaceValue) (labels : List (List ℕ)) (at : ℕ) → AllStand known places
    → place_of places labels ≡ Some at → NameStands known (place labels at)
place_found known [] labels at all e = absurd cc
place_found known (p ∷ ps) labels at all e =
    choose (are_same p.labels labels) refl e (λ f. place_found known ps labels at all.1 f)
  where
    choose : (b : Bool) → are_same p.labels labels ≡ b → cond b (Some p.at) (place_of ps labels) ≡ Some at
        → (place_of ps labels ≡ Some at → NameStands known (place labels at)) → NameStands known (place labels at)
    choose true same f others =
        let labels_are : p.labels ≡ labels = (pointwise_decides bytes_decides p.labels labels).0 same in
        let at_is : p.at ≡ at = some_is p.at at f in
        subst (λ (n : ℕ). NameStands known (place labels n)) at_is
        (subst (λ (ls : List (List ℕ)). NameStands known (place ls p.at)) labels_are all.0)
    choose false same f others = others f

-- ---- a name is read

-- its first label, and the others behind it
pub label_first : (l : List ℕ) (ls : List (List ℕ)) (tail bytes : List ℕ) (walk : Walk) (steps end : ℕ)
    → AreLabels walk.left (l ∷ ls) → 0 < steps → Stands (counted l ++ tail) bytes walk.at
    → labels_at (steps - 1) bytes (behind_label walk (length l) (walk.at + 1 + length l)) ≡ Ok (ls, end)
    → labels_at steps bytes walk ≡ Ok (l ∷ ls, end)
unfolding labels_at
label_first l ls tail bytes walk steps end fits some s more =
    let k : steps ≡ suc (steps - 1) = omega (arith, some) in
    let one = one_less walk.left l ls fits in
    let inner : Stands (l ++ tail) bytes (walk.at + 1) = stands_rest (length l) (l ++ tail) bytes walk.at s in
    rw (
      k,
      label_there (length l) (l ++ tail) bytes walk.at one.0 one.1 s,
      le-ltb walk.left (length l + 2) one.2,
      octets_there l bytes (walk.at + 1) (stands_front l tail bytes (walk.at + 1) inner),
      more,
    )
    refl

pub name_reads : (places : List PlaceValue) (labels : List (List ℕ)) (known bytes : List ℕ) (walk : Walk) (steps : ℕ)
    → AllStand known places → Begins known bytes → AreLabels walk.left labels → 2 * length labels + 1 < steps
    → length labels < walk.jumps → length known ≤ walk.start → Stands (name_octets places labels) bytes walk.at
    → labels_at steps bytes walk ≡ Ok (labels, walk.at + length (name_octets places labels))
unfolding labels_at
name_reads places [] known bytes walk steps all b fits enough jumps before s =
    let k : steps ≡ suc (steps - 1) = omega (arith, enough) in
    rw (k, root_there [] bytes walk.at s) refl
name_reads places (l ∷ ls) known bytes walk steps all b fits enough jumps before s =
    by_place (place_of places (l ∷ ls)) refl s
    (λ w k fit many more le t. name_reads places ls known bytes w k all b fit many more le t)
  where
    Rest : Type 0
    Rest =
        (w : Walk) (k : ℕ) → AreLabels w.left ls → 2 * length ls + 1 < k → length ls < w.jumps → length known ≤ w.start
        → Stands (name_octets places ls) bytes w.at
        → labels_at k bytes w ≡ Ok (ls, w.at + length (name_octets places ls))

    by_place : (found : Option ℕ) → place_of places (l ∷ ls) ≡ found
        → Stands (pointed_or found (counted l ++ name_octets places ls)) bytes walk.at → Rest
        → labels_at steps bytes walk
        ≡ Ok (l ∷ ls, walk.at + length (pointed_or found (counted l ++ name_octets places ls)))
    by_place (Some at) e t others =
        let there = place_found known places (l ∷ ls) at all e in
        let k : steps ≡ suc (steps - 1) = omega (arith, enough) in
        let read = there.reads bytes (steps - 1) walk.left (walk.jumps - 1) b fits (omega (arith, enough)) (omega (arith, jumps)) in
        let back : at < walk.start = omega (arith, before, there.before) in
        let behind : walk.at + 1 + 1 ≡ walk.at + 2 = omega arith in
        rw (
          k,
          pointer_there at bytes walk.at there.small t,
          ne_eqb walk.jumps 0 (λ z. omega (arith, jumps, z)),
          lt-ltb at walk.start back,
          read.1,
          behind,
        )
        refl
    by_place None e t others =
        let rest = name_octets places ls in
        let one = one_less walk.left l ls fits in
        let inner : Stands (l ++ rest) bytes (walk.at + 1) = stands_rest (length l) (l ++ rest) bytes walk.at t in
        let more = others (behind_label walk (length l) (walk.at + 1 + length l)) (steps - 1) one.3 (omega (arith, enough)) (omega (arith, jumps)) before (stands_behind l rest bytes (walk.at + 1) inner) in
        let end : walk.at + 1 + length l + length rest ≡ walk.at + length (counted l ++ rest) = omega (arith, length-append l rest) in
        label_first l ls rest bytes walk steps (walk.at + 1 + length l + length rest) fits (omega (arith, enough)) t more
        ∙ ap (λ (n : ℕ). Ok (l ∷ ls, n)) end

pub few_labels : (left : ℕ) (labels : List (List ℕ)) → AreLabels left labels → 2 * length labels + 1 ≤ wire_len labels
few_labels left [] fits = omega arith
few_labels left (l ∷ ls) fits =
    let one = one_less left l ls fits in
    omega (arith, one.0, few_labels (left - (length l + 1)) ls one.3, sum_by-cons (λ (x : List ℕ). length x + 1) l ls)

pub name_spelled : (known : List ℕ) (places : List PlaceValue) (labels : List (List ℕ)) → AllStand known places
    → label_fault labels ≡ None → Spells name_at known (name_octets places labels) (record { labels = labels; fqdn = true })
unfolding name_at
name_spelled known places labels all none bytes at b le s =
    let fits = are_labels labels none in
    let few = few_labels 255 labels fits in
    let read = name_reads places labels known bytes (name_start at) 256 all b fits (omega (arith, few, fits.fits)) (omega (arith, few, fits.fits)) le s in
    rw read refl

-- ---- what is kept of it

all_push : {A : Type 0} (P : A → Type 0) (xs : List A) (x : A) → AllByRecursion P xs → P x → AllByRecursion P (xs ++ x ∷ [])
all_push P [] x all p = (p, tt)
all_push P (y ∷ ys) x all p = (all.0, all_push P ys x all.1 p)

pub all_still : (known new rest : List ℕ) (places : List PlaceValue) → new ≡ known ++ rest → AllStand known places
    → AllStand new places
all_still known new rest [] e all = tt
all_still known new rest (p ∷ ps) e all = (
  record {
    small = all.0.small;
    before = omega (arith, all.0.before, ap length e, length-append known rest);
    reads = λ bytes steps left jumps b. all.0.reads bytes steps left jumps (begins_more known new rest bytes e b);
  },
  all_still known new rest ps e all.1,
)

and_first : (a b : Bool) → (a && b) ≡ true → a ≡ true
and_first true b e = refl
and_first false b e = e

noted_place : (places : List PlaceValue) (at left : ℕ) (l : List ℕ) (ls : List (List ℕ)) (known new pre post rest : List ℕ)
    → AllStand known places → new ≡ known ++ rest → length known ≤ at
    → new ≡ pre ++ ((counted l ++ name_octets places ls) ++ post) → length pre ≡ at → at < 16384
    → NameStands new (place (l ∷ ls) at)
noted_place places at left l ls known new pre post rest all begins le f here small = record {
  small = small;
  before =
      omega (
        arith,
        here,
        ap length f,
        length-append pre ((counted l ++ name_octets places ls) ++ post),
        length-append (counted l ++ name_octets places ls) post,
      );
  reads = λ bytes steps room jumps b enough_room enough some.
      let tail = name_octets places ls in
      let s : Stands (counted l ++ tail) bytes at = (
        pre,
        post ++ b.0,
        b.1 ∙ ap (λ (x : List ℕ). x ++ b.0) f ∙ append_assoc pre ((counted l ++ tail) ++ post) b.0
            ∙ ap (λ (x : List ℕ). pre ++ x) (append_assoc (counted l ++ tail) post b.0),
        here,
      ) in
      let walk : Walk = record { start = at; at = at; left = room; jumps = jumps } in
      let fewer = one_less room l ls enough_room in
      let inner : Stands (l ++ tail) bytes (at + 1) = stands_rest (length l) (l ++ tail) bytes at s in
      let read =
      name_reads places ls known bytes (behind_label walk (length l) (at + 1 + length l)) (steps - 1) all
      (begins_more known new rest bytes begins b) fewer.3 (omega (arith, enough)) (omega (arith, some)) le
      (stands_behind l tail bytes (at + 1) inner) in (
        at + 1 + length l + length tail,
        label_first l ls tail bytes walk steps (at + 1 + length l + length tail) enough_room (omega (arith, enough)) s read,
      );
}

-- what is kept of the rest of a name that begins at a position
abbrev NotedStand : List PlaceValue → List (List ℕ) → List ℕ → List ℕ → Type 0
NotedStand places labels known new =
    (kept : List PlaceValue) (n at left : ℕ) (pre post : List ℕ) → AllStand new kept → length known ≤ at
    → n ≡ whole_count places labels → AreLabels left labels → new ≡ pre ++ (name_octets places labels ++ post)
    → length pre ≡ at → AllStand new (noted kept n at labels)

noted_choose : (places kept : List PlaceValue) (n at left : ℕ) (l : List ℕ) (ls : List (List ℕ)) (known new pre post rest : List ℕ)
    → AllStand known places → AllStand new kept → new ≡ known ++ rest → length known ≤ at → AreLabels left (l ∷ ls)
    → length pre ≡ at → NotedStand places ls known new → (t : Bool) → (ltb at 16384 && ltb (length kept) 64) ≡ t
    → n ≡ whole_count places ls → new ≡ pre ++ ((counted l ++ name_octets places ls) ++ post)
    → AllStand new (cond t (noted (kept ++ place (l ∷ ls) at ∷ []) n (at + (length l + 1)) ls) kept)
noted_choose places kept n at left l ls known new pre post rest all more begins le fits here again false t k f = more
noted_choose places kept n at left l ls known new pre post rest all more begins le fits here again true t k f =
    let small : at < 16384 = ltb-true at 16384 (and_first (ltb at 16384) (ltb (length kept) 64) t) in
    let tail = name_octets places ls in
    let split : new ≡ (pre ++ counted l) ++ (tail ++ post) =
    f ∙ ap (λ (x : List ℕ). pre ++ x) (append_assoc (counted l) tail post) ∙ sym (append_assoc pre (counted l) (tail ++ post)) in
    let there : length (pre ++ counted l) ≡ at + (length l + 1) = omega (arith, here, length-append pre (counted l)) in
    let one = one_less left l ls fits in
    again (kept ++ place (l ∷ ls) at ∷ []) n (at + (length l + 1)) (left - (length l + 1)) (pre ++ counted l) post
    (all_push (NameStands new) kept (place (l ∷ ls) at) more (noted_place places at left l ls known new pre post rest all begins le f here small))
    (omega (arith, le)) k one.3 split there

noted_by_place : (places kept : List PlaceValue) (n at left : ℕ) (l : List ℕ) (ls : List (List ℕ)) (known new pre post rest : List ℕ)
    → AllStand known places → AllStand new kept → new ≡ known ++ rest → length known ≤ at → AreLabels left (l ∷ ls)
    → length pre ≡ at → NotedStand places ls known new → (found : Option ℕ)
    → suc n ≡ zero_if_some found (suc (whole_count places ls))
    → new ≡ pre ++ (pointed_or found (counted l ++ name_octets places ls) ++ post)
    → AllStand new (noted kept (suc n) at (l ∷ ls))
noted_by_place places kept n at left l ls known new pre post rest all more begins le fits here again (Some t) k f =
    absurd (omega (arith, k))
noted_by_place places kept n at left l ls known new pre post rest all more begins le fits here again None k f =
    noted_choose places kept n at left l ls known new pre post rest all more begins le fits here again
    (ltb at 16384 && ltb (length kept) 64) refl (omega (arith, k)) f

pub noted_stand : (places : List PlaceValue) (labels : List (List ℕ)) (known new rest : List ℕ) → AllStand known places
    → new ≡ known ++ rest → NotedStand places labels known new
noted_stand places [] known new rest all begins kept zero at left pre post more le count fits e here = more
noted_stand places [] known new rest all begins kept (suc n) at left pre post more le count fits e here = more
noted_stand places (l ∷ ls) known new rest all begins kept zero at left pre post more le count fits e here = more
noted_stand places (l ∷ ls) known new rest all begins kept (suc n) at left pre post more le count fits e here =
    noted_by_place places kept n at left l ls known new pre post rest all more begins le fits here
    (noted_stand places ls known new rest all begins) (place_of places (l ∷ ls)) count e

-- ---- a name with all of its labels

pub whole_name : (labels : List (List ℕ)) → name_octets [] labels ≡ wire_form labels
whole_name [] = refl
whole_name (l ∷ ls) = ap (λ (x : List ℕ). counted l ++ x) (whole_name ls)

-- a name takes no more octets than with all of its labels
pub name_short : (places : List PlaceValue) (labels : List (List ℕ)) → length (name_octets places labels) ≤ wire_len labels
name_short places [] = omega arith
name_short places (l ∷ ls) = by_place (place_of places (l ∷ ls)) (name_short places ls)
  where
    by_place : (found : Option ℕ) → length (name_octets places ls) ≤ wire_len ls
        → length (pointed_or found (counted l ++ name_octets places ls)) ≤ wire_len (l ∷ ls)
    by_place (Some at) less = omega (arith, sum_by-cons (λ (x : List ℕ). length x + 1) l ls)
    by_place None less =
        omega (arith, less, length-append l (name_octets places ls), sum_by-cons (λ (x : List ℕ). length x + 1) l ls)

pub few_whole : (places : List PlaceValue) (labels : List (List ℕ)) → whole_count places labels ≤ length labels
few_whole places [] = omega arith
few_whole places (l ∷ ls) = by_place (place_of places (l ∷ ls)) (few_whole places ls)
  where
    by_place : (found : Option ℕ) → whole_count places ls ≤ length ls → zero_if_some found (suc (whole_count places ls)) ≤ suc (length ls)
    by_place (Some at) less = omega arith
    by_place None less = omega (arith, less)
