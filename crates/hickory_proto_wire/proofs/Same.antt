-- Labels as vectors, compared label by label; places and names, one step of a loop on.
use Rattle.std.proofs.Common.{◌≡◌, ℕ, suc, ◌+◌, ◌-◌, ◌<◌, ◌≤◌, Bool, true, false, cond, ltb, ◌&&◌, List, [], ◌∷◌, ◌++◌, length, get_or, take, drop, nat_eq, refl, sym, ap, ap₂, ◌∙◌, arith, drop-cons, add-one}
use Rattle.std.specs.Prelude.{None, Some}
use Rattle.std.specs.Cmp.Lexicographic.{pointwise}
use Rattle.std.specs.Global.{Vec}
use Rattle.std.proofs.lemmas.Bool.{lt-ltb, le-ltb}
use Rattle.std.proofs.lemmas.List.{drop_all, drop_more, at_drop_more, get_or-map, length-map, take_rest, drop-map}
use Rattle.hickory_proto_names.specs.Name.{label_bytes}
use Rattle.hickory_proto_wire.specs.Writing.{counted, pointer_octets}
use Rattle.hickory_proto_wire.specs.Place.{PlaceValue}
use Rattle.hickory_proto_wire.specs.Written.{are_same, place_of, pointed_or, name_octets, zero_if_some, whole_count, noted}

abbrev pub same_label : Vec ℕ → Vec ℕ → Bool
same_label v w = pointwise nat_eq v.items w.items

are_same-bytes : (vs ws : List (Vec ℕ)) → are_same (label_bytes vs) (label_bytes ws) ≡ pointwise same_label vs ws
are_same-bytes [] [] = refl
are_same-bytes [] (w ∷ ws) = refl
are_same-bytes (v ∷ vs) [] = refl
are_same-bytes (v ∷ vs) (w ∷ ws) = ap (λ b. pointwise nat_eq v.items w.items && b) (are_same-bytes vs ws)

pointwise-drop : (vs ws : List (Vec ℕ)) (i : ℕ) (d e : Vec ℕ) → i < length vs → i < length ws
    → pointwise same_label (drop i vs) (drop i ws)
    ≡ (same_label (get_or vs i d) (get_or ws i e) && pointwise same_label (drop (i + 1) vs) (drop (i + 1) ws))
pointwise-drop vs ws i d e h k = rw (add-one, drop-cons vs i d h, drop-cons ws i e k) refl

-- two labels that differ, found after equal ones
pub labels_differ : (vs ws : List (Vec ℕ)) (i : ℕ) (v w : Vec ℕ)
    → (length vs ≡ length ws) × (pointwise same_label (drop i vs) (drop i ws) ≡ pointwise same_label vs ws) → i < length vs
    → v ≡ get_or vs i v → w ≡ get_or ws i w → false ≡ same_label v w → false ≡ are_same (label_bytes vs) (label_bytes ws)
labels_differ vs ws i v w so_far h p q e =
    let here : same_label (get_or vs i v) (get_or ws i w) ≡ false = ap₂ same_label (sym p) (sym q) ∙ sym e in
    sym (are_same-bytes vs ws ∙ sym so_far.1 ∙ pointwise-drop vs ws i v w h (omega (arith, h, so_far.0))
    ∙ ap (λ b. b && pointwise same_label (drop (i + 1) vs) (drop (i + 1) ws)) here)

pub labels_same : (vs ws : List (Vec ℕ)) (i : ℕ)
    → (length vs ≡ length ws) × (pointwise same_label (drop i vs) (drop i ws) ≡ pointwise same_label vs ws) → length vs ≤ i
    → true ≡ are_same (label_bytes vs) (label_bytes ws)
labels_same vs ws i so_far h =
    sym (are_same-bytes vs ws ∙ sym so_far.1 ∙ ap₂ (pointwise same_label) (drop_all i vs h) (drop_all i ws (omega (arith, h, so_far.0))))

-- ---- places

pub place_next : (places : List PlaceValue) (i : ℕ) (p d : PlaceValue) (labels : List (List ℕ)) → i < length places
    → p ≡ get_or places i d → are_same p.labels labels ≡ false
    → place_of (drop (i + 1) places) labels ≡ place_of (drop i places) labels
place_next places i p d labels lt is other =
    let there : are_same (get_or places i d).labels labels ≡ false =
    ap (λ (x : PlaceValue). are_same x.labels labels) (sym is) ∙ other in
    sym (at_drop_more (λ ps. place_of ps labels) places i d lt
    ∙ ap (λ b. cond b (Some (get_or places i d).at) (place_of (drop (i + 1) places) labels)) there)

pub place_here : (places : List PlaceValue) (i : ℕ) (p d : PlaceValue) (labels : List (List ℕ)) → i < length places
    → p ≡ get_or places i d → are_same p.labels labels ≡ true → Some p.at ≡ place_of (drop i places) labels
place_here places i p d labels lt is same =
    let there : are_same (get_or places i d).labels labels ≡ true =
    ap (λ (x : PlaceValue). are_same x.labels labels) (sym is) ∙ same in
    sym (at_drop_more (λ ps. place_of ps labels) places i d lt
    ∙ ap (λ b. cond b (Some (get_or places i d).at) (place_of (drop (i + 1) places) labels)) there
    ∙ ap (λ (x : PlaceValue). Some x.at) (sym is))

pub place_none : (places : List PlaceValue) (i : ℕ) (labels : List (List ℕ)) → length places ≤ i
    → None ≡ place_of (drop i places) labels
place_none places i labels le = ap (λ ps. place_of ps labels) (sym (drop_all i places le))

-- ---- labels of vectors, from one of them on

pub labels_rest : (ls : List (Vec ℕ)) (i : ℕ) → label_bytes (take (length ls - i) (drop i ls)) ≡ drop i (label_bytes ls)
labels_rest ls i = ap label_bytes (take_rest ls i) ∙ sym (drop-map (λ (x : Vec ℕ). x.items) i ls)

pub labels_first : (ls : List (Vec ℕ)) (i : ℕ) (v : Vec ℕ) → i < length ls → v ≡ get_or ls i v
    → drop i (label_bytes ls) ≡ v.items ∷ drop (i + 1) (label_bytes ls)
labels_first ls i v lt is =
    let inside : i < length (label_bytes ls) = omega (arith, lt, length-map ls (λ (x : Vec ℕ). x.items)) in
    let value : get_or (label_bytes ls) i v.items ≡ v.items =
    get_or-map (λ (x : Vec ℕ). x.items) ls i v v.items lt ∙ ap (λ (x : Vec ℕ). x.items) (sym is) in
    drop_more (label_bytes ls) i v.items inside ∙ ap (λ (x : List ℕ). x ∷ drop (i + 1) (label_bytes ls)) value

pub labels_some : (ls : List (Vec ℕ)) (i : ℕ) → i < length ls
    → drop i (label_bytes ls) ≡ get_or (label_bytes ls) i [] ∷ drop (i + 1) (label_bytes ls)
labels_some ls i lt = drop_more (label_bytes ls) i [] (omega (arith, lt, length-map ls (λ (x : Vec ℕ). x.items)))

pub labels_end : (ls : List (Vec ℕ)) (i : ℕ) → length ls ≤ i → drop i (label_bytes ls) ≡ []
labels_end ls i le = drop_all i (label_bytes ls) (omega (arith, le, length-map ls (λ (x : Vec ℕ). x.items)))

-- one label more, where the name does not go on as another
pub name_next : (places : List PlaceValue) (rest more : List (List ℕ)) (l : List ℕ) → rest ≡ l ∷ more
    → place_of places rest ≡ None
    → (name_octets places rest ≡ counted l ++ name_octets places more) × (whole_count places rest ≡ suc (whole_count places more))
name_next places rest more l is none =
    let there : place_of places (l ∷ more) ≡ None = ap (λ ls. place_of places ls) (sym is) ∙ none in (
      ap (λ ls. name_octets places ls) is ∙ ap (λ o. pointed_or o (counted l ++ name_octets places more)) there,
      ap (λ ls. whole_count places ls) is ∙ ap (λ o. zero_if_some o (suc (whole_count places more))) there,
    )

-- a name that goes on as another
pub name_pointed : (places : List PlaceValue) (rest more : List (List ℕ)) (l : List ℕ) (at : ℕ) → rest ≡ l ∷ more
    → place_of places rest ≡ Some at
    → (name_octets places rest ≡ pointer_octets at) × (whole_count places rest ≡ 0)
name_pointed places rest more l at is some =
    let there : place_of places (l ∷ more) ≡ Some at = ap (λ ls. place_of places ls) (sym is) ∙ some in (
      ap (λ ls. name_octets places ls) is ∙ ap (λ o. pointed_or o (counted l ++ name_octets places more)) there,
      ap (λ ls. whole_count places ls) is ∙ ap (λ o. zero_if_some o (suc (whole_count places more))) there,
    )

-- ---- places that are kept

and_true : (a b : Bool) → a ≡ true → b ≡ true → (a && b) ≡ true
and_true true b e f = f
and_true false b e f = absurd cc

not_first : (a b : Bool) → a ≡ false → (a && b) ≡ false
not_first true b e = absurd cc
not_first false b e = refl

not_second : (a b : Bool) → b ≡ false → (a && b) ≡ false
not_second true b e = e
not_second false b e = refl

pub noted_next : (kept : List PlaceValue) (n m at : ℕ) (rest more : List (List ℕ)) (l : List ℕ) → n ≡ suc m → rest ≡ l ∷ more
    → at < 16384 → length kept < 64
    → noted kept n at rest ≡ noted (kept ++ (record { labels = rest; at = at }) ∷ []) m (at + (length l + 1)) more
noted_next kept n m at rest more l k is small few =
    let test : (ltb at 16384 && ltb (length kept) 64) ≡ true =
    and_true (ltb at 16384) (ltb (length kept) 64) (lt-ltb at 16384 small) (lt-ltb (length kept) 64 few) in
    ap₂ (λ (x : ℕ) (ls : List (List ℕ)). noted kept x at ls) k is
    ∙ ap (λ b. cond b (noted (kept ++ (record { labels = l ∷ more; at = at }) ∷ []) m (at + (length l + 1)) more) kept) test
    ∙ ap (λ (ls : List (List ℕ)). noted (kept ++ (record { labels = ls; at = at }) ∷ []) m (at + (length l + 1)) more) (sym is)

pub noted_stop : (kept : List PlaceValue) (n m at : ℕ) (rest more : List (List ℕ)) (l : List ℕ) → n ≡ suc m → rest ≡ l ∷ more
    → (ltb at 16384 && ltb (length kept) 64) ≡ false → noted kept n at rest ≡ kept
noted_stop kept n m at rest more l k is test =
    ap₂ (λ (x : ℕ) (ls : List (List ℕ)). noted kept x at ls) k is
    ∙ ap (λ b. cond b (noted (kept ++ (record { labels = l ∷ more; at = at }) ∷ []) m (at + (length l + 1)) more) kept) test

pub far : (at n : ℕ) → 16384 ≤ at → (ltb at 16384 && ltb n 64) ≡ false
far at n le = not_first (ltb at 16384) (ltb n 64) (le-ltb at 16384 le)

pub full : (at n : ℕ) → 64 ≤ n → (ltb at 16384 && ltb n 64) ≡ false
full at n le = not_second (ltb at 16384) (ltb n 64) (le-ltb n 64 le)

pub noted_step : (ls : List (Vec ℕ)) (labels : List (List ℕ)) (kept new : List PlaceValue) (whole i at size : ℕ) (v : Vec ℕ)
    (p : PlaceValue) → label_bytes ls ≡ labels → whole ≤ length labels → i < whole → v ≡ get_or ls i v → at < 16384
    → length kept < 64 → p ≡ record { labels = label_bytes (take (length ls - i) (drop i ls)); at = at }
    → new ≡ kept ++ p ∷ [] → size ≡ length v.items
    → noted new (whole - (i + 1)) (at + (size + 1)) (drop (i + 1) labels) ≡ noted kept (whole - i) at (drop i labels)
noted_step ls labels kept new whole i at size v p same le lt is small few there pushed count =
    let inside : i < length ls = omega (arith, le, lt, ap length same, length-map ls (λ (x : Vec ℕ). x.items)) in
    let first : drop i labels ≡ v.items ∷ drop (i + 1) labels =
    ap (λ (x : List (List ℕ)). drop i x) (sym same) ∙ labels_first ls i v inside is
    ∙ ap (λ (x : List (List ℕ)). v.items ∷ drop (i + 1) x) same in
    let n : whole - i ≡ suc (whole - (i + 1)) = omega (arith, lt) in
    let next = noted_next kept (whole - i) (whole - (i + 1)) at (drop i labels) (drop (i + 1) labels) v.items n first small few in
    let rest : label_bytes (take (length ls - i) (drop i ls)) ≡ drop i labels =
    labels_rest ls i ∙ ap (λ (x : List (List ℕ)). drop i x) same in
    let all : new ≡ kept ++ (record { labels = drop i labels; at = at }) ∷ [] =
    pushed ∙ ap (λ (x : PlaceValue). kept ++ x ∷ []) there
    ∙ ap (λ (x : List (List ℕ)). kept ++ (record { labels = x; at = at }) ∷ []) rest in
    ap₂ (λ (k : List PlaceValue) (s : ℕ). noted k (whole - (i + 1)) (at + (s + 1)) (drop (i + 1) labels)) all count ∙ sym next

pub noted_halt : (labels : List (List ℕ)) (kept : List PlaceValue) (whole i at : ℕ) → whole ≤ length labels → i < whole
    → (ltb at 16384 && ltb (length kept) 64) ≡ false → noted kept (whole - i) at (drop i labels) ≡ kept
noted_halt labels kept whole i at le lt test =
    let n : whole - i ≡ suc (whole - (i + 1)) = omega (arith, lt) in
    noted_stop kept (whole - i) (whole - (i + 1)) at (drop i labels) (drop (i + 1) labels) (get_or labels i []) n
    (drop_more labels i [] (omega (arith, le, lt))) test
