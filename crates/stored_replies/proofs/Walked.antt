-- The places of the TTLs are found again in the octets that were written.
use Rattle.std.proofs.Common.{◌≡◌, ℕ, ◌+◌, ◌-◌, ◌*◌, ◌/◌, ◌%◌, ◌≤◌, ◌<◌, Bool, true, false, ◌||◌, List, [], ◌∷◌, ◌++◌, length, drop, take, get_or, nat_le, refl, sym, ap, ap₂, subst, ◌∙◌, append_assoc, length-append, arith, rules, add-one}
use Rattle.std.specs.Prelude.{Option, None, Some}
use Rattle.std.specs.List.{list_any}
use Rattle.std.proofs.lemmas.Bool.{ltb-false}
use Rattle.std.specs.Global.{Vec}
use Rattle.std.proofs.lemmas.List.{drop_at, drop-drop, drop_more, take_more, get_or-map, length-map, at_drop_all}
use Rattle.hickory_proto_codes.specs.Codes.{class_code}
use Rattle.hickory_proto_core.specs.Name.{label_fault, label_bytes}
use Rattle.hickory_proto_names.specs.Name.{is_empty_label, is_long_label}
use Rattle.hickory_proto_core.specs.Records.{RecordValue}
use Rattle.hickory_proto_wire.specs.Place.{PlaceValue}
use Rattle.hickory_proto_wire.specs.Writing.{u16_octets, counted, data_code}
use Rattle.hickory_proto_wire.specs.Written.{Body, place_of, pointed_or, name_octets, u32_octets, measured, data_octets, record_octets, record_added}
use Rattle.hickory_resolver_tries.specs.Heads.{number_at}
use Rattle.stored_replies.specs.Walk.{behind_labels, behind_data, behind_record, behind_records, places_in, ttl_places, HaveNames, HaveFields}
use Rattle.stored_replies.proofs.Added.{added}

-- ---- names

abbrev pub AreShort : List (List ℕ) → Type 0
AreShort [] = Unit {0}
AreShort (l ∷ ls) = (length l ≤ 63) × AreShort ls

neither : (x y : Bool) → (x || y) ≡ false → (x ≡ false) × (y ≡ false)
neither true y e = absurd cc
neither false y e = (refl, e)

any_short : (ls : List (List ℕ)) → list_any is_long_label ls ≡ false → AreShort ls
any_short [] e = tt
any_short (l ∷ ls) e =
    let both = neither (is_long_label l) (list_any is_long_label ls) e in
    (ltb-false 63 (length l) both.0, any_short ls both.1)

pub are_short : (labels : List (List ℕ)) → label_fault labels ≡ None → AreShort labels
are_short labels e = by (list_any is_empty_label labels) (list_any is_long_label labels) refl refl
  where
    by : (x y : Bool) → list_any is_empty_label labels ≡ x → list_any is_long_label labels ≡ y → AreShort labels
    by true y p q = absurd (search (rules, e, p))
    by false true p q = absurd (search (rules, e, p, q))
    by false false p q = any_short labels q

pointed : (at : ℕ) → nat_le 192 (at / 256 % 64 + 192) ≡ true
pointed at = search rules

labelled : (n : ℕ) → n ≤ 63 → nat_le 192 n ≡ false
labelled n le = search rules

-- one label more
label_walked : (ps : List PlaceValue) (l : List ℕ) (ls : List (List ℕ)) (tail : List ℕ) (o : Option ℕ) → length l ≤ 63
    → behind_labels ls (name_octets ps ls ++ tail) ≡ tail
    → behind_labels (l ∷ ls) (pointed_or o (counted l ++ name_octets ps ls) ++ tail) ≡ tail
label_walked ps l ls tail (Some at) short rest = rw (pointed at) refl
label_walked ps l ls tail None short rest =
    let split : drop (length l + 1) (length l ∷ ((l ++ name_octets ps ls) ++ tail)) ≡ name_octets ps ls ++ tail =
    rw add-one (ap (drop (length l)) (append_assoc l (name_octets ps ls) tail) ∙ drop_at l (name_octets ps ls ++ tail) (length l) refl) in
    rw (labelled (length l) short, split) rest

pub behind_written : (ps : List PlaceValue) (labels : List (List ℕ)) (tail : List ℕ) → AreShort labels
    → behind_labels labels (name_octets ps labels ++ tail) ≡ tail
behind_written ps [] tail short = refl
behind_written ps (l ∷ ls) tail short =
    label_walked ps l ls tail (place_of ps (l ∷ ls)) short.0 (behind_written ps ls tail short.1)

-- ---- one step of a loop

pub at_least : (m n : ℕ) → m ≤ n → nat_le m n ≡ true
at_least m n le = search rules

pub not_least : (m n : ℕ) → n < m → nat_le m n ≡ false
not_least m n lt = search rules

first_label : (vs : List (Vec ℕ)) (i : ℕ) (v : Vec ℕ) → i < length vs → v ≡ get_or vs i v
    → drop i (label_bytes vs) ≡ v.items ∷ drop (i + 1) (label_bytes vs)
first_label vs i v lt is =
    let inside : i < length (label_bytes vs) = omega (arith, lt, length-map vs (λ (x : Vec ℕ). x.items)) in
    let value : get_or (label_bytes vs) i v.items ≡ v.items =
    get_or-map (λ (x : Vec ℕ). x.items) vs i v v.items lt ∙ ap (λ (x : Vec ℕ). x.items) (sym is) in
    drop_more (label_bytes vs) i v.items inside ∙ ap (λ (x : List ℕ). x ∷ drop (i + 1) (label_bytes vs)) value

pub step_pointed : (vs : List (Vec ℕ)) (i : ℕ) (v : Vec ℕ) (rest : List ℕ) → i < length vs → v ≡ get_or vs i v
    → 192 ≤ get_or rest 0 0 → behind_labels (drop i (label_bytes vs)) rest ≡ drop 2 rest
step_pointed vs i v rest lt is le =
    ap (λ (ls : List (List ℕ)). behind_labels ls rest) (first_label vs i v lt is)
    ∙ rw (at_least 192 (get_or rest 0 0) le) refl

pub step_label : (vs : List (Vec ℕ)) (i : ℕ) (v : Vec ℕ) (rest : List ℕ) → i < length vs → v ≡ get_or vs i v
    → get_or rest 0 0 < 192
    → behind_labels (drop i (label_bytes vs)) rest ≡ behind_labels (drop (i + 1) (label_bytes vs)) (drop (length v.items + 1) rest)
step_label vs i v rest lt is low =
    ap (λ (ls : List (List ℕ)). behind_labels ls rest) (first_label vs i v lt is)
    ∙ rw (not_least 192 (get_or rest 0 0) low) refl

pub step_end : (vs : List (Vec ℕ)) (i : ℕ) (rest : List ℕ) → length vs ≤ i
    → behind_labels (drop i (label_bytes vs)) rest ≡ drop 1 rest
step_end vs i rest le =
    at_drop_all (λ (ls : List (List ℕ)). behind_labels ls rest) (label_bytes vs) i (omega (arith, le, length-map vs (λ (x : Vec ℕ). x.items)))

-- ---- records

abbrev pub fields_of : List PlaceValue → RecordValue → List ℕ
fields_of ps r =
    u16_octets (data_code r.rdata) ++ (u16_octets (class_code r.dns_class)
    ++ (u32_octets r.ttl ++ measured (data_octets ps r.rdata)))

pub name_walked : (ps : List PlaceValue) (r : RecordValue) (tail : List ℕ) → label_fault r.name.labels ≡ None
    → behind_labels r.name.labels (record_octets ps r ++ tail) ≡ fields_of ps r ++ tail
name_walked ps r tail named =
    ap (behind_labels r.name.labels) (append_assoc (name_octets ps r.name.labels) (fields_of ps r) tail)
    ∙ behind_written ps r.name.labels (fields_of ps r ++ tail) (are_short r.name.labels named)

whole_number : (n : ℕ) → n / 256 * 256 + n % 256 ≡ n
whole_number n = omega arith

pub data_walked : (ps : List PlaceValue) (r : RecordValue) (tail : List ℕ) → behind_data (fields_of ps r ++ tail) ≡ tail
data_walked ps r tail =
    let d = data_octets ps r.rdata in
    let size : number_at (fields_of ps r ++ tail) 8 ≡ length d = whole_number (length d) in
    ap (λ (n : ℕ). drop (10 + n) (fields_of ps r ++ tail)) size
    ∙ sym (drop-drop (length d) 10 (fields_of ps r ++ tail))
    ∙ drop_at d tail (length d) refl

pub record_walked : (ps : List PlaceValue) (r : RecordValue) (tail : List ℕ) → label_fault r.name.labels ≡ None
    → behind_record r (record_octets ps r ++ tail) ≡ tail
record_walked ps r tail named = ap behind_data (name_walked ps r tail named) ∙ data_walked ps r tail

-- ---- all of them

pub fields_found : (rs : List RecordValue) (b : Body) → HaveFields rs (added b rs)
fields_found [] b = tt
fields_found (r ∷ rs) b = λ named.
    let next = record_added b r in
    let rest = added next rs in
    let fields = fields_of b.places r in (
      omega (arith, ap length (name_walked b.places r rest named), length-append fields rest),
      subst (HaveFields rs) (sym (record_walked b.places r rest named)) (fields_found rs next),
    )

pub places_found : (rs : List RecordValue) (b : Body) (total : ℕ) → HaveNames rs
    → total ≡ 12 + length b.octets + length (added b rs) → places_in total rs (added b rs) ≡ ttl_places b rs
places_found [] b total named long = refl
places_found (r ∷ rs) b total named long =
    let next = record_added b r in
    let rest = added next rs in
    let own = record_octets b.places r in
    let name = name_octets b.places r.name.labels in
    let fields = fields_of b.places r in
    let place : total - length (behind_labels r.name.labels (own ++ rest)) + 4 ≡ 12 + length b.octets + length name + 4 =
    omega (
      arith,
      long,
      ap length (name_walked b.places r rest named.0),
      length-append own rest,
      length-append name fields,
      length-append fields rest,
    ) in
    let on : total ≡ 12 + length next.octets + length rest =
    omega (arith, long, length-append own rest, length-append b.octets own) in
    ap₂ (λ (x : ℕ) (y : List ℕ). x ∷ y) place
    (ap (places_in total rs) (record_walked b.places r rest named.0) ∙ places_found rs next total named.1 on)

pub places_on : (total : ℕ) (xs ys : List RecordValue) (octets : List ℕ)
    → places_in total (xs ++ ys) octets ≡ places_in total xs octets ++ places_in total ys (behind_records xs octets)
places_on total [] ys octets = refl
places_on total (x ∷ xs) ys octets =
    ap (λ (ps : List ℕ). (total - length (behind_labels x.name.labels octets) + 4) ∷ ps)
    (places_on total xs ys (behind_record x octets))

pub fields_first : (xs ys : List RecordValue) (octets : List ℕ) → HaveFields (xs ++ ys) octets → HaveFields xs octets
fields_first [] ys octets have = tt
fields_first (x ∷ xs) ys octets have = λ named.
    ((have named).0, fields_first xs ys (behind_record x octets) (have named).1)

pub fields_next : (xs ys : List RecordValue) (octets : List ℕ) → HaveNames xs → HaveFields (xs ++ ys) octets
    → HaveFields ys (behind_records xs octets)
fields_next [] ys octets named have = have
fields_next (x ∷ xs) ys octets named have = fields_next xs ys (behind_record x octets) named.1 (have named.0).1

pub names_on : (xs ys : List RecordValue) → HaveNames xs → HaveNames ys → HaveNames (xs ++ ys)
names_on [] ys a b = b
names_on (x ∷ xs) ys a b = (a.0, names_on xs ys a.1 b)

-- ---- one record more of a loop

pub names_more : (rs : List RecordValue) (i : ℕ) (r : RecordValue) → i < length rs → r ≡ get_or rs i r
    → HaveNames (take i rs) → label_fault r.name.labels ≡ None → HaveNames (take (i + 1) rs)
names_more rs i r lt is named here =
    subst HaveNames (ap (λ (x : RecordValue). take i rs ++ x ∷ []) is ∙ sym (take_more rs i r lt))
    (names_on (take i rs) (r ∷ []) named (here, tt))

pub places_more : (total : ℕ) (rs : List RecordValue) (i : ℕ) (r : RecordValue) (old rest : List ℕ) → i < length rs
    → r ≡ get_or rs i r
    → old ++ places_in total (drop i rs) rest
    ≡ (old ++ (total - length (behind_labels r.name.labels rest) + 4) ∷ []) ++ places_in total (drop (i + 1) rs) (behind_record r rest)
places_more total rs i r old rest lt is =
    let here : drop i rs ≡ r ∷ drop (i + 1) rs =
    drop_more rs i r lt ∙ ap (λ (x : RecordValue). x ∷ drop (i + 1) rs) (sym is) in
    ap (λ (xs : List RecordValue). old ++ places_in total xs rest) here
    ∙ sym (append_assoc old ((total - length (behind_labels r.name.labels rest) + 4) ∷ []) (places_in total (drop (i + 1) rs) (behind_record r rest)))

pub fields_more : (rs : List RecordValue) (i : ℕ) (r : RecordValue) (rest : List ℕ) → i < length rs → r ≡ get_or rs i r
    → label_fault r.name.labels ≡ None → HaveFields (drop i rs) rest
    → (10 ≤ length (behind_labels r.name.labels rest)) × HaveFields (drop (i + 1) rs) (behind_record r rest)
fields_more rs i r rest lt is named have =
    let here : drop i rs ≡ r ∷ drop (i + 1) rs =
    drop_more rs i r lt ∙ ap (λ (x : RecordValue). x ∷ drop (i + 1) rs) (sym is) in
    let own : HaveFields (r ∷ drop (i + 1) rs) rest = subst (λ (xs : List RecordValue). HaveFields xs rest) here have in
    own named

pub rest_more : (rs : List RecordValue) (i : ℕ) (r : RecordValue) (rest : List ℕ) → i < length rs → r ≡ get_or rs i r
    → behind_records (drop i rs) rest ≡ behind_records (drop (i + 1) rs) (behind_record r rest)
rest_more rs i r rest lt is =
    let here : drop i rs ≡ r ∷ drop (i + 1) rs =
    drop_more rs i r lt ∙ ap (λ (x : RecordValue). x ∷ drop (i + 1) rs) (sym is) in
    ap (λ (xs : List RecordValue). behind_records xs rest) here
