-- Questions and records that were added are read again.
use Rattle.std.proofs.Common.{◌≡◌, ℕ, ◌+◌, ◌*◌, ◌/◌, ◌≤◌, false, ltb, List, [], ◌∷◌, ◌++◌, length, take, drop, Ok, refl, sym, ap, subst, ◌∙◌, append_assoc, length-append, arith}
use Rattle.std.specs.List.{flat_map}
use Rattle.std.proofs.lemmas.Bool.{le-ltb, eq-eqb}
use Rattle.std.proofs.lemmas.List.{append-nil, take_at, take-take, take-append-drop, length-take-le}
use Rattle.hickory_proto_names.specs.Name.{NameValue}
use Rattle.hickory_proto_codes.specs.Codes.{type_of, class_of}
use Rattle.hickory_proto_core.specs.Records.{DataValue}
use Rattle.hickory_proto_core.specs.declared.query.Query.{Query}
use Rattle.hickory_proto_wire.specs.Octets.{◌>>=◌, u16_at, u32_at}
use Rattle.hickory_proto_wire.specs.Names.{name_at}
use Rattle.hickory_proto_wire.specs.RecordData.{data_at, record_data_at}
use Rattle.hickory_proto_wire.specs.Records.{query_at, head_at, record_from}
use Rattle.hickory_proto_wire.specs.Writing.{Begins, Stands, Spells, Adds, SpellsData, AddsData, data_code, coded_at, u16_octets}
use Rattle.hickory_proto_wire.specs.Written.{u32_octets, edns_octets}
use Rattle.hickory_proto_wire.specs.Edns.{EdnsValue}
use Rattle.hickory_proto_wire.proofs.Stands.{stands_front, stands_behind}
use Rattle.hickory_proto_wire.proofs.Adds.{adds_one, adds_then}

pub query_adds : (known o0 o1 o2 o3 : List ℕ) (name : NameValue) (code class : ℕ) → Adds name_at known o0 o1 name
    → Adds u16_at known o1 o2 code → Adds u16_at known o2 o3 class
    → Adds query_at known o0 o3 (record { name = name; query_type = type_of code; query_class = class_of class })
unfolding query_at
query_adds known o0 o1 o2 o3 name code class a b c =
    let x : Query = record { name = name; query_type = type_of code; query_class = class_of class } in
    adds_then name_at (λ n bytes at. u16_at bytes at >>= λ t. u16_at bytes t.1 >>= λ k. Ok (record { name = n; query_type = type_of t.0; query_class = class_of k.0 }, k.1)) query_at known o0 o1 o3 name x (λ bytes at. refl) a
    (adds_then u16_at (λ t bytes at. u16_at bytes at >>= λ k. Ok (record { name = name; query_type = type_of t; query_class = class_of k.0 }, k.1)) _ known o1 o2 o3 code x (λ bytes at. refl) b
    (adds_one u16_at _ (λ k. record { name = name; query_type = type_of code; query_class = class_of k }) known o2 o3 class (λ bytes at. refl) c))

-- ---- bytes that end with what stands in them

pub stands_len : (octets bytes : List ℕ) (at : ℕ) → Stands octets bytes at → at + length octets ≤ length bytes
stands_len octets bytes at s =
    omega (arith, s.3, ap length s.2, length-append s.0 (octets ++ s.1), length-append octets s.1)

begins_take : (known bytes : List ℕ) (end : ℕ) → Begins known bytes → length known ≤ end → Begins known (take end bytes)
begins_take known bytes end b le =
    let front : take (length known) (take end bytes) ≡ known =
    take-take (length known) end bytes le ∙ ap (λ (x : List ℕ). take (length known) x) b.1
    ∙ take_at known b.0 (length known) refl in (
      drop (length known) (take end bytes),
      sym (take-append-drop (length known) (take end bytes))
          ∙ ap (λ (x : List ℕ). x ++ drop (length known) (take end bytes)) front,
    )

stands_take : (octets bytes : List ℕ) (at : ℕ) → Stands octets bytes at
    → Stands octets (take (at + length octets) bytes) at
stands_take octets bytes at s =
    let long : length (s.0 ++ octets) ≡ at + length octets = omega (arith, length-append s.0 octets, s.3) in
    let split : bytes ≡ (s.0 ++ octets) ++ s.1 = s.2 ∙ sym (append_assoc s.0 octets s.1) in (
      s.0,
      [],
      ap (λ (x : List ℕ). take (at + length octets) x) split
          ∙ take_at (s.0 ++ octets) s.1 (at + length octets) long
          ∙ ap (λ (x : List ℕ). s.0 ++ x) (sym (append-nil octets)),
      s.3,
    )

data_read : (known d bytes : List ℕ) (start : ℕ) (value : DataValue) → SpellsData known d value → Begins known bytes
    → length known ≤ start → Stands d bytes start
    → data_at (data_code value) (take (start + length d) bytes) start ≡ Ok (value, start + length d)
data_read known d bytes start value reads b le s =
    reads (take (start + length d) bytes) start (begins_take known bytes (start + length d) b (omega (arith, le))) le
    (stands_take d bytes start s) (length-take-le (start + length d) bytes (stands_len d bytes start s))

pub own_data : (known empty new : List ℕ) (x : DataValue) → empty ≡ [] → AddsData known empty new x
    → SpellsData known new x
own_data known empty new x none a =
    subst (λ (o : List ℕ). SpellsData known o x) (sym (a.1 ∙ ap (λ (e : List ℕ). e ++ a.0) none)) a.2

-- ---- a record

record_spelled : (known a b c e f d : List ℕ) (name : NameValue) (value : DataValue) (class ttl : ℕ)
    → Spells name_at known a name → Spells u16_at known b (data_code value) → Spells u16_at known c class
    → Spells u32_at known e ttl → Spells u16_at known f (length d) → SpellsData known d value
    → Spells coded_at known (a ++ (b ++ (c ++ (e ++ (f ++ d)))))
    (data_code value, record { name = name; dns_class = class_of class; ttl = ttl; rdata = value })
unfolding coded_at head_at record_from record_data_at
record_spelled known a b c e f d name value class ttl ra rb rc re rf rd bytes at begins le s =
    let p1 : ℕ = at + length a in
    let p2 : ℕ = at + length a + length b in
    let p3 : ℕ = at + length a + length b + length c in
    let p4 : ℕ = at + length a + length b + length c + length e in
    let start : ℕ = at + length a + length b + length c + length e + length f in
    let s1 = stands_behind a (b ++ (c ++ (e ++ (f ++ d)))) bytes at s in
    let s2 = stands_behind b (c ++ (e ++ (f ++ d))) bytes p1 s1 in
    let s3 = stands_behind c (e ++ (f ++ d)) bytes p2 s2 in
    let s4 = stands_behind e (f ++ d) bytes p3 s3 in
    let s5 = stands_behind f d bytes p4 s4 in
    let long = stands_len d bytes start s5 in
    let within : ltb (length bytes) (start + length d) ≡ false = le-ltb (length bytes) (start + length d) long in
    let whole : start + length d ≡ at + length (a ++ (b ++ (c ++ (e ++ (f ++ d))))) =
    omega (
      arith,
      length-append a (b ++ (c ++ (e ++ (f ++ d)))),
      length-append b (c ++ (e ++ (f ++ d))),
      length-append c (e ++ (f ++ d)),
      length-append e (f ++ d),
      length-append f d,
    ) in
    rw (
      ra bytes at begins le (stands_front a (b ++ (c ++ (e ++ (f ++ d)))) bytes at s),
      rb bytes p1 begins (omega (arith, le)) (stands_front b (c ++ (e ++ (f ++ d))) bytes p1 s1),
      rc bytes p2 begins (omega (arith, le)) (stands_front c (e ++ (f ++ d)) bytes p2 s2),
      re bytes p3 begins (omega (arith, le)) (stands_front e (f ++ d) bytes p3 s3),
      rf bytes p4 begins (omega (arith, le)) (stands_front f d bytes p4 s4),
      within,
      data_read known d bytes start value rd begins (omega (arith, le)) s5,
      eq-eqb (start + length d) (start + length d) refl,
      whole,
    ) refl

pub join : (o0 o1 o2 a b : List ℕ) → o1 ≡ o0 ++ a → o2 ≡ o1 ++ b → o2 ≡ o0 ++ (a ++ b)
join o0 o1 o2 a b p q = q ∙ ap (λ (x : List ℕ). x ++ b) p ∙ append_assoc o0 a b

pub record_adds : (known o0 o1 o2 o3 o4 o5 o6 d : List ℕ) (name : NameValue) (value : DataValue) (class ttl : ℕ)
    → Adds name_at known o0 o1 name → Adds u16_at known o1 o2 (data_code value) → Adds u16_at known o2 o3 class
    → Adds u32_at known o3 o4 ttl → Adds u16_at known o4 o5 (length d) → o6 ≡ o5 ++ d → SpellsData known d value
    → Adds coded_at known o0 o6 (data_code value, record { name = name; dns_class = class_of class; ttl = ttl; rdata = value })
record_adds known o0 o1 o2 o3 o4 o5 o6 d name value class ttl a b c e f last rd = (
  a.0 ++ (b.0 ++ (c.0 ++ (e.0 ++ (f.0 ++ d)))),
  join o0 o1 o6 a.0 (b.0 ++ (c.0 ++ (e.0 ++ (f.0 ++ d)))) a.1
      (join o1 o2 o6 b.0 (c.0 ++ (e.0 ++ (f.0 ++ d))) b.1
      (join o2 o3 o6 c.0 (e.0 ++ (f.0 ++ d)) c.1
      (join o3 o4 o6 e.0 (f.0 ++ d) e.1
      (join o4 o5 o6 f.0 d f.1 last)))),
  record_spelled known a.0 b.0 c.0 e.0 f.0 d name value class ttl a.2 b.2 c.2 e.2 f.2 rd,
)

-- ---- octets that were added one behind the other

pub eight_added : (o0 o1 o2 o3 o4 o5 o6 o7 o8 : List ℕ) (a b c d e f g h : ℕ) → o1 ≡ o0 ++ u16_octets a
    → o2 ≡ o1 ++ u16_octets b → o3 ≡ o2 ++ u16_octets c → o4 ≡ o3 ++ u16_octets d → o5 ≡ o4 ++ u16_octets e
    → o6 ≡ o5 ++ u16_octets f → o7 ≡ o6 ++ u16_octets g → o8 ≡ o7 ++ u16_octets h
    → o8 ≡ o0 ++ flat_map u16_octets (a ∷ b ∷ c ∷ d ∷ e ∷ f ∷ g ∷ h ∷ [])
eight_added o0 o1 o2 o3 o4 o5 o6 o7 o8 a b c d e f g h e1 e2 e3 e4 e5 e6 e7 e8 =
    join o0 o1 o8 (u16_octets a) (flat_map u16_octets (b ∷ c ∷ d ∷ e ∷ f ∷ g ∷ h ∷ [])) e1
    (join o1 o2 o8 (u16_octets b) (flat_map u16_octets (c ∷ d ∷ e ∷ f ∷ g ∷ h ∷ [])) e2
    (join o2 o3 o8 (u16_octets c) (flat_map u16_octets (d ∷ e ∷ f ∷ g ∷ h ∷ [])) e3
    (join o3 o4 o8 (u16_octets d) (flat_map u16_octets (e ∷ f ∷ g ∷ h ∷ [])) e4
    (join o4 o5 o8 (u16_octets e) (flat_map u16_octets (f ∷ g ∷ h ∷ [])) e5
    (join o5 o6 o8 (u16_octets f) (flat_map u16_octets (g ∷ h ∷ [])) e6
    (join o6 o7 o8 (u16_octets g) (u16_octets h) e7 e8))))))

pub edns_added : (o0 o1 o2 o3 o4 o5 o6 : List ℕ) (e : EdnsValue) (code ttl len : ℕ)
    → ttl ≡ code / 16 * 16777216 + e.version * 65536 + e.flags → len ≡ length e.options → o1 ≡ o0 ++ 0 ∷ []
    → o2 ≡ o1 ++ u16_octets 41 → o3 ≡ o2 ++ u16_octets e.size → o4 ≡ o3 ++ u32_octets ttl → o5 ≡ o4 ++ u16_octets len
    → o6 ≡ o5 ++ e.options → o6 ≡ o0 ++ edns_octets e code
edns_added o0 o1 o2 o3 o4 o5 o6 e code ttl len time count e1 e2 e3 e4 e5 e6 =
    let t4 = e4 ∙ ap (λ (n : ℕ). o3 ++ u32_octets n) time in
    let t5 = e5 ∙ ap (λ (n : ℕ). o4 ++ u16_octets n) count in
    let d = e.options in
    let u = u32_octets (code / 16 * 16777216 + e.version * 65536 + e.flags) in
    let l = u16_octets (length d) in
    join o0 o1 o6 (0 ∷ []) (u16_octets 41 ++ (u16_octets e.size ++ (u ++ (l ++ d)))) e1
    (join o1 o2 o6 (u16_octets 41) (u16_octets e.size ++ (u ++ (l ++ d))) e2
    (join o2 o3 o6 (u16_octets e.size) (u ++ (l ++ d)) e3
    (join o3 o4 o6 u (l ++ d) t4
    (join o4 o5 o6 l d t5 e6))))
