-- Record data that were added are read again, where the bytes end with them.
use Rattle.std.proofs.Common.{◌≡◌, ℕ, zero, suc, ◌+◌, ◌≤◌, Bool, true, false, cond, eqb, List, [], ◌∷◌, ◌++◌, length, get_or, Ok, refl, ap, ◌∙◌, length-append, arith}
use Rattle.std.proofs.lemmas.Bool.{le-ltb, lt-ltb}
use Rattle.hickory_proto_names.specs.Name.{NameValue}
use Rattle.hickory_proto_core.specs.Records.{DataValue, a_data, aaaa_data, cname_data, ns_data, ptr_data, soa_data, srv_data, mx_data, txt_data, unknown_data}
use Rattle.hickory_proto_wire.specs.declared.wire_record_data.Times.{Times}
use Rattle.hickory_proto_wire.specs.Octets.{◌>>=◌, u16_at, u32_at}
use Rattle.hickory_proto_wire.specs.Names.{name_at}
use Rattle.hickory_proto_wire.specs.RecordData.{a_at, half_at, aaaa_at, cname_at, ns_at, ptr_at, mx_at, srv_at, times_at, soa_at, string_at, strings_at, txt_at, unknown_at, data_at}
use Rattle.hickory_proto_wire.specs.OldData.{is_spelled_out}
use Rattle.hickory_proto_wire.specs.Writing.{Stands, Spells, Adds, AddsData, data_code, is_parsed, run_of}
use Rattle.hickory_proto_wire.proofs.Stands.{stands_front, stands_behind, stands_rest, octet_there, octets_there}
use Rattle.hickory_proto_wire.proofs.Adds.{Reader, adds_one, adds_both, adds_then}
use Rattle.hickory_proto_wire.proofs.SpelledOut.{data_again}

-- data whose reader does not look for the end
data_adds : (read : Reader DataValue) (known old new : List ℕ) (x : DataValue)
    → ((bytes : List ℕ) (at : ℕ) → data_at (data_code x) bytes at ≡ read bytes at)
    → Adds read known old new x → AddsData known old new x
data_adds read known old new x eq a = (a.0, a.1, λ bytes at b le s end. eq bytes at ∙ a.2 bytes at b le s)

a_spelled : (known : List ℕ) (a b c d : ℕ) → Spells a_at known (a ∷ b ∷ c ∷ d ∷ []) (a_data (a ∷ b ∷ c ∷ d ∷ []))
unfolding a_at
a_spelled known a b c d bytes at begins le s =
    let s1 = stands_rest a (b ∷ c ∷ d ∷ []) bytes at s in
    let s2 = stands_rest b (c ∷ d ∷ []) bytes (at + 1) s1 in
    let s3 = stands_rest c (d ∷ []) bytes (at + 1 + 1) s2 in
    let end : at + 1 + 1 + 1 + 1 ≡ at + 4 = omega arith in
    rw (
      octet_there a (b ∷ c ∷ d ∷ []) bytes at s,
      octet_there b (c ∷ d ∷ []) bytes (at + 1) s1,
      octet_there c (d ∷ []) bytes (at + 1 + 1) s2,
      octet_there d [] bytes (at + 1 + 1 + 1) s3,
      end,
    )
    refl

pub a_adds : (known old new octets : List ℕ) → length octets ≡ 4 → new ≡ old ++ octets
    → AddsData known old new (a_data octets)
unfolding data_at
a_adds known old new [] len e = absurd (omega (arith, len))
a_adds known old new (a ∷ []) len e = absurd (omega (arith, len))
a_adds known old new (a ∷ b ∷ []) len e = absurd (omega (arith, len))
a_adds known old new (a ∷ b ∷ c ∷ []) len e = absurd (omega (arith, len))
a_adds known old new (a ∷ b ∷ c ∷ d ∷ []) len e =
    data_adds a_at known old new (a_data (a ∷ b ∷ c ∷ d ∷ [])) (λ bytes at. refl)
    (a ∷ b ∷ c ∷ d ∷ [], e, a_spelled known a b c d)
a_adds known old new (a ∷ b ∷ c ∷ d ∷ f ∷ more) len e = absurd (omega (arith, len))

pub half_adds : (known o0 o1 o2 o3 o4 : List ℕ) (a b c d : ℕ) → Adds u16_at known o0 o1 a → Adds u16_at known o1 o2 b
    → Adds u16_at known o2 o3 c → Adds u16_at known o3 o4 d → Adds half_at known o0 o4 (a, b, c, d)
unfolding half_at
half_adds known o0 o1 o2 o3 o4 a b c d pa pb pc pd =
    adds_then u16_at (λ a bytes at. u16_at bytes at >>= λ b. u16_at bytes b.1 >>= λ c. u16_at bytes c.1 >>= λ d. Ok ((a, b.0, c.0, d.0), d.1)) half_at known o0 o1 o4 a (a, b, c, d) (λ bytes at. refl) pa
    (adds_then u16_at (λ b bytes at. u16_at bytes at >>= λ c. u16_at bytes c.1 >>= λ d. Ok ((a, b, c.0, d.0), d.1)) _ known o1 o2 o4 b (a, b, c, d) (λ bytes at. refl) pb
    (adds_then u16_at (λ c bytes at. u16_at bytes at >>= λ d. Ok ((a, b, c, d.0), d.1)) _ known o2 o3 o4 c (a, b, c, d) (λ bytes at. refl) pc
    (adds_one u16_at _ (λ d. (a, b, c, d)) known o3 o4 d (λ bytes at. refl) pd)))

pub name_data_adds : (known old new : List ℕ) (name : NameValue) → Adds name_at known old new name
    → AddsData known old new (cname_data name) × AddsData known old new (ns_data name) × AddsData known old new (ptr_data name)
unfolding data_at cname_at ns_at ptr_at
name_data_adds known old new name a = (
  data_adds cname_at known old new (cname_data name) (λ bytes at. refl)
      (adds_one name_at cname_at cname_data known old new name (λ bytes at. refl) a),
  data_adds ns_at known old new (ns_data name) (λ bytes at. refl)
      (adds_one name_at ns_at ns_data known old new name (λ bytes at. refl) a),
  data_adds ptr_at known old new (ptr_data name) (λ bytes at. refl)
      (adds_one name_at ptr_at ptr_data known old new name (λ bytes at. refl) a),
)

pub mx_adds : (known o0 o1 o2 : List ℕ) (preference : ℕ) (name : NameValue) → Adds u16_at known o0 o1 preference
    → Adds name_at known o1 o2 name → AddsData known o0 o2 (mx_data preference name)
unfolding data_at mx_at
mx_adds known o0 o1 o2 preference name a b =
    data_adds mx_at known o0 o2 (mx_data preference name) (λ bytes at. refl)
    (adds_then u16_at (λ p bytes at. name_at bytes at >>= λ n. Ok (mx_data p n.0, n.1)) mx_at known o0 o1 o2 preference (mx_data preference name) (λ bytes at. refl) a
    (adds_one name_at _ (mx_data preference) known o1 o2 name (λ bytes at. refl) b))

pub srv_adds : (known o0 o1 o2 o3 o4 : List ℕ) (priority weight port : ℕ) (name : NameValue)
    → Adds u16_at known o0 o1 priority → Adds u16_at known o1 o2 weight → Adds u16_at known o2 o3 port
    → Adds name_at known o3 o4 name → AddsData known o0 o4 (srv_data priority weight port name)
unfolding data_at srv_at
srv_adds known o0 o1 o2 o3 o4 priority weight port name a b c d =
    let x = srv_data priority weight port name in
    data_adds srv_at known o0 o4 x (λ bytes at. refl)
    (adds_then u16_at (λ p bytes at. u16_at bytes at >>= λ w. u16_at bytes w.1 >>= λ q. name_at bytes q.1 >>= λ n. Ok (srv_data p w.0 q.0 n.0, n.1)) srv_at known o0 o1 o4 priority x (λ bytes at. refl) a
    (adds_then u16_at (λ w bytes at. u16_at bytes at >>= λ q. name_at bytes q.1 >>= λ n. Ok (srv_data priority w q.0 n.0, n.1)) _ known o1 o2 o4 weight x (λ bytes at. refl) b
    (adds_then u16_at (λ q bytes at. name_at bytes at >>= λ n. Ok (srv_data priority weight q n.0, n.1)) _ known o2 o3 o4 port x (λ bytes at. refl) c
    (adds_one name_at _ (srv_data priority weight port) known o3 o4 name (λ bytes at. refl) d))))

pub aaaa_adds : (known o0 o1 o2 : List ℕ) (a b c d e f g h : ℕ) → Adds half_at known o0 o1 (a, b, c, d)
    → Adds half_at known o1 o2 (e, f, g, h)
    → AddsData known o0 o2 (aaaa_data (a ∷ b ∷ c ∷ d ∷ e ∷ f ∷ g ∷ h ∷ []))
unfolding data_at aaaa_at
aaaa_adds known o0 o1 o2 a b c d e f g h first second =
    data_adds aaaa_at known o0 o2 (aaaa_data (a ∷ b ∷ c ∷ d ∷ e ∷ f ∷ g ∷ h ∷ [])) (λ bytes at. refl)
    (adds_both half_at half_at aaaa_at (λ x y. aaaa_data (x.0 ∷ x.1 ∷ x.2 ∷ x.3 ∷ y.0 ∷ y.1 ∷ y.2 ∷ y.3 ∷ [])) known o0 o1 o2 (a, b, c, d) (e, f, g, h) (λ bytes at. refl) first second)

pub times_adds : (known o0 o1 o2 o3 o4 o5 : List ℕ) (t : Times) → Adds u32_at known o0 o1 t.serial
    → Adds u32_at known o1 o2 t.refresh → Adds u32_at known o2 o3 t.retry → Adds u32_at known o3 o4 t.expire
    → Adds u32_at known o4 o5 t.minimum → Adds times_at known o0 o5 t
unfolding times_at
times_adds known o0 o1 o2 o3 o4 o5 t a b c d e =
    adds_then u32_at (λ s bytes at. u32_at bytes at >>= λ f. u32_at bytes f.1 >>= λ r. u32_at bytes r.1 >>= λ x. u32_at bytes x.1 >>= λ m. Ok (record { serial = s; refresh = f.0; retry = r.0; expire = x.0; minimum = m.0 }, m.1)) times_at known o0 o1 o5 t.serial t (λ bytes at. refl) a
    (adds_then u32_at (λ f bytes at. u32_at bytes at >>= λ r. u32_at bytes r.1 >>= λ x. u32_at bytes x.1 >>= λ m. Ok (record { serial = t.serial; refresh = f; retry = r.0; expire = x.0; minimum = m.0 }, m.1)) _ known o1 o2 o5 t.refresh t (λ bytes at. refl) b
    (adds_then u32_at (λ r bytes at. u32_at bytes at >>= λ x. u32_at bytes x.1 >>= λ m. Ok (record { serial = t.serial; refresh = t.refresh; retry = r; expire = x.0; minimum = m.0 }, m.1)) _ known o2 o3 o5 t.retry t (λ bytes at. refl) c
    (adds_then u32_at (λ x bytes at. u32_at bytes at >>= λ m. Ok (record { serial = t.serial; refresh = t.refresh; retry = t.retry; expire = x; minimum = m.0 }, m.1)) _ known o3 o4 o5 t.expire t (λ bytes at. refl) d
    (adds_one u32_at _ (λ m. record { serial = t.serial; refresh = t.refresh; retry = t.retry; expire = t.expire; minimum = m }) known o4 o5 t.minimum (λ bytes at. refl) e))))

pub soa_adds : (known o0 o1 o2 o3 : List ℕ) (mname rname : NameValue) (t : Times) → Adds name_at known o0 o1 mname
    → Adds name_at known o1 o2 rname → Adds times_at known o2 o3 t
    → AddsData known o0 o3 (soa_data mname rname t.serial t.refresh t.retry t.expire t.minimum)
unfolding data_at soa_at
soa_adds known o0 o1 o2 o3 mname rname t a b c =
    let x = soa_data mname rname t.serial t.refresh t.retry t.expire t.minimum in
    data_adds soa_at known o0 o3 x (λ bytes at. refl)
    (adds_then name_at (λ m bytes at. name_at bytes at >>= λ r. times_at bytes r.1 >>= λ u. Ok (soa_data m r.0 u.0.serial u.0.refresh u.0.retry u.0.expire u.0.minimum, u.1)) soa_at known o0 o1 o3 mname x (λ bytes at. refl) a
    (adds_then name_at (λ r bytes at. times_at bytes at >>= λ u. Ok (soa_data mname r u.0.serial u.0.refresh u.0.retry u.0.expire u.0.minimum, u.1)) _ known o1 o2 o3 rname x (λ bytes at. refl) b
    (adds_one times_at _ (λ u. soa_data mname rname u.serial u.refresh u.retry u.expire u.minimum) known o2 o3 t (λ bytes at. refl) c)))

-- ---- strings

strings_len : (strings : List (List ℕ)) → length strings ≤ length (run_of strings)
strings_len [] = omega arith
strings_len (s ∷ ss) = omega (arith, strings_len ss, length-append s (run_of ss))

strings_there : (strings : List (List ℕ)) (steps : ℕ) (bytes : List ℕ) (at : ℕ) → Stands (run_of strings) bytes at
    → length bytes ≡ at + length (run_of strings) → length strings ≤ steps
    → strings_at steps bytes at ≡ Ok (strings, at + length (run_of strings))
unfolding strings_at string_at
strings_there [] zero bytes at s end enough = ap (λ (n : ℕ). Ok ([], n)) (omega arith)
strings_there [] (suc steps) bytes at s end enough =
    let none : at ≡ at + 0 = omega arith in
    rw (le-ltb at (length bytes) (omega (arith, end))) (ap (λ (n : ℕ). Ok ([], n)) none)
strings_there (l ∷ ls) zero bytes at s end enough = absurd (omega (arith, enough))
strings_there (l ∷ ls) (suc steps) bytes at s end enough =
    let len = length-append l (run_of ls) in
    let inner = stands_rest (length l) (l ++ run_of ls) bytes at s in
    let behind = stands_behind l (run_of ls) bytes (at + 1) inner in
    let more = strings_there ls steps bytes (at + 1 + length l) behind (omega (arith, end, len)) (omega (arith, enough)) in
    let place : at + 1 + length l + length (run_of ls) ≡ at + length (run_of (l ∷ ls)) = omega (arith, len) in
    rw (
      lt-ltb at (length bytes) (omega (arith, end)),
      octet_there (length l) (l ++ run_of ls) bytes at s,
      octets_there l bytes (at + 1) (stands_front l (run_of ls) bytes (at + 1) inner),
      more,
      place,
    )
    refl

pub txt_adds : (known old new : List ℕ) (strings : List (List ℕ)) → new ≡ old ++ run_of strings
    → AddsData known old new (txt_data strings)
unfolding data_at txt_at
txt_adds known old new strings e = (
  run_of strings,
  e,
  λ bytes at b le s end.
      let enough : length strings ≤ length bytes = omega (arith, strings_len strings, end) in
      rw (strings_there strings (length bytes) bytes at s end enough) refl,
)

-- ---- any other data

pass : {A : Type 0} (b rest : Bool) (x y : A) → cond b true rest ≡ false → (cond b x y ≡ y) × (rest ≡ false)
pass true rest x y e = absurd cc
pass false rest x y e = (refl, e)

is_unknown : (code : ℕ) (bytes : List ℕ) (at : ℕ) → is_parsed code ≡ false → data_at code bytes at ≡ unknown_at code bytes at
unfolding data_at
is_unknown code bytes at e =
    let p1 = pass (eqb code 1) _ (a_at bytes at) _ e in
    let p2 = pass (eqb code 2) _ (ns_at bytes at) _ p1.1 in
    let p3 = pass (eqb code 5) _ (cname_at bytes at) _ p2.1 in
    let p4 = pass (eqb code 6) _ (soa_at bytes at) _ p3.1 in
    let p5 = pass (eqb code 12) _ (ptr_at bytes at) _ p4.1 in
    let p6 = pass (eqb code 15) _ (mx_at bytes at) _ p5.1 in
    let p7 = pass (eqb code 16) _ (txt_at bytes at) _ p6.1 in
    let p8 = pass (eqb code 28) _ (aaaa_at bytes at) _ p7.1 in
    let p9 = pass (eqb code 33) false (srv_at bytes at) (unknown_at code bytes at) p8.1 in
    p1.0 ∙ p2.0 ∙ p3.0 ∙ p4.0 ∙ p5.0 ∙ p6.0 ∙ p7.0 ∙ p8.0 ∙ p9.0

pub unknown_adds : (known old new : List ℕ) (code : ℕ) (octets : List ℕ) → is_parsed code ≡ false
    → is_spelled_out code octets ≡ true → new ≡ old ++ octets → AddsData known old new (unknown_data code octets)
unfolding unknown_at
unknown_adds known old new code octets not spelled e = (
  octets,
  e,
  λ bytes at b le s end. is_unknown code bytes at not ∙ rw (data_again code octets spelled bytes at s end) refl,
)

-- the eight elements of a list of eight
pub eight : (l : List ℕ) → length l ≡ 8
    → get_or l 0 0 ∷ get_or l 1 0 ∷ get_or l 2 0 ∷ get_or l 3 0 ∷ get_or l 4 0 ∷ get_or l 5 0 ∷ get_or l 6 0
    ∷ get_or l 7 0 ∷ [] ≡ l
eight [] len = absurd (omega (arith, len))
eight (a ∷ []) len = absurd (omega (arith, len))
eight (a ∷ b ∷ []) len = absurd (omega (arith, len))
eight (a ∷ b ∷ c ∷ []) len = absurd (omega (arith, len))
eight (a ∷ b ∷ c ∷ d ∷ []) len = absurd (omega (arith, len))
eight (a ∷ b ∷ c ∷ d ∷ e ∷ []) len = absurd (omega (arith, len))
eight (a ∷ b ∷ c ∷ d ∷ e ∷ f ∷ []) len = absurd (omega (arith, len))
eight (a ∷ b ∷ c ∷ d ∷ e ∷ f ∷ g ∷ []) len = absurd (omega (arith, len))
eight (a ∷ b ∷ c ∷ d ∷ e ∷ f ∷ g ∷ h ∷ []) len = refl
eight (a ∷ b ∷ c ∷ d ∷ e ∷ f ∷ g ∷ h ∷ i ∷ l) len = absurd (omega (arith, len))
