-- Questions, records and their data that were written are read again.
use Rattle.std.proofs.Common.{◌≡◌, ℕ, ◌+◌, ◌/◌, ◌%◌, Bool, true, false, eqb, List, [], ◌∷◌, ◌++◌, length, refl, sym, ap, subst, ◌∙◌, append_assoc, length-append, arith}
use Rattle.std.specs.Prelude.{Option, None, Some, not}
use Rattle.std.specs.Option.{is_none, option_or}
use Rattle.std.proofs.lemmas.Bool.{eqb-true}
use Rattle.hickory_proto_names.specs.Name.{NameValue, label_fault}
use Rattle.hickory_proto_codes.specs.Codes.{type_code, class_code}
use Rattle.hickory_proto_core.specs.declared.query.Query.{Query}
use Rattle.hickory_proto_core.specs.Records.{RecordValue, DataValue, a_data, aaaa_data, cname_data, ns_data, ptr_data, soa_data, srv_data, mx_data, txt_data, unknown_data}
use Rattle.hickory_proto_wire.specs.declared.to_wire_error.ToWireError.{ToWireError}
use Rattle.hickory_proto_wire.specs.declared.to_wire_error.ToWireError.TheVariants.{KnownType, NotSpelledOut}
use Rattle.hickory_proto_wire.specs.declared.wire_record_data.Times.{Times}
use Rattle.hickory_proto_wire.specs.Octets.{u16_at, u32_at}
use Rattle.hickory_proto_wire.specs.Names.{name_at}
use Rattle.hickory_proto_wire.specs.RecordData.{times_at}
use Rattle.hickory_proto_wire.specs.Records.{query_at}
use Rattle.hickory_proto_wire.specs.OldData.{is_spelled_out}
use Rattle.hickory_proto_wire.specs.Writing.{Spells, Adds, SpellsData, Follows, coded_at, data_code, is_parsed, run_of, u16_octets, named_query, named_record}
use Rattle.hickory_proto_wire.specs.Place.{PlaceValue}
use Rattle.hickory_proto_wire.specs.Written.{name_octets, whole_count, u32_octets, data_octets, query_octets, record_octets, Body, body_with, query_added, record_added}
use Rattle.hickory_proto_wire.specs.Refused.{fault_if, name_fault, data_fault, size_fault, query_fault, record_fault}
use Rattle.hickory_proto_wire.specs.Made.{flaw_unless, name_flaw, data_flaw, query_flaw, record_flaw}
use Rattle.hickory_proto_wire.proofs.Adds.{Reader, u16_adds, u32_adds}
use Rattle.hickory_proto_wire.proofs.Data.{a_adds, half_adds, aaaa_adds, name_data_adds, mx_adds, srv_adds, times_adds, soa_adds, txt_adds, unknown_adds}
use Rattle.hickory_proto_wire.proofs.Written.{query_adds, record_adds, own_data}
use Rattle.hickory_proto_wire.proofs.Sections.{follows}
use Rattle.hickory_proto_wire.proofs.Faults.{or_first, or_second}
use Rattle.hickory_proto_wire.proofs.Runs.{are_labels}
use Rattle.hickory_proto_wire.proofs.Places.{AllStand, name_spelled, whole_name, all_still, noted_stand}

-- what was added to nothing
own : {A : Type 0} (read : Reader A) (known new : List ℕ) (x : A) → Adds read known [] new x → Spells read known new x
own {A} read known new x a = subst (λ (o : List ℕ). Spells read known o x) (sym a.1) a.2

adds_octets : {A : Type 0} (read : Reader A) (known old octets : List ℕ) (x : A) → Spells read known octets x
    → Adds read known old (old ++ octets) x
adds_octets read known old octets x s = (octets, refl, s)

u16_adds_there : (known old : List ℕ) (n : ℕ) → Adds u16_at known old (old ++ u16_octets n) n
u16_adds_there known old n = u16_adds known old (old ++ u16_octets n) n refl

pub u32_spelled : (known : List ℕ) (n : ℕ) → Spells u32_at known (u32_octets n) n
u32_spelled known n =
    own u32_at known (u32_octets n) n
    (u32_adds known [] (u16_octets (n / 65536)) (u32_octets n) n (u16_adds_there known [] (n / 65536)) (u16_adds_there known (u16_octets (n / 65536)) (n % 65536)))

-- ---- faults that are not there

pub not_faulty : (b : Bool) (e : ToWireError) → fault_if b e ≡ None → b ≡ false
not_faulty true e h = absurd cc
not_faulty false e h = refl

pub is_absolute : (name : NameValue) → name_fault name ≡ None → name.fqdn ≡ true
is_absolute name e = by_mark name.fqdn refl e
  where
    by_mark : (b : Bool) → name.fqdn ≡ b → name_fault (record { labels = name.labels; fqdn = b }) ≡ None → name.fqdn ≡ true
    by_mark true is h = is
    by_mark false is h = absurd cc

-- ---- what was made has no flaw

right_if : (b : Bool) → flaw_unless b ≡ None → b ≡ true
right_if true e = refl
right_if false e = absurd cc

pub length_is : (n m : ℕ) → flaw_unless (eqb n m) ≡ None → n ≡ m
length_is n m e = eqb-true n m (right_if (eqb n m) e)

is_nothing : {E : Type 0} (o : Option E) → flaw_unless (is_none o) ≡ None → o ≡ None
is_nothing None e = refl
is_nothing (Some x) e = absurd cc

pub name_made : (name : NameValue) → name_flaw name ≡ None → label_fault name.labels ≡ None
name_made name e = is_nothing (label_fault name.labels) e

-- ---- names

named : List (List ℕ) → Bool → NameValue
named labels fqdn = record { labels = labels; fqdn = fqdn }

pub name_told : (known : List ℕ) (places : List PlaceValue) (name : NameValue) → AllStand known places
    → label_fault name.labels ≡ None → name_fault name ≡ None
    → Spells name_at known (name_octets places name.labels) name
unfolding named
name_told known places name all valid right =
    subst (λ (b : Bool). Spells name_at known (name_octets places name.labels) (named name.labels b)) (sym (is_absolute name right))
    (name_spelled known places name.labels all valid)

-- ---- data

four : (a b c d : List ℕ) → ((a ++ b) ++ c) ++ d ≡ a ++ (b ++ (c ++ d))
four a b c d = append_assoc (a ++ b) c d ∙ append_assoc a b (c ++ d)

five : (a b c d e : List ℕ) → (((a ++ b) ++ c) ++ d) ++ e ≡ a ++ (b ++ (c ++ (d ++ e)))
five a b c d e = append_assoc ((a ++ b) ++ c) d e ∙ four a b c (d ++ e)

segments_spelled : (known : List ℕ) (places : List PlaceValue) (s : List ℕ) → length s ≡ 8
    → SpellsData known (data_octets places (aaaa_data s)) (aaaa_data s)
segments_spelled known places [] len = absurd (omega (arith, len))
segments_spelled known places (a ∷ []) len = absurd (omega (arith, len))
segments_spelled known places (a ∷ b ∷ []) len = absurd (omega (arith, len))
segments_spelled known places (a ∷ b ∷ c ∷ []) len = absurd (omega (arith, len))
segments_spelled known places (a ∷ b ∷ c ∷ d ∷ []) len = absurd (omega (arith, len))
segments_spelled known places (a ∷ b ∷ c ∷ d ∷ e ∷ []) len = absurd (omega (arith, len))
segments_spelled known places (a ∷ b ∷ c ∷ d ∷ e ∷ f ∷ []) len = absurd (omega (arith, len))
segments_spelled known places (a ∷ b ∷ c ∷ d ∷ e ∷ f ∷ g ∷ []) len = absurd (omega (arith, len))
segments_spelled known places (a ∷ b ∷ c ∷ d ∷ e ∷ f ∷ g ∷ h ∷ []) len =
    let o1 = u16_octets a ++ (u16_octets b ++ (u16_octets c ++ u16_octets d)) in
    let o2 = o1 ++ (u16_octets e ++ (u16_octets f ++ (u16_octets g ++ u16_octets h))) in
    own_data known [] o2 (aaaa_data (a ∷ b ∷ c ∷ d ∷ e ∷ f ∷ g ∷ h ∷ [])) refl
    (aaaa_adds known [] o1 o2 a b c d e f g h
    (half_adds known [] (u16_octets a) (u16_octets a ++ u16_octets b) (u16_octets a ++ (u16_octets b ++ u16_octets c)) o1 a b c d
    (u16_adds_there known [] a) (u16_adds_there known (u16_octets a) b) (u16_adds_there known (u16_octets a ++ u16_octets b) c)
    (u16_adds_there known (u16_octets a ++ (u16_octets b ++ u16_octets c)) d))
    (half_adds known o1 (o1 ++ u16_octets e) (o1 ++ (u16_octets e ++ u16_octets f)) (o1 ++ (u16_octets e ++ (u16_octets f ++ u16_octets g))) o2 e f g h
    (u16_adds_there known o1 e) (u16_adds_there known (o1 ++ u16_octets e) f) (u16_adds_there known (o1 ++ (u16_octets e ++ u16_octets f)) g)
    (u16_adds_there known (o1 ++ (u16_octets e ++ (u16_octets f ++ u16_octets g))) h)))
segments_spelled known places (a ∷ b ∷ c ∷ d ∷ e ∷ f ∷ g ∷ h ∷ i ∷ l) len = absurd (omega (arith, len))

srv_spelled : (known : List ℕ) (places : List PlaceValue) (priority weight port : ℕ) (target : NameValue)
    → label_fault target.labels ≡ None → name_fault target ≡ None
    → SpellsData known (data_octets places (srv_data priority weight port target)) (srv_data priority weight port target)
srv_spelled known places priority weight port target valid right =
    let n = name_octets [] target.labels in
    let o1 = u16_octets priority in
    let o2 = o1 ++ u16_octets weight in
    let o3 = o2 ++ u16_octets port in
    let x = srv_data priority weight port target in
    let all : SpellsData known (o3 ++ n) x =
    own_data known [] (o3 ++ n) x refl
    (srv_adds known [] o1 o2 o3 (o3 ++ n) priority weight port target (u16_adds known [] o1 priority refl) (u16_adds known o1 o2 weight refl) (u16_adds known o2 o3 port refl)
    (adds_octets name_at known o3 n target (name_told known [] target tt valid right))) in
    subst (λ (w : List ℕ). SpellsData known (u16_octets priority ++ (u16_octets weight ++ (u16_octets port ++ w))) x) (whole_name target.labels)
    (subst (λ (o : List ℕ). SpellsData known o x) (four (u16_octets priority) (u16_octets weight) (u16_octets port) n) all)

soa_spelled : (known : List ℕ) (places : List PlaceValue) (mname rname : NameValue) (serial refresh retry expire minimum : ℕ)
    → AllStand known places → label_fault mname.labels ≡ None → label_fault rname.labels ≡ None → name_fault mname ≡ None
    → name_fault rname ≡ None
    → SpellsData known (data_octets places (soa_data mname rname serial refresh retry expire minimum)) (soa_data mname rname serial refresh retry expire minimum)
soa_spelled known places mname rname serial refresh retry expire minimum all v w f g =
    let a = name_octets places mname.labels in
    let b = name_octets places rname.labels in
    let c = u32_octets serial in
    let d = u32_octets refresh in
    let e = u32_octets retry in
    let h = u32_octets expire in
    let i = u32_octets minimum in
    let t : Times = record { serial = serial; refresh = refresh; retry = retry; expire = expire; minimum = minimum } in
    let x = soa_data mname rname serial refresh retry expire minimum in
    let o2 = a ++ b in
    let times : Adds times_at known o2 (((((o2 ++ c) ++ d) ++ e) ++ h) ++ i) t =
    times_adds known o2 (o2 ++ c) ((o2 ++ c) ++ d) (((o2 ++ c) ++ d) ++ e) ((((o2 ++ c) ++ d) ++ e) ++ h) (((((o2 ++ c) ++ d) ++ e) ++ h) ++ i) t
    (adds_octets u32_at known o2 c serial (u32_spelled known serial)) (adds_octets u32_at known (o2 ++ c) d refresh (u32_spelled known refresh))
    (adds_octets u32_at known ((o2 ++ c) ++ d) e retry (u32_spelled known retry)) (adds_octets u32_at known (((o2 ++ c) ++ d) ++ e) h expire (u32_spelled known expire))
    (adds_octets u32_at known ((((o2 ++ c) ++ d) ++ e) ++ h) i minimum (u32_spelled known minimum)) in
    let whole : SpellsData known (((((o2 ++ c) ++ d) ++ e) ++ h) ++ i) x =
    own_data known [] _ x refl
    (soa_adds known [] a o2 (((((o2 ++ c) ++ d) ++ e) ++ h) ++ i) mname rname t (adds_octets name_at known [] a mname (name_told known places mname all v f))
    (adds_octets name_at known a b rname (name_told known places rname all w g)) times) in
    let flat : ((((o2 ++ c) ++ d) ++ e) ++ h) ++ i ≡ a ++ (b ++ (c ++ (d ++ (e ++ (h ++ i))))) =
    append_assoc (((o2 ++ c) ++ d) ++ e) h i ∙ five o2 c d e (h ++ i) ∙ append_assoc a b (c ++ (d ++ (e ++ (h ++ i)))) in
    subst (λ (o : List ℕ). SpellsData known o x) flat whole

name_data_spelled : (known : List ℕ) (places : List PlaceValue) (target : NameValue) → AllStand known places
    → label_fault target.labels ≡ None → name_fault target ≡ None
    → SpellsData known (name_octets places target.labels) (cname_data target)
    × SpellsData known (name_octets places target.labels) (ns_data target)
    × SpellsData known (name_octets places target.labels) (ptr_data target)
name_data_spelled known places target all valid right =
    let n = name_octets places target.labels in
    let a = name_data_adds known [] n target (adds_octets name_at known [] n target (name_told known places target all valid right)) in
    (own_data known [] n _ refl a.0, own_data known [] n _ refl a.1, own_data known [] n _ refl a.2)

is_so : (b : Bool) → not b ≡ false → b ≡ true
is_so true e = refl
is_so false e = absurd cc

pub data_spelled : (known : List ℕ) (places : List PlaceValue) (d : DataValue) → AllStand known places
    → data_flaw d ≡ None → data_fault d ≡ None → SpellsData known (data_octets places d) d
data_spelled known places (a_data octets) all valid right =
    own_data known [] octets _ refl (a_adds known [] octets octets (length_is (length octets) 4 valid) refl)
data_spelled known places (aaaa_data segments) all valid right = segments_spelled known places segments (length_is (length segments) 8 valid)
data_spelled known places (cname_data target) all valid right = (name_data_spelled known places target all (name_made target valid) right).0
data_spelled known places (ns_data target) all valid right = (name_data_spelled known places target all (name_made target valid) right).1
data_spelled known places (ptr_data target) all valid right = (name_data_spelled known places target all (name_made target valid) right).2
data_spelled known places (soa_data mname rname serial refresh retry expire minimum) all valid right =
    soa_spelled known places mname rname serial refresh retry expire minimum all
    (name_made mname (or_first (name_flaw mname) (name_flaw rname) valid)) (name_made rname (or_second (name_flaw mname) (name_flaw rname) valid))
    (or_first (name_fault mname) (name_fault rname) right) (or_second (name_fault mname) (name_fault rname) right)
data_spelled known places (srv_data priority weight port target) all valid right =
    srv_spelled known places priority weight port target (name_made target valid) right
data_spelled known places (mx_data preference exchange) all valid right =
    let n = name_octets places exchange.labels in
    let p = u16_octets preference in
    own_data known [] (p ++ n) _ refl
    (mx_adds known [] p (p ++ n) preference exchange (u16_adds known [] p preference refl)
    (adds_octets name_at known p n exchange (name_told known places exchange all (name_made exchange valid) right)))
data_spelled known places (txt_data strings) all valid right =
    own_data known [] (run_of strings) _ refl (txt_adds known [] (run_of strings) strings refl)
data_spelled known places (unknown_data code octets) all valid right =
    let spelled = is_spelled_out code octets in
    let behind = option_or (fault_if (not spelled) NotSpelledOut) (size_fault (length octets)) in
    let parsed = not_faulty (is_parsed code) KnownType (or_first (fault_if (is_parsed code) KnownType) behind right) in
    let whole =
    not_faulty (not spelled) NotSpelledOut (or_first (fault_if (not spelled) NotSpelledOut) (size_fault (length octets)) (or_second (fault_if (is_parsed code) KnownType) behind right)) in
    own_data known [] octets _ refl (unknown_adds known [] octets code octets parsed (is_so spelled whole) refl)

-- ---- questions and records

three : (a b c : List ℕ) → (a ++ b) ++ c ≡ a ++ (b ++ c)
three a b c = append_assoc a b c

pub query_spelled : (known : List ℕ) (places : List PlaceValue) (q : Query) → AllStand known places
    → query_flaw q ≡ None → query_fault q ≡ None → Spells query_at known (query_octets places q) (named_query q)
query_spelled known places q all valid right =
    let n = name_octets places q.name.labels in
    let t = u16_octets (type_code q.query_type) in
    let c = u16_octets (class_code q.query_class) in
    subst (λ (o : List ℕ). Spells query_at known o (named_query q)) (three n t c)
    (own query_at known ((n ++ t) ++ c) (named_query q)
    (query_adds known [] n (n ++ t) ((n ++ t) ++ c) q.name (type_code q.query_type) (class_code q.query_class)
    (adds_octets name_at known [] n q.name (name_told known places q.name all (name_made q.name valid) right))
    (u16_adds known n (n ++ t) (type_code q.query_type) refl) (u16_adds known (n ++ t) ((n ++ t) ++ c) (class_code q.query_class) refl)))

six : (a b c d e f : List ℕ) → ((((a ++ b) ++ c) ++ d) ++ e) ++ f ≡ a ++ (b ++ (c ++ (d ++ (e ++ f))))
six a b c d e f = append_assoc (((a ++ b) ++ c) ++ d) e f ∙ five a b c d (e ++ f)

pub record_told : (known : List ℕ) (places : List PlaceValue) (r : RecordValue) → AllStand known places
    → record_flaw r ≡ None → record_fault r ≡ None
    → Spells coded_at known (record_octets places r) (data_code r.rdata, named_record r)
record_told known places r all valid right =
    let n = name_octets places r.name.labels in
    let t = u16_octets (data_code r.rdata) in
    let c = u16_octets (class_code r.dns_class) in
    let l = u32_octets r.ttl in
    let d = data_octets places r.rdata in
    let m = u16_octets (length d) in
    let name_valid = name_made r.name (or_first (name_flaw r.name) (data_flaw r.rdata) valid) in
    let data_valid = or_second (name_flaw r.name) (data_flaw r.rdata) valid in
    let name_right = or_first (name_fault r.name) (data_fault r.rdata) right in
    let data_right = or_second (name_fault r.name) (data_fault r.rdata) right in
    subst (λ (o : List ℕ). Spells coded_at known o (data_code r.rdata, named_record r)) (six n t c l m d)
    (own coded_at known (((((n ++ t) ++ c) ++ l) ++ m) ++ d) (data_code r.rdata, named_record r)
    (record_adds known [] n (n ++ t) ((n ++ t) ++ c) (((n ++ t) ++ c) ++ l) ((((n ++ t) ++ c) ++ l) ++ m) (((((n ++ t) ++ c) ++ l) ++ m) ++ d) d
    r.name r.rdata (class_code r.dns_class) r.ttl
    (adds_octets name_at known [] n r.name (name_told known places r.name all name_valid name_right))
    (u16_adds_there known n (data_code r.rdata)) (u16_adds_there known (n ++ t) (class_code r.dns_class))
    (adds_octets u32_at known ((n ++ t) ++ c) l r.ttl (u32_spelled known r.ttl)) (u16_adds_there known (((n ++ t) ++ c) ++ l) (length d)) refl
    (data_spelled known places r.rdata all data_valid data_right)))

-- ---- bodies

-- what stands behind a header of 12 octets
pub record BodyStands (header : List ℕ) (b : Body) : Type 0 where
  pub twelve : length header ≡ 12
  pub all : AllStand (header ++ b.octets) b.places

pub with_stands : (header : List ℕ) (b : Body) (name : NameValue) (octets rest : List ℕ)
    → octets ≡ name_octets b.places name.labels ++ rest → label_fault name.labels ≡ None → BodyStands header b
    → BodyStands header (body_with b name octets)
with_stands header b name octets rest e valid s =
    let known = header ++ b.octets in
    let new = header ++ (b.octets ++ octets) in
    let begins : new ≡ known ++ octets = sym (append_assoc header b.octets octets) in
    let here : length known ≡ 12 + length b.octets = omega (arith, s.twelve, length-append header b.octets) in
    let split : new ≡ known ++ (name_octets b.places name.labels ++ rest) = begins ∙ ap (λ (x : List ℕ). known ++ x) e in
    record {
      twelve = s.twelve;
      all =
          noted_stand b.places name.labels known new octets s.all begins b.places (whole_count b.places name.labels) (12 + length b.octets) 255
          known rest (all_still known new octets b.places begins s.all) (omega (arith, here)) refl
          (are_labels name.labels valid) split here;
    }

-- what was added behind a body
added_follows : {A : Type 0} (read : Reader A) (header body octets : List ℕ) (x : A)
    → Spells read (header ++ body) octets x → Follows read (header ++ body) (header ++ (body ++ octets)) x
added_follows {A} read header body octets x s =
    follows read (header ++ body) (header ++ (body ++ octets)) x
    (octets, sym (append_assoc header body octets), s)

pub query_follows : (header : List ℕ) (b : Body) (q : Query) → BodyStands header b → query_flaw q ≡ None → query_fault q ≡ None
    → Follows query_at (header ++ b.octets) (header ++ (query_added b q).octets) (named_query q) × BodyStands header (query_added b q)
query_follows header b q s valid right = (
  added_follows query_at header b.octets (query_octets b.places q) (named_query q) (query_spelled (header ++ b.octets) b.places q s.all valid right),
  with_stands header b q.name (query_octets b.places q) _ refl (name_made q.name valid) s,
)

pub record_follows : (header : List ℕ) (b : Body) (r : RecordValue) → BodyStands header b → record_flaw r ≡ None → record_fault r ≡ None
    → Follows coded_at (header ++ b.octets) (header ++ (record_added b r).octets) (data_code r.rdata, named_record r)
    × BodyStands header (record_added b r)
record_follows header b r s valid right = (
  added_follows coded_at header b.octets (record_octets b.places r) (data_code r.rdata, named_record r) (record_told (header ++ b.octets) b.places r s.all valid right),
  with_stands header b r.name (record_octets b.places r) _ refl (name_made r.name (or_first (name_flaw r.name) (data_flaw r.rdata) valid)) s,
)
