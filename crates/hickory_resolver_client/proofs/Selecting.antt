-- The records of a message that are passed on, and the decision by what a walk shows.
use Rattle.std.proofs.Common.{◌≡◌, ◌∙◌, ℕ, Bool, true, false, not, ◌&&◌, ◌||◌, cond, List, [], ◌∷◌, ◌++◌, map, filter, refl, sym, ap, ap₂, subst, append_assoc}
use Rattle.std.specs.Prelude.{slice_get, is_some, unwrap_or}
use Rattle.std.specs.List.{list_any}
use Rattle.std.specs.Global.{Vec}
use Rattle.std.proofs.lemmas.List.{map-append}
use Rattle.std.proofs.lemmas.List.Elements.{filter-append}
use Rattle.hickory_proto_core.specs.Name.{NameValue, name_eq}
use Rattle.hickory_proto_core.specs.Records.{RecordValue}
use Rattle.hickory_proto_core.specs.Messages.{MessageValue, some_record}
use Rattle.hickory_proto_core.specs.ResponseKind.{is_empty}
use Rattle.hickory_proto_core.specs.codes.dns_class.DNSClass.TheVariants as class
use Rattle.hickory_proto_core.specs.declared.query.Query.{Query}
use Rattle.hickory_resolver_model.specs.Bounds.{least}
use Rattle.hickory_resolver_model.specs.AliasWalk.{Walk, ends_at, has_target, is_moved}
use Rattle.hickory_resolver_model.specs.Verdict.{Hop, Verdict, Accepted, LeadsTo, NoMatch, has_class, has_type, is_led_match, is_intermediate, is_accepted, is_filtered, filtered_answers, first_or, next_name, next_hop, with_ttl_at_most, all_records, walk_verdict}
use Rattle.hickory_resolver_client.specs.Walks.{ShowsAs}
use Rattle.hickory_resolver_client.specs.Verdicts.{IsDecision, is_wanted}
use Rattle.hickory_resolver_client.specs.declared.verdict.Decision.{Decision}
use Rattle.hickory_resolver_client.specs.declared.verdict.Decision.TheVariants.{Whole, Filtered, Next, Nothing}

-- copies of the selected records of some sections, one after another
pub copied_all : (p : RecordValue → Bool) (f : RecordValue → RecordValue) (m : MessageValue) (rs one two three : List RecordValue) → one ≡ rs ++ map f (filter p m.answers) → two ≡ one ++ map f (filter p m.authorities) → three ≡ two ++ map f (filter p m.additionals) → three ≡ rs ++ map f (filter p (all_records m))
copied_all p f m rs one two three a b c =
    c ∙ ap (λ l. l ++ map f (filter p m.additionals)) (b ∙ ap (λ l. l ++ map f (filter p m.authorities)) a)
    ∙ simp (append_assoc, filter-append, map-append)

-- all that a verdict depends on of a walk
record Parts : Type 0 where
  last : NameValue
  ttl : ℕ
  moved : Bool
  stands : Bool
  has : NameValue → Bool
  next : NameValue

abbrev parts_of : Walk → Parts
parts_of w = record { last = w.last; ttl = w.ttl; moved = is_moved w; stands = is_empty w.places; has = has_target w; next = next_name w }

abbrev match_by : Query → Parts → RecordValue → Bool
match_by q p r = has_class q r && has_type q r && (name_eq q.name r.name || (name_eq p.last r.name || p.has r.name))

abbrev led_by : Query → Parts → RecordValue → Bool
led_by q p r = has_class q r && has_type q r && (p.has r.name || (p.moved && name_eq p.last r.name))

abbrev filtered_by : Bool → Hop → Parts → MessageValue → MessageValue
filtered_by keep hop p m = record m { answers = hop.preserved ++ map (with_ttl_at_most p.ttl) (filter (λ r. match_by hop.query p r || (keep && is_intermediate hop.query r)) (all_records m)) }

abbrev next_by : Bool → Hop → Parts → MessageValue → Hop
next_by keep hop p m = record {
  query = record { name = p.next; query_type = hop.query.query_type; query_class = class.IN };
  preserved = hop.preserved ++ cond keep (map (with_ttl_at_most p.ttl) (filter (is_intermediate hop.query) (all_records m))) [];
}

abbrev verdict_by : Bool → Hop → MessageValue → Parts → Verdict
verdict_by keep hop m p =
    cond (some_record (match_by hop.query p) m && (not p.moved || is_empty hop.preserved))
    (Accepted (cond (not (is_empty hop.preserved) || (some_record (led_by hop.query p) m && not keep)) (filtered_by keep hop p m) m))
    (cond p.stands NoMatch (LeadsTo (next_by keep hop p m)))

moved_by : (ttls : List ℕ) → not (is_empty ttls) ≡ is_some (least ttls)
moved_by [] = refl
moved_by (t ∷ ts) = refl

first_by : (n : NameValue) (names : List NameValue) → first_or n names ≡ unwrap_or (slice_get names 0) n
first_by n [] = refl
first_by n (name ∷ names) = refl

same_moved : (w shown : Walk) → ShowsAs w shown → is_moved shown ≡ is_moved w
same_moved w shown h = moved_by shown.alias_ttls ∙ ap is_some h.alias_ttl_is ∙ sym (moved_by w.alias_ttls)

same_next : (w shown : Walk) → ShowsAs w shown → next_name shown ≡ next_name w
same_next w shown h =
    let first : first_or shown.last shown.targets ≡ first_or w.last w.targets = first_by shown.last shown.targets ∙ (λ i. unwrap_or (h.first_is i) (h.last_is i)) ∙ sym (first_by w.last w.targets) in
    let moved = same_moved w shown h in
    λ i. cond (moved i) (h.last_is i) (first i)

-- the verdict depends on no more of a walk than what it shows
pub same_verdict : (keep : Bool) (hop : Hop) (m : MessageValue) (w shown : Walk) → ShowsAs w shown → walk_verdict keep hop shown m ≡ walk_verdict keep hop w m
same_verdict keep hop m w shown h =
    let moved = same_moved w shown h in
    let next = same_next w shown h in
    λ i. verdict_by keep hop m (record { last = h.last_is i; ttl = h.ttl_is i; moved = moved i; stands = h.leads_is i; has = λ n. h.targets_are n i; next = next i })

-- where intermediate records aren't wanted, none is passed on with the next hop
nothing : (rs : List RecordValue) → filter (λ r. false) rs ≡ []
nothing [] = refl
nothing (r ∷ rs) = nothing rs

pub intermediates : (keep : Bool) (q : Query) (walk : Walk) (f : RecordValue → RecordValue) (rs : List RecordValue) → map f (filter (is_wanted q walk false keep) rs) ≡ cond keep (map f (filter (is_intermediate q) rs)) []
intermediates true q walk f rs = refl
intermediates false q walk f rs = ap (map f) (nothing rs)

-- ---- the decision on a response, by the tests of the code

-- where nothing counted, the walk led to no match
none_led : (q : Query) (w : Walk) → (is_moved w || not (is_empty w.targets)) ≡ false → (rs : List RecordValue) → list_any (is_led_match q w) rs ≡ false
none_led q w none [] = refl
none_led q w none (r ∷ rs) = ap₂ (λ a b. a || b) (one (has_class q r) (has_type q r) (is_moved w) w.targets none) (none_led q w none rs)
  where
    one : (c t moved : Bool) (targets : List NameValue) → (moved || not (is_empty targets)) ≡ false → (c && t && (list_any (λ target. name_eq target r.name) targets || (moved && ends_at w r.name))) ≡ false
    one false t moved targets e = refl
    one true false moved targets e = refl
    one true true true targets e = cc
    one true true false (n ∷ ns) e = cc
    one true true false [] e = refl

pub none_led_in : (q : Query) (w : Walk) (m : MessageValue) → (is_moved w || not (is_empty w.targets)) ≡ false → some_record (is_led_match q w) m ≡ false
none_led_in q w m none =
    let a = none_led q w none m.answers in
    let b = none_led q w none m.authorities in
    let c = none_led q w none m.additionals in
    λ i. a i || b i || c i

module _ (keep : Bool) (hop : Hop) (m : MessageValue) (walk : Walk) where
  abbrev by : Bool → Bool → Bool → Verdict
  by accepted filtered stands = cond accepted (Accepted (cond filtered (record m { answers = filtered_answers keep hop walk m }) m)) (cond stands NoMatch (LeadsTo (next_hop keep hop walk m)))

  stands_so : (accepted filtered stands : Bool) → is_accepted hop walk m ≡ accepted → is_filtered keep hop walk m ≡ filtered → is_empty walk.places ≡ stands → (d : Decision) → IsDecision (by accepted filtered stands) m d → IsDecision (walk_verdict keep hop walk m) m d
  stands_so accepted filtered stands a f s d is =
      let P : Verdict → Type 0 = λ v. IsDecision v m d in
      subst P (λ i. by (sym a i) (sym f i) (sym s i)) is

  pub decided_whole : true ≡ is_accepted hop walk m → false ≡ is_filtered keep hop walk m → IsDecision (walk_verdict keep hop walk m) m Whole
  decided_whole a f = stands_so true false (is_empty walk.places) (sym a) (sym f) refl Whole refl

  pub decided_filtered : true ≡ is_accepted hop walk m → true ≡ is_filtered keep hop walk m → (answers : Vec RecordValue) → answers.items ≡ filtered_answers keep hop walk m → IsDecision (walk_verdict keep hop walk m) m (Filtered answers)
  decided_filtered a f answers e = stands_so true true (is_empty walk.places) (sym a) (sym f) refl (Filtered answers) (ap (λ rs. record m { answers = rs }) (sym e))

  pub decided_nothing : false ≡ is_accepted hop walk m → false ≡ not (is_empty walk.places) → IsDecision (walk_verdict keep hop walk m) m Nothing
  decided_nothing a s = stands_so false (is_filtered keep hop walk m) true (sym a) refl (stays (is_empty walk.places) s) Nothing tt
    where
      stays : (b : Bool) → false ≡ not b → b ≡ true
      stays true e = refl
      stays false e = cc

  pub decided_next : false ≡ is_accepted hop walk m → true ≡ not (is_empty walk.places) → (next : Hop) → next ≡ next_hop keep hop walk m → IsDecision (walk_verdict keep hop walk m) m (Next next)
  decided_next a s next e = stands_so false (is_filtered keep hop walk m) false (sym a) refl (leads (is_empty walk.places) s) (Next next) e
    where
      leads : (b : Bool) → true ≡ not b → b ≡ false
      leads true h = cc
      leads false h = refl

-- what is decided by a walk that shows another one is decided by that one
pub decided_by : (keep : Bool) (hop : Hop) (m n : MessageValue) (w walk : Walk) (d : Decision) → n ≡ m → ShowsAs w walk → IsDecision (walk_verdict keep hop walk n) n d → IsDecision (walk_verdict keep hop w m) m d
decided_by keep hop m n w walk d same shows is =
    let P : MessageValue → Type 0 = λ x. IsDecision (walk_verdict keep hop walk x) x d in
    let Q : Verdict → Type 0 = λ v. IsDecision v m d in
    subst Q (same_verdict keep hop m w walk shows) (subst P same is)
