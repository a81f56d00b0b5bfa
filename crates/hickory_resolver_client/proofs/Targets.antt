-- The targets of servers, as a first one and a set of the others.
use Rattle.std.proofs.Common.{◌≡◌, ◌∙◌, ℕ, Bool, true, false, ◌||◌, List, [], ◌∷◌, ◌++◌, map, min, Option, None, Some, refl, sym, ap, ap₂, subst, if◌then◌else◌}
use Rattle.std.specs.Option.{option_map_or}
use Rattle.std.specs.Prelude.{slice_get, is_some}
use Rattle.std.specs.List.{list_any}
use Rattle.std.specs.Ordering.{is_eq, match_ordering}
use Rattle.std.specs.declared.cmp.Ordering.{Ordering}
use Rattle.std.specs.declared.cmp.Ordering.TheVariants.{Less, Equal, Greater}
use Rattle.std.specs.BTreeSet.{insert_key}
use Rattle.std.proofs.Math.Bool.{or_comm, or-false, or_self_left}
use Rattle.std.proofs.lemmas.List.Folds.{list_any-append}
use Rattle.std.proofs.lemmas.List.Sums.{fold-append}
use Rattle.hickory_proto_core.specs.Name.{NameValue, name_eq, name_cmp}
use Rattle.hickory_proto_core.specs.NameLaws.{name_ties, name_equiv}
use Rattle.hickory_proto_core.specs.ResponseKind.{is_empty}
use Rattle.hickory_resolver_lookup.proofs.Booleans.{or_left_comm}
use Rattle.hickory_resolver_model.specs.Bounds.{least}
use Rattle.hickory_resolver_model.specs.AliasWalk.{Walk, AliasTo, Server, has_target}
use Rattle.hickory_resolver_client.specs.declared.alias_walk.Targets.{Targets}
use Rattle.hickory_resolver_client.specs.Walks.{ShowsWith, shown_walk}

-- ---- a set of names by their order

abbrev pub is_among : NameValue → List NameValue → Bool
is_among name names = list_any (λ t. name_eq t name) names

module _ {K : Type 0} (name_of : K → NameValue) where
  -- the look-up of a name finds it where it is among the names
  pub found_name : (name : NameValue) (ks : List K) → list_any (λ k. is_eq (name_cmp name (name_of k))) ks ≡ is_among name (map name_of ks)
  found_name name [] = refl
  found_name name (k ∷ ks) = ap₂ (λ a b. a || b) (sym (name_ties name (name_of k)) ∙ name_equiv.symm name (name_of k)) (found_name name ks)

  -- what is added is among the names then, and the others stay
  pub added_name : (k : K) (ks : List K) (name : NameValue) → is_among name (map name_of (insert_key (λ x y. name_cmp (name_of x) (name_of y)) ks k)) ≡ (name_eq (name_of k) name || is_among name (map name_of ks))
  added_name k [] name = refl
  added_name k (x ∷ xs) name = by (name_cmp (name_of k) (name_of x)) refl (added_name k xs name)
    where
      here : List K → Bool
      here ks = is_among name (map name_of ks)

      by : (o : Ordering) → name_cmp (name_of k) (name_of x) ≡ o → here (insert_key (λ x y. name_cmp (name_of x) (name_of y)) xs k) ≡ (name_eq (name_of k) name || here xs) → here (match_ordering o (k ∷ x ∷ xs) (x ∷ xs) (x ∷ insert_key (λ x y. name_cmp (name_of x) (name_of y)) xs k)) ≡ (name_eq (name_of k) name || here (x ∷ xs))
      by Less e later = refl
      by Greater e later = ap (λ b. name_eq (name_of x) name || b) later ∙ or_left_comm (name_eq (name_of x) name) (name_eq (name_of k) name) (here xs)
      by Equal e later =
          let same = name_equiv.congr (name_of k) (name_of x) name (name_ties (name_of k) (name_of x) ∙ ap is_eq e) in
          sym (or_self_left (name_eq (name_of x) name) (here xs)) ∙ ap (λ b. b || (name_eq (name_of x) name || here xs)) (sym same)

-- ---- one more record that counts

pub least_push : (ns : List ℕ) (t : ℕ) → least (ns ++ t ∷ []) ≡ Some (option_map_or (λ n. min n t) (least ns) t)
least_push [] t = refl
least_push (n ∷ ns) t = ap Some (fold-append min n ns (t ∷ []))

filled : {A : Type 0} (xs : List A) (x : A) → is_empty (xs ++ x ∷ []) ≡ false
filled [] x = refl
filled (y ∷ ys) x = refl

first_push : (xs : List NameValue) (x y : NameValue) → slice_get xs 0 ≡ Some y → slice_get (xs ++ x ∷ []) 0 ≡ Some y
first_push [] x y e = cc
first_push (z ∷ zs) x y e = e

first_alone : (xs : List NameValue) (x : NameValue) → slice_get xs 0 ≡ None → slice_get (xs ++ x ∷ []) 0 ≡ Some x
first_alone [] x e = refl
first_alone (z ∷ zs) x e = cc

among_push : (w : Walk) (before : Bool) (name target : NameValue) → before ≡ has_target w name → (name_eq target name || before) ≡ is_among name (w.targets ++ target ∷ [])
among_push w before name target e =
    ap (λ b. name_eq target name || b) e ∙ or_comm (name_eq target name) (is_among name w.targets)
    ∙ sym (ap (λ b. is_among name w.targets || b) (or-false (name_eq target name)))
    ∙ sym (list_any-append (λ t. name_eq t name) w.targets (target ∷ []))

-- an alias
pub shows_alias : (before after : Walk) (target : NameValue) (t : ℕ)
    → after.last ≡ target → after.ttl ≡ min before.ttl t → least after.alias_ttls ≡ Some (option_map_or (λ n. min n t) (least before.alias_ttls) t) → is_empty after.places ≡ false → after.targets ≡ before.targets
    → ShowsWith (AliasTo target) t before after
shows_alias before after target t last_is ttl_is alias_ttl_is leads_is targets_are = λ w place shows. record {
  last_is = last_is;
  ttl_is = ttl_is ∙ ap (λ m. min m t) shows.ttl_is;
  alias_ttl_is = alias_ttl_is ∙ ap (λ o. Some (option_map_or (λ n. min n t) o t)) shows.alias_ttl_is ∙ sym (least_push w.alias_ttls t);
  leads_is = leads_is ∙ sym (filled w.places place);
  targets_are = λ name. ap (is_among name) targets_are ∙ shows.targets_are name;
  first_is = ap (λ ts. slice_get ts 0) targets_are ∙ shows.first_is;
}

-- the first server
pub shows_first : (before after : Walk) (target : NameValue) (t : ℕ)
    → after.last ≡ before.last → after.ttl ≡ min before.ttl t → after.alias_ttls ≡ before.alias_ttls → is_empty after.places ≡ false → before.targets ≡ [] → after.targets ≡ target ∷ []
    → ShowsWith (Server target) t before after
shows_first before after target t last_is ttl_is alias_ttls_are leads_is none one = λ w place shows. record {
  last_is = last_is ∙ shows.last_is;
  ttl_is = ttl_is ∙ ap (λ m. min m t) shows.ttl_is;
  alias_ttl_is = ap least alias_ttls_are ∙ shows.alias_ttl_is;
  leads_is = leads_is ∙ sym (filled w.places place);
  targets_are = λ name. ap (is_among name) one ∙ among_push w false name target (sym (ap (is_among name) none) ∙ shows.targets_are name);
  first_is = ap (λ ts. slice_get ts 0) one ∙ sym (first_alone w.targets target (sym shows.first_is ∙ ap (λ ts. slice_get ts 0) none));
}

-- another server
pub shows_other : (before after : Walk) (target first : NameValue) (t : ℕ)
    → after.last ≡ before.last → after.ttl ≡ min before.ttl t → after.alias_ttls ≡ before.alias_ttls → is_empty after.places ≡ false
    → slice_get before.targets 0 ≡ Some first → slice_get after.targets 0 ≡ Some first → ((name : NameValue) → has_target after name ≡ (name_eq target name || has_target before name))
    → ShowsWith (Server target) t before after
shows_other before after target first t last_is ttl_is alias_ttls_are leads_is was stays added = λ w place shows. record {
  last_is = last_is ∙ shows.last_is;
  ttl_is = ttl_is ∙ ap (λ m. min m t) shows.ttl_is;
  alias_ttl_is = ap least alias_ttls_are ∙ shows.alias_ttl_is;
  leads_is = leads_is ∙ sym (filled w.places place);
  targets_are = λ name. added name ∙ among_push w (has_target before name) name target (shows.targets_are name);
  first_is = stays ∙ sym (first_push w.targets target first (sym shows.first_is ∙ was));
}

-- ---- what is kept of a walk

leads_on : (b : Bool) → is_empty {A = ℕ} (if b || true then 0 ∷ [] else []) ≡ false
leads_on true = refl
leads_on false = refl

module _ (given : Walk) (last : NameValue) (ttl : ℕ) (alias_ttl : Option ℕ) (targets : Option Targets) (is : shown_walk last ttl alias_ttl targets ≡ given) where
  -- the first target is kept
  pub keeps_first : (u t : ℕ) (new : Targets) → ((old : Targets) → targets ≡ Some old → ⊥) → u ≡ min ttl t → map (λ k. k.now) new.others.keys ≡ [] → ShowsWith (Server new.first.now) t given (shown_walk last u alias_ttl (Some new))
  keeps_first u t new none lower empty =
      subst (λ w. ShowsWith (Server new.first.now) t w (shown_walk last u alias_ttl (Some new))) (ap (shown_walk last ttl alias_ttl) (sym (is_none targets none)) ∙ is)
      (shows_first (shown_walk last ttl alias_ttl None) (shown_walk last u alias_ttl (Some new)) new.first.now t refl lower refl (leads_on (is_some alias_ttl)) refl (ap (λ names. new.first.now ∷ names) empty))
    where
      is_none : (o : Option Targets) → ((old : Targets) → o ≡ Some old → ⊥) → o ≡ None
      is_none None h = refl
      is_none (Some old) h = absurd (h old refl)

  -- another target is kept
  pub keeps_other : (u t : ℕ) (target : NameValue) (old new : Targets) → targets ≡ Some old → u ≡ min ttl t → new.first.now ≡ old.first.now → ((name : NameValue) → is_among name (map (λ k. k.now) new.others.keys) ≡ (name_eq target name || is_among name (map (λ k. k.now) old.others.keys))) → ShowsWith (Server target) t given (shown_walk last u alias_ttl (Some new))
  keeps_other u t target old new was lower first added =
      subst (λ w. ShowsWith (Server target) t w (shown_walk last u alias_ttl (Some new))) (ap (shown_walk last ttl alias_ttl) (sym was) ∙ is)
      (shows_other (shown_walk last ttl alias_ttl (Some old)) (shown_walk last u alias_ttl (Some new)) target old.first.now t refl lower refl (leads_on (is_some alias_ttl)) refl (ap Some first)
      (λ name. ap₂ (λ f b. name_eq f name || b) first (added name) ∙ or_left_comm (name_eq old.first.now name) (name_eq target name) (is_among name (map (λ k. k.now) old.others.keys))))

  -- a name that is not the first target is looked up among the others
  pub has_other : (name : NameValue) (old : Targets) (first found : Bool) → targets ≡ Some old → first ≡ name_eq old.first.now name → first ≡ false → found ≡ list_any (λ k. is_eq (name_cmp name k.now)) old.others.keys → found ≡ has_target given name
  has_other name old first found was test none look_up =
      look_up ∙ found_name (λ k. k.now) name old.others.keys
      ∙ ap (λ b. b || is_among name (map (λ k. k.now) old.others.keys)) (sym none ∙ test)
      ∙ ap (λ w. has_target w name) (ap (shown_walk last ttl alias_ttl) (sym was) ∙ is)
