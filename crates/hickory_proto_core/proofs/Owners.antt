-- Addresses that are put to their owners one after another.
use Rattle.std.proofs.Common.{ℕ, ◌+◌, ◌<◌, length, take, get_or, ◌≡◌, ◌∙◌, Bool, true, false, cond, ◌&&◌, ◌||◌, List, [], ◌∷◌, ◌++◌, filter, Option, None, Some, refl, sym, ap}
use Rattle.std.proofs.lemmas.List.{append-nil, take_more}
use Rattle.std.proofs.lemmas.List.Elements.{filter-append}
use Rattle.std.specs.BTreeMap.{BTreeMap, get, is_at}
use Rattle.std.specs.Map.{lookup}
use Rattle.std.specs.Option.{unwrap_or, option_map}
use Rattle.std.specs.List.{filter_map}
use Rattle.hickory_proto_names.specs.Name.{NameValue, name_cmp, name_eq}
use Rattle.hickory_proto_names.specs.NameLaws.{name_ties, name_equiv}
use Rattle.hickory_proto_core.specs.Glue.{glue_in, forward_from}
use Rattle.hickory_proto_core.specs.Errors.{ForwardValue}
use Rattle.hickory_proto_core.specs.Records.{RecordValue, ns_target}
use Rattle.hickory_proto_core.specs.ResponseKind.{is_address_of, is_of_type, forward_of}
use Rattle.hickory_proto_codes.specs.declared.record_type.RecordType.TheVariants as type

-- queries with the same answers find the same
lookup-same : {X : Type 0} (p q : NameValue → Bool) → ((k : NameValue) → p k ≡ q k) → (es : List (NameValue × X)) → lookup p es ≡ lookup q es
lookup-same p q same es = λ i. lookup (λ k. same k i) es

-- equal names have the same addresses
same_owner : (m : BTreeMap NameValue (List RecordValue)) (x y : NameValue) → name_eq x y ≡ true → glue_in x m ≡ glue_in y m
same_owner m x y e = ap (λ o. unwrap_or o []) (lookup-same (is_at (name_cmp x)) (is_at (name_cmp y)) (λ k. sym (name_ties x k) ∙ name_equiv.congr x y k e ∙ name_ties y k) m.entries)

one_passes : {A : Type 0} (p : A → Bool) (x : A) (b : Bool) → p x ≡ b → filter p (x ∷ []) ≡ cond b (x ∷ []) []
one_passes p x b e = ap (λ t. cond t (x ∷ []) []) e

-- a record that is no address changes nothing
pub no_address : (r : RecordValue) (q : NameValue) (xs : List RecordValue) → (is_of_type type.A r || is_of_type type.AAAA r) ≡ false → xs ≡ xs ++ filter (is_address_of q) (r ∷ [])
no_address r q xs other =
    sym (append-nil xs)
    ∙ ap (λ l. xs ++ l) (sym (one_passes (is_address_of q) r false (ap (λ t. t && name_eq q r.name) other)))

module _ (old new : BTreeMap NameValue (List RecordValue)) (r : RecordValue) (is : (is_of_type type.A r || is_of_type type.AAAA r) ≡ true)
    (given : (q : NameValue) → get name_cmp new q ≡ cond (is_at (name_cmp r.name) q) (Some (glue_in r.name old ++ r ∷ [])) (get name_cmp old q)) (q : NameValue) where
  stands_at : (b : Bool) → name_eq q r.name ≡ b → is_at (name_cmp r.name) q ≡ b
  stands_at b e = sym (name_ties r.name q) ∙ name_equiv.symm r.name q ∙ e

  found : (b : Bool) → name_eq q r.name ≡ b → glue_in q new ≡ unwrap_or (cond b (Some (glue_in r.name old ++ r ∷ [])) (get name_cmp old q)) []
  found b e = ap (λ o. unwrap_or o []) (given q ∙ ap (λ t. cond t (Some (glue_in r.name old ++ r ∷ [])) (get name_cmp old q)) (stands_at b e))

  passes : (b : Bool) → name_eq q r.name ≡ b → filter (is_address_of q) (r ∷ []) ≡ cond b (r ∷ []) []
  passes b e = one_passes (is_address_of q) r b (ap (λ t. t && name_eq q r.name) is ∙ e)

  by : (b : Bool) → name_eq q r.name ≡ b → glue_in q new ≡ glue_in q old ++ filter (is_address_of q) (r ∷ [])
  by true e =
      found true e ∙ ap (λ l. l ++ r ∷ []) (same_owner old r.name q (name_equiv.symm r.name q ∙ e))
      ∙ ap (λ l. glue_in q old ++ l) (sym (passes true e))
  by false e = found false e ∙ sym (append-nil (glue_in q old)) ∙ ap (λ l. glue_in q old ++ l) (sym (passes false e))

  -- an address that is put to those of its owner
  pub added_address : glue_in q new ≡ glue_in q old ++ filter (is_address_of q) (r ∷ [])
  added_address = by (name_eq q r.name) refl

module _ (old mid new : BTreeMap NameValue (List RecordValue)) (owner : NameValue) (glue : List RecordValue) (r : RecordValue)
    (is : (is_of_type type.A r || is_of_type type.AAAA r) ≡ true) (named : owner ≡ r.name)
    (taken : (q : NameValue) → get name_cmp mid q ≡ cond (is_at (name_cmp owner) q) None (get name_cmp old q))
    (put : (q : NameValue) → get name_cmp new q ≡ cond (is_at (name_cmp owner) q) (Some glue) (get name_cmp mid q))
    (joined : glue ≡ glue_in owner old ++ r ∷ []) where
  twice : {X : Type 0} (b : Bool) (v o : Option X) → cond b v (cond b None o) ≡ cond b v o
  twice true v o = refl
  twice false v o = refl

  given_at : (q : NameValue) → get name_cmp new q ≡ cond (is_at (name_cmp r.name) q) (Some (glue_in r.name old ++ r ∷ [])) (get name_cmp old q)
  given_at q =
      put q ∙ ap (λ o. cond (is_at (name_cmp owner) q) (Some glue) o) (taken q)
      ∙ twice (is_at (name_cmp owner) q) (Some glue) (get name_cmp old q)
      ∙ ap (λ l. cond (is_at (name_cmp owner) q) (Some l) (get name_cmp old q)) joined
      ∙ ap (λ n. cond (is_at (name_cmp n) q) (Some (glue_in n old ++ r ∷ [])) (get name_cmp old q)) named

  -- the same, where what the owner has is taken out and put in again with one more
  pub put_address : (q : NameValue) → glue_in q new ≡ glue_in q old ++ filter (is_address_of q) (r ∷ [])
  put_address q = added_address old new r is given_at q

module _ (m : BTreeMap NameValue (List RecordValue)) (additionals : List RecordValue) (same : (q : NameValue) → glue_in q m ≡ filter (is_address_of q) additionals) where
  forward_same : (r : RecordValue) → forward_from m r ≡ forward_of additionals r
  forward_same r = by (ns_target r.rdata)
    where
      with_glue : List RecordValue → ForwardValue
      with_glue glue = record { ns = r; glue = glue }

      by : (o : Option NameValue) → option_map (λ server. with_glue (glue_in server m)) o ≡ option_map (λ server. with_glue (filter (is_address_of server) additionals)) o
      by None = refl
      by (Some server) = ap (λ glue. Some (with_glue glue)) (same server)

  -- the name servers with what the map has for them
  pub forwards_same : (rs : List RecordValue) → filter_map (forward_from m) rs ≡ filter_map (forward_of additionals) rs
  forwards_same rs = λ i. filter_map (λ r. forward_same r i) rs

-- one more record
pub filter_more : {A : Type 0} (p : A → Bool) (xs : List A) (i : ℕ) (x : A) → i < length xs → x ≡ get_or xs i x → filter p (take i xs) ++ filter p (x ∷ []) ≡ filter p (take (i + 1) xs)
filter_more p xs i x in_range at =
    ap (λ y. filter p (take i xs) ++ filter p (y ∷ [])) at
    ∙ sym (ap (filter p) (take_more xs i x in_range) ∙ filter-append p (take i xs) (get_or xs i x ∷ []))
