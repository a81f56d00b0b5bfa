-- Stores under the questions that were passed, from the last to the first.
use Rattle.std.proofs.Common.{◌≡◌, ◌∙◌, ℕ, Bool, true, false, not, ◌||◌, List, [], ◌∷◌, ◌++◌, min, Result, Ok, Err, OnErr, if◌then◌else◌, refl, sym, ap, ap₂, subst, inl, append_assoc}
use Rattle.std.proofs.lemmas.List.{append-nil}
use Rattle.hickory_proto_core.specs.Handles.{OutcomeValue}
use Rattle.hickory_proto_core.specs.NetErrors.{is_no_records_found}
use Rattle.hickory_proto_core.specs.ResponseKind.{is_empty}
use Rattle.hickory_proto_core.specs.declared.query.Query.{Query}
use Rattle.hickory_proto_core.specs.declared.net_error.NetError.{NetError}
use Rattle.hickory_proto_core.specs.declared.net_error.NetError.TheVariants.{Message, Timeout, Proto, Dns, NoOutcome, Bounds, OutOfMemory}
use Rattle.hickory_proto_core.specs.declared.net_error.DnsError.TheVariants.{ResponseCode, NoRecordsFound}
use Rattle.hickory_resolver_model.specs.Cache.{CacheValue, store_until}
use Rattle.hickory_resolver_model.specs.Lookup.{LookupResult}
use Rattle.hickory_resolver_model.specs.Hops.{Store, store_of, as_outcome, result_until, is_kept, earlier_store, after_store, after_stores, PassedValue, limit_of, earlier_stores}
use Rattle.hickory_resolver_client.specs.Steps.{RunsOutAmong, IsFinished}

pub after_stores-append : (xs ys : List Store) (cache : CacheValue) → after_stores (xs ++ ys) cache ≡ after_stores ys (after_stores xs cache)
after_stores-append [] ys cache = refl
after_stores-append (x ∷ xs) ys cache = after_stores-append xs ys (after_store x cache)

-- the last question is stored first, with the lesser of its own limit and that of the hop after it
limit_of-push : (passed : List PassedValue) (p : PassedValue) (limit : ℕ) → limit_of (passed ++ p ∷ []) limit ≡ limit_of passed (min p.limit limit)
limit_of-push [] p limit = refl
limit_of-push (q ∷ qs) p limit = ap (min q.limit) (limit_of-push qs p limit)

earlier_stores-push : (reply : LookupResult) (now limit : ℕ) (passed : List PassedValue) (p : PassedValue) → earlier_stores reply now limit (passed ++ p ∷ []) ≡ earlier_store reply now p.query (min p.limit limit) ∷ earlier_stores reply now (min p.limit limit) passed
earlier_stores-push reply now limit [] p = refl
earlier_stores-push reply now limit (q ∷ qs) p =
    ap₂ (λ ss n. ss ++ earlier_store reply now q.query n ∷ []) (earlier_stores-push reply now limit qs p) (limit_of-push (q ∷ qs) p limit)

-- of all the stores these are left, and the cache has the others
pub record StoredSoFar (rest all : List Store) (before after : CacheValue) : Type 0 where
  pub front : List Store
  pub parts : front ++ rest ≡ all
  pub after_is : after ≡ after_stores front before

-- what is left to store, of all, and the limit that comes of it
pub record StoresOn (reply : LookupResult) (now limit first : ℕ) (passed all : List PassedValue) (before after : CacheValue) : Type 0 where
  pub stored : StoredSoFar (earlier_stores reply now limit passed) (earlier_stores reply now first all) before after
  pub same_limit : limit_of passed limit ≡ limit_of all first

stored_more : (now : ℕ) (reply : LookupResult) (limit first : ℕ) (passed earlier all : List PassedValue) (p : PassedValue) (outcome : OutcomeValue) (before mid after : CacheValue) → earlier ≡ passed ++ p ∷ [] → outcome ≡ as_outcome p.query reply → StoresOn reply now limit first earlier all before mid → after ≡ store_until mid p.query outcome now (min p.limit limit) → StoresOn reply now (min p.limit limit) first passed all before after
stored_more now reply limit first passed earlier all p outcome before mid after popped made on e =
    let k = on.stored in
    let lower = min p.limit limit in
    let s = earlier_store reply now p.query lower in
    record {
      stored = record {
        front = k.front ++ s ∷ [];
        parts = append_assoc k.front (s ∷ []) (earlier_stores reply now lower passed)
            ∙ ap (λ ss. k.front ++ ss) (sym (ap (earlier_stores reply now limit) popped ∙ earlier_stores-push reply now limit passed p))
            ∙ k.parts;
        after_is = e ∙ ap (λ o. store_until mid p.query o now lower) made ∙ ap (after_store s) k.after_is ∙ sym (after_stores-append k.front (s ∷ []) before);
      };
      same_limit = sym (ap (λ ps. limit_of ps limit) popped ∙ limit_of-push passed p limit) ∙ on.same_limit;
    }

pub stored_lower : (now : ℕ) (reply : LookupResult) (limit lower first : ℕ) (passed earlier all : List PassedValue) (p : PassedValue) (outcome : OutcomeValue) (before mid after : CacheValue) → lower ≡ min p.limit limit → earlier ≡ passed ++ p ∷ [] → outcome ≡ as_outcome p.query reply → StoresOn reply now limit first earlier all before mid → after ≡ store_until mid p.query outcome now lower
    → StoresOn reply now lower first passed all before after
stored_lower now reply limit lower first passed earlier all p outcome before mid after lowest popped made on e =
    let P : ℕ → Type 0 = λ n. after ≡ store_until mid p.query outcome now n → StoresOn reply now n first passed all before after in
    subst P (sym lowest) (stored_more now reply limit first passed earlier all p outcome before mid after popped made on) e

pub some_left : {A : Type 0} (front rest : List A) → (rest ≡ [] → ⊥) → front ++ rest ≡ [] → ⊥
some_left [] rest some e = some e
some_left (s ∷ ss) rest some e = cc

stored_beginning : (rest all : List Store) (before mid after : CacheValue) → (rest ≡ [] → ⊥) → StoredSoFar rest all before mid → after ≡ mid → RunsOutAmong all before after
stored_beginning rest all before mid after some k e = (
  (λ none. some_left k.front rest some (k.parts ∙ none)),
  record { front = k.front; back = rest; parts = k.parts; not_all = λ none. absurd (some none); after_is = e ∙ k.after_is },
)

-- memory ran out for the store under the last of the questions that were left
pub cut_before_last : (now : ℕ) (reply : LookupResult) (limit first : ℕ) (passed earlier all : List PassedValue) (p : PassedValue) (before mid after : CacheValue) → earlier ≡ passed ++ p ∷ [] → StoresOn reply now limit first earlier all before mid → after ≡ mid
    → RunsOutAmong (earlier_stores reply now first all) before after
cut_before_last now reply limit first passed earlier all p before mid after popped on e =
    stored_beginning (earlier_stores reply now limit earlier) (earlier_stores reply now first all) before mid after
    (λ none. let is = sym (ap (earlier_stores reply now limit) popped ∙ earlier_stores-push reply now limit passed p) ∙ none in cc)
    on.stored e

pub on_any_err : {T E P : Type 0} (r : Result T E) → P → OnErr r P
on_any_err (Ok v) p = tt
on_any_err (Err e) p = p

pub stored_all : (now : ℕ) (reply : LookupResult) (limit first : ℕ) (left all : List PassedValue) (before after : CacheValue) → left ≡ [] → StoresOn reply now limit first left all before after → (limit ≡ limit_of all first) × (after ≡ after_stores (earlier_stores reply now first all) before)
stored_all now reply limit first left all before after none on =
    let k = on.stored in (
      ap (λ ps. limit_of ps limit) (sym none) ∙ on.same_limit,
      k.after_is ∙ ap (λ ss. after_stores ss before) (sym (append-nil k.front) ∙ ap (λ ps. k.front ++ earlier_stores reply now limit ps) (sym none) ∙ k.parts),
    )

-- ---- a failure is not kept

pub unchanged : (error : NetError) (q : Query) (now limit : ℕ) (cache : CacheValue) → is_no_records_found error ≡ false → after_store (store_of q (Err error) now limit) cache ≡ cache
unchanged (Message text) q now limit cache none = refl
unchanged Timeout q now limit cache none = refl
unchanged (Proto e) q now limit cache none = refl
unchanged (Dns (ResponseCode code)) q now limit cache none = refl
unchanged (Dns (NoRecordsFound n)) q now limit cache none = let clash : true ≡ false = none in cc
unchanged NoOutcome q now limit cache none = refl
unchanged (Bounds e) q now limit cache none = refl
unchanged OutOfMemory q now limit cache none = refl

pub none_kept : (error : NetError) (now limit : ℕ) (passed : List PassedValue) (cache : CacheValue) → is_no_records_found error ≡ false → after_stores (earlier_stores (Err error) now limit passed) cache ≡ cache
none_kept error now limit [] cache none = refl
none_kept error now limit (p ∷ ps) cache none =
    let s = earlier_store (Err error) now p.query (limit_of (p ∷ ps) limit) in
    after_stores-append (earlier_stores (Err error) now limit ps) (s ∷ []) cache
    ∙ ap (after_store s) (none_kept error now limit ps cache none) ∙ unchanged error p.query now (limit_of (p ∷ ps) limit) cache none

pub error_until : (b : Bool) (limit : ℕ) (error : NetError) → (if b then result_until limit (Err error) else Err error) ≡ Err error
error_until true limit error = refl
error_until false limit error = refl

pub finished_failure : (passed : List PassedValue) (result : LookupResult) (limit : ℕ) (asked : Bool) (now : ℕ) (cache : CacheValue) → is_kept result ≡ false → IsFinished passed result limit asked now cache result cache
finished_failure passed (Ok l) limit asked now cache none = let clash : true ≡ false = none in cc
finished_failure passed (Err error) limit asked now cache none =
    inl (sym (error_until (asked || not (is_empty passed)) (limit_of passed limit) error), sym (none_kept error now limit passed cache none))
