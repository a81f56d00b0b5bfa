-- The entry that an outcome becomes in a cache.
use Rattle.std.proofs.Common.{◌≡◌, ◌∙◌, ℕ, ◌<◌, Bool, true, false, ◌==◌, Option, None, Some, refl, ap, arith, if◌then◌else◌}
use Rattle.std.proofs.lemmas.Bool.{eqb-false}
use Rattle.hickory_proto_core.specs.Handles.{OutcomeValue}
use Rattle.hickory_proto_core.specs.declared.query.Query.{Query}
use Rattle.hickory_resolver_model.specs.Cache.{CacheValue, Entry, entry_of}
use Rattle.hickory_resolver_cache.specs.Outcome.{kept_entry}

-- where there is an entry, there is room for one
pub kept_entry-some : (c : CacheValue) (q : Query) (outcome : OutcomeValue) (now : ℕ) (e : Entry) → Some e ≡ kept_entry c q outcome now → (0 < c.capacity) × (Some e ≡ entry_of c.config q outcome now)
kept_entry-some c q outcome now e h = by (c.capacity == 0) refl
  where
    kept : Option Entry
    kept = entry_of c.config q outcome now

    by : (b : Bool) → (c.capacity == 0) ≡ b → (0 < c.capacity) × (Some e ≡ kept)
    by true none =
        let clash : Some e ≡ None = h ∙ ap (λ b. if b then None else kept) none in
        cc
    by false some =
        let full = eqb-false c.capacity 0 some in
        (omega (arith, full), h ∙ ap (λ b. if b then None else kept) some)
