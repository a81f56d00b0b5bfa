-- The empty cache of a new resolver, the resolver that is made of it, and why there is none.
use Rattle.std.proofs.Common.{◌≡◌, List, [], Option, None, Some, Result, Ok, Err, refl, sym, ap, ◌∙◌, subst}
use Rattle.std.specs.Option.{option_map_or}
use Rattle.hickory_proto_core.specs.declared.bounds_error.BoundsError.{BoundsError}
use Rattle.hickory_proto_core.specs.declared.net_error.NetError.{NetError}
use Rattle.hickory_proto_core.specs.declared.net_error.NetError.TheVariants.{Bounds, OutOfMemory}
use Rattle.hickory_resolver_config.specs.ResolverConfig.{ResolverConfigValue, OptionsValue}
use Rattle.hickory_resolver_model.specs.Bounds.{bounds_fault}
use Rattle.hickory_resolver_model.specs.Cache.{CacheValue}
use Rattle.hickory_resolver_model.specs.Hosts.{Host}
use Rattle.hickory_resolver_model.specs.Options.{bounds_of}
use Rattle.hickory_resolver_model.specs.Resolver.{BuilderValue, ResolverValue, built, new_resolver}
use Rattle.hickory_resolver.specs.Transcripts.{IsNoRun}

abbrev empty_cache : OptionsValue → CacheValue
empty_cache options = record {
  capacity = options.cache_size;
  octets = options.cache_octets;
  config = record { default = bounds_of options; by_type = [] };
  entries = [];
}

-- the cache that is made for these options, or the fault of their bounds
abbrev pub cache_for : OptionsValue → Result CacheValue NetError
cache_for options = option_map_or (λ fault. Err (Bounds fault)) (bounds_fault (bounds_of options)) (Ok (empty_cache options))

abbrev made_or : CacheValue → Result CacheValue NetError → CacheValue
made_or other (Ok made) = made
made_or other (Err error) = other

first_made : (fault : Option BoundsError) (cache first : CacheValue) → Ok cache
    ≡ option_map_or (λ f. Err (Bounds f)) fault (Ok first) → (fault ≡ None) × (cache ≡ first)
first_made None cache first e = (refl, ap (made_or first) e)
first_made (Some f) cache first e = absurd (let clash : Ok cache ≡ Err (Bounds f) = e in cc)

module _ {H : Type 0} (config : ResolverConfigValue) (options : OptionsValue) (handle : H) (hosts : List Host) where
  abbrev over : CacheValue → ResolverValue H
  over cache = record {
    client = record { cache = cache; handle = handle; preserve_intermediates = options.preserve_intermediates };
    hosts = hosts;
    config = config;
    options = options;
  }

  -- a resolver whose cache was made is a new one
  pub first_over : (cache : CacheValue) → Ok cache ≡ cache_for options → (made : ResolverValue H) → made ≡ over cache
      → (bounds_fault (bounds_of options) ≡ None) × (made ≡ record (new_resolver config options handle) { hosts = hosts })
  first_over cache e made is =
      let d = first_made (bounds_fault (bounds_of options)) cache (empty_cache options) e in
      (d.0, is ∙ ap over d.1)

-- it is what a builder builds
pub built_of : {H : Type 0} (b : BuilderValue H) (config : ResolverConfigValue) (options : OptionsValue) (handle : H)
    → record { config = config; options = options; handle = handle } ≡ b → (cache : CacheValue) → Ok cache
    ≡ cache_for options → (hosts : List Host) → hosts ≡ []
    → (made : ResolverValue H) → made ≡ record {
      client = record { cache = cache; handle = handle; preserve_intermediates = options.preserve_intermediates };
      hosts = hosts;
      config = config;
      options = options;
    } → Ok made ≡ built b
built_of {H} b config options handle same cache e hosts none made is =
    let P : List Host → Type 0 = λ hs. made ≡ record {
      client = record { cache = cache; handle = handle; preserve_intermediates = options.preserve_intermediates };
      hosts = hs;
      config = config;
      options = options;
    } in
    let d = first_over config options handle [] cache e made (subst P none is) in
    let by : Option BoundsError → Result (ResolverValue H) NetError =
    λ f. option_map_or (λ fault. Err (Bounds fault)) f (Ok (new_resolver config options handle)) in
    ap (λ r. Ok r) d.1 ∙ sym (ap by d.0) ∙ ap built same

-- where the bounds are in order, there is no run only where memory ran out
pub no_room : (fault : Option BoundsError) → fault ≡ None → IsNoRun fault OutOfMemory
no_room fault none =
    let P : Option BoundsError → Type 0 = λ f. IsNoRun f OutOfMemory in
    subst P (sym none) refl
