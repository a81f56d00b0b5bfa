-- What a run comes to.
use Rattle.std.specs.Prelude.{◌≡◌, List, Option, None, Some}
use Rattle.hickory_proto_core.specs.Handles.{HandleStep, RecordedValue}
use Rattle.hickory_proto_core.specs.declared.bounds_error.BoundsError.{BoundsError}
use Rattle.hickory_proto_core.specs.declared.net_error.NetError.{NetError}
use Rattle.hickory_proto_core.specs.declared.net_error.NetError.TheVariants.{Bounds, OutOfMemory}
use Rattle.hickory_resolver_config.specs.ResolverConfig.{ResolverConfigValue, OptionsValue}
use Rattle.hickory_resolver_model.specs.Bounds.{bounds_fault}
use Rattle.hickory_resolver_model.specs.Hosts.{Host}
use Rattle.hickory_resolver_model.specs.Options.{bounds_of}
use Rattle.hickory_resolver_model.specs.Resolver.{ResolverValue}
use Rattle.hickory_resolver_model.specs.Run.{RequestValue, StepValue, settings_of}
use Rattle.hickory_resolver_theorems.specs.Promises.{PromisedRun}

-- the steps, and the resolver after them, whose handle kept what was sent and what came back
pub record TranscriptValue (H : Type 0) : Type 0 where
  pub steps : List StepValue
  pub resolver : ResolverValue (RecordedValue H)

-- A run over this handle, from a new resolver with this configuration, these options and this table of hosts: the
-- bounds of the options are in order; it is a run of the definition, and all holds of it that is promised of one;
-- and of the resolver nothing has changed but the cache and the handle.
pub record NewRun
    {H : Type 0} (step : HandleStep H) (config : ResolverConfigValue) (options : OptionsValue) (hosts : List Host)
    (handle : H) (requests : List RequestValue) (steps : List StepValue)
    (after : ResolverValue (RecordedValue H))
    : Type 0 where
  pub in_order : bounds_fault (bounds_of options) ≡ None
  pub promised : PromisedRun step (settings_of config options hosts) handle requests steps
      after.client.handle.exchanges after.client.handle.handle after.client.cache
  pub resolver_is : after ≡ record {
    client =
        record {
          cache = after.client.cache;
          handle = after.client.handle;
          preserve_intermediates = options.preserve_intermediates;
        };
    hosts = hosts;
    config = config;
    options = options;
  }

-- why there is no run: the bounds of the options are reversed; where they are in order, memory ran out
abbrev pub IsNoRun : Option BoundsError → NetError → Type 0
IsNoRun (Some fault) error = error ≡ Bounds fault
IsNoRun None error = error ≡ OutOfMemory
