-- What a configuration of bounds ends as, once a reference to it that a call handed back has ended.
use Rattle.std.specs.Prelude.{◌≡◌, Result}
use Rattle.std.specs.Borrow.{Fml, MutBor, LendsIfOk, RestsIfErr}
use Rattle.hickory_resolver_lookup.specs.contracts.ttl_config.TtlConfig.{the_row}
use Rattle.hickory_resolver_lookup.specs.declared.ttl_config.Changed.{Changed}
use Rattle.hickory_resolver_model.specs.Bounds.{ConfigValue}

-- the configuration ends as the one that was handed back ends; after an error it is as it was
abbrev pub LendsConfig : {E : Type 0} → MutBor ConfigValue → Result (MutBor ConfigValue) E → Fml
LendsConfig config result = LendsIfOk the_row the_row config result (λ last. last) config.now

-- the same where a struct has it
abbrev pub RestsConfig : {E : Type 0} → MutBor ConfigValue → Result Changed E → Fml
RestsConfig config result =
    RestsIfErr the_row config (λ changed. changed.config.ghost_name) result (λ last. last ≡ config.now)
