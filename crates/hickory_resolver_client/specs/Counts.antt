-- What a record counts as, as the code has it.
use Rattle.hickory_resolver_model.specs.AliasWalk.{Counted, AliasTo, Server}
use Rattle.hickory_resolver_client.specs.declared.alias_walk.Counted as code
use Rattle.hickory_resolver_client.specs.declared.alias_walk.Counted.TheVariants as variant

abbrev pub counted_value : code.Counted → Counted
counted_value (variant.AliasTo target) = AliasTo target.now
counted_value (variant.Server target) = Server target.now
