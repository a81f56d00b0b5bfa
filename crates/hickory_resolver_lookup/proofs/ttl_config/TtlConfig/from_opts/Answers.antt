use native.Mathlib.Omega.{arith}
use Rattle.std.proofs.lemmas.Grind.{common_steps}
use Rattle.hickory_resolver_lookup.proofs.ttl_config.TtlConfig.from_opts.Goals as goal

pub returns : goal.returns
returns c = grind (arith, common_steps)
