use Rattle.std.proofs.Common.{rules}
use Rattle.hickory_resolver_config.proofs.strategies.ServerOrderingStrategyDefault.default.Goals as goal

pub returns : goal.returns
returns c = search rules
