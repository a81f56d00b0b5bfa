use Rattle.std.proofs.Common.{rules}
use Rattle.hickory_resolver_client.proofs.caching_client.CachingClient+H.new.Goals as goal

pub returns : goal.returns
returns g c = search rules
