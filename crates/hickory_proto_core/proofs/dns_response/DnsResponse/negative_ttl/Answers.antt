use Rattle.std.proofs.Common.{rules}
use Rattle.hickory_proto_core.proofs.dns_response.DnsResponse.negative_ttl.Goals as goal

pub returns : goal.returns
returns c = search rules
