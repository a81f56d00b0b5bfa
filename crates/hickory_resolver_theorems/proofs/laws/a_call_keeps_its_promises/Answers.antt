use Rattle.hickory_resolver_theorems.proofs.PromisedCalls.{promised_call}
use Rattle.hickory_resolver_theorems.proofs.laws.a_call_keeps_its_promises.Goals as goal

pub returns : goal.returns
returns g c = promised_call g.H.DnsHandle.step
