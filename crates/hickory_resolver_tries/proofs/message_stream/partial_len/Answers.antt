use Rattle.std.proofs.Common.{arith}
use Rattle.hickory_resolver_tries.proofs.Cutting.{partial_length}
use Rattle.hickory_resolver_tries.proofs.message_stream.partial_len.Goals as goal

pub returns-clause-bounded : goal.returns-clause-bounded
returns-clause-bounded c =
    let most = partial_length c.args.held.now (λ i. omega (arith, c.type_inv.held i)) c.requires in omega arith
