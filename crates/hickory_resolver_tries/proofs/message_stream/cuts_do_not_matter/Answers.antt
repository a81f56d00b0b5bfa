use Rattle.hickory_resolver_tries.proofs.Streams.{cut_anywhere}
use Rattle.hickory_resolver_tries.proofs.message_stream.cuts_do_not_matter.Goals as goal

pub returns : goal.returns
returns c = cut_anywhere
