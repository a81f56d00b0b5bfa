-- The replies of a run, as the definition of a run has them.
use Rattle.hickory_resolver_model.specs.Run as served
use Rattle.hickory_resolver.specs.declared.transcript.Reply.{Reply}
use Rattle.hickory_resolver.specs.declared.transcript.Reply.TheVariants as reply

abbrev pub reply_of : Reply → served.StepReply
reply_of (reply.Lookup result) = served.LookedUp result
reply_of (reply.LookupIp result) = served.LookedUpIp result
reply_of (reply.Cleared done) = served.Cleared done
