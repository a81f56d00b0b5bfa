use Rattle.hickory_resolver_client.specs.Contexts.{progress_of}
use Rattle.hickory_resolver_theorems.proofs.PromisesHold.{promised_lookup}
use Rattle.hickory_resolver_client.proofs.Driven.{advanced, advanced_fewer, driven_done, starts_on}
use Rattle.hickory_resolver_client.proofs.caching_client.CachingClient.lookup.Goals as goal

pub loop-progress-init : goal.loop-progress-init
loop-progress-init g c =
    let stays = c.start-progress.ensures.stays in
    starts_on g.H.DnsHandle.step c.args.options c.args.now c.args.self.now c.args.query
    (progress_of c.start-progress.result) c.start-progress.new.self stays.handle_is stays.option_is
    c.start-progress.ensures.starts

pub loop-progress-smaller : goal.loop-progress-smaller
loop-progress-smaller g c =
    rw c.in-Waiting.is
    (advanced_fewer g.H.DnsHandle.step c.args.options c.in-Waiting.waiting c.loop-progress.self
    (progress_of c.advance-progress.result) c.advance-progress.new.self c.advance-progress.ensures.few
    c.advance-progress.ensures.advances)

pub loop-progress-preserved : goal.loop-progress-preserved
loop-progress-preserved g c =
    advanced g.H.DnsHandle.step c.args.options c.args.now c.args.self.now c.args.query c.in-Waiting.waiting
    c.loop-progress.self (rw c.in-Waiting.is at c.loop-progress.invariant) (progress_of c.advance-progress.result)
    c.advance-progress.new.self c.advance-progress.ensures.advances

pub returns-in-Done : goal.returns-in-Done
returns-in-Done g c =
    let is = rw c.in-Done.is at c.loop-progress.invariant in
    promised_lookup g.H.DnsHandle.step c.args.options c.args.now c.args.self.now c.args.query c.in-Done.result
    c.loop-progress.self c.start-progress.ensures.cache
    (driven_done g.H.DnsHandle.step c.args.options c.args.now c.args.self.now c.args.query c.in-Done.result
    c.loop-progress.self is)
