use Rattle.hickory_resolver_client.specs.Contexts.{progress_of}
use Rattle.hickory_resolver_model.specs.Resolver.{call_context_of}
use Rattle.hickory_resolver_theorems.proofs.CallsEnd.{fewer_resumed}
use Rattle.hickory_resolver.proofs.DrivenCalls.{so_far_first, so_far_given, so_far_names, so_far_on}
use Rattle.hickory_resolver.proofs.driving.drive.Goals as goal

pub loop-progress-init : goal.loop-progress-init
loop-progress-init g c =
    so_far_first g.H.DnsHandle.step c.args.options c.args.hosts.now (progress_of c.args.progress) c.args.client.now

pub loop-progress-smaller : goal.loop-progress-smaller
loop-progress-smaller g c =
    let a = c.advance_call-progress.ensures.advances in
    let few = c.advance_call-progress.ensures.few in
    rw c.in-Waiting.is
    (fewer_resumed (call_context_of c.loop-progress.client c.args.hosts.now c.in-Waiting.waiting.lookup.now)
    c.in-Waiting.waiting few.0 few.1 c.loop-progress.client.cache a.outcome (progress_of c.advance_call-progress.result)
    c.advance_call-progress.new.client.cache a.resumes)

pub loop-progress-preserved : goal.loop-progress-preserved
loop-progress-preserved g c =
    so_far_on g.H.DnsHandle.step c.args.options c.args.hosts.now (progress_of c.args.progress) c.args.client.now
    c.in-Waiting.waiting c.loop-progress.client (rw c.in-Waiting.is at c.loop-progress.invariant)
    (progress_of c.advance_call-progress.result) c.advance_call-progress.new.client
    c.advance_call-progress.ensures.advances

pub returns-in-Done : goal.returns-in-Done
returns-in-Done g c =
    let d = rw c.in-Done.is at c.loop-progress.invariant in
    record {
      names = so_far_names g.H.DnsHandle.step c.args.options c.args.hosts.now (progress_of c.args.progress)
          c.args.client.now c.in-Done.result c.loop-progress.client d;
      given = so_far_given g.H.DnsHandle.step c.args.options c.args.hosts.now (progress_of c.args.progress)
          c.args.client.now c.in-Done.result c.loop-progress.client d;
    }
