use Rattle.hickory_resolver_client.specs.Contexts.{progress_of}
use Rattle.hickory_resolver_client.proofs.Driven.{advances}
use Rattle.hickory_resolver_client.proofs.caching_client.CachingClient.advance.Goals as goal

pub returns : goal.returns
returns g c = record {
  advances =
      advances g.H.DnsHandle.step c.args.options c.args.waiting c.args.self.now c.ask-waiting.result.0
      c.ask-waiting.result.1 c.ask-waiting.new.self (progress_of c.resume.result) c.resume.new.self
      c.ask-waiting.ensures.same c.ask-waiting.ensures.sent c.ask-waiting.ensures.stays c.resume.ensures.resumes
      c.resume.ensures.stays;
  few = c.ask-waiting.ensures.few;
}
