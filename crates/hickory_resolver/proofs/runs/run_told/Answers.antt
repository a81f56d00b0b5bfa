use Rattle.std.proofs.Common.{map, subst}
use Rattle.hickory_resolver_lookup.specs.Requests.{request_of}
use Rattle.hickory_resolver.specs.Listening.{HearsAll}
use Rattle.hickory_resolver.proofs.FirstCaches.{no_room}
use Rattle.hickory_resolver.proofs.ServedRuns.{all_exchanges, is_run_from}
use Rattle.hickory_resolver.proofs.runs.run_told.Goals as goal

pub returns-in-Ok-clause-run : goal.returns-in-Ok-clause-run
returns-in-Ok-clause-run g c =
    let a = c.args in
    let step = g.H.DnsHandle.step in
    let requests = map request_of a.requests.now in
    let first = c.in_ok-resolver in
    let after = c.serve_each.new.resolver in
    let s = c.in-Ok.ensures.ok in (
      s.0,
      is_run_from step a.config a.options a.hosts a.handle first.resolver first.ensures.1 first.ensures.0 requests s.0
          s.1 after s.2,
      subst (λ exchanges. HearsAll g.L.Listener.hears a.listener requests s.0 exchanges c.serve_each.new.listener)
          (all_exchanges step a.config a.options a.hosts a.handle first.resolver first.ensures.1 first.ensures.0
          requests s.0 s.1 after s.2) s.3,
    )

pub returns-in-Err-clause-refused : goal.returns-in-Err-clause-refused
returns-in-Err-clause-refused g c = no_room _ c.in_ok-resolver.ensures.0
