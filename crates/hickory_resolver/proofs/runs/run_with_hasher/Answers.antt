use Rattle.std.proofs.Common.{map, subst, sym}
use Rattle.hickory_resolver_lookup.specs.Requests.{request_of}
use Rattle.hickory_resolver.specs.Transcripts.{TranscriptValue, NewRun}
use Rattle.hickory_resolver.proofs.FirstCaches.{no_room}
use Rattle.hickory_resolver.proofs.ServedRuns.{is_run_from}
use Rattle.hickory_resolver.proofs.runs.run_with_hasher.Goals as goal

pub returns-in-Ok-clause-run : goal.returns-in-Ok-clause-run
returns-in-Ok-clause-run g c =
    let a = c.args in
    let step = g.H.DnsHandle.step in
    let requests = map request_of a.requests.now in
    let first = c.in_ok-resolver in
    let kept = c.in-Ok.ensures.ok in
    let P : TranscriptValue g.row.H.Denot → Type 0 =
    λ t. NewRun step a.config a.options a.hosts a.handle requests t.steps t.resolver in
    subst P (sym c.new.ensures)
    (is_run_from step a.config a.options a.hosts a.handle first.resolver first.ensures.1 first.ensures.0 requests
    c.in-Ok.steps.items kept.0 c.keep_steps.new.resolver kept.1)

pub returns-in-Err-clause-refused : goal.returns-in-Err-clause-refused
returns-in-Err-clause-refused g c = no_room _ c.in_ok-resolver.ensures.0
