use Rattle.std.proofs.Common.{String, map, subst, sym, string_bytes}
use Rattle.std.specs.Global.{Global}
use Rattle.hickory_resolver.specs.Requests.{request_of}
use Rattle.hickory_resolver_model.specs.Run.{settings_of}
use Rattle.hickory_resolver.specs.Listening.{Hears, HearsAll}
use Rattle.hickory_resolver.specs.Transcripts.{NewRun}
use Rattle.replay.specs.declared.text_listener.TextListener.{TextListener}
use Rattle.replay.specs.Hearing.{AddsBlock}
use Rattle.replay.specs.ScriptRun.{IsTextOfRun}
use Rattle.replay.proofs.TextSteps.{told_run}
use Rattle.replay.proofs.run.text_of_run.Goals as goal

pub returns-in-Ok-clause-ok : goal.returns-in-Ok-clause-ok
returns-in-Ok-clause-ok g c =
    let run = c.in-Ok.ensures.run in
    let hears : Hears TextListener = λ before request sent made after. AddsBlock (string_bytes before.text) request
    sent made (string_bytes after.text) in
    let is : NewRun g.H.DnsHandle.step c.args.config c.args.options c.args.hosts c.args.upstream
    (map request_of c.args.requests.now) run.0 c.in-Ok.heard.resolver = run.1 in
    let heard : HearsAll hears (record { text = c.new-text.result }) (map request_of c.args.requests.now) run.0
    c.in-Ok.heard.resolver.client.handle.exchanges c.in-Ok.heard.listener = run.2 in
    let told : IsTextOfRun g.H.DnsHandle.step (settings_of c.args.config c.args.options c.args.hosts) c.args.upstream
    (map request_of c.args.requests.now) (string_bytes c.in-Ok.heard.listener.text) =
    told_run g.H.DnsHandle.step c.args.config c.args.options c.args.hosts c.args.upstream
    (map request_of c.args.requests.now) (λ l. string_bytes l.text) hears (λ before request sent made after adds. adds)
    (record { text = c.new-text.result }) run.0 c.in-Ok.heard.resolver c.in-Ok.heard.listener c.new-text.ensures.bytes
    is heard in
    let text_is : String Global → Type 0 = λ t. IsTextOfRun g.H.DnsHandle.step
    (settings_of c.args.config c.args.options c.args.hosts) c.args.upstream (map request_of c.args.requests.now)
    (string_bytes t) in
    subst text_is (sym c.text_of.ensures) told
