use Rattle.std.proofs.Common.{◌∙◌, Err, ap, inl, inr, refl, string_bytes, subst}
use Rattle.std.proofs.lemmas.Result.{err_from_is_err_and}
use Rattle.replay.specs.ScriptRun.{IsRefused, IsReplayed}
use Rattle.replay.specs.Writing.{IsWritten}
use Rattle.replay.proofs.writing.replay_with_hashers.Goals as goal

pub returns-in_err-text : goal.returns-in_err-text
returns-in_err-text g c =
    let p = err_from_is_err_and c.from_residual.result c.from_residual.ensures.1 in
    let refused = subst (λ hosts. IsRefused c.args.script.now hosts c.in_err-text.field-0.0)
    c.hosts_bytes-hosts.ensures c.in_err-text.ensures.err in
    inr (c.in_err-text.field-0.0, p.1 ∙ ap Err p.2, refused, refl {a = g.W.Write.contents c.args.writer.now.inner}, c.requires)

pub returns : goal.returns
returns g c =
    let replayed = subst (λ hosts. IsReplayed c.args.script.now hosts (string_bytes c.in_ok-text.text))
    c.hosts_bytes-hosts.ensures c.in_ok-text.ensures.ok in
    let contents = g.W.Write.contents in
    let written = subst (λ bytes. IsWritten bytes (contents c.args.writer.now.inner)
    (contents c.write_whole.new.writer.inner) c.write_whole.result c.write_whole.new.writer.failed)
    c.as_bytes.ensures.value c.write_whole.ensures in
    inl (string_bytes c.in_ok-text.text, replayed, written)
