use Rattle.std.proofs.Common.{Err, sym, subst}
use Rattle.hickory_resolver_hosts.specs.Reading.{AreLinesRead, IsBytesRead}
use Rattle.hickory_resolver_hosts.specs.Text.{lines_of}
use Rattle.hickory_resolver_hosts.proofs.FileRead.{err_is}
use Rattle.hickory_resolver_hosts.proofs.FirstLine.{line_last, line_stops, line_then}
use Rattle.hickory_resolver_hosts.proofs.lines.insert_lines.Goals as goal

pub loop-line-init : goal.loop-line-init
loop-line-init g c = λ r after read.
    subst (λ bytes. AreLinesRead c.args.now (lines_of bytes) c.args.hosts.now r after) c.without_mark-rest.ensures read

pub returns-in_err-insert_line : goal.returns-in_err-insert_line
returns-in_err-insert_line g c =
    let error = c.in_err-insert_line.field-0.0 in
    subst (λ r. IsBytesRead c.args.now c.args.bytes.now c.args.hosts.now r c.insert_line.new.hosts) (err_is error c.from_residual.result c.from_residual.ensures.1)
    (c.loop-line.invariant (Err error) c.insert_line.new.hosts
    (subst (λ ls. AreLinesRead c.args.now ls c.loop-line.hosts (Err error) c.insert_line.new.hosts) (sym c.in-Some.ensures.lines)
    (line_stops c.args.now _ _ c.loop-line.hosts c.insert_line.new.hosts error c.in_err-insert_line.ensures)))

pub loop-line-preserved : goal.loop-line-preserved
loop-line-preserved g c = λ r after read.
    c.loop-line.invariant r after
    (subst (λ ls. AreLinesRead c.args.now ls c.loop-line.hosts r after) (sym c.in-Some.ensures.lines)
    (line_then c.args.now _ _ c.loop-line.hosts c.insert_line.new.hosts after r c.in_ok-insert_line.ensures read))

pub returns : goal.returns
returns g c =
    c.loop-line.invariant c.insert_line-2.result c.insert_line-2.new.hosts
    (subst (λ ls. AreLinesRead c.args.now ls c.loop-line.hosts c.insert_line-2.result c.insert_line-2.new.hosts) (sym c.in_default.ensures.lines)
    (line_last c.args.now _ c.loop-line.hosts c.insert_line-2.new.hosts c.insert_line-2.result c.insert_line-2.ensures))
