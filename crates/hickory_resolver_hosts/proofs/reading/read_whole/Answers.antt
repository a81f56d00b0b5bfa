use Rattle.std.proofs.Common.{◌<◌, ◌||◌, false, length, take, sym, ap, ◌∙◌, subst, arith}
use Rattle.std.specs.Io.KnownBytes.{Consumes}
use Rattle.hickory_resolver_hosts.proofs.Whole.{consumes_nothing, consumes_more, consumed_all}
use Rattle.hickory_resolver_hosts.proofs.reading.read_whole.Goals as goal

pub loop-init : goal.loop-init
loop-init g c =
    let start = g.R.Read.remaining c.args.source.now.inner in
    (c.requires, subst (Consumes start start) (sym c.new-bytes.ensures.items) (consumes_nothing start))

pub returns-in-Ok-eq0 : goal.returns-in-Ok-eq0
returns-in-Ok-eq0 g c =
    let start = g.R.Read.remaining c.args.source.now.inner in
    let before = g.R.Read.remaining c.loop.source.inner in
    let after = g.R.Read.remaining c.read.new.self.inner in
    let some : 0 < length c.read.new.buf = omega (arith, c.read.auto.buf) in (
      c.in-Ok-eq0.ensures.failed ∙ ap (λ b. b || false) c.loop.invariant.0,
      consumed_all start before after c.loop.bytes.items c.loop.invariant.1 (subst (λ n. Consumes before after (take n c.read.new.buf)) c.in-Ok-eq0.field-0-test c.in-Ok-eq0.ensures.bytes.0)
          (c.in-Ok-eq0.ensures.bytes.1 c.in-Ok-eq0.field-0-test some),
    )

pub loop-preserved : goal.loop-preserved
loop-preserved g c =
    let start = g.R.Read.remaining c.args.source.now.inner in
    let before = g.R.Read.remaining c.loop.source.inner in
    let after = g.R.Read.remaining c.read.new.self.inner in (
      c.in-Ok.ensures.failed ∙ ap (λ b. b || false) c.loop.invariant.0,
      subst (Consumes start after) (sym c.in_ok-extend_from_slice-in-Ok.ensures.items) (consumes_more start before after c.loop.bytes.items _ c.loop.invariant.1 c.in-Ok.ensures.bytes.0),
    )
