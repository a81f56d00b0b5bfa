use Rattle.std.proofs.Common.{refl}
use Rattle.replay.proofs.Written.{behind, fails, fails_for_good, stopped, still_well, took_none, went_on}
use Rattle.replay.proofs.writing.write_whole.Goals as goal

pub loop-rest-preserved : goal.loop-rest-preserved
loop-rest-preserved g c =
    let held = g.W.Write.contents c.loop-rest.writer.inner in (
      went_on c.args.bytes.now _ held _ c.loop-rest.rest.now _ c.in-Ok.count c.loop-rest.invariant.0
          c.in-Ok.ensures.bytes (behind c.in-Ok.count c.loop-rest.rest.now),
      still_well c.loop-rest.writer.failed c.write.new.self.failed c.in-Ok.count _ c.loop-rest.invariant.1
          c.in-Ok.ensures.failed c.in-Ok.count-test.1,
    )

pub returns-in-Ok-eq0 : goal.returns-in-Ok-eq0
returns-in-Ok-eq0 g c =
    let held = g.W.Write.contents c.loop-rest.writer.inner in
    let taken = c.in-Ok-eq0.field-0 in (
      refl,
      fails c.loop-rest.writer.failed c.write.new.self.failed taken _ c.loop-rest.invariant.1
          c.in-Ok-eq0.ensures.failed c.in-Ok-eq0.field-0-test c.loop-rest-test.ensures,
      took_none c.args.bytes.now _ held _ c.loop-rest.rest.now taken c.loop-rest.invariant.0 c.in-Ok-eq0.ensures.bytes
          c.in-Ok-eq0.field-0-test,
    )

pub returns-in-Err : goal.returns-in-Err
returns-in-Err g c =
    let held = g.W.Write.contents c.loop-rest.writer.inner in (
      refl,
      fails_for_good c.loop-rest.writer.failed c.write.new.self.failed c.in-Err.ensures.failed,
      stopped c.args.bytes.now _ held _ c.loop-rest.rest.now c.loop-rest.invariant.0 c.in-Err.ensures.bytes,
    )
