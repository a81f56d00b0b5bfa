use Rattle.resolv_conf.proofs.Numbers.{value_more}
use Rattle.resolv_conf.proofs.option_word.value_within.Goals as goal

pub loop-digit-preserved : goal.loop-digit-preserved
loop-digit-preserved c =
    let more = value_more c.args.limit c.loop-digit.value c.loop-digit.digit-index c.args.digits.now c.loop-digit-test.true c.requires c.loop-digit.invariant in
    cc
