use Rattle.std.proofs.Common.{◌∙◌, codes, sym}
use Rattle.resolv_conf.proofs.Options.{begins-other, option_of-flag}
use Rattle.resolv_conf.proofs.option_word.option_of.Goals as goal

pub returns : goal.returns
returns c =
    let word = c.args.word.now in
    c.flag.ensures
    ∙ sym (option_of-flag word (begins-other word (codes "ndots:") c.as_slice.result.now c.as_slice.ensures c.in_default.ensures.cases)
    (begins-other word (codes "timeout:") c.as_slice-2.result.now c.as_slice-2.ensures c.in_default-strip_prefix.ensures.cases)
    (begins-other word (codes "attempts:") c.as_slice-3.result.now c.as_slice-3.ensures c.in_default-strip_prefix-2.ensures.cases))
