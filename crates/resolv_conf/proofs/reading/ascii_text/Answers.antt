use Rattle.std.proofs.Common.{◌∙◌, sym}
use Rattle.resolv_conf.proofs.NameWords.{ascii_utf8}
use Rattle.resolv_conf.proofs.reading.ascii_text.Goals as goal

pub returns-in-Err : goal.returns-in-Err
returns-in-Err c = absurd (c.in-Err.ensures.cases.0 (ascii_utf8 c.args.word.now (sym c.is_ascii_word.ensures ∙ c.if-not-is_ascii_word.false)))
