use Rattle.std.specs.Char.{is_ascii_digit}
use Rattle.resolv_conf.proofs.Numbers.{list_all-front}
use Rattle.resolv_conf.proofs.option_word.leading_digits.Goals as goal

pub returns-clause-all : goal.returns-clause-all
returns-clause-all c = list_all-front is_ascii_digit c.args.text.now c.digit_len.result c.digit_len.ensures
