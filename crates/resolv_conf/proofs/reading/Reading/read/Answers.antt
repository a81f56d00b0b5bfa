use Rattle.std.proofs.Common.{◌∙◌, ap}
use Rattle.resolv_conf.specs.Said.{lines_said, with_said}
use Rattle.resolv_conf.specs.Text.{lines_left}
use Rattle.resolv_conf.proofs.SaidLemmas.{lines_left_le}
use Rattle.resolv_conf.proofs.reading.Reading.read.Goals as goal

pub loop-line-init : goal.loop-line-init
loop-line-init c =
    let all = ap (λ s. lines_left s.rest) c.into_iter-line-iterator.ensures.into_iter_gives ∙ c.new-line-items.ensures in
    record {
      room = lines_left_le c.args.octets.now _ all;
      said = ap (λ ls. with_said c.args.self.now (lines_said c.args.last 1 ls)) all;
    }
