use Rattle.std.proofs.Common.{◌∙◌, ap}
use Rattle.resolv_conf.specs.Names.{last_domains_line}
use Rattle.resolv_conf.specs.Text.{lines_left}
use Rattle.resolv_conf.proofs.SaidLemmas.{lines_left_le, or_nothing}
use Rattle.resolv_conf.proofs.configuration.last_domains_line.Goals as goal

pub loop-line-init : goal.loop-line-init
loop-line-init c =
    let all = ap (λ s. lines_left s.rest) c.into_iter-line-iterator.ensures.into_iter_gives ∙ c.new-line-items.ensures in
    record {
      room = lines_left_le c.args.octets.now _ all;
      found = or_nothing _ ∙ ap (last_domains_line 1) all;
    }
