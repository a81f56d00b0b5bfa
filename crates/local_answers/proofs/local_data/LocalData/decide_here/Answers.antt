use Rattle.std.specs.Option.{option_map_or}
use Rattle.domain_table.specs.Domains.{found}
use Rattle.local_answers.specs.Decisions.{decided_by}
use Rattle.local_answers.specs.Special.{special_reply}
use Rattle.local_answers.specs.declared.local_data.Decision.TheVariants as decision
use Rattle.local_answers.proofs.Asking.{nothing_told}
use Rattle.local_answers.proofs.local_data.LocalData.decide_here.Goals as goal

pub returns-in-Err-clause-asked : goal.returns-in-Err-clause-asked
returns-in-Err-clause-asked g c = λ group is.
    let q = c.args.query.now in
    let ruled =
    option_map_or (λ f. decided_by q f.0 f.1) (found c.args.question_name.now c.args.self.now.rules) (decision.Ask 0) in
    c.in-Err.ensures.none (nothing_told (special_reply q) ruled group is)
