use Rattle.hickory_proto_wire.proofs.Keeps.{keeps_second, keeps_third, made_second, made_third}
use Rattle.hickory_proto_wire.proofs.section_writer.add_sections.Goals as goal

pub returns-then-second-authorities-clause-kept : goal.returns-then-second-authorities-clause-kept
returns-then-second-authorities-clause-kept c =
    keeps_second c.args.message.now _ _ c.in_ok-first.first c.in_ok-second.second c.args.most _ _ _ _
    c.answers_of-answers.ensures c.authorities_of-authorities.ensures c.in_ok-first.ensures.kept c.if-first-answers.false
    c.in_ok-first.ensures.all c.in_ok-second.ensures.kept c.if-second-authorities.true

pub returns-then-second-authorities-clause-valid : goal.returns-then-second-authorities-clause-valid
returns-then-second-authorities-clause-valid c =
    made_second c.args.message.now c.in_ok-first.first c.in_ok-second.second _ _ c.answers_of-answers.ensures
    c.authorities_of-authorities.ensures c.in_ok-first.ensures.kept.known c.if-first-answers.false
    c.in_ok-second.ensures.kept.known c.in_ok-first.ensures.valid c.in_ok-second.ensures.valid

pub returns-clause-kept : goal.returns-clause-kept
returns-clause-kept c =
    keeps_third c.args.message.now _ _ _ c.in_ok-first.first c.in_ok-second.second c.in_ok-third.third c.args.most _ _ _ _ _ _
    c.answers_of-answers.ensures c.authorities_of-authorities.ensures c.additionals_of.ensures c.in_ok-first.ensures.kept
    c.if-first-answers.false c.in_ok-first.ensures.all c.in_ok-second.ensures.kept c.if-second-authorities.false
    c.in_ok-second.ensures.all c.in_ok-third.ensures.kept

pub returns-clause-valid : goal.returns-clause-valid
returns-clause-valid c =
    made_third c.args.message.now c.in_ok-first.first c.in_ok-second.second c.in_ok-third.third _ _ _
    c.answers_of-answers.ensures c.authorities_of-authorities.ensures c.additionals_of.ensures
    c.in_ok-first.ensures.kept.known c.if-first-answers.false c.in_ok-second.ensures.kept.known
    c.if-second-authorities.false c.in_ok-first.ensures.valid c.in_ok-second.ensures.valid c.in_ok-third.ensures.valid
