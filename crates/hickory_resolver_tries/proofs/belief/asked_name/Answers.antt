use Rattle.std.proofs.Common.{◌+◌, ◌≤◌, length, take, drop, ap, ◌∙◌, arith}
use Rattle.hickory_resolver_tries.specs.Belief.{asked_codes}
use Rattle.hickory_resolver_tries.proofs.Beliefs.{question_there, other_name, other_codes}
use Rattle.hickory_resolver_tries.proofs.belief.asked_name.Goals as goal

pub returns-then-not-is_same_name : goal.returns-then-not-is_same_name
returns-then-not-is_same_name c =
    other_name c.args.name.now (asked_codes c.args.question.now.query) c.args.octets.now c.split_at-2.result.0.now
    (c.split_at-2.ensures.front ∙ ap (take (length c.args.name.now)) c.split_at.ensures.back)
    c.if-not-is_same_name.ensures

pub returns-then-not-has_codes : goal.returns-then-not-has_codes
returns-then-not-has_codes c =
    other_codes c.args.name.now (asked_codes c.args.question.now.query) c.args.octets.now c.split_at-3.result.0.now
    (c.split_at-3.ensures.front ∙ ap (take 4) (c.split_at-2.ensures.back ∙ ap (drop (length c.args.name.now)) c.split_at.ensures.back))
    c.if-not-has_codes.ensures

pub returns : goal.returns
returns c =
    let own = c.split_at-2.ensures.front ∙ ap (take (length c.args.name.now)) c.split_at.ensures.back in
    let part = c.split_at-3.ensures.front ∙ ap (take 4) (c.split_at-2.ensures.back ∙ ap (drop (length c.args.name.now)) c.split_at.ensures.back) in
    let room : 12 + length c.args.name.now + 4 ≤ length c.args.octets.now = omega arith in (
      question_there c.args.name.now (asked_codes c.args.question.now.query) c.args.octets.now c.split_at-2.result.0.now
          c.split_at-3.result.0.now room own part c.if-not-is_same_name.ensures c.if-not-has_codes.ensures,
      own,
      c.split_at-2.ensures.front_len,
    )
