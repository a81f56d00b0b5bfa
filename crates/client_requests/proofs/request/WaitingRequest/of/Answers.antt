use Rattle.client_requests.proofs.Short.{still_short}
use Rattle.client_requests.specs.declared.choices.TheConstants.{LONGEST_QUESTION}
use Rattle.client_requests.proofs.request.WaitingRequest.of.Goals as goal

pub invariant_of-result : goal.invariant_of-result
invariant_of-result c =
    rw (c.in_ok-octets.ensures.items, c.first.ensures)
    (still_short c.request.inside.octets.now LONGEST_QUESTION c.in-Some.end c.request.inside.query.question_end c.in-Some.is
    c.request.invariant)
