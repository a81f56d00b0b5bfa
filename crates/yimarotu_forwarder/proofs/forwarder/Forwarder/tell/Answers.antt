-- The parts of a telling are the telling.
use Rattle.std.proofs.Common.{◌∙◌, subst, sym}
use Rattle.yimarotu_forwarder.proofs.Refused.{if_done, if_refused}
use Rattle.yimarotu_forwarder.proofs.Told.{tells_now, stops_now}
use Rattle.yimarotu_forwarder.proofs.forwarder.Forwarder.tell.Goals as goal
use Rattle.yimarotu_forwarder.specs.Forwarders.{ForwarderValue}
use Rattle.yimarotu_forwarder.specs.Hearing.{GoesOn, StopsGoingOn}

-- src/hearing.rt
pub returns-in_ok-heard-in-Some-clause-ok : goal.returns-in_ok-heard-in-Some-clause-ok
returns-in_ok-heard-in-Some-clause-ok c = λ t is.
    let heard = c.in_ok-heard-in-Some.heard in
    let end = c.in_ok-end-in-Some.end in
    if_done c.go_on.result
    (λ goes. tells_now t heard c.in-Some.asker c.args.self.now c.hear_next.new.self c.go_on.new.self end
    (sym (c.next_asker.ensures t is) ∙ c.in-Some.is) (c.in_ok-end-in-Some.ensures t is)
    (c.in_ok-heard-in-Some.ensures.ok t is (sym (c.next_asker.ensures t is) ∙ c.in-Some.is))
    (subst (λ (x : ForwarderValue). GoesOn heard (record x { chain_end = end }) c.go_on.new.self)
    c.self-in-Some.view_is goes))
    c.go_on.ensures.ok

pub returns-in_ok-heard-in-Some-clause-err : goal.returns-in_ok-heard-in-Some-clause-err
returns-in_ok-heard-in-Some-clause-err c = λ t is.
    let heard = c.in_ok-heard-in-Some.heard in
    let end = c.in_ok-end-in-Some.end in
    if_refused c.go_on.result
    (λ stop. stops_now t heard c.in-Some.asker c.args.self.now c.hear_next.new.self c.go_on.new.self end
    (sym (c.next_asker.ensures t is) ∙ c.in-Some.is) (c.in_ok-end-in-Some.ensures t is)
    (c.in_ok-heard-in-Some.ensures.ok t is (sym (c.next_asker.ensures t is) ∙ c.in-Some.is))
    (subst (λ (x : ForwarderValue). StopsGoingOn heard (record x { chain_end = end }) c.go_on.new.self)
    c.self-in-Some.view_is stop))
    c.go_on.ensures.err
