use Rattle.std.proofs.Common.{List, ℕ, Bool, Ok, ◌++◌, ap, ap₂, sym, ◌∙◌}
use Rattle.hickory_proto_wire.specs.Messages.{message_of}
use Rattle.hickory_proto_wire.specs.Writing.{cut}
use Rattle.hickory_proto_wire.specs.Written.{header_octets, opt_octets}
use Rattle.hickory_proto_wire.proofs.Runs.{are_labels}
use Rattle.hickory_resolver_tries.specs.declared.pool_question.PoolQuestion.{PoolQuestion}
use Rattle.hickory_resolver_tries.specs.Belief.{asked_codes}
use Rattle.hickory_resolver_tries.specs.Tries.{sends_opt, edns_if, octets_sent, message_of_try, octets_of_try}
use Rattle.hickory_resolver_tries.proofs.TryOctets.{try_is, try_read}
use Rattle.hickory_resolver_tries.proofs.try_message.TryMessage.octets.Goals as goal

pub returns-clause-written : goal.returns-clause-written
returns-clause-written c =
    let q = c.self.inside.question in
    let form = c.args.form.now in
    let sent = c.sends_opt-sends_opt.ensures ∙ ap (λ (p : PoolQuestion). sends_opt p form) (sym c.self.view_is) in
    let e1 = c.in_ok-put_header.ensures ∙ ap (λ (o : List ℕ). o ++ header_octets (message_of_try q form) 0) c.in_ok-out.ensures.items in
    let e2 = c.in_ok-put_name.ensures ∙ ap (λ (o : List ℕ). o ++ octets_sent form.letters c.deref.result.now) e1 in
    let e3 = c.in_ok-put_codes.ensures ∙ ap (λ (o : List ℕ). o ++ asked_codes q.query) e2 in
    let e4 = c.in_ok-put_opt.ensures ∙ ap₂ (λ (o : List ℕ) (s : Bool). o ++ opt_octets (edns_if s q.opt) 0) e3 sent in
    let valid = are_labels q.query.name.labels c.self.invariant.2 in
    e4 ∙ try_is q form c.deref.result.now (c.deref.ensures.value ∙ c.self.invariant.0) valid.short
    ∙ ap (λ (p : PoolQuestion). octets_of_try p form) c.self.view_is

pub returns-clause-read : goal.returns-clause-read
returns-clause-read c =
    let q = c.self.inside.question in
    let form = c.args.form.now in
    ap message_of (returns-clause-written c) ∙ ap (λ (p : PoolQuestion). message_of (octets_of_try p form)) (sym c.self.view_is)
    ∙ try_read q form c.self.invariant.1 c.self.invariant.2
    ∙ ap (λ (p : PoolQuestion). Ok (cut (message_of_try p form) 0)) c.self.view_is
