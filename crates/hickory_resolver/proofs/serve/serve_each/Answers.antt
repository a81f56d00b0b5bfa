use Rattle.std.proofs.Common.{◌≡◌, ◌≤◌, ◌∙◌, ◌+◌, List, [], ◌∷◌, length, map, drop, sym, refl, ap, arith}
use Rattle.std.proofs.lemmas.Grind.{common_steps}
use Rattle.hickory_proto_core.specs.Handles.{RecordedValue}
use Rattle.hickory_proto_core.specs.declared.recorded.Exchange.{Exchange}
use Rattle.hickory_resolver_model.specs.Run.{RequestValue}
use Rattle.hickory_resolver_lookup.specs.declared.request.Request.{Request}
use Rattle.hickory_resolver_lookup.specs.Requests.{request_of}
use Rattle.hickory_resolver.specs.Replies.{reply_of}
use Rattle.hickory_resolver.proofs.ServedRuns.{kept_before, part_from, stage_made, none_served}
use Rattle.hickory_resolver.proofs.ServedRuns.{all_served, last_served, more_served}
use Rattle.hickory_resolver.proofs.serve.serve_each.Goals as goal

pub loop-request-init : goal.loop-request-init
loop-request-init g c = none_served g.H.DnsHandle.step g.L.Listener.hears g.L.Listener.fails c.args.resolver.now
    c.args.listener.now (map request_of c.args.requests.now)

pub slice_bounds-sent-count : goal.slice_bounds-sent-count
slice_bounds-sent-count g c =
    let kept : RecordedValue g.row.H.Denot → List Exchange = λ h. h.exchanges in
    let before_is : c.exchanges-before.result.now ≡ kept c.loop-request.resolver.client.handle =
    c.exchanges-before.ensures ∙ ap kept c.upstream_of.ensures in
    let after_is : c.exchanges.result.now ≡ kept c.answer_by-reply.new.resolver.client.handle =
    c.exchanges.ensures ∙ ap kept c.upstream_of-in-loop-request.ensures in
    let more = kept_before g.H.DnsHandle.step (request_of c.request-item.result) c.loop-request.resolver
    (reply_of c.answer_by-reply.result) c.answer_by-reply.new.resolver c.answer_by-reply.ensures in
    omega (arith, more, ap length before_is, ap length after_is)

pub slice_bounds-sent-start : goal.slice_bounds-sent-start
slice_bounds-sent-start g c =
    let kept : RecordedValue g.row.H.Denot → List Exchange = λ h. h.exchanges in
    let before_is : c.exchanges-before.result.now ≡ kept c.loop-request.resolver.client.handle =
    c.exchanges-before.ensures ∙ ap kept c.upstream_of.ensures in
    let after_is : c.exchanges.result.now ≡ kept c.answer_by-reply.new.resolver.client.handle =
    c.exchanges.ensures ∙ ap kept c.upstream_of-in-loop-request.ensures in
    let more = kept_before g.H.DnsHandle.step (request_of c.request-item.result) c.loop-request.resolver
    (reply_of c.answer_by-reply.result) c.answer_by-reply.new.resolver c.answer_by-reply.ensures in
    let enough : length c.exchanges-before.result.now ≤ length c.exchanges.result.now =
    omega (arith, more, ap length before_is, ap length after_is) in
    enough

pub returns-then-is_last-clause-ok : goal.returns-then-is_last-clause-ok
returns-then-is_last-clause-ok g c =
    let i = c.loop-request.request-index in
    let all = c.args.requests.now in
    let next : drop i all ≡ c.request-item.result ∷ drop (i + 1) all = grind (arith, common_steps) in
    let on : List Request → List RequestValue = λ rs. map request_of rs in
    let kept : RecordedValue g.row.H.Denot → List Exchange = λ h. h.exchanges in
    let before_is : c.exchanges-before.result.now ≡ kept c.loop-request.resolver.client.handle =
    c.exchanges-before.ensures ∙ ap kept c.upstream_of.ensures in
    let after_is : c.exchanges.result.now ≡ kept c.answer_by-reply.new.resolver.client.handle =
    c.exchanges.ensures ∙ ap kept c.upstream_of-in-loop-request.ensures in
    let sent_is = part_from (length c.exchanges-before.result.now) c.exchanges.result.now
    ∙ (λ i. drop (length (before_is i)) (after_is i)) in
    let stage = stage_made g.H.DnsHandle.step (request_of c.request-item.result) c.loop-request.resolver
    (reply_of c.answer_by-reply.result) c.answer_by-reply.new.resolver c.answer_by-reply.ensures _ _ sent_is
    c.moment.ensures refl refl in
    last_served g.H.DnsHandle.step g.L.Listener.hears g.L.Listener.fails c.args.resolver.now c.args.listener.now
    (map request_of all) _ c.loop-request.resolver c.loop-request.listener c.loop-request.invariant _ _ (ap on next)
    _ _ c.answer_by-reply.new.resolver stage c.hear.new.self c.in_ok-hear.ensures.ok
    (sym c.ends_run-is_last.ensures ∙ c.if-is_last.true)

pub loop-request-preserved : goal.loop-request-preserved
loop-request-preserved g c =
    let i = c.loop-request.request-index in
    let all = c.args.requests.now in
    let next : drop i all ≡ c.request-item.result ∷ drop (i + 1) all = grind (arith, common_steps) in
    let on : List Request → List RequestValue = λ rs. map request_of rs in
    let kept : RecordedValue g.row.H.Denot → List Exchange = λ h. h.exchanges in
    let before_is : c.exchanges-before.result.now ≡ kept c.loop-request.resolver.client.handle =
    c.exchanges-before.ensures ∙ ap kept c.upstream_of.ensures in
    let after_is : c.exchanges.result.now ≡ kept c.answer_by-reply.new.resolver.client.handle =
    c.exchanges.ensures ∙ ap kept c.upstream_of-in-loop-request.ensures in
    let sent_is = part_from (length c.exchanges-before.result.now) c.exchanges.result.now
    ∙ (λ i. drop (length (before_is i)) (after_is i)) in
    let stage = stage_made g.H.DnsHandle.step (request_of c.request-item.result) c.loop-request.resolver
    (reply_of c.answer_by-reply.result) c.answer_by-reply.new.resolver c.answer_by-reply.ensures _ _ sent_is
    c.moment.ensures refl refl in
    more_served g.H.DnsHandle.step g.L.Listener.hears g.L.Listener.fails c.args.resolver.now c.args.listener.now
    (map request_of all) _ c.loop-request.resolver c.loop-request.listener c.loop-request.invariant _ _ (ap on next)
    _ _ c.answer_by-reply.new.resolver stage c.hear.new.self c.in_ok-hear.ensures.ok
    (sym c.ends_run-is_last.ensures ∙ c.if-is_last.false)

pub returns-clause-ok : goal.returns-clause-ok
returns-clause-ok g c =
    let i = c.loop-request.request-index in
    let all = c.args.requests.now in
    let none : drop i all ≡ [] = grind (arith, common_steps) in
    let on : List Request → List RequestValue = λ rs. map request_of rs in
    all_served g.H.DnsHandle.step g.L.Listener.hears g.L.Listener.fails c.args.resolver.now c.args.listener.now
    (map request_of all) _ c.loop-request.resolver c.loop-request.listener c.loop-request.invariant (ap on none)
