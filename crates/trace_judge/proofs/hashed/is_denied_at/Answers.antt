use Rattle.std.proofs.Common.{◌≡◌, ◌∙◌, ap, ap₂}
use Rattle.std.proofs.lemmas.Result.{IfOk-weaker}
use Rattle.hickory_proto_core.specs.Name.{trimmed_name}
use Rattle.trace_judge.specs.Hashed.{is_denied_in, is_of_chain}
use Rattle.trace_judge.specs.Index.{any_late, seen_at, type_key}
use Rattle.trace_judge.specs.MadeIndex.{is_kept_chain, late}
use Rattle.trace_judge.specs.RecordKeys.{sought_key}
use Rattle.trace_judge.specs.Making.{lasts}
use Rattle.trace_judge.proofs.Made.{chain-made}
use Rattle.trace_judge.proofs.hashed.is_denied_at.Goals as goal

pub returns : goal.returns
returns c = λ e s.
    let index = c.args.evidence.now in let class = c.args.dns_class in let until = c.args.until in
    let zone = c.in_ok-zone.zone in
    let test = is_denied_in (lasts e until) class c.args.name.now c.args.denied in
    IfOk-weaker c.any_chain.result
    (λ made. made ≡ any_late (late index until) (is_kept_chain class zone test) c.sought-received.result.now)
    (λ made. made ≡ lasts e until (is_of_chain class (trimmed_name c.args.count c.args.name.now) test))
    (λ made is. is
    ∙ ap (any_late (late index until) (is_kept_chain class zone test))
    (c.sought-received.ensures ∙ ap₂ seen_at (c.chains.ensures ∙ ap (λ v. v.gaps.chains) c.evidence.view_is)
    (ap sought_key (c.in_ok-key.ensures ∙ ap (type_key class zone) c.from.ensures)))
    ∙ chain-made e index s until class zone test
    ∙ ap (λ z. lasts e until (is_of_chain class z test)) c.in_ok-zone.ensures)
    (c.any_chain.ensures e s)
