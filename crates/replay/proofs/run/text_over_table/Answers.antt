use Rattle.std.proofs.Common.{◌≡◌, ◌∙◌, ap, map, sym}
use Rattle.hickory_resolver.specs.Requests.{request_of}
use Rattle.replay_script.specs.Script.{config_of}
use Rattle.replay.proofs.TextSteps.{told_in_order}
use Rattle.replay.proofs.run.text_over_table.Goals as goal

pub returns-in-Ok-without_questions-clause-ok : goal.returns-in-Ok-without_questions-clause-ok
returns-in-Ok-without_questions-clause-ok g c =
    let view = c.script.view_is in
    let config_is : c.from_parts-config.result ≡ config_of c.args.script = c.from_parts-config.ensures
    ∙ (λ i. record {
      domain = (view i).domain;
      search = (view i).search;
      name_servers = c.new.ensures.items i;
    }) in
    told_in_order c.args.script c.args.hosts c.from_parts-config.result c.script.inside.options _ _ config_is
    (ap (λ s. s.options) view) (ap (λ s. s.outcomes) view)
    (ap (map request_of) c.deref-in-Ok-without_questions.ensures.value ∙ ap (λ s. s.requests) view)
    c.text_of_run-in-Ok-without_questions.result c.new-upstream.result (sym (ap (λ s. s.table) view) ∙ c.if-table.false)
    (c.new-upstream.ensures ∙ c.in-Ok-without_questions.ensures) c.text_of_run-in-Ok-without_questions.ensures.ok
