use Rattle.std.proofs.Common.{◌∙◌, sym}
use Rattle.hickory_resolver_client.proofs.Selecting.{none_led_in}
use Rattle.hickory_resolver_client.proofs.verdict.leads_to_match.Goals as goal

pub returns-else-leads_on : goal.returns-else-leads_on
returns-else-leads_on c = c.if-leads_on.false ∙ sym (none_led_in c.args.query.now c.args.walk.now c.args.message.now (sym c.leads_on.ensures.parts ∙ c.if-leads_on.false))
