use Rattle.std.proofs.Common.{rules}
use Rattle.std.specs.Option.{option_map}
use Rattle.replay_script.specs.Reader.{answered}
use Rattle.replay_script.specs.Words.{texts}
use Rattle.conversation.specs.Telling.{with_reply}
use Rattle.conversation.proofs.Held.{changed_here, stays_at_none}
use Rattle.conversation.proofs.requests.add_record.Goals as goal

pub returns-in-Some : goal.returns-in-Some
returns-in-Some c =
    let now = c.add_record.new.self in
    changed_here c.args.mark.now c.args.requests.now (c.get_mut.follows.lender now) c.in-Some.in_flight.now now (λ r. with_reply (texts c.args.fields.now) (option_map (answered c.args.section c.args.found) r.reply) r) c.add_record.result c.in-Some.ensures.value ((c.get_mut.follows.holds now).3 (search rules)) c.add_record.ensures

pub returns-in-None : goal.returns-in-None
returns-in-None c = stays_at_none c.args.mark.now c.args.requests.now c.get_mut.follows.lender-at-none c.get_mut.follows.holds-at-none
