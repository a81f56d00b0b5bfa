use Rattle.std.proofs.Common.{ℕ, List, ap, sym, ◌∙◌}
use Rattle.std.specs.Prelude.{Option}
use Rattle.std.proofs.Common.{Vec, Global}
use Rattle.std.specs.Option.{option_map}
use Rattle.hickory_resolver_traffic.specs.Inbox.{InboxState, first_on, cut_off, without_unread}
use Rattle.hickory_resolver_traffic.proofs.Refused.{if_accepted, where_found}
use Rattle.hickory_resolver_traffic.proofs.inbox.Inbox.cut.Goals as goal

pub returns-in-Some-clause-ok : goal.returns-in-Some-clause-ok
returns-in-Some-clause-ok c =
    let channel = c.args.channel in
    let before = c.args.self.now in
    let items : Vec ℕ Global → List ℕ = λ v. v.items in
    let message : List ℕ × List ℕ → List ℕ = λ f. f.0 in
    if_accepted c.cut_off.result
    (where_found (first_on channel before.streams) c.in-Some.octets.items c.cut_off.new.self (cut_off channel before)
    (without_unread before)
    (sym (ap (λ (o : Option (Vec ℕ Global)). option_map items o) c.in-Some.is) ∙ c.in_ok-octets.ensures
    ∙ ap (λ (s : InboxState). option_map message (first_on channel s.streams)) c.self.view_is))
    c.cut_off.ensures.ok
