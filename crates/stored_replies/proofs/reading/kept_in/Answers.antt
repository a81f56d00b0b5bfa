use Rattle.std.proofs.Common.{◌≡◌, ◌∙◌, false, ap, subst}
use Rattle.std.specs.Prelude.{MatchOption, Ok, Option, Some, is_ok}
use Rattle.hickory_proto_wire.specs.Messages.{message_of}
use Rattle.hickory_proto_wire.specs.declared.wire_message.WireMessage.{WireMessage}
use Rattle.stored_replies.proofs.Reread.{read_as, unread}
use Rattle.stored_replies.proofs.reading.kept_in.Goals as goal

pub returns-in-Some : goal.returns-in-Some
returns-in-Some c =
    let o = c.args.octets.now in
    let is = subst (λ (r : Option WireMessage). MatchOption r (is_ok (message_of o) ≡ false)
    (λ (m : WireMessage). message_of o ≡ Ok m)) c.in-Some.is c.in_ok-message.ensures in
    ap Some c.kept_of.ensures ∙ read_as o c.args.seconds c.in-Some.message is

pub returns-in-None : goal.returns-in-None
returns-in-None c =
    let o = c.args.octets.now in
    let not = subst (λ (r : Option WireMessage). MatchOption r (is_ok (message_of o) ≡ false)
    (λ (m : WireMessage). message_of o ≡ Ok m)) c.in-None.is c.in_ok-message.ensures in
    unread o c.args.seconds not
