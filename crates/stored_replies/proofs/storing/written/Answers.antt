use Rattle.std.proofs.Common.{◌≡◌, ℕ, List, ◌≤◌, None, not, get_or, length, ap, subst, ◌∙◌, arith}
use Rattle.std.specs.Option.{option_map}
use Rattle.std.specs.Prelude.{◌==◌}
use Rattle.hickory_proto_wire.specs.Refused.{wire_fault}
use Rattle.hickory_proto_wire.specs.ToWire.{IsWritten}
use Rattle.hickory_proto_wire.specs.declared.wire_message.WireMessage.{WireMessage}
use Rattle.stored_replies.specs.Stored.{response_to, whole_octets}
use Rattle.stored_replies.specs.declared.choices.TheConstants.{LONGEST}
use Rattle.stored_replies.specs.declared.store_error.StoreError.TheVariants.{Unwritable}
use Rattle.stored_replies.proofs.Cut.{uncut_whole, uncut_read, says_cut, says_whole, cut_long, fault_long, fault_none}
use Rattle.stored_replies.proofs.storing.written.Goals as goal

pub returns-then-is_cut-clause-fault : goal.returns-then-is_cut-clause-fault
returns-then-is_cut-clause-fault c = λ other.
    let q = c.args.query.now in
    let k = c.args.kept in
    let o = c.in_ok-octets.octets.items in
    let w : IsWritten (response_to q k) LONGEST o =
    subst (λ (m : WireMessage). IsWritten m LONGEST o) c.in_ok-message.ensures c.in_ok-octets.ensures.written in
    let none : option_map Unwritable (wire_fault (response_to q k) LONGEST) ≡ None =
    subst (λ (m : WireMessage). option_map Unwritable (wire_fault m LONGEST) ≡ None) c.in_ok-message.ensures c.in_ok-octets.ensures.fault in
    let says = c.is_cut.ensures ∙ ap (λ (x : List ℕ). not (get_or x 2 0 == 128)) c.deref.ensures.value in
    fault_long q k none (cut_long q k o w (says_cut o c.is_cut.result says c.if-is_cut.true))

pub returns-clause-octets : goal.returns-clause-octets
returns-clause-octets c =
    let q = c.args.query.now in
    let k = c.args.kept in
    let o = c.in_ok-octets.octets.items in
    let w : IsWritten (response_to q k) LONGEST o =
    subst (λ (m : WireMessage). IsWritten m LONGEST o) c.in_ok-message.ensures c.in_ok-octets.ensures.written in
    let says = c.is_cut.ensures ∙ ap (λ (x : List ℕ). not (get_or x 2 0 == 128)) c.deref.ensures.value in
    uncut_whole q k o w (says_whole o c.is_cut.result says c.if-is_cut.false)

pub returns-clause-read : goal.returns-clause-read
returns-clause-read c =
    let q = c.args.query.now in
    let k = c.args.kept in
    let o = c.in_ok-octets.octets.items in
    let w : IsWritten (response_to q k) LONGEST o =
    subst (λ (m : WireMessage). IsWritten m LONGEST o) c.in_ok-message.ensures c.in_ok-octets.ensures.written in
    let says = c.is_cut.ensures ∙ ap (λ (x : List ℕ). not (get_or x 2 0 == 128)) c.deref.ensures.value in
    uncut_read q k o w (says_whole o c.is_cut.result says c.if-is_cut.false)

pub returns-clause-fault : goal.returns-clause-fault
returns-clause-fault c =
    let q = c.args.query.now in
    let k = c.args.kept in
    let o = c.in_ok-octets.octets.items in
    let w : IsWritten (response_to q k) LONGEST o =
    subst (λ (m : WireMessage). IsWritten m LONGEST o) c.in_ok-message.ensures c.in_ok-octets.ensures.written in
    let none : option_map Unwritable (wire_fault (response_to q k) LONGEST) ≡ None =
    subst (λ (m : WireMessage). option_map Unwritable (wire_fault m LONGEST) ≡ None) c.in_ok-message.ensures c.in_ok-octets.ensures.fault in
    let within = w.within in
    let short : length (whole_octets (response_to q k)) ≤ LONGEST =
    omega (arith, within, ap length (returns-clause-octets c)) in
    fault_none q k none short
