use Rattle.std.proofs.Common.{◌≡◌, ◌++◌, List, ℕ, ap, subst, sym, ◌∙◌}
use Rattle.hickory_proto_core.specs.Messages.{MessageValue}
use Rattle.hickory_proto_core.specs.Records.{RecordValue}
use Rattle.stored_replies.specs.Walk.{behind_records, HaveNames, HaveFields}
use Rattle.stored_replies.proofs.Walked.{fields_first, fields_next}
use Rattle.stored_replies.proofs.storing.places_of.Goals as goal

pub note_places-requires-clause-fields : goal.note_places-requires-clause-fields
note_places-requires-clause-fields c =
    let m = c.args.message.now in
    let octets = c.args.records.now in
    let answers : c.deref.result.now ≡ m.answers =
    c.deref.ensures.value ∙ ap (λ (x : MessageValue). x.answers) c.message.view_is in
    subst (λ (rs : List RecordValue). HaveFields rs octets) (sym answers) (fields_first m.answers m.authorities octets c.requires.fields)

pub note_places-requires-2-clause-fields : goal.note_places-requires-2-clause-fields
note_places-requires-2-clause-fields c =
    let m = c.args.message.now in
    let octets = c.args.records.now in
    let answers : c.deref.result.now ≡ m.answers =
    c.deref.ensures.value ∙ ap (λ (x : MessageValue). x.answers) c.message.view_is in
    let authorities : c.deref-2.result.now ≡ m.authorities =
    c.deref-2.ensures.value ∙ ap (λ (x : MessageValue). x.authorities) c.message.view_is in
    let behind : c.in_ok-rest.rest.now ≡ behind_records m.answers octets =
    c.in_ok-rest.ensures.behind ∙ ap (λ (rs : List RecordValue). behind_records rs octets) answers in
    let named : HaveNames m.answers = subst HaveNames answers c.in_ok-rest.ensures.valid in
    subst (λ (rs : List RecordValue). HaveFields rs c.in_ok-rest.rest.now) (sym authorities)
    (subst (HaveFields m.authorities) (sym behind) (fields_next m.answers m.authorities octets named c.requires.fields))
