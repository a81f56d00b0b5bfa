use Rattle.std.proofs.Common.{◌≡◌, ℕ, None, List, [], ◌∷◌, ◌++◌, ◌+◌, ◌-◌, length, drop, ap, ap₂, sym, subst, ◌∙◌}
use Rattle.hickory_proto_core.specs.Name.{NameValue, label_fault}
use Rattle.hickory_proto_core.specs.Records.{RecordValue}
use Rattle.stored_replies.specs.Walk.{behind_labels, behind_data, behind_record, behind_records, places_in, HaveFields}
use Rattle.stored_replies.proofs.Walked.{names_more, places_more, fields_more, rest_more}
use Rattle.stored_replies.proofs.places.note_places.Goals as goal

pub loop-i-preserved : goal.loop-i-preserved
loop-i-preserved c =
    let i = c.loop-i.i in
    let rs = c.args.records.now in
    let r = c.index-records-i.result in
    let rest = c.loop-i.rest.now in
    let old = c.loop-i.places.items in
    let total = c.args.total in
    let name : c.found.inside.name ≡ r.name = ap (λ (x : RecordValue). x.name) c.found.view_is in
    let fields : c.behind_name-fields.result.now ≡ behind_labels r.name.labels rest =
    c.behind_name-fields.ensures.behind ∙ ap (λ (n : NameValue). behind_labels n.labels rest) name in
    let place : c.saturating_sub.result + 4 ≡ total - length (behind_labels r.name.labels rest) + 4 =
    ap (λ (n : ℕ). n + 4) (c.saturating_sub.ensures ∙ ap (λ (f : List ℕ). total - length f) fields) in
    let valid : label_fault r.name.labels ≡ None =
    ap (λ (n : NameValue). label_fault n.labels) (sym name) ∙ c.behind_name-fields.ensures.valid in
    let behind : c.behind_data-rest.result.now ≡ behind_record r rest = c.behind_data-rest.ensures ∙ ap behind_data fields in (
      ap₂ (λ (p : List ℕ) (o : List ℕ). p ++ places_in total (drop (i + 1) rs) o)
          (c.in_ok-push.ensures.items ∙ ap (λ (n : ℕ). old ++ n ∷ []) place) behind
          ∙ sym (places_more total rs i r old rest c.loop-i-test.true c.index-records-i.is)
          ∙ c.loop-i.invariant.0,
      ap (behind_records (drop (i + 1) rs)) behind ∙ sym (rest_more rs i r rest c.loop-i-test.true c.index-records-i.is)
          ∙ c.loop-i.invariant.1,
      names_more rs i r c.loop-i-test.true c.index-records-i.is c.loop-i.invariant.2 valid,
      subst (HaveFields (drop (i + 1) rs)) (sym behind) (fields_more rs i r rest c.loop-i-test.true c.index-records-i.is valid
          c.loop-i.invariant.3).1,
    )
