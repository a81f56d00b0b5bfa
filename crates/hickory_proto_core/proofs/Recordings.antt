-- What a handle that records is led by, the handle below it is led by.
use Rattle.std.proofs.Common.{◌≡◌, List, [], ◌∷◌, ◌++◌, refl, sym, ap, ◌∙◌, subst, inl, inr, append_assoc}
use Rattle.std.proofs.lemmas.List.{append-nil}
use Rattle.hickory_proto_core.specs.Handles.{HandleStep, Leads, RecordedValue}
use Rattle.hickory_proto_core.specs.Recorded.{RecordedStep, RecordedAs}
use Rattle.hickory_proto_core.specs.declared.dns_request.DnsRequestOptions.{DnsRequestOptions}
use Rattle.hickory_proto_core.specs.declared.recorded.Exchange.{Exchange}

-- a handle that was led by what it answered has led the handle below it by what it kept
pub record IsRecorded
    {H : Type 0} (step : HandleStep H) (options : DnsRequestOptions) (before : RecordedValue H)
    (asks : List Exchange) (after : RecordedValue H)
    : Type 0 where
  pub kept : List Exchange
  pub recorded : RecordedAs asks kept
  pub led : Leads step options before.handle kept after.handle
  pub exchanges_are : after.exchanges ≡ before.exchanges ++ kept

pub recorded_leads : {H : Type 0} (step : HandleStep H) (options : DnsRequestOptions)
    (before after : RecordedValue H) (asks : List Exchange)
    → Leads (RecordedStep step) options before asks after → IsRecorded step options before asks after
recorded_leads step options before after [] e =
    record {
      kept = [];
      recorded = refl;
      led = ap (λ r. r.handle) e;
      exchanges_are = ap (λ r. r.exchanges) e ∙ sym (append-nil _);
    }
recorded_leads {H} step options before after (x ∷ xs) (mid, inl refused, rest) =
    let r = recorded_leads step options mid after xs rest in
    record {
      kept = r.kept;
      recorded = inl (refused.answer_is, r.recorded);
      led =
          subst (λ h. Leads step options h r.kept after.handle) (ap (λ v. v.handle) refused.unchanged) r.led;
      exchanges_are = r.exchanges_are ∙ ap (λ v. v.exchanges ++ r.kept) refused.unchanged;
    }
recorded_leads {H} step options before after (x ∷ xs) (mid, inr k, rest) =
    let r = recorded_leads step options mid after xs rest in
    let y : Exchange = record { query = x.query; outcome = k.outcome } in
    record {
      kept = y ∷ r.kept;
      recorded = inr (y, r.kept, refl, refl, k.answer_is, r.recorded);
      led = (mid.handle, k.asked, r.led);
      exchanges_are =
          r.exchanges_are ∙ ap (λ es. es ++ r.kept) k.exchanges_are
          ∙ append_assoc before.exchanges (y ∷ []) r.kept;
    }
