-- Who waits is replied to.
use Rattle.std.proofs.Common.{◌≡◌, ap}
use Rattle.std.specs.Prelude.{true, IfOk, OnErr, None, Result, Some, slice_get}
use Rattle.std.specs.Option.{is_none}
use Rattle.yimarotu_forwarder.proofs.Refused.{at_none, if_refused, if_value, none_there}
use Rattle.yimarotu_forwarder.specs.Forwarders.{ForwarderValue, ReplyingValue}
use Rattle.yimarotu_forwarder.specs.Steps.{IsLetGo, RepliesNext, RepliesTo, lets_go}
use Rattle.yimarotu_forwarder.specs.declared.steps.ForwarderAction.{ForwarderAction}
use Rattle.yimarotu_forwarder.specs.declared.steps.ForwarderAction.TheVariants as act

pub lets_go_all : {E : Type 0} (before after : ForwarderValue) (r : ReplyingValue) (result : Result ForwarderAction E)
    → is_none (slice_get r.waiting 0) ≡ true
    → IfOk result (λ action. (action ≡ act.Continue) × (after ≡ lets_go r before))
    → IfOk result (λ action. RepliesNext before (Some action) after r)
lets_go_all before after r result none gone =
    if_value (λ (action : ForwarderAction). (action ≡ act.Continue) × (after ≡ lets_go r before))
    (λ (action : ForwarderAction). RepliesNext before (Some action) after r) result
    (λ (action : ForwarderAction) (h : (action ≡ act.Continue) × (after ≡ lets_go r before)).
    at_none ((Some action ≡ Some act.Continue) × (after ≡ lets_go r before)) (RepliesTo r before (Some action) after)
    (slice_get r.waiting 0) none (ap Some h.0, h.1))
    gone

-- where that is refused for memory
pub refused_all : {A E : Type 0} (before after : ForwarderValue) (r : ReplyingValue) (result : Result A E)
    → is_none (slice_get r.waiting 0) ≡ true → OnErr result (after ≡ record before { replying = None })
    → OnErr result (IsLetGo before after r)
refused_all before after r result none gone =
    if_refused result (λ (h : after ≡ record before { replying = None }). (none_there (slice_get r.waiting 0) none, h))
    gone
