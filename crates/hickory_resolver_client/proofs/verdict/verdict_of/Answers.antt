use Rattle.std.proofs.Common.{◌≡◌, ◌∙◌, ap, subst, List}
use Rattle.hickory_proto_core.specs.Records.{RecordValue}
use Rattle.hickory_proto_core.specs.Messages.{MessageValue}
use Rattle.hickory_proto_core.specs.declared.query.Query.{Query}
use Rattle.hickory_resolver_model.specs.AliasWalk.{Walk, walk_of}
use Rattle.hickory_resolver_model.specs.Verdict.{verdict}
use Rattle.hickory_resolver_client.specs.Walks.{ShowsAs}
use Rattle.hickory_resolver_client.specs.Verdicts.{hop_of}
use Rattle.hickory_resolver_client.proofs.Selecting.{decided_by}
use Rattle.hickory_resolver_client.proofs.verdict.verdict_of.Goals as goal

over : (q : Query) (walk : Walk) (one other : List RecordValue) → one ≡ other → ShowsAs (walk_of q one) walk → ShowsAs (walk_of q other) walk
over q walk one other same shown = subst (λ answers. ShowsAs (walk_of q answers) walk) same shown

pub returns-clause-ok : goal.returns-clause-ok
returns-clause-ok c =
    let q = c.args.query.now in
    let hop = hop_of q c.args.preserved.items in
    let m = c.args.response in
    let walk = c.in_ok-walk.walk in
    let shown = over q walk _ _ (c.deref.ensures.value ∙ ap (λ (n : MessageValue). n.answers) (c.message.view_is ∙ c.message-message.ensures)) c.in_ok-walk.ensures in
    c.carry_out-verdict.ensures (verdict c.args.keep hop m)
    (decided_by c.args.keep hop m _ (walk_of q m.answers) walk _ c.message-message.ensures shown c.in_ok-decision.ensures.ok)
