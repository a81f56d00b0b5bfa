use Rattle.std.proofs.Common.{◌∙◌, ap, ap₂, List, filter}
use Rattle.hickory_proto_core.specs.Name.{NameValue}
use Rattle.hickory_proto_core.specs.Records.{RecordValue}
use Rattle.hickory_resolver_model.specs.AliasWalk.{walk_of}
use Rattle.whole_replies.specs.Ways.{is_kept, names_of}
use Rattle.whole_replies.proofs.kept_reply.keep_way.Goals as goal

pub returns : goal.returns
returns c =
    let q = c.args.query.now in
    c.keep_answers.ensures
    ∙ ap₂
    (λ (last : NameValue) (names : List NameValue). filter (is_kept q last c.args.dnssec names) c.args.answers.now.items)
    (c.in_ok-last.ensures ∙ ap (λ (rs : List RecordValue). (walk_of q rs).last) c.deref-2.ensures.value)
    (c.deref-3.ensures.value ∙ c.in_ok-names.ensures ∙ ap (λ (rs : List RecordValue). names_of q rs) c.deref.ensures.value)
