use Rattle.std.proofs.Common.{length, refl, subst, sym}
use Rattle.std.specs.Str.{chars}
use Rattle.std.specs.Str.Iter.{split_whitespace_rest, split_whitespace_steps}
use Rattle.std.proofs.lemmas.Iterator.{YieldsList}
use Rattle.std.proofs.lemmas.Iterator.Consumers.{YieldsList-turn, YieldsList-end}
use Rattle.std.proofs.lemmas.List.{length_push}
use Rattle.hickory_proto_core.specs.Records.{data_of_address}
use Rattle.hickory_resolver_hosts.specs.Reading.{IsNameField}
use Rattle.hickory_resolver_hosts.specs.Text.{words}
use Rattle.hickory_resolver_hosts.proofs.SplitFields.{splits}
use Rattle.hickory_resolver_hosts.proofs.LinesRead.{name_put, name_passed, names_all}
use Rattle.hickory_resolver_hosts.proofs.lines.insert_names.Goals as goal

pub loop-field-preserved-in-Continue-branch-3 : goal.loop-field-preserved-in-Continue-branch-3
loop-field-preserved-in-Continue-branch-3 g c =
    let fs = words (chars (split_whitespace_rest c.args.names)) in
    let yields = subst (λ s. YieldsList split_whitespace_steps (λ x. chars x.now) s fs) (sym c.into_iter-field-iterator.ensures.into_iter_gives) (splits c.args.names c.requires) in
    let here = YieldsList-turn yields c.loop-field.yielded _ c.loop-field.yielded_by _ _ c.in-Some.field c.in-Some.is c.next.ensures.steps in
    name_put c.args.now (data_of_address c.args.address) fs (length c.loop-field.yielded) _ _ c.in-Some-2.name c.args.hosts.now c.loop-field.hosts c.insert_pair.new.hosts here
    (length_push c.loop-field.yielded c.in-Some.field) c.loop-field.invariant (subst (IsNameField _) c.in-Some-2.is c.in_ok-name.ensures) c.in_ok-insert_pair.ensures.ok

pub loop-field-preserved : goal.loop-field-preserved
loop-field-preserved g c =
    let fs = words (chars (split_whitespace_rest c.args.names)) in
    let yields = subst (λ s. YieldsList split_whitespace_steps (λ x. chars x.now) s fs) (sym c.into_iter-field-iterator.ensures.into_iter_gives) (splits c.args.names c.requires) in
    let here = YieldsList-turn yields c.loop-field.yielded _ c.loop-field.yielded_by _ _ c.in-Some.field c.in-Some.is c.next.ensures.steps in
    name_passed c.args.now (data_of_address c.args.address) fs (length c.loop-field.yielded) _ _ c.args.hosts.now c.loop-field.hosts c.loop-field.hosts here
    (length_push c.loop-field.yielded c.in-Some.field) c.loop-field.invariant (subst (IsNameField _) c.in_default.is c.in_ok-name.ensures) refl

pub returns : goal.returns
returns g c =
    let fs = words (chars (split_whitespace_rest c.args.names)) in
    let yields = subst (λ s. YieldsList split_whitespace_steps (λ x. chars x.now) s fs) (sym c.into_iter-field-iterator.ensures.into_iter_gives) (splits c.args.names c.requires) in
    let done = YieldsList-end yields c.loop-field.yielded _ c.loop-field.yielded_by _ _ c.in-None.is c.next.ensures.steps in
    names_all c.args.now (data_of_address c.args.address) fs (length c.loop-field.yielded) c.args.hosts.now c.loop-field.hosts done.1 c.loop-field.invariant
