-- The look-up of a host begins under a number that is free.
use Rattle.std.proofs.Common.{◌≡◌, false, rules, subst, sym}
use Rattle.std.specs.Option.{is_some}
use Rattle.hickory_proto_core.specs.NameGiven.{IsReadAddress, IsReadName}
use Rattle.hickory_resolver.specs.Contexts.{progress_of}
use Rattle.hickory_resolver.specs.Starting.{StartsHost}
use Rattle.yimarotu_session.proofs.Beginnings.{begins}
use Rattle.yimarotu_session.proofs.session.Session.start_ip.Goals as goal
use Rattle.yimarotu_session.specs.Calls.{BeginsHost, Does}
use Rattle.yimarotu_session.specs.Sessions.{SessionValue, lookup_at}

-- src/session.rt:73:5
pub returns : goal.returns
returns c =
    let Comes : Does = StartsHost (IsReadAddress c.args.host.now) (IsReadName c.args.host.now) c.args.now in
    let before : SessionValue = record { resolver = c.self.inside.resolver; lookups = c.self.inside.lookups.entries } in
    let progress = c.start_lookup_ip-progress.result in let after = c.keep.new.self in let result = c.keep.result in
    let same : before ≡ c.args.self.now = search rules in
    let free : is_some (lookup_at c.args.number before.lookups) ≡ false = search rules in
    let comes : Comes before.resolver (progress_of progress) after.resolver = subst (λ r. Comes before.resolver (progress_of progress) r) (sym c.keep.ensures.resolver) c.start_lookup_ip-progress.ensures.starts in
    subst (λ (s : SessionValue). BeginsHost c.args.number c.args.host.now c.args.now s result after) same
    (begins Comes c.args.number before progress after result free comes c.keep.ensures.ok c.keep.ensures.err)
