use Rattle.std.proofs.Common.{◌≡◌, rules, true, nat_le, Option, Ok, sym, subst}
use Rattle.std.specs.declared.net.IpAddr.{IpAddr}
use Rattle.hickory_resolver_model.specs.Resuming.{IsDone}
use Rattle.hickory_resolver_model.specs.Resolver.{settings}
use Rattle.hickory_resolver_model.specs.Run.{address_call}
use Rattle.hickory_resolver.specs.Starting.{StartsAt}
use Rattle.hickory_resolver.proofs.Starting.{literal_started}
use Rattle.hickory_resolver.proofs.resolver.Resolver.start_host.Goals as goal

pub returns-in-Some : goal.returns-in-Some
returns-in-Some g c =
    let A : Option IpAddr → Type 0 = λ o. StartsAt c.args.now
    (address_call (settings c.args.self.now) o (Ok c.args.name) c.args.now) c.args.self.now
    (IsDone c.literal_at_once.result) c.args.self.now in
    let few : nat_le (settings c.args.self.now).search.ndots 4 ≡ true = search rules in
    subst A (sym c.in-Some.is) (literal_started c.args.self.now c.args.now c.in-Some.address c.args.name
    c.literal_at_once.result few c.literal_at_once.ensures)

pub returns-in-Some-2 : goal.returns-in-Some-2
returns-in-Some-2 g c = search rules
