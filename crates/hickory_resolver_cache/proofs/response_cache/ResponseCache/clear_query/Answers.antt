use Rattle.std.proofs.Common.{◌∙◌, ◌≤◌, ap, ap₂, sym, subst}
use Rattle.std.specs.Option.{ForSome}
use Rattle.hickory_resolver_cache.specs.Octets.{AreWeighed, most_of}
use Rattle.hickory_resolver_cache.proofs.Held.{gone-held, most-lowered, weighed-gone}
use Rattle.std.specs.List.{AllByRecursion}
use Rattle.hickory_resolver_model.specs.Cache.{OutlivesNoAnswer, without_query}
use Rattle.hickory_resolver_cache.specs.Turns.{entries_of}
use Rattle.hickory_resolver_cache.proofs.Apart.{apart-without}
use Rattle.hickory_resolver_cache.proofs.Laws.{AreApart}
use Rattle.hickory_resolver_cache.proofs.Store.{kept-left, drops}
use Rattle.hickory_resolver_cache.proofs.Timely.{timely-without}
use Rattle.hickory_resolver_cache.proofs.response_cache.ResponseCache.clear_query.Goals as goal

pub invariant_of-self : goal.invariant_of-self
invariant_of-self g c =
    let next = c.self.inside.next_number in
    let ps = c.self.inside.index.entries in
    let rs = c.take_out-gone.new.index.entries in
    let query = c.args.query.now in
    let config = c.self.inside.ttl_config in
    let left = drops next ps c.self.invariant.0.kept.numbers c.turn_of-turn.ensures.unique query c.turn_of-turn.result c.turn_of-turn.ensures.found rs c.take_out-gone.ensures.gone in (
      record {
        kept = kept-left c.self.inside.capacity next ps rs c.self.inside.order c.take_out-gone.new.order c.turn_of-turn.result c.self.invariant.0.kept c.take_out-gone.ensures.gone c.take_out-gone.ensures.turn_gone;
        apart = subst AreApart (sym left) (apart-without query (entries_of ps next) c.self.invariant.0.apart);
        timely = subst (AllByRecursion (OutlivesNoAnswer config)) (sym left) (timely-without config query (entries_of ps next) c.self.invariant.0.timely);
      },
      subst (λ o. AreWeighed o next rs) (sym c.lowered-self-inside.ensures) (weighed-gone c.self.inside.octets next ps rs c.turn_of-turn.result c.take_out-gone.result c.self.invariant.1 c.self.invariant.0.kept.numbers c.take_out-gone.ensures.gone c.take_out-gone.ensures.weight),
    )

pub returns : goal.returns
returns g c =
    let next = c.self.inside.next_number in
    let ps = c.self.inside.index.entries in
    let query = c.args.query.now in
    let left = drops next ps c.self.invariant.0.kept.numbers c.turn_of-turn.ensures.unique query c.turn_of-turn.result c.turn_of-turn.ensures.found c.take_out-gone.new.index.entries c.take_out-gone.ensures.gone in
    ap₂ (λ o l. record { capacity = c.self.inside.capacity; octets = o; config = c.self.inside.ttl_config; entries = l }) (ap most_of c.lowered-self-inside.ensures ∙ most-lowered c.self.inside.octets c.take_out-gone.result) left
    ∙ ap (λ v. without_query v query) c.self.view_is

pub lowered-self-inside-requires : goal.lowered-self-inside-requires
lowered-self-inside-requires g c =
    subst (λ n. ForSome c.self.inside.octets (λ o. n ≤ o.held)) (sym c.take_out-gone.ensures.weight)
    (gone-held c.self.inside.octets c.self.inside.next_number c.self.inside.index.entries c.take_out-gone.new.index.entries c.turn_of-turn.result c.self.invariant.1 c.self.invariant.0.kept.numbers c.take_out-gone.ensures.gone)
