use Rattle.std.proofs.Common.{◌∙◌, ap, sym}
use Rattle.std.specs.Option.{option_map, option_copied}
use Rattle.hickory_resolver_model.specs.Cache.{CacheValue, current}
use Rattle.hickory_resolver_cache.specs.Turns.{shown, shown_entry}
use Rattle.hickory_resolver_cache.proofs.Store.{apart-pairs, current-some, current-past, current-missing}
use Rattle.hickory_resolver_cache.proofs.response_cache.ResponseCache.current.Goals as goal

pub returns-in_err-kept : goal.returns-in_err-kept
returns-in_err-kept g c =
    ap (λ o. option_map shown (option_copied o)) c.from_residual.ensures
    ∙ current-missing c.self.inside.next_number c.self.inside.index.entries c.self.invariant.0.kept.numbers (apart-pairs c.self.inside.next_number c.self.inside.index.entries c.self.invariant.0.kept.numbers c.self.invariant.0.apart) c.args.query.now c.args.now (sym (ap option_copied c.in_err-kept.was) ∙ c.get.ensures.value)
    ∙ ap (λ (v : CacheValue). option_map shown_entry (current c.args.query.now c.args.now v.entries)) c.self.view_is

pub returns-then-now-kept : goal.returns-then-now-kept
returns-then-now-kept g c =
    current-some c.self.inside.next_number c.self.inside.index.entries c.self.invariant.0.kept.numbers (apart-pairs c.self.inside.next_number c.self.inside.index.entries c.self.invariant.0.kept.numbers c.self.invariant.0.apart) c.args.query.now c.args.now c.in_ok-kept.kept.now (sym (ap option_copied c.in_ok-kept.was) ∙ c.get.ensures.value) c.if-now-kept.true
    ∙ ap (λ (v : CacheValue). option_map shown_entry (current c.args.query.now c.args.now v.entries)) c.self.view_is

pub returns-else-now-kept : goal.returns-else-now-kept
returns-else-now-kept g c =
    current-past c.self.inside.next_number c.self.inside.index.entries c.self.invariant.0.kept.numbers (apart-pairs c.self.inside.next_number c.self.inside.index.entries c.self.invariant.0.kept.numbers c.self.invariant.0.apart) c.args.query.now c.args.now c.in_ok-kept.kept.now (sym (ap option_copied c.in_ok-kept.was) ∙ c.get.ensures.value) c.if-now-kept.false
    ∙ ap (λ (v : CacheValue). option_map shown_entry (current c.args.query.now c.args.now v.entries)) c.self.view_is
