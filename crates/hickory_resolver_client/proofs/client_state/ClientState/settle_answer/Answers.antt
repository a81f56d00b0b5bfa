use Rattle.std.proofs.Common.{◌∙◌, ap, arith}
use Rattle.std.specs.Option.{option_map_or}
use Rattle.hickory_resolver_model.specs.Cache.{last_moment}
use Rattle.hickory_resolver_model.specs.Hops.{alias_deadline}
use Rattle.hickory_resolver_client.specs.Contexts.{state_context}
use Rattle.hickory_resolver_client.proofs.Settling.{settle_exists, settle_none, settle_last, settle_next}
use Rattle.hickory_resolver_client.proofs.client_state.ClientState.settle_answer.Goals as goal

pub returns-then-depth-lt7-clause-settled : goal.returns-then-depth-lt7-clause-settled
returns-then-depth-lt7-clause-settled g c =
    settle_next (state_context c.args.self.now c.args.now) c.args.hop c.args.depth c.args.response _ _ _ _ _ (ap (λ v. v.preserve_intermediates) c.self.view_is) c.hop.view_is c.in_ok-verdict.ensures.ok c.in_ok-verdict.ensures.alias_ttl (c.alias_limit-limit.ensures ∙ ap (λ config. option_map_or (alias_deadline config c.args.now) c.in_ok-verdict.field-0.alias_ttl last_moment) (c.ttl_config.ensures ∙ ap (λ v. v.cache.config) c.self.view_is))
    c.in-LeadsTo.next c.in-LeadsTo.response c.in-LeadsTo.is c.if-depth-lt7.true

pub returns-in-Accepted-clause-settled : goal.returns-in-Accepted-clause-settled
returns-in-Accepted-clause-settled g c =
    settle_exists (state_context c.args.self.now c.args.now) c.args.hop c.args.depth c.args.response _ _ _ _ _ (ap (λ v. v.preserve_intermediates) c.self.view_is) c.hop.view_is c.in_ok-verdict.ensures.ok c.in_ok-verdict.ensures.alias_ttl (c.alias_limit-limit.ensures ∙ ap (λ config. option_map_or (alias_deadline config c.args.now) c.in_ok-verdict.field-0.alias_ttl last_moment) (c.ttl_config.ensures ∙ ap (λ v. v.cache.config) c.self.view_is))
    c.in-Accepted.message c.in-Accepted.is _ _ c.cache_answer.ensures.settled

pub returns-else-depth-lt7-clause-settled : goal.returns-else-depth-lt7-clause-settled
returns-else-depth-lt7-clause-settled g c =
    settle_last (state_context c.args.self.now c.args.now) c.args.hop c.args.depth c.args.response _ _ _ _ _ (ap (λ v. v.preserve_intermediates) c.self.view_is) c.hop.view_is c.in_ok-verdict.ensures.ok c.in_ok-verdict.ensures.alias_ttl (c.alias_limit-limit.ensures ∙ ap (λ config. option_map_or (alias_deadline config c.args.now) c.in_ok-verdict.field-0.alias_ttl last_moment) (c.ttl_config.ensures ∙ ap (λ v. v.cache.config) c.self.view_is))
    c.in-LeadsTo.next c.in-LeadsTo.response c.in-LeadsTo.is c.if-depth-lt7.false (omega arith) _ c.no_match-exhausted.ensures

pub returns-in-NoMatch-clause-settled : goal.returns-in-NoMatch-clause-settled
returns-in-NoMatch-clause-settled g c =
    settle_none (state_context c.args.self.now c.args.now) c.args.hop c.args.depth c.args.response _ _ _ _ _ (ap (λ v. v.preserve_intermediates) c.self.view_is) c.hop.view_is c.in_ok-verdict.ensures.ok c.in_ok-verdict.ensures.alias_ttl (c.alias_limit-limit.ensures ∙ ap (λ config. option_map_or (alias_deadline config c.args.now) c.in_ok-verdict.field-0.alias_ttl last_moment) (c.ttl_config.ensures ∙ ap (λ v. v.cache.config) c.self.view_is))
    c.in-NoMatch.response c.in-NoMatch.is _ c.no_match.ensures
