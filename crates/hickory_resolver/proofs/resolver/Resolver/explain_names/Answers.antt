use Rattle.std.proofs.Common.{◌∙◌, Bool, List, Result, IfOk, ap, sym, subst}
use Rattle.hickory_proto_core.specs.Name.{NameValue}
use Rattle.hickory_proto_core.specs.declared.query.Query.{Query}
use Rattle.hickory_proto_core.specs.names.name_error.NameError.{NameError}
use Rattle.hickory_resolver_model.specs.Attempts.{attempts}
use Rattle.hickory_resolver_model.specs.Cache.{CacheValue}
use Rattle.hickory_resolver_model.specs.Hosts.{Host}
use Rattle.hickory_resolver_model.specs.Resolver.{ResolverValue, settings}
use Rattle.hickory_resolver_attempts.specs.Sought.{asks_for_all, order_of}
use Rattle.hickory_resolver.specs.Explaining.{AreAnswered, ExplainsNamed, names_questions}
use Rattle.hickory_resolver.proofs.resolver.Resolver.explain_names.Goals as goal

pub returns-in_ok-planned-in-Ok : goal.returns-in_ok-planned-in-Ok
returns-in_ok-planned-in-Ok g c =
    let s = c.args.self.now in
    let plan = order_of c.args.sought in
    let for_all = asks_for_all c.args.sought in
    let F : List Host → CacheValue → List (Query × Bool) → Type 0 = λ hosts cache qs. IfOk c.find_answerers.result (λ list. AreAnswered c.args.now hosts cache qs list.items) in
    let N : Result NameValue NameError → Type 0 = λ name. IfOk c.find_answerers.result (λ list. ExplainsNamed (settings s) s.client.cache c.args.now plan for_all name list.items) in
    let questions = c.in_ok-planned-in-Ok.ensures ∙ ap (names_questions plan for_all) (c.deref.ensures.value ∙ c.in_ok-names-in-Ok.ensures) in
    let hosts = ap (λ (v : ResolverValue _). v.hosts) c.self.view_is in
    let cache = c.cache.ensures ∙ ap (λ (v : ResolverValue _). v.client.cache) c.self.view_is in
    let all = names_questions plan for_all (attempts (settings s).search c.in-Ok.name) in
    let there = c.self.inside.hosts in
    subst N (sym c.in-Ok.is) (subst (λ h. F h s.client.cache all) hosts (subst (λ k. F there k all) cache (subst (λ qs. F there c.cache.result.now qs) questions c.find_answerers.ensures)))
