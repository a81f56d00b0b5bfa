-- What is set, when one more setting comes.
use Rattle.std.proofs.Common.{◌≡◌, ◌∙◌, Bool, false, List, [], ◌∷◌, ◌++◌, Option, None, Some, refl, ap}
use Rattle.std.proofs.lemmas.List.{append-nil}
use Rattle.hickory_proto_core.specs.Name.{NameValue}
use Rattle.hickory_resolver_config.specs.ResolverConfig.{OptionsValue, default_options}
use Rattle.replay_script.specs.OptionLine.{with_option}
use Rattle.replay_script.specs.Configuration.{options_from, domain_from, search_in, table_from, configured, with_setting}
use Rattle.replay_script.specs.declared.setting.Setting.{Setting}
use Rattle.replay_script.specs.declared.setting.Setting.TheVariants as set

options_from-push : (options : OptionsValue) (ss : List Setting) (s : Setting) → options_from options (ss ++ s ∷ []) ≡ options_from (options_from options ss) (s ∷ [])
options_from-push options [] s = refl
options_from-push options (set.Option line ∷ ss) s = options_from-push (with_option line options) ss s
options_from-push options (set.Domain name ∷ ss) s = options_from-push options ss s
options_from-push options (set.Search name ∷ ss) s = options_from-push options ss s
options_from-push options (set.Upstream table ∷ ss) s = options_from-push options ss s

domain_from-push : (domain : Option NameValue) (ss : List Setting) (s : Setting) → domain_from domain (ss ++ s ∷ []) ≡ domain_from (domain_from domain ss) (s ∷ [])
domain_from-push domain [] s = refl
domain_from-push domain (set.Option line ∷ ss) s = domain_from-push domain ss s
domain_from-push domain (set.Domain name ∷ ss) s = domain_from-push (Some name) ss s
domain_from-push domain (set.Search name ∷ ss) s = domain_from-push domain ss s
domain_from-push domain (set.Upstream table ∷ ss) s = domain_from-push domain ss s

search_in-push : (ss : List Setting) (s : Setting) → search_in (ss ++ s ∷ []) ≡ search_in ss ++ search_in (s ∷ [])
search_in-push [] s = refl
search_in-push (set.Option line ∷ ss) s = search_in-push ss s
search_in-push (set.Domain name ∷ ss) s = search_in-push ss s
search_in-push (set.Search name ∷ ss) s = ap (λ names. name ∷ names) (search_in-push ss s)
search_in-push (set.Upstream table ∷ ss) s = search_in-push ss s

table_from-push : (table : Bool) (ss : List Setting) (s : Setting) → table_from table (ss ++ s ∷ []) ≡ table_from (table_from table ss) (s ∷ [])
table_from-push table [] s = refl
table_from-push table (set.Option line ∷ ss) s = table_from-push table ss s
table_from-push table (set.Domain name ∷ ss) s = table_from-push table ss s
table_from-push table (set.Search name ∷ ss) s = table_from-push table ss s
table_from-push table (set.Upstream chosen ∷ ss) s = table_from-push chosen ss s

pub configured-push : (ss : List Setting) (s : Setting) → configured (ss ++ s ∷ []) ≡ with_setting s (configured ss)
configured-push ss (set.Option line) = λ i. record {
  options = options_from-push default_options ss (set.Option line) i;
  domain = domain_from-push None ss (set.Option line) i;
  search = (search_in-push ss (set.Option line) ∙ append-nil _) i;
  table = table_from-push false ss (set.Option line) i;
}
configured-push ss (set.Domain name) = λ i. record {
  options = options_from-push default_options ss (set.Domain name) i;
  domain = domain_from-push None ss (set.Domain name) i;
  search = (search_in-push ss (set.Domain name) ∙ append-nil _) i;
  table = table_from-push false ss (set.Domain name) i;
}
configured-push ss (set.Search name) = λ i. record {
  options = options_from-push default_options ss (set.Search name) i;
  domain = domain_from-push None ss (set.Search name) i;
  search = search_in-push ss (set.Search name) i;
  table = table_from-push false ss (set.Search name) i;
}
configured-push ss (set.Upstream table) = λ i. record {
  options = options_from-push default_options ss (set.Upstream table) i;
  domain = domain_from-push None ss (set.Upstream table) i;
  search = (search_in-push ss (set.Upstream table) ∙ append-nil _) i;
  table = table_from-push false ss (set.Upstream table) i;
}
