use Rattle.std.proofs.Common.{◌≡◌, ◌++◌, drop}
use Rattle.std.specs.List.{filter_map}
use Rattle.std.specs.Option.{option_copied, option_to_list}
use Rattle.hickory_resolver_model.specs.Attempts.{joined_name}
use Rattle.hickory_resolver_attempts.proofs.search.joined_names.Given as goal

abbrev pub invariant-loop-domain : goal.invariant-loop-domain
invariant-loop-domain l =
    l.names.items ++ filter_map (joined_name l.name) (drop l.domain-index l.search)
    ≡ filter_map (joined_name l.name) (option_to_list (option_copied l.fn.domain) ++ l.search)
