use Rattle.std.proofs.Common.{◌≡◌, ◌++◌, map, take, drop}
use Rattle.hickory_resolver_tries.specs.GivenBack.{respelled_query}
use Rattle.hickory_resolver_tries.proofs.letters_back.respell_queries.Given as goal

abbrev pub invariant-loop-query : goal.invariant-loop-query
invariant-loop-query l =
    take l.query-index l.queries ++ map (respelled_query l.asked) (drop l.query-index l.queries) ≡ map (respelled_query l.asked) l.fn.queries
