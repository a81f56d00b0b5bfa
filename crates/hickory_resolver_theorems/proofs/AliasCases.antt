-- Stores that let an alias outlive its CNAME break the clause.
use Rattle.std.proofs.Common.{◌≡◌, ◌≤◌, List, [], ◌∷◌, ◌++◌, codes, sym, subst, arith}
use Rattle.hickory_proto_core.specs.declared.query.Query.{Query}
use Rattle.hickory_proto_core.specs.declared.recorded.Exchange.{Exchange}
use Rattle.hickory_resolver_model.specs.Hops.{ChainEnd, Hit, Asked, Store, asks_of}
use Rattle.hickory_resolver_model.specs.Verdict.{Hop}
use Rattle.hickory_resolver_theorems.specs.Aliases.{StoreOutlivesNoAlias, StoresOutliveNoAlias}
use Rattle.hickory_resolver_theorems.specs.Worked.{name, asks_a, at_a, at_b}
use Rattle.hickory_resolver_theorems.specs.WorkedAliases.{alias_start, a_is_alias, c_is_alias, address_for, none_for_forty, entry_of_a, stored_until, AliasLifetimeCases}

-- the last of a list is one thing
last-same : (xs : List Store) (x : Store) (ys : List Store) (y : Store) → xs ++ x ∷ [] ≡ ys ++ y ∷ [] → x ≡ y
last-same [] x [] y e = cc
last-same [] x (z ∷ []) y e = cc
last-same [] x (z ∷ w ∷ ws) y e = cc
last-same (v ∷ []) x [] y e = cc
last-same (v ∷ u ∷ us) x [] y e = cc
last-same (v ∷ vs) x (z ∷ zs) y e = let rest : vs ++ x ∷ [] ≡ zs ++ y ∷ [] = cc in last-same vs x zs y rest

-- the store under the alias outlives none
last-limited : (alias : Exchange) (hop : Hop) (last : ChainEnd) (first : List Store) (own : Store) → StoresOutliveNoAlias alias_start (alias ∷ []) hop last (first ++ own ∷ []) → StoreOutlivesNoAlias alias_start (alias ∷ asks_of hop last) last own
last-limited alias hop last first own (later, found, e, for, limited, rest) =
    subst (StoreOutlivesNoAlias alias_start (alias ∷ asks_of hop last) last) (last-same later found first own (sym e)) limited

abbrev for_b : Query
for_b = asks_a (name (codes "b"))

abbrev for_a : Query
for_a = asks_a (name (codes "a"))

abbrev for_c : Query
for_c = asks_a (name (codes "c"))

pub alias_lifetime_cases : AliasLifetimeCases
alias_lifetime_cases = record {
  an_answer_outlives_its_alias = λ stores.
      let late : 104 ≤ 9 = (last-limited a_is_alias at_b (Asked (address_for for_b)) (stored_until for_b (address_for for_b) 104 ∷ []) (stored_until for_a (address_for for_a) 104) stores).0.0.0 in
      omega (arith, late);
  a_negative_answer_outlives_its_alias = λ stores.
      let late : 44 ≤ 9 = (last-limited a_is_alias at_b (Asked none_for_forty) (stored_until for_b none_for_forty 44 ∷ []) (stored_until for_a none_for_forty 44) stores).0.0.0 in
      omega (arith, late);
  the_deadline_of_a_hit_does_not_limit = λ stores.
      let late : 54 ≤ 5 = (last-limited c_is_alias at_a (Hit entry_of_a) [] (stored_until for_c (address_for for_c) 54) stores).1 in
      omega (arith, late);
}
