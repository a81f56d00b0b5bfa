-- What a cache ends as, once a reference into it has ended.
use Rattle.std.specs.Prelude.{◌≡◌, List, ⊤}
use Rattle.std.specs.Borrow.{Fml, RattleType, MutBor, follows_so}
use Rattle.std.specs.declared.hash.Hasher as hasher
use Rattle.std.specs.declared.hash.BuildHasher as builder
use mathlib.Core.Option.{none}
use Rattle.second_chance_cache.specs.SecondChance.{CacheValue, Entry}
use Rattle.second_chance_cache.specs.contracts.cache.SecondChanceCache.{the_row}

module _ (V S H : RattleType) (build : builder.Ghosts S.Denot H.Denot) (hash : hasher.Ghosts H.Denot) where
  -- it has these entries, and its bounds
  abbrev pub ends_as : MutBor (CacheValue V.Denot) → List (Entry V.Denot) → Fml
  ends_as c es =
      follows_so (the_row V S H build hash) (the_row V S H build hash) c.ghost_name none (λ _ _. ⊤)
      (λ n. n ≡ record c.now { entries = es })
