use Rattle.std.proofs.Common.{◌≡◌, length}
use Rattle.hickory_resolver_model.specs.Cache.{all_weight, with_room}
use Rattle.hickory_resolver_cache.specs.Octets.{IsPutIn}
use Rattle.hickory_resolver_cache.specs.Turns.{Pair, entries_of}
use Rattle.hickory_resolver_cache.proofs.weighed.shed.Given as goal

abbrev pub invariant-loop-own : goal.invariant-loop-own
invariant-loop-own g l =
    record {
      put : (p : Pair) → IsPutIn l.own p l.initial.index.entries l.initial.order → IsPutIn l.own p l.index.entries l.order;
      held : l.left ≡ all_weight (entries_of l.index.entries l.own.1);
      same :
          with_room (length (entries_of l.index.entries l.own.1)) l.capacity l.room (entries_of l.index.entries l.own.1)
          ≡ with_room (length (entries_of l.initial.index.entries l.own.1)) l.capacity l.room (entries_of l.initial.index.entries l.own.1);
    }

abbrev pub decreases-loop-own : goal.decreases-loop-own
decreases-loop-own g l = length l.index.entries
