-- A look-up of a session with a network begins under a number that is free.
use Rattle.std.proofs.Common.{◌≡◌, ◌∙◌, ℕ, cond, nat_eq, ap, Option, None, Some, Result, Ok, Err, MatchOption}
use Rattle.hickory_resolver.specs.Contexts.{progress_of}
use Rattle.hickory_resolver.specs.Driving.{CallProgress}
use Rattle.hickory_resolver_pool.specs.Pool.{after_tick}
use Rattle.yimarotu_session.specs.Calls.{Does}
use Rattle.yimarotu_session.specs.LookupTables.{IsReordered, MakesRoom, TableValue, BeginsAt, held_at, lookup_of, queued}
use Rattle.yimarotu_session.specs.NetworkSessions.{Begins, BeginsLookup, NetworkValue}
use Rattle.yimarotu_session.specs.Sessions.{value_at}
use Rattle.yimarotu_session.specs.declared.ahead.Ahead.{Ahead}
use Rattle.yimarotu_session.specs.declared.network_lookup.NetworkLookup.{NetworkLookup}
use Rattle.yimarotu_session.specs.declared.session_error.SessionError.{SessionError}
use Rattle.yimarotu_session.specs.declared.session_error.SessionError.TheVariants.{InUse}

takes-places : (number : ℕ) (held : NetworkLookup) (ahead : Option Ahead) (before room after : TableValue)
    → IsReordered before room → BeginsAt number held ahead room after → BeginsAt number held ahead before after
takes-places number held ahead before room after reordered places = record {
  puts = λ other. places.puts other
      ∙ ap (λ (v : Option NetworkLookup). cond (nat_eq number other) (Some held) v) (reordered.lookups other);
  puts_ahead = λ other. places.puts_ahead other
      ∙ ap (λ (t : TableValue). cond (nat_eq number other) ahead (value_at other t.ahead)) reordered.others;
  others_stay = places.others_stay
      ∙ ap (λ (t : TableValue). record (queued number held t) { lookups = after.lookups; ahead = after.ahead }) reordered.others;
}

module _ (Comes : Does) (ahead : Option Ahead) (number now : ℕ) (before after : NetworkValue) (progress : CallProgress)
    (room : TableValue) where
  pub begun : MakesRoom number before.table (Ok tt) room → Comes before.resolver (progress_of progress) after.resolver
      → BeginsAt number (lookup_of progress) ahead room after.table → after.pool ≡ after_tick now before.pool
      → after.telling ≡ before.telling → BeginsLookup Comes ahead number now before (Ok tt) after
  begun made comes places pool telling = by (held_at number before.table) made
    where
      by : (held : Option NetworkLookup)
          → MatchOption held (IsReordered before.table room) (λ held. (◌≡◌ {A = Result (Unit {0}) SessionError} (Ok tt) (Err InUse)) × (room ≡ before.table))
          → MatchOption held (Begins Comes ahead number now before after) (λ held. (◌≡◌ {A = Result (Unit {0}) SessionError} (Ok tt) (Err InUse)) × (after ≡ before))
      by None reordered = record {
        progress = progress;
        comes = comes;
        begins = takes-places number (lookup_of progress) ahead before.table room after.table reordered places;
        pool_is = pool;
        telling_stays = telling;
      }
      by (Some held) (clash, same) = let never : ◌≡◌ {A = Result (Unit {0}) SessionError} (Ok tt) (Err InUse) = clash in absurd cc
