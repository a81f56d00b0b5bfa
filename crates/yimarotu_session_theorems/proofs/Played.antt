-- What happened to the resolver of a session is a list of events of its calls, as promised.
use Rattle.std.proofs.Common.{◌≡◌, List, [], ◌∷◌, ◌++◌, ℕ, refl}
use Rattle.hickory_proto_core.specs.Handles.{OutcomeValue}
use Rattle.hickory_resolver_events.specs.Events.{HappenAsPromised}
use Rattle.hickory_resolver_model.specs.Cache.{CacheValue}
use Rattle.hickory_resolver_model.specs.Hosts.{Host}
use Rattle.hickory_resolver_model.specs.Resolver.{ResolverValue, settings}
use Rattle.hickory_resolver_model.specs.Run.{Settings}
use Rattle.hickory_resolver_pool.specs.declared.limits.PoolLimits.{PoolLimits}
use Rattle.hickory_resolver_theorems.specs.InterleavedCalls.{CallEventValue, CallWorldValue, CallsHappen, call_world_of}
use Rattle.hickory_resolver_theorems.proofs.CallReplies.{replies_promised}
use Rattle.yimarotu_session.specs.NetworkSessions.{NetworkValue, new_session}
use Rattle.yimarotu_session_theorems.specs.NetworkLaws.{IsPlayedOver, SessionsPlayCalls}
use Rattle.yimarotu_session_theorems.specs.NetworkRuns.{NetworkEvent, NetworkRuns, at_first, next}
use Rattle.yimarotu_session_theorems.proofs.Changes.{happens}
use Rattle.yimarotu_session_theorems.proofs.Kept.{Kept, happen-append, kept-first}
use Rattle.yimarotu_session_theorems.proofs.Moves.{world}

-- what happens over a cache without entries is as promised
as-promised : (s : Settings) (empty : CacheValue) (first : List Host) → empty.entries ≡ []
    → (earlier : List CallEventValue) (before : CallWorldValue) → CallsHappen s (call_world_of empty first) earlier before
    → (events : List CallEventValue) (end : CallWorldValue) → CallsHappen s before events end
    → HappenAsPromised s empty first earlier before events end
as-promised s empty first none earlier before so_far [] end same = same
as-promised s empty first none earlier before so_far (event ∷ later) end (after, happens, rest) = (
  after,
  happens,
  replies_promised s empty first none earlier event before after so_far happens,
  as-promised s empty first none (earlier ++ event ∷ []) after
      (happen-append s earlier (event ∷ []) (call_world_of empty first) before after so_far (after, happens, refl)) later end rest,
)

module _ (resolver : ResolverValue (List OutcomeValue)) (limits : PoolLimits) (seed : List ℕ) where
  kept : {events : List NetworkEvent} {session : NetworkValue} → NetworkRuns (new_session resolver limits seed) events session
      → Kept resolver limits seed events session
  kept at_first = kept-first resolver limits seed
  kept (next past event before after is runs) =
      happens resolver limits seed past before (kept runs) after event is

  played : (events : List NetworkEvent) (session : NetworkValue) → Kept resolver limits seed events session
      → IsPlayedOver resolver limits seed events session
  played events session k =
      let cache = resolver.client.cache in
      let end = world resolver session.resolver.client.cache k.flights in
      record {
        past = k.past;
        pool_runs = k.runs;
        given = k.given;
        told = k.told;
        calls = k.calls;
        tells = k.tells;
        world = end;
        happen = k.happen;
        cache_is = refl;
        others_stay = k.after_is;
        fed = k.fed;
        done = k.done;
        as_calls = k.as_calls;
        promised = λ none. as-promised (settings resolver) cache resolver.hosts none [] (call_world_of cache resolver.hosts) refl k.told end k.happen;
      }

pub sessions_play_calls : SessionsPlayCalls
sessions_play_calls resolver limits seed events session runs =
    played resolver limits seed events session (kept resolver limits seed runs)
