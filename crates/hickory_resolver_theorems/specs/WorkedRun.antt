-- The worked case of a run of two look-ups: the first one asks, and the second one is a hit.
use Rattle.std.specs.Prelude.{◌≡◌, ℕ, true, false, List, [], ◌∷◌, codes, None, Ok, refl}
use Rattle.std.proofs.Common.{arith, inl, inr}
use Rattle.hickory_proto_core.specs.Name.{NameValue}
use Rattle.hickory_proto_core.specs.NameText.{itself, Spells}
use Rattle.hickory_proto_core.specs.codes.record_type.RecordType.TheVariants as type
use Rattle.hickory_proto_core.specs.declared.recorded.Exchange.{Exchange}
use Rattle.hickory_resolver_model.specs.Cache.{CacheValue}
use Rattle.hickory_resolver_model.specs.Lookup.{LookupValue}
use Rattle.hickory_resolver_model.specs.Verdict.{first_hop}
use Rattle.hickory_resolver_model.specs.Hops.{LookupContext, Hit, Asked, IsReply}
use Rattle.hickory_resolver_model.specs.Hosts.{HostsHave}
use Rattle.hickory_resolver_model.specs.Calls.{Client, SubLookup, IsAnsweredFor}
use Rattle.hickory_resolver_config.specs.declared.strategies.LookupIpStrategy.TheVariants.{Ipv4Only}
use Rattle.hickory_resolver_model.specs.Bounds.{no_bounds}
use Rattle.hickory_resolver_model.specs.Run.{Settings, call_context_at, RequestValue, Lookup, LookedUp, IsServed, StepValue, Stage, Run}
use Rattle.hickory_resolver_model.specs.Client.{empty_cache}
use Rattle.hickory_resolver_theorems.specs.Worked.{below, name, asks_a, rr, address, response, exchange}

abbrev pub a : NameValue
a = name (codes "a")

-- the text `a.` spells the name
abbrev pub spells_a : Spells (codes "a.") a
spells_a = record {
  pieces = (itself 97 ∷ []) ∷ [] ∷ [];
  whole = record { some = omega arith; spelled = refl; stand = refl };
  named = refl;
  valid = refl;
}

abbrev pub settings : Settings
settings = record {
  search = below None [];
  strategy = Ipv4Only;
  preserve_intermediates = false;
  capacity = 8;
  octets = None;
  bounds = no_bounds;
  request_options =
      record { recursion_desired = true; use_edns = true; edns_payload_len = 1232; case_randomization = false };
  hosts = [];
}

abbrev pub requests : List RequestValue
requests = Lookup (codes "a.") type.A 0 ∷ Lookup (codes "a.") type.A 4 ∷ []

-- ten seconds of life are left at first, and six at the second look-up
abbrev pub found : ℕ → ℕ → LookupValue
found ttl until = record { message = response (asks_a a) (rr a ttl address ∷ []); valid_until = until }

abbrev pub run_asks : List Exchange
run_asks = exchange (asks_a a) (rr a 10 address ∷ []) ∷ []

abbrev pub after_run : CacheValue
after_run =
    record (empty_cache 8) {
      entries = record {
        query = asks_a a;
        result = Ok (response (asks_a a) (rr a 10 address ∷ []));
        original_time = 0;
        valid_until = 10;
      } ∷ [];
    }

abbrev pub run_steps : List StepValue
run_steps =
    record { now = 0; exchanges = 1; reply = LookedUp (Ok (found 10 10)) }
    ∷ record { now = 4; exchanges = 0; reply = LookedUp (Ok (found 6 10)) } ∷ []

abbrev pub asked : SubLookup
asked = record { question = asks_a a; source = Client; asks = run_asks; result = Ok (found 10 10) }

abbrev hit : SubLookup
hit = record { question = asks_a a; source = Client; asks = []; result = Ok (found 6 10) }

abbrev pub start : CacheValue → ℕ → LookupContext
start cache now = record { cache = cache; now = now; preserve_intermediates = false }

pub asked_reply : IsReply (start (empty_cache 8) 0) (asks_a a) run_asks (Ok (found 10 10)) after_run
asked_reply = inl (record {
  hops =
      record {
        before = [];
        passed = [];
        last_hop = first_hop (asks_a a);
        last = Asked (Ok (response (asks_a a) (rr a 10 address ∷ [])));
        last_cache = empty_cache 8;
        leads = refl;
        short = omega arith;
        ends = ((refl, refl), λ next h. cc);
        at_once = λ e. refl;
        asks_are = refl;
        caches_are = refl;
      };
  result_is = refl;
  after_is = refl;
})

hit_reply : IsReply (start after_run 4) (asks_a a) [] (Ok (found 6 10)) after_run
hit_reply = inl (record {
  hops =
      record {
        before = [];
        passed = [];
        last_hop = first_hop (asks_a a);
        last = Hit (record {
          query = asks_a a;
          result = Ok (response (asks_a a) (rr a 10 address ∷ []));
          original_time = 0;
          valid_until = 10;
        });
        last_cache = after_run;
        leads = refl;
        short = omega arith;
        ends = (refl, refl);
        at_once = λ e. refl;
        asks_are = refl;
        caches_are = refl;
      };
  result_is = refl;
  after_is = refl;
})

pub not_in_hosts : (now : ℕ) → HostsHave (asks_a a) now [] None
not_in_hosts now = (None, λ asked. (let clash : false ≡ true = asked in cc), refl)

-- each look-up is one attempt of one sub-look-up
first_served : IsServed (λ now. IsAnsweredFor (call_context_at settings now)) settings (empty_cache 8)
    (Lookup (codes "a.") type.A 0) (asked ∷ []) (LookedUp (Ok (found 10 10))) after_run
first_served =
    inl (
      Ok a,
      spells_a,
      (
        asked ∷ [],
        [],
        Ok (found 10 10),
        after_run,
        refl,
        record {
          are = (
            type.A,
            after_run,
            refl,
            (
              refl,
              record {
                not_in_hosts = inr (not_in_hosts 0);
                reply = asked_reply;
              },
            ),
            refl,
          );
          result_is = inl (refl, refl);
        },
        inl (refl, refl, refl, refl),
      ),
    )

second_served : IsServed (λ now. IsAnsweredFor (call_context_at settings now)) settings after_run
    (Lookup (codes "a.") type.A 4) (hit ∷ []) (LookedUp (Ok (found 6 10))) after_run
second_served =
    inl (
      Ok a,
      spells_a,
      (
        hit ∷ [],
        [],
        Ok (found 6 10),
        after_run,
        refl,
        record {
          are = (
            type.A,
            after_run,
            refl,
            (
              refl,
              record {
                not_in_hosts = inr (not_in_hosts 4);
                reply = hit_reply;
              },
            ),
            refl,
          );
          result_is = inl (refl, refl);
        },
        inl (refl, refl, refl, refl),
      ),
    )

abbrev first_stage : Stage
first_stage =
    record {
      request = Lookup (codes "a.") type.A 0;
      before = empty_cache 8;
      piece = run_asks;
      parts = asked ∷ [];
      step = record { now = 0; exchanges = 1; reply = LookedUp (Ok (found 10 10)) };
    }

abbrev second_stage : Stage
second_stage =
    record {
      request = Lookup (codes "a.") type.A 4;
      before = after_run;
      piece = [];
      parts = hit ∷ [];
      step = record { now = 4; exchanges = 0; reply = LookedUp (Ok (found 6 10)) };
    }

pub record RunCases : Type 0 where
  -- the first look-up asks, and the second one is answered from the cache, its TTL counted down
  pub asks_once : Run settings (empty_cache 8) requests run_steps run_asks after_run

pub run_cases : RunCases
run_cases = record {
  asks_once = record {
    stages = first_stage ∷ second_stage ∷ [];
    joined = refl;
    steps_are = refl;
    are = (
      after_run,
      refl,
      refl,
      record {
        served = first_served;
        piece_is = refl;
        now_is = refl;
        count_is = refl;
      },
      inr (
        refl,
        (
          after_run,
          refl,
          refl,
          record {
            served = second_served;
            piece_is = refl;
            now_is = refl;
            count_is = refl;
          },
          inr (refl, refl),
        ),
      ),
    );
  };
}
