-- The worked case of a loop of two aliases, and the meaning of a chain of two.
use Rattle.std.specs.Prelude.{codes, [], ◌∷◌, Ok, Err, refl}
use Rattle.std.proofs.Common.{arith}
use Rattle.hickory_proto_core.specs.Table.{TableValue}
use Rattle.hickory_proto_core.specs.codes.response_code.ResponseCode.TheVariants.{NoError}
use Rattle.hickory_resolver_model.specs.SpecialUse.{no_records}
use Rattle.hickory_resolver_model.specs.Hops.{Asked, IsAliasHop, HopList, IsWhole, one_cache}
use Rattle.hickory_resolver_theorems.specs.Cacheless.{ResolvesTo, at_last, at_alias}
use Rattle.hickory_resolver_theorems.specs.Cores.{ReplyCore}
use Rattle.hickory_resolver_theorems.specs.Worked.{name, asks_a, rr, address, response, alias_alone, to_a, to_b, loop_start, loop_asks, after_loop, at_a, at_b}

-- seven aliases are followed, and the eighth question's alias is one too many
abbrev pub loop_hops : HopList loop_start (one_cache loop_start loop_asks) (asks_a (name (codes "a"))) loop_asks
loop_hops = record {
  before = one_cache loop_start (to_b ∷ to_a ∷ to_b ∷ to_a ∷ to_b ∷ to_a ∷ to_b ∷ []);
  passed = to_b ∷ to_a ∷ to_b ∷ to_a ∷ to_b ∷ to_a ∷ to_b ∷ [];
  last_hop = at_b;
  last = Asked to_a.outcome;
  last_cache = loop_start.cache;
  leads = (
    at_b,
    follows_a,
    (
      at_a,
      follows_b,
      (at_b, follows_a, (at_a, follows_b, (at_b, follows_a, (at_a, follows_b, (at_b, follows_a, refl))))),
    ),
  );
  short = omega arith;
  ends = ((refl, refl), λ next h. refl);
  at_once = λ e. refl;
  asks_are = refl;
  caches_are = refl;
}
  where
    follows_a : IsAliasHop loop_start at_a to_b at_b
    follows_a = record { upstream = (refl, refl); asked = refl; alias = refl }

    follows_b : IsAliasHop loop_start at_b to_a at_a
    follows_b = record { upstream = (refl, refl); asked = refl; alias = refl }

-- the reply is a negative answer of the last question, and the cache has it for both questions, up to this
-- moment
pub loop_ends : IsWhole loop_start (one_cache loop_start loop_asks) (asks_a (name (codes "a"))) loop_asks
    (Err (no_records (asks_a (name (codes "b"))) NoError)) after_loop
loop_ends = record { hops = loop_hops; result_is = refl; after_is = refl }

-- a chain of two: an alias, and the address of its target
abbrev pub chain : TableValue
chain =
    (asks_a (name (codes "a")), Ok (response (asks_a (name (codes "a"))) alias_alone))
    ∷ (
      asks_a (name (codes "b")),
      Ok
          (response (asks_a (name (codes "b"))) (rr (name (codes "b")) 10 address ∷ [])),
    ) ∷ []

abbrev pub chain_reply : ReplyCore
chain_reply =
    Ok (record { answers = rr (name (codes "b")) 0 address ∷ []; authorities = []; additionals = [] })

pub record LoopCases : Type 0 where
  -- the reply of the loop is a negative answer of its last question, and the cache has it for both questions,
  -- up to this moment
  pub loop_ends : IsWhole loop_start (one_cache loop_start loop_asks) (asks_a (name (codes "a"))) loop_asks
      (Err (no_records (asks_a (name (codes "b"))) NoError)) after_loop
  -- the chain means its address, by two questions
  pub chain_means_its_address : ResolvesTo chain (asks_a (name (codes "a"))) chain_reply 2

pub loop_cases : LoopCases
loop_cases =
    record {
      loop_ends = loop_ends;
      chain_means_its_address = at_alias refl refl refl (at_last refl refl (λ next h. cc));
    }
