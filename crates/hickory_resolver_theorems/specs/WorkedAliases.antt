-- Worked cases of what an alias may not outlive: stores that let one outlive its CNAME break the clause by themselves,
-- whatever else is promised of the look-up.
use Rattle.std.specs.Prelude.{ℕ, [], ◌∷◌, codes, None, Some, Ok, Err, false}
use Rattle.hickory_proto_core.specs.Handles.{OutcomeValue}
use Rattle.hickory_proto_core.specs.Records.{cname_data}
use Rattle.hickory_proto_core.specs.declared.recorded.Exchange.{Exchange}
use Rattle.hickory_proto_core.specs.declared.query.Query.{Query}
use Rattle.hickory_proto_core.specs.codes.response_code.ResponseCode.TheVariants.{NXDomain}
use Rattle.hickory_proto_core.specs.declared.net_error.NetError.TheVariants.{Dns}
use Rattle.hickory_proto_core.specs.declared.net_error.DnsError.TheVariants.{NoRecordsFound}
use Rattle.hickory_resolver_model.specs.Cache.{Entry}
use Rattle.hickory_resolver_model.specs.Client.{empty_cache}
use Rattle.hickory_resolver_model.specs.Hops.{LookupContext, Hit, Asked, Store, store_of}
use Rattle.hickory_resolver_theorems.specs.Aliases.{StoresOutliveNoAlias}
use Rattle.hickory_resolver_theorems.specs.Worked.{name, asks_a, rr, address, response, exchange, at_a, at_b}

abbrev pub alias_start : LookupContext
alias_start = record { cache = empty_cache 8; now = 4; preserve_intermediates = false }

-- `a.` is an alias of `b.` for five seconds, and `c.` one of `a.` for fifty
abbrev pub a_is_alias : Exchange
a_is_alias = exchange (asks_a (name (codes "a"))) (rr (name (codes "a")) 5 (cname_data (name (codes "b"))) ∷ [])

abbrev pub c_is_alias : Exchange
c_is_alias = exchange (asks_a (name (codes "c"))) (rr (name (codes "c")) 50 (cname_data (name (codes "a"))) ∷ [])

-- the address of `b.`, for a hundred seconds, as it came to a question
abbrev pub address_for : Query → OutcomeValue
address_for q = Ok (response q (rr (name (codes "b")) 100 address ∷ []))

-- no such name, for forty seconds
abbrev pub none_for_forty : OutcomeValue
none_for_forty =
    Err (Dns (NoRecordsFound (record {
      query = asks_a (name (codes "b"));
      soa = None;
      ns = None;
      negative_ttl = Some 40;
      response_code = NXDomain;
      authorities = None;
    })))

-- what the cache has for `a.`, up to when its alias lives
abbrev pub entry_of_a : Entry
entry_of_a =
    record {
      query = asks_a (name (codes "a"));
      result = address_for (asks_a (name (codes "a")));
      original_time = 0;
      valid_until = 5;
    }

-- stored at that moment, up to a limit
abbrev pub stored_until : Query → OutcomeValue → ℕ → Store
stored_until q outcome limit = store_of q outcome 4 limit

pub record AliasLifetimeCases : Type 0 where
  -- an answer is kept under the alias as long as its records live
  pub an_answer_outlives_its_alias : StoresOutliveNoAlias alias_start (a_is_alias ∷ []) at_b
      (Asked (address_for (asks_a (name (codes "b")))))
      (stored_until (asks_a (name (codes "b"))) (address_for (asks_a (name (codes "b")))) 104
      ∷ stored_until (asks_a (name (codes "a"))) (address_for (asks_a (name (codes "a")))) 104 ∷ []) → ⊥
  -- a negative answer is kept under the alias as its SOA says
  pub a_negative_answer_outlives_its_alias : StoresOutliveNoAlias alias_start (a_is_alias ∷ []) at_b (Asked none_for_forty)
      (stored_until (asks_a (name (codes "b"))) none_for_forty 44
      ∷ stored_until (asks_a (name (codes "a"))) none_for_forty 44 ∷ []) → ⊥
  -- an alias of an alias that was hit is kept as long as its own CNAME lives, past the deadline of the entry
  pub the_deadline_of_a_hit_does_not_limit : StoresOutliveNoAlias alias_start (c_is_alias ∷ []) at_a (Hit entry_of_a)
      (stored_until (asks_a (name (codes "c"))) (address_for (asks_a (name (codes "c")))) 54 ∷ []) → ⊥
