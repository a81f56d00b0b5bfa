-- Worked cases: what the definitions say of small messages, caches and names.
use Rattle.std.specs.Prelude.{◌≡◌, ℕ, true, false, List, [], ◌∷◌, map, replicate, codes, Option, Some, None, Ok, Err, refl}
use Rattle.hickory_proto_core.specs.Name.{NameValue, localhost}
use Rattle.hickory_proto_core.specs.Records.{RecordValue, DataValue, a_data, aaaa_data, cname_data, ns_data}
use Rattle.hickory_proto_core.specs.Messages.{MessageValue}
use Rattle.hickory_proto_core.specs.Handles.{OutcomeValue}
use Rattle.hickory_proto_core.specs.declared.query.Query.{Query}
use Rattle.hickory_proto_core.specs.codes.record_type.RecordType.TheVariants as type
use Rattle.hickory_proto_core.specs.codes.dns_class.DNSClass.TheVariants as class
use Rattle.hickory_proto_core.specs.codes.response_code.ResponseCode.TheVariants.{NoError, NXDomain}
use Rattle.hickory_proto_core.specs.declared.recorded.Exchange.{Exchange}
use Rattle.hickory_resolver_model.specs.Lookup.{question_of, response_to}
use Rattle.hickory_resolver_model.specs.Bounds.{BoundsValue, ConfigValue, no_bounds, bounds_fault, positive_lifetime}
use Rattle.hickory_resolver_model.specs.Cache.{CacheValue, Entry, insert_entry, store, aged_result, current}
use Rattle.hickory_resolver_model.specs.SpecialUse.{full_name, one_record, no_records, special_use_result}
use Rattle.hickory_resolver_model.specs.AliasWalk.{walk_of}
use Rattle.hickory_resolver_model.specs.Verdict.{Hop, first_hop, Accepted, LeadsTo, verdict}
use Rattle.hickory_resolver_model.specs.Hops.{LookupContext}
use Rattle.hickory_resolver_model.specs.Attempts.{Search, attempts}
use Rattle.hickory_resolver_model.specs.Client.{empty_cache}
use Rattle.hickory_proto_core.specs.declared.bounds_error.BoundsError.TheVariants.{PositiveReversed}

-- ---- the things that the cases are about

abbrev pub relative : List (List ℕ) → NameValue
relative labels = record { labels = labels; fqdn = false }

-- the fully qualified name of one label
abbrev pub name : List ℕ → NameValue
name label = full_name (label ∷ [])

abbrev pub rr : NameValue → ℕ → DataValue → RecordValue
rr n ttl rdata = record { name = n; dns_class = class.IN; ttl = ttl; rdata = rdata }

abbrev pub address : DataValue
address = a_data (192 ∷ 0 ∷ 2 ∷ 1 ∷ [])

-- a response to a question with these answers
abbrev pub response : Query → List RecordValue → MessageValue
response q answers = response_to q answers

abbrev pub asks_a : NameValue → Query
asks_a n = question_of n type.A

abbrev pub exchange : Query → List RecordValue → Exchange
exchange q answers = record { query = q; outcome = Ok (response q answers) }

abbrev pub entry : NameValue → ℕ → Entry
entry n deadline =
    record {
      query = asks_a n;
      result = Err (no_records (asks_a n) NoError);
      original_time = 0;
      valid_until = deadline;
    }

-- ---- eviction

-- three places: p 50, q 20, r 20, p again 20, then s 90, t 1 and u 1
abbrev pub three_places : List Entry → List ℕ → ℕ → List Entry
three_places es label deadline = insert_entry 3 es (entry (name label) deadline)

pub record EvictionCases : Type 0 where
  -- a new entry in a full cache: the entry of the earliest deadline leaves, the oldest of several, and never
  -- the new one
  pub evicts_oldest_of_ties : insert_entry 2 (entry (name (codes "p")) 10 ∷ entry (name (codes "q")) 10 ∷ [])
      (entry (name (codes "r")) 5) ≡ entry (name (codes "q")) 10 ∷ entry (name (codes "r")) 5 ∷ []
  pub evicts_earliest : insert_entry 2 (entry (name (codes "q")) 10 ∷ entry (name (codes "r")) 5 ∷ [])
      (entry (name (codes "s")) 7) ≡ entry (name (codes "q")) 10 ∷ entry (name (codes "s")) 7 ∷ []
  pub keeps_nothing_without_room : insert_entry 0 [] (entry (name (codes "p")) 10) ≡ []
  -- an entry that is stored again becomes the newest
  pub stored_again_is_newest : insert_entry 2
      (insert_entry 2 (entry (name (codes "p")) 10 ∷ entry (name (codes "q")) 10 ∷ [])
      (entry (name (codes "p")) 10)) (entry (name (codes "r")) 10)
      ≡ entry (name (codes "p")) 10 ∷ entry (name (codes "r")) 10 ∷ []
  pub evictions_in_turn : three_places
      (three_places (three_places
      (three_places (three_places (three_places (three_places [] (codes "p") 50) (codes "q") 20)
      (codes "r") 20) (codes "p") 20) (codes "s") 90) (codes "t") 1) (codes "u") 1
      ≡ entry (name (codes "p")) 20 ∷ entry (name (codes "s")) 90 ∷ entry (name (codes "u")) 1 ∷ []

pub eviction_cases : EvictionCases
eviction_cases = record {
  evicts_oldest_of_ties = refl;
  evicts_earliest = refl;
  keeps_nothing_without_room = refl;
  stored_again_is_newest = refl;
  evictions_in_turn = refl;
}

-- ---- bounds and lifetimes

abbrev pub with_bounds : BoundsValue → ConfigValue
with_bounds bounds = record { default = bounds; by_type = [] }

abbrev pub default_config : ConfigValue
default_config = with_bounds no_bounds

-- a positive least of an hour raises a TTL of a minute, which is then counted down to the deadline, included
abbrev pub hour : ConfigValue
hour = with_bounds (record no_bounds { positive_min = Some 3600 })

abbrev pub stored_for_an_hour : List Entry
stored_for_an_hour =
    (store (record {
      capacity = 8;
      octets = None;
      config = hour;
      entries = [];
    }) (asks_a (name (codes "a")))
    (Ok (response (asks_a (name (codes "a"))) (rr (name (codes "a")) 60 address ∷ []))) 0).entries

abbrev pub ttl_at : ℕ → List Entry → Option (List ℕ)
ttl_at now es = ttls (current (asks_a (name (codes "A"))) now es)
  where
    ttls : Option Entry → Option (List ℕ)
    ttls None = None
    ttls (Some e) = of (aged_result now e)
      where
        of : OutcomeValue → Option (List ℕ)
        of (Ok m) = Some (map (λ r. r.ttl) m.answers)
        of (Err error) = None

pub record LifetimeCases : Type 0 where
  -- a least of 90000 alone is above the greatest, a day
  pub least_above_a_day : bounds_fault (record no_bounds {
    positive_min = Some 90000;
  }) ≡ Some PositiveReversed
  -- bounds past 32 bits are reduced to a day, and then they are reversed
  pub reversed_once_reduced : bounds_fault (record no_bounds {
    positive_min = Some 100000;
    positive_max = Some 4294967296;
  }) ≡ Some PositiveReversed
  pub wide_bounds_are_taken : bounds_fault (record no_bounds {
    positive_min = Some 4294967296;
    positive_max = Some 8589934592;
  }) ≡ None
  -- the answers of the asked type and CNAMEs count, and no other answer does
  pub other_answers_do_not_count : positive_lifetime default_config (asks_a (name (codes "a")))
      (response (asks_a (name (codes "a")))
      (rr (name (codes "a")) 100 address ∷ rr (name (codes "a")) 10 (aaaa_data []) ∷ [])) ≡ 100
  pub aliases_count : positive_lifetime default_config (asks_a (name (codes "a")))
      (response (asks_a (name (codes "a")))
      (rr (name (codes "a")) 5 (cname_data (name (codes "b"))) ∷ rr (name (codes "b")) 86400 address ∷ []))
      ≡ 5
  -- for name servers the authorities count
  pub authorities_count_for_servers : positive_lifetime default_config (question_of (name (codes "a")) type.NS)
      (record (response (question_of (name (codes "a")) type.NS) []) {
        authorities = rr (name (codes "a")) 300
            (ns_data (name (codes "b"))) ∷ [];
      }) ≡ 300
  -- an answer to a question for every type lives no second
  pub every_type_lives_no_second : positive_lifetime default_config (question_of (name (codes "a")) type.ANY)
      (response (question_of (name (codes "a")) type.ANY) (rr (name (codes "a")) 100 address ∷ [])) ≡ 0
  pub counted_down : (ttl_at 0 stored_for_an_hour ≡ Some (3600 ∷ []))
      × (ttl_at 61 stored_for_an_hour ≡ Some (3539 ∷ [])) × (ttl_at 3600 stored_for_an_hour ≡ Some (0 ∷ []))
      × (ttl_at 3601 stored_for_an_hour ≡ None)

pub lifetime_cases : LifetimeCases
lifetime_cases = record {
  least_above_a_day = refl;
  reversed_once_reduced = refl;
  wide_bounds_are_taken = refl;
  other_answers_do_not_count = refl;
  aliases_count = refl;
  authorities_count_for_servers = refl;
  every_type_lives_no_second = refl;
  counted_down = (refl, refl, refl, refl);
}

-- ---- attempts

abbrev pub below : Option NameValue → List NameValue → Search
below domain search = record { ndots = 1; domain = domain; search = search }

pub record AttemptCases : Type 0 where
  -- of equal names the latest place stays
  pub search_after_domain : attempts
      (below (Some (name (codes "x"))) (name (codes "y") ∷ name (codes "x") ∷ []))
      (relative (codes "www" ∷ []))
      ≡ full_name (codes "www" ∷ codes "y" ∷ []) ∷ full_name (codes "www" ∷ codes "x" ∷ [])
      ∷ full_name (codes "www" ∷ []) ∷ []
  -- a raw name that is first is not compared
  pub raw_name_first : attempts (below None (full_name [] ∷ [])) (relative (codes "a" ∷ codes "b" ∷ []))
      ≡ full_name (codes "a" ∷ codes "b" ∷ []) ∷ full_name (codes "a" ∷ codes "b" ∷ []) ∷ []
  pub localhost_is_first : attempts (below (Some (name (codes "x"))) []) (relative (codes "localhost" ∷ []))
      ≡ localhost ∷ full_name (codes "localhost" ∷ codes "x" ∷ []) ∷ []
  -- the address of an onion service is attempted alone, as it is
  pub onion_address_alone : attempts (below (Some (name (codes "x"))) [])
      (relative (replicate 56 120 ∷ codes "onion" ∷ []))
      ≡ relative (replicate 56 120 ∷ codes "onion" ∷ []) ∷ []

pub attempt_cases : AttemptCases
attempt_cases = record {
  search_after_domain = refl;
  raw_name_first = refl;
  localhost_is_first = refl;
  onion_address_alone = refl;
}

-- ---- special names

pub record SpecialCases : Type 0 where
  pub invalid_is_not_there : special_use_result (asks_a (full_name (codes "x" ∷ codes "invalid" ∷ []))) 7
      ≡ Some (Err (no_records (asks_a (full_name (codes "x" ∷ codes "invalid" ∷ []))) NXDomain))
  pub localhost_has_its_address : special_use_result (asks_a (full_name (codes "my" ∷ codes "localhost" ∷ []))) 7
      ≡ Some (Ok (one_record (asks_a (full_name (codes "my" ∷ codes "localhost" ∷ [])))
      (a_data (127 ∷ 0 ∷ 0 ∷ 1 ∷ [])) 7))
  pub chaos_is_not_special : special_use_result (record {
    name = full_name (codes "x" ∷ codes "invalid" ∷ []);
    query_type = type.A;
    query_class = class.CH;
  }) 7 ≡ None

pub special_cases : SpecialCases
special_cases = record {
  invalid_is_not_there = refl;
  localhost_has_its_address = refl;
  chaos_is_not_special = refl;
}

-- ---- the alias walk and the verdict

abbrev pub alias_and_address : List RecordValue
alias_and_address =
    rr (name (codes "a")) 5 (cname_data (name (codes "b"))) ∷ rr (name (codes "b")) 100 address ∷ []

-- an alias alone: the next question is about its target, and the alias is preserved where it is wanted
abbrev pub alias_alone : List RecordValue
alias_alone = rr (name (codes "a")) 300 (cname_data (name (codes "b"))) ∷ []

pub record AliasCases : Type 0 where
  pub walks_along_an_alias : walk_of (asks_a (name (codes "A"))) alias_and_address ≡ record {
    places = 0 ∷ [];
    last = name (codes "b");
    targets = [];
    alias_ttls = 5 ∷ [];
    ttl = 5;
  }
  -- an alias and its address in one response: without intermediate records the address alone, as long as the
  -- alias; with them the response as it was sent
  pub address_behind_an_alias : verdict false (first_hop (asks_a (name (codes "a"))))
      (response (asks_a (name (codes "a"))) alias_and_address)
      ≡ Accepted (response (asks_a (name (codes "a"))) (rr (name (codes "b")) 5 address ∷ []))
  pub alias_kept_with_its_address : verdict true (first_hop (asks_a (name (codes "a"))))
      (response (asks_a (name (codes "a"))) alias_and_address)
      ≡ Accepted (response (asks_a (name (codes "a"))) alias_and_address)
  pub alias_leads_on : verdict true (first_hop (asks_a (name (codes "a"))))
      (response (asks_a (name (codes "a"))) alias_alone) ≡ LeadsTo (record {
        query = asks_a (name (codes "b"));
        preserved = alias_alone;
      })
  -- the next question of an alias of another class is asked in the class of the Internet
  pub next_class_is_internet : verdict false (first_hop (record {
    name = name (codes "a");
    query_type = type.A;
    query_class = class.CH;
  })) (response (asks_a (name (codes "a"))) alias_alone)
      ≡ LeadsTo (record { query = asks_a (name (codes "b")); preserved = [] })

pub alias_cases : AliasCases
alias_cases = record {
  walks_along_an_alias = refl;
  address_behind_an_alias = refl;
  alias_kept_with_its_address = refl;
  alias_leads_on = refl;
  next_class_is_internet = refl;
}

-- ---- a loop of two aliases: eight questions, a negative answer for the last one, and two entries that live no
-- second longer

abbrev pub to_b : Exchange
to_b = exchange (asks_a (name (codes "a"))) (rr (name (codes "a")) 9 (cname_data (name (codes "b"))) ∷ [])

abbrev pub to_a : Exchange
to_a = exchange (asks_a (name (codes "b"))) (rr (name (codes "b")) 9 (cname_data (name (codes "a"))) ∷ [])

abbrev pub no_address : OutcomeValue
no_address = Err (no_records (asks_a (name (codes "b"))) NoError)

abbrev pub loop_start : LookupContext
loop_start = record { cache = empty_cache 8; now = 0; preserve_intermediates = false }

abbrev pub loop_asks : List Exchange
loop_asks = to_b ∷ to_a ∷ to_b ∷ to_a ∷ to_b ∷ to_a ∷ to_b ∷ to_a ∷ []

abbrev pub after_loop : CacheValue
after_loop = record (empty_cache 8) {
  entries =
      record { query = asks_a (name (codes "b")); result = no_address; original_time = 0; valid_until = 0 }
      ∷ record {
        query = asks_a (name (codes "a"));
        result = no_address;
        original_time = 0;
        valid_until = 0;
      } ∷ [];
}

abbrev pub at_a : Hop
at_a = first_hop (asks_a (name (codes "a")))

abbrev pub at_b : Hop
at_b = first_hop (asks_a (name (codes "b")))
