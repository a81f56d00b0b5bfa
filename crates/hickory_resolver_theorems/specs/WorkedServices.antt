-- Worked cases of servers: SRVs of the asked name and of others, alone, with addresses and behind an alias.
use Rattle.std.specs.Prelude.{◌≡◌, ℕ, true, false, List, [], ◌∷◌, codes, refl}
use Rattle.hickory_proto_core.specs.Name.{NameValue}
use Rattle.hickory_proto_core.specs.Records.{RecordValue, cname_data, srv_data}
use Rattle.hickory_proto_core.specs.Messages.{MessageValue}
use Rattle.hickory_proto_core.specs.declared.query.Query.{Query}
use Rattle.hickory_proto_core.specs.codes.record_type.RecordType.TheVariants as type
use Rattle.hickory_resolver_model.specs.Lookup.{question_of}
use Rattle.hickory_resolver_model.specs.SpecialUse.{full_name}
use Rattle.hickory_resolver_model.specs.AliasWalk.{standing, walk_of}
use Rattle.hickory_resolver_model.specs.Verdict.{first_hop, Accepted, LeadsTo, NoMatch, verdict}
use Rattle.hickory_resolver_theorems.specs.Worked.{name, rr, address, response, asks_a}

abbrev pub a_name : NameValue
a_name = name (codes "a")

abbrev pub first_host : NameValue
first_host = name (codes "h1")

abbrev pub second_host : NameValue
second_host = name (codes "h2")

-- a record of this owner and TTL that leads to a server
abbrev pub server : NameValue → ℕ → NameValue → RecordValue
server owner ttl target = rr owner ttl (srv_data 1 2 3 target)

-- a record of this owner and TTL that is an alias
abbrev pub alias : NameValue → ℕ → NameValue → RecordValue
alias owner ttl target = rr owner ttl (cname_data target)

-- the same service of two zones
abbrev pub service_of_a : NameValue
service_of_a = full_name (codes "_s" ∷ codes "_tcp" ∷ codes "a" ∷ [])

abbrev pub service_of_b : NameValue
service_of_b = full_name (codes "_s" ∷ codes "_tcp" ∷ codes "b" ∷ [])

abbrev pub asks_service : NameValue → Query
asks_service n = question_of n type.SRV

abbrev pub two_servers : List RecordValue
two_servers = server a_name 50 first_host ∷ server a_name 50 second_host ∷ []

abbrev pub two_addresses : List RecordValue
two_addresses = rr first_host 20 address ∷ rr second_host 90 address ∷ []

-- the two servers, with their addresses beside them
abbrev pub servers_with_addresses : Query → MessageValue
servers_with_addresses q = record (response q two_servers) { additionals = two_addresses }

-- an alias of the service, and the server of the name behind it, in one response
abbrev pub alias_and_server : List RecordValue
alias_and_server = alias service_of_a 30 service_of_b ∷ server service_of_b 60 first_host ∷ []

pub record ServiceCases : Type 0 where
  -- each server adds a target, and the name reached stays
  pub walks_over_two_servers : walk_of (asks_a a_name) two_servers ≡ record {
    places = 0 ∷ 1 ∷ [];
    last = a_name;
    targets = first_host ∷ second_host ∷ [];
    alias_ttls = [];
    ttl = 50;
  }
  -- servers of the asked name count behind an alias too
  pub walks_over_an_alias_and_a_server : walk_of (asks_a a_name)
      (alias a_name 30 (name (codes "b")) ∷ server a_name 20 first_host ∷ []) ≡ record {
        places = 0 ∷ 1 ∷ [];
        last = name (codes "b");
        targets = first_host ∷ [];
        alias_ttls = 30 ∷ [];
        ttl = 20;
      }
  -- for every type and for CNAMEs nothing is walked
  pub nothing_for_every_type : walk_of (question_of a_name type.ANY) alias_and_server ≡ standing a_name
  pub nothing_for_aliases : walk_of (question_of service_of_a type.CNAME) alias_and_server
      ≡ standing service_of_a
  -- the server behind an alias is the answer, as long as the alias; with intermediate records the response as it
  -- was sent
  pub server_behind_an_alias : verdict false (first_hop (asks_service service_of_a))
      (response (asks_service service_of_a) alias_and_server)
      ≡ Accepted (response (asks_service service_of_a) (server service_of_b 30 first_host ∷ []))
  pub alias_kept_with_its_server : verdict true (first_hop (asks_service service_of_a))
      (response (asks_service service_of_a) alias_and_server)
      ≡ Accepted (response (asks_service service_of_a) alias_and_server)
  -- an alias that was preserved, and then the server, each as long as it was sent
  pub alias_leads_to_the_service : verdict true (first_hop (asks_service service_of_a))
      (response (asks_service service_of_a) (alias service_of_a 300 service_of_b ∷ [])) ≡ LeadsTo (record {
        query = asks_service service_of_b;
        preserved = alias service_of_a 300 service_of_b ∷ [];
      })
  pub server_behind_a_preserved_alias : verdict true (record {
    query = asks_service service_of_b;
    preserved = alias service_of_a 300 service_of_b ∷ [];
  }) (response (asks_service service_of_b) (server service_of_b 60 first_host ∷ []))
      ≡ Accepted (response (asks_service service_of_b)
      (alias service_of_a 300 service_of_b ∷ server service_of_b 60 first_host ∷ []))
  -- a server of another name leads nowhere
  pub other_servers_do_not_count : verdict false (first_hop (asks_a a_name))
      (response (asks_a a_name) (server (name (codes "z")) 50 first_host ∷ [])) ≡ NoMatch
  -- the addresses of both servers are the answer, none longer than the servers
  pub addresses_of_two_servers : verdict false (first_hop (asks_a a_name))
      (servers_with_addresses (asks_a a_name))
      ≡ Accepted (record (servers_with_addresses (asks_a a_name)) {
        answers = rr first_host 20 address ∷ rr second_host 50 address ∷ [];
      })
  -- without the addresses the next question is about the first server
  pub two_servers_lead_on : verdict false (first_hop (asks_a a_name)) (response (asks_a a_name) two_servers)
      ≡ LeadsTo (record { query = asks_a first_host; preserved = [] })
  -- and behind an alias about the name behind it
  pub an_alias_goes_first : verdict false (first_hop (asks_a a_name))
      (response (asks_a a_name) (server a_name 50 first_host ∷ alias a_name 50 (name (codes "b")) ∷ []))
      ≡ LeadsTo (record { query = asks_a (name (codes "b")); preserved = [] })
  -- where the servers were asked for, the response is the answer as it was sent
  pub servers_that_were_asked_for : verdict false (first_hop (asks_service a_name))
      (servers_with_addresses (asks_service a_name))
      ≡ Accepted (servers_with_addresses (asks_service a_name))

pub service_cases : ServiceCases
service_cases = record {
  walks_over_two_servers = refl;
  walks_over_an_alias_and_a_server = refl;
  nothing_for_every_type = refl;
  nothing_for_aliases = refl;
  server_behind_an_alias = refl;
  alias_kept_with_its_server = refl;
  alias_leads_to_the_service = refl;
  server_behind_a_preserved_alias = refl;
  other_servers_do_not_count = refl;
  addresses_of_two_servers = refl;
  two_servers_lead_on = refl;
  an_alias_goes_first = refl;
  servers_that_were_asked_for = refl;
}
