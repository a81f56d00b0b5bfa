-- Worked cases of requests: a clear, a run that memory cuts short, an attempt below a search domain, both
-- families of addresses, and the name of an address in the table of hosts.
use Rattle.std.specs.Prelude.{◌≡◌, ℕ, suc, zero, ◌^◌, ◌<◌, slice_index, true, false, List, [], ◌∷◌, codes, map, Option, Some, None, Ok, Err, refl}
use Rattle.std.proofs.Common.{arith, inl, inr, lit≤, sym, ◌∙◌, ◌++◌}
use Rattle.std.specs.Fmt.{digits}
use Rattle.std.specs.Net.Grammar.{IsIpText}
use Rattle.std.specs.Net.Reader.{read_number, read_octet, read_ipv4, read_segment, read_segments, read_ipv6}
use Rattle.std.specs.Net.Addr.{ipv4_octets, ipv6_segments}
use Rattle.std.specs.declared.net.IpAddr.{IpAddr}
use Rattle.std.specs.declared.net.IpAddr.TheVariants.{V4, V6}
use Rattle.std.proofs.NetLemmas.Ipv4.{read_ipv4_complete}
use Rattle.std.proofs.NetLemmas.Ipv6.{read_ipv6_complete, EndsGroups-nil}
use Rattle.hickory_proto_core.specs.Name.{NameValue}
use Rattle.hickory_proto_core.specs.NameText.{itself, Spells}
use Rattle.hickory_proto_core.specs.Records.{DataValue, aaaa_data, ptr_data}
use Rattle.hickory_proto_core.specs.ResponseKind.{asks_for}
use Rattle.hickory_proto_core.specs.Handles.{OutcomeValue}
use Rattle.hickory_proto_core.specs.names.ip.IpNet.{IpNet}
use Rattle.hickory_proto_core.specs.declared.query.Query.{Query}
use Rattle.hickory_proto_core.specs.codes.record_type.RecordType.TheVariants as type
use Rattle.hickory_proto_core.specs.declared.net_error.NetError.TheVariants.{Timeout, OutOfMemory}
use Rattle.hickory_resolver_config.specs.declared.strategies.LookupIpStrategy.TheVariants.{Ipv4AndIpv6}
use Rattle.hickory_resolver_model.specs.Cache.{CacheValue, Entry}
use Rattle.hickory_resolver_model.specs.Lookup.{LookupValue, question_of}
use Rattle.hickory_resolver_model.specs.SpecialUse.{full_name}
use Rattle.hickory_resolver_model.specs.Verdict.{first_hop}
use Rattle.hickory_resolver_model.specs.Hops.{Asked, IsReply}
use Rattle.hickory_resolver_model.specs.Hosts.{insert_pairs, StandsFor, HostsHave, static_answer}
use Rattle.hickory_resolver_model.specs.Calls.{Hosts, Client, SubLookup, IsAnsweredFor}
use Rattle.hickory_resolver_model.specs.Run.{Settings, call_context_at, Lookup, LookupIp, ClearLookup, Clear, LookedUp, LookedUpIp, Cleared, IsServed, StepValue, Stage, Run}
use Rattle.hickory_resolver_model.specs.Client.{empty_cache}
use Rattle.hickory_resolver_theorems.specs.Worked.{below, relative, name, asks_a, rr, address, response, exchange}
use Rattle.hickory_resolver_theorems.specs.WorkedRun.{a, spells_a, settings, requests, found, after_run, start, asked, asked_reply, not_in_hosts}

-- ---- a clear, and a run that memory cuts short

-- the one step of a run whose first look-up found no memory
abbrev pub cut_step : StepValue
cut_step = record { now = 0; exchanges = 0; reply = LookedUp (Err OutOfMemory) }

abbrev cut_stage : Stage
cut_stage = record { request = Lookup (codes "a.") type.A 0; before = empty_cache 8; piece = []; parts = []; step = cut_step }

-- ---- below a search domain

-- names below b. are attempted first
abbrev pub below_b : Settings
below_b = record settings { search = below None (name (codes "b") ∷ []) }

abbrev pub a_below_b : NameValue
a_below_b = full_name (codes "a" ∷ codes "b" ∷ [])

-- the relative name `a`
spells_relative : Spells (codes "a") (relative (codes "a" ∷ []))
spells_relative = record {
  pieces = (itself 97 ∷ []) ∷ [];
  whole = record { some = omega arith; spelled = refl; stand = refl };
  named = refl;
  valid = refl;
}

-- the look-up of the first attempt timed out
abbrev pub timed_out : SubLookup
timed_out = record {
  question = asks_a a_below_b;
  source = Client;
  asks = record { query = asks_a a_below_b; outcome = Err Timeout } ∷ [];
  result = Err Timeout;
}

timed_out_reply : IsReply (start (empty_cache 8) 0) (asks_a a_below_b) timed_out.asks (Err Timeout) (empty_cache 8)
timed_out_reply = inl (record {
  hops = record {
    before = [];
    passed = [];
    last_hop = first_hop (asks_a a_below_b);
    last = Asked (Err Timeout);
    last_cache = empty_cache 8;
    leads = refl;
    short = omega arith;
    ends = ((refl, refl), λ next h. cc);
    at_once = λ e. refl;
    asks_are = refl;
    caches_are = refl;
  };
  result_is = refl;
  after_is = refl;
})

-- ---- both families

-- IPv4 addresses are asked for, and then IPv6 addresses
abbrev pub both_families : Settings
both_families = record settings { strategy = Ipv4AndIpv6 }

-- the text is no address
not_v4 : read_ipv4 (codes "a.") ≡ None
unfolding read_number read_octet read_ipv4
not_v4 = refl

not_v6 : read_ipv6 (codes "a.") ≡ None
unfolding read_number read_octet read_ipv4 read_segment read_segments read_ipv6
not_v6 = refl

nothing_read : (read : Option (List ℕ × List ℕ)) (x : List ℕ × List ℕ) → read ≡ None → read ≡ Some x → ⊥
nothing_read read x none some = let clash : None ≡ Some x = sym none ∙ some in cc

no_address : (address : IpAddr) → IsIpText (codes "a.") address → ⊥
no_address (V4 i) h =
    nothing_read (read_ipv4 (codes "a.")) (ipv4_octets i, []) not_v4
    (read_ipv4_complete (codes "a.") (ipv4_octets i) [] h (lit≤ tt))
no_address (V6 i) h =
    nothing_read (read_ipv6 (codes "a.")) (ipv6_segments i, []) not_v6
    (read_ipv6_complete (codes "a.") (ipv6_segments i) [] h EndsGroups-nil)

abbrev pub ipv6_address : DataValue
ipv6_address = aaaa_data (8193 ∷ 3512 ∷ 0 ∷ 0 ∷ 0 ∷ 0 ∷ 0 ∷ 1 ∷ [])

abbrev pub asks_aaaa : Query
asks_aaaa = question_of a type.AAAA

abbrev pub ipv6_response : OutcomeValue
ipv6_response = Ok (response asks_aaaa (rr a 7 ipv6_address ∷ []))

abbrev pub ipv6_found : LookupValue
ipv6_found = record { message = response asks_aaaa (rr a 7 ipv6_address ∷ []); valid_until = 7 }

abbrev pub second_family : SubLookup
second_family = record {
  question = asks_aaaa;
  source = Client;
  asks = exchange asks_aaaa (rr a 7 ipv6_address ∷ []) ∷ [];
  result = Ok ipv6_found;
}

abbrev ipv6_entry : Entry
ipv6_entry = record { query = asks_aaaa; result = ipv6_response; original_time = 0; valid_until = 7 }

abbrev pub after_both : CacheValue
after_both = record after_run { entries = after_run.entries ++ ipv6_entry ∷ [] }

-- the answers of both, under the question of the first, to be used until the sooner deadline
abbrev pub both_found : LookupValue
both_found = record { message = response (asks_a a) (rr a 10 address ∷ rr a 7 ipv6_address ∷ []); valid_until = 7 }

second_reply : IsReply (start after_run 0) asks_aaaa second_family.asks (Ok ipv6_found) after_both
second_reply = inl (record {
  hops = record {
    before = [];
    passed = [];
    last_hop = first_hop asks_aaaa;
    last = Asked ipv6_response;
    last_cache = after_run;
    leads = refl;
    short = omega arith;
    ends = ((refl, refl), λ next h. cc);
    at_once = λ e. refl;
    asks_are = refl;
    caches_are = refl;
  };
  result_is = refl;
  after_is = refl;
})

no_hosts : (q : Query) (now : ℕ) → asks_for type.PTR q ≡ false → static_answer None q now [] ≡ None
    → HostsHave q now [] None
no_hosts q now other is = (None, λ ptr. (let clash : false ≡ true = sym other ∙ ptr in cc), sym is)

-- ---- the name of an address in the table of hosts

-- the file said `192.0.2.1 a.` at second 0
abbrev pub with_hosts : Settings
with_hosts = record settings { hosts = insert_pairs 0 ((a, address) ∷ []) [] }

abbrev pub arpa : NameValue
arpa = full_name (codes "1" ∷ codes "2" ∷ codes "0" ∷ codes "192" ∷ codes "in-addr" ∷ codes "arpa" ∷ [])

spells_arpa : Spells (codes "1.2.0.192.in-addr.arpa.") arpa
spells_arpa = record {
  pieces = map (map itself) (arpa.labels ++ [] ∷ []);
  whole = record { some = omega arith; spelled = refl; stand = refl };
  named = refl;
  valid = refl;
}

abbrev net : IpNet
net = record { addr = V4 (record { octets = 192 ∷ 0 ∷ 2 ∷ 1 ∷ [] }); prefix_len = 32 }

octets_below : (k : ℕ) → slice_index (192 ∷ 0 ∷ 2 ∷ 1 ∷ []) k < 2 ^ 8
octets_below zero = omega arith
octets_below (suc zero) = omega arith
octets_below (suc (suc zero)) = omega arith
octets_below (suc (suc (suc zero))) = omega arith
octets_below (suc (suc (suc (suc k)))) = omega arith

stands_for : StandsFor arpa (Some address)
unfolding digits
stands_for = (
  net,
  (record { address = (refl, octets_below); within = omega arith; whole = refl; zeros = refl }, refl),
  refl,
)

abbrev pub asks_ptr : Query
asks_ptr = question_of arpa type.PTR

-- usable for a day
abbrev pub pointer : LookupValue
pointer = record { message = response asks_ptr (rr arpa 86400 (ptr_data a) ∷ []); valid_until = 86403 }

abbrev pub by_hosts : SubLookup
by_hosts = record { question = asks_ptr; source = Hosts; asks = []; result = Ok pointer }

-- ---- the cases

pub record RequestCases : Type 0 where
  -- a clear of one question, and of the whole cache
  pub clears_a_name : IsServed (λ now. IsAnsweredFor (call_context_at settings now)) settings after_run
      (ClearLookup (codes "a.") type.A 5) [] (Cleared (Ok tt)) (record after_run { entries = [] })
  pub clears_another_type : IsServed (λ now. IsAnsweredFor (call_context_at settings now)) settings after_run
      (ClearLookup (codes "a.") type.AAAA 5) [] (Cleared (Ok tt)) after_run
  pub clears_all : IsServed (λ now. IsAnsweredFor (call_context_at settings now)) settings after_run (Clear 5) []
      (Cleared (Ok tt)) (record after_run { entries = [] })
  -- the second look-up is not made where the first one found no memory
  pub ends_without_memory : Run settings (empty_cache 8) requests (cut_step ∷ []) [] (empty_cache 8)
  -- the name below the search domain is asked for first; it timed out, and the name itself is asked for
  pub tries_below_a_domain : IsServed (λ now. IsAnsweredFor (call_context_at below_b now)) below_b (empty_cache 8)
      (Lookup (codes "a") type.A 0) (timed_out ∷ asked ∷ []) (LookedUp (Ok (found 10 10))) after_run
  -- the addresses of both families, in the order of the strategy
  pub asks_both_families : IsServed (λ now. IsAnsweredFor (call_context_at both_families now)) both_families
      (empty_cache 8) (LookupIp (codes "a.") 0) (asked ∷ second_family ∷ []) (LookedUpIp (Ok both_found)) after_both
  -- the name of an address is found in the table of hosts, and nothing is asked
  pub finds_a_pointer : IsServed (λ now. IsAnsweredFor (call_context_at with_hosts now)) with_hosts (empty_cache 8)
      (Lookup (codes "1.2.0.192.in-addr.arpa.") type.PTR 3) (by_hosts ∷ []) (LookedUp (Ok pointer)) (empty_cache 8)

pub request_cases : RequestCases
request_cases = record {
  clears_a_name = (refl, (Ok a, spells_a, refl));
  clears_another_type = (refl, (Ok a, spells_a, refl));
  clears_all = (refl, refl);
  ends_without_memory = record {
    stages = cut_stage ∷ [];
    joined = refl;
    steps_are = refl;
    are = (
      empty_cache 8,
      refl,
      refl,
      record { served = inr (refl, refl, refl); piece_is = refl; now_is = refl; count_is = refl },
      inl (refl, refl, refl),
    );
  };
  tries_below_a_domain = inl (
    Ok (relative (codes "a" ∷ [])),
    spells_relative,
    (
      timed_out ∷ [],
      asked ∷ [],
      Err Timeout,
      empty_cache 8,
      refl,
      record {
        are = (
          type.A,
          empty_cache 8,
          refl,
          (refl, record { not_in_hosts = inr (no_hosts (asks_a a_below_b) 0 refl refl); reply = timed_out_reply }),
          refl,
        );
        result_is = inl (refl, refl);
      },
      inr (
        refl,
        (
          asked ∷ [],
          [],
          Ok (found 10 10),
          after_run,
          refl,
          record {
            are = (type.A, after_run, refl, (refl, record { not_in_hosts = inl refl; reply = asked_reply }), refl);
            result_is = inl (refl, refl);
          },
          inl (refl, refl, refl, refl),
        ),
      ),
    ),
  );
  asks_both_families = inl (
    record { address = None; name = Ok a },
    (no_address, spells_a),
    (
      asked ∷ second_family ∷ [],
      [],
      Ok both_found,
      after_both,
      refl,
      record {
        are = (
          type.A,
          after_run,
          refl,
          (refl, record { not_in_hosts = inr (not_in_hosts 0); reply = asked_reply }),
          (
            type.AAAA,
            after_both,
            refl,
            (refl, record { not_in_hosts = inr (no_hosts asks_aaaa 0 refl refl); reply = second_reply }),
            refl,
          ),
        );
        result_is = inl (refl, refl);
      },
      inl (refl, refl, refl, refl),
    ),
  );
  finds_a_pointer = inl (
    Ok arpa,
    spells_arpa,
    (
      by_hosts ∷ [],
      [],
      Ok pointer,
      empty_cache 8,
      refl,
      record {
        are = (
          type.PTR,
          empty_cache 8,
          refl,
          (
            refl,
            record {
              asks_hosts = refl;
              found = pointer;
              has = (Some address, λ ptr. stands_for, refl);
              result_is = inl refl;
              nothing_asked = refl;
              unchanged = refl;
            },
          ),
          refl,
        );
        result_is = inl (refl, refl);
      },
      inl (refl, refl, refl, refl),
    ),
  );
}
