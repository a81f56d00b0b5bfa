-- What a forwarder is told to do.
use Rattle.std.specs.Prelude.{ℕ, Bool, List, [], min, if◌then◌else◌}
use Rattle.std.specs.List.{list_any}
use Rattle.std.specs.declared.net.IpAddr.{IpAddr}
use Rattle.hickory_proto_core.specs.Records.{data_of_address}
use Rattle.hickory_proto_names.specs.Name.{NameValue, is_zone_of}
use Rattle.hickory_proto_names.specs.declared.ip.IpNet.{IpNet}
use Rattle.hickory_resolver_filters.specs.Networks.{is_in_some}
use Rattle.client_limits.specs.declared.limits.ClientLimits.{ClientLimits}
use Rattle.yimarotu_forwarder.specs.declared.choices.TheConstants.{LONGEST_STALE}

-- Whose AD is passed on; the networks whose clients may ask, and whether others are dropped in place of refused; how
-- many clients may wait; for how many seconds a reply is kept at the most; whether replies are looked up anew before their
-- end; for how many seconds past its end a reply is told where servers fail; the networks whose addresses no reply may
-- have, but for those that it may; and the domains for whose names a reply may have any.
pub record OptionsValue : Type 0 where
  pub trusts_authentic_data : Bool
  pub may_ask : List IpNet
  pub drops_strangers : Bool
  pub limits : ClientLimits
  pub greatest_ttl : ℕ
  pub prefetches : Bool
  pub serves_stale : ℕ
  pub denied : List IpNet
  pub allowed : List IpNet
  pub exempt : List NameValue

-- a client of this address may ask
abbrev pub may_ask : IpAddr → OptionsValue → Bool
may_ask address o = is_in_some o.may_ask (data_of_address address)

-- a reply to a question for a name may have any address
abbrev pub is_exempt : NameValue → OptionsValue → Bool
is_exempt name o = list_any (λ domain. is_zone_of domain name) o.exempt

-- the networks whose addresses no reply to a question for a name may have
abbrev pub denied_for : NameValue → OptionsValue → List IpNet
denied_for name o = if is_exempt name o then [] else o.denied

-- no more than a day
abbrev pub stale_seconds : OptionsValue → ℕ
stale_seconds o = min o.serves_stale LONGEST_STALE
