-- What lines set, one after another, and what a forwarder is opened with.
use Rattle.std.specs.Prelude.{◌≡◌, ◌⊎◌, ◌+◌, ◌^◌, ◌-◌, ℕ, zero, suc, Bool, true, false, List, [], ◌∷◌, ◌++◌, length, position, Option, None, Some, Result, Ok, Err, MatchResult}
use Rattle.std.specs.Str.{bytes_eq}
use Rattle.client_limits.specs.Counts.{default_limits}
use Rattle.hickory_proto_core.specs.Name.{NameValue, canonical_form}
use Rattle.hickory_proto_core.specs.names.ip.IpNet.{IpNet}
use Rattle.hickory_resolver_config.specs.ResolverConfig.{OptionsValue}
use Rattle.hickory_resolver_pool.specs.Servers.{PoolServerValue}
use Rattle.local_answers.specs.declared.rules.DomainRule.{DomainRule}
use Rattle.local_answers.specs.declared.rules.DomainRule.TheVariants as rule
use Rattle.replay_script.specs.Faults.{LineFaultValue}
use Rattle.second_chance_cache.specs.declared.bounds.CacheBounds.{CacheBounds}
use Rattle.session_settings.specs.SessionOption.{with_option}
use Rattle.session_settings.specs.declared.settings_error.SettingsError.{SettingsError}
use Rattle.session_settings.specs.declared.settings_error.SettingsError.TheVariants.{Line, NotSetting, OutOfMemory}
use Rattle.yimarotu_forwarder.specs.Options.{OptionsValue as ForwarderOptionsValue}
use Rattle.forwarder_settings.specs.ForwarderLine.{IsLine}
use Rattle.forwarder_settings.specs.Prefixes.{hostless_networks, near_networks}
use Rattle.forwarder_settings.specs.declared.choices.TheConstants.{CACHE_ENTRIES, CACHE_OCTETS, FAILURES, GREATEST_TTL}
use Rattle.forwarder_settings.specs.declared.forwarder_line.ForwarderLine.{ForwarderLine}
use Rattle.forwarder_settings.specs.declared.forwarder_line.ForwarderLine.TheVariants.{Blank, NoSetting, Sets}
use Rattle.forwarder_settings.specs.declared.forwarder_line.ForwarderSetting.{ForwarderSetting}
use Rattle.forwarder_settings.specs.declared.forwarder_line.ForwarderSetting.TheVariants as set
use Rattle.forwarder_settings.specs.declared.forwarder_option.ForwarderOption.{ForwarderOption}
use Rattle.forwarder_settings.specs.declared.forwarder_option.ForwarderOption.TheVariants as to

-- a domain, as the octets of its name in lower case, and the servers that are asked for it
pub record DomainGroupValue : Type 0 where
  pub domain : List ℕ
  pub servers : List PoolServerValue

-- How servers are asked; the general servers, which are group 0; the groups 1, 2, ..; what lines say of domains, in
-- order; what a forwarder is told to do; the bounds of its cache and of its failures; and whether local zones are
-- served.
pub record SettingsValue : Type 0 where
  pub options : OptionsValue
  pub servers : List PoolServerValue
  pub groups : List DomainGroupValue
  pub rules : List (List ℕ × DomainRule)
  pub forwarder : ForwarderOptionsValue
  pub cache : CacheBounds
  pub failures : CacheBounds
  pub serves_locally : Bool

abbrev pub most_failures : ℕ → CacheBounds
most_failures entries = record { entries = entries; octets = 2 ^ 64 - 1 }

-- before any line: no client may ask yet; with or without the option `trust-ad` of a file
abbrev pub first_choices : Bool → ForwarderOptionsValue
first_choices trust_ad = record {
  trusts_authentic_data = trust_ad;
  may_ask = [];
  drops_strangers = false;
  limits = default_limits;
  greatest_ttl = GREATEST_TTL;
  prefetches = false;
  serves_stale = 0;
  denied = [];
  allowed = [];
  exempt = [];
}

abbrev pub settings_over : OptionsValue → Bool → SettingsValue
settings_over options trust_ad = record {
  options = options;
  servers = [];
  groups = [];
  rules = [];
  forwarder = first_choices trust_ad;
  cache = record { entries = CACHE_ENTRIES; octets = CACHE_OCTETS };
  failures = most_failures FAILURES;
  serves_locally = true;
}

-- ---- one more setting

-- the octets by which a domain is known
abbrev pub domain_of : NameValue → List ℕ
domain_of name = canonical_form name.labels

-- the place of a domain's group
abbrev pub place_of : List ℕ → List DomainGroupValue → Option ℕ
place_of domain groups = position (λ group. bytes_eq domain group.domain) groups

abbrev pub first_group : List ℕ → PoolServerValue → DomainGroupValue
first_group domain server = record { domain = domain; servers = server ∷ [] }

abbrev pub one_more : PoolServerValue → DomainGroupValue → DomainGroupValue
one_more server group = record group { servers = group.servers ++ server ∷ [] }

-- the group at a place, where there is one, gets one more server
abbrev pub grown_at : ℕ → PoolServerValue → List DomainGroupValue → List DomainGroupValue
grown_at place server [] = []
grown_at zero server (group ∷ groups) = one_more server group ∷ groups
grown_at (suc place) server (group ∷ groups) = group ∷ grown_at place server groups

-- the group of a domain gets one more server, and a domain without a group gets one behind the others
abbrev pub forwarded_at : Option ℕ → List ℕ → PoolServerValue → List DomainGroupValue → List DomainGroupValue
forwarded_at None domain server groups = groups ++ first_group domain server ∷ []
forwarded_at (Some place) domain server groups = grown_at place server groups

abbrev pub forwarded : List ℕ → PoolServerValue → List DomainGroupValue → List DomainGroupValue
forwarded domain server groups = forwarded_at (place_of domain groups) domain server groups

-- its number: groups are counted from 1
abbrev pub number_at : Option ℕ → List DomainGroupValue → ℕ
number_at (Some place) groups = place + 1
number_at None groups = length groups + 1

abbrev pub group_number : List ℕ → List DomainGroupValue → ℕ
group_number domain groups = number_at (place_of domain groups) groups

abbrev pub with_rule : List ℕ → DomainRule → SettingsValue → SettingsValue
with_rule domain said s = record s { rules = s.rules ++ (domain, said) ∷ [] }

abbrev pub with_forward : List ℕ → PoolServerValue → SettingsValue → SettingsValue
with_forward domain server s =
    record (with_rule domain (rule.Ask (group_number domain s.groups)) s) { groups = forwarded domain server s.groups }

abbrev pub with_choices : ForwarderOption → ForwarderOptionsValue → ForwarderOptionsValue
with_choices (to.TrustsAuthenticData t) f = record f { trusts_authentic_data = t }
with_choices (to.DropsStrangers t) f = record f { drops_strangers = t }
with_choices (to.GreatestTtl n) f = record f { greatest_ttl = n }
with_choices (to.Prefetches t) f = record f { prefetches = t }
with_choices (to.ServesStale n) f = record f { serves_stale = n }
with_choices (to.Clients n) f = record f { limits = record f.limits { all = n } }
with_choices (to.ClientsOfAddress n) f = record f { limits = record f.limits { of_address = n } }
with_choices (to.ClientsOfQuestion n) f = record f { limits = record f.limits { of_question = n } }
with_choices other f = f

-- an option counts in place of those before it
abbrev pub with_forwarder_option : ForwarderOption → SettingsValue → SettingsValue
with_forwarder_option (to.ServesLocally t) s = record s { serves_locally = t }
with_forwarder_option (to.CacheOctets n) s = record s { cache = record s.cache { octets = n } }
with_forwarder_option (to.CacheEntries n) s = record s { cache = record s.cache { entries = n } }
with_forwarder_option (to.Failures n) s = record s { failures = most_failures n }
with_forwarder_option option s = record s { forwarder = with_choices option s.forwarder }

abbrev pub with_client : IpNet → ForwarderOptionsValue → ForwarderOptionsValue
with_client net f = record f { may_ask = f.may_ask ++ net ∷ [] }

abbrev pub with_denied : List IpNet → ForwarderOptionsValue → ForwarderOptionsValue
with_denied nets f = record f { denied = f.denied ++ nets }

abbrev pub with_allowed : IpNet → ForwarderOptionsValue → ForwarderOptionsValue
with_allowed net f = record f { allowed = f.allowed ++ net ∷ [] }

abbrev pub with_exempt : NameValue → ForwarderOptionsValue → ForwarderOptionsValue
with_exempt domain f = record f { exempt = f.exempt ++ domain ∷ [] }

abbrev pub with_setting : ForwarderSetting → SettingsValue → SettingsValue
with_setting (set.Asking option) s = record s { options = with_option option s.options }
with_setting (set.Server server) s = record s { servers = s.servers ++ server ∷ [] }
with_setting (set.Forward name server) s = with_forward (domain_of name) server s
with_setting (set.Rule name said) s = with_rule (domain_of name) said s
with_setting (set.Allow net) s = record s { forwarder = with_client net s.forwarder }
with_setting (set.DenyAnswers net) s = record s { forwarder = with_denied (net ∷ []) s.forwarder }
with_setting set.DenyPrivate s = record s { forwarder = with_denied (near_networks ++ hostless_networks) s.forwarder }
with_setting (set.AllowAnswers net) s = record s { forwarder = with_allowed net s.forwarder }
with_setting (set.AllowAnswersFor domain) s = record s { forwarder = with_exempt domain s.forwarder }
with_setting (set.Option option) s = with_forwarder_option option s

-- ---- lines

-- one more line, of this number; or its error
abbrev pub with_line : SettingsValue → ℕ → Result ForwarderLine LineFaultValue → Result SettingsValue SettingsError
with_line s number (Ok Blank) = Ok s
with_line s number (Ok (Sets setting)) = Ok (with_setting setting s)
with_line s number (Ok NoSetting) = Err (NotSetting number)
with_line s number (Err fault) = Err (Line (record { line = number; fault = fault.fault }))

-- the lines from this number on: what is set behind them, or the error of the first line with one
abbrev pub AreRead : SettingsValue → ℕ → List (List ℕ) → Result SettingsValue SettingsError → Type 0
AreRead s number [] result = result ≡ Ok s
AreRead s number (line ∷ others) result =
    (read : Result ForwarderLine LineFaultValue) × IsLine line read
    × MatchResult (with_line s number read) (λ more. AreRead more (number + 1) others result)
    (λ error. result ≡ Err error)

-- this is set, or there is this error
abbrev pub IsSet : Result SettingsValue SettingsError → Result (Unit {0}) SettingsError → SettingsValue → Type 0
IsSet (Ok s) result after = (result ≡ Ok tt) × (after ≡ s)
IsSet (Err error) result after = result ≡ Err error

-- what a line of this number says is set; or it has an error; or no memory is left
abbrev pub IsApplied : SettingsValue → ℕ → ForwarderLine → Result (Unit {0}) SettingsError → SettingsValue → Type 0
IsApplied before number said result after =
    (result ≡ Err OutOfMemory) ⊎ IsSet (with_line before number (Ok said)) result after

-- the same, and first it is read
abbrev pub IsTaken : SettingsValue → ℕ → List ℕ → Result (Unit {0}) SettingsError → SettingsValue → Type 0
IsTaken before number line result after =
    (result ≡ Err OutOfMemory)
    ⊎ ((read : Result ForwarderLine LineFaultValue) × IsLine line read
    × IsSet (with_line before number read) result after)
