-- What the program has to do for a session that asks by itself.
use Rattle.std.specs.Prelude.{◌≡◌, ◌⊎◌, ◌+◌, ℕ, List, [], ◌++◌, length, Option, None, Some, MatchOption}
use Rattle.std.specs.Net.Addr.{ipv4_octets, ipv6_octets}
use Rattle.std.specs.declared.net.IpAddr.{IpAddr}
use Rattle.std.specs.declared.net.IpAddr.TheVariants.{V4, V6}
use Rattle.hickory_resolver_channels.specs.declared.channel.ChannelKind.{ChannelKind}
use Rattle.hickory_resolver_channels.specs.declared.channel.ChannelKind.TheVariants.{Datagram, Stream}
use Rattle.hickory_resolver_traffic.specs.Openings.{OpeningValue}
use Rattle.yimarotu_c.specs.Rooms.{IsPut}
use Rattle.yimarotu_c.specs.Statuses.{number_of}
use Rattle.yimarotu_c.specs.declared.doing.YimarotuAction.{YimarotuAction}
use Rattle.yimarotu_c.specs.declared.status.Status.{Status}
use Rattle.yimarotu_c.specs.declared.status.Status.TheVariants as status
use Rattle.yimarotu_embedded.specs.Driven.{DrivenValue, Fetches, without_action}
use Rattle.yimarotu_embedded.specs.declared.held.Held.{Held}
use Rattle.yimarotu_embedded.specs.declared.held.Held.TheVariants.{Fed, Driven}
use Rattle.yimarotu_session.specs.declared.network_session.NetworkAction.{NetworkAction}
use Rattle.yimarotu_session.specs.declared.network_session.NetworkAction.TheVariants.{Open, Send, Close, Done, Continue}

-- ---- an action in octets

abbrev pub address_octets : IpAddr → List ℕ
address_octets (V4 address) = ipv4_octets address
address_octets (V6 address) = ipv6_octets address

abbrev pub family_of : IpAddr → ℕ
family_of (V4 address) = 4
family_of (V6 address) = 6

abbrev pub protocol_of : ChannelKind → ℕ
protocol_of Datagram = 1
protocol_of Stream = 2

-- the address of a server, and behind it its scope
abbrev pub opening_octets : OpeningValue → List ℕ
opening_octets opening = address_octets opening.address ++ opening.scope

-- ---- an action in numbers

abbrev pub nothing_to_do : Status → YimarotuAction
nothing_to_do s = record {
  status = number_of s;
  kind = 0;
  protocol = 0;
  family = 0;
  port = 0;
  channel = 0;
  number = 0;
  length = 0;
}

abbrev pub opening_end : YimarotuAction → OpeningValue → YimarotuAction
opening_end nothing opening = record nothing {
  kind = 2;
  protocol = protocol_of opening.kind;
  family = family_of opening.address;
  port = opening.port;
  channel = opening.channel;
  length = length (address_octets opening.address) + length opening.scope;
}

abbrev pub action_end : Status → NetworkAction → YimarotuAction
action_end s (Open opening) = opening_end (nothing_to_do s) opening
action_end s (Send sent) =
    record (nothing_to_do s) { kind = 3; channel = sent.channel; length = length sent.octets }
action_end s (Close channel) = record (nothing_to_do s) { kind = 4; channel = channel }
action_end s (Done number) = record (nothing_to_do s) { kind = 5; number = number }
action_end s Continue = record (nothing_to_do s) { kind = 1 }

-- ---- the next action

-- its octets are put in the room, unless memory runs out for them
abbrev pub IsOpeningPut : OpeningValue → List ℕ → List ℕ → Status → Type 0
IsOpeningPut opening before after s =
    IsPut (opening_octets opening) before after s ⊎ ((s ≡ status.NoMemory) × (after ≡ before))

abbrev pub IsActionPut : NetworkAction → List ℕ → List ℕ → Status → Type 0
IsActionPut (Open opening) before after s = IsOpeningPut opening before after s
IsActionPut (Send sent) before after s = IsPut sent.octets before after s
IsActionPut other before after s = IsPut [] before after s

-- what was told whole is to be done; what was not is told again
abbrev pub left_after : Status → DrivenValue → DrivenValue
left_after status.Ok d = without_action d
left_after other d = d

abbrev pub IsActionTold : NetworkAction → DrivenValue → List ℕ → YimarotuAction → DrivenValue → List ℕ → Type 0
IsActionTold action d before ended left after =
    (s : Status) × IsActionPut action before after s × (ended ≡ action_end s action) × (left ≡ left_after s d)

abbrev pub IsTold : DrivenValue → List ℕ → YimarotuAction → DrivenValue → List ℕ → Type 0
IsTold d before ended left after =
    MatchOption d.action ((ended ≡ nothing_to_do status.Ok) × (left ≡ d) × (after ≡ before))
    (λ action. IsActionTold action d before ended left after)

-- the session does its next step, where nothing is left to be told; or no memory is left, and nothing changes
abbrev pub IsPutNext : DrivenValue → List ℕ → YimarotuAction → DrivenValue → List ℕ → Type 0
IsPutNext d before ended left after =
    ((fetched : DrivenValue) × Fetches d fetched × IsTold fetched before ended left after)
    ⊎ ((ended ≡ nothing_to_do status.NoMemory) × (left ≡ d) × (after ≡ before))

abbrev pub IsNextIn : Held → List ℕ → YimarotuAction → Held → List ℕ → Type 0
IsNextIn (Fed s) before ended held after =
    (ended ≡ nothing_to_do status.IsFed) × (held ≡ Fed s) × (after ≡ before)
IsNextIn (Driven d) before ended held after =
    (left : DrivenValue) × IsPutNext d before ended left after × (held ≡ Driven left)

abbrev pub IsNext : Option Held → List ℕ → YimarotuAction → Option Held → List ℕ → Type 0
IsNext session before ended session' after =
    MatchOption session ((ended ≡ nothing_to_do status.Closed) × (session' ≡ None) × (after ≡ before))
    (λ held. (left : Held) × IsNextIn held before ended left after × (session' ≡ Some left))
