-- What the program has to do for a forwarder.
use Rattle.std.specs.Prelude.{◌≡◌, ◌⊎◌, ◌+◌, ℕ, List, [], ◌++◌, length, Option, None, Some, MatchOption}
use Rattle.std.specs.Net.Addr.{ipv4_octets, ipv6_octets}
use Rattle.std.specs.declared.net.IpAddr.{IpAddr}
use Rattle.std.specs.declared.net.IpAddr.TheVariants.{V4, V6}
use Rattle.hickory_resolver_channels.specs.declared.channel.ChannelKind.{ChannelKind}
use Rattle.hickory_resolver_channels.specs.declared.channel.ChannelKind.TheVariants.{Datagram, Stream}
use Rattle.hickory_resolver_traffic.specs.Openings.{OpeningValue}
use Rattle.yimarotu_forwarder.specs.declared.steps.ForwarderAction.{ForwarderAction}
use Rattle.yimarotu_forwarder.specs.declared.steps.ForwarderAction.TheVariants.{Reply, Open, Send, Close, Continue}
use Rattle.yimarotu_driven_forwarder.specs.Driven.{DrivenValue, Fetches, StopsFetching, without_action}
use Rattle.yimarotu_forwarder_c.specs.Calls.{OnOpenIn}
use Rattle.yimarotu_forwarder_c.specs.Rooms.{IsPut}
use Rattle.yimarotu_forwarder_c.specs.Statuses.{number_of}
use Rattle.yimarotu_forwarder_c.specs.declared.doing.YimarotuAction.{YimarotuAction}
use Rattle.yimarotu_forwarder_c.specs.declared.status.Status.{Status}
use Rattle.yimarotu_forwarder_c.specs.declared.status.Status.TheVariants as status

-- ---- an action in octets

abbrev pub address_octets : IpAddr → List ℕ
address_octets (V4 address) = ipv4_octets address
address_octets (V6 address) = ipv6_octets address

abbrev pub family_of : IpAddr → ℕ
family_of (V4 address) = 4
family_of (V6 address) = 6

abbrev pub protocol_of : ChannelKind → ℕ
protocol_of Datagram = 1
protocol_of Stream = 2

-- the address of a server, and behind it its scope
abbrev pub opening_octets : OpeningValue → List ℕ
opening_octets opening = address_octets opening.address ++ opening.scope

-- ---- an action in numbers

abbrev pub nothing_to_do : Status → YimarotuAction
nothing_to_do s = record {
  status = number_of s;
  kind = 0;
  protocol = 0;
  family = 0;
  port = 0;
  channel = 0;
  number = 0;
  length = 0;
}

abbrev pub opening_end : YimarotuAction → OpeningValue → YimarotuAction
opening_end nothing opening = record nothing {
  kind = 2;
  protocol = protocol_of opening.kind;
  family = family_of opening.address;
  port = opening.port;
  channel = opening.channel;
  length = length (address_octets opening.address) + length opening.scope;
}

abbrev pub reply_end : YimarotuAction → ℕ → List ℕ → YimarotuAction
reply_end nothing number reply = record nothing { kind = 6; number = number; length = length reply }

abbrev pub action_end : Status → ForwarderAction → List ℕ → YimarotuAction
action_end s (Reply number) reply = reply_end (nothing_to_do s) number reply
action_end s (Open opening) reply = opening_end (nothing_to_do s) opening
action_end s (Send sent) reply =
    record (nothing_to_do s) { kind = 3; channel = sent.channel; length = length sent.octets }
action_end s (Close channel) reply = record (nothing_to_do s) { kind = 4; channel = channel }
action_end s Continue reply = record (nothing_to_do s) { kind = 1 }

-- ---- the next action

-- its octets are put in the room, unless memory runs out for them
abbrev pub IsOpeningPut : OpeningValue → List ℕ → List ℕ → Status → Type 0
IsOpeningPut opening before after s =
    IsPut (opening_octets opening) before after s ⊎ ((s ≡ status.NoMemory) × (after ≡ before))

abbrev pub IsActionPut : ForwarderAction → List ℕ → List ℕ → List ℕ → Status → Type 0
IsActionPut (Reply number) reply before after s = IsPut reply before after s
IsActionPut (Open opening) reply before after s = IsOpeningPut opening before after s
IsActionPut (Send sent) reply before after s = IsPut sent.octets before after s
IsActionPut other reply before after s = IsPut [] before after s

-- what was told whole is to be done; what was not is told again
abbrev pub left_after : Status → DrivenValue → DrivenValue
left_after status.Ok d = without_action d
left_after other d = d

abbrev pub IsActionTold : ForwarderAction → DrivenValue → List ℕ → YimarotuAction → DrivenValue → List ℕ → Type 0
IsActionTold action d before ended left after =
    (s : Status) × IsActionPut action d.forwarder.reply before after s
    × (ended ≡ action_end s action d.forwarder.reply) × (left ≡ left_after s d)

abbrev pub IsTold : DrivenValue → List ℕ → YimarotuAction → DrivenValue → List ℕ → Type 0
IsTold d before ended left after =
    MatchOption d.action ((ended ≡ nothing_to_do status.Ok) × (left ≡ d) × (after ≡ before))
    (λ action. IsActionTold action d before ended left after)

-- the forwarder does its next step, where nothing is left to be told; or no memory is left
abbrev pub IsPutNext : DrivenValue → List ℕ → YimarotuAction → DrivenValue → List ℕ → Type 0
IsPutNext d before ended left after =
    ((fetched : DrivenValue) × Fetches d fetched × IsTold fetched before ended left after)
    ⊎ ((ended ≡ nothing_to_do status.NoMemory) × StopsFetching d left × (after ≡ before))

abbrev pub IsNext : Option DrivenValue → List ℕ → YimarotuAction → Option DrivenValue → List ℕ → Type 0
IsNext = OnOpenIn IsPutNext (nothing_to_do status.Closed)
