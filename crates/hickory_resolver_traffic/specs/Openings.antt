-- What goes out of a pool.
use Rattle.std.specs.Prelude.{ℕ, List, Option}
use Rattle.std.specs.declared.net.IpAddr.{IpAddr}
use Rattle.std.specs.declared.net.SocketAddr.{SocketAddr}
use Rattle.hickory_resolver_channels.specs.declared.channel.ChannelKind.{ChannelKind}

-- a channel that is to be opened: what goes over it, to which address and port, and from which
pub record OpeningValue : Type 0 where
  pub channel : ℕ
  pub kind : ChannelKind
  pub address : IpAddr
  pub scope : List ℕ
  pub port : ℕ
  pub bind_addr : Option SocketAddr

-- octets as they are written on a channel
pub record SentValue : Type 0 where
  pub channel : ℕ
  pub octets : List ℕ
