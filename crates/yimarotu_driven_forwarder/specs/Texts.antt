-- What a forwarder is opened with, in octets.
use Rattle.std.specs.Prelude.{ℕ, Bool, ◌&&◌, List}
use Rattle.std.specs.Str.{bytes_eq}
use Rattle.forwarder_settings.specs.OfClients.{differ_at_most_in_clients}

-- a file resolv.conf, the name of the host, settings, a file of hosts, and a file of blocked names
pub record TextsValue : Type 0 where
  pub conf : List ℕ
  pub hostname : List ℕ
  pub settings : List ℕ
  pub hosts : List ℕ
  pub blocked : List ℕ

abbrev pub texts_of : List ℕ → List ℕ → List ℕ → List ℕ → List ℕ → TextsValue
texts_of conf hostname settings hosts blocked =
    record { conf = conf; hostname = hostname; settings = settings; hosts = hosts; blocked = blocked }

-- each says the same, octet for octet
abbrev pub is_same : TextsValue → TextsValue → Bool
is_same t kept =
    bytes_eq kept.conf t.conf && bytes_eq kept.hostname t.hostname && bytes_eq kept.settings t.settings
    && bytes_eq kept.hosts t.hosts && bytes_eq kept.blocked t.blocked

-- They differ at most in what the settings say of clients.
abbrev pub says_same_of_replies : TextsValue → TextsValue → Bool
says_same_of_replies t kept =
    bytes_eq kept.conf t.conf && bytes_eq kept.hostname t.hostname && differ_at_most_in_clients kept.settings t.settings
    && bytes_eq kept.hosts t.hosts && bytes_eq kept.blocked t.blocked
