-- The server that a word is, by its parts.
use Rattle.std.proofs.Common.{◌≡◌, ℕ, List, None, Some, ap}
use Rattle.std.specs.Option.{option_map}
use Rattle.resolv_conf.specs.AddressDecided.{address_of}
use Rattle.resolv_conf.specs.Servers.{plain_server, scoped_server, server_of, server_of_parts}
use Rattle.resolv_conf.specs.Text.{cut}

pub server_of-cut : (word text scope : List ℕ) → cut 37 word ≡ Some (text, scope)
    → server_of word ≡ scoped_server (address_of text) scope
unfolding server_of
server_of-cut word text scope e = ap (server_of_parts word) e

pub server_of-plain : (word : List ℕ) → cut 37 word ≡ None
    → server_of word ≡ option_map plain_server (address_of word)
unfolding server_of
server_of-plain word e = ap (server_of_parts word) e
