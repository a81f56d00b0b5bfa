-- Names that were read from a message, by the places where their labels stand.
use Rattle.std.specs.Prelude.{◌≡◌, ℕ, List, length, take, true, Ok}
use Rattle.hickory_proto_names.specs.Name.{NameValue}
use Rattle.hickory_proto_wire.specs.declared.wire_name.Walk.{Walk}
use Rattle.hickory_proto_wire.specs.Names.{labels_at}

-- The name is fully qualified, and its labels are what some reading of the octets that went over the place found there.
pub record IsReadAt (octets : List ℕ) (place : ℕ) (name : NameValue) : Type 0 where
  pub steps : ℕ
  pub walk : Walk
  pub end : ℕ
  pub there : walk.at ≡ place
  pub read : labels_at steps octets walk ≡ Ok (name.labels, end)
  pub whole : name.fqdn ≡ true

-- the bytes are the first ones of these octets
abbrev pub IsFront : List ℕ → List ℕ → Type 0
IsFront bytes octets = take (length bytes) octets ≡ bytes
