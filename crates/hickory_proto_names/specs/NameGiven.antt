-- What is given for a name: a text, which is read, or an address, which has its arpa name.
use Rattle.std.specs.Prelude.{◌≡◌, ◌⊎◌, List, ℕ, Option, Some, None, Result, Ok, Err, IfOk, IfErr}
use Rattle.std.specs.declared.net.IpAddr.{IpAddr}
use Rattle.hickory_proto_names.specs.Name.{NameValue}
use Rattle.hickory_proto_names.specs.NameText.{Spells, HasFault}
use Rattle.hickory_proto_names.specs.NameDecided.{text_name}
use Rattle.hickory_proto_names.specs.Addresses.{IsAddressText}
use Rattle.hickory_proto_names.specs.Arpa.{arpa_name, whole_net}
use Rattle.hickory_proto_names.specs.declared.name_error.NameError.{NameError}
use Rattle.hickory_proto_names.specs.declared.name_error.NameError.TheVariants.{OutOfMemory}

-- the address that a text spells, or none where it spells none
abbrev pub IsReadAddress : List ℕ → Option IpAddr → Type 0
IsReadAddress text None = (address : IpAddr) → IsAddressText text address → ⊥
IsReadAddress text (Some address) = IsAddressText text address

-- what reading the text of a name answers: the name that it spells, or its first fault; or out of memory
pub record IsReadName (text : List ℕ) (result : Result NameValue NameError) : Type 0 where
  pub ok : IfOk result (Spells text)
  pub err : IfErr result (λ e. (e ≡ OutOfMemory) ⊎ HasFault text e)
  pub computed : (result ≡ text_name text) ⊎ (result ≡ Err OutOfMemory)

-- the arpa name of an address; or out of memory
abbrev pub IsNameOfAddress : IpAddr → Result NameValue NameError → Type 0
IsNameOfAddress address (Ok name) = name ≡ arpa_name (whole_net address)
IsNameOfAddress address (Err error) = error ≡ OutOfMemory
