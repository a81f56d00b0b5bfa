-- A text spells one address at most.
use Rattle.std.proofs.Common.{subst, List, ℕ}
use Rattle.hickory_proto_names.proofs.ip.read_ip.Goals as goal
use Rattle.hickory_proto_names.proofs.AddressTexts.{read_exactly}
use Rattle.std.specs.Net.Grammar.{IsIpText, Parses}

pub returns : goal.returns
returns c =
    let P : List ℕ → Type 0 = λ t. Parses IsIpText t c.parse_ascii.result in
    read_exactly c.args.text.now c.parse_ascii.result c.ok.result c.ok.ensures.value (subst P c.as_bytes.ensures.value c.parse_ascii.ensures)
