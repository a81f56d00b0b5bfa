-- The text that was written is the computed one, and that is the one of the rule.
use Rattle.std.proofs.Common.{sym, subst, List, ℕ}
use Rattle.hickory_proto_names.proofs.ip.printed_text.Goals as goal
use Rattle.hickory_proto_names.specs.Addresses.{IsPrintedAddress}
use Rattle.hickory_proto_names.proofs.AddressTexts.{printed}

pub returns-clause-rule : goal.returns-clause-rule
returns-clause-rule c =
    let P : List ℕ → Type 0 = λ t. IsPrintedAddress t c.args.address in
    subst P (sym c.in_ok-format.ensures.ok) (printed c.args.address)
