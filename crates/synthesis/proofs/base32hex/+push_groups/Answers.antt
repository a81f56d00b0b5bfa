use Rattle.std.proofs.Common.{◌≡◌, ◌∙◌, ◌++◌, ◌-◌, OnOk, ap, append_assoc, drop, get_or, length, subst, sym, take, arith}
use Rattle.std.proofs.lemmas.Grind.{common_steps}
use Rattle.synthesis.specs.Base32Hex.{base32hex, digits, group}
use Rattle.synthesis.proofs.Hashes.{few_octets, first_octets}
use Rattle.synthesis.proofs.Steps.{behind}
use Rattle.synthesis.proofs.base32hex.+push_groups.Goals as goal

pub returns-in_default : goal.returns-in_default
returns-in_default t c =
    let none = few_octets c.args.bytes.now c.in_default.len_below in grind (arith, common_steps)

pub returns : goal.returns
returns t c =
    let bytes = c.args.bytes.now in let rest = take (length bytes - 5) (drop 5 bytes) in
    let number = group (get_or bytes 0 0) (get_or bytes 1 0) (get_or bytes 2 0) (get_or bytes 3 0) (get_or bytes 4 0) in
    let first = c.args.text.now.items in
    subst (λ x. OnOk c.push_groups.result (c.push_groups.new.text.items ≡ x))
    (ap (λ x. x ++ base32hex rest) (c.in_ok-push_digits.ensures ∙ ap (λ n. first ++ digits 8 n) c.group.ensures)
    ∙ append_assoc first (digits 8 number) (base32hex rest)
    ∙ ap (λ xs. first ++ (digits 8 number ++ base32hex xs)) (behind 5 bytes)
    ∙ ap (λ xs. first ++ xs) (sym (first_octets bytes c.in-len5-up.len_at_least)))
    c.push_groups.ensures
