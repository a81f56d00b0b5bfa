-- The name is read as it stands, and its type by its code.
use Rattle.std.proofs.Common.{◌≡◌, ℕ, List, inl, rules, subst}
use Rattle.std.specs.Str.{IsUtf8}
use Rattle.hickory_proto_core.specs.codes.record_type.RecordType.{RecordType}
use Rattle.yimarotu_embedded.specs.Held.{StartsNameIn}
use Rattle.yimarotu_c.proofs.looking_up.start.Goals as goal

pub returns-in-Ok : goal.returns-in-Ok
returns-in-Ok c =
    let same : c.in-Ok.name.now ≡ c.args.name.now = search rules in
    let text : IsUtf8 c.args.name.now = search rules in
    let P : List ℕ → RecordType → Type 0 = λ name t. StartsNameIn c.args.number name t c.args.moment c.args.held.now c.start.result c.start.new.self in
    let named : P c.args.name.now c.from_code.result = subst (λ (name : List ℕ). P name c.from_code.result) same c.start.ensures in
    let typed = subst (λ (t : RecordType). P c.args.name.now t) c.from_code.ensures named in
    inl (text, (c.start.result, typed, c.told.ensures))
