-- The name is read as it stands.
use Rattle.std.proofs.Common.{◌≡◌, ℕ, List, inl, rules, subst}
use Rattle.std.specs.Str.{IsUtf8}
use Rattle.yimarotu_embedded.specs.Held.{StartsHostIn}
use Rattle.yimarotu_c.proofs.looking_up.start_ip.Goals as goal

pub returns-in-Ok : goal.returns-in-Ok
returns-in-Ok c =
    let same : c.in-Ok.host.now ≡ c.args.host.now = search rules in
    let text : IsUtf8 c.args.host.now = search rules in
    let P : List ℕ → Type 0 = λ host. StartsHostIn c.args.number host c.args.moment c.args.held.now c.start_ip.result c.start_ip.new.self in
    inl (text, (c.start_ip.result, subst P same c.start_ip.ensures, c.told.ensures))
