use Rattle.std.proofs.Common.{◌≡◌, true, sym, ◌∙◌, ap, List, take, drop, length, ℕ}
use Rattle.std.specs.Map.{lookup}
use Rattle.std.specs.Str.{bytes_eq}
use Rattle.domain_table.specs.Names.{is_short, suffixes}
use Rattle.domain_table.specs.Domains.{first_of}
use Rattle.domain_table.proofs.Kept.{lookup-suffix}
use Rattle.domain_table.proofs.Suffixes.{found-at, passed-at}
use Rattle.domain_table.proofs.domain_table.DomainTable.find.Goals as goal

pub returns-in-Some : goal.returns-in-Some
returns-in-Some g c =
    let name = c.args.name.now in
    let es = c.args.self.now in
    let place = c.loop-place.place in
    let short : is_short name ≡ true = cc in
    found-at es name place c.in-Some.value.now short c.loop-place-test.true c.loop-place.invariant
    (sym (c.in-Some.ensures ∙ ap (λ (key : List ℕ). lookup (bytes_eq key) es) c.suffix.ensures
    ∙ lookup-suffix (take (length name) c.lower_room-room.result) name place es c.lower_room-room.ensures))

pub loop-place-preserved : goal.loop-place-preserved
loop-place-preserved g c =
    let name = c.args.name.now in
    let es = c.args.self.now in
    let place = c.loop-place.place in
    ap (λ (n : ℕ). first_of es (suffixes (drop n name))) c.next_place-place.ensures
    ∙ passed-at es name place c.loop-place-test.true c.loop-place.invariant
    (sym (c.in_default.ensures ∙ ap (λ (key : List ℕ). lookup (bytes_eq key) es) c.suffix.ensures
    ∙ lookup-suffix (take (length name) c.lower_room-room.result) name place es c.lower_room-room.ensures))
