use Rattle.std.proofs.Common.{◌≡◌, rules, tests, nat_cmp, refl}
use Rattle.std.specs.Char.{to_ascii_lowercase}
use Rattle.std.proofs.lemmas.Iterator.{YieldsList-from_slice, YieldsList-from_map}
use Rattle.std.proofs.lemmas.Iterator.Search.{cmp_from_yields_List}
use Rattle.std.proofs.lemmas.Iterator.Consumers.{YieldsList-at}
use Rattle.hickory_proto_names.proofs.name.label_cmp.Goals as goal

pub returns : goal.returns
returns c =
    cmp_from_yields_List (λ x y. y ≡ x) _ nat_cmp c.cmp.result c.cmp.ensures.ran
    (YieldsList-from_map _ to_ascii_lowercase (YieldsList-at c.map.ensures.source (YieldsList-from_slice c.args.a.now cc)) c.map.ensures.closure (λ x r q k. search (rules, tests)))
    (λ it e. rw e (YieldsList-from_map _ to_ascii_lowercase (YieldsList-at c.map-2.ensures.source (YieldsList-from_slice c.args.b.now cc)) c.map-2.ensures.closure (λ x r q k. search (rules, tests))))
    (λ x y. refl)
