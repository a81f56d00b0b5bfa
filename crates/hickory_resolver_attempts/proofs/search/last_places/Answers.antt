use native.Mathlib.Omega.{arith}
use Rattle.std.proofs.Common.{◌∙◌, map, refl, sym, ap}
use Rattle.std.proofs.lemmas.List.{map_push}
use Rattle.hickory_resolver_attempts.proofs.LastPlaces.{drop_back, in_order, moved, no_more, one_more}
use Rattle.hickory_resolver_attempts.proofs.search.last_places.Goals as goal

pub loop-i-preserved : goal.loop-i-preserved
loop-i-preserved c =
    moved (sym (drop_back _ c.args.found.now c.loop-i.i _ c.index-found-i.is (omega arith) (omega arith))) refl
    (sym (ap (map (λ n. n.now)) c.in_ok-is_last.ensures.keys))
    (no_more (λ n. n.now) _ _ _ _ (sym c.in_ok-is_last.ensures.added ∙ c.if-is_last.false) c.loop-i.invariant)

pub loop-i-preserved-in-Continue-branch-2 : goal.loop-i-preserved-in-Continue-branch-2
loop-i-preserved-in-Continue-branch-2 c =
    moved (sym (drop_back _ c.args.found.now c.loop-i.i _ c.index-found-i.is (omega arith) (omega arith)))
    (sym (map_push (λ n. n.now) c.loop-i.kept.items _) ∙ sym (ap (map (λ n. n.now)) c.in_ok-push.ensures.items))
    (sym (ap (map (λ n. n.now)) c.in_ok-is_last.ensures.keys))
    (one_more (λ n. n.now) _ _ _ _ (sym c.in_ok-is_last.ensures.added ∙ c.if-is_last.true) c.loop-i.invariant)

pub returns : goal.returns
returns c =
    ap (map (λ n. n.now)) c.reverse.ensures.items
    ∙ in_order (λ n. n.now) c.loop-i.kept.items c.args.found.now _ c.loop-i.i (omega arith) c.loop-i.invariant
