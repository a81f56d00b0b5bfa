-- Copies of lists, where there are some.
use Rattle.std.proofs.Common.{◌≡◌, ◌∙◌, List, Option, None, Some, ap, Bor, vec_len}
use Rattle.std.proofs.lemmas.List.Elements.{same_from_all_zip}
use Rattle.std.specs.List.{AllZip}
use Rattle.std.specs.Option.{MatchOption, IsSomeAnd, option_copied}
use Rattle.std.specs.Global.{Vec}
use Rattle.hickory_proto_core.specs.Errors.{items_or_none}

-- each copy equals its source
pub same_copies : {A : Type 0} (xs ys : List A) → AllZip (λ x y. y ≡ x) xs ys → ys ≡ xs
same_copies xs ys copied = same_from_all_zip (λ x y. y ≡ x) xs ys copied (λ x y e. e)

-- what `cloned` gives equals its source, as a value and as a list of values
pub same_copy : {A : Type 0} (lent : Option (Bor A)) (copy source : Option A) → option_copied lent ≡ source → MatchOption lent (copy ≡ None) (λ x. IsSomeAnd copy (λ y. y ≡ x.now)) → copy ≡ source
same_copy None copy source e h = h ∙ e
same_copy (Some x) None source e h = absurd h
same_copy (Some x) (Some y) source e h = ap (λ v. Some v) h ∙ e

pub same_items : {A : Type 0} (lent : Option (Bor (Vec A))) (copy source : Option (Vec A)) → option_copied lent ≡ source → MatchOption lent (copy ≡ None) (λ x. IsSomeAnd copy (λ y. AllZip (λ a b. b ≡ a) x.now.items y.items × (vec_len y ≡ vec_len x.now))) → items_or_none copy ≡ items_or_none source
same_items None copy source e h = ap items_or_none (h ∙ e)
same_items (Some x) None source e h = absurd h
same_items (Some x) (Some y) source e h = ap (λ l. Some l) (same_copies x.now.items y.items h.0) ∙ ap items_or_none e
