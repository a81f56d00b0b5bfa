-- A call of a session that is open.
use Rattle.std.proofs.Common.{◌≡◌, Option, Some, subst, sym}
use Rattle.yimarotu_c.specs.LookingUp.{OnOpen}
use Rattle.yimarotu_embedded.specs.declared.held.Held.{Held}

pub on_open : {A : Type 0} (Does : Held → A → Held → Type 0) (closed ended : A) (before after : Option Held)
    (held left : Held) → before ≡ Some held → Does held ended left → after ≡ Some left
    → OnOpen Does closed before ended after
on_open Does closed ended before after held left is does left_is =
    subst (λ (b : Option Held). OnOpen Does closed b ended after) (sym is) (left, does, left_is)
