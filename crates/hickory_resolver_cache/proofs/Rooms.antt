-- Lists without the entries that leave to make room.
use Rattle.std.proofs.Common.{◌≡◌, ℕ, suc, zero, Bool, true, false, ◌==◌, List, refl, ap, if◌then◌else◌}
use Rattle.std.specs.List.{list_any, position_or_len}
use Rattle.hickory_resolver_model.specs.Cache.{Entry, has_room, least_deadline, with_room, without_earliest}
use Rattle.hickory_resolver_cache.proofs.PairLists.{list_any-remove}

-- where there is room, nothing leaves
pub with_room-done : (n capacity octets : ℕ) (es : List Entry) → has_room capacity octets es ≡ true → with_room n capacity octets es ≡ es
unfolding with_room
with_room-done zero capacity octets es h = refl
with_room-done (suc n) capacity octets es h = ap (λ b. if b then es else with_room n capacity octets (without_earliest es)) h

-- where there is none, the earliest deadline leaves
pub with_room-step : (n capacity octets : ℕ) (es : List Entry) → has_room capacity octets es ≡ false → with_room (suc n) capacity octets es ≡ with_room n capacity octets (without_earliest es)
unfolding with_room
with_room-step n capacity octets es h = ap (λ b. if b then es else with_room n capacity octets (without_earliest es)) h

-- what holds of a list, and still does when the earliest deadline leaves
pub with_room-keeps : (P : List Entry → Type 0) → ((es : List Entry) → P es → P (without_earliest es)) → (n capacity octets : ℕ) (es : List Entry) → P es → P (with_room n capacity octets es)
unfolding with_room
with_room-keeps P keeps zero capacity octets es h = h
with_room-keeps P keeps (suc n) capacity octets es h = by (has_room capacity octets es) (with_room-keeps P keeps n capacity octets (without_earliest es) (keeps es h))
  where
    by : (b : Bool) → P (with_room n capacity octets (without_earliest es)) → P (if b then es else with_room n capacity octets (without_earliest es))
    by true rest = h
    by false rest = rest

pub with_room-none : (p : Entry → Bool) (n capacity octets : ℕ) (es : List Entry) → list_any p es ≡ false → list_any p (with_room n capacity octets es) ≡ false
with_room-none p n capacity octets es none =
    with_room-keeps (λ l. list_any p l ≡ false) (λ l h. list_any-remove p l (position_or_len (λ e. e.valid_until == least_deadline l) l) h) n capacity octets es none
