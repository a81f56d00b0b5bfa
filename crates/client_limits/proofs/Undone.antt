-- One who waits, and then waits no more, leaves the counts as they were.
use Rattle.std.proofs.Common.{◌≡◌, ◌≢◌, ℕ, ◌+◌, ◌-◌, ◌<◌, Bool, true, false, cond, List, [], ◌∷◌, refl, sym, ◌∙◌, ap, ap₂, arith, length, drop, eqb}
use Rattle.std.specs.Prelude.{Option, None, Some, IsSome, nat_le, unwrap_or}
use Rattle.std.specs.declared.cmp.Ordering.{Ordering}
use Rattle.std.specs.declared.cmp.Ordering.TheVariants.{Less, Equal, Greater}
use Rattle.std.specs.declared.net.IpAddr.{IpAddr}
use Rattle.std.specs.Ordering.{is_eq, nat_cmp, match_ordering, ordering_reverse}
use Rattle.std.specs.Map.{keys_of, lookup, remove_entry, set_value}
use Rattle.std.specs.BTreeMap.{insert_entry, is_at}
use Rattle.std.proofs.lemmas.Bool.{eqb-true, leb-false, leb-true}
use Rattle.std.proofs.lemmas.Cmp.{nat_cmp_total}
use Rattle.client_limits.specs.Counts.{CountsValue, HasNoZero, added, count_of, lowered, one_less, removed}
use Rattle.client_limits.specs.Networks.{counted_as}

abbrev Counts : Type 0
Counts = List (ℕ × ℕ)

-- ---- a network is found where it is

reverse-self : (o : Ordering) → o ≡ ordering_reverse o → is_eq o ≡ true
reverse-self Less h = cc
reverse-self Equal h = refl
reverse-self Greater h = cc

same_key : (n : ℕ) → is_at (nat_cmp n) n ≡ true
same_key n = reverse-self (nat_cmp n n) (nat_cmp_total.antisymm n n)

lookup-inserted : (n v : ℕ) (es : Counts) → lookup (is_at (nat_cmp n)) (insert_entry nat_cmp es n v) ≡ Some v
lookup-inserted n v [] = rw (same_key n) refl
lookup-inserted n v (e ∷ es) = by (nat_cmp n e.0) refl (lookup-inserted n v es)
  where
    by : (o : Ordering) → nat_cmp n e.0 ≡ o
        → lookup (is_at (nat_cmp n)) (insert_entry nat_cmp es n v) ≡ Some v
        → lookup (is_at (nat_cmp n))
        (match_ordering o ((n, v) ∷ e ∷ es) ((e.0, v) ∷ es) (e ∷ insert_entry nat_cmp es n v)) ≡ Some v
    by Less h more = rw (same_key n) refl
    by Equal h more = rw h refl
    by Greater h more = rw h more

-- ---- what was put in is taken out again

remove-inserted : (n v : ℕ) (es : Counts) → lookup (is_at (nat_cmp n)) es ≡ None
    → remove_entry (is_at (nat_cmp n)) (insert_entry nat_cmp es n v) ≡ es
remove-inserted n v [] none = rw (same_key n) refl
remove-inserted n v (e ∷ es) none = by (nat_cmp n e.0) refl (remove-inserted n v es)
  where
    by : (o : Ordering) → nat_cmp n e.0 ≡ o
        → (lookup (is_at (nat_cmp n)) es ≡ None
        → remove_entry (is_at (nat_cmp n)) (insert_entry nat_cmp es n v) ≡ es)
        → remove_entry (is_at (nat_cmp n))
        (match_ordering o ((n, v) ∷ e ∷ es) ((e.0, v) ∷ es) (e ∷ insert_entry nat_cmp es n v)) ≡ e ∷ es
    by Less h more = rw (same_key n) refl
    by Equal h more = let no = rw h at none in cc
    by Greater h more = rw h (ap (λ (l : Counts). e ∷ l) (more (rw h at none)))

set-inserted : (n v k : ℕ) (es : Counts) → keys_of (insert_entry nat_cmp es n v) ≡ keys_of es
    → lookup (is_at (nat_cmp n)) es ≡ Some k
    → set_value (is_at (nat_cmp n)) (insert_entry nat_cmp es n v) k ≡ es
set-inserted n v k [] keys found = cc
set-inserted n v k (e ∷ es) keys found = by (nat_cmp n e.0) refl keys (set-inserted n v k es)
  where
    by : (o : Ordering) → nat_cmp n e.0 ≡ o
        → keys_of (match_ordering o ((n, v) ∷ e ∷ es) ((e.0, v) ∷ es) (e ∷ insert_entry nat_cmp es n v))
        ≡ e.0 ∷ keys_of es
        → (keys_of (insert_entry nat_cmp es n v) ≡ keys_of es → lookup (is_at (nat_cmp n)) es ≡ Some k
        → set_value (is_at (nat_cmp n)) (insert_entry nat_cmp es n v) k ≡ es)
        → set_value (is_at (nat_cmp n))
        (match_ordering o ((n, v) ∷ e ∷ es) ((e.0, v) ∷ es) (e ∷ insert_entry nat_cmp es n v)) k ≡ e ∷ es
    by Less h same more = absurd (omega (arith, ap length same))
    by Equal h same more =
        let here : Some e.1 ≡ Some k = rw h at found in
        let value : e.1 ≡ k = cc in
        rw h (ap (λ (x : ℕ). (e.0, x) ∷ es) (sym value))
    by Greater h same more = rw h (ap (λ (l : Counts). e ∷ l) (more (ap (drop 1) same) (rw h at found)))

-- ---- one comes and goes

abbrev counts_with : ℕ → Counts → CountsValue
counts_with all networks = record { all = all; of_networks = networks }

gone : (address : IpAddr) (c : CountsValue) → 0 < count_of address c
    → removed address c
    ≡ counts_with (c.all - 1) (one_less (counted_as address) (count_of address c) c.of_networks)
gone address c some = by (eqb (count_of address c) 0) refl
  where
    by : (b : Bool) → eqb (count_of address c) 0 ≡ b
        → cond b c (counts_with (c.all - 1) (one_less (counted_as address) (count_of address c) c.of_networks))
        ≡ counts_with (c.all - 1) (one_less (counted_as address) (count_of address c) c.of_networks)
    by true none = let is = eqb-true (count_of address c) 0 none in absurd (omega (arith, is, some))
    by false h = refl

gone-come : (address : IpAddr) (c : CountsValue)
    → one_less (counted_as address) (count_of address c + 1)
    (insert_entry nat_cmp c.of_networks (counted_as address) (count_of address c + 1)) ≡ c.of_networks
    → removed address (added address c) ≡ c
gone-come address c less =
    let n = counted_as address in
    let found : count_of address (added address c) ≡ count_of address c + 1 =
    ap (λ (o : Option ℕ). unwrap_or o 0) (lookup-inserted n (count_of address c + 1) c.of_networks) in
    let all_is : c.all + 1 - 1 ≡ c.all = omega arith in
    let networks_are : one_less n (count_of address (added address c))
    (insert_entry nat_cmp c.of_networks n (count_of address c + 1)) ≡ c.of_networks =
    ap (λ (x : ℕ). one_less n x (insert_entry nat_cmp c.of_networks n (count_of address c + 1))) found ∙ less in
    gone address (added address c) (omega (arith, found)) ∙ ap₂ counts_with all_is networks_are

less-inserted : (n k : ℕ) (es : Counts) (o : Option ℕ) → lookup (is_at (nat_cmp n)) es ≡ o → unwrap_or o 0 ≡ k
    → o ≢ Some 0 → (IsSome o → keys_of (insert_entry nat_cmp es n (k + 1)) ≡ keys_of es)
    → one_less n (k + 1) (insert_entry nat_cmp es n (k + 1)) ≡ es
less-inserted n k es None h is some keys = by (nat_le (k + 1) 1) refl
  where
    by : (b : Bool) → nat_le (k + 1) 1 ≡ b
        → cond b (remove_entry (is_at (nat_cmp n)) (insert_entry nat_cmp es n (k + 1)))
        (lowered n (insert_entry nat_cmp es n (k + 1))) ≡ es
    by true last = remove-inserted n (k + 1) es h
    by false others = let more = leb-false (k + 1) 1 others in absurd (omega (arith, more, is))
less-inserted n k es (Some v) h is some keys = by (nat_le (k + 1) 1) refl
  where
    by : (b : Bool) → nat_le (k + 1) 1 ≡ b
        → cond b (remove_entry (is_at (nat_cmp n)) (insert_entry nat_cmp es n (k + 1)))
        (lowered n (insert_entry nat_cmp es n (k + 1))) ≡ es
    by true last =
        let one = leb-true (k + 1) 1 last in
        let zero_is : v ≡ 0 = omega (arith, one, is) in
        absurd (some (ap Some zero_is))
    by false others =
        let value : k + 1 - 1 ≡ v = omega (arith, is) in
        rw (lookup-inserted n (k + 1) es)
        (ap (λ (x : ℕ). set_value (is_at (nat_cmp n)) (insert_entry nat_cmp es n (k + 1)) x) value
        ∙ set-inserted n (k + 1) v es (keys refl) h)

-- One more, and one less: that is what was.
undone : (address : IpAddr) (c : CountsValue) → HasNoZero c.of_networks
    → (IsSome (lookup (is_at (nat_cmp (counted_as address))) c.of_networks)
    → keys_of (insert_entry nat_cmp c.of_networks (counted_as address) (count_of address c + 1))
    ≡ keys_of c.of_networks)
    → removed address (added address c) ≡ c
undone address c some keys =
    gone-come address c
    (less-inserted (counted_as address) (count_of address c) c.of_networks
    (lookup (is_at (nat_cmp (counted_as address))) c.of_networks) refl refl (some (counted_as address)) keys)

-- the same of counts that are made so
pub undone_by : (address : IpAddr) (before : CountsValue) (all network count : ℕ) (networks : Counts)
    → HasNoZero before.of_networks → all ≡ before.all + 1 → network ≡ counted_as address
    → count ≡ count_of address before + 1 → networks ≡ insert_entry nat_cmp before.of_networks network count
    → (IsSome (lookup (is_at (nat_cmp network)) before.of_networks) → keys_of networks ≡ keys_of before.of_networks)
    → removed address (counts_with all networks) ≡ before
undone_by address before all network count networks some all_is network_is count_is networks_are keys =
    let inserted : networks
    ≡ insert_entry nat_cmp before.of_networks (counted_as address) (count_of address before + 1) =
    networks_are
    ∙ ap₂ (λ (n : ℕ) (k : ℕ). insert_entry nat_cmp before.of_networks n k) network_is count_is in
    ap (removed address) (ap₂ counts_with all_is inserted)
    ∙ undone address before some
    (λ (has : IsSome (lookup (is_at (nat_cmp (counted_as address))) before.of_networks)).
    ap keys_of (sym inserted) ∙ keys (rw network_is has))

-- ---- no network is counted of which nobody waits

-- where what is written is not 0
pub no_zero : (before after : ℕ → Option ℕ) (is_written : ℕ → Bool) (written : Option ℕ) → written ≢ Some 0
    → ((q : ℕ) → after q ≡ cond (is_written q) written (before q)) → ((q : ℕ) → before q ≢ Some 0)
    → (q : ℕ) → after q ≢ Some 0
no_zero before after is_written written some now was q zero = by (is_written q) (sym (now q) ∙ zero)
  where
    by : (b : Bool) → cond b written (before q) ≡ Some 0 → ⊥
    by true h = some h
    by false h = was q h
