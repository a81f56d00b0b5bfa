-- The index after one more owner of an address, and after one less.
use Rattle.std.proofs.Common.{◌≡◌, ℕ, nat_lt, Bool, true, false, cond, not, ◌||◌, ◌&&◌, ◌==◌, Result, Ok, Err, OnErr, refl, sym, ap, ap₂, ◌∙◌, arith}
use Rattle.std.specs.Ordering.{is_eq, is_gt, is_le, nat_cmp, ordering_then}
use Rattle.std.specs.Cmp.{IsTotalOrder, unsigned_ties}
use Rattle.std.specs.declared.cmp.Ordering.{Ordering}
use Rattle.std.specs.declared.cmp.Ordering.TheVariants.{Less, Equal, Greater}
use Rattle.std.specs.declared.net.IpAddr.{IpAddr}
use Rattle.std.specs.declared.net.IpAddr.TheVariants.{V4, V6}
use Rattle.std.specs.declared.net.Ipv4Addr.{Ipv4Addr}
use Rattle.std.specs.declared.net.Ipv6Addr.{Ipv6Addr}
use Rattle.std.specs.declared.ops.Bound.TheVariants.{Included, Excluded}
use Rattle.std.specs.Net.Addr.{ipv4_bits, ipv6_bits}
use Rattle.std.specs.BTreeMap.Range.{range_contains}
use Rattle.std.specs.BTreeSet.{BTreeSet}
use Rattle.std.specs.BTreeSet as set
use Rattle.std.proofs.lemmas.Cmp.{tied_itself}
use Rattle.std.proofs.lemmas.Bool.{eqb-true}
use Rattle.std.proofs.lemmas.Bool.Decides.{nat_tests}
use Rattle.hickory_resolver_hosts.specs.Index.{has_owner, is_owner, owner_cmp, same_address}
use Rattle.hickory_resolver_hosts.specs.declared.owners.Owners.{Owners}

pub equal_from : (o : Ordering) → is_eq o ≡ true → o ≡ Equal
equal_from Less h = cc
equal_from Equal h = refl
equal_from Greater h = cc

-- equal addresses have the same owners
pub owner_alike : (m : Owners) (k a : IpAddr) (place : ℕ) → same_address k a ≡ true → is_owner m k place ≡ is_owner m a place
owner_alike m (V4 k) (V4 a) place h = ap (λ b. has_owner m.v4 b place) (eqb-true (ipv4_bits k) (ipv4_bits a) h)
owner_alike m (V4 k) (V6 a) place h = cc
owner_alike m (V6 k) (V4 a) place h = cc
owner_alike m (V6 k) (V6 a) place h = ap (λ b. has_owner m.v6 b place) (eqb-true (ipv6_bits k) (ipv6_bits a) h)

-- pairs are equal where both of their parts are
pub tied_bits : (k a place i : ℕ) → is_eq (owner_cmp nat_cmp (k, place) (a, i)) ≡ (k == a) && (place == i)
tied_bits k a place i = by (nat_cmp k a) ∙ ap (λ x. x && (place == i)) (sym (unsigned_ties k a))
  where
    by : (o : Ordering) → is_eq (ordering_then o (nat_cmp place i)) ≡ is_eq o && (place == i)
    by Less = refl
    by Equal = sym (unsigned_ties place i)
    by Greater = refl

cond_true : (p x : Bool) → cond p true x ≡ x || p
cond_true true true = refl
cond_true true false = refl
cond_true false true = refl
cond_true false false = refl

cond_false : (p x : Bool) → cond p false x ≡ x && not p
cond_false true true = refl
cond_false true false = refl
cond_false false true = refl
cond_false false false = refl

abbrev Pairs : Type 0
Pairs = BTreeSet (ℕ × ℕ)

has_added : (m n : Pairs) (k place : ℕ) → set.Updates (owner_cmp nat_cmp) m n (k, place) true → (a i : ℕ)
    → has_owner n a i ≡ has_owner m a i || ((k == a) && (place == i))
has_added m n k place h a i =
    h.0 (a, i) ∙ ap (λ b. cond b true (has_owner m a i)) (tied_bits k a place i)
    ∙ cond_true ((k == a) && (place == i)) (has_owner m a i)

has_removed : (m n : Pairs) (k place : ℕ) → set.Updates (owner_cmp nat_cmp) m n (k, place) false → (a i : ℕ)
    → has_owner n a i ≡ has_owner m a i && not ((k == a) && (place == i))
has_removed m n k place h a i =
    h.0 (a, i) ∙ ap (λ b. cond b false (has_owner m a i)) (tied_bits k a place i)
    ∙ cond_false ((k == a) && (place == i)) (has_owner m a i)

pub or_with_false : (x : Bool) → x ≡ x || false
or_with_false true = refl
or_with_false false = refl

pub and_with_true : (x : Bool) → x ≡ x && true
and_with_true true = refl
and_with_true false = refl

-- the index with the pairs of a family changed
abbrev with_v4 : Owners → Pairs → Owners
with_v4 m n = record m { v4 = n }

abbrev with_v6 : Owners → Pairs → Owners
with_v6 m n = record m { v6 = n }

pub added_v4 : (m : Owners) (n : Pairs) (k : Ipv4Addr) (bits place : ℕ) → bits ≡ ipv4_bits k
    → set.Updates (owner_cmp nat_cmp) m.v4 n (bits, place) true → (a : IpAddr) (i : ℕ)
    → is_owner (with_v4 m n) a i ≡ is_owner m a i || (same_address (V4 k) a && (place == i))
added_v4 m n k bits place is h (V4 a) i =
    has_added m.v4 n bits place h (ipv4_bits a) i
    ∙ ap (λ x. has_owner m.v4 (ipv4_bits a) i || ((x == ipv4_bits a) && (place == i))) is
added_v4 m n k bits place is h (V6 a) i = or_with_false (has_owner m.v6 (ipv6_bits a) i)

pub added_v6 : (m : Owners) (n : Pairs) (k : Ipv6Addr) (bits place : ℕ) → bits ≡ ipv6_bits k
    → set.Updates (owner_cmp nat_cmp) m.v6 n (bits, place) true → (a : IpAddr) (i : ℕ)
    → is_owner (with_v6 m n) a i ≡ is_owner m a i || (same_address (V6 k) a && (place == i))
added_v6 m n k bits place is h (V4 a) i = or_with_false (has_owner m.v4 (ipv4_bits a) i)
added_v6 m n k bits place is h (V6 a) i =
    has_added m.v6 n bits place h (ipv6_bits a) i
    ∙ ap (λ x. has_owner m.v6 (ipv6_bits a) i || ((x == ipv6_bits a) && (place == i))) is

pub removed_v4 : (m : Owners) (n : Pairs) (k : Ipv4Addr) (bits place : ℕ) → bits ≡ ipv4_bits k
    → set.Updates (owner_cmp nat_cmp) m.v4 n (bits, place) false → (a : IpAddr) (i : ℕ)
    → is_owner (with_v4 m n) a i ≡ is_owner m a i && not (same_address (V4 k) a && (place == i))
removed_v4 m n k bits place is h (V4 a) i =
    has_removed m.v4 n bits place h (ipv4_bits a) i
    ∙ ap (λ x. has_owner m.v4 (ipv4_bits a) i && not ((x == ipv4_bits a) && (place == i))) is
removed_v4 m n k bits place is h (V6 a) i = and_with_true (has_owner m.v6 (ipv6_bits a) i)

pub removed_v6 : (m : Owners) (n : Pairs) (k : Ipv6Addr) (bits place : ℕ) → bits ≡ ipv6_bits k
    → set.Updates (owner_cmp nat_cmp) m.v6 n (bits, place) false → (a : IpAddr) (i : ℕ)
    → is_owner (with_v6 m n) a i ≡ is_owner m a i && not (same_address (V6 k) a && (place == i))
removed_v6 m n k bits place is h (V4 a) i = and_with_true (has_owner m.v4 (ipv4_bits a) i)
removed_v6 m n k bits place is h (V6 a) i =
    has_removed m.v6 n bits place h (ipv6_bits a) i
    ∙ ap (λ x. has_owner m.v6 (ipv6_bits a) i && not ((x == ipv6_bits a) && (place == i))) is

-- the pairs of an address whose places are below a number
abbrev pub is_below : ℕ → ℕ → ℕ × ℕ → Bool
is_below bits n = range_contains (owner_cmp nat_cmp) (Included (bits, 0)) (Excluded (bits, n))

least : (i : ℕ) → is_le (nat_cmp 0 i) ≡ true
least i = grind (arith, nat_tests)

not_past : (n i : ℕ) → not (is_le (nat_cmp n i)) ≡ nat_lt i n
not_past n i = grind (arith, nat_tests)

pub is_below_by : (bits n : ℕ) (q : ℕ × ℕ) → is_below bits n q ≡ (bits == q.0) && nat_lt q.1 n
is_below_by bits n q = by (nat_cmp bits q.0) ∙ ap (λ x. x && nat_lt q.1 n) (sym (unsigned_ties bits q.0))
  where
    by : (o : Ordering) → is_le (ordering_then o (nat_cmp 0 q.1)) && not (is_le (ordering_then o (nat_cmp n q.1)))
        ≡ is_eq o && nat_lt q.1 n
    by Less = refl
    by Equal = ap₂ (λ x y. x && y) (least q.1) (not_past n q.1)
    by Greater = refl

not_above : (n : ℕ) → is_gt (nat_cmp 0 n) ≡ false
not_above n = grind (arith, nat_tests)

pub from_least : {B : Type 0} {cmp : B → B → Ordering} (total : IsTotalOrder cmp) (a : B) (n : ℕ)
    → is_gt (owner_cmp cmp (a, 0) (a, n)) ≡ false
from_least total a n = ap (λ o. is_gt (ordering_then o (nat_cmp 0 n))) (tied_itself total a) ∙ not_above n

-- a fact of one outcome holds where it holds
pub on_err : {T E P : Type 0} (r : Result T E) → P → OnErr r P
on_err (Ok x) p = tt
on_err (Err e) p = p
