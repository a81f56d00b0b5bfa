-- How much is left in a table and in what came.
use Rattle.std.proofs.Common.{◌≡◌, ◌≤◌, ◌<◌, ◌+◌, ◌*◌, suc, zero, ℕ, Bool, true, false, cond, ltb, List, [], ◌∷◌, ◌++◌, length, take, drop, refl, ap, sym, ◌∙◌, true≢false, arith}
use Rattle.std.specs.Prelude.{Option, None, Some, slice_get}
use Rattle.std.specs.declared.cmp.Ordering.{Ordering}
use Rattle.std.specs.declared.cmp.Ordering.TheVariants.{Less, Equal, Greater}
use Rattle.std.specs.Ordering.{nat_cmp, is_eq, match_ordering}
use Rattle.std.specs.Map.{lookup, remove_entry, set_value}
use Rattle.std.specs.Set.{remove_key}
use Rattle.std.specs.BTreeMap.{insert_entry, is_at}
use Rattle.std.specs.Option.{is_some, option_map_or, option_and_then}
use Rattle.hickory_resolver_tries.specs.Stream.{first_of}
use Rattle.hickory_resolver_traffic.specs.Inbox.{InboxState, octets_in, first_unread, cut_off, cut_on, without_unread}
use Rattle.hickory_resolver_traffic.specs.Table.{EntryState}
use Rattle.hickory_resolver_pool_theorems.proofs.Keys.{nat-self}

-- ---- lists

pub one-less : {A : Type 0} (xs : List A) → is_some (slice_get xs 0) ≡ true → length (drop 1 xs) + 1 ≡ length xs
one-less [] some = absurd (true≢false (sym some))
one-less (x ∷ xs) some = omega arith

pub first-some : {A : Type 0} (o : Option A) (a : A) → o ≡ Some a → is_some o ≡ true
first-some o a is = ap (λ x. is_some x) is

pub length-removed : {K X : Type 0} (test : K → Bool) (es : List (K × X)) (x : X) → lookup test es ≡ Some x
    → length (remove_entry test es) + 1 ≡ length es
length-removed test [] x is = absurd cc
length-removed {K} {X} test (e ∷ es) x is = by (test e.0) is (length-removed test es x)
  where
    by : (b : Bool) → cond b (Some e.1) (lookup test es) ≡ Some x
        → (lookup test es ≡ Some x → length (remove_entry test es) + 1 ≡ length es)
        → length (cond b es (e ∷ remove_entry test es)) + 1 ≡ length (e ∷ es)
    by true h more = omega arith
    by false h more = let rest = more h in omega (arith, rest)

pub length-without : {K : Type 0} (test : K → Bool) (ks : List K) → length (remove_key test ks) ≤ length ks
length-without test [] = omega arith
length-without {K} test (k ∷ ks) = by (test k) (length-without test ks)
  where
    by : (b : Bool) → length (remove_key test ks) ≤ length ks → length (cond b ks (k ∷ remove_key test ks)) ≤ length (k ∷ ks)
    by true more = omega arith
    by false more = omega (arith, more)

pub length-first : (n : ℕ) (ks : List ℕ) → slice_get ks 0 ≡ Some n → length (remove_key (is_at (nat_cmp n)) ks) + 1 ≡ length ks
length-first n [] is = absurd cc
length-first n (k ∷ ks) is =
    let same : k ≡ n = cc in
    by (is_at (nat_cmp n) k) (ap (λ (m : ℕ). is_at (nat_cmp n) m) same ∙ ap is_eq (nat-self n))
  where
    by : (b : Bool) → b ≡ true → length (cond b ks (k ∷ remove_key (is_at (nat_cmp n)) ks)) + 1 ≡ length (k ∷ ks)
    by true h = omega arith
    by false h = absurd (true≢false (sym h))

-- ---- a table

module _ (f : EntryState → ℕ) where
  abbrev pub weigh : List (ℕ × EntryState) → ℕ
  weigh [] = 0
  weigh (x ∷ xs) = f x.1 + weigh xs

  pub weigh-inserted : (n : ℕ) (e : EntryState) (es : List (ℕ × EntryState))
      → weigh (insert_entry nat_cmp es n e) ≤ weigh es + f e
  weigh-inserted n e [] = omega arith
  weigh-inserted n e (x ∷ xs) = by (nat_cmp n x.0) (weigh-inserted n e xs)
    where
      by : (o : Ordering) → weigh (insert_entry nat_cmp xs n e) ≤ weigh xs + f e
          → weigh (match_ordering o ((n, e) ∷ x ∷ xs) ((x.0, e) ∷ xs) (x ∷ insert_entry nat_cmp xs n e))
          ≤ f x.1 + weigh xs + f e
      by Less more = omega arith
      by Equal more = omega arith
      by Greater more = omega (arith, more)

  pub weigh-removed : (test : ℕ → Bool) (es : List (ℕ × EntryState)) → weigh (remove_entry test es) ≤ weigh es
  weigh-removed test [] = omega arith
  weigh-removed test (x ∷ xs) = by (test x.0) (weigh-removed test xs)
    where
      by : (b : Bool) → weigh (remove_entry test xs) ≤ weigh xs
          → weigh (cond b xs (x ∷ remove_entry test xs)) ≤ f x.1 + weigh xs
      by true more = omega arith
      by false more = omega (arith, more)

  pub weigh-taken : (test : ℕ → Bool) (e : EntryState) (es : List (ℕ × EntryState)) → lookup test es ≡ Some e
      → weigh (remove_entry test es) + f e ≤ weigh es
  weigh-taken test e [] h = absurd cc
  weigh-taken test e (x ∷ xs) h = by (test x.0) (weigh-taken test e xs) h
    where
      by : (b : Bool) → (lookup test xs ≡ Some e → weigh (remove_entry test xs) + f e ≤ weigh xs)
          → cond b (Some x.1) (lookup test xs) ≡ Some e
          → weigh (cond b xs (x ∷ remove_entry test xs)) + f e ≤ f x.1 + weigh xs
      by true more g =
          let same : x.1 ≡ e = cc in
          let own : f x.1 ≡ f e = ap f same in
          omega (arith, own)
      by false more g = let rest = more g in omega (arith, rest)

-- ---- what came

abbrev pub octets_of : List (ℕ × List ℕ) → ℕ
octets_of [] = 0
octets_of (x ∷ xs) = length x.1 + octets_of xs

-- octets of streams, messages, and streams that are still to be read
abbrev pub came_of : InboxState → ℕ
came_of i = octets_of i.streams + length i.messages + length i.unread

pub octets-removed : (test : ℕ → Bool) (ss : List (ℕ × List ℕ)) → octets_of (remove_entry test ss) ≤ octets_of ss
octets-removed test [] = omega arith
octets-removed test (x ∷ xs) = by (test x.0) (octets-removed test xs)
  where
    by : (b : Bool) → octets_of (remove_entry test xs) ≤ octets_of xs
        → octets_of (cond b xs (x ∷ remove_entry test xs)) ≤ length x.1 + octets_of xs
    by true more = omega arith
    by false more = omega (arith, more)

octets-set : (test : ℕ → Bool) (old new : List ℕ) (ss : List (ℕ × List ℕ)) → lookup test ss ≡ Some old
    → octets_of (set_value test ss new) + length old ≡ octets_of ss + length new
octets-set test old new [] is = absurd cc
octets-set test old new (x ∷ xs) is = by (test x.0) is (octets-set test old new xs)
  where
    by : (b : Bool) → cond b (Some x.1) (lookup test xs) ≡ Some old
        → (lookup test xs ≡ Some old → octets_of (set_value test xs new) + length old ≡ octets_of xs + length new)
        → octets_of (cond b ((x.0, new) ∷ xs) (x ∷ set_value test xs new)) + length old
        ≡ length x.1 + octets_of xs + length new
    by true h more =
        let same : x.1 ≡ old = cc in
        let own : length x.1 ≡ length old = ap (λ (ys : List ℕ). length ys) same in
        omega (arith, own)
    by false h more = let rest = more h in omega (arith, rest)

dropped-le : (k : ℕ) (xs : List ℕ) → length (drop k xs) ≤ length xs
dropped-le zero xs = omega arith
dropped-le (suc k) [] = omega arith
dropped-le (suc k) (x ∷ xs) = let rest = dropped-le k xs in omega (arith, rest)

-- a message takes two octets at least
first-shorter : (octets : List ℕ) (first : List ℕ × List ℕ) → first_of octets ≡ Some first → length first.1 + 2 ≤ length octets
first-shorter [] first is = absurd cc
first-shorter (high ∷ []) first is = absurd cc
first-shorter (high ∷ low ∷ octets) first is = by (ltb (length octets) (high * 256 + low)) is
  where
    by : (b : Bool)
        → cond {A = Option (List ℕ × List ℕ)} b None (Some (take (high * 256 + low) octets, drop (high * 256 + low) octets)) ≡ Some first
        → length first.1 + 2 ≤ length (high ∷ low ∷ octets)
    by true h = absurd cc
    by false h =
        let rest : drop (high * 256 + low) octets ≡ first.1 = cc in
        let same : length (drop (high * 256 + low) octets) ≡ length first.1 = ap (λ (ys : List ℕ). length ys) rest in
        let less = dropped-le (high * 256 + low) octets in
        omega (arith, same, less)

length-more : {A : Type 0} (xs : List A) (x : A) → length (xs ++ x ∷ []) ≡ length xs + 1
length-more [] x = omega arith
length-more (y ∷ ys) x = let more = length-more ys x in omega (arith, more)

pub came-cut : (channel : ℕ) (i : InboxState) → first_unread i ≡ Some channel → came_of (cut_on channel i) < came_of i
came-cut channel i is = by (octets_in channel i.streams) refl
  where
    cut : (octets : List ℕ) → octets_in channel i.streams ≡ Some octets → (first : Option (List ℕ × List ℕ))
        → first_of octets ≡ first → came_of (option_map_or (cut_off channel i) first (without_unread i)) < came_of i
    cut octets there None none = let less = one-less i.unread (first-some (first_unread i) channel is) in omega (arith, less)
    cut octets there (Some first) some =
        let shorter = first-shorter octets first some in
        let set = octets-set (is_at (nat_cmp channel)) octets first.1 i.streams there in
        let one = length-more i.messages (record { channel = channel; octets = first.0 }) in
        omega (arith, shorter, set, one)

    by : (o : Option (List ℕ)) → octets_in channel i.streams ≡ o
        → came_of (option_map_or (cut_off channel i) (option_and_then first_of o) (without_unread i)) < came_of i
    by None there = let less = one-less i.unread (first-some (first_unread i) channel is) in omega (arith, less)
    by (Some octets) there = cut octets there (first_of octets) refl
