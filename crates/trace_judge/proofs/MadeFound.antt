-- What may be made of receptions is found by the index as by all receptions.
use Rattle.std.proofs.Common.{◌≡◌, ◌+◌, ◌-◌, ℕ, zero, suc, Bool, true, ◌&&◌, ◌||◌, max, nat_le, List, refl, ap, sym, ◌∙◌, arith}
use Rattle.std.specs.List.{list_any}
use Rattle.std.proofs.lemmas.Bool.{and_from, and_parts}
use Rattle.std.proofs.lemmas.Bool.Decides.{nat_tests}
use Rattle.hickory_proto_core.specs.Records.{RecordValue}
use Rattle.trace_judge.specs.Index.{Respects, any_late, seen_at, is_reaching, reaches}
use Rattle.trace_judge.specs.Making.{any_lasts}
use Rattle.trace_judge.specs.Below.{some_below}
use Rattle.trace_judge.specs.Receptions.{deadline, grace, is_same_record}
use Rattle.trace_judge.specs.RecordKeys.{KeyValue, key_eq, record_key}
use Rattle.trace_judge.specs.declared.receptions.Reception.{Reception}
use Rattle.trace_judge.proofs.Keys.{same_equiv, seen_same}
use Rattle.trace_judge.proofs.Leads.{SeenAlike}
use Rattle.trace_judge.proofs.Tests.{found_in, same_tests}

-- what passes the test has this key
abbrev pub Asks : (RecordValue → Bool) → KeyValue → Type 0
Asks makes q = (a : RecordValue) → makes a ≡ true → key_eq (record_key a) q ≡ true

pub late_by : (slack at d : ℕ) → nat_le at (d + grace slack) ≡ nat_le (at - grace slack) d
late_by slack at d = grind (arith, nat_tests)

reached : (r : Reception) (until : ℕ) → nat_le until (deadline r) ≡ true → is_reaching r.found until 0 r ≡ true
reached r until k =
    and_from (is_same_record r.found r.found) (nat_le until (deadline r) && nat_le 0 r.found.ttl)
    (same_equiv.refl r.found) (and_from (nat_le until (deadline r)) (nat_le 0 r.found.ttl) k (grind (arith, nat_tests)))

-- a reception of the same record that runs out at that moment or later
other_one : (told : RecordValue) (until : ℕ) (rs : List Reception) → reaches told until 0 rs ≡ true
    → (s : Reception) × (is_same_record told s.found ≡ true) × (nat_le until (deadline s) ≡ true)
    × ((p : Reception → Bool) → p s ≡ true → list_any p rs ≡ true)
other_one told until rs h =
    let s = found_in (is_reaching told until 0) rs h in
    let hit = and_parts (is_same_record s.0.found told) (nat_le until (deadline s.0) && nat_le 0 s.0.found.ttl) s.1 in
    let far = and_parts (nat_le until (deadline s.0)) (nat_le 0 s.0.found.ttl) hit.1 in
    (s.0, same_equiv.symm told s.0.found ∙ hit.0, far.0, s.2)

pub made_there : (makes : RecordValue → Bool) (slack until before : ℕ) (rs : List Reception) (seen : List (KeyValue × List Reception))
    → SeenAlike before rs seen → Respects makes → any_lasts slack until makes rs ≡ true
    → (a : RecordValue) × (makes a ≡ true) × (any_late (max (until - grace slack) before) makes (seen_at seen (record_key a)) ≡ true)
made_there makes slack until before rs seen same respects h =
    let from = until - grace slack in
    let r = found_in (λ r. makes r.found && nat_le until (deadline r + grace slack)) rs h in
    let p = and_parts (makes r.0.found) (nat_le until (deadline r.0 + grace slack)) r.1 in
    let hit : reaches r.0.found from 0 rs ≡ true
    = r.2 (is_reaching r.0.found from 0) (reached r.0 from (sym (late_by slack until (deadline r.0)) ∙ p.1)) in
    let s = other_one r.0.found (max from before) (seen_at seen (record_key r.0.found)) (sym (same r.0.found from 0) ∙ hit) in (
      r.0.found,
      p.0,
      s.3 (λ x. makes x.found && nat_le (max from before) (deadline x))
          (and_from (makes s.0.found) (nat_le (max from before) (deadline s.0)) (respects r.0.found s.0.found s.1 p.0) s.2),
    )

pub made_back : (makes : RecordValue → Bool) (q : KeyValue) (slack until before : ℕ) (rs : List Reception) (seen : List (KeyValue × List Reception))
    → SeenAlike before rs seen → Respects makes → Asks makes q
    → any_late (max (until - grace slack) before) makes (seen_at seen q) ≡ true → any_lasts slack until makes rs ≡ true
made_back makes q slack until before rs seen same respects asks h =
    let from = until - grace slack in let m = max from before in
    let r = found_in (λ r. makes r.found && nat_le m (deadline r)) (seen_at seen q) h in
    let p = and_parts (makes r.0.found) (nat_le m (deadline r.0)) r.1 in
    let hit : reaches r.0.found m 0 (seen_at seen (record_key r.0.found)) ≡ true
    = ap (reaches r.0.found m 0) (seen_same (record_key r.0.found) q (asks r.0.found p.0) seen)
    ∙ r.2 (is_reaching r.0.found m 0) (reached r.0 m p.1) in
    let s = other_one r.0.found from rs (same r.0.found from 0 ∙ hit) in
    s.3 (λ x. makes x.found && nat_le until (deadline x + grace slack))
    (and_from (makes s.0.found) (nat_le until (deadline s.0 + grace slack)) (respects r.0.found s.0.found s.1 p.0)
    (late_by slack until (deadline s.0) ∙ s.2))

-- where all that pass have one key, they are found there
pub made-alike : (makes : RecordValue → Bool) (q : KeyValue) (slack until before : ℕ) (rs : List Reception) (seen : List (KeyValue × List Reception))
    → SeenAlike before rs seen → Respects makes → Asks makes q
    → any_late (max (until - grace slack) before) makes (seen_at seen q) ≡ any_lasts slack until makes rs
made-alike makes q slack until before rs seen same respects asks =
    let from = max (until - grace slack) before in
    same_tests (any_late from makes (seen_at seen q)) (any_lasts slack until makes rs)
    (made_back makes q slack until before rs seen same respects asks)
    (λ h. let a = made_there makes slack until before rs seen same respects h in
    ap (any_late from makes) (sym (seen_same (record_key a.0) q (asks a.0 a.1) seen)) ∙ a.2)

pub some-same : (n : ℕ) (p q : ℕ → Bool) → ((k : ℕ) → p k ≡ q k) → some_below n p ≡ some_below n q
some-same zero p q e = refl
some-same (suc n) p q e = ap (λ b. b || some_below n p) (e n) ∙ ap (λ b. q n || b) (some-same n p q e)
