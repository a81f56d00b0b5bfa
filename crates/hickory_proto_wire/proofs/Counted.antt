-- Labels that are counted, entry by entry.
use Rattle.std.proofs.Common.{◌≡◌, ℕ, suc, ◌-◌, ◌+◌, ◌≤◌, ◌<◌, List, None, Some, Option, Ok, Err, refl, sym, ap, subst, ◌∙◌, arith}
use Rattle.std.proofs.lemmas.Bool.{lt-ltb, le-ltb}
use Rattle.hickory_proto_wire.specs.declared.label_count.Section.{Section}
use Rattle.hickory_proto_wire.specs.declared.wire_error.WireFault.{WireFault}
use Rattle.hickory_proto_wire.specs.declared.wire_record.OptRecord.{OptRecord}
use Rattle.hickory_proto_wire.specs.Taken.{Taken}
use Rattle.hickory_proto_wire.specs.LabelsTaken.{most_labels, with_entry, entry_behind, section_from}

module _ (s : Section) (bytes : List ℕ) (count i at : ℕ) (opt : Option OptRecord) (t u : Taken) (total : Taken × Option ℕ) where
  pub section_goes_on : (end : ℕ) (found : Option OptRecord) → i < count → u ≡ with_entry s bytes at t
      → entry_behind s bytes at opt ≡ Ok (end, found) → u.labels ≤ most_labels → section_from s bytes (count - i) at opt t ≡ total
      → section_from s bytes (count - (i + 1)) end found u ≡ total
  unfolding section_from
  section_goes_on end found lt is read few so_far =
      let k : count - i ≡ suc (count - (i + 1)) = omega arith in
      let within : (with_entry s bytes at t).labels ≤ most_labels = subst (λ (v : Taken). v.labels ≤ most_labels) is few in
      let one : section_from s bytes (count - i) at opt t ≡ section_from s bytes (count - (i + 1)) end found (with_entry s bytes at t) =
      rw (k, read, le-ltb most_labels (with_entry s bytes at t).labels within) refl in
      ap (λ (v : Taken). section_from s bytes (count - (i + 1)) end found v) is ∙ sym one ∙ so_far

  pub section_passes : (end : ℕ) (found : Option OptRecord) → i < count → u ≡ with_entry s bytes at t
      → entry_behind s bytes at opt ≡ Ok (end, found) → most_labels < u.labels → section_from s bytes (count - i) at opt t ≡ total
      → total ≡ (u, None)
  unfolding section_from
  section_passes end found lt is read many so_far =
      let k : count - i ≡ suc (count - (i + 1)) = omega arith in
      let past : most_labels < (with_entry s bytes at t).labels = subst (λ (v : Taken). most_labels < v.labels) is many in
      let one : section_from s bytes (count - i) at opt t ≡ (with_entry s bytes at t, None) =
      rw (k, read, lt-ltb most_labels (with_entry s bytes at t).labels past) refl in
      sym so_far ∙ one ∙ ap (λ (v : Taken). (v, None)) (sym is)

  pub section_stops : (f : WireFault) → i < count → u ≡ with_entry s bytes at t → entry_behind s bytes at opt ≡ Err f
      → section_from s bytes (count - i) at opt t ≡ total → total ≡ (u, None)
  unfolding section_from
  section_stops f lt is read so_far =
      let k : count - i ≡ suc (count - (i + 1)) = omega arith in
      let one : section_from s bytes (count - i) at opt t ≡ (with_entry s bytes at t, None) = rw (k, read) refl in
      sym so_far ∙ one ∙ ap (λ (v : Taken). (v, None)) (sym is)

  pub section_done : count ≤ i → section_from s bytes (count - i) at opt t ≡ total → total ≡ (t, Some at)
  unfolding section_from
  section_done le so_far =
      let k : count - i ≡ 0 = omega arith in
      let one : section_from s bytes (count - i) at opt t ≡ (t, Some at) = rw k refl in
      sym so_far ∙ one
