use Rattle.std.proofs.Common.{◌≡◌, ◌++◌, take, drop}
use Rattle.stored_replies.specs.Walk.{behind_records, places_in, HaveNames, HaveFields}
use Rattle.stored_replies.proofs.places.note_places.Given as goal

abbrev pub invariant-loop-i : goal.invariant-loop-i
invariant-loop-i l =
    (l.places.items ++ places_in l.total (drop l.i l.records) l.rest
    ≡ l.fn.places.items ++ places_in l.total l.records l.fn.octets)
    × (behind_records (drop l.i l.records) l.rest ≡ behind_records l.records l.fn.octets)
    × HaveNames (take l.i l.records)
    × HaveFields (drop l.i l.records) l.rest
