-- How many labels the names of a message take when it is read, from left to right up to its first fault. Names whose
-- labels stand at one place share them, so that these are taken once.
use Rattle.std.specs.Prelude.{ℕ, zero, suc, ◌+◌, ◌*◌, List, [], take, Option, None, Some, Result, Ok, Err, nat_lt, ◌==◌, ◌||◌, if◌then◌else◌}
use Rattle.std.specs.List.{list_any}
use Rattle.std.specs.Ordering.{nat_cmp}
use Rattle.std.specs.BTreeMap.{is_at}
use Rattle.std.specs.BTreeSet.{insert_key}
use Rattle.hickory_proto_wire.specs.declared.header.Header.{Header}
use Rattle.hickory_proto_wire.specs.declared.label_count.Section.{Section}
use Rattle.hickory_proto_wire.specs.declared.label_count.Section.TheVariants.{Questions, Records, Additionals}
use Rattle.hickory_proto_wire.specs.declared.wire_error.WireFault.{WireFault}
use Rattle.hickory_proto_wire.specs.declared.wire_record.OptRecord.{OptRecord}
use Rattle.hickory_proto_wire.specs.declared.wire_record.RecordHead.{RecordHead}
use Rattle.hickory_proto_wire.specs.Octets.{◌>>=◌}
use Rattle.hickory_proto_wire.specs.LabelsPlace.{labels_place, measure}
use Rattle.hickory_proto_wire.specs.Taken.{Taken}
use Rattle.hickory_proto_wire.specs.Records.{query_at, head_at, record_at, found_with}

-- more are not read of one message
abbrev pub most_labels : ℕ
most_labels = 16384

abbrev pub nothing_taken : Taken
nothing_taken = record { places = []; labels = 0 }

-- ---- one name

-- as many as were read, and none of a name with a fault
abbrev pub label_count : Result (ℕ × ℕ) WireFault → ℕ
label_count (Ok measured) = measured.0
label_count (Err fault) = 0

-- A name takes its labels, unless those at their place were taken before.
unfoldable pub with_name : List ℕ → ℕ → Taken → Taken
with_name bytes at taken =
    if list_any (is_at (nat_cmp (labels_place bytes at))) taken.places then taken else record {
      places = insert_key nat_cmp taken.places (labels_place bytes at);
      labels = taken.labels + label_count (measure bytes at);
    }

-- ---- the names of an entry

-- the name behind one that was read
abbrev pub with_next : List ℕ → Result (ℕ × ℕ) WireFault → Taken → Taken
with_next bytes (Ok measured) taken = with_name bytes measured.1 taken
with_next bytes (Err fault) taken = taken

-- the names in data of a type: NS, CNAME, PTR; MX; SRV; SOA. The bytes end with the data
unfoldable pub with_data : ℕ → List ℕ → ℕ → Taken → Taken
with_data code bytes at taken =
    if code == 2 || code == 5 || code == 12 then with_name bytes at taken else (
    if code == 15 then with_name bytes (at + 2) taken else (
    if code == 33 then with_name bytes (at + 6) taken else (
    if code == 6 then with_next bytes (measure bytes at) (with_name bytes at taken) else taken)))

abbrev pub with_data_of : List ℕ → Result RecordHead WireFault → Taken → Taken
with_data_of bytes (Ok head) taken = with_data head.code (take head.end bytes) head.start taken
with_data_of bytes (Err fault) taken = taken

-- a question has one name, and a record has its owner and the names in its data
abbrev pub with_entry : Section → List ℕ → ℕ → Taken → Taken
with_entry Questions bytes at taken = with_name bytes at taken
with_entry Records bytes at taken = with_data_of bytes (head_at bytes at) (with_name bytes at taken)
with_entry Additionals bytes at taken = with_data_of bytes (head_at bytes at) (with_name bytes at taken)

-- ---- a section

-- The position behind an entry, and OPT where it was found, which a second one is a fault behind. Whether a record can
-- be read depends on nothing else that was found.
unfoldable pub entry_behind : Section → List ℕ → ℕ → Option OptRecord → Result (ℕ × Option OptRecord) WireFault
entry_behind Questions bytes at opt = query_at bytes at >>= λ read. Ok (read.1, opt)
entry_behind Records bytes at opt = record_at bytes at >>= λ read. Ok (read.1, opt)
entry_behind Additionals bytes at opt = do
  head ← head_at bytes at
  found ← found_with bytes head (record { records = []; opt = opt })
  Ok (head.end, found.opt)

-- on behind an entry that was read, unless too many labels were taken
abbrev pub on_from : Taken → Result (ℕ × Option OptRecord) WireFault
    → (ℕ → Option OptRecord → Taken → Taken × Option ℕ) → Taken × Option ℕ
on_from taken (Ok read) on = if nat_lt most_labels taken.labels then (taken, None) else on read.0 read.1 taken
on_from taken (Err fault) on = (taken, None)

-- of so many entries what is taken, and the position behind them, unless it ends before: with a fault or the bound
unfoldable pub section_from : Section → List ℕ → ℕ → ℕ → Option OptRecord → Taken → Taken × Option ℕ
section_from section bytes zero at opt taken = (taken, Some at)
section_from section bytes (suc count) at opt taken =
    on_from (with_entry section bytes at taken) (entry_behind section bytes at opt) (section_from section bytes count)

-- ---- a message

-- on behind a section that was read to its end
abbrev pub on_if : Option ℕ → Taken → (ℕ → Taken → Taken × Option ℕ) → Taken × Option ℕ
on_if None taken on = (taken, None)
on_if (Some at) taken on = on at taken

unfoldable pub labels_taken : List ℕ → Header → ℕ
labels_taken bytes header =
    let queries = section_from Questions bytes header.queries 12 None nothing_taken in
    let answers = on_if queries.1 queries.0 (λ at. section_from Records bytes header.answers at None) in
    let authorities = on_if answers.1 answers.0 (λ at. section_from Records bytes header.authorities at None) in
    let last = on_if authorities.1 authorities.0 (λ at. section_from Additionals bytes header.additionals at None) in
    last.0.labels

-- how many names there can be: one of a question, and three of a record
abbrev pub most_names : Header → ℕ
most_names header = header.queries + 3 * (header.answers + header.authorities + header.additionals)
