-- A reply that is read again.
use Rattle.std.proofs.Common.{◌≡◌, ◌∙◌, ℕ, ◌-◌, Bool, true, false, List, refl, ap, ap₂, sym}
use Rattle.std.specs.Option.{option_map}
use Rattle.std.specs.Prelude.{None, Ok, Option, Some, is_ok, if◌then◌else◌}
use Rattle.hickory_proto_wire.proofs.FewLabels.{read_spelled}
use Rattle.hickory_proto_wire.specs.Messages.{message_of, spelled_message}
use Rattle.hickory_proto_wire.specs.declared.wire_message.WireMessage.{WireMessage}
use Rattle.whole_replies.specs.Kept.{KeptValue, aged}
use Rattle.stored_replies.specs.Stored.{StoredValue, elapsed, read_at, said_by, stored_in, stored_octets}
use Rattle.stored_replies.proofs.Seen.{kept_in, moment_in}

-- what is read of octets, where they are read
abbrev pub kept_read : List ℕ → ℕ → Option KeptValue
kept_read octets seconds =
    if is_ok (message_of octets) then Some (stored_in (spelled_message octets) seconds 0).kept else None

pub read_as : (octets : List ℕ) (seconds : ℕ) (m : WireMessage) → message_of octets ≡ Ok m
    → Some (said_by m seconds 0).kept ≡ kept_read octets seconds
read_as octets seconds m is = rw (is, read_spelled octets m is) refl

pub unread : (octets : List ℕ) (seconds : ℕ) → is_ok (message_of octets) ≡ false
    → None ≡ kept_read octets seconds
unread octets seconds not = rw not refl

-- what was read, as it ages
aged-so : (elapsed' age : ℕ) (kept read : KeptValue) (b : Bool) → age ≡ elapsed' → read ≡ kept
    → option_map (aged age) (if b then Some read else None) ≡ (if b then Some (aged elapsed' kept) else None)
aged-so elapsed' age kept read true same is = ap Some (ap₂ (λ (n : ℕ) (k : KeptValue). aged n k) same is)
aged-so elapsed' age kept read false same is = refl

pub reread : (octets : List ℕ) (seconds moment now : ℕ) (s : StoredValue)
    → stored_in (spelled_message octets) seconds moment ≡ s
    → octets ≡ stored_octets (stored_in (spelled_message octets) seconds moment) → (k : Option KeptValue)
    → k ≡ kept_read octets seconds → option_map (aged (now - moment)) k ≡ read_at now s
reread octets seconds moment now s seen written k is =
    let m = spelled_message octets in
    let at : moment ≡ s.moment = sym (moment_in m seconds moment) ∙ ap (λ (x : StoredValue). x.moment) seen in
    let passed : now - moment ≡ elapsed s now = ap (λ (n : ℕ). now - n) at in
    let kept : (stored_in m seconds 0).kept ≡ s.kept =
    kept_in m seconds moment ∙ ap (λ (x : StoredValue). x.kept) seen in
    ap (option_map (aged (now - moment))) is
    ∙ aged-so (elapsed s now) (now - moment) s.kept (stored_in m seconds 0).kept (is_ok (message_of octets)) passed kept
    ∙ ap (λ (o : List ℕ). if is_ok (message_of o) then Some (aged (elapsed s now) s.kept) else None)
    (written ∙ ap stored_octets seen)
