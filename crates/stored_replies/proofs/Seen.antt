-- What is read again of the octets that are stored, and that these are those of what is read.
use Rattle.std.proofs.Common.{◌≡◌, ℕ, ◌+◌, ◌-◌, ◌≤◌, List, [], ◌++◌, length, take, refl, sym, ap, ap₂, ◌∙◌, arith}
use Rattle.std.specs.Prelude.{Result, Ok, Err}
use Rattle.std.proofs.lemmas.List.{take_all}
use Rattle.hickory_proto_codes.specs.Codes.{response_code}
use Rattle.hickory_proto_core.specs.Records.{RecordValue}
use Rattle.hickory_proto_core.specs.declared.query.Query.{Query}
use Rattle.hickory_proto_wire.specs.Messages.{spelled_message}
use Rattle.hickory_proto_wire.specs.Writing.{named_query, record_count, cut}
use Rattle.hickory_proto_wire.specs.Written.{query_octets}
use Rattle.hickory_proto_wire.specs.declared.wire_error.WireFault.{WireFault}
use Rattle.hickory_proto_wire.specs.declared.wire_message.WireMessage.{WireMessage}
use Rattle.whole_replies.specs.Kept.{KeptValue}
use Rattle.stored_replies.specs.Stored.{StoredValue, response_to, whole_octets, named_kept, stored_at, stored_in}
use Rattle.stored_replies.specs.Walk.{ttl_places, IsStored}
use Rattle.stored_replies.specs.declared.choices.TheConstants.{LONGEST}
use Rattle.stored_replies.proofs.Named.{query_named, response-code}
use Rattle.stored_replies.proofs.Whole.{stored_parts, asked_body, kept_records, rest_named, places_of_named}
use Rattle.stored_replies.proofs.Header.{header_named}

pub whole_named : (q : Query) (k : KeptValue)
    → whole_octets (response_to (named_query q) (named_kept k)) ≡ whole_octets (response_to q k)
whole_named q k =
    stored_parts (named_query q) (named_kept k)
    ∙ ap₂ (λ (h : List ℕ) (o : List ℕ). h ++ o) (header_named q k)
    (ap₂ (λ (x : List ℕ) (y : List ℕ). x ++ y) (query_named [] q) (rest_named q k))
    ∙ sym (stored_parts q k)

pub seen_as : (q : Query) (k : KeptValue) (octets : List ℕ) (now : ℕ)
    → spelled_message octets ≡ Ok (cut (response_to q k) (record_count (response_to q k)))
    → stored_in (spelled_message octets) k.seconds now ≡ stored_at q k now
seen_as q k octets now read =
    let n = record_count (response_to q k) in
    let answers : take n k.answers ≡ k.answers = take_all n k.answers (omega arith) in
    let authorities : take (n - length k.answers) k.authorities ≡ k.authorities =
    take_all (n - length k.answers) k.authorities (omega arith) in
    let told : List RecordValue → List RecordValue → StoredValue =
    λ a b. stored_at q (record k { answers = a; authorities = b }) now in
    ap (λ (m : Result WireMessage WireFault). stored_in m k.seconds now) read
    ∙ ap₂ told answers authorities

pub is_stored : (q : Query) (k : KeptValue) (octets places : List ℕ) (end now : ℕ) → octets ≡ whole_octets (response_to q k)
    → places ≡ ttl_places (asked_body q) (kept_records k) → end ≡ 12 + length (query_octets [] q)
    → length octets ≤ LONGEST → response_code k.code ≤ 15
    → IsStored octets places end (response_code k.code) k.authentic_data (stored_at q k now)
is_stored q k octets places end now written noted question short small =
    record {
      written = written ∙ sym (whole_named q k);
      noted = noted ∙ sym (places_of_named q k now);
      question = question ∙ ap (λ (o : List ℕ). 12 + length o) (sym (query_named [] q));
      short = short;
      coded = sym (response-code (response_code k.code));
      small = small;
      held = refl;
    }

pub seconds_in : (m : Result WireMessage WireFault) (seconds moment : ℕ) → (stored_in m seconds moment).kept.seconds ≡ seconds
seconds_in (Ok m) seconds moment = refl
seconds_in (Err fault) seconds moment = refl

pub moment_in : (m : Result WireMessage WireFault) (seconds moment : ℕ) → (stored_in m seconds moment).moment ≡ moment
moment_in (Ok m) seconds moment = refl
moment_in (Err fault) seconds moment = refl

pub kept_in : (m : Result WireMessage WireFault) (seconds moment : ℕ)
    → (stored_in m seconds 0).kept ≡ (stored_in m seconds moment).kept
kept_in (Ok m) seconds moment = refl
kept_in (Err fault) seconds moment = refl
