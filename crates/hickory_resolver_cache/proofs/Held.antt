-- What a cache holds of its bound in octets.
use Rattle.std.proofs.Common.{◌≡◌, ℕ, ◌+◌, ◌*◌, ◌-◌, ◌≤◌, List, [], ◌∷◌, Option, None, Some, Ok, Err, refl, sym, ap, ap₂, ◌∙◌, subst, arith}
use Rattle.std.proofs.lemmas.List.Elements.{All-nil}
use Rattle.std.proofs.lemmas.List.Sums.{sum_by-cons}
use Rattle.std.specs.List.{All}
use Rattle.std.specs.Option.{ForSome, option_map}
use Rattle.hickory_proto_core.specs.Handles.{OutcomeValue}
use Rattle.hickory_proto_core.specs.Records.{RecordValue}
use Rattle.hickory_proto_core.specs.declared.query.Query.{Query}
use Rattle.hickory_proto_core.specs.declared.net_error.NetError.TheVariants.{Message, Timeout, Proto, Dns, NoOutcome, Bounds, OutOfMemory}
use Rattle.hickory_proto_core.specs.declared.net_error.DnsError.TheVariants.{ResponseCode, NoRecordsFound}
use Rattle.hickory_proto_weights.specs.Weights.{queries_weight, record_weight, records_weight, saturated, weight_of}
use Rattle.hickory_proto_weights.specs.declared.choices.TheConstants.{ENTRY}
use Rattle.hickory_proto_weights.specs.Weights.{name_weight}
use Rattle.hickory_resolver_model.specs.Bounds.{ConfigValue, clamped_record, clamped_records}
use Rattle.hickory_resolver_model.specs.Cache.{AreWithin, Entry, all_weight, entry_of, entry_weight, negative_entry, positive_entry}
use Rattle.hickory_resolver_cache.specs.Octets.{AreWeighed, most_of}
use Rattle.hickory_resolver_cache.specs.Turns.{Gone, HasItsWeight, IsNumbered, IsSameList, Order, Pair, Turn, entries_of, weight_at}
use Rattle.hickory_resolver_cache.specs.declared.octets.Octets.{Octets}
use Rattle.hickory_resolver_cache.proofs.PuttingIn.{each-left}
use Rattle.hickory_resolver_cache.proofs.Store.{entries-none}
use Rattle.hickory_resolver_cache.proofs.Weights.{weight-gone}

-- nothing is held where there are no pairs
pub weighed-none : (octets : Option ℕ) (next : ℕ) (ps : List Pair) → ps ≡ [] → AreWeighed (option_map (λ m. record { most = m; held = 0 }) octets) next ps
weighed-none None next ps e = tt
weighed-none (Some most) next ps e = record {
  each = subst (All HasItsWeight) (sym e) (All-nil HasItsWeight);
  held = sym (ap all_weight (entries-none next ps e));
  within = omega arith;
}

pub most-none : (octets : Option ℕ) → most_of (option_map (λ m. record { most = m; held = 0 }) octets) ≡ octets
most-none None = refl
most-none (Some most) = refl

pub most-lowered : (octets : Option Octets) (gone : ℕ) → most_of (option_map (λ x. record { most = x.most; held = x.held - gone }) octets) ≡ most_of octets
most-lowered None gone = refl
most-lowered (Some octets) gone = refl

-- other numbers, another order
pub weighed-same : (octets : Option Octets) (next after : ℕ) (ps rs : List Pair) (order : Order) → AreWeighed octets next ps → IsSameList ps next rs after order → AreWeighed octets after rs
weighed-same None next after ps rs order h same = tt
weighed-same (Some octets) next after ps rs order h same = record {
  each = same.weights_are h.each;
  held = h.held ∙ sym (ap all_weight same.entries_are);
  within = h.within;
}

-- what stood at a turn is gone
pub gone-held : (octets : Option Octets) (next : ℕ) (ps rs : List Pair) (o : Option Turn) → AreWeighed octets next ps → IsNumbered next ps → Gone o ps rs → ForSome octets (λ x. weight_at ps o ≤ x.held)
gone-held None next ps rs o h numbers gone x e = cc
gone-held (Some octets) next ps rs o h numbers gone x e =
    let less = weight-gone next ps rs o numbers h.each gone in
    let held = h.held in
    let same : octets.held ≡ x.held = cc in
    omega (arith, less, held, same)

pub weighed-gone : (octets : Option Octets) (next : ℕ) (ps rs : List Pair) (o : Option Turn) (gone : ℕ) → AreWeighed octets next ps → IsNumbered next ps → Gone o ps rs → gone ≡ weight_at ps o
    → AreWeighed (option_map (λ x. record { most = x.most; held = x.held - gone }) octets) next rs
weighed-gone None next ps rs o gone h numbers left is = tt
weighed-gone (Some octets) next ps rs o gone h numbers left is =
    let less = weight-gone next ps rs o numbers h.each left in
    let held = h.held in
    let within = h.within in
    record {
      each = each-left ps rs o h.each left;
      held = omega (arith, less, held, is);
      within = omega (arith, within);
    }

-- what a caller is told of it
pub held-told : (octets : Option Octets) (next : ℕ) (ps : List Pair) → AreWeighed octets next ps → option_map (λ o. o.held) octets ≡ option_map (λ _. all_weight (entries_of ps next)) (most_of octets)
held-told None next ps h = refl
held-told (Some octets) next ps h = ap Some h.held

pub within-told : (octets : Option Octets) (next : ℕ) (ps : List Pair) → AreWeighed octets next ps → AreWithin (most_of octets) (entries_of ps next)
within-told None next ps h = tt
within-told (Some octets) next ps h = let held = h.held in let within = h.within in omega (arith, held, within)

-- ---- clamped TTLs weigh what they did
clamped-weight : (config : ConfigValue) (rs : List RecordValue) → records_weight (clamped_records config rs) ≡ records_weight rs
clamped-weight config [] = refl
clamped-weight config (r ∷ rs) =
    sum_by-cons record_weight (clamped_record config r) (clamped_records config rs) ∙ ap (λ n. record_weight r + n) (clamped-weight config rs)
    ∙ sym (sum_by-cons record_weight r rs)

-- the entry that an outcome becomes weighs what the outcome does
pub entry_of-weight : (config : ConfigValue) (q : Query) (outcome : OutcomeValue) (now : ℕ) (e : Entry) → Some e ≡ entry_of config q outcome now → entry_weight e ≡ saturated (weight_of q outcome)
entry_of-weight config q (Ok m) now e h =
    let same : e ≡ positive_entry config q m now = cc in
    ap entry_weight same
    ∙ ap (λ n. saturated (ENTRY + 2 * name_weight q.name + n))
    (ap₂ ◌+◌ (ap₂ ◌+◌ (ap (λ n. queries_weight m.queries + n) (clamped-weight config m.answers)) (clamped-weight config m.authorities)) (clamped-weight config m.additionals))
entry_of-weight config q (Err (Dns (NoRecordsFound n))) now e h = let same : e ≡ negative_entry config q n now = cc in ap entry_weight same
entry_of-weight config q (Err (Dns (ResponseCode code))) now e h = cc
entry_of-weight config q (Err (Message text)) now e h = cc
entry_of-weight config q (Err Timeout) now e h = cc
entry_of-weight config q (Err (Proto error)) now e h = cc
entry_of-weight config q (Err NoOutcome) now e h = cc
entry_of-weight config q (Err (Bounds error)) now e h = cc
entry_of-weight config q (Err OutOfMemory) now e h = cc
